use Rattle.std.proofs.Common.{◌≡◌, ◌∙◌, ◌+◌, ◌*◌, ◌-◌, ap, arith, length}
use Rattle.std.specs.List.{between}
use Rattle.cow_space.proofs.PieceLemmas.{PutsBytes-all, PutsBytes-copied}
use Rattle.cow_space.proofs.row_writes.put_piece.Goals as goal

pub returns-then-piece-first : goal.returns-then-piece-first
returns-then-piece-first c =
    let low = c.if-start-first.true in
    let high = c.if-piece-first.true in
    let all : length c.args.piece.now ≡ 0 + length c.args.piece.now = omega arith in
    PutsBytes-all c.args.page.now _ (record { at = c.args.at; bytes = c.args.piece.now }) c.args.page_number (c.args.at - c.args.page_number * 4096) 0 (length c.args.piece.now) (omega (arith, c.told-page))
    (PutsBytes-copied c.args.page.now c.args.piece.now c.copy_from_slice.new.self (c.args.at - c.args.page_number * 4096) 0 (length c.args.piece.now)
    (omega (arith, c.told-page, c.if-first-start-le-PAGE_BYTES.true, high)) (omega arith) (c.copy_from_slice.ensures.after ∙ ap (λ n. between 0 n c.args.piece.now) all))
    (λ j lt from to. (omega (arith, low, from, to), omega (arith, low, from, to), omega (arith, low, from, to)))
    (λ j from to. (omega (arith, low, from, to), omega (arith, low, from, to)))
