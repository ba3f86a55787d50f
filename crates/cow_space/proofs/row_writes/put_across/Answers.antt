use Rattle.std.proofs.Common.{arith}
use Rattle.cow_space.proofs.PieceLemmas.{PutsBytes-all, PutsBytes-copied}
use Rattle.cow_space.proofs.row_writes.put_across.Goals as goal

pub returns : goal.returns
returns c =
    PutsBytes-all c.args.page.now _ (record { at = c.args.at; bytes = c.args.piece.now }) c.args.page_number c.min-into.result c.min-skip.result c.min-count.result (omega (arith, c.told-page))
    (PutsBytes-copied c.args.page.now c.args.piece.now c.copy_from_slice.new.self c.min-into.result c.min-skip.result c.min-count.result
    (omega (arith, c.told-page, c.min-count.ensures, c.min-into.ensures)) (omega (arith, c.min-count.ensures, c.min-skip.ensures)) c.copy_from_slice.ensures.after)
    (λ j lt low high. (
      omega (arith, c.max-first.ensures, c.min-into.ensures, lt, low, high),
      omega (arith, c.max-first.ensures, c.min-skip.ensures, c.min-into.ensures, c.min-count.ensures, lt, low, high),
      omega (arith, c.max-first.ensures, c.min-skip.ensures, c.min-into.ensures, lt, low, high),
    ))
    (λ j low high. (
      omega (arith, c.max-first.ensures, c.min-skip.ensures, c.min-into.ensures, c.min-count.ensures, low, high),
      omega (arith, c.max-first.ensures, c.min-skip.ensures, c.min-into.ensures, c.min-count.ensures, low, high),
    ))
