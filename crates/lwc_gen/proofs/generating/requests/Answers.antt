use Rattle.std.proofs.Common.{◌+◌, ◌*◌, ◌++◌, ◌∷◌, [], ◌∙◌, ℕ, List, ap, arith, map, sym}
use Rattle.std.specs.Int.{to_le_bytes, w64}
use Rattle.std.specs.List.{range_with_len}
use Rattle.std.proofs.lemmas.List.FromFn.{map-range_with_len_more}
use Rattle.lwc_gen.proofs.generating.requests.Goals as goal

pub loop-r-preserved : goal.loop-r-preserved
loop-r-preserved c =
    let r = c.loop-r.r in
    let request = λ (i : ℕ). to_le_bytes w64 (1000 * c.args.number + i) in
    c.in_ok-push.ensures.items
    ∙ ap (λ (l : List (List ℕ)). l ++ c.of.result ∷ []) c.loop-r.invariant
    ∙ ap (λ (bytes : List ℕ). map request (range_with_len 0 r) ++ bytes ∷ []) (c.of.ensures ∙ (c.in_ok-from_slice.ensures.items ∙ c.to_le_bytes.ensures))
    ∙ sym (map-range_with_len_more request 0 r r (omega arith))
