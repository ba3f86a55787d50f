use Rattle.std.proofs.Common.{◌++◌, ◌∷◌, [], ◌∙◌, ℕ, List, ap, arith, map, sym}
use Rattle.std.specs.List.{range_with_len}
use Rattle.std.proofs.lemmas.List.FromFn.{map-range_with_len_more}
use Rattle.guest_image.specs.declared.image.PageImage.{PageImage}
use Rattle.lwc_gen.specs.Generated.{numbered_page}
use Rattle.lwc_gen.proofs.generating.numbered_pages.Goals as goal

pub loop-number-preserved : goal.loop-number-preserved
loop-number-preserved c =
    let n = c.loop-number.number in
    c.in_ok-push.ensures.items
    ∙ ap (λ (l : List PageImage). l ++ record { number = n; bytes = c.in_ok-bytes.bytes } ∷ []) c.loop-number.invariant
    ∙ ap (λ (bytes : List ℕ). map numbered_page (range_with_len 0 n) ++ record { number = n; bytes = bytes } ∷ []) (c.in_ok-bytes.ensures ∙ ap (λ (word : ℕ). (numbered_page word).bytes) c.from.ensures)
    ∙ sym (map-range_with_len_more numbered_page 0 n n (omega arith))
