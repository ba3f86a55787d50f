use Rattle.std.proofs.Common.{◌≡◌, ◌∙◌, IfOk, List, rules, subst, ℕ}
use Rattle.lwc_gen.proofs.Images.{page_filled}
use Rattle.lwc_gen.proofs.generating.word_page.Goals as goal

pub returns : goal.returns
returns c =
    let filled = page_filled c.args.word c.in_ok-bytes.bytes.items c.in_ok-bytes.bytes.len (c.in_ok-bytes.ensures.items ∙ c.to_le_bytes.ensures) (search rules) in
    subst (λ (bytes : List ℕ). IfOk c.from_slice-2.result (λ page. page ≡ bytes)) (c.as_slice.ensures.value ∙ c.in_ok-resize.ensures.items ∙ filled) c.from_slice-2.ensures
