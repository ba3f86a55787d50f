use Rattle.std.proofs.Common.{◌∙◌, List, Ok, ap, sym, arith}
use Rattle.guest_image.specs.declared.image.PageImage.{PageImage}
use Rattle.std.proofs.lemmas.Result.{err_from_is_err_and}
use Rattle.lwc_text.proofs.VaultFiles.{all_read, begins_here, ends, read_on, smaller}
use Rattle.lwc_text.proofs.vault.read_pages.Goals as goal

pub pages-init : goal.pages-init
pages-init c = begins_here c.args.pages c.args.bytes.now _ c.new-read.ensures.items (omega (arith, c.requires.short))

pub overflow_sub-at : goal.overflow_sub-at
overflow_sub-at c = omega (arith, c.pages.invariant.size)

pub read_page-requires-clause-short : goal.read_page-requires-clause-short
read_page-requires-clause-short c = omega (arith, c.pages.invariant.size, c.pages.invariant.short)

pub returns-in_err-page : goal.returns-in_err-page
returns-in_err-page c =
    let p = err_from_is_err_and c.from_residual.result c.from_residual.ensures.1 in
    rw (p.1, p.2) (ends c.args.pages c.args.bytes.now c.pages.read.items c.pages.last c.pages.rest.now c.pages.invariant _ c.in_err-page.ensures.read)

pub split_at-requires : goal.split_at-requires
split_at-requires c = c.in_ok-page.ensures.whole

pub returns-then-is_empty : goal.returns-then-is_empty
returns-then-is_empty c =
    all_read c.args.pages c.args.bytes.now c.pages.read.items c.pages.last c.pages.rest.now c.pages.invariant _ _ _ c.in_ok-page.ensures.whole c.in_ok-page.ensures.read
    c.in_ok-push.ensures.items c.split_at.ensures.back (sym c.is_empty.ensures ∙ c.if-is_empty.true)
    ∙ ap (λ (read : List PageImage). Ok read) (sym c.of.ensures)

pub pages-smaller : goal.pages-smaller
pages-smaller c =
    smaller c.args.pages c.args.bytes.now c.pages.read.items c.pages.last c.pages.rest.now c.pages.invariant _ _ _ c.in_ok-page.ensures.whole c.in_ok-page.ensures.read
    c.in_ok-push.ensures.items c.split_at.ensures.back

pub pages-preserved : goal.pages-preserved
pages-preserved c =
    read_on c.args.pages c.args.bytes.now c.pages.read.items c.pages.last c.pages.rest.now c.pages.invariant _ _ _ c.in_ok-page.ensures.whole c.in_ok-page.ensures.read
    c.in_ok-push.ensures.items c.split_at.ensures.back (sym c.is_empty.ensures ∙ c.if-is_empty.false)
