use Rattle.std.proofs.Common.{refl, subst, sym}
use Rattle.lwc_base.specs.Modes.{IsSpec, mode, mode_or_copy}
use Rattle.lwc_types.specs.declared.limits.TheConstants.{MOST_PAGES}
use Rattle.lazy_world.specs.Clones.{CopiesPages}
use Rattle.lazy_world.proofs.CloneOrigins.{copied_here, still_copied}
use Rattle.lazy_world.proofs.cloning.copies_pages.Goals as goal

pub loop-item-init : goal.loop-item-init
unfolding mode_or_copy mode
loop-item-init c = record { copied = λ q. refl }

pub returns-then-changes_pages-clause-all : goal.returns-then-changes_pages-clause-all
returns-then-changes_pages-clause-all c copies =
    let items = c.items-item-items in
    let told = c.changes_pages.ensures in
    let valid = subst (IsSpec MOST_PAGES) (sym items.ensures.items) items.ensures.valid in
    absurd (told.other c.if-changes_pages.true
    (copied_here items.result.now MOST_PAGES valid c.loop-item.item-index _ c.loop-item-test.true _ (subst CopiesPages (sym items.ensures.items) copies) (told.named c.if-changes_pages.true)))

pub loop-item-preserved : goal.loop-item-preserved
loop-item-preserved c =
    let items = c.items-item-items in
    let valid = subst (IsSpec MOST_PAGES) (sym items.ensures.items) items.ensures.valid in
    record {
      copied = λ q. still_copied items.result.now MOST_PAGES valid c.loop-item.item-index _ c.loop-item-test.true q
          (c.changes_pages.ensures.copied c.if-changes_pages.false q) (c.loop-item.invariant.copied q);
    }
