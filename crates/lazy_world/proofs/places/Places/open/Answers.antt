use Rattle.std.proofs.Common.{length, ◌∙◌, ap, sym, subst, ℕ, List}
use Rattle.std.proofs.lemmas.List.{length-replicate}
use Rattle.fd_table.specs.Slots.{Slot, no_slots, row_of}
use Rattle.cow_space.specs.Cells.{no_pages, rights_of}
use Rattle.lwc_base.specs.declared.cell.Cell.TheVariants.{Own}
use Rattle.lwc_types.specs.declared.key.TheConstants.{NOBODY}
use Rattle.lazy_world.specs.Cells.{rows_of}
use Rattle.lazy_world.specs.Kept.{IsNumbered}
use Rattle.lazy_world.specs.Seen.{frame_count, rights, rows}
use Rattle.lazy_world.proofs.PlaceLemmas.{numbered-none, rights-none, rows-none}
use Rattle.lazy_world.proofs.places.Places.open.Goals as goal

pub invariant_of-result : goal.invariant_of-result
invariant_of-result c = record {
  kept = record {
    slot_count = ap length c.in_ok-slots.ensures ∙ length-replicate c.args.places no_slots ∙ sym (ap length c.in_ok-pages.ensures.cells ∙ length-replicate c.args.places no_pages);
    uid_count = ap length c.in_ok-uids.ensures ∙ length-replicate c.args.places (Own NOBODY) ∙ sym (ap length c.in_ok-pages.ensures.cells ∙ length-replicate c.args.places no_pages);
    targets = subst (λ (table : List (ℕ → Slot)). (i n : ℕ) → IsNumbered (row_of table i n)) (sym c.in_ok-slots.ensures) (numbered-none c.args.places);
  };
}

pub returns-clause-rows : goal.returns-clause-rows
unfolding rows
returns-clause-rows c =
    (λ i. rows_of (c.in_ok-pages.ensures.cells i) (c.in_ok-slots.ensures i) (c.in_ok-uids.ensures i)) ∙ rows-none c.args.places

pub returns-clause-rights : goal.returns-clause-rights
unfolding rights
returns-clause-rights c = ap rights_of c.in_ok-pages.ensures.rights ∙ rights-none c.args.places

pub returns-clause-count : goal.returns-clause-count
returns-clause-count c = ap length c.in_ok-pages.ensures.cells ∙ length-replicate c.args.places no_pages

pub returns-clause-frames : goal.returns-clause-frames
unfolding frame_count
returns-clause-frames c = c.in_ok-pages.ensures.frames

pub returns-clause-no_step : goal.returns-clause-no_step
returns-clause-no_step c = c.in_ok-pages.ensures.no_step
