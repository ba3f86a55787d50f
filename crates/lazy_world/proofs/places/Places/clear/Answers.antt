use Rattle.std.proofs.Common.{◌∙◌, ap, arith, length, length-set, refl, set, subst, sym, List, ℕ}
use Rattle.lwc_base.specs.declared.cell.Cell.TheVariants.{Own}
use Rattle.lwc_types.specs.declared.key.TheConstants.{NOBODY}
use Rattle.fd_table.specs.Seen as slots_seen
use Rattle.fd_table.specs.Slots.{Slot, row_of}
use Rattle.cow_space.specs.Cells.{all_write, rights_of}
use Rattle.cow_space.specs.Seen as pages_seen
use Rattle.lazy_world.specs.Cells.{rows_of}
use Rattle.lazy_world.specs.Kept.{IsNumbered}
use Rattle.lazy_world.specs.Seen.{frame_count, rights, rows}
use Rattle.lazy_world.proofs.ClearLemmas.{rows-cleared}
use Rattle.lazy_world.proofs.AbsentLemmas.{rights-in}
use Rattle.lazy_world.proofs.PlaceLemmas.{numbered-set, rights-set}
use Rattle.lazy_world.proofs.places.Places.clear.Goals as goal

pub clear_place-requires : goal.clear_place-requires
clear_place-requires c = record { place = c.requires.place }

pub clear_place-requires-2 : goal.clear_place-requires-2
clear_place-requires-2 c = omega (arith, c.args.self.now.kept.slot_count, c.requires.place)

pub index_mut-requires : goal.index_mut-requires
index_mut-requires c = omega (arith, c.args.self.now.kept.uid_count, c.requires.place, c.args.self.now.uids.ok)

pub returns-clause-rows : goal.returns-clause-rows
unfolding rows
returns-clause-rows c =
    let w = c.args.self.now in
    (λ e. rows_of (c.clear_place.ensures.cells e) (c.clear_place-2.ensures e) (set w.uids.items c.args.place (Own NOBODY)))
    ∙ rows-cleared (pages_seen.cells w.pages) (slots_seen.slots w.slots) w.uids.items c.args.place c.requires.place
    (omega (arith, w.kept.slot_count, c.requires.place)) (omega (arith, w.kept.uid_count, c.requires.place))

pub returns-clause-rights : goal.returns-clause-rights
unfolding rights
returns-clause-rights c =
    let w = c.args.self.now in ap rights_of c.clear_place.ensures.rights ∙ rights-set (pages_seen.rights w.pages) c.args.place all_write (rights-in w.pages c.args.place c.requires.place)

pub returns-clause-count : goal.returns-clause-count
returns-clause-count c = ap length c.clear_place.ensures.cells ∙ length-set (pages_seen.cells c.args.self.now.pages) c.args.place _

pub returns-clause-frames : goal.returns-clause-frames
unfolding frame_count
returns-clause-frames c = c.clear_place.ensures.frames

pub invariant_of-self : goal.invariant_of-self
invariant_of-self c =
    let w = c.args.self.now in
    let same = ap length c.clear_place.ensures.cells ∙ length-set (pages_seen.cells w.pages) c.args.place _ in
    record {
      kept = record {
        slot_count = ap length c.clear_place-2.ensures ∙ length-set (slots_seen.slots w.slots) c.args.place _ ∙ w.kept.slot_count ∙ sym same;
        uid_count = length-set w.uids.items c.args.place _ ∙ w.kept.uid_count ∙ sym same;
        targets = subst (λ (table : List (ℕ → Slot)). (i n : ℕ) → IsNumbered (row_of table i n)) (sym c.clear_place-2.ensures)
            (numbered-set (slots_seen.slots w.slots) c.args.place _ (omega (arith, w.kept.slot_count, c.requires.place)) (λ _. refl) w.kept.targets);
      };
    }
