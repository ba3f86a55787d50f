-- The world as it is opened.
use Rattle.std.proofs.Common.{◌≡◌, ℕ, List, [], arith, length, ap, subst, sym, ◌∙◌, get_or}
use Rattle.std.specs.Prelude.{replicate}
use Rattle.std.specs.FinMap as fm
use Rattle.std.proofs.lemmas.List.Elements.{All-nil}
use Rattle.lwc_base.specs.Fresh.{IsFresh}
use Rattle.lwc_base.specs.World.{empty_world, nothing_counted}
use Rattle.lwc_types.specs.Names.{name_cmp}
use Rattle.lwc_types.specs.declared.name.Name.{Name}
use Rattle.lwc_types.specs.declared.size.WorldSize.{WorldSize}
use Rattle.world_face.specs.Calls.{IsSize}
use Rattle.lwc_types.specs.declared.counters.Counters.{Counters}
use Rattle.whole_world.specs.declared.context_row.ContextRow.{ContextRow}
use Rattle.whole_world.specs.declared.group_row.GroupRow.{GroupRow}
use Rattle.whole_world.specs.States.{world_of}
use Rattle.whole_world.specs.Sound.{IsSound, IsWhole, IsWholeGroup}
use Rattle.whole_world.proofs.Places.{place_of_replicate}
use Rattle.lwc_base.proofs.Facts.{stays_fresh}

no_rows : {X : Type 0} → fm.from_sorted {X = X} {R = name_cmp} [] ≡ fm.empty
no_rows {X} = fm.empty_of_len (fm.from_sorted []) (fm.len-entries (fm.from_sorted []) ∙ ap length (fm.entries-from_sorted {X = X} name_cmp [] tt))

nothing_there : (size : WorldSize) (counts : List Counters) → counts ≡ replicate size.jobs nothing_counted →
    world_of size [] [] counts ≡ empty_world size
unfolding world_of empty_world
nothing_there size counts nothing =
    let each : (job : ℕ) → get_or counts job nothing_counted ≡ nothing_counted =
    λ job. ap (λ l. get_or l job nothing_counted) nothing ∙ place_of_replicate size.jobs nothing_counted job in
    λ i. record { contexts = no_rows i; groups = no_rows i; next = λ job. each job i; size = size }

pub nothing_counted_yet : (size : WorldSize) (contexts : List (Name × ContextRow)) (groups : List (Name × GroupRow)) (counts : List Counters) → contexts ≡ [] → groups ≡ [] →
    counts ≡ replicate size.jobs nothing_counted → world_of size contexts groups counts ≡ empty_world size
nothing_counted_yet size contexts groups counts none no_group nothing = (λ i. world_of size (none i) (no_group i) counts) ∙ nothing_there size counts nothing

sound_there : (size : WorldSize) (counts : List Counters) → IsSize size → length counts ≡ size.jobs →
    counts ≡ replicate size.jobs nothing_counted → IsSound size [] [] counts
sound_there size counts is_size many nothing = record {
  some_job = is_size.jobs.0;
  few_pages = is_size.pages.1;
  size_contexts = is_size.contexts.1;
  size_groups = is_size.groups.1;
  few_contexts = omega arith;
  few_groups = omega arith;
  counted = many;
  contexts_sorted = tt;
  groups_sorted = tt;
  contexts_whole = All-nil (λ row. IsWhole size.pages row.1);
  groups_whole = All-nil (λ row. IsWholeGroup size.pages row.1);
  fresh = subst IsFresh (sym (nothing_there size counts nothing)) (stays_fresh.empty size);
}

pub sound-opened : (size : WorldSize) (contexts : List (Name × ContextRow)) (groups : List (Name × GroupRow)) (counts : List Counters) → contexts ≡ [] → groups ≡ [] →
    IsSize size → length counts ≡ size.jobs → counts ≡ replicate size.jobs nothing_counted → IsSound size contexts groups counts
sound-opened size contexts groups counts none no_group is_size many nothing =
    subst (λ (rows : List (Name × ContextRow)). IsSound size rows groups counts) (sym none)
    (subst (λ (rows : List (Name × GroupRow)). IsSound size [] rows counts) (sym no_group) (sound_there size counts is_size many nothing))
