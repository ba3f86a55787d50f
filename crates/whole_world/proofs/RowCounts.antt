-- What is counted over the rows by their names.
use Rattle.std.proofs.Common.{◌≡◌, ℕ, ◌+◌, List, [], ◌∷◌, refl, sym, ap, ◌∙◌, cond, map}
use Rattle.std.specs.Prelude.{◌==◌, count_by}
use Rattle.std.proofs.lemmas.List.Sums.{sum_by-cons}
use Rattle.lwc_base.specs.World.{groups_of, live_of}
use Rattle.lwc_types.specs.declared.name.Name.{Name}
use Rattle.lwc_types.specs.declared.size.WorldSize.{WorldSize}
use Rattle.whole_world.specs.declared.context_row.ContextRow.{ContextRow}
use Rattle.lwc_types.specs.declared.counters.Counters.{Counters}
use Rattle.whole_world.specs.declared.group_row.GroupRow.{GroupRow}
use Rattle.whole_world.specs.Sound.{IsSound}
use Rattle.whole_world.specs.States.{world_of}
use Rattle.whole_world.proofs.Worlds.{names-contexts, names-groups}

count-names : {T : Type 0} (job : ℕ) (rows : List (Name × T)) → count_by (λ (c : Name). c.job == job) (map (λ row. row.0) rows) ≡ count_by (λ row. row.0.job == job) rows
count-names job [] = refl
count-names {T} job (e ∷ es) =
    sum_by-cons (λ (c : Name). cond (c.job == job) 1 0) e.0 (map (λ row. row.0) es)
    ∙ ap (λ n. cond (e.0.job == job) 1 0 + n) (count-names job es)
    ∙ sym (sum_by-cons (λ (row : Name × T). cond (row.0.job == job) 1 0) e es)

module _ (size : WorldSize) (contexts : List (Name × ContextRow)) (groups : List (Name × GroupRow)) (counts : List Counters) (sound : IsSound size contexts groups counts) where
  pub live_of-rows : (job : ℕ) → live_of (world_of size contexts groups counts) job ≡ count_by (λ row. row.0.job == job) contexts
  unfolding live_of
  live_of-rows job = ap (count_by (λ (c : Name). c.job == job)) (names-contexts size contexts groups counts sound) ∙ count-names job contexts

  pub groups_of-rows : (job : ℕ) → groups_of (world_of size contexts groups counts) job ≡ count_by (λ row. row.0.job == job) groups
  unfolding groups_of
  groups_of-rows job = ap (count_by (λ (c : Name). c.job == job)) (names-groups size contexts groups counts sound) ∙ count-names job groups
