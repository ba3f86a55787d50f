-- A world of which only some contexts, or only some groups, are kept.
use Rattle.std.proofs.Common.{◌≡◌, ℕ, ◌≤◌, List, arith, length, sym, ap, subst, ◌∙◌, Bool, true, false, cond, Option, None}
use Rattle.std.specs.Prelude.{is_some, unwrap_or}
use Rattle.std.specs.List.{filter}
use Rattle.std.specs.FinMap as fm
use Rattle.std.proofs.lemmas.List.Elements.{All-filter}
use Rattle.std.proofs.lemmas.List.Sums.{count_by-le-length, length-filter}
use Rattle.lwc_base.specs.Fresh.{IsFresh, named_groups}
use Rattle.lwc_base.specs.Holders.{InContext}
use Rattle.lwc_base.specs.World.{World, context, is_live, new_context}
use Rattle.lwc_types.specs.Registers.{fresh_registers}
use Rattle.lwc_types.specs.declared.name.Name.{Name}
use Rattle.lwc_types.specs.declared.size.WorldSize.{WorldSize}
use Rattle.whole_world.specs.declared.context_row.ContextRow.{ContextRow}
use Rattle.lwc_types.specs.declared.counters.Counters.{Counters}
use Rattle.whole_world.specs.declared.group_row.GroupRow.{GroupRow}
use Rattle.whole_world.specs.Rows.{context_of, group_of}
use Rattle.whole_world.specs.Sound.{IsSound, IsWhole, IsWholeGroup}
use Rattle.whole_world.specs.States.{world_of}
use Rattle.whole_world.proofs.Tables.{kept-sorted, map-kept}
use Rattle.lwc_types.proofs.Small.{alike}

was_some : {A : Type 0} (b : Bool) (o : Option A) → is_some (cond b o None) ≡ true → is_some o ≡ true
was_some true o there = there
was_some false o there = cc

was_same : {A : Type 0} (b : Bool) (o : Option A) → is_some (cond b o None) ≡ true → cond b o None ≡ o
was_same true o there = λ i. o
was_same false o there = cc

module _ (w : World) (p : Name → Bool) (fresh : IsFresh w) where
  abbrev kept : World
  kept = record w { contexts = fm.retain_keys w.contexts p }

  abbrev left : World
  left = record w { groups = fm.retain_keys w.groups p }

  get_kept : (c : Name) → fm.get kept.contexts c ≡ cond (p c) (fm.get w.contexts c) None
  get_kept c = fm.get-retain_keys w.contexts p c (alike p c)

  was_live : (c : Name) → is_live kept c ≡ true → is_live w c ≡ true
  was_live c live = was_some (p c) (fm.get w.contexts c) (sym (ap is_some (get_kept c)) ∙ live)

  same_context : (c : Name) → is_live kept c ≡ true → context w c ≡ context kept c
  unfolding context
  same_context c live =
      ap (λ o. unwrap_or o (new_context 0 (fresh_registers 0))) (sym (get_kept c ∙ was_same (p c) (fm.get w.contexts c) (sym (ap is_some (get_kept c)) ∙ live)))

  -- names of the world are still old
  fresh-kept : IsFresh kept
  fresh-kept = record {
    contexts = λ c live. fresh.contexts c (was_live c live);
    groups = fresh.groups;
    cells = record {
      contexts = λ c live. subst (InContext (named_groups w.next) c.job) (same_context c live) (fresh.cells.contexts c (was_live c live));
      groups = λ g there k. tt;
    };
  }

  fresh-left : IsFresh left
  unfolding context
  fresh-left = record {
    contexts = fresh.contexts;
    groups = λ g there. fresh.groups g (was_some (p g) (fm.get w.groups g) (sym (ap is_some (fm.get-retain_keys w.groups p g (alike p g))) ∙ there));
    cells = record { contexts = fresh.cells.contexts; groups = λ g there k. tt };
  }

fewer : {X : Type 0} (test : X → Bool) (xs : List X) (most : ℕ) → length xs ≤ most → length (filter test xs) ≤ most
fewer test xs most few = omega (arith, few, length-filter test xs, count_by-le-length test xs)

module _ (size : WorldSize) (contexts : List (Name × ContextRow)) (groups : List (Name × GroupRow)) (counts : List Counters) (sound : IsSound size contexts groups counts)
    (p : Name → Bool) where
  abbrev now : World
  now = world_of size contexts groups counts

  -- the rows that are kept are the contexts that are
  pub kept-world : world_of size (filter (λ row. p row.0) contexts) groups counts ≡ record now { contexts = fm.retain_keys now.contexts p }
  unfolding world_of
  kept-world = ap (λ m. record now { contexts = m }) (map-kept context_of p contexts sound.contexts_sorted)

  pub left-world : world_of size contexts (filter (λ row. p row.0) groups) counts ≡ record now { groups = fm.retain_keys now.groups p }
  unfolding world_of
  left-world = ap (λ m. record now { groups = m }) (map-kept group_of p groups sound.groups_sorted)

  -- and the world stays sound
  pub sound-kept : IsSound size (filter (λ row. p row.0) contexts) groups counts
  sound-kept = record {
    some_job = sound.some_job;
    few_pages = sound.few_pages;
    size_contexts = sound.size_contexts;
    size_groups = sound.size_groups;
    few_contexts = fewer (λ row. p row.0) contexts size.contexts sound.few_contexts;
    few_groups = sound.few_groups;
    counted = sound.counted;
    contexts_sorted = kept-sorted p contexts sound.contexts_sorted;
    groups_sorted = sound.groups_sorted;
    contexts_whole = All-filter (λ row. p row.0) (λ row. IsWhole size.pages row.1) contexts sound.contexts_whole;
    groups_whole = sound.groups_whole;
    fresh = subst IsFresh (sym kept-world) (fresh-kept now p sound.fresh);
  }

  pub sound-left : IsSound size contexts (filter (λ row. p row.0) groups) counts
  sound-left = record {
    some_job = sound.some_job;
    few_pages = sound.few_pages;
    size_contexts = sound.size_contexts;
    size_groups = sound.size_groups;
    few_contexts = sound.few_contexts;
    few_groups = fewer (λ row. p row.0) groups size.groups sound.few_groups;
    counted = sound.counted;
    contexts_sorted = sound.contexts_sorted;
    groups_sorted = kept-sorted p groups sound.groups_sorted;
    contexts_whole = sound.contexts_whole;
    groups_whole = All-filter (λ row. p row.0) (λ row. IsWholeGroup size.pages row.1) groups sound.groups_whole;
    fresh = subst IsFresh (sym left-world) (fresh-left now p sound.fresh);
  }
