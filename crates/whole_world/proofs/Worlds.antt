-- The world of rows: what it has under a name, and what becomes of it where a row is put in or changed.
use Rattle.std.proofs.Common.{◌≡◌, ◌≢◌, ⊎_elim, ℕ, zero, suc, ◌+◌, ◌<◌, ◌≤◌, List, [], ◌∷◌, arith, length, refl, sym, ap, subst, ◌∙◌, Bool, true, false, cond, Option, Some, None, get_or, eqb, length-set, map}
use Rattle.std.specs.Prelude.{is_some, unwrap_or, IfSome, IfNone}
use Rattle.std.proofs.Common.{Bor}
use Rattle.std.specs.List.{position}
use Rattle.std.specs.Option.{option_copied, option_map}
use Rattle.std.specs.FinMap as fm
use Rattle.std.proofs.Math.ListN.{set}
use Rattle.std.proofs.lemmas.Bool.{cases_lt, false≢true}
use Rattle.lwc_base.specs.declared.cell.Cell.TheVariants.{Own}
use Rattle.lwc_base.specs.Fresh.{IsFresh, IsNamedContext, IsNamedGroup, Rises, named_groups}
use Rattle.lwc_base.specs.Holders.{InContext}
use Rattle.lwc_base.specs.Keys.{nothing}
use Rattle.lwc_base.specs.Mapping.{map_pages, mapped_or_not, unmap_pages}
use Rattle.lwc_base.specs.Modes.{IsKey, kind_of, limit, number_of}
use Rattle.lwc_base.specs.World.{World, Context, Group, change_counters, changed_context, change_context, changed_group, change_group, context, group, is_live, new_context, new_group, nothing_counted}
use Rattle.lwc_types.specs.Registers.{fresh_registers}
use Rattle.lwc_types.specs.declared.key.TheConstants.{SLOTS}
use Rattle.lwc_types.specs.declared.key.Key.{Key}
use Rattle.lwc_types.specs.declared.key.Key.TheVariants.{Page, Slot, Cred}
use Rattle.lwc_types.specs.declared.name.Name.{Name}
use Rattle.lwc_types.specs.declared.right.Right.TheVariants.{Write}
use Rattle.lwc_types.specs.declared.size.WorldSize.{WorldSize}
use Rattle.lwc_types.specs.Names.{name_cmp}
use Rattle.whole_world.specs.declared.context_row.ContextRow.{ContextRow}
use Rattle.lwc_types.specs.declared.counters.Counters.{Counters}
use Rattle.whole_world.specs.declared.group_row.GroupRow.{GroupRow}
use Rattle.whole_world.specs.declared.world.WholeWorld.{WholeWorld}
use Rattle.whole_world.specs.declared.holder.Holder.TheVariants.{Nobody}
use Rattle.whole_world.specs.Holders.{holder_of}
use Rattle.whole_world.specs.Rows.{context_of, group_of, with_pages}
use Rattle.whole_world.specs.Sound.{HasGroupSizeOf, HasKey, HasSizeOf, HasSlot, IsSound, IsWhole, IsWholeGroup}
use Rattle.whole_world.specs.Tables.{has_name}
use Rattle.whole_world.specs.States.{world_of}
use Rattle.whole_world.specs.Worlds.{seen}
use Rattle.whole_world.proofs.Places.{place_after_set}
use Rattle.whole_world.proofs.Rows.{cell-past, right-past}
use Rattle.whole_world.proofs.Tables.{found-at, found-holds, map-get, map-keys, map-len, map-put, map-values, nothing-at, put-at, put-holds, put-sorted}
use Rattle.lwc_base.proofs.Facts.{orders, stays_fresh}

get_or_default : {A : Type 0} (xs : List A) (i : ℕ) (d e : A) → i < length xs → get_or xs i d ≡ get_or xs i e
get_or_default [] i d e h = absurd (omega arith)
get_or_default (x ∷ xs) zero d e h = refl
get_or_default (x ∷ xs) (suc i) d e h = get_or_default xs i d e (omega arith)

nothing_mapped : {A B : Type 0} (f : A → B) (o : Option A) → is_some (option_map f o) ≡ false → o ≡ None
nothing_mapped f None none = refl
nothing_mapped f (Some x) none = cc

-- what is known of what is found is known of a reference to it
pub if_found : {E : Type 0} (P : E → Type 0) (o : Option (Bor E)) (found : Option E) → option_copied o ≡ found → ((e : E) → found ≡ Some e → P e) → IfSome o (λ b. P b.now)
if_found P None found same known = tt
if_found P (Some b) found same known = known b.now (sym same)

pub if_missed : {E : Type 0} (Q : Type 0) (o : Option (Bor E)) (found : Option E) → option_copied o ≡ found → (found ≡ None → Q) → IfNone o Q
if_missed Q None found same known = known (sym same)
if_missed Q (Some b) found same known = tt

module _ (size : WorldSize) (contexts : List (Name × ContextRow)) (groups : List (Name × GroupRow)) (counts : List Counters) (sound : IsSound size contexts groups counts) where
  abbrev now : World
  now = world_of size contexts groups counts

  -- what the world has under a name is in the row of that name
  get-context : (c : Name) → fm.get now.contexts c ≡ option_map context_of (fm.find name_cmp c contexts)
  unfolding world_of
  get-context c = map-get context_of contexts sound.contexts_sorted c

  get-group : (g : Name) → fm.get now.groups g ≡ option_map group_of (fm.find name_cmp g groups)
  unfolding world_of
  get-group g = map-get group_of groups sound.groups_sorted g

  -- a context whose row is found
  pub context-found : (c : Name) (row : ContextRow) → fm.find name_cmp c contexts ≡ Some row → context now c ≡ context_of row
  unfolding context
  context-found c row found = ap (λ o. unwrap_or o (new_context 0 (fresh_registers 0))) (get-context c ∙ ap (option_map context_of) found)

  -- a name of no row is not live
  pub dead-missed : (c : Name) → fm.find name_cmp c contexts ≡ None → is_live now c ≡ false
  dead-missed c missed = ap is_some (get-context c ∙ ap (option_map context_of) missed)

  pub live-found : (c : Name) (row : ContextRow) → fm.find name_cmp c contexts ≡ Some row → is_live now c ≡ true
  live-found c row found = ap is_some (get-context c ∙ ap (option_map context_of) found)

  -- and the other way round
  pub missed-dead : (c : Name) → is_live now c ≡ false → fm.find name_cmp c contexts ≡ None
  missed-dead c dead = nothing_mapped context_of (fm.find name_cmp c contexts) (sym (ap is_some (get-context c)) ∙ dead)

  pub missed-group : (g : Name) → fm.contains_key now.groups g ≡ false → fm.find name_cmp g groups ≡ None
  missed-group g free = nothing_mapped group_of (fm.find name_cmp g groups) (sym (ap is_some (get-group g)) ∙ free)

  -- a group whose row is found
  pub group-found : (g : Name) (row : GroupRow) → fm.find name_cmp g groups ≡ Some row → group now g ≡ group_of row
  unfolding group
  group-found g row found = ap (λ o. unwrap_or o new_group) (get-group g ∙ ap (option_map group_of) found)

  -- a group of which there is no row
  pub group-missed : (g : Name) → fm.find name_cmp g groups ≡ None → group now g ≡ new_group
  unfolding group
  group-missed g missed = ap (λ o. unwrap_or o new_group) (get-group g ∙ ap (option_map group_of) missed)

  -- a row that is found is whole
  pub whole-found : (c : Name) (row : ContextRow) → fm.find name_cmp c contexts ≡ Some row → IsWhole size.pages row
  whole-found c row found = found-holds (IsWhole size.pages) c contexts row sound.contexts_whole found

  pub whole_group-found : (g : Name) (row : GroupRow) → fm.find name_cmp g groups ≡ Some row → IsWholeGroup size.pages row
  whole_group-found g row found = found-holds (IsWholeGroup size.pages) g groups row sound.groups_whole found

  key_past : (c : Name) (k : Key) (found : Option ContextRow) → fm.find name_cmp c contexts ≡ found → is_live now c ≡ true → limit size.pages (kind_of k) ≤ number_of k →
      (context now c).cell k ≡ Own (nothing k)
  key_past c k None none live past = absurd (false≢true (sym (dead-missed c none) ∙ live))
  key_past c k (Some row) is live past =
      ap (λ (x : Context). x.cell k) (context-found c row is) ∙ cell-past row size.pages k (whole-found c row is) past

  -- nothing is past the keys that there are
  pub live_key-past : (c : Name) (k : Key) → is_live now c ≡ true → limit size.pages (kind_of k) ≤ number_of k → (context now c).cell k ≡ Own (nothing k)
  live_key-past c k = key_past c k _ refl

  right_past : (c : Name) (p : ℕ) (found : Option ContextRow) → fm.find name_cmp c contexts ≡ found → is_live now c ≡ true → size.pages ≤ p → (context now c).right p ≡ Write
  right_past c p None none live past = absurd (false≢true (sym (dead-missed c none) ∙ live))
  right_past c p (Some row) is live past =
      ap (λ (x : Context). x.right p) (context-found c row is) ∙ right-past row size.pages p (whole-found c row is) past

  -- and the rights past the pages that there are are those of new ones
  pub live_right-past : (c : Name) (p : ℕ) → is_live now c ≡ true → size.pages ≤ p → (context now c).right p ≡ Write
  live_right-past c p = right_past c p _ refl

  -- there are as many contexts as rows, and as many groups
  pub len-contexts : fm.len now.contexts ≡ length contexts
  unfolding world_of
  len-contexts = map-len context_of contexts sound.contexts_sorted

  pub len-groups : fm.len now.groups ≡ length groups
  unfolding world_of
  len-groups = map-len group_of groups sound.groups_sorted

  -- the contexts of the rows
  pub values-contexts : fm.values now.contexts ≡ map (λ row. context_of row.1) contexts
  unfolding world_of
  values-contexts = map-values context_of contexts sound.contexts_sorted

  -- the names of the rows are those of the contexts, and of the groups
  pub names-contexts : fm.keys now.contexts ≡ map (λ row. row.0) contexts
  unfolding world_of
  names-contexts = map-keys context_of contexts sound.contexts_sorted

  pub names-groups : fm.keys now.groups ≡ map (λ row. row.0) groups
  unfolding world_of
  names-groups = map-keys group_of groups sound.groups_sorted

  -- what a job has counted
  pub next-counted : (job : ℕ) (n : Counters) → job < length counts → n ≡ get_or counts job n → now.next job ≡ n
  unfolding world_of
  next-counted job n there is = get_or_default counts job nothing_counted n there ∙ sym is

  -- a job has counted something else
  pub change_counters-at : (job : ℕ) (n : Counters) → job < length counts → world_of size contexts groups (set counts job n) ≡ change_counters now job (λ _. n)
  unfolding world_of change_counters
  change_counters-at job n there =
      let each : (j : ℕ) → get_or (set counts job n) j nothing_counted ≡ cond (eqb j job) n (get_or counts j nothing_counted) =
      λ j. place_after_set counts job n j nothing_counted there in
      λ i. record now { next = λ j. each j i }

  -- a row is put under the name of a context
  pub put-context : (c : Name) (row : ContextRow) →
      world_of size (fm.put name_cmp c row contexts) groups counts ≡ record now { contexts = fm.insert now.contexts c (context_of row) }
  unfolding world_of
  put-context c row = ap (λ m. record now { contexts = m }) (map-put context_of c row contexts sound.contexts_sorted)

  -- a row is put under the name of a group
  pub put-group : (g : Name) (row : GroupRow) →
      world_of size contexts (fm.put name_cmp g row groups) counts ≡ record now { groups = fm.insert now.groups g (group_of row) }
  unfolding world_of
  put-group g row = ap (λ m. record now { groups = m }) (map-put group_of g row groups sound.groups_sorted)

  length-put : (c : Name) (row : ContextRow) → length (fm.put name_cmp c row contexts) ≡ fm.len (fm.insert now.contexts c (context_of row))
  unfolding world_of
  length-put c row =
      sym (map-len context_of (fm.put name_cmp c row contexts) (put-sorted c row contexts sound.contexts_sorted))
      ∙ ap fm.len (map-put context_of c row contexts sound.contexts_sorted)

  length-put_group : (g : Name) (row : GroupRow) → length (fm.put name_cmp g row groups) ≡ fm.len (fm.insert now.groups g (group_of row))
  unfolding world_of
  length-put_group g row =
      sym (map-len group_of (fm.put name_cmp g row groups) (put-sorted g row groups sound.groups_sorted))
      ∙ ap fm.len (map-put group_of g row groups sound.groups_sorted)

  -- the world stays sound
  sound-put : (c : Name) (row : ContextRow) → IsWhole size.pages row → fm.len (fm.insert now.contexts c (context_of row)) ≤ size.contexts →
      IsFresh (record now { contexts = fm.insert now.contexts c (context_of row) }) → IsSound size (fm.put name_cmp c row contexts) groups counts
  sound-put c row whole few fresh = record {
    some_job = sound.some_job;
    few_pages = sound.few_pages;
    size_contexts = sound.size_contexts;
    size_groups = sound.size_groups;
    few_contexts = subst (λ n. n ≤ size.contexts) (sym (length-put c row)) few;
    few_groups = sound.few_groups;
    counted = sound.counted;
    contexts_sorted = put-sorted c row contexts sound.contexts_sorted;
    groups_sorted = sound.groups_sorted;
    contexts_whole = put-holds (IsWhole size.pages) c row contexts whole sound.contexts_whole;
    groups_whole = sound.groups_whole;
    fresh = subst IsFresh (sym (put-context c row)) fresh;
  }

  sound-put_group : (g : Name) (row : GroupRow) → IsWholeGroup size.pages row → fm.len (fm.insert now.groups g (group_of row)) ≤ size.groups →
      IsFresh (record now { groups = fm.insert now.groups g (group_of row) }) → IsSound size contexts (fm.put name_cmp g row groups) counts
  sound-put_group g row whole few fresh = record {
    some_job = sound.some_job;
    few_pages = sound.few_pages;
    size_contexts = sound.size_contexts;
    size_groups = sound.size_groups;
    few_contexts = sound.few_contexts;
    few_groups = subst (λ n. n ≤ size.groups) (sym (length-put_group g row)) few;
    counted = sound.counted;
    contexts_sorted = sound.contexts_sorted;
    groups_sorted = put-sorted g row groups sound.groups_sorted;
    contexts_whole = sound.contexts_whole;
    groups_whole = put-holds (IsWholeGroup size.pages) g row groups whole sound.groups_whole;
    fresh = subst IsFresh (sym (put-group g row)) fresh;
  }

  -- a context or a group of a new name
  more_contexts : (c : Name) (x : Context) → fm.len (fm.insert now.contexts c x) ≤ fm.len now.contexts + 1
  more_contexts c x = subst (λ n. n ≤ fm.len now.contexts + 1) (sym (fm.len-insert orders.names now.contexts c x)) (one_more (fm.contains_key now.contexts c) _)
    where
      one_more : (b : Bool) (n : ℕ) → cond b n (n + 1) ≤ n + 1
      one_more true n = omega arith
      one_more false n = omega arith

  more_groups : (g : Name) (x : Group) → fm.len (fm.insert now.groups g x) ≤ fm.len now.groups + 1
  more_groups g x = subst (λ n. n ≤ fm.len now.groups + 1) (sym (fm.len-insert orders.names now.groups g x)) (one_more (fm.contains_key now.groups g) _)
    where
      one_more : (b : Bool) (n : ℕ) → cond b n (n + 1) ≤ n + 1
      one_more true n = omega arith
      one_more false n = omega arith

  -- the world stays sound where a context of a name that has been counted is put in
  pub sound-added : (c : Name) (row : ContextRow) → IsNamedContext now.next c → InContext (named_groups now.next) c.job (context_of row) → IsWhole size.pages row →
      fm.len now.contexts < size.contexts → IsSound size (fm.put name_cmp c row contexts) groups counts
  sound-added c row named old whole place =
      sound-put c row whole (let more = more_contexts c (context_of row) in omega (arith, more, place)) (stays_fresh.context_inserted now c (context_of row) named old sound.fresh)

  pub sound-added_group : (g : Name) (row : GroupRow) → IsNamedGroup now.next g → IsWholeGroup size.pages row →
      fm.len now.groups < size.groups → IsSound size contexts (fm.put name_cmp g row groups) counts
  sound-added_group g row named whole place =
      sound-put_group g row whole (let more = more_groups g (group_of row) in omega (arith, more, place)) (stays_fresh.group_inserted now g (group_of row) named sound.fresh)

  -- a change of a name that no row has changes nothing
  pub change_context-missed : (c : Name) (change : Context → Context) → position (has_name c) contexts ≡ None → now ≡ change_context now c change
  unfolding change_context
  change_context-missed c change missed = sym (ap (changed_context now c change) (get-context c ∙ ap (option_map context_of) (nothing-at c contexts missed)))

  pub change_group-missed : (g : Name) (change : Group → Group) → position (has_name g) groups ≡ None → now ≡ change_group now g change
  unfolding change_group
  change_group-missed g change missed = sym (ap (changed_group now g change) (get-group g ∙ ap (option_map group_of) (nothing-at g groups missed)))

  -- a context whose row is at a place
  module _ (c : Name) (i : ℕ) (old : Name × ContextRow) (found : position (has_name c) contexts ≡ Some i) (is : old ≡ get_or contexts i old) where
    there : fm.find name_cmp c contexts ≡ Some old.1
    there = found-at c contexts i old found is

    pub context-at : context now c ≡ context_of old.1
    context-at = context-found c old.1 there

    pub whole-at : IsWhole size.pages old.1
    whole-at = whole-found c old.1 there

    kept_len : (x : Context) → fm.len (fm.insert now.contexts c x) ≡ fm.len now.contexts
    kept_len x =
        fm.len-insert orders.names now.contexts c x
        ∙ ap (λ b. cond b (fm.len now.contexts) (fm.len now.contexts + 1)) (ap is_some (get-context c ∙ ap (option_map context_of) there))

    -- its row gets what a change of the context makes of it
    module _ (new : ContextRow) (change : Context → Context) (changed : context_of new ≡ change (context_of old.1)) where
      changed_at : record now { contexts = fm.insert now.contexts c (context_of new) } ≡ change_context now c change
      unfolding change_context
      changed_at =
          ap (λ x. record now { contexts = fm.insert now.contexts c x }) changed
          ∙ sym (ap (changed_context now c change) (get-context c ∙ ap (option_map context_of) there))

      pub change_context-at : world_of size (set contexts i (old.0, new)) groups counts ≡ change_context now c change
      change_context-at =
          ap (λ rows. world_of size rows groups counts) (put-at c new contexts i old sound.contexts_sorted found is) ∙ put-context c new ∙ changed_at

      pub sound-at : IsWhole size.pages new → IsFresh (change_context now c change) → IsSound size (set contexts i (old.0, new)) groups counts
      sound-at whole fresh =
          let few : fm.len (fm.insert now.contexts c (context_of new)) ≤ size.contexts = omega (arith, kept_len (context_of new), len-contexts, sound.few_contexts) in
          subst (λ rows. IsSound size rows groups counts) (sym (put-at c new contexts i old sound.contexts_sorted found is))
          (sound-put c new whole few (subst IsFresh (sym changed_at) fresh))

  -- a group whose row is at a place
  module _ (g : Name) (i : ℕ) (old : Name × GroupRow) (found : position (has_name g) groups ≡ Some i) (is : old ≡ get_or groups i old) where
    group_there : fm.find name_cmp g groups ≡ Some old.1
    group_there = found-at g groups i old found is

    pub whole_group-at : IsWholeGroup size.pages old.1
    whole_group-at = whole_group-found g old.1 group_there

    kept_groups : (x : Group) → fm.len (fm.insert now.groups g x) ≡ fm.len now.groups
    kept_groups x =
        fm.len-insert orders.names now.groups g x
        ∙ ap (λ b. cond b (fm.len now.groups) (fm.len now.groups + 1)) (ap is_some (get-group g ∙ ap (option_map group_of) group_there))

    module _ (new : GroupRow) (change : Group → Group) (changed : group_of new ≡ change (group_of old.1)) where
      changed_group_at : record now { groups = fm.insert now.groups g (group_of new) } ≡ change_group now g change
      unfolding change_group
      changed_group_at =
          ap (λ x. record now { groups = fm.insert now.groups g x }) changed
          ∙ sym (ap (changed_group now g change) (get-group g ∙ ap (option_map group_of) group_there))

      pub change_group-at : world_of size contexts (set groups i (old.0, new)) counts ≡ change_group now g change
      change_group-at =
          ap (λ rows. world_of size contexts rows counts) (put-at g new groups i old sound.groups_sorted found is) ∙ put-group g new ∙ changed_group_at

      pub sound-group_at : IsWholeGroup size.pages new → IsSound size contexts (set groups i (old.0, new)) counts
      sound-group_at whole =
          let few : fm.len (fm.insert now.groups g (group_of new)) ≤ size.groups = omega (arith, kept_groups (group_of new), len-groups, sound.few_groups) in
          subst (λ rows. IsSound size contexts rows counts) (sym (put-at g new groups i old sound.groups_sorted found is))
          (sound-put_group g new whole few (subst IsFresh (sym changed_group_at) (stays_fresh.group_changed now g change sound.fresh)))

  -- the world stays sound where it has counted no less
  pub sound-counts : (job : ℕ) (n : Counters) → job < length counts → Rises (now.next job) n → IsSound size contexts groups (set counts job n)
  sound-counts job n there rises = record {
    some_job = sound.some_job;
    few_pages = sound.few_pages;
    size_contexts = sound.size_contexts;
    size_groups = sound.size_groups;
    few_contexts = sound.few_contexts;
    few_groups = sound.few_groups;
    counted = length-set counts job n ∙ sound.counted;
    contexts_sorted = sound.contexts_sorted;
    groups_sorted = sound.groups_sorted;
    contexts_whole = sound.contexts_whole;
    groups_whole = sound.groups_whole;
    fresh = subst IsFresh (sym (change_counters-at job n there)) (stays_fresh.counted now job (λ _. n) rises sound.fresh);
  }

-- names of the world are old
pub fresh-seen : (w : WholeWorld) → IsFresh (seen w)
unfolding seen
fresh-seen w = w.sound.fresh

-- a row with as many pages and slots is as whole
pub still_whole : (count : ℕ) (old new : ContextRow) → IsWhole count old → HasSizeOf old new → IsWhole count new
still_whole count old new whole size = record { pages = size.pages ∙ whole.pages; rights = size.rights ∙ whole.rights; slots = size.slots ∙ whole.slots }

pub still_whole_group : (count : ℕ) (old new : GroupRow) → IsWholeGroup count old → HasGroupSizeOf old new → IsWholeGroup count new
still_whole_group count old new whole size = record { pages = size.pages ∙ whole.pages; slots = size.slots ∙ whole.slots }

-- a whole row has each key that there is
pub has_key : (count pages slots : ℕ) (k : Key) → pages ≡ count → slots ≡ SLOTS → IsKey count k → HasKey pages slots k
has_key count pages slots (Page p) many all within = omega (arith, many, within)
has_key count pages slots (Slot n) many all within = omega (arith, all, within)
has_key count pages slots Cred many all within = tt

-- somebody has what is under a key only where the key is
pub held-key : (count : ℕ) (row : ContextRow) (k : Key) → IsWhole count row → HasSlot SLOTS k → holder_of k ((context_of row).cell k) ≢ Nobody → IsKey count k
held-key count row (Page p) whole slot somebody =
    ⊎_elim (λ (h : p < count). h)
    (λ (h : count ≤ p). absurd (somebody (ap (holder_of (Page p)) (cell-past row count (Page p) whole h))))
    (cases_lt p count)
held-key count row (Slot n) whole slot somebody = slot
held-key count row Cred whole slot somebody = omega arith

-- pages that are set are mapped or unmapped
pub pages-set : (w : World) (c : Name) (from to : ℕ) (present : Bool) → change_context w c (with_pages from to present) ≡ mapped_or_not w c from to present
unfolding map_pages unmap_pages
pages-set w c from to true = refl
pages-set w c from to false = refl

pub fresh-pages : (w : World) (c : Name) (from to : ℕ) (present : Bool) → IsFresh w → IsFresh (change_context w c (with_pages from to present))
unfolding map_pages unmap_pages
fresh-pages w c from to true fresh = stays_fresh.mapped w c from to fresh
fresh-pages w c from to false fresh = stays_fresh.unmapped w c from to fresh
