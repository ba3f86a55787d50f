-- Sharing step by step: the job counts a group, the values move out of the context, and the group is put in.
use Rattle.std.proofs.Common.{◌≡◌, ℕ, ◌+◌, ◌<◌, arith, refl, sym, ap, subst, ◌∙◌, Bool, true, false, cond, eqb, List, Option, Some, None}
use Rattle.std.specs.FinMap as fm
use Rattle.lwc_base.specs.declared.item.Item.{Item}
use Rattle.lwc_base.specs.declared.cell.Cell.{Cell}
use Rattle.lwc_base.specs.declared.cell.Cell.TheVariants.{Common}
use Rattle.lwc_base.specs.Fresh.{IsFresh, IsNamedGroup, named_groups}
use Rattle.lwc_base.specs.Holders.{InCell}
use Rattle.lwc_base.specs.Keys.{ValueOf}
use Rattle.lwc_base.specs.Sharing.{with_shared, moved_values, needs_group, share}
use Rattle.lwc_base.specs.World.{World, Context, Group, add_group, change_context, changed_context, context, change_counters, is_live, next_group}
use Rattle.lwc_base.proofs.Facts.{changes, stays_fresh}
use Rattle.lwc_types.specs.declared.counters.Counters.{Counters}
use Rattle.lwc_types.specs.declared.name.Name.{Name}
use Rattle.lwc_types.specs.declared.key.Key.{Key}
use Rattle.std.proofs.lemmas.Bool.{eq-eqb}

-- one group more
abbrev pub one_group_more : Counters → Counters
one_group_more n = record n { groups = n.groups + 1 }

in_shared : (next : ℕ → Counters) (g : Name) (job : ℕ) (k : Key) (b : Bool) (cell : Cell (ValueOf k)) → IsNamedGroup next g → InCell (named_groups next) job k cell →
    InCell (named_groups next) job k (cond b (Common g) cell)
in_shared next g job k true cell named old = named
in_shared next g job k false cell named old = old

-- a context that names a group that has been named
pub fresh-with_shared : (w : World) (c g : Name) (items : List Item) → IsNamedGroup w.next g → IsFresh w → IsFresh (change_context w c (with_shared g items))
unfolding with_shared
fresh-with_shared w c g items named fresh =
    stays_fresh.context_changed w c (with_shared g items) (λ live old k. in_shared w.next g c.job k _ ((context w c).cell k) named (old k)) fresh

groups-changed : (w : World) (c : Name) (change : Context → Context) (found : Option Context) → (changed_context w c change found).groups ≡ w.groups
groups-changed w c change None = refl
groups-changed w c change (Some x) = refl

pub groups-change_context : (w : World) (c : Name) (change : Context → Context) → (change_context w c change).groups ≡ w.groups
unfolding change_context
groups-change_context w c change = groups-changed w c change _

changed-counted : (w : World) (job : ℕ) (more : Counters → Counters) (c : Name) (change : Context → Context) (found : Option Context) →
    changed_context (change_counters w job more) c change found ≡ change_counters (changed_context w c change found) job more
unfolding change_counters
changed-counted w job more c change None = refl
changed-counted w job more c change (Some x) = refl

-- a change of a context and a count may go either way
change-counted : (w : World) (job : ℕ) (more : Counters → Counters) (c : Name) (change : Context → Context) →
    change_context (change_counters w job more) c change ≡ change_counters (change_context w c change) job more
unfolding change_context change_counters
change-counted w job more c change = changed-counted w job more c change (fm.get w.contexts c)

counts_at : (b : Bool) (n : Counters) → b ≡ true → n.groups < (cond b (one_group_more n) n).groups
counts_at true n e = omega arith
counts_at false n e = cc

-- once the job has counted the group
module _ (w counted : World) (job : ℕ) (is_counted : counted ≡ change_counters w job one_group_more) where
  pub counted-size : counted.size ≡ w.size
  unfolding change_counters
  counted-size = ap (λ (v : World). v.size) is_counted

  pub counted-live : (c : Name) → is_live counted c ≡ is_live w c
  unfolding change_counters
  counted-live c = ap (λ v. is_live v c) is_counted

  counted-context : (c : Name) → context counted c ≡ context w c
  unfolding change_counters context
  counted-context c = ap (λ v. context v c) is_counted

  counted-next : (j : ℕ) → counted.next j ≡ cond (eqb j job) (one_group_more (w.next j)) (w.next j)
  unfolding change_counters
  counted-next j = ap (λ (v : World). v.next j) is_counted

  -- the group's name has been counted
  pub counted-named : (g : Name) → g ≡ next_group w job → IsNamedGroup counted.next g
  counted-named g is =
      subst (IsNamedGroup counted.next) (sym is)
      (subst (λ (n : Counters). (w.next job).groups < n.groups) (sym (counted-next job)) (counts_at (eqb job job) (w.next job) (eq-eqb job job refl)))

  -- and so it is once values have moved out of a context
  module _ (left : World) (c : Name) (change : Context → Context) (is_left : left ≡ change_context counted c change) where
    pub left-size : left.size ≡ w.size
    left-size = ap (λ (v : World). v.size) is_left ∙ (changes.context_changed counted c change).names.size ∙ counted-size

    pub left-named : (g : Name) → g ≡ next_group w job → IsNamedGroup left.next g
    left-named g is =
        subst (λ (next : ℕ → Counters). IsNamedGroup next g) (sym (ap (λ (v : World). v.next) is_left ∙ (changes.context_changed counted c change).names.next)) (counted-named g is)

    pub left-groups : left.groups ≡ w.groups
    unfolding change_counters
    left-groups = ap (λ (v : World). v.groups) is_left ∙ groups-change_context counted c change ∙ ap (λ (v : World). v.groups) is_counted

    -- no group has that name yet
    pub left-new : (g : Name) → IsFresh w → g ≡ next_group w job → fm.contains_key left.groups g ≡ false
    left-new g fresh is = ap (λ m. fm.contains_key m g) left-groups ∙ ap (fm.contains_key w.groups) is ∙ stays_fresh.next_group_is_new w job fresh

added_as : (w : World) (c : Name) (job : ℕ) (items : List Item) (values : Group) → let left : World = change_context w c (with_shared (next_group w job) items) in
    (λ (v : World). record v { groups = fm.insert v.groups (next_group w job) values }) (change_counters left job one_group_more) ≡ add_group left job values
unfolding add_group change_counters
added_as w c job items values =
    let left : World = change_context w c (with_shared (next_group w job) items) in
    let name : next_group w job ≡ next_group left job =
    ap (λ (next : ℕ → Counters). record { job = job; k = (next job).groups }) (sym (changes.context_changed w c (with_shared (next_group w job) items)).names.next) in
    λ i. change_counters (record left { groups = fm.insert left.groups (name i) values }) job one_group_more

share_moves : (w : World) (c : Name) (job : ℕ) (items : List Item) → needs_group w c items ≡ true →
    share w c job items ≡ add_group (change_context w c (with_shared (next_group w job) items)) job (moved_values items (context w c))
unfolding share
share_moves w c job items needs =
    ap (λ b. cond b (add_group (change_context w c (with_shared (next_group w job) items)) job (moved_values items (context w c))) w) needs

-- the world once the group is put in
pub share-steps : (w counted left shared : World) (c : Name) (job : ℕ) (items : List Item) (g : Name) (values : Group) → needs_group w c items ≡ true →
    g ≡ next_group w job → values ≡ moved_values items (context counted c) → counted ≡ change_counters w job one_group_more →
    left ≡ change_context counted c (with_shared g items) → shared ≡ record left { groups = fm.insert left.groups g values } →
    shared ≡ share w c job items
share-steps w counted left shared c job items g values needs g_is values_are is_counted is_left is_shared =
    let same : values ≡ moved_values items (context w c) = values_are ∙ ap (moved_values items) (counted-context w counted job is_counted c) in
    let moves : left ≡ change_counters (change_context w c (with_shared (next_group w job) items)) job one_group_more =
    is_left ∙ (λ i. change_context (is_counted i) c (with_shared (g_is i) items))
    ∙ change-counted w job one_group_more c _ in
    is_shared ∙ (λ i. record (moves i) { groups = fm.insert (moves i).groups (g_is i) (same i) })
    ∙ added_as w c job items (moved_values items (context w c)) ∙ sym (share_moves w c job items needs)
