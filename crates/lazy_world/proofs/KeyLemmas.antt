-- A value that is put under a key that is no page.
use Rattle.std.proofs.Common.{◌≡◌, ℕ, ◌+◌, ◌<◌, ◌≤◌, arith, refl, sym, ap, subst, ◌∙◌, Bool, true, false, cond, eqb, Some, None, get_or}
use Rattle.std.specs.Prelude.{is_some}
use Rattle.std.specs.FinMap as fm
use Rattle.std.proofs.lemmas.Bool.Decides.{nat_tests}
use Rattle.lwc_base.specs.declared.cell.Cell.{Cell}
use Rattle.lwc_base.specs.declared.cell.Cell.TheVariants.{Own, Common}
use Rattle.lwc_base.specs.declared.descriptor.Descriptor.{Descriptor}
use Rattle.lwc_base.specs.Cells.{put_at, with_cell, with_value}
use Rattle.lwc_base.specs.Fresh.{IsFresh}
use Rattle.lwc_base.specs.Keys.{ValueOf, is_there, with_key}
use Rattle.lwc_base.specs.World.{World, Context, Group, change_context, change_group, group}
use Rattle.lwc_types.specs.declared.key.Key.{Key}
use Rattle.lwc_types.specs.declared.counters.Counters.{Counters}
use Rattle.lwc_types.specs.declared.key.Key.TheVariants as key
use Rattle.lwc_types.specs.declared.name.Name.{Name}
use Rattle.ctx_table.specs.NameTables.{ArePlaced}
use Rattle.lazy_world.specs.declared.key_value.KeyValue.{KeyValue}
use Rattle.lazy_world.specs.declared.key_value.KeyValue.TheVariants.{Slot, Cred}
use Rattle.lazy_world.specs.Cells.{Row, is_nothing, is_own, put_row}
use Rattle.lwc_base.specs.declared.descriptor.Descriptor.TheVariants as owned
use Rattle.lwc_base.specs.declared.descriptor.Grant.TheVariants.{Of}
use Rattle.lwc_base.specs.declared.descriptor.Lent.{Lent}
use Rattle.lwc_base.specs.declared.descriptor.Lent.TheVariants as lent
use Rattle.lwc_base.specs.Lending.{descriptor_of}
use Rattle.lazy_world.specs.KeyValues.{HasSlot, group_in, key_in, value_in}
use Rattle.lazy_world.specs.Sound.{HasOldTags, IsAllOwn, IsSound, IsWithin}
use Rattle.lazy_world.specs.States.{Parts, group_of, held, world_of}
use Rattle.lazy_world.proofs.PageLemmas.{pages-context, pages-group, pages-row}
use Rattle.lazy_world.proofs.SoundLemmas.{homes-row, sound-row}
use Rattle.lazy_world.proofs.WorldLemmas.{change_context-row, change_group-row, context-found}
use Rattle.lwc_base.proofs.Facts.{changes, stays_fresh}

-- a descriptor, lent
pub lent_for : Descriptor → Lent
lent_for owned.Empty = lent.Empty
lent_for owned.Console = lent.Console
lent_for (owned.File file at) = lent.File file at
lent_for (owned.Request r at) = lent.Request r at
lent_for (owned.Reply r) = lent.Reply r
lent_for (owned.Ctx name keys) = lent.Ctx name (Of (record { ref_ptr = (0, 0); now = keys }))

pub lent_is : (d : Descriptor) → descriptor_of (lent_for d) ≡ d
unfolding lent_for
lent_is owned.Empty = refl
lent_is owned.Console = refl
lent_is (owned.File file at) = refl
lent_is (owned.Request r at) = refl
lent_is (owned.Reply r) = refl
lent_is (owned.Ctx name keys) = refl

-- the row with the value
abbrev pub put_value : KeyValue → Row → Row
put_value v row = with_key Cell (key_in v) (Own (value_in v)) row

chosen_within : (n m : ℕ) (d : Descriptor) (cell : Cell Descriptor) → n < 64 → 64 ≤ m → is_nothing (key.Slot m) cell ≡ true → is_nothing (key.Slot m) (cond (eqb m n) (Own d) cell) ≡ true
chosen_within n m d cell low past is = let other : eqb m n ≡ false = grind (arith, nat_tests) in ap (λ b. is_nothing (key.Slot m) (cond b (Own d) cell)) other ∙ is

pub within-put : (v : KeyValue) (pages : ℕ) (row : Row) → HasSlot v → IsWithin pages row → IsWithin pages (put_value v row)
within-put (Slot n d) pages row has within (key.Page p) past = within (key.Page p) past
within-put (Slot n d) pages row has within (key.Slot m) past = chosen_within n m (descriptor_of d) (row (key.Slot m)) has past (within (key.Slot m) past)
within-put (Slot n d) pages row has within key.Cred past = refl
within-put (Cred uid) pages row has within (key.Page p) past = within (key.Page p) past
within-put (Cred uid) pages row has within (key.Slot m) past = within (key.Slot m) past
within-put (Cred uid) pages row has within key.Cred past = refl

chosen_own : {T : Type 0} (b : Bool) (d : T) (cell : Cell T) → is_own cell ≡ true → is_own (cond b (Own d) cell) ≡ true
chosen_own true d cell own = refl
chosen_own false d cell own = own

pub own-put : (v : KeyValue) (row : Row) → IsAllOwn row → IsAllOwn (put_value v row)
own-put (Slot n d) row own (key.Page p) = own (key.Page p)
own-put (Slot n d) row own (key.Slot m) = chosen_own (eqb m n) (descriptor_of d) (row (key.Slot m)) (own (key.Slot m))
own-put (Slot n d) row own key.Cred = own key.Cred
own-put (Cred uid) row own (key.Page p) = own (key.Page p)
own-put (Cred uid) row own (key.Slot m) = own (key.Slot m)
own-put (Cred uid) row own key.Cred = refl

-- pages are as they were
page-put : (v : KeyValue) (row : Row) (p : ℕ) → put_value v row (key.Page p) ≡ row (key.Page p)
page-put (Slot n d) row p = refl
page-put (Cred uid) row p = refl

page-value : (v : KeyValue) (x : Group) (p : ℕ) → (with_value (key_in v) (value_in v) x).value (key.Page p) ≡ x.value (key.Page p)
page-value (Slot n d) x p = refl
page-value (Cred uid) x p = refl

pub tags-put : (v : KeyValue) (next : ℕ → Counters) (row : Row) → HasOldTags next row → HasOldTags next (put_value v row)
tags-put (Slot n d) next row old = old
tags-put (Cred uid) next row old = old

chosen_held : (n m : ℕ) (b : Bool) (d : Descriptor) (cell : Cell Descriptor) → held (key.Slot m) (cond b (Own d) cell) ≡ cond b d (held (key.Slot m) cell)
chosen_held n m true d cell = refl
chosen_held n m false d cell = refl

-- the values of a group
pub group-put : (v : KeyValue) (row : Row) → group_of (put_value v row) ≡ with_value (key_in v) (value_in v) (group_of row)
group-put v row = λ e. record { value = λ k. at v k e }
  where
    at : (v : KeyValue) (k : Key) → held k (put_value v row k) ≡ with_key (λ T. T) (key_in v) (value_in v) (λ q. held q (row q)) k
    at (Slot n d) (key.Page p) = refl
    at (Slot n d) (key.Slot m) = chosen_held n m (eqb m n) (descriptor_of d) (row (key.Slot m))
    at (Slot n d) key.Cred = refl
    at (Cred uid) (key.Page p) = refl
    at (Cred uid) (key.Slot m) = refl
    at (Cred uid) key.Cred = refl

-- something is under each key that is no page
there : (v : KeyValue) (value : ValueOf (key_in v)) → is_there (key_in v) value ≡ true
there (Slot n d) value = refl
there (Cred uid) value = refl

module _ (s : Parts) (sound : IsSound s) where
  abbrev now : World
  now = world_of s

  -- a context's own value changes
  module _ (placed : ArePlaced s.contexts) (c : Name) (i : ℕ) (found : fm.get s.contexts.map c ≡ Some i) (v : KeyValue) (has : HasSlot v)
      (own : group_in (s.rows i (key_in v)) ≡ None) where
    abbrev later : Parts
    later = record s { rows = put_row s.rows i (put_value v (s.rows i)) }

    inside : i < s.size.contexts
    inside = let low = placed.within c i found in omega (arith, low, sound.sizes.contexts)

    put_as : (cell : Cell (ValueOf (key_in v))) → s.rows i (key_in v) ≡ cell → put_at now c (key_in v) (value_in v) ≡ change_context now c (with_cell (key_in v) (Own (value_in v)))
    put_as (Own value) is = changes.put_own now c (key_in v) value (value_in v) (ap (λ (x : Context). x.cell (key_in v)) (context-found s c i found) ∙ is) (there v value)
    put_as (Common g) is = absurd (let none = ap group_in (sym is) ∙ own in cc)

    pub put-own : world_of later ≡ put_at now c (key_in v) (value_in v)
    put-own =
        change_context-row s placed c i found (put_value v (s.rows i)) s.rights (with_cell (key_in v) (Own (value_in v))) inside (λ q other. refl) refl
        ∙ sym (put_as (s.rows i (key_in v)) refl)

    pub sound-own : IsSound later
    sound-own =
        let keeps = pages-context now (world_of later) c (with_cell (key_in v) (Own (value_in v))) (put-own ∙ put_as (s.rows i (key_in v)) refl) in
        sound-row s sound i (put_value v (s.rows i)) s.rights (within-put v s.size.pages (s.rows i) has (sound.past i))
        (λ j same. absurd (omega (arith, same, inside)))
        (λ low none. absurd (let both = sym ((placed.at c i).0 found) ∙ none in cc))
        (λ j same none. absurd (omega (arith, same, inside)))
        (tags-put v now.next (s.rows i) (sound.tags i))
        (subst IsFresh (sym put-own) (stays_fresh.put now c (key_in v) (value_in v) sound.fresh))
        (homes-row s.rows i (put_value v (s.rows i)) sound.homes (λ p tag bytes is. record { place = i; bytes = bytes; is = sym (page-put v (s.rows i) p) ∙ is }))
        (pages-row s later i (put_value v (s.rows i)) sound.pages refl keeps (λ p g is. keeps g p (sound.pages i p g (sym (page-put v (s.rows i) p) ∙ is))))

  -- a group's value changes
  module _ (placed : ArePlaced s.contexts) (placed_groups : ArePlaced s.groups) (g : Name) (j : ℕ) (found : fm.get s.groups.map g ≡ Some j) (v : KeyValue) (has : HasSlot v) where
    abbrev later_group : Parts
    later_group = record s { rows = put_row s.rows (s.size.contexts + j) (put_value v (s.rows (s.size.contexts + j))) }

    pub put-group : world_of later_group ≡ change_group now g (with_value (key_in v) (value_in v))
    put-group =
        change_group-row s placed_groups g j found (λ d q at_q. let low = placed.within d q at_q in omega (arith, low, sound.sizes.contexts))
        (put_value v (s.rows (s.size.contexts + j))) s.rights (with_value (key_in v) (value_in v)) (λ q other. refl) (group-put v (s.rows (s.size.contexts + j)))

    pub sound-group : IsSound later_group
    sound-group =
        let keeps = pages-group now (world_of later_group) g (with_value (key_in v) (value_in v)) put-group (λ p there. ap is_some (page-value v (group now g) p) ∙ there) in
        sound-row s sound (s.size.contexts + j) (put_value v (s.rows (s.size.contexts + j))) s.rights
        (within-put v s.size.pages (s.rows (s.size.contexts + j)) has (sound.past (s.size.contexts + j)))
        (λ q same. own-put v (s.rows (s.size.contexts + j)) (sound.own j))
        (λ low none. absurd (omega (arith, low)))
        (λ q same none. absurd (let q_is : q ≡ j = omega (arith, same) in let both = sym ((placed_groups.at g j).0 found) ∙ ap (λ r. get_or s.groups.places r None) (sym q_is) ∙ none in cc))
        (tags-put v now.next (s.rows (s.size.contexts + j)) (sound.tags (s.size.contexts + j)))
        (subst IsFresh (sym put-group) (stays_fresh.group_changed now g (with_value (key_in v) (value_in v)) sound.fresh))
        (homes-row s.rows (s.size.contexts + j) (put_value v (s.rows (s.size.contexts + j))) sound.homes
        (λ p tag bytes is. record { place = s.size.contexts + j; bytes = bytes; is = sym (page-put v (s.rows (s.size.contexts + j)) p) ∙ is }))
        (pages-row s later_group (s.size.contexts + j) (put_value v (s.rows (s.size.contexts + j))) sound.pages refl keeps
        (λ p h is. keeps h p (sound.pages (s.size.contexts + j) p h (sym (page-put v (s.rows (s.size.contexts + j)) p) ∙ is))))
