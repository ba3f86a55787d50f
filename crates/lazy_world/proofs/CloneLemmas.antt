-- A context that is made from another one, once that one's values have moved.
use Rattle.std.proofs.Common.{◌≡◌, ℕ, ◌≤◌, ⊎_elim, List, refl, sym, ap, subst, ◌∙◌, Bool, true, false, cond, None}
use Rattle.std.specs.Prelude.{unwrap_or}
use Rattle.std.proofs.lemmas.Bool.{cases_lt}
use Rattle.lwc_base.specs.declared.cell.Cell.{Cell}
use Rattle.lwc_base.specs.declared.cell.Cell.TheVariants as cells
use Rattle.lwc_base.specs.declared.item.Item.{Item}
use Rattle.lwc_base.specs.declared.item.Mode.{Mode}
use Rattle.lwc_base.specs.declared.item.Mode.TheVariants.{Copy, Share, Unmap, CopyRead}
use Rattle.lwc_base.specs.Cells.{value_at, value_of}
use Rattle.lwc_base.specs.Fresh.{IsFresh}
use Rattle.lwc_base.specs.Keys.{ValueOf}
use Rattle.lwc_base.specs.Modes.{IsKey, IsSpec, kind_of, limit, mode, mode_or_copy, number_of}
use Rattle.lwc_base.specs.Ranges.{begins_range, is_page, ranges, ranges_of}
use Rattle.lwc_base.specs.Sharing.{clone_context, cloned_cell, cloned_context, cloned_right, is_moved, needs_group, ranges_after_clone, share, with_shared}
use Rattle.lwc_base.specs.World.{World, Context, add_context, change_context, change_counters, changed_context, context, is_live, new_context, next_context, next_group}
use Rattle.lwc_types.specs.declared.key.Key.{Key}
use Rattle.lwc_types.specs.declared.key.Key.TheVariants.{Page, Slot, Cred}
use Rattle.lwc_types.specs.declared.limits.TheConstants.{MOST_RANGES}
use Rattle.lwc_types.specs.declared.name.Name.{Name}
use Rattle.lwc_types.specs.declared.regs.Regs.{Regs}
use Rattle.lazy_world.specs.Cells.{is_nothing}
use Rattle.lazy_world.specs.Followed.{followed, with_transferred}
use Rattle.lazy_world.specs.Transfers.{taken_cell, taken_right}
use Rattle.lazy_world.specs.declared.transfer.Transfer.TheVariants.{Clone}
use Rattle.lazy_world.proofs.NeedLemmas.{needs-key}
use Rattle.lazy_world.proofs.PastLemmas.{mode-past}
use Rattle.lazy_world.proofs.ShareLemmas.{get-same, insert-twice}
use Rattle.lwc_base.proofs.Facts.{changes, stays_fresh}

-- a new context has nothing but a credential
pub new-nothing : (uid : ℕ) (entry : Regs) (k : Key) → is_nothing k ((new_context uid entry).cell k) ≡ true
new-nothing uid entry (Page p) = refl
new-nothing uid entry (Slot n) = refl
new-nothing uid entry Cred = refl

common_stays : (m : Mode) (k : Key) (g : Name) → is_moved m k (cells.Common g) ≡ false
common_stays Copy k g = refl
common_stays Share k g = refl
common_stays Unmap k g = refl
common_stays CopyRead k g = refl

-- a right by its mode is that of a clone
pub right_taken : (s : World) (c : Name) (p : ℕ) (n : Mode) → taken_right n (is_page ((context s c).cell (Page p))) ((context s c).right p) ≡ cloned_right s c p n
right_taken s c p Copy = refl
right_taken s c p Share = refl
right_taken s c p Unmap = refl
right_taken s c p CopyRead = refl

module _ (w : World) (c : Name) (job : ℕ) (items : List Item) (spec : IsSpec w.size.pages items) (live : is_live w c ≡ true) where
  abbrev s : World
  s = share w c job items

  abbrev m : Key → Mode
  m k = unwrap_or (mode items k) Copy

  shared_stays : (k : Key) (cell : Cell (ValueOf k)) → is_moved (m k) k (cond (is_moved (m k) k cell) (cells.Common (next_group w job)) cell) ≡ false
  shared_stays k cell = at (is_moved (m k) k cell) refl
    where
      at : (b : Bool) → is_moved (m k) k cell ≡ b → is_moved (m k) k (cond (is_moved (m k) k cell) (cells.Common (next_group w job)) cell) ≡ false
      at true is = ap (λ b. is_moved (m k) k (cond b (cells.Common (next_group w job)) cell)) is ∙ common_stays (m k) k (next_group w job)
      at false is = ap (λ b. is_moved (m k) k (cond b (cells.Common (next_group w job)) cell)) is ∙ is

  pub none-moves : needs_group w c items ≡ false → (k : Key) → is_moved (m k) k ((context w c).cell k) ≡ false
  none-moves idle k =
      ⊎_elim
      (λ inside. at (is_moved (m k) k ((context w c).cell k)) refl inside)
      (λ past. ap (λ o. is_moved (unwrap_or o Copy) k ((context w c).cell k)) (mode-past w.size.pages items k spec past))
      (cases_lt (number_of k) (limit w.size.pages (kind_of k)))
    where
      at : (b : Bool) → is_moved (m k) k ((context w c).cell k) ≡ b → IsKey w.size.pages k → is_moved (m k) k ((context w c).cell k) ≡ false
      at true is inside = absurd (let needs = sym (needs-key w c items (context w c).cell refl k inside is) ∙ idle in cc)
      at false is inside = is

  -- once values have moved, nothing is left that moves
  pub settled : (k : Key) → is_moved (m k) k ((context s c).cell k) ≡ false
  unfolding with_shared mode_or_copy
  settled k = at (needs_group w c items) refl
    where
      at : (b : Bool) → needs_group w c items ≡ b → is_moved (m k) k ((context s c).cell k) ≡ false
      at true needs =
          ap (λ (x : Context). is_moved (m k) k (x.cell k)) ((changes.shared w c job items).named needs live)
          ∙ shared_stays k ((context w c).cell k)
      at false idle = ap (λ v. is_moved (m k) k ((context v c).cell k)) ((changes.shared w c job items).none idle) ∙ none-moves idle k

  -- so that what is taken is what a clone gets
  module _ (v : World) (g : Name) (groups : v.groups ≡ s.groups) where
    same_value : (k : Key) (cell : Cell (ValueOf k)) → value_of v k cell ≡ value_of s k cell
    same_value k (cells.Own value) = refl
    same_value k (cells.Common h) = ap (λ x. x.value k) (changes.same_groups s v h groups)

    pub taken-cloned : (k : Key) (n : Mode) → is_moved n k ((context s c).cell k) ≡ false → taken_cell v g n k ((context s c).cell k) ≡ cloned_cell s c k n
    unfolding value_at
    taken-cloned k Copy still = ap cells.Own (same_value k ((context s c).cell k))
    taken-cloned k Share still = ap (λ b. cond b (cells.Common g) ((context s c).cell k)) still
    taken-cloned k Unmap still = refl
    taken-cloned k CopyRead still = ap cells.Own (same_value k ((context s c).cell k))

  module _ (fresh : IsFresh w) (uid : ℕ) (entry : Regs) where
    abbrev made : Name
    made = next_context s job

    abbrev added : World
    added = add_context s job (new_context uid entry)

    fresh_shared : IsFresh s
    fresh_shared = stays_fresh.shared w c job items live fresh

    pub other_name : c ≡ made → ⊥
    other_name same =
        let new = stays_fresh.next_context_is_new s job fresh_shared in
        let old = (changes.shared w c job items).live c ∙ live in
        let both = sym old ∙ ap (is_live s) same ∙ new in cc

    pub same_context : context added c ≡ context s c
    same_context = (changes.context_added s job (new_context uid entry)).others c other_name

    -- nor once the new context is there
    pub still-settled : (v : World) → v ≡ added → (k : Key) → is_moved (m k) k ((context v c).cell k) ≡ false
    still-settled v is k = ap (λ (u : World). is_moved (m k) k ((context u c).cell k)) is ∙ ap (λ (x : Context). is_moved (m k) k (x.cell k)) same_context ∙ settled k

    cloned_cells : (g : Name) (k : Key) → taken_cell added g (m k) k ((context added c).cell k) ≡ cloned_cell s c k (mode_or_copy items k)
    unfolding mode_or_copy
    cloned_cells g k =
        ap (λ (x : Context). taken_cell added g (m k) k (x.cell k)) same_context
        ∙ taken-cloned added g (changes.context_added s job (new_context uid entry)).groups k (m k) (settled k)

    cloned_rights : (p : ℕ) → taken_right (m (Page p)) (is_page ((context added c).cell (Page p))) ((context added c).right p) ≡ cloned_right s c p (mode_or_copy items (Page p))
    unfolding mode_or_copy
    cloned_rights p =
        ap (λ (x : Context). taken_right (m (Page p)) (is_page (x.cell (Page p))) (x.right p)) same_context ∙ right_taken s c p (m (Page p))

    as_cloned : (g : Name) → with_transferred added (Clone g) items (context added c) (new_context uid entry) ≡ cloned_context s c items entry
    unfolding cloned_context
    as_cloned g = λ e. record { cell = λ k. cloned_cells g k e; right = λ p. cloned_rights p e; entry = entry; saved = λ t. None }

    changed_again : (f : Context → Context) → change_context added made f ≡ add_context s job (f (new_context uid entry))
    unfolding change_context add_context change_counters
    changed_again f =
        ap (changed_context added made f) (get-same s.contexts made (new_context uid entry))
        ∙ ap (λ x. record added { contexts = x }) (insert-twice s.contexts made (new_context uid entry) (f (new_context uid entry)))

    pub cloned-world : (g : Name) → followed added (Clone g) items c made ≡ clone_context w c job items entry
    unfolding clone_context
    cloned-world g = changed_again (with_transferred added (Clone g) items (context added c)) ∙ ap (add_context s job) (as_cloned g)

    pub cloned-is : (g : Name) (v : World) (n : Name) → v ≡ added → n ≡ made → followed v (Clone g) items c n ≡ clone_context w c job items entry
    cloned-is g v n is named = (λ e. followed (is e) (Clone g) items c (named e)) ∙ cloned-world g

    -- the ranges of a context do not depend on its registers
    same_ranges : (pages : ℕ) (other : Regs) → ranges pages (cloned_context s c items entry) ≡ ranges pages (cloned_context s c items other)
    unfolding ranges begins_range cloned_context
    same_ranges pages other = refl

    pub clone-few : (ranges_after_clone w c job items).1 ≤ MOST_RANGES → (n : Name) → n ≡ made → ranges_of (clone_context w c job items entry) n ≤ MOST_RANGES
    unfolding ranges_after_clone ranges_of
    clone-few below n named =
        let cloned = changes.cloned w c job items entry in
        subst (λ k. k ≤ MOST_RANGES)
        (sym ((λ e. ranges (cloned.size e).pages (context (clone_context w c job items entry) (named e))) ∙ ap (ranges s.size.pages) cloned.added ∙ same_ranges s.size.pages (context s c).entry))
        below
