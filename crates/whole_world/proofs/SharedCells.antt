-- The cells of a context once what is under share has moved out of it.
use Rattle.std.proofs.Common.{◌≡◌, ℕ, ◌≤◌, ap, refl, sym, ◌∙◌, Bool, true, false, cond, List, None, Some, ⊎_elim}
use Rattle.std.proofs.lemmas.Bool.{cases_lt, false≢true}
use Rattle.lwc_base.specs.declared.cell.Cell.TheVariants.{Common, Own}
use Rattle.lwc_base.specs.declared.item.Item.{Item}
use Rattle.lwc_base.specs.declared.cell.Cell.{Cell}
use Rattle.lwc_base.specs.declared.item.Mode.{Mode}
use Rattle.lwc_base.specs.declared.item.Mode.TheVariants.{Copy, CopyRead, Share, Unmap}
use Rattle.lwc_base.specs.Keys.{ValueOf, is_there}
use Rattle.lwc_base.specs.Modes.{IsKey, IsSpec, kind_of, limit, mode_or_copy, number_of}
use Rattle.lwc_base.specs.Ranges.{has_page, is_page}
use Rattle.lwc_base.specs.Rights.{read_right, right_at}
use Rattle.lwc_base.specs.Sharing.{cloned_right, with_shared, is_moved, needs_group, share, shared_cell}
use Rattle.lwc_base.specs.World.{World, Context, context, is_live, next_group}
use Rattle.lwc_types.specs.declared.key.Key.{Key}
use Rattle.lwc_types.specs.declared.key.Key.TheVariants.{Page}
use Rattle.lwc_types.specs.declared.name.Name.{Name}
use Rattle.whole_world.proofs.Unnamed.{copied_past}
use Rattle.lwc_base.proofs.Facts.{changes}
use Rattle.lwc_base.proofs.Needs.{needed-own}

module _ (w : World) (c : Name) (job : ℕ) (items : List Item) (live : is_live w c ≡ true) (spec : IsSpec w.size.pages items) where
  abbrev here : Context
  here = context w c

  none_there : (b : Bool) → (b ≡ true → ⊥) → b ≡ false
  none_there b = elim b as (λ b. (b ≡ true → ⊥) → b ≡ false) [ true ↦ λ no. absurd (no refl) | false ↦ λ no. refl ]

  none_moves : needs_group w c items ≡ false → (k : Key) → IsKey w.size.pages k → (mode : Mode) (cell : Cell (ValueOf k)) → mode_or_copy items k ≡ mode → here.cell k ≡ cell →
      is_moved mode k cell ≡ false
  none_moves none k within Copy cell is cell_is = refl
  none_moves none k within Unmap cell is cell_is = refl
  none_moves none k within CopyRead cell is cell_is = refl
  none_moves none k within Share (Common g) is cell_is = refl
  none_moves none k within Share (Own value) is cell_is =
      none_there (is_there k value) (λ there. false≢true (sym none ∙ needed-own w c items k value within is cell_is there))

  -- where no value moves, none moves under any key
  no_key_moves : needs_group w c items ≡ false → (k : Key) → is_moved (mode_or_copy items k) k (here.cell k) ≡ false
  no_key_moves none k =
      ⊎_elim (λ (h : IsKey w.size.pages k). none_moves none k h (mode_or_copy items k) (here.cell k) refl refl)
      (λ (h : limit w.size.pages (kind_of k) ≤ number_of k). ap (λ m. is_moved m k (here.cell k)) (copied_past w.size.pages k items spec h))
      (cases_lt (number_of k) (limit w.size.pages (kind_of k)))

  left_or_not : (b : Bool) → needs_group w c items ≡ b → context (share w c job items) c ≡ with_shared (next_group w job) items here
  unfolding with_shared
  left_or_not true needs = (changes.shared w c job items).named needs live
  left_or_not false needs =
      ap (λ v. context v c) ((changes.shared w c job items).none needs)
      ∙ sym (λ i. record here { cell = λ k. cond (no_key_moves needs k i) (Common (next_group w job)) (here.cell k) })

  -- whether or not values move, the context is as if they had
  pub context-shared : context (share w c job items) c ≡ with_shared (next_group w job) items here
  context-shared = left_or_not _ refl

  -- its pages keep their rights
  pub right-shared : (p : ℕ) → right_at (share w c job items) c p ≡ right_at w c p
  unfolding with_shared
  right-shared p = ap (λ (x : Context). x.right p) context-shared

  still_page : (g : Name) (p : ℕ) (mode : Mode) (cell : Cell (ValueOf (Page p))) → is_page (shared_cell g mode (Page p) cell) ≡ is_page cell
  still_page g p Copy cell = refl
  still_page g p Unmap cell = refl
  still_page g p CopyRead cell = refl
  still_page g p Share (Common h) = refl
  still_page g p Share (Own None) = refl
  still_page g p Share (Own (Some value)) = refl

  -- and stay where they are
  has-shared : (p : ℕ) → has_page (context (share w c job items) c) p ≡ has_page here p
  unfolding with_shared
  has-shared p = ap (λ (x : Context). has_page x p) context-shared ∙ still_page (next_group w job) p (mode_or_copy items (Page p)) (here.cell (Page p))

  -- so a new context gets the same rights
  pub cloned_right-shared : (p : ℕ) (mode : Mode) → cloned_right (share w c job items) c p mode ≡ cloned_right w c p mode
  cloned_right-shared p Copy = right-shared p
  cloned_right-shared p Share = right-shared p
  cloned_right-shared p Unmap = refl
  cloned_right-shared p CopyRead = ap read_right (has-shared p)
