-- What is put under a key, under other numbers.
use Rattle.std.proofs.Common.{◌≡◌, ℕ, refl, ◌∙◌, Bool, true, false, cond, eqb, Some}
use Rattle.lwc_base.specs.Cells.{put_at, put_in, put_page, put_slot, put_uid, with_cell, with_value}
use Rattle.lwc_base.specs.Keys.{ValueOf, is_there, with_key}
use Rattle.lwc_base.specs.World.{World, Context, Group, change_context, context}
use Rattle.lwc_base.specs.declared.cell.Cell.{Cell}
use Rattle.lwc_base.specs.declared.cell.Cell.TheVariants.{Own, Common}
use Rattle.lwc_base.specs.declared.descriptor.Descriptor.{Descriptor}
use Rattle.lwc_types.specs.declared.key.Key.{Key}
use Rattle.lwc_types.specs.declared.key.Key.TheVariants.{Page, Slot, Cred}
use Rattle.lwc_types.specs.declared.name.Name.{Name}
use Rattle.lwc_types.specs.declared.page.PageValue.{PageValue}
use Rattle.lwc_names.proofs.Worlds.{change_context-shifted, change_group-shifted, context-shifted, there-shifted}
use Rattle.lwc_names.specs.Shifts.{shifted_cell, shifted_context, shifted_descriptor, shifted_group, shifted_name, shifted_page, shifted_value, shifted_world}

pub branch : {A B : Type 0} (f : A → B) (b : Bool) (x y : A) → cond b (f x) (f y) ≡ f (cond b x y)
branch f true x y = refl
branch f false x y = refl

module _ (r : ℕ) where
  keyed_cell : (k q : Key) (cell : Cell (ValueOf k)) (old : (q : Key) → Cell (ValueOf q)) → with_key Cell k (shifted_cell r k cell) (λ q. shifted_cell r q (old q)) q ≡ shifted_cell r q (with_key Cell k cell old q)
  keyed_cell (Page p) (Page q) cell old = branch (shifted_cell r (Page q)) (eqb q p) cell (old (Page q))
  keyed_cell (Page p) (Slot q) cell old = refl
  keyed_cell (Page p) Cred cell old = refl
  keyed_cell (Slot p) (Page q) cell old = refl
  keyed_cell (Slot p) (Slot q) cell old = branch (shifted_cell r (Slot q)) (eqb q p) cell (old (Slot q))
  keyed_cell (Slot p) Cred cell old = refl
  keyed_cell Cred (Page q) cell old = refl
  keyed_cell Cred (Slot q) cell old = refl
  keyed_cell Cred Cred cell old = refl

  keyed_value : (k q : Key) (value : ValueOf k) (old : (q : Key) → ValueOf q) → with_key (λ T. T) k (shifted_value r k value) (λ q. shifted_value r q (old q)) q ≡ shifted_value r q (with_key (λ T. T) k value old q)
  keyed_value (Page p) (Page q) value old = branch (shifted_value r (Page q)) (eqb q p) value (old (Page q))
  keyed_value (Page p) (Slot q) value old = refl
  keyed_value (Page p) Cred value old = refl
  keyed_value (Slot p) (Page q) value old = refl
  keyed_value (Slot p) (Slot q) value old = branch (shifted_value r (Slot q)) (eqb q p) value (old (Slot q))
  keyed_value (Slot p) Cred value old = refl
  keyed_value Cred (Page q) value old = refl
  keyed_value Cred (Slot q) value old = refl
  keyed_value Cred Cred value old = refl

  pub with_cell-shifted : (k : Key) (cell : Cell (ValueOf k)) (x : Context) → with_cell k (shifted_cell r k cell) (shifted_context r x) ≡ shifted_context r (with_cell k cell x)
  with_cell-shifted k cell x = λ i. record (shifted_context r x) { cell = λ q. keyed_cell k q cell x.cell i }

  pub with_value-shifted : (k : Key) (value : ValueOf k) (x : Group) → with_value k (shifted_value r k value) (shifted_group r x) ≡ shifted_group r (with_value k value x)
  with_value-shifted k value x = λ i. record { value = λ q. keyed_value k q value x.value i }

  module _ (w : World) where
    put_in-shifted : (c : Name) (k : Key) (value : ValueOf k) (cell : Cell (ValueOf k)) → put_in (shifted_world r w) (shifted_name r c) k (shifted_value r k value) (shifted_cell r k cell) ≡ shifted_world r (put_in w c k value cell)
    put_in-shifted c k value (Own old) =
        (λ i. cond (there-shifted r k old i) (change_context-shifted r w c (with_cell k (Own value)) (with_cell k (Own (shifted_value r k value))) (with_cell-shifted k (Own value)) i) (shifted_world r w))
        ∙ branch (shifted_world r) (is_there k old) (change_context w c (with_cell k (Own value))) w
    put_in-shifted c k value (Common g) = change_group-shifted r w g (with_value k value) (with_value k (shifted_value r k value)) (with_value-shifted k value)

    pub put_at-shifted : (c : Name) (k : Key) (value : ValueOf k) → put_at (shifted_world r w) (shifted_name r c) k (shifted_value r k value) ≡ shifted_world r (put_at w c k value)
    unfolding put_at
    put_at-shifted c k value = (λ i. put_in (shifted_world r w) (shifted_name r c) k (shifted_value r k value) ((context-shifted r w c i).cell k)) ∙ put_in-shifted c k value ((context w c).cell k)

    pub put_page-shifted : (c : Name) (p : ℕ) (value : PageValue) → put_page (shifted_world r w) (shifted_name r c) p (shifted_page r value) ≡ shifted_world r (put_page w c p value)
    put_page-shifted c p value = put_at-shifted c (Page p) (Some value)

    pub put_slot-shifted : (c : Name) (n : ℕ) (value : Descriptor) → put_slot (shifted_world r w) (shifted_name r c) n (shifted_descriptor r value) ≡ shifted_world r (put_slot w c n value)
    put_slot-shifted c n value = put_at-shifted c (Slot n) value

    pub put_uid-shifted : (c : Name) (uid : ℕ) → put_uid (shifted_world r w) (shifted_name r c) uid ≡ shifted_world r (put_uid w c uid)
    put_uid-shifted c uid = put_at-shifted c Cred uid
