-- A transfer by two names that no cell has yet gives pages as many ranges by the one as by the other.
use Rattle.std.proofs.Common.{◌≡◌, ℕ, zero, suc, arith, eqb, refl, sym, ap, ◌∙◌, Bool, true, false, cond, Option, Some, None}
use Rattle.std.specs.Prelude.{◌&&◌, not, count_by, unwrap_or}
use Rattle.std.specs.Ordering.{is_eq}
use Rattle.std.specs.Cmp.{eq_by_cmp_equiv}
use Rattle.std.specs.List.{range_with_len}
use Rattle.std.proofs.lemmas.Bool.{false≢true}
use Rattle.std.proofs.lemmas.Bool.Decides.{nat_tests}
use Rattle.lwc_base.specs.declared.cell.Cell.{Cell}
use Rattle.lwc_base.specs.declared.cell.Cell.TheVariants as cells
use Rattle.lwc_base.specs.declared.item.Mode.{Mode}
use Rattle.lwc_base.specs.declared.item.Mode.TheVariants.{Copy, Share, Unmap, CopyRead}
use Rattle.lwc_base.specs.Keys.{ValueOf}
use Rattle.lwc_base.specs.Ranges.{are_of_one_kind, begins_range, is_page, ranges}
use Rattle.lwc_base.specs.Rights.{same_right}
use Rattle.lwc_base.specs.Sharing.{is_moved}
use Rattle.lwc_base.specs.World.{World, Context}
use Rattle.lwc_types.specs.declared.key.Key.{Key}
use Rattle.lwc_types.specs.declared.key.Key.TheVariants.{Page}
use Rattle.lwc_types.specs.declared.name.Name.{Name}
use Rattle.lwc_types.specs.declared.page.PageValue.{PageValue}
use Rattle.lwc_types.specs.declared.right.Right.{Right}
use Rattle.lwc_types.specs.Names.{name_cmp}
use Rattle.lazy_world.specs.Transfers.{transferred_cell, transferred_right, taken_cell}
use Rattle.lazy_world.specs.declared.transfer.Transfer.{Transfer}
use Rattle.lazy_world.specs.declared.transfer.Transfer.TheVariants.{Mark, Move, Clone, Overlay}
use Rattle.lwc_base.proofs.Facts.{orders}
use Rattle.lwc_types.proofs.Orders.{same_name}

-- ranges depend on the cells and the rights of a context alone
pub ranges-cells : (pages : ℕ) (x y : Context) → ((k : Key) → x.cell k ≡ y.cell k) → ((p : ℕ) → x.right p ≡ y.right p) → ranges pages x ≡ ranges pages y
unfolding ranges begins_range
ranges-cells pages x y same rights = λ e. ranges pages (record { cell = λ k. same k e; right = λ p. rights p e; entry = x.entry; saved = x.saved })

own_kind : (g : Name) → are_of_one_kind (cells.Common g) (cells.Common g) ≡ true
own_kind g = (eq_by_cmp_equiv orders.names).refl g

other_name : (g h : Name) → (◌≡◌ {A = Cell (Option PageValue)} (cells.Common h) (cells.Common g) → ⊥) → (b : Bool) → is_eq (name_cmp g h) ≡ b → b ≡ false
other_name g h other true is = absurd (other (ap cells.Common (sym (same_name g h is))))
other_name g h other false is = refl

back_name : (g h : Name) → (◌≡◌ {A = Cell (Option PageValue)} (cells.Common h) (cells.Common g) → ⊥) → (b : Bool) → is_eq (name_cmp h g) ≡ b → b ≡ false
back_name g h other true is = absurd (other (ap cells.Common (same_name h g is)))
back_name g h other false is = refl

apart_left : (g : Name) (cell : Cell (Option PageValue)) → (cell ≡ cells.Common g → ⊥) → are_of_one_kind (cells.Common g) cell ≡ false
apart_left g (cells.Own v) other = refl
apart_left g (cells.Common h) other = other_name g h other (is_eq (name_cmp g h)) refl

apart_right : (g : Name) (cell : Cell (Option PageValue)) → (cell ≡ cells.Common g → ⊥) → are_of_one_kind cell (cells.Common g) ≡ false
apart_right g (cells.Own None) other = refl
apart_right g (cells.Own (Some v)) other = refl
apart_right g (cells.Common h) other = back_name g h other (is_eq (name_cmp h g)) refl

module _ (x y : Context) (g h : Name) (moved : ℕ → Bool)
    (on_x : (p : ℕ) → moved p ≡ true → x.cell (Page p) ≡ cells.Common g) (on_y : (p : ℕ) → moved p ≡ true → y.cell (Page p) ≡ cells.Common h)
    (off : (p : ℕ) → moved p ≡ false → x.cell (Page p) ≡ y.cell (Page p))
    (away_x : (p : ℕ) → moved p ≡ false → x.cell (Page p) ≡ cells.Common g → ⊥) (away_y : (p : ℕ) → moved p ≡ false → y.cell (Page p) ≡ cells.Common h → ⊥)
    (rights : (p : ℕ) → x.right p ≡ y.right p) where
  same_page : (p : ℕ) (b : Bool) → moved p ≡ b → is_page (x.cell (Page p)) ≡ is_page (y.cell (Page p))
  same_page p true is = ap is_page (on_x p is) ∙ sym (ap is_page (on_y p is))
  same_page p false is = ap is_page (off p is)

  same_kind : (p q : ℕ) (a b : Bool) → moved p ≡ a → moved q ≡ b → are_of_one_kind (x.cell (Page p)) (x.cell (Page q)) ≡ are_of_one_kind (y.cell (Page p)) (y.cell (Page q))
  same_kind p q true true is too =
      (λ e. are_of_one_kind (on_x p is e) (on_x q too e)) ∙ own_kind g ∙ sym (own_kind h) ∙ sym (λ e. are_of_one_kind (on_y p is e) (on_y q too e))
  same_kind p q true false is too =
      ap (λ c. are_of_one_kind c (x.cell (Page q))) (on_x p is) ∙ apart_left g (x.cell (Page q)) (away_x q too)
      ∙ sym (ap (λ c. are_of_one_kind c (y.cell (Page q))) (on_y p is) ∙ apart_left h (y.cell (Page q)) (away_y q too))
  same_kind p q false true is too =
      ap (are_of_one_kind (x.cell (Page p))) (on_x q too) ∙ apart_right g (x.cell (Page p)) (away_x p is)
      ∙ sym (ap (are_of_one_kind (y.cell (Page p))) (on_y q too) ∙ apart_right h (y.cell (Page p)) (away_y p is))
  same_kind p q false false is too = λ e. are_of_one_kind (off p is e) (off q too e)

  same_begin : (p : ℕ) → begins_range x p ≡ begins_range y p
  unfolding begins_range
  same_begin zero = ap (λ b. b && not false) (same_page zero (moved zero) refl)
  same_begin (suc p) = λ e. same_page (suc p) (moved (suc p)) refl e && not (same_kind p (suc p) (moved p) (moved (suc p)) refl refl e && same_right (rights p e) (rights (suc p) e))

  pub renamed-ranges : (pages : ℕ) → ranges pages x ≡ ranges pages y
  unfolding ranges
  renamed-ranges pages = λ e. count_by (λ p. same_begin p e) (range_with_len 0 pages)

-- the transfer with another name for what moves
abbrev pub with_name : Transfer → Name → Transfer
with_name (Mark g) h = Mark h
with_name Move h = Move
with_name (Clone g) h = Clone h
with_name (Overlay g) h = Overlay h

-- rights go by no name
pub right-named : (transfer : Transfer) (g h : Name) (m : Option Mode) (p : ℕ) (cell : Cell (Option PageValue)) (right old : Right) →
    transferred_right (with_name transfer g) m p cell right old ≡ transferred_right (with_name transfer h) m p cell right old
right-named (Mark n) g h m p cell right old = refl
right-named Move g h m p cell right old = refl
right-named (Clone n) g h m p cell right old = refl
right-named (Overlay n) g h m p cell right old = refl

-- whether a cell by a transfer becomes common of the new group
abbrev pub is_new : Transfer → Option Mode → (k : Key) → Cell (ValueOf k) → Bool
is_new Move m k cell = false
is_new transfer m k cell = is_moved (unwrap_or m Copy) k cell

module _ (w : World) (k : Key) (cell old : Cell (ValueOf k)) (h : Name) where
  taken_new : (m : Mode) → is_moved m k cell ≡ true → taken_cell w h m k cell ≡ cells.Common h
  taken_new Copy is = absurd (let e = is in cc)
  taken_new Share is = ap (λ b. cond b (cells.Common h) cell) is
  taken_new Unmap is = absurd (let e = is in cc)
  taken_new CopyRead is = absurd (let e = is in cc)

  pub transferred-new : (transfer : Transfer) (m : Option Mode) → is_new transfer m k cell ≡ true → transferred_cell w (with_name transfer h) m k cell old ≡ cells.Common h
  transferred-new (Mark g) m is = ap (λ b. cond b (cells.Common h) cell) is
  transferred-new Move m is = absurd (let e = is in cc)
  transferred-new (Clone g) m is = taken_new (unwrap_or m Copy) is
  transferred-new (Overlay g) None is = absurd (let e = is in cc)
  transferred-new (Overlay g) (Some m) is = taken_new m is

  taken_old : (m : Mode) (g : Name) → is_moved m k cell ≡ false → taken_cell w h m k cell ≡ taken_cell w g m k cell
  taken_old Copy g is = refl
  taken_old Share g is = ap (λ b. cond b (cells.Common h) cell) is ∙ sym (ap (λ b. cond b (cells.Common g) cell) is)
  taken_old Unmap g is = refl
  taken_old CopyRead g is = refl

  pub transferred-old : (transfer : Transfer) (m : Option Mode) (g : Name) → is_new transfer m k cell ≡ false → transferred_cell w (with_name transfer h) m k cell old ≡ transferred_cell w (with_name transfer g) m k cell old
  transferred-old (Mark n) m g is = ap (λ b. cond b (cells.Common h) cell) is ∙ sym (ap (λ b. cond b (cells.Common g) cell) is)
  transferred-old Move m g is = refl
  transferred-old (Clone n) m g is = taken_old (unwrap_or m Copy) g is
  transferred-old (Overlay n) None g is = refl
  transferred-old (Overlay n) (Some m) g is = taken_old m g is

  module _ (here : cell ≡ cells.Common h → ⊥) (there : old ≡ cells.Common h → ⊥) where
    no_own : (value : ValueOf k) → ◌≡◌ {A = Cell (ValueOf k)} (cells.Own value) (cells.Common h) → ⊥
    no_own value e = let none = e in cc

    taken_away : (m : Mode) → is_moved m k cell ≡ false → taken_cell w h m k cell ≡ cells.Common h → ⊥
    taken_away Copy is e = no_own _ e
    taken_away Share is e = here (sym (ap (λ b. cond b (cells.Common h) cell) is) ∙ e)
    taken_away Unmap is e = no_own _ e
    taken_away CopyRead is e = no_own _ e

    pub transferred-away : (transfer : Transfer) (m : Option Mode) → is_new transfer m k cell ≡ false → transferred_cell w (with_name transfer h) m k cell old ≡ cells.Common h → ⊥
    transferred-away (Mark n) m is e = here (sym (ap (λ b. cond b (cells.Common h) cell) is) ∙ e)
    transferred-away Move m is e = no_own _ e
    transferred-away (Clone n) m is e = taken_away (unwrap_or m Copy) is e
    transferred-away (Overlay n) None is e = there e
    transferred-away (Overlay n) (Some m) is e = taken_away m is e

-- names with another job or another number are two
pub names-differ : (c d : Name) → (eqb c.job d.job && eqb c.k d.k) ≡ false → c ≡ d → ⊥
names-differ c d differ same = false≢true (sym differ ∙ ap (λ (e : Name). eqb e.job d.job && eqb e.k d.k) same ∙ itself d.job d.k)
  where
    itself : (m n : ℕ) → (eqb m m && eqb n n) ≡ true
    itself m n = grind (arith, nat_tests)
