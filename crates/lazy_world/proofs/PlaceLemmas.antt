-- Rows of places of which one changes.
use Rattle.std.proofs.Common.{◌≡◌, ℕ, zero, suc, ◌+◌, ◌<◌, List, [], ◌∷◌, ◌++◌, length, set, get_or, replicate, refl, sym, subst, ◌∙◌, ap, arith, cond, eqb, Bool, true, false, ⊎_elim, get_or-set_other, Option}
use Rattle.std.proofs.lemmas.Bool.{cases_eq}
use Rattle.std.proofs.lemmas.Bool.Decides.{nat_tests}
use Rattle.std.proofs.lemmas.List.{get_or-set_same}
use Rattle.lwc_base.specs.declared.cell.Cell.{Cell}
use Rattle.lwc_base.specs.declared.cell.Cell.TheVariants.{Own}
use Rattle.lwc_base.specs.Keys.{with_key}
use Rattle.lwc_types.specs.declared.key.Key.TheVariants.{Page, Slot, Cred}
use Rattle.lwc_types.specs.declared.key.TheConstants.{NOBODY}
use Rattle.lwc_types.specs.declared.page.PageValue.{PageValue}
use Rattle.lwc_types.specs.declared.right.Right.{Right}
use Rattle.fd_table.specs.Slots as slots
use Rattle.cow_space.specs.Maps.{put_page}
use Rattle.cow_space.specs.Cells.{Place, all_write, no_pages, place_of, rights_of}
use Rattle.lazy_world.specs.Cells.{Row, no_row, on_place, put_rights, put_row, rows_of}
use Rattle.lazy_world.specs.Kept.{IsNumbered}
use Rattle.lwc_types.proofs.Small.{at-new}

pub replicate_push : {A : Type 0} (n : ℕ) (x : A) → replicate n x ++ x ∷ [] ≡ replicate (n + 1) x
replicate_push zero x = refl
replicate_push (suc n) x =
    let more : suc n + 1 ≡ suc (n + 1) = omega arith in
    ap (λ l. x ∷ l) (replicate_push n x) ∙ ap (λ m. replicate m x) (sym more)

pub choose : {A : Type 0} (i j : ℕ) (x y : A) → j ≡ i → cond (eqb j i) x y ≡ x
choose i j x y same = let is : eqb j i ≡ true = grind (arith, nat_tests) in ap (λ b. cond b x y) is

pub pass : {A : Type 0} (i j : ℕ) (x y : A) → (j ≡ i → ⊥) → cond (eqb j i) x y ≡ y
pass i j x y other = let is : eqb j i ≡ false = grind (arith, nat_tests) in ap (λ b. cond b x y) is

-- an element of a list with another one at a place
pub set_at : {A : Type 0} (xs : List A) (i j : ℕ) (x d : A) → i < length xs → get_or (set xs i x) j d ≡ cond (eqb j i) x (get_or xs j d)
set_at xs i j x d inside =
    ⊎_elim
    (λ same. ap (λ k. get_or (set xs i x) k d) same ∙ get_or-set_same xs i x d inside ∙ sym (choose i j x (get_or xs j d) same))
    (λ other. get_or-set_other xs i j x d other ∙ sym (pass i j x (get_or xs j d) other))
    (cases_eq j i)

-- the rights of a place change
pub rights-set : (rights : List (ℕ → Right)) (i : ℕ) (right : ℕ → Right) → i < length rights → rights_of (set rights i right) ≡ put_rights (rights_of rights) i right
rights-set rights i right inside = λ e j. set_at rights i j right all_write inside e

-- no place has rights
pub rights-none : (n : ℕ) → rights_of (replicate n all_write) ≡ (λ i. all_write)
rights-none n = λ e i. at-new n i all_write e

-- nothing is at any place
pub rows-none : (n : ℕ) → rows_of (replicate n no_pages) (replicate n slots.no_slots) (replicate n (Own NOBODY)) ≡ (λ i. no_row)
unfolding rows_of
rows-none n = λ e i k. none i k e
  where
    none : (i : ℕ) (k : _) → rows_of (replicate n no_pages) (replicate n slots.no_slots) (replicate n (Own NOBODY)) i k ≡ no_row k
    none i (Page p) = ap (λ (place : Place). place p) (at-new n i no_pages)
    none i (Slot m) = ap (λ (row : ℕ → slots.Slot). (row m).cell) (at-new n i slots.no_slots)
    none i Cred = at-new n i (Own NOBODY)

by_choice : {A B : Type 0} (f : A → B) (b : Bool) (x y : A) → f (cond b x y) ≡ cond b (f x) (f y)
by_choice f true x y = refl
by_choice f false x y = refl

-- rows are equal that are equal at the place and everywhere else
pub same_rows : (old new : ℕ → Row) (i : ℕ) (row : Row) → ((k : _) → new i k ≡ row k) → ((j : ℕ) → (j ≡ i → ⊥) → (k : _) → new j k ≡ old j k) →
    new ≡ put_row old i row
same_rows old new i row here others = λ e j k. at j k e
  where
    at : (j : ℕ) (k : _) → new j k ≡ put_row old i row j k
    at j k =
        ⊎_elim
        (λ same. ap (λ m. new m k) same ∙ here k ∙ sym (ap (λ (r : Row). r k) (choose i j row (old j) same)))
        (λ other. others j other k ∙ sym (ap (λ (r : Row). r k) (pass i j row (old j) other)))
        (cases_eq j i)

module _ (pages : List Place) (table : List (ℕ → slots.Slot)) (uids : List (Cell ℕ)) (i : ℕ) where
  abbrev old : ℕ → Row
  old = rows_of pages table uids

  -- the cell of a slot of a place changes
  pub slot-put : (n : ℕ) (slot : slots.Slot) → i < length table →
      rows_of pages (set table i (slots.put_slot (slots.row_of table i) n slot)) uids ≡ put_row old i (with_key Cell (Slot n) slot.cell (old i))
  unfolding rows_of
  slot-put n slot inside = same_rows old _ i _ here others
    where
      here : (k : _) → rows_of pages (set table i (slots.put_slot (slots.row_of table i) n slot)) uids i k ≡ with_key Cell (Slot n) slot.cell (old i) k
      here (Page p) = refl
      here (Slot m) = ap (λ (row : ℕ → slots.Slot). (row m).cell) (get_or-set_same table i _ slots.no_slots inside) ∙ by_choice (λ (s : slots.Slot). s.cell) (eqb m n) slot (slots.row_of table i m)
      here Cred = refl

      others : (j : ℕ) → (j ≡ i → ⊥) → (k : _) → rows_of pages (set table i (slots.put_slot (slots.row_of table i) n slot)) uids j k ≡ old j k
      others j other (Page p) = refl
      others j other (Slot m) = ap (λ (row : ℕ → slots.Slot). (row m).cell) (get_or-set_other table i j _ slots.no_slots other)
      others j other Cred = refl

  -- the cell of the credential of a place changes
  pub uid-put : (uid : Cell ℕ) → i < length uids → rows_of pages table (set uids i uid) ≡ put_row old i (with_key Cell Cred uid (old i))
  unfolding rows_of
  uid-put uid inside = same_rows old _ i _ here others
    where
      here : (k : _) → rows_of pages table (set uids i uid) i k ≡ with_key Cell Cred uid (old i) k
      here (Page p) = refl
      here (Slot m) = refl
      here Cred = get_or-set_same uids i uid (Own NOBODY) inside

      others : (j : ℕ) → (j ≡ i → ⊥) → (k : _) → rows_of pages table (set uids i uid) j k ≡ old j k
      others j other (Page p) = refl
      others j other (Slot m) = refl
      others j other Cred = get_or-set_other uids i j uid (Own NOBODY) other

  -- all pages of a place change
  pub pages-put : (place : Place) (row : Row) → i < length pages → ((k : _) → row k ≡ on_place place (old i) k) → rows_of (set pages i place) table uids ≡ put_row old i row
  unfolding rows_of
  pages-put place row inside is = same_rows old _ i _ here others
    where
      here : (k : _) → rows_of (set pages i place) table uids i k ≡ row k
      here (Page p) = ap (λ (pl : Place). pl p) (get_or-set_same pages i place no_pages inside) ∙ sym (is (Page p))
      here (Slot m) = sym (is (Slot m))
      here Cred = sym (is Cred)

      others : (j : ℕ) → (j ≡ i → ⊥) → (k : _) → rows_of (set pages i place) table uids j k ≡ old j k
      others j other (Page p) = ap (λ (pl : Place). pl p) (get_or-set_other pages i j place no_pages other)
      others j other (Slot m) = refl
      others j other Cred = refl

  -- one page of a place changes
  pub page-put : (p : ℕ) (cell : Cell (Option PageValue)) → i < length pages → rows_of (set pages i (put_page (place_of pages i) p cell)) table uids ≡ put_row old i (with_key Cell (Page p) cell (old i))
  unfolding rows_of
  page-put p cell inside = pages-put (put_page (place_of pages i) p cell) (with_key Cell (Page p) cell (old i)) inside each
    where
      each : (k : _) → with_key Cell (Page p) cell (old i) k ≡ on_place (put_page (place_of pages i) p cell) (old i) k
      each (Page q) = refl
      each (Slot m) = refl
      each Cred = refl

-- each slot keeps the number of the context that it names, once the slots of a place are others that do
pub numbered-set : (table : List (ℕ → slots.Slot)) (i : ℕ) (row : ℕ → slots.Slot) → i < length table → ((m : ℕ) → IsNumbered (row m)) →
    ((j m : ℕ) → IsNumbered (slots.row_of table j m)) → (j m : ℕ) → IsNumbered (slots.row_of (set table i row) j m)
numbered-set table i row inside here old j m =
    ⊎_elim
    (λ same. subst (λ q. IsNumbered (slots.row_of (set table i row) q m)) (sym same)
    (subst (λ (r : ℕ → slots.Slot). IsNumbered (r m)) (sym (get_or-set_same table i row slots.no_slots inside)) (here m)))
    (λ other. subst (λ (r : ℕ → slots.Slot). IsNumbered (r m)) (sym (get_or-set_other table i j row slots.no_slots other)) (old j m))
    (cases_eq j i)

-- so do the slots of a place with another one that does
pub numbered-put : (row : ℕ → slots.Slot) (n : ℕ) (slot : slots.Slot) → IsNumbered slot → ((m : ℕ) → IsNumbered (row m)) → (m : ℕ) → IsNumbered (slots.put_slot row n slot m)
numbered-put row n slot here old m = at (eqb m n)
  where
    at : (b : Bool) → IsNumbered (cond b slot (row m))
    at true = here
    at false = old m

pub numbered-none : (count i n : ℕ) → IsNumbered (slots.row_of (replicate count slots.no_slots) i n)
numbered-none count i n = subst (λ (row : ℕ → slots.Slot). IsNumbered (row n)) (sym (at-new count i slots.no_slots)) refl
