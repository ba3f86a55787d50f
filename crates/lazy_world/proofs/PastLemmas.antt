-- Keys past those that there are: no item names them, and a place keeps what it has there.
use Rattle.std.proofs.Common.{◌≡◌, ℕ, zero, suc, ◌+◌, ◌<◌, ◌≤◌, ⊎_elim, true, false, List, [], ◌∷◌, arith, get_or, get_or-set_other, length, set, leb, ltb, refl, replicate, sym, ap, subst, ◌∙◌, Option, None}
use Rattle.std.specs.Prelude.{◌&&◌, nat_le, nat_lt}
use Rattle.std.specs.Option.{option_map}
use Rattle.std.proofs.lemmas.Bool.{and_right, cases_eq, cases_lt, le-ltb}
use Rattle.std.proofs.lemmas.List.{get_or-set_same}
use Rattle.lwc_base.specs.declared.cell.Cell.{Cell}
use Rattle.lwc_base.specs.declared.cell.Cell.TheVariants.{Own}
use Rattle.lwc_base.specs.declared.item.Item.{Item}
use Rattle.lwc_base.specs.Cells.{value_of}
use Rattle.lwc_base.specs.Keys.{ValueOf, nothing}
use Rattle.lwc_base.specs.Modes.{IsSpec, kind_of, limit, mode, names, number_of, same_kind}
use Rattle.lwc_base.specs.World.{World}
use Rattle.lwc_types.specs.declared.key.Key.{Key}
use Rattle.lwc_types.specs.declared.key.Key.TheVariants.{Page, Slot, Cred}
use Rattle.lwc_types.specs.declared.key.Kind.{Kind}
use Rattle.lwc_types.specs.declared.key.Kind.TheVariants as kinds
use Rattle.lwc_types.specs.declared.limits.TheConstants.{MOST_PAGES}
use Rattle.cow_space.specs.declared.page_runs.Origin.{Origin}
use Rattle.item_modes.proofs.ModeLemmas.{find_none}
use Rattle.lazy_world.specs.Cells.{Row, is_nothing}
use Rattle.lazy_world.specs.Transfers.{Gives, given_or, transferred_cell, transferred_row}
use Rattle.lazy_world.specs.Sound.{IsWithin}
use Rattle.lazy_world.specs.Origins.{page_origin, slot_origin, origin_row}
use Rattle.lazy_world.specs.declared.pieces.Origins.{Origins}
use Rattle.lazy_world.specs.declared.transfer.Transfer.{Transfer}
use Rattle.lazy_world.specs.declared.transfer.Transfer.TheVariants.{Mark, Move, Clone, Overlay}
use Rattle.lazy_world.proofs.AddLemmas.{no_page, no_slot}

past_kind : (pages : ℕ) (a b : Kind) (from to n : ℕ) → to ≤ limit pages a → limit pages b ≤ n → (same_kind a b && nat_le from n && nat_lt n to) ≡ false
past_kind pages kinds.Page kinds.Page from to n below past = and_right (leb from n) (ltb n to) (le-ltb n to (omega (arith, below, past)))
past_kind pages kinds.Slot kinds.Slot from to n below past = and_right (leb from n) (ltb n to) (le-ltb n to (omega (arith, below, past)))
past_kind pages kinds.Cred kinds.Cred from to n below past = and_right (leb from n) (ltb n to) (le-ltb n to (omega (arith, below, past)))
past_kind pages kinds.Page kinds.Slot from to n below past = refl
past_kind pages kinds.Page kinds.Cred from to n below past = refl
past_kind pages kinds.Slot kinds.Page from to n below past = refl
past_kind pages kinds.Slot kinds.Cred from to n below past = refl
past_kind pages kinds.Cred kinds.Page from to n below past = refl
past_kind pages kinds.Cred kinds.Slot from to n below past = refl

-- no item names a key past those that there are
pub mode-past : (pages : ℕ) (items : List Item) (k : Key) → IsSpec pages items → limit pages (kind_of k) ≤ number_of k → mode items k ≡ None
unfolding mode
mode-past pages items k spec past =
    ap (option_map (λ (item : Item). item.mode))
    (find_none (λ item. names item k) items
    (λ i d inside. let item = get_or items i d in past_kind pages item.kind (kind_of k) item.from item.to (number_of k) (spec.each i d inside).within past))

nothing-past : (pages : ℕ) (k : Key) (cell : Cell (ValueOf k)) → limit pages (kind_of k) ≤ number_of k → is_nothing k cell ≡ true → cell ≡ Own (nothing k)
nothing-past pages (Page p) cell past none = no_page cell p none
nothing-past pages (Slot n) cell past none = no_slot cell n none
nothing-past pages Cred cell past none = absurd (omega (arith, past))

module _ (w : World) (pages : ℕ) (items : List Item) (spec : IsSpec pages items) (transfer : Transfer) (row old : Row) (within : IsWithin pages row) (within_old : IsWithin pages old) where
  transferred-nothing : (transfer : Transfer) (k : Key) (cell o : Cell (ValueOf k)) → cell ≡ Own (nothing k) → o ≡ Own (nothing k) → transferred_cell w transfer None k cell o ≡ o
  transferred-nothing (Mark g) k cell o is same = is ∙ sym same
  transferred-nothing Move k cell o is same = sym same
  transferred-nothing (Clone g) k cell o is same = ap (λ c. Own (value_of w k c)) is ∙ sym same
  transferred-nothing (Overlay g) k cell o is same = refl

  pub transferred-past : (k : Key) → limit pages (kind_of k) ≤ number_of k → transferred_row w transfer items row old k ≡ old k
  transferred-past k past =
      ap (λ m. transferred_cell w transfer m k (row k) (old k)) (mode-past pages items k spec past)
      ∙ transferred-nothing transfer k (row k) (old k) (nothing-past pages k (row k) past (within k past)) (nothing-past pages k (old k) past (within_old k past))

  pub transferred-within : IsWithin pages (transferred_row w transfer items row old)
  transferred-within k past = ap (is_nothing k) (transferred-past k past) ∙ within_old k past

-- one more slot has its origin
pub slot-more : (P : ℕ → Option Origin → Type 0) (origins : List (Option Origin)) (n m : ℕ) (s : Option Origin) → n < length origins →
    ((m : ℕ) → m < n → P m (slot_origin origins m)) → P n s → m < n + 1 → P m (slot_origin (set origins n s) m)
slot-more P origins n m s inside before here below =
    ⊎_elim
    (λ same. subst (λ i. P i (slot_origin (set origins n s) i)) (sym same) (subst (P n) (sym (get_or-set_same origins n s None inside)) here))
    (λ other. subst (P m) (sym (get_or-set_other origins n m s None other)) (before m (omega (arith, below, other))))
    (cases_eq m n)

-- later ones stay
pub slot-later : (origins : List (Option Origin)) (n m : ℕ) (s : Option Origin) → n + 1 ≤ m → slot_origin (set origins n s) m ≡ slot_origin origins m
slot-later origins n m s past = get_or-set_other origins n m s None (λ same. omega (arith, same, past))

pub no_origin : (count n : ℕ) → slot_origin (replicate count None) n ≡ None
no_origin zero n = refl
no_origin (suc count) zero = refl
no_origin (suc count) (suc n) = no_origin count n

pub no_slot_origin : (origins : List (Option Origin)) (n : ℕ) → length origins ≤ n → slot_origin origins n ≡ None
no_slot_origin [] n past = refl
no_slot_origin (s ∷ origins) zero past = absurd (omega (arith, past))
no_slot_origin (s ∷ origins) (suc n) past = no_slot_origin origins n (omega (arith, past))

-- the row that origins give is the one that is transferred
pub origin-transferred : (w : World) (pages count : ℕ) (items : List Item) (transfer : Transfer) (rows : ℕ → Row) (from to : ℕ) (s : Origins) → pages ≤ MOST_PAGES → length s.slots ≡ 64 →
    IsSpec pages items → IsWithin pages (rows from) → IsWithin pages (rows to) →
    ((q : ℕ) → q < MOST_PAGES → given_or rows (Page q) (rows to (Page q)) (page_origin s.pages q) ≡ transferred_row w transfer items (rows from) (rows to) (Page q)) →
    ((q : ℕ) → MOST_PAGES ≤ q → given_or rows (Page q) (rows to (Page q)) (page_origin s.pages q) ≡ rows to (Page q)) →
    ((n : ℕ) → n < 64 → Gives count rows to (Slot n) (transferred_row w transfer items (rows from) (rows to) (Slot n)) (slot_origin s.slots n)) →
    Gives count rows to Cred (transferred_row w transfer items (rows from) (rows to) Cred) s.uid →
    origin_row rows to s ≡ transferred_row w transfer items (rows from) (rows to)
origin-transferred w pages count items transfer rows from to s few long spec within within_to gives past slots uid = λ e k. at k e
  where
    at : (k : Key) → origin_row rows to s k ≡ transferred_row w transfer items (rows from) (rows to) k
    at (Page q) =
        ⊎_elim
        (λ low. gives q low)
        (λ high. past q high ∙ sym (transferred-past w pages items spec transfer (rows from) (rows to) within within_to (Page q) (omega (arith, few, high))))
        (cases_lt q MOST_PAGES)
    at (Slot n) =
        ⊎_elim
        (λ low. (slots n low).cell)
        (λ high. ap (given_or rows (Slot n) (rows to (Slot n))) (no_slot_origin s.slots n (omega (arith, long, high)))
        ∙ sym (transferred-past w pages items spec transfer (rows from) (rows to) within within_to (Slot n) (omega (arith, high))))
        (cases_lt n 64)
    at Cred = uid.cell
