-- A place once it has got its pages, its slots and its credential.
use Rattle.std.proofs.Common.{◌≡◌, ℕ, ⊎_elim, true, false, cond, length, arith, sym, ap, ◌∙◌}
use Rattle.std.specs.Prelude.{nat_lt}
use Rattle.std.proofs.lemmas.Bool.{cases_lt}
use Rattle.std.proofs.lemmas.Bool.Decides.{nat_tests}
use Rattle.lwc_base.specs.declared.cell.Cell.{Cell}
use Rattle.lwc_base.specs.Keys.{with_key}
use Rattle.lwc_types.specs.declared.key.Key.{Key}
use Rattle.lwc_types.specs.declared.key.Key.TheVariants.{Page, Slot, Cred}
use Rattle.lazy_world.specs.Cells.{Row, put_row}
use Rattle.lazy_world.specs.Transfers.{given_or}
use Rattle.lazy_world.specs.Origins.{AreGiven, slot_origin, origin_row, with_pages, with_slots}
use Rattle.lazy_world.specs.declared.pieces.Origins.{Origins}
use Rattle.lazy_world.proofs.PastLemmas.{no_slot_origin}
use Rattle.lazy_world.proofs.PlaceLemmas.{same_rows}
use Rattle.lazy_world.proofs.TakeLemmas.{at_row, given-still, off_row}

module _ (count : ℕ) (rows : ℕ → Row) (i : ℕ) (s : Origins) (can : AreGiven count i s) (long : length s.slots ≡ 64) where
  abbrev paged : Row
  paged = with_pages rows s.pages (rows i)

  abbrev first : ℕ → Row
  first = put_row rows i paged

  abbrev slotted : (ℕ → Row) → Row
  slotted rs = with_slots 64 rs s.slots (rs i)

  abbrev put_slots : (ℕ → Row) → ℕ → Row
  put_slots rs = put_row rs i (slotted rs)

  abbrev named : (ℕ → Row) → Row
  named rs = with_key Cell Cred (given_or rs Cred (rs i Cred) s.uid) (rs i)

  abbrev put_uid : (ℕ → Row) → ℕ → Row
  put_uid rs = put_row rs i (named rs)

  abbrev second : ℕ → Row
  second = put_slots first

  slot : (n : ℕ) → slotted first (Slot n) ≡ origin_row rows i s (Slot n)
  slot n =
      ⊎_elim
      (λ low. let on : nat_lt n 64 ≡ true = grind (arith, nat_tests) in
      ap (λ b. cond b (given_or first (Slot n) (first i (Slot n)) (slot_origin s.slots n)) (first i (Slot n))) on
      ∙ ap (λ old. given_or first (Slot n) old (slot_origin s.slots n)) (at_row count rows i paged (Slot n))
      ∙ given-still count rows i paged (Slot n) (rows i (Slot n)) (slot_origin s.slots n) (can.slots n low))
      (λ high. let off : nat_lt n 64 ≡ false = grind (arith, nat_tests) in
      ap (λ b. cond b (given_or first (Slot n) (first i (Slot n)) (slot_origin s.slots n)) (first i (Slot n))) off
      ∙ at_row count rows i paged (Slot n)
      ∙ sym (ap (given_or rows (Slot n) (rows i (Slot n))) (no_slot_origin s.slots n (omega (arith, long, high)))))
      (cases_lt n 64)

  uid : named second Cred ≡ origin_row rows i s Cred
  uid =
      ap (λ old. given_or second Cred old s.uid) (at_row count first i (slotted first) Cred ∙ at_row count rows i paged Cred)
      ∙ given-still count first i (slotted first) Cred (rows i Cred) s.uid can.uid
      ∙ given-still count rows i paged Cred (rows i Cred) s.uid can.uid

  here : (k : Key) → put_uid second i k ≡ origin_row rows i s k
  here (Page p) = at_row count second i (named second) (Page p) ∙ at_row count first i (slotted first) (Page p) ∙ at_row count rows i paged (Page p)
  here (Slot n) = at_row count second i (named second) (Slot n) ∙ at_row count first i (slotted first) (Slot n) ∙ slot n
  here Cred = at_row count second i (named second) Cred ∙ uid

  others : (j : ℕ) → (j ≡ i → ⊥) → (k : Key) → put_uid second j k ≡ rows j k
  others j other k =
      off_row count second i (named second) j k other ∙ off_row count first i (slotted first) j k other ∙ off_row count rows i paged j k other

  pub all-taken : (rs1 rs2 rs3 : ℕ → Row) → rs1 ≡ first → rs2 ≡ put_slots rs1 → rs3 ≡ put_uid rs2 → rs3 ≡ put_row rows i (origin_row rows i s)
  all-taken rs1 rs2 rs3 e1 e2 e3 =
      e3 ∙ ap put_uid (e2 ∙ ap put_slots e1) ∙ same_rows rows (put_uid second) i (origin_row rows i s) here others
