-- Notes that hold.
use Rattle.std.proofs.Common.{◌≡◌, ◌∙◌, ◌⊎◌, ◌/◌, ◌^◌, ℕ, Bool, Some, false, true, ⊎_elim, ap, arith, subst, sym}
use Rattle.std.specs.Prelude.{slice_get}
use Rattle.std.proofs.lemmas.Bool.{false≢true}
use Rattle.fd_table.proofs.BitLemmas.{none-left}
use Rattle.lwc_base.specs.Capabilities.{has_bit}
use Rattle.lazy_world.specs.Notes.{AreRight, IsRead, IsWrite}
use Rattle.lazy_world.specs.declared.notes.Note.{Note}
use Rattle.lazy_world.specs.declared.notes.Notes.{Notes}
use Rattle.lazy_world.specs.declared.world.PlacedWorld.{PlacedWorld}

no-bit : (word k : ℕ) → word ≡ 0 → has_bit word k ≡ true → ⊥
no-bit word k is on = false≢true (sym (none-left word 0 (ap (λ (x : ℕ). x / 2 ^ 0) is) k (omega arith)) ∙ on)

-- where no bit is set, nothing is said
pub forgotten : (w : PlacedWorld) (notes : Notes) → notes.read ≡ 0 → notes.write ≡ 0 → AreRight w notes
forgotten w notes read write = record {
  read = λ k note at on. absurd (no-bit notes.read k read on);
  write = λ k note at on. absurd (no-bit notes.write k write on);
}

-- a note more, which holds
pub noted : (w : PlacedWorld) (old new : Notes) (note : Note) (alone : Bool) → AreRight w old → IsRead w note → (alone ≡ true → IsWrite w note) →
    ((k : ℕ) (other : Note) → slice_get new.notes k ≡ Some other → has_bit new.read k ≡ true → (other ≡ note) ⊎ ((slice_get old.notes k ≡ Some other) × (has_bit old.read k ≡ true))) →
    ((k : ℕ) (other : Note) → slice_get new.notes k ≡ Some other → has_bit new.write k ≡ true → ((other ≡ note) × (alone ≡ true)) ⊎ ((slice_get old.notes k ≡ Some other) × (has_bit old.write k ≡ true))) →
    AreRight w new
noted w old new note alone right is may read write = record {
  read = λ k other at on. ⊎_elim (λ same. subst (IsRead w) (sym same) is) (λ was. right.read k other was.0 was.1) (read k other at on);
  write = λ k other at on. ⊎_elim (λ same. subst (IsWrite w) (sym same.0) (may same.1)) (λ was. right.write k other was.0 was.1) (write k other at on);
}
