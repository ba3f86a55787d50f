use Rattle.std.proofs.Common.{w64, inl, inr, refl, sym}
use Rattle.std.proofs.lemmas.Bool.{cases_eq, eq-eqb, ne_eqb}
use Rattle.std.proofs.lemmas.Nat.Bits.{bit_at_set_same, bit_at_set_other, bit_at_clear_same, bit_at_clear_other}
use Rattle.lazy_world.proofs.notes.with_bit.Goals as goal

pub returns-then-on : goal.returns-then-on
returns-then-on c = λ m lt.
    elim (cases_eq m c.args.number) [
      | inl is ↦ rw (is, bit_at_set_same w64 c.args.word c.args.number c.requires, eq-eqb c.args.number c.args.number refl) (sym c.if-on.true)
      | inr off ↦ rw (bit_at_set_other w64 c.args.word c.args.number c.requires m off, ne_eqb m c.args.number off) refl
    ]

pub returns-else-on : goal.returns-else-on
returns-else-on c = λ m lt.
    elim (cases_eq m c.args.number) [
      | inl is ↦ rw (is, bit_at_clear_same w64 c.args.word c.args.number c.requires, eq-eqb c.args.number c.args.number refl) (sym c.if-on.false)
      | inr off ↦ rw (bit_at_clear_other w64 c.args.word c.args.number c.requires m lt off, ne_eqb m c.args.number off) refl
    ]
