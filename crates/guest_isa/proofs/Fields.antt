-- The bounds of an instruction's fields.
use Rattle.std.proofs.Common.{◌≡◌, ℕ, ◌^◌, ◌<◌, Bool, true, false, arith}
use Rattle.std.specs.Prelude.{◌&&◌}
use Rattle.std.proofs.lemmas.Bool.{eqb-true, ltb-true, and_parts}
use Rattle.guest_isa.specs.declared.instr.Instr.{Instr}
use Rattle.guest_isa.specs.Opcodes.{form_of}
use Rattle.guest_isa.specs.Instructions.{HasFieldsInRange, IsInstruction, fits, is_instruction}

-- a field that fits is below its limit
fits_below : (used : Bool) (limit n : ℕ) → 0 < limit → fits used limit n ≡ true → n < limit
fits_below true limit n some e = ltb-true n limit e
fits_below false limit n some e = let none : n ≡ 0 = eqb-true n 0 e in omega arith

-- the fields of an instruction are in range
pub in_range : (i : Instr) → IsInstruction i → HasFieldsInRange i
unfolding is_instruction
in_range i is =
    let form = form_of i.op in
    let upto_imm = and_parts (fits form.rd 16 i.rd && fits form.ra 16 i.ra && fits form.rb 16 i.rb) (fits form.imm (2 ^ 32) i.imm) is in
    let upto_rb = and_parts (fits form.rd 16 i.rd && fits form.ra 16 i.ra) (fits form.rb 16 i.rb) upto_imm.0 in
    let upto_ra = and_parts (fits form.rd 16 i.rd) (fits form.ra 16 i.ra) upto_rb.0 in
    record {
      rd = fits_below form.rd 16 i.rd (omega arith) upto_ra.0;
      ra = fits_below form.ra 16 i.ra (omega arith) upto_ra.1;
      rb = fits_below form.rb 16 i.rb (omega arith) upto_rb.1;
      imm = fits_below form.imm (2 ^ 32) i.imm (omega arith) upto_imm.1;
    }
