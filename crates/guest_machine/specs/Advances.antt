-- How far a thread advances by private instructions.
use Rattle.std.specs.Prelude.{◌≡◌, ℕ, zero, suc, ◌<◌, ◌≤◌, Bool, if◌then◌else◌, IsTrue, List, length, slice_get}
use Rattle.std.specs.Prelude.{Option, Some, None, is_some, unwrap_or}
use Rattle.guest_isa.specs.declared.instr.Instr.{Instr}
use Rattle.guest_isa.specs.Instructions.{IsInstruction}
use Rattle.guest_isa.specs.Opcodes.{is_private, is_shared}
use Rattle.lwc_types.specs.declared.regs.Regs.{Regs}
use Rattle.guest_machine.specs.declared.progress.Next.{Next}
use Rattle.guest_machine.specs.declared.progress.Next.TheVariants.{Shared, Pause, BadPc}
use Rattle.guest_machine.specs.declared.progress.Advance.{Advance}
use Rattle.guest_machine.specs.Effects.{effect}

-- the registers after the instruction at pc; unchanged if there is none
abbrev pub after_instruction : Option Instr → Regs → Regs
after_instruction None s = s
after_instruction (Some i) s = effect i s

-- the registers after j instructions, all of which are private where this is asked
unfoldable pub after_private : List Instr → ℕ → Regs → Regs
after_private text zero s = s
after_private text (suc j) s = let t = after_private text j s in after_instruction (slice_get text t.pc) t

-- why no private instruction is at pc, if none is: there is none at all, or it is shared
abbrev pub stop_at : Option Instr → Option Next
stop_at None = Some BadPc
stop_at (Some i) = if is_shared i.op then Some (Shared i) else None

-- why no private instruction comes next, if none does
abbrev pub stop : List Instr → Regs → Option Next
stop text s = stop_at (slice_get text s.pc)

-- the least number below n that passes the test, and n where none does
unfoldable pub least : ℕ → (ℕ → Bool) → ℕ
least zero test = 0
least (suc n) test = if test 0 then 0 else suc (least n (λ j. test (suc j)))

-- the advance by the least number of private instructions, up to 256, after which none comes, or a pause
unfoldable pub advanced : List Instr → Regs → Advance
advanced text s =
    let j = least 256 (λ j. is_some (stop text (after_private text j s))) in
    let t = after_private text j s in
    record { before = s; after = t; next = unwrap_or (stop text t) Pause }

-- a private instruction comes next
abbrev pub PrivateComes : List Instr → Regs → Type 0
PrivateComes text s = (i : Instr) × (slice_get text s.pc ≡ Some i) × IsTrue (is_private i.op)

-- what comes next after j private instructions
abbrev pub Comes : List Instr → Regs → ℕ → Next → Type 0
Comes text s j BadPc = length text ≤ s.pc
Comes text s j (Shared i) = (slice_get text s.pc ≡ Some i) × IsTrue (is_shared i.op)
Comes text s j Pause = (j ≡ 256) × PrivateComes text s

-- an advance of j instructions, one fact at a time
pub record IsAdvance (text : List Instr) (a : Advance) (j : ℕ) : Type 0 where
  pub within : j ≤ 256
  pub after : a.after ≡ after_private text j a.before
  pub next : Comes text a.after j a.next
  pub private : (k : ℕ) → k < j → PrivateComes text (after_private text k a.before)

-- a shared instruction of the table
abbrev pub IsShared : Instr → Type 0
IsShared i = IsInstruction i × IsTrue (is_shared i.op)

-- a fact of the shared instruction that comes next, if one does
abbrev pub IfShared : Next → (Instr → Type 0) → Type 0
IfShared (Shared i) P = P i
IfShared Pause P = Unit {0}
IfShared BadPc P = Unit {0}
