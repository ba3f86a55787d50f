-- What steps in the vault hand out.
use Rattle.std.specs.Prelude.{◌==◌, ◌&&◌, if◌then◌else◌, ℕ, Bool, not, List, [], ◌∷◌, Option, None, Some}
use Rattle.std.specs.Prelude.{slice_get, slice_index, take}
use Rattle.std.specs.Ordering.{eq_by_cmp}
use Rattle.confinement.specs.May.{regs_at}
use Rattle.guest_isa.specs.declared.instr.Instr.{Instr}
use Rattle.guest_isa.specs.declared.op.Op.{Op}
use Rattle.guest_isa.specs.declared.op.Op.TheVariants.{Ldb, Ldw, Stb, Stw, Sys}
use Rattle.guest_machine.specs.Advances.{advanced}
use Rattle.guest_machine.specs.declared.progress.Next.{Next}
use Rattle.guest_machine.specs.declared.progress.Next.TheVariants as next
use Rattle.kernel_core.specs.Machine.{Machine, has_ended}
use Rattle.kernel_core.specs.Start.{vault_name}
use Rattle.kernel_core.specs.Step.{address, args_of, step}
use Rattle.kernel_core.specs.declared.calling.TheConstants.{LW_SWITCH}
use Rattle.kernel_core.specs.declared.thread.Thread.{Thread}
use Rattle.lwc_base.specs.Frames.{is_parting}
use Rattle.lwc_base.specs.Memory.{bytes_for, touched}
use Rattle.lwc_base.specs.World.{World, context}
use Rattle.lwc_base.specs.declared.cell.Cell.{Cell}
use Rattle.lwc_base.specs.declared.cell.Cell.TheVariants.{Own, Common}
use Rattle.lwc_types.specs.Names.{name_cmp}
use Rattle.lwc_types.specs.declared.key.Key.TheVariants.{Page}
use Rattle.lwc_types.specs.declared.page.PageValue.{PageValue}
use Rattle.lwc_types.specs.declared.regs.Regs.{Regs}
use Rattle.lwc_syscall.specs.Plain.{plain_call}
use Rattle.lwc_syscall.specs.declared.plain_call.PlainCall.{PlainCall}
use Rattle.lwc_syscall.specs.declared.plain_call.PlainCall.TheVariants as calls

-- what one step hands out: it is not made in the vault; nothing; the number of a page of the vault that takes a frame
-- of its own; a plain call that opens, closes or copies a descriptor, maps or unmaps pages or sets the uid, with its
-- arguments; the number of a slot that it writes to, how many bytes, and these; the number of the slot by which it
-- leaves, and the argument; or it does something else
pub data Told : Type 0 where
  Outside : Told
  Nothing : Told
  Parts : ℕ → Told
  Makes : PlainCall → List ℕ → Told
  Writes : ℕ → ℕ → Option (List ℕ) → Told
  Leaves : ℕ → ℕ → Told
  Other : Told

-- by a call that takes its arguments from these registers, from r1 on
abbrev pub told_by_args : PlainCall → Regs → ℕ → Told
told_by_args call regs count = Makes call (take count (args_of regs))

-- by the plain call of a number, if it has one
abbrev pub told_by_plain : World → Regs → Option PlainCall → Told
told_by_plain w regs (Some calls.Open) = told_by_args calls.Open regs 1
told_by_plain w regs (Some calls.Close) = told_by_args calls.Close regs 1
told_by_plain w regs (Some calls.Dup) = told_by_args calls.Dup regs 1
told_by_plain w regs (Some calls.SetUid) = told_by_args calls.SetUid regs 1
told_by_plain w regs (Some calls.Map) = told_by_args calls.Map regs 2
told_by_plain w regs (Some calls.Unmap) = told_by_args calls.Unmap regs 2
told_by_plain w regs (Some calls.Write) =
    Writes (slice_index regs.r 1) (slice_index regs.r 3)
    (bytes_for w vault_name (slice_index regs.r 2) (slice_index regs.r 3))
told_by_plain w regs (Some calls.GetUid) = Nothing
told_by_plain w regs _ = Other

-- by the number of a call
abbrev pub told_by_call : World → Regs → ℕ → Told
told_by_call w regs number =
    if number == LW_SWITCH then Leaves (slice_index regs.r 1) (slice_index regs.r 2)
    else told_by_plain w regs (plain_call number)

-- by the cell of the page that a store touches: nothing, where that is the vault's own and does not part
abbrev pub told_by_cell : World → ℕ → Cell (Option PageValue) → Told
told_by_cell w p (Own (Some value)) = if is_parting w value then Parts p else Nothing
told_by_cell w p (Own None) = Other
told_by_cell w p (Common g) = Other

-- by the pages that a store touches: the one of a byte or of a word
abbrev pub told_by_pages : World → List ℕ → Told
told_by_pages w [] = Other
told_by_pages w (p ∷ []) = told_by_cell w p ((context w vault_name).cell (Page p))
told_by_pages w (p ∷ q ∷ rest) = Other

-- by the operation of a shared instruction
abbrev pub told_by_op : World → Regs → Instr → Op → Told
told_by_op w regs i Ldb = Nothing
told_by_op w regs i Ldw = Nothing
told_by_op w regs i Stb = told_by_pages w (touched (address regs i) 1)
told_by_op w regs i Stw = told_by_pages w (touched (address regs i) 8)
told_by_op w regs i Sys = told_by_call w regs i.imm
told_by_op w regs i _ = Other

-- by what comes after the private instructions
abbrev pub told_by_next : World → Regs → Next → Told
told_by_next w regs next.Pause = Nothing
told_by_next w regs next.BadPc = Other
told_by_next w regs (next.Shared i) = told_by_op w regs i i.op

-- whether a thread stands in the vault
abbrev pub stands_inside : Thread → Bool
stands_inside x = eq_by_cmp name_cmp x.context vault_name

-- what the step of the thread that was found hands out, if one was
abbrev pub told_by : Machine → ℕ → Option Thread → Told
told_by m t None = Outside
told_by m t (Some x) =
    if stands_inside x && not (has_ended x.status)
    then told_by_next m.environment.world (regs_at m x) (advanced m.text x.regs).next
    else Outside

-- what the next step of the thread of a number hands out
unfoldable pub told : Machine → ℕ → Told
told m t = told_by m t (slice_get m.threads t)

-- what these steps hand out, one after another
abbrev pub told_in : Machine → List ℕ → List Told
told_in m [] = []
told_in m (t ∷ ts) = told m t ∷ told_in (step m t) ts

-- nothing else than these is done
abbrev pub IsPlain : Told → Type 0
IsPlain Other = ⊥
IsPlain _ = Unit {0}
