-- The call that makes a plain call over contexts that a mask chooses.
use Rattle.std.specs.Prelude.{◌≡◌, ◌≤◌, true, Option, Some, ℕ, if◌then◌else◌, ◌||◌, ◌++◌, Bool, not, List, [], ◌∷◌}
use Rattle.std.specs.Prelude.{nat_lt, slice_index, unwrap_or}
use Rattle.access_cap.specs.Kinds.{has_kinds, is_chosen}
use Rattle.guest_call.specs.Guest.{descriptor_for, link_of, slot_refusals}
use Rattle.lwc_base.specs.Capabilities.{empty_cap}
use Rattle.lwc_base.specs.Channels.{Channels}
use Rattle.lwc_base.specs.World.{World, is_live}
use Rattle.lwc_base.specs.declared.descriptor.Cap.{Cap}
use Rattle.lwc_types.specs.declared.key.Kind.{Kind}
use Rattle.lwc_types.specs.declared.key.Kind.TheVariants.{Page, Slot, Cred}
use Rattle.lwc_types.specs.declared.name.Name.{Name}
use Rattle.lwc_types.specs.declared.refusal.Refusal.{Refusal}
use Rattle.lwc_types.specs.declared.refusal.Refusal.TheVariants.{BadCall, BadMode, NotCovered}
use Rattle.lwc_types.specs.declared.regs.Regs.{Regs}
use Rattle.lwc_syscall.specs.Plain.{Outcome, ended, plain, plain_call}
use Rattle.lwc_syscall.specs.declared.calls.CallContexts.{CallContexts}
use Rattle.lwc_syscall.specs.declared.plain_call.PlainCall.{PlainCall}

-- the context that the slot in r1 has a descriptor of, with the capability
abbrev pub link : World → Name → Regs → Name × Cap
link w c regs = unwrap_or (link_of (descriptor_for w c (slice_index regs.r 1))) (c, empty_cap)

-- the mask, in r2
abbrev pub mask_in : Regs → ℕ
mask_in regs = slice_index regs.r 2

-- the number of the inner call, in r3
abbrev pub inner_number : Regs → ℕ
inner_number regs = slice_index regs.r 3

-- the inner call, if a plain one has that number
abbrev pub inner_call : Regs → Option PlainCall
inner_call regs = plain_call (inner_number regs)

-- the arguments of the inner call, in r4 to r6
abbrev pub inner_args : Regs → List ℕ
inner_args regs = slice_index regs.r 4 ∷ slice_index regs.r 5 ∷ slice_index regs.r 6 ∷ []

-- the context that a kind is taken from: the slot's if the mask chooses it, and else the caller's
abbrev pub taken_from : World → Name → Regs → Kind → Name
taken_from w c regs kind = if is_chosen (mask_in regs) kind then (link w c regs).0 else c

-- the three contexts of the inner call
abbrev pub targets_of : World → Name → Regs → CallContexts
targets_of w c regs = record {
  memory = taken_from w c regs Page;
  slots = taken_from w c regs Slot;
  cred = taken_from w c regs Cred;
}

-- why the call is refused before the inner one is looked at: the first of these that holds
unfoldable pub refusals : World → Name → Regs → List (Bool × Refusal)
refusals w c regs =
    slot_refusals w c (slice_index regs.r 1)
    ++ ((nat_lt 7 (mask_in regs), BadMode)
    ∷ (not (has_kinds w.size.pages (link w c regs).1 (mask_in regs)), NotCovered)
    ∷ (nat_lt (inner_number regs) 1 || nat_lt 9 (inner_number regs), BadCall) ∷ [])

-- the call: the inner one over the three contexts, with its own refusals
unfoldable pub lw_syscall : World → Channels → Name → ℕ → Regs → Outcome
lw_syscall w io c job regs =
    ended w io (refusals w c regs) (plain w io (targets_of w c regs) job (inner_call regs) (inner_args regs))

-- a call that is not refused before the inner one: its contexts are live, and the capability has the kinds
pub record IsAllowed (w : World) (c : Name) (regs : Regs) : Type 0 where
  pub found : link_of (descriptor_for w c (slice_index regs.r 1)) ≡ Some (link w c regs)
  pub live : (kind : Kind) → is_live w (taken_from w c regs kind) ≡ true
  pub covered : has_kinds w.size.pages (link w c regs).1 (mask_in regs) ≡ true
  pub inner : (1 ≤ inner_number regs) × (inner_number regs ≤ 9)
