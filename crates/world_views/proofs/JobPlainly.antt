-- Plain calls, taken apart: what is so of each is so of all; and how their tables of refusals end.
use Rattle.std.proofs.Common.{◌≡◌, ◌≢◌, ℕ, zero, suc, ◌+◌, ◌*◌, refl, ap, Bool, true, false, cond, eqb, Option, Some, None, List, [], ◌∷◌, length}
use Rattle.std.specs.Prelude.{nat_le, nat_lt, not, slice_get, slice_index, slice_set}
use Rattle.std.specs.Option.{option_map}
use Rattle.lwc_base.specs.Cells.{uid_at}
use Rattle.lwc_base.specs.Channels.{Channels}
use Rattle.lwc_base.specs.Frames.{used}
use Rattle.lwc_base.specs.Memory.{is_present}
use Rattle.lwc_base.specs.Rights.{is_writable}
use Rattle.lwc_base.specs.Store.{Absent, Done, Full, ReadOnly, Piece, Stored, after_store, parting_count, store}
use Rattle.lwc_base.specs.World.{World}
use Rattle.lwc_types.specs.declared.name.Name.{Name}
use Rattle.lwc_types.specs.declared.page.TheConstants.{PAGE_BYTES}
use Rattle.lwc_types.specs.declared.refusal.Refusal.{Refusal}
use Rattle.lwc_types.specs.declared.refusal.Refusal.TheVariants.{BadCall}
use Rattle.lwc_syscall.specs.Plain.{Outcome, answering, becoming, closing, copying, mapping, opening, plain, reading, refused_or, store_at, writing}
use Rattle.lwc_syscall.specs.declared.answer.CallAnswer.TheVariants.{Exit, Refused}
use Rattle.lwc_syscall.specs.declared.calls.CallContexts.{CallContexts}
use Rattle.lwc_syscall.specs.declared.plain_call.PlainCall.{PlainCall}
use Rattle.lwc_syscall.specs.declared.plain_call.PlainCall.TheVariants as plain_calls

-- what is so of each plain call in two worlds is so of all
pub record EachCall (R : Outcome → Outcome → Type 0) (w v : World) (io other : Channels) (targets : CallContexts) (job : ℕ) (call : Option PlainCall) (args : List ℕ) : Type 0 where
  pub opens : R (opening w io targets (slice_index args 0)) (opening v other targets (slice_index args 0))
  pub closes : R (closing w io targets.slots (slice_index args 0)) (closing v other targets.slots (slice_index args 0))
  pub copies : R (copying w io targets.slots (slice_index args 0)) (copying v other targets.slots (slice_index args 0))
  pub reads : call ≡ Some plain_calls.Read → R (reading w io targets job (slice_index args 0) (slice_index args 1) (slice_index args 2)) (reading v other targets job (slice_index args 0) (slice_index args 1) (slice_index args 2))
  pub writes : R (writing w io targets (slice_index args 0) (slice_index args 1) (slice_index args 2)) (writing v other targets (slice_index args 0) (slice_index args 1) (slice_index args 2))
  pub maps : (present : Bool) → R (mapping w io targets.memory (slice_index args 0) (slice_index args 1) present) (mapping v other targets.memory (slice_index args 0) (slice_index args 1) present)
  pub tells : R (answering (uid_at w targets.cred) w io) (answering (uid_at v targets.cred) v other)
  pub becomes : R (becoming w io targets.cred (slice_index args 0)) (becoming v other targets.cred (slice_index args 0))
  pub exits : R (record { answer = Exit (slice_index args 0); world = w; io = io }) (record { answer = Exit (slice_index args 0); world = v; io = other })
  pub refuses : R (record { answer = Refused BadCall; world = w; io = io }) (record { answer = Refused BadCall; world = v; io = other })

pub all_calls : (R : Outcome → Outcome → Type 0) (w v : World) (io other : Channels) (targets : CallContexts) (job : ℕ) (call : Option PlainCall) (args : List ℕ) →
    EachCall R w v io other targets job call args → R (plain w io targets job call args) (plain v other targets job call args)
unfolding plain
all_calls R w v io other targets job None args each = each.refuses
all_calls R w v io other targets job (Some plain_calls.Open) args each = each.opens
all_calls R w v io other targets job (Some plain_calls.Close) args each = each.closes
all_calls R w v io other targets job (Some plain_calls.Dup) args each = each.copies
all_calls R w v io other targets job (Some plain_calls.Read) args each = each.reads refl
all_calls R w v io other targets job (Some plain_calls.Write) args each = each.writes
all_calls R w v io other targets job (Some plain_calls.Map) args each = each.maps true
all_calls R w v io other targets job (Some plain_calls.Unmap) args each = each.maps false
all_calls R w v io other targets job (Some plain_calls.GetUid) args each = each.tells
all_calls R w v io other targets job (Some plain_calls.SetUid) args each = each.becomes
all_calls R w v io other targets job (Some plain_calls.Exit) args each = each.exits

-- what is so of a refusal, and of the call where it is done, is so of its end
pub by_refusal : (P : Outcome → Type 0) (w : World) (io : Channels) (done : Outcome) (first : Option Refusal) → ((refusal : Refusal) → first ≡ Some refusal → P (record { answer = Refused refusal; world = w; io = io })) →
    (first ≡ None → P done) → P (refused_or w io done first)
by_refusal P w io done (Some refusal) refused is_done = refused refusal refl
by_refusal P w io done None refused is_done = is_done refl

-- an element that is set is the new one, if there was one
pub slice_get-set : {X : Type 0} (xs : List X) (i : ℕ) (y : X) → slice_get (slice_set xs i y) i ≡ option_map (λ x. y) (slice_get xs i)
slice_get-set [] i y = refl
slice_get-set (x ∷ xs) zero y = refl
slice_get-set (x ∷ xs) (suc i) y = slice_get-set xs i y

-- and the others stay
pub slice_get-other : {X : Type 0} (xs : List X) (i j : ℕ) (y : X) → i ≢ j → slice_get (slice_set xs i y) j ≡ slice_get xs j
slice_get-other [] i j y other = refl
slice_get-other (x ∷ xs) zero zero y other = absurd (other refl)
slice_get-other (x ∷ xs) zero (suc j) y other = refl
slice_get-other (x ∷ xs) (suc i) zero y other = refl
slice_get-other (x ∷ xs) (suc i) (suc j) y other = slice_get-other xs i j y (λ same. other (ap suc same))

by_choice : {A : Type 0} (P : A → Type 0) (b : Bool) (x y : A) → P x → P y → P (cond b x y)
by_choice P true x y first second = first
by_choice P false x y first second = second

-- what is so of each way in which a store may end is so of its end
pub store_cases : (P : Stored → Type 0) (w : World) (m : Name) (job : ℕ) (piece : Piece) → P Absent → P ReadOnly → P Full → P (Done (after_store w m job piece)) → P (store w m job piece)
unfolding store
store_cases P w m job piece absent read full done =
    by_choice P (not (is_present w m piece.at (length piece.bytes))) Absent _ absent
    (by_choice P (not (is_writable w m piece.at (length piece.bytes))) ReadOnly _ read
    (by_choice P (nat_lt w.size.frames (used w + parting_count w m piece)) Full (Done (after_store w m job piece)) full done))

pub store_at_cases : (P : Stored → Type 0) (w : World) (m : Name) (job from : ℕ) (bytes : List ℕ) → P (Done w) → P Absent → P ReadOnly → P Full →
    P (Done (after_store w m job (record { at = from; bytes = bytes }))) → P (store_at w m job from bytes)
unfolding store_at
store_at_cases P w m job from bytes none absent read full done =
    let piece : Piece = record { at = from; bytes = bytes } in
    by_choice P (eqb (length bytes) 0) (Done w) _ none
    (by_choice P (nat_le (from + length bytes) (w.size.pages * PAGE_BYTES)) (store w m job piece) Absent (store_cases P w m job piece absent read full done) absent)
