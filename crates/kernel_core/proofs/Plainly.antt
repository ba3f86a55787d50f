-- What a plain call keeps, by the call and its answer.
use Rattle.std.proofs.Common.{◌≡◌, ℕ, refl, sym, subst, Bool, true, false, cond, List, Option}
use Rattle.kernel_core.proofs.Reaping.{leaves_same}
use Rattle.kernel_core.specs.Changes.{Keeps, LeavesNothing, change_by_end, change_by_plain}
use Rattle.kernel_core.specs.Step.{plainly}
use Rattle.kernel_core.specs.declared.acting.Change.{Change}
use Rattle.kernel_core.specs.declared.acting.Change.TheVariants as changes
use Rattle.kernel_core.specs.declared.thread.Thread.{Thread}
use Rattle.lwc_base.specs.Life.{IsReaped}
use Rattle.lwc_base.specs.Store.{Done, Piece, store}
use Rattle.lwc_base.specs.World.{World}
use Rattle.lwc_types.specs.declared.name.Name.{Name}
use Rattle.lwc_types.specs.declared.refusal.Refusal.{Refusal}
use Rattle.lwc_syscall.specs.Changes.{CutsNone, Put, Same, StoredPut, cuts_none, leaves_world}
use Rattle.lwc_syscall.specs.declared.answer.CallAnswer.{CallAnswer}
use Rattle.lwc_syscall.specs.declared.answer.CallAnswer.TheVariants as ends
use Rattle.lwc_syscall.specs.declared.calls.CallContexts.{CallContexts}
use Rattle.lwc_syscall.specs.declared.plain_call.PlainCall.{PlainCall}
use Rattle.lwc_base.proofs.Stored.{is_done}
use Rattle.lwc_base.proofs.StillReaped.{reaped-after_store, reaped-put_slot}

stored_reaped : (w v : World) (names : List Name) (c : Name) (job : ℕ) (piece : Piece) → store w c job piece ≡ Done v → IsReaped w names → IsReaped v names
stored_reaped w v names c job piece done reaped = subst (λ (u : World). IsReaped u names) (sym (is_done w c job piece v done).after) (reaped-after_store w names c job piece reaped)

-- what cuts no link leaves nothing to drop
pub cuts_leaves : (w : World) (c : Name) (targets : CallContexts) (job : ℕ) (v : World) → CutsNone w targets job v → LeavesNothing w c v c
cuts_leaves w c targets job v Same = leaves_same w w c (λ names reaped. reaped)
cuts_leaves w c targets job v (Put n value loses) = leaves_same w _ c (λ names. reaped-put_slot w names targets.slots n value loses)
cuts_leaves w c targets job v (StoredPut u piece n value done loses) =
    leaves_same w _ c (λ names reaped. reaped-put_slot u names targets.slots n value loses (stored_reaped w u names targets.memory job piece done reaped))

-- what an accepted call keeps, for a thread that stays in its context
by_change : (w v : World) (x y : Thread) (leaves cuts : Bool) → y.context ≡ x.context → (leaves ≡ true → v ≡ w) → (cuts ≡ true → LeavesNothing w x.context v x.context) →
    Keeps (cond leaves changes.Thread (cond cuts changes.World changes.Links)) w x v y
by_change w v x y true cuts same stays none = (stays refl, same)
by_change w v x y false true same stays none = subst (λ (d : Name). LeavesNothing w x.context v d) (sym same) (none refl)
by_change w v x y false false same stays none = tt

-- what a plain call keeps
pub plain_keeps : (w v : World) (x y : Thread) (answer : CallAnswer) (call : Option PlainCall) (change : Change) → (leaves_world call ≡ true → v ≡ w) →
    (cuts_none call ≡ true → LeavesNothing w x.context v x.context) → ((refusal : Refusal) → answer ≡ ends.Refused refusal → v ≡ w) →
    change ≡ change_by_end answer (change_by_plain call) → y ≡ plainly x answer → Keeps change w x v y
plain_keeps w v x y answer call change stays none refused changed ended =
    subst (λ (c : Change). Keeps c w x v y) (sym changed) (subst (λ (z : Thread). Keeps (change_by_end answer (change_by_plain call)) w x v z) (sym ended) (by_answer answer refused))
  where
    by_answer : (a : CallAnswer) → ((refusal : Refusal) → a ≡ ends.Refused refusal → v ≡ w) → Keeps (change_by_end a (change_by_plain call)) w x v (plainly x a)
    by_answer (ends.Value value) refused = by_change w v x (plainly x (ends.Value value)) (leaves_world call) (cuts_none call) refl stays none
    by_answer (ends.Exit code) refused = by_change w v x (plainly x (ends.Exit code)) (leaves_world call) (cuts_none call) refl stays none
    by_answer (ends.Refused r) refused = (refused r refl, refl)
