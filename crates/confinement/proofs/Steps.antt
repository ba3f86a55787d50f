-- The world that a step of a thread comes to.
use Rattle.std.proofs.Common.{◌≡◌, ℕ, Bool, true, false, cond, eqb, Option, None, Some, List, refl, ap, sym, subst, ◌∙◌, arith}
use Rattle.std.specs.Prelude.{slice_get, slice_set, unwrap_or}
use Rattle.std.specs.Int.{w64, to_le_bytes}
use Rattle.std.proofs.lemmas.Bool.Decides.{nat_tests}
use Rattle.guest_isa.specs.declared.instr.Instr.{Instr}
use Rattle.guest_isa.specs.declared.op.Op.{Op}
use Rattle.guest_isa.specs.declared.op.Op.TheVariants.{Ldb, Ldw, Stb, Stw, Sys, Halt}
use Rattle.guest_machine.specs.Advances.{advanced}
use Rattle.guest_machine.specs.declared.progress.Next.{Next}
use Rattle.guest_machine.specs.declared.progress.Next.TheVariants.{Shared, Pause, BadPc}
use Rattle.kernel_core.specs.Machine.{Environment, Machine, Serve, has_ended}
use Rattle.kernel_core.specs.Refused.{advanced_thread, refusal_at_end, refusal_in, refusal_of, refusal_to_move}
use Rattle.kernel_core.specs.Step.{AfterStep, Outcome, advance_outcome, after_outcome, after_thread, args_of, finish, guest_calls, is_aligned, next_outcome, only, plain_outcome, faulted, roots, settled, shared_outcome, step, step_by, store_outcome, stored_outcome, thread_outcome, three_times, unchanged, word_outcome}
use Rattle.kernel_core.specs.declared.calling.TheConstants.{LW_CREATE, LW_OVERLAY, LW_RESTRICT, LW_SWITCH, LW_SYSCALL}
use Rattle.kernel_core.specs.declared.thread.Thread.{Thread}
use Rattle.lwc_base.specs.declared.answer.Answer.{Answer}
use Rattle.lwc_base.specs.declared.answer.Answer.TheVariants as answers
use Rattle.lwc_base.specs.declared.answer.Moved.{Moved}
use Rattle.lwc_base.specs.declared.answer.Moved.TheVariants as moved
use Rattle.lwc_base.specs.Channels.{Channels, HasItsFiles}
use Rattle.lwc_base.specs.Life as life
use Rattle.lwc_base.specs.Life.{HasItsContexts}
use Rattle.lwc_base.specs.Refusals.{first_refusal}
use Rattle.lwc_base.specs.Slots.{lowest_empty}
use Rattle.lwc_base.specs.Sound.{IsSound}
use Rattle.lwc_base.specs.Store.{Absent, Done, Full, Piece, ReadOnly, Stored, store}
use Rattle.lwc_base.specs.World.{World, is_live}
use Rattle.lwc_types.specs.declared.fault.Fault.TheVariants.{BadStore}
use Rattle.lwc_types.specs.declared.fault.ThreadStatus.{ThreadStatus}
use Rattle.lwc_types.specs.declared.fault.ThreadStatus.TheVariants as status
use Rattle.lwc_types.specs.declared.name.Name.{Name}
use Rattle.lwc_types.specs.declared.refusal.Refusal.{Refusal}
use Rattle.lwc_types.specs.declared.regs.Regs.{Regs}
use Rattle.lwc_create.specs.Create as create
use Rattle.lwc_overlay.specs.OverlayCall as overlaying
use Rattle.lwc_overlay.specs.OverlayCall.{IsTaken}
use Rattle.lwc_overlay.specs.RestrictCall as restricting
use Rattle.lwc_overlay.specs.RestrictCall.{IsRestriction}
use Rattle.lwc_switch.specs.Switch.{IsSwitch, switch}
use Rattle.lwc_syscall.specs.Plain as plains
use Rattle.lwc_syscall.specs.Plain.{plain, refused_or, plain_call}
use Rattle.lwc_syscall.specs.Syscall as syscalls
use Rattle.lwc_syscall.specs.Syscall.{inner_args, inner_call, lw_syscall, targets_of}
use Rattle.confinement.proofs.Acts.{IsAllowed, chosen, created, overlaid, plainly, restricts, same, stored, switched}
use Rattle.confinement.specs.May.{MakesCall, regs_at, world_of}
use Rattle.kernel_core.proofs.Refusing.{call_refused}
use Rattle.lwc_overlay.proofs.Accepted.{restriction, taken}
use Rattle.lwc_switch.proofs.Accepted as switching
use Rattle.lwc_syscall.proofs.Syscalls.{allowed}

-- an answer that is no refusal is done
done_of : (a : Answer) → refusal_in a ≡ None → (regs : Regs) × (a ≡ answers.Done regs)
done_of (answers.Done regs) is = (regs, refl)
done_of (answers.Refused r) is = absurd cc

pub moved_of : (a : Moved) → refusal_to_move a ≡ None → (d : Name) × (regs : Regs) × (a ≡ moved.To d regs)
moved_of (moved.To d regs) is = (d, regs, refl)
moved_of (moved.Refused r) is = absurd cc

-- a call that makes a context and is not refused has made it
made_of : (w : World) (c : Name) (job : ℕ) (regs : Regs) (slot : ℕ) (first : Option Refusal) → refusal_in (create.ended w c job regs slot first).0 ≡ None →
    (create.ended w c job regs slot first).1 ≡ create.created w c job regs slot
made_of w c job regs slot (Some r) is = absurd cc
made_of w c job regs slot None is = refl

-- a call over chosen contexts that is not refused is the inner one
pub inner_of : (w : World) (io : Channels) (done : plains.Outcome) (first : Option Refusal) → refusal_at_end (refused_or w io done first).answer ≡ None →
    (first ≡ None) × (refused_or w io done first ≡ done)
inner_of w io done (Some r) is = absurd cc
inner_of w io done None is = (refl, refl)

-- a call of another number is a plain one
last_row : (number t : ℕ) (e : Environment) (x : Thread) → eqb number LW_CREATE ≡ false → eqb number LW_SWITCH ≡ false → eqb number LW_RESTRICT ≡ false → eqb number LW_OVERLAY ≡ false →
    eqb number LW_SYSCALL ≡ false → guest_calls number t e x ≡ plain_outcome number e x
unfolding guest_calls
last_row number t e x a b c d f = rw (a, b, c, d, f) refl

-- what threads have in common is not settled anew
pub settled_same : (t : ℕ) (serve : Option Serve) (outcome : Outcome) → (settled t serve outcome).environment ≡ outcome.environment
settled_same t None outcome = refl
settled_same t (Some s) outcome = by_end (has_ended outcome.thread.status)
  where
    by_end : (b : Bool) → (cond b (finish t s outcome) (only (Some s) outcome)).environment ≡ outcome.environment
    by_end true = refl
    by_end false = refl

-- the outcome of the step of a running thread
abbrev pub outcome_of : Machine → ℕ → Thread → Outcome
outcome_of m t x = advance_outcome guest_calls t m.environment x (advanced m.text x.regs)

-- its world is what is left of it
pub step_reaps : (m : Machine) (t : ℕ) (x : Thread) → slice_get m.threads t ≡ Some x → x.status ≡ status.Running →
    (names : List Name) × (world_of (step m t) ≡ life.reap (outcome_of m t x).environment.world names)
unfolding step_by
step_reaps m t x found running =
    let after : AfterStep = settled t m.serve (outcome_of m t x) in
    let names : List Name = roots (slice_set m.threads t after.thread) after.serve in
    let made : step m t ≡ after_outcome m t (Some after) =
    ap (after_thread guest_calls m t) found ∙ ap (λ (s : ThreadStatus). after_outcome m t (thread_outcome guest_calls t m.environment m.serve m.text x s)) running in
    (names, ap world_of made ∙ ap (λ (e : Environment). life.reap e.world names) (settled_same t m.serve (outcome_of m t x)))

-- what is known of a switch that is accepted
abbrev pub Went : Machine → ℕ → Thread → Type 0
Went m t x =
    (d : Name) × (arrived : Regs) × ((switch (world_of m) x.context t (regs_at m x)).0 ≡ moved.To d arrived)
    × IsSwitch (world_of m) (guest_calls LW_SWITCH t m.environment (advanced_thread m x)).environment.world x.context d t (regs_at m x) arrived

-- a step that is a call comes to the call's world
pub call_world : (m : Machine) (t : ℕ) (x : Thread) (number : ℕ) → MakesCall m t x number → (outcome_of m t x).environment ≡ (guest_calls number t m.environment (advanced_thread m x)).environment
unfolding advance_outcome next_outcome shared_outcome
call_world m t x number calls =
    ap (λ (next : Next). (next_outcome guest_calls t m.environment (advanced_thread m x) next).environment) calls.next
    ∙ (ap (λ (op : Op). (shared_outcome guest_calls t m.environment (advanced_thread m x) calls.instr op).environment) calls.op
    ∙ ap (λ (n : ℕ). (guest_calls n t m.environment (advanced_thread m x)).environment) calls.number)

module _ (m : Machine) (t : ℕ) (x : Thread) (found : slice_get m.threads t ≡ Some x) (sound : IsSound (world_of m)) (named : HasItsContexts (world_of m))
    (files : HasItsFiles m.environment.channels (world_of m)) (live : is_live (world_of m) x.context ≡ true) where
  abbrev w : World
  w = world_of m

  abbrev regs : Regs
  regs = regs_at m x

  abbrev y : Thread
  y = advanced_thread m x

  abbrev Allowed : World → Type 0
  Allowed v = IsAllowed m t v

  abbrev world_by : ℕ → World
  world_by number = (guest_calls number t m.environment y).environment.world

  unchanged_world : Allowed w
  unchanged_world = same m t x found sound live

  -- each call that is accepted
  pub at_create : MakesCall m t x LW_CREATE → world_by LW_CREATE ≡ create.created w x.context x.job regs (unwrap_or (lowest_empty w x.context) 0)
  unfolding guest_calls refusal_of create.create
  at_create calls = made_of w x.context x.job regs (unwrap_or (lowest_empty w x.context) 0) (first_refusal (create.refusals w x.context x.job regs)) calls.accepted

  pub at_switch : MakesCall m t x LW_SWITCH → Went m t x
  unfolding guest_calls refusal_of
  at_switch calls =
      let went = moved_of (switch w x.context t regs).0 calls.accepted in
      (went.0, went.1, went.2, switching.accepted w x.context t regs named live _ went.0 went.1 (ap (λ (a : Moved). (a, (switch w x.context t regs).1)) went.2))

  pub at_restrict : MakesCall m t x LW_RESTRICT → IsRestriction w (world_by LW_RESTRICT) x.context regs
  unfolding guest_calls refusal_of
  at_restrict calls =
      let done = done_of (restricting.restrict w x.context regs).0 calls.accepted in
      restriction w x.context regs _ done.0 (ap (λ (a : Answer). (a, (restricting.restrict w x.context regs).1)) done.1)

  pub at_overlay : MakesCall m t x LW_OVERLAY → IsTaken w (world_by LW_OVERLAY) x.context x.job regs
  unfolding guest_calls refusal_of
  at_overlay calls =
      let done = done_of (overlaying.overlay w x.context x.job regs).0 calls.accepted in
      taken w x.context regs x.job named live _ done.0 (ap (λ (a : Answer). (a, (overlaying.overlay w x.context x.job regs).1)) done.1)

  pub at_syscall : MakesCall m t x LW_SYSCALL → syscalls.IsAllowed w x.context regs
      × (world_by LW_SYSCALL ≡ (plain w m.environment.channels (targets_of w x.context regs) x.job (inner_call regs) (inner_args regs)).world)
  unfolding guest_calls refusal_of lw_syscall
  at_syscall calls =
      let inner = inner_of w m.environment.channels (plain w m.environment.channels (targets_of w x.context regs) x.job (inner_call regs) (inner_args regs))
      (first_refusal (syscalls.refusals w x.context regs)) calls.accepted in
      (allowed w x.context regs named live inner.0, ap (λ (o : plains.Outcome). o.world) inner.1)

  -- the accepted call of a number
  accepted_world : (number : ℕ) → MakesCall m t x number → Allowed (world_by number)
  accepted_world number calls =
      by_number LW_CREATE (λ is. let c = at is in subst Allowed (sym (at_create c)) (created m t x found sound live c _))
      (λ not_create. by_number LW_SWITCH (λ is.
      let c = at is in let went = at_switch c in let sw = went.3 in
      subst Allowed (sym sw.made) (switched m t x found sound live c went.0 sw.cap sw.had sw.live sw.slot sw.lowest))
      (λ not_switch. by_number LW_RESTRICT (λ is. let c = at is in restricts m t x found sound live c _ (at_restrict c))
      (λ not_restrict. by_number LW_OVERLAY (λ is. let c = at is in overlaid m t x found sound live c _ (at_overlay c))
      (λ not_overlay. by_number LW_SYSCALL (λ is.
      let c = at is in let inner = at_syscall c in subst Allowed (sym inner.1) (chosen m t x found sound live c inner.0 named files))
      (λ not_syscall. subst Allowed (sym (plain_world not_create not_switch not_restrict not_overlay not_syscall)) (plainly m t x found sound live named files number calls))))))
    where
      at : {k : ℕ} → number ≡ k → MakesCall m t x k
      at {k} is = subst (MakesCall m t x) is calls

      by_number : (k : ℕ) → (number ≡ k → Allowed (world_by k)) → (eqb number k ≡ false → Allowed (world_by number)) → Allowed (world_by number)
      by_number k here later =
          elim (eqb number k) as (λ b. eqb number k ≡ b → Allowed (world_by number)) [
            | true ↦ λ is. let one : number ≡ k = grind (arith, nat_tests) in subst (λ n. Allowed (world_by n)) (sym one) (here one)
            | false ↦ later
          ] refl

      plain_world : eqb number LW_CREATE ≡ false → eqb number LW_SWITCH ≡ false → eqb number LW_RESTRICT ≡ false → eqb number LW_OVERLAY ≡ false → eqb number LW_SYSCALL ≡ false →
          world_by number ≡ (plain w m.environment.channels (three_times x.context) x.job (plain_call number) (args_of regs)).world
      plain_world a b c d e = ap (λ (o : Outcome). o.environment.world) (last_row number t m.environment y a b c d e)

  -- a call of any number
  guest_world : (number : ℕ) → (refusal_of number t m.environment y ≡ None → MakesCall m t x number) → Allowed (world_by number)
  guest_world number makes =
      elim (refusal_of number t m.environment y) as (λ o. refusal_of number t m.environment y ≡ o → Allowed (world_by number)) [
        | None ↦ λ is. accepted_world number (makes is)
        | Some refusal ↦ λ is. subst Allowed (sym (ap (λ (o : Outcome). o.environment.world) (call_refused m.environment y refusal number t is))) unchanged_world
      ] refl

  stored_world : (piece : Piece) (s : Stored) → store w x.context x.job piece ≡ s → Allowed (stored_outcome m.environment y s).environment.world
  stored_world piece Absent is = unchanged_world
  stored_world piece ReadOnly is = unchanged_world
  stored_world piece Full is = unchanged_world
  stored_world piece (Done v) is = stored m t x found sound live piece v is

  store_world : (piece : Piece) → Allowed (store_outcome m.environment y piece).environment.world
  unfolding store_outcome
  store_world piece = by_test _
    where
      by_test : (b : Bool) → Allowed (cond b (stored_outcome m.environment y (store w x.context x.job piece)) (unchanged m.environment (faulted y BadStore))).environment.world
      by_test true = stored_world piece _ refl
      by_test false = unchanged_world

  word_world : (at value : ℕ) → Allowed (word_outcome m.environment y at value).environment.world
  word_world at value = by_test (is_aligned at)
    where
      by_test : (b : Bool) → Allowed (cond b (store_outcome m.environment y (record { at = at; bytes = to_le_bytes w64 value })) (unchanged m.environment (faulted y BadStore))).environment.world
      by_test true = store_world (record { at = at; bytes = to_le_bytes w64 value })
      by_test false = unchanged_world

  shared_world : x.status ≡ status.Running → (i : Instr) → (advanced m.text x.regs).next ≡ Shared i → (op : Op) → i.op ≡ op → Allowed (shared_outcome guest_calls t m.environment y i op).environment.world
  unfolding shared_outcome
  shared_world running i next Ldb is = unchanged_world
  shared_world running i next Ldw is = unchanged_world
  shared_world running i next Stb is = store_world _
  shared_world running i next Stw is = word_world _ _
  shared_world running i next Sys is = guest_world i.imm (λ accepted. record { instr = i; found = found; running = running; next = next; op = is; number = refl; accepted = accepted })
  shared_world running i next Halt is = unchanged_world
  shared_world running i next _ is = unchanged_world

  next_world : x.status ≡ status.Running → (next : Next) → (advanced m.text x.regs).next ≡ next → Allowed (next_outcome guest_calls t m.environment y next).environment.world
  unfolding next_outcome
  next_world running Pause is = unchanged_world
  next_world running BadPc is = unchanged_world
  next_world running (Shared i) is = shared_world running i is i.op refl

  -- the step of a running thread
  pub running_world : x.status ≡ status.Running → Allowed (outcome_of m t x).environment.world
  unfolding advance_outcome
  running_world running = next_world running (advanced m.text x.regs).next refl
