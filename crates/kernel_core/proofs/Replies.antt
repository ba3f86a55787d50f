-- A reply only grows, so channels still have what was recorded of each request that is finished.
use mathlib.Core.List.{IsPrefix}
use Rattle.std.proofs.Common.{◌≡◌, ℕ, zero, suc, ◌+◌, ◌-◌, ◌*◌, ◌<◌, refl, sym, ap, subst, ◌∙◌, Bool, true, false, cond, eqb, leb, ltb, Option, Some, None, List, [], ◌∷◌, ◌++◌, length, take, set, get_or, replicate, arith, append_assoc, append-nil}
use Rattle.std.proofs.Math.Seq.{take-append_seam}
use Rattle.std.specs.Prelude.{IfSome, slice_get, slice_index, unwrap_or}
use Rattle.guest_call.specs.Guest.{descriptor_for}
use Rattle.guest_isa.specs.declared.instr.Instr.{Instr}
use Rattle.guest_isa.specs.declared.op.Op.{Op}
use Rattle.guest_isa.specs.declared.op.Op.TheVariants.{Stb, Stw, Sys}
use Rattle.guest_machine.specs.Advances.{advanced}
use Rattle.guest_machine.specs.declared.progress.Advance.{Advance}
use Rattle.guest_machine.specs.declared.progress.Next.{Next}
use Rattle.guest_machine.specs.declared.progress.Next.TheVariants.{Shared, Pause, BadPc}
use Rattle.kernel_core.specs.Machine.{Environment, Machine, Serve, has_ended, in_serve}
use Rattle.kernel_core.specs.Runs.{run}
use Rattle.kernel_core.specs.Start.{Inputs, serve_at, start}
use Rattle.kernel_core.specs.Step.{AfterStep, Outcome, advance_outcome, after_outcome, after_thread, args_of, begin_next, create_outcome, faulted, finish, finished_by, guest_calls, is_aligned, next_outcome, only, overlay_outcome, plain_outcome, restrict_outcome, settled, shared_outcome, step, step_by, store_outcome, stored_outcome, switch_outcome, syscall_outcome, thread_outcome, three_times, unchanged, with_status}
use Rattle.kernel_core.specs.declared.calling.TheConstants.{LW_CREATE, LW_OVERLAY, LW_RESTRICT, LW_SWITCH, LW_SYSCALL}
use Rattle.kernel_core.specs.declared.settings.Job.{Job}
use Rattle.kernel_core.specs.declared.settings.Job.TheVariants as jobs
use Rattle.kernel_core.specs.declared.thread.Thread.{Thread}
use Rattle.lwc_base.specs.Channels.{Channels, bytes_in}
use Rattle.lwc_base.specs.Cells.{put_slot, put_uid}
use Rattle.lwc_base.specs.Mapping.{mapped_or_not}
use Rattle.lwc_base.specs.Memory.{bytes_for}
use Rattle.lwc_base.specs.Store.{Absent, Done as Stores, Full, ReadOnly, Piece, Stored, store}
use Rattle.lwc_base.specs.World.{World}
use Rattle.lwc_base.specs.declared.descriptor.Descriptor.{Descriptor}
use Rattle.lwc_base.specs.declared.descriptor.Descriptor.TheVariants.{Empty, Console, File, Request, Reply, Ctx}
use Rattle.lwc_types.specs.declared.fault.Fault.TheVariants as fault
use Rattle.lwc_types.specs.declared.fault.ThreadStatus.{ThreadStatus}
use Rattle.lwc_types.specs.declared.fault.ThreadStatus.TheVariants.{Idle, Running, Done, Faulted}
use Rattle.lwc_types.specs.declared.name.Name.{Name}
use Rattle.lwc_types.specs.declared.page.TheConstants.{PAGE_BYTES}
use Rattle.lwc_types.specs.declared.refusal.Refusal.{Refusal}
use Rattle.lwc_types.specs.declared.regs.Regs.{Regs}
use Rattle.lwc_syscall.specs.Plain.{Outcome as Ended, answering, close_refusals, copy_refusals, ended, map_refusals, mapping, moved, open_refusals, placed, plain, plain_call, read_on, read_refusals, reading, store_at, uid_refusals, world_after, write_refusals, writing, written}
use Rattle.lwc_syscall.specs.Syscall.{inner_args, inner_call, lw_syscall, refusals, targets_of}
use Rattle.lwc_syscall.specs.declared.calls.CallContexts.{CallContexts}
use Rattle.lwc_syscall.specs.declared.plain_call.PlainCall.{PlainCall}
use Rattle.lwc_syscall.specs.declared.plain_call.PlainCall.TheVariants as calls
use Rattle.snapshot_host.specs.Finish.{StillHas}
use Rattle.snapshot_host.specs.declared.finishing.Finished.{Finished}
use Rattle.lwc_syscall.proofs.Does.{ended-cases}

-- each reply of the first channels is a beginning of the one of the second
abbrev Grow : Channels → Channels → Type 0
Grow io after = (r : ℕ) → IsPrefix (bytes_in io.replies r) (bytes_in after.replies r)

stay : (io : Channels) → Grow io io
stay io r = ([], append-nil (bytes_in io.replies r))

-- bytes are appended at a place
appended : (l : List (List ℕ)) (q r : ℕ) (bytes : List ℕ) → IsPrefix (get_or l r []) (get_or (set l q (get_or l q [] ++ bytes)) r [])
appended [] q r bytes = ([], append-nil (get_or {A = List ℕ} [] r []))
appended (x ∷ l) zero zero bytes = (bytes, refl)
appended (x ∷ l) zero (suc r) bytes = ([], append-nil (get_or l r []))
appended (x ∷ l) (suc q) zero bytes = ([], append-nil x)
appended (x ∷ l) (suc q) (suc r) bytes = appended l q r bytes

written_grow : (io : Channels) (value : Descriptor) (bytes : List ℕ) → Grow io (written io value bytes)
written_grow io (Reply q) bytes r = appended io.replies q r bytes
written_grow io Console bytes r = ([], append-nil (bytes_in io.replies r))
written_grow io Empty bytes r = stay io r
written_grow io (File file at) bytes r = stay io r
written_grow io (Request q at) bytes r = stay io r
written_grow io (Ctx name cap) bytes r = stay io r

module _ (w : World) (io : Channels) (job : ℕ) where
  ended_grow : (rows : List (Bool × Refusal)) (done : Ended) → Grow io done.io → Grow io (ended w io rows done).io
  ended_grow rows done grow = ended-cases (λ o. Grow io o.io) w io rows done (λ refusal. stay io) (λ passed. grow)

  placed_grow : (rows : List (Bool × Refusal)) (s : Name) (value : Descriptor) → Grow io (ended w io rows (placed w io s value)).io
  placed_grow rows s value = ended_grow rows (placed w io s value) (stay io)

  answered_grow : (rows : List (Bool × Refusal)) (value : ℕ) (v : World) → Grow io (ended w io rows (answering value v io)).io
  answered_grow rows value v = ended_grow rows (answering value v io) (stay io)

  reading_grow : (targets : CallContexts) (n at count : ℕ) → Grow io (reading w io targets job n at count).io
  unfolding reading
  reading_grow targets n at count =
      let value = descriptor_for w targets.slots n in
      let bytes = moved io value count in
      let stored = store_at w targets.memory job at bytes in
      answered_grow (read_refusals io value count stored) (length bytes) (put_slot (world_after w stored) targets.slots n (read_on (length bytes) value))

  writing_grow : (targets : CallContexts) (n at count : ℕ) → Grow io (writing w io targets n at count).io
  unfolding writing
  writing_grow targets n at count =
      let value = descriptor_for w targets.slots n in
      let bytes = bytes_for w targets.memory at count in
      ended_grow (write_refusals io value count bytes) (answering count w (written io value (unwrap_or bytes []))) (written_grow io value (unwrap_or bytes []))

  mapping_grow : (m : Name) (from to : ℕ) (present : Bool) → Grow io (mapping w io m from to present).io
  mapping_grow m from to present = answered_grow (map_refusals w m from to present) 0 (mapped_or_not w m from to present)

  plain_grow : (targets : CallContexts) (call : Option PlainCall) (args : List ℕ) → Grow io (plain w io targets job call args).io
  unfolding plain
  plain_grow targets None args = stay io
  plain_grow targets (Some calls.Open) args = placed_grow (open_refusals w io targets (slice_index args 0)) targets.slots (File (slice_index args 0) 0)
  plain_grow targets (Some calls.Close) args = answered_grow (close_refusals w targets.slots (slice_index args 0)) 0 (put_slot w targets.slots (slice_index args 0) Empty)
  plain_grow targets (Some calls.Dup) args = placed_grow (copy_refusals w targets.slots (slice_index args 0)) targets.slots (descriptor_for w targets.slots (slice_index args 0))
  plain_grow targets (Some calls.Read) args = reading_grow targets (slice_index args 0) (slice_index args 1) (slice_index args 2)
  plain_grow targets (Some calls.Write) args = writing_grow targets (slice_index args 0) (slice_index args 1) (slice_index args 2)
  plain_grow targets (Some calls.Map) args = mapping_grow targets.memory (slice_index args 0) (slice_index args 1) true
  plain_grow targets (Some calls.Unmap) args = mapping_grow targets.memory (slice_index args 0) (slice_index args 1) false
  plain_grow targets (Some calls.GetUid) args = stay io
  plain_grow targets (Some calls.SetUid) args = answered_grow (uid_refusals w targets.cred (slice_index args 0)) 0 (put_uid w targets.cred (slice_index args 0))
  plain_grow targets (Some calls.Exit) args = stay io

  syscall_grow : (c : Name) (regs : Regs) → Grow io (lw_syscall w io c job regs).io
  unfolding lw_syscall
  syscall_grow c regs =
      ended_grow (refusals w c regs) (plain w io (targets_of w c regs) job (inner_call regs) (inner_args regs)) (plain_grow (targets_of w c regs) (inner_call regs) (inner_args regs))

-- the replies of what an outcome leaves have grown
abbrev Grown : Environment → Outcome → Type 0
Grown e outcome = Grow e.channels outcome.environment.channels

chosen : (e : Environment) (b : Bool) (first second : Outcome) → Grown e first → Grown e second → Grown e (cond b first second)
chosen e true first second p q = p
chosen e false first second p q = q

call_grown : (number t : ℕ) (e : Environment) (x : Thread) → Grown e (guest_calls number t e x)
unfolding guest_calls
call_grown number t e x =
    chosen e (eqb number LW_CREATE) (create_outcome e x) _ (stay e.channels)
    (chosen e (eqb number LW_SWITCH) (switch_outcome t e x) _ (stay e.channels)
    (chosen e (eqb number LW_RESTRICT) (restrict_outcome e x) _ (stay e.channels)
    (chosen e (eqb number LW_OVERLAY) (overlay_outcome e x) _ (stay e.channels)
    (chosen e (eqb number LW_SYSCALL) (syscall_outcome e x) (plain_outcome number e x) (syscall_grow e.world e.channels x.job x.context x.regs)
    (plain_grow e.world e.channels x.job (three_times x.context) (plain_call number) (args_of x.regs))))))

stored_grown : (e : Environment) (x : Thread) (s : Stored) → Grown e (stored_outcome e x s)
stored_grown e x Absent = stay e.channels
stored_grown e x ReadOnly = stay e.channels
stored_grown e x Full = stay e.channels
stored_grown e x (Stores v) = stay e.channels

store_grown : (e : Environment) (x : Thread) (piece : Piece) → Grown e (store_outcome e x piece)
unfolding store_outcome
store_grown e x piece =
    chosen e (leb (piece.at + length piece.bytes) (e.world.size.pages * PAGE_BYTES)) (stored_outcome e x (store e.world x.context x.job piece)) (unchanged e (faulted x fault.BadStore))
    (stored_grown e x (store e.world x.context x.job piece)) (stay e.channels)

shared_grown : (t : ℕ) (e : Environment) (x : Thread) (i : Instr) (op : Op) → Grown e (shared_outcome guest_calls t e x i op)
unfolding shared_outcome
shared_grown t e x i Stb = store_grown e x _
shared_grown t e x i Stw = chosen e (is_aligned _) (store_outcome e x _) (unchanged e (faulted x fault.BadStore)) (store_grown e x _) (stay e.channels)
shared_grown t e x i Sys = call_grown i.imm t e x
shared_grown t e x i _ = stay e.channels

next_grown : (t : ℕ) (e : Environment) (x : Thread) (next : Next) → Grown e (next_outcome guest_calls t e x next)
unfolding next_outcome
next_grown t e x Pause = stay e.channels
next_grown t e x BadPc = stay e.channels
next_grown t e x (Shared i) = shared_grown t e x i i.op

advance_grown : (t : ℕ) (e : Environment) (x : Thread) (advance : Advance) → Grown e (advance_outcome guest_calls t e x advance)
unfolding advance_outcome
advance_grown t e x advance = next_grown t e (record x { regs = advance.after }) advance.next

-- what is recorded under a number is of that request, and its bytes are a beginning of the reply
record IsKept (io : Channels) (r : ℕ) (told : Finished) : Type 0 where
  request : told.request ≡ r
  first : IsPrefix told.bytes (bytes_in io.replies r)

abbrev AreKept : Channels → Option Serve → Type 0
AreKept io serve = (r : ℕ) → IfSome (in_serve serve r) (IsKept io r)

pub weaker : {T : Type 0} (o : Option T) (P Q : T → Type 0) → ((x : T) → P x → Q x) → IfSome o P → IfSome o Q
weaker None P Q then is = tt
weaker (Some x) P Q then is = then x is

grown_kept : (io after : Channels) (serve : Option Serve) → Grow io after → AreKept io serve → AreKept after serve
grown_kept io after serve grow kept r =
    let more = grow r in
    weaker (in_serve serve r) (IsKept io r) (IsKept after r)
    (λ told is. record {
      request = is.request;
      first = (is.first.0 ++ more.0, sym (append_assoc told.bytes is.first.0 more.0) ∙ ap (λ l. l ++ more.0) is.first.1 ∙ more.1);
    }) (kept r)

-- one more is recorded
recorded_more : (P : ℕ → Finished → Type 0) (l : List (Option Finished)) (i : ℕ) (told : Finished) → P i told → ((r : ℕ) → IfSome (get_or l r None) (P r)) → (r : ℕ) → IfSome (get_or (set l i (Some told)) r None) (P r)
recorded_more P [] i told here all r = all r
recorded_more P (x ∷ l) zero told here all zero = here
recorded_more P (x ∷ l) zero told here all (suc r) = all (suc r)
recorded_more P (x ∷ l) (suc i) told here all zero = all zero
recorded_more P (x ∷ l) (suc i) told here all (suc r) = recorded_more (λ n. P (suc n)) l i told here (λ n. all (suc n)) r

finish_kept : (t : ℕ) (s : Serve) (outcome : Outcome) (b : Bool) → AreKept outcome.environment.channels (Some s) →
    AreKept (cond b (finish t s outcome) (only (Some s) outcome)).environment.channels (cond b (finish t s outcome) (only (Some s) outcome)).serve
finish_kept t s outcome false kept = kept
finish_kept t s outcome true kept =
    let io = outcome.environment.channels in
    recorded_more (IsKept io) s.replies (outcome.thread.job - 1) (finished_by outcome.thread io) (record { request = refl; first = stay io (outcome.thread.job - 1) }) kept

begin_kept : (t : ℕ) (s : Serve) (e : Environment) (x : Thread) (b : Bool) → AreKept e.channels (Some s) →
    AreKept (cond b (begin_next t s e) (only (Some s) (unchanged e (with_status x (Done 0))))).environment.channels (cond b (begin_next t s e) (only (Some s) (unchanged e (with_status x (Done 0))))).serve
begin_kept t s e x true kept = kept
begin_kept t s e x false kept = kept

settled_kept : (t : ℕ) (serve : Option Serve) (outcome : Outcome) → AreKept outcome.environment.channels serve → AreKept (settled t serve outcome).environment.channels (settled t serve outcome).serve
settled_kept t None outcome kept = kept
settled_kept t (Some s) outcome kept = finish_kept t s outcome (has_ended outcome.thread.status) kept

-- what a step leaves, if one was made
abbrev AllKept : Option AfterStep → Type 0
AllKept made = IfSome made (λ after. AreKept after.environment.channels after.serve)

made_kept : (t : ℕ) (e : Environment) (serve : Option Serve) (text : List Instr) (x : Thread) (status : ThreadStatus) → AreKept e.channels serve → AllKept (thread_outcome guest_calls t e serve text x status)
made_kept t e serve text x Running kept =
    let outcome = advance_outcome guest_calls t e x (advanced text x.regs) in
    settled_kept t serve outcome (grown_kept e.channels outcome.environment.channels serve (advance_grown t e x (advanced text x.regs)) kept)
made_kept t e None text x Idle kept = kept
made_kept t e (Some s) text x Idle kept = begin_kept t s e x (ltb s.next (length e.channels.requests)) kept
made_kept t e serve text x (Done code) kept = tt
made_kept t e serve text x (Faulted f) kept = tt

after_kept : (m : Machine) (t : ℕ) (made : Option AfterStep) → AreKept m.environment.channels m.serve → AllKept made → AreKept (after_outcome m t made).environment.channels (after_outcome m t made).serve
after_kept m t None kept made = kept
after_kept m t (Some after) kept made = made

found_kept : (m : Machine) (t : ℕ) (found : Option Thread) → AreKept m.environment.channels m.serve →
    AreKept (after_thread guest_calls m t found).environment.channels (after_thread guest_calls m t found).serve
found_kept m t None kept = kept
found_kept m t (Some x) kept = after_kept m t _ kept (made_kept t m.environment m.serve m.text x x.status kept)

run_kept : (m : Machine) (steps : List ℕ) → AreKept m.environment.channels m.serve → AreKept (run m steps).environment.channels (run m steps).serve
unfolding step_by
run_kept m [] kept = kept
run_kept m (t ∷ ts) kept = run_kept (step m t) ts (found_kept m t (slice_get m.threads t) kept)

none_recorded : (P : ℕ → Finished → Type 0) (n r : ℕ) → IfSome (get_or (replicate n None) r None) (P r)
none_recorded P zero r = tt
none_recorded P (suc n) zero = tt
none_recorded P (suc n) (suc r) = none_recorded (λ k. P (suc k)) n r

first_kept : (io : Channels) (job : Job) (budget requests : ℕ) → AreKept io (serve_at job budget requests)
first_kept io jobs.Run budget requests r = tt
first_kept io (jobs.Serve workers) budget requests r = none_recorded (IsKept io) requests r

start_kept : (inputs : Inputs) → AreKept (start inputs).environment.channels (start inputs).serve
unfolding start
start_kept inputs = first_kept _ inputs.settings.job inputs.settings.budget (length inputs.requests)

recorded_within : (l : List (Option Finished)) (r : ℕ) → IfSome (get_or l r None) (λ told. r < length l)
recorded_within [] r = tt
recorded_within (x ∷ l) zero = first x
  where
    first : (o : Option Finished) → IfSome o (λ told. 0 < length (x ∷ l))
    first None = tt
    first (Some told) = omega arith
recorded_within (x ∷ l) (suc r) = weaker (get_or l r None) (λ told. r < length l) (λ told. suc r < length (x ∷ l)) (λ told is. omega (arith, is)) (recorded_within l r)

-- after each run the channels still have all that is recorded
pub still_has : (inputs : Inputs) (steps : List ℕ) (r : ℕ) → IfSome (run (start inputs) steps).serve (λ s. length s.replies ≡ length (run (start inputs) steps).environment.channels.requests) →
    IfSome (in_serve (run (start inputs) steps).serve r) (StillHas (run (start inputs) steps).environment.channels)
still_has inputs steps r count =
    by_serve (run (start inputs) steps).environment.channels (run (start inputs) steps).serve count (run_kept (start inputs) steps (start_kept inputs) r)
  where
    has : (io : Channels) (told : Finished) → r < length io.requests → IsKept io r told → StillHas io told
    has io told within is = record {
      known = omega (arith, within, is.request);
      first = subst (λ l. take (length told.bytes) l ≡ told.bytes) (is.first.1 ∙ ap (bytes_in io.replies) (sym is.request)) (take-append_seam told.bytes is.first.0);
    }

    by_told : (io : Channels) (o : Option Finished) → IfSome o (λ told. r < length io.requests) → IfSome o (IsKept io r) → IfSome o (StillHas io)
    by_told io None within is = tt
    by_told io (Some told) within is = has io told within is

    by_serve : (io : Channels) (serve : Option Serve) → IfSome serve (λ s. length s.replies ≡ length io.requests) → IfSome (in_serve serve r) (IsKept io r) → IfSome (in_serve serve r) (StillHas io)
    by_serve io None count is = tt
    by_serve io (Some s) count is =
        by_told io (get_or s.replies r None) (weaker (get_or s.replies r None) (λ told. r < length s.replies) (λ told. r < length io.requests) (λ told within. omega (arith, within, count)) (recorded_within s.replies r)) is
