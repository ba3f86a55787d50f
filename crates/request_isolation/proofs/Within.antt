-- No step leaves more frames in use than there are: one that stores finds them, and any other takes none.
use Rattle.std.proofs.Common.{◌≡◌, ◌≢◌, ◌⊎◌, inl, inr, ℕ, ◌+◌, ◌≤◌, ◌∙◌, refl, sym, ap, subst, Bool, true, false, cond, eqb, eqb-true, Option, Some, None, List, [], ◌∷◌, length, arith}
use Rattle.std.specs.Prelude.{max, slice_get, slice_index, slice_set, unwrap_or}
use Rattle.std.proofs.lemmas.Bool.Decides.{nat_tests}
use Rattle.access_cap.specs.Kinds.{is_chosen}
use Rattle.guest_call.proofs.Targets.{target_links}
use Rattle.guest_call.specs.Guest.{descriptor_for, link_of}
use Rattle.guest_isa.specs.declared.instr.Instr.{Instr}
use Rattle.guest_isa.specs.declared.op.Op.{Op}
use Rattle.guest_isa.specs.declared.op.Op.TheVariants.{Stb, Stw, Sys}
use Rattle.guest_machine.specs.Advances.{advanced}
use Rattle.guest_machine.specs.declared.progress.Next.{Next}
use Rattle.guest_machine.specs.declared.progress.Next.TheVariants as next
use Rattle.kernel_core.proofs.ReadyRuns.{ready_step, ready_thread}
use Rattle.kernel_core.specs.Kernel.{CanOpen, pages_in}
use Rattle.kernel_core.specs.Machine.{Environment, Machine}
use Rattle.kernel_core.specs.Ready.{IsReady}
use Rattle.kernel_core.specs.Runs.{frames_of, peak}
use Rattle.kernel_core.specs.Start.{Inputs}
use Rattle.kernel_core.specs.Step.{AfterStep, Outcome, advance_outcome, after_outcome, after_thread, args_of, faulted, guest_calls, next_outcome, roots, shared_outcome, step, step_by, store_outcome, stored_outcome, thread_outcome, three_times, unchanged, with_regs}
use Rattle.kernel_core.specs.declared.calling.TheConstants.{LW_SYSCALL}
use Rattle.kernel_core.specs.declared.thread.Thread.{Thread}
use Rattle.guest_image.specs.declared.image.Vault.{Vault}
use Rattle.lwc_base.proofs.Reaped.{reap-stays}
use Rattle.lwc_base.proofs.Reaps.{keeps-reap}
use Rattle.lwc_base.proofs.Room.{store-room}
use Rattle.lwc_base.specs.Capabilities.{empty_cap}
use Rattle.lwc_base.specs.Frames.{tags, used}
use Rattle.lwc_base.specs.Life.{HasItsContexts, reap}
use Rattle.lwc_base.specs.Sound.{IsSound}
use Rattle.lwc_base.specs.Store.{Absent, Done, Full, Piece, ReadOnly, Stored, store}
use Rattle.lwc_base.specs.World.{World, is_live}
use Rattle.lwc_base.specs.declared.descriptor.Cap.{Cap}
use Rattle.lwc_types.specs.declared.fault.Fault.TheVariants as fault
use Rattle.lwc_types.specs.declared.fault.ThreadStatus.{ThreadStatus}
use Rattle.lwc_types.specs.declared.fault.ThreadStatus.TheVariants as status
use Rattle.lwc_types.specs.declared.key.Kind.TheVariants as kinds
use Rattle.lwc_types.specs.declared.name.Name.{Name}
use Rattle.lwc_types.specs.declared.refusal.Refusal.{Refusal}
use Rattle.lwc_types.specs.declared.regs.Regs.{Regs}
use Rattle.lwc_types.specs.declared.size.WorldSize.{WorldSize}
use Rattle.lwc_syscall.specs.Plain.{moved, plain, plain_call, refused_or, store_at, world_after}
use Rattle.lwc_syscall.specs.Syscall.{inner_args, inner_call, link, lw_syscall, mask_in, targets_of}
use Rattle.lwc_syscall.specs.declared.calls.CallContexts.{CallContexts}
use Rattle.lwc_syscall.specs.declared.plain_call.PlainCall.{PlainCall}
use Rattle.lwc_syscall.specs.declared.plain_call.PlainCall.TheVariants as plain_calls
use Rattle.request_isolation.proofs.Frames.{acted-frames, has_its_tags, no_more_frames, read-frames, settled-world, tagged}
use Rattle.request_isolation.specs.Needs.{IsStoring, Reads, Stores, StoresNext, acted_world, world_by, world_left}

-- a step stores or does not
read_or_not : (call : Option PlainCall) → (call ≡ Some plain_calls.Read) ⊎ (call ≢ Some plain_calls.Read)
read_or_not (Some plain_calls.Read) = inl refl
read_or_not None = inr (λ is. cc)
read_or_not (Some plain_calls.Open) = inr (λ is. cc)
read_or_not (Some plain_calls.Close) = inr (λ is. cc)
read_or_not (Some plain_calls.Dup) = inr (λ is. cc)
read_or_not (Some plain_calls.Write) = inr (λ is. cc)
read_or_not (Some plain_calls.Map) = inr (λ is. cc)
read_or_not (Some plain_calls.Unmap) = inr (λ is. cc)
read_or_not (Some plain_calls.GetUid) = inr (λ is. cc)
read_or_not (Some plain_calls.SetUid) = inr (λ is. cc)
read_or_not (Some plain_calls.Exit) = inr (λ is. cc)

inner_or_not : (number : ℕ) (regs : Regs) (b : Bool) → eqb number LW_SYSCALL ≡ b → plain_call number ≢ Some plain_calls.Read → Reads number regs ⊎ (Reads number regs → ⊥)
inner_or_not number regs false other no_read = inr (λ reads. elim reads [
  | inl read ↦ no_read read
  | inr inner ↦ let clash : eqb number LW_SYSCALL ≡ true = (let same = inner.0 in grind (arith, nat_tests)) in let both : true ≡ false = sym clash ∙ other in cc
])
inner_or_not number regs true is no_read = elim (read_or_not (inner_call regs)) [
  | inl inner ↦ inl (inr (eqb-true number LW_SYSCALL is, inner))
  | inr none ↦ inr (λ reads. elim reads [
    | inl read ↦ no_read read
    | inr inner ↦ none inner.1
  ])
]

reads_or_not : (number : ℕ) (regs : Regs) → Reads number regs ⊎ (Reads number regs → ⊥)
reads_or_not number regs = elim (read_or_not (plain_call number)) [
  | inl read ↦ inl (inl read)
  | inr none ↦ inner_or_not number regs (eqb number LW_SYSCALL) refl none
]

stores_by : (regs : Regs) (i : Instr) (op : Op) → Stores regs i op ⊎ (Stores regs i op → ⊥)
stores_by regs i Stb = inl tt
stores_by regs i Stw = inl tt
stores_by regs i Sys = reads_or_not i.imm regs
stores_by regs i _ = inr (λ none. none)

stores_or_not : (regs : Regs) (next : Next) → StoresNext regs next ⊎ (StoresNext regs next → ⊥)
stores_or_not regs (next.Shared i) = stores_by regs i i.op
stores_or_not regs next.Pause = inr (λ none. none)
stores_or_not regs next.BadPc = inr (λ none. none)

number_of_read : (number : ℕ) → plain_call number ≡ Some plain_calls.Read → number ≡ 4
number_of_read number is = grind (arith, nat_tests)

-- where frames in use are within those there are, a step that stores leaves them so
module _ (t : ℕ) (e : Environment) (x : Thread) (live : is_live e.world x.context ≡ true) (named : HasItsContexts e.world) (sound : IsSound e.world) (fits : used e.world ≤ e.world.size.frames) where
  abbrev Fits : World → Type 0
  Fits v = used v ≤ e.world.size.frames

  abbrev FitsAfter : Outcome → Type 0
  FitsAfter o = Fits o.environment.world

  stored-fits : (piece : Piece) (within : Bool) (s : Stored) → store e.world x.context x.job piece ≡ s → FitsAfter (cond within (stored_outcome e x s) (unchanged e (faulted x fault.BadStore)))
  stored-fits piece false s is = fits
  stored-fits piece true (Done v) is = store-room e.world v x.context x.job piece is sound live
  stored-fits piece true Absent is = fits
  stored-fits piece true ReadOnly is = fits
  stored-fits piece true Full is = fits

  store-fits : (piece : Piece) → FitsAfter (store_outcome e x piece)
  unfolding store_outcome
  store-fits piece = stored-fits piece _ (store e.world x.context x.job piece) refl

  aligned-fits : (aligned : Bool) (piece : Piece) → FitsAfter (cond aligned (store_outcome e x piece) (unchanged e (faulted x fault.BadStore)))
  aligned-fits true piece = store-fits piece
  aligned-fits false piece = fits

  -- a read
  placed-fits : (c : Name) → is_live e.world c ≡ true → (at : ℕ) (bytes : List ℕ) → Fits (world_after e.world (store_at e.world c x.job at bytes))
  unfolding store_at
  placed-fits c there at bytes = by _ _ (store e.world c x.job (record { at = at; bytes = bytes })) refl
    where
      by : (none within : Bool) (s : Stored) → store e.world c x.job (record { at = at; bytes = bytes }) ≡ s → Fits (world_after e.world (cond none (Done e.world) (cond within s Absent)))
      by true within s is = fits
      by false false s is = fits
      by false true (Done v) is = store-room e.world v c x.job (record { at = at; bytes = bytes }) is sound there
      by false true Absent is = fits
      by false true ReadOnly is = fits
      by false true Full is = fits

  read-fits : (targets : CallContexts) → is_live e.world targets.memory ≡ true → (call : Option PlainCall) (args : List ℕ) → call ≡ Some plain_calls.Read → Fits (plain e.world e.channels targets x.job call args).world
  read-fits targets there call args reads =
      let bytes = moved e.channels (descriptor_for e.world targets.slots (slice_index args 0)) (slice_index args 2) in
      let small = placed-fits targets.memory there (slice_index args 1) bytes in
      subst (λ (k : Option PlainCall). Fits (plain e.world e.channels targets x.job k args).world) (sym reads) (elim (read-frames e.world e.channels x.job targets args) [
        | inl same ↦ omega (arith, same, fits)
        | inr stored ↦ omega (arith, stored, small)
      ])

  memory-live : is_live e.world (targets_of e.world x.context x.regs).memory ≡ true
  memory-live = by_chosen (is_chosen (mask_in x.regs) kinds.Page)
    where
      by_link : (o : Option (Name × Cap)) → link_of (descriptor_for e.world x.context (slice_index x.regs.r 1)) ≡ o → is_live e.world (unwrap_or o (x.context, empty_cap)).0 ≡ true
      by_link None is = live
      by_link (Some l) is = named.live x.context l.0 live (target_links e.world x.context (slice_index x.regs.r 1) l is)

      by_chosen : (b : Bool) → is_live e.world (cond b (link e.world x.context x.regs).0 x.context) ≡ true
      by_chosen true = by_link (link_of (descriptor_for e.world x.context (slice_index x.regs.r 1))) refl
      by_chosen false = live

  syscall-fits : inner_call x.regs ≡ Some plain_calls.Read → Fits (lw_syscall e.world e.channels x.context x.job x.regs).world
  unfolding lw_syscall
  syscall-fits reads = by _
    where
      by : (first : Option Refusal) → Fits (refused_or e.world e.channels (plain e.world e.channels (targets_of e.world x.context x.regs) x.job (inner_call x.regs) (inner_args x.regs)) first).world
      by None = read-fits (targets_of e.world x.context x.regs) memory-live (inner_call x.regs) (inner_args x.regs) reads
      by (Some r) = fits

  called-fits : (number : ℕ) → Reads number x.regs → FitsAfter (guest_calls number t e x)
  unfolding guest_calls
  called-fits number (inl read) =
      subst (λ (n : ℕ). FitsAfter (guest_calls n t e x)) (sym (number_of_read number read)) (read-fits (three_times x.context) live (plain_call 4) (args_of x.regs) refl)
  called-fits number (inr inner) =
      subst (λ (n : ℕ). FitsAfter (guest_calls n t e x)) (sym inner.0) (syscall-fits inner.1)

  shared-fits : (i : Instr) (op : Op) → Stores x.regs i op → FitsAfter (shared_outcome guest_calls t e x i op)
  unfolding shared_outcome
  shared-fits i Stb stores = store-fits _
  shared-fits i Stw stores = aligned-fits _ _
  shared-fits i Sys stores = called-fits i.imm stores
  shared-fits i _ stores = absurd stores

  next-fits : (next : Next) → StoresNext x.regs next → FitsAfter (next_outcome guest_calls t e x next)
  unfolding next_outcome
  next-fits (next.Shared i) stores = shared-fits i i.op stores
  next-fits next.Pause stores = absurd stores
  next-fits next.BadPc stores = absurd stores

-- what is not reached takes its frames along
reaped-frames : (w : World) (names : List Name) → used (reap w names) ≤ used w
reaped-frames w names =
    no_more_frames w (reap w names) (ap (λ (z : WorldSize). z.pages) (reap-stays w names).0) (keeps-reap w names (tagged w.size.pages (tags w)) (has_its_tags w))

-- a machine of a run whose frames in use are within those there are
module _ (inputs : Inputs) (count t : ℕ) (m : Machine) (ready : IsReady inputs count m) (fits : frames_of m ≤ m.environment.world.size.frames) where
  abbrev most_frames : ℕ
  most_frames = m.environment.world.size.frames

  storing-fits : IsStoring m t → used (acted_world m t) ≤ most_frames
  unfolding acted_world advance_outcome
  storing-fits storing =
      let x = storing.thread in
      let there = ready_thread inputs count t m x ready storing.found in
      let small = next-fits t m.environment (with_regs x (advanced m.text x.regs).after) there.live ready.named ready.sound fits (advanced m.text x.regs).next storing.stores in
      let runs : used (world_left m.environment.world (thread_outcome guest_calls t m.environment m.serve m.text x status.Running)) ≤ most_frames =
      subst (λ (f : Environment). used f.world ≤ most_frames) (sym (settled-world t m.serve (advance_outcome guest_calls t m.environment x (advanced m.text x.regs)))) small in
      subst (λ (o : Option Thread). used (world_by m t o) ≤ most_frames) (sym storing.found)
      (subst (λ (s : ThreadStatus). used (world_left m.environment.world (thread_outcome guest_calls t m.environment m.serve m.text x s)) ≤ most_frames) (sym storing.runs) runs)

  by_thread : (o : Option Thread) → slice_get m.threads t ≡ o → IsStoring m t ⊎ (IsStoring m t → ⊥)
  by_thread None none = inr (λ storing. let both : None ≡ Some storing.thread = sym none ∙ storing.found in cc)
  by_thread (Some x) found = by_status x.status refl
    where
      is_x : (storing : IsStoring m t) → x ≡ storing.thread
      is_x storing = let both : Some x ≡ Some storing.thread = sym found ∙ storing.found in cc

      rests : (s : ThreadStatus) → x.status ≡ s → s ≢ status.Running → IsStoring m t ⊎ (IsStoring m t → ⊥)
      rests s is other = inr (λ storing. other (sym is ∙ ap (λ (y : Thread). y.status) (is_x storing) ∙ storing.runs))

      by_status : (s : ThreadStatus) → x.status ≡ s → IsStoring m t ⊎ (IsStoring m t → ⊥)
      by_status status.Running runs = elim (stores_or_not (advanced m.text x.regs).after (advanced m.text x.regs).next) [
        | inl stores ↦ inl (record { thread = x; found = found; runs = runs; stores = stores })
        | inr never ↦ inr (λ storing. never (subst (λ (y : Thread). StoresNext (advanced m.text y.regs).after (advanced m.text y.regs).next) (sym (is_x storing)) storing.stores))
      ]
      by_status status.Idle is = rests status.Idle is (λ same. cc)
      by_status (status.Done code) is = rests (status.Done code) is (λ same. cc)
      by_status (status.Faulted f) is = rests (status.Faulted f) is (λ same. cc)

  acted-fits : used (acted_world m t) ≤ most_frames
  acted-fits = elim (by_thread (slice_get m.threads t) refl) [
    | inl storing ↦ storing-fits storing
    | inr never ↦ let few = acted-frames inputs count t m ready never in omega (arith, few, fits)
  ]

  left-fits : (o : Option AfterStep) → used (world_left m.environment.world o) ≤ most_frames → frames_of (after_outcome m t o) ≤ most_frames
  left-fits None small = fits
  left-fits (Some after) small = let few = reaped-frames after.environment.world (roots (slice_set m.threads t after.thread) after.serve) in omega (arith, few, small)

  step-fits : frames_of (step m t) ≤ most_frames
  unfolding acted_world step_by
  step-fits = by (slice_get m.threads t) refl
    where
      by : (o : Option Thread) → slice_get m.threads t ≡ o → frames_of (after_thread guest_calls m t o) ≤ most_frames
      by None none = fits
      by (Some x) found = left-fits (thread_outcome guest_calls t m.environment m.serve m.text x x.status) (subst (λ (o : Option Thread). used (world_by m t o) ≤ most_frames) found acted-fits)

pub max_least : (a b c : ℕ) → a ≤ c → b ≤ c → max a b ≤ c
max_least a b c low also = grind arith

-- the peak of steps is within the frames
pub peak_within : (inputs : Inputs) (count : ℕ) (m : Machine) (steps : List ℕ) → IsReady inputs count m → frames_of m ≤ inputs.settings.frames → peak m steps ≤ inputs.settings.frames
peak_within inputs count m [] ready fits = fits
peak_within inputs count m (t ∷ ts) ready fits =
    let size : m.environment.world.size.frames ≡ inputs.settings.frames = ap (λ (z : WorldSize). z.frames) ready.size in
    let here = step-fits inputs count t m ready (omega (arith, fits, size)) in
    max_least (frames_of m) (peak (step m t) ts) inputs.settings.frames fits
    (peak_within inputs (count + 1) (step m t) ts (ready_step inputs count t m ready) (omega (arith, here, size)))

-- the image's pages are within the frames
pub pages_fit : (inputs : Inputs) → CanOpen inputs → length inputs.image.pages ≤ inputs.settings.frames
pages_fit inputs can = by inputs.vault can.fits
  where
    by : (o : Option Vault) → pages_in inputs.image o ≤ inputs.settings.frames → length inputs.image.pages ≤ inputs.settings.frames
    by None low = low
    by (Some v) low = omega (arith, low)
