-- What the exit status of a call says, from how the call ended.
use Rattle.std.proofs.Common.{◌≡◌, ◌≢◌, ◌⊎◌, ◌<◌, ◌≤◌, ◌+◌, ◌*◌, ◌^◌, inl, inr, ℕ, suc, List, [], ◌∷◌, ◌++◌, map, ap₂, get_or, Bool, true, false, Option, None, Some, Result, Ok, Err, length, refl, sym, subst, ap, ◌∙◌, arith, All}
use Rattle.std.proofs.lemmas.Bool.{ltb-false, ltb-true}
use Rattle.std.proofs.lemmas.List.{get_or_past}
use Rattle.std.proofs.lemmas.List.Elements.{All-append, All-get_or, All-nil, All-same, All-weaker}
use Rattle.std.specs.Prelude.{nat_lt}
use Rattle.std.specs.List.{range_with_len}
use Rattle.std.specs.Option.{option_map}
use Rattle.lwc_types.specs.Outcomes.{Refusal}
use Rattle.guest_asm.specs.Drafts.{assembled}
use Rattle.guest_image.specs.Limits.{IsImage, lifted, pages_of}
use Rattle.guest_image.specs.Reading.{image_at}
use Rattle.guest_image.specs.Spelling.{spelling}
use Rattle.guest_image.specs.declared.image.Image.{Image}
use Rattle.guest_image.specs.declared.image.Form.{Form}
use Rattle.guest_image.specs.declared.image.Form.TheVariants.{One, Two}
use Rattle.guest_image.specs.declared.image.TheConstants.{VAULT_SLOT}
use Rattle.guest_image.specs.declared.image.Vault.{Vault}
use Rattle.kernel_core.specs.Histories.{IsComplete}
use Rattle.kernel_core.specs.Kernel.{AreRequests, CanOpen, MayHave}
use Rattle.kernel_core.specs.Machine.{reply_of}
use Rattle.kernel_core.specs.Runs.{kept, run}
use Rattle.kernel_core.specs.Machine as machine
use Rattle.kernel_core.specs.Start.{Inputs, inputs_of, start, thread_count, threads_for}
use Rattle.kernel_core.proofs.Others.{work_at_serve, work_at_start}
use Rattle.lwc_text.proofs.Listed.{complete_listed}
use Rattle.std.proofs.Math.Nat.{mul-le-mul_left, mul-le-mul_right}
use Rattle.kernel_core.specs.declared.settings.Job.TheVariants as jobs
use Rattle.lwc_gen.specs.Generated.{generated}
use Rattle.lwc_gen.specs.Summary.{recorded_reply, replies_of, summary_after, summary_line, totals_of}
use Rattle.lwcrun_core.specs.Serving.{EachHasReply, HasEnough, NoneIsShort, RepliesAreAlone, reply_alone, summary_alone}
use Rattle.confinement.proofs.EachRun.{run_confined}
use Rattle.guest_image.proofs.Answered.{reading_facts}
use Rattle.lwc_gen.proofs.Served.{can_open}
use Rattle.lwc_text.proofs.RequestLines.{file_is_read, is_file}
use Rattle.lwc_text.proofs.Steps.{is_read, is_schedule}
use Rattle.lwc_text.proofs.VaultFacts.{is_vault_file, vault_file_is_read}
use Rattle.request_isolation.proofs.Isolated.{had_never_short, never_full, recorded_alone, recorded_had, restored}
use Rattle.request_isolation.proofs.Restored.{ended_rest}
use Rattle.request_isolation.proofs.Serves.{each_reply, requests_stay}
use Rattle.request_isolation.specs.Alone.{ample}
use Rattle.request_isolation.specs.Needs.{HadFrames}
use Rattle.lwc_base.specs.Channels.{bytes_in}
use Rattle.lwc_names.proofs.Replies.{alone-numbered}
use Rattle.lwc_names.specs.Numbered.{numbered}
use Rattle.snapshot_host.specs.declared.finishing.Finished.{Finished}
use Rattle.kernel_core.specs.declared.settings.Settings.{Settings}
use Rattle.lift_law.proofs.Lifted.{runs_lifted}
use Rattle.lwc_guard.proofs.Promised.{guarded_run}
use Rattle.lwc_monitor.proofs.Promised.{monitored_run}
use Rattle.lwc_debug.proofs.ScriptLines as scripts
use Rattle.lwc_debug.specs.Scripts.{IsScript, script_at}
use Rattle.lwc_debug.specs.declared.command.Command as debug
use Rattle.lwc_debug.specs.declared.debugging.TheConstants.{MOST_DEBUGGED_STEPS}
use Rattle.lwc_debug.specs.declared.script.TheConstants.{MOST_SCRIPT_BYTES}
use Rattle.lwc_vault.proofs.Schedules.{keeps_secret}
use Rattle.lwc_vault.proofs.Slots.{leaves_free, takes_none}
use Rattle.lwc_vault.specs.Secrets.{beside}
use Rattle.lwc_types.specs.declared.limits.TheConstants.{MOST_BUDGET, MOST_IMAGE_BYTES, MOST_REQUEST_FILE_BYTES, MOST_SCHEDULE_BYTES, MOST_SOURCE_BYTES, MOST_STEPS, MOST_THREADS}
use Rattle.lwc_io.specs.Outside.{Fetch, FilesView, appended}
use Rattle.lwc_text.specs.Requests.{IsRequestFile, requests_at}
use Rattle.lwc_text.specs.Schedules.{IsSchedule, schedule_at}
use Rattle.lwc_text.specs.VaultFiles.{IsVaultFile, vault_at}
use Rattle.lwc_text.specs.declared.vault.TheConstants.{MOST_VAULT_BYTES}
use Rattle.lwcrun_inputs.specs.declared.ending.Rejection.{Rejection}
use Rattle.lwcrun_inputs.specs.declared.ending.Rejection.TheVariants as rejections
use Rattle.lwcrun_inputs.specs.declared.status.ExitStatus.{ExitStatus}
use Rattle.lwcrun_inputs.specs.declared.status.ExitStatus.TheVariants as statuses
use Rattle.lwcrun_core.specs.Calls.{AreContents, CallEnded, CommandEnded, FetchesNamed, FetchesPlan, FileFailed, IsNamed, IsOrNoMemory, IsRejected, IsUndisturbed, Names, NoFault, WroteOnlyReplies, status_by}
use Rattle.lwcrun_core.specs.Headlines.{AreRequestsIn, Headline, IsFitting, IsListed, IsRunnable, IsServe, IsVaultReplay, WroteServe}
use Rattle.lwcrun_inputs.specs.Ends.{End, Outside, Ended, IsUnwritten, NothingFailed, WriteFailed}
use Rattle.lwcrun_inputs.specs.Ends as ends
use Rattle.lwc_text.specs.Report.{report_of_schedule, stream_text}
use Rattle.lwcrun_core.specs.Works.{AnyImage, BoundedRequests, FileKind, FileList, FittingImage, Gathered, IsText, Requests, Schedule, ScriptFile, Source, VaultFile, Work, plan_by, plan_of, read_by, read_file, read_files, requests_named, task_of, scheduled}
use Rattle.lwcrun_core.specs.Works as works
use Rattle.lwcrun_inputs.specs.Inputs.{bounded, bounded_requests_of, fitted, fitting_image_of, image_of, or_rejected, requests_of, schedule_of, serve_steps, source_of, then_tested, worker_count}
use Rattle.lwcrun_core.specs.Beside.{fitted_beside, fitting_vault_for, script_of, vault_for}
use Rattle.lwcrun_line.specs.Lines.{AreReplaySettings, AreRunSettings, AreServeSettings, Command, IsWithinLimits}
use Rattle.lwcrun_line.specs.Lines as commands
use Rattle.lwcrun_inputs.specs.Plans.{Plan, AreFetchesOf, FileContents, LeadsTo, Reads, accepted, outcome}
use Rattle.lwcrun_inputs.specs.Plans as plans
use Rattle.lwcrun_inputs.specs.Statuses.{exit_number, status_of, status_of_rejection}
use Rattle.lwcrun_inputs.proofs.Readers.{bounded_found, fitted_found, image_fits, image_read, requests_bounded, requests_read, schedule_read, source_read, tested}
use Rattle.lwcrun_core.proofs.ReadersBeside.{beside_found, fits_beside, script_read, vault_read}
use Rattle.lwcrun_core.proofs.Promises.{AreKnown, IsUnhindered, end_by, known_bytes, leads_known, settled}

-- what follows the last input of each command

abbrev replayed : Settings → Image → List ℕ → List (List ℕ) → Plan Rejection Work
replayed settings image steps asked = plans.Write (works.Replaying (inputs_of image asked settings) steps)

abbrev ran : Settings → Image → Plan Rejection Work
ran settings image = plans.Write (works.Running (inputs_of image [] settings))

abbrev served : (Inputs → Work) → Settings → Image → List (List ℕ) → Plan Rejection Work
served work settings image asked = plans.Write (work (inputs_of image asked settings))

abbrev made : Image → Plan Rejection Work
made image = plans.Write (works.Spelling image)

abbrev listed : Image → Plan Rejection Work
listed image = plans.Write (works.Disassembling image)

abbrev raised : Image → Plan Rejection Work
raised image = plans.Write (works.Spelling (lifted image))

abbrev monitored : Settings → Image → List ℕ → Plan Rejection Work
monitored settings image steps = plans.Write (works.Monitoring (inputs_of image [] settings) steps)

abbrev guarded : Settings → Image → List ℕ → Plan Rejection Work
guarded settings image steps = plans.Write (works.Guarding (inputs_of image [] settings) steps)

abbrev kept_beside : Settings → Image → Vault → List ℕ → Plan Rejection Work
kept_beside settings image v steps = plans.Write (works.Replaying (beside (inputs_of image [] settings) v) steps)

abbrev answered : Settings → Image → List ℕ → List debug.Command → Plan Rejection Work
answered settings image steps script = plans.Write (works.Debugging (inputs_of image [] settings) steps script)

-- what follows the earlier inputs of a command

abbrev after_replay_schedule : Option (List ℕ) → Settings → Image → List ℕ → Plan Rejection Work
after_replay_schedule requests settings image steps =
    read_files (requests_named requests) settings (λ p. works.Replaying (inputs_of p.image p.requests settings) p.steps) (scheduled image steps)

abbrev after_replay_image : List ℕ → Option (List ℕ) → Settings → Image → Plan Rejection Work
after_replay_image schedule requests settings image =
    read_by (schedule_of (threads_for image settings.job) MOST_STEPS) MOST_SCHEDULE_BYTES schedule (after_replay_schedule requests settings image)

abbrev after_monitor_image : List ℕ → Settings → Image → Plan Rejection Work
after_monitor_image schedule settings image =
    read_by (schedule_of (threads_for image settings.job) MOST_STEPS) MOST_SCHEDULE_BYTES schedule (monitored settings image)

abbrev after_guard_image : List ℕ → Settings → Image → Plan Rejection Work
after_guard_image schedule settings image =
    read_by (schedule_of (threads_for image settings.job) MOST_STEPS) MOST_SCHEDULE_BYTES schedule (guarded settings image)

abbrev after_server : (Inputs → Work) → List ℕ → Settings → Image → Plan Rejection Work
after_server work requests settings image =
    read_by (bounded_requests_of settings) MOST_REQUEST_FILE_BYTES requests (served work settings image)

abbrev after_vault : List ℕ → Settings → Image → Vault → Plan Rejection Work
after_vault schedule settings image v =
    read_by (schedule_of (threads_for image settings.job) MOST_STEPS) MOST_SCHEDULE_BYTES schedule (kept_beside settings image v)

abbrev after_vault_image : List ℕ → List ℕ → Settings → Image → Plan Rejection Work
after_vault_image vault schedule settings image =
    read_by (fitting_vault_for settings.frames image) MOST_VAULT_BYTES vault (after_vault schedule settings image)

abbrev after_debug_schedule : List ℕ → Settings → Image → List ℕ → Plan Rejection Work
after_debug_schedule script settings image steps =
    read_by script_of MOST_SCRIPT_BYTES script (answered settings image steps)

abbrev after_debug_image : List ℕ → List ℕ → Settings → Image → Plan Rejection Work
after_debug_image schedule script settings image =
    read_by (schedule_of (threads_for image settings.job) MOST_DEBUGGED_STEPS) MOST_SCHEDULE_BYTES schedule (after_debug_schedule script settings image)

-- the files that a plan reads are those that its command names

reads_accepted : {A : Type 0} (files : FileContents) (r : Result A Rejection) (next : A → Plan Rejection Work) (q : List ℕ) (P : Type 0) → ((x : A) → Reads files (next x) q → P) → Reads files (accepted r next) q → P
reads_accepted files (Ok x) next q P there h = there x h
reads_accepted files (Err rejection) next q P there h = absurd h

-- a plan that reads a file by a grammar reads that file, and what its values' plans read
reads_by : {A : Type 0} (files : FileContents) (grammar : List ℕ → Result A Rejection) (limit : ℕ) (name : List ℕ) (next : A → Plan Rejection Work) (q : List ℕ) (P : Type 0) → (q ≡ name → P) → ((x : A) → Reads files (next x) q → P) → Reads files (read_by grammar limit name next) q → P
reads_by files grammar limit name next q P here there (inl is) = here is
reads_by files grammar limit name next q P here there (inr h) = reads_accepted files (grammar h.0) next q P there h.2

reads_file : (files : FileContents) (kind : FileKind) (name : List ℕ) (settings : Settings) (parts : Gathered) (next : Gathered → Plan Rejection Work) (q : List ℕ) (P : Type 0) → (q ≡ name → P) → ((read : Gathered) → Reads files (next read) q → P) → Reads files (read_file kind name settings parts next) q → P
reads_file files FittingImage name settings parts next q P here there h = reads_by files (fitting_image_of settings.frames) MOST_IMAGE_BYTES name (λ x. next (record parts { image = x })) q P here (λ x after. there (record parts { image = x }) after) h
reads_file files AnyImage name settings parts next q P here there h = reads_by files image_of MOST_IMAGE_BYTES name (λ x. next (record parts { image = x })) q P here (λ x after. there (record parts { image = x }) after) h
reads_file files Source name settings parts next q P here there h = reads_by files source_of MOST_SOURCE_BYTES name (λ x. next (record parts { image = x })) q P here (λ x after. there (record parts { image = x }) after) h
reads_file files (Schedule most) name settings parts next q P here there h = reads_by files (schedule_of (threads_for parts.image settings.job) most) MOST_SCHEDULE_BYTES name (λ steps. next (record parts { steps = steps })) q P here (λ steps after. there (record parts { steps = steps }) after) h
reads_file files Requests name settings parts next q P here there h = reads_by files requests_of MOST_REQUEST_FILE_BYTES name (λ asked. next (record parts { requests = asked })) q P here (λ asked after. there (record parts { requests = asked }) after) h
reads_file files BoundedRequests name settings parts next q P here there h = reads_by files (bounded_requests_of settings) MOST_REQUEST_FILE_BYTES name (λ asked. next (record parts { requests = asked })) q P here (λ asked after. there (record parts { requests = asked }) after) h
reads_file files VaultFile name settings parts next q P here there h = reads_by files (fitting_vault_for settings.frames parts.image) MOST_VAULT_BYTES name (λ v. next (record parts { vault = Some v })) q P here (λ v after. there (record parts { vault = Some v }) after) h
reads_file files ScriptFile name settings parts next q P here there h = reads_by files script_of MOST_SCRIPT_BYTES name (λ script. next (record parts { script = script })) q P here (λ script after. there (record parts { script = script }) after) h

reads_files : (files : FileContents) (named : FileList) (settings : Settings) (work : Gathered → Work) (parts : Gathered) (q : List ℕ) → Reads files (read_files named settings work parts) q → IsNamed named q
reads_files files [] settings work parts q h = h
reads_files files ((kind, name) ∷ named) settings work parts q h =
    reads_file files kind name settings parts (read_files named settings work) q _ (λ is. inl is) (λ read after. inr (reads_files files named settings work read q after)) h

reads_names : (files : FileContents) (command : Command) (q : List ℕ) → Reads files (plan_of command) q → Names command q
unfolding plan_by
reads_names files command q h = reads_files files (task_of command).files (task_of command).settings (task_of command).work _ q h

are_known : (files : FileContents) (command : Command) (bytes : List ℕ → List ℕ) → AreContents files command bytes → AreKnown files (plan_of command) bytes
are_known files command bytes h q reads = h q (reads_names files command q reads)

unhindered : (o : Outside) (command : Command) → NoFault o command → IsUnhindered o (plan_of command)
unhindered o command h = record {
  files = λ q reads. h.files q (reads_names o.files.contents command q reads);
  out = h.out;
}

-- the end of each exit status

late : (r : Rejection) → 5 ≤ exit_number (status_of_rejection r)
late (rejections.Image rule at) = omega arith
late (rejections.Source rule at) = omega arith
late (rejections.Input rule at) = omega arith
late (rejections.TooLarge pages frames) = omega arith

usage_end : (e : End Rejection) → status_of e ≡ statuses.Usage → e ≡ ends.Usage
usage_end ends.Usage h = refl
usage_end (ends.Refused r) h = absurd (omega (arith, late r, ap exit_number h))
usage_end _ h = absurd cc

done_end : (e : End Rejection) → status_of e ≡ statuses.Ok → e ≡ ends.Done
done_end ends.Done h = refl
done_end (ends.Refused r) h = absurd (omega (arith, late r, ap exit_number h))
done_end _ h = absurd cc

unread_end : (e : End Rejection) → status_of e ≡ statuses.ReadFault → (name : List ℕ) × (e ≡ ends.Unread name)
unread_end (ends.Unread name) h = (name, refl)
unread_end (ends.Refused r) h = absurd (omega (arith, late r, ap exit_number h))
unread_end _ h = absurd cc

unwritten_end : (e : End Rejection) → status_of e ≡ statuses.WriteFault → e ≡ ends.Unwritten
unwritten_end ends.Unwritten h = refl
unwritten_end (ends.Refused r) h = absurd (omega (arith, late r, ap exit_number h))
unwritten_end _ h = absurd cc

refusal_end : (e : End Rejection) (rejection : Rejection) → status_of e ≡ status_of_rejection rejection → (found : Rejection) × (e ≡ ends.Refused found)
refusal_end (ends.Refused found) rejection h = (found, refl)
refusal_end _ rejection h = absurd (omega (arith, late rejection, ap exit_number h))

status_of-end_by : (r : Result Work Rejection) → status_of (end_by r) ≡ status_by r
status_of-end_by (Ok work) = refl
status_of-end_by (Err rejection) = refl

-- what the grammars accept, and what an accepted input is

or_rejected_ok : {R A : Type 0} (reject : R → ℕ → Rejection) (r : Result A (Refusal R)) (x : A) → or_rejected reject r ≡ Ok x → r ≡ Ok x
or_rejected_ok reject (Ok y) x e = cc
or_rejected_ok reject (Err refusal) x e = absurd cc

source_found : (bytes : List ℕ) (image : Image) → source_of bytes ≡ Ok image → assembled bytes ≡ Ok image
unfolding source_of
source_found bytes image is = or_rejected_ok rejections.Source (assembled bytes) image is

work_is : (work other : Work) → (let r : Result Work Rejection = Ok work in r ≡ Ok other) → work ≡ other
work_is work other e = cc

-- a value that was accepted is followed by its plan
over : {A : Type 0} (bytes : List ℕ → List ℕ) (r : Result A Rejection) (x : A) (next : A → Plan Rejection Work) → r ≡ Ok x → outcome bytes (accepted r next) ≡ outcome bytes (next x)
over bytes r x next is = ap (λ r. outcome bytes (accepted r next)) is

of_read : {A : Type 0} (files : FileContents) (r : Result A Rejection) (next : A → Plan Rejection Work) (work : Work) → LeadsTo files (accepted r next) (Ok work) → (x : A) × (r ≡ Ok x) × LeadsTo files (next x) (Ok work)
of_read files (Ok x) next work h = (x, refl, h)
of_read files (Err rejection) next work h = absurd cc

-- a plan that reads a known file and leads to a work has accepted the file, and goes on by its value
leads_by : {A : Type 0} (files : FileContents) (grammar : List ℕ → Result A Rejection) (limit : ℕ) (name : List ℕ) (next : A → Plan Rejection Work) (work : Work) (known : List ℕ) → files name ≡ Some known → LeadsTo files (read_by grammar limit name next) (Ok work)
    → (x : A) × (grammar known ≡ Ok x) × All (λ b. b < 256) known × LeadsTo files (next x) (Ok work)
leads_by files grammar limit name next work known is (bytes, read_as, leads) =
    let same : known ≡ bytes = known_bytes (files name) known bytes is read_as.contents in
    let read = of_read files (grammar bytes) next work leads in
    (read.0, ap grammar same ∙ read.1, subst (All (λ b. b < 256)) (sym same) read_as.range, read.2)

-- this is what is told of a complete history
abbrev TellsSteps : (Inputs → List ℕ → List ℕ) → Inputs → List ℕ → Type 0
TellsSteps tell inputs text = (steps : List ℕ) × IsComplete (start inputs) steps × (text ≡ tell inputs steps)

-- what was written is told of a complete history
abbrev WroteSteps : (Inputs → List ℕ → List ℕ) → Outside → Inputs → Type 0
WroteSteps tell o inputs = (steps : List ℕ) × IsComplete (start inputs) steps × (o.out_after.taken ≡ appended o.out.taken (tell inputs steps))

-- what was written of a work of threads that went on by themselves
wrote : (tell : Inputs → List ℕ → List ℕ) (o : Outside) (inputs : Inputs) (of_inputs : Inputs → Work) (work : Work) (text : List ℕ) → (IsText (of_inputs inputs) text → TellsSteps tell inputs text)
    → work ≡ of_inputs inputs → IsText work text → o.out_after.taken ≡ appended o.out.taken text → WroteSteps tell o inputs
wrote tell o inputs of_inputs work text tells is_work is taken =
    let h = tells (let P : Work → Type 0 = λ w. IsText w text in subst P is_work is) in
    (h.0, h.1, taken ∙ ap (appended o.out.taken) h.2)

schedule_accepted : (threads most : ℕ) (bytes steps : List ℕ) → IsSchedule threads most bytes steps → schedule_of threads most bytes ≡ Ok steps
schedule_accepted threads most bytes steps is = schedule_read threads most bytes steps (is_read threads most bytes steps is)

script_accepted : (bytes : List ℕ) (script : List debug.Command) → IsScript bytes script → script_of bytes ≡ Ok script
script_accepted bytes script is = script_read bytes script (scripts.is_read bytes script is)

requests_accepted : (bytes : List ℕ) (asked : List (List ℕ)) → IsRequestFile bytes asked → requests_of bytes ≡ Ok asked
requests_accepted bytes asked is = requests_read bytes asked (file_is_read bytes asked is)

image_accepted : (bytes : List ℕ) (image : Image) → IsImage image → bytes ≡ spelling image → image_of bytes ≡ Ok image
image_accepted bytes image is spelled = image_read bytes image (ap image_at spelled ∙ reading_facts.reads image is)

fitting_accepted : (settings : Settings) (bytes : List ℕ) (image : Image) → IsFitting settings bytes image → fitting_image_of settings.frames bytes ≡ Ok image
unfolding fitting_image_of
fitting_accepted settings bytes image is =
    ap (λ r. then_tested r (fitted settings.frames)) (image_accepted bytes image is.image is.spelled) ∙ image_fits settings.frames image is.fits

image_found : (bytes : List ℕ) (image : Image) → All (λ b. b < 256) bytes → image_of bytes ≡ Ok image → IsImage image × (bytes ≡ spelling image)
unfolding image_of
image_found bytes image fits e = reading_facts.found bytes image fits (or_rejected_ok rejections.Image (image_at bytes) image e)

fitting_found : (settings : Settings) (bytes : List ℕ) (image : Image) → All (λ b. b < 256) bytes → fitting_image_of settings.frames bytes ≡ Ok image → IsFitting settings bytes image
unfolding fitting_image_of
fitting_found settings bytes image fits e =
    let read = tested (image_of bytes) (fitted settings.frames) image e in
    let small = fitted_found settings.frames read.0 image read.2 in
    let spelled = image_found bytes image fits (read.1 ∙ ap (λ x. Ok x) small.0) in
    record { image = spelled.0; spelled = spelled.1; fits = subst (λ (x : Image). length x.pages ≤ settings.frames) small.0 small.1 }

is_bytes : (bytes : List ℕ) → All (λ b. b < 256) bytes → (i : ℕ) → get_or bytes i 0 < 256
is_bytes bytes fits i = by (nat_lt i (length bytes)) refl
  where
    by : (b : Bool) → nat_lt i (length bytes) ≡ b → get_or bytes i 0 < 256
    by true inside = All-get_or (λ b. b < 256) bytes i 0 (ltb-true _ _ inside) fits
    by false past = let none : get_or bytes i 0 ≡ 0 = get_or_past bytes i 0 (ltb-false _ _ past) in omega (arith, none)

few_pages : (form : Form) → pages_of form ≤ 16384
few_pages One = omega arith
few_pages Two = omega arith

text_of_image : (x : Image) → IsImage x → length x.text ≤ 2 ^ 32
text_of_image x is = omega (arith, is.text.bounded)

fitting_vault_accepted : (bytes : List ℕ → List ℕ) (image vault schedule : List ℕ) (settings : Settings) (x : Image) (v : Vault) (steps : List ℕ) → IsVaultReplay bytes image vault schedule settings x v steps → fitting_vault_for settings.frames x (bytes vault) ≡ Ok v
unfolding fitting_vault_for
fitting_vault_accepted bytes image vault schedule settings x v steps is =
    ap (λ r. then_tested r (fitted_beside settings.frames x))
    (vault_read x (bytes vault) v (vault_file_is_read (length x.text) (pages_of x.form) (bytes vault) v (text_of_image x is.guest) (few_pages x.form) is.secret))
    ∙ fits_beside settings.frames x v (takes_none x is.free) is.fits

-- what is found beside an image: a vault file for it, in a slot that is free, whose pages fit
record IsFoundBeside (settings : Settings) (bytes : List ℕ) (x : Image) (v : Vault) : Type 0 where
  secret : IsVaultFile (length x.text) (pages_of x.form) bytes v
  free : All (λ s. s.slot ≢ VAULT_SLOT) x.slots
  fits : length x.pages + length v.pages ≤ settings.frames

fitting_vault_found : (settings : Settings) (bytes : List ℕ) (x : Image) (v : Vault) → All (λ b. b < 256) bytes → fitting_vault_for settings.frames x bytes ≡ Ok v → IsFoundBeside settings bytes x v
unfolding fitting_vault_for vault_for
fitting_vault_found settings bytes x v fits e =
    let read = tested (vault_for x bytes) (fitted_beside settings.frames x) v e in
    let found = beside_found settings.frames x read.0 v read.2 in
    let at = or_rejected_ok rejections.Input (vault_at (length x.text) (pages_of x.form) bytes) v (read.1 ∙ ap (λ w. Ok w) found.0) in
    record {
      secret = is_vault_file (length x.text) (pages_of x.form) bytes v (is_bytes bytes fits) at;
      free = leaves_free x found.1;
      fits = subst (λ (w : Vault). length x.pages + length w.pages ≤ settings.frames) found.0 found.2;
    }

schedule_found : (threads most : ℕ) (bytes steps : List ℕ) → schedule_of threads most bytes ≡ Ok steps → IsSchedule threads most bytes steps
unfolding schedule_of
schedule_found threads most bytes steps e = is_schedule threads most bytes steps (or_rejected_ok rejections.Input (schedule_at threads most bytes) steps e)

script_found : (bytes : List ℕ) (script : List debug.Command) → script_of bytes ≡ Ok script → IsScript bytes script
unfolding script_of
script_found bytes script e = scripts.is_script bytes script (or_rejected_ok rejections.Input (script_at bytes) script e)

requests_found : (bytes : List ℕ) (asked : List (List ℕ)) → requests_of bytes ≡ Ok asked → IsRequestFile bytes asked
unfolding requests_of
requests_found bytes asked e = is_file bytes asked (or_rejected_ok rejections.Input (requests_at bytes) asked e)

-- where the plan of accepted files leads

over_schedule : (bytes : List ℕ → List ℕ) (requests : Option (List ℕ)) (settings : Settings) (image : Image) (steps : List ℕ) (asked : List (List ℕ)) → AreRequestsIn requests bytes asked → outcome bytes (after_replay_schedule requests settings image steps) ≡ Ok (works.Replaying (inputs_of image asked settings) steps)
over_schedule bytes None settings image steps asked none = ap (λ a. Ok (works.Replaying (inputs_of image a settings) steps)) (sym none)
over_schedule bytes (Some requests) settings image steps asked is = over bytes _ asked (replayed settings image steps) (requests_accepted (bytes requests) asked is)

runs : (bytes : List ℕ → List ℕ) (command : Command) → IsRunnable command bytes → (work : Work) × (outcome bytes (plan_of command) ≡ Ok work)
unfolding plan_by
runs bytes (commands.Replay image schedule requests settings) (x, steps, asked, h) = (
  works.Replaying (inputs_of x asked settings) steps,
  over bytes _ x (after_replay_image schedule requests settings) (fitting_accepted settings (bytes image) x h.guest)
      ∙ over bytes _ steps (after_replay_schedule requests settings x) (schedule_accepted _ _ (bytes schedule) steps h.scheduled)
      ∙ over_schedule bytes requests settings x steps asked h.requested,
)
runs bytes (commands.Run image settings) (x, h) =
    (works.Running (inputs_of x [] settings), over bytes _ x (ran settings) (fitting_accepted settings (bytes image) x h))
runs bytes (commands.Serve image requests settings) (x, asked, h) = (
  works.Running (inputs_of x asked settings),
  over bytes _ x (after_server works.Running requests settings) (fitting_accepted settings (bytes image) x h.guest)
      ∙ over bytes _ asked (served works.Running settings x) (requests_bounded settings (bytes requests) asked (file_is_read (bytes requests) asked h.requested) h.few),
)
runs bytes (commands.Asm source) (x, is) = (works.Spelling x, over bytes _ x made (source_read (bytes source) x is))
runs bytes (commands.Dis image) (x, is, spelled) = (works.Disassembling x, over bytes _ x listed (image_accepted (bytes image) x is spelled))
runs bytes (commands.Gen number) runnable = (works.Generating number, refl)
runs bytes (commands.Monitor image schedule settings) (x, steps, h) = (
  works.Monitoring (inputs_of x [] settings) steps,
  over bytes _ x (after_monitor_image schedule settings) (fitting_accepted settings (bytes image) x h.guest)
      ∙ over bytes _ steps (monitored settings x) (schedule_accepted _ _ (bytes schedule) steps h.scheduled),
)
runs bytes (commands.Guard image schedule settings) (x, steps, h) = (
  works.Guarding (inputs_of x [] settings) steps,
  over bytes _ x (after_guard_image schedule settings) (fitting_accepted settings (bytes image) x h.guest)
      ∙ over bytes _ steps (guarded settings x) (schedule_accepted _ _ (bytes schedule) steps h.scheduled),
)
runs bytes (commands.Vault image vault schedule settings) (x, v, steps, h) = (
  works.Replaying (beside (inputs_of x [] settings) v) steps,
  over bytes _ x (after_vault_image vault schedule settings) (image_accepted (bytes image) x h.guest h.spelled)
      ∙ over bytes _ v (after_vault schedule settings x) (fitting_vault_accepted bytes image vault schedule settings x v steps h)
      ∙ over bytes _ steps (kept_beside settings x v) (schedule_accepted _ _ (bytes schedule) steps h.scheduled),
)
runs bytes (commands.Debug image schedule script settings) (x, steps, asked, h) = (
  works.Debugging (inputs_of x [] settings) steps asked,
  over bytes _ x (after_debug_image schedule script settings) (fitting_accepted settings (bytes image) x h.guest)
      ∙ over bytes _ steps (after_debug_schedule script settings x) (schedule_accepted _ _ (bytes schedule) steps h.scheduled)
      ∙ over bytes _ asked (answered settings x steps) (script_accepted (bytes script) asked h.scripted),
)
runs bytes (commands.Stream image requests settings) (x, asked, h) = (
  works.Streaming (inputs_of x asked settings),
  over bytes _ x (after_server works.Streaming requests settings) (fitting_accepted settings (bytes image) x h.guest)
      ∙ over bytes _ asked (served works.Streaming settings x) (requests_bounded settings (bytes requests) asked (file_is_read (bytes requests) asked h.requested) h.few),
)
runs bytes (commands.Lift image) (x, is, spelled) = (works.Spelling (lifted x), over bytes _ x raised (image_accepted (bytes image) x is spelled))

-- what is so at each place of the requests, by their bytes
places_alike : {A : Type 0} (f : ℕ → A) (g : List ℕ → A) (from : ℕ) (asked : List (List ℕ)) → ((r : ℕ) → r < length asked → f (from + r) ≡ g (bytes_in asked r)) → map f (range_with_len from (length asked)) ≡ map g asked
places_alike f g from [] same = refl
places_alike f g from (bytes ∷ rest) same =
    let first : from ≡ from + 0 = omega arith in
    ap₂ (λ y ys. y ∷ ys) (ap f first ∙ same 0 (omega arith))
    (places_alike f g (from + 1) rest (λ r inside. let next : from + 1 + r ≡ from + suc r = omega arith in ap f next ∙ same (suc r) (omega (arith, inside))))

-- requests in a file are within the limits
are_requests : (bytes : List ℕ) (asked : List (List ℕ)) → IsRequestFile bytes asked → AreRequests asked
are_requests bytes asked is = record { few = is.few; short = is.small }

-- a serve of accepted files can be opened
serve_opens : (settings : Settings) (bytes requests : List ℕ) (image : Image) (asked : List (List ℕ)) → AreServeSettings settings → IsFitting settings bytes image → IsRequestFile requests asked → CanOpen (inputs_of image asked settings)
serve_opens settings bytes requests image asked within is file = record {
  image = is.image;
  vault = tt;
  settings = within.limits;
  fits = is.fits;
  requests = subst (λ job. MayHave job asked) (sym within.job) (are_requests requests asked file);
}

-- a replay of accepted files can be opened
replay_opens : (requests : Option (List ℕ)) (settings : Settings) (bytes : List ℕ → List ℕ) (spelled : List ℕ) (image : Image) (asked : List (List ℕ)) → AreReplaySettings requests settings → IsFitting settings spelled image → AreRequestsIn requests bytes asked → CanOpen (inputs_of image asked settings)
replay_opens None settings bytes spelled image asked within is none =
    record { image = is.image; vault = tt; settings = within.limits; fits = is.fits; requests = subst (λ job. MayHave job asked) (sym within.job) none }
replay_opens (Some requests) settings bytes spelled image asked within is file = serve_opens settings spelled (bytes requests) image asked within is file

-- a run beside an accepted vault can be opened
vault_opens : (settings : Settings) (bytes : List ℕ) (x : Image) (v : Vault) → AreRunSettings settings → IsImage x → IsFoundBeside settings bytes x v → CanOpen (beside (inputs_of x [] settings) v)
vault_opens settings bytes x v within is found = record {
  image = is;
  vault = record { run = within.job; vault = found.secret.valid; free = found.free };
  settings = within.limits;
  fits = found.fits;
  requests = subst (λ job. MayHave job []) (sym within.job) refl;
}

-- each request of a finished serve has a reply
each_replied : (inputs : Inputs) (steps : List ℕ) (workers : ℕ) → CanOpen inputs → inputs.settings.job ≡ jobs.Serve workers → IsComplete (start inputs) steps → EachHasReply inputs steps
each_replied inputs steps workers can job complete r inside = each_reply inputs steps workers r can job complete inside

-- with enough frames each reply is that of its request alone
each_alone : (inputs : Inputs) (steps : List ℕ) → CanOpen inputs → RepliesAreAlone inputs steps
each_alone inputs steps can frames r told is =
    let bytes = bytes_in inputs.requests r in
    sym (alone-numbered (ample inputs.image inputs.settings.budget) inputs.image inputs.settings.budget r bytes)
    ∙ (elim frames [
      | inl has ↦ recorded_alone inputs can steps r told is has
      | inr had ↦ recorded_had inputs can steps r told is had
    ])

-- and no step finds too few
none_short : (inputs : Inputs) (steps : List ℕ) → CanOpen inputs → NoneIsShort inputs steps
none_short inputs steps can workers job frames before rest t is short =
    elim frames [
      | inl has ↦ never_full inputs workers can job has before t short
      | inr had ↦ had_never_short inputs workers can job before rest t (subst (HadFrames inputs) is had) short
    ]

-- no more steps are made than a schedule may have
run_few : (inputs : Inputs) → CanOpen inputs → inputs.settings.job ≡ jobs.Run → machine.work (start inputs) ≤ MOST_STEPS
run_few inputs can job =
    let budget = inputs.settings.budget in
    let threads : length inputs.image.entries * budget ≤ MOST_THREADS * budget = mul-le-mul_right budget can.image.thread_count in
    let steps : MOST_THREADS * budget ≤ MOST_THREADS * MOST_BUDGET = mul-le-mul_left MOST_THREADS can.settings.budget.1 in
    let most = work_at_start inputs job in
    omega (arith, most, threads, steps)

serve_few : (settings : Settings) (image : Image) (asked : List (List ℕ)) (workers : ℕ) → settings.job ≡ jobs.Serve workers → serve_steps settings (length asked) ≤ MOST_STEPS → machine.work (start (inputs_of image asked settings)) ≤ MOST_STEPS
serve_few settings image asked workers job few =
    let count : worker_count settings.job ≡ workers = ap worker_count job in
    let most = work_at_serve (inputs_of image asked settings) workers job in
    omega (arith, most, count, few)

-- what the text lists is a schedule of the steps
is_listed : (inputs : Inputs) (steps : List ℕ) → CanOpen inputs → IsComplete (start inputs) steps → machine.work (start inputs) ≤ MOST_STEPS → IsListed inputs steps
unfolding thread_count
is_listed inputs steps can complete few = complete_listed inputs steps can complete few

-- the text of a serve is that of a complete history in which the requests are served
wrote_serve : (tell : Inputs → List ℕ → List ℕ) (o : Outside) (inputs : Inputs) (workers : ℕ) → CanOpen inputs → inputs.settings.job ≡ jobs.Serve workers → machine.work (start inputs) ≤ MOST_STEPS → WroteSteps tell o inputs → WroteServe tell o inputs
wrote_serve tell o inputs workers can job few h = record {
  steps = h.0;
  complete = h.1;
  replied = each_replied inputs h.0 workers can job h.1;
  alone = each_alone inputs h.0 can;
  spared = none_short inputs h.0 can;
  restored = restored inputs workers can job h.0 (ended_rest (run (start inputs) h.0) h.1.ended);
  confined = run_confined inputs can h.0;
  listed = is_listed inputs h.0 can h.1 few;
  text = h.2;
}

-- a reply adds the same under each number
unnumbered : (r : ℕ) (told : Option Finished) → recorded_reply (option_map (numbered r) told) ≡ recorded_reply told
unnumbered r None = refl
unnumbered r (Some f) = refl

-- the summary of a generated serve is that of the replies that its requests get alone, with enough frames
summed_alone : (number : ℕ) (steps : List ℕ) → number ≤ 100 → IsComplete (start (generated number)) steps → HasEnough (generated number) steps → summary_after (generated number) number steps ≡ summary_alone number
unfolding replies_of
summed_alone number steps few complete frames =
    let can = can_open number few in
    let m = run (start (generated number)) steps in
    let one : (r : ℕ) → r < length (generated number).requests → recorded_reply (reply_of m (0 + r)) ≡ recorded_reply (reply_alone (generated number) (bytes_in (generated number).requests r)) =
    (λ r inside.
    let told = each_reply (generated number) steps 8 r can refl complete inside in
    let place : 0 + r ≡ r = omega arith in
    ap (λ k. recorded_reply (reply_of m k)) place ∙ ap recorded_reply (told.recorded ∙ sym (each_alone (generated number) steps can frames r told.reply told.recorded))
    ∙ unnumbered r (reply_alone (generated number) (bytes_in (generated number).requests r))) in
    let count : length m.environment.channels.requests ≡ length (generated number).requests = requests_stay (generated number) steps 8 can refl in
    ap (λ n. summary_line number (totals_of (map (λ r. recorded_reply (reply_of m r)) (range_with_len 0 n)))) count
    ∙ ap (λ l. summary_line number (totals_of l)) (places_alike (λ r. recorded_reply (reply_of m r)) (λ bytes. recorded_reply (reply_alone (generated number) bytes)) 0 (generated number).requests one)

-- what was written is the headline

asked_of : (files : FileContents) (requests : Option (List ℕ)) (settings : Settings) (image : Image) (steps : List ℕ) (work : Work) (bytes : List ℕ → List ℕ) → ((q : List ℕ) → IsNamed (requests_named requests) q → files q ≡ Some (bytes q)) → LeadsTo files (after_replay_schedule requests settings image steps) (Ok work)
    → (asked : List (List ℕ)) × AreRequestsIn requests bytes asked × (work ≡ works.Replaying (inputs_of image asked settings) steps)
asked_of files None settings image steps work bytes known e = ([], refl, work_is work _ e)
asked_of files (Some requests) settings image steps work bytes known h =
    let read = leads_by files requests_of MOST_REQUEST_FILE_BYTES requests (replayed settings image steps) work (bytes requests) (known requests (inl refl)) h in
    (read.0, requests_found (bytes requests) read.0 read.1, work_is work _ read.3)

-- where the plan of a serve leads to a work, its files are accepted, and the work is of what they spell
serve_found : (files : FileContents) (bytes : List ℕ → List ℕ) (image requests : List ℕ) (settings : Settings) (of_inputs : Inputs → Work) (work : Work) → ((q : List ℕ) → (q ≡ image) ⊎ ((q ≡ requests) ⊎ ⊥) → files q ≡ Some (bytes q))
    → LeadsTo files (read_by (fitting_image_of settings.frames) MOST_IMAGE_BYTES image (λ x. read_by (bounded_requests_of settings) MOST_REQUEST_FILE_BYTES requests (λ asked. plans.Write (of_inputs (inputs_of x asked settings))))) (Ok work)
    → (x : Image) × (asked : List (List ℕ)) × IsServe bytes image requests settings x asked × (work ≡ of_inputs (inputs_of x asked settings))
unfolding bounded_requests_of
serve_found files bytes image requests settings of_inputs work known leads =
    let after : Image → Plan Rejection Work = λ x. read_by (bounded_requests_of settings) MOST_REQUEST_FILE_BYTES requests (λ asked. plans.Write (of_inputs (inputs_of x asked settings))) in
    let read = leads_by files (fitting_image_of settings.frames) MOST_IMAGE_BYTES image after work (bytes image) (known image (inl refl)) leads in
    let asked = leads_by files (bounded_requests_of settings) MOST_REQUEST_FILE_BYTES requests (λ a. plans.Write (of_inputs (inputs_of read.0 a settings))) work (bytes requests) (known requests (inr (inl refl))) read.3 in
    let found = tested (requests_of (bytes requests)) (bounded settings (length (bytes requests))) asked.0 asked.1 in
    let few = bounded_found settings (length (bytes requests)) found.0 asked.0 found.2 in (
      read.0,
      asked.0,
      record {
        guest = fitting_found settings (bytes image) read.0 read.2 read.1;
        requested = requests_found (bytes requests) asked.0 (found.1 ∙ ap (λ a. Ok a) few.0);
        few = subst (λ (a : List (List ℕ)). serve_steps settings (length a) ≤ MOST_STEPS) few.0 few.1;
      },
      work_is work _ asked.3,
    )

headline_of : (o : Outside) (command : Command) (bytes : List ℕ → List ℕ) (work : Work) (text : List ℕ) → IsWithinLimits command → AreContents o.files.contents command bytes → LeadsTo o.files.contents (plan_of command) (Ok work) → IsText work text → o.out_after.taken ≡ appended o.out.taken text → Headline o command bytes
unfolding plan_by
headline_of o (commands.Replay image schedule requests settings) bytes work text within known leads is taken =
    let files = o.files.contents in
    let read = leads_by files (fitting_image_of settings.frames) MOST_IMAGE_BYTES image (after_replay_image schedule requests settings) work (bytes image) (known image (inl refl)) leads in
    let steps = leads_by files (schedule_of (threads_for read.0 settings.job) MOST_STEPS) MOST_SCHEDULE_BYTES schedule (after_replay_schedule requests settings read.0) work (bytes schedule) (known schedule (inr (inl refl))) read.3 in
    let asked = asked_of files requests settings read.0 steps.0 work bytes (λ q named. known q (inr (inr named))) steps.3 in
    let guest = fitting_found settings (bytes image) read.0 read.2 read.1 in
    let inputs = inputs_of read.0 asked.0 settings in
    let can = replay_opens requests settings bytes (bytes image) read.0 asked.0 within guest asked.1 in
    let steps_kept = kept (start inputs) steps.0 in record {
      guest = read.0;
      steps = steps.0;
      asked = asked.0;
      accepted = record { guest = guest; scheduled = schedule_found _ _ (bytes schedule) steps.0 steps.1; requested = asked.1 };
      alone = each_alone inputs steps_kept can;
      spared = none_short inputs steps_kept can;
      restored = λ workers job rest. restored inputs workers can job steps_kept rest;
      confined = run_confined inputs can steps_kept;
      text = taken ∙ ap (appended o.out.taken) (let P : Work → Type 0 = λ w. IsText w text in subst P asked.2 is);
    }
headline_of o (commands.Run image settings) bytes work text within known leads is taken =
    let read = leads_by o.files.contents (fitting_image_of settings.frames) MOST_IMAGE_BYTES image (ran settings) work (bytes image) (known image (inl refl)) leads in
    let guest = fitting_found settings (bytes image) read.0 read.2 read.1 in
    let h = wrote report_of_schedule o (inputs_of read.0 [] settings) works.Running work text (λ told. told) (work_is work _ read.3) is taken in
    let inputs = inputs_of read.0 [] settings in
    let can = replay_opens None settings bytes (bytes image) read.0 [] within guest refl in
    record {
      guest = read.0;
      accepted = guest;
      history = record {
        steps = h.0;
        complete = h.1;
        confined = run_confined inputs can h.0;
        listed = is_listed inputs h.0 can h.1 (run_few inputs can within.job);
        text = h.2;
      };
    }
headline_of o (commands.Serve image requests settings) bytes work text within known leads is taken =
    let found = serve_found o.files.contents bytes image requests settings works.Running work known leads in record {
      guest = found.0;
      asked = found.1;
      accepted = found.2;
      serve = wrote_serve report_of_schedule o _ within.workers (serve_opens settings (bytes image) (bytes requests) found.0 found.1 within found.2.guest found.2.requested) within.job
          (serve_few settings found.0 found.1 within.workers within.job found.2.few)
          (wrote report_of_schedule o _ works.Running work text (λ told. told) found.3 is taken);
    }
headline_of o (commands.Asm source) bytes work text within known leads is taken =
    let read = leads_by o.files.contents source_of MOST_SOURCE_BYTES source made work (bytes source) (known source (inl refl)) leads in record {
      guest = read.0;
      accepted = source_found (bytes source) read.0 read.1;
      text = taken ∙ ap (appended o.out.taken) (let P : Work → Type 0 = λ w. IsText w text in subst P (work_is work _ read.3) is);
    }
headline_of o (commands.Dis image) bytes work text within known leads is taken =
    let read = leads_by o.files.contents image_of MOST_IMAGE_BYTES image listed work (bytes image) (known image (inl refl)) leads in
    let spelled = image_found (bytes image) read.0 read.2 read.1 in record {
      guest = read.0;
      image = spelled.0;
      spelled = spelled.1;
      text = taken ∙ ap (appended o.out.taken) (let P : Work → Type 0 = λ w. IsText w text in subst P (work_is work _ read.3) is);
    }
headline_of o (commands.Gen number) bytes work text within known leads is taken =
    let h : IsText (works.Generating number) text = (let P : Work → Type 0 = λ w. IsText w text in subst P (work_is work _ leads) is) in
    record {
      steps = h.0;
      complete = h.1;
      confined = run_confined (generated number) (can_open number within.1) h.0;
      spared = none_short (generated number) h.0 (can_open number within.1);
      alone = summed_alone number h.0 within.1 h.1;
      text = taken ∙ ap (appended o.out.taken) h.2;
    }
headline_of o (commands.Lift image) bytes work text within known leads is taken =
    let read = leads_by o.files.contents image_of MOST_IMAGE_BYTES image raised work (bytes image) (known image (inl refl)) leads in
    let spelled = image_found (bytes image) read.0 read.2 read.1 in record {
      guest = read.0;
      image = spelled.0;
      spelled = spelled.1;
      same = runs_lifted read.0;
      text = taken ∙ ap (appended o.out.taken) (let P : Work → Type 0 = λ w. IsText w text in subst P (work_is work _ read.3) is);
    }
headline_of o (commands.Monitor image schedule settings) bytes work text within known leads is taken =
    let files = o.files.contents in
    let read = leads_by files (fitting_image_of settings.frames) MOST_IMAGE_BYTES image (after_monitor_image schedule settings) work (bytes image) (known image (inl refl)) leads in
    let steps = leads_by files (schedule_of (threads_for read.0 settings.job) MOST_STEPS) MOST_SCHEDULE_BYTES schedule (monitored settings read.0) work (bytes schedule) (known schedule (inr (inl refl))) read.3 in
    let guest = fitting_found settings (bytes image) read.0 read.2 read.1 in
    let inputs = inputs_of read.0 [] settings in
    let can = replay_opens None settings bytes (bytes image) read.0 [] within guest refl in record {
      guest = read.0;
      steps = steps.0;
      accepted = record { guest = guest; scheduled = schedule_found _ _ (bytes schedule) steps.0 steps.1; requested = refl };
      monitored = monitored_run inputs steps.0 can within.job;
      text = taken ∙ ap (appended o.out.taken) (let P : Work → Type 0 = λ w. IsText w text in subst P (work_is work _ steps.3) is);
    }
headline_of o (commands.Guard image schedule settings) bytes work text within known leads is taken =
    let files = o.files.contents in
    let read = leads_by files (fitting_image_of settings.frames) MOST_IMAGE_BYTES image (after_guard_image schedule settings) work (bytes image) (known image (inl refl)) leads in
    let steps = leads_by files (schedule_of (threads_for read.0 settings.job) MOST_STEPS) MOST_SCHEDULE_BYTES schedule (guarded settings read.0) work (bytes schedule) (known schedule (inr (inl refl))) read.3 in
    let guest = fitting_found settings (bytes image) read.0 read.2 read.1 in
    let inputs = inputs_of read.0 [] settings in
    let can = replay_opens None settings bytes (bytes image) read.0 [] within guest refl in record {
      guest = read.0;
      steps = steps.0;
      accepted = record { guest = guest; scheduled = schedule_found _ _ (bytes schedule) steps.0 steps.1; requested = refl };
      guarded = guarded_run inputs steps.0 can within.job;
      text = taken ∙ ap (appended o.out.taken) (let P : Work → Type 0 = λ w. IsText w text in subst P (work_is work _ steps.3) is);
    }
headline_of o (commands.Vault image vault schedule settings) bytes work text within known leads is taken =
    let files = o.files.contents in
    let read = leads_by files image_of MOST_IMAGE_BYTES image (after_vault_image vault schedule settings) work (bytes image) (known image (inl refl)) leads in
    let x = read.0 in
    let spelled = image_found (bytes image) x read.2 read.1 in
    let secret = leads_by files (fitting_vault_for settings.frames x) MOST_VAULT_BYTES vault (after_vault schedule settings x) work (bytes vault) (known vault (inr (inl refl))) read.3 in
    let v = secret.0 in
    let found = fitting_vault_found settings (bytes vault) x v secret.2 secret.1 in
    let steps = leads_by files (schedule_of (threads_for x settings.job) MOST_STEPS) MOST_SCHEDULE_BYTES schedule (kept_beside settings x v) work (bytes schedule) (known schedule (inr (inr (inl refl)))) secret.3 in
    let inputs = inputs_of x [] settings in
    let can = vault_opens settings (bytes vault) x v within spelled.0 found in record {
      guest = x;
      kept_vault = v;
      steps = steps.0;
      accepted = record {
        guest = spelled.0;
        spelled = spelled.1;
        secret = found.secret;
        free = found.free;
        fits = found.fits;
        scheduled = schedule_found _ _ (bytes schedule) steps.0 steps.1;
      };
      secret = keeps_secret inputs v steps.0 can;
      confined = run_confined (beside inputs v) can (kept (start (beside inputs v)) steps.0);
      text = taken ∙ ap (appended o.out.taken) (let P : Work → Type 0 = λ w. IsText w text in subst P (work_is work _ steps.3) is);
    }
headline_of o (commands.Debug image schedule script settings) bytes work text within known leads is taken =
    let files = o.files.contents in
    let read = leads_by files (fitting_image_of settings.frames) MOST_IMAGE_BYTES image (after_debug_image schedule script settings) work (bytes image) (known image (inl refl)) leads in
    let steps = leads_by files (schedule_of (threads_for read.0 settings.job) MOST_DEBUGGED_STEPS) MOST_SCHEDULE_BYTES schedule (after_debug_schedule script settings read.0) work (bytes schedule) (known schedule (inr (inl refl))) read.3 in
    let asked = leads_by files script_of MOST_SCRIPT_BYTES script (answered settings read.0 steps.0) work (bytes script) (known script (inr (inr (inl refl)))) steps.3 in
    let guest = fitting_found settings (bytes image) read.0 read.2 read.1 in
    let inputs = inputs_of read.0 [] settings in
    let can = replay_opens None settings bytes (bytes image) read.0 [] within guest refl in record {
      guest = read.0;
      steps = steps.0;
      asked = asked.0;
      accepted = record { guest = guest; scheduled = schedule_found _ _ (bytes schedule) steps.0 steps.1; scripted = script_found (bytes script) asked.0 asked.1 };
      confined = run_confined inputs can (kept (start inputs) steps.0);
      text = taken ∙ ap (appended o.out.taken) (let P : Work → Type 0 = λ w. IsText w text in subst P (work_is work _ asked.3) is);
    }
headline_of o (commands.Stream image requests settings) bytes work text within known leads is taken =
    let found = serve_found o.files.contents bytes image requests settings works.Streaming work known leads in record {
      guest = found.0;
      asked = found.1;
      accepted = found.2;
      serve = wrote_serve stream_text o _ within.workers (serve_opens settings (bytes image) (bytes requests) found.0 found.1 within found.2.guest found.2.requested) within.job
          (serve_few settings found.0 found.1 within.workers within.job found.2.few)
          (wrote stream_text o _ works.Streaming work text (λ told. told) found.3 is taken);
    }

-- a line that is not accepted reads no file and writes no text

unread_unasked : (name : List ℕ) (e : End Rejection) → e ≡ ends.Unread name → (e ≡ ends.Usage) ⊎ (e ≡ ends.NoMemory) → ⊥
unread_unasked name e unread (inl is) = absurd cc
unread_unasked name e unread (inr is) = absurd cc

unwritten_unasked : (P : Type 0) (e : End Rejection) → e ≡ ends.Unwritten → (e ≡ ends.Usage) ⊎ (e ≡ ends.NoMemory) → P
unwritten_unasked P e unwritten (inl is) = absurd cc
unwritten_unasked P e unwritten (inr is) = absurd cc

-- nothing is written at another end of a plan than these two
untouched : (o : Outside) (command : Command) (e : End Rejection) → e ≢ ends.Done → e ≢ ends.Unwritten → Ended IsText o (plan_of command) e → IsUnwritten o
unfolding Ended
untouched o command ends.Done not_done not_cut h = absurd (not_done refl)
untouched o command ends.NoMemory not_done not_cut h = h
untouched o command ends.Usage not_done not_cut h = absurd h
untouched o command (ends.Unread name) not_done not_cut h = h.2
untouched o command ends.Unwritten not_done not_cut h = absurd (not_cut refl)
untouched o command (ends.Refused rejection) not_done not_cut h = h.1

-- at the other ends nothing failed
fine : (o : Outside) (command : Command) (e : End Rejection) → status_of e ≢ statuses.NoMemory → status_of e ≢ statuses.ReadFault → status_of e ≢ statuses.WriteFault → Ended IsText o (plan_of command) e → NothingFailed o
unfolding Ended
fine o command ends.Done memory read written h = h.3
fine o command ends.NoMemory memory read written h = absurd (memory refl)
fine o command ends.Usage memory read written h = absurd h
fine o command (ends.Unread name) memory read written h = absurd (read refl)
fine o command ends.Unwritten memory read written h = absurd (written refl)
fine o command (ends.Refused rejection) memory read written h = record { files = h.2; out = ap (λ s. s.faults) h.1 }

-- each fetch of a plan is of a file that it reads
fetches_read : {R W : Type 0} (files : FileContents) (p : Plan R W) (made : List Fetch) → AreFetchesOf files p made → All (λ f. Reads files p f.name) made
fetches_read files (plans.Read name limit next) made (inl h) = All-weaker (λ f. f.name ≡ name) (λ f. Reads files (plans.Read name limit next) f.name) (λ f is. inl is) made h.named
fetches_read files (plans.Read name limit next) made (inr (first, rest, is, h, (bytes, may, more))) =
    let P : Fetch → Type 0 = λ f. Reads files (plans.Read name limit next) f.name in
    All-same P made (first ++ rest) is (All-append P first rest
    (All-weaker (λ f. f.name ≡ name) P (λ f here. inl here) first h.onward.named)
    (All-weaker (λ f. Reads files (next bytes) f.name) P (λ f there. inr (bytes, may, there)) rest (fetches_read files (next bytes) rest more)))
fetches_read {R} {W} files (plans.Refuse refusal) made is = All-same (λ f. Reads {R = R} {W = W} files (plans.Refuse refusal) f.name) made [] is (All-nil _)
fetches_read {R} {W} files (plans.Write work) made is = All-same (λ f. Reads {R = R} {W = W} files (plans.Write work) f.name) made [] is (All-nil _)

-- no file but those of the line is fetched
pub fetches_named : (files after : FilesView) (asked : Option Command) → FetchesPlan asked files after → FetchesNamed asked files after
fetches_named files after None same = same
fetches_named files after (Some command) h = (
  h.0,
  h.1,
  All-weaker (λ f. Reads files.contents (plan_of command) f.name) (λ f. Names command f.name)
      (λ f reads. reads_names files.contents command f.name reads) h.0 (fetches_read files.contents (plan_of command) h.0 h.2),
)

-- the clauses of the call

module _ (o : Outside) (asked : Option Command) (result : ExitStatus) (e : End Rejection) (ended : CallEnded o asked e) (answered : result ≡ status_of e) where
  ended_asked : (command : Command) → asked ≡ Some command → CommandEnded o command e
  unfolding CallEnded
  ended_asked command is = subst (λ a. CallEnded o a e) is ended

  -- at another end than out of memory, what holds is what holds at that end of the plan
  ended_at : (command : Command) (x : End Rejection) → asked ≡ Some command → e ≡ x → x ≢ ends.NoMemory → Ended IsText o (plan_of command) x
  ended_at command x is e_is other = by_end (ended_asked command is)
    where
      by_end : CommandEnded o command e → Ended IsText o (plan_of command) x
      by_end (inl h) = subst (Ended IsText o (plan_of command)) e_is h
      by_end (inr (stream, memory, wrote)) = absurd (other (sym e_is ∙ memory))

  pub usage_only : result ≡ statuses.Usage → asked ≡ None
  unfolding CallEnded Ended
  usage_only is = by_asked asked refl
    where
      e_is : e ≡ ends.Usage
      e_is = usage_end e (sym answered ∙ is)

      by_asked : (a : Option Command) → asked ≡ a → asked ≡ None
      by_asked None q = q
      by_asked (Some command) q = absurd (ended_at command ends.Usage q e_is (λ is. absurd cc))

  pub usage : asked ≡ None → IsOrNoMemory result statuses.Usage
  unfolding CallEnded
  usage is = by_end (subst (λ a. CallEnded o a e) is ended).0
    where
      by_end : (e ≡ ends.Usage) ⊎ (e ≡ ends.NoMemory) → IsOrNoMemory result statuses.Usage
      by_end (inl u) = inl (answered ∙ ap status_of u)
      by_end (inr m) = inr (answered ∙ ap status_of m)

  pub ends_by : (command : Command) (bytes : List ℕ → List ℕ) → asked ≡ Some command → IsUndisturbed o command bytes → IsOrNoMemory result (status_by (outcome bytes (plan_of command)))
  ends_by command bytes is calm = by_command (ended_asked command is)
    where
      by_end : (e ≡ ends.NoMemory) ⊎ (e ≡ end_by (outcome bytes (plan_of command))) → IsOrNoMemory result (status_by (outcome bytes (plan_of command)))
      by_end (inl m) = inr (answered ∙ ap status_of m)
      by_end (inr by) = inl (answered ∙ ap status_of by ∙ status_of-end_by (outcome bytes (plan_of command)))

      by_command : CommandEnded o command e → IsOrNoMemory result (status_by (outcome bytes (plan_of command)))
      by_command (inl h) = by_end (settled IsText o (plan_of command) bytes (are_known o.files.contents command bytes calm.contents) e h (unhindered o command calm.faults))
      by_command (inr (stream, memory, wrote)) = by_end (inl memory)

  pub complete : (command : Command) (bytes : List ℕ → List ℕ) → asked ≡ Some command → IsUndisturbed o command bytes → IsRunnable command bytes → IsOrNoMemory result statuses.Ok
  complete command bytes is calm runnable =
      (let w = runs bytes command runnable in
      let P : Result Work Rejection → Type 0 = λ r. IsOrNoMemory result (status_by r) in
      subst P w.1 (ends_by command bytes is calm))

  pub headline : (command : Command) (bytes : List ℕ → List ℕ) → ((command : Command) → asked ≡ Some command → IsWithinLimits command) → result ≡ statuses.Ok → asked ≡ Some command → AreContents o.files.contents command bytes → Headline o command bytes
  unfolding Ended
  headline command bytes within ok is known =
      let done = ended_at command ends.Done is (done_end e (sym answered ∙ ok)) (λ is. absurd cc) in
      headline_of o command bytes done.0 done.2.0 (within command is) known done.1 done.2.1 done.2.2

  pub refused : (command : Command) (bytes : List ℕ → List ℕ) (rejection : Rejection) → asked ≡ Some command → AreContents o.files.contents command bytes → result ≡ status_of_rejection rejection → IsRejected command bytes result
  unfolding Ended
  refused command bytes rejection is known by =
      (let found = refusal_end e rejection (sym answered ∙ by) in
      let leads = ended_at command (ends.Refused found.0) is found.1 (λ is. absurd cc) in
      (found.0, sym (leads_known o.files.contents bytes (plan_of command) (Err found.0) (are_known o.files.contents command bytes known) leads.0), answered ∙ ap status_of found.1))

  pub read_fault : result ≡ statuses.ReadFault → FileFailed asked o
  unfolding CallEnded Ended
  read_fault is = by_asked asked refl
    where
      found : (name : List ℕ) × (e ≡ ends.Unread name)
      found = unread_end e (sym answered ∙ is)

      by_asked : (a : Option Command) → asked ≡ a → FileFailed a o
      by_asked None q = absurd (unread_unasked found.0 e found.1 (subst (λ a. CallEnded o a e) q ended).0)
      by_asked (Some command) q =
          (let h = ended_at command (ends.Unread found.0) q found.1 (λ is. absurd cc) in
          (found.0, reads_names o.files.contents command found.0 h.0, h.1))

  pub write_fault : result ≡ statuses.WriteFault → WriteFailed o
  unfolding CallEnded Ended
  write_fault is = by_asked asked refl
    where
      e_is : e ≡ ends.Unwritten
      e_is = unwritten_end e (sym answered ∙ is)

      by_asked : (a : Option Command) → asked ≡ a → WriteFailed o
      by_asked None q = unwritten_unasked _ e e_is (subst (λ a. CallEnded o a e) q ended).0
      by_asked (Some command) q = (let h = ended_at command ends.Unwritten q e_is (λ is. absurd cc) in h.3)

  pub nothing : result ≢ statuses.Ok → result ≢ statuses.WriteFault → IsUnwritten o ⊎ ((result ≡ statuses.NoMemory) × WroteOnlyReplies o asked)
  unfolding CallEnded
  nothing not_ok not_cut = by_asked asked refl
    where
      Nothing : Type 0
      Nothing = IsUnwritten o ⊎ ((result ≡ statuses.NoMemory) × WroteOnlyReplies o asked)

      by_command : (command : Command) → asked ≡ Some command → CommandEnded o command e → Nothing
      by_command command q (inl h) = inl (untouched o command e (λ is. not_ok (answered ∙ ap status_of is)) (λ is. not_cut (answered ∙ ap status_of is)) h)
      by_command command q (inr (stream, memory, wrote)) = inr (answered ∙ ap status_of memory, (command, q, stream, wrote))

      by_asked : (a : Option Command) → asked ≡ a → Nothing
      by_asked None q = inl (subst (λ a. CallEnded o a e) q ended).1
      by_asked (Some command) q = by_command command q (ended_asked command q)

  pub no_fault : result ≢ statuses.NoMemory → result ≢ statuses.ReadFault → result ≢ statuses.WriteFault → NothingFailed o
  unfolding CallEnded
  no_fault memory read written = by_asked asked refl
    where
      by_command : (command : Command) → CommandEnded o command e → NothingFailed o
      by_command command (inl h) = fine o command e (λ is. memory (answered ∙ is)) (λ is. read (answered ∙ is)) (λ is. written (answered ∙ is)) h
      by_command command (inr (stream, out, wrote)) = absurd (memory (answered ∙ ap status_of out))

      by_asked : (a : Option Command) → asked ≡ a → NothingFailed o
      by_asked None q =
          (let h = subst (λ a. CallEnded o a e) q ended in
          record { files = ap (λ f. f.faults) h.2; out = ap (λ s. s.faults) h.1 })
      by_asked (Some command) q = by_command command (ended_asked command q)
