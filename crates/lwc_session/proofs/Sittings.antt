-- A session, request by request, and its report.
use Rattle.std.proofs.Common.{◌≡◌, ◌+◌, ◌-◌, ◌*◌, ◌<◌, ◌≤◌, ◌∙◌, ℕ, zero, suc, Bool, true, false, cond, List, [], ◌∷◌, ◌++◌, Option, Some, None, length, replicate, take, get_or, append-nil, append_assoc, mul-le-mul_right, ap, arith, refl, subst, sym}
use Rattle.std.specs.Prelude.{max, slice_get}
use Rattle.std.specs.FinMap as fm
use Rattle.std.specs.List.{flat_map, range_with_len}
use Rattle.std.specs.Option.{option_map_or}
use Rattle.std.proofs.Math.Nat.{suc-mul}
use Rattle.std.proofs.lemmas.List.{take_more}
use Rattle.std.proofs.lemmas.Option.{get_or_from_slice_get, slice_get_within}
use Rattle.guest_image.specs.Limits.{IsImage}
use Rattle.guest_image.specs.declared.image.Image.{Image}
use Rattle.kernel_core.proofs.Others.{work_at_serve}
use Rattle.kernel_core.proofs.ReadyMachines.{ready_machine}
use Rattle.kernel_core.proofs.Steps.{stepped_inputs}
use Rattle.kernel_core.specs.Settings.{IsSettings}
use Rattle.std.proofs.lemmas.List.Elements.{All-nil}
use Rattle.kernel_core.specs.Kernel.{AreRequests, CanOpen, History, MayHave, machine_of, opened, stepped, view_of}
use Rattle.kernel_core.specs.Machine.{Machine, is_ended, work}
use Rattle.kernel_core.specs.Runs.{frames_of, peak, run}
use Rattle.kernel_core.specs.Start.{Inputs, inputs_of, start, thread_count, threads_for}
use Rattle.kernel_core.specs.Step.{step}
use Rattle.kernel_core.specs.declared.settings.Job.{Job}
use Rattle.kernel_core.specs.declared.settings.Job.TheVariants as jobs
use Rattle.kernel_core.specs.declared.settings.Settings.{Settings}
use Rattle.kernel_core.specs.declared.thread.ThreadView.{ThreadView}
use Rattle.lwc_session.proofs.Folding.{goes_on}
use Rattle.lwc_session.proofs.Onward.{waits_first}
use Rattle.lwc_session.proofs.Workers.{machine_stepped, steps_stepped}
use Rattle.lwc_session.specs.At.{IsAt}
use Rattle.lwc_session.specs.Sessions.{Session, after_request, after_requests, begun, last_start, lines_of, report_of}
use Rattle.lwc_session.specs.declared.session.Session as code
use Rattle.lwc_text.specs.Lines.{groups_line, tail_lines, thread_lines}
use Rattle.lwc_text.specs.Report.{contexts_text, thread_at, threads_text}
use Rattle.lwc_base.specs.Frames.{used}
use Rattle.lwc_base.specs.World.{World}
use Rattle.lwc_types.specs.declared.limits.TheConstants.{MOST_REQUESTS, MOST_REQUEST_BYTES, MOST_STEPS}

-- requests of a serve are within their limits
pub are_requests : (image : Image) (requests : List (List ℕ)) (settings : Settings) → CanOpen (inputs_of image requests settings) → settings.job ≡ jobs.Serve 1 → AreRequests requests
are_requests image requests settings can worker = subst (λ (job : Job). MayHave job requests) worker can.requests

-- the session of the code after a number of requests
pub record IsComeTo (settings : Settings) (image : Image) (requests : List (List ℕ)) (r : ℕ) (now : code.Session) : Type 0 where
  pub at : IsAt now (after_requests settings (begun image) (take r requests))
  pub holds : IsImage now.image
  pub fits : length now.image.pages ≤ settings.frames
  pub steps : now.steps ≤ r * (settings.budget + 1)
  pub count : now.served ≡ r

-- there are steps for one more
pub steps_for_more : (r n budget steps work : ℕ) → r < n → steps ≤ r * (budget + 1) → work ≡ n * (budget + 1) + 1 → work ≤ MOST_STEPS → steps + (budget + 2) ≤ MOST_STEPS
steps_for_more r n budget steps work inside few is most =
    let more : suc r * (budget + 1) ≤ n * (budget + 1) = mul-le-mul_right (budget + 1) (omega (arith, inside)) in
    omega (arith, more, suc-mul r (budget + 1), few, is, most)

-- with one more request
pub come_on : (settings : Settings) (image : Image) (requests : List (List ℕ)) (r : ℕ) (now after : code.Session) (request : List ℕ) → IsComeTo settings image requests r now → slice_get requests r ≡ Some request →
    ((s : Session) → IsAt now s → IsAt after (after_request settings s request)) → IsImage after.image → length after.image.pages ≤ settings.frames → after.steps ≤ now.steps + (settings.budget + 1) → after.served ≡ now.served + 1 →
    IsComeTo settings image requests (r + 1) after
come_on settings image requests r now after request is found at holds fits steps count =
    let next : take (r + 1) requests ≡ take r requests ++ request ∷ [] =
    take_more requests r request (slice_get_within requests r request found) ∙ ap (λ (x : List ℕ). take r requests ++ x ∷ []) (get_or_from_slice_get requests r request request found) in
    record {
      at = subst (IsAt after) (sym (ap (after_requests settings (begun image)) next ∙ goes_on settings (begun image) (take r requests) (request ∷ []))) (at (after_requests settings (begun image) (take r requests)) is.at);
      holds = holds;
      fits = fits;
      steps = omega (arith, steps, is.steps, suc-mul r (settings.budget + 1));
      count = omega (arith, count, is.count);
    }

one_thread : (inputs : Inputs) (steps : List ℕ) → CanOpen inputs → inputs.settings.job ≡ jobs.Serve 1 → length (run (start inputs) steps).threads ≡ 1
unfolding thread_count
one_thread inputs steps can worker = (ready_machine inputs steps can).count ∙ ap (threads_for inputs.image) worker

-- the lines of the one thread
lines_of_one : (m : Machine) (view : ThreadView) → length m.threads ≡ 1 → view_of m 0 ≡ Some view → thread_lines 0 view ≡ threads_text m
unfolding threads_text
lines_of_one m view one seen =
    sym (append-nil (thread_lines 0 view)) ∙ ap (λ (o : Option ThreadView). option_map_or (thread_lines 0) o [] ++ []) (sym seen)
    ∙ ap (λ (n : ℕ). flat_map (thread_at m) (range_with_len 0 n)) (sym one)

-- the last step of a session: its machine, and the most frames that were in use
pub last_step : (settings : Settings) (s : Session) (image : Image) (first after : History) → image ≡ s.image → settings.job ≡ jobs.Serve 1 → first ≡ opened (inputs_of image [] settings) 1 → after ≡ stepped first 0 →
    (machine_of after ≡ step (last_start s settings) 0) × (peak (start after.inputs) after.steps ≡ peak (last_start s settings) (0 ∷ []))
unfolding machine_of
last_step settings s image first after same worker is steps =
    let here = inputs_of s.image [] settings in
    let first_is : first ≡ opened here 1 = is ∙ ap (λ (i : Image). opened (inputs_of i [] settings) 1) same in
    let at_first : machine_of first ≡ start here = ap machine_of first_is in
    let going : is_ended (machine_of first) 0 ≡ false = ap (λ (m : Machine). is_ended m 0) at_first ∙ waits_first here worker in
    let kept = steps_stepped first after 0 going steps in
    let steps_are : after.steps ≡ 0 ∷ [] = kept.1 ∙ ap (λ (h : History). h.steps ++ 0 ∷ []) first_is in
    let inputs_are : after.inputs ≡ here = kept.0 ∙ ap (λ (h : History). h.inputs) first_is in (
      machine_stepped first after 0 going steps ∙ ap (λ (m : Machine). step m 0) at_first,
      ap (λ (i : Inputs). peak (start i) after.steps) inputs_are ∙ ap (peak (start here)) steps_are,
    )

-- the text of a machine, of replies, of the most frames in use, and of steps
text_with : Machine → List ℕ → ℕ → List ℕ → List ℕ
text_with m replies most steps =
    threads_text m ++ contexts_text m.environment.world ++ groups_line (fm.len m.environment.world.groups) ++ replies ++ tail_lines m.environment.channels.console (frames_of m) most steps

-- the text of the report, from its parts one after another
pub report_is : (settings : Settings) (s : Session) (now : code.Session) (after : History) (view : ThreadView) (w : World) (console : List ℕ) (groups frames most : ℕ) (steps a b c d e : List ℕ) → IsAt now s →
    (machine_of after ≡ step (last_start s settings) 0) × (peak (start after.inputs) after.steps ≡ peak (last_start s settings) (0 ∷ [])) → length (machine_of after).threads ≡ 1 → view_of (machine_of after) 0 ≡ Some view →
    w ≡ (machine_of after).environment.world → console ≡ (machine_of after).environment.channels.console → groups ≡ fm.len w.groups → frames ≡ used w → most ≡ max now.peak (peak (start after.inputs) after.steps) →
    steps ≡ replicate {A = ℕ} (now.steps + 1) 0 → a ≡ thread_lines 0 view → b ≡ a ++ contexts_text w → c ≡ b ++ groups_line groups → d ≡ c ++ now.replies.items → e ≡ d ++ tail_lines console frames most steps →
    e ≡ report_of settings s
unfolding report_of text_with
report_is settings s now after view w console groups frames most steps a b c d e at last one seen world written counted in_use most_is steps_are first_part second third fourth fifth =
    let m = machine_of after in
    let z = tail_lines console frames most steps in
    fifth ∙ ap (λ (l : List ℕ). l ++ z) (fourth ∙ ap (λ (l : List ℕ). l ++ now.replies.items) (third ∙ ap (λ (l : List ℕ). l ++ groups_line groups) (second ∙ ap (λ (l : List ℕ). l ++ contexts_text w) (first_part ∙ lines_of_one m view one seen))))
    ∙ ap (λ (n : ℕ). threads_text m ++ contexts_text w ++ groups_line n ++ now.replies.items ++ z) counted
    ∙ ap (λ (n : ℕ). threads_text m ++ contexts_text w ++ groups_line (fm.len w.groups) ++ now.replies.items ++ tail_lines console n most steps) in_use
    ∙ ap (λ (v : World). threads_text m ++ contexts_text v ++ groups_line (fm.len v.groups) ++ now.replies.items ++ tail_lines console (used v) most steps) world
    ∙ ap (λ (l : List ℕ). threads_text m ++ contexts_text m.environment.world ++ groups_line (fm.len m.environment.world.groups) ++ now.replies.items ++ tail_lines l (frames_of m) most steps) written
    ∙ ap (λ (l : List ℕ). text_with m l most steps) at.replies
    ∙ ap (λ (n : ℕ). text_with m (lines_of s.replies) n steps) (most_is ∙ ap (λ (n : ℕ). max n (peak (start after.inputs) after.steps)) at.peak ∙ ap (max s.peak) last.1)
    ∙ ap (λ (l : List ℕ). text_with m (lines_of s.replies) (max s.peak (peak (last_start s settings) (0 ∷ []))) l) (steps_are ∙ ap (λ (n : ℕ). replicate {A = ℕ} (n + 1) 0) at.steps)
    ∙ ap (λ (n : Machine). text_with n (lines_of s.replies) (max s.peak (peak (last_start s settings) (0 ∷ []))) (replicate {A = ℕ} (s.steps + 1) 0)) last.0

-- before the first request
pub come_first : (settings : Settings) (image : Image) (requests : List (List ℕ)) (now : code.Session) → IsAt now (begun image) → CanOpen (inputs_of image requests settings) → IsComeTo settings image requests 0 now
come_first settings image requests now at can = record {
  at = at;
  holds = subst IsImage (sym at.image) can.image;
  fits = subst (λ (i : Image). length i.pages ≤ settings.frames) (sym at.image) can.fits;
  steps = omega (arith, at.steps);
  count = at.served;
}

-- a request of them is short
pub short_at : (requests : List (List ℕ)) (r : ℕ) (request : List ℕ) → AreRequests requests → slice_get requests r ≡ Some request → length request ≤ MOST_REQUEST_BYTES
short_at requests r request are found =
    subst (λ (x : List ℕ). length x ≤ MOST_REQUEST_BYTES) (get_or_from_slice_get requests r request request found) (are.short r request (slice_get_within requests r request found))

-- and there is a step for the report
pub steps_at_end : (r n budget steps work : ℕ) → r ≤ n → steps ≤ r * (budget + 1) → work ≡ n * (budget + 1) + 1 → work ≤ MOST_STEPS → steps + 1 ≤ MOST_STEPS
steps_at_end r n budget steps work inside few is most =
    let more : r * (budget + 1) ≤ n * (budget + 1) = mul-le-mul_right (budget + 1) inside in
    omega (arith, more, few, is, most)

-- the steps that a session may take
pub work_of : (image : Image) (requests : List (List ℕ)) (settings : Settings) → settings.job ≡ jobs.Serve 1 → work (start (inputs_of image requests settings)) ≡ length requests * (settings.budget + 1) + 1
work_of image requests settings worker = work_at_serve (inputs_of image requests settings) 1 worker

-- a kernel has what it was opened with after a step too
pub still_one : (settings : Settings) (image : Image) (first after : History) → settings.job ≡ jobs.Serve 1 → first ≡ opened (inputs_of image [] settings) 1 → after ≡ stepped first 0 → after.inputs ≡ inputs_of image [] settings
still_one settings image first after worker is steps =
    ap (λ (h : History). h.inputs) steps ∙ stepped_inputs first 0 ∙ ap (λ (h : History). h.inputs) is

-- and one thread
pub has_one : (settings : Settings) (image : Image) (after : History) → after.inputs ≡ inputs_of image [] settings → CanOpen (inputs_of image [] settings) → settings.job ≡ jobs.Serve 1 → length (machine_of after).threads ≡ 1
unfolding machine_of
has_one settings image after is can worker =
    ap (λ (i : Inputs). length (run (start i) after.steps).threads) is ∙ one_thread (inputs_of image [] settings) after.steps can worker

-- a kernel can be opened with no request
pub can_rest : (image : Image) (settings : Settings) → IsImage image → length image.pages ≤ settings.frames → IsSettings settings → settings.job ≡ jobs.Serve 1 → CanOpen (inputs_of image [] settings)
can_rest image settings is fits set worker = record {
  image = is;
  vault = tt;
  settings = set;
  fits = fits;
  requests = subst (λ (job : Job). MayHave job []) (sym worker) (record { few = omega arith; short = All-nil (λ r. length r ≤ MOST_REQUEST_BYTES) });
}
