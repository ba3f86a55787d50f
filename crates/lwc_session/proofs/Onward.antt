-- How a request takes a session on.
use Rattle.std.proofs.Common.{◌≡◌, ◌+◌, ◌-◌, ◌*◌, ◌<◌, ◌≤◌, ◌∙◌, ℕ, zero, suc, Bool, true, false, cond, List, [], ◌∷◌, ◌++◌, Option, Some, None, length, replicate, append-nil, ap, arith, refl, subst, sym}
use Rattle.std.specs.Prelude.{All, IfSome, IsTrue, is_some, max, slice_get}
use Rattle.std.specs.List.{enumerate_from, flat_map}
use Rattle.std.specs.Option.{option_map, option_map_or}
use Rattle.std.proofs.lemmas.List.{length-append, length-replicate}
use Rattle.std.proofs.lemmas.List.Concat.{flat_map-append}
use Rattle.std.proofs.lemmas.List.Elements.{All-cons, All-nil}
use Rattle.guest_image.specs.Limits.{IsImage, pages_of}
use Rattle.guest_image.specs.declared.image.Image.{Image}
use Rattle.guest_image.specs.declared.image.PageImage.{PageImage}
use Rattle.kernel_core.proofs.Others.{work_at_serve}
use Rattle.kernel_core.proofs.ReadyMachines.{ready_machine}
use Rattle.kernel_core.specs.Kernel.{AreRequests, CanOpen, History, MayHave, machine_of}
use Rattle.kernel_core.specs.Machine.{Machine, has_ended, is_ended, reply_of, work}
use Rattle.kernel_core.specs.Runs.{kept, peak, run}
use Rattle.kernel_core.specs.Settings.{IsSettings}
use Rattle.kernel_core.specs.Start.{Inputs, first_workers, inputs_of, start, threads_at}
use Rattle.kernel_core.specs.Step.{step}
use Rattle.kernel_core.specs.declared.settings.Job.{Job}
use Rattle.kernel_core.specs.declared.settings.Job.TheVariants as jobs
use Rattle.kernel_core.specs.declared.settings.Settings.{Settings}
use Rattle.lwc_session.proofs.KeptPages.{AreFitting, AreWhole, are_whole, fitting_have, left_has}
use Rattle.lwc_session.specs.At.{IsAt}
use Rattle.lwc_session.specs.Served.{history, left_in, served}
use Rattle.lwc_session.specs.Sessions.{Reply, Session, after_request, image_with, lines_of, served_line}
use Rattle.lwc_session.specs.declared.session.Session as code
use Rattle.lwc_types.specs.declared.limits.TheConstants.{MOST_REQUEST_BYTES}
use Rattle.snapshot_host.specs.Begin.{request_context}
use Rattle.snapshot_host.specs.declared.finishing.Finished.{Finished}

-- a kernel can be opened with one request of a session
pub can_alone : (image : Image) (request : List ℕ) (settings : Settings) → IsImage image → length image.pages ≤ settings.frames → IsSettings settings → settings.job ≡ jobs.Serve 1 → length request ≤ MOST_REQUEST_BYTES →
    CanOpen (inputs_of image (request ∷ []) settings)
can_alone image request settings is fits set worker short = record {
  image = is;
  vault = tt;
  settings = set;
  fits = fits;
  requests = subst (λ (job : Job). MayHave job (request ∷ [])) (sym worker)
      (record { few = omega arith; short = All-cons (λ r. length r ≤ MOST_REQUEST_BYTES) request [] short (All-nil (λ r. length r ≤ MOST_REQUEST_BYTES)) });
}

-- it has the budget of one request to make, and two steps more
pub work_alone : (image : Image) (request : List ℕ) (settings : Settings) → settings.job ≡ jobs.Serve 1 → work (start (inputs_of image (request ∷ []) settings)) ≡ settings.budget + 2
work_alone image request settings worker = omega (arith, work_at_serve (inputs_of image (request ∷ []) settings) 1 worker)

kept_short : (m : Machine) (ts : List ℕ) → length (kept m ts) ≤ length ts
kept_short m [] = omega arith
kept_short m (t ∷ ts) = by_test (is_ended m t) (kept_short m ts) (kept_short (step m t) ts)
  where
    by_test : (b : Bool) → length (kept m ts) ≤ length ts → length (kept (step m t) ts) ≤ length ts → length (cond b (kept m ts) (t ∷ kept (step m t) ts)) ≤ suc (length ts)
    by_test true here there = omega (arith, here)
    by_test false here there = omega (arith, there)

-- its steps are no more
pub few_steps : (inputs : Inputs) → length (history inputs) ≤ work (start inputs)
few_steps inputs = omega (arith, kept_short (start inputs) (replicate (work (start inputs)) 0), length-replicate {A = ℕ} (work (start inputs)) 0)

-- and at the start the worker waits
pub waits_first : (inputs : Inputs) → inputs.settings.job ≡ jobs.Serve 1 → is_ended (start inputs) 0 ≡ false
unfolding is_ended start first_workers
waits_first inputs worker =
    ap (λ (job : Job). option_map_or (λ x. has_ended x.status) (slice_get (threads_at inputs.image inputs.settings.budget job) 0) true) worker

first_kept : (m : Machine) (n : ℕ) → is_ended m 0 ≡ false → 1 ≤ length (kept m (replicate {A = ℕ} (suc n) 0))
first_kept m n going =
    let one : length (kept m (replicate {A = ℕ} (suc n) 0)) ≡ suc (length (kept (step m 0) (replicate {A = ℕ} n 0))) =
    ap (λ (b : Bool). length (cond b (kept m (replicate {A = ℕ} n 0)) (0 ∷ kept (step m 0) (replicate {A = ℕ} n 0)))) going in
    omega (arith, one)

-- so there is a step
pub some_step : (image : Image) (request : List ℕ) (settings : Settings) → settings.job ≡ jobs.Serve 1 → 1 ≤ length (history (inputs_of image (request ∷ []) settings))
some_step image request settings worker =
    let inputs = inputs_of image (request ∷ []) settings in
    let count : work (start inputs) ≡ suc (settings.budget + 1) = work_alone image request settings worker ∙ omega arith in
    subst (λ (n : ℕ). 1 ≤ length (kept (start inputs) (replicate {A = ℕ} n 0))) (sym count) (first_kept (start inputs) (settings.budget + 1) (waits_first inputs worker))

-- the pages that it leaves fit
pub served_fitting : (inputs : Inputs) → CanOpen inputs → IfSome (served inputs).pages (AreFitting (pages_of inputs.image.form) inputs.settings.frames)
unfolding served
served_fitting inputs can =
    let most = pages_of inputs.image.form in
    fitting_have most inputs.settings.frames (left_in (start inputs) (history inputs) None)
    (left_has (AreWhole most) (start inputs) (history inputs) None
    (λ seen. are_whole (run (start inputs) seen).environment.world (request_context 0) most (ap (λ z. z.pages) (ready_machine inputs seen can).size)) tt)

-- so the image with them is one
pub image_holds : (frames : ℕ) (image : Image) (pages : Option (List PageImage)) → IsImage image → IfSome pages (AreFitting (pages_of image.form) frames) → IsImage (image_with image pages)
image_holds frames image None is fitting = is
image_holds frames image (Some pages) is fitting = record {
  text = is.text;
  targets = is.targets;
  uid = is.uid;
  page_count = fitting.whole.count;
  pages = record { numbers = fitting.whole.numbers; rise = fitting.whole.rise; ranges = fitting.ranges; whole = fitting.whole.whole };
  file_count = is.file_count;
  files = is.files;
  slot_count = is.slot_count;
  slots = is.slots;
  some_thread = is.some_thread;
  thread_count = is.thread_count;
  entries = is.entries;
}

-- and fits the frames
pub image_fits : (frames : ℕ) (image : Image) (pages : Option (List PageImage)) → length image.pages ≤ frames → IfSome pages (AreFitting (pages_of image.form) frames) → length (image_with image pages).pages ≤ frames
image_fits frames image None fits fitting = fits
image_fits frames image (Some pages) fits fitting = fitting.few

-- one line more
line_at : ℕ × Reply → List ℕ
line_at e = served_line e.0 e.1.finished e.1.kept

numbered_more : (from : ℕ) (replies : List Reply) (r : Reply) → enumerate_from from (replies ++ r ∷ []) ≡ enumerate_from from replies ++ (from + length replies, r) ∷ []
numbered_more from [] r = ap (λ (n : ℕ). (n, r) ∷ []) (omega arith)
numbered_more from (q ∷ replies) r =
    ap (λ (l : List (ℕ × Reply)). (from, q) ∷ l) (numbered_more (from + 1) replies r ∙ ap (λ (n : ℕ). enumerate_from (from + 1) replies ++ (n, r) ∷ []) (omega arith))

lines_more : (replies : List Reply) (r : Reply) → lines_of (replies ++ r ∷ []) ≡ lines_of replies ++ served_line (length replies) r.finished r.kept
unfolding lines_of line_at
lines_more replies r =
    ap (flat_map line_at) (numbered_more 0 replies r) ∙ flat_map-append line_at (enumerate_from 0 replies) ((0 + length replies, r) ∷ [])
    ∙ ap (λ (l : List ℕ). flat_map line_at (enumerate_from 0 replies) ++ l) (append-nil (served_line (0 + length replies) r.finished r.kept) ∙ ap (λ (n : ℕ). served_line n r.finished r.kept) (omega arith))

-- what came of a request, as the kernel that served it has it
pub record HasServed (inputs : Inputs) (h : History) : Type 0 where
  pub given : h.inputs ≡ inputs
  pub steps : h.steps ≡ history inputs

reply_is : (inputs : Inputs) (h : History) → HasServed inputs h → reply_of (machine_of h) 0 ≡ (served inputs).reply
unfolding served machine_of
reply_is inputs h is =
    ap (λ (i : Inputs). reply_of (run (start i) h.steps) 0) is.given ∙ ap (λ (l : List ℕ). reply_of (run (start inputs) l) 0) is.steps

count_is : (inputs : Inputs) (h : History) → HasServed inputs h → length h.steps - 1 ≡ (served inputs).steps
unfolding served
count_is inputs h is = ap (λ (l : List ℕ). length l - 1) is.steps

peak_is : (inputs : Inputs) (h : History) → HasServed inputs h → peak (start h.inputs) h.steps ≡ (served inputs).peak
unfolding served
peak_is inputs h is = ap (λ (i : Inputs). peak (start i) h.steps) is.given ∙ ap (peak (start inputs)) is.steps

-- the session after one more request
pub served_at : (settings : Settings) (s : Session) (old new : code.Session) (request : List ℕ) (h : History) (pages : Option (List PageImage)) (reply : Option Finished) (kept : Bool) → IsAt old s →
    HasServed (inputs_of old.image (request ∷ []) settings) h → pages ≡ (served (inputs_of old.image (request ∷ []) settings)).pages → kept ≡ is_some pages → reply ≡ reply_of (machine_of h) 0 →
    new.image ≡ image_with old.image pages → new.replies.items ≡ old.replies.items ++ served_line old.served reply kept → new.served ≡ old.served + 1 → new.steps ≡ old.steps + (length h.steps - 1) →
    new.peak ≡ max old.peak (peak (start h.inputs) h.steps) → IsAt new (after_request settings s request)
unfolding after_request
served_at settings s old new request h pages reply kept at has leaves is_kept replied image lines count steps most =
    let before = inputs_of old.image (request ∷ []) settings in
    let here = inputs_of s.image (request ∷ []) settings in
    let it = served here in
    let same : before ≡ here = ap (λ (i : Image). inputs_of i (request ∷ []) settings) at.image in
    let pages_are : pages ≡ it.pages = leaves ∙ ap (λ (i : Inputs). (served i).pages) same in
    let reply_here : reply ≡ it.reply = replied ∙ reply_is before h has ∙ ap (λ (i : Inputs). (served i).reply) same in
    let kept_here : kept ≡ is_some it.pages = is_kept ∙ ap is_some pages_are in
    let steps_here : length h.steps - 1 ≡ it.steps = count_is before h has ∙ ap (λ (i : Inputs). (served i).steps) same in
    let peak_here : peak (start h.inputs) h.steps ≡ it.peak = peak_is before h has ∙ ap (λ (i : Inputs). (served i).peak) same in
    let r : Reply = record { finished = it.reply; kept = is_some it.pages } in
    record {
      image = image ∙ ap (λ (i : Image). image_with i pages) at.image ∙ ap (image_with s.image) pages_are;
      replies = lines ∙ ap (λ (l : List ℕ). l ++ served_line old.served reply kept) at.replies
          ∙ ap (λ (n : ℕ). lines_of s.replies ++ served_line n reply kept) at.served
          ∙ ap (λ (o : Option Finished). lines_of s.replies ++ served_line (length s.replies) o kept) reply_here
          ∙ ap (λ (b : Bool). lines_of s.replies ++ served_line (length s.replies) it.reply b) kept_here
          ∙ sym (lines_more s.replies r);
      served = omega (arith, count, at.served, length-append s.replies (r ∷ []));
      steps = omega (arith, steps, at.steps, steps_here);
      peak = most ∙ ap (λ (n : ℕ). max n (peak (start h.inputs) h.steps)) at.peak ∙ ap (max s.peak) peak_here;
    }

-- whether there is a value does not depend on what is made of it
pub some_mapped : {T U : Type 0} (f : T → U) (o : Option T) → is_some o ≡ is_some (option_map f o)
some_mapped f None = refl
some_mapped f (Some x) = refl
