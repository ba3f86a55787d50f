-- The one worker of a serve of one request.
use Rattle.std.proofs.Common.{◌≡◌, ◌<◌, ◌-◌, ◌++◌, ◌∷◌, ◌∙◌, [], ℕ, Bool, true, false, List, Option, Some, None, ap, arith, cond, refl, subst, sym}
use Rattle.std.specs.Prelude.{◌&&◌, slice_get}
use Rattle.std.specs.Option.{option_map, option_map_or}
use Rattle.kernel_core.proofs.ReadyMachines.{ready_machine}
use Rattle.kernel_core.proofs.ReadyRuns.{ready_thread}
use Rattle.kernel_core.proofs.Runs.{run-push}
use Rattle.kernel_core.specs.Kernel.{CanOpen, History, machine_of, stepped, view_of}
use Rattle.kernel_core.specs.Machine.{Machine, has_ended, is_ended, reply_of}
use Rattle.kernel_core.specs.Runs.{run}
use Rattle.kernel_core.specs.Start.{Inputs, start, thread_count, threads_for}
use Rattle.kernel_core.specs.Step.{step}
use Rattle.kernel_core.specs.declared.settings.Job.{Job}
use Rattle.kernel_core.specs.declared.settings.Job.TheVariants as jobs
use Rattle.kernel_core.specs.declared.thread.Thread.{Thread}
use Rattle.kernel_core.specs.declared.thread.ThreadView.{ThreadView}
use Rattle.guest_image.specs.declared.image.PageImage.{PageImage}
use Rattle.guest_isa.specs.declared.instr.Instr.{Instr}
use Rattle.guest_machine.specs.Advances.{advanced}
use Rattle.guest_machine.specs.declared.progress.Advance.{Advance}
use Rattle.lwc_session.specs.Pages.{pages_in}
use Rattle.guest_machine.specs.declared.progress.Next.{Next}
use Rattle.lwc_session.specs.Served.{is_done, is_first, is_running, left_by, may_end, may_end_next}
use Rattle.lwc_types.specs.declared.name.Name.{Name}
use Rattle.lwc_types.specs.declared.regs.Regs.{Regs}
use Rattle.std.proofs.lemmas.Bool.Decides.{nat_tests}
use Rattle.snapshot_host.specs.Begin.{request_context}
use Rattle.world_face.specs.Calls.{IsLive}

-- it has number 0
pub one_worker : (inputs : Inputs) → inputs.settings.job ≡ jobs.Serve 1 → 0 < thread_count inputs
unfolding thread_count
one_worker inputs serves = subst (λ (job : Job). 0 < threads_for inputs.image job) (sym serves) (omega arith)

-- what can be seen of a thread that was found
view : Thread → ThreadView
view x = record { status = x.status; context = x.context; regs = x.regs }

ended_found : (found : Option Thread) (x : ThreadView) → option_map view found ≡ Some x → option_map_or (λ y. has_ended y.status) found true ≡ has_ended x.status
unfolding view
ended_found None x is = cc
ended_found (Some y) x is = ap (λ (o : Option ThreadView). option_map_or (λ v. has_ended v.status) o true) is

-- whether a thread has ended is in its view
pub ended_by_view : (m : Machine) (t : ℕ) (x : ThreadView) → view_of m t ≡ Some x → is_ended m t ≡ has_ended x.status
unfolding view_of view is_ended
ended_by_view m t x is = ended_found (slice_get m.threads t) x is

live_found : (h : History) (t : ℕ) (found : Option Thread) (x : ThreadView) → CanOpen h.inputs → slice_get (machine_of h).threads t ≡ found → option_map view found ≡ Some x → IsLive (machine_of h).environment.world x.context
unfolding view machine_of
live_found h t None x can found is = cc
live_found h t (Some y) x can found is =
    let same = ap (λ (o : Option ThreadView). option_map_or (λ v. v.context) o x.context) is in
    subst (IsLive (machine_of h).environment.world) same
    (ready_thread h.inputs _ t (machine_of h) y (ready_machine h.inputs h.steps can) found).live

-- a thread stands in a context that lives
pub live_by_view : (h : History) (t : ℕ) (x : ThreadView) → CanOpen h.inputs → view_of (machine_of h) t ≡ Some x → IsLive (machine_of h).environment.world x.context
unfolding view_of view
live_by_view h t x can is = live_found h t (slice_get (machine_of h).threads t) x can refl is

-- and the instructions are those of the image
pub text_of : (h : History) → CanOpen h.inputs → (machine_of h).text ≡ h.inputs.image.text
unfolding machine_of
text_of h can = (ready_machine h.inputs h.steps can).text

-- the machine after a step of a thread that has not ended
pub machine_stepped : (h now : History) (t : ℕ) → is_ended (machine_of h) t ≡ false → now ≡ stepped h t → machine_of now ≡ step (machine_of h) t
unfolding machine_of stepped
machine_stepped h now t going is =
    let longer : History = record h { steps = h.steps ++ t ∷ []; room = h.room - 1 } in
    ap (λ (k : History). run (start k.inputs) k.steps) (is ∙ ap (λ (b : Bool). cond b h longer) going)
    ∙ run-push (start h.inputs) h.steps t

-- the steps of a kernel after it
pub steps_stepped : (h now : History) (t : ℕ) → is_ended (machine_of h) t ≡ false → now ≡ stepped h t → (now.inputs ≡ h.inputs) × (now.steps ≡ h.steps ++ t ∷ [])
unfolding stepped
steps_stepped h now t going is =
    let longer : History = record h { steps = h.steps ++ t ∷ []; room = h.room - 1 } in
    let same : now ≡ longer = is ∙ ap (λ (b : Bool). cond b h longer) going in
    (ap (λ (k : History). k.inputs) same, ap (λ (k : History). k.steps) same)

-- what is kept before a step, if it may be the last, and left unless it was
both : {T : Type 0} (might done : Bool) (pages : T) → cond (might && done) (Some pages) None ≡ cond done (cond might (Some pages) None) None
both true true pages = refl
both true false pages = refl
both false true pages = refl
both false false pages = refl

-- the pages that a step leaves
pub left_pages : (h now : History) (x : ThreadView) (a : Advance) (might done : Bool) (pages : Option (List PageImage)) → CanOpen h.inputs → view_of (machine_of h) 0 ≡ Some x → a ≡ advanced h.inputs.image.text x.regs →
    is_ended (machine_of h) 0 ≡ false → now ≡ stepped h 0 → might ≡ may_end x a.next → done ≡ is_done (option_map (λ f. f.status) (reply_of (machine_of now) 0)) →
    pages ≡ cond might (Some (pages_in (machine_of h).environment.world (request_context 0))) None → cond done pages None ≡ left_by (machine_of h)
left_pages h now x a might done pages can seen advance going is may ends before =
    let m = machine_of h in
    let here = pages_in m.environment.world (request_context 0) in
    let might_is : might ≡ option_map_or (λ v. may_end v (advanced m.text v.regs).next) (view_of m 0) false =
    may ∙ ap (λ (n : Advance). may_end x n.next) (advance ∙ ap (λ (l : List Instr). advanced l x.regs) (sym (text_of h can)))
    ∙ ap (λ (o : Option ThreadView). option_map_or (λ v. may_end v (advanced m.text v.regs).next) o false) (sym seen) in
    let done_is : done ≡ is_done (option_map (λ f. f.status) (reply_of (step m 0) 0)) =
    ends ∙ ap (λ (n : Machine). is_done (option_map (λ f. f.status) (reply_of n 0))) (machine_stepped h now 0 going is) in
    ap (λ (o : Option (List PageImage)). cond done o None) before ∙ sym (both might done here)
    ∙ ap (λ (b : Bool). cond (b && done) (Some here) None) might_is
    ∙ ap (λ (b : Bool). cond (option_map_or (λ v. may_end v (advanced m.text v.regs).next) (view_of m 0) false && b) (Some here) None) done_is

-- a thread whose next step may end the request stands in the request's first context
pub in_first : (x : ThreadView) (n : Next) → may_end x n ≡ true → x.context ≡ request_context 0
in_first x n may = at_first x.context (is_running x.status) (may_end_next n) may
  where
    at_first : (c : Name) (running ends : Bool) → ((running && is_first c) && ends) ≡ true → c ≡ request_context 0
    at_first c running ends is =
        let job : c.job ≡ 1 = grind (arith, nat_tests) in
        let k : c.k ≡ 0 = grind (arith, nat_tests) in
        ap (λ (j : ℕ). record { job = j; k = c.k }) job ∙ ap (λ (j : ℕ). record { job = 1; k = j }) k

-- an advance over the instructions of an image may be proposed
pub proposal_is : (text same : List Instr) (regs : Regs) (a : Advance) → same ≡ text → a ≡ advanced same regs → a ≡ advanced text a.before
unfolding advanced
proposal_is text same regs a is made =
    let before : a.before ≡ regs = ap (λ (n : Advance). n.before) made in
    made ∙ ap (λ (l : List Instr). advanced l regs) is ∙ ap (advanced text) (sym before)
