-- Steps inside a fence learn nothing of the bytes of contexts outside.
use Rattle.std.proofs.Common.{◌≡◌, inl, inr, ℕ, suc, ◌≤◌, Bool, true, false, cond, ltb, None, Some, List, [], ◌∷◌, refl, ap, sym, subst, ◌∙◌, length, arith}
use Rattle.std.proofs.lemmas.Bool.{ltb-true}
use Rattle.std.specs.Prelude.{All, slice_get}
use Rattle.blank_steps.proofs.Running.{ActOutside, act-back, act-blank, kept-blank, run-blank, stays_run}
use Rattle.blank_steps.specs.Blanks.{ActsOutside, blank_in}
use Rattle.confinement.proofs.Fenced.{closed_fence, keeps_closed, outside_is, stays_closed}
use Rattle.confinement.proofs.Fencing.{keeps_to}
use Rattle.confinement.proofs.Snapshots.{IsReached, reached_next, ready_at}
use Rattle.confinement.specs.Closed.{IsClosed, StayIn}
use Rattle.confinement.specs.Fences.{Fence, KeepsTo, MayBeInside, StayInside, StaysInside}
use Rattle.confinement.specs.May.{world_of}
use Rattle.guest_call.specs.Guest.{descriptor_for}
use Rattle.guest_image.specs.declared.image.Form.{Form}
use Rattle.guest_image.specs.declared.image.Form.TheVariants as form
use Rattle.guest_image.specs.Limits.{pages_of}
use Rattle.kernel_core.specs.Kernel.{CanOpen}
use Rattle.kernel_core.specs.Machine.{Machine}
use Rattle.kernel_core.specs.Ready.{IsReady}
use Rattle.kernel_core.specs.Runs.{kept, run}
use Rattle.kernel_core.specs.Start.{Inputs, serve_at, start}
use Rattle.kernel_core.specs.Step.{step}
use Rattle.kernel_core.specs.declared.settings.Job.TheVariants as jobs
use Rattle.kernel_core.specs.declared.thread.Thread.{Thread}
use Rattle.lwc_base.specs.Capabilities.{has_key}
use Rattle.lwc_base.specs.Cells.{slot_at}
use Rattle.lwc_base.specs.Modes.{IsKey}
use Rattle.lwc_base.specs.World.{World}
use Rattle.lwc_base.specs.declared.descriptor.Cap.{Cap}
use Rattle.lwc_base.specs.declared.descriptor.Descriptor.TheVariants.{Ctx, Empty}
use Rattle.lwc_types.specs.declared.key.TheConstants.{SLOTS}
use Rattle.lwc_types.specs.declared.key.Key.{Key}
use Rattle.lwc_types.specs.declared.limits.TheConstants.{MOST_PAGES}
use Rattle.lwc_types.specs.declared.name.Name.{Name}
use Rattle.lwc_closed.proofs.Telling.{text-blank}
use Rattle.lwc_closed.specs.Bytes.{IsAnother, IsShutOff, LearnNothing, without_bytes}
use Rattle.lwc_text.specs.Report.{text_of}
use Rattle.world_views.specs.Outside.{IsShut, LacksKeys}

some_page : (f : Form) → (1 ≤ pages_of f) × (pages_of f ≤ MOST_PAGES)
some_page form.One = (omega arith, omega arith)
some_page form.Two = (omega arith, omega arith)

no_both : {b : Bool} → b ≡ true → b ≡ false → ⊥
no_both first second = let both : true ≡ false = sym first ∙ second in cc

-- a thread that acts inside a fence is outside of a context that is shut off
module _ (inputs : Inputs) (steps : ℕ) (m : Machine) (t : ℕ) (ready : IsReady inputs steps m) (f : Fence) (keeps : KeepsTo f m) (stays : StaysInside f m t) (v : Name) (off : IsShutOff f v) where
  abbrev w : World
  w = world_of m

  lacks : (cap : Cap) (k : Key) → IsKey MOST_PAGES k → MayBeInside f (Ctx v cap) → (b : Bool) → has_key cap k ≡ b → b ≡ false
  lacks cap k key may false is = refl
  lacks cap k key (inl inside) true is = absurd (no_both inside off.outside)
  lacks cap k key (inr opens) true is = absurd (no_both (opens k key is) (off.shut k))

  opening : (x : Thread) → slice_get m.threads t ≡ Some x → (n : ℕ) (cap : Cap) (b : Bool) → ltb n SLOTS ≡ b → cond b (slot_at w x.context n) Empty ≡ Ctx v cap → LacksKeys cap
  opening x found n cap true within is = λ k key.
      lacks cap k key (subst (MayBeInside f) is (keeps.slots x.context n (stays.here x found).1 (ltb-true n SLOTS within))) (has_key cap k) refl
  opening x found n cap false past is = cc

  no_opening : (x : Thread) → slice_get m.threads t ≡ Some x → IsShut v x.context w
  unfolding descriptor_for
  no_opening x found n cap is = opening x found n cap (ltb n SLOTS) refl is

  pub acts_outside : ActsOutside v m t
  acts_outside x found runs = record {
    context = λ same. no_both (subst (λ (n : Name). f.inside n ≡ true) same (stays.here x found).1) off.outside;
    new = λ same. no_both (subst (λ (n : Name). f.inside n ≡ true) same (keeps.later t x ((w.next x.job).contexts) found runs (stays.here x found).1 (omega arith))) off.outside;
    shut = no_opening x found;
    pages = subst (λ (n : ℕ). (1 ≤ n) × (n ≤ MOST_PAGES)) (sym (ap (λ size. size.pages) ready.size)) (some_page inputs.image.form);
  }

-- the first of a list, and the rest
all_head : (P : Name → Type 0) (v : Name) (vs : List Name) → All P (v ∷ vs) → P v
all_head P v vs all = all 0 v (omega arith)

all_tail : (P : Name → Type 0) (v : Name) (vs : List Name) → All P (v ∷ vs) → All P vs
all_tail P v vs all = λ k d within. all (suc k) d (omega (arith, within))

-- each of these contexts is outside
abbrev pub AllOutside : List Name → Machine → List ℕ → Type 0
AllOutside [] m steps = Unit {0}
AllOutside (v ∷ vs) m steps = ActOutside v m steps × AllOutside vs m steps

same_serve : (vs : List Name) (m : Machine) → (without_bytes vs m).serve ≡ m.serve
same_serve [] m = refl
same_serve (v ∷ vs) m = same_serve vs m

-- so it is where others are blank
one_without : (v : Name) (vs : List Name) (m : Machine) (steps : List ℕ) → m.serve ≡ None → AllOutside vs m steps → ActOutside v m steps → ActOutside v (without_bytes vs m) steps
one_without v [] m steps none all is = is
one_without v (u ∷ us) m steps none all is =
    act-blank u v (without_bytes us m) steps (same_serve us m ∙ none) (one_without u us m steps none all.1 all.0) (one_without v us m steps none all.1 is)

all_without : (us vs : List Name) (m : Machine) (steps : List ℕ) → m.serve ≡ None → AllOutside vs m steps → AllOutside us m steps → AllOutside us (without_bytes vs m) steps
all_without [] vs m steps none all is = tt
all_without (u ∷ us) vs m steps none all is = (one_without u vs m steps none all is.0, all_without us vs m steps none all is.1)

-- and the other way round
all_back_one : (u : Name) (vs : List Name) (m : Machine) (steps : List ℕ) → m.serve ≡ None → ActOutside u (blank_in u m) steps → AllOutside vs (blank_in u m) steps → AllOutside vs m steps
all_back_one u [] m steps none first is = tt
all_back_one u (v ∷ vs) m steps none first is = (act-back u v m steps none first is.0, all_back_one u vs m steps none first is.1)

all_back : (us vs : List Name) (m : Machine) (steps : List ℕ) → m.serve ≡ None → AllOutside us (without_bytes us m) steps → AllOutside vs (without_bytes us m) steps → AllOutside vs m steps
all_back [] vs m steps none first is = is
all_back (u ∷ us) vs m steps none first is =
    let serves : (without_bytes us m).serve ≡ None = same_serve us m ∙ none in
    all_back us vs m steps none (all_back_one u us (without_bytes us m) steps serves first.0 first.1) (all_back_one u vs (without_bytes us m) steps serves first.0 is)

run-without : (vs : List Name) (m : Machine) (steps : List ℕ) → m.serve ≡ None → AllOutside vs m steps → run (without_bytes vs m) steps ≡ without_bytes vs (run m steps)
run-without [] m steps none all = refl
run-without (v ∷ vs) m steps none all =
    run-blank v (without_bytes vs m) steps (same_serve vs m ∙ none) (one_without v vs m steps none all.1 all.0) ∙ ap (blank_in v) (run-without vs m steps none all.1)

kept-without : (vs : List Name) (m : Machine) (steps : List ℕ) → m.serve ≡ None → AllOutside vs m steps → kept (without_bytes vs m) steps ≡ kept m steps
kept-without [] m steps none all = refl
kept-without (v ∷ vs) m steps none all = kept-blank v (without_bytes vs m) steps (same_serve vs m ∙ none) (one_without v vs m steps none all.1 all.0) ∙ kept-without vs m steps none all.1

text-without : (vs : List Name) (m : Machine) (steps : List ℕ) → m.serve ≡ None → AllOutside vs m steps → text_of (without_bytes vs m) steps ≡ text_of m steps
text-without [] m steps none all = refl
text-without (v ∷ vs) m steps none all = text-blank v (without_bytes vs m) steps (same_serve vs m ∙ none) (one_without v vs m steps none all.1 all.0) ∙ text-without vs m steps none all.1

-- a machine that differs in those bytes alone makes the same steps
pub learn_nothing : (vs : List Name) (m : Machine) (steps : List ℕ) → m.serve ≡ None → AllOutside vs m steps → LearnNothing m steps vs
learn_nothing vs m steps none all = record {
  machine = run-without vs m steps none all;
  legal = kept-without vs m steps none all;
  report = text-without vs m steps none all;
  alike = λ n same.
      let serves : n.serve ≡ None = sym (same_serve vs n) ∙ (ap (λ (k : Machine). k.serve) same ∙ (same_serve vs m ∙ none)) in
      let there : AllOutside vs (without_bytes vs n) steps = subst (λ (k : Machine). AllOutside vs k steps) (sym same) (all_without vs vs m steps none all all) in
      let outside : AllOutside vs n steps = all_back vs vs n steps serves there there in (
        sym (kept-without vs n steps serves outside) ∙ (ap (λ (k : Machine). kept k steps) same ∙ kept-without vs m steps none all),
        sym (text-without vs n steps serves outside) ∙ (ap (λ (k : Machine). text_of k steps) same ∙ text-without vs m steps none all),
      );
}

module _ (inputs : Inputs) (can : CanOpen inputs) where
  acts_all : (f : Fence) (v : Name) → IsShutOff f v → (ts : List ℕ) (m : Machine) → IsReached inputs m → KeepsTo f m → StayInside f m ts → ActOutside v m ts
  acts_all f v off [] m reached keeps stay = tt
  acts_all f v off (t ∷ ts) m reached keeps stay =
      let ready = ready_at inputs can m reached in (
        acts_outside inputs (length reached.steps) m t ready f keeps stay.0 v off,
        acts_all f v off ts (step m t) (reached_next inputs m t reached) (keeps_to inputs (length reached.steps) m t ready f keeps stay.0) stay.1,
      )

  all_outside : (f : Fence) (vs : List Name) → All (IsShutOff f) vs → (ts : List ℕ) (m : Machine) → IsReached inputs m → KeepsTo f m → StayInside f m ts → AllOutside vs m ts
  all_outside f [] off ts m reached keeps stay = tt
  all_outside f (v ∷ vs) off ts m reached keeps stay = (acts_all f v (all_head (IsShutOff f) v vs off) ts m reached keeps stay, all_outside f vs (all_tail (IsShutOff f) v vs off) ts m reached keeps stay)

  no_serve_at_start : inputs.settings.job ≡ jobs.Run → (start inputs).serve ≡ None
  unfolding start
  no_serve_at_start is = ap (λ job. serve_at job inputs.settings.budget (length inputs.requests)) is

  run_stays : (ts : List ℕ) (m : Machine) → m.serve ≡ None → (run m ts).serve ≡ None
  run_stays [] m none = none
  run_stays (t ∷ ts) m none = run_stays ts (step m t) (stays_run m t none)

  pub fenced_learn : (before during : List ℕ) (f : Fence) (others : List Name) → inputs.settings.job ≡ jobs.Run → KeepsTo f (run (start inputs) before) →
      StayInside f (run (start inputs) before) during → All (IsShutOff f) others → LearnNothing (run (start inputs) before) during others
  fenced_learn before during f others is keeps stay off =
      learn_nothing others (run (start inputs) before) during (run_stays before (start inputs) (no_serve_at_start is))
      (all_outside f others off during (run (start inputs) before) (record { steps = before; is = refl }) keeps stay)

  shut_off : (m : Machine) (c : Name) (vs : List Name) → All (IsAnother m c) vs → All (IsShutOff (closed_fence (world_of m) c)) vs
  shut_off m c vs all = λ k d within. let is = all k d within in record { outside = outside_is (world_of m) c _ is.live is.other; shut = λ q. refl }

  pub closed_learn : (before during : List ℕ) (c : Name) (others : List Name) → inputs.settings.job ≡ jobs.Run → IsClosed (world_of (run (start inputs) before)) c →
      StayIn (world_of (run (start inputs) before)) c (run (start inputs) before) during → All (IsAnother (run (start inputs) before) c) others →
      LearnNothing (run (start inputs) before) during others
  closed_learn before during c others is closed stay all =
      let m = run (start inputs) before in
      let reached : IsReached inputs m = record { steps = before; is = refl } in
      let ready = ready_at inputs can m reached in
      fenced_learn before during (closed_fence (world_of m) c) others is (keeps_closed inputs (length before) m ready c closed) (stays_closed inputs (length before) m ready c closed during m stay) (shut_off m c others all)
