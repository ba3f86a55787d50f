-- A context that is made and then left alone is as it was made.
use Rattle.std.proofs.Common.{◌≡◌, ◌≢◌, inl, inr, ℕ, ◌+◌, ◌<◌, ◌≤◌, true, false, Option, None, Some, List, [], ◌∷◌, ◌++◌, refl, ap, sym, subst, ◌∙◌, length, arith}
use Rattle.std.specs.Prelude.{IfSome, slice_get, unwrap_or}
use Rattle.kernel_core.proofs.ReadyMachines.{ready_machine}
use Rattle.kernel_core.specs.Kernel.{CanOpen}
use Rattle.kernel_core.specs.Machine.{Environment, Machine, Serve}
use Rattle.kernel_core.specs.Ready.{IsReady, IsReadyServe, IsRunnable, WhileRunning}
use Rattle.kernel_core.specs.Refused.{advanced_thread}
use Rattle.kernel_core.specs.Runs.{run}
use Rattle.kernel_core.specs.Start.{Inputs, start}
use Rattle.kernel_core.specs.Step.{guest_calls, step}
use Rattle.kernel_core.specs.declared.calling.TheConstants.{LW_CREATE, LW_SWITCH}
use Rattle.kernel_core.specs.declared.thread.Thread.{Thread}
use Rattle.lwc_base.specs.declared.descriptor.Cap.{Cap}
use Rattle.lwc_base.specs.declared.descriptor.Descriptor.TheVariants.{Ctx}
use Rattle.lwc_base.specs.declared.item.Item.{Item}
use Rattle.lwc_base.specs.Capabilities.{full_cap}
use Rattle.lwc_base.specs.Facts.{AddsContext}
use Rattle.lwc_base.specs.Fresh.{IsNamedContext}
use Rattle.lwc_base.specs.Modes.{IsKey}
use Rattle.lwc_base.specs.Keys.{nothing}
use Rattle.lwc_base.specs.Modes.{mode_or_copy}
use Rattle.lwc_base.specs.Sharing.{clone_context, cloned_cell, cloned_context, share}
use Rattle.lwc_base.specs.declared.cell.Cell.TheVariants.{Own}
use Rattle.lwc_base.specs.declared.item.Mode.TheVariants.{Unmap}
use Rattle.lwc_base.specs.Rights.{right_at}
use Rattle.lwc_base.specs.Slots.{lowest_empty}
use Rattle.lwc_base.specs.World.{World, Context, context, is_live, next_context}
use Rattle.lwc_types.specs.declared.fault.ThreadStatus.{ThreadStatus}
use Rattle.lwc_types.specs.declared.counters.Counters.{Counters}
use Rattle.lwc_types.specs.declared.fault.ThreadStatus.TheVariants.{Idle, Running}
use Rattle.lwc_types.specs.declared.key.Key.{Key}
use Rattle.lwc_types.specs.declared.key.Key.TheVariants.{Cred, Page, Slot}
use Rattle.lwc_types.specs.declared.name.Name.{Name}
use Rattle.lwc_types.specs.declared.regs.Regs.{Regs}
use Rattle.lwc_create.specs.Create as create
use Rattle.snapshot_host.specs.Begin.{request_context}
use Rattle.confinement.proofs.Confining.{Leads, confined, leads, leaves_reaped, ready_thread, target_is, went}
use Rattle.confinement.proofs.Entering.{resumed}
use Rattle.confinement.proofs.Standing.{NotIn, no_thread_moves, stands_elsewhere}
use Rattle.confinement.proofs.Steps.{at_create, call_world, outcome_of, step_reaps}
use Rattle.confinement.specs.Confined.{IsConfined}
use Rattle.confinement.specs.May.{IsGiven, MakesCall, MayChange, OfItsOwn, OfTheTarget, regs_at, world_of}
use Rattle.confinement.specs.Snapshots.{IsAsMade, IsResumed, IsUntouched, LeaveIt, Makes}
use Rattle.guest_call.proofs.Changes.{putting}
use Rattle.lwc_base.proofs.Common.{put-other_cell}
use Rattle.lwc_base.proofs.Facts.{changes, stays_fresh}
use Rattle.kernel_core.proofs.Others.{run-append}

-- a machine that a run comes to
pub record IsReached (inputs : Inputs) (m : Machine) : Type 0 where
  pub steps : List ℕ
  pub is : m ≡ run (start inputs) steps

pub reached_next : (inputs : Inputs) (m : Machine) (t : ℕ) → IsReached inputs m → IsReached inputs (step m t)
reached_next inputs m t reached = record {
  steps = reached.steps ++ t ∷ [];
  is = ap (λ (k : Machine). step k t) reached.is ∙ sym (run-append (start inputs) reached.steps (t ∷ []));
}

-- nothing of a context has changed
record IsSame (w v : World) (c : Name) : Type 0 where
  cells : (k : Key) → IsKey w.size.pages k → (context v c).cell k ≡ (context w c).cell k
  rights : (p : ℕ) → IsKey w.size.pages (Page p) → right_at v c p ≡ right_at w c p
  entry : (context v c).entry ≡ (context w c).entry
  saved : (t : ℕ) → (context v c).saved t ≡ (context w c).saved t

module _ (inputs : Inputs) (can : CanOpen inputs) where
  pub ready_at : (m : Machine) → (reached : IsReached inputs m) → IsReady inputs (length reached.steps) m
  ready_at m reached = subst (IsReady inputs (length reached.steps)) (sym reached.is) (ready_machine inputs reached.steps can)

  pub leads_at : (m : Machine) (t : ℕ) → IsReached inputs m → Leads m t
  leads_at m t reached = leads inputs (length reached.steps) m t (ready_at m reached)

  -- what lives after some steps lived before them, if it had been named
  pub lived : (ts : List ℕ) (m : Machine) → IsReached inputs m → (c : Name) → IsNamedContext (world_of m).next c → is_live (world_of (run m ts)) c ≡ true → is_live (world_of m) c ≡ true
  lived [] m reached c named live = live
  lived (t ∷ ts) m reached c named live =
      let led = leads_at m t reached in
      let counted : ((world_of m).next c.job).contexts ≤ ((world_of (step m t)).next c.job).contexts =
      subst (λ (next : _). ((world_of m).next c.job).contexts ≤ (next c.job).contexts) (sym led.leaves.next) (led.allowed.confines.counted c.job) in
      let later : IsNamedContext (world_of (step m t)).next c = omega (arith, named, counted) in
      led.allowed.confines.live c (led.leaves.live c (lived ts (step m t) (reached_next inputs m t reached) c later live)) named

  -- a context that no step may change
  left_alone : (ts : List ℕ) (m : Machine) → IsReached inputs m → (c : Name) → is_live (world_of m) c ≡ true → is_live (world_of (run m ts)) c ≡ true → LeaveIt m ts c → IsSame (world_of m) (world_of (run m ts)) c
  left_alone [] m reached c live after left = record { cells = λ k key. refl; rights = λ p key. refl; entry = refl; saved = λ t. refl }
  left_alone (t ∷ ts) m reached c live after left =
      let next = reached_next inputs m t reached in
      let ready = ready_at m reached in
      let led = leads_at m t reached in
      let step_is : IsConfined m t (step m t) = confined inputs (length reached.steps) m t ready in
      let named : IsNamedContext (world_of m).next c = ready.sound.fresh.contexts c live in
      let counted : ((world_of m).next c.job).contexts ≤ ((world_of (step m t)).next c.job).contexts =
      subst (λ (next : _). ((world_of m).next c.job).contexts ≤ (next c.job).contexts) (sym led.leaves.next) (led.allowed.confines.counted c.job) in
      let still : is_live (world_of (step m t)) c ≡ true = lived ts (step m t) next c (omega (arith, named, counted)) after in
      let rest = left_alone ts (step m t) next c still after left.1 in
      let size : (world_of (step m t)).size ≡ (world_of m).size = led.leaves.size ∙ led.allowed.confines.size in
      record {
        cells = λ k key. rest.cells k (subst (λ (s : _). IsKey s.pages k) (sym size) key)
            ∙ elim (step_is.cells c k (live, still) key) [ inl same ↦ same | inr may ↦ absurd (left.0 k may) ];
        rights = λ p key. rest.rights p (subst (λ (s : _). IsKey s.pages (Page p)) (sym size) key)
            ∙ elim (step_is.rights c p (live, still) key) [ inl same ↦ same | inr may ↦ absurd (left.0 (Page p) may) ];
        entry = rest.entry ∙ step_is.entries c (live, still);
        saved = λ s. rest.saved s ∙ elim (step_is.saved c s (live, still)) [
          | inl same ↦ same
          | inr stands ↦ absurd (left.0 Cred (subst (λ (n : Name). MayChange m t n Cred) stands.3 (OfItsOwn stands.1 Cred stands.2)))
        ];
      }

  -- a context that has just been made keeps no registers
  module _ (m : Machine) (reached : IsReached inputs m) (t : ℕ) (c : Name) (made : Makes m t c) (live : is_live (world_of (step m t)) c ≡ true) where
    abbrev w : World
    w = world_of m

    abbrev x : Thread
    x = made.thread

    ready : IsReady inputs (length reached.steps) m
    ready = ready_at m reached

    abbrev items : List Item
    items = create.items_of w x.context (regs_at m x)

    abbrev entry : Regs
    entry = create.after_call (regs_at m x) create.no_caller

    abbrev slot : ℕ
    slot = unwrap_or (lowest_empty w x.context) 0

    abbrev cloned : World
    cloned = clone_context w x.context x.job items entry

    acted_is : (outcome_of m t x).environment.world ≡ create.created w x.context x.job (regs_at m x) slot
    acted_is =
        ap (λ (e : Environment). e.world) (call_world m t x LW_CREATE made.made)
        ∙ at_create m t x made.made.found ready.sound ready.named ready.files (ready_thread inputs _ t m x ready made.made.found).live made.made

    -- the context is the one that was cloned
    named_as : next_context (share w x.context x.job items) x.job ≡ c
    named_as = changes.next_shared w x.context x.job x.job items ∙ sym made.named

    adds : AddsContext (share w x.context x.job items) x.job (cloned_context (share w x.context x.job items) x.context items entry) cloned
    adds = changes.cloned w x.context x.job items entry

    new_saved : (s : ℕ) → (context cloned c).saved s ≡ None
    unfolding cloned_context
    new_saved s = subst (λ (n : Name). (context cloned n).saved s ≡ None) named_as (ap (λ (y : Context). y.saved s) adds.added)

    put_saved : (s : ℕ) → (context (create.created w x.context x.job (regs_at m x) slot) c).saved s ≡ None
    put_saved s = (putting cloned x.context (Slot slot) (Ctx (next_context w x.job) (full_cap w.size.pages))).saved c s ∙ new_saved s

    pub fresh_saved : (s : ℕ) → (context (world_of (step m t)) c).saved s ≡ None
    fresh_saved s =
        let reaps = step_reaps m t x made.made.found made.made.running in
        let left = leaves_reaped (outcome_of m t x).environment.world reaps.0 in
        subst (λ (u : World). is_live u c ≡ true → (context u c).saved s ≡ None) (sym reaps.1)
        (λ there. ap (λ (y : Context). y.saved s) (left.contexts c there) ∙ subst (λ (u : World). (context u c).saved s ≡ None) (sym acted_is) (put_saved s)) live

    -- what the items leave out is not there
    differs : c ≢ x.context
    differs same =
        let new : is_live w (next_context w x.job) ≡ false = stays_fresh.next_context_is_new w x.job ready.sound.fresh in
        let is : is_live w x.context ≡ false = ap (is_live w) (sym same ∙ made.named) ∙ new in
        absurd (let no : true ≡ false = sym (ready_thread inputs _ t m x ready made.made.found).live ∙ is in cc)

    new_cell : (k : Key) → mode_or_copy items k ≡ Unmap → (context cloned c).cell k ≡ Own (nothing k)
    unfolding cloned_context
    new_cell k is =
        subst (λ (n : Name). (context cloned n).cell k ≡ Own (nothing k)) named_as
        (ap (λ (y : Context). y.cell k) adds.added ∙ ap (λ how. cloned_cell (share w x.context x.job items) x.context k how) is)

    put_cell : (k : Key) → mode_or_copy items k ≡ Unmap → (context (create.created w x.context x.job (regs_at m x) slot) c).cell k ≡ Own (nothing k)
    put_cell k is = put-other_cell cloned x.context (Slot slot) (Ctx (next_context w x.job) (full_cap w.size.pages)) c k (λ same. absurd (differs same)) ∙ new_cell k is

    pub left_out : (k : Key) → mode_or_copy items k ≡ Unmap → (context (world_of (step m t)) c).cell k ≡ Own (nothing k)
    left_out k is =
        let reaps = step_reaps m t x made.made.found made.made.running in
        let left = leaves_reaped (outcome_of m t x).environment.world reaps.0 in
        subst (λ (u : World). is_live u c ≡ true → (context u c).cell k ≡ Own (nothing k)) (sym reaps.1)
        (λ there. ap (λ (y : Context). y.cell k) (left.contexts c there) ∙ subst (λ (u : World). (context u c).cell k ≡ Own (nothing k)) (sym acted_is) (put_cell k is)) live

  pub as_made : (m : Machine) → IsReached inputs m → (t : ℕ) (c : Name) → Makes m t c → (since : List ℕ) → IsUntouched (step m t) since c →
      IsAsMade (world_of (step m t)) (world_of (run (step m t) since)) c
  as_made m reached t c made since untouched =
      let same = left_alone since (step m t) (reached_next inputs m t reached) c untouched.before untouched.after untouched.left in
      record { cells = same.cells; rights = same.rights; entry = same.entry; saved = λ s. same.saved s ∙ fresh_saved m reached t c made untouched.before s }

  -- no step moves a thread into a context that is left alone
  not_entered : (m : Machine) → IsReached inputs m → (t : ℕ) (c : Name) → is_live (world_of m) c ≡ true → 1 ≤ c.job → NotIn m c → ((k : Key) → MayChange m t c k → ⊥) → NotIn (step m t) c
  not_entered m reached t c live some others left = by_thread (slice_get m.threads t) refl
    where
      ready : IsReady inputs (length reached.steps) m
      ready = ready_at m reached

      goes : (x : Thread) (d : Name) (cap : Cap) → MakesCall m t x LW_SWITCH → IsGiven m x d cap → d ≢ c
      goes x d cap calls given same =
          let to = went inputs (length reached.steps) m t ready x d cap calls given in
          let there : to.0 ≡ d = target_is inputs (length reached.steps) m t ready x d cap calls given in
          left (Slot to.3.slot) (subst (λ (n : Name). MayChange m t n (Slot to.3.slot)) same
          (OfTheTarget x d cap to.3.slot calls given (subst (λ (n : Name). lowest_empty (world_of m) n ≡ Some to.3.slot) there to.3.lowest)))

      begins : (serve : Serve) → m.serve ≡ Some serve → request_context serve.next ≢ c
      begins serve is same =
          let serves : IsReadyServe inputs m serve = subst (λ (o : Option Serve). IfSome o (IsReadyServe inputs m)) is ready.serve in
          let none : ((world_of m).next (serve.next + 1)).contexts ≡ 0 = ap (λ (n : Counters). n.contexts) (serves.new_jobs serve.next (omega arith)) in
          let named : c.k < ((world_of m).next c.job).contexts = ready.sound.fresh.contexts c live in
          let job_is : serve.next + 1 ≡ c.job = ap (λ (n : Name). n.job) same in
          let there : ((world_of m).next (serve.next + 1)).contexts ≡ ((world_of m).next c.job).contexts = ap (λ j. ((world_of m).next j).contexts) job_is in
          omega (arith, none, named, there)

      by_thread : (o : Option Thread) → slice_get m.threads t ≡ o → NotIn (step m t) c
      by_thread None none = no_thread_moves m t c none others
      by_thread (Some x) found =
          stands_elsewhere inputs (length reached.steps) m t ready x found c others (goes x) (λ serve is same. let job_is : 0 ≡ c.job = ap (λ (n : Name). n.job) same in omega (arith, some, job_is))
          (λ idle. begins)

  -- so none stands there after such steps
  none_stands : (ts : List ℕ) (m : Machine) → IsReached inputs m → (c : Name) → is_live (world_of m) c ≡ true → is_live (world_of (run m ts)) c ≡ true → LeaveIt m ts c → 1 ≤ c.job → NotIn m c → NotIn (run m ts) c
  none_stands [] m reached c live after left some others = others
  none_stands (t ∷ ts) m reached c live after left some others =
      let next = reached_next inputs m t reached in
      none_stands ts (step m t) next c (lived ts (step m t) next c (named_next m t reached c (named_now m reached c live)) after) after left.1 some (not_entered m reached t c live some others left.0)
    where
      named_now : (m : Machine) (reached : IsReached inputs m) (c : Name) → is_live (world_of m) c ≡ true → IsNamedContext (world_of m).next c
      named_now m reached c live = (ready_at m reached).sound.fresh.contexts c live

      named_next : (m : Machine) (t : ℕ) (reached : IsReached inputs m) (c : Name) → IsNamedContext (world_of m).next c → IsNamedContext (world_of (step m t)).next c
      named_next m t reached c named =
          let led = leads_at m t reached in
          let counted : ((world_of m).next c.job).contexts ≤ ((world_of (step m t)).next c.job).contexts =
          subst (λ (next : _). ((world_of m).next c.job).contexts ≤ (next c.job).contexts) (sym led.leaves.next) (led.allowed.confines.counted c.job) in
          omega (arith, named, counted)

  -- none stands in a context that has just been made
  module _ (m : Machine) (reached : IsReached inputs m) (t : ℕ) (c : Name) (made : Makes m t c) where
    now : IsReady inputs (length reached.steps) m
    now = ready_at m reached

    maker : Thread
    maker = made.thread

    runs : IsRunnable (world_of m) made.thread
    runs = subst (λ (s : ThreadStatus). WhileRunning s (IsRunnable (world_of m) made.thread)) made.made.running (ready_thread inputs (length reached.steps) t m made.thread now made.made.found).runs

    pub job_of_made : 1 ≤ c.job
    job_of_made = subst (λ (n : Name). 1 ≤ n.job) (sym made.named) runs.some_job

    not_live : (d : Name) → is_live (world_of m) d ≡ true → d ≢ c
    not_live d live same =
        let new : is_live (world_of m) (next_context (world_of m) made.thread.job) ≡ false = stays_fresh.next_context_is_new (world_of m) made.thread.job now.sound.fresh in
        let is : is_live (world_of m) d ≡ false = ap (is_live (world_of m)) (same ∙ made.named) ∙ new in
        absurd (let no : true ≡ false = sym live ∙ is in cc)

    pub none_in_made : NotIn (step m t) c
    none_in_made =
        stands_elsewhere inputs (length reached.steps) m t now made.thread made.made.found c
        (λ u z found. not_live z.context (ready_thread inputs (length reached.steps) u m z now found).live)
        (λ d cap calls given.
        let to = went inputs (length reached.steps) m t now made.thread d cap calls given in
        not_live d (subst (λ (n : Name). is_live (world_of m) n ≡ true) (target_is inputs (length reached.steps) m t now made.thread d cap calls given) to.3.live))
        (λ serve is same. let job_is : 0 ≡ c.job = ap (λ (n : Name). n.job) same in let some = job_of_made in omega (arith, some, job_is))
        (λ idle. absurd (let no : Idle ≡ Running = sym idle ∙ made.made.running in cc))

  pub goes_on_as_made : (m : Machine) → IsReached inputs m → (t u : ℕ) (c : Name) → Makes m t c → (since : List ℕ) → IsUntouched (step m t) since c → (x : Thread) (cap : Cap) →
      MakesCall (run (step m t) since) u x LW_SWITCH → IsGiven (run (step m t) since) x c cap →
      IsResumed (world_of (step m t)) c (run (step m t) since) x (guest_calls LW_SWITCH u (run (step m t) since).environment (advanced_thread (run (step m t) since) x))
  goes_on_as_made m reached t u c made since untouched x cap calls given =
      let first = reached_next inputs m t reached in
      let later = reached_later since (step m t) first in
      let ready = ready_at (run (step m t) since) later in
      let elsewhere = none_stands since (step m t) first c untouched.before untouched.after untouched.left (job_of_made m reached t c made) (none_in_made m reached t c made) in
      resumed inputs (length later.steps) (run (step m t) since) u ready (world_of (step m t)) c ((ready_at (step m t) first).size ∙ sym ready.size)
      (as_made m reached t c made since untouched) x cap calls given (elsewhere u x calls.found)
    where
      reached_later : (ts : List ℕ) (k : Machine) → IsReached inputs k → IsReached inputs (run k ts)
      reached_later [] k is = is
      reached_later (v ∷ vs) k is = reached_later vs (step k v) (reached_next inputs k v is)
