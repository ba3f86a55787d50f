-- A step that is made inside a fence leaves what is outside, and keeps to the fence.
use Rattle.std.proofs.Common.{◌≡◌, ◌⊎◌, inl, inr, ℕ, ◌≤◌, ◌<◌, ◌++◌, Bool, true, false, cond, Option, None, Some, List, refl, ap, sym, subst, ◌∙◌, arith}
use Rattle.std.specs.Prelude.{slice_get, slice_index}
use Rattle.guest_call.specs.Guest.{descriptor_for, slot_refusals}
use Rattle.guest_image.specs.declared.image.Form.{Form}
use Rattle.guest_image.specs.declared.image.Form.TheVariants as form
use Rattle.guest_image.specs.Limits.{pages_of}
use Rattle.kernel_core.proofs.Others.{step_leaves}
use Rattle.kernel_core.proofs.Outcomes.{keeps_contexts}
use Rattle.kernel_core.specs.Machine.{Environment, Machine, Serve, has_ended}
use Rattle.kernel_core.specs.Ready.{IsReady}
use Rattle.kernel_core.specs.Refused.{advanced_thread, refusal_in, refusal_of}
use Rattle.kernel_core.specs.Start.{Inputs}
use Rattle.kernel_core.specs.Step.{AfterStep, Outcome, after_outcome, after_thread, finish, guest_calls, only, settled, step, step_by, thread_outcome}
use Rattle.kernel_core.specs.declared.calling.TheConstants.{LW_OVERLAY, LW_SWITCH, LW_SYSCALL}
use Rattle.kernel_core.specs.declared.thread.Thread.{Thread}
use Rattle.lwc_base.specs.declared.descriptor.Cap.{Cap}
use Rattle.lwc_base.specs.declared.descriptor.Descriptor.{Descriptor}
use Rattle.lwc_base.specs.declared.descriptor.Descriptor.TheVariants.{Console, Ctx, Empty, File, Reply, Request}
use Rattle.lwc_base.specs.Capabilities.{has_key}
use Rattle.lwc_base.specs.Cells.{slot_at, value_at}
use Rattle.lwc_base.specs.Clones.{HaveInCommon}
use Rattle.lwc_base.specs.Modes.{IsKey}
use Rattle.lwc_base.specs.Refusals.{first_refusal}
use Rattle.lwc_base.specs.World.{World, context, is_live, next_context}
use Rattle.lwc_types.specs.declared.key.TheConstants.{SLOTS}
use Rattle.lwc_types.specs.declared.fault.ThreadStatus.{ThreadStatus}
use Rattle.lwc_types.specs.declared.fault.ThreadStatus.TheVariants as status
use Rattle.lwc_types.specs.declared.key.Key.{Key}
use Rattle.lwc_types.specs.declared.key.Key.TheVariants.{Cred, Page, Slot}
use Rattle.lwc_types.specs.declared.limits.TheConstants.{MOST_PAGES}
use Rattle.lwc_types.specs.declared.name.Name.{Name}
use Rattle.lwc_types.specs.declared.refusal.Refusal.{Refusal}
use Rattle.lwc_types.specs.declared.regs.Regs.{Regs}
use Rattle.lwc_overlay.specs.OverlayCall as overlaying
use Rattle.lwc_syscall.specs.Syscall as syscalls
use Rattle.lwc_syscall.specs.Syscall.{inner_args, inner_call, lw_syscall, targets_of}
use Rattle.lwc_syscall.specs.Plain.{is_written, plain}
use Rattle.confinement.proofs.Confining.{confined, Leads, leads, ready_thread}
use Rattle.confinement.proofs.Decide.{number_or_not}
use Rattle.confinement.proofs.Left.{accepted_slot}
use Rattle.confinement.proofs.Speaking.{no_thread_speaks, step_speaks}
use Rattle.confinement.proofs.Voices.{Source}
use Rattle.confinement.proofs.Standing.{Stands, outcome_stands, set_cases}
use Rattle.confinement.proofs.Steps.{inner_of, outcome_of}
use Rattle.confinement.proofs.Traces.{Joined, MayHaveFrom, OfItself, joined}
use Rattle.confinement.specs.Confined.{ComesFrom, IsConfined, Made, MayCopy, OfTheCaller, OutOfItsHome, OutOfItsOwn, OutOfTheChosen, OutOfTheGiver, Restricted, Stood}
use Rattle.confinement.specs.Fences.{Fence, IsInsideOrSeen, IsMute, KeepsTo, LeavesOutside, MayBeInside, MayJoin, StaysAway, StaysInside, WithItsMaker, WithTheGiver}
use Rattle.confinement.specs.May.{IsGiven, MakesCall, MayChange, OfItsOwn, OfTheChosen, OfTheGiver, OfTheTarget, regs_at, world_of}
use Rattle.confinement.specs.One.{IsOneValue}
use Rattle.lwc_base.proofs.Puts.{live_of_common}

-- a slot from which a call takes a context is one of those that there are
named_within : (w : World) (c : Name) (n : ℕ) (rows : List (Bool × Refusal)) → first_refusal (slot_refusals w c n ++ rows) ≡ None → n < SLOTS
unfolding slot_refusals descriptor_for
named_within w c n rows none = grind arith

taken_none : (w : World) (c : Name) (job : ℕ) (regs : Regs) (first : Option Refusal) → refusal_in (overlaying.ended w c job regs first).0 ≡ None → first ≡ None
taken_none w c job regs None is = refl
taken_none w c job regs (Some r) is = absurd cc

pub taken_slot : (t : ℕ) (e : Environment) (x : Thread) → refusal_of LW_OVERLAY t e x ≡ None → slice_index x.regs.r 1 < SLOTS
unfolding refusal_of overlaying.overlay overlaying.refusals
taken_slot t e x none = named_within e.world x.context (slice_index x.regs.r 1) _ (taken_none e.world x.context x.job x.regs _ none)

pub called_slot : (t : ℕ) (e : Environment) (x : Thread) → refusal_of LW_SYSCALL t e x ≡ None → slice_index x.regs.r 1 < SLOTS
unfolding refusal_of lw_syscall syscalls.refusals
called_slot t e x none =
    named_within e.world x.context (slice_index x.regs.r 1) _
    (inner_of e.world e.channels (plain e.world e.channels (targets_of e.world x.context x.regs) x.job (inner_call x.regs) (inner_args x.regs)) _ none).0

-- a context of an image has at most so many pages
few_of : (f : Form) → pages_of f ≤ MOST_PAGES
few_of form.One = omega arith
few_of form.Two = omega arith

key_of_most : (pages : ℕ) (k : Key) → pages ≤ MOST_PAGES → IsKey pages k → IsKey MOST_PAGES k
key_of_most pages (Page p) few key = omega (arith, few, key)
key_of_most pages (Slot n) few key = key
key_of_most pages Cred few key = key

-- a thread keeps its job in a step in which it runs before and after
settled_job : (t : ℕ) (o : Option Serve) (outcome : Outcome) → (settled t o outcome).thread.status ≡ status.Running →
    ((settled t o outcome).thread.job ≡ outcome.thread.job) × ((settled t o outcome).thread.context ≡ outcome.thread.context)
settled_job t None outcome runs = (refl, refl)
settled_job t (Some s) outcome runs = by_end (has_ended outcome.thread.status) runs
  where
    by_end : (b : Bool) → (cond b (finish t s outcome) (only (Some s) outcome)).thread.status ≡ status.Running →
        ((cond b (finish t s outcome) (only (Some s) outcome)).thread.job ≡ outcome.thread.job) × ((cond b (finish t s outcome) (only (Some s) outcome)).thread.context ≡ outcome.thread.context)
    by_end true runs = absurd cc
    by_end false runs = (refl, refl)

-- the slots of a context that does not live are empty
pub dead_empty : (w : World) (e : Name) (n : ℕ) → is_live w e ≡ false → slot_at w e n ≡ Empty
unfolding context value_at
dead_empty w e n dead = grind arith

pub dead_slot : (w : World) (f : Fence) (e : Name) (n : ℕ) → is_live w e ≡ false → MayBeInside f (slot_at w e n)
dead_slot w f e n dead = subst (MayBeInside f) (sym (dead_empty w e n dead)) tt

-- where there was no thread there is none
none_there : (m : Machine) (t : ℕ) (y : Thread) → slice_get m.threads t ≡ None → slice_get (step m t).threads t ≡ Some y → ⊥
unfolding step_by
none_there m t y none there =
    let still : slice_get m.threads t ≡ Some y = subst (λ (o : Option Thread). slice_get (after_thread guest_calls m t o).threads t ≡ Some y) none there in
    let no : Some y ≡ None = sym still ∙ none in cc

module _ (inputs : Inputs) (steps : ℕ) (m : Machine) (t : ℕ) (ready : IsReady inputs steps m) (f : Fence) (keeps : KeepsTo f m) (stays : StaysInside f m t) where
  abbrev w : World
  w = world_of m

  abbrev v : World
  v = world_of (step m t)

  few_pages : w.size.pages ≤ MOST_PAGES
  few_pages = subst (λ (s : _). s.pages ≤ MOST_PAGES) (sym ready.size) (few_of inputs.image.form)

  most : (k : Key) → IsKey w.size.pages k → IsKey MOST_PAGES k
  most k = key_of_most w.size.pages k few_pages

  confines : IsConfined m t (step m t)
  confines = confined inputs steps m t ready

  abbrev InsideOrOpened : Name → Key → Type 0
  InsideOrOpened a k = (f.inside a ≡ true) ⊎ (f.opened a k ≡ true)

  here : (x : Thread) → slice_get m.threads t ≡ Some x → f.inside x.context ≡ true
  here x found = (stays.here x found).1

  -- a key of a capability that a thread gives is opened, or its context is inside
  reached : (x : Thread) (d : Name) (cap : Cap) (k : Key) → slice_get m.threads t ≡ Some x → slice_index (regs_at m x).r 1 < SLOTS → IsGiven m x d cap → IsKey MOST_PAGES k → has_key cap k ≡ true → InsideOrOpened d k
  reached x d cap k found within given key has = elim (given_inside x d cap found within given) [
    | inl inside ↦ inl inside
    | inr opens ↦ inr (opens k key has)
  ]
    where
      given_inside : (x : Thread) (d : Name) (cap : Cap) → slice_get m.threads t ≡ Some x → slice_index (regs_at m x).r 1 < SLOTS → IsGiven m x d cap → MayBeInside f (Ctx d cap)
      given_inside x d cap found within given = subst (MayBeInside f) given (keeps.slots x.context (slice_index (regs_at m x).r 1) (here x found) within)

  by_overlay : (x : Thread) (d : Name) (cap : Cap) (k : Key) → MakesCall m t x LW_OVERLAY → IsGiven m x d cap → IsKey MOST_PAGES k → has_key cap k ≡ true → InsideOrOpened d k
  by_overlay x d cap k calls given = reached x d cap k calls.found (taken_slot t m.environment (advanced_thread m x) calls.accepted) given

  by_syscall : (x : Thread) (d : Name) (cap : Cap) (k : Key) → MakesCall m t x LW_SYSCALL → IsGiven m x d cap → IsKey MOST_PAGES k → has_key cap k ≡ true → InsideOrOpened d k
  by_syscall x d cap k calls given = reached x d cap k calls.found (called_slot t m.environment (advanced_thread m x) calls.accepted) given

  -- what the step may change is inside or opened
  changed : (a : Name) (k : Key) → IsKey w.size.pages k → MayChange m t a k → InsideOrOpened a k
  changed _ _ key (OfItsOwn x k found) = inl (here x found)
  changed _ _ key (OfTheTarget x d cap n calls given lowest) = inl (stays.there x d cap calls given)
  changed _ _ key (OfTheGiver x d cap k calls given has named) = by_overlay x d cap k calls given (most k key) has
  changed _ _ key (OfTheChosen x d cap k calls given has chosen) = by_syscall x d cap k calls given (most k key) has

  as_seen : (a : Name) (k : Key) → InsideOrOpened a k → IsInsideOrSeen f a k
  as_seen a k (inl inside) = inl inside
  as_seen a k (inr opened) = keeps.seen a k opened

  one_seen : (a e : Name) (k : Key) → IsKey w.size.pages k → IsInsideOrSeen f a k → IsOneValue w a e k → IsInsideOrSeen f e k
  one_seen a e k key seen (inl same) = subst (λ (n : Name). IsInsideOrSeen f n k) same seen
  one_seen a e k key seen (inr both) = keeps.common a e k seen key both

  no_both : {b : Bool} → b ≡ true → b ≡ false → ⊥
  no_both first second = let both : true ≡ false = sym first ∙ second in cc

  not_changed : (e : Name) (k : Key) → IsKey w.size.pages k → f.inside e ≡ false → f.opened e k ≡ false → MayChange m t e k → ⊥
  not_changed e k key outside shut may = elim (changed e k key may) [
    | inl inside ↦ no_both inside outside
    | inr opened ↦ no_both opened shut
  ]

  pub leaves_outside : LeavesOutside f w v
  leaves_outside = record {
    cells = λ e k both key outside shut. elim (confines.cells e k both key) [
      | inl same ↦ same
      | inr may ↦ absurd (not_changed e k key outside shut may)
    ];
    rights = λ e p both key outside shut. elim (confines.rights e p both key) [
      | inl same ↦ same
      | inr may ↦ absurd (not_changed e (Page p) key outside shut may)
    ];
    values = λ e k both key outside unseen. elim (confines.values e k both key) [
      | inl same ↦ same
      | inr seen ↦ absurd (elim (one_seen seen.changed e k key (as_seen seen.changed k (changed seen.changed k key seen.may)) seen.one) [
        | inl inside ↦ no_both inside outside
        | inr may ↦ no_both may unseen
      ])
    ];
    entries = confines.entries;
    saved = λ e s both outside. elim (confines.saved e s both) [
      | inl same ↦ same
      | inr stands ↦ absurd (no_both (subst (λ (n : Name). f.inside n ≡ true) stands.3 (here stands.1 stands.2)) outside)
    ];
  }

  -- what the step makes is inside
  made_inside : (x : Thread) → slice_get m.threads t ≡ Some x → x.status ≡ status.Running → f.inside (next_context w x.job) ≡ true
  made_inside x found running = keeps.later t x ((w.next x.job).contexts) found running (here x found) (omega arith)

  -- a slot that the step may copy is inside or opened
  copied_slot : (e : Name) (n : ℕ) → MayCopy m t e n → n < SLOTS → InsideOrOpened e (Slot n)
  copied_slot _ _ (OutOfItsOwn x n found) slot = inl (here x found)
  copied_slot _ _ (OutOfTheGiver x a held n calls given has) slot = by_overlay x a held (Slot n) calls given slot has
  copied_slot _ _ (OutOfTheChosen x a held n calls given has chosen) slot = by_syscall x a held (Slot n) calls given slot has
  copied_slot _ _ (OutOfItsHome x n found idle) slot = absurd ((stays.here x found).0 idle)

  -- so a descriptor in it may be inside
  copied : (e : Name) (n : ℕ) (d : Name) (cap : Cap) → MayCopy m t e n → n < SLOTS → slot_at w e n ≡ Ctx d cap → MayBeInside f (Ctx d cap)
  copied e n d cap may slot is = elim (copied_slot e n may slot) [
    | inl inside ↦ subst (MayBeInside f) is (keeps.slots e n inside slot)
    | inr opened ↦ subst (MayBeInside f) is (keeps.opened e n opened slot)
  ]

  -- and so may one whose capability the step may leave
  comes_inside : (d : Name) (cap : Cap) → ComesFrom m t d cap → MayBeInside f (Ctx d cap)
  comes_inside d cap (Stood e n may slot is) = copied e n d cap may slot is
  comes_inside d cap (Restricted x whole calls given part) =
      let slot = accepted_slot t m.environment (advanced_thread m x) calls.accepted in
      let had : MayBeInside f (Ctx d whole) = subst (MayBeInside f) given (keeps.slots x.context (slice_index (regs_at m x).r 1) (here x calls.found) slot) in
      elim had [
        | inl inside ↦ inl inside
        | inr opens ↦ inr (λ k key has. opens k key (part k key has))
      ]
  comes_inside d cap (Made x calls new full) = inl (subst (λ (n : Name). f.inside n ≡ true) (sym new) (made_inside x calls.found calls.running))
  comes_inside d cap (OfTheCaller x calls same none) = inl (subst (λ (n : Name). f.inside n ≡ true) (sym same) (here x calls.found))

  -- a slot of which each descriptor of a context could be inside before can have one inside afterwards
  slot_keeps : (e : Name) (n : ℕ) → n < SLOTS → MayBeInside f (slot_at w e n) → is_live v e ≡ true → (value : Descriptor) → slot_at v e n ≡ value → MayBeInside f value
  slot_keeps e n slot before live (Ctx d cap) is = elim (confines.capabilities e d n cap live slot is) [
    | inl had ↦ subst (MayBeInside f) had before
    | inr comes ↦ comes_inside d cap comes
  ]
  slot_keeps e n slot before live Empty is = tt
  slot_keeps e n slot before live Console is = tt
  slot_keeps e n slot before live (File a b) is = tt
  slot_keeps e n slot before live (Request a b) is = tt
  slot_keeps e n slot before live (Reply a) is = tt

  slot_inside : (e : Name) (n : ℕ) → n < SLOTS → MayBeInside f (slot_at w e n) → MayBeInside f (slot_at v e n)
  slot_inside e n slot before =
      elim (is_live v e) as (λ b. is_live v e ≡ b → MayBeInside f (slot_at v e n)) [
        | true ↦ λ live. slot_keeps e n slot before live (slot_at v e n) refl
        | false ↦ λ dead. dead_slot v f e n dead
      ] refl

  led : Leads m t
  led = leads inputs steps m t ready

  -- where a context has a key from, there it is inside or seen, and the other way round
  joins_back : (a c : Name) (k : Key) → IsKey w.size.pages k → MayJoin m t a k c → IsInsideOrSeen f c k
  joins_back _ _ _ key (WithItsMaker x k calls named) = inl (here x calls.found)
  joins_back _ _ _ key (WithTheGiver x d cap k calls given has named) = as_seen d k (by_overlay x d cap k calls given (most k key) has)

  joins_on : (a c : Name) (k : Key) → MayJoin m t a k c → IsInsideOrSeen f a k
  joins_on _ _ _ (WithItsMaker x k calls named) = inl (made_inside x calls.found calls.running)
  joins_on _ _ _ (WithTheGiver x d cap k calls given has named) = inl (here x calls.found)

  from_seen : (a c : Name) (k : Key) → IsKey w.size.pages k → MayHaveFrom m t a k c → IsInsideOrSeen f a k → IsInsideOrSeen f c k
  from_seen _ _ _ key (OfItself a k) seen = seen
  from_seen _ _ _ key (Joined a c k join) seen = joins_back a c k key join

  to_seen : (a c : Name) (k : Key) → MayHaveFrom m t a k c → IsInsideOrSeen f c k → IsInsideOrSeen f a k
  to_seen _ _ _ (OfItself a k) seen = seen
  to_seen _ _ _ (Joined a c k join) seen = joins_on a c k join

  -- what a context has in common after the step it had in common in the world that the act came to
  acted_common : (a b : Name) (k : Key) → IsKey w.size.pages k → HaveInCommon v a b k → (c : Name) × (d : Name) × MayHaveFrom m t a k c × MayHaveFrom m t b k d × IsOneValue w c d k
  acted_common a b k key both =
      let live_a = live_of_common v a k both.group both.first in
      let live_b = live_of_common v b k both.group both.second in
      joined (MayHaveFrom m t) w led.acted ready.sound.groups led.allowed.traces a b k key both.group
      (ap (λ y. y.cell k) (sym (led.leaves.contexts a live_a)) ∙ both.first) (ap (λ y. y.cell k) (sym (led.leaves.contexts b live_b)) ∙ both.second)

  common_keeps : (a b : Name) (k : Key) → IsInsideOrSeen f a k → IsKey w.size.pages k → HaveInCommon v a b k → IsInsideOrSeen f b k
  common_keeps a b k seen key both =
      let two = acted_common a b k key both in
      to_seen b two.1 k two.3 (one_seen two.0 two.1 k key (from_seen a two.0 k key two.2 seen) two.4)

  -- counters do not fall
  counted : (j : ℕ) → (w.next j).contexts ≤ (v.next j).contexts
  counted j = subst (λ (next : _). (w.next j).contexts ≤ (next j).contexts) (sym led.leaves.next) (led.allowed.confines.counted j)

  -- the thread that made the step runs for the job that it ran for, if it runs
  keeps_job : (x y : Thread) → slice_get m.threads t ≡ Some x → slice_get (step m t).threads t ≡ Some y → y.status ≡ status.Running → (x.status ≡ status.Running) × (y.job ≡ x.job)
  unfolding step_by
  keeps_job x y found after runs = by_status x.status refl (subst (λ (o : Option Thread). slice_get (after_thread guest_calls m t o).threads t ≡ Some y) found after)
    where
      acts : (outcome_of m t x).thread.job ≡ x.job
      acts = (keeps_contexts t m.environment x _ (record { sound = ready.sound; named = ready.named; files = ready.files }) (ready_thread inputs steps t m x ready found).live).job

      -- the thread that was set
      set_is : (after : AfterStep) → slice_get (after_outcome m t (Some after)).threads t ≡ Some y → (y ≡ after.thread) ⊎ (slice_get m.threads t ≡ Some y)
      set_is after is = set_cases m.threads t t after.thread y is

      by_status : (s : ThreadStatus) → x.status ≡ s → slice_get (after_outcome m t (thread_outcome guest_calls t m.environment m.serve m.text x s)).threads t ≡ Some y →
          (x.status ≡ status.Running) × (y.job ≡ x.job)
      by_status status.Running is there = (
        is,
        elim (set_is (settled t m.serve (outcome_of m t x)) there) [
          | inl set ↦ ap (λ (z : Thread). z.job) set ∙ ((settled_job t m.serve (outcome_of m t x) (ap (λ (z : Thread). z.status) (sym set) ∙ runs)).0 ∙ acts)
          | inr old ↦ let same : Some x ≡ Some y = sym found ∙ old in let one : y ≡ x = cc in ap (λ (z : Thread). z.job) one
        ],
      )
      by_status status.Idle is there = absurd ((stays.here x found).0 is)
      by_status (status.Done code) is there = absurd (let same : Some x ≡ Some y = sym found ∙ there in let one : x ≡ y = cc in let no : status.Done code ≡ status.Running = sym is ∙ (ap (λ (z : Thread). z.status) one ∙ runs) in cc)
      by_status (status.Faulted e) is there = absurd (let same : Some x ≡ Some y = sym found ∙ there in let one : x ≡ y = cc in let no : status.Faulted e ≡ status.Running = sym is ∙ (ap (λ (z : Thread). z.status) one ∙ runs) in cc)

  later_keeps : (u : ℕ) (y : Thread) (k : ℕ) → slice_get (step m t).threads u ≡ Some y → y.status ≡ status.Running → f.inside y.context ≡ true → (v.next y.job).contexts ≤ k → f.inside (record { job = y.job; k = k }) ≡ true
  later_keeps u y k found runs inside more = elim (number_or_not t u) [
    | inl same ↦ by_thread (slice_get m.threads t) refl (subst (λ (n : ℕ). slice_get (step m t).threads n ≡ Some y) (sym same) found)
    | inr other ↦ keeps.later u y k (sym (step_leaves m t u other) ∙ found) runs inside (omega (arith, counted y.job, more))
  ]
    where
      by_thread : (o : Option Thread) → slice_get m.threads t ≡ o → slice_get (step m t).threads t ≡ Some y → f.inside (record { job = y.job; k = k }) ≡ true
      by_thread None none there = absurd (none_there m t y none there)
      by_thread (Some x) was there =
          let same = keeps_job x y was there runs in
          subst (λ (j : ℕ). f.inside (record { job = j; k = k }) ≡ true) (sym same.1)
          (keeps.later t x k was same.0 (here x was) (omega (arith, counted x.job, ap (λ (j : ℕ). (v.next j).contexts) same.1, more)))

  pub keeps_to : KeepsTo f (step m t)
  keeps_to = record {
    slots = λ c n inside slot. slot_inside c n slot (keeps.slots c n inside slot);
    opened = λ d n opened slot. slot_inside d n slot (keeps.opened d n opened slot);
    seen = keeps.seen;
    common = λ d e k seen key both. common_keeps d e k seen (subst (λ (s : _). IsKey s.pages k) (led.leaves.size ∙ led.allowed.confines.size) key) both;
    later = later_keeps;
  }

  -- where none inside can be written, none is afterwards, and nothing is written
  module _ (mute : IsMute f w) where
    not_heard : Source (MayCopy m t) w → ⊥
    not_heard heard = no_both heard.4 (mute heard.0 heard.1 (copied_slot heard.0 heard.1 heard.2 heard.3) heard.3)

    silent_slot : (c : Name) (n : ℕ) → InsideOrOpened c (Slot n) → n < SLOTS → (b : Bool) → is_live v c ≡ b → (speaks : Bool) → is_written (slot_at v c n) ≡ speaks → speaks ≡ false
    silent_slot c n inside slot b live false is = refl
    silent_slot c n inside slot false dead true is = absurd (no_both is (ap is_written (dead_empty v c n dead)))
    silent_slot c n inside slot true live true is = absurd (elim led.allowed.voices [
      | inl idle ↦ (stays.here idle.0 idle.1).0 idle.2
      | inr voices ↦ elim (voices c n (led.leaves.live c live) slot (ap is_written (sym (led.leaves.values c (Slot n) slot live)) ∙ is)) [
        | inl had ↦ no_both had (mute c n inside slot)
        | inr heard ↦ not_heard heard
      ]
    ])

    pub mute_keeps : IsMute f v
    mute_keeps c n inside slot = silent_slot c n inside slot (is_live v c) refl (is_written (slot_at v c n)) refl

    by_found : (o : Option Thread) → slice_get m.threads t ≡ o → (step m t).environment.channels ≡ m.environment.channels
    by_found None none = no_thread_speaks inputs steps m t ready none
    by_found (Some x) found = elim (step_speaks inputs steps m t ready x found) [
      | inr heard ↦ absurd (not_heard heard)
      | inl rest ↦ elim rest [
        | inl idle ↦ absurd ((stays.here x found).0 idle)
        | inr same ↦ same
      ]
    ]

    pub silent : (step m t).environment.channels ≡ m.environment.channels
    silent = by_found (slice_get m.threads t) refl

-- a step that is made outside, and stays away, keeps to the fence
module _ (inputs : Inputs) (steps : ℕ) (m : Machine) (t : ℕ) (ready : IsReady inputs steps m) (f : Fence) (keeps : KeepsTo f m) (away : StaysAway f m t) where
  abbrev before : World
  before = world_of m

  abbrev after : World
  after = world_of (step m t)

  not_both : {b : Bool} → b ≡ true → b ≡ false → ⊥
  not_both first second = let both : true ≡ false = sym first ∙ second in cc

  confined_so : IsConfined m t (step m t)
  confined_so = confined inputs steps m t ready

  leads_so : Leads m t
  leads_so = leads inputs steps m t ready

  was_live : (e : Name) (n : ℕ) → (f.inside e ≡ true) ⊎ (f.opened e (Slot n) ≡ true) → is_live after e ≡ true → is_live before e ≡ true
  was_live e n there live = elim (leads_so.allowed.born e (leads_so.leaves.live e live)) [
    | inl was ↦ was
    | inr born ↦ elim born [
      | inl idle ↦ absurd (away.here idle.0 idle.1 idle.2)
      | inr made ↦ absurd (elim there [
        | inl inside ↦ not_both (subst (λ (d : Name). f.inside d ≡ true) made.2 inside) (away.made made.0 n made.1).0
        | inr opened ↦ not_both (subst (λ (d : Name). f.opened d (Slot n) ≡ true) made.2 opened) (away.made made.0 n made.1).1
      ])
    ]
  ]

  slot_stays : (e : Name) (n : ℕ) → (f.inside e ≡ true) ⊎ (f.opened e (Slot n) ≡ true) → n < SLOTS → MayBeInside f (slot_at before e n) → MayBeInside f (slot_at after e n)
  slot_stays e n there slot old =
      elim (is_live after e) as (λ b. is_live after e ≡ b → MayBeInside f (slot_at after e n)) [
        | false ↦ λ dead. dead_slot after f e n dead
        | true ↦ λ live. elim (confined_so.values e (Slot n) (was_live e n there live, live) slot) [
          | inl same ↦ subst (MayBeInside f) (sym same) old
          | inr seen ↦ absurd (away.slots e n there slot seen)
        ]
      ] refl

  back_seen : (a c : Name) (k : Key) → IsKey before.size.pages k → MayHaveFrom m t a k c → IsInsideOrSeen f a k → IsInsideOrSeen f c k
  back_seen _ _ _ key (OfItself a k) seen = seen
  back_seen _ _ _ key (Joined a c k join) seen = (away.joins a c k key join).0 seen

  on_seen : (a c : Name) (k : Key) → IsKey before.size.pages k → MayHaveFrom m t a k c → IsInsideOrSeen f c k → IsInsideOrSeen f a k
  on_seen _ _ _ key (OfItself a k) seen = seen
  on_seen _ _ _ key (Joined a c k join) seen = (away.joins a c k key join).1 seen

  one_stays : (a e : Name) (k : Key) → IsKey before.size.pages k → IsInsideOrSeen f a k → IsOneValue before a e k → IsInsideOrSeen f e k
  one_stays a e k key seen (inl same) = subst (λ (n : Name). IsInsideOrSeen f n k) same seen
  one_stays a e k key seen (inr both) = keeps.common a e k seen key both

  common_stays : (a b : Name) (k : Key) → IsInsideOrSeen f a k → IsKey before.size.pages k → HaveInCommon after a b k → IsInsideOrSeen f b k
  common_stays a b k seen key both =
      let live_a = live_of_common after a k both.group both.first in
      let live_b = live_of_common after b k both.group both.second in
      let two = joined (MayHaveFrom m t) before leads_so.acted ready.sound.groups leads_so.allowed.traces a b k key both.group
      (ap (λ y. y.cell k) (sym (leads_so.leaves.contexts a live_a)) ∙ both.first) (ap (λ y. y.cell k) (sym (leads_so.leaves.contexts b live_b)) ∙ both.second) in
      on_seen b two.1 k key two.3 (one_stays two.0 two.1 k key (back_seen a two.0 k key two.2 seen) two.4)

  more_counted : (j : ℕ) → (before.next j).contexts ≤ (after.next j).contexts
  more_counted j = subst (λ (next : _). (before.next j).contexts ≤ (next j).contexts) (sym leads_so.leaves.next) (leads_so.allowed.confines.counted j)

  -- what may change in slot 0 is outside
  changed_outside : (d : Name) → MayChange m t d (Slot 0) → f.inside d ≡ false
  changed_outside d may = elim (f.inside d) as (λ b. f.inside d ≡ b → f.inside d ≡ false) [
    | true ↦ λ inside. absurd (away.slots d 0 (inl inside) (omega arith) (record { changed = d; may = may; one = inl refl }))
    | false ↦ λ outside. outside
  ] refl

  thread_outside : (x : Thread) → slice_get m.threads t ≡ Some x → f.inside x.context ≡ false
  thread_outside x found = changed_outside x.context (OfItsOwn x (Slot 0) found)

  -- an accepted switch leads outside: it changes the lowest empty slot there
  target_outside : (x : Thread) (d : Name) (cap : Cap) → MakesCall m t x LW_SWITCH → IsGiven m x d cap → f.inside d ≡ false
  target_outside x d cap call given =
      let enters = confined_so.switch x d cap call given in
      elim (f.inside d) as (λ b. f.inside d ≡ b → f.inside d ≡ false) [
        | true ↦ λ inside. absurd (away.slots d enters.slot (inl inside) enters.within (record { changed = d; may = OfTheTarget x d cap enters.slot call given enters.lowest; one = inl refl }))
        | false ↦ λ outside. outside
      ] refl

  -- the thread that made the step is outside afterwards, while it runs
  still_outside : (x y : Thread) → slice_get m.threads t ≡ Some x → slice_get (step m t).threads t ≡ Some y → y.status ≡ status.Running → f.inside y.context ≡ false
  unfolding step_by
  still_outside x y found there runs = by_status x.status refl (subst (λ (o : Option Thread). slice_get (after_thread guest_calls m t o).threads t ≡ Some y) found there)
    where
      stands : (d : Name) → Stands m t x d → f.inside d ≡ false
      stands d (inl same) = subst (λ (n : Name). f.inside n ≡ false) (sym same) (thread_outside x found)
      stands d (inr goes) = target_outside x d goes.0 goes.1 goes.2

      is_x : slice_get m.threads t ≡ Some y → f.inside y.context ≡ false
      is_x old = let same : Some x ≡ Some y = sym found ∙ old in let one : x ≡ y = cc in subst (λ (z : Thread). f.inside z.context ≡ false) one (thread_outside x found)

      by_status : (s : ThreadStatus) → x.status ≡ s → slice_get (after_outcome m t (thread_outcome guest_calls t m.environment m.serve m.text x s)).threads t ≡ Some y → f.inside y.context ≡ false
      by_status status.Running is there = elim (set_cases m.threads t t (settled t m.serve (outcome_of m t x)).thread y there) [
        | inl set ↦
            let settles = settled_job t m.serve (outcome_of m t x) (ap (λ (z : Thread). z.status) (sym set) ∙ runs) in
            subst (λ (n : Name). f.inside n ≡ false) (sym (ap (λ (z : Thread). z.context) set ∙ settles.1)) (stands (outcome_of m t x).thread.context (outcome_stands inputs steps m t ready x found is))
        | inr old ↦ is_x old
      ]
      by_status status.Idle is there = absurd (away.here x found is)
      by_status (status.Done code) is there = is_x there
      by_status (status.Faulted e) is there = is_x there

  later_stays : (u : ℕ) (y : Thread) (k : ℕ) → slice_get (step m t).threads u ≡ Some y → y.status ≡ status.Running → f.inside y.context ≡ true → (after.next y.job).contexts ≤ k → f.inside (record { job = y.job; k = k }) ≡ true
  later_stays u y k found runs inside more = elim (number_or_not t u) [
    | inl same ↦ by_thread (slice_get m.threads t) refl (subst (λ (n : ℕ). slice_get (step m t).threads n ≡ Some y) (sym same) found)
    | inr other ↦ keeps.later u y k (sym (step_leaves m t u other) ∙ found) runs inside (omega (arith, more_counted y.job, more))
  ]
    where
      by_thread : (o : Option Thread) → slice_get m.threads t ≡ o → slice_get (step m t).threads t ≡ Some y → f.inside (record { job = y.job; k = k }) ≡ true
      by_thread None none there = absurd (none_there m t y none there)
      by_thread (Some x) was there = absurd (not_both inside (still_outside x y was there runs))

  pub keeps_away : KeepsTo f (step m t)
  keeps_away = record {
    slots = λ c n inside slot. slot_stays c n (inl inside) slot (keeps.slots c n inside slot);
    opened = λ d n opened slot. slot_stays d n (inr opened) slot (keeps.opened d n opened slot);
    seen = keeps.seen;
    common = λ d e k seen key both. common_stays d e k seen (subst (λ (s : _). IsKey s.pages k) (leads_so.leaves.size ∙ leads_so.allowed.confines.size) key) both;
    later = later_stays;
  }
