-- Each step of a machine that is ready is confined.
use Rattle.std.proofs.Common.{◌≡◌, ◌⊎◌, inl, inr, ℕ, true, false, cond, Option, None, Some, List, refl, ap, sym, subst, ◌∙◌, length}
use Rattle.std.specs.Prelude.{nat_lt, slice_get, slice_set}
use Rattle.std.proofs.lemmas.List.Elements.{All-get_or}
use Rattle.std.proofs.lemmas.Option.{slice_get_within, get_or_from_slice_get}
use Rattle.kernel_core.specs.Machine.{Environment, Machine, Serve}
use Rattle.kernel_core.specs.Ready.{IsReady, IsReadyThread}
use Rattle.kernel_core.specs.Refused.{advanced_thread}
use Rattle.kernel_core.specs.Start.{Inputs}
use Rattle.kernel_core.specs.Step.{AfterStep, after_outcome, after_thread, begin_next, guest_calls, only, roots, step, step_by, thread_outcome, unchanged, with_status, woken}
use Rattle.kernel_core.specs.declared.calling.TheConstants.{LW_OVERLAY, LW_SWITCH}
use Rattle.kernel_core.specs.declared.thread.Thread.{Thread}
use Rattle.lwc_base.specs.declared.cell.Cell.TheVariants.{Common, Own}
use Rattle.lwc_base.proofs.Lookups.{changes-change_group}
use Rattle.lwc_base.proofs.Puts.{after_put_at}
use Rattle.lwc_base.specs.declared.descriptor.Cap.{Cap}
use Rattle.lwc_base.specs.declared.descriptor.Descriptor.{Descriptor}
use Rattle.lwc_base.specs.declared.descriptor.Descriptor.TheVariants.{Console, Ctx, Empty, File, Reply, Request}
use Rattle.lwc_base.specs.Capabilities.{empty_cap, has_key}
use Rattle.lwc_base.specs.Cells.{put_slot, slot_at, value_at}
use Rattle.lwc_base.specs.Clones.{AreApart}
use Rattle.lwc_base.specs.Life as life
use Rattle.lwc_base.specs.Modes.{IsKey}
use Rattle.lwc_base.specs.Rights.{right_at}
use Rattle.lwc_base.specs.Saved.{save}
use Rattle.lwc_base.specs.Summaries.{is_empty}
use Rattle.lwc_base.specs.Slots.{lowest_empty}
use Rattle.lwc_base.specs.World.{World, context, is_live}
use Rattle.lwc_types.specs.declared.fault.ThreadStatus.{ThreadStatus}
use Rattle.lwc_types.specs.declared.fault.ThreadStatus.TheVariants.{Idle, Running, Done, Faulted}
use Rattle.lwc_types.specs.declared.key.Key.{Key}
use Rattle.lwc_types.specs.declared.key.Key.TheVariants.{Page, Slot}
use Rattle.lwc_types.specs.declared.name.Name.{Name}
use Rattle.lwc_types.specs.declared.right.Right.{Right}
use Rattle.guest_call.specs.Changes.{ChangesSaved}
use Rattle.guest_call.specs.Guest.{with_answer}
use Rattle.lwc_overlay.specs.OverlayCall.{IsTaken}
use Rattle.confinement.proofs.Acts.{IsAllowed, allowance, begins, same}
use Rattle.confinement.proofs.ReadOnly.{left_same}
use Rattle.confinement.proofs.Decide.{same_then, apart_or_one, key_or_not, name_or_not}
use Rattle.confinement.proofs.Stages.{Allowance, none}
use Rattle.confinement.proofs.Steps.{Went, at_overlay, at_switch, call_world, outcome_of, running_world, step_reaps}
use Rattle.confinement.proofs.Taking.{giver_stays}
use Rattle.confinement.proofs.Traces.{MayHaveFrom, OfItself, traces_old}
use Rattle.confinement.proofs.Voices.{voices_same}
use Rattle.confinement.specs.Confined.{Enters, IsConfined, IsLiveInBoth, MayCopy}
use Rattle.confinement.specs.May.{IsGiven, MakesCall, MayReplace, MayShare, regs_at, world_of}
use Rattle.confinement.specs.One.{IsOneValue}
use Rattle.guest_call.proofs.Changes.{putting, saving}
use Rattle.lwc_base.proofs.Common.{put-apart, put-itself, put-other_cell, put-other_key}
use Rattle.lwc_base.proofs.Reaped.{context-kept, live-was_live, reap-stays, value_at-kept}
use Rattle.lwc_base.proofs.Sound.{sound-save}
use Rattle.lwc_overlay.proofs.Rest.{uncovered_leaves}

-- a world has what is live in it of another one
pub record Leaves (v after : World) : Type 0 where
  pub live : (e : Name) → is_live after e ≡ true → is_live v e ≡ true
  pub contexts : (e : Name) → is_live after e ≡ true → context after e ≡ context v e
  pub values : (e : Name) (k : Key) → IsKey v.size.pages k → is_live after e ≡ true → value_at after e k ≡ value_at v e k
  pub next : after.next ≡ v.next
  pub size : after.size ≡ v.size

leaves_all : (w : World) → Leaves w w
leaves_all w = record { live = λ e is. is; contexts = λ e is. refl; values = λ e k key is. refl; next = refl; size = refl }

pub leaves_reaped : (v : World) (names : List Name) → Leaves v (life.reap v names)
leaves_reaped v names = record {
  live = live-was_live v names;
  contexts = context-kept v names;
  values = value_at-kept v names;
  next = (reap-stays v names).1;
  size = (reap-stays v names).0;
}

-- a step comes to a world of what might be changed
pub record Leads (m : Machine) (t : ℕ) : Type 0 where
  pub acted : World
  pub allowed : IsAllowed m t acted
  pub leaves : Leaves acted (world_of (step m t))

-- the thread of a number is ready
pub ready_thread : (inputs : Inputs) (steps t : ℕ) (m : Machine) (x : Thread) → IsReady inputs steps m → slice_get m.threads t ≡ Some x → IsReadyThread (world_of m) x
ready_thread inputs steps t m x ready found =
    subst (λ (y : Thread). IsReadyThread (world_of m) y) (get_or_from_slice_get m.threads t x x found)
    (All-get_or (IsReadyThread (world_of m)) m.threads t x (slice_get_within m.threads t x found) ready.threads)

module _ (inputs : Inputs) (steps : ℕ) (m : Machine) (t : ℕ) (ready : IsReady inputs steps m) where
  abbrev w : World
  w = world_of m

  abbrev r : Allowance
  r = allowance m t

  nothing : (after : World) → after ≡ w → world_of (step m t) ≡ after → Leads m t
  nothing after is reached = record {
    acted = w;
    allowed = record {
      confines = (none r w ready.sound.groups).confines;
      traces = traces_old (MayHaveFrom m t) OfItself w ready.sound.fresh w (λ a k g is. is);
      voices = inr (voices_same (MayCopy m t) w w (λ e n here. refl));
      born = λ e here. inl here;
      read_only = left_same w (MayShare m t) (MayReplace m t);
    };
    leaves = subst (λ (v : World). Leaves w v) (sym (reached ∙ is)) (leaves_all w);
  }

  module _ (x : Thread) (found : slice_get m.threads t ≡ Some x) where
    here : IsReadyThread w x
    here = ready_thread inputs steps t m x ready found

    -- the step of a thread of a status
    at_status : (s : ThreadStatus) → x.status ≡ s → step m t ≡ after_outcome m t (thread_outcome guest_calls t m.environment m.serve m.text x s)
    unfolding step_by
    at_status s is = ap (after_thread guest_calls m t) found ∙ ap (λ (s : ThreadStatus). after_outcome m t (thread_outcome guest_calls t m.environment m.serve m.text x s)) is

    running : x.status ≡ Running → Leads m t
    running is =
        let reaps = step_reaps m t x found is in record {
          acted = (outcome_of m t x).environment.world;
          allowed = running_world m t x found ready.sound ready.named ready.files here.live is;
          leaves = subst (λ (v : World). Leaves (outcome_of m t x).environment.world v) (sym reaps.1) (leaves_reaped (outcome_of m t x).environment.world reaps.0);
        }

    -- what is left where a step that begins or finds no request has made a world
    after_reap : (after : AfterStep) → IsAllowed m t after.environment.world → step m t ≡ after_outcome m t (Some after) → Leads m t
    after_reap after allowed is =
        let names : List Name = roots (slice_set m.threads t after.thread) after.serve in record {
          acted = after.environment.world;
          allowed = allowed;
          leaves = subst (λ (v : World). Leaves after.environment.world v) (sym (ap world_of is)) (leaves_reaped after.environment.world names);
        }

    unchanged_world : IsAllowed m t w
    unchanged_world = same m t x found ready.sound here.live

    idle_by : x.status ≡ Idle → (o : Option Serve) → m.serve ≡ o → step m t ≡ after_outcome m t (Some (woken t o m.environment x)) → Leads m t
    idle_by waits None _ is = after_reap (woken t None m.environment x) unchanged_world is
    idle_by waits (Some s) some is =
        elim (nat_lt s.next (length m.environment.channels.requests)) as (λ b.
        step m t ≡ after_outcome m t (Some (cond b (begin_next t s m.environment) (only (Some s) (unchanged m.environment (with_status x (Done 0)))))) → Leads m t) [
          | true ↦ λ is. after_reap (begin_next t s m.environment) (begins m t x found ready.sound here.live waits s.next) is
          | false ↦ λ is. after_reap (only (Some s) (unchanged m.environment (with_status x (Done 0)))) unchanged_world is
        ] is

    idle : x.status ≡ Idle → Leads m t
    idle is = idle_by is m.serve refl (at_status Idle is)

    by_status : (s : ThreadStatus) → x.status ≡ s → Leads m t
    by_status Running is = running is
    by_status Idle is = idle is
    by_status (Done code) is = nothing w refl (ap world_of (at_status (Done code) is))
    by_status (Faulted f) is = nothing w refl (ap world_of (at_status (Faulted f) is))

  by_thread : (o : Option Thread) → slice_get m.threads t ≡ o → Leads m t
  unfolding step_by
  by_thread None none = nothing w refl (ap (λ (o : Option Thread). world_of (after_thread guest_calls m t o)) none)
  by_thread (Some x) found = by_status x found x.status refl

  pub leads : Leads m t
  leads = by_thread (slice_get m.threads t) refl

  -- a switch that is accepted
  pub empty_slot : (value : Descriptor) → is_empty value ≡ true → value ≡ Empty
  empty_slot Empty is = refl
  empty_slot Console is = absurd cc
  empty_slot (File f at) is = absurd cc
  empty_slot (Request q at) is = absurd cc
  empty_slot (Reply q) is = absurd cc
  empty_slot (Ctx name cap) is = absurd cc

  module _ (x : Thread) (d : Name) (cap : Cap) (calls : MakesCall m t x LW_SWITCH) (given : IsGiven m x d cap) where
    abbrev after : World
    after = world_of (step m t)

    x_ready : IsReadyThread w x
    x_ready = ready_thread inputs steps t m x ready calls.found

    pub went : Went m t x
    went = at_switch m t x calls.found ready.sound ready.named ready.files x_ready.live calls

    pub target_is : went.0 ≡ d
    target_is = let same : Ctx went.0 went.3.cap ≡ Ctx d cap = sym went.3.had ∙ given in cc

    abbrev pub slot : ℕ
    slot = went.3.slot

    abbrev pub saved : World
    saved = save w x.context t (with_answer (regs_at m x) 0)

    abbrev pub v : World
    v = put_slot saved d slot (Ctx x.context empty_cap)

    reached : Leaves v after
    reached =
        let reaps = step_reaps m t x calls.found calls.running in
        let made : (outcome_of m t x).environment.world ≡ v =
        ap (λ (e : Environment). e.world) (call_world m t x LW_SWITCH calls) ∙ (went.3.made ∙ ap (λ (n : Name). put_slot saved n slot (Ctx x.context empty_cap)) target_is) in
        subst (λ (u : World). Leaves v u) (sym (reaps.1 ∙ ap (λ (u : World). life.reap u reaps.0) made)) (leaves_reaped v reaps.0)

    pub saves : ChangesSaved w saved x.context t
    saves = saving w x.context t (with_answer (regs_at m x) 0)

    target_lives : is_live w d ≡ true
    target_lives = subst (λ (n : Name). is_live w n ≡ true) target_is went.3.live

    pub size_same : v.size ≡ w.size
    size_same = (putting saved d (Slot slot) (Ctx x.context empty_cap)).names.size ∙ saves.names.size

    key_there : (k : Key) → IsKey w.size.pages k → IsKey v.size.pages k
    key_there k key = subst (λ (s : _). IsKey s.pages k) (sym size_same) key

    pub put_there : slot_at v d slot ≡ Ctx x.context empty_cap
    put_there = put-itself saved d (Slot slot) (Ctx x.context empty_cap) (saves.names.live d ∙ target_lives) (sound-save w x.context t _ ready.sound).groups refl

    pub enter_cell : (e : Name) (k : Key) → ((context v e).cell k ≡ (context w e).cell k) ⊎ ((e ≡ d) × (k ≡ Slot slot))
    enter_cell e k = elim (key_or_not k (Slot slot)) [
      | inl key ↦ elim (name_or_not e d) [
        | inl one ↦ inr (one, key)
        | inr two ↦ inl (put-other_cell saved d (Slot slot) (Ctx x.context empty_cap) e k (λ is. absurd (two is)) ∙ saves.cells e k)
      ]
      | inr other ↦ inl (put-other_cell saved d (Slot slot) (Ctx x.context empty_cap) e k (λ is. other) ∙ saves.cells e k)
    ]

    apart_saved : (e : Name) (k : Key) → AreApart w d e k → AreApart saved d e k
    apart_saved e k is = record { differ = is.differ; no_group = λ g one two. is.no_group g (sym (saves.cells d k) ∙ one) (sym (saves.cells e k) ∙ two) }

    enter_value : (e : Name) (k : Key) → (value_at v e k ≡ value_at w e k) ⊎ (IsOneValue w d e k × (k ≡ Slot slot))
    enter_value e k = elim (key_or_not k (Slot slot)) [
      | inl key ↦ elim (apart_or_one w ready.sound.groups d e k) [
        | inl apart ↦ inl (subst (λ (l : Key). value_at v e l ≡ value_at saved e l) (sym key)
            (put-apart saved d (Slot slot) (Ctx x.context empty_cap) e (subst (AreApart saved d e) key (apart_saved e k apart))) ∙ saves.values e k)
        | inr one ↦ inr (one, key)
      ]
      | inr other ↦ inl (put-other_key saved d (Slot slot) (Ctx x.context empty_cap) e k other ∙ saves.values e k)
    ]

    enter_right : (e : Name) (p : ℕ) → right_at v e p ≡ right_at w e p
    enter_right e p =
        ap (λ (f : ℕ → Right). f p) ((putting saved d (Slot slot) (Ctx x.context empty_cap)).rights e) ∙ ap (λ (f : ℕ → Right). f p) (saves.rights e)

    -- where the slot's cell is common it stays so
    pub shared_stays : (g : Name) → (context w d).cell (Slot slot) ≡ Common g → (context v d).cell (Slot slot) ≡ Common g
    shared_stays g is =
        let there : (context saved d).cell (Slot slot) ≡ Common g = saves.cells d (Slot slot) ∙ is in
        after_put_at (λ (u : World). (context u d).cell (Slot slot) ≡ Common g) saved d (Slot slot) (Ctx x.context empty_cap) (λ _ _ _. there)
        (λ old own _. absurd (let no : Own old ≡ Common g = sym own ∙ there in cc))
        (λ h _. ap (λ y. y.cell (Slot slot)) ((changes-change_group saved h _).contexts d) ∙ there)

    pub enters : Enters m (step m t) x d
    enters = record {
      slot = slot;
      within = went.3.within;
      shared = λ g both is. ap (λ y. y.cell (Slot slot)) (reached.contexts d both.1) ∙ shared_stays g is;
      lowest = subst (λ (n : Name). lowest_empty w n ≡ Some slot) target_is went.3.lowest;
      empty = subst (λ (n : Name). slot_at w n slot ≡ Empty) target_is (empty_slot (slot_at w went.0 slot) went.3.empty);
      descriptor = λ both. reached.values d (Slot slot) went.3.within both.1 ∙ put_there;
      cells = λ e k both key. same_then _ _ _ (ap (λ y. y.cell k) (reached.contexts e both.1)) (enter_cell e k);
      rights = λ e p both. ap (λ y. y.right p) (reached.contexts e both.1) ∙ enter_right e p;
      values = λ e k both key. same_then _ _ _ (reached.values e k (key_there k key) both.1) (enter_value e k);
    }

  -- an overlay that is accepted
  module _ (x : Thread) (d : Name) (cap : Cap) (calls : MakesCall m t x LW_OVERLAY) (given : IsGiven m x d cap) (k : Key) where
    y_ready : IsReadyThread w x
    y_ready = ready_thread inputs steps t m x ready calls.found

    taken : IsTaken w (guest_calls LW_OVERLAY t m.environment (advanced_thread m x)).environment.world x.context x.job (regs_at m x)
    taken = at_overlay m t x calls.found ready.sound ready.named ready.files y_ready.live calls

    giver_is : taken.giver ≡ d
    giver_is = let same : Ctx taken.giver taken.cap ≡ Ctx d cap = sym taken.had ∙ given in cc

    acted_is : (outcome_of m t x).environment.world ≡ (guest_calls LW_OVERLAY t m.environment (advanced_thread m x)).environment.world
    acted_is = ap (λ (e : Environment). e.world) (call_world m t x LW_OVERLAY calls)

    stays_there : value_at (outcome_of m t x).environment.world taken.giver k ≡ value_at w taken.giver k
    stays_there =
        ap (λ (u : World). value_at u taken.giver k) acted_is
        ∙ giver_stays w _ x.context taken.giver (regs_at m x)
        (record { job = x.job; fresh = ready.sound.fresh; groups = ready.sound.groups; taker = y_ready.live; giver = taken.live; made = taken.made }) k

    pub giver_keeps : IsLiveInBoth w (world_of (step m t)) d → IsKey (outcome_of m t x).environment.world.size.pages k → value_at (world_of (step m t)) d k ≡ value_at w d k
    giver_keeps both key =
        let reaps = step_reaps m t x calls.found calls.running in
        let left = leaves_reaped (outcome_of m t x).environment.world reaps.0 in
        subst (λ (u : World). is_live u d ≡ true → value_at u d k ≡ value_at w d k) (sym reaps.1)
        (λ live. left.values d k key live ∙ subst (λ (n : Name). value_at (outcome_of m t x).environment.world n k ≡ value_at w n k) giver_is stays_there) both.1

    giver_cap : taken.cap ≡ cap
    giver_cap = let same : Ctx taken.giver taken.cap ≡ Ctx d cap = sym taken.had ∙ given in cc

    pub uncovered_keeps : IsLiveInBoth w (world_of (step m t)) x.context → IsKey w.size.pages k → IsKey (outcome_of m t x).environment.world.size.pages k → has_key cap k ≡ false →
        value_at (world_of (step m t)) x.context k ≡ value_at w x.context k
    uncovered_keeps both key there lacks =
        let reaps = step_reaps m t x calls.found calls.running in
        let left = leaves_reaped (outcome_of m t x).environment.world reaps.0 in
        let acted : value_at (outcome_of m t x).environment.world x.context k ≡ value_at w x.context k =
        ap (λ (u : World). value_at u x.context k) acted_is
        ∙ uncovered_leaves w _ x.context x.job (regs_at m x) ready.sound.fresh ready.sound.groups y_ready.live taken k key (ap (λ (q : Cap). has_key q k) giver_cap ∙ lacks) in
        subst (λ (u : World). is_live u x.context ≡ true → value_at u x.context k ≡ value_at w x.context k) (sym reaps.1) (λ live. left.values x.context k there live ∙ acted) both.1

  acted_size : (x : Thread) → (calls : MakesCall m t x LW_OVERLAY) → (outcome_of m t x).environment.world.size ≡ w.size
  acted_size x calls = (running_world m t x calls.found ready.sound ready.named ready.files (ready_thread inputs steps t m x ready calls.found).live calls.running).confines.size

  same_or : {A P : Type 0} (a b c : A) → a ≡ b → (b ≡ c) ⊎ P → (a ≡ c) ⊎ P
  same_or a b c first (inl second) = inl (first ∙ second)
  same_or a b c first (inr may) = inr may

  pub confined : IsConfined m t (step m t)
  confined =
      let led = leads in
      let key_at : (k : Key) → IsKey w.size.pages k → IsKey led.acted.size.pages k = λ k key. subst (λ (s : _). IsKey s.pages k) (sym led.allowed.confines.size) key in
      record {
        cells = λ e k both key. same_or _ _ _ (ap (λ y. y.cell k) (led.leaves.contexts e both.1)) (led.allowed.confines.cells e k both.0 key);
        values = λ e k both key. same_or _ _ _ (led.leaves.values e k (key_at k key) both.1)
            (elim (led.allowed.confines.values e k both.0 key) [
              | inl still ↦ inl still
              | inr seen ↦ inr (record { changed = seen.0; may = seen.1; one = seen.2 })
            ]);
        entries = λ e both. ap (λ y. y.entry) (led.leaves.contexts e both.1) ∙ led.allowed.confines.entries e both.0;
        saved = λ e s both. same_or _ _ _ (ap (λ y. y.saved s) (led.leaves.contexts e both.1)) (led.allowed.confines.saved e s both.0);
        capabilities = λ e d n cap live slot is.
            led.allowed.confines.capabilities e d n cap (led.leaves.live e live) slot (sym (led.leaves.values e (Slot n) slot live) ∙ is);
        rights = λ e p both key. same_or _ _ _ (ap (λ y. y.right p) (led.leaves.contexts e both.1)) (led.allowed.confines.rights e p both.0 key);
        read_only = λ e p value both key own read. elim (led.allowed.read_only e p value both.0 own read) [
          | inr may ↦ inr may
          | inl left ↦ inl (record {
            right = ap (λ y. y.right p) (led.leaves.contexts e both.1) ∙ left.right;
            cell = elim left.cell [
              | inl same ↦ inl (ap (λ y. y.cell (Page p)) (led.leaves.contexts e both.1) ∙ same)
              | inr common ↦ inr (common.0, ap (λ y. y.cell (Page p)) (led.leaves.contexts e both.1) ∙ common.1, common.2)
            ];
            value = led.leaves.values e (Page p) (key_at (Page p) key) both.1 ∙ left.value;
          })
        ];
        switch = enters;
        overlay = λ x d cap k calls given both key.
            giver_keeps x d cap calls given k both (subst (λ (s : _). IsKey s.pages k) (sym (acted_size x calls)) key);
        uncovered = λ x d cap k calls given both key lacks.
            uncovered_keeps x d cap calls given k both key (subst (λ (s : _). IsKey s.pages k) (sym (acted_size x calls)) key) lacks;
      }
