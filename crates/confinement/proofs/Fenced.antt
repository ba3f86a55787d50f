-- Steps inside a fence, one after another, and the fence of a closed context.
use Rattle.std.proofs.Common.{◌≡◌, ◌≢◌, ◌⊎◌, inl, inr, ℕ, ◌≤◌, ◌<◌, ◌==◌, ◌||◌, ◌&&◌, Bool, true, false, not, List, [], ◌∷◌, refl, ap, sym, subst, ◌∙◌, length, arith}
use Rattle.std.specs.Ordering.{eq_by_cmp}
use Rattle.std.specs.Prelude.{nat_le}
use Rattle.std.proofs.lemmas.Bool.Decides.{nat_tests}
use Rattle.kernel_core.specs.Kernel.{CanOpen}
use Rattle.kernel_core.specs.Machine.{Machine}
use Rattle.kernel_core.specs.Ready.{IsReady}
use Rattle.kernel_core.specs.Runs.{run}
use Rattle.kernel_core.specs.Start.{Inputs}
use Rattle.kernel_core.specs.Step.{step}
use Rattle.kernel_core.specs.declared.thread.Thread.{Thread}
use Rattle.lwc_base.proofs.Common.{group_of_cell}
use Rattle.lwc_base.proofs.Puts.{live_of_common}
use Rattle.lwc_base.specs.declared.cell.Cell.{Cell}
use Rattle.lwc_base.specs.declared.cell.Cell.TheVariants.{Own, Common}
use Rattle.lwc_base.specs.declared.descriptor.Cap.{Cap}
use Rattle.lwc_base.specs.declared.descriptor.Descriptor.{Descriptor}
use Rattle.lwc_base.specs.declared.descriptor.Descriptor.TheVariants.{Console, Ctx, Empty, File, Reply, Request}
use Rattle.lwc_base.specs.Cells.{slot_at, value_at}
use Rattle.lwc_base.specs.Clones.{HaveInCommon}
use Rattle.lwc_base.specs.Fresh.{IsNamedContext}
use Rattle.lwc_base.specs.Modes.{IsKey}
use Rattle.lwc_base.specs.World.{World, context, is_live}
use Rattle.lwc_types.proofs.Orders.{name-itself, other_name, same_name}
use Rattle.lwc_types.specs.declared.key.TheConstants.{SLOTS}
use Rattle.lwc_types.specs.declared.key.Key.{Key}
use Rattle.lwc_types.specs.declared.key.Key.TheVariants.{Page, Slot}
use Rattle.lwc_types.specs.declared.name.Name.{Name}
use Rattle.lwc_types.specs.Names.{name_cmp}
use Rattle.confinement.proofs.Decide.{name_or_not}
use Rattle.confinement.proofs.Fencing.{dead_empty, dead_slot, keeps_away, keeps_to, leaves_outside, mute_keeps, silent}
use Rattle.confinement.proofs.Snapshots.{IsReached, as_made, leads_at, left_out, lived, reached_next, ready_at}
use Rattle.confinement.specs.Closed.{IsClosed, IsOfJob, IsOrIsNew, LeavesOthers, StayIn}
use Rattle.confinement.specs.Fences.{Fence, fence_of, is_one_cell, IsInsideOrSeen, IsMute, KeepsTo, LeavesOutside, MayBeInside, StayInside, StayInsideOrAway, StaysAway, StaysInside}
use Rattle.confinement.proofs.Confining.{confined, ready_thread}
use Rattle.confinement.proofs.Left.{empty_lacks}
use Rattle.confinement.specs.May.{IsGiven, MakesCall, regs_at, world_of}
use Rattle.confinement.specs.Snapshots.{IsUntouched, Makes}
use Rattle.kernel_core.specs.declared.calling.TheConstants.{LW_SWITCH}
use Rattle.lwc_base.proofs.Common.{value_at-cell}
use Rattle.lwc_base.specs.Capabilities.{empty_cap, has_key}
use Rattle.lwc_base.specs.Modes.{mode_or_copy}
use Rattle.lwc_base.specs.declared.item.Mode.TheVariants.{Unmap}
use Rattle.lwc_create.specs.Create as create
use Rattle.lwc_syscall.specs.Plain.{is_written}

module _ (inputs : Inputs) (can : CanOpen inputs) where
  -- a context that lives before some steps and after them lives after the first
  lives_between : (t : ℕ) (ts : List ℕ) (m : Machine) → IsReached inputs m → (c : Name) → is_live (world_of m) c ≡ true → is_live (world_of (run (step m t) ts)) c ≡ true → is_live (world_of (step m t)) c ≡ true
  lives_between t ts m reached c live after =
      let led = leads_at inputs can m t reached in
      let named : IsNamedContext (world_of m).next c = (ready_at inputs can m reached).sound.fresh.contexts c live in
      let counted : ((world_of m).next c.job).contexts ≤ ((world_of (step m t)).next c.job).contexts =
      subst (λ (next : _). ((world_of m).next c.job).contexts ≤ (next c.job).contexts) (sym led.leaves.next) (led.allowed.confines.counted c.job) in
      lived inputs can ts (step m t) (reached_next inputs m t reached) c (omega (arith, named, counted)) after

  -- steps inside a fence leave what is outside, and keep to it
  pub fenced : (f : Fence) (ts : List ℕ) (m : Machine) → IsReached inputs m → KeepsTo f m → StayInside f m ts → LeavesOutside f (world_of m) (world_of (run m ts)) × KeepsTo f (run m ts)
  fenced f [] m reached keeps stay = (
    record {
      cells = λ e k both key outside shut. refl;
      rights = λ e p both key outside shut. refl;
      values = λ e k both key outside unseen. refl;
      entries = λ e both. refl;
      saved = λ e s both outside. refl;
    },
    keeps,
  )
  fenced f (t ∷ ts) m reached keeps stay =
      let ready = ready_at inputs can m reached in
      let first = leaves_outside inputs (length reached.steps) m t ready f keeps stay.0 in
      let rest = fenced f ts (step m t) (reached_next inputs m t reached) (keeps_to inputs (length reached.steps) m t ready f keeps stay.0) stay.1 in
      let led = leads_at inputs can m t reached in
      let size : (world_of (step m t)).size ≡ (world_of m).size = led.leaves.size ∙ led.allowed.confines.size in
      let key_at : (k : Key) → IsKey (world_of m).size.pages k → IsKey (world_of (step m t)).size.pages k = λ k key. subst (λ (s : _). IsKey s.pages k) (sym size) key in
      let mid = lives_between t ts m reached in (
        record {
          cells = λ e k both key outside shut. let live = mid e both.0 both.1 in rest.0.cells e k (live, both.1) (key_at k key) outside shut ∙ first.cells e k (both.0, live) key outside shut;
          rights = λ e p both key outside shut. let live = mid e both.0 both.1 in rest.0.rights e p (live, both.1) (key_at (Page p) key) outside shut ∙ first.rights e p (both.0, live) key outside shut;
          values = λ e k both key outside unseen. let live = mid e both.0 both.1 in rest.0.values e k (live, both.1) (key_at k key) outside unseen ∙ first.values e k (both.0, live) key outside unseen;
          entries = λ e both. let live = mid e both.0 both.1 in rest.0.entries e (live, both.1) ∙ first.entries e (both.0, live);
          saved = λ e s both outside. let live = mid e both.0 both.1 in rest.0.saved e s (live, both.1) outside ∙ first.saved e s (both.0, live) outside;
        },
        rest.1,
      )

  -- and so do steps of which each is made inside or stays away
  pub kept_to : (f : Fence) (ts : List ℕ) (m : Machine) → IsReached inputs m → KeepsTo f m → StayInsideOrAway f m ts → KeepsTo f (run m ts)
  kept_to f [] m reached keeps stay = keeps
  kept_to f (t ∷ ts) m reached keeps stay = kept_to f ts (step m t) (reached_next inputs m t reached) (by_side stay.0) stay.1
    where
      by_side : StaysInside f m t ⊎ StaysAway f m t → KeepsTo f (step m t)
      by_side (inl inside) = keeps_to inputs (length reached.steps) m t (ready_at inputs can m reached) f keeps inside
      by_side (inr away) = keeps_away inputs (length reached.steps) m t (ready_at inputs can m reached) f keeps away

  -- and where nothing inside can be written, nothing is
  pub fenced_silent : (f : Fence) (ts : List ℕ) (m : Machine) → IsReached inputs m → KeepsTo f m → IsMute f (world_of m) → StayInside f m ts → (run m ts).environment.channels ≡ m.environment.channels
  fenced_silent f [] m reached keeps mute stay = refl
  fenced_silent f (t ∷ ts) m reached keeps mute stay =
      let ready = ready_at inputs can m reached in
      fenced_silent f ts (step m t) (reached_next inputs m t reached) (keeps_to inputs (length reached.steps) m t ready f keeps stay.0) (mute_keeps inputs (length reached.steps) m t ready f keeps stay.0 mute) stay.1
      ∙ silent inputs (length reached.steps) m t ready f keeps stay.0 mute

-- the fence of a context: inside are it and what does not live, nothing is opened, and what it has in common may be seen to change
abbrev pub closed_fence : World → Name → Fence
closed_fence w c = record {
  inside = λ d. eq_by_cmp name_cmp d c || not (is_live w d);
  opened = λ d k. false;
  seen = λ d k. is_one_cell ((context w c).cell k) ((context w d).cell k);
}

module _ (w : World) (c : Name) where
  is_inside : (d : Name) → IsOrIsNew w c d → (closed_fence w c).inside d ≡ true
  is_inside d (inl same) = let one = name-itself c in grind arith
  is_inside d (inr dead) = by_test (eq_by_cmp name_cmp d c)
    where
      by_test : (b : Bool) → b || not (is_live w d) ≡ true
      by_test true = refl
      by_test false = ap not dead

  inside_is : (d : Name) → (closed_fence w c).inside d ≡ true → IsOrIsNew w c d
  inside_is d inside = by_test (eq_by_cmp name_cmp d c) (is_live w d) refl refl inside
    where
      by_test : (a b : Bool) → eq_by_cmp name_cmp d c ≡ a → is_live w d ≡ b → a || not b ≡ true → IsOrIsNew w c d
      by_test true b same live is = inl (same_name d c same)
      by_test false true other live is = absurd cc
      by_test false false other dead is = inr dead

  pub outside_is : (d : Name) → is_live w d ≡ true → d ≢ c → (closed_fence w c).inside d ≡ false
  outside_is d live other = grind (arith, other_name d c other)

  is_seen : (d : Name) (k : Key) → HaveInCommon w c d k → (closed_fence w c).seen d k ≡ true
  is_seen d k both = let one = name-itself both.group in grind (arith, both.first, both.second)

pub one_cell : {A : Type 0} (x y : Cell A) → is_one_cell x y ≡ true → (g : Name) × (x ≡ Common g) × (y ≡ Common g)
one_cell (Common g) (Common h) is = (g, refl, ap Common (sym (same_name g h is)))
one_cell (Common g) (Own y) is = absurd cc
one_cell (Own x) y is = absurd cc

module _ (inputs : Inputs) (steps : ℕ) (m : Machine) (ready : IsReady inputs steps m) (c : Name) (closed : IsClosed (world_of m) c) where
  abbrev w : World
  w = world_of m

  abbrev f : Fence
  f = closed_fence w c

  seen_is : (d : Name) (k : Key) → f.seen d k ≡ true → HaveInCommon w c d k
  seen_is d k seen =
      let one = one_cell ((context w c).cell k) ((context w d).cell k) seen in
      record { group = one.0; live = group_of_cell w ready.sound.groups c k one.0 one.1; first = one.1; second = one.2 }

  no_both : {b : Bool} → b ≡ true → b ≡ false → ⊥
  no_both first second = let both : true ≡ false = sym first ∙ second in cc

  own_slot : (n : ℕ) → n < SLOTS → (value : Descriptor) → slot_at w c n ≡ value → MayBeInside f value
  own_slot n slot (Ctx d cap) is = elim (name_or_not d c) [
    | inl same ↦ inl (is_inside w c d (inl same))
    | inr other ↦ inr (λ k key has. absurd (no_both has (closed.shut n d cap k slot is other key)))
  ]
  own_slot n slot Empty is = tt
  own_slot n slot Console is = tt
  own_slot n slot (File a b) is = tt
  own_slot n slot (Request a b) is = tt
  own_slot n slot (Reply a) is = tt

  slot_of : (d : Name) (n : ℕ) → n < SLOTS → IsOrIsNew w c d → MayBeInside f (slot_at w d n)
  slot_of d n slot (inl same) = subst (λ (e : Name). MayBeInside f (slot_at w e n)) (sym same) (own_slot n slot (slot_at w c n) refl)
  slot_of d n slot (inr dead) = dead_slot w f d n dead

  seen_common : (d e : Name) (k : Key) → IsInsideOrSeen f d k → HaveInCommon w d e k → IsInsideOrSeen f e k
  seen_common d e k (inl inside) both = elim (inside_is w c d inside) [
    | inl same ↦ inr (is_seen w c e k (subst (λ (n : Name). HaveInCommon w n e k) same both))
    | inr dead ↦ absurd (no_both (live_of_common w d k both.group both.first) dead)
  ]
  seen_common d e k (inr seen) both =
      let one = seen_is d k seen in
      let groups : Common one.group ≡ Common both.group = sym one.second ∙ both.first in
      let group : one.group ≡ both.group = cc in
      inr (is_seen w c e k (record { group = one.group; live = one.live; first = one.first; second = both.second ∙ ap Common (sym group) }))

  not_named : (d : Name) → (w.next d.job).contexts ≤ d.k → is_live w d ≡ false
  not_named d more =
      elim (is_live w d) as (λ b. is_live w d ≡ b → b ≡ false) [
        | false ↦ λ dead. refl
        | true ↦ λ live. absurd (let named = ready.sound.fresh.contexts d live in omega (arith, named, more))
      ] refl

  pub keeps_closed : KeepsTo f m
  keeps_closed = record {
    slots = λ d n inside slot. slot_of d n slot (inside_is w c d inside);
    opened = λ d n opened slot. absurd (let no : false ≡ true = opened in cc);
    seen = λ d k opened. absurd (let no : false ≡ true = opened in cc);
    common = λ d e k seen key both. seen_common d e k seen both;
    later = λ t x k found runs inside more. is_inside w c (record { job = x.job; k = k }) (inr (not_named (record { job = x.job; k = k }) more));
  }

  -- steps that stay in the context are made inside its fence
  pub stays_closed : (ts : List ℕ) (k : Machine) → StayIn w c k ts → StayInside f k ts
  stays_closed [] k stay = tt
  stays_closed (t ∷ ts) k stay = (
    record {
      here = λ x found. let at = stay.0.here x found in (at.0, is_inside w c x.context at.1);
      there = λ x d cap calls given. is_inside w c d (stay.0.there x d cap calls given);
    },
    stays_closed ts (step k t) stay.1,
  )

  pub mute_closed : ((n : ℕ) → n < SLOTS → is_written (slot_at w c n) ≡ false) → IsMute f w
  mute_closed mute d n (inr opened) slot = absurd (let no : false ≡ true = opened in cc)
  mute_closed mute d n (inl inside) slot = elim (inside_is w c d inside) [
    | inl same ↦ subst (λ (e : Name). is_written (slot_at w e n) ≡ false) (sym same) (mute n slot)
    | inr dead ↦ ap is_written (dead_empty w d n dead)
  ]

  pub leaves_others : (v : World) → LeavesOutside f w v → LeavesOthers w v c
  leaves_others v leaves = record {
    cells = λ e k both other key. leaves.cells e k both key (outside_is w c e both.0 other) refl;
    rights = λ e p both other key. leaves.rights e p both key (outside_is w c e both.0 other) refl;
    values = λ e k both other key.
        elim (f.seen e k) as (λ b. f.seen e k ≡ b → (value_at v e k ≡ value_at w e k) ⊎ HaveInCommon w c e k) [
          | true ↦ λ seen. inr (seen_is e k seen)
          | false ↦ λ unseen. inl (leaves.values e k both key (outside_is w c e both.0 other) unseen)
        ] refl;
    entries = leaves.entries;
    saved = λ e s both other. leaves.saved e s both (outside_is w c e both.0 other);
  }

-- a closed context keeps to its fence for the job of the threads in it
module _ (inputs : Inputs) (steps : ℕ) (m : Machine) (ready : IsReady inputs steps m) (c : Name) (job : ℕ) (closed : IsClosed (world_of m) c) (of_job : IsOfJob m c job) where
  abbrev u : World
  u = world_of m

  abbrev h : Fence
  h = fence_of u c job

  itself_in : (d : Name) → d ≡ c → h.inside d ≡ true
  itself_in d same = let one = name-itself c in grind arith

  later_in : (k : ℕ) → (u.next job).contexts ≤ k → h.inside (record { job = job; k = k }) ≡ true
  later_in k more = by_test (eq_by_cmp name_cmp (record { job = job; k = k }) c)
    where
      by_test : (b : Bool) → b || ((job == job) && nat_le (u.next job).contexts k) ≡ true
      by_test true = refl
      by_test false = grind (arith, nat_tests)

  in_or_dead : (d : Name) → h.inside d ≡ true → IsOrIsNew u c d
  in_or_dead d inside = by_test (eq_by_cmp name_cmp d c) refl inside
    where
      by_test : (b : Bool) → eq_by_cmp name_cmp d c ≡ b → b || ((d.job == job) && nat_le (u.next job).contexts d.k) ≡ true → IsOrIsNew u c d
      by_test true same is = inl (same_name d c same)
      by_test false other is =
          let at : d.job ≡ job = grind (arith, nat_tests) in
          let more : (u.next job).contexts ≤ d.k = grind (arith, nat_tests) in
          inr (not_named inputs steps m ready c closed d (subst (λ (j : ℕ). (u.next j).contexts ≤ d.k) (sym at) more))

  its_slot : (n : ℕ) → n < SLOTS → (value : Descriptor) → slot_at u c n ≡ value → MayBeInside h value
  its_slot n slot (Ctx d cap) is = elim (name_or_not d c) [
    | inl same ↦ inl (itself_in d same)
    | inr other ↦ inr (λ k key has. absurd (no_both inputs steps m ready c closed has (closed.shut n d cap k slot is other key)))
  ]
  its_slot n slot Empty is = tt
  its_slot n slot Console is = tt
  its_slot n slot (File a b) is = tt
  its_slot n slot (Request a b) is = tt
  its_slot n slot (Reply a) is = tt

  any_slot : (d : Name) (n : ℕ) → n < SLOTS → IsOrIsNew u c d → MayBeInside h (slot_at u d n)
  any_slot d n slot (inl same) = subst (λ (e : Name). MayBeInside h (slot_at u e n)) (sym same) (its_slot n slot (slot_at u c n) refl)
  any_slot d n slot (inr dead) = dead_slot u h d n dead

  common_in : (d e : Name) (k : Key) → IsInsideOrSeen h d k → HaveInCommon u d e k → IsInsideOrSeen h e k
  common_in d e k (inl inside) both = elim (in_or_dead d inside) [
    | inl same ↦ inr (is_seen u c e k (subst (λ (n : Name). HaveInCommon u n e k) same both))
    | inr dead ↦ absurd (no_both inputs steps m ready c closed (live_of_common u d k both.group both.first) dead)
  ]
  common_in d e k (inr seen) both =
      let one = seen_is inputs steps m ready c closed d k seen in
      let groups : Common one.group ≡ Common both.group = sym one.second ∙ both.first in
      let group : one.group ≡ both.group = cc in
      inr (is_seen u c e k (record { group = one.group; live = one.live; first = one.first; second = both.second ∙ ap Common (sym group) }))

  pub keeps_fence : KeepsTo h m
  keeps_fence = record {
    slots = λ d n inside slot. any_slot d n slot (in_or_dead d inside);
    opened = λ d n opened slot. absurd (let no : false ≡ true = opened in cc);
    seen = λ d k opened. absurd (let no : false ≡ true = opened in cc);
    common = λ d e k seen key both. common_in d e k seen both;
    later = λ t x k found runs inside more. elim (in_or_dead x.context inside) [
      | inl same ↦
          let job_is : x.job ≡ job = of_job t x found runs same in
          subst (λ (j : ℕ). h.inside (record { job = j; k = k }) ≡ true) (sym job_is) (later_in k (subst (λ (j : ℕ). (u.next j).contexts ≤ k) job_is more))
      | inr dead ↦ absurd (no_both inputs steps m ready c closed (ready_thread inputs steps t m x ready found).live dead)
    ];
  }

module _ (inputs : Inputs) (can : CanOpen inputs) where
  pub closed_fenced : (m : Machine) → IsReached inputs m → (c : Name) (job : ℕ) → IsClosed (world_of m) c → IsOfJob m c job → KeepsTo (fence_of (world_of m) c job) m
  closed_fenced m reached c job closed of_job = keeps_fence inputs (length reached.steps) m (ready_at inputs can m reached) c job closed of_job

  pub closed_leaves : (ts : List ℕ) (m : Machine) → IsReached inputs m → (c : Name) → IsClosed (world_of m) c → StayIn (world_of m) c m ts → LeavesOthers (world_of m) (world_of (run m ts)) c
  closed_leaves ts m reached c closed stay =
      let ready = ready_at inputs can m reached in
      leaves_others inputs (length reached.steps) m ready c closed (world_of (run m ts))
      (fenced inputs can (closed_fence (world_of m) c) ts m reached (keeps_closed inputs (length reached.steps) m ready c closed) (stays_closed inputs (length reached.steps) m ready c closed ts m stay)).0

  pub closed_silent : (ts : List ℕ) (m : Machine) → IsReached inputs m → (c : Name) → IsClosed (world_of m) c → ((n : ℕ) → n < SLOTS → is_written (slot_at (world_of m) c n) ≡ false) → StayIn (world_of m) c m ts →
      (run m ts).environment.channels ≡ m.environment.channels
  closed_silent ts m reached c closed mute stay =
      let ready = ready_at inputs can m reached in
      fenced_silent inputs can (closed_fence (world_of m) c) ts m reached (keeps_closed inputs (length reached.steps) m ready c closed) (mute_closed inputs (length reached.steps) m ready c closed mute)
      (stays_closed inputs (length reached.steps) m ready c closed ts m stay)

  -- an accepted switch into a closed context leaves it closed
  pub entered_closed : (m : Machine) → IsReached inputs m → (t : ℕ) (x : Thread) (c : Name) (cap : Cap) → IsClosed (world_of m) c → MakesCall m t x LW_SWITCH → IsGiven m x c cap →
      is_live (world_of (step m t)) c ≡ true → IsClosed (world_of (step m t)) c
  entered_closed m reached t x c cap closed calls given live =
      let ready = ready_at inputs can m reached in
      let enters = (confined inputs (length reached.steps) m t ready).switch x c cap calls given in
      record {
        live = live;
        shut = λ n d held k slot is other key. elim (enters.values c (Slot n) (closed.live, live) slot) [
          | inl same ↦ closed.shut n d held k slot (sym same ∙ is) other key
          | inr new ↦
              let at : n ≡ enters.slot = let both : Slot n ≡ Slot enters.slot = new.1 in cc in
              let read : slot_at (world_of (step m t)) c n ≡ Ctx x.context empty_cap = subst (λ (i : ℕ). slot_at (world_of (step m t)) c i ≡ Ctx x.context empty_cap) (sym at) (enters.descriptor (closed.live, live)) in
              let both : Ctx d held ≡ Ctx x.context empty_cap = sym is ∙ read in
              let one : held ≡ empty_cap = cc in
              ap (λ (q : Cap). has_key q k) one ∙ empty_lacks k
        ];
      }

  -- a context that is made without slots is closed until it is touched
  pub made_closed : (m : Machine) → IsReached inputs m → (t : ℕ) (c : Name) → (made : Makes m t c) → (since : List ℕ) →
      ((n : ℕ) → n < SLOTS → mode_or_copy (create.items_of (world_of m) made.thread.context (regs_at m made.thread)) (Slot n) ≡ Unmap) → IsUntouched (step m t) since c → IsClosed (world_of (run (step m t) since)) c
  made_closed m reached t c made since none untouched =
      let same = as_made inputs can m reached t c made since untouched in
      record {
        live = untouched.after;
        shut = λ n d held k slot is other key.
            let cell : (context (world_of (run (step m t) since)) c).cell (Slot n) ≡ Own Empty = same.cells (Slot n) slot ∙ left_out inputs can m reached t c made untouched.before (Slot n) (none n slot) in
            let no : Ctx d held ≡ Empty = sym is ∙ value_at-cell (world_of (run (step m t) since)) c (Slot n) (Own Empty) cell in
            absurd cc;
      }
