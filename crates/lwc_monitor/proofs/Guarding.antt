-- The traps after a call, and what is kept true of them.
use Rattle.std.proofs.Common.{◌≡◌, ◌≢◌, ◌∙◌, ℕ, refl, sym, ap, subst, Bool, true, false, cond, eqb, ◌&&◌, ◌||◌, Option, Some, None, [], ◌∷◌}
use Rattle.std.proofs.lemmas.Bool.{eqb-true, false≢true}
use Rattle.std.specs.Prelude.{is_none, is_some, not, slice_index, unwrap_or}
use Rattle.std.specs.FinMap as fm
use Rattle.std.specs.Ordering.{eq_by_cmp}
use Rattle.std.specs.declared.cmp.Ordering.TheVariants.{Equal}
use Rattle.access_cap.specs.Kinds.{has_kinds}
use Rattle.guest_call.proofs.Targets.{target_links}
use Rattle.guest_call.specs.Guest.{descriptor_for, link_of}
use Rattle.kernel_core.specs.Machine.{Environment}
use Rattle.kernel_core.specs.declared.thread.Thread.{Thread}
use Rattle.lwc_base.proofs.Caps.{some_below}
use Rattle.lwc_base.proofs.Reaped.{any_value}
use Rattle.lwc_base.specs.Refusals.{first_refusal}
use Rattle.lwc_base.specs.Summaries.{is_empty}
use Rattle.lwc_base.specs.Capabilities.{empty_cap}
use Rattle.lwc_base.specs.Life.{HasItsContexts}
use Rattle.lwc_base.specs.World.{World, context, is_live}
use Rattle.lwc_base.specs.declared.descriptor.Cap.{Cap}
use Rattle.lwc_base.specs.declared.cell.Cell.{Cell}
use Rattle.lwc_base.specs.declared.cell.Cell.TheVariants.{Common, Own}
use Rattle.lwc_base.specs.declared.descriptor.Descriptor.{Descriptor}
use Rattle.lwc_types.proofs.Orders.{cases_name, name-itself, name_cmp-IsAntisymmetric, name_cmp-total, other_name}
use Rattle.lwc_types.specs.Names.{name_cmp}
use Rattle.lwc_types.specs.declared.key.TheConstants.{SLOTS}
use Rattle.lwc_types.specs.declared.key.Key.TheVariants.{Slot}
use Rattle.lwc_types.specs.declared.name.Name.{Name}
use Rattle.lwc_types.specs.declared.refusal.Refusal.TheVariants.{BadFd, NotCovered, WrongKind}
use Rattle.lwc_types.specs.declared.regs.Regs.{Regs}
use Rattle.lwc_monitor.specs.Calls.{by_monitor, calls_under, trapped_by, traps_after_call}
use Rattle.lwc_monitor.specs.Guards.{AreGuarded, HasOwnSlots, LeavesToMonitors}
use Rattle.lwc_monitor.specs.Traps.{Traps, has_common_slot, is_common, is_monitor, is_trapped, trap_rows}
use Rattle.lwc_monitor.specs.declared.numbers.TheConstants.{LW_TRAP}
use Rattle.lwc_monitor.specs.declared.trapping.TrapRefusal.{TrapRefusal}
use Rattle.lwc_monitor.specs.declared.trapping.TrapRefusal.TheVariants.{NotFresh, Plain, Trapped}
use Rattle.lwc_overlay.specs.Named.{link}

-- what is true of traps and a world, but for whether the trapped contexts live
pub record AreSafe (traps : Traps) (w : World) : Type 0 where
  pub own : (d m : Name) → fm.get traps d ≡ Some m → HasOwnSlots w d
  pub free : (d m : Name) → fm.get traps d ≡ Some m → is_trapped traps m ≡ false

-- a context without a common slot has its own
pub owns-slots : (w : World) (d : Name) → has_common_slot w d ≡ false → HasOwnSlots w d
unfolding has_common_slot
owns-slots w d none n within = by ((context w d).cell (Slot n)) refl
  where
    by : (cell : Cell Descriptor) → (context w d).cell (Slot n) ≡ cell → (value : Descriptor) × (cell ≡ Own value)
    by (Own value) is = (value, refl)
    by (Common g) is = absurd (false≢true (sym none ∙ some_below (λ k. is_common ((context w d).cell (Slot k))) SLOTS n within (ap is_common is)))

-- what is known where no row holds
pub record IsFreshTrap (traps : Traps) (w : World) (c d : Name) : Type 0 where
  pub new : is_trapped traps d ≡ false
  pub other : eq_by_cmp name_cmp d c ≡ false
  pub own : has_common_slot w d ≡ false
  pub monitors : is_monitor traps d ≡ false

rows-none : (a b c d e f g : Bool) → first_refusal ((a, Plain BadFd) ∷ (b, Plain WrongKind) ∷ (c, Plain NotCovered) ∷ (d, Trapped) ∷ (e || f || g, NotFresh) ∷ []) ≡ None →
    (d ≡ false) × (e ≡ false) × (f ≡ false) × (g ≡ false)
rows-none true b c d e f g none = cc
rows-none false true c d e f g none = cc
rows-none false false true d e f g none = cc
rows-none false false false true e f g none = cc
rows-none false false false false true f g none = cc
rows-none false false false false false true g none = cc
rows-none false false false false false false true none = cc
rows-none false false false false false false false none = (refl, refl, refl, refl)

pub fresh-trap : (traps : Traps) (w : World) (c : Name) (regs : Regs) → first_refusal (trap_rows traps w c regs) ≡ None → IsFreshTrap traps w c (link w c regs).0
unfolding trap_rows
fresh-trap traps w c regs none =
    let l = link w c regs in
    let x = descriptor_for w c (slice_index regs.r 1) in
    let facts = rows-none (is_empty x) (is_none (link_of x)) (not (has_kinds w.size.pages l.1 7)) (is_trapped traps l.0) (eq_by_cmp name_cmp l.0 c) (has_common_slot w l.0) (is_monitor traps l.0) none in
    record { new = facts.0; other = facts.1; own = facts.2; monitors = facts.3 }

inserted-get : (traps : Traps) (d c q : Name) → fm.get (fm.insert traps d c) q ≡ cond (eq_by_cmp name_cmp q d) (Some c) (fm.get traps q)
inserted-get traps d c q = fm.get-insert name_cmp-total traps d c q

-- one more fresh context is trapped by one that is not trapped
pub safe-insert : (traps : Traps) (w : World) (c d : Name) → AreSafe traps w → is_trapped traps c ≡ false → IsFreshTrap traps w c d → AreSafe (fm.insert traps d c) w
safe-insert traps w c d safe free fresh = record { own = λ q m is. (each q m is).0; free = λ q m is. (each q m is).1 }
  where
    still : (m : Name) → m ≢ d → is_trapped traps m ≡ false → is_trapped (fm.insert traps d c) m ≡ false
    still m other untrapped = ap is_some (inserted-get traps d c m ∙ ap (λ b. cond b (Some c) (fm.get traps m)) (other_name m d other)) ∙ untrapped

    caller : c ≢ d
    caller = λ same. false≢true (sym fresh.other ∙ subst (λ (n : Name). eq_by_cmp name_cmp d n ≡ true) (sym same) (name-itself d))

    each : (q m : Name) → fm.get (fm.insert traps d c) q ≡ Some m → HasOwnSlots w q × (is_trapped (fm.insert traps d c) m ≡ false)
    each q m is = cases_name q d
        (λ same.
        let at : Some c ≡ Some m = sym (inserted-get traps d c q ∙ ap (λ b. cond b (Some c) (fm.get traps q)) (subst (λ (n : Name). eq_by_cmp name_cmp n d ≡ true) (sym same) (name-itself d))) ∙ is in
        let ours : c ≡ m = cc in (
          subst (HasOwnSlots w) (sym same) (owns-slots w d fresh.own),
          subst (λ (n : Name). is_trapped (fm.insert traps d c) n ≡ false) ours (still c caller free),
        ))
        (λ other.
        let was : fm.get traps q ≡ Some m = sym (inserted-get traps d c q ∙ ap (λ b. cond b (Some c) (fm.get traps q)) (other_name q d other)) ∙ is in
        let apart : m ≢ d = λ same. false≢true (sym fresh.monitors ∙ any_value (eq_by_cmp name_cmp d) traps q m was (subst (λ (n : Name). eq_by_cmp name_cmp d n ≡ true) (sym same) (name-itself d))) in
        (safe.own q m was, still m apart (safe.free q m was)))

module _ (traps : Traps) (t : ℕ) (e : Environment) (x : Thread) (guarded : AreGuarded traps e.world) where
  safe-now : AreSafe traps e.world
  safe-now = record { own = guarded.own; free = guarded.free }

  safe-left : (v : World) → LeavesToMonitors traps x.context e.world v → AreSafe traps v
  safe-left v leaves = record { own = leaves.own; free = guarded.free }

  trapping-safe : is_trapped traps x.context ≡ false → (first : Option TrapRefusal) → first_refusal (trap_rows traps e.world x.context x.regs) ≡ first → AreSafe (trapped_by traps e.world x.context x.regs first) e.world
  trapping-safe free (Some refusal) is = safe-now
  trapping-safe free None is = safe-insert traps e.world x.context (link e.world x.context x.regs).0 safe-now free (fresh-trap traps e.world x.context x.regs is)

  -- the traps after the call that traps, in the world that it leaves
  by_found : (o : Option Name) → fm.get traps x.context ≡ o → LeavesToMonitors traps x.context e.world (by_monitor traps o LW_TRAP t e x).environment.world →
      AreSafe (cond (not (is_some o)) (trapped_by traps e.world x.context x.regs (first_refusal (trap_rows traps e.world x.context x.regs))) traps) (by_monitor traps o LW_TRAP t e x).environment.world
  by_found (Some m) is leaves = safe-left _ leaves
  by_found None is leaves = trapping-safe (ap is_some is) _ refl

  by_number : (number : ℕ) (b : Bool) → eqb number LW_TRAP ≡ b → LeavesToMonitors traps x.context e.world (calls_under traps number t e x).environment.world →
      AreSafe (cond (b && not (is_trapped traps x.context)) (trapped_by traps e.world x.context x.regs (first_refusal (trap_rows traps e.world x.context x.regs))) traps) (calls_under traps number t e x).environment.world
  unfolding calls_under
  by_number number false is leaves = safe-left _ leaves
  by_number number true is leaves =
      let here : number ≡ LW_TRAP = eqb-true number LW_TRAP is in
      subst (λ n. LeavesToMonitors traps x.context e.world (by_monitor traps (fm.get traps x.context) n t e x).environment.world →
      AreSafe (cond (not (is_trapped traps x.context)) (trapped_by traps e.world x.context x.regs (first_refusal (trap_rows traps e.world x.context x.regs))) traps) (by_monitor traps (fm.get traps x.context) n t e x).environment.world)
      (sym here) (by_found (fm.get traps x.context) refl) leaves

  -- the traps after a call are safe in the world that it leaves
  pub call-safe : (number : ℕ) → LeavesToMonitors traps x.context e.world (calls_under traps number t e x).environment.world →
      AreSafe (traps_after_call traps e.world x (Some number)) (calls_under traps number t e x).environment.world
  call-safe number leaves = by_number number (eqb number LW_TRAP) refl leaves

  pub other-safe : (v : World) → LeavesToMonitors traps x.context e.world v → AreSafe traps v
  other-safe v leaves = safe-left v leaves

-- the contexts that are trapped after a call live before it
module _ (traps : Traps) (w : World) (lives : (d m : Name) → fm.get traps d ≡ Some m → is_live w d ≡ true) (c : Name) (regs : Regs) (whole : HasItsContexts w) (here : is_live w c ≡ true) where
  link-lives : first_refusal (trap_rows traps w c regs) ≡ None → is_live w (link w c regs).0 ≡ true
  unfolding trap_rows link
  link-lives none =
      by (link_of (descriptor_for w c (slice_index regs.r 1))) refl
    where
      by : (o : Option (Name × Cap)) → link_of (descriptor_for w c (slice_index regs.r 1)) ≡ o → is_live w (unwrap_or o (c, empty_cap)).0 ≡ true
      by None is = here
      by (Some l) is = whole.live c l.0 here (target_links w c (slice_index regs.r 1) l is)

  trapping-live : (first : Option TrapRefusal) → first_refusal (trap_rows traps w c regs) ≡ first → (d m : Name) → fm.get (trapped_by traps w c regs first) d ≡ Some m → is_live w d ≡ true
  trapping-live (Some refusal) is d m found = lives d m found
  trapping-live None is d m found = cases_name d (link w c regs).0
      (λ same. subst (λ (n : Name). is_live w n ≡ true) (sym same) (link-lives is))
      (λ other. lives d m (sym (inserted-get traps (link w c regs).0 c d ∙ ap (λ b. cond b (Some c) (fm.get traps d)) (other_name d (link w c regs).0 other)) ∙ found))

  by_test : (b : Bool) (d m : Name) → fm.get (cond b (trapped_by traps w c regs (first_refusal (trap_rows traps w c regs))) traps) d ≡ Some m → is_live w d ≡ true
  by_test true d m found = trapping-live _ refl d m found
  by_test false d m found = lives d m found

pub trapped-live : (traps : Traps) (w : World) (x : Thread) (o : Option ℕ) → ((d m : Name) → fm.get traps d ≡ Some m → is_live w d ≡ true) → HasItsContexts w → is_live w x.context ≡ true → (d m : Name) → fm.get (traps_after_call traps w x o) d ≡ Some m → is_live w d ≡ true
trapped-live traps w x None lives whole here d m found = lives d m found
trapped-live traps w x (Some number) lives whole here d m found = by_test traps w lives x.context x.regs whole here _ d m found

alike-here : (keep : Name → Bool) (q y : Name) → name_cmp q y ≡ Equal → keep y ≡ keep q
alike-here keep q y same = ap keep (sym (name_cmp-IsAntisymmetric q y same))

-- rows of some names, by what is kept of them
module _ {X : Type 0} where
  pub retained-get : (traps : fm.FinMap name_cmp X) (keep : Name → Bool) (q : Name) → fm.get (fm.retain_keys traps keep) q ≡ cond (keep q) (fm.get traps q) None
  retained-get traps keep q = fm.get-retain_keys traps keep q (alike-here keep q)

  -- the traps that are kept
  pub kept-trap : (traps : fm.FinMap name_cmp X) (keep : Name → Bool) (d : Name) (m : X) → fm.get (fm.retain_keys traps keep) d ≡ Some m → (keep d ≡ true) × (fm.get traps d ≡ Some m)
  kept-trap traps keep d m is = by (keep d) (sym (retained-get traps keep d) ∙ is)
    where
      by : (b : Bool) → cond b (fm.get traps d) None ≡ Some m → (b ≡ true) × (fm.get traps d ≡ Some m)
      by true got = (refl, got)
      by false got = cc

  cond-none : (b : Bool) → ◌≡◌ {A = Option X} (cond b None None) None
  cond-none true = refl
  cond-none false = refl

  -- where all are kept nothing changes
  pub all-kept : (traps : fm.FinMap name_cmp X) (keep : Name → Bool) → ((d : Name) (m : X) → fm.get traps d ≡ Some m → keep d ≡ true) → fm.retain_keys traps keep ≡ traps
  all-kept traps keep all = fm.same_map name_cmp-total name_cmp-IsAntisymmetric _ _ (λ q. retained-get traps keep q ∙ by q (fm.get traps q) refl)
    where
      by : (q : Name) (o : Option X) → fm.get traps q ≡ o → cond (keep q) o None ≡ o
      by q None is = cond-none (keep q)
      by q (Some m) is = ap (λ b. cond b (Some m) None) (all q m is)

-- fewer are trapped
pub kept-untrapped : (traps : Traps) (keep : Name → Bool) (d : Name) → is_trapped traps d ≡ false → is_trapped (fm.retain_keys traps keep) d ≡ false
kept-untrapped traps keep d free = by (keep d) (retained-get traps keep d)
  where
    by : (b : Bool) → fm.get (fm.retain_keys traps keep) d ≡ cond b (fm.get traps d) None → is_trapped (fm.retain_keys traps keep) d ≡ false
    by true got = ap is_some got ∙ free
    by false got = ap is_some got
