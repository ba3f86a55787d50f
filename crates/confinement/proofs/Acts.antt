-- The world that each act of a thread comes to.
use Rattle.std.proofs.Common.{◌≡◌, ◌⊎◌, inl, inr, ℕ, ◌+◌, ◌<◌, Bool, true, false, cond, eqb, Some, List, refl, ap, sym, subst, ◌∙◌, arith}
use Rattle.std.specs.Prelude.{is_some, slice_get, slice_index}
use Rattle.access_cap.specs.Kinds.{is_chosen}
use Rattle.kernel_core.specs.Machine.{Machine}
use Rattle.kernel_core.specs.Step.{args_of, three_times}
use Rattle.kernel_core.specs.declared.calling.TheConstants.{LW_CREATE, LW_OVERLAY, LW_RESTRICT, LW_SWITCH, LW_SYSCALL}
use Rattle.kernel_core.specs.declared.thread.Thread.{Thread}
use Rattle.lwc_base.specs.declared.descriptor.Cap.{Cap}
use Rattle.lwc_base.specs.declared.descriptor.Descriptor.TheVariants.{Ctx, Reply, Request}
use Rattle.lwc_base.specs.declared.item.Item.{Item}
use Rattle.lwc_base.specs.declared.item.Mode.TheVariants.{Share}
use Rattle.lwc_base.specs.Capabilities.{empty_cap, full_cap, has_key, restricted}
use Rattle.lwc_base.specs.Cells.{slot_at, value_of}
use Rattle.lwc_base.specs.Channels.{HasItsFiles}
use Rattle.lwc_base.specs.Life.{HasItsContexts}
use Rattle.lwc_base.specs.Modes.{IsKey, kind_of, mode}
use Rattle.lwc_base.specs.Saved.{save}
use Rattle.lwc_base.specs.Sharing.{clone_context, share}
use Rattle.lwc_base.specs.Slots.{lowest_empty}
use Rattle.lwc_base.specs.Sound.{IsSound}
use Rattle.lwc_base.specs.Store.{Done, Piece, store}
use Rattle.lwc_base.specs.World.{World, add_context, is_live, next_context}
use Rattle.lwc_types.specs.declared.key.TheConstants.{SLOTS}
use Rattle.lwc_types.specs.declared.key.Key.{Key}
use Rattle.lwc_types.specs.declared.key.Key.TheVariants.{Page, Slot, Cred}
use Rattle.lwc_types.specs.declared.key.Kind.TheVariants as kinds
use Rattle.lwc_types.specs.declared.name.Name.{Name}
use Rattle.lwc_types.specs.declared.regs.Regs.{Regs}
use Rattle.lwc_create.specs.Create as create
use Rattle.lwc_create.specs.Create.{after_call, no_caller}
use Rattle.lwc_overlay.specs.Named.{items_of}
use Rattle.lwc_overlay.specs.OverlayCall.{IsTaken}
use Rattle.lwc_overlay.specs.RestrictCall.{IsRestriction}
use Rattle.lwc_switch.specs.Switch as switching
use Rattle.guest_call.specs.Guest.{with_answer}
use Rattle.lwc_syscall.specs.Changes.{holder}
use Rattle.lwc_syscall.specs.Plain.{plain, plain_call}
use Rattle.lwc_syscall.specs.Syscall as syscalls
use Rattle.lwc_syscall.specs.Syscall.{inner_args, inner_call, link, mask_in, targets_of}
use Rattle.res_spec.specs.declared.items.SpecCall.TheVariants as call
use Rattle.snapshot_host.specs.Begin.{begin, begun_context}
use Rattle.confinement.proofs.Making.{add_on, clone_on, named_old, overlay_on, share_on}
use Rattle.confinement.proofs.Plainly.{plain_on}
use Rattle.confinement.proofs.ReadOnly.{LeavesToRead, left_added, left_overlaid, left_plain, left_same, left_saved, left_shared, left_slot, left_stored}
use Rattle.confinement.proofs.Stages.{Confines, Allowance, Stage, none, put_on, save_on, store_on}
use Rattle.confinement.proofs.Traces.{Joined, MayHaveFrom, OfItself, Traces, old_plain, old_put, old_saved, old_stored, traces_begun, traces_cloned, traces_old, traces_overlaid, traces_then}
use Rattle.confinement.proofs.Voices.{Voices, plain_voices, same_saved, same_stored, voices_cloned, voices_overlaid, voices_put_on, voices_same}
use Rattle.confinement.specs.Fences.{WithItsMaker, WithTheGiver}
use Rattle.confinement.specs.Confined.{ComesFrom, IsPart, Made, MayCopy, OfTheCaller, Restricted, Stood}
use Rattle.confinement.specs.May.{ByGiving, ByMaking, ByMapping, ByMappingFor, ByTakingOver, IsGiven, MakesCall, MayChange, MayReplace, MayShare, OfItsOwn, OfTheChosen, OfTheGiver, OfTheTarget, regs_at, world_of}
use Rattle.guest_call.proofs.Targets.{in_slot}
use Rattle.lwc_base.proofs.Caps.{covers-all, restricted-has}
use Rattle.confinement.proofs.Decide.{name_or_not}
use Rattle.guest_call.proofs.Changes.{saving}
use Rattle.lwc_base.proofs.Facts.{changes}
use Rattle.lwc_base.proofs.Puts.{takes-after_store}
use Rattle.lwc_base.proofs.Stored.{is_done}
use Rattle.lwc_syscall.proofs.Kept.{numbers-change}
use Rattle.lwc_base.proofs.ItemModes.{mode-shared}
use Rattle.lwc_syscall.proofs.Covered.{holder-covered}
use Rattle.lwc_syscall.proofs.Does.{does-one_thing}
use Rattle.lwc_syscall.proofs.ReadOnly.{plain_keeps}
use Rattle.lwc_types.specs.declared.fault.ThreadStatus.TheVariants.{Idle}
use Rattle.kernel_core.specs.Machine.{home_of}
use Rattle.confinement.specs.Confined.{OutOfItsHome, OutOfItsOwn, OutOfTheChosen, OutOfTheGiver}
use Rattle.lwc_base.specs.Capabilities.{is_named}

-- what a step of a thread may do
abbrev pub allowance : Machine → ℕ → Allowance
allowance m t = record {
  change = MayChange m t;
  saving = λ e s. (s ≡ t) × (x : Thread) × (slice_get m.threads t ≡ Some x) × (x.context ≡ e);
  capability = ComesFrom m t;
}

-- the thread of a number waits for a request
abbrev pub IsIdle : Machine → ℕ → Type 0
IsIdle m t = (x : Thread) × (slice_get m.threads t ≡ Some x) × (x.status ≡ Idle)

-- the step of a thread makes a context by the call for it, or begins a request
abbrev pub IsBorn : Machine → ℕ → Name → Type 0
IsBorn m t e = IsIdle m t ⊎ ((x : Thread) × MakesCall m t x LW_CREATE × (e ≡ next_context (world_of m) x.job))

-- a world that a step of a thread may come to
pub record IsAllowed (m : Machine) (t : ℕ) (v : World) : Type 0 where
  pub confines : Confines (allowance m t) (world_of m) v
  pub traces : Traces (MayHaveFrom m t) (world_of m) v
  pub voices : IsIdle m t ⊎ Voices (MayCopy m t) (world_of m) v
  pub born : (e : Name) → is_live v e ≡ true → (is_live (world_of m) e ≡ true) ⊎ IsBorn m t e
  pub read_only : LeavesToRead (world_of m) v (MayShare m t) (MayReplace m t)

module _ (m : Machine) (t : ℕ) (x : Thread) (found : slice_get m.threads t ≡ Some x) (sound : IsSound (world_of m)) (live : is_live (world_of m) x.context ≡ true) where
  abbrev w : World
  w = world_of m

  abbrev c : Name
  c = x.context

  abbrev regs : Regs
  regs = regs_at m x

  abbrev r : Allowance
  r = allowance m t

  abbrev Allowed : World → Type 0
  Allowed v = IsAllowed m t v

  abbrev Shares : Name → ℕ → Type 0
  Shares = MayShare m t

  abbrev Replaces : Name → ℕ → Type 0
  Replaces = MayReplace m t

  own : (k : Key) → MayChange m t c k
  own k = OfItsOwn x k found

  own_saving : r.saving c t
  own_saving = (refl, x, found, refl)

  -- a descriptor in one of its slots may be copied
  stood : (d : Name) (n : ℕ) (cap : Cap) → n < SLOTS → slot_at w c n ≡ Ctx d cap → ComesFrom m t d cap
  stood d n cap slot is = Stood c n (OutOfItsOwn x n found) slot is

  start : Stage r w w
  start = none r w sound.groups

  abbrev from : Name → Key → Name → Type 0
  from = MayHaveFrom m t

  itself : (a : Name) (k : Key) → from a k a
  itself a k = OfItself a k

  abbrev copies : Name → ℕ → Type 0
  copies = MayCopy m t

  own_slot : (n : ℕ) → copies c n
  own_slot n = OutOfItsOwn x n found

  pub same : Allowed w
  same = record { confines = start.confines; traces = traces_old from itself w sound.fresh w (λ a k g is. is); voices = inr (voices_same copies w w (λ e n here. refl)); born = λ e here. inl here; read_only = left_same w Shares Replaces }

  pub stored : (piece : Piece) (v : World) → store w c x.job piece ≡ Done v → Allowed v
  stored piece v is = record {
    confines = (store_on r w sound.groups c x.job piece v start live (λ p key. own (Page p)) is).confines;
    traces = traces_old from itself w sound.fresh v (old_stored w v c x.job piece is);
    voices = inr (voices_same copies w v (same_stored w v c x.job piece is));
    born = λ e here. inl (sym ((takes-after_store w c x.job piece).live e) ∙ (ap (λ (u : World). is_live u e) (sym (is_done w c x.job piece v is).after) ∙ here));
    read_only = left_stored w Shares Replaces c x.job piece v is;
  }

  pub created : MakesCall m t x LW_CREATE → (slot : ℕ) → Allowed (create.created w c x.job regs slot)
  created calls slot =
      let items = create.items_of w c regs in
      let entry = after_call regs no_caller in
      let cloned = clone_on r w sound.groups sound.fresh c x.job items live (λ k key shared. own k) entry sound.groups stood in
      record {
        confines =
            (put_on r w sound.groups _ cloned c (Slot slot) (Ctx (next_context w x.job) (full_cap w.size.pages)) live (λ key. own (Slot slot))
            (λ d cap is.
            let name : d ≡ next_context w x.job = cc in
            let full : cap ≡ full_cap w.size.pages = cc in
            Made x calls name full)).confines;
        traces = traces_then from itself w sound.fresh _ _ (traces_cloned from itself w sound.fresh c x.job items entry (λ k named. Joined (next_context w x.job) c k (WithItsMaker x k calls named)))
            (old_put (clone_context w c x.job items entry) c (Slot slot) (Ctx (next_context w x.job) (full_cap w.size.pages)));
        voices = inr (voices_put_on copies w (clone_context w c x.job items entry) (voices_cloned copies w sound.fresh c x.job items entry own_slot) c slot (Ctx (next_context w x.job) (full_cap w.size.pages)) refl);
        born = λ e here. elim (name_or_not e (next_context (share w c x.job items) x.job)) [
          | inl new ↦ inr (inr (x, calls, new ∙ changes.next_shared w c x.job x.job items))
          | inr other ↦ inl (sym ((changes.shared w c x.job items).live e) ∙ (sym ((changes.cloned w c x.job items entry).still_live e other)
              ∙ (sym ((changes.put (clone_context w c x.job items entry) c (Slot slot) (Ctx (next_context w x.job) (full_cap w.size.pages))).live e) ∙ here)))
        ];
        read_only =
            left_slot w Shares Replaces (clone_context w c x.job items entry) c slot (Ctx (next_context w x.job) (full_cap w.size.pages))
            (left_added w Shares Replaces (share w c x.job items) x.job _ (clone_context w c x.job items entry) (changes.cloned w c x.job items entry)
            (λ e here. named_old r w sound.groups sound.fresh (share w c x.job items) (shared_on items) x.job e (sound.fresh.contexts e here))
            (left_shared w Shares Replaces sound.fresh c x.job items (λ p named. ByMaking x p calls named)));
      }
    where
      shared_on : (items : List Item) → Confines r w (share w c x.job items)
      shared_on items = share_on r w sound.groups sound.fresh c x.job items live (λ k key shared. own k)

  pub switched : MakesCall m t x LW_SWITCH → (d : Name) (cap : Cap) → IsGiven m x d cap → is_live w d ≡ true → (slot : ℕ) → lowest_empty w d ≡ Some slot →
      Allowed (switching.switched w c t regs d slot)
  switched calls d cap given there slot lowest = record {
    confines =
        (put_on r w sound.groups _ (save_on r w sound.groups start c t (with_answer regs 0) live own_saving) d (Slot slot) (Ctx c empty_cap) there
        (λ key. OfTheTarget x d cap slot calls given lowest) (λ e other is. let same : e ≡ c = cc in let none : other ≡ empty_cap = cc in OfTheCaller x calls same none)).confines;
    traces = traces_old from itself w sound.fresh _ (λ a k g is. old_saved w c t (with_answer regs 0) a k g (old_put (save w c t (with_answer regs 0)) d (Slot slot) (Ctx c empty_cap) a k g is));
    voices = inr (voices_put_on copies w (save w c t (with_answer regs 0)) (voices_same copies w _ (same_saved w c t (with_answer regs 0))) d slot (Ctx c empty_cap) refl);
    born = λ e here. inl (sym ((saving w c t (with_answer regs 0)).names.live e) ∙ (sym ((changes.put (save w c t (with_answer regs 0)) d (Slot slot) (Ctx c empty_cap)).live e) ∙ here));
    read_only = left_slot w Shares Replaces (save w c t (with_answer regs 0)) d slot (Ctx c empty_cap) (left_saved w Shares Replaces c t (with_answer regs 0));
  }

  pub restricts : MakesCall m t x LW_RESTRICT → (v : World) → IsRestriction w v c regs → Allowed v
  restricts calls v is =
      subst Allowed (sym is.made) (record {
        confines =
            (put_on r w sound.groups w start c (Slot (slice_index regs.r 1)) (Ctx is.giver (restricted is.cap items)) live (λ key. own (Slot (slice_index regs.r 1)))
            (λ d cap same.
            let name : is.giver ≡ d = cc in
            let part : restricted is.cap items ≡ cap = cc in
            Restricted x is.cap calls (is.had ∙ ap (λ (n : Name). Ctx n is.cap) name) (subst (λ (q : Cap). IsPart q is.cap) part less_keys))).confines;
        traces = traces_old from itself w sound.fresh _ (old_put w c (Slot (slice_index regs.r 1)) (Ctx is.giver (restricted is.cap items)));
        voices = inr (voices_put_on copies w w (voices_same copies w w (λ e n here. refl)) c (slice_index regs.r 1) (Ctx is.giver (restricted is.cap items)) refl);
        born = λ e here. inl (sym ((changes.put w c (Slot (slice_index regs.r 1)) (Ctx is.giver (restricted is.cap items))).live e) ∙ here);
        read_only = left_slot w Shares Replaces w c (slice_index regs.r 1) (Ctx is.giver (restricted is.cap items)) (left_same w Shares Replaces);
      })
    where
      items : List Item
      items = items_of w c call.Restrict regs

      less_keys : IsPart (restricted is.cap items) is.cap
      less_keys k key has = let less = restricted-has is.cap items k key in grind arith

  pub overlaid : MakesCall m t x LW_OVERLAY → (v : World) → IsTaken w v c x.job regs → Allowed v
  overlaid calls v is =
      subst Allowed (sym is.made) (record {
        confines =
            (overlay_on r w sound.groups sound.fresh is.giver x.job items is.live
            (λ k key shared.
            let named : mode items k ≡ Some Share = mode-shared items k shared in
            OfTheGiver x is.giver is.cap k calls is.had (covered k key (ap is_some named)) named) c live own
            (λ d n cap how slot named had. Stood is.giver n (OutOfTheGiver x is.giver is.cap n calls is.had (covered (Slot n) slot (ap is_some named))) slot had));
        traces = traces_overlaid from itself w sound.fresh is.giver x.job items c live (λ k key named. Joined c is.giver k (WithTheGiver x is.giver is.cap k calls is.had (covered k key (ap is_some named)) named));
        voices = inr (voices_overlaid copies w sound.fresh sound.groups c is.giver x.job items live is.live
            (λ n how slot named. OutOfTheGiver x is.giver is.cap n calls is.had (covered (Slot n) slot (ap is_some named))));
        born = λ e here. inl (sym ((changes.shared w is.giver x.job items).live e) ∙ (sym ((changes.overlaid w c is.giver x.job items).names.live e) ∙ here));
        read_only = left_overlaid w Shares Replaces sound.fresh c is.giver x.job items (λ p named. ByGiving x is.giver is.cap p calls is.had named) live (λ p how named. ByTakingOver x p how calls named);
      })
    where
      items : List Item
      items = items_of w c call.Overlay regs

      covered : (k : Key) → IsKey w.size.pages k → is_named items k ≡ true → has_key is.cap k ≡ true
      covered = (covers-all w.size.pages is.cap items).0 is.covered

  -- of three contexts that are the caller's
  one_holder : (k : Key) → holder (three_times c) k ≡ c
  one_holder (Page p) = refl
  one_holder (Slot n) = refl
  one_holder Cred = refl

  pub plainly : HasItsContexts w → HasItsFiles m.environment.channels w → (number : ℕ) → MakesCall m t x number →
      Allowed (plain w m.environment.channels (three_times c) x.job (plain_call number) (args_of regs)).world
  plainly named files number calls = record {
    confines =
        plain_on r w sound.groups m.environment.channels (three_times c) x.job
        (record { memory = live; slots = live; cred = live; each = λ k key. subst (λ (n : Name). MayChange m t n k) (sym (one_holder k)) (own k); had = stood }) _ _
        (does-one_thing w m.environment.channels (three_times c) x.job (plain_call number) (args_of regs) named files live);
    traces = traces_old from itself w sound.fresh _ (old_plain w m.environment.channels (three_times c) x.job _ _
        (does-one_thing w m.environment.channels (three_times c) x.job (plain_call number) (args_of regs) named files live));
    voices = inr (plain_voices copies w m.environment.channels (three_times c) x.job (λ n slot. own_slot n) (plain_call number) (args_of regs));
    born = λ e here. inl (sym ((numbers-change w m.environment.channels (three_times c) x.job _ _
        (does-one_thing w m.environment.channels (three_times c) x.job (plain_call number) (args_of regs) named files live)).live e) ∙ here);
    read_only = left_plain w Shares Replaces _ (three_times c) (plain_call number) (args_of regs) (λ p maps. ByMapping x number p calls maps)
        (plain_keeps w m.environment.channels (three_times c) x.job (plain_call number) (args_of regs));
  }

  -- of three contexts that a mask chooses
  chosen_holder : (k : Key) → holder (targets_of w c regs) k ≡ cond (is_chosen (mask_in regs) (kind_of k)) (link w c regs).0 c
  chosen_holder (Page p) = refl
  chosen_holder (Slot n) = refl
  chosen_holder Cred = refl

  module _ (calls : MakesCall m t x LW_SYSCALL) (allowed : syscalls.IsAllowed w c regs) where
    given : IsGiven m x (link w c regs).0 (link w c regs).1
    given = (in_slot w c (slice_index regs.r 1) (link w c regs) allowed.found).1

    by_choice : (k : Key) → IsKey w.size.pages k → (b : Bool) → is_chosen (mask_in regs) (kind_of k) ≡ b → MayChange m t (holder (targets_of w c regs) k) k
    by_choice k key false other = subst (λ (n : Name). MayChange m t n k) (sym (chosen_holder k ∙ ap (λ b. cond b (link w c regs).0 c) other)) (own k)
    by_choice k key true chosen = elim (holder-covered w c regs k allowed key) [
      | inl mine ↦ subst (λ (n : Name). MayChange m t n k) (sym mine) (own k)
      | inr theirs ↦ subst (λ (n : Name). MayChange m t n k) (sym theirs.0) (OfTheChosen x (link w c regs).0 (link w c regs).1 k calls given theirs.1 chosen)
    ]

    copied : (n : ℕ) → n < SLOTS → (b : Bool) → is_chosen (mask_in regs) kinds.Slot ≡ b → (d : Name) (cap : Cap) → slot_at w (targets_of w c regs).slots n ≡ Ctx d cap → ComesFrom m t d cap
    copied n slot false other d cap is = stood d n cap slot (subst (λ (e : Name). slot_at w e n ≡ Ctx d cap) (chosen_holder (Slot n) ∙ ap (λ b. cond b (link w c regs).0 c) other) is)
    copied n slot true chosen d cap is =
        let there : (targets_of w c regs).slots ≡ (link w c regs).0 = chosen_holder (Slot n) ∙ ap (λ b. cond b (link w c regs).0 c) chosen in
        let had : slot_at w (link w c regs).0 n ≡ Ctx d cap = subst (λ (e : Name). slot_at w e n ≡ Ctx d cap) there is in
        elim (holder-covered w c regs (Slot n) allowed slot) [
          | inl mine ↦ stood d n cap slot (subst (λ (e : Name). slot_at w e n ≡ Ctx d cap) mine is)
          | inr theirs ↦ Stood (link w c regs).0 n (OutOfTheChosen x (link w c regs).0 (link w c regs).1 n calls given theirs.1 chosen) slot had
        ]

    -- a slot of the chosen context may be copied
    pub chosen_slot : (n : ℕ) → n < SLOTS → copies (targets_of w c regs).slots n
    chosen_slot n slot = by_kind (is_chosen (mask_in regs) kinds.Slot) refl
      where
        by_kind : (b : Bool) → is_chosen (mask_in regs) kinds.Slot ≡ b → copies (targets_of w c regs).slots n
        by_kind false other = subst (λ (e : Name). copies e n) (sym (chosen_holder (Slot n) ∙ ap (λ b. cond b (link w c regs).0 c) other)) (own_slot n)
        by_kind true chosen = elim (holder-covered w c regs (Slot n) allowed slot) [
          | inl mine ↦ subst (λ (e : Name). copies e n) (sym mine) (own_slot n)
          | inr theirs ↦ subst (λ (e : Name). copies e n) (sym theirs.0) (OutOfTheChosen x (link w c regs).0 (link w c regs).1 n calls given theirs.1 chosen)
        ]

    pub chosen : HasItsContexts w → HasItsFiles m.environment.channels w →
        Allowed (plain w m.environment.channels (targets_of w c regs) x.job (inner_call regs) (inner_args regs)).world
    chosen named files = record {
      confines =
          plain_on r w sound.groups m.environment.channels (targets_of w c regs) x.job
          (record {
            memory = allowed.live kinds.Page;
            slots = allowed.live kinds.Slot;
            cred = allowed.live kinds.Cred;
            each = λ k key. by_choice k key (is_chosen (mask_in regs) (kind_of k)) refl;
            had = λ d n cap slot is. copied n slot (is_chosen (mask_in regs) kinds.Slot) refl d cap is;
          }) _ _
          (does-one_thing w m.environment.channels (targets_of w c regs) x.job (inner_call regs) (inner_args regs) named files (allowed.live kinds.Slot));
      traces = traces_old from itself w sound.fresh _ (old_plain w m.environment.channels (targets_of w c regs) x.job _ _
          (does-one_thing w m.environment.channels (targets_of w c regs) x.job (inner_call regs) (inner_args regs) named files (allowed.live kinds.Slot)));
      voices = inr (plain_voices copies w m.environment.channels (targets_of w c regs) x.job chosen_slot (inner_call regs) (inner_args regs));
      born = λ e here. inl (sym ((numbers-change w m.environment.channels (targets_of w c regs) x.job _ _
          (does-one_thing w m.environment.channels (targets_of w c regs) x.job (inner_call regs) (inner_args regs) named files (allowed.live kinds.Slot))).live e) ∙ here);
      read_only = left_plain w Shares Replaces _ (targets_of w c regs) (inner_call regs) (inner_args regs) (λ p maps. ByMappingFor x p calls maps)
          (plain_keeps w m.environment.channels (targets_of w c regs) x.job (inner_call regs) (inner_args regs));
    }

  -- a request begins in a copy of the thread's home, which is live
  module _ (idle : x.status ≡ Idle) (q : ℕ) where
    begun_cap : (d : Name) (n : ℕ) (cap : Cap) → n < SLOTS → value_of w (Slot n) ((begun_context w (home_of t) q).cell (Slot n)) ≡ Ctx d cap → ComesFrom m t d cap
    unfolding begun_context
    begun_cap d n cap slot is = by_number (eqb n 0) (eqb n 1) is
      where
        by_number : (first second : Bool) → cond first (Request q 0) (cond second (Reply q) (slot_at w (home_of t) n)) ≡ Ctx d cap → ComesFrom m t d cap
        by_number true second has = absurd cc
        by_number false true has = absurd cc
        by_number false false has = Stood (home_of t) n (OutOfItsHome x n found idle) slot has

    pub begins : Allowed (begin w (home_of t) q)
    unfolding begin
    begins = record {
      confines =
          add_on r w sound.groups sound.fresh w start.confines (q + 1) (begun_context w (home_of t) q) (add_context w (q + 1) (begun_context w (home_of t) q))
          (changes.context_added w (q + 1) (begun_context w (home_of t) q)) begun_cap;
      traces = traces_begun from itself w sound.fresh (home_of t) q;
      voices = inl (x, found, idle);
      born = λ e here. inr (inl (x, found, idle));
      read_only = left_added w Shares Replaces w (q + 1) _ _ (changes.context_added w (q + 1) (begun_context w (home_of t) q))
          (λ e here. named_old r w sound.groups sound.fresh w start.confines (q + 1) e (sound.fresh.contexts e here)) (left_same w Shares Replaces);
    }
