-- Worlds that an act comes to by making a context, or by taking over what items name.
use Rattle.std.proofs.Common.{◌≡◌, ◌≢◌, inl, inr, ℕ, ◌+◌, ◌≤◌, ◌<◌, Bool, true, false, cond, eqb, Option, None, Some, List, refl, ap, sym, subst, ◌∙◌, arith}
use Rattle.lwc_base.specs.declared.cell.Cell.{Cell}
use Rattle.lwc_base.specs.declared.cell.Cell.TheVariants.{Own, Common}
use Rattle.lwc_base.specs.declared.descriptor.Cap.{Cap}
use Rattle.lwc_base.specs.declared.descriptor.Descriptor.{Descriptor}
use Rattle.lwc_base.specs.declared.descriptor.Descriptor.TheVariants.{Ctx}
use Rattle.lwc_base.specs.declared.item.Item.{Item}
use Rattle.lwc_base.specs.declared.item.Mode.{Mode}
use Rattle.lwc_base.specs.declared.item.Mode.TheVariants.{Copy, Share, Unmap, CopyRead}
use Rattle.lwc_base.specs.Cells.{slot_at, value_at, value_of}
use Rattle.lwc_base.specs.Facts.{AddsContext, SharesValues}
use Rattle.lwc_base.specs.Fresh.{IsFresh, IsNamedContext}
use Rattle.lwc_base.specs.Modes.{IsKey, mode, mode_or_copy}
use Rattle.lwc_base.specs.Overlay.{overlaid_cell, overlay, with_overlay}
use Rattle.lwc_base.specs.Sharing.{clone_context, cloned_cell, cloned_context, needs_group, share}
use Rattle.lwc_base.specs.Sound.{HasItsGroups}
use Rattle.lwc_base.specs.World.{World, Context, context, group, is_live, next_context}
use Rattle.lwc_types.specs.declared.key.TheConstants.{SLOTS}
use Rattle.lwc_types.specs.declared.counters.Counters.{Counters}
use Rattle.lwc_types.specs.declared.key.Key.{Key}
use Rattle.lwc_types.specs.declared.key.Key.TheVariants.{Page, Slot}
use Rattle.lwc_types.specs.declared.name.Name.{Name}
use Rattle.lwc_types.specs.declared.regs.Regs.{Regs}
use Rattle.lwc_types.specs.declared.right.Right.{Right}
use Rattle.confinement.proofs.Decide.{same_then, value_same, name_or_not}
use Rattle.confinement.proofs.Stages.{Confines, Had, Allowance, Stage, context_on}
use Rattle.lwc_base.proofs.Clones.{clone-keeps_apart}
use Rattle.lwc_base.proofs.Facts.{changes}
use Rattle.lwc_base.proofs.Rights.{rights-share}
use Rattle.lwc_base.proofs.Sharing.{group-same, share-cell, share-entry, share-saved, value_at-share}

module _ (r : Allowance) (w : World) (groups : HasItsGroups w) (fresh : IsFresh w) where
  -- a live context has been named
  named_live : (e : Name) → is_live w e ≡ true → IsNamedContext w.next e
  named_live e live = fresh.contexts e live

  -- a context that has been named is no later next one
  pub named_old : (u : World) → Confines r w u → (job : ℕ) (e : Name) → IsNamedContext w.next e → e ≢ next_context u job
  named_old u was job e named same =
      let later : (w.next e.job).contexts ≤ (u.next e.job).contexts = was.counted e.job in
      let job_is : e.job ≡ job = ap (λ (n : Name). n.job) same in
      let k_is : e.k ≡ (u.next job).contexts = ap (λ (n : Name). n.k) same in
      let there : (u.next e.job).contexts ≡ (u.next job).contexts = ap (λ j. (u.next j).contexts) job_is in
      absurd (omega (arith, named, later, k_is, there))

  -- a context is added, with capabilities in its slots that may be left
  module _ (u : World) (was : Confines r w u) (job : ℕ) (x : Context) (v : World) (adds : AddsContext u job x v)
      (had : (d : Name) (n : ℕ) (cap : Cap) → n < SLOTS → value_of u (Slot n) (x.cell (Slot n)) ≡ Ctx d cap → r.capability d cap) where
    same_groups : (g : _) → group v g ≡ group u g
    same_groups g = group-same u v g adds.groups

    other_same : (e : Name) → is_live w e ≡ true → context v e ≡ context u e
    other_same e live = adds.others e (named_old u was job e (named_live e live))

    more_contexts : (j : ℕ) (b : Bool) → (w.next j).contexts ≤ (cond b (record (u.next j) { contexts = (u.next j).contexts + 1 }) (u.next j)).contexts
    more_contexts j true = omega (arith, was.counted j)
    more_contexts j false = was.counted j

    cap_added : (e d : Name) (n : ℕ) (cap : Cap) → is_live v e ≡ true → n < SLOTS → slot_at v e n ≡ Ctx d cap → Had r w e n d cap
    unfolding value_at
    cap_added e d n cap live slot is = elim (name_or_not e (next_context u job)) [
      | inl same ↦
          let here : context v e ≡ x = ap (context v) same ∙ adds.added in
          let read : value_of v (Slot n) (x.cell (Slot n)) ≡ Ctx d cap = ap (λ (y : Context). value_of v (Slot n) (y.cell (Slot n))) (sym here) ∙ is in
          inr (had d n cap slot (sym (by_cell (x.cell (Slot n))) ∙ read))
      | inr other ↦
          was.capabilities e d n cap (sym (adds.still_live e other) ∙ live) slot
          (sym (value_same u v e (Slot n) (ap (λ (y : Context). y.cell (Slot n)) (adds.others e other)) same_groups) ∙ is)
    ]
      where
        by_cell : (y : Cell Descriptor) → value_of v (Slot n) y ≡ value_of u (Slot n) y
        by_cell (Own value) = refl
        by_cell (Common g) = ap (λ z. z.value (Slot n)) (same_groups g)

    pub add_on : Confines r w v
    add_on = record {
      cells = λ e k here key. same_then _ _ _ (ap (λ (y : Context). y.cell k) (other_same e here)) (was.cells e k here key);
      rights = λ e p here key. same_then _ _ _ (ap (λ (y : Context). y.right p) (other_same e here)) (was.rights e p here key);
      values = λ e k here key. same_then _ _ _ (value_same u v e k (ap (λ (y : Context). y.cell k) (other_same e here)) same_groups) (was.values e k here key);
      entries = λ e here. ap (λ (y : Context). y.entry) (other_same e here) ∙ was.entries e here;
      saved = λ e s here. same_then _ _ _ (ap (λ (y : Context). y.saved s) (other_same e here)) (was.saved e s here);
      capabilities = cap_added;
      live = λ e live named. was.live e (sym (adds.still_live e (named_old u was job e named)) ∙ live) named;
      stays = λ e here. adds.still_live e (named_old u was job e (named_live e here)) ∙ was.stays e here;
      counted = λ j. subst (λ (next : ℕ → Counters). (w.next j).contexts ≤ (next j).contexts) (sym adds.next) (more_contexts j (eqb j job));
      size = adds.size ∙ was.size;
    }

  -- values of a context are shared, where the keys of mode share may be changed
  module _ (c : Name) (job : ℕ) (items : List Item) (live : is_live w c ≡ true) (allowed : (k : Key) → IsKey w.size.pages k → mode_or_copy items k ≡ Share → r.change c k) where
    abbrev s : World
    s = share w c job items

    shares : SharesValues w c job items s
    shares = changes.shared w c job items

    counts_by : (j : ℕ) (b : Bool) → needs_group w c items ≡ b → (w.next j).contexts ≤ (s.next j).contexts
    counts_by j true needs = subst (λ (next : ℕ → Counters). (w.next j).contexts ≤ (next j).contexts) (sym (shares.next needs)) (by_job (eqb j job))
      where
        by_job : (b : Bool) → (w.next j).contexts ≤ (cond b (record (w.next j) { groups = (w.next j).groups + 1 }) (w.next j)).contexts
        by_job true = omega arith
        by_job false = omega arith
    counts_by j false none = subst (λ (v : World). (w.next j).contexts ≤ (v.next j).contexts) (sym (shares.none none)) (omega arith)

    pub share_on : Confines r w s
    share_on = record {
      cells = λ e k here key. elim (share-cell w c job items e k) [
        | inl still ↦ inl still
        | inr moves ↦ inr (subst (λ (n : Name). r.change n k) (sym moves.0) (allowed k key moves.1))
      ];
      rights = λ e p here key. inl (ap (λ (f : ℕ → Right). f p) (rights-share w c job items e));
      values = λ e k here key. inl (value_at-share w c job items fresh e k);
      entries = λ e here. share-entry w c job items e;
      saved = λ e t here. inl (share-saved w c job items e t);
      capabilities = λ e d n cap here slot is. inl (sym (value_at-share w c job items fresh e (Slot n)) ∙ is);
      live = λ e here named. sym (shares.live e) ∙ here;
      stays = λ e here. shares.live e ∙ here;
      counted = λ j. counts_by j (needs_group w c items) refl;
      size = shares.size;
    }

    -- what is under a slot of a clone or an overlay was under the same one of the context
    cloned_cap : (m : Mode) (d : Name) (n : ℕ) (cap : Cap) → value_of s (Slot n) (cloned_cell s c (Slot n) m) ≡ Ctx d cap → slot_at w c n ≡ Ctx d cap
    unfolding value_at
    cloned_cap Copy d n cap is = sym (value_at-share w c job items fresh c (Slot n)) ∙ is
    cloned_cap Share d n cap is = sym (value_at-share w c job items fresh c (Slot n)) ∙ is
    cloned_cap Unmap d n cap is = absurd cc
    cloned_cap CopyRead d n cap is = sym (value_at-share w c job items fresh c (Slot n)) ∙ is

    -- a clone is made by whom the context's capabilities may be left
    module _ (entry : Regs) (has_groups : HasItsGroups w) (from : (d : Name) (n : ℕ) (cap : Cap) → n < SLOTS → slot_at w c n ≡ Ctx d cap → r.capability d cap) where
      new_caps : (d : Name) (n : ℕ) (cap : Cap) → n < SLOTS → value_of s (Slot n) ((cloned_context s c items entry).cell (Slot n)) ≡ Ctx d cap → r.capability d cap
      unfolding cloned_context
      new_caps d n cap slot is = from d n cap slot (cloned_cap (mode_or_copy items (Slot n)) d n cap is)

      pub clone_on : Stage r w (clone_context w c job items entry)
      clone_on = record {
        confines = add_on s share_on job (cloned_context s c items entry) (clone_context w c job items entry) (changes.cloned w c job items entry) new_caps;
        apart = clone-keeps_apart w (clone_context w c job items entry) c (next_context w job) items
            (record { job = job; entry = entry; fresh = fresh; groups = has_groups; live = live; named = refl; made = refl });
      }

    -- what items name is taken over by a context of which each key may be changed, by whom the capabilities in named slots may be left
    module _ (to : Name) (taker : is_live w to ≡ true) (each : (k : Key) → r.change to k)
        (from : (d : Name) (n : ℕ) (cap : Cap) (m : Mode) → n < SLOTS → mode items (Slot n) ≡ Some m → slot_at w c n ≡ Ctx d cap → r.capability d cap) where
      taken_cap : (o : Option Mode) (d : Name) (n : ℕ) (cap : Cap) → n < SLOTS → mode items (Slot n) ≡ o → value_of s (Slot n) (overlaid_cell s c (Slot n) o ((context s to).cell (Slot n))) ≡ Ctx d cap →
          Had r w to n d cap
      unfolding value_at
      taken_cap None d n cap slot named is = share_on.capabilities to d n cap (share_on.stays to taker) slot is
      taken_cap (Some m) d n cap slot named is = inr (from d n cap m slot named (cloned_cap m d n cap is))

      pub overlay_on : Confines r w (overlay w to c job items)
      overlay_on =
          context_on r w groups s share_on to (with_overlay s c items) (overlay w to c job items) (changes.overlaid w to c job items) taker
          (record {
            cell = λ k key. inr (each k);
            right = λ p key. inr (each (Page p));
            entry = refl;
            saved = λ t. inl refl;
            capability = λ d n cap slot is. taken_cap (mode items (Slot n)) d n cap slot refl is;
          })
