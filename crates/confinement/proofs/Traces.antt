-- Where each cell that names a group has it from, in the worlds that acts come to.
use Rattle.std.proofs.Common.{◌≡◌, ◌⊎◌, inl, inr, ℕ, ◌+◌, Bool, true, false, Option, None, Some, List, refl, ap, sym, subst, ◌∙◌, arith}
use Rattle.kernel_core.specs.Machine.{Machine}
use Rattle.lwc_base.specs.declared.cell.Cell.TheVariants.{Own, Common}
use Rattle.lwc_base.specs.declared.item.Item.{Item}
use Rattle.lwc_base.specs.declared.item.Mode.{Mode}
use Rattle.lwc_base.specs.declared.item.Mode.TheVariants.{Copy, Share, Unmap, CopyRead}
use Rattle.lwc_base.specs.Facts.{AddsContext, ChangesContext}
use Rattle.lwc_base.specs.Fresh.{IsFresh}
use Rattle.lwc_base.specs.Mapping.{mapped_or_not, with_pages}
use Rattle.lwc_base.specs.Modes.{IsKey, mode, mode_or_copy}
use Rattle.lwc_base.specs.Overlay.{overlaid_cell, overlay, with_overlay}
use Rattle.lwc_base.specs.Saved.{save}
use Rattle.lwc_base.specs.Sharing.{clone_context, cloned_cell, cloned_context, share}
use Rattle.lwc_base.specs.Sound.{HasItsGroups}
use Rattle.lwc_base.specs.Store.{Done, Piece, after_store, store}
use Rattle.lwc_base.specs.Cells.{put_at}
use Rattle.lwc_base.specs.World.{World, Context, add_context, context, is_live, next_context, next_group}
use Rattle.lwc_types.specs.declared.key.Key.{Key}
use Rattle.lwc_types.specs.declared.key.Key.TheVariants.{Slot, Cred}
use Rattle.lwc_types.specs.declared.name.Name.{Name}
use Rattle.lwc_types.specs.declared.page.PageValue.{PageValue}
use Rattle.lwc_types.specs.declared.regs.Regs.{Regs}
use Rattle.lwc_syscall.specs.Changes.{IsPlainChange, Mapped, Nothing, Read, SlotPut, UidPut, Written}
use Rattle.lwc_base.specs.Channels.{Channels}
use Rattle.lwc_syscall.specs.declared.calls.CallContexts.{CallContexts}
use Rattle.snapshot_host.specs.Begin.{begin, begun_context}
use Rattle.confinement.proofs.Decide.{name_or_not}
use Rattle.confinement.specs.Fences.{MayJoin}
use Rattle.confinement.specs.One.{IsOneValue}
use Rattle.guest_call.proofs.Changes.{saving}
use Rattle.lwc_base.proofs.Clones.{named-before}
use Rattle.lwc_base.proofs.Common.{group_of_cell, names_same-after_store, names_same-put_at}
use Rattle.lwc_base.proofs.Facts.{changes}
use Rattle.lwc_base.proofs.ItemModes.{mode-shared}
use Rattle.lwc_base.proofs.Keys.{on_pages-cases}
use Rattle.lwc_base.proofs.Sharing.{named-not-next}
use Rattle.lwc_types.proofs.Orders.{cases_name}

-- what a context has under a key after a step it may have from itself, or from one with which the step may give it something in common
pub data MayHaveFrom (m : Machine) (t : ℕ) : Name → Key → Name → Type 0 where
  OfItself : (a : Name) (k : Key) → MayHaveFrom m t a k a
  Joined : (a c : Name) (k : Key) → MayJoin m t a k c → MayHaveFrom m t a k c

-- the cell of a context under a key names a group
abbrev pub Names : World → Name → Key → Name → Type 0
Names w a k g = (context w a).cell k ≡ Common g

-- each cell that names a group named it before
abbrev pub NamesOld : World → World → Type 0
NamesOld w v = (a : Name) (k : Key) (g : Name) → Names v a k g → Names w a k g

-- a cell that names a group has it from a cell that named it, or from one whose value moved into the one new group
pub record Traces (from : Name → Key → Name → Type 0) (w v : World) : Type 0 where
  pub sharer : Name
  pub new : Name
  pub unnamed : (a : Name) (k : Key) → Names w a k new → ⊥
  pub trace : (a : Name) (k : Key) (g : Name) → IsKey w.size.pages k → Names v a k g → (c : Name) × from a k c × (Names w c k g ⊎ ((g ≡ new) × (c ≡ sharer)))

-- so what two contexts have in common, two had from which they may have it
pub joined : (from : Name → Key → Name → Type 0) (w v : World) → HasItsGroups w → Traces from w v → (a b : Name) (k : Key) → IsKey w.size.pages k → (g : Name) → Names v a k g → Names v b k g →
    (c : Name) × (d : Name) × from a k c × from b k d × IsOneValue w c d k
joined from w v groups traces a b k key g one two =
    let first = traces.trace a k g key one in
    let second = traces.trace b k g key two in
    (first.0, second.0, first.1, second.1, by_old first.0 second.0 first.2 second.2)
  where
    by_old : (c d : Name) → (Names w c k g ⊎ ((g ≡ traces.new) × (c ≡ traces.sharer))) → (Names w d k g ⊎ ((g ≡ traces.new) × (d ≡ traces.sharer))) → IsOneValue w c d k
    by_old c d (inl one) (inl two) = inr (record { group = g; live = group_of_cell w groups c k g one; first = one; second = two })
    by_old c d (inl one) (inr two) = absurd (traces.unnamed c k (one ∙ ap Common two.0))
    by_old c d (inr one) (inl two) = absurd (traces.unnamed d k (two ∙ ap Common one.0))
    by_old c d (inr one) (inr two) = inl (one.1 ∙ sym two.1)

-- acts that make no cell common
pub old_put : (w : World) (c : Name) (q : Key) (value : _) → NamesOld w (put_at w c q value)
old_put w c q value = (names_same-put_at w c q value).back

pub old_stored : (w v : World) (c : Name) (job : ℕ) (piece : Piece) → store w c job piece ≡ Done v → NamesOld w v
unfolding store
old_stored w v c job piece is a k g names =
    let same : v ≡ after_store w c job piece = grind arith in
    (names_same-after_store w c job piece).back a k g (subst (λ (u : World). Names u a k g) same names)

pub old_saved : (w : World) (c : Name) (t : ℕ) (regs : Regs) → NamesOld w (save w c t regs)
old_saved w c t regs a k g names = sym ((saving w c t regs).cells a k) ∙ names

old_pages : (w : World) (c : Name) (from to : ℕ) (value : Option PageValue) (v : World) → ChangesContext w c (with_pages from to value) v → NamesOld w v
old_pages w c from to value v changes a k g names =
    let back = on_pages-cases from to (Own value) (context w c).cell (λ q x. x ≡ Common g → (context w c).cell q ≡ Common g) (λ p _ is. grind arith) k (λ is. is) in
    grind (arith, cases_name)

pub old_mapped : (w : World) (c : Name) (from to : ℕ) (present : Bool) → NamesOld w (mapped_or_not w c from to present)
old_mapped w c from to true = old_pages w c from to _ _ (changes.mapped w c from to)
old_mapped w c from to false = old_pages w c from to _ _ (changes.unmapped w c from to)

pub old_plain : (w : World) (io : Channels) (targets : CallContexts) (job : ℕ) (v : World) (after : Channels) → IsPlainChange w io targets job v after → NamesOld w v
old_plain w io targets job v after Nothing a k g names = names
old_plain w io targets job v after (SlotPut n value within known) a k g names = old_put w targets.slots (Slot n) value a k g names
old_plain w io targets job v after (UidPut uid) a k g names = old_put w targets.cred Cred uid a k g names
old_plain w io targets job v after (Mapped from to present few) a k g names = old_mapped w targets.memory from to present a k g names
old_plain w io targets job v after (Read u piece n value short is within known) a k g names = old_stored w u targets.memory job piece is a k g (old_put u targets.slots (Slot n) value a k g names)
old_plain w io targets job v after (Written value bytes) a k g names = names

module _ (from : Name → Key → Name → Type 0) (itself : (a : Name) (k : Key) → from a k a) (w : World) (fresh : IsFresh w) where
  pub traces_old : (v : World) → NamesOld w v → Traces from w v
  traces_old v old = record {
    sharer = next_context w 0;
    new = next_group w 0;
    unnamed = λ a k is. named-not-next w a 0 k (next_group w 0) fresh is refl;
    trace = λ a k g key is. (a, itself a k, inl (old a k g is));
  }

  pub traces_then : (u v : World) → Traces from w u → NamesOld u v → Traces from w v
  traces_then u v first old = record { sharer = first.sharer; new = first.new; unnamed = first.unnamed; trace = λ a k g key is. first.trace a k g key (old a k g is) }

  -- a request's context has cells of its own
  pub traces_begun : (home : Name) (q : ℕ) → Traces from w (begin w home q)
  unfolding begin begun_context
  traces_begun home q = traces_old _ old
    where
      adds : AddsContext w (q + 1) (begun_context w home q) (add_context w (q + 1) (begun_context w home q))
      adds = changes.context_added w (q + 1) (begun_context w home q)

      old : NamesOld w (add_context w (q + 1) (begun_context w home q))
      old a k g is = elim (name_or_not a (next_context w (q + 1))) [
        | inl new ↦
            let own : (begun_context w home q).cell k ≡ Common g = ap (λ (x : Context). x.cell k) (sym adds.added) ∙ (ap (λ (n : Name). (context (add_context w (q + 1) (begun_context w home q)) n).cell k) (sym new) ∙ is) in
            absurd cc
        | inr other ↦ ap (λ (x : Context). x.cell k) (sym (adds.others a other)) ∙ is
      ]

  module _ (c : Name) (job : ℕ) (items : List Item) where
    abbrev s : World
    s = share w c job items

    abbrev Traced : Name → Key → Name → Type 0
    Traced a k g = (e : Name) × from a k e × (Names w e k g ⊎ ((g ≡ next_group w job) × (e ≡ c)))

    unnamed : (a : Name) (k : Key) → Names w a k (next_group w job) → ⊥
    unnamed a k is = named-not-next w a job k (next_group w job) fresh is refl

    -- once values are shared
    shared_old : (a : Name) (k : Key) (g : Name) → Names s a k g → Names w a k g ⊎ ((g ≡ next_group w job) × (a ≡ c))
    shared_old a k g is = elim (name_or_not a c) [
      | inl same ↦ elim (name_or_not g (next_group w job)) [
        | inl new ↦ inr (new, same)
        | inr old ↦ inl (named-before w c job items a k g is old)
      ]
      | inr other ↦ inl (ap (λ (x : Context). x.cell k) (sym ((changes.shared w c job items).others a other)) ∙ is)
    ]

    -- under a mode a cell of a clone names what the shared one does
    by_mode : (mode : Mode) (k : Key) (g : Name) → cloned_cell s c k mode ≡ Common g → (mode ≡ Share) × Names s c k g
    by_mode Copy k g is = absurd cc
    by_mode Share k g is = (refl, is)
    by_mode Unmap k g is = absurd cc
    by_mode CopyRead k g is = absurd cc

    pub traces_cloned : (entry : Regs) → ((k : Key) → mode items k ≡ Some Share → from (next_context w job) k c) → Traces from w (clone_context w c job items entry)
    unfolding cloned_context
    traces_cloned entry new = record {
      sharer = c;
      new = next_group w job;
      unnamed = unnamed;
      trace = λ a k g key is. elim (name_or_not a (next_context s job)) [
        | inl same ↦
            let cell : cloned_cell s c k (mode_or_copy items k) ≡ Common g = ap (λ (x : Context). x.cell k) (sym adds.added) ∙ (ap (λ (n : Name). (context (clone_context w c job items entry) n).cell k) (sym same) ∙ is) in
            let shares = by_mode (mode_or_copy items k) k g cell in
            (c, subst (λ (n : Name). from n k c) (sym (same ∙ changes.next_shared w c job job items)) (new k (mode-shared items k shares.0)), shared_old c k g shares.1)
        | inr other ↦ (a, itself a k, shared_old a k g (ap (λ (x : Context). x.cell k) (sym (adds.others a other)) ∙ is))
      ];
    }
      where
        adds : AddsContext s job (cloned_context s c items entry) (clone_context w c job items entry)
        adds = changes.cloned w c job items entry

    pub traces_overlaid : (to : Name) → is_live w to ≡ true → ((k : Key) → IsKey w.size.pages k → mode items k ≡ Some Share → from to k c) → Traces from w (overlay w to c job items)
    traces_overlaid to live given = record {
      sharer = c;
      new = next_group w job;
      unnamed = unnamed;
      trace = λ a k g key is. elim (name_or_not a to) [
        | inl same ↦
            let cell : overlaid_cell s c k (mode items k) ((context s to).cell k) ≡ Common g =
            ap (λ (x : Context). x.cell k) (sym (takes.changed ((changes.shared w c job items).live to ∙ live))) ∙ (ap (λ (n : Name). (context (overlay w to c job items) n).cell k) (sym same) ∙ is) in
            subst (λ (n : Name). Traced n k g) (sym same) (by_item k g key (mode items k) refl cell)
        | inr other ↦ (a, itself a k, shared_old a k g (ap (λ (x : Context). x.cell k) (sym (takes.others a other)) ∙ is))
      ];
    }
      where
        takes : ChangesContext s to (with_overlay s c items) (overlay w to c job items)
        takes = changes.overlaid w to c job items

        by_item : (k : Key) (g : Name) → IsKey w.size.pages k → (o : Option Mode) → mode items k ≡ o → overlaid_cell s c k o ((context s to).cell k) ≡ Common g → Traced to k g
        by_item k g key None is cell = (to, itself to k, shared_old to k g cell)
        by_item k g key (Some m) is cell = let shares = by_mode m k g cell in (c, given k key (is ∙ ap Some shares.0), shared_old c k g shares.1)
