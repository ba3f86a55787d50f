-- What contexts are reached from, once the world has changed.
use Rattle.std.proofs.Common.{◌≡◌, ◌≢◌, ◌⊎◌, inl, inr, ℕ, List, [], ◌∷◌, refl, sym, ap, subst, ◌∙◌, Bool, true, false, Option, Some, None}
use Rattle.std.specs.Prelude.{◌<◌, Err, Ok, OnErr, OnOk, Result, is_some}
use Rattle.std.specs.Ordering.{eq_by_cmp}
use Rattle.std.proofs.lemmas.Bool.{false≢true}
use Rattle.fd_table.specs.Slots.{context_of}
use Rattle.lwc_base.specs.declared.cell.Cell.{Cell}
use Rattle.lwc_base.specs.declared.cell.Cell.TheVariants.{Own, Common}
use Rattle.lwc_base.specs.declared.descriptor.Descriptor.{Descriptor}
use Rattle.lwc_base.specs.declared.item.Item.{Item}
use Rattle.lwc_base.specs.declared.item.Mode.{Mode}
use Rattle.lwc_base.specs.Cells.{put_slot, put_uid, slot_at, value_at, value_of}
use Rattle.lwc_base.specs.Facts.{AddsContext, ChangesContext}
use Rattle.lwc_base.specs.Fresh.{IsFresh}
use Rattle.lwc_base.specs.Life.{IsReaped, Link, Reaches, Root, is_among}
use Rattle.lwc_base.specs.Mapping.{map_pages, unmap_pages}
use Rattle.lwc_base.specs.Modes.{mode}
use Rattle.lwc_base.specs.Overlay.{overlay, overlaid_cell, with_overlay}
use Rattle.lwc_base.specs.Saved.{save}
use Rattle.lwc_base.specs.Sharing.{clone_context, cloned_context, share}
use Rattle.lwc_base.specs.Store.{Done, Piece, store}
use Rattle.lwc_base.specs.World.{World, Context, Group, context, is_live, next_context}
use Rattle.lwc_types.specs.declared.key.TheConstants.{SLOTS}
use Rattle.lwc_types.specs.declared.key.Key.TheVariants.{Slot, Cred}
use Rattle.lwc_types.specs.declared.name.Name.{Name}
use Rattle.lwc_types.specs.declared.regs.Regs.{Regs}
use Rattle.lwc_types.specs.Names.{name_cmp}
use Rattle.lazy_world.specs.CachedRoots.{AreReached, HasNamedLinks, with_cached_root}
use Rattle.lazy_world.proofs.LooseLemmas.{links-by, links-slot}
use Rattle.lwc_base.proofs.Stored.{is_done}
use Rattle.lwc_base.proofs.Facts.{changes, stays_fresh}
use Rattle.lwc_base.proofs.Life.{or_cases, or_left, or_right, reached_by_way, way_of_reached}
use Rattle.lwc_base.proofs.Common.{put-other_key}
use Rattle.lwc_base.proofs.Sharing.{value_at-share}
use Rattle.lwc_base.proofs.Slots.{put_slot-reads}
use Rattle.lwc_base.proofs.StoredBytes.{store-other_keys}
use Rattle.lwc_types.proofs.Orders.{cases_name, name-itself}

-- no context is gone, and no slot has lost a descriptor of a context that is not among the names
pub record KeepsLinks (w v : World) (names : List Name) : Type 0 where
  pub live : (c : Name) → is_live w c ≡ true → is_live v c ≡ true
  pub slots : (c d : Name) (n : ℕ) → n < SLOTS → is_live w c ≡ true → context_of (slot_at w c n) ≡ Some d → (context_of (slot_at v c n) ≡ Some d) ⊎ (is_among names d ≡ true)

pub among-more : (names : List Name) (o : Option Name) (c : Name) → is_among names c ≡ true → is_among (with_cached_root names o) c ≡ true
among-more names None c among = among
among-more [] (Some d) c among = cc
among-more (n ∷ ns) (Some d) c among =
    elim (or_cases (eq_by_cmp name_cmp c n) (is_among ns c) among) [
      | inl here ↦ or_left _ _ here
      | inr later ↦ or_right _ _ (among-more ns (Some d) c later)
    ]

pub among-last : (names : List Name) (o : Option Name) (c : Name) → o ≡ Some c → is_among (with_cached_root names o) c ≡ true
among-last names None c is = cc
among-last [] (Some d) c is = let same : d ≡ c = cc in or_left _ _ (ap (eq_by_cmp name_cmp c) same ∙ name-itself c)
among-last (n ∷ ns) (Some d) c is = or_right _ _ (among-last ns (Some d) c is)

module _ (w v : World) (names all : List Name) (more : (c : Name) → is_among names c ≡ true → is_among all c ≡ true) (keeps : KeepsLinks w v all) where
  still-reached : (c : Name) → Reaches w names c → Reaches v all c
  still-reached _ (Root c among) = Root c (more c among)
  still-reached _ (Link d c before live link) =
      let slot = links-slot w d c link in
      elim (keeps.slots d c slot.0 slot.1 live slot.2) [
        | inl there ↦ Link d c (still-reached d before) (keeps.live d live) (links-by v d c slot.0 slot.1 there)
        | inr among ↦ Root c among
      ]

  -- so all contexts are still reached from more names, where each new one is among them
  pub reached-among : ((c : Name) → is_live v c ≡ true → (is_live w c ≡ true) ⊎ (is_among all c ≡ true)) → AreReached w names → AreReached v all
  reached-among new reached c live =
      reached_by_way v all c
      (elim (new c live) [ inl was ↦ still-reached c (way_of_reached w names c (reached c was)) | inr among ↦ Root c among ])
      live

-- no slot has lost a descriptor but of what is given
abbrev CutsAtMost : World → World → Option Name → Type 0
CutsAtMost w v cut =
    (c d : Name) (n : ℕ) → is_live w c ≡ true → context_of (slot_at w c n) ≡ Some d → (context_of (slot_at v c n) ≡ Some d) ⊎ (cut ≡ Some d)

or-last : {A : Type 0} → (names : List Name) (cut : Option Name) (d : Name) → A ⊎ (cut ≡ Some d) → A ⊎ (is_among (with_cached_root names cut) d ≡ true)
or-last names cut d (inl is) = inl is
or-last names cut d (inr is) = inr (among-last names cut d is)

-- all contexts are still reached from the cached roots and what was cut, where each new one is what is given
pub reached-still : (w v : World) (names : List Name) (cut : Option Name) → ((c : Name) → is_live w c ≡ true → is_live v c ≡ true) → CutsAtMost w v cut →
    ((c : Name) → is_live v c ≡ true → (is_live w c ≡ true) ⊎ (cut ≡ Some c)) → AreReached w names → AreReached v (with_cached_root names cut)
reached-still w v names cut live slots new reached =
    reached-among w v names (with_cached_root names cut) (among-more names cut)
    (record { live = live; slots = λ c d n low was is. or-last names cut d (slots c d n was is) })
    (λ c lives. or-last names cut c (new c lives)) reached

-- more cached roots reach no less
pub reached-all : (w : World) (names all : List Name) → ((c : Name) → is_among names c ≡ true → is_among all c ≡ true) → AreReached w names → AreReached w all
reached-all w names all more reached =
    reached-among w w names all more (record { live = λ c live. live; slots = λ c d n low live is. inl is }) (λ c live. inl live) reached

pub reached-more : (w : World) (names : List Name) (o : Option Name) → AreReached w names → AreReached w (with_cached_root names o)
reached-more w names o reached = reached-all w names (with_cached_root names o) (among-more names o) reached

-- a context changes, and the slots of all others stay
module _ (w : World) (c : Name) (f : Context → Context) (v : World) (leaves : ChangesContext w c f v) where
  value-same : (n : ℕ) (cell : Cell Descriptor) → value_of v (Slot n) cell ≡ value_of w (Slot n) cell
  value-same n (Own value) = refl
  value-same n (Common g) = ap (λ (x : Group). x.value (Slot n)) (leaves.groups g)

  other-slot : (d : Name) (n : ℕ) → d ≢ c → slot_at v d n ≡ slot_at w d n
  unfolding value_at
  other-slot d n other = value-same n ((context v d).cell (Slot n)) ∙ ap (λ (x : Context). value_of w (Slot n) (x.cell (Slot n))) (leaves.others d other)

  -- and so does a slot whose cell stays
  changed-slot : (n : ℕ) → ((x : Context) → (f x).cell (Slot n) ≡ x.cell (Slot n)) → (d : Name) → slot_at v d n ≡ slot_at w d n
  unfolding value_at
  changed-slot n same d = value-same n ((context v d).cell (Slot n)) ∙ ap (value_of w (Slot n)) cell-same
    where
      by-live : (b : Bool) → is_live w c ≡ b → (context v c).cell (Slot n) ≡ (context w c).cell (Slot n)
      by-live true live = ap (λ (x : Context). x.cell (Slot n)) (leaves.changed live) ∙ same (context w c)
      by-live false dead = ap (λ (u : World). (context u c).cell (Slot n)) (leaves.same dead)

      cell-same : (context v d).cell (Slot n) ≡ (context w d).cell (Slot n)
      cell-same =
          cases_name d c
          (λ is. ap (λ e. (context v e).cell (Slot n)) is ∙ by-live (is_live w c) refl ∙ ap (λ e. (context w e).cell (Slot n)) (sym is))
          (λ other. ap (λ (x : Context). x.cell (Slot n)) (leaves.others d other))

module _ (w : World) (names : List Name) (reached : AreReached w names) where
  -- where slots are as they were
  same-slots : (v : World) → ((c : Name) → is_live v c ≡ is_live w c) → ((c : Name) (n : ℕ) → slot_at v c n ≡ slot_at w c n) → AreReached v names
  same-slots v live slots =
      reached-still w v names None
      (λ c was. live c ∙ was) (λ c d n was is. inl (ap context_of (slots c n) ∙ is))
      (λ c lives. inl (sym (live c) ∙ lives)) reached

  by-change : (c : Name) (f : Context → Context) (v : World) → ChangesContext w c f v → ((x : Context) (n : ℕ) → (f x).cell (Slot n) ≡ x.cell (Slot n)) → AreReached v names
  by-change c f v leaves same = same-slots v leaves.names.live (λ d n. changed-slot w c f v leaves n (λ x. same x n) d)

  pub reached-map : (c : Name) (from to : ℕ) → AreReached (map_pages w c from to) names
  reached-map c from to = by-change c _ _ (changes.mapped w c from to) (λ x n. refl)

  pub reached-unmap : (c : Name) (from to : ℕ) → AreReached (unmap_pages w c from to) names
  reached-unmap c from to = by-change c _ _ (changes.unmapped w c from to) (λ x n. refl)

  pub reached-save : (c : Name) (t : ℕ) (regs : Regs) → AreReached (save w c t regs) names
  reached-save c t regs = by-change c _ _ (changes.saved w c t regs) (λ x n. refl)

  pub reached-uid : (c : Name) (uid : ℕ) → AreReached (put_uid w c uid) names
  reached-uid c uid = same-slots (put_uid w c uid) (changes.put w c Cred uid).live (λ d n. put-other_key w c Cred uid d (Slot n) (λ is. cc))

  pub reached-store : (v : World) (c : Name) (job : ℕ) (piece : Piece) → store w c job piece ≡ Done v → AreReached v names
  reached-store v c job piece done =
      same-slots v (λ d. ap (λ u. is_live u d) (is_done w c job piece v done).after ∙ (changes.stored w c job piece).live d) (λ d n. store-other_keys w v c job piece done d (Slot n) (λ p is. cc))

  -- so are they after a store that is refused
  pub reached-stored : {T E : Type 0} → (v : World) (c : Name) (job : ℕ) (piece : Piece) (r : Result T E) → OnOk r (store w c job piece ≡ Done v) → OnErr r (v ≡ w) → AreReached v names
  reached-stored v c job piece (Ok x) done refused = reached-store v c job piece done
  reached-stored v c job piece (Err e) done refused = subst (λ u. AreReached u names) (sym refused) reached

  -- a put in a slot cuts a link to what the old descriptor was of, at most
  pub reached-put : (c : Name) (n : ℕ) (value : Descriptor) (cut : Option Name) → cut ≡ context_of (slot_at w c n) → AreReached (put_slot w c n value) (with_cached_root names cut)
  reached-put c n value cut is =
      let live = (changes.put w c (Slot n) value).live in
      reached-still w (put_slot w c n value) names cut
      (λ d was. live d ∙ was)
      (λ d e m was named.
      elim (put_slot-reads w c n value d m) [
        | inl same ↦ inl (ap context_of same ∙ named)
        | inr old ↦ inr (is ∙ ap context_of (sym old.1) ∙ named)
      ])
      (λ d lives. inl (sym (live d) ∙ lives)) reached

  module _ (fresh : IsFresh w) where
    -- sharing changes no value
    shared-slots : (c : Name) (job : ℕ) (items : List Item) (d : Name) (n : ℕ) → slot_at (share w c job items) d n ≡ slot_at w d n
    shared-slots c job items d n = value_at-share w c job items fresh d (Slot n)

    -- an overlay cuts no link but of slots that items name
    pub reached-overlay : (to from : Name) (job : ℕ) (items : List Item) (all : List Name) → ((c : Name) → is_among names c ≡ true → is_among all c ≡ true) →
        HasNamedLinks w to items all → AreReached (overlay w to from job items) all
    unfolding value_at
    reached-overlay to from job items all more named =
        reached-among w v names all more
        (record { live = λ d was. live d ∙ was; slots = λ d e n low was is. by-mode d e n low (mode items (Slot n)) refl is })
        (λ d lives. inl (sym (live d) ∙ lives)) reached
      where
        s : World
        s = share w from job items

        v : World
        v = overlay w to from job items

        overlaid : ChangesContext s to (with_overlay s from items) v
        overlaid = changes.overlaid w to from job items

        live : (d : Name) → is_live v d ≡ is_live w d
        live d = overlaid.names.live d ∙ (changes.shared w from job items).live d

        -- the cell of a slot that no item names is as it was
        cell-stays : (d : Name) (n : ℕ) → mode items (Slot n) ≡ None → slot_at v d n ≡ slot_at s d n
        cell-stays d n none = changed-slot s to (with_overlay s from items) v overlaid n (λ x. ap (λ o. overlaid_cell s from (Slot n) o (x.cell (Slot n))) none) d

        by-mode : (d e : Name) (n : ℕ) → n < SLOTS → (o : Option Mode) → mode items (Slot n) ≡ o → context_of (slot_at w d n) ≡ Some e →
            (context_of (slot_at v d n) ≡ Some e) ⊎ (is_among all e ≡ true)
        by-mode d e n low None none is = inl (ap context_of (cell-stays d n none ∙ shared-slots from job items d n) ∙ is)
        by-mode d e n low (Some m) some is =
            cases_name d to
            (λ same. inr (named n e low (ap is_some some) (ap (λ c. context_of (slot_at w c n)) (sym same) ∙ is)))
            (λ other. inl (ap context_of (other-slot s to (with_overlay s from items) v overlaid d n other ∙ shared-slots from job items d n) ∙ is))

    -- a new context is one more cached root
    pub reached-clone : (c : Name) (job : ℕ) (items : List Item) (entry : Regs) → AreReached (clone_context w c job items entry) (with_cached_root names (Some (next_context w job)))
    unfolding value_at
    reached-clone c job items entry =
        reached-still w v names (Some (next_context w job))
        (λ d was. still d (not-new d was) ∙ was)
        (λ d e n was named. inl (ap context_of (slot-same d n was) ∙ named))
        new reached
      where
        s : World
        s = share w c job items

        v : World
        v = clone_context w c job items entry

        adds : AddsContext s job (cloned_context s c items entry) v
        adds = changes.cloned w c job items entry

        next : next_context s job ≡ next_context w job
        next = changes.next_shared w c job job items

        still : (d : Name) → d ≢ next_context s job → is_live v d ≡ is_live w d
        still d other = adds.still_live d other ∙ (changes.shared w c job items).live d

        not-new : (d : Name) → is_live w d ≡ true → d ≢ next_context s job
        not-new d was is = false≢true (sym (stays_fresh.next_context_is_new w job fresh) ∙ ap (is_live w) (sym (is ∙ next)) ∙ was)

        slot-same : (d : Name) (n : ℕ) → is_live w d ≡ true → slot_at v d n ≡ slot_at w d n
        slot-same d n was =
            value-same ((context v d).cell (Slot n)) ∙ ap (λ (x : Context). value_of s (Slot n) (x.cell (Slot n))) (adds.others d (not-new d was))
            ∙ shared-slots c job items d n
          where
            value-same : (cell : Cell Descriptor) → value_of v (Slot n) cell ≡ value_of s (Slot n) cell
            value-same (Own value) = refl
            value-same (Common g) = ap (λ (x : Group). x.value (Slot n)) (changes.same_groups s v g adds.groups)

        new : (d : Name) → is_live v d ≡ true → (is_live w d ≡ true) ⊎ (Some (next_context w job) ≡ Some d)
        new d lives =
            cases_name d (next_context s job) (λ same. inr (ap Some (sym (same ∙ next)))) (λ other. inl (sym (still d other) ∙ lives))

-- what is reaped is reached from the roots
pub reached-reaped : (w : World) (roots : List Name) → IsReaped w roots → AreReached w roots
reached-reaped w roots reaped c live = reached_by_way w roots c (reaped.contexts c live) live
