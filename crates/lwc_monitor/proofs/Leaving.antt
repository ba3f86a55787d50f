-- What calls leave of the slots of trapped contexts.
use Rattle.std.proofs.Common.{◌≡◌, ◌≢◌, ◌⊎◌, inl, inr, ℕ, ◌+◌, refl, sym, ap, subst, ◌∙◌, Bool, true, false, cond, ◌&&◌, ◌||◌, Option, Some, None, List, [], ◌∷◌, ◌++◌, length}
use Rattle.std.proofs.lemmas.Bool.{false≢true}
use Rattle.std.specs.Prelude.{is_none, is_some, nat_lt, not, slice_index, unwrap_or}
use Rattle.std.specs.List.{list_any}
use Rattle.std.specs.Option.{option_and_then, option_map, option_map_or}
use Rattle.std.specs.Ordering.{eq_by_cmp}
use Rattle.std.specs.FinMap as fm
use Rattle.access_cap.specs.Kinds.{has_kinds, is_chosen}
use Rattle.guest_call.specs.Asked.{item_refusals}
use Rattle.guest_call.specs.Guest.{descriptor_for, link_of, slot_refusals, with_answer}
use Rattle.lwc_base.specs.Capabilities.{empty_cap}
use Rattle.lwc_base.specs.Cells.{put_slot}
use Rattle.lwc_base.specs.Channels.{Channels}
use Rattle.lwc_base.specs.Summaries.{is_empty}
use Rattle.lwc_base.proofs.Facts.{changes}
use Rattle.lwc_base.proofs.Fresh.{next_context-new}
use Rattle.lwc_types.proofs.Orders.{cases_name, same_name}
use Rattle.lwc_syscall.proofs.Does.{does-one_thing}
use Rattle.lwc_syscall.proofs.Only.{plain_only}
use Rattle.lwc_base.specs.Memory.{is_present}
use Rattle.lwc_base.specs.Rights.{is_writable}
use Rattle.lwc_base.specs.Frames.{used}
use Rattle.lwc_base.specs.Refusals.{first_refusal}
use Rattle.lwc_base.specs.Saved.{save}
use Rattle.lwc_base.specs.Store.{Absent, Done, Full, Piece, ReadOnly, Stored, after_store, parting_count, store}
use Rattle.lwc_base.specs.World.{World, is_live, next_context}
use Rattle.lwc_base.specs.declared.descriptor.Cap.{Cap}
use Rattle.lwc_base.specs.declared.descriptor.Descriptor.{Descriptor}
use Rattle.lwc_base.specs.declared.descriptor.Descriptor.TheVariants.{Console, Ctx, Empty, File, Reply, Request}
use Rattle.lwc_base.specs.Slots.{lowest_empty}
use Rattle.lwc_types.specs.Names.{name_cmp}
use Rattle.lwc_types.specs.declared.key.Key.TheVariants.{Slot}
use Rattle.lwc_types.specs.declared.key.Kind.TheVariants as kinds
use Rattle.lwc_types.specs.declared.name.Name.{Name}
use Rattle.lwc_types.specs.declared.refusal.Refusal.{Refusal}
use Rattle.lwc_types.specs.declared.refusal.Refusal.TheVariants.{BadCall, BadFd, BadMode, NoSlotThere, NotCovered, WrongKind}
use Rattle.lwc_types.specs.declared.regs.Regs.{Regs}
use Rattle.lwc_create.specs.Create as creating
use Rattle.lwc_monitor.proofs.Slots.{apart_slots, own-put, own_after, same-clone, same-map, same-overlay, same-put, same-put_uid, same-save, same-store, same_itself, same_then}
use Rattle.lwc_monitor.specs.Guards.{AreGuarded, HasOwnSlots, LeavesToMonitors, SameSlots}
use Rattle.lwc_monitor.specs.Traps.{Traps, forbids_overlay, is_trapped, monitor_of_named, named, names_anothers, shares_slots}
use Rattle.lwc_overlay.specs.Named.{items_of, link}
use Rattle.lwc_overlay.specs.OverlayCall as overlaying
use Rattle.lwc_overlay.specs.RestrictCall as restricting
use Rattle.lwc_switch.specs.Switch as switching
use Rattle.lwc_syscall.specs.Changes.{IsPlainChange, IsWell, Mapped, Nothing, Read, SlotPut, UidPut, Written}
use Rattle.lwc_syscall.specs.Plain.{plain, refused_or}
use Rattle.lwc_syscall.specs.Syscall as syscalls
use Rattle.lwc_syscall.specs.declared.calls.CallContexts.{CallContexts}
use Rattle.lwc_syscall.specs.declared.plain_call.PlainCall.{PlainCall}
use Rattle.res_spec.specs.declared.items.SpecCall.TheVariants as spec_call

-- where no row holds, none of the first ones does, and none of the others
none-append : (front rows : List (Bool × Refusal)) → first_refusal (front ++ rows) ≡ None → (first_refusal front ≡ None) × (first_refusal rows ≡ None)
none-append [] rows none = (refl, none)
none-append (row ∷ front) rows none = by row.0 (none-append front rows) none
  where
    by : (b : Bool) → (first_refusal (front ++ rows) ≡ None → (first_refusal front ≡ None) × (first_refusal rows ≡ None)) → cond b (Some row.1) (first_refusal (front ++ rows)) ≡ None →
        (cond b (Some row.1) (first_refusal front) ≡ None) × (first_refusal rows ≡ None)
    by true later is = cc
    by false later is = later is

-- a trapped context is another one than one that is not
other : (traps : Traps) (c d m : Name) → fm.get traps d ≡ Some m → is_trapped traps c ≡ false → c ≢ d
other traps c d m is free same = false≢true (sym free ∙ ap (is_trapped traps) same ∙ ap is_some is)

-- what a call of a context that is not trapped leaves, if no trap forbids it
pub record FreeCallsLeave (traps : Traps) (w : World) (io : Channels) (c : Name) (job t : ℕ) : Type 0 where
  pub create : (regs : Regs) → LeavesToMonitors traps c w (creating.create w c job regs).1
  pub restrict : (regs : Regs) → LeavesToMonitors traps c w (restricting.restrict w c regs).1
  pub switch : (regs : Regs) → names_anothers traps w c regs ≡ false → LeavesToMonitors traps c w (switching.switch w c t regs).1
  pub overlay : (regs : Regs) → forbids_overlay traps w c regs ≡ false → LeavesToMonitors traps c w (overlaying.overlay w c job regs).1
  pub syscall : (regs : Regs) → names_anothers traps w c regs ≡ false → LeavesToMonitors traps c w (syscalls.lw_syscall w io c job regs).world
  pub plain : (call : Option PlainCall) (args : List ℕ) → LeavesToMonitors traps c w (plain w io (record { memory = c; slots = c; cred = c }) job call args).world

module _ (traps : Traps) (w : World) (guarded : AreGuarded traps w) where
  -- where no slot of a trapped context changes
  all_same : (c : Name) (v : World) → ((d m : Name) → fm.get traps d ≡ Some m → SameSlots w v d) → LeavesToMonitors traps c w v
  all_same c v same = record {
    own = λ d m is. own_after w v d (guarded.own d m is) (same d m is);
    same = λ d m is. inr (same d m is);
  }

  pub leaves-itself : (c : Name) → LeavesToMonitors traps c w w
  leaves-itself c = all_same c w (λ d m is. same_itself w d)

  -- a call of a trapped context that goes to its monitor
  pub trapped-leaves : (c m : Name) (t : ℕ) (regs : Regs) (slot : ℕ) → fm.get traps c ≡ Some m → LeavesToMonitors traps c w (switching.switched w c t regs m slot)
  trapped-leaves c m t regs slot is = all_same c _ (λ d n found.
      let own = guarded.own d n found in
      let saved : World = save w c t (with_answer regs 0) in
      let first : SameSlots w saved d = same-save w d own c t (with_answer regs 0) in
      same_then w saved _ d first (same-put saved d (own_after w saved d own first) m slot (Ctx c empty_cap) (other traps m d n found (guarded.free c m is))))

  -- a store
  pub stored-leaves : (c : Name) (job : ℕ) (piece : Piece) → LeavesToMonitors traps c w (after_store w c job piece)
  stored-leaves c job piece = all_same c _ (λ d m found. same-store w c d job piece (guarded.own d m found))

  module _ (io : Channels) (c : Name) (job t : ℕ) (free : is_trapped traps c ≡ false) (well : IsWell w io) where
    itself : LeavesToMonitors traps c w w
    itself = leaves-itself c

    put_here : (v : World) (n : ℕ) (value : Descriptor) → ((d m : Name) → fm.get traps d ≡ Some m → SameSlots w v d) → LeavesToMonitors traps c w (put_slot v c n value)
    put_here v n value same = all_same c _ (λ d m is.
        same_then w v _ d (same d m is) (same-put v d (own_after w v d (guarded.own d m is) (same d m is)) c n value (other traps c d m is free)))

    -- a trapped context is none that is new
    not_new : (d m : Name) → fm.get traps d ≡ Some m → d ≢ next_context w job
    not_new d m is same = false≢true (sym (next_context-new w job well.sound.fresh) ∙ ap (is_live w) (sym same) ∙ guarded.live d m is)

    created : (regs : Regs) (slot : ℕ) (first : Option Refusal) → LeavesToMonitors traps c w (creating.ended w c job regs slot first).1
    created regs slot (Some refusal) = itself
    created regs slot None = put_here _ slot _ (λ d m is.
        same-clone w d (guarded.own d m is) (guarded.live d m is) c job (creating.items_of w c regs) (creating.after_call regs creating.no_caller) (other traps c d m is free) (not_new d m is))

    narrowed : (regs : Regs) (first : Option Refusal) → LeavesToMonitors traps c w (restricting.ended w c regs first).1
    narrowed regs (Some refusal) = itself
    narrowed regs None = put_here w (slice_index regs.r 1) _ (λ d m is. same_itself w d)

    -- a slot that is not refused names the context of its link
    named_is : (regs : Regs) (d : Name) → first_refusal (slot_refusals w c (slice_index regs.r 1)) ≡ None → (link w c regs).0 ≡ d → named w c regs ≡ Some d
    unfolding link slot_refusals
    named_is regs d none is = by (descriptor_for w c (slice_index regs.r 1)) none is
      where
        by : (x : Descriptor) → first_refusal ((is_empty x, BadFd) ∷ (is_none (link_of x), WrongKind) ∷ []) ≡ None → (unwrap_or (link_of x) (c, empty_cap)).0 ≡ d → option_map (λ (l : Name × Cap). l.0) (link_of x) ≡ Some d
        by (Ctx name cap) none is = ap Some is
        by Empty none is = cc
        by Console none is = cc
        by (File f at) none is = cc
        by (Request r at) none is = cc
        by (Reply r) none is = cc

    found_named : (regs : Regs) (d m : Name) → fm.get traps d ≡ Some m → named w c regs ≡ Some d → monitor_of_named traps w c regs ≡ Some m
    found_named regs d m is here = ap (option_and_then (fm.get traps)) here ∙ is

    -- who names a trapped context, and is not forbidden to, is its monitor
    allowed : (regs : Regs) (d m : Name) → fm.get traps d ≡ Some m → named w c regs ≡ Some d → names_anothers traps w c regs ≡ false → m ≡ c
    unfolding names_anothers
    allowed regs d m is here ours =
        let test : not (eq_by_cmp name_cmp c m) ≡ false = sym (ap (λ o. option_map_or (λ x. not (eq_by_cmp name_cmp c x)) o false) (found_named regs d m is here)) ∙ ours in
        sym (same_name c m (by (eq_by_cmp name_cmp c m) test))
      where
        by : (b : Bool) → not b ≡ false → b ≡ true
        by true e = refl
        by false e = cc

    -- and no item of an overlay that is not forbidden shares slots of it
    none_shared : (regs : Regs) (d m : Name) → fm.get traps d ≡ Some m → named w c regs ≡ Some d →
        first_refusal (item_refusals w c spec_call.Overlay (slice_index regs.r 2) (slice_index regs.r 3)) ≡ None → forbids_overlay traps w c regs ≡ false →
        list_any shares_slots (items_of w c spec_call.Overlay regs) ≡ false
    unfolding forbids_overlay
    none_shared regs d m is here none forbids =
        by _ _ _ (list_any shares_slots (items_of w c spec_call.Overlay regs)) (ap is_none none) (ap is_some (found_named regs d m is here)) forbids
      where
        by : (a b e f : Bool) → a ≡ true → e ≡ true → (a && (b || e && f)) ≡ false → f ≡ false
        by true true e f one two none = cc
        by true false true f one two none = none
        by true false false f one two none = cc
        by false b e f one two none = cc

    -- the context that a switch is to, is the one that the slot names
    aim_is : (regs : Regs) → switching.target w c regs ≡ (link w c regs).0
    unfolding switching.target link
    aim_is regs = by (link_of (descriptor_for w c (slice_index regs.r 1)))
      where
        by : (o : Option (Name × Cap)) → unwrap_or (option_map (λ (l : Name × Cap). l.0) o) c ≡ (unwrap_or o (c, empty_cap)).0
        by None = refl
        by (Some l) = refl

    slot_none : (regs : Regs) → first_refusal (switching.refusals w c regs) ≡ None → first_refusal (slot_refusals w c (slice_index regs.r 1)) ≡ None
    unfolding switching.refusals
    slot_none regs none = (none-append (slot_refusals w c (slice_index regs.r 1)) ((is_none (lowest_empty w (switching.target w c regs)), NoSlotThere) ∷ []) none).0

    abbrev left_world : Regs → World
    left_world regs = save w c t (with_answer regs 0)

    abbrev moved_world : Regs → ℕ → World
    moved_world regs slot = switching.switched w c t regs (switching.target w c regs) slot

    moved_at : (regs : Regs) (slot : ℕ) → first_refusal (switching.refusals w c regs) ≡ None → names_anothers traps w c regs ≡ false → (d m : Name) → fm.get traps d ≡ Some m →
        HasOwnSlots (moved_world regs slot) d × ((m ≡ c) ⊎ SameSlots w (moved_world regs slot) d)
    moved_at regs slot is forbids d m found =
        let own = guarded.own d m found in
        let first : SameSlots w (left_world regs) d = same-save w d own c t (with_answer regs 0) in
        let own_saved : HasOwnSlots (left_world regs) d = own_after w (left_world regs) d own first in
        cases_name (switching.target w c regs) d
        (λ same. (
          subst (λ e. HasOwnSlots (put_slot (left_world regs) e slot (Ctx c empty_cap)) d) (sym same)
              (own-put (left_world regs) d own_saved ((changes.saved w c t (with_answer regs 0)).names.live d ∙ guarded.live d m found) slot (Ctx c empty_cap)),
          inl (allowed regs d m found (named_is regs d (slot_none regs is) (sym (aim_is regs) ∙ same)) forbids),
        ))
        (λ apart. let same : SameSlots w (moved_world regs slot) d = same_then w (left_world regs) (moved_world regs slot) d first
        (same-put (left_world regs) d own_saved (switching.target w c regs) slot (Ctx c empty_cap) apart) in (own_after w (moved_world regs slot) d own same, inr same))

    moved : (regs : Regs) (slot : ℕ) (first : Option Refusal) → first_refusal (switching.refusals w c regs) ≡ first → names_anothers traps w c regs ≡ false →
        LeavesToMonitors traps c w (switching.ended w c t regs (switching.target w c regs) slot first).1
    moved regs slot (Some refusal) is forbids = itself
    moved regs slot None is forbids = record { own = λ d m found. (moved_at regs slot is forbids d m found).0; same = λ d m found. (moved_at regs slot is forbids d m found).1 }

    -- the rows before the others in an overlay's table
    before_none : (regs : Regs) → first_refusal (overlaying.refusals w c job regs) ≡ None → (first_refusal (slot_refusals w c (slice_index regs.r 1)) ≡ None)
        × (first_refusal (item_refusals w c spec_call.Overlay (slice_index regs.r 2) (slice_index regs.r 3)) ≡ None)
    unfolding overlaying.refusals
    before_none regs none =
        let after = none-append (slot_refusals w c (slice_index regs.r 1)) _ none in
        (after.0, (none-append (item_refusals w c spec_call.Overlay (slice_index regs.r 2) (slice_index regs.r 3)) _ after.1).0)

    taken : (regs : Regs) (first : Option Refusal) → first_refusal (overlaying.refusals w c job regs) ≡ first → forbids_overlay traps w c regs ≡ false →
        LeavesToMonitors traps c w (overlaying.ended w c job regs first).1
    taken regs (Some refusal) is forbids = itself
    taken regs None is forbids = all_same c _ (λ d m found.
        same-overlay w d (guarded.own d m found) (guarded.live d m found) c (link w c regs).0 job (items_of w c spec_call.Overlay regs) (other traps c d m found free)
        (λ here. let before = before_none regs is in none_shared regs d m found (named_is regs d before.0 here) before.1 forbids))

    -- a plain call over slots of another context than the trapped one
    plain_same : (targets : CallContexts) (call : Option PlainCall) (args : List ℕ) (d m : Name) → fm.get traps d ≡ Some m → targets.slots ≢ d → SameSlots w (plain w io targets job call args).world d
    plain_same targets call args d m found apart n within = (plain_only w io targets job args call).cells d (Slot n) (λ _. apart_slots w targets.slots d apart (guarded.own d m found) n within)

    done_is : (m : Name) (piece : Piece) (v : World) → store w m job piece ≡ Done v → after_store w m job piece ≡ v
    unfolding store
    done_is m piece v is = by (not (is_present w m piece.at (length piece.bytes))) (not (is_writable w m piece.at (length piece.bytes))) (nat_lt w.size.frames (used w + parting_count w m piece)) is
      where
        world_in : Stored → World
        world_in Absent = w
        world_in ReadOnly = w
        world_in Full = w
        world_in (Done u) = u

        by : (a r b : Bool) → cond a Absent (cond r ReadOnly (cond b Full (Done (after_store w m job piece)))) ≡ Done v → after_store w m job piece ≡ v
        by true r b e = cc
        by false true b e = cc
        by false false true e = cc
        by false false false e = ap world_in e

    own-plain : (targets : CallContexts) (d m : Name) → fm.get traps d ≡ Some m → targets.slots ≡ d → (v : World) (after : Channels) → IsPlainChange w io targets job v after → HasOwnSlots v d
    own-plain targets d m found here _ _ Nothing = guarded.own d m found
    own-plain targets d m found here _ _ (SlotPut n value within known) =
        subst (λ e. HasOwnSlots (put_slot w e n value) d) (sym here) (own-put w d (guarded.own d m found) (guarded.live d m found) n value)
    own-plain targets d m found here _ _ (UidPut uid) = own_after w _ d (guarded.own d m found) (same-put_uid w d (guarded.own d m found) targets.cred uid)
    own-plain targets d m found here _ _ (Mapped from to present within) = own_after w _ d (guarded.own d m found) (same-map w d (guarded.own d m found) targets.memory from to present)
    own-plain targets d m found here _ _ (Read v piece n value short is within known) =
        let made = done_is targets.memory piece v is in
        let own : HasOwnSlots v d = subst (λ u. HasOwnSlots u d) made (own_after w _ d (guarded.own d m found) (same-store w targets.memory d job piece (guarded.own d m found))) in
        let live : is_live v d ≡ true = subst (λ u. is_live u d ≡ true) made ((changes.stored w targets.memory job piece).live d ∙ guarded.live d m found) in
        subst (λ e. HasOwnSlots (put_slot v e n value) d) (sym here) (own-put v d own live n value)
    own-plain targets d m found here _ _ (Written value bytes) = guarded.own d m found

    abbrev targets : Regs → CallContexts
    targets regs = syscalls.targets_of w c regs

    abbrev over_world : Regs → World
    over_world regs = (plain w io (targets regs) job (syscalls.inner_call regs) (syscalls.inner_args regs)).world

    rows_none : (regs : Regs) → first_refusal (syscalls.refusals w c regs) ≡ None → first_refusal (slot_refusals w c (slice_index regs.r 1)) ≡ None
    unfolding syscalls.refusals
    rows_none regs none =
        (none-append (slot_refusals w c (slice_index regs.r 1))
        ((nat_lt 7 (syscalls.mask_in regs), BadMode)
        ∷ (not (has_kinds w.size.pages (syscalls.link w c regs).1 (syscalls.mask_in regs)), NotCovered)
        ∷ (nat_lt (syscalls.inner_number regs) 1 || nat_lt 9 (syscalls.inner_number regs), BadCall) ∷ []) none).0

    linked : (regs : Regs) (d m : Name) → fm.get traps d ≡ Some m → (targets regs).slots ≡ d → (link w c regs).0 ≡ d
    unfolding link
    linked regs d m found same = by (is_chosen (syscalls.mask_in regs) kinds.Slot) same
      where
        by : (b : Bool) → cond b (unwrap_or (link_of (descriptor_for w c (slice_index regs.r 1))) (c, empty_cap)).0 c ≡ d → (unwrap_or (link_of (descriptor_for w c (slice_index regs.r 1))) (c, empty_cap)).0 ≡ d
        by true e = e
        by false e = absurd (other traps c d m found free e)

    over_at : (regs : Regs) → first_refusal (syscalls.refusals w c regs) ≡ None → names_anothers traps w c regs ≡ false → (d m : Name) → fm.get traps d ≡ Some m →
        HasOwnSlots (over_world regs) d × ((m ≡ c) ⊎ SameSlots w (over_world regs) d)
    over_at regs none forbids d m found = cases_name (targets regs).slots d
        (λ same. (
          own-plain (targets regs) d m found same (over_world regs) _ (does-one_thing w io (targets regs) job (syscalls.inner_call regs) (syscalls.inner_args regs)
              well.named well.files (ap (is_live w) same ∙ guarded.live d m found)),
          inl (allowed regs d m found (named_is regs d (rows_none regs none) (linked regs d m found same)) forbids),
        ))
        (λ apart. let same : SameSlots w (over_world regs) d = plain_same (targets regs) (syscalls.inner_call regs) (syscalls.inner_args regs) d m found apart in
        (own_after w (over_world regs) d (guarded.own d m found) same, inr same))

    chosen : (regs : Regs) → first_refusal (syscalls.refusals w c regs) ≡ None → names_anothers traps w c regs ≡ false → LeavesToMonitors traps c w (over_world regs)
    chosen regs none forbids = record { own = λ d m found. (over_at regs none forbids d m found).0; same = λ d m found. (over_at regs none forbids d m found).1 }

    over : (regs : Regs) (first : Option Refusal) → first_refusal (syscalls.refusals w c regs) ≡ first → names_anothers traps w c regs ≡ false →
        LeavesToMonitors traps c w (refused_or w io (plain w io (syscalls.targets_of w c regs) job (syscalls.inner_call regs) (syscalls.inner_args regs)) first).world
    over regs (Some refusal) is forbids = itself
    over regs None is forbids = chosen regs is forbids

    pub free-leaves : FreeCallsLeave traps w io c job t
    unfolding creating.create restricting.restrict switching.switch overlaying.overlay syscalls.lw_syscall
    free-leaves = record {
      create = λ regs. created regs _ _;
      restrict = λ regs. narrowed regs _;
      switch = λ regs forbids. moved regs _ _ refl forbids;
      overlay = λ regs forbids. taken regs _ refl forbids;
      syscall = λ regs forbids. over regs _ refl forbids;
      plain = λ call args. all_same c _ (λ d m found. plain_same (record { memory = c; slots = c; cred = c }) call args d m found (other traps c d m found free));
    }
