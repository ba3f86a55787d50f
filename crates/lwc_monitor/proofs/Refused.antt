-- What refusals say of the context that a slot names.
use Rattle.std.proofs.Common.{◌≡◌, ◌∙◌, ℕ, Bool, false, List, [], ◌∷◌, ◌++◌, Option, None, Some, ap, refl, sym, append-nil}
use Rattle.std.specs.Prelude.{◌&&◌, ◌||◌, is_none, is_some, not, slice_index}
use Rattle.std.specs.List.{list_any}
use Rattle.std.specs.Option.{option_map, option_map_or}
use Rattle.std.specs.Ordering.{eq_by_cmp}
use Rattle.access_cap.specs.Kinds.{has_kinds}
use Rattle.guest_call.specs.Asked.{item_refusals}
use Rattle.guest_call.specs.Guest.{descriptor_for, link_of, slot_refusals}
use Rattle.lwc_base.specs.Refusals.{first_refusal}
use Rattle.lwc_base.specs.Summaries.{is_empty}
use Rattle.lwc_base.specs.World.{World}
use Rattle.lwc_base.specs.declared.descriptor.Cap.{Cap}
use Rattle.lwc_base.specs.declared.descriptor.Descriptor.{Descriptor}
use Rattle.lwc_base.specs.declared.descriptor.Descriptor.TheVariants.{Console, Ctx, Empty, File, Reply, Request}
use Rattle.lwc_types.specs.Names.{name_cmp}
use Rattle.lwc_types.specs.declared.name.Name.{Name}
use Rattle.lwc_types.specs.declared.refusal.Refusal.{Refusal}
use Rattle.lwc_types.specs.declared.refusal.Refusal.TheVariants.{BadFd, NotCovered, WrongKind}
use Rattle.lwc_types.specs.declared.regs.Regs.{Regs}
use Rattle.lwc_monitor.specs.Traps.{Traps, forbids_overlay, has_common_slot, is_monitor, is_trapped, monitor_of_named, named, names_anothers, shares_slots, trap_rows}
use Rattle.lwc_monitor.specs.declared.trapping.TrapRefusal.{TrapRefusal}
use Rattle.lwc_monitor.specs.declared.trapping.TrapRefusal.TheVariants.{NotFresh, Plain, Trapped}
use Rattle.lwc_overlay.specs.Named.{items_of, link}
use Rattle.res_spec.specs.declared.items.SpecCall.TheVariants as spec_call

-- a slot that is refused names no context
pub unnamed : (w : World) (c : Name) (regs : Regs) (r : Refusal) → first_refusal (slot_refusals w c (slice_index regs.r 1) ++ []) ≡ Some r → named w c regs ≡ None
unfolding slot_refusals
unnamed w c regs r some = by (descriptor_for w c (slice_index regs.r 1)) some
  where
    by : (x : Descriptor) → first_refusal ((is_empty x, BadFd) ∷ (is_none (link_of x), WrongKind) ∷ []) ≡ Some r → option_map (λ (l : Name × Cap). l.0) (link_of x) ≡ None
    by (Ctx name cap) some = cc
    by Empty some = refl
    by Console some = refl
    by (File f at) some = refl
    by (Request q at) some = refl
    by (Reply q) some = refl

-- it is refused to what traps for the same reason
pub plainly : (w : World) (c : Name) (n : ℕ) (r : Refusal) (rest : List (Bool × TrapRefusal)) → first_refusal (slot_refusals w c n ++ []) ≡ Some r →
    first_refusal ((is_empty (descriptor_for w c n), Plain BadFd) ∷ (is_none (link_of (descriptor_for w c n)), Plain WrongKind) ∷ rest) ≡ Some (Plain r)
unfolding slot_refusals
plainly w c n r rest some = by (descriptor_for w c n) some
  where
    by : (x : Descriptor) → first_refusal ((is_empty x, BadFd) ∷ (is_none (link_of x), WrongKind) ∷ []) ≡ Some r →
        first_refusal ((is_empty x, Plain BadFd) ∷ (is_none (link_of x), Plain WrongKind) ∷ rest) ≡ Some (Plain r)
    by (Ctx name cap) some = cc
    by Empty some = ap (option_map Plain) some
    by Console some = ap (option_map Plain) some
    by (File f at) some = ap (option_map Plain) some
    by (Request q at) some = ap (option_map Plain) some
    by (Reply q) some = ap (option_map Plain) some

module _ (traps : Traps) (w : World) (c : Name) (regs : Regs) where
  pub plain-target : (r : Refusal) → first_refusal (slot_refusals w c (slice_index regs.r 1) ++ []) ≡ Some r → first_refusal (trap_rows traps w c regs) ≡ Some (Plain r)
  unfolding trap_rows
  plain-target r some =
      let l = link w c regs in
      plainly w c (slice_index regs.r 1) r ((not (has_kinds w.size.pages l.1 7), Plain NotCovered) ∷ (is_trapped traps l.0, Trapped)
      ∷ (eq_by_cmp name_cmp l.0 c || has_common_slot w l.0 || is_monitor traps l.0, NotFresh) ∷ []) some

  abbrev shared : Bool
  shared = list_any shares_slots (items_of w c spec_call.Overlay regs)

  abbrev rows : List (Bool × Refusal)
  rows = item_refusals w c spec_call.Overlay (slice_index regs.r 2) (slice_index regs.r 3)

  -- an overlay on a trapped context whose items are in order
  pub forbids-is : (m : Name) → first_refusal (rows ++ []) ≡ None → monitor_of_named traps w c regs ≡ Some m → forbids_overlay traps w c regs ≡ (not (eq_by_cmp name_cmp c m) || shared)
  unfolding forbids_overlay names_anothers
  forbids-is m none is =
      let first : first_refusal rows ≡ None = ap first_refusal (sym (append-nil rows)) ∙ none in
      ap (λ (o : Option Refusal). is_none o && (option_map_or (λ x. not (eq_by_cmp name_cmp c x)) (monitor_of_named traps w c regs) false || is_some (monitor_of_named traps w c regs) && shared)) first
      ∙ ap (λ (o : Option Name). option_map_or (λ x. not (eq_by_cmp name_cmp c x)) o false || is_some o && shared) is

  -- and one whose items are not
  pub forbids-none : (r : Refusal) → first_refusal (rows ++ []) ≡ Some r → forbids_overlay traps w c regs ≡ false
  unfolding forbids_overlay
  forbids-none r some =
      ap (λ (o : Option Refusal). is_none o && (names_anothers traps w c regs || is_some (monitor_of_named traps w c regs) && shared)) (ap first_refusal (sym (append-nil rows)) ∙ some)
