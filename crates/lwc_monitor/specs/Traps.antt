-- Trapped contexts: why one is not trapped, and which calls on one are forbidden.
use Rattle.std.specs.Prelude.{◌&&◌, ◌||◌, Bool, true, false, not, List, [], ◌∷◌, Option, is_none, is_some, slice_index}
use Rattle.std.specs.Coded.{Coded}
use Rattle.std.specs.List.{list_any, range_with_len}
use Rattle.std.specs.Option.{option_and_then, option_map, option_map_or}
use Rattle.std.specs.Ordering.{eq_by_cmp}
use Rattle.std.specs.FinMap as fm
use Rattle.access_cap.specs.Kinds.{has_kinds}
use Rattle.guest_call.specs.Asked.{item_refusals}
use Rattle.guest_call.specs.Guest.{descriptor_for, link_of}
use Rattle.lwc_base.specs.Modes.{same_kind}
use Rattle.lwc_base.specs.Refusals.{first_refusal}
use Rattle.lwc_base.specs.Summaries.{is_empty}
use Rattle.lwc_base.specs.World.{World, context}
use Rattle.lwc_base.specs.declared.cell.Cell.{Cell}
use Rattle.lwc_base.specs.declared.cell.Cell.TheVariants.{Own, Common}
use Rattle.lwc_base.specs.declared.item.Item.{Item}
use Rattle.lwc_base.specs.declared.item.Mode.{Mode}
use Rattle.lwc_base.specs.declared.item.Mode.TheVariants.{Copy, Share, Unmap, CopyRead}
use Rattle.lwc_types.specs.Names.{name_cmp}
use Rattle.lwc_types.specs.contracts.name.Name.{the_row}
use Rattle.lwc_types.specs.declared.key.TheConstants.{SLOTS}
use Rattle.lwc_types.specs.declared.key.Key.TheVariants.{Slot}
use Rattle.lwc_types.specs.declared.key.Kind.TheVariants as kinds
use Rattle.lwc_types.specs.declared.name.Name.{Name}
use Rattle.lwc_types.specs.declared.refusal.Refusal.TheVariants.{BadFd, NotCovered, WrongKind}
use Rattle.lwc_types.specs.declared.regs.Regs.{Regs}
use Rattle.lwc_monitor.specs.declared.trapping.TrapRefusal.{TrapRefusal}
use Rattle.lwc_monitor.specs.declared.trapping.TrapRefusal.TheVariants.{NotFresh, Plain, Trapped}
use Rattle.lwc_overlay.specs.Named.{items_of, link}
use Rattle.res_spec.specs.declared.items.SpecCall.TheVariants as spec_call

-- which contexts are trapped, each with its monitor
abbrev pub Traps : Type 0
Traps = fm.FinMap name_cmp Name

-- they are stored as pairs of names
abbrev pub traps_code : Coded Traps
traps_code = fm.code the_row.coded the_row.coded

-- whether a context is trapped
abbrev pub is_trapped : Traps → Name → Bool
is_trapped traps c = fm.contains_key traps c

-- whether a context is the monitor of another one
abbrev pub is_monitor : Traps → Name → Bool
is_monitor traps c = list_any (eq_by_cmp name_cmp c) (fm.values traps)

-- whether a cell names a group
abbrev pub is_common : {T : Type 0} → Cell T → Bool
is_common (Own value) = false
is_common (Common g) = true

-- whether a context has a slot in common with others
unfoldable pub has_common_slot : World → Name → Bool
has_common_slot w d = list_any (λ n. is_common ((context w d).cell (Slot n))) (range_with_len 0 SLOTS)

-- why a context is not trapped: the first of these that holds. The capability has to have each key of the three
-- kinds
unfoldable pub trap_rows : Traps → World → Name → Regs → List (Bool × TrapRefusal)
trap_rows traps w c regs =
    let d = descriptor_for w c (slice_index regs.r 1) in
    let l = link w c regs in
    (is_empty d, Plain BadFd)
    ∷ (is_none (link_of d), Plain WrongKind)
    ∷ (not (has_kinds w.size.pages l.1 7), Plain NotCovered)
    ∷ (is_trapped traps l.0, Trapped)
    ∷ (eq_by_cmp name_cmp l.0 c || has_common_slot w l.0 || is_monitor traps l.0, NotFresh)
    ∷ []

-- the context that the slot in r1 has a descriptor of, if it has one
abbrev pub named : World → Name → Regs → Option Name
named w c regs = option_map (λ l. l.0) (link_of (descriptor_for w c (slice_index regs.r 1)))

-- the monitor of that context, if it is trapped
abbrev pub monitor_of_named : Traps → World → Name → Regs → Option Name
monitor_of_named traps w c regs = option_and_then (fm.get traps) (named w c regs)

-- whether the slot names a context whose monitor is another one than the caller
unfoldable pub names_anothers : Traps → World → Name → Regs → Bool
names_anothers traps w c regs =
    option_map_or (λ m. not (eq_by_cmp name_cmp c m)) (monitor_of_named traps w c regs) false

-- whether an item shares slots
abbrev pub is_share : Mode → Bool
is_share Copy = false
is_share Share = true
is_share Unmap = false
is_share CopyRead = false

abbrev pub shares_slots : Item → Bool
shares_slots item = same_kind item.kind kinds.Slot && is_share item.mode

-- whether a trap forbids an overlay whose items are in order: the slot names a context with another monitor,
-- or a trapped one of which an item shares slots
unfoldable pub forbids_overlay : Traps → World → Name → Regs → Bool
forbids_overlay traps w c regs =
    is_none (first_refusal (item_refusals w c spec_call.Overlay (slice_index regs.r 2) (slice_index regs.r 3)))
    && (names_anothers traps w c regs
    || is_some (monitor_of_named traps w c regs) && list_any shares_slots (items_of w c spec_call.Overlay regs))
