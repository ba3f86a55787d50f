-- How items are spelled in a guest's memory, and which lists of items a call takes.
use Rattle.std.specs.Prelude.{ℕ, ◌+◌, ◌*◌, ◌/◌, ◌&&◌, ◌||◌, if◌then◌else◌, Bool, true, false, not, List, [], ◌∷◌}
use Rattle.std.specs.Prelude.{Option, None, Some, Result, Ok, Err, drop, is_some, length, map, nat_le, nat_lt}
use Rattle.std.specs.Prelude.{slice_get}
use Rattle.std.specs.List.{filter_map, list_all, list_any, range_with_len}
use Rattle.byteorder.specs.Endian.{little_number}
use Rattle.lwc_base.specs.Modes.{limit, overlaps}
use Rattle.lwc_base.specs.Refusals.{first_refusal}
use Rattle.lwc_base.specs.declared.item.Item.{Item}
use Rattle.lwc_base.specs.declared.item.Mode.{Mode}
use Rattle.lwc_base.specs.declared.item.Mode.TheVariants.{Copy, Share, Unmap, CopyRead}
use Rattle.lwc_types.specs.declared.key.Kind.{Kind}
use Rattle.lwc_types.specs.declared.key.Kind.TheVariants as kind
use Rattle.res_spec.specs.declared.items.SpecCall.{SpecCall}
use Rattle.res_spec.specs.declared.items.SpecCall.TheVariants.{Create, Restrict, Overlay}
use Rattle.res_spec.specs.declared.items.SpecFault.{SpecFault}
use Rattle.res_spec.specs.declared.items.SpecFault.TheVariants.{BadMode, BadRange, Overlap}
use Rattle.res_spec.specs.declared.items.TheConstants.{ITEM_BYTES}

-- an item as it is spelled: four numbers
pub record Spelled : Type 0 where
  pub kind : ℕ
  pub mode : ℕ
  pub from : ℕ
  pub to : ℕ

-- the number of four bytes at an offset, the lowest first
abbrev pub number_at : List ℕ → ℕ → ℕ
number_at bytes at = little_number 4 (drop at bytes)

-- the item that is spelled at an offset
abbrev pub spelled_at : List ℕ → ℕ → Spelled
spelled_at bytes at = record {
  kind = number_at bytes at;
  mode = number_at bytes (at + 4);
  from = number_at bytes (at + 8);
  to = number_at bytes (at + 12);
}

-- the items that are spelled one after another
unfoldable pub spelled : List ℕ → List Spelled
spelled bytes = map (λ i. spelled_at bytes (i * ITEM_BYTES)) (range_with_len 0 (length bytes / ITEM_BYTES))

-- the kind of a number: 0 is pages, 1 slots, 2 the credential
abbrev pub kind_of_number : ℕ → Option Kind
kind_of_number n = slice_get (kind.Page ∷ kind.Slot ∷ kind.Cred ∷ []) n

-- the mode of a number: 0 is copy, 1 share, 2 unmap, 3 copy read-only
abbrev pub mode_of_number : ℕ → Option Mode
mode_of_number n = slice_get (Copy ∷ Share ∷ Unmap ∷ CopyRead ∷ []) n

-- whether keys of a kind may have a mode: only pages are copied read-only
abbrev pub suits : Kind → Mode → Bool
suits kind.Page mode = true
suits kind CopyRead = false
suits kind mode = true

-- whether a call takes a mode: making a context takes all, an overlay all but unmap, a restriction copy alone
abbrev pub takes_mode : SpecCall → Mode → Bool
takes_mode Create mode = true
takes_mode Overlay Unmap = false
takes_mode Overlay mode = true
takes_mode Restrict Copy = true
takes_mode Restrict mode = false

-- whether a call takes a mode for keys of a kind
abbrev pub takes : SpecCall → Kind → Mode → Bool
takes call kind mode = suits kind mode && takes_mode call mode

-- a mode, where the call takes it for keys of the kind
abbrev pub taken : SpecCall → Kind → Option Mode → Option Mode
taken call kind None = None
taken call kind (Some mode) = if takes call kind mode then Some mode else None

-- the item of a kind and a mode, where there is a mode
abbrev pub item_with : Spelled → Kind → Option Mode → Option Item
item_with s kind (Some mode) = Some (record { kind = kind; mode = mode; from = s.from; to = s.to })
item_with s kind None = None

-- the item that is spelled, where the call takes its mode for its kind
abbrev pub item_of_kind : SpecCall → Spelled → Option Kind → Option Item
item_of_kind call s (Some kind) = item_with s kind (taken call kind (mode_of_number s.mode))
item_of_kind call s None = None

-- the item that is spelled, where the call takes its kind and its mode
abbrev pub item_of : SpecCall → Spelled → Option Item
item_of call s = item_of_kind call s (kind_of_number s.kind)

-- whether a call takes the kind and the mode of each item that is spelled
unfoldable pub all_taken : SpecCall → List ℕ → Bool
all_taken call bytes = list_all (λ s. is_some (item_of call s)) (spelled bytes)

-- the items that are spelled and that the call takes
unfoldable pub items_in : SpecCall → List ℕ → List Item
items_in call bytes = filter_map (item_of call) (spelled bytes)

-- whether each item names at least one key, and none past the limit of its kind
unfoldable pub all_within : ℕ → List Item → Bool
all_within pages items =
    list_all (λ item. nat_lt item.from item.to && nat_le item.to (limit pages item.kind)) items

-- whether two items have a key in common
abbrev pub has_overlap : List Item → Bool
has_overlap [] = false
has_overlap (item ∷ items) = list_any (overlaps item) items || has_overlap items

-- why the items are refused: the first row that holds, each over all items
unfoldable pub faults : SpecCall → ℕ → List ℕ → List (Bool × SpecFault)
faults call pages bytes =
    (not (all_taken call bytes), BadMode)
    ∷ (not (all_within pages (items_in call bytes)), BadRange)
    ∷ (has_overlap (items_in call bytes), Overlap)
    ∷ []

-- the items, or why they are refused
abbrev pub items_or : List Item → Option SpecFault → Result (List Item) SpecFault
items_or items None = Ok items
items_or items (Some fault) = Err fault

-- the items that bytes spell for a call, or the first fault
unfoldable pub read : SpecCall → ℕ → List ℕ → Result (List Item) SpecFault
read call pages bytes = items_or (items_in call bytes) (first_refusal (faults call pages bytes))
