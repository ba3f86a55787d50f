-- A world in which one context is blank.
use Rattle.std.specs.Prelude.{◌||◌, if◌then◌else◌, Bool, not, Option, None, Some}
use Rattle.std.specs.FinMap as fm
use Rattle.std.specs.Ordering.{eq_by_cmp}
use Rattle.lwc_base.specs.Keys.{ValueOf}
use Rattle.lwc_base.specs.Store.{Absent, Done, Full, ReadOnly, Stored}
use Rattle.lwc_base.specs.World.{World, Context}
use Rattle.lwc_base.specs.declared.cell.Cell.{Cell}
use Rattle.lwc_base.specs.declared.cell.Cell.TheVariants.{Own, Common}
use Rattle.lwc_types.specs.Names.{name_cmp}
use Rattle.lwc_types.specs.Pages.{zero_page}
use Rattle.lwc_types.specs.declared.key.Key.{Key}
use Rattle.lwc_types.specs.declared.key.Key.TheVariants.{Page, Slot, Cred}
use Rattle.lwc_types.specs.declared.name.Name.{Name}
use Rattle.lwc_types.specs.declared.page.PageValue.{PageValue}
use Rattle.lwc_types.specs.declared.page.PageValue.TheVariants.{Zero, Data}

-- what is under a page, with zero bytes in place of its bytes; its tag stays
abbrev pub blank_page : Option PageValue → Option PageValue
blank_page None = None
blank_page (Some Zero) = Some Zero
blank_page (Some (Data tag bytes)) = Some (Data tag zero_page)

-- what is under a key, with zero bytes under a page; slots and the uid stay
abbrev pub blank_value : (k : Key) → ValueOf k → ValueOf k
blank_value (Page p) value = blank_page value
blank_value (Slot n) value = value
blank_value Cred value = value

-- a cell, with zero bytes under a page of the context's own
abbrev pub blank_cell : (k : Key) → Cell (ValueOf k) → Cell (ValueOf k)
blank_cell k (Own value) = Own (blank_value k value)
blank_cell k (Common g) = Common g

-- a context with zero bytes in each page of its own; it keeps registers for threads, or for none
unfoldable pub blank_context : Bool → Context → Context
blank_context keep x =
    record x { cell = λ k. blank_cell k (x.cell k); saved = λ t. if keep then x.saved t else None }

-- contexts with the blank of the one that was found under a name, if one was
abbrev pub blank_found : Bool → Name → fm.FinMap name_cmp Context → Option Context → fm.FinMap name_cmp Context
blank_found keep v contexts None = contexts
blank_found keep v contexts (Some x) = fm.insert contexts v (blank_context keep x)

-- contexts of which the one of this name is blank
unfoldable pub blank_contexts : Bool → Name → fm.FinMap name_cmp Context → fm.FinMap name_cmp Context
blank_contexts keep v contexts = blank_found keep v contexts (fm.get contexts v)

-- the world with zero bytes in each page of a context's own, the tags kept, and with the registers that the context
-- keeps for threads or without them; as it was where that is not live
abbrev pub blank : Bool → Name → World → World
blank keep v w = record w { contexts = blank_contexts keep v w.contexts }

-- whether a thread enters a context with the registers that were kept for it, where another one keeps them or none
abbrev pub tells_registers : Bool → Name → Name → Bool
tells_registers keep v c = keep || not (eq_by_cmp name_cmp c v)

-- the end of a store, in a world in which a context is blank
abbrev pub blank_stored : Bool → Name → Stored → Stored
blank_stored keep v Absent = Absent
blank_stored keep v ReadOnly = ReadOnly
blank_stored keep v Full = Full
blank_stored keep v (Done w) = Done (blank keep v w)
