-- A table of contexts: what each has, and its place.
use Rattle.std.specs.Prelude.{ℕ, List, Option, is_some, not, refl}
use Rattle.std.specs.Coded.{Coded, code_by, coded×, coded_list, coded_option}
use Rattle.std.specs.FinMap as fm
use Rattle.std.specs.List.{position_or_len}
use Rattle.lwc_types.specs.declared.name.Name.{Name}
use Rattle.lwc_types.specs.declared.regs.Regs.{Regs}
use Rattle.lwc_types.specs.contracts.name.Name as name
use Rattle.lwc_types.specs.contracts.regs.Regs as regs
use Rattle.lwc_types.specs.Names.{name_cmp}

-- what a context has: a value, and the registers that it begins with and that it keeps for threads
pub record Kept (C : Type 0) : Type 0 where
  pub value : C
  pub entry : Regs
  pub saved : List (Option Regs)

-- what each context has, by its name, and the name at each place, if there is one
pub record Contexts (C : Type 0) : Type 0 where
  pub kept : fm.FinMap name_cmp (Kept C)
  pub places : List (Option Name)

-- they are stored as pairs
abbrev pub kept_code : {C : Type 0} → Coded C → Coded (Kept C)
kept_code {C} code =
    code_by (C × (Regs × List (Option Regs)))
    (coded× code (coded× regs.the_row.coded (coded_list (coded_option regs.the_row.coded))))
    (λ k. (k.value, (k.entry, k.saved)))
    (λ p. record { value = p.0; entry = p.1.0; saved = p.1.1 })
    (λ _. refl)

abbrev pub contexts_code : {C : Type 0} → Coded C → Coded (Contexts C)
contexts_code {C} code =
    code_by (fm.FinMap name_cmp (Kept C) × List (Option Name))
    (coded× (fm.code name.the_row.coded (kept_code code)) (coded_list (coded_option name.the_row.coded)))
    (λ t. (t.kept, t.places))
    (λ p. record { kept = p.0; places = p.1 })
    (λ _. refl)

-- the first place with no name
abbrev pub first_free : List (Option Name) → ℕ
first_free = position_or_len (λ found. not (is_some found))
