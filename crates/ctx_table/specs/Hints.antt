-- The numbers of names.
use Rattle.std.specs.Prelude.{ℕ, ◌+◌, ◌*◌, ◌%◌, ◌==◌, Bool, false, Option, None, Some}
use Rattle.lwc_types.specs.declared.name.Name.{Name}
use Rattle.ctx_table.specs.declared.hints.TheConstants.{HINTS}

-- the number of a name, which other names may have too
unfoldable pub number_of : Name → ℕ
number_of name = (name.job * 67 + name.k) % HINTS

-- whether a name, if there is one, has the number of another
abbrev pub shares_hint : Option Name → Name → Bool
shares_hint None name = false
shares_hint (Some other) name = number_of other == number_of name
