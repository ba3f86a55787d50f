-- How the logic keeps the fetches of a log.
use Rattle.std.specs.Prelude.{ℕ, List, Option, refl}
use Rattle.std.specs.Coded.{Coded, code_by, coded×, coded_ℕ, coded_list, coded_option}
use Rattle.lwc_io.specs.Outside.{Fetch}

-- a fetch as a name, two numbers, and one that may be missing
abbrev Parts : Type 0
Parts = List ℕ × (ℕ × (ℕ × Option ℕ))

abbrev to_parts : Fetch → Parts
to_parts fetch = (fetch.name, (fetch.at, (fetch.most, fetch.given)))

abbrev from_parts : Parts → Fetch
from_parts parts =
    record { name = parts.0; at = parts.1.0; most = parts.1.1.0; given = parts.1.1.1 }

-- the code of a list of fetches
abbrev pub fetches_code : Coded (List Fetch)
fetches_code =
    coded_list (code_by Parts (coded× (coded_list coded_ℕ)
    (coded× coded_ℕ (coded× coded_ℕ (coded_option coded_ℕ)))) to_parts from_parts (λ _. refl))
