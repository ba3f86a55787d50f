use Rattle.std.proofs.Common.{◌≡◌, ◌<◌, ℕ, get_or, true, IsTrue}
use Rattle.hex.specs.Hex.{is_hex_digit}
use Rattle.lwc_text.proofs.requests.are_digits.Given as goal

abbrev pub invariant-bytes : goal.invariant-bytes
invariant-bytes l = IsTrue l.all → (k : ℕ) → k < l.byte-index → is_hex_digit (get_or l.line k 0) ≡ true
