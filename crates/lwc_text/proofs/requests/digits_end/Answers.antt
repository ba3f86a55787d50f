use Rattle.std.proofs.Common.{◌≡◌, not, sym, tests, rules, arith}
use Rattle.std.specs.List.{position}
use Rattle.std.proofs.lemmas.Iterator.{YieldsList-from_slice}
use Rattle.std.proofs.lemmas.Iterator.Search.{position_from_yields_List}
use Rattle.hex.specs.Hex.{is_hex_digit}
use Rattle.lwc_text.proofs.requests.digits_end.Goals as goal
use Rattle.lwc_types.proofs.Small.{or_len}
use Rattle.lwc_text.proofs.RequestLines.{all_digits}

pub returns-clause-place : goal.returns-clause-place
returns-clause-place c =
    let found : c.position.result ≡ position (λ b. not (is_hex_digit b)) c.args.line.now = position_from_yields_List (λ b. not (is_hex_digit b)) _ _ c.position.result c.position.ensures.ran (YieldsList-from_slice c.args.line.now cc) (λ x b q k. search (rules, tests)) in
    grind (arith, or_len (λ b. not (is_hex_digit b)) c.args.line.now c.position.result found)

pub returns-then-are_digits-clause-place : goal.returns-then-are_digits-clause-place
returns-then-are_digits-clause-place c = sym (all_digits _ (c.are_digits.ensures c.if-are_digits.true))
