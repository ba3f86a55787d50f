use Rattle.std.proofs.Common.{◌≡◌, false, take}
use Rattle.std.specs.Fmt.{digits}
use Rattle.std.specs.List.{flat_map}
use Rattle.std.specs.String.{string_bytes}
use Rattle.lwc_text.proofs.lines.steps_text.Given as goal

abbrev pub invariant-steps : goal.invariant-steps
invariant-steps l = string_bytes l.text ≡ flat_map (λ t. digits 16 false t) (take l.thread-index l.steps)
