-- The rules of the command's places and options.
use Rattle.std.proofs.Common.{◌≡◌, ◌∙◌, Bool, Some, ap}
use Rattle.clap.specs.Words.{Rule, Text, new_rule}
use Rattle.lwcrun_line.specs.Arguments.{place, valued}

pub placed : (name : Text) (required : Bool) (plain made : Rule) → plain ≡ new_rule name → made ≡ record plain { required = required } → made ≡ place name required
placed name required plain made p m = m ∙ ap (λ (r : Rule). record r { required = required }) p

pub lengthened : (name : Text) (plain made : Rule) → plain ≡ new_rule name → made ≡ record plain { long = Some name } → made ≡ valued name
lengthened name plain made p m = m ∙ ap (λ (r : Rule). record r { long = Some name }) p
