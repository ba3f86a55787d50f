-- The names of the rules.
use Rattle.std.specs.Prelude.{ℕ, List, codes}
use Rattle.guest_image.specs.Rules as image
use Rattle.guest_asm.specs.declared.error.SourceRule.{SourceRule}
use Rattle.guest_asm.specs.declared.error.SourceRule.TheVariants.{TooLong, BadLine, BadOperand, BadLabel, Image}

-- the bytes of a rule's name
abbrev pub rule_name : SourceRule → List ℕ
rule_name TooLong = codes "TooLong"
rule_name BadLine = codes "BadLine"
rule_name BadOperand = codes "BadOperand"
rule_name BadLabel = codes "BadLabel"
rule_name (Image rule) = image.rule_name rule
