-- The names of the rules.
use Rattle.std.specs.Prelude.{ℕ, List, codes}
use Rattle.guest_image.specs.declared.fault.ImageRule.{ImageRule}
use Rattle.guest_image.specs.declared.fault.ImageRule.TheVariants.{TooLong, BadMagic, Truncated, BadCount}
use Rattle.guest_image.specs.declared.fault.ImageRule.TheVariants.{BadInstruction, BadTarget, BadPage, BadFile}
use Rattle.guest_image.specs.declared.fault.ImageRule.TheVariants.{BadSlot, BadEntry, Trailing}

-- the bytes of a rule's name
abbrev pub rule_name : ImageRule → List ℕ
rule_name TooLong = codes "TooLong"
rule_name BadMagic = codes "BadMagic"
rule_name Truncated = codes "Truncated"
rule_name BadCount = codes "BadCount"
rule_name BadInstruction = codes "BadInstruction"
rule_name BadTarget = codes "BadTarget"
rule_name BadPage = codes "BadPage"
rule_name BadFile = codes "BadFile"
rule_name BadSlot = codes "BadSlot"
rule_name BadEntry = codes "BadEntry"
rule_name Trailing = codes "Trailing"
