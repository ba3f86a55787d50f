-- The names of the rules.
use Rattle.std.specs.Prelude.{ℕ, List, codes}
use Rattle.lwc_text.specs.declared.fault.InputRule.{InputRule}
use Rattle.lwc_text.specs.declared.fault.InputRule.TheVariants.{TooLong, BadThread, TooManySteps, TooManyRequests}
use Rattle.lwc_text.specs.declared.fault.InputRule.TheVariants.{BadHex, RequestTooLong, OddLength, TooMuchWork}
use Rattle.lwc_text.specs.declared.fault.InputRule.TheVariants.{Truncated, BadEntry, BadPage, SlotTaken, BadCommand}
use Rattle.lwc_text.specs.declared.fault.InputRule.TheVariants.{TooManyCommands}

-- the bytes of a rule's name
abbrev pub rule_name : InputRule → List ℕ
rule_name TooLong = codes "TooLong"
rule_name BadThread = codes "BadThread"
rule_name TooManySteps = codes "TooManySteps"
rule_name TooManyRequests = codes "TooManyRequests"
rule_name BadHex = codes "BadHex"
rule_name RequestTooLong = codes "RequestTooLong"
rule_name OddLength = codes "OddLength"
rule_name TooMuchWork = codes "TooMuchWork"
rule_name Truncated = codes "Truncated"
rule_name BadEntry = codes "BadEntry"
rule_name BadPage = codes "BadPage"
rule_name SlotTaken = codes "SlotTaken"
rule_name BadCommand = codes "BadCommand"
rule_name TooManyCommands = codes "TooManyCommands"
