-- How contracts see the code's endings, and the outside.
use Rattle.std.specs.Prelude.{ℕ, Result, Ok, Err}
use Rattle.lwc_types.specs.declared.reading.ReadError.{ReadError}
use Rattle.lwc_types.specs.declared.reading.ReadError.TheVariants as errors
use Rattle.lwc_io.specs.Outside.{FilesView, SinkView}
use Rattle.lwcrun_inputs.specs.declared.ending.Ending.{Ending}
use Rattle.lwcrun_inputs.specs.declared.ending.Ending.TheVariants as endings
use Rattle.lwcrun_inputs.specs.declared.ending.Rejection.{Rejection}
use Rattle.lwcrun_inputs.specs.Ends.{End, Outside}
use Rattle.lwcrun_inputs.specs.Ends as ends
use Rattle.lwcrun_inputs.specs.Parts.{Found, Value, Missing}

-- an ending with the name's bytes in place of the name
abbrev pub end_of : Ending → End Rejection
end_of endings.Done = ends.Done
end_of endings.NoMemory = ends.NoMemory
end_of endings.Usage = ends.Usage
end_of (endings.Unread name) = ends.Unread name.now
end_of endings.Unwritten = ends.Unwritten
end_of (endings.Refused rejection) = ends.Refused rejection

-- the end of a call by an error of a reader, whose refusals are rejected by this
abbrev pub error_end : {R : Type 0} → (R → ℕ → Rejection) → ReadError R → End Rejection
error_end reject errors.OutOfMemory = ends.NoMemory
error_end reject (errors.Refused rule at) = ends.Refused (reject rule at)

-- what a part of a call found, seen by view
abbrev pub found : {X A : Type 0} → (X → A) → Result X Ending → Found A Rejection
found view (Ok x) = Value (view x)
found view (Err ending) = Missing (end_of ending)

-- the files and the output, before and after
abbrev pub outside : FilesView → FilesView → SinkView → SinkView → Outside
outside files files_after out out_after =
    record { files = files; files_after = files_after; out = out; out_after = out_after }
