-- What comes of a line, by how it ended.
use Rattle.std.proofs.Common.{◌≡◌, ◌∙◌, inl, ℕ, List, [], Option, None, Some, Result, Ok, Err, IfOk, refl, string_bytes, subst, sym}
use Rattle.lwc_io.specs.Memory.{Named, bytes_of}
use Rattle.lwc_io.specs.Outside.{FilesView, SinkView}
use Rattle.memory_lines.specs.Lines.{IsOutcome}
use Rattle.memory_lines.specs.declared.border.LineError.{LineError}
use Rattle.memory_lines.specs.declared.lines.Outcome.{Outcome}
use Rattle.lwcrun_core.specs.Calls.{CallEnded}
use Rattle.lwcrun_inputs.specs.Statuses.{message_of, status_of}
use Rattle.lwcrun_inputs.specs.declared.status.ExitStatus.{ExitStatus}
use Rattle.lwcrun_line.specs.Lines.{Command, command_of}
use Rattle.lwcrun_inputs.specs.declared.ending.Rejection.{Rejection}
use Rattle.lwcrun_inputs.specs.Ends.{End, Ended}
use Rattle.lwcrun_inputs.specs.Ends as ends
use Rattle.lwcrun_inputs.specs.Views.{outside}
use Rattle.lwcrun_core.specs.Works.{IsText, plan_of}

-- a line that was carried out
of_command : (words : List (List ℕ)) (files : List Named) (command : Command) (before after : FilesView) (out out_after : SinkView) (e : End Rejection) (status : ExitStatus) (output text : List ℕ) → command_of words ≡ Some command → before.contents ≡ bytes_of files → out.taken ≡ Some [] → out_after.taken ≡ Some output → Ended IsText (outside before after out out_after) (plan_of command) e → status ≡ status_of e → text ≡ message_of e → IsOutcome words files status output text
unfolding CallEnded
of_command words files command before after out out_after e status output text asked contents empty taken ended by told =
    let o = outside before after out out_after in
    record {
      end = e;
      over = record { outside = o; contents = contents; before = empty; after = taken; ended = subst (λ (a : Option Command). CallEnded o a e) (sym asked) (inl ended) };
      by = by;
      told = told;
    }

-- a line that is not accepted, whose files are not fetched
of_usage : (words : List (List ℕ)) (files : List Named) (status : ExitStatus) (text : List ℕ) → command_of words ≡ None → status ≡ status_of ends.Usage → text ≡ message_of ends.Usage → IsOutcome words files status [] text
unfolding CallEnded
of_usage words files status text asked by told =
    let view : FilesView = record { contents = bytes_of files; faults = λ _. 0; fetches = [] } in
    let out : SinkView = record { taken = Some []; faults = 0 } in
    record {
      end = ends.Usage;
      over = record { outside = outside view view out out; contents = refl; before = refl; after = refl; ended = subst (λ (a : Option Command). CallEnded (outside view view out out) a ends.Usage) (sym asked) (inl refl, refl, refl) };
      by = by;
      told = told;
    }

-- the status and the message are those of an end, and the output is these bytes
abbrev pub IsLeft : End Rejection → List ℕ → Result Outcome LineError → Type 0
IsLeft e bytes r =
    IfOk r (λ left. left.status ≡ status_of e) × IfOk r (λ left. left.output.items ≡ bytes) × IfOk r (λ left. string_bytes left.message ≡ message_of e)

-- so with what is left of them

pub left_by_command : (r : Result Outcome LineError) (words : List (List ℕ)) (files : List Named) (command : Command) (before after : FilesView) (out out_after : SinkView) (e : End Rejection) (bytes : List ℕ) → command_of words ≡ Some command → before.contents ≡ bytes_of files → out.taken ≡ Some [] → out_after.taken ≡ Some bytes → Ended IsText (outside before after out out_after) (plan_of command) e → IsLeft e bytes r → IfOk r (λ left. IsOutcome words files left.status left.output.items (string_bytes left.message))
left_by_command (Ok left) words files command before after out out_after e bytes asked contents empty taken ended (by, output, told) =
    of_command words files command before after out out_after e left.status left.output.items (string_bytes left.message) asked contents empty (subst (λ (b : List ℕ). out_after.taken ≡ Some b) (sym output) taken) ended by told
left_by_command (Err error) words files command before after out out_after e bytes asked contents empty taken ended left = tt

pub left_by_usage : (r : Result Outcome LineError) (words : List (List ℕ)) (files : List Named) (bytes : List ℕ) → command_of words ≡ None → bytes ≡ [] → IsLeft ends.Usage bytes r → IfOk r (λ left. IsOutcome words files left.status left.output.items (string_bytes left.message))
left_by_usage (Ok left) words files bytes asked empty (by, output, told) =
    subst (λ (b : List ℕ). IsOutcome words files left.status b (string_bytes left.message)) (sym (output ∙ empty)) (of_usage words files left.status (string_bytes left.message) asked by told)
left_by_usage (Err error) words files bytes asked empty left = tt
