-- How a stream's end follows from what its parts answered.
use Rattle.std.proofs.Common.{inl, inr, ℕ, false, true, List, refl, sym, subst}
use Rattle.kernel_core.specs.Histories.{IsComplete}
use Rattle.kernel_core.specs.Runs.{run}
use Rattle.kernel_core.specs.Start.{Inputs, start}
use Rattle.lwc_io.specs.Outside.{FilesView, SinkView}
use Rattle.lwc_stream.specs.Replies.{IsWritten}
use Rattle.lwc_text.specs.Report.{replies_text, stream_text}
use Rattle.lwcrun_core.specs.StreamEnds.{StreamEnded}
use Rattle.lwcrun_inputs.specs.Ends.{End}
use Rattle.lwcrun_inputs.specs.Ends as ends
use Rattle.lwcrun_core.specs.Works.{IsText, Work, read_by}
use Rattle.lwcrun_core.specs.Works as works
use Rattle.lwcrun_inputs.specs.Parts.{Gathers}
use Rattle.lwcrun_inputs.specs.Parts as parts
use Rattle.lwcrun_inputs.specs.Plans.{Plan, LeadsTo, accepted}
use Rattle.lwcrun_inputs.specs.Plans as plans
use Rattle.lwcrun_inputs.specs.Views.{outside}
use Rattle.lwcrun_inputs.specs.declared.ending.Rejection.{Rejection}
use Rattle.lwcrun_inputs.proofs.Follows.{ended_behind, writes, writes_in_part}

-- where a stream was gathered, its end is the end of the plan
pub streams_behind : (files mid : FilesView) (out out_after : SinkView) (p : Plan Rejection Work) (work : Work) (e : End Rejection) → Gathers files mid p (parts.Value work) → StreamEnded (outside mid mid out out_after) (plans.Write work) e → StreamEnded (outside files mid out out_after) p e
unfolding Gathers
streams_behind files mid out out_after p work e gathered (inl ended) = inl (ended_behind IsText files mid out out_after p work e gathered ended)
streams_behind files mid out out_after p work e gathered (inr (memory, (inputs, steps, leads, complete, taken, fine))) =
    inr (memory, (inputs, steps, subst (LeadsTo files.contents p) (sym leads) gathered.0, complete, taken, record { files = gathered.1; out = fine.out }))

-- the text of a stream was written, or its first bytes, or its replies
module _ (files : FilesView) (before after : SinkView) (inputs : Inputs) (steps : List ℕ) (complete : IsComplete (start inputs) steps) where
  abbrev Ends : End Rejection → Type 0
  Ends e = StreamEnded (outside files files before after) (plans.Write (works.Streaming inputs)) e

  pub stream_done : IsWritten false before after (stream_text inputs steps) → Ends ends.Done
  stream_done w = inl (writes Rejection IsText _ (works.Streaming inputs) _ (steps, complete, refl) w.0 (record { files = refl; out = w.1 }))

  pub stream_cut : IsWritten true before after (stream_text inputs steps) → Ends ends.Unwritten
  stream_cut w = inl (writes_in_part Rejection IsText _ (works.Streaming inputs) _ (steps, complete, refl) w.0 w.1 refl)

  pub stream_short : IsWritten false before after (replies_text (run (start inputs) steps)) → Ends ends.NoMemory
  stream_short w = inr (refl, (inputs, steps, refl, complete, w.0, record { files = refl; out = w.1 }))
