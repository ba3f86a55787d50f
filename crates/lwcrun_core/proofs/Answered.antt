-- How a call's answer follows from how it ended.
use Rattle.std.proofs.Common.{◌≡◌, ◌⊎◌, inl, inr, Option, None, Some, refl, sym, subst}
use Rattle.lwc_io.specs.Outside.{FilesView}
use Rattle.lwcrun_inputs.specs.declared.ending.Rejection.{Rejection}
use Rattle.lwcrun_line.specs.declared.line.LineFault.{LineFault}
use Rattle.lwcrun_line.specs.declared.line.LineFault.TheVariants as line_faults
use Rattle.lwcrun_core.specs.Calls.{CallEnded, CommandEnded, FetchesPlan}
use Rattle.lwcrun_inputs.specs.Ends.{End, Outside, Ended, IsUnwritten}
use Rattle.lwcrun_inputs.specs.Ends as ends
use Rattle.lwcrun_core.specs.Works.{IsText, plan_of}
use Rattle.lwcrun_line.specs.Lines.{Command}
use Rattle.lwcrun_inputs.specs.Plans.{AreFetchesOf}
use Rattle.lwcrun_inputs.specs.Reading.{Fetched}
use Rattle.lwcrun_inputs.specs.Statuses.{MayBeAnsweredAs}
use Rattle.lwcrun_inputs.proofs.Fetches.{nothing_fetched}
use Rattle.lwcrun_inputs.proofs.Follows.{no_fetches}

-- an end of a plan that becomes out of memory for its line is one by which nothing was written
pub ended_as : (o : Outside) (command : Command) (e f : End Rejection) → MayBeAnsweredAs e f → Ended IsText o (plan_of command) e → Ended IsText o (plan_of command) f
unfolding Ended
ended_as o command ends.Done f is h = subst (Ended IsText o (plan_of command)) (sym is) h
ended_as o command ends.NoMemory f is h = subst (Ended IsText o (plan_of command)) (sym is) h
ended_as o command ends.Usage f is h = absurd h
ended_as o command (ends.Unread name) f is h = subst (Ended IsText o (plan_of command)) (sym is) h
ended_as o command ends.Unwritten f is h = subst (Ended IsText o (plan_of command)) (sym is) h
ended_as o command (ends.Refused rejection) f (inl is) h = subst (Ended IsText o (plan_of command)) (sym is) h
ended_as o command (ends.Refused rejection) f (inr is) h = subst (Ended IsText o (plan_of command)) (sym is) h.1

-- what ended for out of memory is answered so
answered_so : (e f : End Rejection) → MayBeAnsweredAs e f → e ≡ ends.NoMemory → f ≡ ends.NoMemory
answered_so e f as_it is = let P : End Rejection → Type 0 = λ x. MayBeAnsweredAs x f in subst P is as_it

-- the end of an accepted line's call
pub call_ended : (o : Outside) (asked : Option Command) (command : Command) (e f : End Rejection) → asked ≡ Some command → MayBeAnsweredAs e f → CommandEnded o command e → CallEnded o asked f
unfolding CallEnded
call_ended o asked command e f is ends_as (inl h) = subst (λ a. CallEnded o a f) (sym is) (inl (ended_as o command e f ends_as h))
call_ended o asked command e f is ends_as (inr (stream, memory, wrote)) = subst (λ a. CallEnded o a f) (sym is) (inr (stream, answered_so e f ends_as memory, wrote))

-- the end of a call that ran out of memory before anything was done, or whose line is not accepted
pub not_begun : (o : Outside) (asked : Option Command) (e : End Rejection) → IsUnwritten o → o.files_after ≡ o.files → (e ≡ ends.NoMemory) ⊎ ((asked ≡ None) × (e ≡ ends.Usage)) → CallEnded o asked e
unfolding CallEnded Ended
not_begun o None e same unread (inl is) = (inr is, same, unread)
not_begun o (Some command) e same unread (inl is) = inl (subst (Ended IsText o (plan_of command)) (sym is) same)
not_begun o asked e same unread (inr is) = subst (λ a. CallEnded o a e) (sym is.0) (inl is.1, same, unread)

-- how a line that was not read ends: for out of memory, or since it is not accepted
pub line_ended : (asked : Option Command) (first e : End Rejection) → (first ≡ ends.NoMemory) ⊎ ((asked ≡ None) × (first ≡ ends.Usage)) → MayBeAnsweredAs first e → (e ≡ ends.NoMemory) ⊎ ((asked ≡ None) × (e ≡ ends.Usage))
line_ended asked first e (inl is) as_it = inl (let P : End Rejection → Type 0 = λ f. MayBeAnsweredAs f e in subst P is as_it)
line_ended asked first e (inr is) as_it = inr (is.0, (let P : End Rejection → Type 0 = λ f. MayBeAnsweredAs f e in subst P is.1 as_it))

-- a fault of the line, as its end
pub line_fault : (asked : Option Command) (fault : LineFault) (first : End Rejection) → (fault ≡ line_faults.Usage → asked ≡ None) → (first ≡ ends.NoMemory) ⊎ ((fault ≡ line_faults.Usage) × (first ≡ ends.Usage)) → (first ≡ ends.NoMemory) ⊎ ((asked ≡ None) × (first ≡ ends.Usage))
line_fault asked fault first usage (inl is) = inl is
line_fault asked fault first usage (inr is) = inr (usage is.0, is.1)

-- a call that did not begin fetches nothing
pub fetches_nothing : (asked : Option Command) (files : FilesView) → FetchesPlan asked files files
fetches_nothing None files = refl
fetches_nothing (Some command) files = nothing_fetched files.fetches (no_fetches files.contents (plan_of command))

-- an accepted line's call fetches what its plan comes to
pub fetches_asked : (asked : Option Command) (command : Command) (files after : FilesView) → asked ≡ Some command → Fetched (AreFetchesOf files.contents (plan_of command)) files.fetches after.fetches → FetchesPlan asked files after
fetches_asked asked command files after is h = subst (λ a. FetchesPlan a files after) (sym is) h
