-- How a call's end follows from what its parts answered.
use Rattle.std.proofs.Common.{◌≡◌, ◌<◌, inl, inr, ℕ, List, [], ◌++◌, Result, Ok, Err, refl, sym, subst, ap, ◌∙◌, append_assoc, All}
use Rattle.lwc_io.specs.Outside.{CountsOneFault, Fetch, FilesView, IsPartTaken, MayBeContents, SinkView, appended}
use Rattle.lwcrun_inputs.specs.Ends.{End, Outside, Ended, FetchFailed, IsUnwritten, NoFetchFailed, NothingFailed, WriteFailed}
use Rattle.lwcrun_inputs.specs.Ends as ends
use Rattle.lwcrun_inputs.specs.Parts.{Found, Gathers, ReadsBy}
use Rattle.lwcrun_inputs.specs.Parts as parts
use Rattle.lwcrun_inputs.specs.Plans.{Plan, AreFetchesOf, FileContents, LeadsTo, Reads, accepted}
use Rattle.lwcrun_inputs.specs.Plans as plans
use Rattle.lwcrun_inputs.specs.Reading.{Fetched, ReadsOnward, ReadsToTheEnd}
use Rattle.lwcrun_inputs.specs.Views.{end_of, found, outside}
use Rattle.lwcrun_inputs.specs.declared.ending.Ending.{Ending}
use Rattle.lwcrun_inputs.specs.declared.ending.Rejection.{Rejection}
use Rattle.std.specs.Prelude.{IsErr, IsErrAnd}
use Rattle.lwcrun_inputs.proofs.Fetches.{increased_by_then, none_onward}

module _ {A R W : Type 0} (IsText : W → List ℕ → Type 0) (grammar : List ℕ → Result A R) (name : List ℕ) (limit : ℕ) (next : A → Plan R W) where
  -- a file is read by the grammar, and its value says what follows
  abbrev pub reading : Plan R W
  reading = plans.Read name limit (λ bytes. accepted (grammar bytes) next)

  -- a file that was not read ends the plan
  pub stops_reading : (o : Outside) (e : End R) → ReadsBy grammar o.files o.files_after name (parts.Missing e) → IsUnwritten o → Ended IsText o reading e
  unfolding ReadsBy Ended
  stops_reading o ends.Done h same = absurd h
  stops_reading o ends.NoMemory h same = same
  stops_reading o ends.Usage h same = absurd h
  stops_reading o (ends.Unread asked) h same = (inl h.0, subst (FetchFailed o) (sym h.0) h.1, same)
  stops_reading o ends.Unwritten h same = absurd h
  stops_reading o (ends.Refused refusal) h same = ((h.0, record { contents = h.1; range = tt }, subst (λ x. LeadsTo o.files.contents (accepted x next) (Err refusal)) (sym h.2) refl), same, h.3)

  -- behind a file that was read, the end of what follows is the end of the plan
  pub continues : (o : Outside) (e : End R) (x : A) (bytes : List ℕ) → MayBeContents (o.files.contents name) bytes → All (λ b. b < 256) bytes → grammar bytes ≡ Ok x → Ended IsText o (next x) e → Ended IsText o reading e
  unfolding Ended
  continues o ends.Done x bytes may fits is h = (h.0, (bytes, record { contents = may; range = fits }, subst (λ y. LeadsTo o.files.contents (accepted y next) (Ok h.0)) (sym is) h.1), h.2, h.3)
  continues o ends.NoMemory x bytes may fits is h = h
  continues o ends.Usage x bytes may fits is h = h
  continues o (ends.Unread asked) x bytes may fits is h = (inr (bytes, may, subst (λ y. Reads o.files.contents (accepted y next) asked) (sym is) h.0), h.1, h.2)
  continues o ends.Unwritten x bytes may fits is h = (h.0, (bytes, record { contents = may; range = fits }, subst (λ y. LeadsTo o.files.contents (accepted y next) (Ok h.0)) (sym is) h.1), h.2, h.3, h.4)
  continues o (ends.Refused refusal) x bytes may fits is h = ((bytes, record { contents = may; range = tt }, subst (λ y. LeadsTo o.files.contents (accepted y next) (Err refusal)) (sym is) h.0), h.1, h.2)

-- what ended since some time ended since an earlier one
since : {R W : Type 0} (IsText : W → List ℕ → Type 0) (files mid after : FilesView) (out out_after : SinkView) (p : Plan R W) (e : End R) → mid.contents ≡ files.contents → mid.faults ≡ files.faults
    → Ended IsText (outside mid after out out_after) p e → Ended IsText (outside files after out out_after) p e
unfolding Ended
since IsText files mid after out out_after p ends.Done same earlier h = (h.0, subst (λ f. LeadsTo f p (Ok h.0)) same h.1, h.2, record { files = h.3.files ∙ earlier; out = h.3.out })
since IsText files mid after out out_after p ends.NoMemory same earlier h = h
since IsText files mid after out out_after p ends.Usage same earlier h = h
since IsText files mid after out out_after p (ends.Unread asked) same earlier h = (subst (λ f. Reads f p asked) same h.0, increased_by_then files mid after asked earlier h.1, h.2)
since IsText files mid after out out_after p ends.Unwritten same earlier h = (h.0, subst (λ f. LeadsTo f p (Ok h.0)) same h.1, h.2, h.3, h.4 ∙ earlier)
since IsText files mid after out out_after p (ends.Refused refusal) same earlier h = (subst (λ f. LeadsTo f p (Err refusal)) same h.0, h.1, h.2 ∙ earlier)

-- where the reading of a file ends the plan, what was fetched of the file is all
pub fetches_stop : {R W : Type 0} (files : FileContents) (name : List ℕ) (limit : ℕ) (next : List ℕ → Plan R W) (before after : List Fetch) → Fetched (ReadsOnward name limit) before after → Fetched (AreFetchesOf files (plans.Read name limit next)) before after
fetches_stop files name limit next before after h = (h.0, h.1, inl h.2)

-- a plan may end before anything is fetched
pub no_fetches : {R W : Type 0} (files : FileContents) (p : Plan R W) → AreFetchesOf files p []
no_fetches files (plans.Read name limit next) = inl (none_onward name limit)
no_fetches files (plans.Refuse refusal) = refl
no_fetches files (plans.Write work) = refl

module _ {A R W : Type 0} (IsText : W → List ℕ → Type 0) (grammar : List ℕ → Result A R) (name : List ℕ) (limit : ℕ) (next : A → Plan R W) where
  -- behind a file that was read, the end of what follows is the end of the plan, from where the reading left the files
  pub reads_on : (files mid after : FilesView) (out out_after : SinkView) (x : A) (e : End R) →
      ReadsBy grammar files mid name (parts.Value x) → mid.contents ≡ files.contents →
      Ended IsText (outside mid after out out_after) (next x) e → Ended IsText (outside files after out out_after) (reading IsText grammar name limit next) e
  unfolding ReadsBy
  reads_on files mid after out out_after x e h same ended =
      continues IsText grammar name limit next (outside files after out out_after) e x h.0 h.1 h.2 h.3
      (since IsText files mid after out out_after (next x) e same h.4 ended)

  -- behind a file that was read, what follows is fetched
  pub fetches_on : (files mid : FilesView) (after : List Fetch) (x : A) → ReadsBy grammar files mid name (parts.Value x) → mid.contents ≡ files.contents → Fetched (ReadsToTheEnd name limit) files.fetches mid.fetches →
      Fetched (AreFetchesOf mid.contents (next x)) mid.fetches after → Fetched (AreFetchesOf files.contents (reading IsText grammar name limit next)) files.fetches after
  unfolding ReadsBy
  fetches_on files mid after x h same first rest = (
    first.0 ++ rest.0,
    rest.1 ∙ ap (λ xs. xs ++ rest.0) first.1 ∙ append_assoc files.fetches first.0 rest.0,
    inr (
      first.0,
      rest.0,
      refl,
      first.2,
      (
        h.0,
        h.1,
        subst (λ y. AreFetchesOf files.contents (accepted y next) rest.0) (sym h.3) (subst (λ f. AreFetchesOf f (next x) rest.0) same rest.2),
      ),
    ),
  )

-- a work's text was written
pub writes : (R : Type 0) {W : Type 0} (IsText : W → List ℕ → Type 0) (o : Outside) (work : W) (text : List ℕ) → IsText work text → o.out_after.taken ≡ appended o.out.taken text → NothingFailed o → Ended {R = R} IsText o (plans.Write work) ends.Done
unfolding Ended
writes R IsText o work text is taken fine = (work, refl, (text, is, taken), fine)

-- a work's text was not written whole
pub writes_in_part : (R : Type 0) {W : Type 0} (IsText : W → List ℕ → Type 0) (o : Outside) (work : W) (text : List ℕ) → IsText work text → IsPartTaken o.out.taken o.out_after.taken text → WriteFailed o → NoFetchFailed o → Ended {R = R} IsText o (plans.Write work) ends.Unwritten
unfolding Ended
writes_in_part R IsText o work text is part failed fine = (work, refl, (text, is, part), failed, fine)

module _ {A R W : Type 0} (IsText : W → List ℕ → Type 0) (grammar : List ℕ → Result A R) (name : List ℕ) (limit : ℕ) (next : A → Plan R W) where
  -- where a file was not read, nothing is gathered
  pub gathers_stop : (files after : FilesView) (e : End R) → ReadsBy grammar files after name (parts.Missing e) → Gathers files after (reading IsText grammar name limit next) (parts.Missing e)
  unfolding ReadsBy Gathers
  gathers_stop files after ends.Done h = h
  gathers_stop files after ends.NoMemory h = h
  gathers_stop files after ends.Usage h = h
  gathers_stop files after (ends.Unread asked) h = (inl h.0, subst (λ q. CountsOneFault (files.faults q) (after.faults q)) (sym h.0) h.1)
  gathers_stop files after ends.Unwritten h = h
  gathers_stop files after (ends.Refused refusal) h = ((h.0, record { contents = h.1; range = tt }, subst (λ x. LeadsTo files.contents (accepted x next) (Err refusal)) (sym h.2) refl), h.3)

  -- behind a file that was read, what follows is gathered
  pub gathers_on : (files mid after : FilesView) (x : A) (f : Found W R) → ReadsBy grammar files mid name (parts.Value x) → mid.contents ≡ files.contents → Gathers mid after (next x) f → Gathers files after (reading IsText grammar name limit next) f
  unfolding ReadsBy Gathers
  gathers_on files mid after x (parts.Value work) read same h =
      ((read.0, record { contents = read.1; range = read.2 }, subst (λ y. LeadsTo files.contents (accepted y next) (Ok work)) (sym read.3) (subst (λ c. LeadsTo c (next x) (Ok work)) same h.0)), h.1 ∙ read.4)
  gathers_on files mid after x (parts.Missing ends.Done) read same h = h
  gathers_on files mid after x (parts.Missing ends.NoMemory) read same h = h
  gathers_on files mid after x (parts.Missing ends.Usage) read same h = h
  gathers_on files mid after x (parts.Missing (ends.Unread asked)) read same h =
      (inr (read.0, read.1, subst (λ y. Reads files.contents (accepted y next) asked) (sym read.3) (subst (λ c. Reads c (next x) asked) same h.0)), increased_by_then files mid after asked read.4 h.1)
  gathers_on files mid after x (parts.Missing ends.Unwritten) read same h = h
  gathers_on files mid after x (parts.Missing (ends.Refused refusal)) read same h =
      ((read.0, record { contents = read.1; range = tt }, subst (λ y. LeadsTo files.contents (accepted y next) (Err refusal)) (sym read.3) (subst (λ c. LeadsTo c (next x) (Err refusal)) same h.0)), h.1 ∙ read.4)

-- a last file, and the work that its value says
pub gathers_last : {X A W : Type 0} (IsText : W → List ℕ → Type 0) (grammar : List ℕ → Result A Rejection) (name : List ℕ) (limit : ℕ) (work : A → W) (files after : FilesView) (view : X → A) (result : Result X Ending) → ReadsBy grammar files after name (found view result)
    → Gathers files after (reading IsText grammar name limit (λ x. plans.Write (work x))) (found (λ x. work (view x)) result)
unfolding ReadsBy Gathers
gathers_last IsText grammar name limit work files after view (Ok x) h =
    ((h.0, record { contents = h.1; range = h.2 }, subst (λ y. LeadsTo files.contents (accepted y (λ v. plans.Write (work v))) (Ok (work (view x)))) (sym h.3) refl), h.4)
gathers_last IsText grammar name limit work files after view (Err y) h = gathers_stop IsText grammar name limit (λ x. plans.Write (work x)) files after (end_of y) h

-- at the end of a plan nothing is left to gather
pub gathers_all : (R : Type 0) {W : Type 0} (files : FilesView) (work : W) → Gathers {R = R} files files (plans.Write work) (parts.Value work)
unfolding Gathers
gathers_all R files work = (refl, refl)

-- an ending before all was gathered is handed on
pub gathers_none : {X W : Type 0} (files after : FilesView) (p : Plan Rejection W) (view : X → W) (ending : Ending) (result : Result X Ending) → IsErr result → IsErrAnd result (λ y. y ≡ ending) → Gathers files after p (parts.Missing (end_of ending)) → Gathers files after p (found view result)
gathers_none files after p view ending (Ok x) err and h = absurd cc
gathers_none files after p view ending (Err y) err and h = subst (λ y. Gathers files after p (parts.Missing (end_of y))) (sym and) h

-- where files were not gathered, that ends the plan
pub ended_before : {R W : Type 0} (IsText : W → List ℕ → Type 0) (files after : FilesView) (out : SinkView) (p : Plan R W) (e : End R) → Gathers files after p (parts.Missing e) → Ended IsText (outside files after out out) p e
unfolding Gathers Ended
ended_before IsText files after out p ends.Done h = absurd h
ended_before IsText files after out p ends.NoMemory h = refl
ended_before IsText files after out p ends.Usage h = h
ended_before IsText files after out p (ends.Unread name) h = (h.0, h.1, refl)
ended_before IsText files after out p ends.Unwritten h = absurd h
ended_before IsText files after out p (ends.Refused refusal) h = (h.0, refl, h.1)

-- where a work was gathered, its end is the end of the plan
pub ended_behind : {R W : Type 0} (IsText : W → List ℕ → Type 0) (files mid : FilesView) (out out_after : SinkView) (p : Plan R W) (work : W) (e : End R) → Gathers files mid p (parts.Value work) → Ended {R = R} IsText (outside mid mid out out_after) (plans.Write work) e → Ended IsText (outside files mid out out_after) p e
unfolding Gathers Ended
ended_behind IsText files mid out out_after p work ends.Done g h = (h.0, subst (LeadsTo files.contents p) (sym h.1) g.0, h.2, record { files = g.1; out = h.3.out })
ended_behind IsText files mid out out_after p work ends.NoMemory g h = h
ended_behind IsText files mid out out_after p work ends.Usage g h = h
ended_behind IsText files mid out out_after p work (ends.Unread name) g h = absurd h.0
ended_behind IsText files mid out out_after p work ends.Unwritten g h = (h.0, subst (LeadsTo files.contents p) (sym h.1) g.0, h.2, h.3, g.1)
ended_behind IsText files mid out out_after p work (ends.Refused refusal) g h = absurd (cc h.0)
