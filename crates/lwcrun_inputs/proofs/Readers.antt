-- What the readers of inputs answer, one test after another.
use Rattle.std.proofs.Common.{◌≡◌, ◌<◌, ◌≤◌, ℕ, Bool, true, false, cond, List, length, ltb, Result, Ok, Err, refl, sym, subst, ap, ◌∙◌, arith}
use Rattle.std.specs.Prelude.{nat_lt}
use Rattle.std.specs.Result.{IsErr, IsErrAnd}
use Rattle.std.proofs.lemmas.Bool.{le-ltb, lt-ltb, ltb-false}
use Rattle.std.proofs.lemmas.Bool.Decides.{nat_tests}
use Rattle.lwc_types.specs.Outcomes.{Refusal, Fails}
use Rattle.lwc_types.specs.declared.reading.ReadError.{ReadError}
use Rattle.lwc_types.specs.declared.reading.ReadError.TheVariants as errors
use Rattle.guest_asm.specs.Drafts.{assembled, draft_at}
use Rattle.guest_asm.specs.declared.error.SourceRule.TheVariants as sources
use Rattle.guest_image.specs.Reading.{image_at}
use Rattle.guest_image.specs.declared.fault.ImageRule.TheVariants.{TooLong}
use Rattle.guest_image.specs.declared.image.Image.{Image}
use Rattle.kernel_core.specs.declared.settings.Settings.{Settings}
use Rattle.lwc_types.specs.declared.limits.TheConstants.{MOST_IMAGE_BYTES, MOST_REQUEST_FILE_BYTES, MOST_SCHEDULE_BYTES, MOST_SOURCE_BYTES, MOST_STEPS}
use Rattle.lwc_io.specs.Outside.{FilesView}
use Rattle.lwc_text.specs.Requests.{requests_at}
use Rattle.lwc_text.specs.Schedules.{schedule_at}
use Rattle.lwc_text.specs.declared.fault.InputRule.TheVariants as inputs
use Rattle.lwcrun_inputs.specs.declared.ending.Ending.{Ending}
use Rattle.lwcrun_inputs.specs.declared.ending.Rejection.{Rejection}
use Rattle.lwcrun_inputs.specs.declared.ending.Rejection.TheVariants as rejections
use Rattle.lwcrun_inputs.specs.Ends.{End}
use Rattle.lwcrun_inputs.specs.Ends as ends
use Rattle.lwcrun_inputs.specs.Inputs.{bounded, bounded_requests_of, fitted, image_of, or_rejected, requests_of, schedule_of, serve_steps, source_of, then_tested, within_limit}
use Rattle.lwcrun_inputs.specs.Parts.{ReadsBy}
use Rattle.lwcrun_inputs.specs.Parts as parts
use Rattle.lwcrun_inputs.specs.Views.{end_of, error_end, found}
use Rattle.guest_image.proofs.WholeLaws.{too_long}

module _ {A B : Type 0} (first : List ℕ → Result A Rejection) (test : A → Result B Rejection) (both : List ℕ → Result B Rejection) (is : (bytes : List ℕ) → both bytes ≡ then_tested (first bytes) test) (files after : FilesView) (name : List ℕ) where
  -- what the first test misses is missed
  pub missing : (e : End Rejection) → ReadsBy first files after name (parts.Missing e) → ReadsBy both files after name (parts.Missing e)
  unfolding ReadsBy
  missing ends.Done h = h
  missing ends.NoMemory h = tt
  missing ends.Usage h = h
  missing (ends.Unread asked) h = h
  missing ends.Unwritten h = h
  missing (ends.Refused r) h = (h.0, h.1, is h.0 ∙ ap (λ x. then_tested x test) h.2, h.3)

  -- what passes both tests was read
  pub passed : (y : A) (x : B) → ReadsBy first files after name (parts.Value y) → test y ≡ Ok x → ReadsBy both files after name (parts.Value x)
  unfolding ReadsBy
  passed y x h ok = (h.0, h.1, h.2, is h.0 ∙ ap (λ r. then_tested r test) h.3 ∙ ok, h.4)

  -- what the second test rejects is rejected
  pub rejected : (y : A) (r : Rejection) → ReadsBy first files after name (parts.Value y) → test y ≡ Err r → ReadsBy both files after name (parts.Missing (ends.Refused r))
  unfolding ReadsBy
  rejected y r h err = (h.0, h.1, is h.0 ∙ ap (λ x. then_tested x test) h.3 ∙ err, h.4)

  -- what the reader of the second test refuses is rejected, unless memory runs out
  pub failed : {R C : Type 0} (reject : R → ℕ → Rejection) (read : Result C (Refusal R)) (y : A) (error : ReadError R) (e : End Rejection) → ReadsBy first files after name (parts.Value y) →
      ((refusal : Refusal R) → read ≡ Err refusal → test y ≡ Err (reject refusal.rule refusal.at)) → e ≡ error_end reject error → Fails error read → ReadsBy both files after name (parts.Missing e)
  unfolding ReadsBy
  failed reject read y errors.OutOfMemory e h refuses by fails = subst (λ f. ReadsBy both files after name (parts.Missing f)) (sym by) tt
  failed reject read y (errors.Refused rule at) e h refuses by fails =
      subst (λ f. ReadsBy both files after name (parts.Missing f)) (sym by) (rejected y (reject rule at) h (refuses (record { rule = rule; at = at }) fails))

  -- an ending of the first test is handed on
  pub handed_on : {X : Type 0} (view : X → B) (ending : Ending) (result : Result X Ending) → IsErr result → IsErrAnd result (λ y. y ≡ ending) → ReadsBy first files after name (parts.Missing (end_of ending)) → ReadsBy both files after name (found view result)
  handed_on view ending (Ok x) err and h = absurd cc
  handed_on view ending (Err y) err and h = subst (λ y. ReadsBy both files after name (parts.Missing (end_of y))) (sym and) (missing (end_of ending) h)

  -- an error of the second test's reader is handed on as an ending
  pub fails_so : {X R C : Type 0} (view : X → B) (reject : R → ℕ → Rejection) (read : Result C (Refusal R)) (y : A) (error : ReadError R) (result : Result X Ending) → IsErr result → IsErrAnd result (λ ending. end_of ending ≡ error_end reject error) → ReadsBy first files after name (parts.Value y) →
      ((refusal : Refusal R) → read ≡ Err refusal → test y ≡ Err (reject refusal.rule refusal.at)) → Fails error read → ReadsBy both files after name (found view result)
  fails_so view reject read y error (Ok x) err and h refuses fails = absurd cc
  fails_so view reject read y error (Err ending) err and h refuses fails = failed reject read y error (end_of ending) h refuses and fails

limited_by : {B : Type 0} (limit : ℕ) (r : Rejection) (grammar : List ℕ → Result B Rejection) (bytes : List ℕ) → (limit < length bytes → grammar bytes ≡ Err r) →
    (b : Bool) → ltb limit (length bytes) ≡ b → grammar bytes ≡ then_tested (cond b (Err r) (Ok bytes)) grammar
limited_by limit r grammar bytes long true is = long (grind (arith, nat_tests))
limited_by limit r grammar bytes long false is = refl

-- a grammar that rejects what is longer than a limit may be tested for that first
pub limited : {B : Type 0} (limit : ℕ) (r : Rejection) (grammar : List ℕ → Result B Rejection) → ((bytes : List ℕ) → limit < length bytes → grammar bytes ≡ Err r) →
    (bytes : List ℕ) → grammar bytes ≡ then_tested (within_limit limit r bytes) grammar
limited limit r grammar long bytes = limited_by limit r grammar bytes (long bytes) (ltb limit (length bytes)) refl

-- bytes that are no more than a limit
pub is_within : (limit : ℕ) (r : Rejection) (bytes : List ℕ) → length bytes ≤ limit → within_limit limit r bytes ≡ Ok bytes
is_within limit r bytes short = rw (le-ltb _ _ short) refl

-- bytes that are more than a limit
pub is_over : (limit : ℕ) (r : Rejection) (bytes : List ℕ) → limit < length bytes → within_limit limit r bytes ≡ Err r
is_over limit r bytes long = rw (lt-ltb _ _ long) refl

-- what a test accepts was accepted before
pub tested : {A B : Type 0} (r : Result A Rejection) (test : A → Result B Rejection) (x : B) → then_tested r test ≡ Ok x → (y : A) × (r ≡ Ok y) × (test y ≡ Ok x)
tested (Ok y) test x e = (y, refl, e)
tested (Err rejection) test x e = absurd cc

-- what is refused is rejected
pub or_rejected_err : {R A : Type 0} (reject : R → ℕ → Rejection) (r : Result A (Refusal R)) (refusal : Refusal R) → r ≡ Err refusal → or_rejected reject r ≡ Err (reject refusal.rule refusal.at)
or_rejected_err reject r refusal is = ap (or_rejected reject) is

-- the grammars reject what is too long

too_long_image : (bytes : List ℕ) → MOST_IMAGE_BYTES < length bytes → image_of bytes ≡ Err (rejections.Image TooLong MOST_IMAGE_BYTES)
unfolding image_of
too_long_image bytes long = ap (or_rejected rejections.Image) (too_long bytes long)

too_long_source : (bytes : List ℕ) → MOST_SOURCE_BYTES < length bytes → source_of bytes ≡ Err (rejections.Source sources.TooLong MOST_SOURCE_BYTES)
unfolding source_of assembled draft_at
too_long_source bytes long = rw (lt-ltb MOST_SOURCE_BYTES (length bytes) long) refl

too_long_schedule : (threads most : ℕ) (bytes : List ℕ) → MOST_SCHEDULE_BYTES < length bytes → schedule_of threads most bytes ≡ Err (rejections.Input inputs.TooLong MOST_SCHEDULE_BYTES)
unfolding schedule_of schedule_at
too_long_schedule threads most bytes long = rw (lt-ltb MOST_SCHEDULE_BYTES (length bytes) long) refl

too_long_requests : (bytes : List ℕ) → MOST_REQUEST_FILE_BYTES < length bytes → requests_of bytes ≡ Err (rejections.Input inputs.TooLong MOST_REQUEST_FILE_BYTES)
unfolding requests_of requests_at
too_long_requests bytes long = rw (lt-ltb MOST_REQUEST_FILE_BYTES (length bytes) long) refl

too_long_to_serve : (settings : Settings) (bytes : List ℕ) → MOST_REQUEST_FILE_BYTES < length bytes → bounded_requests_of settings bytes ≡ Err (rejections.Input inputs.TooLong MOST_REQUEST_FILE_BYTES)
unfolding bounded_requests_of
too_long_to_serve settings bytes long = ap (λ r. then_tested r (bounded settings (length bytes))) (too_long_requests bytes long)

pub image_limited : (bytes : List ℕ) → image_of bytes ≡ then_tested (within_limit MOST_IMAGE_BYTES (rejections.Image TooLong MOST_IMAGE_BYTES) bytes) image_of
image_limited = limited MOST_IMAGE_BYTES _ image_of too_long_image

pub source_limited : (bytes : List ℕ) → source_of bytes ≡ then_tested (within_limit MOST_SOURCE_BYTES (rejections.Source sources.TooLong MOST_SOURCE_BYTES) bytes) source_of
source_limited = limited MOST_SOURCE_BYTES _ source_of too_long_source

pub schedule_limited : (threads most : ℕ) (r : Rejection) → r ≡ rejections.Input inputs.TooLong MOST_SCHEDULE_BYTES → (bytes : List ℕ) → schedule_of threads most bytes ≡ then_tested (within_limit MOST_SCHEDULE_BYTES r bytes) (schedule_of threads most)
schedule_limited threads most r is = limited MOST_SCHEDULE_BYTES r (schedule_of threads most) (λ bytes long. too_long_schedule threads most bytes long ∙ ap Err (sym is))

pub requests_limited : (r : Rejection) → r ≡ rejections.Input inputs.TooLong MOST_REQUEST_FILE_BYTES → (bytes : List ℕ) → requests_of bytes ≡ then_tested (within_limit MOST_REQUEST_FILE_BYTES r bytes) requests_of
requests_limited r is = limited MOST_REQUEST_FILE_BYTES r requests_of (λ bytes long. too_long_requests bytes long ∙ ap Err (sym is))

pub bounded_limited : (settings : Settings) (r : Rejection) → r ≡ rejections.Input inputs.TooLong MOST_REQUEST_FILE_BYTES → (bytes : List ℕ) → bounded_requests_of settings bytes ≡ then_tested (within_limit MOST_REQUEST_FILE_BYTES r bytes) (bounded_requests_of settings)
bounded_limited settings r is = limited MOST_REQUEST_FILE_BYTES r (bounded_requests_of settings) (λ bytes long. too_long_to_serve settings bytes long ∙ ap Err (sym is))

-- what the grammars make of what their readers answer

pub image_read : (bytes : List ℕ) (x : Image) → image_at bytes ≡ Ok x → image_of bytes ≡ Ok x
unfolding image_of
image_read bytes x is = ap (or_rejected rejections.Image) is

pub source_read : (bytes : List ℕ) (x : Image) → assembled bytes ≡ Ok x → source_of bytes ≡ Ok x
unfolding source_of
source_read bytes x is = ap (or_rejected rejections.Source) is

pub schedule_read : (threads most : ℕ) (bytes steps : List ℕ) → schedule_at threads most bytes ≡ Ok steps → schedule_of threads most bytes ≡ Ok steps
unfolding schedule_of
schedule_read threads most bytes steps is = ap (or_rejected rejections.Input) is

pub requests_read : (bytes : List ℕ) (asked : List (List ℕ)) → requests_at bytes ≡ Ok asked → requests_of bytes ≡ Ok asked
unfolding requests_of
requests_read bytes asked is = ap (or_rejected rejections.Input) is

-- an image that fits the frames, and one that does not

pub image_fits : (frames : ℕ) (x : Image) → length x.pages ≤ frames → fitted frames x ≡ Ok x
image_fits frames x fits = rw (le-ltb _ _ fits) refl

pub image_too_large : (frames pages : ℕ) (x : Image) → pages ≡ length x.pages → frames < pages → fitted frames x ≡ Err (rejections.TooLarge pages frames)
image_too_large frames pages x is over =
    let over_length : frames < length x.pages = omega (arith, is, over) in rw (lt-ltb _ _ over_length) (ap (λ n. Err (rejections.TooLarge n frames)) (sym is))

fitted_by : (frames : ℕ) (y x : Image) (r : Rejection) (b : Bool) → nat_lt frames (length y.pages) ≡ b → cond b (Err r) (Ok y) ≡ Ok x → (y ≡ x) × (length y.pages ≤ frames)
fitted_by frames y x r true is e = absurd cc
fitted_by frames y x r false is e = (cc, ltb-false _ _ is)

pub fitted_found : (frames : ℕ) (y x : Image) → fitted frames y ≡ Ok x → (y ≡ x) × (length y.pages ≤ frames)
fitted_found frames y x e = fitted_by frames y x (rejections.TooLarge (length y.pages) frames) (nat_lt frames (length y.pages)) refl e

-- requests whose serve takes no more steps than there may be, and those of one that does

pub requests_bounded : (settings : Settings) (bytes : List ℕ) (asked : List (List ℕ)) → requests_at bytes ≡ Ok asked → serve_steps settings (length asked) ≤ MOST_STEPS → bounded_requests_of settings bytes ≡ Ok asked
unfolding bounded_requests_of
requests_bounded settings bytes asked is few =
    ap (λ r. then_tested r (bounded settings (length bytes))) (requests_read bytes asked is) ∙ bounded_ok
  where
    bounded_ok : bounded settings (length bytes) asked ≡ Ok asked
    bounded_ok = rw (le-ltb _ _ few) refl

pub too_much_work : (settings : Settings) (bytes : List ℕ) (asked : List (List ℕ)) → requests_at bytes ≡ Ok asked → MOST_STEPS < serve_steps settings (length asked) → bounded_requests_of settings bytes ≡ Err (rejections.Input inputs.TooMuchWork (length bytes))
unfolding bounded_requests_of
too_much_work settings bytes asked is over =
    ap (λ r. then_tested r (bounded settings (length bytes))) (requests_read bytes asked is) ∙ bounded_err
  where
    bounded_err : bounded settings (length bytes) asked ≡ Err (rejections.Input inputs.TooMuchWork (length bytes))
    bounded_err = rw (lt-ltb _ _ over) refl

pub requests_refused : (settings : Settings) (bytes : List ℕ) (refusal : Refusal _) → requests_at bytes ≡ Err refusal → bounded_requests_of settings bytes ≡ Err (rejections.Input refusal.rule refusal.at)
unfolding bounded_requests_of requests_of
requests_refused settings bytes refusal is = ap (λ r. then_tested (or_rejected rejections.Input r) (bounded settings (length bytes))) is

bounded_by : (settings : Settings) (y x : List (List ℕ)) (r : Rejection) (b : Bool) → nat_lt MOST_STEPS (serve_steps settings (length y)) ≡ b → cond b (Err r) (Ok y) ≡ Ok x → (y ≡ x) × (serve_steps settings (length y) ≤ MOST_STEPS)
bounded_by settings y x r true is e = absurd cc
bounded_by settings y x r false is e = (cc, ltb-false _ _ is)

pub bounded_found : (settings : Settings) (end : ℕ) (y x : List (List ℕ)) → bounded settings end y ≡ Ok x → (y ≡ x) × (serve_steps settings (length y) ≤ MOST_STEPS)
bounded_found settings end y x e = bounded_by settings y x (rejections.Input inputs.TooMuchWork end) (nat_lt MOST_STEPS (serve_steps settings (length y))) refl e
