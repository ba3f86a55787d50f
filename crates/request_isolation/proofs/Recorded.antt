-- A recorded reply has the bytes that were written to it.
use Rattle.std.proofs.Common.{◌≡◌, ◌≢◌, ◌⊎◌, inl, inr, ℕ, ◌+◌, sym, ap, ◌∙◌, Option, Some, None, List, [], ◌∷◌, get_or, arith}
use Rattle.std.specs.Prelude.{slice_get}
use Rattle.guest_image.specs.declared.image.Image.{Image}
use Rattle.kernel_core.specs.Machine.{Machine, Serve, in_serve, reply_of}
use Rattle.kernel_core.specs.Runs.{run}
use Rattle.kernel_core.specs.Step.{AfterStep, after_outcome, step}
use Rattle.kernel_core.specs.declared.thread.Thread.{Thread}
use Rattle.lwc_base.specs.Channels.{bytes_in}
use Rattle.snapshot_host.specs.declared.finishing.Finished.{Finished}
use Rattle.request_isolation.proofs.Holds.{Holds}
use Rattle.request_isolation.proofs.Roots.{Nobody}
use Rattle.request_isolation.proofs.Stages.{Begins, Ends, Finishes, Goes, How, IsTold, Made, Stands, acted_by, bytes_seen, finished_told, leaves_by, other_than_told, request_is, stands_step, told_others}
use Rattle.std.proofs.lemmas.Bool.{cases_eq}

module _ (image : Image) (workers budget n r : ℕ) where
  -- what is recorded is of the request, and has what was written
  pub record IsWritten (m : Machine) (s : Serve) : Type 0 where
    pub reply : Finished
    pub told : IsTold image budget r (Some reply) m s
    pub request : reply.request ≡ r
    pub bytes : reply.bytes ≡ bytes_in m.environment.channels.replies r

  abbrev pub IsRecorded : Machine → Serve → Type 0
  IsRecorded m s = (get_or s.replies r None ≡ None) ⊎ IsWritten m s

  module _ (m : Machine) (s : Serve) (holds : Holds image workers budget n m s) (t : ℕ) where
    recorded_others : (made : Made m s t) → made.acted ≢ r + 1 → IsRecorded m s → IsRecorded (after_outcome m t (Some made.after)) made.now
    recorded_others made other (inl none) = inl ((leaves_by image budget workers n m s holds t made.thread made.found made.acted made.after made.now made.how).others r other ∙ none)
    recorded_others made other (inr written) =
        let leaves = leaves_by image budget workers n m s holds t made.thread made.found made.acted made.after made.now made.how in
        inr (record {
          reply = written.reply;
          told = told_others image budget workers n r (Some written.reply) m s holds t made other written.told;
          request = written.request;
          bytes = written.bytes ∙ sym (bytes_seen image budget r made.after.environment.channels m.environment.channels (leaves.channels r other));
        })

    not_yet : (x : Thread) → slice_get m.threads t ≡ Some x → (acted : ℕ) (after : AfterStep) (now : Serve) → How m s t x acted after now → acted ≡ r + 1 → IsRecorded m s → get_or s.replies r None ≡ None
    not_yet x found acted after now how same (inl none) = none
    not_yet x found acted after now how same (inr written) =
        absurd (other_than_told image budget workers n r (Some written.reply) m s t x found written.told acted after now how same)

    recorded_own : (x : Thread) → slice_get m.threads t ≡ Some x → (acted : ℕ) (after : AfterStep) (now : Serve) → How m s t x acted after now → acted ≡ r + 1 → IsRecorded m s →
        IsRecorded (after_outcome m t (Some after)) now
    recorded_own x found _ _ _ (Finishes running ended) job recorded =
        let request = request_is image budget workers n r m s holds t x found running job in
        inr (record {
          reply = _;
          told = finished_told image budget workers n r m s holds t x found running job;
          request = request;
          bytes = ap (bytes_in (acted_by m t x).environment.channels.replies) request;
        })
    recorded_own x found _ _ _ (Goes running going) job recorded = inl (not_yet x found _ _ _ (Goes running going) job recorded)
    recorded_own x found _ _ _ (Begins idle some) job recorded = inl (not_yet x found _ _ _ (Begins idle some) job recorded)
    recorded_own x found _ _ _ (Ends idle none) same recorded = absurd (omega (arith, same))

    recorded_made : (made : Made m s t) → IsRecorded m s → IsRecorded (after_outcome m t (Some made.after)) made.now
    recorded_made made recorded =
        elim (cases_eq made.acted (r + 1)) [
          | inl same ↦ recorded_own made.thread made.found made.acted made.after made.now made.how same recorded
          | inr apart ↦ recorded_others made apart recorded
        ]

  pub recorded_run : (m : Machine) (steps : List ℕ) → Stands image budget workers n IsRecorded m → Stands image budget workers n IsRecorded (run m steps)
  recorded_run m [] stands = stands
  recorded_run m (t ∷ ts) stands =
      recorded_run (step m t) ts (stands_step image budget workers n IsRecorded IsRecorded m t stands (λ fact. fact) (λ made. recorded_made m stands.serve stands.holds t made stands.fact))

  pub told_written : (m : Machine) (told : Finished) → Stands image budget workers n IsRecorded m → reply_of m r ≡ Some told → (told.request ≡ r) × (bytes_in m.environment.channels.replies r ≡ told.bytes)
  unfolding reply_of
  told_written m told stands is = by_recorded stands.fact (ap (λ (serve : Option Serve). in_serve serve r) (sym stands.holds.is) ∙ is)
    where
      by_recorded : IsRecorded m stands.serve → get_or stands.serve.replies r None ≡ Some told → (told.request ≡ r) × (bytes_in m.environment.channels.replies r ≡ told.bytes)
      by_recorded (inl none) some = let clash : None ≡ Some told = sym none ∙ some in cc
      by_recorded (inr written) some =
          let same : written.reply ≡ told = let both : Some written.reply ≡ Some told = sym written.told.told ∙ some in cc in
          (ap (λ (f : Finished). f.request) (sym same) ∙ written.request, sym written.bytes ∙ ap (λ (f : Finished). f.bytes) same)

  -- nobody serves a request whose reply is recorded
  pub told_nobody : (m : Machine) (told : Finished) → Stands image budget workers n IsRecorded m → reply_of m r ≡ Some told → Nobody m.threads r
  unfolding reply_of
  told_nobody m told stands is = by_recorded stands.fact (ap (λ (serve : Option Serve). in_serve serve r) (sym stands.holds.is) ∙ is)
    where
      by_recorded : IsRecorded m stands.serve → get_or stands.serve.replies r None ≡ Some told → Nobody m.threads r
      by_recorded (inl none) some = let clash : None ≡ Some told = sym none ∙ some in cc
      by_recorded (inr written) some = written.told.nobody
