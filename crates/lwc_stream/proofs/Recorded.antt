-- What a stream shows of a serve is what is recorded of each request at its end.
use Rattle.std.proofs.Common.{◌≡◌, ◌⊎◌, inl, inr, ℕ, zero, suc, ◌+◌, ◌≤◌, ◌<◌, refl, sym, ap, ap₂, subst, ◌∙◌, Bool, true, false, All, Some, List, [], ◌∷◌, ◌++◌, length, map, arith}
use Rattle.std.proofs.lemmas.List.Elements.{All-contains}
use Rattle.std.proofs.lemmas.Option.{get_or_from_slice_get, slice_get-get_or, slice_get_within}
use Rattle.std.proofs.lemmas.Bool.Decides.{nat_tests}
use Rattle.std.specs.Prelude.{Contains, nat_lt, slice_get}
use Rattle.std.specs.List.{flat_map, range_with_len}
use Rattle.kernel_core.proofs.FinishedBy.{others_add_none}
use Rattle.kernel_core.specs.Histories.{IsComplete, finishes_by}
use Rattle.kernel_core.specs.Kernel.{CanOpen}
use Rattle.kernel_core.specs.Machine.{Machine, reply_of}
use Rattle.kernel_core.specs.Runs.{run}
use Rattle.kernel_core.specs.Start.{Inputs, start, thread_count}
use Rattle.kernel_core.specs.declared.settings.Job.TheVariants as jobs
use Rattle.lwc_stream.specs.Replies.{AreShown, IsAmong, finished_by, line_of, lines_of}
use Rattle.lwc_text.specs.Lines.{reply_line}
use Rattle.lwc_text.specs.Report.{replies_text}
use Rattle.process_core.proofs.Due.{none_later}
use Rattle.process_core.specs.Running.{Carried}
use Rattle.request_isolation.proofs.Finishing.{finished_by_thread, recorded_at_end}
use Rattle.request_isolation.proofs.Isolated.{recorded_written}
use Rattle.request_isolation.proofs.Serves.{each_reply, requests_stay}
use Rattle.snapshot_host.specs.declared.finishing.Finished.{Finished}
use Rattle.turnstile.specs.Past.{Knows}

-- what a list has is at one of its places
there_at : {A : Type 0} (xs : List A) (x : A) → Contains xs x → (i : ℕ) × (slice_get xs i ≡ Some x)
there_at xs x (i, low, is) = (i, slice_get-get_or xs i x low ∙ ap Some is)

has_at : {A : Type 0} (xs : List A) (i : ℕ) (x : A) → slice_get xs i ≡ Some x → Contains xs x
has_at xs i x is = (i, slice_get_within xs i x is, get_or_from_slice_get xs i x x is)

-- what is at a place of a mapped list was made of what is there
made_at : {A B : Type 0} (f : A → B) (xs : List A) (i : ℕ) (y : B) → slice_get (map f xs) i ≡ Some y → (x : A) × (slice_get xs i ≡ Some x) × (f x ≡ y)
made_at f [] i y is = cc
made_at f (x ∷ xs) zero y is = (x, refl, cc)
made_at f (x ∷ xs) (suc i) y is = made_at f xs i y is

mapped_at : {A B : Type 0} (f : A → B) (xs : List A) (i : ℕ) (x : A) → slice_get xs i ≡ Some x → slice_get (map f xs) i ≡ Some (f x)
mapped_at f [] i x is = cc
mapped_at f (y ∷ xs) zero x is = let same : y ≡ x = cc in ap (λ z. Some (f z)) same
mapped_at f (y ∷ xs) (suc i) x is = mapped_at f xs i x is

-- the steps that a pass has not seen are those of other threads
seen_whole : (inputs : Inputs) (steps : List ℕ) (p : Carried) → Knows steps p.held.number p.held.seen → finished_by inputs p ≡ finishes_by (start inputs) steps p.held.number
seen_whole inputs steps p knows =
    sym (others_add_none (start inputs) p.held.seen knows.0.0 p.held.number (none_later steps p.held.seen p.held.number knows))
    ∙ ap (λ l. finishes_by (start inputs) l p.held.number) knows.0.1

-- the lines of replies that are recorded one after another
recorded_lines : (m : Machine) (a : ℕ) (xs : List Finished) → ((i : ℕ) (x : Finished) → slice_get xs i ≡ Some x → (x.request ≡ a + i) × (reply_of m x.request ≡ Some x)) →
    flat_map line_of xs ≡ flat_map (λ r. reply_line r (reply_of m r)) (range_with_len a (length xs))
recorded_lines m a [] each = refl
recorded_lines m a (x ∷ xs) each =
    let here = each 0 x refl in
    let number : x.request ≡ a = omega (arith, here.0) in
    let first : line_of x ≡ reply_line a (reply_of m a) =
    ap (reply_line x.request) (sym here.1) ∙ ap (λ (r : ℕ). reply_line r (reply_of m r)) number in
    let rest = recorded_lines m (a + 1) xs (λ i y there. let next = each (suc i) y there in (omega (arith, next.0), next.1)) in
    ap₂ (λ u v. u ++ v) first rest

module _ (inputs : Inputs) (steps : List ℕ) (passes : List Carried) (workers : ℕ) (can : CanOpen inputs) (serve : inputs.settings.job ≡ jobs.Serve workers)
    (knows : All (λ p. Knows steps p.held.number p.held.seen) passes) where
  among_recorded : (x : Finished) → IsAmong (map (finished_by inputs) passes) x → reply_of (run (start inputs) steps) x.request ≡ Some x
  among_recorded x among =
      let made = made_at (finished_by inputs) passes among.row among.list among.row_is in
      let whole : among.list ≡ finishes_by (start inputs) steps made.0.held.number =
      sym made.2 ∙ seen_whole inputs steps made.0 (All-contains (λ (p : Carried). Knows steps p.held.number p.held.seen) passes made.0 knows (has_at passes among.row made.0 made.1)) in
      recorded_at_end inputs workers can serve steps made.0.held.number x (subst (λ l. Contains l x) whole (has_at among.list among.place x among.there))

  recorded_among : ((t : ℕ) → t < thread_count inputs → Contains (map (λ p. p.held.number) passes) t) → (r : ℕ) (x : Finished) → reply_of (run (start inputs) steps) r ≡ Some x → IsAmong (map (finished_by inputs) passes) x
  recorded_among every r x is =
      let by = finished_by_thread inputs workers can serve steps r x is in
      let row = there_at (map (λ (p : Carried). p.held.number) passes) by.0 (every by.0 by.1) in
      let made = made_at (λ (p : Carried). p.held.number) passes row.0 by.0 row.1 in
      let whole : finishes_by (start inputs) steps by.0 ≡ finished_by inputs made.0 =
      ap (finishes_by (start inputs) steps) (sym made.2)
      ∙ sym (seen_whole inputs steps made.0 (All-contains (λ (p : Carried). Knows steps p.held.number p.held.seen) passes made.0 knows (has_at passes row.0 made.0 made.1))) in
      let place = there_at (finished_by inputs made.0) x (subst (λ l. Contains l x) whole by.2) in
      record {
        row = row.0;
        place = place.0;
        list = finished_by inputs made.0;
        row_is = mapped_at (finished_by inputs) passes row.0 made.0 made.1;
        there = place.1;
      }

-- the lines of what a complete stream shows are those of the replies that are recorded at its end
pub shows_each_reply : (inputs : Inputs) (steps : List ℕ) (passes : List Carried) (shown : List Finished) (workers : ℕ) → CanOpen inputs → inputs.settings.job ≡ jobs.Serve workers →
    IsComplete (start inputs) steps → All (λ p. Knows steps p.held.number p.held.seen) passes → ((t : ℕ) → t < thread_count inputs → Contains (map (λ p. p.held.number) passes) t) →
    AreShown (map (finished_by inputs) passes) (length inputs.requests) shown → lines_of shown ≡ replies_text (run (start inputs) steps)
unfolding replies_text
shows_each_reply inputs steps passes shown workers can serve complete knows every are =
    recorded_lines m 0 shown (λ i x there. (are.numbers i x there ∙ omega arith, among_recorded inputs steps passes workers can serve knows x (are.finished i x there)))
    ∙ ap (λ (n : ℕ). flat_map (λ r. reply_line r (reply_of m r)) (range_with_len 0 n)) (whole (less_or_all (length shown) (length inputs.requests) are.few) ∙ sym (requests_stay inputs steps workers can serve))
  where
    m : Machine
    m = run (start inputs) steps

    less_or_all : (k n : ℕ) → k ≤ n → (k < n) ⊎ (k ≡ n)
    less_or_all k n few = by_test (nat_lt k n) refl
      where
        by_test : (b : Bool) → nat_lt k n ≡ b → (k < n) ⊎ (k ≡ n)
        by_test true is = inl (grind (arith, nat_tests))
        by_test false is = inr (grind (arith, nat_tests, few))

    missing : length shown < length inputs.requests → ⊥
    missing less =
        let has = each_reply inputs steps workers (length shown) can serve complete less in
        are.all less has.reply (recorded_among inputs steps passes workers can serve knows every (length shown) has.reply has.recorded)
        (recorded_written inputs can steps (length shown) has.reply has.recorded).0

    whole : (length shown < length inputs.requests) ⊎ (length shown ≡ length inputs.requests) → length shown ≡ length inputs.requests
    whole (inl less) = absurd (missing less)
    whole (inr all) = all
