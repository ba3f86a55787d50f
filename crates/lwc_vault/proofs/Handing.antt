-- Two vaults that hand out the same are told apart by nothing.
use Rattle.std.proofs.Common.{◌≡◌, ◌≢◌, inl, inr, All, ℕ, suc, ◌+◌, refl, sym, ap, subst, ◌∙◌, Bool, true, false, cond, ◌&&◌, Option, Some, None, List, [], ◌∷◌, ◌++◌, map}
use Rattle.std.specs.Prelude.{max, not, slice_get}
use Rattle.std.specs.FinMap as fm
use Rattle.std.specs.Option.{option_map, option_map_or}
use Rattle.std.specs.Ordering.{eq_by_cmp}
use Rattle.std.proofs.lemmas.List.Elements.{All-cons, All-head, All-nil, All-tail}
use Rattle.std.proofs.lemmas.Option.{slice_get-map}
use Rattle.guest_image.specs.declared.image.Vault.{Vault}
use Rattle.guest_machine.specs.Advances.{advanced}
use Rattle.confinement.proofs.Decide.{number_or_not}
use Rattle.confinement.specs.May.{regs_at}
use Rattle.kernel_core.proofs.HomeStart.{ready_start}
use Rattle.kernel_core.proofs.Others.{step_leaves}
use Rattle.kernel_core.proofs.Runs.{peak_kept, run_kept, step_of_ended}
use Rattle.kernel_core.specs.Histories.{IsLegal}
use Rattle.kernel_core.specs.Kernel.{CanOpen, view_of}
use Rattle.kernel_core.specs.Machine.{Machine, has_ended, is_ended, reply_of}
use Rattle.kernel_core.specs.Ready.{IsReady}
use Rattle.kernel_core.specs.Runs.{frames_of, kept, peak, run}
use Rattle.kernel_core.specs.Start.{Inputs, start, vault_name, world_for}
use Rattle.kernel_core.specs.Step.{step}
use Rattle.kernel_core.specs.declared.thread.Thread.{Thread}
use Rattle.lwc_types.proofs.Orders.{cases_name, name-itself, other_name, same_name}
use Rattle.lwc_types.specs.Names.{name_cmp}
use Rattle.lwc_text.specs.Lines.{groups_line, tail_lines}
use Rattle.lwc_text.specs.Report.{replies_text, report_after, report_of, report_of_schedule, threads_text}
use Rattle.lwc_vault.proofs.Hiding.{cover-outside, ended-hide, frames-hide, hide}
use Rattle.lwc_vault.proofs.Inside.{after_told, ended_inside, is_outside, step-hide, told-inside}
use Rattle.lwc_vault.proofs.Shapes.{world-shape}
use Rattle.lwc_vault.proofs.Stepping.{cover}
use Rattle.lwc_vault.proofs.Staying.{no_serve, outside-at, ready_next, start-shut, step-shut}
use Rattle.lwc_vault.proofs.Telling.{contexts-blank, outside-back, outside-blank, stays_run}
use Rattle.lwc_vault.specs.Blanks.{ActsOutside, IsShutWorld}
use Rattle.lwc_vault.specs.Secrets.{HandOutTheSame, HaveOneShape, StandOutside, StandsOutside, beside}
use Rattle.lwc_vault.specs.Told.{IsPlain, Outside, Told, stands_inside, told, told_by, told_by_next, told_in}
use Rattle.world_views.specs.Blank.{blank}
use Rattle.world_views.specs.Outside.{IsOutside}

-- who acts outside does so where the vault is hidden
acts-hide : (m : Machine) (t : ℕ) → ActsOutside m t → ActsOutside (hide m) t
acts-hide m t is y found runs = by (slice_get m.threads t) refl (sym (slice_get-map (cover false) m.threads t) ∙ found)
  where
    by : (o : Option Thread) → slice_get m.threads t ≡ o → option_map (cover false) o ≡ Some y → IsOutside vault_name y.context y.job (blank false vault_name m.environment.world)
    by None at e = absurd cc
    by (Some x) at e =
        let same : cover false x ≡ y = cc in
        subst (λ (z : Thread). IsOutside vault_name z.context z.job (blank false vault_name m.environment.world)) same
        (outside-blank false m.environment.world x.context x.job (is x at (ap (λ (z : Thread). z.status) same ∙ runs)))

-- and the other way round
acts-unhide : (m : Machine) (t : ℕ) → ActsOutside (hide m) t → ActsOutside m t
acts-unhide m t is x found runs =
    outside-back false m.environment.world x.context x.job (is (cover false x) (slice_get-map (cover false) m.threads t ∙ ap (option_map (cover false)) found) runs)

-- what a thread hands out that stands in the vault
abbrev handed : Machine → Thread → Told
handed m x = told_by_next m.environment.world (regs_at m x) (advanced m.text x.regs).next

-- a run goes on, and beside it another one that is the same but for what the vault hides
record Beside (inputs : Inputs) (k : ℕ) (m n : Machine) : Type 0 where
  pub ready : IsReady inputs k m
  pub shut : IsShutWorld m.environment.world
  pub run : m.serve ≡ None
  pub other : n.serve ≡ None
  pub hides : hide m ≡ hide n

-- both hand out the same in these steps, nothing else is done, and nobody is left inside
record HandOut (m n : Machine) (steps : List ℕ) : Type 0 where
  pub same : told_in n steps ≡ told_in m steps
  pub plain : All IsPlain (told_in m steps)
  pub left : (t : ℕ) → StandsOutside (run m steps) t
  pub left_other : (t : ℕ) → StandsOutside (run n steps) t

-- who has ended stays as it is
stays_ended : (m : Machine) (ts : List ℕ) (t : ℕ) (x : Thread) → slice_get m.threads t ≡ Some x → has_ended x.status ≡ true → slice_get (run m ts).threads t ≡ Some x
unfolding is_ended
stays_ended m [] t x found ended = found
stays_ended m (u ∷ us) t x found ended = stays_ended (step m u) us t x (elim (number_or_not u t) [
  | inl same ↦
      let rests : step m u ≡ m = step_of_ended m u (ap (λ k. option_map_or (λ (y : Thread). has_ended y.status) (slice_get m.threads k) true) same ∙ (ap (λ (o : Option Thread). option_map_or (λ (y : Thread). has_ended y.status) o true) found ∙ ended)) in
      ap (λ (k : Machine). slice_get k.threads t) rests ∙ found
  | inr other ↦ step_leaves m u t other ∙ found
]) ended

-- where nobody is left inside, none has ended there
none_ended : (m : Machine) (ts : List ℕ) → ((t : ℕ) → StandsOutside (run m ts) t) → (t : ℕ) → ended_inside (slice_get m.threads t) ≡ false
none_ended m ts left t = by_thread (slice_get m.threads t) refl
  where
    by_end : (x : Thread) → slice_get m.threads t ≡ Some x → (b c : Bool) → stands_inside x ≡ b → has_ended x.status ≡ c → b && c ≡ false
    by_end x found true true inside ended = absurd (left t x (stays_ended m ts t x found ended) (same_name x.context vault_name inside))
    by_end x found true false inside going = refl
    by_end x found false c outside is = refl

    by_thread : (o : Option Thread) → slice_get m.threads t ≡ o → ended_inside o ≡ false
    by_thread None none = refl
    by_thread (Some x) found = by_end x found (stands_inside x) (has_ended x.status) refl refl

module _ (inputs : Inputs) where
  -- a step that hands out nothing of the vault is made outside, unless its thread has ended
  acts : (k t : ℕ) (m : Machine) → IsReady inputs k m → IsShutWorld m.environment.world → told m t ≡ Outside → ActsOutside m t
  unfolding told
  acts k t m ready shut is x found runs = cases_name x.context vault_name here there
    where
      no : handed m x ≡ Outside → ⊥
      no e = let out : true ≡ false = sym (ap is_outside e) ∙ told-inside m.environment.world (regs_at m x) (advanced m.text x.regs).next in cc

      here : x.context ≡ vault_name → IsOutside vault_name x.context x.job m.environment.world
      here same =
          let inside : stands_inside x ≡ true = ap (λ c. eq_by_cmp name_cmp c vault_name) same ∙ name-itself vault_name in
          let all : told_by m t (Some x) ≡ Outside = sym (ap (told_by m t) found) ∙ is in
          let it : handed m x ≡ Outside = sym (λ i. cond (inside i && not (has_ended (runs i))) (handed m x) Outside) ∙ all in absurd (no it)

      there : x.context ≢ vault_name → IsOutside vault_name x.context x.job m.environment.world
      there other = outside-at inputs k t m ready shut stands x found runs
        where
          stands : StandsOutside m t
          stands z at = let same : x ≡ z = let both : Some x ≡ Some z = sym found ∙ at in cc in subst (λ (u : Thread). u.context ≢ vault_name) same other

  module _ (k t : ℕ) (m n : Machine) (is : Beside inputs k m n) (same : told n t ≡ told m t) (plain : IsPlain (told m t)) (lives : ended_inside (slice_get (step m t).threads t) ≡ false)
      (lives_other : ended_inside (slice_get (step n t).threads t) ≡ false) where
    both_outside : told n t ≡ Outside → ActsOutside n t
    both_outside out = acts-unhide n t (subst (λ h. ActsOutside h t) is.hides (acts-hide m t (acts k t m is.ready is.shut (sym same ∙ out))))

    -- both make a step that hands out the same
    beside_next : Beside inputs (k + 1) (step m t) (step n t)
    beside_next = record {
      ready = ready_next inputs k t m is.ready;
      shut = step-shut inputs k t m is.ready is.shut;
      run = stays_run m t is.run;
      other = stays_run n t is.other;
      hides =
          step-hide m t is.run lives plain (acts k t m is.ready is.shut)
          ∙ (λ i. after_told (sym same i) (is.hides i) t)
          ∙ sym (step-hide n t is.other lives_other (subst IsPlain (sym same) plain) both_outside);
    }

  module _ (t : ℕ) (ts : List ℕ) (m n : Machine) (is : HandOut m n (t ∷ ts)) where
    first_same : told n t ≡ told m t
    first_same = let all = is.same in cc

    first_plain : IsPlain (told m t)
    first_plain = All-head IsPlain (told m t) (told_in (step m t) ts) is.plain

    hand_rest : HandOut (step m t) (step n t) ts
    hand_rest = record { same = let all = is.same in cc; plain = All-tail IsPlain (told m t) (told_in (step m t) ts) is.plain; left = is.left; left_other = is.left_other }

  module _ (k t : ℕ) (ts : List ℕ) (m n : Machine) (is : Beside inputs k m n) (hand : HandOut m n (t ∷ ts)) where
    goes_on : Beside inputs (k + 1) (step m t) (step n t)
    goes_on = beside_next k t m n is (first_same t ts m n hand) (first_plain t ts m n hand) (none_ended (step m t) ts hand.left t) (none_ended (step n t) ts hand.left_other t)

  -- and so after all of them
  run-hide : (k : ℕ) (m n : Machine) (ts : List ℕ) → Beside inputs k m n → HandOut m n ts → hide (run m ts) ≡ hide (run n ts)
  run-hide k m n [] is hand = is.hides
  run-hide k m n (t ∷ ts) is hand = run-hide (k + 1) (step m t) (step n t) ts (goes_on k t ts m n is hand) (hand_rest t ts m n hand)

  ended-same : (k : ℕ) (m n : Machine) (t : ℕ) → Beside inputs k m n → is_ended n t ≡ is_ended m t
  ended-same k m n t is = sym (ended-hide n t) ∙ ap (λ h. is_ended h t) (sym is.hides) ∙ ended-hide m t

  kept-same : (k : ℕ) (m n : Machine) (ts : List ℕ) → Beside inputs k m n → HandOut m n ts → kept n ts ≡ kept m ts
  kept-same k m n [] is hand = refl
  kept-same k m n (t ∷ ts) is hand =
      let later = kept-same (k + 1) (step m t) (step n t) ts (goes_on k t ts m n is hand) (hand_rest t ts m n hand) in
      let same = ended-same k m n t is in
      ap (λ b. cond b (kept n ts) (t ∷ kept (step n t) ts)) same ∙ by (is_ended m t) refl same later
    where
      by : (b : Bool) → is_ended m t ≡ b → is_ended n t ≡ is_ended m t → kept (step n t) ts ≡ kept (step m t) ts → cond b (kept n ts) (t ∷ kept (step n t) ts) ≡ cond b (kept m ts) (t ∷ kept (step m t) ts)
      by true ended same later = ap (λ o. kept o ts) (sym (step_of_ended n t (same ∙ ended))) ∙ later ∙ ap (λ o. kept o ts) (step_of_ended m t ended)
      by false ended same later = ap (λ us. t ∷ us) later

  frames-same : (k : ℕ) (m n : Machine) → Beside inputs k m n → frames_of n ≡ frames_of m
  frames-same k m n is = sym (frames-hide n) ∙ ap frames_of (sym is.hides) ∙ frames-hide m

  peak-same : (k : ℕ) (m n : Machine) (ts : List ℕ) → Beside inputs k m n → HandOut m n ts → peak n ts ≡ peak m ts
  peak-same k m n [] is hand = frames-same k m n is
  peak-same k m n (t ∷ ts) is hand =
      λ i. max (frames-same k m n is i) (peak-same (k + 1) (step m t) (step n t) ts (goes_on k t ts m n is hand) (hand_rest t ts m n hand) i)

-- where nobody stands in the vault, no thread is hidden
none-hidden : (xs : List Thread) → ((t : ℕ) (x : Thread) → slice_get xs t ≡ Some x → x.context ≢ vault_name) → map (cover false) xs ≡ xs
none-hidden [] out = refl
none-hidden (x ∷ xs) out = λ i. cover-outside x (out 0 x refl) i ∷ none-hidden xs (λ t y at. out (suc t) y at) i

threads-hide : (m : Machine) → map (cover false) m.threads ≡ m.threads → threads_text (hide m) ≡ threads_text m
unfolding threads_text view_of
threads-hide m none = ap (λ (xs : List Thread). threads_text (record m { threads = xs })) none

replies-hide : (m : Machine) → replies_text (hide m) ≡ replies_text m
unfolding replies_text reply_of
replies-hide m = refl

report-hide : (m : Machine) (most : ℕ) (steps : List ℕ) → map (cover false) m.threads ≡ m.threads → report_of (hide m) most steps ≡ report_of m most steps
unfolding report_of
report-hide m most steps none = λ i.
    threads-hide m none i ++ contexts-blank false m.environment.world i ++ groups_line (fm.len m.environment.world.groups)
    ++ replies-hide m i ++ tail_lines m.environment.channels.console (frames-hide m i) most steps

-- machines that hide the same, with nobody in the vault, are reported the same
report-same : (m n : Machine) (most : ℕ) (steps : List ℕ) → hide m ≡ hide n → ((t : ℕ) → StandsOutside m t) → report_of n most steps ≡ report_of m most steps
report-same m n most steps same out =
    sym (report-hide n most steps (none-hidden n.threads others)) ∙ ap (λ h. report_of h most steps) (sym same) ∙ report-hide m most steps none
  where
    none : map (cover false) m.threads ≡ m.threads
    none = none-hidden m.threads (λ t x at. out t x at)

    others : (t : ℕ) (x : Thread) → slice_get n.threads t ≡ Some x → x.context ≢ vault_name
    others t x at is =
        let hidden : map (cover false) n.threads ≡ m.threads = ap (λ (h : Machine). h.threads) (sym same) ∙ none in
        let there : slice_get m.threads t ≡ Some (cover false x) =
        ap (λ xs. slice_get xs t) (sym hidden) ∙ slice_get-map (cover false) n.threads t ∙ ap (option_map (cover false)) at in
        out t (cover false x) there is

module _ (a b : Vault) (shape : HaveOneShape a b) (inputs : Inputs) (can : CanOpen (beside inputs a)) where
  abbrev here : Machine
  here = start (beside inputs a)

  abbrev other : Machine
  other = start (beside inputs b)

  -- starts with vaults of one shape are one where the vault is hidden
  start-hide : hide here ≡ hide other
  unfolding start
  start-hide = λ i. record (hide here) {
    environment = record {
      world = world-shape a b shape false (world_for inputs.image inputs.settings.frames inputs.settings.job) i;
      channels = here.environment.channels;
    };
  }

  begins : Beside (beside inputs a) 0 here other
  unfolding start
  begins = record {
    ready = ready_start (beside inputs a) can;
    shut = start-shut inputs a can;
    run = no_serve inputs a can;
    other = no_serve inputs a can;
    hides = start-hide;
  }

  module _ (steps : List ℕ) (hand : HandOutTheSame inputs a b steps) where
    hands : HandOut here other steps
    hands = record { same = hand.same; plain = hand.plain; left = hand.left; left_other = hand.left_other }

    pub kept-told : kept other steps ≡ kept here steps
    kept-told = kept-same (beside inputs a) 0 here other steps begins hands

    -- what is printed of the machines after these steps, whatever steps are named
    pub text-told : (named : List ℕ) → report_of (run other steps) (peak other steps) named ≡ report_of (run here steps) (peak here steps) named
    text-told named =
        ap (λ n. report_of (run other steps) n named) (peak-same (beside inputs a) 0 here other steps begins hands)
        ∙ report-same (run here steps) (run other steps) (peak here steps) named (run-hide (beside inputs a) 0 here other steps begins hands) hand.left

pub tells-handed : (inputs : Inputs) (v other : Vault) (steps : List ℕ) → CanOpen (beside inputs v) → HaveOneShape v other → HandOutTheSame inputs v other steps → IsLegal (start (beside inputs v)) steps →
    IsLegal (start (beside inputs other)) steps × (report_after (beside inputs other) steps ≡ report_after (beside inputs v) steps)
tells-handed inputs v other steps can shape hand legal = (kept-told v other shape inputs can steps hand ∙ legal, text-told v other shape inputs can steps hand steps)

pub schedule-handed : (inputs : Inputs) (v other : Vault) (schedule : List ℕ) → CanOpen (beside inputs v) → HaveOneShape v other → HandOutTheSame inputs v other schedule →
    report_of_schedule (beside inputs other) schedule ≡ report_of_schedule (beside inputs v) schedule
unfolding report_of_schedule
schedule-handed inputs v other schedule can shape hand = text_there ∙ ap (λ ks. report_of (run (start (beside inputs v)) schedule) (peak (start (beside inputs v)) schedule) ks) (kept-told v other shape inputs can schedule hand) ∙ sym text_here
  where
    text_here : report_after (beside inputs v) (kept (start (beside inputs v)) schedule) ≡ report_of (run (start (beside inputs v)) schedule) (peak (start (beside inputs v)) schedule) (kept (start (beside inputs v)) schedule)
    text_here = λ i. report_of (run_kept (start (beside inputs v)) schedule i) (peak_kept (start (beside inputs v)) schedule i) (kept (start (beside inputs v)) schedule)

    text_there : report_after (beside inputs other) (kept (start (beside inputs other)) schedule) ≡ report_of (run (start (beside inputs v)) schedule) (peak (start (beside inputs v)) schedule) (kept (start (beside inputs other)) schedule)
    text_there = (λ i. report_of (run_kept (start (beside inputs other)) schedule i) (peak_kept (start (beside inputs other)) schedule i) (kept (start (beside inputs other)) schedule)) ∙ text-told v other shape inputs can schedule hand (kept (start (beside inputs other)) schedule)

-- who does not stand in the vault hands out nothing of it
told-outside : (m : Machine) (t : ℕ) → StandsOutside m t → told m t ≡ Outside
unfolding told
told-outside m t stands = by (slice_get m.threads t) refl
  where
    by : (o : Option Thread) → slice_get m.threads t ≡ o → told_by m t o ≡ Outside
    by None is = refl
    by (Some x) is =
        ap (λ b. cond (b && not (has_ended x.status)) (told_by_next m.environment.world (regs_at m x) (advanced m.text x.regs).next) Outside)
        (other_name x.context vault_name (stands x is))

pub nobody-tells : (m : Machine) (ts : List ℕ) → StandOutside m ts → All (λ o. o ≡ Outside) (told_in m ts)
nobody-tells m [] stand = All-nil _
nobody-tells m (t ∷ ts) stand = All-cons (λ o. o ≡ Outside) (told m t) (told_in (step m t) ts) (told-outside m t stand.0) (nobody-tells (step m t) ts stand.1)
