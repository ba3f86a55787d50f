-- What a sink has taken, piece by piece.
use Rattle.std.proofs.Common.{◌≡◌, ◌≤◌, ℕ, ◌+◌, List, [], ◌++◌, Option, None, Some, take, drop, length, refl, ap, sym, ◌∙◌, append_assoc, arith, ◌-◌, length-drop}
use Rattle.std.proofs.Math.Seq.{take-add}
use Rattle.std.proofs.lemmas.List.{take_rest}
use Rattle.std.proofs.lemmas.Grind.{common_steps}
use Rattle.lwc_io.specs.Outside.{SinkView, appended}

-- the next bytes of a text behind its first ones are the first ones of more
pub appended-appended : (before : Option (List ℕ)) (text : List ℕ) (at n : ℕ) → appended (appended before (take at text)) (take n (drop at text)) ≡ appended before (take (at + n) text)
appended-appended None text at n = refl
appended-appended (Some xs) text at n = ap Some (append_assoc xs _ _ ∙ ap (λ ys. xs ++ ys) (sym (take-add at n text)))

-- nothing is appended
pub takes_none : (before : Option (List ℕ)) → before ≡ appended before []
takes_none None = refl
takes_none (Some xs) = grind (arith, common_steps)

-- the first `at` bytes of a text have been taken, and no write failed
pub record TakenSoFar (before now : SinkView) (at : ℕ) (text : List ℕ) : Type 0 where
  pub within : at ≤ length text
  pub taken : now.taken ≡ appended before.taken (take at text)
  pub faults : now.faults ≡ before.faults

-- what is taken next of the rest of the text
pub more_taken : (before mid now : SinkView) (at n : ℕ) (text : List ℕ) → TakenSoFar before mid at text → n ≤ length (take (length text - at) (drop at text)) → now.taken ≡ appended mid.taken (take n (take (length text - at) (drop at text))) → now.faults ≡ mid.faults → TakenSoFar before now (at + n) text
more_taken before mid now at n text so_far fits next same =
    let rest : take (length text - at) (drop at text) ≡ drop at text = take_rest text at in
    let fits_rest : n ≤ length (drop at text) = rw rest at fits in
    record {
      within = omega (arith, length-drop at text, so_far.within);
      taken = next ∙ ap (λ xs. appended mid.taken (take n xs)) rest ∙ ap (λ b. appended b (take n (drop at text))) so_far.taken ∙ appended-appended before.taken text at n;
      faults = same ∙ so_far.faults;
    }
