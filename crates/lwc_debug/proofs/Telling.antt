-- What has been told of a script, and what is still to be told.
use Rattle.std.proofs.Common.{◌≡◌, ◌≢◌, ◌⊎◌, ◌≤◌, ◌<◌, ◌+◌, ℕ, zero, suc, inl, inr, refl, sym, ap, subst, ◌∙◌, Bool, true, false, cond, eqb, ltb, List, [], ◌∷◌, ◌++◌, Option, Some, None, All, length, take, drop, map, get_or, set, arith, append-nil}
use Rattle.std.specs.Prelude.{IfSome, MatchOption, nat_le, slice_get}
use Rattle.std.specs.List.{flat_map}
use Rattle.std.specs.Option.{option_map_or}
use Rattle.std.proofs.lemmas.Bool.{lt-ltb, le-ltb, ltb-false, ltb-true}
use Rattle.std.proofs.lemmas.Bool.Decides.{nat_tests}
use Rattle.std.proofs.lemmas.List.{length-map, length-set, length-take-le, take_all, take_more, take_more_set}
use Rattle.std.proofs.lemmas.List.Elements.{All-cons, All-head, All-map, All-more, All-nil, All-tail}
use Rattle.std.proofs.lemmas.Option.{get_or_from_slice_get, slice_get_within}
use Rattle.std.proofs.Math.Seq.{drop-cons}
use Rattle.kernel_core.specs.Kernel.{History, machine_of}
use Rattle.kernel_core.specs.Machine.{Machine}
use Rattle.kernel_core.specs.Runs.{run}
use Rattle.kernel_core.specs.Start.{Inputs, start}
use Rattle.lwc_debug.specs.Telling.{Told, placed, told_by, told_here}
use Rattle.lwc_debug.specs.Transcript.{answer, asked_place, moved_to, place_after, place_in, transcript}
use Rattle.lwc_debug.specs.declared.command.Command.{Command}
use Rattle.lwc_debug.specs.declared.debugging.Answer.{Answer}

-- a command that is told if its place is before this one
unfoldable pub told_before : Machine → List ℕ → ℕ → Told → Told
told_before m steps from x =
    cond (ltb x.place from) (record x { text = answer (run m (take x.place steps)) (length steps) x.place x.command }) x

-- the next place at which an answer is given, from a place on
pub record IsNext (from : ℕ) (answers : List Answer) (next : Option ℕ) : Type 0 where
  pub first : MatchOption next (All (λ a. a.place < from) answers) (λ n. All (λ a. (a.place < from) ⊎ (n ≤ a.place)) answers)
  pub onward : IfSome next (λ n. from ≤ n)
  pub there : (most : ℕ) → All (λ a. a.place ≤ most) answers → IfSome next (λ n. n ≤ most)

module _ (from : ℕ) (answers : List Answer) (i : ℕ) (a : Answer) (inside : i < length answers) (is : get_or answers i a ≡ a) where
  more : (P : Answer → Type 0) → All P (take i answers) → P a → All P (take (i + 1) answers)
  more P each here = All-more P answers i a inside each (subst P (sym is) here)

  fewer : (P : Answer → Type 0) → All P (take (i + 1) answers) → All P (take i answers) × P a
  fewer P each =
      let both = subst (All P) (take_more answers i a inside) each in
      (All-front P (take i answers) (get_or answers i a) both, subst P is (All-last P (take i answers) (get_or answers i a) both))
    where
      All-front : (P : Answer → Type 0) (xs : List Answer) (x : Answer) → All P (xs ++ x ∷ []) → All P xs
      All-front P [] x each = All-nil P
      All-front P (y ∷ ys) x each = All-cons P y ys (All-head P y (ys ++ x ∷ []) each) (All-front P ys x (All-tail P y (ys ++ x ∷ []) each))

      All-last : (P : Answer → Type 0) (xs : List Answer) (x : Answer) → All P (xs ++ x ∷ []) → P x
      All-last P [] x each = All-head P x [] each
      All-last P (y ∷ ys) x each = All-last P ys x (All-tail P y (ys ++ x ∷ []) each)

  -- an answer at a place before is passed over
  pub passed_over : a.place < from → (next : Option ℕ) → IsNext from (take i answers) next → IsNext from (take (i + 1) answers) next
  passed_over past None so_far = record {
    first = more (λ x. x.place < from) so_far.first past;
    onward = tt;
    there = λ most each. tt;
  }
  passed_over past (Some n) so_far = record {
    first = more (λ x. (x.place < from) ⊎ (n ≤ x.place)) so_far.first (inl past);
    onward = so_far.onward;
    there = λ most each. so_far.there most (fewer (λ x. x.place ≤ most) each).0;
  }

  -- so is one that is not before the next place
  pub comes_later : (next : Option ℕ) → option_map_or (λ n. ltb a.place n) next true ≡ false → IsNext from (take i answers) next → IsNext from (take (i + 1) answers) next
  comes_later None later so_far = absurd cc
  comes_later (Some n) later so_far = record {
    first = more (λ x. (x.place < from) ⊎ (n ≤ x.place)) so_far.first (inr (ltb-false a.place n later));
    onward = so_far.onward;
    there = λ most each. so_far.there most (fewer (λ x. x.place ≤ most) each).0;
  }

  -- one before it takes its turn
  pub comes_first : from ≤ a.place → (next : Option ℕ) → option_map_or (λ n. ltb a.place n) next true ≡ true → IsNext from (take i answers) next → IsNext from (take (i + 1) answers) (Some a.place)
  comes_first onward None before so_far = record {
    first = more (λ x. (x.place < from) ⊎ (a.place ≤ x.place)) (all_past (take i answers) so_far.first) (inr (omega arith));
    onward = onward;
    there = λ most each. (fewer (λ x. x.place ≤ most) each).1;
  }
    where
      all_past : (xs : List Answer) → All (λ x. x.place < from) xs → All (λ x. (x.place < from) ⊎ (a.place ≤ x.place)) xs
      all_past [] each = All-nil (λ (x : Answer). (x.place < from) ⊎ (a.place ≤ x.place))
      all_past (x ∷ xs) each = All-cons (λ (y : Answer). (y.place < from) ⊎ (a.place ≤ y.place)) x xs (inl (All-head (λ (y : Answer). y.place < from) x xs each)) (all_past xs (All-tail (λ (y : Answer). y.place < from) x xs each))
  comes_first onward (Some n) before so_far = record {
    first = more (λ x. (x.place < from) ⊎ (a.place ≤ x.place)) (all_nearer (take i answers) so_far.first) (inr (omega arith));
    onward = onward;
    there = λ most each. (fewer (λ x. x.place ≤ most) each).1;
  }
    where
      nearer : (x : Answer) → (x.place < from) ⊎ (n ≤ x.place) → (x.place < from) ⊎ (a.place ≤ x.place)
      nearer x (inl past) = inl past
      nearer x (inr later) = inr (omega (arith, later, ltb-true a.place n before))

      all_nearer : (xs : List Answer) → All (λ x. (x.place < from) ⊎ (n ≤ x.place)) xs → All (λ x. (x.place < from) ⊎ (a.place ≤ x.place)) xs
      all_nearer [] each = All-nil (λ (x : Answer). (x.place < from) ⊎ (a.place ≤ x.place))
      all_nearer (x ∷ xs) each =
          All-cons (λ (y : Answer). (y.place < from) ⊎ (a.place ≤ y.place)) x xs (nearer x (All-head (λ (y : Answer). (y.place < from) ⊎ (n ≤ y.place)) x xs each))
          (all_nearer xs (All-tail (λ (y : Answer). (y.place < from) ⊎ (n ≤ y.place)) x xs each))

-- what is left of a script from a command on
rest_is : (script : List Command) (i : ℕ) (c : Command) → slice_get script i ≡ Some c → drop i script ≡ c ∷ drop (i + 1) script
rest_is script i c is =
    let more : suc i ≡ i + 1 = omega arith in
    drop-cons script i c (slice_get_within script i c is) ∙ (λ j. get_or_from_slice_get script i c c is j ∷ drop (more j) script)

-- the first commands have their places, and the next one is given at this place
pub record IsPlaced (count : ℕ) (script : List Command) (answers : List Answer) (i place : ℕ) : Type 0 where
  pub made : map told_by answers ++ placed count place (drop i script) ≡ placed count 0 script
  pub there : place ≤ count

-- a command without an answer
abbrev unanswered : Command → ℕ → Told
unanswered c place = record { command = c; place = place; text = [] }

map-last : (answers : List Answer) (a : Answer) (rest : List Told) → map told_by (answers ++ a ∷ []) ++ rest ≡ map told_by answers ++ (told_by a ∷ rest)
map-last [] a rest = refl
map-last (x ∷ xs) a rest = ap (λ l. told_by x ∷ l) (map-last xs a rest)

-- one more command has its place
pub places_next : (count : ℕ) (script : List Command) (answers next : List Answer) (i place after : ℕ) (c : Command) (a : Answer) → slice_get script i ≡ Some c → a.command ≡ c → a.place ≡ place → a.text.items ≡ [] →
    next ≡ answers ++ a ∷ [] → after ≡ place_after count place c → after ≤ count → IsPlaced count script answers i place → IsPlaced count script next (i + 1) after
places_next count script answers next i place after c a is command at none pushed moves there so_far = record {
  made = (let new : told_by a ≡ unanswered c place = (λ j. record { command = command j; place = at j; text = none j }) in
      ap (λ l. map told_by l ++ placed count after (drop (i + 1) script)) pushed
      ∙ map-last answers a (placed count after (drop (i + 1) script))
      ∙ (λ j. map told_by answers ++ (new j ∷ placed count (moves j) (drop (i + 1) script)))
      ∙ ap (λ cs. map told_by answers ++ placed count place cs) (sym (rest_is script i c is))
      ∙ so_far.made);
  there = there;
}

-- the first answers have been told at a place, and the others are as they were
pub record IsToldUpTo (m : Machine) (count place : ℕ) (olds answers : List Answer) (i : ℕ) : Type 0 where
  pub count_is : length answers ≡ length olds
  pub told : map told_by (take i answers) ≡ map (told_here m count place) (map told_by (take i olds))
  pub rest : (k : ℕ) (d : Answer) → i ≤ k → get_or answers k d ≡ get_or olds k d

module _ (m : Machine) (count place : ℕ) (olds answers : List Answer) (i : ℕ) (so_far : IsToldUpTo m count place olds answers i) (inside : i < length answers) where
  map-more : (xs : List Answer) (x : Answer) → map told_by (xs ++ x ∷ []) ≡ map told_by xs ++ told_by x ∷ []
  map-more [] x = refl
  map-more (y ∷ ys) x = ap (λ l. told_by y ∷ l) (map-more ys x)

  here-more : (xs : List Told) (x : Told) → map (told_here m count place) (xs ++ x ∷ []) ≡ map (told_here m count place) xs ++ told_here m count place x ∷ []
  here-more [] x = refl
  here-more (y ∷ ys) x = ap (λ l. told_here m count place y ∷ l) (here-more ys x)

  -- what is told of the first ones and of one more
  told_more : (x d : Answer) → told_by x ≡ told_here m count place (told_by (get_or answers i d)) →
      map told_by (take i answers ++ x ∷ []) ≡ map (told_here m count place) (map told_by (take (i + 1) olds))
  told_more x d is =
      map-more (take i answers) x
      ∙ (λ j. so_far.told j ++ is j ∷ [])
      ∙ ap (λ a. map (told_here m count place) (map told_by (take i olds)) ++ told_here m count place (told_by a) ∷ []) (so_far.rest i d (omega arith))
      ∙ sym (here-more (map told_by (take i olds)) (told_by (get_or olds i d)))
      ∙ ap (map (told_here m count place)) (sym (map-more (take i olds) (get_or olds i d)))
      ∙ ap (λ l. map (told_here m count place) (map told_by l)) (sym (take_more olds i d (omega (arith, inside, so_far.count_is))))

  -- one that is given elsewhere stays
  pub told_elsewhere : (d : Answer) → (get_or answers i d).place ≢ place → IsToldUpTo m count place olds answers (i + 1)
  unfolding told_here
  told_elsewhere d elsewhere =
      let a : Answer = get_or answers i d in
      let apart : eqb a.place place ≡ false = grind (arith, nat_tests) in
      let same : told_by a ≡ told_here m count place (told_by a) =
      ap (λ b. cond b (record (told_by a) { text = a.text.items ++ answer m count place a.command }) (told_by a)) (sym apart) in
      record {
        count_is = so_far.count_is;
        told = ap (map told_by) (take_more answers i d inside) ∙ told_more a d same;
        rest = λ k e later. so_far.rest k e (omega (arith, later));
      }

  -- one that is given here is answered
  pub told_next : (d x : Answer) (next : List Answer) → next ≡ set answers i x → (get_or answers i d).place ≡ place → x.place ≡ (get_or answers i d).place → x.command ≡ (get_or answers i d).command →
      x.text.items ≡ (get_or answers i d).text.items ++ answer m count place (get_or answers i d).command → IsToldUpTo m count place olds next (i + 1)
  unfolding told_here
  told_next d x next is there at command text =
      let a : Answer = get_or answers i d in
      let here : eqb a.place place ≡ true = grind (arith, nat_tests) in
      let same : told_by x ≡ told_here m count place (told_by a) =
      (λ j. record { command = command j; place = at j; text = text j })
      ∙ ap (λ b. cond b (record (told_by a) { text = a.text.items ++ answer m count place a.command }) (told_by a)) (sym here) in
      record {
        count_is = ap length is ∙ length-set answers i x ∙ so_far.count_is;
        told = ap (λ l. map told_by (take (i + 1) l)) is ∙ ap (map told_by) (take_more_set answers i x inside) ∙ told_more x d same;
        rest = λ k e later. ap (λ l. get_or l k e) is ∙ get_or-set_other answers i k x e (omega (arith, later)) ∙ so_far.rest k e (omega (arith, later));
      }
    where
      get_or-set_other : (xs : List Answer) (n k : ℕ) (y e : Answer) → n + 1 ≤ k → get_or (set xs n y) k e ≡ get_or xs k e
      get_or-set_other [] n k y e later = refl
      get_or-set_other (z ∷ zs) zero zero y e later = absurd (omega (arith, later))
      get_or-set_other (z ∷ zs) zero (suc k) y e later = refl
      get_or-set_other (z ∷ zs) (suc n) zero y e later = absurd (omega (arith, later))
      get_or-set_other (z ∷ zs) (suc n) (suc k) y e later = get_or-set_other zs n k y e (omega (arith, later))

-- what is given before a place has been told, and the kernel has come no further than to it
pub record HasTold (inputs : Inputs) (steps : List ℕ) (script : List Command) (from : ℕ) (answers : List Answer) (now : History) : Type 0 where
  pub told : map told_by answers ≡ map (told_before (start inputs) steps from) (placed (length steps) 0 script)
  pub given : now.inputs ≡ inputs
  pub made : now.steps ≡ take (length now.steps) steps
  pub left : now.room + length now.steps ≡ length steps
  pub onward : length now.steps ≤ from

stays_by : (count at n : ℕ) (b : Bool) → nat_le n count ≡ b → at ≤ count → moved_to at (cond b (Some n) None) ≤ count
stays_by count at n true is there = let within : n ≤ count = grind (arith, nat_tests) in within
stays_by count at n false is there = there

stays : (count at : ℕ) (asked : Option ℕ) → at ≤ count → moved_to at (place_in count asked) ≤ count
stays count at None there = there
stays count at (Some n) there = stays_by count at n (nat_le n count) refl there

-- the places of a script are those of the steps
placed_there : (count at : ℕ) (script : List Command) → at ≤ count → All (λ x. x.place ≤ count) (placed count at script)
unfolding place_after
placed_there count at [] there = All-nil (λ (x : Told). x.place ≤ count)
placed_there count at (c ∷ cs) there =
    All-cons (λ (x : Told). x.place ≤ count) (unanswered c at) (placed count (moved_to at (place_in count (asked_place at c))) cs) there
    (placed_there count (moved_to at (place_in count (asked_place at c))) cs (stays count at (asked_place at c) there))

-- nothing has been told of them
placed_untold : (count at : ℕ) (script : List Command) → All (λ x. x.text ≡ []) (placed count at script)
placed_untold count at [] = All-nil (λ (x : Told). x.text ≡ [])
placed_untold count at (c ∷ cs) = All-cons (λ (x : Told). x.text ≡ []) (unanswered c at) (placed count (place_after count at c) cs) refl (placed_untold count (place_after count at c) cs)

module _ (m : Machine) (steps : List ℕ) where
  untold_at_first : (x : Told) → told_before m steps 0 x ≡ x
  unfolding told_before
  untold_at_first x = rw (le-ltb x.place 0 (omega arith)) refl

  none_told_before : (xs : List Told) → map (told_before m steps 0) xs ≡ xs
  none_told_before [] = refl
  none_told_before (x ∷ xs) = (λ j. untold_at_first x j ∷ none_told_before xs j)

  -- after a command was told at a place, it is told before the next one
  told_by_then : (from place : ℕ) (x : Told) → from ≤ place → x.text ≡ [] → (x.place < from) ⊎ (place ≤ x.place) →
      told_here (run m (take place steps)) (length steps) place (told_before m steps from x) ≡ told_before m steps (place + 1) x
  unfolding told_here told_before
  told_by_then from place x onward none where_it_is = by where_it_is (eqb x.place place) refl
    where
      answered : Told
      answered = record x { text = answer (run m (take x.place steps)) (length steps) x.place x.command }

      by : (x.place < from) ⊎ (place ≤ x.place) → (here : Bool) → eqb x.place place ≡ here →
          told_here (run m (take place steps)) (length steps) place (told_before m steps from x) ≡ told_before m steps (place + 1) x
      by (inl past) here is = rw (lt-ltb x.place from past, lt-ltb x.place (place + 1) (omega (arith, past, onward))) (let apart : eqb x.place place ≡ false = grind (arith, nat_tests) in rw apart refl)
      by (inr later) true is =
          let same : x.place ≡ place = grind (arith, nat_tests) in
          rw (le-ltb x.place from (omega (arith, onward, later)), lt-ltb x.place (place + 1) (omega (arith, same)), is, none)
          (ap (λ p. record x { text = answer (run m (take p steps)) (length steps) p x.command }) (sym same))
      by (inr later) false is =
          let beyond : place < x.place = grind (arith, nat_tests) in
          rw (le-ltb x.place from (omega (arith, onward, later)), le-ltb x.place (place + 1) (omega (arith, beyond)), is) refl

  all_told_by_then : (from place : ℕ) (xs : List Told) → from ≤ place → All (λ x. x.text ≡ []) xs → All (λ x. (x.place < from) ⊎ (place ≤ x.place)) xs →
      map (told_here (run m (take place steps)) (length steps) place) (map (told_before m steps from) xs) ≡ map (told_before m steps (place + 1)) xs
  all_told_by_then from place [] onward none there = refl
  all_told_by_then from place (x ∷ xs) onward none there =
      (λ j. told_by_then from place x onward (All-head (λ y. y.text ≡ []) x xs none) (All-head (λ y. (y.place < from) ⊎ (place ≤ y.place)) x xs there) j
      ∷ all_told_by_then from place xs onward (All-tail (λ y. y.text ≡ []) x xs none) (All-tail (λ y. (y.place < from) ⊎ (place ≤ y.place)) x xs there) j)

  -- when all are told, their texts are the transcript
  told_in_all : (from at : ℕ) (script : List Command) → All (λ x. x.place < from) (placed (length steps) at script) →
      flat_map (λ x. x.text) (map (told_before m steps from) (placed (length steps) at script)) ≡ transcript m steps at script
  unfolding told_before
  told_in_all from at [] past = refl
  told_in_all from at (c ∷ cs) past =
      let here : at < from = All-head (λ x. x.place < from) (unanswered c at) (placed (length steps) (place_after (length steps) at c) cs) past in
      let rest = told_in_all from (place_after (length steps) at c) cs (All-tail (λ x. x.place < from) (unanswered c at) (placed (length steps) (place_after (length steps) at c) cs) past) in
      rw (lt-ltb at from here) (ap (λ l. answer (run m (take at steps)) (length steps) at c ++ l) rest)

-- what holds of the places of answers holds of those of what they told
on_places : (P : ℕ → Type 0) (answers : List Answer) → All (λ a. P a.place) answers → All (λ x. P x.place) (map told_by answers)
on_places P answers each = All-map (λ x. P x.place) told_by answers each

same_by : (x : Told) (text : List ℕ) (b : Bool) → (cond b (record x { text = text }) x).place ≡ x.place
same_by x text true = refl
same_by x text false = refl

same_place : (m : Machine) (steps : List ℕ) (from : ℕ) (x : Told) → (told_before m steps from x).place ≡ x.place
unfolding told_before
same_place m steps from x = same_by x (answer (run m (take x.place steps)) (length steps) x.place x.command) (ltb x.place from)

same_places : (P : ℕ → Type 0) (m : Machine) (steps : List ℕ) (from : ℕ) (xs : List Told) → All (λ x. P x.place) (map (told_before m steps from) xs) → All (λ x. P x.place) xs
same_places P m steps from [] each = All-nil (λ (x : Told). P x.place)
same_places P m steps from (x ∷ xs) each =
    All-cons (λ (y : Told). P y.place) x xs
    (subst P (same_place m steps from x) (All-head (λ y. P y.place) (told_before m steps from x) (map (told_before m steps from) xs) each))
    (same_places P m steps from xs (All-tail (λ y. P y.place) (told_before m steps from x) (map (told_before m steps from) xs) each))

back_to_answers : (P : ℕ → Type 0) (answers : List Answer) → All (λ x. P x.place) (map told_by answers) → All (λ a. P a.place) answers
back_to_answers P [] each = All-nil (λ (a : Answer). P a.place)
back_to_answers P (a ∷ more) each =
    All-cons (λ (x : Answer). P x.place) a more (All-head (λ y. P y.place) (told_by a) (map told_by more) each)
    (back_to_answers P more (All-tail (λ y. P y.place) (told_by a) (map told_by more) each))

before_places : (P : ℕ → Type 0) (m : Machine) (steps : List ℕ) (from : ℕ) (xs : List Told) → All (λ x. P x.place) xs → All (λ x. P x.place) (map (told_before m steps from) xs)
before_places P m steps from [] each = All-nil (λ (x : Told). P x.place)
before_places P m steps from (x ∷ xs) each =
    All-cons (λ (y : Told). P y.place) (told_before m steps from x) (map (told_before m steps from) xs)
    (subst P (sym (same_place m steps from x)) (All-head (λ y. P y.place) x xs each))
    (before_places P m steps from xs (All-tail (λ y. P y.place) x xs each))

pub nothing_told : (inputs : Inputs) (steps : List ℕ) (script : List Command) (answers : List Answer) (now : History) → map told_by answers ≡ placed (length steps) 0 script →
    now.inputs ≡ inputs → now.steps ≡ [] → now.room ≡ length steps → HasTold inputs steps script 0 answers now
nothing_told inputs steps script answers now made given fresh room = record {
  told = made ∙ sym (none_told_before (start inputs) steps (placed (length steps) 0 script));
  given = given;
  made = fresh ∙ ap (λ (l : List ℕ). take (length l) steps) (sym fresh);
  left = omega (arith, room, ap length fresh);
  onward = omega (arith, ap length fresh);
}

module _ (inputs : Inputs) (steps : List ℕ) (script : List Command) (from : ℕ) (answers : List Answer) (now : History) (so_far : HasTold inputs steps script from answers now) where
  -- the places of the answers are those of the steps
  pub answers_there : All (λ a. a.place ≤ length steps) answers
  answers_there =
      back_to_answers (λ n. n ≤ length steps) answers
      (subst (All (λ x. x.place ≤ length steps)) (sym so_far.told) (before_places (λ n. n ≤ length steps) (start inputs) steps from (placed (length steps) 0 script) (placed_there (length steps) 0 script (omega arith))))

  -- the commands at the next place are told in the machine there
  pub tells_more : (place : ℕ) (next : List Answer) (after : History) → from ≤ place → place ≤ length steps → All (λ a. (a.place < from) ⊎ (place ≤ a.place)) answers →
      after.inputs ≡ inputs → after.steps ≡ take place steps → after.room + place ≡ length steps →
      map told_by next ≡ map (told_here (machine_of after) (length steps) place) (map told_by answers) → HasTold inputs steps script (place + 1) next after
  unfolding machine_of
  tells_more place next after onward there first given made left tells =
      let count : length after.steps ≡ place = ap length made ∙ length-take-le place steps there in
      let places = same_places (λ n. (n < from) ⊎ (place ≤ n)) (start inputs) steps from (placed (length steps) 0 script)
      (subst (All (λ x. (x.place < from) ⊎ (place ≤ x.place))) so_far.told (on_places (λ n. (n < from) ⊎ (place ≤ n)) answers first)) in
      record {
        told = tells
            ∙ (λ j. map (told_here (run (start (given j)) (made j)) (length steps) place) (so_far.told j))
            ∙ all_told_by_then (start inputs) steps from place (placed (length steps) 0 script) onward (placed_untold (length steps) 0 script) places;
        given = given;
        made = made ∙ ap (λ n. take n steps) (sym count);
        left = omega (arith, count, left);
        onward = omega (arith, count);
      }

  -- where no place is left, all is told
  pub tells_all : (text : List ℕ) → All (λ a. a.place < from) answers → text ≡ flat_map (λ a. a.text.items) answers → text ≡ transcript (start inputs) steps 0 script
  tells_all text past is =
      let places = same_places (λ n. n < from) (start inputs) steps from (placed (length steps) 0 script) (subst (All (λ x. x.place < from)) so_far.told (on_places (λ n. n < from) answers past)) in
      is ∙ texts answers ∙ ap (flat_map (λ x. x.text)) so_far.told ∙ told_in_all (start inputs) steps from 0 script places
    where
      texts : (xs : List Answer) → flat_map (λ a. a.text.items) xs ≡ flat_map (λ x. x.text) (map told_by xs)
      texts [] = refl
      texts (a ∷ xs) = ap (λ l. a.text.items ++ l) (texts xs)

-- what is written back into a vector is all of it
pub written_back : (len : ℕ) (olds news : List Answer) → len ≡ length olds → length news ≡ length olds → take len (news ++ drop (length news) olds) ≡ news
written_back len olds news whole same =
    ap (λ l. take len (news ++ l)) (nothing_left (length news) olds (omega (arith, same))) ∙ ap (take len) (append-nil news) ∙ take_all len news (omega (arith, whole, same))
  where
    nothing_left : (n : ℕ) (xs : List Answer) → length xs ≤ n → drop n xs ≡ []
    nothing_left zero [] all = refl
    nothing_left (suc n) [] all = refl
    nothing_left zero (x ∷ xs) all = absurd (omega (arith, all))
    nothing_left (suc n) (x ∷ xs) all = nothing_left n xs (omega (arith, all))

-- answers that tell as many things are as many
pub as_many : (m : Machine) (count place : ℕ) (olds news : List Answer) → map told_by news ≡ map (told_here m count place) (map told_by olds) → length news ≡ length olds
as_many m count place olds news tells =
    sym (length-map news told_by) ∙ ap length tells ∙ length-map (map told_by olds) (told_here m count place) ∙ length-map olds told_by

-- an answer that is there, whatever would stand for one that is not
pub same_item : (xs : List Answer) (i : ℕ) (d e : Answer) → i < length xs → get_or xs i d ≡ get_or xs i e
same_item [] i d e inside = absurd (omega (arith, inside))
same_item (x ∷ xs) zero d e inside = refl
same_item (x ∷ xs) (suc i) d e inside = same_item xs i d e (omega (arith, inside))
