-- The pages of a run have one state.
use Rattle.std.proofs.Common.{◌≡◌, ℕ, suc, ◌+◌, get_or, length, take, ◌<◌, ◌≤◌, Bool, List, [], ◌∷◌, ◌&&◌, arith, cond, leb, ltb, refl, subst, sym, ◌∙◌, ⊎_elim, ◌⊎◌, ◌||◌, ap, true, false, Some}
use Rattle.std.specs.Prelude.{All, ◌==◌}
use Rattle.std.specs.List.{find, list_any}
use Rattle.std.proofs.lemmas.Bool.{cases_lt, lt-ltb, le-ltb, le-leb, lt-leb}
use Rattle.std.proofs.Math.Bool.{or-true}
use Rattle.std.proofs.lemmas.Bool.Decides.{nat_tests}
use Rattle.std.proofs.lemmas.List.Elements.{All-more}
use Rattle.std.proofs.lemmas.List.Folds.{list_any_more}
use Rattle.range_map.specs.Kinds.{is_between, state_at, state_after}
use Rattle.range_map.specs.declared.segment.Change.{Change}
use Rattle.range_map.specs.declared.segment.Segment.{Segment}

-- what goes from one page to another has all pages from a page to an edge, or none
pub record HasNoEdge (p edge from to : ℕ) : Type 0 where
  pub alike : (q : ℕ) → p ≤ q → q < edge → is_between from to q ≡ is_between from to p

-- what neither begins nor ends after a page and before an edge has all of those pages or none
pub between_same : (p edge q from to : ℕ) → (p < from → edge ≤ from) → (p < to → edge ≤ to) → p ≤ q → q < edge → is_between from to q ≡ is_between from to p
between_same p edge q from to begins ends low high =
    (λ i. begun i && open_still i)
  where
    begun : leb from q ≡ leb from p
    begun = ⊎_elim
        (λ late. lt-leb from q (let off = begins late in omega arith) ∙ sym (lt-leb from p late))
        (λ early. le-leb from q (omega arith) ∙ sym (le-leb from p early))
        (cases_lt p from)

    open_still : ltb q to ≡ ltb p to
    open_still = ⊎_elim
        (λ within. lt-ltb q to (let off = ends within in omega arith) ∙ sym (lt-ltb p to within))
        (λ past. le-ltb q to (omega arith) ∙ sym (le-ltb p to past))
        (cases_lt p to)

-- two tests that agree on each element find the same
pub find_same : {X : Type 0} (f g : X → Bool) (xs : List X) → All (λ x. f x ≡ g x) xs → find f xs ≡ find g xs
find_same f g [] same = refl
find_same f g (x ∷ xs) same =
    let head = same 0 x (omega arith) in
    let tail = find_same f g xs (λ k d inside. same (suc k) d (omega arith)) in
    λ i. cond (head i) (Some x) (tail i)

-- what has no edge before one has none before a nearer one
pub no_edge_nearer : {X : Type 0} (from to : X → ℕ) (p edge next : ℕ) (xs : List X) → next ≤ edge →
    All (λ x. HasNoEdge p edge (from x) (to x)) xs → All (λ x. HasNoEdge p next (from x) (to x)) xs
no_edge_nearer from to p edge next xs nearer none k d inside = record { alike = λ q low high. (none k d inside).alike q low (omega arith) }

-- nor has one more, where the edge is no later than its own
pub no_edge_more : {X : Type 0} (from to : X → ℕ) (p edge next i : ℕ) (xs : List X) (d : X) → i < length xs → next ≤ edge →
    ((q : ℕ) → p ≤ q → q < next → is_between (from (get_or xs i d)) (to (get_or xs i d)) q ≡ is_between (from (get_or xs i d)) (to (get_or xs i d)) p) →
    All (λ x. HasNoEdge p edge (from x) (to x)) (take i xs) → All (λ x. HasNoEdge p next (from x) (to x)) (take (i + 1) xs)
no_edge_more from to p edge next i xs d inside nearer alike none =
    All-more (λ x. HasNoEdge p next (from x) (to x)) xs i d inside (no_edge_nearer from to p edge next (take i xs) nearer none) (record { alike = alike })

-- the first element that has a page is the same up to the edge
pub find_alike : {X : Type 0} (from to : X → ℕ) (p edge q : ℕ) (xs : List X) → All (λ x. HasNoEdge p edge (from x) (to x)) xs → p ≤ q → q < edge →
    find (λ x. is_between (from x) (to x) q) xs ≡ find (λ x. is_between (from x) (to x) p) xs
find_alike from to p edge q xs none low high =
    find_same (λ x. is_between (from x) (to x) q) (λ x. is_between (from x) (to x) p) xs (λ k d inside. (none k d inside).alike q low high)

pub run_alike : (changes : List Change) (segments : List Segment) (p edge q : ℕ) → state_at segments q ≡ state_at segments p →
    All (λ c. HasNoEdge p edge c.from c.to) changes → p ≤ q → q < edge → state_after changes segments q ≡ state_after changes segments p
unfolding state_after
run_alike changes segments p edge q same clear low high =
    let of_changes = find_alike (λ c. c.from) (λ c. c.to) p edge q changes clear low high in
    rw (same, of_changes) refl

-- what settled an answer settles it with a further test
or_more : (a b more : Bool) → (a || b) ≡ true → (a || (b || more)) ≡ true
or_more true b more is = refl
or_more false true more is = refl
or_more false false more is = absurd cc

-- an edge elsewhere or of an element; a nearer one than the one before is of a further element
pub edge_more : {X : Type 0} (from to : X → ℕ) (elsewhere : ℕ → Bool) (xs : List X) (i : ℕ) (d : X) (edge next end : ℕ) → i < length xs →
    (edge < end → (elsewhere edge || list_any (λ x. (from x == edge) || (to x == edge)) (take i xs)) ≡ true) → next ≤ edge →
    (next < edge → (next ≡ from (get_or xs i d)) ⊎ (next ≡ to (get_or xs i d))) → next < end →
    (elsewhere next || list_any (λ x. (from x == next) || (to x == next)) (take (i + 1) xs)) ≡ true
edge_more {X = X} from to elsewhere xs i d edge next end inside before nearer one early =
    ap (λ b. elsewhere next || b) (list_any_more test xs i d inside)
    ∙ ⊎_elim
    (λ low. ap (λ b. elsewhere next || (list_any test (take i xs) || b)) (here (one low)) ∙ ap (λ b. elsewhere next || b) (or-true (list_any test (take i xs))) ∙ or-true (elsewhere next))
    (λ high. let same : edge ≡ next = omega (arith, high, nearer) in
    or_more (elsewhere next) (list_any test (take i xs)) _ (subst (λ e. (elsewhere e || list_any (λ x. (from x == e) || (to x == e)) (take i xs)) ≡ true) same (before (omega (arith, same, early)))))
    (cases_lt next edge)
  where
    test : X → Bool
    test x = (from x == next) || (to x == next)

    here : (next ≡ from (get_or xs i d)) ⊎ (next ≡ to (get_or xs i d)) → test (get_or xs i d) ≡ true
    here at = grind (arith, nat_tests, at)
