-- What a search keeps true, and what it has found at its end.
use Rattle.std.proofs.Common.{◌↔◌, ◌≡◌, ◌≢◌, ◌⊎◌, inl, inr, ◌∙◌, ℕ, zero, suc, ◌+◌, ◌-◌, ◌<◌, ◌≤◌, ◌++◌, Bool, true, false, cond, List, [], ◌∷◌, Option, None, Some, All, eqb, nat_lt, not, ap, arith, length, length-append, get_or, refl, replicate, set, subst, sym}
use Rattle.std.proofs.Math.Nat.{eq-or-lt_of_le}
use Rattle.std.proofs.lemmas.Bool.{cases_lt, ltb-false, ltb-true}
use native.Mathlib.Numerals.{unary_clauses}
use Rattle.std.proofs.lemmas.List.{get_or-set_other, get_or_default, length-set}
use Rattle.std.proofs.lemmas.List.Sums.{sum_by-set}
use Rattle.std.proofs.lemmas.Bool.Decides.{eqb_tells}
use Rattle.std.proofs.lemmas.Option.{none-some}
use Rattle.std.specs.Prelude.{IfSome, unwrap_or}
use Rattle.std.proofs.Math.ListN.{get_or-append}
use Rattle.std.proofs.Math.Seq.{get_or-append_seam}
use Rattle.std.proofs.lemmas.Grind.{get_or-set_at}
use Rattle.std.proofs.lemmas.List.Elements.{All-get_or, Contains-get_or}
use Rattle.std.proofs.lemmas.Bool.{false≢true}
use Rattle.lwc_types.specs.declared.limits.TheConstants.{MOST_CONTEXTS}
use Rattle.lwc_types.specs.declared.key.TheConstants.{SLOTS}
use Rattle.reach.specs.Reach.{Reaches, is_marked}
use Rattle.reach.specs.Reach.Reaches.{Root, Link}
use Rattle.reach.specs.Search.{Found, IsWhole, LinksWithin, expanded, nothing_found, visited, visited_link, with_links}

-- no place of a list without marks is marked
pub none_marked : (count place : ℕ) → is_marked (replicate count false) place ≡ false
none_marked zero place = refl
none_marked (suc count) zero = refl
none_marked (suc count) (suc place) = none_marked count place

-- a search that has found another one's places too, in the same order
pub record GrowsFrom (s t : Found) : Type 0 where
  pub long : length s.order ≤ length t.order
  pub order : (i : ℕ) → i < length s.order → get_or t.order i 0 ≡ get_or s.order i 0
  pub marks : (place : ℕ) → is_marked s.marks place ≡ true → is_marked t.marks place ≡ true

grows_not : (s : Found) → GrowsFrom s s
grows_not s = record { long = omega arith; order = λ i within. refl; marks = λ place is. is }

grows_on : (r s t : Found) → GrowsFrom r s → GrowsFrom s t → GrowsFrom r t
grows_on r s t one two = record {
  long = omega (arith, one.long, two.long);
  order = λ i within. two.order i (omega (arith, within, one.long)) ∙ one.order i within;
  marks = λ place is. two.marks place (one.marks place is);
}

-- what a search has found is reached, and what is marked was found
pub record IsSearch (link_of : ℕ → ℕ → Option ℕ) (roots : List ℕ) (s : Found) : Type 0 where
  pub whole : IsWhole s
  pub reached : (i : ℕ) → i < length s.order → Reaches link_of roots (get_or s.order i 0)
  pub within : (i : ℕ) → i < length s.order → get_or s.order i 0 < MOST_CONTEXTS
  pub found : (place : ℕ) → is_marked s.marks place ≡ true → (i : ℕ) × (i < length s.order) × (get_or s.order i 0 ≡ place)

marked_at : (marks : List Bool) (place : ℕ) → place < length marks → is_marked (set marks place true) place ≡ true
marked_at marks place within = get_or-set_at marks place place true false refl within

still_marked : (marks : List Bool) (place q : ℕ) → place < length marks → ((eqb q place ≡ true) × (q ≡ place)) ⊎ ((eqb q place ≡ false) × (q ≢ place)) →
    is_marked marks q ≡ true → is_marked (set marks place true) q ≡ true
still_marked marks place q within (inl same) is = get_or-set_at marks place q true false same.1 within
still_marked marks place q within (inr other) is = get_or-set_other marks place q true false other.1 ∙ is

was_marked : (marks : List Bool) (place q : ℕ) → ((eqb q place ≡ true) × (q ≡ place)) ⊎ ((eqb q place ≡ false) × (q ≢ place)) →
    is_marked (set marks place true) q ≡ true → (q ≡ place) ⊎ (is_marked marks q ≡ true)
was_marked marks place q (inl same) is = inl same.1
was_marked marks place q (inr other) is = inr (sym (get_or-set_other marks place q true false other.1) ∙ is)

-- a search with one place more that was not marked
abbrev added : Found → ℕ → Found
added s place = record { marks = set s.marks place true; order = s.order ++ place ∷ [] }

grows-added : (s : Found) (place : ℕ) → IsWhole s → place < MOST_CONTEXTS → GrowsFrom s (added s place)
grows-added s place whole within = record {
  long = omega (arith, length-append s.order (place ∷ []));
  order = λ i inside. get_or-append s.order (place ∷ []) 0 i inside;
  marks = λ q is. still_marked s.marks place q (omega (arith, within, whole.whole)) (eqb_tells q place) is;
}

grows-either : (s : Found) (place : ℕ) (b : Bool) → IsWhole s → place < MOST_CONTEXTS → GrowsFrom s (cond b s (added s place))
grows-either s place true whole within = grows_not s
grows-either s place false whole within = grows-added s place whole within

pub grows-visited : (s : Found) (place : ℕ) → IsWhole s → place < MOST_CONTEXTS → GrowsFrom s (visited s place)
grows-visited s place whole within = grows-either s place _ whole within

either_marked : (s : Found) (place : ℕ) (b : Bool) → is_marked s.marks place ≡ b → IsWhole s → place < MOST_CONTEXTS → is_marked (cond b s (added s place)).marks place ≡ true
either_marked s place true is whole within = is
either_marked s place false is whole within = marked_at s.marks place (omega (arith, within, whole.whole))

pub marked-visited : (s : Found) (place : ℕ) → IsWhole s → place < MOST_CONTEXTS → is_marked (visited s place).marks place ≡ true
marked-visited s place whole within = either_marked s place _ refl whole within

whole-added : (s : Found) (place : ℕ) → IsWhole s → place < MOST_CONTEXTS → is_marked s.marks place ≡ false → IsWhole (added s place)
whole-added s place whole within is = record {
  whole = length-set s.marks place true ∙ whole.whole;
  room = omega (
    arith,
    whole.room,
    length-append s.order (place ∷ []),
    ap {B = ℕ} (λ b. cond (not b) 1 0) is,
    sum_by-set (λ b. cond (not b) 1 0) s.marks place true false (omega (arith, within, whole.whole)),
  );
}

module _ (link_of : ℕ → ℕ → Option ℕ) (roots : List ℕ) where
  at_last : (P : ℕ → Type 0) (order : List ℕ) (place : ℕ) → P place → ((i : ℕ) → i < length order → P (get_or order i 0)) →
      (i : ℕ) → i < length (order ++ place ∷ []) → P (get_or (order ++ place ∷ []) i 0)
  at_last P order place last before i inside =
      here (eq-or-lt_of_le (omega (arith, inside, length-append order (place ∷ []))))
    where
      here : (i ≡ length order) ⊎ (i < length order) → P (get_or (order ++ place ∷ []) i 0)
      here (inl is) = subst P (sym (ap (λ j. get_or (order ++ place ∷ []) j 0) is ∙ get_or-append_seam order place [] 0)) last
      here (inr less) = subst P (sym (get_or-append order (place ∷ []) 0 i less)) (before i less)

  found_of : (s : Found) (place q : ℕ) → IsSearch link_of roots s → (q ≡ place) ⊎ (is_marked s.marks q ≡ true) →
      (i : ℕ) × (i < length (added s place).order) × (get_or (added s place).order i 0 ≡ q)
  found_of s place q kept (inl is) = (length s.order, omega (arith, length-append s.order (place ∷ [])), get_or-append_seam s.order place [] 0 ∙ sym is)
  found_of s place q kept (inr is) =
      let old = kept.found q is in
      (old.0, omega (arith, old.1, length-append s.order (place ∷ [])), get_or-append s.order (place ∷ []) 0 old.0 old.1 ∙ old.2)

  search-either : (s : Found) (place : ℕ) (b : Bool) → is_marked s.marks place ≡ b → place < MOST_CONTEXTS → Reaches link_of roots place → IsSearch link_of roots s → IsSearch link_of roots (cond b s (added s place))
  search-either s place true is within reached kept = kept
  search-either s place false is within reached kept = record {
    whole = whole-added s place kept.whole within is;
    reached = at_last (Reaches link_of roots) s.order place reached kept.reached;
    within = at_last (λ q. q < MOST_CONTEXTS) s.order place within kept.within;
    found = λ q marked. found_of s place q kept (was_marked s.marks place q (eqb_tells q place) marked);
  }

  pub search-visited : (s : Found) (place : ℕ) → place < MOST_CONTEXTS → Reaches link_of roots place → IsSearch link_of roots s → IsSearch link_of roots (visited s place)
  search-visited s place within reached kept = search-either s place _ refl within reached kept

-- a search has found the first roots
pub record HasRoots (roots : List ℕ) (n : ℕ) (s : Found) : Type 0 where
  pub marked : (i : ℕ) → i < n → is_marked s.marks (get_or roots i 0) ≡ true

-- a search has found what the first slots of a place link to
abbrev pub HasLinks : (ℕ → ℕ → Option ℕ) → ℕ → ℕ → Found → Type 0
HasLinks link_of place n s = (slot next : ℕ) → slot < n → link_of place slot ≡ Some next → is_marked s.marks next ≡ true

-- a search has found what the first places that it found link to
pub record IsExpanded (link_of : ℕ → ℕ → Option ℕ) (n : ℕ) (s : Found) : Type 0 where
  pub linked : (i : ℕ) → i < n → i < length s.order → HasLinks link_of (get_or s.order i 0) SLOTS s

pub links-none : (link_of : ℕ → ℕ → Option ℕ) (place : ℕ) (s : Found) → s ≡ with_links link_of place s 0
unfolding with_links
links-none link_of place s = refl

one_more : (link_of : ℕ → ℕ → Option ℕ) (place n : ℕ) (s : Found) → visited_link (with_links link_of place s n) (link_of place n) ≡ with_links link_of place s (n + 1)
unfolding with_links
one_more link_of place n s = simp unary_clauses refl

pub links-next : (link_of : ℕ → ℕ → Option ℕ) (place n : ℕ) (s t : Found) (link : Option ℕ) → t ≡ with_links link_of place s n → link_of place n ≡ link →
    visited_link t link ≡ with_links link_of place s (n + 1)
links-next link_of place n s t link is found = ap (λ r. visited_link r link) is ∙ ap (visited_link (with_links link_of place s n)) (sym found) ∙ one_more link_of place n s

pub within-next : (link_of : ℕ → ℕ → Option ℕ) (place n : ℕ) (link : Option ℕ) → link ≡ link_of place n → IfSome link (λ next. next < MOST_CONTEXTS) →
    LinksWithin link_of place n → LinksWithin link_of place (n + 1)
within-next link_of place n link is fits before = record { each = λ slot next less found. here slot next found (eq-or-lt_of_le (omega (arith, less))) }
  where
    here : (slot next : ℕ) → link_of place slot ≡ Some next → (slot ≡ n) ⊎ (slot < n) → next < MOST_CONTEXTS
    here slot next found (inl same) = subst (λ o. IfSome o (λ q. q < MOST_CONTEXTS)) (is ∙ ap (link_of place) (sym same) ∙ found) fits
    here slot next found (inr earlier) = before.each slot next earlier found

links-skip : (link_of : ℕ → ℕ → Option ℕ) (place n k : ℕ) (s : Found) → ((slot : ℕ) → n ≤ slot → slot < n + k → link_of place slot ≡ None) →
    with_links link_of place s n ≡ with_links link_of place s (n + k)
links-skip link_of place n zero s none = ap (with_links link_of place s) (omega arith)
links-skip link_of place n (suc k) s none =
    links-skip link_of place n k s (λ slot low high. none slot low (omega (arith, high)))
    ∙ ap (visited_link (with_links link_of place s (n + k))) (sym (none (n + k) (omega arith) (omega arith)))
    ∙ one_more link_of place (n + k) s
    ∙ ap (with_links link_of place s) (omega arith)

-- slots that link to no place are passed over
pub links-past : (link_of : ℕ → ℕ → Option ℕ) (place n m : ℕ) (s : Found) → n ≤ m → ((slot : ℕ) → n ≤ slot → slot < m → link_of place slot ≡ None) →
    with_links link_of place s n ≡ with_links link_of place s m
links-past link_of place n m s low none =
    links-skip link_of place n (m - n) s (λ slot from to. none slot from (omega (arith, to, low))) ∙ ap (with_links link_of place s) (omega (arith, low))

pub within-past : (link_of : ℕ → ℕ → Option ℕ) (place n m : ℕ) → ((slot : ℕ) → n ≤ slot → slot < m → link_of place slot ≡ None) →
    LinksWithin link_of place n → LinksWithin link_of place m
within-past link_of place n m none before = record {
  each = λ slot next less found.
      elim (cases_lt slot n) [
        | inl low ↦ before.each slot next low found
        | inr high ↦ absurd (none-some next (sym (none slot high less) ∙ found))
      ];
}

-- a search that began from another one has found what the first slots of a place link to
pub record IsLinked (link_of : ℕ → ℕ → Option ℕ) (roots : List ℕ) (place n : ℕ) (s t : Found) : Type 0 where
  pub kept : IsSearch link_of roots t
  pub grown : GrowsFrom s t
  pub linked : HasLinks link_of place n t

module _ (link_of : ℕ → ℕ → Option ℕ) (roots : List ℕ) (place : ℕ) (s : Found) (reached : Reaches link_of roots place) (within : LinksWithin link_of place SLOTS) where
  no_link : (n : ℕ) (t : Found) → link_of place n ≡ None → HasLinks link_of place n t → HasLinks link_of place (suc n) t
  no_link n t none before slot next less is = here (eq-or-lt_of_le (omega (arith, less)))
    where
      here : (slot ≡ n) ⊎ (slot < n) → is_marked t.marks next ≡ true
      here (inl same) = absurd (none-some next (sym none ∙ ap (link_of place) (sym same) ∙ is))
      here (inr earlier) = before slot next earlier is

  one_link_more : (n q : ℕ) (t : Found) → link_of place n ≡ Some q → IsWhole t → q < MOST_CONTEXTS → HasLinks link_of place n t → HasLinks link_of place (suc n) (visited t q)
  one_link_more n q t some whole inside before slot next less is = here (eq-or-lt_of_le (omega (arith, less)))
    where
      here : (slot ≡ n) ⊎ (slot < n) → is_marked (visited t q).marks next ≡ true
      here (inl same) =
          subst (λ p. is_marked (visited t q).marks p ≡ true) (ap (λ o. unwrap_or o q) (sym some ∙ ap (link_of place) (sym same) ∙ is)) (marked-visited t q whole inside)
      here (inr earlier) = (grows-visited t q whole inside).marks next (before slot next earlier is)

  linked_one : (n : ℕ) (link : Option ℕ) (t : Found) → n < SLOTS → link_of place n ≡ link → IsLinked link_of roots place n s t →
      IsLinked link_of roots place (suc n) s (visited_link t link)
  linked_one n None t less is before =
      record { kept = before.kept; grown = before.grown; linked = no_link n t is before.linked }
  linked_one n (Some q) t less is before =
      let inside = within.each n q less is in record {
        kept = search-visited link_of roots t q inside (Link place n q reached less is) before.kept;
        grown = grows_on s t (visited t q) before.grown (grows-visited t q before.kept.whole inside);
        linked = one_link_more n q t is before.kept.whole inside before.linked;
      }

  pub linked_all : (n : ℕ) → n ≤ SLOTS → IsSearch link_of roots s → IsLinked link_of roots place n s (with_links link_of place s n)
  unfolding with_links
  linked_all zero few kept =
      record { kept = kept; grown = grows_not s; linked = λ slot next less is. absurd (omega (arith, less)) }
  linked_all (suc n) few kept =
      linked_one n (link_of place n) _ (omega (arith, few)) refl (linked_all n (omega (arith, few)) kept)

pub roots-kept : (roots : List ℕ) (n : ℕ) (s t : Found) → GrowsFrom s t → HasRoots roots n s → HasRoots roots n t
roots-kept roots n s t grown has = record { marked = λ i less. grown.marks _ (has.marked i less) }

pub one_root_more : (roots : List ℕ) (n : ℕ) (s : Found) → IsWhole s → get_or roots n 0 < MOST_CONTEXTS → HasRoots roots n s →
    HasRoots roots (n + 1) (visited s (get_or roots n 0))
one_root_more roots n s whole within has = record { marked = λ i less. here i (eq-or-lt_of_le (omega (arith, less))) }
  where
    here : (i : ℕ) → (i ≡ n) ⊎ (i < n) → is_marked (visited s (get_or roots n 0)).marks (get_or roots i 0) ≡ true
    here i (inl same) = subst (λ j. is_marked (visited s (get_or roots n 0)).marks (get_or roots j 0) ≡ true) (sym same) (marked-visited s _ whole within)
    here i (inr earlier) = (grows-visited s _ whole within).marks _ (has.marked i earlier)

-- a search that has found what one place more links to
pub one_place_more : (link_of : ℕ → ℕ → Option ℕ) (roots : List ℕ) (n : ℕ) (s t : Found) → n < length s.order →
    IsLinked link_of roots (get_or s.order n 0) SLOTS s t → IsExpanded link_of n s → IsExpanded link_of (n + 1) t
one_place_more link_of roots n s t less one before = record { linked = λ i below inside. here i (eq-or-lt_of_le (omega (arith, below))) }
  where
    here : (i : ℕ) → (i ≡ n) ⊎ (i < n) → HasLinks link_of (get_or t.order i 0) SLOTS t
    here i (inl same) =
        subst (λ p. HasLinks link_of p SLOTS t) (sym (ap (λ j. get_or t.order j 0) same ∙ one.grown.order n less)) one.linked
    here i (inr earlier) =
        subst (λ p. HasLinks link_of p SLOTS t) (sym (one.grown.order i (omega (arith, earlier, less))))
        (λ slot next few is. one.grown.marks next (before.linked i earlier (omega (arith, earlier, less)) slot next few is))

pub no_place_more : (link_of : ℕ → ℕ → Option ℕ) (n : ℕ) (s : Found) → length s.order ≤ n → IsExpanded link_of n s → IsExpanded link_of (n + 1) s
no_place_more link_of n s past before = record { linked = λ i below inside. before.linked i (omega (arith, inside, past)) inside }

-- a search between two places of its order
pub record IsBetween (link_of : ℕ → ℕ → Option ℕ) (roots : List ℕ) (n : ℕ) (s : Found) : Type 0 where
  pub kept : IsSearch link_of roots s
  pub begun : HasRoots roots (length roots) s
  pub expanded : IsExpanded link_of n s

expanded_either : (link_of : ℕ → ℕ → Option ℕ) (roots : List ℕ) (n : ℕ) (s : Found) (b : Bool) → nat_lt n (length s.order) ≡ b →
    (n < length s.order → LinksWithin link_of (get_or s.order n 0) SLOTS) → IsBetween link_of roots n s →
    IsBetween link_of roots (n + 1) (cond b (with_links link_of (get_or s.order n 0) s SLOTS) s)
expanded_either link_of roots n s true is within before =
    let less = ltb-true n (length s.order) is in
    let one = linked_all link_of roots (get_or s.order n 0) s (before.kept.reached n less) (within less) SLOTS (omega arith) before.kept in record {
      kept = one.kept;
      begun = roots-kept roots (length roots) s _ one.grown before.begun;
      expanded = one_place_more link_of roots n s _ less one before.expanded;
    }
expanded_either link_of roots n s false is within before =
    record { kept = before.kept; begun = before.begun; expanded = no_place_more link_of n s (ltb-false n (length s.order) is) before.expanded }

pub between-next : (link_of : ℕ → ℕ → Option ℕ) (roots : List ℕ) (n : ℕ) (s t : Found) → t ≡ expanded link_of s n →
    (n < length s.order → LinksWithin link_of (get_or s.order n 0) SLOTS) → IsBetween link_of roots n s → IsBetween link_of roots (n + 1) t
between-next link_of roots n s t is within before =
    subst (IsBetween link_of roots (n + 1)) (sym is) (expanded_either link_of roots n s _ refl within before)

nothing-whole : IsWhole nothing_found
nothing-whole = record { whole = refl; room = refl }

-- a search begins with no root
pub begun : (link_of : ℕ → ℕ → Option ℕ) (roots : List ℕ) (s : Found) → s ≡ nothing_found → IsSearch link_of roots s
begun link_of roots s is = subst (IsSearch link_of roots) (sym is) (record {
  whole = nothing-whole;
  reached = λ i inside. absurd (omega (arith, inside));
  within = λ i inside. absurd (omega (arith, inside));
  found = λ place marked. absurd (false≢true (sym (none_marked 529 place) ∙ marked));
})

pub no_root : (roots : List ℕ) (s : Found) → HasRoots roots 0 s
no_root roots s = record { marked = λ i less. absurd (omega (arith, less)) }

pub search-root : (link_of : ℕ → ℕ → Option ℕ) (roots : List ℕ) (n : ℕ) (s t : Found) → t ≡ visited s (get_or roots n 0) → n < length roots →
    All (λ root. root < MOST_CONTEXTS) roots → IsSearch link_of roots s → IsSearch link_of roots t
search-root link_of roots n s t is less few kept =
    subst (IsSearch link_of roots) (sym is) (search-visited link_of roots s _ (All-get_or (λ root. root < MOST_CONTEXTS) roots n 0 less few) (Root _ (Contains-get_or roots n 0 less)) kept)

pub root-next : (link_of : ℕ → ℕ → Option ℕ) (roots : List ℕ) (n : ℕ) (s t : Found) → t ≡ visited s (get_or roots n 0) → n < length roots →
    All (λ root. root < MOST_CONTEXTS) roots → IsSearch link_of roots s → HasRoots roots n s → HasRoots roots (n + 1) t
root-next link_of roots n s t is less few kept has = subst (HasRoots roots (n + 1)) (sym is) (one_root_more roots n s kept.whole (All-get_or (λ root. root < MOST_CONTEXTS) roots n 0 less few) has)

pub between-first : (link_of : ℕ → ℕ → Option ℕ) (roots : List ℕ) (n : ℕ) (s : Found) → length roots ≤ n → IsSearch link_of roots s → HasRoots roots n s →
    IsBetween link_of roots 0 s
between-first link_of roots n s all kept has = record {
  kept = kept;
  begun = record { marked = λ i less. has.marked i (omega (arith, less, all)) };
  expanded = record { linked = λ i less. absurd (omega (arith, less)) };
}

-- what a search at its end has found: exactly what is reached
module _ (link_of : ℕ → ℕ → Option ℕ) (roots : List ℕ) (n : ℕ) (s : Found) (end : length s.order ≤ n) (between : IsBetween link_of roots n s) where
  marked_links : (place : ℕ) → is_marked s.marks place ≡ true → HasLinks link_of place SLOTS s
  marked_links place is =
      let found = between.kept.found place is in
      subst (λ p. HasLinks link_of p SLOTS s) found.2 (between.expanded.linked found.0 (omega (arith, found.1, end)) found.1)

  pub marked_of_reached : (place : ℕ) → Reaches link_of roots place → is_marked s.marks place ≡ true
  marked_of_reached _ (Root place is) =
      subst (λ p. is_marked s.marks p ≡ true) (get_or_default roots is.0 0 place is.1 ∙ is.2) (between.begun.marked is.0 is.1)
  marked_of_reached _ (Link place slot next reached less is) = marked_links place (marked_of_reached place reached) slot next less is

  pub reached_of_marked : (place : ℕ) → is_marked s.marks place ≡ true → Reaches link_of roots place
  reached_of_marked place is = let found = between.kept.found place is in subst (Reaches link_of roots) found.2 (between.kept.reached found.0 found.1)

  pub marks_reached : (marks : List Bool) → marks ≡ s.marks → (place : ℕ) → place < MOST_CONTEXTS → (is_marked marks place ≡ true) ↔ Reaches link_of roots place
  marks_reached marks is place within = (
    λ marked. reached_of_marked place (ap (λ l. is_marked l place) (sym is) ∙ marked),
    λ reached. ap (λ l. is_marked l place) is ∙ marked_of_reached place reached,
  )
