-- Page runs that give the pages below a page what they are to get.
use Rattle.std.proofs.Common.{◌≡◌, ℕ, ◌<◌, ◌≤◌, ◌++◌, ⊎_elim, true, false, List, [], ◌∷◌, arith, leb, ltb, refl, sym, subst, ◌∙◌, Option, Some, None}
use Rattle.std.specs.Prelude.{All}
use Rattle.std.specs.List.{find}
use Rattle.std.specs.Option.{option_map, option_or}
use Rattle.std.proofs.lemmas.Bool.{cases_lt, and_left, and_right, le-ltb, lt-leb}
use Rattle.std.proofs.lemmas.List.Elements.{All-append}
use Rattle.std.proofs.lemmas.List.Folds.{find-append}
use Rattle.lwc_types.specs.declared.limits.TheConstants.{MOST_PAGES}
use Rattle.range_map.specs.Kinds.{is_between}
use Rattle.cow_space.specs.declared.page_runs.PageRun.{PageRun}
use Rattle.cow_space.specs.Changes.{IsApart, IsPageRun}
use Rattle.lazy_world.specs.Origins.{Gift, gift_at, gift_of}
use Rattle.range_map.proofs.Built.{all_one, between}

-- a further page run leaves the pages that it has not
push_off : (page_runs : List PageRun) (s : PageRun) (q : ℕ) → is_between s.range.from s.range.to q ≡ false → gift_at (page_runs ++ s ∷ []) q ≡ gift_at page_runs q
push_off page_runs s q off =
    rw (find-append (λ (s : PageRun). is_between s.range.from s.range.to q) page_runs (s ∷ []), off) (or_none (find (λ s. is_between s.range.from s.range.to q) page_runs))
  where
    or_none : (o : Option PageRun) → option_map gift_of (option_or o None) ≡ option_map gift_of o
    or_none None = refl
    or_none (Some t) = refl

-- a further page run gives what it says to pages without one
push_on : (page_runs : List PageRun) (s : PageRun) (q : ℕ) → is_between s.range.from s.range.to q ≡ true → gift_at page_runs q ≡ None → gift_at (page_runs ++ s ∷ []) q ≡ Some (gift_of s)
push_on page_runs s q on none =
    rw (find-append (λ (s : PageRun). is_between s.range.from s.range.to q) page_runs (s ∷ []), on) (or_some (find (λ s. is_between s.range.from s.range.to q) page_runs) none)
  where
    or_some : (o : Option PageRun) → option_map gift_of o ≡ None → option_map gift_of (option_or o (Some s)) ≡ Some (gift_of s)
    or_some None is = refl
    or_some (Some t) is = absurd (let e = is in cc)

-- page runs give the pages below one what fits them, and no other page any
pub record HasGiven (count i : ℕ) (fits : ℕ → Option Gift → Type 0) (p : ℕ) (page_runs : List PageRun) : Type 0 where
  pub each : All (IsPageRun count i) page_runs
  pub done : (q : ℕ) → q < p → fits q (gift_at page_runs q)
  pub rest : (q : ℕ) → p ≤ q → gift_at page_runs q ≡ None

module _ (count i : ℕ) (fits : ℕ → Option Gift → Type 0) where
  pub none_given : HasGiven count i fits 0 []
  none_given = record { each = λ k d inside. absurd (omega arith); done = λ q low. absurd (omega arith); rest = λ q low. refl }

  module _ (p e : ℕ) (page_runs : List PageRun) (past : p < e) (has : HasGiven count i fits p page_runs) where
    -- pages that stay need no page run
    pub given_kept : ((q : ℕ) → p ≤ q → q < e → fits q None) → HasGiven count i fits e page_runs
    given_kept same = record {
      each = has.each;
      done = λ q high. ⊎_elim (λ low. has.done q low) (λ low. subst (fits q) (sym (has.rest q low)) (same q low high)) (cases_lt q p);
      rest = λ q low. has.rest q (omega arith);
    }

    -- pages that get something are a further page run
    pub given_more : (s : PageRun) → s.range.from ≡ p → s.range.to ≡ e → e ≤ MOST_PAGES → ((q : ℕ) → p ≤ q → q < e → fits q (Some (gift_of s))) → IsApart count i s.origin →
        HasGiven count i fits e (page_runs ++ s ∷ [])
    given_more s from to inside gives can = record {
      each = All-append (IsPageRun count i) page_runs (s ∷ []) has.each (all_one (IsPageRun count i) s (record {
        order = omega (arith, from, to, past);
        inside = omega (arith, to, inside);
        given = can;
      }));
      done = λ q high. ⊎_elim
          (λ low. subst (fits q) (sym (push_off page_runs s q (and_left (leb s.range.from q) (ltb q s.range.to) (lt-leb s.range.from q (omega arith))))) (has.done q low))
          (λ low. subst (fits q) (sym (push_on page_runs s q (between s.range.from s.range.to q (omega arith) (omega arith)) (has.rest q low))) (gives q low high))
          (cases_lt q p);
      rest = λ q low. push_off page_runs s q (and_right (leb s.range.from q) (ltb q s.range.to) (le-ltb q s.range.to (omega arith))) ∙ has.rest q (omega arith);
    }
