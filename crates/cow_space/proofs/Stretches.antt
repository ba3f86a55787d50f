-- The states that a page run gives, by its origin.
use Rattle.std.proofs.Common.{◌≡◌, ℕ, ◌≤◌, ⊎_elim, inl, inr, ap, cond, refl, sym, ◌∙◌, List, Option, None, Some}
use Rattle.std.specs.Prelude.{unwrap_or}
use Rattle.std.specs.Option.{option_map}
use Rattle.std.proofs.lemmas.Bool.{cases_lt}
use Rattle.lwc_types.specs.declared.right.Right.{Right}
use Rattle.range_map.specs.declared.segment.PageState.{PageState}
use Rattle.range_map.specs.declared.segment.Segment.{Segment}
use Rattle.range_map.specs.declared.segment.SegmentKind.{SegmentKind}
use Rattle.range_map.specs.Kinds.{is_between, kind_of, state_at, state_of}
use Rattle.range_map.proofs.Built.{between, not_between}
use Rattle.cow_space.specs.declared.page_runs.Origin.{Origin}
use Rattle.cow_space.specs.declared.page_runs.Origin.TheVariants.{CopyOf}
use Rattle.cow_space.specs.declared.page_runs.PageRun.{PageRun}
use Rattle.cow_space.specs.Cells.{Place, place_of, rights_of, states_of}
use Rattle.cow_space.specs.Changes.{given_states, origin_cell, origin_right, states_with, with_right}
use Rattle.cow_space.specs.Maps.{put_range}

module _ (cells : List Place) (rights : List (ℕ → Right)) (page_run : PageRun) where
  -- what is true of its origin
  pub by-origin : (origin : Origin) (q : ℕ) → page_run.origin ≡ origin →
      given_states cells rights page_run q ≡ state_of (kind_of (origin_cell cells origin q)) (unwrap_or page_run.right (origin_right rights origin q))
  by-origin origin q is = ap (λ o. state_of (kind_of (origin_cell cells o q)) (unwrap_or page_run.right (origin_right rights o q))) is

  -- a state once it got another right
  righted : (kind : Option SegmentKind) (given : Option Right) (right : Right) → option_map (with_right given) (state_of kind right) ≡ state_of kind (unwrap_or given right)
  righted None given right = refl
  righted (Some kind) given right = refl

  -- a copy has the states of the segments of its place
  pub by-copy : (j : ℕ) (segments : List Segment) → page_run.origin ≡ CopyOf j → state_at segments ≡ states_of (place_of cells j) (rights_of rights j) →
      (q : ℕ) → given_states cells rights page_run q ≡ states_with segments page_run.right q
  unfolding states_with
  by-copy j segments is states q =
      by-origin (CopyOf j) q is
      ∙ sym (ap (λ (f : ℕ → Option PageState). option_map (with_right page_run.right) (f q)) states ∙ righted (kind_of (place_of cells j q)) page_run.right (rights_of rights j q))

module _ (states : ℕ → Option PageState) (from to : ℕ) where
  -- others that are the same
  pub put-same : (f g : ℕ → Option PageState) → ((q : ℕ) → f q ≡ g q) → put_range states from to f ≡ put_range states from to g
  put-same f g same = λ i q. cond (is_between from to q) (same q i) (states q)

  -- none, where no page is present
  pub put-none : (f : ℕ → Option PageState) → ((q : ℕ) → f q ≡ None) → ((q : ℕ) → from ≤ q → states q ≡ None) → (q : ℕ) → states q ≡ put_range states from to f q
  put-none f none clear q = ⊎_elim
      (λ low. sym (ap (λ b. cond b (f q) (states q)) (not_between from to q (inl low))))
      (λ past. ⊎_elim
      (λ high. clear q past ∙ sym (ap (λ b. cond b (f q) (states q)) (between from to q past high) ∙ none q))
      (λ far. sym (ap (λ b. cond b (f q) (states q)) (not_between from to q (inr far))))
      (cases_lt q to))
      (cases_lt q from)
