-- Segments with and without pages that are the place's own.
use Rattle.std.proofs.Common.{◌≡◌, ◌≢◌, ℕ, suc, ◌<◌, ◌||◌, inr, Bool, true, false, cond, leb, ltb, List, [], ◌∷◌, refl, sym, ◌∙◌, ap, arith, Option, None, Some}
use Rattle.std.specs.Prelude.{All}
use Rattle.std.specs.List.{AllPairs, find}
use Rattle.std.specs.Option.{option_map}
use Rattle.lwc_types.specs.declared.page.PageValue.{PageValue}
use Rattle.range_map.specs.declared.segment.PageState.{PageState}
use Rattle.range_map.specs.declared.segment.Segment.{Segment}
use Rattle.range_map.specs.declared.segment.SegmentKind.{SegmentKind}
use Rattle.range_map.specs.declared.segment.SegmentKind.TheVariants.{Own, Common}
use Rattle.range_map.specs.Kinds.{IsBefore, is_between, kind_at, state_at, state_in}
use Rattle.std.proofs.lemmas.Bool.{and_parts, leb-true}
use Rattle.range_map.proofs.Appended.{found}
use Rattle.range_map.proofs.Built.{between, not_between}
use Rattle.cow_space.specs.Cells.{cell_of, place_cells}
use Rattle.cow_space.specs.Kept.{HasNoOwnPage, has_own, is_own}

-- where the first segment has the page, it has the state; else the others have it
state-cons : (s : Segment) (segments : List Segment) (p : ℕ) (b : Bool) → is_between s.from s.to p ≡ b → state_at (s ∷ segments) p ≡ cond b (Some (state_in s)) (state_at segments p)
unfolding state_at
state-cons s segments p true is = ap (λ b. option_map state_in (cond b (Some s) (find (λ t. is_between t.from t.to p) segments))) is
state-cons s segments p false is = ap (λ b. option_map state_in (cond b (Some s) (find (λ t. is_between t.from t.to p) segments))) is

own-is : (kind : SegmentKind) → is_own kind ≡ true → kind ≡ Own
own-is Own is = refl
own-is (Common g) is = absurd cc

own-not : (kind : SegmentKind) → is_own kind ≡ false → Some kind ≢ Some Own
own-not Own is = absurd cc
own-not (Common g) is = λ same. cc

-- what a map of an option has comes from a value
map_some : {X Y : Type 0} (f : X → Y) (o : Option X) (y : Y) → option_map f o ≡ Some y → (x : X) × ((o ≡ Some x) × (f x ≡ y))
map_some f None y is = absurd cc
map_some f (Some x) y is = (x, (refl, cc))

-- where no segment is of own pages, no page is
pub own-none : (segments : List Segment) → has_own segments ≡ false → HasNoOwnPage segments
unfolding state_at
own-none [] none p = λ same. cc
own-none (s ∷ segments) none p = by (is_between s.from s.to p) refl (is_own s.kind) refl none (λ off. own-none segments off p)
  where
    by : (b : Bool) → is_between s.from s.to p ≡ b → (own : Bool) → is_own s.kind ≡ own → (own || has_own segments) ≡ false → (has_own segments ≡ false → kind_at segments p ≢ Some Own) → kind_at (s ∷ segments) p ≢ Some Own
    by b at true own off rest = absurd cc
    by true at false own off rest = λ same. own-not s.kind own (sym (ap (option_map (λ (x : PageState). x.kind)) (state-cons s segments p true at)) ∙ same)
    by false at false own off rest = λ same. rest off (sym (ap (option_map (λ (x : PageState). x.kind)) (state-cons s segments p false at)) ∙ same)

-- what later segments say of a page the first one leaves, since it ends before it
later : (s : Segment) (segments : List Segment) (p : ℕ) (x : PageState) → AllPairs IsBefore (s ∷ segments) → state_at segments p ≡ Some x → state_at (s ∷ segments) p ≡ Some x
unfolding state_at
later s segments p x apart is =
    let hit = map_some state_in (find (λ t. is_between t.from t.to p) segments) x is in
    let at = found (λ (t : Segment). is_between t.from t.to p) segments hit.0 s hit.1.0 in
    let before = apart 0 (suc at.0) s (omega arith) (omega (arith, at.1.0)) in
    let low = leb-true hit.0.from p ((and_parts (leb hit.0.from p) (ltb p hit.0.to) at.1.1.1).0) in
    state-cons s segments p false (not_between s.from s.to p (inr (omega (arith, before.ordered, ap (λ (t : Segment). t.from) at.1.1.0, low)))) ∙ is

-- a segment of own pages has one
pub own-some : (segments : List Segment) → All (λ s. s.from < s.to) segments → AllPairs IsBefore segments → has_own segments ≡ true → (p : ℕ) × (kind_at segments p ≡ Some Own)
own-some [] some apart has = absurd cc
own-some (s ∷ segments) some apart has =
    by (is_own s.kind) refl has (λ rest. own-some segments (λ k d low. some (suc k) d (omega (arith, low))) (λ i j d before low. apart (suc i) (suc j) d (omega (arith, before)) (omega (arith, low))) rest)
  where
    by : (own : Bool) → is_own s.kind ≡ own → (own || has_own segments) ≡ true → (has_own segments ≡ true → (p : ℕ) × (kind_at segments p ≡ Some Own)) → (p : ℕ) × (kind_at (s ∷ segments) p ≡ Some Own)
    by true own _ _ =
        let long = some 0 s (omega arith) in
        (s.from, ap (option_map (λ (x : PageState). x.kind)) (state-cons s segments s.from true (between s.from s.to s.from (omega arith) long)) ∙ ap Some (own-is s.kind own))
    by false _ rest below =
        let there = below rest in
        let x = map_some (λ (y : PageState). y.kind) (state_at segments there.0) Own there.1 in
        (there.0, ap (option_map (λ (y : PageState). y.kind)) (later s segments there.0 x.0 apart x.1.0) ∙ ap Some x.1.1)

-- without pages of its own the cells of a place go by its segments alone
pub no-own-cells : (segments : List Segment) (row other : ℕ → Option PageValue) → HasNoOwnPage segments → place_cells segments row ≡ place_cells segments other
no-own-cells segments row other none = λ k p. by (kind_at segments p) (row p) (other p) (none p) k
  where
    by : (kind : Option SegmentKind) (a b : Option PageValue) → kind ≢ Some Own → cell_of kind a ≡ cell_of kind b
    by None a b off = refl
    by (Some Own) a b off = absurd (off refl)
    by (Some (Common g)) a b off = refl
