-- Numbers of ranges.
use Rattle.std.proofs.Common.{◌≡◌, ℕ, zero, suc, ◌+◌, ◌-◌, ◌<◌, ◌≤◌, Bool, true, false, ap, arith, cond, refl, subst, sym, ◌∙◌, Option, None, Some}
use Rattle.std.specs.Prelude.{count_by, is_some, ◌&&◌, ◌==◌, not}
use Rattle.std.specs.List.{range_with_len}
use Rattle.std.specs.Option.{option_eq}
use Rattle.std.specs.Ordering.{is_eq, nat_cmp}
use Rattle.std.specs.Cmp.{both_tied, nat_cmp_is, unsigned_tied}
use Rattle.std.specs.declared.cmp.Ordering.TheVariants.{Equal}
use Rattle.std.proofs.lemmas.Grind.{common_steps}
use Rattle.lwc_base.specs.Ranges as base
use Rattle.lwc_base.specs.Rights.{same_right}
use Rattle.lwc_base.specs.World.{Context}
use Rattle.lwc_base.specs.declared.cell.Cell.{Cell}
use Rattle.lwc_base.specs.declared.cell.Cell.TheVariants as cell
use Rattle.lwc_types.specs.Names.{name_cmp}
use Rattle.lwc_types.specs.declared.key.Key.TheVariants.{Page}
use Rattle.lwc_types.specs.declared.limits.TheConstants.{MOST_PAGES}
use Rattle.lwc_types.specs.declared.name.Name.{Name}
use Rattle.lwc_types.specs.declared.page.PageValue.{PageValue}
use Rattle.lwc_types.specs.contracts.right.RightPartialEq.TheImpl.{eq-value as right_eq}
use Rattle.lwc_types.specs.declared.right.Right.{Right}
use Rattle.lwc_types.specs.declared.right.Right.TheVariants.{Write, Read}
use Rattle.range_map.specs.Kinds.{are_alike, begins_range, kind_of, ranges, same_kind, state_of}
use Rattle.range_map.specs.contracts.segment.PageStatePartialEq.TheImpl.{eq-value}
use Rattle.range_map.specs.contracts.segment.SegmentKindPartialEq.TheImpl.{eq-value as kind_eq}
use Rattle.range_map.specs.declared.segment.PageState.{PageState}
use Rattle.range_map.specs.declared.segment.SegmentKind.{SegmentKind}
use Rattle.range_map.specs.declared.segment.SegmentKind.TheVariants.{Own, Common}
use Rattle.lwc_base.proofs.Runs.{count_more}

-- two tests that agree below a number count the same there
count_same : (f g : ℕ → Bool) (n : ℕ) → ((p : ℕ) → p < n → f p ≡ g p) → count_by f (range_with_len 0 n) ≡ count_by g (range_with_len 0 n)
count_same f g zero same = refl
count_same f g (suc n) same =
    let rest = count_same f g n (λ p low. same p (omega arith)) in
    let last = same n (omega arith) in
    let more_f = count_more f 0 n n (omega arith) in
    let more_g = count_more g 0 n n (omega arith) in
    grind arith

-- each further page adds the range that begins at it
pub ranges_more : (kinds : ℕ → Option PageState) (p k : ℕ) → k ≡ p + 1 → ranges k kinds ≡ ranges p kinds + cond (begins_range kinds p) 1 0
unfolding ranges
ranges_more kinds p k is = rw is (count_more (begins_range kinds) 0 p p (omega arith))

-- more pages have no fewer ranges
pub ranges_grow : (kinds : ℕ → Option PageState) (p n k : ℕ) → k ≡ p + n → ranges p kinds ≤ ranges k kinds
ranges_grow kinds p zero k is = let same : k ≡ p = omega arith in rw same (omega arith)
ranges_grow kinds p (suc n) k is =
    omega (arith, ranges_grow kinds p n (p + n) refl, ranges_more kinds (p + n) k (omega arith))

-- there are no more ranges than pages
pub few_ranges : (kinds : ℕ → Option PageState) (p : ℕ) → ranges p kinds ≤ p
unfolding ranges
few_ranges kinds zero = let none : ranges 0 kinds ≡ 0 = refl in omega (arith, none)
few_ranges kinds (suc p) = let rest = few_ranges kinds p in let more = ranges_more kinds p (suc p) (omega arith) in grind arith

-- a name is itself
same_name : (g : Name) → is_eq (name_cmp g g) ≡ true
same_name g = rw (sym (nat_cmp_is g.job g.job Equal refl), sym (nat_cmp_is g.k g.k Equal refl)) refl

-- a kind and a right are themselves
kind_itself : (k : SegmentKind) → same_kind k k ≡ true
kind_itself Own = refl
kind_itself (Common g) = same_name g

right_itself : (r : Right) → same_right r r ≡ true
right_itself Write = refl
right_itself Read = refl

-- a state is alike itself
pub alike_itself : (s : PageState) → are_alike (Some s) (Some s) ≡ true
alike_itself s = rw (kind_itself s.kind, right_itself s.right) refl

-- no range begins at a page of the state of the page before
same_state : (state : Option PageState) → (is_some state && not (are_alike state state)) ≡ false
same_state None = refl
same_state (Some s) = rw (kind_itself s.kind, right_itself s.right) refl

no_range : (kinds : ℕ → Option PageState) (p k : ℕ) → k ≡ suc p → kinds k ≡ kinds p → begins_range kinds k ≡ false
unfolding begins_range
no_range kinds p zero is same = absurd (omega arith)
no_range kinds p (suc k) is same = let here : p ≡ k = omega arith in let next : kinds (suc k) ≡ kinds k = same ∙ ap kinds here in rw next (same_state (kinds k))

-- states that differ are not alike
kinds_tied : (a b : SegmentKind) → same_kind a b ≡ kind_eq.it a b
kinds_tied Own Own = refl
kinds_tied Own (Common h) = refl
kinds_tied (Common g) Own = refl
kinds_tied (Common g) (Common h) =
    sym (both_tied (g.job == h.job) (g.k == h.k) (nat_cmp g.job h.job) (nat_cmp g.k h.k) (sym (unsigned_tied g.job h.job)) (sym (unsigned_tied g.k h.k)))

rights_tied : (a b : Right) → same_right a b ≡ right_eq.it a b
rights_tied Write Write = refl
rights_tied Write Read = refl
rights_tied Read Write = refl
rights_tied Read Read = refl

pub differ : (a b : Option PageState) → option_eq eq-value.it a b ≡ false → are_alike a b ≡ false
differ None None e = refl
differ None (Some b) e = refl
differ (Some a) None e = refl
differ (Some a) (Some b) e = rw (kinds_tied a.kind b.kind, rights_tied a.right b.right) e

-- past a run of pages of one kind a range begins, if the page is present
pub begins_past : (kinds : ℕ → Option PageState) (p k e : ℕ) → e ≡ suc k → kinds k ≡ kinds p → option_eq eq-value.it (kinds p) (kinds e) ≡ false →
    begins_range kinds e ≡ is_some (kinds e)
unfolding begins_range
begins_past kinds p k zero is same other = absurd (omega arith)
begins_past kinds p k (suc e) is same other =
    let here : e ≡ k = omega arith in
    let before : kinds e ≡ kinds p = ap kinds here ∙ same in
    rw (before, differ (kinds p) (kinds (suc e)) other) (grind (arith, common_steps))

-- a range begins at a present page if the page before is of another state
pub begins_parted : (kinds : ℕ → Option PageState) (p : ℕ) → ((k : ℕ) → p ≡ suc k → are_alike (kinds k) (kinds p) ≡ false) → begins_range kinds p ≡ is_some (kinds p)
unfolding begins_range
begins_parted kinds zero parted = grind (arith, common_steps)
begins_parted kinds (suc p) parted = rw (parted p refl) (grind (arith, common_steps))

-- where a range begins, the page before is of another kind
pub kinds_parted : (kinds : ℕ → Option PageState) (p k : ℕ) (a b : PageState) → p ≡ suc k → kinds k ≡ Some a → kinds p ≡ Some b →
    begins_range kinds p ≡ is_some (kinds p) → are_alike (Some a) (Some b) ≡ false
unfolding begins_range
kinds_parted kinds zero k a b is before here begins = absurd (omega arith)
kinds_parted kinds (suc p) k a b is before here begins =
    let same : p ≡ k = omega arith in
    let last : kinds p ≡ Some a = ap kinds same ∙ before in
    let other : not (are_alike (kinds p) (kinds (suc p))) ≡ true = grind (arith, common_steps) in
    let parted : are_alike (kinds p) (kinds (suc p)) ≡ false = grind (arith, common_steps) in
    subst (λ o. are_alike o (Some b) ≡ false) last (subst (λ o. are_alike (kinds p) o ≡ false) here parted)

-- pages of one state add a range if one begins at the first of them
pub one_piece : (kinds : ℕ → Option PageState) (p n e : ℕ) → e ≡ p + suc n → ((q : ℕ) → p ≤ q → q < e → kinds q ≡ kinds p) →
    ranges e kinds ≡ ranges p kinds + cond (begins_range kinds p) 1 0
one_piece kinds p zero e is alike = ranges_more kinds p e (omega arith)
one_piece kinds p (suc n) e is alike =
    let rest = one_piece kinds p n (p + suc n) refl (λ q low high. alike q low (omega arith)) in
    let before = alike (p + n) (omega arith) (omega arith) in
    let last = alike (p + suc n) (omega arith) (omega arith) in
    let none = no_range kinds (p + n) (p + suc n) (omega arith) (last ∙ sym before) in
    let more = ranges_more kinds (p + suc n) e (omega arith) in
    more ∙ (rw none (omega (arith, rest)))

-- if one begins there where a page is present, they are one range or none
pub one_more : (kinds : ℕ → Option PageState) (p n e : ℕ) → e ≡ p + suc n → ((q : ℕ) → p ≤ q → q < e → kinds q ≡ kinds p) →
    begins_range kinds p ≡ is_some (kinds p) → ranges e kinds ≡ ranges p kinds + cond (is_some (kinds p)) 1 0
one_more kinds p n e is alike begins = one_piece kinds p n e is alike ∙ ap (λ b. ranges p kinds + cond b 1 0) begins

-- a range begins at a present page if the page before has another state; no page is before the first
pub begins_where : (kinds : ℕ → Option PageState) (p : ℕ) (last : Option PageState) → (p ≡ 0 → last ≡ None) → ((k : ℕ) → p ≡ suc k → last ≡ kinds k) →
    begins_range kinds p ≡ (is_some (kinds p) && not (option_eq eq-value.it last (kinds p)))
unfolding begins_range
begins_where kinds zero last first later = by (kinds 0) (first refl)
  where
    by : (state : Option PageState) → last ≡ None → (is_some state && not false) ≡ (is_some state && not (option_eq eq-value.it last state))
    by None none = refl
    by (Some s) none = ap (λ o. not (option_eq eq-value.it o (Some s))) (sym none)
begins_where kinds (suc p) last first later =
    ap (λ o. is_some (kinds (suc p)) && not (are_alike o (kinds (suc p)))) (sym (later p refl)) ∙ by last (kinds (suc p))
  where
    by : (a b : Option PageState) → (is_some b && not (are_alike a b)) ≡ (is_some b && not (option_eq eq-value.it a b))
    by None None = refl
    by None (Some b) = refl
    by (Some a) None = refl
    by (Some a) (Some b) = rw (kinds_tied a.kind b.kind, rights_tied a.right b.right) refl

-- ranges begin at the same pages where kinds are the same
begins_same : (f g : ℕ → Option PageState) (p pages : ℕ) → ((q : ℕ) → q < pages → f q ≡ g q) → p < pages → begins_range f p ≡ begins_range g p
unfolding begins_range
begins_same f g zero pages same inside = rw (same zero inside) refl
begins_same f g (suc p) pages same inside = rw (same (suc p) inside, same p (omega arith)) refl

-- pages of the same kinds have the same ranges
pub ranges_same : (f g : ℕ → Option PageState) (pages : ℕ) → ((p : ℕ) → p < pages → f p ≡ g p) → ranges pages f ≡ ranges pages g
unfolding ranges
ranges_same f g pages same = count_same (begins_range f) (begins_range g) pages (λ p inside. begins_same f g p pages same inside)

-- no range begins at an absent page
nothing_begins : (kinds : ℕ → Option PageState) (p : ℕ) → kinds p ≡ None → begins_range kinds p ≡ false
unfolding begins_range
nothing_begins kinds p none = rw none refl

-- absent pages add no range
pub absent_tail : (kinds : ℕ → Option PageState) (pages n k : ℕ) → k ≡ pages + n → ((p : ℕ) → pages ≤ p → p < k → kinds p ≡ None) → ranges k kinds ≡ ranges pages kinds
absent_tail kinds pages zero k is absent = ap (λ n. ranges n kinds) (omega arith)
absent_tail kinds pages (suc n) k is absent =
    let rest = absent_tail kinds pages n (pages + n) refl (λ p low high. absent p low (omega arith)) in
    ranges_more kinds (pages + n) k (omega arith) ∙ rw (nothing_begins kinds (pages + n) (absent (pages + n) (omega arith) (omega arith))) (omega (arith, rest))

-- absent pages have no range
pub absent_ranges : (kinds : ℕ → Option PageState) → ((p : ℕ) → kinds p ≡ None) → ranges MOST_PAGES kinds ≡ 0
unfolding ranges
absent_ranges kinds absent = absent_tail kinds 0 MOST_PAGES MOST_PAGES (omega arith) (λ p low high. absent p)

-- pages are of one kind and of one right where their states are alike
cells_alike : (a b : Cell (Option PageValue)) (r t : Right) → (base.are_of_one_kind a b && same_right r t) ≡ are_alike (state_of (kind_of a) r) (state_of (kind_of b) t)
cells_alike (cell.Own None) (cell.Own None) r t = refl
cells_alike (cell.Own None) (cell.Own (Some w)) r t = refl
cells_alike (cell.Own None) (cell.Common h) r t = refl
cells_alike (cell.Own (Some v)) (cell.Own None) r t = refl
cells_alike (cell.Own (Some v)) (cell.Own (Some w)) r t = refl
cells_alike (cell.Own (Some v)) (cell.Common h) r t = refl
cells_alike (cell.Common g) (cell.Own None) r t = refl
cells_alike (cell.Common g) (cell.Own (Some w)) r t = refl
cells_alike (cell.Common g) (cell.Common h) r t = refl

cell_present : (a : Cell (Option PageValue)) (r : Right) → base.is_page a ≡ is_some (state_of (kind_of a) r)
cell_present (cell.Own None) r = refl
cell_present (cell.Own (Some v)) r = refl
cell_present (cell.Common g) r = refl

-- the state of a page of a context
abbrev state : Context → ℕ → Option PageState
state x p = state_of (kind_of (x.cell (Page p))) (x.right p)

-- ranges of a context begin where those of the states of its pages do
begins_in_context : (x : Context) (p : ℕ) → base.begins_range x p ≡ begins_range (state x) p
unfolding base.begins_range begins_range
begins_in_context x zero = rw (cell_present (x.cell (Page 0)) (x.right 0)) refl
begins_in_context x (suc p) =
    rw (cell_present (x.cell (Page (suc p))) (x.right (suc p)), cells_alike (x.cell (Page p)) (x.cell (Page (suc p))) (x.right p) (x.right (suc p))) refl

pub ranges_of_context : (pages : ℕ) (x : Context) (states : ℕ → Option PageState) → pages ≤ MOST_PAGES →
    ((p : ℕ) → p < pages → state_of (kind_of (x.cell (Page p))) (x.right p) ≡ states p) →
    ((p : ℕ) → pages ≤ p → p < MOST_PAGES → states p ≡ None) →
    base.ranges pages x ≡ ranges MOST_PAGES states
unfolding base.ranges ranges
ranges_of_context pages x states few same absent =
    count_same (base.begins_range x) (begins_range (state x)) pages (λ p inside. begins_in_context x p)
    ∙ ranges_same (state x) states pages same
    ∙ sym (absent_tail states pages (MOST_PAGES - pages) MOST_PAGES (omega arith) absent)

-- the first page begins a range if it is present
pub first_begins : (kinds : ℕ → Option PageState) → begins_range kinds 0 ≡ is_some (kinds 0)
unfolding begins_range
first_begins kinds = grind (arith, common_steps)
