-- Marks at the places of rows, and the rows that are kept by them.
use Rattle.std.proofs.Common.{◌≡◌, ℕ, zero, suc, ◌<◌, ◌≤◌, arith, List, [], ◌∷◌, length, refl, sym, ap, ◌∙◌, Bool, true, false, cond, ◌||◌, Option, Some, None, get_or, eqb, map, take, add-zero, ◌+◌, ◌++◌, append-nil}
use Rattle.std.specs.Prelude.{T, replicate, slice_get}
use Rattle.std.specs.FinMap as fm
use Rattle.std.specs.List.{cons_option, filter, filter_map, items_where_true, list_any, position, range_with_len}
use Rattle.std.specs.List.Retain.{IsFiltered, ReturnsInTurn}
use Rattle.std.proofs.Math.ListN.{set}
use Rattle.std.proofs.lemmas.List.{take_more}
use Rattle.std.proofs.lemmas.List.Elements.{filter_map-append}
use Rattle.lwc_base.specs.declared.cell.Cell.{Cell}
use Rattle.lwc_base.specs.declared.cell.Cell.TheVariants.{Common, Own}
use Rattle.lwc_base.specs.declared.descriptor.Descriptor.TheVariants.{Empty}
use Rattle.lwc_base.specs.Life.{is_in, names_group}
use Rattle.lwc_base.specs.Sharing.{any_key}
use Rattle.lwc_types.specs.declared.key.TheConstants.{SLOTS}
use Rattle.lwc_types.specs.declared.name.Name.{Name}
use Rattle.lwc_types.specs.Names.{name_cmp}
use Rattle.reach.specs.Reach.{is_marked}
use Rattle.whole_world.specs.Reaping.{AddsMarks}
use Rattle.whole_world.specs.declared.context_row.ContextRow.{ContextRow}
use Rattle.whole_world.specs.Rows.{cell_of, context_of}
use Rattle.whole_world.specs.Sound.{IsWhole}
use Rattle.whole_world.specs.Tables.{has_name}
use Rattle.whole_world.proofs.Places.{place_after_set, place_of_replicate}
use Rattle.whole_world.proofs.Tables.{tied-at}
use Rattle.lwc_types.proofs.Small.{or_assoc}

-- a mark that is set is there
or_set : (old new : Bool) → cond new true old ≡ (old || new)
or_set true true = refl
or_set true false = refl
or_set false true = refl
or_set false false = refl

or_none : (old : Bool) → old ≡ (old || false)
or_none true = refl
or_none false = refl

-- an element passes a test exactly where a place from a number on does
any_place : {X : Type 0} (test : X → Bool) (xs : List X) (place : ℕ → Bool) (a n : ℕ) (e : X) → length xs ≡ n →
    ((k : ℕ) → k < n → place (a + k) ≡ test (get_or xs k e)) → list_any test xs ≡ list_any place (range_with_len a n)
any_place test [] place a zero e many each = refl
any_place test [] place a (suc n) e many each = absurd (omega arith)
any_place test (x ∷ xs) place a zero e many each = absurd (omega arith)
any_place test (x ∷ xs) place a (suc n) e many each =
    let first : test x ≡ place a = sym (each 0 (omega arith)) ∙ ap place (add-zero a) in
    let rest : list_any test xs ≡ list_any place (range_with_len (a + 1) n) =
    any_place test xs place (a + 1) n e (omega arith) (λ k h. ap place (omega arith) ∙ each (suc k) (omega arith)) in
    λ i. first i || rest i

module _ {A : Type 0} (rows : List (Name × A)) where
  -- no mark is set at first
  pub adds-first : (n : ℕ) → AddsMarks rows (λ g. false) [] (replicate n false)
  adds-first n = record { at = λ i row is. place_of_replicate n false i }

  -- the test may be said otherwise
  pub adds-same : (s t : Name → Bool) (a b : List Bool) → AddsMarks rows s a b → ((g : Name) → s g ≡ t g) → AddsMarks rows t a b
  adds-same s t a b adds is = record { at = λ i row there. adds.at i row there ∙ ap (λ m. is_marked a i || m) (is row.0) }

  -- marks are added one after another
  pub adds-more : (s t u : Name → Bool) (a b c : List Bool) → AddsMarks rows s a b → AddsMarks rows t b c → ((g : Name) → (s g || t g) ≡ u g) → AddsMarks rows u a c
  adds-more s t u a b c first next is = record {
    at = λ i row there.
        next.at i row there ∙ ap (λ m. m || t row.0) (first.at i row there) ∙ or_assoc (is_marked a i) (s row.0) (t row.0)
        ∙ ap (λ m. is_marked a i || m) (is row.0);
  }

  -- the group of a cell is marked
  pub adds-place : {C : Type 0} (cell : Cell C) (g : Name) (place : ℕ) (marks : List Bool) → T (fm.is_sorted name_cmp rows) → cell ≡ Common g →
      position (has_name g) rows ≡ Some place → place < length marks → AddsMarks rows (λ h. is_in h cell) marks (set marks place true)
  adds-place cell g place marks sorted is found within = record {
    at = λ i row there.
        place_after_set marks place true i false within ∙ or_set (is_marked marks i) (eqb i place)
        ∙ ap (λ b. is_marked marks i || b) (sym (tied-at g rows (Some place) i row sorted found there))
        ∙ ap (λ c. is_marked marks i || is_in row.0 c) (sym is);
  }

  -- there is no place to mark
  pub adds-nowhere : {C : Type 0} (cell : Cell C) (g : Name) (marks : List Bool) → T (fm.is_sorted name_cmp rows) → cell ≡ Common g →
      position (has_name g) rows ≡ None → AddsMarks rows (λ h. is_in h cell) marks marks
  adds-nowhere cell g marks sorted is missed = record {
    at = λ i row there.
        or_none (is_marked marks i) ∙ ap (λ b. is_marked marks i || b) (sym (tied-at g rows None i row sorted missed there))
        ∙ ap (λ c. is_marked marks i || is_in row.0 c) (sym is);
  }

-- the groups of the cells of a row are marked
pub adds-row : {A : Type 0} (rows : List (Name × A)) (row : ContextRow) (count : ℕ) (a b c d : List Bool) → IsWhole count row →
    AddsMarks rows (λ g. list_any (is_in g) row.pages.items) a b → AddsMarks rows (λ g. list_any (is_in g) row.slots.items) b c → AddsMarks rows (λ g. is_in g row.uid) c d →
    AddsMarks rows (λ g. names_group count g (context_of row)) a d
unfolding names_group any_key context_of cell_of
adds-row rows row count a b c d whole pages slots uid =
    let both : AddsMarks rows (λ g. list_any (is_in g) row.pages.items || list_any (is_in g) row.slots.items) a c = adds-more rows _ _ _ a b c pages slots (λ g. refl) in
    adds-more rows (λ g. list_any (is_in g) row.pages.items || list_any (is_in g) row.slots.items) (λ g. is_in g row.uid) _ a c d both uid
    (λ g i.
    (any_place (is_in g) row.pages.items (λ p. is_in g (get_or row.pages.items p (Own None))) 0 count (Own None) (sym row.pages.ok.0 ∙ whole.pages) (λ k h. ap (λ p. is_in g (get_or row.pages.items p (Own None))) (omega arith)) i
    || any_place (is_in g) row.slots.items (λ n. is_in g (get_or row.slots.items n (Own Empty))) 0 SLOTS (Own Empty) (sym row.slots.ok.0 ∙ whole.slots) (λ k h. ap (λ n. is_in g (get_or row.slots.items n (Own Empty))) (omega arith)) i)
    || is_in g row.uid)

-- a test of what a list is mapped to
pub any_mapped : {X Y : Type 0} (test : Y → Bool) (f : X → Y) (xs : List X) → list_any test (map f xs) ≡ list_any (λ x. test (f x)) xs
any_mapped test f [] = refl
any_mapped test f (x ∷ xs) = ap (λ b. test (f x) || b) (any_mapped test f xs)

-- the rows that are kept by marks are those whose names pass the test that the marks answer
pub kept_rows : {A : Type 0} (test : Name → Bool) (marks : List Bool) (rows : List (Name × A)) → length rows ≤ length marks →
    ((i : ℕ) (row : Name × A) → slice_get rows i ≡ Some row → is_marked marks i ≡ test row.0) → items_where_true marks rows ≡ filter (λ row. test row.0) rows
kept_rows test [] [] many each = refl
kept_rows test [] (e ∷ es) many each = absurd (omega arith)
kept_rows test (m ∷ ms) [] many each = refl
kept_rows test (m ∷ ms) (e ∷ es) many each =
    let rest = kept_rows test ms es (omega arith) (λ i row there. each (suc i) row there) in
    kept_either m (each 0 e refl) rest
  where
    kept_either : (b : Bool) → b ≡ test e.0 → items_where_true ms es ≡ filter (λ row. test row.0) es → items_where_true (b ∷ ms) (e ∷ es) ≡ filter (λ row. test row.0) (e ∷ es)
    kept_either true is rest = ap (λ l. e ∷ l) rest ∙ ap (λ b. cond b (e ∷ filter (λ row. test row.0) es) (filter (λ row. test row.0) es)) is
    kept_either false is rest = rest ∙ ap (λ b. cond b (e ∷ filter (λ row. test row.0) es) (filter (λ row. test row.0) es)) is

-- one element more of a list is gone over
filter_map_more : {X Y : Type 0} (h : X → Option Y) (xs : List X) (i : ℕ) (d : X) → i < length xs →
    filter_map h (take (i + 1) xs) ≡ filter_map h (take i xs) ++ filter_map h (get_or xs i d ∷ [])
filter_map_more h xs i d within = ap (filter_map h) (take_more xs i d within) ∙ filter_map-append h (take i xs) (get_or xs i d ∷ [])

-- what is gathered of a list, with what one element more gives
pub gathered_some : {X Y : Type 0} (h : X → Option Y) (xs : List X) (i : ℕ) (d : X) (y : Y) (ys : List Y) → i < length xs → h (get_or xs i d) ≡ Some y →
    ys ≡ filter_map h (take i xs) → ys ++ y ∷ [] ≡ filter_map h (take (i + 1) xs)
gathered_some h xs i d y ys within is before =
    ap (λ l. l ++ y ∷ []) before ∙ ap (λ o. filter_map h (take i xs) ++ cons_option o []) (sym is) ∙ sym (filter_map_more h xs i d within)

pub gathered_none : {X Y : Type 0} (h : X → Option Y) (xs : List X) (i : ℕ) (d : X) (ys : List Y) → i < length xs → h (get_or xs i d) ≡ None →
    ys ≡ filter_map h (take i xs) → ys ≡ filter_map h (take (i + 1) xs)
gathered_none h xs i d ys within is before =
    before ∙ sym (append-nil _) ∙ ap (λ o. filter_map h (take i xs) ++ cons_option o []) (sym is) ∙ sym (filter_map_more h xs i d within)

-- what comes first of some marks, and what is left of them
abbrev first_mark : List Bool → Bool
first_mark [] = false
first_mark (m ∷ ms) = m

abbrev later_marks : List Bool → List Bool
later_marks [] = []
later_marks (m ∷ ms) = ms

-- the elements that are kept by a test that answers with one mark after another
pub kept_in_turn : {X F : Type 0} (R : F → X → Bool → F → Type 0) (left : F → List Bool) → ((f : F) (x : X) (b : Bool) (j : F) → R f x b j → (b ≡ first_mark (left f)) × (left j ≡ later_marks (left f))) →
    (f : F) (xs ys : List X) → IsFiltered R f xs ys → ys ≡ items_where_true (left f) xs
kept_in_turn {X = X} {F = F} R left step f xs ys filtered = filtered.4 ∙ turns filtered.0 xs f filtered.1 filtered.2 filtered.3
  where
    turns : (bs : List Bool) (xs : List X) (f q : F) → length bs ≡ length xs → ReturnsInTurn R f bs xs q → items_where_true bs xs ≡ items_where_true (left f) xs
    turns [] [] f q many turn = nothing (left f)
      where
        nothing : (ms : List Bool) → [] ≡ items_where_true {X = X} ms []
        nothing [] = refl
        nothing (m ∷ ms) = refl
    turns [] (x ∷ xs) f q many turn = absurd (omega arith)
    turns (b ∷ bs) [] f q many turn = absurd turn
    turns (b ∷ bs) (x ∷ xs) f q many turn =
        let answered = step f x b turn.0 turn.1 in
        one b x xs (left f) answered.0 (turns bs xs turn.0 q (omega arith) turn.2 ∙ ap (λ ms. items_where_true ms xs) answered.1)
      where
        no_more : (xs : List X) → items_where_true [] xs ≡ []
        no_more xs = refl

        one : (b : Bool) (x : X) (xs : List X) (ms : List Bool) → b ≡ first_mark ms → items_where_true bs xs ≡ items_where_true (later_marks ms) xs →
            items_where_true (b ∷ bs) (x ∷ xs) ≡ items_where_true ms (x ∷ xs)
        one true x xs [] is rest = cc
        one false x xs [] is rest = rest ∙ no_more xs
        one true x xs (m ∷ ms) is rest = ap (λ l. x ∷ l) rest ∙ ap (λ m. items_where_true (m ∷ ms) (x ∷ xs)) is
        one false x xs (m ∷ ms) is rest = rest ∙ ap (λ m. items_where_true (m ∷ ms) (x ∷ xs)) is
