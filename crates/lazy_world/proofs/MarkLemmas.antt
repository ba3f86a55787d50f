-- Marks at the places of groups that cells name.
use Rattle.std.proofs.Common.{◌≡◌, ◌<◌, ◌≤◌, None, Some, inl, inr, ℕ, zero, suc, ◌+◌, arith, List, [], refl, sym, ap, ◌∙◌, Bool, true, false, Option, replicate, add-zero}
use Rattle.std.specs.Prelude.{◌||◌}
use Rattle.std.specs.List.{list_any, range_with_len}
use Rattle.lwc_base.specs.declared.cell.Cell.{Cell}
use Rattle.lwc_base.specs.declared.descriptor.Descriptor.{Descriptor}
use Rattle.lwc_types.specs.declared.page.PageValue.{PageValue}
use Rattle.std.specs.Option.{option_map}
use Rattle.std.proofs.lemmas.Bool.{cases_lt, false≢true}
use Rattle.lwc_types.specs.declared.right.Right.{Right}
use Rattle.range_map.specs.Kinds.{kind_of, state_of}
use Rattle.range_map.specs.declared.segment.SegmentKind.{SegmentKind}
use Rattle.fd_table.specs.Slots.{is_common}
use Rattle.lwc_base.specs.declared.cell.Cell.TheVariants.{Own, Common}
use Rattle.lwc_base.specs.Life.{is_in}
use Rattle.lwc_types.specs.declared.name.Name.{Name}
use Rattle.reach.specs.Reach.{is_marked}
use Rattle.lazy_world.specs.KeyValues.{group_in}
use Rattle.lazy_world.specs.Reaping.{AddsMarks, is_name, is_of}
use Rattle.lwc_base.proofs.Needs.{some_in_range}
use Rattle.lwc_base.proofs.Reaped.{number_in}
use Rattle.lwc_types.proofs.Small.{at-new, or_assoc, same_bool}

or_false : (b : Bool) → b ≡ (b || false)
or_false true = refl
or_false false = refl

-- the group of a cell
pub name_of_cell : {C : Type 0} (cell : Cell C) (g : Name) → is_name (group_in cell) g ≡ is_in g cell
name_of_cell (Own value) g = refl
name_of_cell (Common h) g = refl

any_next : (test : ℕ → Bool) (a n : ℕ) → (list_any test (range_with_len a n) || test (a + n)) ≡ list_any test (range_with_len a (n + 1))
any_next test a zero = ap test (add-zero a) ∙ or_false (test a)
any_next test a (suc n) =
    let more : suc (n + 1) ≡ suc n + 1 = omega arith in
    or_assoc (test a) (list_any test (range_with_len (a + 1) n)) (test (a + suc n))
    ∙ ap (λ k. test a || (list_any test (range_with_len (a + 1) n) || test k)) (omega arith)
    ∙ ap (λ b. test a || b) (any_next test (a + 1) n)
    ∙ ap (λ m. list_any test (range_with_len a m)) more

-- one number more is gone over
pub any_more : (test : ℕ → Bool) (n : ℕ) → (list_any test (range_with_len 0 n) || test n) ≡ list_any test (range_with_len 0 (n + 1))
any_more test n = ap (λ k. list_any test (range_with_len 0 n) || test k) (omega arith) ∙ any_next test 0 n

-- what passes below a number passes below a later one
pub any_up : (test : ℕ → Bool) (a b : ℕ) → a ≤ b → list_any test (range_with_len 0 a) ≡ true → list_any test (range_with_len 0 b) ≡ true
any_up test a b low at = let found = number_in test a 0 at in some_in_range test b 0 found.0 (omega arith) (omega (arith, found.2, low)) found.3

-- numbers at which a test fails are passed over
pub any_past : (test : ℕ → Bool) (a b : ℕ) → a ≤ b → ((k : ℕ) → a ≤ k → k < b → test k ≡ false) → list_any test (range_with_len 0 a) ≡ list_any test (range_with_len 0 b)
any_past test a b low off =
    same_bool _ _ (any_up test a b low)
    (λ at.
    let found = number_in test b 0 at in
    elim (cases_lt found.0 a) [
      | inl here ↦ some_in_range test a 0 found.0 (omega arith) (omega (arith, here)) found.3
      | inr past ↦ absurd (false≢true (sym (off found.0 past (omega (arith, found.2))) ∙ found.3))
    ])

abbrev pub named_kind : Name → Option SegmentKind → Bool
named_kind g None = false
named_kind g (Some kind) = is_of kind g

pub in-kind : (g : Name) (cell : Cell (Option PageValue)) → is_in g cell ≡ named_kind g (kind_of cell)
in-kind g (Own None) = refl
in-kind g (Own (Some value)) = refl
in-kind g (Common h) = refl

-- the kind of a state
pub kind-of-state : (kind : Option SegmentKind) (right : Right) → option_map (λ s. s.kind) (state_of kind right) ≡ kind
kind-of-state None right = refl
kind-of-state (Some kind) right = refl

-- a cell that is not common names none
pub in-own : (g : Name) (cell : Cell Descriptor) → is_common cell ≡ false → is_in g cell ≡ false
in-own g (Own value) own = refl
in-own g (Common h) own = cc

module _ (places : List (Option Name)) where
  -- no mark is set at first
  pub adds-first : (n : ℕ) → AddsMarks places (λ g. false) [] (replicate n false)
  adds-first n = record { at = λ j g is. at-new n j false }

  -- nothing is marked
  pub adds-none : (test : Name → Bool) (marks : List Bool) → ((g : Name) → test g ≡ false) → AddsMarks places test marks marks
  adds-none test marks is = record { at = λ j g there. or_false (is_marked marks j) ∙ ap (λ b. is_marked marks j || b) (sym (is g)) }

  -- the test may be said otherwise
  pub adds-same : (s t : Name → Bool) (a b : List Bool) → AddsMarks places s a b → ((g : Name) → s g ≡ t g) → AddsMarks places t a b
  adds-same s t a b adds is = record { at = λ j g there. adds.at j g there ∙ ap (λ m. is_marked a j || m) (is g) }

  -- marks are added one after another
  pub adds-more : (s t u : Name → Bool) (a b c : List Bool) → AddsMarks places s a b → AddsMarks places t b c → ((g : Name) → (s g || t g) ≡ u g) → AddsMarks places u a c
  adds-more s t u a b c first next is = record {
    at = λ j g there.
        next.at j g there ∙ ap (λ m. m || t g) (first.at j g there) ∙ or_assoc (is_marked a j) (s g) (t g)
        ∙ ap (λ m. is_marked a j || m) (is g);
  }
