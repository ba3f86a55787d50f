-- Groups that are all marked.
use Rattle.std.proofs.Common.{◌≡◌, inl, inr, ℕ, suc, ◌<◌, arith, List, [], ◌∷◌, length, refl, sym, ap, ◌∙◌, Bool, true, false, Some}
use Rattle.std.specs.Prelude.{◌||◌, is_some, slice_get}
use Rattle.std.specs.List.{list_any}
use Rattle.std.specs.Ordering.{eq_by_cmp}
use Rattle.std.specs.FinMap as fm
use Rattle.std.proofs.lemmas.Bool.{false≢true}
use Rattle.std.proofs.lemmas.List.{length-map}
use Rattle.lwc_types.specs.declared.name.Name.{Name}
use Rattle.lwc_types.specs.Names.{name_cmp}
use Rattle.ctx_table.specs.NameTables.{ArePlaced, NameTable}
use Rattle.reach.specs.Reach.{is_marked}
use Rattle.lazy_world.specs.Reaping.{AddsMarks}
use Rattle.lwc_base.proofs.Life.{or_cases}
use Rattle.lwc_types.proofs.Orders.{same_name}

-- an element at which a test passes is somewhere
passes_somewhere : {A : Type 0} (test : A → Bool) (xs : List A) → list_any test xs ≡ true → (n : ℕ) × (x : A) × (n < length xs) × (slice_get xs n ≡ Some x) × (test x ≡ true)
passes_somewhere test [] passes = absurd (false≢true passes)
passes_somewhere test (x ∷ xs) passes =
    elim (or_cases (test x) (list_any test xs) passes) [
      | inl here ↦ (0, x, omega arith, refl, here)
      | inr later ↦ let found = passes_somewhere test xs later in (suc found.0, found.1, omega (arith, found.2), found.3, found.4)
    ]

-- what holds of each name in their order holds of each name
pub each_name : (m : fm.FinMap name_cmp ℕ) (marks : List Bool) (k : ℕ) →
    ((n : ℕ) (g : Name) (j : ℕ) → n < k → slice_get (fm.keys m) n ≡ Some g → fm.get m g ≡ Some j → is_marked marks j ≡ true) → fm.len m ≡ k →
    (g : Name) (j : ℕ) → fm.get m g ≡ Some j → is_marked marks j ≡ true
each_name m marks k each all g j found =
    let somewhere = passes_somewhere (eq_by_cmp name_cmp g) (fm.keys m) (sym (fm.contains_key-keys m g) ∙ ap is_some found) in
    let same : g ≡ somewhere.1 = same_name g somewhere.1 somewhere.4 in
    let many : length (fm.keys m) ≡ fm.len m = length-map (fm.entries m) (λ (e : Name × ℕ). e.0) ∙ sym (fm.len-entries m) in
    each somewhere.0 g j (omega (arith, somewhere.2, many, all)) (somewhere.3 ∙ ap Some (sym same)) found

or_marked : (a b : Bool) → a ≡ true → (a || b) ≡ true
or_marked true b is = refl
or_marked false b is = cc

-- a mark that is set stays
pub stays-marked : (table : NameTable) → ArePlaced table → (test : Name → Bool) (a b : List Bool) → AddsMarks table.places test a b →
    (g : Name) (j : ℕ) → fm.get table.map g ≡ Some j → is_marked a j ≡ true → is_marked b j ≡ true
stays-marked table placed test a b adds g j found is = adds.at j g ((placed.at g j).0 found) ∙ or_marked (is_marked a j) (test g) is

-- where each live group is marked, the marks are those of a wider test too
pub adds-all : (table : NameTable) → ArePlaced table → (test wider : Name → Bool) (marks : List Bool) → AddsMarks table.places test [] marks →
    ((g : Name) (j : ℕ) → fm.get table.map g ≡ Some j → is_marked marks j ≡ true) → ((g : Name) → test g ≡ true → wider g ≡ true) →
    AddsMarks table.places wider [] marks
adds-all table placed test wider marks adds all more = record {
  at = λ j g there.
      let on : is_marked marks j ≡ true = all g j ((placed.at g j).1 there) in
      on ∙ sym (more g (sym (adds.at j g there) ∙ on));
}
