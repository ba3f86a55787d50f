-- What a reading of items answers, by the items that the bytes spell.
use Rattle.std.proofs.Common.{◌≡◌, ◌∙◌, ◌%◌, ℕ, Bool, true, false, not, List, ◌∷◌, [], Result, Ok, Err, refl, sym, ap, subst, length, IfOk}
use Rattle.std.proofs.lemmas.Bool.{false≢true}
use Rattle.lwc_base.specs.Modes.{IsSpec}
use Rattle.lwc_base.specs.Refusals.{first_refusal}
use Rattle.lwc_base.specs.declared.item.Item.{Item}
use Rattle.res_spec.specs.declared.items.SpecCall.{SpecCall}
use Rattle.res_spec.specs.declared.items.SpecFault.{SpecFault}
use Rattle.res_spec.specs.declared.items.SpecFault.TheVariants.{BadMode, BadRange, Overlap}
use Rattle.res_spec.specs.Items.{all_taken, all_within, faults, has_overlap, items_in, items_or, read}
use Rattle.res_spec.specs.Spelling.{Spells, IsBadMode, IsBadRange, IsOverlap}
use Rattle.res_spec.proofs.Spellings.{AreBytes, spelled_are_read, read_are_spelled}
use Rattle.res_spec.proofs.ValidItems.{each_apart, each_item, each_overlap, each_within}

abbrev rows : Bool → Bool → Bool → List (Bool × SpecFault)
rows modes ranges overlap = (not modes, BadMode) ∷ (not ranges, BadRange) ∷ (overlap, Overlap) ∷ []

abbrev answered : List Item → Bool → Bool → Bool → Result (List Item) SpecFault
answered items modes ranges overlap = items_or items (first_refusal (rows modes ranges overlap))

-- what the answer says of the three tests
record Tests (items : List Item) (modes ranges overlap : Bool) (r : Result (List Item) SpecFault) : Type 0 where
  found : (spec : List Item) → r ≡ Ok spec → (modes ≡ true) × (items ≡ spec)
  only : modes ≡ true → ranges ≡ true → overlap ≡ false → r ≡ Ok items
  bad_mode : r ≡ Err BadMode → modes ≡ false
  only_mode : modes ≡ false → r ≡ Err BadMode
  bad_range : r ≡ Err BadRange → (modes ≡ true) × (ranges ≡ false)
  only_range : modes ≡ true → ranges ≡ false → r ≡ Err BadRange
  overlaps : r ≡ Err Overlap → (modes ≡ true) × (ranges ≡ true) × (overlap ≡ true)
  only_overlap : modes ≡ true → ranges ≡ true → overlap ≡ true → r ≡ Err Overlap

tests : (items : List Item) (modes ranges overlap : Bool) → Tests items modes ranges overlap (answered items modes ranges overlap)
tests items false ranges overlap = record {
  found = λ spec e. absurd cc;
  only = λ m _ _. absurd cc;
  bad_mode = λ e. refl;
  only_mode = λ e. refl;
  bad_range = λ e. absurd cc;
  only_range = λ m _. absurd cc;
  overlaps = λ e. absurd cc;
  only_overlap = λ m _ _. absurd cc;
}
tests items true false overlap = record {
  found = λ spec e. absurd cc;
  only = λ _ m _. absurd cc;
  bad_mode = λ e. absurd cc;
  only_mode = λ e. absurd cc;
  bad_range = λ e. (refl, refl);
  only_range = λ _ _. refl;
  overlaps = λ e. absurd cc;
  only_overlap = λ _ m _. absurd cc;
}
tests items true true true = record {
  found = λ spec e. absurd cc;
  only = λ _ _ m. absurd cc;
  bad_mode = λ e. absurd cc;
  only_mode = λ e. absurd cc;
  bad_range = λ e. absurd cc;
  only_range = λ _ m. absurd cc;
  overlaps = λ e. (refl, refl, refl);
  only_overlap = λ _ _ _. refl;
}
tests items true true false = record {
  found = λ spec e. (refl, cc);
  only = λ _ _ _. refl;
  bad_mode = λ e. absurd cc;
  only_mode = λ e. absurd cc;
  bad_range = λ e. absurd cc;
  only_range = λ _ m. absurd cc;
  overlaps = λ e. absurd cc;
  only_overlap = λ _ _ m. absurd cc;
}

not_false : (b : Bool) → (b ≡ false → ⊥) → b ≡ true
not_false true h = refl
not_false false h = absurd (h refl)

not_true : (b : Bool) → (b ≡ true → ⊥) → b ≡ false
not_true true h = absurd (h refl)
not_true false h = refl

module _ (call : SpecCall) (pages : ℕ) (bytes : List ℕ) (whole : length bytes % 16 ≡ 0) (fits : AreBytes bytes) (r : Result (List Item) SpecFault) (is : read call pages bytes ≡ r) where
  all : Tests (items_in call bytes) (all_taken call bytes) (all_within pages (items_in call bytes)) (has_overlap (items_in call bytes)) r
  unfolding read faults
  all = subst (Tests (items_in call bytes) (all_taken call bytes) (all_within pages (items_in call bytes)) (has_overlap (items_in call bytes))) is (tests (items_in call bytes) (all_taken call bytes) (all_within pages (items_in call bytes)) (has_overlap (items_in call bytes)))

  items_found : (spec : List Item) → r ≡ Ok spec → Spells call spec bytes
  items_found spec e = let t = all.found spec e in subst (λ (items : List Item). Spells call items bytes) t.1 (read_are_spelled call bytes whole fits t.0)

  pub items_only : (items : List Item) → Spells call items bytes → IsSpec pages items → r ≡ Ok items
  items_only items s valid =
      let e = spelled_are_read call items bytes s in
      all.only e.0 (subst (λ (l : List Item). all_within pages l ≡ true) (sym e.1) (each_within pages items valid.each)) (subst (λ (l : List Item). has_overlap l ≡ false) (sym e.1) (each_overlap items valid.apart)) ∙ ap (λ (l : List Item). Ok l) e.1

  pub mode_fault : r ≡ Err BadMode → IsBadMode call bytes
  unfolding IsBadMode
  mode_fault e items s = false≢true (sym (all.bad_mode e) ∙ (spelled_are_read call items bytes s).0)

  pub no_items : IsBadMode call bytes → r ≡ Err BadMode
  unfolding IsBadMode
  no_items none = all.only_mode (not_true (all_taken call bytes) (λ e. none (items_in call bytes) (read_are_spelled call bytes whole fits e)))

  pub range_fault : r ≡ Err BadRange → IsBadRange call pages bytes
  unfolding IsBadRange
  range_fault e =
      let t = all.bad_range e in
      (items_in call bytes, read_are_spelled call bytes whole fits t.0, λ each. false≢true (sym t.1 ∙ each_within pages (items_in call bytes) each))

  pub bad_range : IsBadRange call pages bytes → r ≡ Err BadRange
  unfolding IsBadRange
  bad_range (items, s, bad) =
      let e = spelled_are_read call items bytes s in
      all.only_range e.0 (not_true (all_within pages (items_in call bytes)) (λ w. bad (each_item pages items (subst (λ (l : List Item). all_within pages l ≡ true) e.1 w))))

  pub overlap_fault : r ≡ Err Overlap → IsOverlap call pages bytes
  unfolding IsOverlap
  overlap_fault e =
      let t = all.overlaps e in
      (items_in call bytes, read_are_spelled call bytes whole fits t.0, each_item pages (items_in call bytes) t.1, λ apart. false≢true (sym (each_overlap (items_in call bytes) apart) ∙ t.2))

  pub overlap : IsOverlap call pages bytes → r ≡ Err Overlap
  unfolding IsOverlap
  overlap (items, s, each, bad) =
      let e = spelled_are_read call items bytes s in
      all.only_overlap e.0 (subst (λ (l : List Item). all_within pages l ≡ true) (sym e.1) (each_within pages items each)) (not_false (has_overlap (items_in call bytes)) (λ o. bad (each_apart items (subst (λ (l : List Item). has_overlap l ≡ false) e.1 o))))

pub items_if : (call : SpecCall) (pages : ℕ) (bytes : List ℕ) → length bytes % 16 ≡ 0 → AreBytes bytes → (r : Result (List Item) SpecFault) → read call pages bytes ≡ r → IfOk r (λ spec. Spells call spec bytes)
items_if call pages bytes whole fits (Ok spec) is = items_found call pages bytes whole fits (Ok spec) is spec refl
items_if call pages bytes whole fits (Err fault) is = tt
