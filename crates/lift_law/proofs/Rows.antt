-- Tables of refusals that differ from one row on, and in which that row does not decide.
use Rattle.std.proofs.Common.{◌≡◌, ◌≢◌, ◌∙◌, refl, ap, Bool, true, false, cond, Some, None, List, [], ◌∷◌, ◌++◌}
use Rattle.lwc_base.specs.Refusals.{first_refusal}
use Rattle.lwc_types.specs.declared.refusal.Refusal.{Refusal}
use Rattle.lwc_types.specs.declared.refusal.Refusal.TheVariants.{BadRange}

-- a row of a range: in the wider world it holds at most where it holds here, and where it does not, what follows is the same
pub first-past : (front : List (Bool × Refusal)) (here wider : Bool) (rows others : List (Bool × Refusal)) → (here ≡ false → wider ≡ false) → (here ≡ false → first_refusal others ≡ first_refusal rows) →
    first_refusal (front ++ (here, BadRange) ∷ rows) ≢ Some BadRange → first_refusal (front ++ (wider, BadRange) ∷ others) ≡ first_refusal (front ++ (here, BadRange) ∷ rows)
first-past [] true wider rows others less same free = absurd (free refl)
first-past [] false wider rows others less same free = ap (λ b. cond b (Some BadRange) (first_refusal others)) (less refl) ∙ same refl
first-past (row ∷ front) here wider rows others less same free = by row.0 (first-past front here wider rows others less same) free
  where
    by : (b : Bool) → (first_refusal (front ++ (here, BadRange) ∷ rows) ≢ Some BadRange → first_refusal (front ++ (wider, BadRange) ∷ others) ≡ first_refusal (front ++ (here, BadRange) ∷ rows)) →
        cond b (Some row.1) (first_refusal (front ++ (here, BadRange) ∷ rows)) ≢ Some BadRange →
        cond b (Some row.1) (first_refusal (front ++ (wider, BadRange) ∷ others)) ≡ cond b (Some row.1) (first_refusal (front ++ (here, BadRange) ∷ rows))
    by true later is = refl
    by false later is = later is

-- rows after some others
pub first-append : (front rows others : List (Bool × Refusal)) → (first_refusal front ≡ None → first_refusal rows ≡ first_refusal others) → first_refusal (front ++ rows) ≡ first_refusal (front ++ others)
first-append [] rows others same = same refl
first-append (row ∷ front) rows others same = by row.0 (first-append front rows others) same
  where
    by : (b : Bool) → ((first_refusal front ≡ None → first_refusal rows ≡ first_refusal others) → first_refusal (front ++ rows) ≡ first_refusal (front ++ others)) →
        (cond b (Some row.1) (first_refusal front) ≡ None → first_refusal rows ≡ first_refusal others) →
        cond b (Some row.1) (first_refusal (front ++ rows)) ≡ cond b (Some row.1) (first_refusal (front ++ others))
    by true later is = refl
    by false later is = later is

-- where no row holds, none of the first ones does, and none of the others
pub none-append : (front rows : List (Bool × Refusal)) → first_refusal (front ++ rows) ≡ None → (first_refusal front ≡ None) × (first_refusal rows ≡ None)
none-append [] rows none = (refl, none)
none-append (row ∷ front) rows none = by row.0 (none-append front rows) none
  where
    by : (b : Bool) → (first_refusal (front ++ rows) ≡ None → (first_refusal front ≡ None) × (first_refusal rows ≡ None)) → cond b (Some row.1) (first_refusal (front ++ rows)) ≡ None →
        (cond b (Some row.1) (first_refusal front) ≡ None) × (first_refusal rows ≡ None)
    by true later is = cc
    by false later is = later is

-- the rows after some that do not hold decide
pub first-after : (front rows : List (Bool × Refusal)) → first_refusal front ≡ None → first_refusal (front ++ rows) ≡ first_refusal rows
first-after [] rows none = refl
first-after (row ∷ front) rows none = by row.0 (first-after front rows) none
  where
    by : (b : Bool) → (first_refusal front ≡ None → first_refusal (front ++ rows) ≡ first_refusal rows) → cond b (Some row.1) (first_refusal front) ≡ None →
        cond b (Some row.1) (first_refusal (front ++ rows)) ≡ first_refusal rows
    by true later is = cc
    by false later is = later is
