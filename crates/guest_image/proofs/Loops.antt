-- Reading values one after another, as a loop does.
use Rattle.std.proofs.Common.{◌≡◌, ℕ, suc, ◌-◌, ◌+◌, ◌≤◌, ◌<◌, List, [], ◌∷◌, ◌++◌, Ok, Err, refl, sym, ◌∙◌, arith}
use Rattle.guest_image.specs.declared.fault.ImageRule.{ImageRule}
use Rattle.guest_image.specs.Reading.{Read, list_at}
use Rattle.guest_image.specs.Rest.{Rest}
use Rattle.lwc_types.specs.Outcomes.{Fails}
use Rattle.lwc_types.specs.declared.reading.ReadError.{ReadError}
use Rattle.lwc_types.specs.declared.reading.ReadError.TheVariants as errors

-- how a value is read after others
abbrev pub Reader : Type 0 → Type 0
Reader A = List A → Rest → Read (A × Rest)

module _ {A : Type 0} (read : Reader A) (count i : ℕ) (before : List A) (rest : Rest) (total : Read (List A × Rest)) (so_far : list_at read (count - i) before rest ≡ total) where
  -- one more value was read
  pub continues : (x : A) (after : Rest) → i < count → read before rest ≡ Ok (x, after) → list_at read (count - (i + 1)) (before ++ x ∷ []) after ≡ total
  unfolding list_at
  continues x after lt h =
      let k : count - i ≡ suc (count - (i + 1)) = omega arith in
      let one : list_at read (count - i) before rest ≡ list_at read (count - (i + 1)) (before ++ x ∷ []) after = rw (k, h) refl in
      sym one ∙ so_far

  -- a value was not read
  pub ends : (e : ReadError ImageRule) → i < count → Fails e (read before rest) → Fails e total
  unfolding list_at
  ends errors.OutOfMemory lt h = tt
  ends (errors.Refused rule at) lt h =
      let k : count - i ≡ suc (count - (i + 1)) = omega arith in
      let one : list_at read (count - i) before rest ≡ Err (record { rule = rule; at = at }) = rw (k, h) refl in
      sym so_far ∙ one

  -- all values were read
  pub is_done : count ≤ i → total ≡ Ok (before, rest)
  unfolding list_at
  is_done le =
      let k : count - i ≡ 0 = omega arith in
      let one : list_at read (count - i) before rest ≡ Ok (before, rest) = rw k refl in
      sym so_far ∙ one
