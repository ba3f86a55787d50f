-- One line after another, as a loop reads them.
use Rattle.std.proofs.Common.{◌≡◌, ℕ, ◌+◌, List, [], ◌∷◌, length, Result, Ok, Err, refl, sym, ◌∙◌}
use Rattle.guest_asm.specs.declared.error.SourceRule.{SourceRule}
use Rattle.guest_asm.specs.Lexis.{lines}
use Rattle.guest_asm.specs.Sources.{Source, with_line, with_lines, at_offset}
use Rattle.lwc_types.specs.Outcomes.{Refusal, Fails}
use Rattle.lwc_types.specs.declared.reading.ReadError.{ReadError}
use Rattle.lwc_types.specs.declared.reading.ReadError.TheVariants as errors

is_ok : (at : ℕ) (w : Result Source SourceRule) (next : Source) → at_offset at w Ok ≡ Ok next → w ≡ Ok next
is_ok at (Ok x) next e = cc
is_ok at (Err rule) next e = absurd cc

fails_by : (at : ℕ) (w : Result Source SourceRule) (further : Source → Result Source (Refusal SourceRule)) (e : ReadError SourceRule) → Fails e (at_offset at w Ok) → Fails e (at_offset at w further)
fails_by at w further errors.OutOfMemory h = tt
fails_by at (Ok x) further (errors.Refused rule place) h = absurd cc
fails_by at (Err r) further (errors.Refused rule place) h = h

-- how far a loop over lines has come: total is what all lines give
module _ (at : ℕ) (rest line after : List ℕ) (told : Source) (total : Result Source (Refusal SourceRule)) (first : lines rest ≡ line ∷ lines after) (so_far : with_lines at (lines rest) told ≡ total) where
  -- a line was added
  pub continues : (next : Source) → at_offset at (with_line at line told) Ok ≡ Ok next → with_lines (at + length line) (lines after) next ≡ total
  unfolding with_lines
  continues next added =
      let is : with_line at line told ≡ Ok next = is_ok at (with_line at line told) next added in
      sym (let one : with_lines at (lines rest) told ≡ with_lines (at + length line) (lines after) next = rw (first, is) refl in sym so_far ∙ one)

  -- a line was refused
  pub ends : (e : ReadError SourceRule) → Fails e (at_offset at (with_line at line told) Ok) → Fails e total
  unfolding with_lines
  ends e refused =
      let one : Fails e (with_lines at (lines rest) told) = rw first (fails_by at (with_line at line told) (λ next. with_lines (at + length line) (lines after) next) e refused) in
      rw (← so_far) one

-- no line is left
pub is_done : (at : ℕ) (rest : List ℕ) (told : Source) (total : Result Source (Refusal SourceRule)) → rest ≡ [] → with_lines at (lines rest) told ≡ total → total ≡ Ok told
unfolding with_lines
is_done at rest told total none so_far = sym so_far ∙ rw none refl
