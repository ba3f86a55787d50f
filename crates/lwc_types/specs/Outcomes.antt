-- What reading bytes gives, and what a function that reads answers.
use Rattle.std.specs.Prelude.{◌≡◌, ℕ, List, [], ◌∷◌, Option, Some, Result, Ok, Err}
use Rattle.lwc_types.specs.declared.reading.ReadError.{ReadError}
use Rattle.lwc_types.specs.declared.reading.ReadError.TheVariants as errors

-- a refusal: the rule that the bytes break first, and the offset where they do
pub record Refusal (R : Type 0) : Type 0 where
  pub rule : R
  pub at : ℕ

infixl 10 ◌>>=◌
-- a step after one that was not refused
abbrev pub ◌>>=◌ : {R A B : Type 0} → Result A (Refusal R) → (A → Result B (Refusal R)) → Result B (Refusal R)
(Ok x) >>= f = f x
(Err refusal) >>= f = Err refusal

-- an error is the refusal that the reading gives, unless memory runs out
abbrev pub Fails : {R A : Type 0} → ReadError R → Result A (Refusal R) → Type 0
Fails errors.OutOfMemory read = Unit {0}
Fails (errors.Refused rule at) read = read ≡ Err (record { rule = rule; at = at })

-- an answer, seen by view, is what the reading gives, unless memory runs out
abbrev pub Answers : {R X A : Type 0} → (X → A) → Result X (ReadError R) → Result A (Refusal R) → Type 0
Answers view (Ok x) read = read ≡ Ok (view x)
Answers view (Err error) read = Fails error read

-- an error is the refusal that was found, unless memory runs out
abbrev pub IsFound : {R : Type 0} → ReadError R → Option (Refusal R) → Type 0
IsFound errors.OutOfMemory found = Unit {0}
IsFound (errors.Refused rule at) found = found ≡ Some (record { rule = rule; at = at })

-- a value, or the first of the refusals
abbrev pub unless_refused : {R A : Type 0} → A → List (Refusal R) → Result A (Refusal R)
unless_refused x [] = Ok x
unless_refused x (refusal ∷ later) = Err refusal
