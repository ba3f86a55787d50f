-- What was written of a text, and of a longer one.
use Rattle.std.proofs.Common.{◌≡◌, ℕ, zero, suc, refl, ap, ◌∙◌, Bool, true, false, Option, Some, None, Result, Ok, Err, is_err, OnOk, OnErr, List, [], ◌∷◌, ◌++◌, take, append_assoc}
use Rattle.lwc_io.proofs.Outputs.{takes_none}
use Rattle.lwc_io.specs.Outside.{CountsOneFault, IsPartTaken, SinkView, appended, incremented}
use Rattle.lwc_stream.specs.Replies.{IsWritten}

-- the first bytes of a text are those of a longer one
part : (text more : List ℕ) (n : ℕ) → (m : ℕ) × (take n text ≡ take m (text ++ more))
part [] more zero = (0, refl)
part [] more (suc n) = (0, refl)
part (x ∷ xs) more zero = (0, refl)
part (x ∷ xs) more (suc n) = let r = part xs more n in (suc r.0, ap (λ l. x ∷ l) r.1)

part_behind : (text line : List ℕ) (n : ℕ) → (m : ℕ) × (text ++ take n line ≡ take m (text ++ line))
part_behind [] line n = (n, refl)
part_behind (x ∷ xs) line n = let r = part_behind xs line n in (suc r.0, ap (λ l. x ∷ l) r.1)

appended_twice : (before : Option (List ℕ)) (text more : List ℕ) → appended (appended before text) more ≡ appended before (text ++ more)
appended_twice None text more = refl
appended_twice (Some xs) text more = ap Some (append_assoc xs text more)

-- after a write that failed no more is written
pub still_part : (failed : Bool) (before now : SinkView) (text more : List ℕ) → failed ≡ true → IsWritten failed before now text → IsWritten failed before now (text ++ more)
still_part false before now text more is w = cc
still_part true before now text more is w =
    let r = part text more w.0.0 in
    ((r.0, w.0.1 ∙ ap (appended before.taken) r.1), w.1)

-- a line was written behind a text, or its first bytes
pub line_written : {A E : Type 0} (failed : Bool) (result : Result A E) (before mid now : SinkView) (text line : List ℕ) → failed ≡ false →
    OnOk result (now.taken ≡ appended mid.taken line) → OnErr result (IsPartTaken mid.taken now.taken line) → OnOk result (now.faults ≡ mid.faults) → OnErr result (CountsOneFault mid.faults now.faults) →
    IsWritten failed before mid text → IsWritten (is_err result) before now (text ++ line)
line_written true result before mid now text line is whole partly no_fault cause w = cc
line_written false (Ok a) before mid now text line is whole partly no_fault cause w =
    (whole ∙ (ap (λ b. appended b line) w.0 ∙ appended_twice before.taken text line), no_fault ∙ w.1)
line_written false (Err e) before mid now text line is whole partly no_fault cause w =
    let r = part_behind text line partly.0 in (
      (r.0, partly.1 ∙ (ap (λ b. appended b (take partly.0 line)) w.0 ∙ (appended_twice before.taken text (take partly.0 line) ∙ ap (appended before.taken) r.1))),
      cause ∙ ap (λ n. incremented n) w.1,
    )

-- nothing was written of nothing
pub none_written : (failed : Bool) (now : SinkView) → failed ≡ false → IsWritten failed now now []
none_written false now is = (takes_none now.taken, refl)
none_written true now is = cc
