-- What a pass knows of a kernel that is due for it.
use Rattle.std.proofs.Common.{◌≡◌, ◌<◌, ◌≤◌, ◌==◌, ℕ, List, [], ◌∷◌, ◌++◌, length, Some, false, cond, sym, ap, subst, ◌∙◌, arith, append_assoc}
use Rattle.std.proofs.lemmas.List.Sums.{sum_by-append}
use Rattle.kernel_core.specs.Histories.{GoesOn, IsLegal, steps_by, turn_after}
use Rattle.kernel_core.specs.Kernel.{History, machine_of, turn}
use Rattle.kernel_core.specs.Machine.{has_ended, is_ended}
use Rattle.kernel_core.specs.Start.{Inputs, start, thread_count}
use Rattle.kernel_core.specs.declared.thread.Turn.{Turn}
use Rattle.lwc_types.specs.declared.limits.TheConstants.{MOST_STEPS}
use Rattle.process_core.specs.Running.{Leaves}
use Rattle.process_core.specs.declared.opened.Opened.{Opened}
use Rattle.turnstile.specs.Past.{Knows}
use Rattle.kernel_core.proofs.Others.{ended_by_turn, turn_stays}

-- what a process was opened with is determined by its parts
abbrev with_room : Inputs → ℕ → Opened
with_room inputs room = record { inputs = inputs; room = room }

pub named : {i j : Inputs} {r s : ℕ} → i ≡ j → r ≡ s → with_room i r ≡ with_room j s
named same room = cc

-- the steps that came after what was seen are those of others
pub none_later : (past seen : List ℕ) (t : ℕ) (k : Knows past t seen) → steps_by t (k.0.0) ≡ 0
none_later past seen t k =
    let parts = sum_by-append (λ s. cond (s == t) 1 0) seen k.0.0 in
    let same : steps_by t (seen ++ k.0.0) ≡ steps_by t past = ap (steps_by t) k.0.1 in
    omega (arith, k.1)

-- the turn of a kernel is what its history leaves
pub turn_now : (h : History) (inputs : Inputs) (t : ℕ) → h.inputs ≡ inputs → turn h t ≡ turn_after inputs h.steps t
unfolding turn machine_of
turn_now h inputs t same = ap (λ (i : Inputs). turn_after i h.steps t) same

went_on : (before after seen : List ℕ) (t : ℕ) → Knows before t seen → after ≡ before ++ t ∷ [] → GoesOn t seen after
went_on before after seen t k grown = record {
  others = k.0.0;
  none = none_later before seen t k;
  after_is = grown ∙ (ap (λ (l : List ℕ). l ++ t ∷ []) (sym k.0.1) ∙ append_assoc seen k.0.0 (t ∷ []));
}

-- what a turn leaves to its pass
pub record IsAfter (inputs : Inputs) (n : ℕ) (seen new : List ℕ) (r : Turn) : Type 0 where
  pub leaves : Leaves inputs n new r
  pub went : GoesOn n seen new

pub after_turn : (inputs : Inputs) (n t : ℕ) (seen new : List ℕ) (x y : History) (r : Turn) → x.inputs ≡ inputs → Knows x.steps n seen → y.inputs ≡ x.inputs → y.steps ≡ x.steps ++ t ∷ [] →
    turn y t ≡ Some r → t ≡ n → IsLegal (start y.inputs) y.steps → length y.steps ≤ MOST_STEPS → new ≡ y.steps → IsAfter inputs n seen new r
after_turn inputs n t seen new x y r same k kept_inputs grown turn_is is legal few new_is =
    let by : y.steps ≡ x.steps ++ n ∷ [] = grown ∙ ap (λ (m : ℕ). x.steps ++ m ∷ []) is in
    let whole : IsAfter inputs n seen y.steps r = record {
      leaves = record {
        legal = subst (λ (i : Inputs). IsLegal (start i) y.steps) (kept_inputs ∙ same) legal;
        few = few;
        turn_is = sym (turn_now y inputs n (kept_inputs ∙ same)) ∙ subst (λ (m : ℕ). turn y m ≡ Some r) is turn_is;
      };
      went = went_on x.steps y.steps seen n k by;
    } in
    subst (λ (l : List ℕ). IsAfter inputs n seen l r) (sym new_is) whole

-- a thread is as the pass last saw it
pub still_is : (h : History) (inputs : Inputs) (seen : List ℕ) (t : ℕ) (last : Turn) → h.inputs ≡ inputs → Knows h.steps t seen → Leaves inputs t seen last → turn h t ≡ Some last
still_is h inputs seen t last same k leaves =
    turn_now h inputs t same
    ∙ (ap (λ (l : List ℕ). turn_after inputs l t) (sym k.0.1)
    ∙ (turn_stays inputs seen k.0.0 t (none_later h.steps seen t k)
    ∙ leaves.turn_is))

still_going : (h : History) (inputs : Inputs) (seen : List ℕ) (t : ℕ) (last : Turn) → h.inputs ≡ inputs → Knows h.steps t seen → Leaves inputs t seen last →
    has_ended last.status ≡ false → is_ended (machine_of h) t ≡ false
still_going h inputs seen t last same k leaves going = ended_by_turn h t last (still_is h inputs seen t last same k leaves) ∙ going

-- a step of the thread may be made, and what holds of the inputs holds of the kernel's
pub ready : (h : History) (inputs : Inputs) (seen : List ℕ) (n t : ℕ) (last : Turn) (Fits : Inputs → Type 0) → h.inputs ≡ inputs → Knows h.steps n seen → Leaves inputs n seen last →
    has_ended last.status ≡ false → n < thread_count inputs → Fits inputs → t ≡ n →
    (t < thread_count h.inputs) × (is_ended (machine_of h) t ≡ false) × Fits h.inputs
ready h inputs seen n t last Fits same k leaves going within fits is = (
  subst (λ (i : Inputs). t < thread_count i) (sym same) (subst (λ (m : ℕ). m < thread_count inputs) (sym is) within),
  subst (λ (m : ℕ). is_ended (machine_of h) m ≡ false) (sym is) (still_going h inputs seen n last same k leaves going),
  subst Fits (sym same) fits,
)
