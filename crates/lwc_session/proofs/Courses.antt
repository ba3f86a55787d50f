-- What a serve of one request keeps, step by step.
use Rattle.std.proofs.Common.{◌≡◌, ◌+◌, ◌-◌, ◌<◌, ◌≤◌, ◌∙◌, ℕ, zero, suc, Bool, true, false, List, [], ◌∷◌, ◌++◌, Option, Some, None, length, replicate, ap, arith, refl, subst, sym}
use Rattle.std.specs.Option.{option_or}
use Rattle.std.proofs.lemmas.List.{length-append, length-replicate}
use Rattle.guest_image.specs.declared.image.PageImage.{PageImage}
use Rattle.kernel_core.proofs.Others.{some_left}
use Rattle.kernel_core.specs.Kernel.{CanOpen, History, machine_of}
use Rattle.kernel_core.specs.Machine.{Machine, is_ended, work}
use Rattle.kernel_core.specs.Runs.{kept, run}
use Rattle.kernel_core.specs.Start.{Inputs, start}
use Rattle.lwc_session.proofs.Histories.{AreMade, goes_on, left_more, one_more, rests}
use Rattle.lwc_session.specs.Served.{history, left_by, left_in, served, those_fitting}

-- steps that were made, with one more
made_more : (m : Machine) (steps : List ℕ) → AreMade m steps → is_ended (run m steps) 0 ≡ false → AreMade m (steps ++ 0 ∷ [])
made_more m steps made going = record {
  count = suc made.count;
  alike = ap (λ (l : List ℕ). l ++ 0 ∷ []) made.alike ∙ sym (one_more made.count);
  legal = goes_on m made.count made.legal (ap (λ (l : List ℕ). is_ended (run m l) 0) (sym made.alike) ∙ going);
}

-- and all of them
made_whole : (m : Machine) (steps : List ℕ) (most : ℕ) → AreMade m steps → length steps ≤ most → is_ended (run m steps) 0 ≡ true → steps ≡ kept m (replicate {A = ℕ} most 0)
made_whole m steps most made few ended =
    let count : length steps ≡ made.count = ap length made.alike ∙ length-replicate made.count 0 in
    let rest : (j : ℕ) × (made.count + j ≡ most) = (most - made.count, omega arith) in
    made.alike
    ∙ sym (rests m made.count rest.0 made.legal (ap (λ (l : List ℕ). is_ended (run m l) 0) (sym made.alike) ∙ ended))
    ∙ ap (λ (k : ℕ). kept m (replicate {A = ℕ} k 0)) rest.1

-- the steps so far were made, and they leave these pages
pub record IsServing (inputs : Inputs) (h : History) (left : Option (List PageImage)) : Type 0 where
  pub given : h.inputs ≡ inputs
  pub made : AreMade (start inputs) h.steps
  pub few : length h.steps + work (machine_of h) ≤ work (start inputs)
  pub room : work (machine_of h) ≤ h.room
  pub pages : left ≡ left_in (start inputs) h.steps None

-- before the first step
pub serving_start : (h : History) → h.steps ≡ [] → work (start h.inputs) ≤ h.room → IsServing h.inputs h None
unfolding machine_of
serving_start h fresh room =
    let same : work (run (start h.inputs) h.steps) ≡ work (start h.inputs) = ap (λ (l : List ℕ). work (run (start h.inputs) l)) fresh in
    let none : length h.steps ≡ 0 = ap length fresh in
    record {
      given = refl;
      made = record { count = 0; alike = fresh; legal = refl };
      few = omega (arith, same, none);
      room = omega (arith, same, room);
      pages = ap (λ (l : List ℕ). left_in (start h.inputs) l None) (sym fresh);
    }

-- the machine is that of the steps
machine_is : (inputs : Inputs) (h : History) → h.inputs ≡ inputs → machine_of h ≡ run (start inputs) h.steps
unfolding machine_of
machine_is inputs h same = ap (λ (i : Inputs). run (start i) h.steps) same

-- with one step more
pub serving_on : (inputs : Inputs) (h now : History) (left more : Option (List PageImage)) → IsServing inputs h left → is_ended (machine_of h) 0 ≡ false →
    now.inputs ≡ h.inputs → now.steps ≡ h.steps ++ 0 ∷ [] → h.room ≤ now.room + 1 → work (machine_of now) < work (machine_of h) → more ≡ left_by (machine_of h) → IsServing inputs now (option_or more left)
serving_on inputs h now left more is going same steps room less leaves =
    let m = run (start inputs) h.steps in
    let at : machine_of h ≡ m = machine_is inputs h is.given in
    let count : length now.steps ≡ length h.steps + 1 = ap length steps ∙ length-append h.steps (0 ∷ []) in
    record {
      given = same ∙ is.given;
      made = subst (AreMade (start inputs)) (sym steps) (made_more (start inputs) h.steps is.made (ap (λ (n : Machine). is_ended n 0) (sym at) ∙ going));
      few = omega (arith, is.few, count, less);
      room = omega (arith, is.room, room, less);
      pages = ap (option_or more) is.pages ∙ ap (λ (o : Option (List PageImage)). option_or o (left_in (start inputs) h.steps None)) (leaves ∙ ap left_by at)
          ∙ sym (left_more (start inputs) h.steps 0 None) ∙ ap (λ (l : List ℕ). left_in (start inputs) l None) (sym steps);
    }

-- there is room while the worker goes on
pub serving_room : (inputs : Inputs) (h : History) (left : Option (List PageImage)) → CanOpen inputs → IsServing inputs h left → is_ended (machine_of h) 0 ≡ false → 0 < h.room
serving_room inputs h left can is going =
    let at : machine_of h ≡ run (start inputs) h.steps = machine_is inputs h is.given in
    let some = some_left inputs h.steps can 0 (ap (λ (n : Machine). is_ended n 0) (sym at) ∙ going) in
    omega (arith, some, ap work at, is.room)

-- and once it has ended, its steps are all that it makes
pub served_steps : (inputs : Inputs) (h : History) (left : Option (List PageImage)) → IsServing inputs h left → is_ended (machine_of h) 0 ≡ true → h.steps ≡ history inputs
served_steps inputs h left is ended =
    let at : machine_of h ≡ run (start inputs) h.steps = machine_is inputs h is.given in
    made_whole (start inputs) h.steps (work (start inputs)) is.made (omega (arith, is.few)) (ap (λ (n : Machine). is_ended n 0) (sym at) ∙ ended)

-- and what they leave is what is kept
pub served_pages : (inputs : Inputs) (h : History) (left : Option (List PageImage)) (frames : ℕ) → inputs.settings.frames ≡ frames → IsServing inputs h left → is_ended (machine_of h) 0 ≡ true →
    those_fitting frames left ≡ (served inputs).pages
unfolding served
served_pages inputs h left frames same is ended =
    ap (those_fitting frames) (is.pages ∙ ap (λ (l : List ℕ). left_in (start inputs) l None) (served_steps inputs h left is ended))
    ∙ ap (λ (n : ℕ). those_fitting n (left_in (start inputs) (history inputs) None)) (sym same)
