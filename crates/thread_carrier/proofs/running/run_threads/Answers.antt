use Rattle.std.proofs.Common.{◌≡◌, ◌∙◌, ◌<◌, ◌^◌, ℕ, All, map, sym, ap, subst, true, arith}
use Rattle.std.proofs.lemmas.List.Elements.{All-map, All-replicate}
use Rattle.kernel_core.specs.Machine.{has_ended}
use Rattle.process_core.specs.Running.{AreAllOf, IsPassOf}
use Rattle.process_core.proofs.Carrying.{all_made, still_all, written_back}
use Rattle.thread_carrier.proofs.running.run_threads.Goals as goal

pub carry_all-requires-clause-ours : goal.carry_all-requires-clause-ours
carry_all-requires-clause-ours g c κs within =
    let process = c.args.process in
    let items = c.carriers_of-carriers.result.items in
    let ours : All (IsPassOf process) (map (λ x. x.pass) items) = subst (All (IsPassOf process)) (sym c.carriers_of-carriers.ensures.passes) c.requires.all.ours in
    subst (λ l. All (λ x. IsPassOf process x.pass) l) (sym c.as_mut_slice.ensures.value) (all_made (IsPassOf process) (λ x. x.pass) items ours)

pub carry_all-requires-clause-turns : goal.carry_all-requires-clause-turns
carry_all-requires-clause-turns g c κs within =
    let items = c.carriers_of-carriers.result.items in
    let low : All (λ (n : ℕ). n < 2 ^ 63) (map (λ x. x.turns) items) =
    subst (All (λ (n : ℕ). n < 2 ^ 63)) (sym (c.carriers_of-carriers.ensures.turns ∙ c.in_ok-none.ensures.items_if_clones_equal (λ _ same. same))) (All-replicate (λ (n : ℕ). n < 2 ^ 63) _ 0 (omega arith)) in
    subst (λ l. All (λ x. x.turns < 2 ^ 63) l) (sym c.as_mut_slice.ensures.value) (all_made (λ (n : ℕ). n < 2 ^ 63) (λ x. x.turns) items low)

pub close-requires-after_bounds : goal.close-requires-after_bounds
close-requires-after_bounds g c κs within =
    let process = c.args.process in
    let before = c.carriers_of-carriers.result.items in
    let after = c.carry_all.new.carriers in
    let numbers : map (λ x. x.pass.held.number) after ≡ map (λ x. x.pass.held.number) before = c.carry_all.ensures.numbers ∙ ap (map (λ x. x.pass.held.number)) c.as_mut_slice.ensures.value in
    let back = written_back (λ x. x.pass.held.number) c.carriers_of-carriers.result.len after before (omega (arith, c.carriers_of-carriers.result.ok.0)) numbers in
    subst (AreAllOf process) (sym (c.parts_of-passes.ensures.passes ∙ ap (map (λ x. x.pass)) back))
    (still_all (λ x. x.pass) process c.args.passes.items before after c.requires.all c.carriers_of-carriers.ensures.passes c.carry_all.ensures.ours numbers)

pub returns-clause-complete : goal.returns-clause-complete
returns-clause-complete g c =
    let before = c.carriers_of-carriers.result.items in
    let after = c.carry_all.new.carriers in
    let numbers : map (λ x. x.pass.held.number) after ≡ map (λ x. x.pass.held.number) before = c.carry_all.ensures.numbers ∙ ap (map (λ x. x.pass.held.number)) c.as_mut_slice.ensures.value in
    let back = written_back (λ x. x.pass.held.number) c.carriers_of-carriers.result.len after before (omega (arith, c.carriers_of-carriers.result.ok.0)) numbers in
    (c.close.ensures.complete (subst (All (λ p. has_ended p.last.status ≡ true)) (sym (c.parts_of-passes.ensures.passes ∙ ap (map (λ x. x.pass)) back))
    (All-map (λ p. has_ended p.last.status ≡ true) (λ x. x.pass) after c.carry_all.ensures.ended)))
