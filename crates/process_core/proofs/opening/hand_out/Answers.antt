use Rattle.std.proofs.Common.{◌≡◌, ◌<◌, ◌∙◌, ◌++◌, ◌∷◌, [], ℕ, List, length, map, Some, sym, ap, subst, arith, slice_get, get_or, refl}
use Rattle.std.proofs.lemmas.Option.{slice_get_read}
use Rattle.std.proofs.lemmas.Bool.Decides.{nat_tests}
use Rattle.kernel_core.specs.Histories.{turn_after}
use Rattle.kernel_core.specs.declared.thread.Turn.{Turn}
use Rattle.process_core.specs.Running.{Carried}
use Rattle.process_core.specs.declared.opened.Opened.{Opened}
use Rattle.process_core.proofs.Handing.{each_push, held_few, first_of, handed, new_pass}
use Rattle.turnstile.specs.Passes.{Held}
use Rattle.process_core.proofs.opening.hand_out.Goals as goal

pub held-preserved : goal.held-preserved
held-preserved g c =
    let ps = c.held.passes.items in
    let hs = c.held.held.items in
    let pass = c.remove-pass.result in
    let last = c.in_ok-last.last.value in
    let q : Carried = record { held = pass; last = last } in
    let some : 0 < length hs = grind (arith, nat_tests) in
    let first = first_of hs pass c.remove-pass.new.self.items some c.remove-pass.ensures.value c.remove-pass.ensures.by_index.2 in
    let all = c.args.held.items in
    let rest = c.remove-pass.new.self.items in
    let now = c.push_reserved.ensures.items ∙ ap (λ (r : Carried). ps ++ r ∷ []) c.new-in-held.ensures in
    let name = c.args.gate.now.name.inputs in
    let found : last ≡ get_or c.args.turns.now.items c.len.result last = subst (λ (x : Turn). x ≡ get_or c.args.turns.now.items c.len.result x) (sym (c.in_ok-last.ensures.ok ∙ c.same.ensures)) c.index.ensures in
    record {
      all = subst (λ (l : List Carried). map (λ (p : Carried). p.held) l ++ rest ≡ all) (sym now)
          (handed ps pass last rest all (subst (λ (l : List (Held Opened)). map (λ (p : Carried). p.held) ps ++ l ≡ all) first c.held.invariant.all));
      turns = subst (λ (l : List Carried). (i : ℕ) (r : Carried) → slice_get l i ≡ Some r → turn_after name [] i ≡ Some r.last) (sym now)
          (each_push (λ i r. turn_after name [] i ≡ Some r.last) ps q c.held.invariant.turns
          (λ n is. c.requires.turns n last (slice_get_read c.args.turns.now.items _ n last refl (let few = held_few ps hs all c.held.invariant.all in omega (arith, c.requires.count)) (subst (λ (m : ℕ). last ≡ get_or c.args.turns.now.items m last) (let e : c.len.result ≡ n = omega (arith, c.len.ensures, is, c.held.passes.ok.0) in e) found))));
      room = omega (arith, c.held.invariant.room, ap length now, c.push_reserved.ensures.len, c.push_reserved.ensures.capacity, c.remove-pass.ensures.len);
    }

pub returns-clause-new : goal.returns-clause-new
returns-clause-new g c =
    new_pass c.args.gate.now c.args.held.items c.held.held.items c.held.passes.items c.held.invariant.all (grind (arith, nat_tests)) (c.requires.count ∙ c.requires.threads) c.requires.new c.held.invariant.turns
