use Rattle.std.proofs.Common.{List, [], ap, arith, length, length-append, rules, subst, sym, ℕ, ◌++◌, ◌∙◌, ◌∷◌, ◌≡◌}
use Rattle.std.specs.Prelude.{All}
use Rattle.std.proofs.lemmas.List.Elements.{All-append}
use Rattle.kernel_core.proofs.Reaping.{home_more, length-contexts, length-homes, live_roots}
use Rattle.kernel_core.specs.Machine.{homes_of}
use Rattle.kernel_core.specs.Step.{contexts_of}
use Rattle.lwc_types.specs.declared.name.Name.{Name}
use Rattle.world_face.specs.Calls.{IsLive}
use Rattle.lwc_base.proofs.Reaped.{reap-reaped}
use Rattle.kernel_core.proofs.parts.drop_unreached.Goals as goal

pub push-requires-in-homes : goal.push-requires-in-homes
push-requires-in-homes g c = (
  omega arith,
  omega (
    arith,
    ap (λ (l : List Name). length l) c.homes.invariant,
    length-append (contexts_of c.args.threads.now) (homes_of c.homes.t),
    length-contexts c.args.threads.now,
    length-homes c.homes.t,
    c.homes-test.true,
    c.requires.few,
    c.requires.few_homes,
  ),
)

pub homes-preserved : goal.homes-preserved
homes-preserved g c =
    home_more c.args.threads.now c.homes.t _ _ c.homes.invariant (c.push-in-homes.ensures.items ∙ ap (λ (h : Name). c.homes.contexts.items ++ h ∷ []) c.home_of.ensures)

pub reap-requires-clause-live : goal.reap-requires-clause-live
reap-requires-clause-live g c =
    let all : c.homes.t ≡ c.args.workers = omega (arith, c.homes-test.false, c.homes.auto.t-end) in
    subst (All (IsLive (g.W.World.seen c.args.world.now))) (sym (c.as_slice.ensures.value ∙ c.homes.invariant ∙ ap (λ (n : ℕ). contexts_of c.args.threads.now ++ homes_of n) all))
    (All-append (IsLive (g.W.World.seen c.args.world.now)) (contexts_of c.args.threads.now) (homes_of c.args.workers) (live_roots (g.W.World.seen c.args.world.now) c.args.threads.now c.requires.live) c.requires.homes)

pub returns-else-eq : goal.returns-else-eq
returns-else-eq g c = search (rules, reap-reaped, c.requires.uncut, c.if-eq.ensures, c.if-eq.false)
