use Rattle.std.proofs.Common.{◌≡◌, ◌∙◌, ◌++◌, arith, subst, sym}
use Rattle.guest_call.proofs.NotRefused.{no_items, no_items_pass}
use Rattle.guest_call.proofs.asking.items_for.Goals as goal
use Rattle.guest_call.specs.Asked.{item_refusals, items_of}
use Rattle.lwc_base.specs.Refusals.{first_refusal}

pub returns-then-count-eq0-clause-passed : goal.returns-then-count-eq0-clause-passed
returns-then-count-eq0-clause-passed g c rows =
    subst (λ count. first_refusal (item_refusals (g.W.World.seen c.args.world.now) c.args.context c.args.call c.args.at count ++ rows) ≡ first_refusal rows)
    (omega (arith, c.if-count-eq0.true)) (no_items_pass (g.W.World.seen c.args.world.now) c.args.context c.args.call c.args.at rows)

pub returns-then-count-eq0-clause-items : goal.returns-then-count-eq0-clause-items
returns-then-count-eq0-clause-items g c =
    subst (λ count. c.args.items.now ≡ items_of (g.W.World.seen c.args.world.now) c.args.context c.args.call c.args.at count)
    (omega (arith, c.if-count-eq0.true)) (c.requires.none ∙ sym (no_items (g.W.World.seen c.args.world.now) c.args.context c.args.call c.args.at))
