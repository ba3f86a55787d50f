use Rattle.std.proofs.Common.{arith, rules, ◌≡◌}
use Rattle.std.proofs.lemmas.Fn.{filter_same}
use Rattle.std.specs.FinMap.Entries.{where_key}
use Rattle.lwc_base.specs.World.{is_live}
use Rattle.lwc_types.specs.Names.{name_cmp}
use Rattle.lwc_monitor.proofs.Pairs.{kept, kept-sorted}
use Rattle.lwc_guard.proofs.guards.Guards.keep_live.Goals as goal

pub invariant_of-self : goal.invariant_of-self
invariant_of-self g c =
    let keep = is_live (g.W.World.seen c.args.world.now) in
    let left : c.retain.new.self.items ≡ where_key name_cmp keep c.self.inside.rows.items = filter_same _ (λ e. keep e.0) _ (λ x b f called. search rules) _ _ c.retain.ensures.filtered in
    (rw left (kept-sorted c.self.inside.rows.items c.self.invariant.0 keep), omega (arith, c.self.invariant.1, c.retain.ensures.capacity))

pub returns : goal.returns
returns g c =
    let keep = is_live (g.W.World.seen c.args.world.now) in
    let left : c.retain.new.self.items ≡ where_key name_cmp keep c.self.inside.rows.items = filter_same _ (λ e. keep e.0) _ (λ x b f called. search rules) _ _ c.retain.ensures.filtered in
    rw (← c.self.view_is, left) (kept c.self.inside.rows.items c.self.invariant.0 keep)
