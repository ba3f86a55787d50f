use Rattle.std.proofs.Common.{◌∙◌, ap, of_calls, sym}
use Rattle.whole_world.specs.Holders.{count_of_ranges, side_after_map}
use Rattle.whole_world.specs.Worlds.{seen}
use Rattle.whole_world.proofs.Runs.{ranges-mapped}
use Rattle.whole_world.proofs.Worlds.{fresh-seen}
use Rattle.whole_world.proofs.world.WholeWorld.map_ranges.Goals as goal

pub returns : goal.returns
returns c =
    let after = side_after_map (seen c.args.self.now) c.args.context c.args.range.from c.args.range.to c.args.present in
    c.count_ranges.ensures after (λ p h within post. search of_calls) ∙ ap (λ n. count_of_ranges n after) c.page_count.ensures
    ∙ sym (ranges-mapped _ c.args.context (fresh-seen c.args.self.now) c.args.range.from c.args.range.to c.args.present c.requires)
