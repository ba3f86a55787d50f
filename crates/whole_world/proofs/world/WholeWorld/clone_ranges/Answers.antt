use Rattle.std.proofs.Common.{◌∙◌, ap, of_calls}
use Rattle.whole_world.specs.Holders.{count_of_ranges, side_after_clone, side_in_clone}
use Rattle.whole_world.specs.Worlds.{seen}
use Rattle.whole_world.proofs.Runs.{ranges-both}
use Rattle.whole_world.proofs.Worlds.{fresh-seen}
use Rattle.whole_world.proofs.world.WholeWorld.clone_ranges.Goals as goal

pub returns : goal.returns
returns c = λ job.
    let after = side_after_clone (seen c.args.self.now) c.args.context c.args.spec.now in
    let made = side_in_clone (seen c.args.self.now) c.args.context c.args.spec.now in
    ranges-both (seen c.args.self.now) c.args.context (fresh-seen c.args.self.now) job c.args.spec.now c.requires.live c.requires.within _ _
    (c.count_ranges.ensures after (λ p h within post. search of_calls) ∙ ap (λ n. count_of_ranges n after) c.page_count-pages.ensures)
    (c.count_ranges-2.ensures made (λ p h within post. search of_calls) ∙ ap (λ n. count_of_ranges n made) c.page_count-pages.ensures)
