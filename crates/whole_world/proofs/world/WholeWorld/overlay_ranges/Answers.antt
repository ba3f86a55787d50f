use Rattle.std.proofs.Common.{◌≡◌, ◌≢◌, ◌∙◌, ap, of_calls, rules, sym}
use Rattle.whole_world.specs.Holders.{count_of_ranges, side_after_clone, side_after_overlay}
use Rattle.whole_world.specs.Worlds.{seen}
use Rattle.whole_world.proofs.Overlaid.{names_differ, ranges-differ, ranges-same}
use Rattle.whole_world.proofs.Worlds.{fresh-seen}
use Rattle.whole_world.proofs.world.WholeWorld.overlay_ranges.Goals as goal

pub returns-then-eq : goal.returns-then-eq
returns-then-eq c = λ job.
    let after = side_after_overlay (seen c.args.self.now) c.args.to c.args.from c.args.spec.now in
    let same : c.args.to ≡ c.args.from = search rules in
    ranges-same (seen c.args.self.now) c.args.to c.args.from (fresh-seen c.args.self.now) job c.args.spec.now c.requires.to c.requires.from c.requires.within _ same
    (c.count_ranges-taken.ensures after (λ p h within post. search of_calls) ∙ ap (λ n. count_of_ranges n after) c.page_count-pages.ensures)

pub returns : goal.returns
returns c = λ job.
    let after = side_after_overlay (seen c.args.self.now) c.args.to c.args.from c.args.spec.now in
    let left = side_after_clone (seen c.args.self.now) c.args.from c.args.spec.now in
    let differ : c.args.to ≢ c.args.from = names_differ c.args.to c.args.from (sym c.eq.ensures ∙ c.if-eq.false) in
    ranges-differ (seen c.args.self.now) c.args.to c.args.from (fresh-seen c.args.self.now) job c.args.spec.now c.requires.to c.requires.from c.requires.within _ _ differ
    (c.count_ranges-left.ensures left (λ p h within post. search of_calls) ∙ ap (λ n. count_of_ranges n left) c.page_count-pages.ensures)
    (c.count_ranges-taken.ensures after (λ p h within post. search of_calls) ∙ ap (λ n. count_of_ranges n after) c.page_count-pages.ensures)
