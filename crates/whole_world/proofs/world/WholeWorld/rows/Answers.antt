use Rattle.std.proofs.Common.{◌∙◌, ap, arith, length}
use Rattle.whole_world.specs.Tags.{tags_of_rows}
use Rattle.whole_world.proofs.SeenTags.{few_tags, tags-seen}
use Rattle.whole_world.proofs.world.WholeWorld.rows.Goals as goal

pub returns-clause-tags : goal.returns-clause-tags
returns-clause-tags c = (λ i. tags_of_rows (c.as_slice.ensures.value i) (c.as_slice-2.ensures.value i)) ∙ tags-seen c.args.self.now

pub returns-clause-few : goal.returns-clause-few
returns-clause-few c = omega (arith, few_tags c.args.self.now, ap length (λ i. tags_of_rows (c.as_slice.ensures.value i) (c.as_slice-2.ensures.value i)))
