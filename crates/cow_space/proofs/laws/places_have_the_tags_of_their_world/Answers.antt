use Rattle.cow_space.proofs.WorldTags.{context-tags, group-tags, world-parting, world-used}
use Rattle.cow_space.proofs.laws.places_have_the_tags_of_their_world.Goals as goal

pub returns : goal.returns
returns c =
    record {
      context = context-tags;
      group = group-tags;
      used = world-used;
      parting = world-parting;
    }
