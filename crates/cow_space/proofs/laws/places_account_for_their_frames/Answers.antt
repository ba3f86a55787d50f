use Rattle.std.proofs.Common.{ℕ, Option, ap, ◌∙◌, sym}
use Rattle.range_map.specs.declared.segment.SegmentKind.{SegmentKind}
use Rattle.cow_space.specs.Seen.{HoldsNoNode}
use Rattle.cow_space.proofs.FreeLemmas.{cells-free}
use Rattle.cow_space.proofs.Views.{place-kinds}
use Rattle.cow_space.proofs.laws.places_account_for_their_frames.Goals as goal

pub returns : goal.returns
unfolding HoldsNoNode
returns c = record { frames = cells-free; bare = λ w i none. w.bare i (λ p own. none p (ap (λ (f : ℕ → Option SegmentKind). f p) (sym (place-kinds w i)) ∙ own)) }
