use Rattle.request_isolation.proofs.Refuted.{changed, one_more}
use Rattle.request_isolation.proofs.laws.kept_homes_are_those_of_the_start.Goals as goal

pub returns : goal.returns
returns c = record {
  one_more = λ inputs m d x nobody dead keeps. one_more inputs m d x nobody keeps dead;
  changed = λ inputs m d x y nobody was other keeps. changed inputs m d x nobody keeps y was other;
}
