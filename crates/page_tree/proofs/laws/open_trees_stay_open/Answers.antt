use Rattle.page_tree.proofs.OpenLemmas.{edges-later, open-empty, open-later, passed-later}
use Rattle.page_tree.proofs.laws.open_trees_stay_open.Goals as goal

pub returns : goal.returns
returns c = record { empty = open-empty; later = open-later; edges = edges-later; passed = passed-later }
