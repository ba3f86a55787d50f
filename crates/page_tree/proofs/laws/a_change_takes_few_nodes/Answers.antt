use Rattle.std.proofs.Common.{refl}
use Rattle.page_tree.proofs.LinkLemmas.{link_short-le}
use Rattle.page_tree.proofs.PageLemmas.{clear_short-le, page_short-le, range_short-le}
use Rattle.page_tree.proofs.TreeLemmas.{page-none}
use Rattle.page_tree.proofs.laws.a_change_takes_few_nodes.Goals as goal

pub returns : goal.returns
returns c =
    record {
      pages = refl;
      empty = page-none;
      page_takes = page_short-le;
      range_takes = range_short-le;
      root_takes = link_short-le;
      clear_takes = clear_short-le;
    }
