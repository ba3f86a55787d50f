use Rattle.std.proofs.Common.{arith}
use Rattle.page_tree.proofs.PageLemmas.{page_short-le, range_short-le}
use Rattle.page_tree.proofs.LinkLemmas.{link_short-le}
use Rattle.table_suite.proofs.trees.try_whole.Goals as goal

pub share_range-requires-clause-free : goal.share_range-requires-clause-free
share_range-requires-clause-free g c =
    omega (arith, range_short-le c.fill.new.store.nodes.all c.empty-copy.result 0 16384, link_short-le c.fill.new.store.nodes.all c.empty-copy.result, c.fill.ensures.room, c.in_ok-store.ensures.free)

pub unshare_path-requires-clause-free : goal.unshare_path-requires-clause-free
unshare_path-requires-clause-free g c =
    omega (arith, range_short-le c.fill.new.store.nodes.all c.empty-copy.result 0 16384, link_short-le c.fill.new.store.nodes.all c.empty-copy.result, c.fill.ensures.room, c.in_ok-store.ensures.free, c.share_range.ensures.free, page_short-le c.share_range.new.store.nodes.all c.share_range.new.self 12513)
