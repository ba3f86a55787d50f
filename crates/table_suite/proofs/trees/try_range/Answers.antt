use Rattle.std.proofs.Common.{arith}
use Rattle.page_tree.proofs.PageLemmas.{clear_short-all, clear_short-le, range_short-le}
use Rattle.page_tree.proofs.LinkLemmas.{link_short-le}
use Rattle.table_suite.proofs.trees.try_range.Goals as goal

pub share_range-requires-clause-free : goal.share_range-requires-clause-free
share_range-requires-clause-free g c =
    omega (arith, range_short-le c.args.store.now.nodes.all c.empty-copy.result c.args.range.from c.args.range.to, link_short-le c.args.store.now.nodes.all c.empty-copy.result, c.requires.room)

pub clear_range-requires-clause-free : goal.clear_range-requires-clause-free
clear_range-requires-clause-free g c =
    omega (arith, c.requires.room, c.share_range.ensures.free, c.share_range-2.ensures.free, range_short-le c.args.store.now.nodes.all c.empty-copy.result c.args.range.from c.args.range.to, link_short-le c.args.store.now.nodes.all c.empty-copy.result, range_short-le c.share_range.new.store.nodes.all c.share_range.new.self 0 16384, link_short-le c.share_range.new.store.nodes.all c.share_range.new.self, clear_short-le c.share_range-2.new.store.nodes.all c.share_range-2.new.self c.args.range.from c.args.range.to, link_short-le c.share_range-2.new.store.nodes.all c.share_range-2.new.self)

pub returns-clause-room : goal.returns-clause-room
returns-clause-room g c =
    omega (arith, c.share_range.ensures.free, c.share_range-2.ensures.free, c.clear_range.ensures.free, c.clear_range-2.ensures.free, range_short-le c.args.store.now.nodes.all c.empty-copy.result c.args.range.from c.args.range.to, link_short-le c.args.store.now.nodes.all c.empty-copy.result, range_short-le c.share_range.new.store.nodes.all c.share_range.new.self 0 16384, link_short-le c.share_range.new.store.nodes.all c.share_range.new.self, clear_short-le c.share_range-2.new.store.nodes.all c.share_range-2.new.self c.args.range.from c.args.range.to, link_short-le c.share_range-2.new.store.nodes.all c.share_range-2.new.self, clear_short-all c.clear_range.new.store.nodes.all c.clear_range.new.self)

pub share_range-requires-2-clause-free : goal.share_range-requires-2-clause-free
share_range-requires-2-clause-free g c =
    omega (arith, c.requires.room, c.share_range.ensures.free, range_short-le c.args.store.now.nodes.all c.empty-copy.result c.args.range.from c.args.range.to, link_short-le c.args.store.now.nodes.all c.empty-copy.result, range_short-le c.share_range.new.store.nodes.all c.share_range.new.self 0 16384, link_short-le c.share_range.new.store.nodes.all c.share_range.new.self)
