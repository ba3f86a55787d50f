use Rattle.std.proofs.Common.{leb, leb-true, leb-false, arith, rules}
use Rattle.std.proofs.lemmas.List.Sorted.{IsPartitionPoint-from_clause, IsPartitionedBy-leb}
use Rattle.range_map.proofs.Halved.{ends_rise}
use Rattle.range_map.proofs.runs.ended_by_halving.Goals as goal

pub returns-clause-before : goal.returns-clause-before
returns-clause-before c =
    let parted = IsPartitionedBy-leb (λ s. s.to) _ c.args.page (ends_rise _ c.requires) in
    let point = IsPartitionPoint-from_clause (λ s. leb s.to c.args.page) _ _ c.partition_point.ensures.partitioned parted (λ a r q k. search rules) in
    λ k d early. leb-true _ _ (point.0 k d (omega arith) early)

pub returns-clause-after : goal.returns-clause-after
returns-clause-after c =
    let parted = IsPartitionedBy-leb (λ s. s.to) _ c.args.page (ends_rise _ c.requires) in
    let point = IsPartitionPoint-from_clause (λ s. leb s.to c.args.page) _ _ c.partition_point.ensures.partitioned parted (λ a r q k. search rules) in
    λ d inside. leb-false _ _ (point.1 c.partition_point.result d (omega arith) inside)
