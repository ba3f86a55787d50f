use Rattle.std.proofs.Common.{◌∙◌, List, ap, arith, length, ltb, rules, sym, ℕ}
use Rattle.std.proofs.lemmas.List.Sorted.{IsPartitionPoint-from_clause, IsPartitionedBy-ltb}
use Rattle.std.specs.FinMap as fm
use Rattle.lwc_types.specs.declared.name.Name.{Name}
use Rattle.lwc_types.specs.Names.{name_cmp}
use Rattle.ctx_table.proofs.Rows.{all_below, counted_below, jobs_rise, none_below}
use Rattle.ctx_table.proofs.index.Index.count_below.Goals as goal

pub returns-then-job-from : goal.returns-then-job-from
returns-then-job-from c =
    rw (← c.self.view_is, fm.entries-from_sorted name_cmp c.self.inside.rows.items c.self.invariant)
    (none_below _ c.self.invariant c.args.job c.in-Some.first.now (sym (rw c.deref.ensures.value at c.in-Some.ensures.value)) (omega (arith, c.if-job-from.true, c.from.ensures)))

pub returns-then-from-job : goal.returns-then-from-job
returns-then-from-job c =
    rw (← c.self.view_is, fm.entries-from_sorted name_cmp c.self.inside.rows.items c.self.invariant)
    (c.len.ensures ∙ sym c.deref-2.ensures.len ∙ ap (λ (l : List (Name × ℕ)). length l) c.deref-2.ensures.value
    ∙ all_below _ c.self.invariant c.args.job c.in-Some-last.last.now (sym (rw c.deref-2.ensures.value at c.in-Some-last.ensures.value))
    (omega (arith, c.if-from-job.true, c.from-in-Some-last.ensures)))

pub returns : goal.returns
returns c =
    rw (← c.self.view_is, fm.entries-from_sorted name_cmp c.self.inside.rows.items c.self.invariant)
    (counted_below _ c.self.invariant c.args.job _ (rw c.deref-3.ensures.value at c.partition_point.ensures.bound)
    (IsPartitionPoint-from_clause (λ row. ltb row.0.job c.args.job) _ _ (rw c.deref-3.ensures.value at c.partition_point.ensures.partitioned)
    (IsPartitionedBy-ltb (λ row. row.0.job) _ c.args.job (jobs_rise _ c.self.invariant)) (λ a r q k. search rules)))
