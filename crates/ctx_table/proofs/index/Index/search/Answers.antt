use Rattle.std.proofs.Common.{◌∙◌, rules, sym}
use Rattle.std.specs.FinMap as fm
use Rattle.std.proofs.lemmas.List.Sorted.{answers_always}
use Rattle.lwc_types.specs.Names.{name_cmp}
use Rattle.ctx_table.proofs.Rows.{at_last, past_last, searched}
use Rattle.ctx_table.proofs.index.Index.search.Goals as goal

pub returns : goal.returns
returns c =
    let facts = c.binary_search_by_key.ensures in
    let by_key = facts.position (λ row. row.0) (answers_always _ _ _ (λ f a r g called. search rules)) in
    rw (← c.self.view_is, fm.entries-from_sorted name_cmp c.self.inside.rows.items c.self.invariant, ← c.deref-2.ensures.value)
    (searched _ c.args.name _ (rw c.deref-2.ensures.value c.self.invariant) facts.bound by_key)

pub returns-in-Less-clause-absent : goal.returns-in-Less-clause-absent
returns-in-Less-clause-absent c =
    rw (← c.self.view_is, fm.entries-from_sorted name_cmp c.self.inside.rows.items c.self.invariant, c.len.ensures, ← c.deref.ensures.len, c.deref.ensures.value)
    (past_last _ c.args.name c.in-Some.last.now c.self.invariant (sym (rw c.deref.ensures.value at c.in-Some.ensures.value)) (sym c.cmp.ensures ∙ c.in-Less.is))

pub returns-in-Equal-clause-found : goal.returns-in-Equal-clause-found
returns-in-Equal-clause-found c =
    rw (← c.self.view_is, fm.entries-from_sorted name_cmp c.self.inside.rows.items c.self.invariant, c.len-in-Equal.ensures, ← c.deref.ensures.len, c.deref.ensures.value)
    (at_last _ c.args.name c.in-Some.last.now (sym (rw c.deref.ensures.value at c.in-Some.ensures.value)) (sym c.cmp.ensures ∙ c.in-Equal.is))
