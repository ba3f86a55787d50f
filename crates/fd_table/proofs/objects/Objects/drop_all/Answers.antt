use Rattle.std.proofs.Common.{rules, refl, sym, ◌∙◌, [], ◌++◌}
use Rattle.fd_table.proofs.ObjectLemmas.{less-none}
use Rattle.fd_table.proofs.ChunkLemmas.{chunk-may, chunk-done, less-chunk, less-unnamed}
use Rattle.fd_table.proofs.objects.Objects.drop_all.Goals as goal

pub loop-chunk-init : goal.loop-chunk-init
loop-chunk-init c = (search rules, tt, search rules, refl, ([], less-none _, search rules))

pub drop_each-requires : goal.drop_each-requires
drop_each-requires c =
    let before = c.loop-chunk.invariant.4 in
    chunk-may _ _ before.0 _ _ _ _ before.1 before.2 (c.in-Some.ensures.steps.1.0) c.requires

pub loop-chunk-preserved-then-names_any : goal.loop-chunk-preserved-then-names_any
loop-chunk-preserved-then-names_any c =
    let before = c.loop-chunk.invariant.4 in
    let steps = c.in-Some.ensures.steps in (
      search rules,
      tt,
      steps.0 ∙ c.loop-chunk.invariant.2,
      c.drop_each.ensures.places ∙ c.loop-chunk.invariant.3,
      (
        before.0 ++ c.in-Some.chunk.now,
        less-chunk _ _ _ before.0 _ before.1 c.drop_each.ensures.pool,
        chunk-done before.0 _ _ _ _ before.2 steps.1.0,
      ),
    )

pub loop-chunk-preserved : goal.loop-chunk-preserved
loop-chunk-preserved c =
    let before = c.loop-chunk.invariant.4 in
    let steps = c.in-Some.ensures.steps in (
      search rules,
      tt,
      steps.0 ∙ c.loop-chunk.invariant.2,
      c.loop-chunk.invariant.3,
      (
        before.0 ++ c.in-Some.chunk.now,
        less-chunk _ _ _ before.0 _ before.1 (less-unnamed _ _ (sym c.names_any.ensures ∙ c.if-names_any.false)),
        chunk-done before.0 _ _ _ _ before.2 steps.1.0,
      ),
    )
