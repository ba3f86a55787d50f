use Rattle.std.proofs.Common.{rules, refl, sym, ◌∙◌, [], ◌++◌}
use Rattle.fd_table.proofs.ObjectLemmas.{more-none}
use Rattle.fd_table.proofs.ChunkLemmas.{chunk-held, chunk-fits, chunk-done, more-chunk, more-unnamed}
use Rattle.fd_table.proofs.objects.Objects.hold_all.Goals as goal

pub loop-chunk-init : goal.loop-chunk-init
loop-chunk-init c = (search rules, tt, search rules, refl, ([], more-none _, search rules))

pub hold_each-requires-clause-held : goal.hold_each-requires-clause-held
hold_each-requires-clause-held c =
    let before = c.loop-chunk.invariant.4 in
    chunk-held _ _ before.0 _ _ _ _ before.1 before.2 (c.in-Some.ensures.steps.1.0) c.requires.held

pub hold_each-requires-clause-fits : goal.hold_each-requires-clause-fits
hold_each-requires-clause-fits c =
    let before = c.loop-chunk.invariant.4 in
    chunk-fits _ _ before.0 _ _ _ _ _ before.1 before.2 (c.in-Some.ensures.steps.1.0) c.requires.fits

pub loop-chunk-preserved-then-names_any : goal.loop-chunk-preserved-then-names_any
loop-chunk-preserved-then-names_any c =
    let before = c.loop-chunk.invariant.4 in
    let steps = c.in-Some.ensures.steps in (
      search rules,
      tt,
      steps.0 ∙ c.loop-chunk.invariant.2,
      c.hold_each.ensures.places ∙ c.loop-chunk.invariant.3,
      (
        before.0 ++ c.in-Some.chunk.now,
        more-chunk _ _ _ before.0 _ before.1 c.hold_each.ensures.pool,
        chunk-done before.0 _ _ _ _ before.2 steps.1.0,
      ),
    )

pub loop-chunk-preserved : goal.loop-chunk-preserved
loop-chunk-preserved c =
    let before = c.loop-chunk.invariant.4 in
    let steps = c.in-Some.ensures.steps in (
      search rules,
      tt,
      steps.0 ∙ c.loop-chunk.invariant.2,
      c.loop-chunk.invariant.3,
      (
        before.0 ++ c.in-Some.chunk.now,
        more-chunk _ _ _ before.0 _ before.1 (more-unnamed _ _ (sym c.names_any.ensures ∙ c.if-names_any.false)),
        chunk-done before.0 _ _ _ _ before.2 steps.1.0,
      ),
    )
