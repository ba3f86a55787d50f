use Rattle.std.proofs.Common.{◌≡◌, ◌∙◌, inl, inr, arith, ap, sym}
use Rattle.std.specs.Prelude.{slice_get}
use Rattle.std.specs.FinMap as fm
use Rattle.std.proofs.lemmas.Bool.{cases_lt}
use Rattle.lazy_world.proofs.world.PlacedWorld.first_unmarked.Goals as goal

pub loop-k-init : goal.loop-k-init
loop-k-init c = λ n from low g j at found. absurd (omega (arith, from, low))

pub loop-k-preserved : goal.loop-k-preserved
loop-k-preserved c = λ n from low g j at found.
    elim (cases_lt n c.loop-k.k) [
      | inl before ↦ c.loop-k.invariant n from before g j at found
      | inr past ↦
          let same : c.loop-k.k ≡ n = omega (arith, low, past) in
          sym (c.is_marked.ensures g j (ap (slice_get (fm.keys c.args.self.now.groups.map)) same ∙ at) found) ∙ c.if-not-is_marked.false
    ]

pub returns : goal.returns
returns c = λ n from low. c.loop-k.invariant n from (omega (arith, low, c.len.ensures, c.len-k-end.ensures))
