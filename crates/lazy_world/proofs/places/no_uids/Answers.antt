use Rattle.std.proofs.Common.{◌≡◌, ◌++◌, [], ◌∷◌, replicate, ap, ◌∙◌, arith}
use Rattle.lwc_base.specs.declared.cell.Cell.TheVariants.{Own}
use Rattle.lwc_types.specs.declared.key.TheConstants.{NOBODY}
use Rattle.lazy_world.proofs.PlaceLemmas.{replicate_push}
use Rattle.lazy_world.proofs.places.no_uids.Goals as goal

pub places-init : goal.places-init
places-init c =
    record { items = c.in_ok-uids.ensures.items; long = c.in_ok-uids.ensures.len; room = omega (arith, c.in_ok-uids.ensures.exact) }

pub places-preserved : goal.places-preserved
places-preserved c =
    record {
      items = c.push_reserved.ensures.items ∙ ap (λ us. us ++ Own NOBODY ∷ []) c.places.invariant.items ∙ replicate_push c.places.counter (Own NOBODY);
      long = omega arith;
      room = omega arith;
    }

pub returns : goal.returns
returns c =
    let same : c.places.counter ≡ c.args.places = omega arith in
    c.places.invariant.items ∙ ap (λ n. replicate n (Own NOBODY)) same
