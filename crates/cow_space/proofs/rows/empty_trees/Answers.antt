use Rattle.std.proofs.Common.{◌≡◌, ◌++◌, [], ◌∷◌, replicate, ap, ◌∙◌, arith}
use Rattle.cow_space.proofs.Lists.{replicate_push}
use Rattle.cow_space.proofs.rows.empty_trees.Goals as goal

pub rows-init : goal.rows-init
rows-init c =
    record { items = c.in_ok-trees.ensures.items; long = c.in_ok-trees.ensures.len; room = omega (arith, c.in_ok-trees.ensures.exact) }

pub rows-preserved : goal.rows-preserved
rows-preserved c =
    record {
      items = c.push_reserved.ensures.items ∙ ap (λ t. c.rows.trees.items ++ t ∷ []) c.empty.ensures ∙ ap (λ ts. ts ++ 0 ∷ []) c.rows.invariant.items ∙ replicate_push c.rows.counter 0;
      long = omega arith;
      room = omega arith;
    }

pub returns : goal.returns
returns c =
    let same : c.rows.counter ≡ c.args.rows = omega arith in
    c.rows.invariant.items ∙ ap (λ n. replicate n 0) same
