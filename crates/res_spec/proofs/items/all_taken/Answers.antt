use Rattle.std.proofs.Common.{◌∙◌, ◌*◌, ◌/◌, arith, length, refl, rules, tests}
use Rattle.std.specs.Prelude.{is_some}
use Rattle.std.proofs.lemmas.Iterator.{YieldsList-from_range}
use Rattle.std.proofs.lemmas.Iterator.Search.{all_from_yields_List}
use Rattle.res_spec.specs.Items.{item_of, spelled_at}
use Rattle.res_spec.specs.declared.items.TheConstants.{ITEM_BYTES}
use Rattle.res_spec.proofs.SpelledItems.{all_taken_by_place}
use Rattle.res_spec.proofs.items.all_taken.Goals as goal

pub returns : goal.returns
returns c =
    all_from_yields_List (λ i. is_some (item_of c.args.call (spelled_at c.args.bytes.now (i * ITEM_BYTES)))) _ _ _ c.all.ensures.ran
    (YieldsList-from_range 0 (length c.args.bytes.now / ITEM_BYTES) (length c.args.bytes.now / ITEM_BYTES) refl (omega arith)) (λ x b q k. search (rules, tests))
    ∙ all_taken_by_place c.args.call c.args.bytes.now
