use Rattle.std.proofs.Common.{◌≡◌, true, false, arith}
use Rattle.res_spec.specs.Items.{all_within, has_overlap}
use Rattle.std.proofs.lemmas.Grind.{common_steps}
use Rattle.res_spec.proofs.ValidItems.{more_pages, passed_items}
use Rattle.res_spec.proofs.items.test_items.Goals as goal

pub spec_of-requires-clause-valid : goal.spec_of-requires-clause-valid
spec_of-requires-clause-valid c =
    let within : all_within c.args.pages c.as_slice-items.result.now ≡ true = grind (arith, common_steps) in
    let apart : has_overlap c.as_slice-items.result.now ≡ false = grind (arith, common_steps) in
    more_pages c.args.pages _ _ c.requires.pages (passed_items c.args.pages c.as_slice-items.result.now (omega arith) within apart)

pub returns-clause-valid : goal.returns-clause-valid
returns-clause-valid c =
    let within : all_within c.args.pages c.as_slice-items.result.now ≡ true = grind (arith, common_steps) in
    let apart : has_overlap c.as_slice-items.result.now ≡ false = grind (arith, common_steps) in
    rw c.spec_of.ensures (passed_items c.args.pages c.as_slice-items.result.now (omega arith) within apart)
