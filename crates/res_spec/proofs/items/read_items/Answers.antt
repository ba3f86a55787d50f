use Rattle.std.proofs.Common.{arith}
use Rattle.res_spec.proofs.ReadItems.{bad_range, items_if, items_only, mode_fault, no_items, overlap, overlap_fault, range_fault}
use Rattle.res_spec.proofs.items.read_items.Goals as goal

pub returns-clause-found : goal.returns-clause-found
returns-clause-found c = items_if c.args.call c.args.pages c.args.bytes.now c.requires.items (λ i. omega (arith, c.type_inv.bytes i)) _ c.test_items.ensures.read

pub returns-clause-only : goal.returns-clause-only
returns-clause-only c = items_only c.args.call c.args.pages c.args.bytes.now c.requires.items (λ i. omega (arith, c.type_inv.bytes i)) _ c.test_items.ensures.read

pub returns-clause-bad_mode : goal.returns-clause-bad_mode
returns-clause-bad_mode c = (
  mode_fault c.args.call c.args.pages c.args.bytes.now c.requires.items (λ i. omega (arith, c.type_inv.bytes i)) _ c.test_items.ensures.read,
  no_items c.args.call c.args.pages c.args.bytes.now c.requires.items (λ i. omega (arith, c.type_inv.bytes i)) _ c.test_items.ensures.read,
)

pub returns-clause-bad_range : goal.returns-clause-bad_range
returns-clause-bad_range c = (
  range_fault c.args.call c.args.pages c.args.bytes.now c.requires.items (λ i. omega (arith, c.type_inv.bytes i)) _ c.test_items.ensures.read,
  bad_range c.args.call c.args.pages c.args.bytes.now c.requires.items (λ i. omega (arith, c.type_inv.bytes i)) _ c.test_items.ensures.read,
)

pub returns-clause-overlap : goal.returns-clause-overlap
returns-clause-overlap c = (
  overlap_fault c.args.call c.args.pages c.args.bytes.now c.requires.items (λ i. omega (arith, c.type_inv.bytes i)) _ c.test_items.ensures.read,
  overlap c.args.call c.args.pages c.args.bytes.now c.requires.items (λ i. omega (arith, c.type_inv.bytes i)) _ c.test_items.ensures.read,
)
