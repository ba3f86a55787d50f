use Rattle.std.proofs.Common.{◌≡◌, ◌≤◌, ℕ, length, take}
use Rattle.lwc_base.specs.Modes.{mode}
use Rattle.lwc_types.specs.declared.key.Key.TheVariants.{Page}
use Rattle.cow_space.specs.Changes.{have_page}
use Rattle.lazy_world.specs.Transfers.{is_read}
use Rattle.lazy_world.proofs.transfer.list_read_pages.Given as goal

abbrev pub invariant-loop-item : goal.invariant-loop-item
invariant-loop-item l = record {
  reads : (q : ℕ) → have_page l.pages.items q ≡ is_read (mode (take l.item-index l.item-items) (Page q));
  few : length l.pages.items ≤ l.item-index;
}
