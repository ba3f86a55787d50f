-- What a page is to get by a transfer.
use Rattle.std.proofs.Common.{◌≡◌, ℕ, List, Option}
use Rattle.std.specs.Option.{option_map}
use Rattle.lwc_base.specs.declared.item.Item.{Item}
use Rattle.lwc_base.specs.Modes.{mode}
use Rattle.lwc_types.specs.declared.key.Key.TheVariants.{Page}
use Rattle.lazy_world.specs.declared.transfer.Transfer.{Transfer}
use Rattle.lazy_world.specs.declared.world.PlacedWorld.{PlacedWorld}
use Rattle.lazy_world.specs.Origins.{Gift, gift_right, shown_right}
use Rattle.lazy_world.specs.Seen.{rights, rows}
use Rattle.lazy_world.specs.Transfers.{given_or, reads}
use Rattle.lazy_world.specs.Worlds.{right_transferred, transferred}

-- a gift gives a page of the place `to` the cell and the right that it is to get
pub record fits (w : PlacedWorld) (transfer : Transfer) (items : List Item) (from to q : ℕ) (gift : Option Gift) : Type 0 where
  pub cell : given_or (rows w.places) (Page q) (rows w.places to (Page q)) (option_map (λ g. g.0) gift) ≡ transferred w transfer items from to (Page q)
  pub right : shown_right (transferred w transfer items from to (Page q)) (reads transfer (mode items (Page q))) (gift_right (rights w.places) q (rights w.places to q) gift)
      ≡ right_transferred w transfer items from to q
