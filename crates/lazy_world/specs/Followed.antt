-- A world in which a context has got cells and rights by a transfer.
use Rattle.std.specs.Prelude.{◌≡◌, ℕ, List, ⊤, is_some, true}
use Rattle.lwc_base.specs.declared.item.Item.{Item}
use Rattle.lwc_base.specs.World.{World, Context, change_context, context, group}
use Rattle.lwc_types.specs.declared.name.Name.{Name}
use Rattle.lwc_types.specs.declared.key.Key.TheVariants.{Page}
use Rattle.lazy_world.specs.Transfers.{moves, transferred_rights, transferred_row}
use Rattle.lazy_world.specs.declared.transfer.Transfer.{Transfer}
use Rattle.lazy_world.specs.declared.transfer.Transfer.TheVariants.{Mark, Move, Clone, Overlay}

-- the transfer is one for a context that gets cells of another; what is marked is the context itself
abbrev pub IsOfContexts : Transfer → Name → Name → Type 0
IsOfContexts (Mark g) d c = d ≡ c
IsOfContexts Move d c = ⊥
IsOfContexts (Clone g) d c = ⊤
IsOfContexts (Overlay g) d c = ⊤

-- a group has each page that items move out of a context
abbrev pub HasMoved : World → List Item → Context → Name → Type 0
HasMoved w items x g =
    (p : ℕ) → moves items (Page p) x.cell ≡ true → is_some ((group w g).value (Page p)) ≡ true

-- the group that a transfer makes pages common of has what moves
abbrev pub IsReady : World → Transfer → List Item → Context → Type 0
IsReady w (Mark g) items x = HasMoved w items x g
IsReady w Move items x = ⊤
IsReady w (Clone g) items x = HasMoved w items x g
IsReady w (Overlay g) items x = HasMoved w items x g

-- a context that gets cells and rights of another one by a transfer
abbrev pub with_transferred : World → Transfer → List Item → Context → Context → Context
with_transferred w transfer items giver x = record x {
  cell = transferred_row w transfer items giver.cell x.cell;
  right = transferred_rights transfer items giver.cell giver.right x.right;
}

-- a context gets cells and rights of another one by a transfer
abbrev pub followed : World → Transfer → List Item → Name → Name → World
followed w transfer items d c = change_context w c (with_transferred w transfer items (context w d))
