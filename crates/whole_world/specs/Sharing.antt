-- A sharing, and a clone, key by key.
use Rattle.std.specs.Prelude.{ℕ, ◌&&◌, if◌then◌else◌, Bool, List, nat_lt, unwrap_or}
use Rattle.lwc_base.specs.declared.cell.Cell.{Cell}
use Rattle.lwc_base.specs.declared.item.Item.{Item}
use Rattle.lwc_base.specs.declared.item.Mode.{Mode}
use Rattle.lwc_base.specs.Keys.{ValueOf}
use Rattle.lwc_base.specs.Modes.{kind_of, mode, mode_or_copy, number_of, same_kind}
use Rattle.lwc_base.specs.Sharing.{cloned_cell, cloned_right, is_moved, moved_value, share, shared_cell}
use Rattle.lwc_base.specs.World.{World, Context, Group}
use Rattle.lwc_types.specs.declared.key.Key.{Key}
use Rattle.lwc_types.specs.declared.key.Key.TheVariants as key
use Rattle.lwc_types.specs.declared.key.Kind.{Kind}
use Rattle.lwc_types.specs.declared.key.Kind.TheVariants as kind
use Rattle.lwc_types.specs.declared.name.Name.{Name}
use Rattle.lwc_types.specs.declared.right.Right.{Right}

-- the key of a kind that has a number
abbrev pub key_of : Kind → ℕ → Key
key_of kind.Page n = key.Page n
key_of kind.Slot n = key.Slot n
key_of kind.Cred n = key.Cred

-- whether a key is of a kind, with a number below this one
abbrev pub is_below : Kind → ℕ → Key → Bool
is_below kind n k = same_kind kind (kind_of k) && nat_lt (number_of k) n

-- the context with other cells under the keys that pass a test
abbrev pub with_cells : (Key → Bool) → ((k : Key) → Cell (ValueOf k)) → Context → Context
with_cells done cells x = record x { cell = λ k. if done k then cells k else x.cell k }

-- the cells that a clone gets, or an overlay: by the mode of the item that names the key, and by a mode where
-- none does
abbrev pub clone_cells : World → Name → ℕ → List Item → Mode → (k : Key) → Cell (ValueOf k)
clone_cells w c job items rest k = cloned_cell (share w c job items) c k (unwrap_or (mode items k) rest)

-- the rights that it gets, by the same rule
abbrev pub clone_rights : World → Name → ℕ → List Item → Mode → ℕ → Right
clone_rights w c job items rest p =
    cloned_right (share w c job items) c p (unwrap_or (mode items (key.Page p)) rest)

-- the context with other rights of the pages below a number
abbrev pub with_rights : ℕ → (ℕ → Right) → Context → Context
with_rights n rights x = record x { right = λ p. if nat_lt p n then rights p else x.right p }

-- the context with the cells of another one under the keys that pass a test, and the rights of these pages
abbrev pub with_taken : (Key → Bool) → Context → Context → Context
with_taken test y x = record x {
  cell = λ k. if test k then y.cell k else x.cell k;
  right = λ p. if test (key.Page p) then y.right p else x.right p;
}

-- a context that has given a group what moves under the keys that pass a test
abbrev pub gave : (Key → Bool) → Name → List Item → Context → Context
gave done g items x = with_cells done (λ k. shared_cell g (mode_or_copy items k) k (x.cell k)) x

-- a group that has taken it
abbrev pub took : (Key → Bool) → List Item → Context → Group → Group
took done items x h = record {
  value = λ k.
      let mode = mode_or_copy items k in
      if done k then (if is_moved mode k (x.cell k) then moved_value mode k (x.cell k) else h.value k) else h.value k;
}
