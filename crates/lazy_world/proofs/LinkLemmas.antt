-- What slots of the contexts at places link to.
use Rattle.std.proofs.Common.{◌≡◌, ℕ, ◌∙◌, ap, get_or, sym, false, Some, None, Option}
use Rattle.std.specs.Prelude.{IfNone, IfSome, not}
use Rattle.fd_table.specs.Slots.{is_filled}
use Rattle.lwc_base.specs.Cells.{slot_at, value_at, value_of}
use Rattle.lwc_base.specs.World.{Context}
use Rattle.lwc_types.specs.declared.key.Key.TheVariants.{Slot}
use Rattle.lwc_types.specs.declared.name.Name.{Name}
use Rattle.ctx_table.specs.NameTables.{ArePlaced}
use Rattle.lazy_world.specs.declared.world.PlacedWorld.{PlacedWorld}
use Rattle.lazy_world.specs.Reaping.{link_from, link_of, place_in}
use Rattle.lazy_world.specs.Seen.{rows}
use Rattle.lazy_world.specs.Worlds.{parts, seen}
use Rattle.lazy_world.proofs.AddLemmas.{no_slot}
use Rattle.lazy_world.proofs.WorldLemmas.{context-found}

-- the descriptor in a slot of the context that is at a place
pub slot_of : (w : PlacedWorld) (c : Name) (i n : ℕ) → ArePlaced w.contexts → get_or w.contexts.places i None ≡ Some c →
    value_of (seen w) (Slot n) (rows w.places i (Slot n)) ≡ slot_at (seen w) c n
unfolding seen parts value_at
slot_of w c i n placed at = ap (λ (x : Context). value_of (seen w) (Slot n) (x.cell (Slot n))) (sym (context-found (parts w) c i ((placed.at c i).1 at)))

-- a slot that is not filled links to no place
pub unlinked : (w : PlacedWorld) (c : Name) (i n : ℕ) → ArePlaced w.contexts → get_or w.contexts.places i None ≡ Some c → is_filled (rows w.places i (Slot n)) ≡ false →
    link_of w i n ≡ None
unfolding link_of
unlinked w c i n placed at off =
    ap (link_from w n) at
    ∙ ap (place_in w.contexts.map)
    (sym (slot_of w c i n placed at) ∙ ap (value_of (seen w) (Slot n)) (no_slot (rows w.places i (Slot n)) n (ap not off)))

-- no slot of a place without a context links to one
pub unlinked-free : (w : PlacedWorld) (i n : ℕ) → get_or w.contexts.places i None ≡ None → link_of w i n ≡ None
unfolding link_of
unlinked-free w i n free = ap (link_from w n) free

pub if_none : {X P Q : Type 0} (o : Option X) → (P → Q) → IfNone o P → IfNone o Q
if_none None f p = f p
if_none (Some x) f p = p

pub if_some : {X : Type 0} {P Q : X → Type 0} (o : Option X) → ((x : X) → P x → Q x) → IfSome o P → IfSome o Q
if_some None f p = p
if_some (Some x) f p = f x p

pub none_of : {X Q : Type 0} (o : Option X) → Q → IfNone o Q
none_of None q = q
none_of (Some x) q = tt
