-- Items that are read are of modes that their call takes_mode.
use Rattle.std.proofs.Common.{◌≡◌, ℕ, true, false, None, Some, List, [], ◌∷◌, refl, ap, subst, ◌∙◌, arith}
use Rattle.std.specs.List.{filter_map, find}
use Rattle.guest_call.specs.Asked.{asked, items_of}
use Rattle.lwc_base.specs.declared.item.Item.{Item}
use Rattle.lwc_base.specs.declared.item.Mode.{Mode}
use Rattle.lwc_base.specs.Modes.{mode, names}
use Rattle.lwc_base.specs.World.{World}
use Rattle.lwc_types.specs.declared.key.Key.{Key}
use Rattle.lwc_types.specs.declared.name.Name.{Name}
use Rattle.res_spec.specs.Items.{Spelled, item_of, items_in, spelled, takes_mode}
use Rattle.res_spec.specs.declared.items.SpecCall.{SpecCall}

item_taken : (call : SpecCall) (s : Spelled) (item : Item) → item_of call s ≡ Some item → takes_mode call item.mode ≡ true
item_taken call s item is = grind arith

-- the first item that names a key
find_taken : (call : SpecCall) (ss : List Spelled) (k : Key) (item : Item) → find (λ item. names item k) (filter_map (item_of call) ss) ≡ Some item →
    takes_mode call item.mode ≡ true
find_taken call [] k item is = absurd cc
find_taken call (s ∷ ss) k item is =
    elim (item_of call s) as (λ o. item_of call s ≡ o → takes_mode call item.mode ≡ true) [
      | None ↦ λ none. find_taken call ss k item (grind arith)
      | Some found ↦ λ some. elim (names found k) as (λ b. names found k ≡ b → takes_mode call item.mode ≡ true) [
        | true ↦ λ yes. let same : found ≡ item = grind arith in item_taken call s item (some ∙ ap Some same)
        | false ↦ λ not. find_taken call ss k item (grind arith)
      ] refl
    ] refl

-- so the mode of a key is one that the call takes_mode
pub mode-taken : (w : World) (c : Name) (call : SpecCall) (at count : ℕ) (k : Key) (m : Mode) → mode (items_of w c call at count) k ≡ Some m → takes_mode call m ≡ true
unfolding items_of items_in mode
mode-taken w c call at count k m is =
    let items = filter_map (item_of call) (spelled (asked w c at count)) in
    elim (find (λ item. names item k) items) as (λ o. find (λ item. names item k) items ≡ o → takes_mode call m ≡ true) [
      | None ↦ λ none. absurd (grind arith)
      | Some item ↦ λ some. let same : item.mode ≡ m = grind arith in
          subst (λ n. takes_mode call n ≡ true) same (find_taken call (spelled (asked w c at count)) k item some)
    ] refl
