-- The mode of a key by items, as one more of them is looked at.
use Rattle.std.proofs.Common.{◌≡◌, ◌≢◌, ℕ, ◌+◌, ◌<◌, ◌++◌, ◌∙◌, Bool, true, false, cond, List, [], ◌∷◌, suc, arith, drop, get_or, length, take, refl, sym, ap, Option, Some, None}
use Rattle.std.specs.Prelude.{◌&&◌, nat_le, nat_lt, All}
use Rattle.std.specs.List.{find}
use Rattle.std.specs.Option.{option_map, option_or}
use Rattle.std.proofs.lemmas.Bool.Decides.{nat_tests}
use Rattle.std.proofs.lemmas.List.{get_or-take, get_or_default, length-take, take-append-drop, take_more}
use Rattle.std.proofs.lemmas.List.Folds.{find-append}
use Rattle.lwc_base.specs.declared.item.Item.{Item}
use Rattle.lwc_base.specs.declared.item.Mode.{Mode}
use Rattle.lwc_base.specs.declared.item.Mode.TheVariants.{Share}
use Rattle.lwc_base.specs.Modes.{IsSpec, mode, names, overlaps, same_kind}
use Rattle.lwc_types.specs.declared.key.Key.{Key}
use Rattle.lwc_types.specs.declared.key.Key.TheVariants.{Page, Slot}
use Rattle.lwc_types.specs.declared.key.Kind.{Kind}
use Rattle.lwc_types.specs.declared.key.Kind.TheVariants as kinds
use Rattle.range_map.proofs.Built.{or_none}

pub find_none : {X : Type 0} (f : X → Bool) (xs : List X) → All (λ x. f x ≡ false) xs → find f xs ≡ None
find_none f [] none = refl
find_none f (x ∷ xs) none =
    ap (λ b. cond b (Some x) (find f xs)) (none 0 x (omega arith)) ∙ find_none f xs (λ k d inside. none (suc k) d (omega arith))

mode_append : (xs ys : List Item) (k : Key) → mode (xs ++ ys) k ≡ option_or (mode xs k) (mode ys k)
unfolding mode
mode_append xs ys k = ap (option_map (λ (x : Item). x.mode)) (find-append (λ x. names x k) xs ys) ∙ at (find (λ x. names x k) xs) (find (λ x. names x k) ys)
  where
    at : (a b : Option Item) → option_map (λ (x : Item). x.mode) (option_or a b) ≡ option_or (option_map (λ x. x.mode) a) (option_map (λ x. x.mode) b)
    at None b = refl
    at (Some x) b = refl

-- two items that name one page have a key in common
both_name : (a b : Kind) (from to first end q : ℕ) → (same_kind a kinds.Page && nat_le from q && nat_lt q to) ≡ true → (same_kind b kinds.Page && nat_le first q && nat_lt q end) ≡ true →
    (same_kind a b && nat_lt from end && nat_lt first to) ≡ false → ⊥
both_name kinds.Page kinds.Page from to first end q here there apart = grind (arith, nat_tests)
both_name kinds.Slot b from to first end q here there apart = cc
both_name kinds.Cred b from to first end q here there apart = cc
both_name kinds.Page kinds.Slot from to first end q here there apart = cc
both_name kinds.Page kinds.Cred from to first end q here there apart = cc

-- one more item decides for the keys that no item before it names
pub mode_one_more : (items : List Item) (i : ℕ) (d : Item) → i < length items → (k : Key) →
    mode (take (i + 1) items) k ≡ option_or (mode (take i items) k) (cond (names (get_or items i d) k) (Some (get_or items i d).mode) None)
unfolding mode
mode_one_more items i d inside k =
    ap (λ xs. option_map (λ (x : Item). x.mode) (find (λ x. names x k) xs)) (take_more items i d inside)
    ∙ ap (option_map (λ (x : Item). x.mode)) (find-append (λ x. names x k) (take i items) (get_or items i d ∷ []))
    ∙ at (find (λ x. names x k) (take i items)) (names (get_or items i d) k)
  where
    at : (o : Option Item) (b : Bool) →
        option_map (λ (x : Item). x.mode) (option_or o (cond b (Some (get_or items i d)) None)) ≡ option_or (option_map (λ x. x.mode) o) (cond b (Some (get_or items i d).mode) None)
    at None true = refl
    at None false = refl
    at (Some x) b = refl

module _ (items : List Item) (pages : ℕ) (spec : IsSpec pages items) (i : ℕ) (d : Item) (inside : i < length items) (q : ℕ) where
  abbrev item : Item
  item = get_or items i d

  off_page : (x : Item) (b : Bool) → names x (Page q) ≡ b → names item (Page q) ≡ true → overlaps x item ≡ false → names x (Page q) ≡ false
  off_page x true there here apart = absurd (both_name x.kind item.kind x.from x.to item.from item.to q there here apart)
  off_page x false there here apart = there

  -- of the items before one that names a page none names it
  pub none_before : names item (Page q) ≡ true → mode (take i items) (Page q) ≡ None
  unfolding mode
  none_before here =
      ap (option_map (λ (x : Item). x.mode))
      (find_none (λ x. names x (Page q)) (take i items)
      (λ j e below.
      let low : j < i = (let len = length-take i items in omega (arith, below, len)) in
      let x = get_or items j e in
      let apart : overlaps x item ≡ false = ap (overlaps x) (get_or_default items i d e inside) ∙ spec.apart j i e low inside in
      ap (λ (y : Item). names y (Page q)) (get_or-take i items j e low) ∙ off_page x (names x (Page q)) refl here apart))

  mode_more : mode (take (i + 1) items) (Page q) ≡ option_or (mode (take i items) (Page q)) (cond (names item (Page q)) (Some item.mode) None)
  mode_more = mode_one_more items i d inside (Page q)

  pub mode_named : names item (Page q) ≡ true → mode (take (i + 1) items) (Page q) ≡ Some item.mode
  mode_named here = mode_more ∙ (λ x. option_or (none_before here x) (cond (here x) (Some item.mode) None))

  pub mode_other : names item (Page q) ≡ false → mode (take (i + 1) items) (Page q) ≡ mode (take i items) (Page q)
  mode_other off = mode_more ∙ ap (λ b. option_or (mode (take i items) (Page q)) (cond b (Some item.mode) None)) off ∙ or_none (mode (take i items) (Page q))

  -- the item that names a page gives it its mode
  pub mode_here : names item (Page q) ≡ true → mode items (Page q) ≡ Some item.mode
  mode_here here =
      ap (λ xs. mode xs (Page q)) (sym (take-append-drop (i + 1) items))
      ∙ mode_append (take (i + 1) items) (drop (i + 1) items) (Page q)
      ∙ ap (λ o. option_or o (mode (drop (i + 1) items) (Page q))) (mode_named here)

module _ (items : List Item) (i : ℕ) (d : Item) (inside : i < length items) where
  abbrev one : Item
  one = get_or items i d

  -- an item that does not share leaves nothing shared
  pub still_unshared : (k : Key) → one.mode ≢ Share → mode (take i items) k ≢ Some Share → mode (take (i + 1) items) k ≢ Some Share
  still_unshared k other none is = at (mode (take i items) k) (names one k) none (sym (mode_one_more items i d inside k) ∙ is)
    where
      at : (o : Option Mode) (b : Bool) → o ≢ Some Share → option_or o (cond b (Some one.mode) None) ≡ Some Share → ⊥
      at None true never is = other (let e : one.mode ≡ Share = cc in e)
      at None false never is = never is
      at (Some m) b never is = never is

  -- what holds of a key that the items before share holds still, if it holds of one that this item shares
  pub one_more_shared : (k : Key) (T : Type 0) → (mode (take i items) k ≡ Some Share → T) → (names one k ≡ true → one.mode ≡ Share → T) → mode (take (i + 1) items) k ≡ Some Share → T
  one_more_shared k T old here is = at (mode (take i items) k) (names one k) old here (sym (mode_one_more items i d inside k) ∙ is)
    where
      at : (o : Option Mode) (b : Bool) → (o ≡ Some Share → T) → (b ≡ true → one.mode ≡ Share → T) → option_or o (cond b (Some one.mode) None) ≡ Some Share → T
      at None true before now is = now refl (let e : one.mode ≡ Share = cc in e)
      at None false before now is = before is
      at (Some m) b before now is = before is

  -- an item of another kind names no slot
  pub still_unnamed : (n : ℕ) → same_kind one.kind kinds.Slot ≡ false → mode (take i items) (Slot n) ≡ None → mode (take (i + 1) items) (Slot n) ≡ None
  still_unnamed n other none =
      let off : names one (Slot n) ≡ false = ap (λ b. b && nat_le one.from n && nat_lt n one.to) other in
      mode_one_more items i d inside (Slot n) ∙ (λ x. option_or (none x) (cond (off x) (Some one.mode) None))
