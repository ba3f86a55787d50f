-- The mode of a key is that of the one item that names it.
use Rattle.std.proofs.Common.{◌≡◌, ℕ, zero, suc, ◌<◌, refl, ap, subst, true, false, Some, None, List, [], ◌∷◌, length, get_or, arith, rules}
use Rattle.std.specs.Prelude.{All, is_some}
use Rattle.std.specs.List.{find, AllPairs, Contains}
use Rattle.std.specs.Option.{option_map}
use Rattle.std.proofs.lemmas.Bool.Decides.{nat_tests}
use Rattle.lwc_base.specs.declared.item.Item.{Item}
use Rattle.lwc_base.specs.declared.item.Mode.TheVariants.{Share}
use Rattle.lwc_base.specs.Modes.{names, mode, mode_or_copy, overlaps, AreApart, IsItem, IsKey, IsSpec, limit, same_kind}
use Rattle.lwc_types.specs.declared.key.Key.{Key}
use Rattle.lwc_types.specs.declared.key.Kind.{Kind}

-- two items that name one key overlap
overlap_at : (a b : Item) (key : Key) → names a key ≡ true → names b key ≡ true → overlaps a b ≡ true
overlap_at a b key first second = grind (arith, nat_tests)

find-named : (items : List Item) (j : ℕ) (item : Item) (key : Key) → AllPairs AreApart items → j < length items → get_or items j item ≡ item →
    names item key ≡ true → find (λ i. names i key) items ≡ Some item
find-named [] j item key apart within is named = absurd (omega arith)
find-named (x ∷ xs) zero item key apart within is named = grind arith
find-named (x ∷ xs) (suc j) item key apart within is named =
    let clash : overlaps x item ≡ false = subst (λ (i : Item). overlaps x i ≡ false) is (apart 0 (suc j) item (omega arith) within) in
    let rest = find-named xs j item key (λ i k d below high. apart (suc i) (suc k) d (omega arith) (omega arith)) (omega arith) is named in
    let both = λ (here : names x key ≡ true). overlap_at x item key here named in
    grind (arith, both)

-- an item of a specifier that names a key gives it its mode
pub mode-named : (pages : ℕ) (items : List Item) (item : Item) (key : Key) → IsSpec pages items → Contains items item → names item key ≡ true → mode items key ≡ Some item.mode
unfolding mode
mode-named pages items item key spec has named = search (rules, find-named)

find-none : (items : List Item) (key : Key) → All (λ i. names i key ≡ false) items → find (λ i. names i key) items ≡ None
find-none [] key fails = refl
find-none (x ∷ xs) key fails =
    let first = fails 0 x (omega arith) in let rest = find-none xs key (λ k d within. fails (suc k) d (omega arith)) in grind arith

-- a key that no item names has no mode
pub mode-none : (items : List Item) (key : Key) → All (λ item. names item key ≡ false) items → mode items key ≡ None
unfolding mode
mode-none items key fails = ap (option_map (λ (i : Item). i.mode)) (find-none items key fails)

-- kinds that are the same have as many keys
limit-same : (pages : ℕ) (a b : Kind) → same_kind a b ≡ true → limit pages a ≡ limit pages b
limit-same pages a b same = grind arith

named-key-find : (pages : ℕ) (items : List Item) (key : Key) → All (IsItem pages) items → is_some (option_map (λ (i : Item). i.mode) (find (λ i. names i key) items)) ≡ true → IsKey pages key
named-key-find pages [] key each named = cc
named-key-find pages (x ∷ xs) key each named =
    let first : IsItem pages x = each 0 x (omega arith) in
    let rest = named-key-find pages xs key (λ k d within. each (suc k) d (omega arith)) in
    grind (arith, nat_tests, first.within, limit-same)

-- a key that an item of a specifier names is one that there is
pub named-key : (pages : ℕ) (items : List Item) (key : Key) → IsSpec pages items → is_some (mode items key) ≡ true → IsKey pages key
unfolding mode
named-key pages items key spec named = named-key-find pages items key spec.each named

-- a key is shared only if an item says so
pub mode-shared : (items : List Item) (key : Key) → mode_or_copy items key ≡ Share → mode items key ≡ Some Share
unfolding mode_or_copy
mode-shared items key is = grind arith
