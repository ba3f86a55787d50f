-- Keys past the limit of their kind: no item names them.
use Rattle.std.proofs.Common.{◌≡◌, ℕ, suc, ◌≤◌, arith, refl, ap, ◌∙◌, false, cond, List, [], ◌∷◌, Some, None}
use Rattle.std.specs.Prelude.{◌&&◌, nat_le, nat_lt, unwrap_or, All}
use Rattle.std.specs.List.{find}
use Rattle.std.specs.Option.{option_map}
use Rattle.std.proofs.lemmas.Bool.Decides.{nat_tests}
use Rattle.lwc_base.specs.declared.item.Item.{Item}
use Rattle.lwc_base.specs.declared.item.Mode.TheVariants.{Copy}
use Rattle.lwc_base.specs.Modes.{IsItem, IsSpec, kind_of, limit, mode, mode_or_copy, names, number_of, same_kind}
use Rattle.lwc_types.specs.declared.key.Key.{Key}
use Rattle.lwc_types.specs.declared.key.Kind.{Kind}
use Rattle.lwc_types.specs.declared.key.Kind.TheVariants.{Page, Slot, Cred}

not_below : (from to limit n : ℕ) → to ≤ limit → limit ≤ n → (nat_le from n && nat_lt n to) ≡ false
not_below from to limit n within past = grind (arith, nat_tests)

not_named : (pages : ℕ) (kind other : Kind) (from to n : ℕ) → to ≤ limit pages kind → limit pages other ≤ n → (same_kind kind other && nat_le from n && nat_lt n to) ≡ false
not_named pages Page Page from to n within past = not_below from to pages n within past
not_named pages Slot Slot from to n within past = not_below from to _ n within past
not_named pages Cred Cred from to n within past = not_below from to 1 n within past
not_named pages Page Slot from to n within past = refl
not_named pages Page Cred from to n within past = refl
not_named pages Slot Page from to n within past = refl
not_named pages Slot Cred from to n within past = refl
not_named pages Cred Page from to n within past = refl
not_named pages Cred Slot from to n within past = refl

no_item_found : (pages : ℕ) (key : Key) (items : List Item) → limit pages (kind_of key) ≤ number_of key → All (IsItem pages) items →
    find (λ item. names item key) items ≡ None
no_item_found pages key [] past each = refl
no_item_found pages key (item ∷ items) past each =
    let first : IsItem pages item = each 0 item (omega arith) in
    ap (λ b. cond b (Some item) (find (λ item. names item key) items)) (not_named pages item.kind (kind_of key) item.from item.to (number_of key) first.within past)
    ∙ no_item_found pages key items past (λ k d h. each (suc k) d (omega (arith, h)))

-- such a key has no mode
pub unnamed_past : (pages : ℕ) (key : Key) (items : List Item) → IsSpec pages items → limit pages (kind_of key) ≤ number_of key → mode items key ≡ None
unfolding mode
unnamed_past pages key items spec past = ap (option_map (λ (item : Item). item.mode)) (no_item_found pages key items past spec.each)

-- so it is copied
pub copied_past : (pages : ℕ) (key : Key) (items : List Item) → IsSpec pages items → limit pages (kind_of key) ≤ number_of key → mode_or_copy items key ≡ Copy
unfolding mode_or_copy
copied_past pages key items spec past = ap (λ o. unwrap_or o Copy) (unnamed_past pages key items spec past)
