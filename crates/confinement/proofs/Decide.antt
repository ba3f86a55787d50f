-- Names and keys are one or two, and contexts are apart under a key or have one value there.
use Rattle.std.proofs.Common.{◌≡◌, ◌≢◌, ◌⊎◌, inl, inr, ℕ, ap, refl, sym, ◌∙◌}
use Rattle.lwc_base.proofs.Common.{group_of_cell, value_at-same}
use Rattle.lwc_base.proofs.Keys.{cases_key, cases_number}
use Rattle.lwc_base.specs.declared.cell.Cell.{Cell}
use Rattle.lwc_base.specs.declared.cell.Cell.TheVariants.{Own, Common}
use Rattle.lwc_base.specs.Cells.{value_at}
use Rattle.lwc_base.specs.Clones.{AreApart}
use Rattle.lwc_base.specs.Keys.{ValueOf}
use Rattle.lwc_base.specs.Sound.{HasItsGroups}
use Rattle.lwc_base.specs.World.{World, context, group}
use Rattle.lwc_types.proofs.Orders.{cases_name}
use Rattle.lwc_types.specs.declared.key.Key.{Key}
use Rattle.lwc_types.specs.declared.name.Name.{Name}
use Rattle.confinement.specs.One.{IsOneValue}

pub number_or_not : (a b : ℕ) → (a ≡ b) ⊎ (a ≢ b)
number_or_not a b = cases_number a b inl inr

pub key_or_not : (k q : Key) → (k ≡ q) ⊎ (k ≢ q)
key_or_not k q = cases_key k q inl inr

pub name_or_not : (a b : Name) → (a ≡ b) ⊎ (a ≢ b)
name_or_not a b = cases_name a b inl inr

-- what is the same as something that is so, or may have changed
pub same_then : {A P : Type 0} (x y z : A) → x ≡ y → (y ≡ z) ⊎ P → (x ≡ z) ⊎ P
same_then x y z first (inl second) = inl (first ∙ second)
same_then x y z first (inr may) = inr may

-- a value is the same where the cell and the groups are
pub value_same : (w v : World) (e : Name) (k : Key) → (context v e).cell k ≡ (context w e).cell k → ((g : Name) → group v g ≡ group w g) → value_at v e k ≡ value_at w e k
value_same w v e k cell groups = value_at-same v w e k cell (λ g _. ap (λ x. x.value k) (groups g))

-- two contexts are apart under a key, or have one value there
pub apart_or_one : (w : World) → HasItsGroups w → (a e : Name) (k : Key) → AreApart w a e k ⊎ IsOneValue w a e k
apart_or_one w groups a e k = elim (name_or_not a e) [
  | inl same ↦ inr (inl same)
  | inr differ ↦ by_cells differ ((context w a).cell k) ((context w e).cell k) refl refl
]
  where
    by_cells : a ≢ e → (first second : Cell (ValueOf k)) → (context w a).cell k ≡ first → (context w e).cell k ≡ second → AreApart w a e k ⊎ IsOneValue w a e k
    by_cells differ (Own v) second is other = inl (record { differ = differ; no_group = λ g common. absurd (let no : Own v ≡ Common g = sym is ∙ common in cc) })
    by_cells differ (Common g) (Own v) is other = inl (record { differ = differ; no_group = λ h common same. absurd (let no : Own v ≡ Common h = sym other ∙ same in cc) })
    by_cells differ (Common g) (Common h) is other = elim (name_or_not g h) [
      | inl one ↦ inr (inr (record { group = g; live = group_of_cell w groups a k g is; first = is; second = other ∙ ap Common (sym one) }))
      | inr two ↦ inl (record {
        differ = differ;
        no_group = λ f common same.
            let here : Common g ≡ Common f = sym is ∙ common in
            let there : Common h ≡ Common f = sym other ∙ same in
            two cc;
      })
    ]
