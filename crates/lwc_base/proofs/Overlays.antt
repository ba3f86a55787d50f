-- What a context has once it has taken over from another one, and what each other context still has.
use Rattle.std.proofs.Common.{◌≡◌, ◌≢◌, ◌⊎◌, inl, inr, refl, sym, ap, subst, ◌∙◌, true, List, Option, Some, None, arith}
use Rattle.lwc_base.specs.declared.cell.Cell.{Cell}
use Rattle.lwc_base.specs.declared.cell.Cell.TheVariants.{Own, Common}
use Rattle.lwc_base.specs.declared.item.Item.{Item}
use Rattle.lwc_base.specs.declared.item.Mode.{Mode}
use Rattle.lwc_base.specs.declared.item.Mode.TheVariants.{Copy, CopyRead, Share, Unmap}
use Rattle.lwc_base.specs.Cells.{value_at, value_of}
use Rattle.lwc_base.specs.Clones.{AreApart, HaveInCommon}
use Rattle.lwc_base.specs.Facts.{ChangesContext, SharesValues}
use Rattle.lwc_base.specs.Holders.{IsGroup}
use Rattle.lwc_base.specs.Keys.{ValueOf, is_there}
use Rattle.lwc_base.specs.Modes.{IsKey, copies, mode, mode_or_copy}
use Rattle.lwc_base.specs.Overlay.{IsOverlay, overlaid_cell, overlay, with_overlay}
use Rattle.lwc_base.specs.Sharing.{cloned_cell, is_moved, share}
use Rattle.lwc_base.specs.World.{World, Context, context, is_live, next_group}
use Rattle.lwc_base.proofs.Clones.{cell-moves, cloned-copied, named-after, named-before}
use Rattle.lwc_base.proofs.Common.{group_of_cell, value_at-cell, value_at-same}
use Rattle.lwc_base.proofs.Lookups.{changes-change_context}
use Rattle.lwc_base.proofs.Needs.{needed-key}
use Rattle.lwc_base.proofs.Sharing.{named-not-next, shares-share, value_at-share}
use Rattle.lwc_types.specs.declared.key.Key.{Key}
use Rattle.lwc_types.specs.declared.name.Name.{Name}
use Rattle.lwc_types.proofs.Orders.{cases_name}

module _ (w v : World) (c d : Name) (items : List Item) (made : IsOverlay w v c d items) where
  abbrev between : World
  between = share w d made.job items

  takes : ChangesContext between c (with_overlay between d items) v
  unfolding overlay
  takes = subst (ChangesContext between c (with_overlay between d items)) (sym made.made) (changes-change_context between c _)

  shares : SharesValues w d made.job items between
  shares = shares-share w d made.job items

  -- each context reads the same once the values are shared
  shared_value : (e : Name) (k : Key) → value_at between e k ≡ value_at w e k
  shared_value e k = value_at-share w d made.job items made.fresh e k

  cell-overlaid : (k : Key) → (context v c).cell k ≡ overlaid_cell between d k (mode items k) ((context between c).cell k)
  cell-overlaid k = ap (λ (x : Context). x.cell k) (takes.changed (shares.live c ∙ made.taker))

  -- a cell that stays reads as before
  stays : (e : Name) (k : Key) → (context v e).cell k ≡ (context between e).cell k → value_at v e k ≡ value_at w e k
  stays e k same = value_at-same v between e k same (λ g _. ap (λ x. x.value k) (takes.groups g)) ∙ shared_value e k

  pub overlay-unnamed : (k : Key) → mode items k ≡ None → value_at v c k ≡ value_at w c k
  overlay-unnamed k none = stays c k (cell-overlaid k ∙ ap (λ m. overlaid_cell between d k m ((context between c).cell k)) none)

  pub overlay-others : (e : Name) (k : Key) → is_live w e ≡ true → e ≢ c → value_at v e k ≡ value_at w e k
  overlay-others e k live other = stays e k (ap (λ (x : Context). x.cell k) (takes.others e other))

  cell-by : (k : Key) (m : Mode) → mode items k ≡ Some m → (context v c).cell k ≡ cloned_cell between d k m
  cell-by k m is = cell-overlaid k ∙ ap (λ m. overlaid_cell between d k m ((context between c).cell k)) is

  pub overlay-copied : (k : Key) (m : Mode) → mode items k ≡ Some m → copies m ≡ true → (context v c).cell k ≡ Own (value_at w d k)
  overlay-copied k m is copied = cell-by k m is ∙ cloned-copied between d k m copied ∙ ap Own (shared_value d k)

  pub overlay-apart : (k : Key) (m : Mode) → mode items k ≡ Some m → copies m ≡ true → (e : Name) → is_live w e ≡ true → e ≢ c → AreApart v e c k
  overlay-apart k m is copied e live other = let own = overlay-copied k m is copied in record { differ = other; no_group = λ g one two. grind arith }

  pub overlay-copied_value : (k : Key) (m : Mode) → mode items k ≡ Some m → copies m ≡ true → value_at v c k ≡ value_at w d k
  overlay-copied_value k m is copied = value_at-cell v c k _ (overlay-copied k m is copied)

  pub overlay-shared_value : (k : Key) → mode items k ≡ Some Share → value_at v c k ≡ value_at w d k
  unfolding value_at
  overlay-shared_value k is =
      ap (value_of v k) (cell-by k Share is) ∙ same_value ((context between d).cell k) ∙ shared_value d k
    where
      same_value : (cell : Cell (ValueOf k)) → value_of v k cell ≡ value_of between k cell
      same_value (Own value) = refl
      same_value (Common g) = ap (λ x. x.value k) (takes.groups g)

  -- the giver keeps the cell that it has once the values are shared, also where it takes over from itself
  giver-cell : (k : Key) → mode items k ≡ Some Share → (context v d).cell k ≡ (context between d).cell k
  giver-cell k is =
      cases_name d c (λ same. ap (λ e. (context v e).cell k) same ∙ cell-by k Share is) (λ other. ap (λ (x : Context). x.cell k) (takes.others d other))

  -- what is there is of a live group once it is shared
  common_in : (k : Key) → mode items k ≡ Some Share → IsKey w.size.pages k → is_there k (value_at w d k) ≡ true →
      (g : Name) × IsGroup between g × ((context between d).cell k ≡ Common g)
  unfolding mode_or_copy value_at
  common_in k is within there = at ((context w d).cell k) refl
    where
      at : (cell : Cell (ValueOf k)) → (context w d).cell k ≡ cell → (g : Name) × IsGroup between g × ((context between d).cell k ≡ Common g)
      at (Own value) own =
          let moves : is_moved (mode_or_copy items k) k ((context w d).cell k) ≡ true = grind arith in
          (next_group w made.job, shares.new_group (needed-key w d items k within moves), cell-moves w d made.job items k made.giver within moves)
      at (Common g) common =
          let old = named-not-next w d made.job k g made.fresh common in
          (g, shares.still_live g old ∙ group_of_cell w made.groups d k g common, named-after w d made.job items d k g common)

  pub overlay-common : (k : Key) → mode items k ≡ Some Share → IsKey w.size.pages k → is_there k (value_at w d k) ≡ true → HaveInCommon v d c k
  overlay-common k is within there =
      let group = common_in k is within there in
      record { group = group.0; live = takes.names.groups group.0 ∙ group.1; first = giver-cell k is ∙ group.2; second = cell-by k Share is ∙ group.2 }

  -- a cell that no item names, and each cell of another context, is as once the values are shared
  stays_between : (a : Name) (k : Key) → (mode items k ≡ None) ⊎ (a ≢ c) → (context v a).cell k ≡ (context between a).cell k
  stays_between a k (inl none) =
      cases_name a c
      (λ same. ap (λ e. (context v e).cell k) same ∙ cell-overlaid k ∙ ap (λ m. overlaid_cell between d k m ((context between c).cell k)) none ∙ ap (λ e. (context between e).cell k) (sym same))
      (λ other. ap (λ (x : Context). x.cell k) (takes.others a other))
  stays_between a k (inr other) = ap (λ (x : Context). x.cell k) (takes.others a other)

  -- a group that a cell names afterwards was named by it before, or is new; where items share, this is said of other contexts alone
  named_still : (a : Name) (k : Key) (g : Name) → (mode items k ≢ Some Share) ⊎ (a ≢ c) → (context v a).cell k ≡ Common g → (context between a).cell k ≡ Common g
  named_still a k g (inr other) names = sym (stays_between a k (inr other)) ∙ names
  named_still a k g (inl unshared) names = cases_name a c (λ same. at_taker same (mode items k) refl) (λ other. sym (stays_between a k (inr other)) ∙ names)
    where
      own : (m : Mode) → mode items k ≡ Some m → copies m ≡ true → a ≡ c → (context between a).cell k ≡ Common g
      own m is copied same = let cell = overlay-copied k m is copied in let taker : (context v c).cell k ≡ Common g = ap (λ e. (context v e).cell k) (sym same) ∙ names in grind arith

      at_taker : a ≡ c → (o : Option Mode) → mode items k ≡ o → (context between a).cell k ≡ Common g
      at_taker same None is = sym (stays_between a k (inl is)) ∙ names
      at_taker same (Some Copy) is = own Copy is refl same
      at_taker same (Some CopyRead) is = own CopyRead is refl same
      at_taker same (Some Share) is = absurd (unshared is)
      at_taker same (Some Unmap) is = let cell = cell-by k Unmap is in let taker : (context v c).cell k ≡ Common g = ap (λ e. (context v e).cell k) (sym same) ∙ names in grind arith

  -- what live contexts have apart stays so, but under a key that is shared with one of them
  pub overlay-keeps_apart : (a b : Name) (k : Key) → is_live w a ≡ true → is_live w b ≡ true → (mode items k ≢ Some Share) ⊎ ((a ≢ c) × (b ≢ c)) → AreApart w a b k → AreApart v a b k
  overlay-keeps_apart a b k live_a live_b stays apart = record {
    differ = apart.differ;
    no_group = λ g one two.
        let in_a = named_still a k g (elim stays [ inl unshared ↦ inl unshared | inr others ↦ inr others.0 ]) one in
        let in_b = named_still b k g (elim stays [ inl unshared ↦ inl unshared | inr others ↦ inr others.1 ]) two in
        let old_a = named-not-next w a made.job k g made.fresh in
        let old_b = named-not-next w b made.job k g made.fresh in
        let was_a = named-before w d made.job items a k g in_a in
        let was_b = named-before w d made.job items b k g in_b in
        grind (arith, cases_name, apart.differ, apart.no_group g, shares.others a, shares.others b);
  }

  -- what contexts have in common stays so, but under a key that an item names in the one that takes over
  pub overlay-keeps_common : (a b : Name) (k : Key) → (mode items k ≡ None) ⊎ ((a ≢ c) × (b ≢ c)) → HaveInCommon w a b k → HaveInCommon v a b k
  overlay-keeps_common a b k stays both = record {
    group = both.group;
    live = takes.names.groups both.group ∙ shares.still_live both.group (named-not-next w a made.job k both.group made.fresh both.first) ∙ both.live;
    first = stays_between a k (elim stays [ inl none ↦ inl none | inr others ↦ inr others.0 ]) ∙ named-after w d made.job items a k both.group both.first;
    second = stays_between b k (elim stays [ inl none ↦ inl none | inr others ↦ inr others.1 ]) ∙ named-after w d made.job items b k both.group both.second;
  }
