-- The cells of a context and of its clone, what they read, and what they have apart and in common.
use Rattle.std.proofs.Common.{◌≡◌, ◌≢◌, ℕ, refl, sym, ap, subst, ◌∙◌, true, false, List, arith, rules}
use Rattle.std.proofs.lemmas.Bool.Decides.{nat_tests}
use Rattle.lwc_base.specs.declared.cell.Cell.TheVariants.{Own, Common}
use Rattle.lwc_base.specs.declared.item.Item.{Item}
use Rattle.lwc_base.specs.declared.item.Mode.{Mode}
use Rattle.lwc_base.specs.declared.item.Mode.TheVariants.{Copy, Share, Unmap, CopyRead}
use Rattle.lwc_base.specs.Cells.{value_at}
use Rattle.lwc_base.specs.Clones.{IsClone, AreApart, HaveInCommon}
use Rattle.lwc_base.specs.Facts.{AddsContext, SharesValues}
use Rattle.lwc_base.specs.Holders.{IsGroup}
use Rattle.lwc_base.specs.Keys.{ValueOf, is_there, nothing}
use Rattle.lwc_base.specs.Modes.{IsKey, copies, mode_or_copy}
use Rattle.lwc_base.specs.Sharing.{is_moved, with_shared, share, cloned_cell, cloned_context, clone_context}
use Rattle.lwc_base.specs.World.{World, Context, Group, context, is_live, next_context, next_group}
use Rattle.lwc_base.proofs.Common.{value_at-same, value_at-cell}
use Rattle.lwc_base.proofs.Fresh.{next_context-new, next_group-new}
use Rattle.lwc_base.proofs.Lookups.{adds-add_context}
use Rattle.lwc_base.proofs.Needs.{needed-key, needed-own}
use Rattle.lwc_base.proofs.Puts.{live_of_common}
use Rattle.lwc_base.proofs.Sharing.{group-same, shares-share, named-not-next, value_at-share}
use Rattle.lwc_types.specs.declared.key.Key.{Key}
use Rattle.lwc_types.specs.declared.name.Name.{Name}
use Rattle.lwc_types.proofs.Orders.{cases_name}

module _ (w : World) (c : Name) (job : ℕ) (items : List Item) where
  abbrev shared : World
  shared = share w c job items

  -- the next context of a job has the same name after sharing
  pub next_context-share : (j : ℕ) → next_context shared j ≡ next_context w j
  next_context-share j =
      let shares = shares-share w c job items in
      let same : (shared.next j).contexts ≡ (w.next j).contexts = grind (arith, nat_tests) in ap (λ n. record { job = j; k = n }) same

  -- a cell whose value does not move, and one whose value does
  cell-stays : (k : Key) → is_moved (mode_or_copy items k) k ((context w c).cell k) ≡ false → (context shared c).cell k ≡ (context w c).cell k
  unfolding with_shared
  cell-stays k stays = let shares = shares-share w c job items in grind arith

  pub cell-moves : (k : Key) → is_live w c ≡ true → IsKey w.size.pages k → is_moved (mode_or_copy items k) k ((context w c).cell k) ≡ true →
      (context shared c).cell k ≡ Common (next_group w job)
  unfolding with_shared
  cell-moves k live within moves = let shares = shares-share w c job items in let needs = needed-key w c items k within moves in grind arith

  -- a group that a cell names was named by that cell, or it is the new one; and a group that was named is so still
  pub named-before : (a : Name) (k : Key) (g : Name) → (context shared a).cell k ≡ Common g → g ≢ next_group w job → (context w a).cell k ≡ Common g
  unfolding with_shared
  named-before a k g names other = let shares = shares-share w c job items in grind (arith, cases_name)

  pub named-after : (a : Name) (k : Key) (g : Name) → (context w a).cell k ≡ Common g → (context shared a).cell k ≡ Common g
  unfolding with_shared
  named-after a k g names = let shares = shares-share w c job items in grind (arith, cases_name)

-- a cell of a mode that copies
pub cloned-copied : (w : World) (c : Name) (k : Key) (mode : Mode) → copies mode ≡ true → cloned_cell w c k mode ≡ Own (value_at w c k)
cloned-copied w c k Copy is = refl
cloned-copied w c k Share is = grind arith
cloned-copied w c k Unmap is = grind arith
cloned-copied w c k CopyRead is = refl

module _ (w v : World) (c d : Name) (items : List Item) (made : IsClone w v c d items) where
  abbrev between : World
  between = share w c made.job items

  shares : SharesValues w c made.job items between
  shares = shares-share w c made.job items

  abbrev new : Context
  new = cloned_context between c items made.entry

  adds : AddsContext between made.job new v
  unfolding clone_context
  adds = subst (AddsContext between made.job new) (sym made.made) (adds-add_context between made.job new)

  -- the new context has a new name
  differs : (e : Name) → is_live w e ≡ true → (e ≢ d) × (e ≢ next_context between made.job)
  differs e live = search (rules, next_context-new, next_context-share)

  as_shared : (e : Name) → is_live w e ≡ true → context v e ≡ context between e
  as_shared e live = adds.others e (differs e live).1

  cell-new : (k : Key) (mode : Mode) → mode_or_copy items k ≡ mode → (context v d).cell k ≡ cloned_cell between c k mode
  unfolding cloned_context
  cell-new k mode is = search (rules, adds, next_context-share)

  -- the cells of the clone
  pub clone-copied : (k : Key) → copies (mode_or_copy items k) ≡ true → (context v d).cell k ≡ Own (value_at w c k)
  clone-copied k is = cell-new k (mode_or_copy items k) refl ∙ cloned-copied between c k (mode_or_copy items k) is ∙ ap Own (value_at-share w c made.job items made.fresh c k)

  pub clone-left_out : (k : Key) → mode_or_copy items k ≡ Unmap → (context v d).cell k ≡ Own (nothing k)
  clone-left_out k is = cell-new k Unmap is

  pub clone-shared : (k : Key) → mode_or_copy items k ≡ Share → (context v d).cell k ≡ (context v c).cell k
  clone-shared k is = cell-new k Share is ∙ ap (λ (x : Context). x.cell k) (sym (as_shared c made.live))

  stays : (k : Key) → is_moved (mode_or_copy items k) k ((context w c).cell k) ≡ false → (context v c).cell k ≡ (context w c).cell k
  stays k fails = ap (λ (x : Context). x.cell k) (as_shared c made.live) ∙ cell-stays w c made.job items k fails

  -- the cells of the context that is cloned
  pub clone-unshared : (k : Key) → mode_or_copy items k ≢ Share → (context v c).cell k ≡ (context w c).cell k
  clone-unshared k other = stays k (grind arith)

  pub clone-common : (k : Key) (g : Name) → (context w c).cell k ≡ Common g → (context v c).cell k ≡ Common g
  clone-common k g is = stays k (grind arith) ∙ is

  pub clone-absent : (k : Key) (value : ValueOf k) → (context w c).cell k ≡ Own value → is_there k value ≡ false → (context v c).cell k ≡ Own value
  clone-absent k value is absent = stays k (grind arith) ∙ is

  pub clone-moved : (k : Key) (value : ValueOf k) → mode_or_copy items k ≡ Share → IsKey w.size.pages k → (context w c).cell k ≡ Own value → is_there k value ≡ true →
      (context v c).cell k ≡ Common (next_group w made.job)
  clone-moved k value mode within is there = search (rules, as_shared, cell-moves)

  -- each other context is as it was
  pub clone-others : (e : Name) → is_live w e ≡ true → e ≢ c → context v e ≡ context w e
  clone-others e live other = as_shared e live ∙ shares.others e other

  -- each live context reads as it did, the clone as the context did where it is copied, and as nothing where it is left out
  pub clone-reads : (e : Name) (k : Key) → is_live w e ≡ true → value_at v e k ≡ value_at w e k
  clone-reads e k live =
      value_at-same v between e k (ap (λ (x : Context). x.cell k) (as_shared e live)) (λ g _. ap (λ (x : Group). x.value k) (group-same between v g adds.groups))
      ∙ value_at-share w c made.job items made.fresh e k

  pub clone-reads_copied : (k : Key) → copies (mode_or_copy items k) ≡ true → value_at v d k ≡ value_at w c k
  clone-reads_copied k is = value_at-cell v d k (Own (value_at w c k)) (clone-copied k is)

  pub clone-reads_nothing : (k : Key) → mode_or_copy items k ≡ Unmap → value_at v d k ≡ nothing k
  clone-reads_nothing k is = value_at-cell v d k (Own (nothing k)) (clone-left_out k is)

  -- a cell of its own is apart from each other context
  pub clone-copied_apart : (k : Key) → copies (mode_or_copy items k) ≡ true → (e : Name) → is_live w e ≡ true → AreApart v e d k
  clone-copied_apart k is e live = let own = clone-copied k is in record { differ = (differs e live).0; no_group = λ g _ common. grind arith }

  pub clone-left_out_apart : (k : Key) → mode_or_copy items k ≡ Unmap → (e : Name) → is_live w e ≡ true → AreApart v e d k
  clone-left_out_apart k is e live = let own = clone-left_out k is in record { differ = (differs e live).0; no_group = λ g _ common. grind arith }

  -- what live contexts have apart stays so
  pub clone-keeps_apart : (a b : Name) (k : Key) → is_live w a ≡ true → is_live w b ≡ true → AreApart w a b k → AreApart v a b k
  clone-keeps_apart a b k live_a live_b apart = record {
    differ = apart.differ;
    no_group = λ g one two.
        let in_a : (context between a).cell k ≡ Common g = ap (λ (x : Context). x.cell k) (sym (as_shared a live_a)) ∙ one in
        let in_b : (context between b).cell k ≡ Common g = ap (λ (x : Context). x.cell k) (sym (as_shared b live_b)) ∙ two in
        let old_a = named-not-next w a made.job k g made.fresh in
        let old_b = named-not-next w b made.job k g made.fresh in
        let was_a = named-before w c made.job items a k g in_a in
        let was_b = named-before w c made.job items b k g in_b in
        grind (arith, cases_name, apart.differ, apart.no_group g, shares.others a, shares.others b);
  }

  named_live : (a : Name) (k : Key) (g : Name) → (context w a).cell k ≡ Common g → (context v a).cell k ≡ Common g
  named_live a k g is = ap (λ (x : Context). x.cell k) (as_shared a (live_of_common w a k g is)) ∙ named-after w c made.job items a k g is

  group_live : (g : Name) → IsGroup w g → IsGroup v g
  group_live g live = search (rules, next_group-new, adds, shares)

  -- what contexts have in common stays so
  pub clone-keeps_common : (a b : Name) (k : Key) → HaveInCommon w a b k → HaveInCommon v a b k
  clone-keeps_common a b k both = search (rules, group_live, named_live)

  -- what is shared, and is there, is in common
  pub clone-in_common : (k : Key) → mode_or_copy items k ≡ Share → IsKey w.size.pages k → is_there k (value_at w c k) ≡ true → HaveInCommon v c d k
  clone-in_common k mode within there = search (rules, clone-shared, value_at-cell, needed-own, adds, shares, clone-moved, group_live, clone-common)

  -- and so is what the context had in common with another one, and the clone is apart from each context from which the context was
  pub clone-joins : (k : Key) → mode_or_copy items k ≡ Share → (e : Name) → HaveInCommon w c e k → HaveInCommon v d e k
  clone-joins k mode e both =
      let after = clone-keeps_common c e k both in record { group = after.group; live = after.live; first = clone-shared k mode ∙ after.first; second = after.second }

  pub clone-joins_not : (k : Key) → mode_or_copy items k ≡ Share → (e : Name) → is_live w e ≡ true → AreApart w c e k → AreApart v d e k
  clone-joins_not k mode e live apart =
      let after = clone-keeps_apart c e k made.live live apart in
      record { differ = λ same. (differs e live).0 (sym same); no_group = λ g is. after.no_group g (sym (clone-shared k mode) ∙ is) }
