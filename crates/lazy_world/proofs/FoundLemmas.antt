-- What is found under a key, and the place of the group that has it.
use Rattle.std.proofs.Common.{◌≡◌, ℕ, ◌+◌, ◌-◌, arith, ◌<◌, ◌≤◌, refl, sym, ap, subst, ◌∙◌, Option, Some, None, true}
use Rattle.std.specs.Prelude.{IfNone, IfSome}
use Rattle.lwc_base.specs.declared.cell.Cell.{Cell}
use Rattle.lwc_base.specs.declared.cell.Cell.TheVariants as cells
use Rattle.lwc_base.specs.Keys.{ValueOf}
use Rattle.lwc_base.specs.World.{World, group, new_group}
use Rattle.lwc_types.specs.declared.key.Key.{Key}
use Rattle.lwc_types.specs.declared.name.Name.{Name}
use Rattle.lwc_types.specs.declared.right.Right.{Right}
use Rattle.range_map.specs.declared.segment.SegmentKind.{SegmentKind}
use Rattle.range_map.specs.declared.segment.SegmentKind.TheVariants.{Common}
use Rattle.lazy_world.specs.Cells.{Row, is_own}
use Rattle.lazy_world.specs.Transfers.{IsFound, copied_origin, given, kind_in}
use Rattle.lazy_world.specs.Sound.{IsAllOwn}
use Rattle.lazy_world.specs.States.{group_of, held}
use Rattle.lazy_world.proofs.TransferLemmas.{kind_common}

-- a place has what a group has under a key, if something is there
pub record IsHolder (w : World) (contexts count : ℕ) (rows : ℕ → Row) (k : Key) (g : Name) (holder : Option ℕ) : Type 0 where
  pub value : given rows k (copied_origin holder) ≡ cells.Own ((group w g).value k)
  pub behind : (j : ℕ) → holder ≡ Some j → contexts ≤ j
  pub inside : (j : ℕ) → holder ≡ Some j → j < count

pub held_own : (k : Key) (cell : Cell (ValueOf k)) → is_own cell ≡ true → cell ≡ cells.Own (held k cell)
held_own k (cells.Own v) own = refl
held_own k (cells.Common g) own = cc

module _ (w : World) (contexts count : ℕ) (rows : ℕ → Row) (k : Key) (g : Name) where
  -- a group that is not live has nothing
  holder-missed : group w g ≡ new_group → IsHolder w contexts count rows k g None
  holder-missed missed = record {
    value = ap (λ x. cells.Own (x.value k)) (sym missed);
    behind = λ j is. absurd (let e = is in cc);
    inside = λ j is. absurd (let e = is in cc);
  }

  -- a group has what is its place's own
  holder-own : (j : ℕ) → group w g ≡ group_of (rows j) → contexts ≤ j → j < count → is_own (rows j k) ≡ true → IsHolder w contexts count rows k g (Some j)
  holder-own j is behind inside own = record {
    value = held_own k (rows j k) own ∙ ap (λ x. cells.Own (x.value k)) (sym is);
    behind = λ i same. let e : j ≡ i = cc in subst (λ n. contexts ≤ n) e behind;
    inside = λ i same. let e : j ≡ i = cc in subst (λ n. n < count) e inside;
  }

  -- what the search for a group's place finds
  pub holder-of : (holder : Option ℕ) → IfSome holder (λ i. group w g ≡ group_of (rows i)) → IfSome holder (λ i. i < count) → IfSome holder (λ i. contexts ≤ i) →
      IfNone holder (group w g ≡ new_group) → ((j : ℕ) → IsAllOwn (rows (contexts + j))) → IsHolder w contexts count rows k g holder
  holder-of None is inside behind missed own = holder-missed missed
  holder-of (Some j) is inside behind missed own =
      let at : contexts + (j - contexts) ≡ j = omega (arith, behind) in
      holder-own j is behind inside (ap (λ i. is_own (rows i k)) (sym at) ∙ own (j - contexts) k)

module _ (w : World) (contexts count : ℕ) (rows : ℕ → Row) (k : Key) (cell : Cell (ValueOf k)) where
  pub found-common : (kind : Option SegmentKind) (g : Name) (holder : Option ℕ) (right : Option Right) → kind ≡ kind_in k cell → kind ≡ Some (Common g) → IsHolder w contexts count rows k g holder →
      IsFound w contexts count rows k cell (record { kind = kind; holder = holder; right = right })
  found-common kind g holder right is common holds = record {
    kind = is;
    value = λ h at.
        let kind_h : Some (Common h) ≡ Some (Common g) = sym (kind_common k h) ∙ ap (kind_in k) (sym at) ∙ sym is ∙ common in
        let same : g ≡ h = cc in
        holds.value ∙ ap (λ n. cells.Own ((group w n).value k)) same;
    behind = holds.behind;
    inside = holds.inside;
  }

  pub found-alone : (kind : Option SegmentKind) (right : Option Right) → kind ≡ kind_in k cell → ((g : Name) → kind ≡ Some (Common g) → ⊥) → IsFound w contexts count rows k cell (record { kind = kind; holder = None; right = right })
  found-alone kind right is alone = record {
    kind = is;
    value = λ h at. absurd (alone h (is ∙ ap (kind_in k) at ∙ kind_common k h));
    behind = λ i same. absurd (let e = same in cc);
    inside = λ i same. absurd (let e = same in cc);
  }
