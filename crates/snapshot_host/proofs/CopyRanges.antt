-- A copy has at most as many ranges as the context that it is made from.
use Rattle.std.proofs.Common.{◌≡◌, ℕ, zero, suc, ◌≤◌, refl, ◌∙◌, Bool, true, false, cond, not, ◌&&◌, Option, Some, None, List, [], ◌∷◌, arith}
use Rattle.std.specs.Prelude.{count_by, is_some}
use Rattle.std.specs.List.{range_with_len}
use Rattle.std.proofs.lemmas.Bool.{and_from, and_parts}
use Rattle.std.proofs.lemmas.List.Sums.{sum_by-cons}
use Rattle.lwc_base.specs.Cells.{value_at, value_of}
use Rattle.lwc_base.specs.Holders.{InCell}
use Rattle.lwc_base.specs.Ranges.{are_of_one_kind, begins_range, continues_range, has_page, is_page, ranges, ranges_of}
use Rattle.lwc_base.specs.Sharing.{cloned_context, ranges_after_clone}
use Rattle.lwc_base.specs.Sound.{HasItsGroups, live_groups}
use Rattle.lwc_base.specs.World.{World, context, is_live}
use Rattle.lwc_base.specs.declared.cell.Cell.{Cell}
use Rattle.lwc_base.specs.declared.cell.Cell.TheVariants.{Own, Common}
use Rattle.lwc_types.specs.declared.key.Key.TheVariants.{Page}
use Rattle.lwc_types.specs.declared.name.Name.{Name}
use Rattle.lwc_types.specs.declared.page.PageValue.{PageValue}
use Rattle.lwc_types.specs.declared.regs.Regs.{Regs}
use Rattle.snapshot_host.proofs.Copies.{copy_of, is_copy, shares_nothing}

-- where a test holds of no more elements, it counts no more
fewer_by : (p q : ℕ → Bool) (xs : List ℕ) → ((x : ℕ) → p x ≡ true → q x ≡ true) → count_by p xs ≤ count_by q xs
fewer_by p q [] less = omega arith
fewer_by p q (x ∷ xs) less =
    omega (arith, sum_by-cons (λ y. cond (p y) 1 0) x xs, sum_by-cons (λ y. cond (q y) 1 0) x xs, at_most (p x) (q x) (less x), fewer_by p q xs less)
  where
    at_most : (a b : Bool) → (a ≡ true → b ≡ true) → cond a 1 0 ≤ cond b 1 0
    at_most false b h = omega arith
    at_most true true h = omega arith
    at_most true false h = absurd (let e = h refl in cc)

module _ (w : World) (home : Name) (groups : HasItsGroups w) (live : is_live w home ≡ true) (entry : Regs) where
  -- what a cell of the home stands for is a page exactly where the cell is one
  same_page : (p : ℕ) (cell : Cell (Option PageValue)) → InCell (live_groups w) home.job (Page p) cell → is_some (value_of w (Page p) cell) ≡ is_page cell
  same_page p (Own value) in_cell = refl
  same_page p (Common g) in_cell = in_cell.there

  kept : (p : ℕ) → InCell (live_groups w) home.job (Page p) ((context w home).cell (Page p))
  kept p = groups.contexts home live (Page p)

  page_here : (p : ℕ) → has_page (copy_of w home entry) p ≡ has_page (context w home) p
  unfolding value_at
  page_here p = same_page p ((context w home).cell (Page p)) (kept p)

  are_pages : (a b : Cell (Option PageValue)) → are_of_one_kind a b ≡ true → (is_page a ≡ true) × (is_page b ≡ true)
  are_pages (Own (Some a)) (Own (Some b)) h = (refl, refl)
  are_pages (Own (Some a)) (Own None) h = absurd cc
  are_pages (Own (Some a)) (Common g) h = absurd cc
  are_pages (Own None) b h = absurd cc
  are_pages (Common g) (Common k) h = (refl, refl)
  are_pages (Common g) (Own value) h = absurd cc

  own_alike : (a b : Option PageValue) → is_some a ≡ true → is_some b ≡ true → are_of_one_kind (Own a) (Own b) ≡ true
  own_alike (Some a) (Some b) first second = refl
  own_alike None b first second = absurd cc
  own_alike (Some a) None first second = absurd cc

  still_continues : (p : ℕ) → continues_range (context w home) p ≡ true → continues_range (copy_of w home entry) p ≡ true
  unfolding value_at
  still_continues zero h = absurd cc
  still_continues (suc p) h =
      let parts = and_parts _ _ h in
      let both = are_pages ((context w home).cell (Page p)) ((context w home).cell (Page (suc p))) parts.0 in
      and_from _ _ (own_alike _ _ (page_here p ∙ both.0) (page_here (suc p) ∙ both.1)) parts.1

  begins_by : (a b c d : Bool) → a ≡ b → (d ≡ true → c ≡ true) → (a && not c) ≡ true → (b && not d) ≡ true
  begins_by true true false false same less h = refl
  begins_by true true false true same less h = absurd (let e = less refl in cc)
  begins_by true true true d same less h = absurd cc
  begins_by true false c d same less h = absurd cc
  begins_by false b c d same less h = absurd cc

  -- a copy has no more ranges
  few_ranges : ranges w.size.pages (cloned_context w home [] entry) ≤ ranges_of w home
  unfolding ranges ranges_of begins_range
  few_ranges =
      rw (is_copy w home entry) (fewer_by (begins_range (copy_of w home entry)) (begins_range (context w home)) (range_with_len 0 w.size.pages)
      (λ p h. begins_by _ _ _ _ (page_here p) (still_continues p) h))

-- the ranges of a context, and of a copy of it
pub ranges_copied : (w : World) (home : Name) (job : ℕ) → HasItsGroups w → is_live w home ≡ true →
    ((ranges_after_clone w home job []).0 ≡ ranges_of w home) × ((ranges_after_clone w home job []).1 ≤ ranges_of w home)
unfolding ranges_after_clone
ranges_copied w home job groups live =
    rw (shares_nothing w home job) (refl, few_ranges w home groups live (context w home).entry)
