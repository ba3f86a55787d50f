-- What goes over more pages than there are: the pages past the last one add nothing.
use Rattle.std.proofs.Common.{◌≡◌, ◌∙◌, ◌+◌, ◌-◌, ◌≤◌, refl, sym, ap, subst, ℕ, zero, suc, Bool, true, false, cond, ◌||◌, Option, Some, None, List, [], ◌++◌, arith}
use Rattle.std.specs.Prelude.{count_by}
use Rattle.std.specs.List.{flat_map, list_any, range_with_len}
use Rattle.std.specs.FinMap as fm
use Rattle.std.proofs.lemmas.List.Sums.{sum_by-cons}
use Rattle.lwc_base.specs.Holders.{InCell}
use Rattle.lwc_base.specs.Sharing.{any_key}
use Rattle.lwc_base.specs.Sound.{IsSound, common_keys, sound_pages}
use Rattle.lwc_base.specs.World.{World, context, group, is_live}
use Rattle.lwc_base.specs.declared.cell.Cell.{Cell}
use Rattle.lwc_base.specs.declared.cell.Cell.TheVariants.{Own, Common}
use Rattle.lwc_base.proofs.Lookups.{context-dead, group-dead}
use Rattle.lwc_types.specs.declared.key.TheConstants.{SLOTS}
use Rattle.lwc_types.specs.declared.key.Key.{Key}
use Rattle.lwc_types.specs.declared.key.Key.TheVariants.{Page, Slot, Cred}
use Rattle.lwc_types.specs.declared.limits.TheConstants.{MOST_PAGES}
use Rattle.lwc_types.specs.declared.name.Name.{Name}
use Rattle.lwc_types.specs.declared.page.PageValue.{PageValue}
use Rattle.lwc_types.specs.declared.page.PageValue.TheVariants.{Zero, Data}

-- rows of a range
module _ {Y : Type 0} (f : ℕ → List Y) where
  no_rows : (a d : ℕ) → ((p : ℕ) → a ≤ p → f p ≡ []) → flat_map f (range_with_len a d) ≡ []
  no_rows a zero none = refl
  no_rows a (suc d) none = λ i. none a (omega arith) i ++ no_rows (a + 1) d (λ p past. none p (omega (arith, past))) i

  pub rows-past : (a n d : ℕ) → ((p : ℕ) → a + n ≤ p → f p ≡ []) → flat_map f (range_with_len a (n + d)) ≡ flat_map f (range_with_len a n)
  rows-past a zero d none = let same : d ≡ 0 + d = omega arith in subst (λ m. flat_map f (range_with_len a m) ≡ []) same (no_rows a d (λ p past. none p (omega (arith, past))))
  rows-past a (suc n) d none =
      let same : suc (n + d) ≡ suc n + d = omega arith in
      subst (λ m. flat_map f (range_with_len a m) ≡ flat_map f (range_with_len a (suc n))) same
      (ap (λ ys. f a ++ ys) (rows-past (a + 1) n d (λ p past. none p (omega (arith, past)))))

-- a test of a range
module _ (test : ℕ → Bool) where
  none_passes : (a d : ℕ) → ((p : ℕ) → a ≤ p → test p ≡ false) → list_any test (range_with_len a d) ≡ false
  none_passes a zero none = refl
  none_passes a (suc d) none = λ i. none a (omega arith) i || none_passes (a + 1) d (λ p past. none p (omega (arith, past))) i

  any-past : (a n d : ℕ) → ((p : ℕ) → a + n ≤ p → test p ≡ false) → list_any test (range_with_len a (n + d)) ≡ list_any test (range_with_len a n)
  any-past a zero d none = let same : d ≡ 0 + d = omega arith in subst (λ m. list_any test (range_with_len a m) ≡ false) same (none_passes a d (λ p past. none p (omega (arith, past))))
  any-past a (suc n) d none =
      let same : suc (n + d) ≡ suc n + d = omega arith in
      subst (λ m. list_any test (range_with_len a m) ≡ list_any test (range_with_len a (suc n))) same
      (ap (λ b. test a || b) (any-past (a + 1) n d (λ p past. none p (omega (arith, past)))))

  none_counted : (a d : ℕ) → ((p : ℕ) → a ≤ p → test p ≡ false) → count_by test (range_with_len a d) ≡ 0
  none_counted a zero none = refl
  none_counted a (suc d) none =
      sum_by-cons (λ p. cond (test p) 1 0) a (range_with_len (a + 1) d) ∙ (λ i. cond (none a (omega arith) i) 1 0 + none_counted (a + 1) d (λ p past. none p (omega (arith, past))) i)

  count-past : (a n d : ℕ) → ((p : ℕ) → a + n ≤ p → test p ≡ false) → count_by test (range_with_len a (n + d)) ≡ count_by test (range_with_len a n)
  count-past a zero d none = let same : d ≡ 0 + d = omega arith in subst (λ m. count_by test (range_with_len a m) ≡ 0) same (none_counted a d (λ p past. none p (omega (arith, past))))
  count-past a (suc n) d none =
      let same : suc (n + d) ≡ suc n + d = omega arith in
      subst (λ m. count_by test (range_with_len a m) ≡ count_by test (range_with_len a (suc n))) same
      (sum_by-cons (λ p. cond (test p) 1 0) a (range_with_len (a + 1) (n + d))
      ∙ ap (λ c. cond (test a) 1 0 + c) (count-past (a + 1) n d (λ p past. none p (omega (arith, past))))
      ∙ sym (sum_by-cons (λ p. cond (test p) 1 0) a (range_with_len (a + 1) n)))

  -- more pages than there are count as many
  pub count-most : (n m : ℕ) → n ≤ m → ((p : ℕ) → n ≤ p → test p ≡ false) → count_by test (range_with_len 0 m) ≡ count_by test (range_with_len 0 n)
  count-most n m few none = let whole : n + (m - n) ≡ m = omega (arith, few) in subst (λ k. count_by test (range_with_len 0 k) ≡ count_by test (range_with_len 0 n)) whole (count-past 0 n (m - n) (λ p past. none p (omega (arith, past))))

  any-most : (n m : ℕ) → n ≤ m → ((p : ℕ) → n ≤ p → test p ≡ false) → list_any test (range_with_len 0 m) ≡ list_any test (range_with_len 0 n)
  any-most n m few none = let whole : n + (m - n) ≡ m = omega (arith, few) in subst (λ k. list_any test (range_with_len 0 k) ≡ list_any test (range_with_len 0 n)) whole (any-past 0 n (m - n) (λ p past. none p (omega (arith, past))))

pub rows-most : {Y : Type 0} (f : ℕ → List Y) (n m : ℕ) → n ≤ m → ((p : ℕ) → n ≤ p → f p ≡ []) → flat_map f (range_with_len 0 m) ≡ flat_map f (range_with_len 0 n)
rows-most f n m few none = let whole : n + (m - n) ≡ m = omega (arith, few) in subst (λ k. flat_map f (range_with_len 0 k) ≡ flat_map f (range_with_len 0 n)) whole (rows-past f 0 n (m - n) (λ p past. none p (omega (arith, past))))

-- a test of keys that no page past the last one passes
pub any_key-most : (test : Key → Bool) (n m : ℕ) → n ≤ m → ((p : ℕ) → n ≤ p → test (Page p) ≡ false) → any_key m test ≡ any_key n test
unfolding any_key
any_key-most test n m few none =
    ap (λ b. b || list_any (λ s. test (Slot s)) (range_with_len 0 SLOTS) || test Cred) (any-most (λ p. test (Page p)) n m few none)

-- in a world each page past the last one is absent, in each context and each group
pub record HasNoMore (w : World) : Type 0 where
  pub few : w.size.pages ≤ MOST_PAGES
  pub cells : (c : Name) (p : ℕ) → w.size.pages ≤ p → (context w c).cell (Page p) ≡ Own None
  pub values : (g : Name) (p : ℕ) → w.size.pages ≤ p → (group w g).value (Page p) ≡ None

-- so it is in a sound world
pub no_more : (w : World) → IsSound w → w.size.pages ≤ MOST_PAGES → HasNoMore w
no_more w sound few = record {
  few = few;
  cells = λ c p past. by_live c p past (is_live w c) refl;
  values = λ g p past. by_group g p past _ refl;
}
  where
    value_none : (p : ℕ) (value : Option PageValue) → w.size.pages ≤ p → (sound_pages w sound.home).value 0 (Page p) value → value ≡ None
    value_none p None past is = refl
    value_none p (Some Zero) past is = absurd (omega (arith, past, is))
    value_none p (Some (Data tag bytes)) past is = absurd (omega (arith, past, is.0))

    cell_none : (job p : ℕ) (cell : Cell (Option PageValue)) → w.size.pages ≤ p → InCell (sound_pages w sound.home) job (Page p) cell → InCell (common_keys w) job (Page p) cell → cell ≡ Own None
    cell_none job p (Own value) past is key = ap Own (value_none p value past is)
    cell_none job p (Common g) past is key = absurd (omega (arith, past, key))

    by_live : (c : Name) (p : ℕ) → w.size.pages ≤ p → (b : Bool) → is_live w c ≡ b → (context w c).cell (Page p) ≡ Own None
    by_live c p past true live = cell_none c.job p ((context w c).cell (Page p)) past (sound.pages.contexts c live (Page p)) (sound.keys.contexts c live (Page p))
    by_live c p past false dead = ap (λ x. x.cell (Page p)) (context-dead w c dead)

    by_group : (g : Name) (p : ℕ) → w.size.pages ≤ p → (b : Bool) → fm.contains_key w.groups g ≡ b → (group w g).value (Page p) ≡ None
    by_group g p past true live = value_none p ((group w g).value (Page p)) past (sound.pages.groups g live (Page p))
    by_group g p past false dead = ap (λ x. x.value (Page p)) (group-dead w g dead)
