-- One number more: the last number, whether they rise, and their ranges.
use Rattle.std.proofs.Common.{◌≡◌, ℕ, ◌+◌, Bool, true, false, cond, ◌&&◌, List, [], ◌∷◌, ◌++◌, Option, Some, None, refl, ap, ◌∙◌, arith}
use Rattle.std.proofs.lemmas.List.{map_push}
use Rattle.guest_image.specs.declared.image.PageImage.{PageImage}
use Rattle.guest_image.specs.declared.image.SlotImage.{SlotImage}
use Rattle.guest_image.specs.Numbers.{is_above, begins, ranges_with, last_after, rising_after, ranges_after, last, ranges}
use Rattle.guest_image.specs.Limits.{page_numbers, slot_numbers}

pub last-push : (before : Option ℕ) (ns : List ℕ) (n : ℕ) → last_after before (ns ++ n ∷ []) ≡ Some n
unfolding last_after
last-push before [] n = refl
last-push before (m ∷ ns) n = last-push (Some m) ns n

pub ranges-push : (before : Option ℕ) (ns : List ℕ) (n : ℕ) → ranges_after before (ns ++ n ∷ []) ≡ ranges_with (ranges_after before ns) (last_after before ns) n
unfolding last_after ranges_after
ranges-push before [] n = refl
ranges-push before (m ∷ ns) n = ap (λ (k : ℕ). ranges_with k before m) (ranges-push (Some m) ns n) ∙ either_first (begins before m) (begins (last_after (Some m) ns) n) (ranges_after (Some m) ns)
  where
    either_first : (a b : Bool) (k : ℕ) → cond a (cond b (k + 1) k + 1) (cond b (k + 1) k) ≡ cond b (cond a (k + 1) k + 1) (cond a (k + 1) k)
    either_first true true k = refl
    either_first true false k = refl
    either_first false true k = refl
    either_first false false k = refl

pub rising-push : (before : Option ℕ) (ns : List ℕ) (n : ℕ) → rising_after before (ns ++ n ∷ []) ≡ (rising_after before ns && is_above (last_after before ns) n)
unfolding last_after rising_after
rising-push before [] n = refl_and (is_above before n)
  where
    refl_and : (b : Bool) → (b && true) ≡ (true && b)
    refl_and b = grind arith
rising-push before (m ∷ ns) n = ap (λ (b : Bool). is_above before m && b) (rising-push (Some m) ns n) ∙ grouped (is_above before m) (rising_after (Some m) ns) (is_above (last_after (Some m) ns) n)
  where
    grouped : (a b c : Bool) → (a && (b && c)) ≡ ((a && b) && c)
    grouped a b c = grind arith

pub last_page : (pages : List PageImage) (p : PageImage) → last (page_numbers (pages ++ p ∷ [])) ≡ Some p.number
last_page pages p = rw map_push (last-push None (page_numbers pages) p.number)

pub page_ranges : (pages : List PageImage) (p : PageImage) → ranges (page_numbers (pages ++ p ∷ [])) ≡ ranges_with (ranges (page_numbers pages)) (last (page_numbers pages)) p.number
page_ranges pages p = rw map_push (ranges-push None (page_numbers pages) p.number)

pub last_slot : (slots : List SlotImage) (s : SlotImage) → last (slot_numbers (slots ++ s ∷ [])) ≡ Some s.slot
last_slot slots s = rw map_push (last-push None (slot_numbers slots) s.slot)
