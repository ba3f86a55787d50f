-- The pages of a context, one after another.
use Rattle.std.proofs.Common.{◌≡◌, ◌+◌, ◌<◌, ◌≤◌, ℕ, Bool, true, false, cond, drop, get_or, length, List, [], ◌∷◌, ◌++◌, Option, None, Some, map, sym, ap, ◌∙◌, arith}
use Rattle.std.specs.List.{cons_option, filter_map, range_with_len}
use Rattle.std.proofs.lemmas.List.{append-nil, at_drop_all, at_drop_more, map-id}
use Rattle.std.proofs.lemmas.List.Elements.{filter_map-append}
use Rattle.std.proofs.lemmas.List.FromFn.{map-range_with_len_more}
use Rattle.guest_image.specs.Limits.{page_numbers}
use Rattle.guest_image.specs.Numbers.{begins, ranges, ranges_after}
use Rattle.guest_image.specs.declared.image.PageImage.{PageImage}
use Rattle.lwc_base.specs.World.{World}
use Rattle.lwc_types.specs.declared.name.Name.{Name}
use Rattle.lwc_session.specs.Pages.{page_at}

-- the pages below a number
abbrev pub pages_below : World → Name → ℕ → List PageImage
pages_below w c n = filter_map (page_at w c) (range_with_len 0 n)

numbers_more : (n : ℕ) → range_with_len 0 (n + 1) ≡ range_with_len 0 n ++ n ∷ []
numbers_more n =
    sym (map-id (range_with_len 0 (n + 1))) ∙ map-range_with_len_more (λ (p : ℕ). p) 0 n n (omega arith)
    ∙ ap (λ (l : List ℕ). l ++ n ∷ []) (map-id (range_with_len 0 n))

next_page : (w : World) (c : Name) (n : ℕ) → pages_below w c (n + 1) ≡ pages_below w c n ++ cons_option (page_at w c n) []
next_page w c n = ap (filter_map (page_at w c)) (numbers_more n) ∙ filter_map-append (page_at w c) (range_with_len 0 n) (n ∷ [])

-- with a page that is present
pub one_more : (w : World) (c : Name) (n : ℕ) (page : PageImage) (pages : List PageImage) → Some page ≡ page_at w c n → pages ≡ pages_below w c n → pages ++ page ∷ [] ≡ pages_below w c (n + 1)
one_more w c n page pages is before =
    ap (λ (l : List PageImage). l ++ page ∷ []) before
    ∙ ap (λ (o : Option PageImage). pages_below w c n ++ cons_option o []) is ∙ sym (next_page w c n)

-- and with one that is absent
pub none_more : (w : World) (c : Name) (n : ℕ) (pages : List PageImage) → None ≡ page_at w c n → pages ≡ pages_below w c n → pages ≡ pages_below w c (n + 1)
none_more w c n pages is before =
    before ∙ sym (append-nil (pages_below w c n))
    ∙ ap (λ (o : Option PageImage). pages_below w c n ++ cons_option o []) is ∙ sym (next_page w c n)

count_by : (b : Bool) (count rest : ℕ) → count + cond b (rest + 1) rest ≡ cond b (count + 1) count + rest
count_by true count rest = omega arith
count_by false count rest = omega arith

-- the ranges that were counted, with the next page
pub count_more : (before : Option ℕ) (pages : List PageImage) (i count now : ℕ) (page : PageImage) (b : Bool) → i < length pages → b ≡ begins before (get_or pages i page).number → now ≡ cond b (count + 1) count →
    ranges (page_numbers pages) ≡ count + ranges_after before (page_numbers (drop i pages)) →
    ranges (page_numbers pages) ≡ now + ranges_after (Some (get_or pages i page).number) (page_numbers (drop (i + 1) pages))
unfolding ranges_after
count_more before pages i count now page b inside is more so_far =
    let n = (get_or pages i page).number in
    let rest = ranges_after (Some n) (page_numbers (drop (i + 1) pages)) in
    so_far ∙ ap (λ (k : ℕ). count + k) (at_drop_more (λ (l : List PageImage). ranges_after before (page_numbers l)) pages i page inside)
    ∙ ap (λ (c : Bool). count + cond c (rest + 1) rest) (sym is) ∙ count_by b count rest ∙ ap (λ (k : ℕ). k + rest) (sym more)

-- and of all pages
pub count_all : (before : Option ℕ) (pages : List PageImage) (i : ℕ) → length pages ≤ i → ranges_after before (page_numbers (drop i pages)) ≡ 0
unfolding ranges_after
count_all before pages i past = at_drop_all (λ (l : List PageImage). ranges_after before (page_numbers l)) pages i past
