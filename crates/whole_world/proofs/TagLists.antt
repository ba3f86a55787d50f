-- Lists of tags: whether a tag is in one, how often, and how many different ones there are.
use mir.Val.{bool_byte}
use Rattle.std.proofs.Common.{◌≡◌, ℕ, ◌+◌, ◌≤◌, List, [], ◌∷◌, ◌++◌, length, refl, sym, ap, ◌∙◌, Bool, true, false, cond, ◌||◌, arith, Option, Some, None}
use Rattle.std.specs.Prelude.{count_by, not}
use Rattle.std.specs.List.{flat_map, list_any}
use Rattle.std.specs.Ordering.{is_eq}
use Rattle.std.specs.Cmp.{eq_by_cmp_equiv}
use Rattle.std.specs.FinSet as set
use Rattle.std.proofs.lemmas.List.Folds.{list_any-append}
use Rattle.std.proofs.lemmas.List.Sums.{sum_by-append, sum_by-cons, count_by-le-length}
use Rattle.lwc_base.specs.Frames.{tag_of}
use Rattle.lwc_types.specs.declared.name.Tag.{Tag}
use Rattle.lwc_types.specs.declared.page.PageValue.{PageValue}
use Rattle.lwc_types.specs.declared.page.PageValue.TheVariants.{Zero, Data}
use Rattle.lwc_types.specs.Names.{tag_cmp}
use Rattle.whole_world.specs.Tags.{has_tag, page_tags, times, different}
use Rattle.lwc_base.proofs.Facts.{orders}

-- a tag is in one of two lists
pub has_tag-append : (tag : Tag) (xs ys : List Tag) → has_tag tag (xs ++ ys) ≡ (has_tag tag xs || has_tag tag ys)
unfolding has_tag
has_tag-append tag xs ys = list_any-append (λ t. is_eq (tag_cmp t tag)) xs ys

-- a tag is in the lists of all where it is in the list of one
pub has_tag-flat_map : {X : Type 0} (tag : Tag) (f : X → List Tag) (xs : List X) → has_tag tag (flat_map f xs) ≡ list_any (λ x. has_tag tag (f x)) xs
unfolding has_tag
has_tag-flat_map tag f [] = refl
has_tag-flat_map tag f (x ∷ xs) = list_any-append (λ t. is_eq (tag_cmp t tag)) (f x) (flat_map f xs) ∙ ap (λ b. has_tag tag (f x) || b) (has_tag-flat_map tag f xs)

-- a tag is in two lists as often as in both
pub times-append : (tag : Tag) (xs ys : List Tag) → times tag (xs ++ ys) ≡ times tag xs + times tag ys
unfolding times
times-append tag xs ys = sum_by-append (λ t. cond (is_eq (tag_cmp t tag)) 1 0) xs ys

-- no more often than the list is long
pub times-le-length : (tag : Tag) (xs : List Tag) → times tag xs ≤ length xs
unfolding times
times-le-length tag xs = count_by-le-length (λ t. is_eq (tag_cmp t tag)) xs

-- none is in an empty list
pub times-nil : (tag : Tag) → times tag [] ≡ 0
unfolding times
times-nil tag = refl

one_tag : (tag own : Tag) → times tag (own ∷ []) ≡ cond (has_tag tag (own ∷ [])) 1 0
unfolding times has_tag
one_tag tag own = one_or_none (is_eq (tag_cmp own tag))
  where
    one_or_none : (b : Bool) → 0 + cond b 1 0 ≡ cond (b || false) 1 0
    one_or_none true = refl
    one_or_none false = refl

-- the tag of a value is there once or not at all
times-value : (tag : Tag) (value : Option PageValue) → times tag (tag_of value) ≡ cond (has_tag tag (tag_of value)) 1 0
unfolding times has_tag
times-value tag None = refl
times-value tag (Some Zero) = refl
times-value tag (Some (Data own bytes)) = one_tag tag own

-- a tag is in pages as often as pages have it
pub times_pages : {P : Type 0} (tag : Tag) (value : P → Option PageValue) (pages : List P) →
    times tag (page_tags value pages) ≡ count_by (λ page. has_tag tag (tag_of (value page))) pages
unfolding page_tags
times_pages tag value [] = times-nil tag
times_pages tag value (page ∷ pages) =
    times-append tag (tag_of (value page)) (flat_map (λ page. tag_of (value page)) pages)
    ∙ (λ i. times-value tag (value page) i + times_pages tag value pages i)
    ∙ sym (sum_by-cons (λ page. cond (has_tag tag (tag_of (value page))) 1 0) page pages)

pub different-nil : different [] ≡ 0
unfolding different
different-nil = set.len-empty tag_cmp

-- the tags of a page and of the others
pub page_tags-cons : {P : Type 0} (value : P → Option PageValue) (page : P) (pages : List P) → page_tags value (page ∷ pages) ≡ tag_of (value page) ++ page_tags value pages
unfolding page_tags
page_tags-cons value page pages = refl

pub page_tags-nil : {P : Type 0} (value : P → Option PageValue) → page_tags value [] ≡ []
unfolding page_tags
page_tags-nil value = refl

contains-tags : (tag : Tag) (xs : List Tag) → set.contains (set.from_list {R = tag_cmp} xs) tag ≡ has_tag tag xs
unfolding has_tag
contains-tags tag xs =
    set.contains-from_list orders.tags xs tag
    ∙ ap (λ (p : Tag → Bool). list_any p xs) (λ i t. (eq_by_cmp_equiv orders.tags).symm tag t i)

one_more : (b : Bool) (n : ℕ) → cond b n (n + 1) ≡ cond (not b) 1 0 + n
one_more true n = omega arith
one_more false n = omega arith

-- one tag more in front makes one different one more, where it is not in the others
pub different-cons : (t : Tag) (ts : List Tag) → different (t ∷ ts) ≡ cond (not (has_tag t ts)) 1 0 + different ts
unfolding different
different-cons t ts =
    set.len-insert orders.tags (set.from_list {R = tag_cmp} ts) t
    ∙ ap (λ b. cond b (set.len (set.from_list {R = tag_cmp} ts)) (set.len (set.from_list {R = tag_cmp} ts) + 1)) (contains-tags t ts)
    ∙ one_more (has_tag t ts) _

cond_at_most_one : (b : Bool) → cond b 1 0 ≤ 1
cond_at_most_one true = omega arith
cond_at_most_one false = omega arith

-- a tag that is in neither of two lists is one different tag more
pub different-new : (tag : Tag) (xs ys : List Tag) (n : ℕ) → n ≡ bool_byte (not (has_tag tag xs || has_tag tag ys)) → n + different (xs ++ ys) ≡ different (tag ∷ (xs ++ ys))
different-new tag xs ys n count =
    ap (λ m. m + different (xs ++ ys)) (count ∙ ap (λ b. bool_byte (not b)) (sym (has_tag-append tag xs ys)) ∙ one_where (not (has_tag tag (xs ++ ys)))) ∙ sym (different-cons tag (xs ++ ys))
  where
    one_where : (b : Bool) → bool_byte b ≡ cond b 1 0
    one_where true = refl
    one_where false = refl

-- no more different ones than there are
pub different-le-length : (xs : List Tag) → different xs ≤ length xs
unfolding different
different-le-length [] = omega (arith, set.len-empty tag_cmp)
different-le-length (t ∷ ts) = omega (arith, different-cons t ts, cond_at_most_one (not (has_tag t ts)), different-le-length ts)

-- with others there are no fewer
pub different-append_least : (xs ys : List Tag) → different ys ≤ different (xs ++ ys)
different-append_least [] ys = omega arith
different-append_least (x ∷ xs) ys = omega (arith, different-cons x (xs ++ ys), different-append_least xs ys)

-- and no more than as many more
pub different-append_most : (xs ys : List Tag) → different (xs ++ ys) ≤ length xs + different ys
different-append_most [] ys = omega arith
different-append_most (x ∷ xs) ys = omega (arith, different-cons x (xs ++ ys), cond_at_most_one (not (has_tag x (xs ++ ys))), different-append_most xs ys)
