-- One page of a store, and those that follow.
use Rattle.std.proofs.Common.{◌≡◌, ◌≢◌, ℕ, suc, ◌+◌, ◌-◌, ◌<◌, ◌≤◌, List, [], ◌∷◌, arith, length, refl, sym, ap, ◌∙◌, Bool, true, false, cond, Some, get_or}
use Rattle.std.specs.Prelude.{◌&&◌, count_by, is_some, unwrap_or}
use Rattle.std.specs.List.{list_all, range_with_len}
use Rattle.std.proofs.lemmas.Bool.{and_parts}
use Rattle.std.proofs.lemmas.List.FromFn.{get_or-range_with_len, length-range_with_len}
use Rattle.lwc_base.specs.Cells.{page_at, put_page}
use Rattle.lwc_base.specs.Store.{Piece}
use Rattle.lwc_base.specs.World.{World, change_counters, is_live}
use Rattle.lwc_types.specs.declared.key.Key.{Key}
use Rattle.lwc_types.specs.declared.counters.Counters.{Counters}
use Rattle.lwc_types.specs.declared.key.Key.TheVariants.{Page}
use Rattle.lwc_types.specs.declared.name.Name.{Name}
use Rattle.lwc_types.specs.declared.page.PageValue.TheVariants.{Zero}
use Rattle.lazy_world.specs.Stores.{parts_at, store_pages, taken_at, value_after}
use Rattle.lazy_world.proofs.StoreLemmas.{count-one, counted-value, next-tags, store-more, store-one}
use Rattle.lwc_base.proofs.Facts.{changes}
use Rattle.lwc_base.proofs.Common.{put-other_key}
use Rattle.lwc_types.proofs.Small.{steps_left}

-- the pages from one on are that one and those that follow
split : (p end : ℕ) → p < end → range_with_len p (end - p) ≡ p ∷ range_with_len (p + 1) (end - (p + 1))
split p end low = ap (range_with_len p) (sym (steps_left p end low))

pub two-pages : (p q : ℕ) → ◌≡◌ {A = Key} (Page q) (Page p) → q ≡ p
two-pages p q is = cc

same-all : (f g : ℕ → Bool) (ps : List ℕ) → ((j d : ℕ) → j < length ps → f (get_or ps j d) ≡ g (get_or ps j d)) → list_all f ps ≡ list_all g ps
same-all f g [] same = refl
same-all f g (p ∷ ps) same =
    let first = same 0 p (omega arith) in
    let rest = same-all f g ps (λ j d lt. same (suc j) d (omega (arith, lt))) in
    λ e. first e && rest e

-- what the first page takes, and those that follow
pub first-count : (w : World) (c : Name) (p end : ℕ) → p < end → count_by (parts_at w c) (range_with_len p (end - p)) ≡ taken_at w c p + count_by (parts_at w c) (range_with_len (p + 1) (end - (p + 1)))
first-count w c p end low = ap (count_by (parts_at w c)) (split p end low) ∙ count-one (parts_at w c) p (range_with_len (p + 1) (end - (p + 1)))

pub first-there : (w : World) (c : Name) (p end : ℕ) → p < end → list_all (λ q. is_some (page_at w c q)) (range_with_len p (end - p)) ≡ true →
    (is_some (page_at w c p) ≡ true) × (list_all (λ q. is_some (page_at w c q)) (range_with_len (p + 1) (end - (p + 1))) ≡ true)
first-there w c p end low all = and_parts _ _ (sym (ap (list_all (λ q. is_some (page_at w c q))) (split p end low)) ∙ all)

module _ (w v : World) (c : Name) (job : ℕ) (piece : Piece) (p end : ℕ) (low : p < end) (is : v ≡ store_pages w c job piece (p ∷ [])) (others : (q : ℕ) → q ≢ p → parts_at v c q ≡ parts_at w c q) where
  abbrev rest : List ℕ
  rest = range_with_len (p + 1) (end - (p + 1))

  abbrev f : Counters → Counters
  f = λ n. record n { tags = n.tags + taken_at w c p }

  abbrev put : World
  put = put_page w c p (value_after w c job piece p)

  one : v ≡ change_counters put job f
  one = is ∙ store-one w c job piece p

  apart : (j d : ℕ) → j < length rest → get_or rest j d ≢ p
  apart j d lt same =
      let at = get_or-range_with_len (p + 1) (end - (p + 1)) j d (omega (arith, lt, length-range_with_len (p + 1) (end - (p + 1)))) in omega (arith, at, same)

  same-page : (q : ℕ) → q ≢ p → page_at v c q ≡ page_at w c q
  same-page q off =
      ap (λ (x : World). page_at x c q) one ∙ counted-value put job f c q ∙ put-other_key w c (Page p) (Some (value_after w c job piece p)) c (Page q) (λ same. off (two-pages p q same))

  pub step-there : list_all (λ q. is_some (page_at w c q)) rest ≡ true → list_all (λ q. is_some (page_at v c q)) rest ≡ true
  step-there all = same-all (λ q. is_some (page_at v c q)) (λ q. is_some (page_at w c q)) rest (λ j d lt. ap is_some (same-page (get_or rest j d) (apart j d lt))) ∙ all

  same-count : (ps : List ℕ) → ((j d : ℕ) → j < length ps → parts_at v c (get_or ps j d) ≡ parts_at w c (get_or ps j d)) → count_by (parts_at v c) ps ≡ count_by (parts_at w c) ps
  same-count [] same = refl
  same-count (q ∷ ps) same =
      let part = ap {B = ℕ} (λ (b : Bool). cond b 1 0) (same 0 q (omega arith)) in
      let tail = same-count ps (λ j d lt. same (suc j) d (omega (arith, lt))) in
      omega (arith, part, tail, count-one (parts_at v c) q ps, count-one (parts_at w c) q ps)

  pub step-count : count_by (parts_at w c) (range_with_len p (end - p)) ≡ taken_at w c p + count_by (parts_at v c) rest
  step-count = let same = same-count rest (λ j d lt. others (get_or rest j d) (apart j d lt)) in omega (arith, first-count w c p end low, same)

  pub step-stored : store_pages v c job piece rest ≡ store_pages w c job piece (range_with_len p (end - p))
  step-stored =
      store-more w v c job piece p rest is (λ j d lt. ap (λ o. unwrap_or o Zero) (same-page (get_or rest j d) (apart j d lt))) (λ j d lt. others (get_or rest j d) (apart j d lt))
      ∙ ap (store_pages w c job piece) (sym (split p end low))

  pub step-tags : (v.next job).tags ≡ (w.next job).tags + taken_at w c p
  step-tags =
      ap (λ (x : World). (x.next job).tags) one ∙ ap (λ (n : Counters). n.tags) (next-tags put c job f)
      ∙ ap (λ (next : ℕ → Counters). (next job).tags + taken_at w c p) (changes.put w c (Page p) (Some (value_after w c job piece p))).next

  counted-size : (x : World) → (change_counters x job f).size ≡ x.size
  unfolding change_counters
  counted-size x = refl

  counted-live : (x : World) → is_live (change_counters x job f) c ≡ is_live x c
  unfolding change_counters
  counted-live x = refl

  pub step-size : v.size ≡ w.size
  step-size = ap (λ (x : World). x.size) one ∙ counted-size put ∙ (changes.put w c (Page p) (Some (value_after w c job piece p))).size

  pub step-live : is_live v c ≡ is_live w c
  step-live = ap (λ (x : World). is_live x c) one ∙ counted-live put ∙ (changes.put w c (Page p) (Some (value_after w c job piece p))).live c

pub taken-one : (b : Bool) → cond b 1 0 ≤ 1
taken-one true = omega arith
taken-one false = omega arith
