-- What each context reads once a piece is stored.
use Rattle.std.proofs.Common.{◌≡◌, ◌≢◌, ℕ, ◌/◌, refl, ap, ◌∙◌, Some, List, [], ◌∷◌, length, arith, rules}
use Rattle.lwc_base.specs.Cells.{page_at, put_page, value_at}
use Rattle.lwc_base.specs.Clones.{AreApart, HaveInCommon}
use Rattle.lwc_base.specs.Memory.{byte_at, touched}
use Rattle.lwc_base.specs.Modes.{number_of}
use Rattle.lwc_base.specs.Store.{Piece, Done, after_store, stored_pages, put_pages, store}
use Rattle.lwc_base.specs.World.{World, context, group, change_counters}
use Rattle.lwc_base.proofs.Common.{put-other_key, put-apart, apart-put_at, common-after_store, value_at-common}
use Rattle.lwc_base.proofs.Stored.{IsDone, is_done}
use Rattle.lwc_types.specs.declared.key.Key.{Key}
use Rattle.lwc_types.specs.declared.key.Key.TheVariants.{Page}
use Rattle.lwc_types.specs.declared.name.Name.{Name}
use Rattle.lwc_types.specs.declared.page.PageValue.{PageValue}
use Rattle.lwc_types.specs.declared.page.TheConstants.{PAGE_BYTES}

-- what is put under pages is read under no other key
pub put_pages-other_keys : (w : World) (c : Name) (values : List (ℕ × PageValue)) (d : Name) (k : Key) → ((p : ℕ) → k ≢ Page p) → value_at (put_pages w c values) d k ≡ value_at w d k
put_pages-other_keys w c [] d k other = refl
put_pages-other_keys w c (v ∷ vs) d k other =
    put_pages-other_keys (put_page w c v.0 v.1) c vs d k other ∙ put-other_key w c (Page v.0) (Some v.1) d k (other v.0)

-- nor in a context that is apart
put_pages-apart : (w : World) (c d : Name) (p : ℕ) (values : List (ℕ × PageValue)) → AreApart w c d (Page p) → page_at (put_pages w c values) d p ≡ page_at w d p
put_pages-apart w c d p [] apart = refl
put_pages-apart w c d p (v ∷ vs) apart =
    let rest = put_pages-apart (put_page w c v.0 v.1) c d p vs (apart-put_at w c (Page v.0) (Some v.1) c d (Page p) apart) in
    let here = put-apart w c (Page p) (Some v.1) d apart in
    let other = λ (differ : p ≢ v.0). put-other_key w c (Page v.0) (Some v.1) d (Page p) (λ e. differ (ap number_of e)) in
    rest ∙ grind (arith, other)

page_at-after_store : (w : World) (c : Name) (job : ℕ) (piece : Piece) (d : Name) (p : ℕ) →
    page_at (after_store w c job piece) d p ≡ page_at (put_pages w c (stored_pages w c job piece (w.next job).tags (touched piece.at (length piece.bytes)))) d p
unfolding after_store change_counters value_at context group
page_at-after_store w c job piece d p = refl

-- the laws of a store that is done
module _ (w v : World) (c : Name) (job : ℕ) (piece : Piece) (done : store w c job piece ≡ Done v) where
  is : IsDone w c job piece v
  is = is_done w c job piece v done

  -- a byte of a context that is apart
  pub store-apart : (d : Name) (at : ℕ) → AreApart w c d (Page (at / PAGE_BYTES)) → byte_at v d at ≡ byte_at w d at
  unfolding byte_at
  store-apart d at apart = search (rules, page_at-after_store, put_pages-apart, is)

  -- a byte of a page that is common
  pub store-common : (d : Name) (at : ℕ) → HaveInCommon w c d (Page (at / PAGE_BYTES)) → byte_at v d at ≡ byte_at v c at
  unfolding byte_at
  store-common d at both = search (rules, value_at-common, common-after_store, is)

  -- what is under other keys
  pub store-other_keys : (d : Name) (k : Key) → ((p : ℕ) → k ≢ Page p) → value_at v d k ≡ value_at w d k
  unfolding after_store change_counters value_at context group
  store-other_keys d k other = search (rules, is, put_pages-other_keys)
