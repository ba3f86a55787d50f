-- A store of bytes under other numbers.
use Rattle.std.proofs.Common.{◌≡◌, ℕ, ◌+◌, refl, ap, ◌∙◌, Bool, true, false, cond, ltb, not, Option, Some, None, List, [], ◌∷◌, map, length}
use Rattle.std.specs.Prelude.{count_by, is_some, unwrap_or}
use Rattle.std.specs.List.{list_all}
use Rattle.std.specs.Option.{option_map}
use Rattle.lwc_base.specs.Cells.{page_at, put_page}
use Rattle.lwc_base.specs.Frames.{is_parting, used}
use Rattle.lwc_base.specs.Memory.{is_present, touched}
use Rattle.lwc_base.specs.Rights.{is_writable, may_write, right_at}
use Rattle.lwc_base.specs.Store.{Piece, Absent, ReadOnly, Full, Done, after_store, bytes_after, page_value_at, parting_count, put_pages, store, stored_pages, stored_value}
use Rattle.lwc_base.specs.World.{World, Context, change_counters}
use Rattle.lwc_types.specs.Pages.{bytes_of}
use Rattle.lwc_types.specs.declared.counters.Counters.{Counters}
use Rattle.lwc_types.specs.declared.key.Key.TheVariants.{Page}
use Rattle.lwc_types.specs.declared.name.Name.{Name}
use Rattle.lwc_types.specs.declared.name.Tag.{Tag}
use Rattle.lwc_types.specs.declared.page.PageValue.{PageValue}
use Rattle.lwc_types.specs.declared.page.PageValue.TheVariants.{Zero, Data}
use Rattle.lwc_names.proofs.Frames.{parting-shifted, used-shifted}
use Rattle.lwc_names.proofs.Puts.{put_page-shifted}
use Rattle.lwc_names.proofs.Worlds.{change_counters-shifted, context-shifted, counters-shifted, value_at-shifted}
use Rattle.lwc_names.proofs.Answers.{shifted_stored}
use Rattle.lwc_names.specs.Shifts.{shifted_job, shifted_name, shifted_page, shifted_tag, shifted_world}

module _ (r : ℕ) where
  some-shifted : (o : Option PageValue) → is_some (option_map (shifted_page r) o) ≡ is_some o
  some-shifted None = refl
  some-shifted (Some x) = refl

  or_zero : (o : Option PageValue) → unwrap_or (option_map (shifted_page r) o) Zero ≡ shifted_page r (unwrap_or o Zero)
  or_zero None = refl
  or_zero (Some x) = refl

  pub bytes-shifted : (value : PageValue) → bytes_of (shifted_page r value) ≡ bytes_of value
  bytes-shifted Zero = refl
  bytes-shifted (Data tag bytes) = refl

  stored_value-shifted : (parting : Bool) (tag : Tag) (value : PageValue) (bytes : List ℕ) → stored_value parting (shifted_tag r tag) (shifted_page r value) bytes ≡ shifted_page r (stored_value parting tag value bytes)
  stored_value-shifted parting tag Zero bytes = refl
  stored_value-shifted true tag (Data old was) bytes = refl
  stored_value-shifted false tag (Data old was) bytes = refl

  abbrev shifted_row : ℕ × PageValue → ℕ × PageValue
  shifted_row v = (v.0, shifted_page r v.1)

  module _ (w : World) (c : Name) where
    pub page_at-shifted : (p : ℕ) → page_at (shifted_world r w) (shifted_name r c) p ≡ option_map (shifted_page r) (page_at w c p)
    page_at-shifted p = value_at-shifted r w c (Page p)

    pub present-shifted : (at count : ℕ) → is_present (shifted_world r w) (shifted_name r c) at count ≡ is_present w c at count
    unfolding is_present
    present-shifted at count = λ i. list_all (λ p. (ap is_some (page_at-shifted p) ∙ some-shifted (page_at w c p)) i) (touched at count)

    pub right_at-shifted : (p : ℕ) → right_at (shifted_world r w) (shifted_name r c) p ≡ right_at w c p
    right_at-shifted p = ap (λ (x : Context). x.right p) (context-shifted r w c)

    writable-shifted : (at count : ℕ) → is_writable (shifted_world r w) (shifted_name r c) at count ≡ is_writable w c at count
    unfolding is_writable
    writable-shifted at count = λ i. list_all (λ p. may_write (right_at-shifted p i)) (touched at count)

    page_value-shifted : (p : ℕ) → page_value_at (shifted_world r w) (shifted_name r c) p ≡ shifted_page r (page_value_at w c p)
    page_value-shifted p = ap (λ o. unwrap_or o Zero) (page_at-shifted p) ∙ or_zero (page_at w c p)

    parts-shifted : (p : ℕ) → is_parting (shifted_world r w) (page_value_at (shifted_world r w) (shifted_name r c) p) ≡ is_parting w (page_value_at w c p)
    parts-shifted p = ap (is_parting (shifted_world r w)) (page_value-shifted p) ∙ parting-shifted r w (page_value_at w c p)

    pub parting_count-shifted : (piece : Piece) → parting_count (shifted_world r w) (shifted_name r c) piece ≡ parting_count w c piece
    unfolding parting_count
    parting_count-shifted piece = λ i. count_by (λ p. parts-shifted p i) (touched piece.at (length piece.bytes))

    stored_pages-shifted : (job : ℕ) (piece : Piece) (k : ℕ) (ps : List ℕ) → stored_pages (shifted_world r w) (shifted_name r c) (shifted_job r job) piece k ps ≡ map shifted_row (stored_pages w c job piece k ps)
    stored_pages-shifted job piece k [] = refl
    stored_pages-shifted job piece k (p ∷ ps) =
        let value = page_value_at w c p in
        let tag : Tag = record { job = job; k = k } in
        (λ i. (p, stored_value (parts-shifted p i) (shifted_tag r tag) (page_value-shifted p i) (bytes_after piece p (bytes_of (page_value-shifted p i)))) ∷ stored_pages (shifted_world r w) (shifted_name r c) (shifted_job r job) piece (cond (parts-shifted p i) (k + 1) k) ps)
        ∙ (λ i. (p, stored_value (is_parting w value) (shifted_tag r tag) (shifted_page r value) (bytes_after piece p (bytes-shifted value i))) ∷ stored_pages-shifted job piece (cond (is_parting w value) (k + 1) k) ps i)
        ∙ (λ i. (p, stored_value-shifted (is_parting w value) tag value (bytes_after piece p (bytes_of value)) i) ∷ map shifted_row (stored_pages w c job piece (cond (is_parting w value) (k + 1) k) ps))

  module _ (c : Name) where
    put_pages-shifted : (w : World) (vs : List (ℕ × PageValue)) → put_pages (shifted_world r w) (shifted_name r c) (map shifted_row vs) ≡ shifted_world r (put_pages w c vs)
    put_pages-shifted w [] = refl
    put_pages-shifted w (v ∷ vs) = ap (λ (u : World). put_pages u (shifted_name r c) (map shifted_row vs)) (put_page-shifted r w c v.0 v.1) ∙ put_pages-shifted (put_page w c v.0 v.1) vs

    after_store-shifted : (w : World) (job : ℕ) (piece : Piece) → after_store (shifted_world r w) (shifted_name r c) (shifted_job r job) piece ≡ shifted_world r (after_store w c job piece)
    unfolding after_store
    after_store-shifted w job piece =
        let ps = touched piece.at (length piece.bytes) in
        let more : ℕ → Counters → Counters = λ k n. record n { tags = n.tags + k } in
        (λ i. change_counters (put_pages (shifted_world r w) (shifted_name r c) (stored_pages (shifted_world r w) (shifted_name r c) (shifted_job r job) piece (counters-shifted r w job i).tags ps)) (shifted_job r job) (more (parting_count-shifted w c piece i)))
        ∙ ap (λ vs. change_counters (put_pages (shifted_world r w) (shifted_name r c) vs) (shifted_job r job) (more (parting_count w c piece))) (stored_pages-shifted w c job piece (w.next job).tags ps)
        ∙ ap (λ (u : World). change_counters u (shifted_job r job) (more (parting_count w c piece))) (put_pages-shifted w (stored_pages w c job piece (w.next job).tags ps))
        ∙ change_counters-shifted r (put_pages w c (stored_pages w c job piece (w.next job).tags ps)) job (more (parting_count w c piece))

    stored_branch : (absent locked full : Bool) (w : World) → cond absent Absent (cond locked ReadOnly (cond full Full (Done (shifted_world r w)))) ≡ shifted_stored r (cond absent Absent (cond locked ReadOnly (cond full Full (Done w))))
    stored_branch true locked full w = refl
    stored_branch false true full w = refl
    stored_branch false false true w = refl
    stored_branch false false false w = refl

    pub store-shifted : (w : World) (job : ℕ) (piece : Piece) → store (shifted_world r w) (shifted_name r c) (shifted_job r job) piece ≡ shifted_stored r (store w c job piece)
    unfolding store shifted_world
    store-shifted w job piece =
        (λ i. cond (not (present-shifted w c piece.at (length piece.bytes) i)) Absent (cond (not (writable-shifted w c piece.at (length piece.bytes) i)) ReadOnly (cond (ltb w.size.frames (used-shifted r w i + parting_count-shifted w c piece i)) Full (Done (after_store-shifted w job piece i)))))
        ∙ stored_branch (not (is_present w c piece.at (length piece.bytes))) (not (is_writable w c piece.at (length piece.bytes))) (ltb w.size.frames (used w + parting_count w c piece)) (after_store w c job piece)
