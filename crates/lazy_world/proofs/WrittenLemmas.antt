-- A page of a context that a piece is written to: the world afterwards, the frames that it uses, and the pages that part.
use Rattle.std.proofs.Common.{◌≡◌, ◌≢◌, ◌⊎◌, inl, inr, ⊎_elim, ℕ, ◌+◌, ◌<◌, List, [], ◌∷◌, arith, length, length-set, refl, sym, ap, subst, ◌∙◌, Bool, true, false, cond, Option, Some, None, get_or, set}
use Rattle.std.proofs.lemmas.Bool.{cases_eq, cases_lt}
use Rattle.std.specs.Prelude.{is_some, unwrap_or}
use Rattle.std.specs.FinMap as fm
use Rattle.lwc_base.specs.declared.cell.Cell.{Cell}
use Rattle.lwc_base.specs.declared.cell.Cell.TheVariants.{Own, Common}
use Rattle.lwc_base.specs.Cells.{page_at, put_page}
use Rattle.lwc_base.specs.Frames as frames
use Rattle.lwc_base.specs.Frames.{own_value}
use Rattle.lwc_base.specs.Store.{Piece, bytes_after, page_value_at, stored_value}
use Rattle.lwc_base.specs.World.{World, change_counters, nothing_counted}
use Rattle.lwc_types.specs.declared.key.Key.TheVariants.{Page}
use Rattle.lwc_types.specs.declared.counters.Counters.{Counters}
use Rattle.lwc_types.specs.declared.name.Name.{Name}
use Rattle.lwc_types.specs.declared.name.Tag.{Tag}
use Rattle.lwc_types.specs.declared.page.PageValue.{PageValue}
use Rattle.lwc_types.specs.declared.page.PageValue.TheVariants.{Zero, Data}
use Rattle.lwc_types.specs.Pages.{bytes_of}
use Rattle.range_map.specs.declared.segment.SegmentKind.TheVariants as kind
use Rattle.range_map.specs.Kinds.{kind_of}
use Rattle.cow_space.specs.Cells.{IsOwnPage, Place, place_of}
use Rattle.cow_space.specs.Tags as places
use Rattle.cow_space.specs.Tags.{own_values, parts}
use Rattle.cow_space.specs.Writes.{page_value, write_page, written_value}
use Rattle.ctx_table.specs.NameTables.{ArePlaced}
use Rattle.lazy_world.specs.Cells.{Row, is_nothing, put_row}
use Rattle.lazy_world.specs.Memory.{holder, page_in}
use Rattle.lazy_world.specs.Sound.{IsSound}
use Rattle.lazy_world.specs.States.{Parts, context_at, world_of}
use Rattle.lazy_world.specs.Stores.{parts_at, store_pages, taken_at, value_after}
use Rattle.lazy_world.proofs.HolderLemmas.{holder-own, page-held, page-lost}
use Rattle.lazy_world.proofs.MemoryLemmas.{page-in}
use Rattle.lazy_world.proofs.PlaceLemmas.{choose, pass}
use Rattle.lazy_world.proofs.SpotLemmas.{KeepsHome, counted-world, page-other, put-spot, sound-counted, sound-spot, with_page}
use Rattle.lazy_world.proofs.StoreLemmas.{counted-none, counted-put, counted-value, next-tags, store-one}
use Rattle.lazy_world.proofs.UsedLemmas.{parting-places, used-places}
use Rattle.lazy_world.proofs.WorldLemmas.{context-found}
use Rattle.lwc_base.proofs.Common.{put-other_key}
use Rattle.cow_space.proofs.Taken.{own-cell, parting-others, write-taken}
use Rattle.lazy_world.proofs.StepLemmas.{two-pages}
use Rattle.lwc_types.specs.declared.limits.TheConstants.{MOST_PAGES}

-- a page without bytes of its own parts
pub parts-none : (tags : List Tag) (cell : Cell (Option PageValue)) → kind_of cell ≡ None → true ≡ parts tags (own_value cell)
parts-none tags (Own None) is = refl
parts-none tags (Own (Some value)) is = absurd cc
parts-none tags (Common g) is = absurd cc

pub parts-common : (tags : List Tag) (g : Name) (cell : Cell (Option PageValue)) → kind_of cell ≡ Some (kind.Common g) → true ≡ parts tags (own_value cell)
parts-common tags g (Own None) is = absurd cc
parts-common tags g (Own (Some value)) is = absurd cc
parts-common tags g (Common h) is = refl

own-value : (cell : Cell (Option PageValue)) → kind_of cell ≡ Some kind.Own → is_some (own_value cell) ≡ true
own-value (Own None) is = absurd cc
own-value (Own (Some v)) is = refl
own-value (Common g) is = absurd cc

some-own : (cell : Cell (Option PageValue)) → is_some (own_value cell) ≡ true → (v : PageValue) × (cell ≡ Own (Some v))
some-own (Own None) there = absurd cc
some-own (Own (Some v)) there = (v, refl)
some-own (Common g) there = absurd cc

-- a stored value has the new tag where the page parts, and else the page's own
stored-tags : (b : Bool) (tag t : Tag) (v : PageValue) (bytes bs : List ℕ) → (v ≡ Zero → b ≡ true) → stored_value b tag v bytes ≡ Data t bs → ((b ≡ true) × (tag ≡ t)) ⊎ ((a : List ℕ) × (v ≡ Data t a))
stored-tags b tag t Zero bytes bs parts is = inl (parts refl, cc)
stored-tags true tag t (Data s old) bytes bs parts is = inl (refl, cc)
stored-tags false tag t (Data s old) bytes bs parts is = let same : s ≡ t = cc in inr (old, ap (λ u. Data u old) same)

zero-parts : (w : World) (v : PageValue) → v ≡ Zero → frames.is_parting w v ≡ true
unfolding frames.is_parting
zero-parts w Zero is = refl
zero-parts w (Data t bytes) is = absurd cc

-- whether the page at a holder parts
module _ (s : Parts) (sound : IsSound s) (placed : ArePlaced s.contexts) (placed_groups : ArePlaced s.groups) (cells : List Place)
    (tie : (m q : ℕ) → s.rows m (Page q) ≡ place_of cells m q) (long : length cells ≡ s.size.contexts + s.size.groups) (i p : ℕ) where
  pub parting-held : (j : ℕ) → holder s i p ≡ Some j → places.is_parting cells j p ≡ frames.is_parting (world_of s) (unwrap_or (page_in (world_of s) (s.rows i) p) Zero)
  unfolding places.is_parting
  parting-held j there = by (own_value (s.rows j (Page p))) refl ∙ sym (ap (λ o. frames.is_parting (world_of s) (unwrap_or o Zero)) (page-held s i p j there))
    where
      by : (o : Option PageValue) → own_value (s.rows j (Page p)) ≡ o → places.is_parting cells j p ≡ frames.is_parting (world_of s) (unwrap_or o Zero)
      by None is = ap (parts (places.tags cells)) (ap own_value (sym (tie j p)) ∙ is) ∙ sym (zero-parts (world_of s) Zero refl)
      by (Some v) is = sym (parting-places s sound placed placed_groups cells tie long j p v (own-cell (s.rows j (Page p)) v is))

  pub parting-lost : holder s i p ≡ None → true ≡ frames.is_parting (world_of s) (unwrap_or (page_in (world_of s) (s.rows i) p) Zero)
  parting-lost none = sym (ap (λ o. frames.is_parting (world_of s) (unwrap_or o Zero)) (page-lost s i p none) ∙ zero-parts (world_of s) Zero refl)

module _ (s : Parts) (sound : IsSound s) (placed : ArePlaced s.contexts) (placed_groups : ArePlaced s.groups) (cells : List Place)
    (tie : (m q : ℕ) → s.rows m (Page q) ≡ place_of cells m q) (long : length cells ≡ s.size.contexts + s.size.groups)
    (c : Name) (i : ℕ) (found : fm.get s.contexts.map c ≡ Some i) (p : ℕ) where
  abbrev w : World
  w = world_of s

  page-read : (q k : ℕ) → holder s i q ≡ Some k → page_at w c q ≡ own_value (s.rows k (Page q))
  page-read q k is = sym (page-in w c (context_at s i) q (context-found s c i found)) ∙ page-held s i q k is

  -- a page that is there has a holder
  pub no-holder : holder s i p ≡ None → is_some (page_at w c p) ≡ true → ⊥
  no-holder none there = let lost = sym (page-in w c (context_at s i) p (context-found s c i found)) ∙ page-lost s i p none in let two = sym there ∙ ap is_some lost in cc

  -- a page of the place's own is held by it, and is there
  pub own-held : IsOwnPage (place_of cells i p) → holder s i p ≡ Some i
  own-held own = holder-own s i (s.rows i (Page p)) (ap kind_of (tie i p) ∙ own)

  pub own-there : IsOwnPage (place_of cells i p) → is_some (page_at w c p) ≡ true
  own-there own = ap is_some (page-read p i (own-held own)) ∙ own-value (s.rows i (Page p)) (ap kind_of (tie i p) ∙ own)

  pub used-now : frames.used w ≡ places.used cells
  used-now = used-places s sound placed placed_groups cells tie long

  module _ (j : ℕ) (there : holder s i p ≡ Some j) (is_there : is_some (page_at w c p) ≡ true) (job : ℕ) where
    abbrev tag : Tag
    tag = record { job = job; k = (w.next job).tags }

    value : (v : PageValue) × (s.rows j (Page p) ≡ Own (Some v))
    value = some-own (s.rows j (Page p)) (ap is_some (sym (page-read p j there)) ∙ is_there)

    page-is : page_at w c p ≡ Some value.0
    page-is = page-read p j there ∙ ap own_value value.1

    pub own-now : IsOwnPage (place_of cells j p)
    own-now = ap kind_of (sym (tie j p) ∙ value.1)

    -- there is no page past the last one
    low-page : p < MOST_PAGES
    low-page =
        ⊎_elim (λ low. omega (arith, low, sound.sizes.size.pages.1)) (λ past. absurd (let none = sym (ap (is_nothing (Page p)) value.1) ∙ sound.past j (Page p) past in cc)) (cases_lt p s.size.pages)

    pub new-now : places.IsNewTag cells tag
    new-now m q bytes is = absurd (let old = sound.tags m q tag bytes (tie m q ∙ is) in omega (arith, old))

    pub part-now : places.is_parting cells j p ≡ parts_at w c p
    part-now =
        sym (ap (λ o. frames.is_parting w (unwrap_or o Zero)) page-is
        ∙ parting-places s sound placed placed_groups cells tie long j p value.0 value.1)

    -- the value once a piece is there
    module _ (piece : Piece) where
      read : page_value cells j p ≡ page_value_at w c p
      read = ap (λ (x : Cell (Option PageValue)). unwrap_or (own_value x) Zero) (sym (tie j p)) ∙ ap (λ o. unwrap_or o Zero) (sym (page-read p j there))

      written : written_value cells j p piece tag ≡ value_after w c job piece p
      written = λ e. stored_value (part-now e) tag (read e) (bytes_after piece p (bytes_of (read e)))

      tag-of : (t : Tag) (bytes : List ℕ) → written_value cells j p piece tag ≡ Data t bytes → ((parts_at w c p ≡ true) × (tag ≡ t)) ⊎ ((a : List ℕ) × (value.0 ≡ Data t a))
      tag-of t bytes is =
          stored-tags (parts_at w c p) tag t value.0 (bytes_after piece p (bytes_of value.0)) bytes
          (λ zero. ap (λ o. frames.is_parting w (unwrap_or o Zero)) page-is ∙ zero-parts w value.0 zero)
          ((λ e. stored_value (parts_at w c p) tag (unwrap_or (sym page-is e) Zero) (bytes_after piece p (bytes_of (unwrap_or (sym page-is e) Zero)))) ∙ sym written ∙ is)

      -- where the page does not part no tag is new, and nothing is counted
      module _ (alone : places.is_parting cells j p ≡ false) where
        abbrev in_place : Parts
        in_place = record s { rows = put_row s.rows j (with_page p (written_value cells j p piece tag) (s.rows j)) }

        stays : parts_at w c p ≡ false
        stays = sym part-now ∙ alone

        same-tag : (t : Tag) (bytes : List ℕ) → written_value cells j p piece tag ≡ Data t bytes → (a : List ℕ) × (value.0 ≡ Data t a)
        same-tag t bytes is = ⊎_elim (λ fresh. absurd (let yes = fresh.0 in cc (yes, stays))) (λ old. old) (tag-of t bytes is)

        pub sound-in_place : IsSound in_place
        sound-in_place =
            sound-spot s sound placed placed_groups c i found p j there value.0 (written_value cells j p piece tag) value.1
            (λ t bytes is. let old = same-tag t bytes is in sound.tags j p t old.0 (value.1 ∙ ap (λ u. Own (Some u)) old.1))
            (λ t bytes is. let old = same-tag t bytes is in inl (record { place = j; bytes = old.0; is = value.1 ∙ ap (λ u. Own (Some u)) old.1 }))

        pub world-in_place : world_of in_place ≡ store_pages w c job piece (p ∷ [])
        world-in_place =
            put-spot s sound placed placed_groups c i found p j there value.0 (written_value cells j p piece tag) value.1
            ∙ ap (λ u. put_page w c p u) written
            ∙ sym (counted-none (put_page w c p (value_after w c job piece p)) job)
            ∙ sym (ap (λ (b : Bool). change_counters (put_page w c p (value_after w c job piece p)) job (λ m. record m { tags = m.tags + cond b 1 0 })) stays)
            ∙ sym (store-one w c job piece p)

    module _ (known : job < s.size.jobs) (inside : j < length cells) (piece : Piece) (n : Counters)
        (counted : n ≡ record (get_or s.counts job nothing_counted) { tags = (get_or s.counts job nothing_counted).tags + taken_at w c p }) where
      abbrev v : PageValue
      v = written_value cells j p piece tag

      abbrev f : Counters → Counters
      f = λ m. record m { tags = m.tags + taken_at w c p }

      abbrev more : Parts
      more = record s { counts = set s.counts job n }

      abbrev later : Parts
      later = record s { counts = set s.counts job n; rows = put_row s.rows j (with_page p v (s.rows j)) }

      sound-more : IsSound more
      sound-more = sound-counted s sound job known n (taken_at w c p) counted

      pub world-later : world_of later ≡ store_pages w c job piece (p ∷ [])
      world-later =
          put-spot more sound-more placed placed_groups c i found p j there value.0 v value.1
          ∙ ap (λ (x : World). put_page x c p v) (counted-world s sound job known n (taken_at w c p) counted)
          ∙ counted-put w job f c p v
          ∙ ap (λ u. change_counters (put_page w c p u) job f) (written piece)
          ∙ sym (store-one w c job piece p)

      tags-later : (t : Tag) (bytes : List ℕ) → v ≡ Data t bytes → t.k < ((world_of more).next t.job).tags
      tags-later t bytes is =
          ⊎_elim
          (λ fresh.
          let now = ap (λ (x : World). (x.next job).tags) (counted-world s sound job known n (taken_at w c p) counted) ∙ ap (λ (m : Counters). m.tags) (next-tags w c job f) in
          let one = ap {B = ℕ} (λ (b : Bool). cond b 1 0) fresh.0 in
          let below : tag.k < ((world_of more).next tag.job).tags = omega (arith, now, one) in
          subst (λ (u : Tag). u.k < ((world_of more).next u.job).tags) fresh.1 below)
          (λ old. sound-more.tags j p t old.0 (value.1 ∙ ap (λ u. Own (Some u)) old.1))
          (tag-of piece t bytes is)

      keeps : KeepsHome s.rows p v
      keeps t bytes is =
          ⊎_elim
          (λ fresh. inr (λ m q b at_q. new-now m q b (sym (tie m q) ∙ at_q ∙ ap (λ (u : Tag). Own (Some (Data u b))) (sym fresh.1))))
          (λ old. inl (record { place = j; bytes = old.0; is = value.1 ∙ ap (λ u. Own (Some u)) old.1 }))
          (tag-of piece t bytes is)

      pub sound-later : IsSound later
      sound-later = sound-spot more sound-more placed placed_groups c i found p j there value.0 v value.1 tags-later keeps

      -- the cells of the places afterwards
      module _ (cells' : List Place) (is : cells' ≡ write_page cells j p piece tag) (tie' : (m q : ℕ) → later.rows m (Page q) ≡ place_of cells' m q) where
        long' : length cells' ≡ s.size.contexts + s.size.groups
        long' = ap length is ∙ length-set cells j _ ∙ long

        pub used-later : frames.used (world_of later) ≡ frames.used w + taken_at w c p
        used-later =
            used-places later sound-later placed placed_groups cells' tie' long'
            ∙ ap places.used is
            ∙ write-taken cells j p piece tag inside low-page new-now
            ∙ (λ e. sym used-now e + cond (part-now e) 1 0)

        -- another page reads as before
        page-later : (q : ℕ) → q ≢ p → page_at (world_of later) c q ≡ page_at w c q
        page-later q off =
            ap (λ (x : World). page_at x c q) (world-later ∙ store-one w c job piece p)
            ∙ counted-value (put_page w c p (value_after w c job piece p)) job f c q
            ∙ put-other_key w c (Page p) (Some (value_after w c job piece p)) c (Page q) (λ same. off (two-pages p q same))

        row-later : (k q : ℕ) → q ≢ p → later.rows k (Page q) ≡ s.rows k (Page q)
        row-later k q off =
            ⊎_elim
            (λ here. ap (λ (r : Row). r (Page q)) (choose j k (with_page p v (s.rows j)) (s.rows k) here) ∙ page-other p q v (s.rows j) off ∙ ap (λ m. s.rows m (Page q)) (sym here))
            (λ away. ap (λ (r : Row). r (Page q)) (pass j k (with_page p v (s.rows j)) (s.rows k) away))
            (cases_eq k j)

        data-parts : (q k : ℕ) (t : Tag) (b : List ℕ) → q ≢ p → s.rows k (Page q) ≡ Own (Some (Data t b)) → frames.is_parting (world_of later) (Data t b) ≡ frames.is_parting w (Data t b)
        data-parts q k t b off at_q =
            parting-places later sound-later placed placed_groups cells' tie' long' k q (Data t b) (row-later k q off ∙ at_q)
            ∙ ap (λ cs. places.is_parting cs k q) is
            ∙ parting-others cells j p piece tag inside k q (λ _. off) new-now
            (λ u a d at_p there'. off (sym (sound.homes j k p q u a d (tie j p ∙ at_p) (tie k q ∙ there'))))
            ∙ sym (parting-places s sound placed placed_groups cells tie long k q (Data t b) at_q)

        pub others-later : (q : ℕ) → q ≢ p → parts_at (world_of later) c q ≡ parts_at w c q
        others-later q off = ap (λ o. frames.is_parting (world_of later) (unwrap_or o Zero)) (page-later q off) ∙ by (page_at w c q) refl
          where
            held-by : (t : Tag) (b : List ℕ) (o : Option ℕ) → holder s i q ≡ o → page_at w c q ≡ Some (Data t b) → frames.is_parting (world_of later) (Data t b) ≡ frames.is_parting w (Data t b)
            held-by t b None none at_q = absurd (let lost = sym (page-in w c (context_at s i) q (context-found s c i found)) ∙ page-lost s i q none in let two = sym at_q ∙ lost in cc)
            held-by t b (Some k) some at_q = data-parts q k t b off (own-cell (s.rows k (Page q)) (Data t b) (sym (page-read q k some) ∙ at_q))

            by : (o : Option PageValue) → page_at w c q ≡ o → frames.is_parting (world_of later) (unwrap_or o Zero) ≡ frames.is_parting w (unwrap_or o Zero)
            by None at_q = zero-parts (world_of later) Zero refl ∙ sym (zero-parts w Zero refl)
            by (Some Zero) at_q = zero-parts (world_of later) Zero refl ∙ sym (zero-parts w Zero refl)
            by (Some (Data t b)) at_q = held-by t b (holder s i q) refl at_q
