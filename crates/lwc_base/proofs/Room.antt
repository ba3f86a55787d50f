-- A store keeps a world sound, and takes one frame for each page that parts: one page after another gets its new value.
use Rattle.std.proofs.Common.{◌≡◌, ◌≢◌, ◌⊎◌, inl, inr, ℕ, zero, suc, ◌+◌, ◌≤◌, ◌<◌, ◌*◌, ◌/◌, ◌%◌, refl, sym, ap, subst, ◌∙◌, Bool, true, false, cond, eqb, ltb, Option, Some, None, List, length, arith}
use Rattle.std.specs.Prelude.{count_by, is_some, slice_index}
use Rattle.std.proofs.lemmas.List.FromFn.{get_or-map-range_with_len}
use Rattle.std.specs.List.{list_all, range_with_len}
use Rattle.std.specs.Ordering.{eq_by_cmp}
use Rattle.std.proofs.lemmas.Bool.{and_parts, false≢true}
use Rattle.std.proofs.lemmas.Bool.Decides.{nat_tests}
use Rattle.std.proofs.lemmas.List.Sums.{sum_by-cons}
use Rattle.lwc_base.specs.declared.cell.Cell.{Cell}
use Rattle.lwc_base.specs.declared.cell.Cell.TheVariants.{Own, Common}
use Rattle.lwc_base.specs.Cells.{page_at, put_page, value_at}
use Rattle.lwc_base.specs.Frames.{is_parting, own_value, tag_of, tags, used}
use Rattle.lwc_base.specs.Holders.{InCell, Keeps, everywhere}
use Rattle.lwc_base.specs.Memory.{byte_at, is_present, touched}
use Rattle.lwc_base.specs.Modes.{IsKey, number_of}
use Rattle.lwc_base.specs.Sound.{HasItsGroups, IsSound, IsSoundPage, common_keys, sound_pages}
use Rattle.lwc_base.specs.Store.{Piece, Done, after_store, byte_after, bytes_after, page_value_at, parting_count, stored_pages, put_pages, store, stored_value}
use Rattle.lwc_base.specs.World.{World, context, group, is_live, change_counters}
use Rattle.lwc_base.proofs.Common.{put-itself, put-other_key}
use Rattle.lwc_base.proofs.Fresh.{fresh-after_store}
use Rattle.lwc_base.proofs.Holders.{keeps-change_counters, keeps-put_at, keeps-put_pages, may_have-free}
use Rattle.lwc_base.proofs.Puts.{names-put_at, takes-after_store}
use Rattle.lwc_base.proofs.Sound.{groups-change_counters, groups-put_at, page_at-sound, pages-extends}
use Rattle.lwc_base.proofs.Stored.{IsDone, first_touched, is_done, length-bytes_after, length-zero_page, present_value, touched_count, touched-covers, touched-range}
use Rattle.lwc_base.proofs.Tags.{times, times-itself, times-nothing, times-other, times-put_page, used-more, used-same}
use Rattle.lwc_types.specs.declared.counters.Counters.{Counters}
use Rattle.lwc_types.specs.declared.key.Key.TheVariants.{Page}
use Rattle.lwc_types.specs.declared.name.Name.{Name}
use Rattle.lwc_types.specs.declared.name.Tag.{Tag}
use Rattle.lwc_types.specs.declared.page.PageValue.{PageValue}
use Rattle.lwc_types.specs.declared.page.PageValue.TheVariants.{Zero, Data}
use Rattle.lwc_types.specs.declared.page.TheConstants.{PAGE_BYTES}
use Rattle.lwc_types.specs.declared.size.WorldSize.{WorldSize}
use Rattle.lwc_types.specs.Names.{tag_cmp}
use Rattle.lwc_types.specs.Pages.{bytes_of}
use Rattle.lwc_types.proofs.Orders.{same_tag, tag-itself}

-- a tag that has not been taken, or is at home elsewhere, is not that of a sound page
times-page : (w : World) (home : Tag → ℕ) (t : Tag) (p : ℕ) (value : Option PageValue) → IsSoundPage w home p value → ((w.next t.job).tags ≤ t.k) ⊎ (home t ≢ p) →
    times t (tag_of value) ≡ 0
times-page w home t p None is other = refl
times-page w home t p (Some Zero) is other = refl
times-page w home t p (Some (Data s bytes)) is other = times-other t s (λ same. elim other [ inl new ↦ grind arith | inr far ↦ grind arith ])

-- and a new tag is at no holder
times-new : (w u : World) (home : Tag → ℕ) → Keeps (sound_pages w home) u → (t : Tag) → (w.next t.job).tags ≤ t.k → times t (tags u) ≡ 0
times-new w u home keeps t new =
    times-nothing t u (λ c live p. cell c.job p ((context u c).cell (Page p)) (keeps.contexts c live (Page p)))
    (λ g live p. times-page w home t p ((group u g).value (Page p)) (keeps.groups g live (Page p)) (inl new))
  where
    cell : (job p : ℕ) (cell : Cell (Option PageValue)) → InCell (sound_pages w home) job (Page p) cell → times t (tag_of (own_value cell)) ≡ 0
    cell job p (Own value) is = times-page w home t p value is (inl new)
    cell job p (Common g) is = refl

in_world : (w : World) (home : Tag → ℕ) (p : ℕ) (value : PageValue) → IsSoundPage w home p (Some value) → p < w.size.pages
in_world w home p value is = grind arith

whole_page : (w : World) (home : Tag → ℕ) (p : ℕ) (value : PageValue) → IsSoundPage w home p (Some value) → length (bytes_of value) ≡ PAGE_BYTES
whole_page w home p value is = grind (arith, length-zero_page)

module _ (w : World) (c : Name) (job : ℕ) (piece : Piece) where
  abbrev taken : ℕ
  taken = (w.next job).tags

  abbrev first : ℕ
  first = first_touched piece.at

  abbrev new_tag : ℕ → Tag
  new_tag k = record { job = job; k = k }

  abbrev parts : ℕ → Bool
  parts p = is_parting w (page_value_at w c p)

  -- the world in which the job has taken its tags up to a number
  abbrev counted : ℕ → World
  counted k = record w { next = λ j. cond (eqb j job) (record (w.next j) { tags = k }) (w.next j) }

  rises-counted : (k m j : ℕ) → k ≤ m → ((counted k).next j).tags ≤ ((counted m).next j).tags
  rises-counted k m j less = grind (arith, nat_tests)

  -- pages before one have got their new values, and the tags up to a number are taken, each with its frame; the other pages, and their tags, are as they were
  record IsStage (u : World) (k a : ℕ) : Type 0 where
    home : Tag → ℕ
    cells : Keeps (sound_pages (counted k) home) u
    groups : HasItsGroups u
    live : is_live u c ≡ true
    size : u.size ≡ w.size
    frames : used u + taken ≡ used w + k
    bytes : (at : ℕ) → first ≤ at / PAGE_BYTES → at / PAGE_BYTES < a → byte_at u c at ≡ byte_after piece at (byte_at w c at)
    pages : (p : ℕ) → (p < first) ⊎ (a ≤ p) → page_at u c p ≡ page_at w c p
    counts : (p : ℕ) (t : Tag) (bytes : List ℕ) → a ≤ p → page_at w c p ≡ Some (Data t bytes) → times t (tags u) ≡ times t (tags w)

  module _ (u : World) (k a : ℕ) (stage : IsStage u k a) where
    sound_page : (p : ℕ) (value : PageValue) → a ≤ p → page_at w c p ≡ Some value → IsSoundPage (counted k) stage.home p (Some value)
    sound_page p value past is =
        subst (IsSoundPage (counted k) stage.home p) (stage.pages p (inr past) ∙ is) (page_at-sound (counted k) u stage.home c stage.live stage.cells p)

    -- the page gets a new value, with its own tag or a new one
    module _ (value new : PageValue) (is : page_at w c a ≡ Some value) where
      abbrev next : World
      next = put_page u c a new

      here : IsSoundPage (counted k) stage.home a (Some value)
      here = sound_page a value (omega arith) is

      change : (t : Tag) → times t (tags next) + times t (tag_of (Some value)) ≡ times t (tags u) + times t (tag_of (Some new))
      change t =
          let within = in_world (counted k) stage.home a value here in
          times-put_page t u c a new value (grind (arith, stage.size)) (stage.pages a (inr (omega arith)) ∙ is)

      whole : length (bytes_of value) ≡ PAGE_BYTES
      whole = whole_page (counted k) stage.home a value here

      other_page : (p : ℕ) → p ≢ a → page_at next c p ≡ page_at u c p
      other_page p other = put-other_key u c (Page a) (Some new) c (Page p) (λ e. other (ap number_of e))

      old_bytes : (at : ℕ) → at / PAGE_BYTES ≢ a → byte_at next c at ≡ byte_at u c at
      unfolding byte_at
      old_bytes at other = let same = other_page (at / PAGE_BYTES) other in grind arith

      -- the bytes of the page
      new_bytes : bytes_of new ≡ bytes_after piece a (bytes_of value) → (at : ℕ) → at / PAGE_BYTES ≡ a → byte_at next c at ≡ byte_after piece at (byte_at w c at)
      unfolding byte_at bytes_after
      new_bytes is_new at here_at =
          let i : ℕ = at % PAGE_BYTES in
          let old : List ℕ = bytes_of value in
          let put = put-itself u c (Page a) (Some new) stage.live stage.groups in
          let place : a * PAGE_BYTES + i ≡ at = omega (arith, here_at) in
          let read = get_or-map-range_with_len (λ j. byte_after piece (a * PAGE_BYTES + j) (slice_index old j)) 0 (length old) i i 0 (omega (arith, whole)) (omega arith) in
          let was = stage.pages a (inr (omega arith)) in
          grind (arith, nat_tests)

      next_stage : (m : ℕ) (later : Tag → ℕ) → first ≤ a → k ≤ m → ((t : Tag) → t.k < ((counted k).next t.job).tags → later t ≡ stage.home t) → IsSoundPage (counted m) later a (Some new) →
          bytes_of new ≡ bytes_after piece a (bytes_of value) → used next + taken ≡ used w + m → IsStage next m (a + 1)
      next_stage m later from more same sound is_new frames = record {
        home = later;
        cells = keeps-put_at (sound_pages (counted m) later) u c (Page a) (Some new) sound (λ g _. sound)
            (pages-extends (counted k) (counted m) stage.home later refl (λ j. rises-counted k m j more) same u stage.cells);
        groups = groups-put_at u c (Page a) (Some new) refl stage.groups;
        live = (names-put_at u c (Page a) (Some new)).live c ∙ stage.live;
        size = (names-put_at u c (Page a) (Some new)).size ∙ stage.size;
        frames = frames;
        bytes = λ at low high. let old = stage.bytes at low in let other = old_bytes at in let mine = new_bytes is_new at in grind arith;
        pages = λ p out. elim out [
          | inl before ↦ other_page p (λ e. omega (arith, e, before, from)) ∙ stage.pages p (inl before)
          | inr past ↦ other_page p (λ e. omega (arith, e, past)) ∙ stage.pages p (inr (omega (arith, past)))
        ];
        counts = λ p t bytes past there.
            let mine = (sound_page p (Data t bytes) (omega (arith, past)) there).1 in
            let away : stage.home t ≢ a = λ at_a. omega (arith, at_a, mine.at_home, past) in
            let far : later t ≢ a = λ at_a. away (sym (same t mine.old) ∙ at_a) in
            omega (
              arith,
              change t,
              times-page (counted k) stage.home t a (Some value) here (inr away),
              times-page (counted m) later t a (Some new) sound (inr far),
              stage.counts p t bytes (omega (arith, past)) there,
            );
      }

    -- a tag of a page that parts is at another holder too
    at_others : (value : PageValue) → page_at w c a ≡ Some value → is_parting w value ≡ true → (t : Tag) → 0 < times t (tag_of (Some value)) → times t (tag_of (Some value)) < times t (tags u)
    unfolding is_parting
    at_others Zero is parted t some = absurd (omega (arith, some))
    at_others (Data s old) is parted t some =
        let same = stage.counts a s old (omega arith) is in grind (arith, nat_tests, same_tag t s, times-itself t, times-other t s)

    module _ (value : PageValue) (is : page_at w c a ≡ Some value) (from : first ≤ a) where
      abbrev bytes : List ℕ
      bytes = bytes_after piece a (bytes_of value)

      still_whole : length bytes ≡ PAGE_BYTES
      still_whole = length-bytes_after piece a (bytes_of value) ∙ whole value value is

      -- a page that parts takes a new tag
      step_more : is_parting w value ≡ true → IsStage (put_page u c a (Data (new_tag k) bytes)) (k + 1) (a + 1)
      step_more parted =
          let new : PageValue = Data (new_tag k) bytes in
          let none : times (new_tag k) (tags u) ≡ 0 = times-new (counted k) u stage.home stage.cells (new_tag k) (grind (arith, nat_tests)) in
          let more = used-more u (put_page u c a new) (new_tag k) none (λ t.
          let split = change value new is t in
          let others = at_others value is parted t in
          grind (arith, nat_tests, same_tag, times-itself t, times-other t (new_tag k), tag-itself)) in
          next_stage value new is (k + 1) (λ t. cond (eq_by_cmp tag_cmp t (new_tag k)) a (stage.home t)) from (omega arith) (λ t old. grind (arith, nat_tests, same_tag t (new_tag k)))
          (in_world (counted k) stage.home a value (here value value is), record { whole = still_whole; old = grind (arith, nat_tests); at_home = grind (arith, tag-itself (new_tag k)) })
          refl (omega (arith, more, stage.frames))

    step : (value : PageValue) (parting : Bool) (is : page_at w c a ≡ Some value) → first ≤ a → is_parting w value ≡ parting →
        IsStage (put_page u c a (stored_value parting (new_tag k) value (bytes_after piece a (bytes_of value)))) (cond parting (k + 1) k) (a + 1)
    unfolding is_parting
    step Zero true is from parted = step_more Zero is from parted
    step Zero false is from parted = absurd (false≢true (sym parted))
    step (Data t old) true is from parted = step_more (Data t old) is from parted
    step (Data t old) false is from parted =
        let mine = here (Data t old) Zero is in
        let new : PageValue = Data t (bytes_after piece a old) in
        let same : used (put_page u c a new) ≡ used u = used-same u _ (λ r. let split = change (Data t old) new is r in ap (ltb 0) (omega (arith, split))) in
        next_stage (Data t old) new is k stage.home from (omega arith) (λ r _. refl) (mine.0, record { whole = still_whole (Data t old) is from; old = mine.1.old; at_home = mine.1.at_home })
        refl (omega (arith, same, stage.frames))

  -- once pages have got their new values: each that parts has taken a tag
  stored : (n a k : ℕ) (u : World) → first ≤ a → IsStage u k a → list_all (λ p. is_some (page_at w c p)) (range_with_len a n) ≡ true →
      (last : ℕ) × (end : ℕ) × (last ≡ k + count_by parts (range_with_len a n)) × (end ≡ a + n) × IsStage (put_pages u c (stored_pages w c job piece k (range_with_len a n))) last end
  stored zero a k u from stage present = (k, a, omega arith, omega arith, stage)
  stored (suc n) a k u from stage present =
      let there = and_parts (is_some (page_at w c a)) (list_all (λ p. is_some (page_at w c p)) (range_with_len (a + 1) n)) present in
      let next = step u k a stage (page_value_at w c a) (parts a) (present_value (page_at w c a) there.0) from refl in
      let rest = stored n (a + 1) (cond (parts a) (k + 1) k) _ (omega (arith, from)) next there.1 in
      let split = sum_by-cons (λ p. cond (parts p) 1 0) a (range_with_len (a + 1) n) in
      let count = rest.2 in
      (rest.0, rest.1, grind arith, omega (arith, rest.3), rest.4)

  module _ (sound : IsSound w) (live : is_live w c ≡ true) (present : is_present w c piece.at (length piece.bytes) ≡ true) where
    abbrev after : World
    after = after_store w c job piece

    abbrev values : List (ℕ × PageValue)
    values = stored_pages w c job piece taken (touched piece.at (length piece.bytes))

    all_stored : IsStage (put_pages w c values) (taken + parting_count w c piece) (first + touched_count piece.at (length piece.bytes))
    unfolding is_present parting_count
    all_stored =
        let start : IsStage w taken first = record {
          home = sound.home;
          cells = pages-extends w (counted taken) sound.home sound.home refl (λ j. grind (arith, nat_tests)) (λ t old. refl) w sound.pages;
          groups = sound.groups;
          live = live;
          size = refl;
          frames = refl;
          bytes = λ at low high. absurd (omega (arith, low, high));
          pages = λ p out. refl;
          counts = λ p t old past there. refl;
        } in
        let n : ℕ = touched_count piece.at (length piece.bytes) in
        let all = subst (λ ps. list_all (λ p. is_some (page_at w c p)) ps ≡ true →
        (last : ℕ) × (end : ℕ) × (last ≡ taken + count_by parts ps) × (end ≡ first + n) × IsStage (put_pages w c (stored_pages w c job piece taken ps)) last end) (sym (touched-range piece.at (length piece.bytes)))
        (stored n first taken w (omega arith) start) present in
        subst (λ end. IsStage (put_pages w c values) (taken + parting_count w c piece) end) all.3 (subst (λ last. IsStage (put_pages w c values) last all.1) all.2 all.4)

    frames-after_store : used after ≡ used w + parting_count w c piece
    unfolding after_store used tags change_counters
    frames-after_store = omega (arith, all_stored.frames)

    bytes-after_store : (at : ℕ) → byte_at after c at ≡ byte_after piece at (byte_at w c at)
    unfolding after_store change_counters byte_at value_at context group
    bytes-after_store at =
        let inside = all_stored.bytes at in
        let outside = all_stored.pages (at / PAGE_BYTES) in
        let covers = touched-covers piece.at (length piece.bytes) at in
        grind (arith, nat_tests)

    sound-after_store : IsSound after
    unfolding after_store
    sound-after_store =
        let takes = takes-after_store w c job piece in
        let all = all_stored in
        let last : ℕ = taken + parting_count w c piece in
        let more : (j : ℕ) → ((counted last).next j).tags ≤ (after.next j).tags =
        λ j. subst (λ (n : ℕ → Counters). ((counted last).next j).tags ≤ (n j).tags) (sym takes.next) (grind (arith, nat_tests)) in
        record {
          fresh = fresh-after_store w c job piece sound.fresh;
          groups = groups-change_counters (put_pages w c values) job _ all.groups;
          keys = keeps-change_counters (common_keys after) (put_pages w c values) job _ (keeps-put_pages (common_keys after) w c values (may_have-free (common_keys after) c.job (λ i p value. tt) values)
              (subst (λ (s : WorldSize). Keeps (everywhere (λ k g. IsKey s.pages k) (λ k value. Unit {0})) w) (sym takes.size) sound.keys));
          home = all.home;
          pages = keeps-change_counters (sound_pages after all.home) (put_pages w c values) job _
              (pages-extends (counted last) after all.home all.home takes.size more (λ t old. refl) (put_pages w c values) all.cells);
        }

-- a store that is done
module _ (w v : World) (c : Name) (job : ℕ) (piece : Piece) where
  is : store w c job piece ≡ Done v → IsDone w c job piece v
  is = is_done w c job piece v

  pub sound-store : IsSound w → is_live w c ≡ true → store w c job piece ≡ Done v → IsSound v
  sound-store sound live done = subst IsSound (sym (is done).after) (sound-after_store w c job piece sound live (is done).present)

  pub store-used : store w c job piece ≡ Done v → IsSound w → is_live w c ≡ true → used v ≡ used w + parting_count w c piece
  store-used done sound live = ap used (is done).after ∙ frames-after_store w c job piece sound live (is done).present

  pub store-room : store w c job piece ≡ Done v → IsSound w → is_live w c ≡ true → used v ≤ w.size.frames
  store-room done sound live = omega (arith, store-used done sound live, (is done).room)

  pub store-bytes : store w c job piece ≡ Done v → IsSound w → is_live w c ≡ true → (at : ℕ) → byte_at v c at ≡ byte_after piece at (byte_at w c at)
  store-bytes done sound live at = ap (λ u. byte_at u c at) (is done).after ∙ bytes-after_store w c job piece sound live (is done).present at
