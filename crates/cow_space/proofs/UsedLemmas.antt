-- The tags of rows are the stamps of the held frames, so there are as many different ones as frames are held.
use Rattle.std.proofs.Common.{◌≡◌, ◌≢◌, ℕ, suc, ◌+◌, ◌<◌, inl, inr, ⊎_elim, true, cond, eqb, ltb, List, [], ◌∷◌, length, get_or, refl, sym, ◌∙◌, ap, arith, subst, Option, Some}
use Rattle.std.specs.List.{flat_map}
use Rattle.std.proofs.lemmas.Bool.{cases_lt, lt-ltb}
use Rattle.std.proofs.lemmas.Bool.Decides.{nat_tests}
use Rattle.std.proofs.lemmas.List.{get_or_past}
use Rattle.std.proofs.lemmas.List.Sums.{get_or-le-sum_by, sum_by-cons}
use Rattle.frame_pool.specs.Frame.{Frame, no_frame, frame_at, frame_count, frame_stamp, frame_bytes, free_frames, used_frames}
use Rattle.lwc_types.specs.declared.name.Tag.{Tag}
use Rattle.lwc_types.specs.declared.page.PageValue.{PageValue}
use Rattle.lwc_types.specs.declared.page.PageValue.TheVariants.{Data}
use Rattle.lwc_types.proofs.Orders.{same_tag, tag-itself}
use Rattle.node_pool.specs.Nodes.{Node}
use Rattle.page_tree.specs.declared.cell.PageCell.{PageCell}
use Rattle.page_tree.specs.declared.cell.PageCell.TheVariants.{Absent, Zero}
use Rattle.page_tree.specs.declared.cell.PageCell.TheVariants as cell
use Rattle.page_tree.specs.Short.{page_short}
use Rattle.page_tree.specs.Tied.{HasFrame, HasElsewhere, page_of}
use Rattle.page_tree.proofs.ElsewhereLemmas.{elsewhere-is}
use Rattle.page_tree.proofs.HolderLemmas.{held-frame, holder-of_held}
use Rattle.cow_space.specs.Trees.{cell_value, tree_maps}
use Rattle.cow_space.specs.RowKept.{IsStamped, IsKept}
use Rattle.cow_space.specs.Maps.{row_of}
use Rattle.cow_space.specs.Tags.{different, parts, row_tags, times}
use Rattle.pool_base.proofs.Totals.{one_if}
use Rattle.cow_space.proofs.TagLemmas.{HasTag, different-more, different-none, different-same, other-time, some-tag, tag-some, times-flat_map, two-times}
use Rattle.cow_space.proofs.Trees.{length-maps, rows-in, row-page}
use Rattle.lwc_types.proofs.Small.{sum-some}
use Rattle.page_tree.specs.declared.store.TheConstants.{PAGES}

-- a cell with bytes has a frame
pub cell-data : (frames : List Frame) (c : PageCell) (tag : Tag) (bytes : List ℕ) → cell_value frames c ≡ Some (Data tag bytes) → (f : ℕ) × ((c ≡ cell.Frame (record { n = f })) × (frame_stamp frames f ≡ tag))
cell-data frames Absent tag bytes is = absurd cc
cell-data frames Zero tag bytes is = absurd cc
cell-data frames (cell.Frame f) tag bytes is = (f.n, (refl, cc))

-- some held frame has the stamp
pub record IsHeld (frames : List Frame) (tag : Tag) : Type 0 where
  pub f : ℕ
  pub held : 0 < frame_count frames f
  pub is : frame_stamp frames f ≡ tag

module _ (nodes : List Node) (frames : List Frame) (trees : List ℕ) (kept : IsKept nodes frames trees) where
  -- the frame of a tag that a row has
  pub frame-of : (tag : Tag) (has : HasTag (tree_maps frames nodes trees) tag) → (f : ℕ) × ((page_of nodes trees has.k has.p ≡ cell.Frame (record { n = f })) × (frame_stamp frames f ≡ tag))
  frame-of tag has =
      let k_in = rows-in frames nodes trees has.k has.inside in
      cell-data frames (page_of nodes trees has.k has.p) tag has.bytes (sym (row-page frames nodes trees has.k has.p k_in has.below) ∙ has.is)

  -- the tag of a frame that a tree has
  pub tag-of : (f : ℕ) (has : HasFrame nodes trees f) → HasTag (tree_maps frames nodes trees) (frame_stamp frames f)
  tag-of f has =
      record {
        k = has.k;
        p = has.p;
        bytes = frame_bytes frames f;
        inside = omega (arith, has.inside, length-maps frames nodes trees);
        below = has.below;
        is = row-page frames nodes trees has.k has.p has.inside has.below ∙ ap (cell_value frames) has.has;
      }

  pub tag-held : (tag : Tag) → HasTag (tree_maps frames nodes trees) tag → IsHeld frames tag
  tag-held tag has =
      let found = frame-of tag has in
      let k_in = rows-in frames nodes trees has.k has.inside in
      record { f = found.0; held = held-frame nodes frames trees kept.tied found.0 (record { k = has.k; p = has.p; inside = k_in; below = has.below; has = found.1.0 }); is = found.1.1 }

  pub held-tag : (tag : Tag) → IsHeld frames tag → HasTag (tree_maps frames nodes trees) tag
  held-tag tag held = subst (HasTag (tree_maps frames nodes trees)) held.is (tag-of held.f (holder-of_held nodes frames trees kept.tied held.f held.held))

-- each frame is in use or free
pub free-used : (frames : List Frame) → free_frames frames + used_frames frames ≡ length frames
free-used [] = refl
free-used (frame ∷ frames) =
    let tail = free-used frames in
    let free = sum_by-cons (λ (x : Frame). one_if (eqb x.count 0)) frame frames in
    let held = sum_by-cons (λ (x : Frame). one_if (ltb 0 x.count)) frame frames in
    let one : one_if (eqb frame.count 0) + one_if (ltb 0 frame.count) ≡ 1 = grind (arith, nat_tests) in
    omega (arith, tail, free, held, one)

-- the stamps of the held frames
abbrev own_stamp : Frame → List Tag
own_stamp frame = cond (ltb 0 frame.count) (frame.stamp ∷ []) []

abbrev stamps : List Frame → List Tag
stamps frames = flat_map own_stamp frames

pub inside-frame : (frames : List Frame) (f : ℕ) → 0 < frame_count frames f → f < length frames
inside-frame frames f held = ⊎_elim (λ lt. lt) (λ past. absurd (let none = ap (λ (frame : Frame). frame.count) (get_or_past frames f no_frame past) in omega (arith, none, held))) (cases_lt f (length frames))

-- the stamp of a held frame alone is one of them
own-times : (t : Tag) (frame : Frame) → 0 < times t (own_stamp frame) → (0 < frame.count) × (frame.stamp ≡ t)
unfolding times
own-times t frame some = grind (arith, nat_tests, some, same_tag frame.stamp t)

own-once : (frame : Frame) → 0 < frame.count → times frame.stamp (own_stamp frame) ≡ 1
unfolding times
own-once frame held = grind (arith, nat_tests, held, tag-itself frame.stamp)

stamp-held : (frames : List Frame) (t : Tag) → 0 < times t (stamps frames) → IsHeld frames t
stamp-held frames t some =
    let at = sum-some (λ frame. times t (own_stamp frame)) frames no_frame (omega (arith, some, times-flat_map t own_stamp frames)) in
    let own = own-times t (frame_at frames at.0) at.1.1 in
    record { f = at.0; held = own.0; is = own.1 }

held-stamp : (frames : List Frame) (t : Tag) → IsHeld frames t → 0 < times t (stamps frames)
held-stamp frames t held =
    subst (λ u. 0 < times u (stamps frames)) held.is
    (omega (
      arith,
      times-flat_map (frame_stamp frames held.f) own_stamp frames,
      own-once (frame_at frames held.f) held.held,
      get_or-le-sum_by (λ frame. times (frame_stamp frames held.f) (own_stamp frame)) frames held.f no_frame (inside-frame frames held.f held.held),
    ))

-- held frames with stamps of their own have as many different ones as they are
different-stamps : (frames : List Frame) → IsStamped frames → different (stamps frames) ≡ used_frames frames
different-stamps [] stamped = different-none
different-stamps (frame ∷ frames) stamped =
    let rest = different-stamps frames (λ f g f_held g_held same. let one = stamped (suc f) (suc g) f_held g_held same in omega (arith, one)) in
    let used = sum_by-cons (λ (x : Frame). cond (ltb 0 x.count) 1 0) frame frames in
    ⊎_elim
    (λ some.
    let new : times frame.stamp (stamps frames) ≡ 0 = ⊎_elim
    (λ there. let held = stamp-held frames frame.stamp there in absurd (let same = stamped 0 (suc held.f) some held.held (sym held.is) in omega (arith, same)))
    (λ none. omega (arith, none)) (cases_lt 0 (times frame.stamp (stamps frames))) in
    grind (arith, nat_tests, some, used, rest, different-more frame.stamp (stamps frames) new))
    (λ none. grind (arith, nat_tests, none, used, rest))
    (cases_lt 0 frame.count)

module _ (nodes : List Node) (frames : List Frame) (trees : List ℕ) (kept : IsKept nodes frames trees) where
  abbrev maps : List (ℕ → Option PageValue)
  maps = tree_maps frames nodes trees

  -- as many different tags are in the rows as frames are held
  pub used-is : used_frames frames ≡ different (row_tags maps)
  used-is =
      sym (different-stamps frames kept.stamped)
      ∙ different-same (row_tags maps) (stamps frames)
      (λ t some. tag-some maps t (held-tag nodes frames trees kept t (stamp-held frames t some)))
      (λ t some. held-stamp frames t (tag-held nodes frames trees kept t (some-tag maps t some)))

  -- the tag of a page with a frame is at another page too exactly where the frame is
  module _ (i p f : ℕ) (i_in : i < length trees) (p_in : p < PAGES) (is : page_of nodes trees i p ≡ cell.Frame (record { n = f })) where
    pub value-is : row_of maps i p ≡ Some (Data (frame_stamp frames f) (frame_bytes frames f))
    value-is = row-page frames nodes trees i p i_in p_in ∙ ap (cell_value frames) is

    maps_in : i < length maps
    maps_in = omega (arith, i_in, length-maps frames nodes trees)

    elsewhere-times : HasElsewhere nodes trees i p f → 1 < times (frame_stamp frames f) (row_tags maps)
    unfolding tag-of
    elsewhere-times has =
        two-times maps (frame_stamp frames f) i p (frame_bytes frames f) maps_in p_in value-is (tag-of nodes frames trees kept f has.other) has.elsewhere

    times-elsewhere : 1 < times (frame_stamp frames f) (row_tags maps) → HasElsewhere nodes trees i p f
    times-elsewhere more =
        let other = other-time maps (frame_stamp frames f) i p maps_in p_in more in
        let found = frame-of nodes frames trees kept (frame_stamp frames f) other.0 in
        let k_in = rows-in frames nodes trees other.0.k other.0.inside in
        let there : HasFrame nodes trees found.0 = record { k = other.0.k; p = other.0.p; inside = k_in; below = other.0.below; has = found.1.0 } in
        let held = held-frame nodes frames trees kept.tied found.0 there in
        let own_held = held-frame nodes frames trees kept.tied f (record { k = i; p = p; inside = i_in; below = p_in; has = is }) in
        let same : found.0 ≡ f = kept.stamped found.0 f held own_held found.1.1 in
        record { other = record { k = other.0.k; p = other.0.p; inside = k_in; below = other.0.below; has = found.1.0 ∙ ap (λ n. cell.Frame (record { n = n })) same }; elsewhere = other.1 }

    parting-value : parts (row_tags maps) (row_of maps i p) ≡ ltb 1 (times (frame_stamp frames f) (row_tags maps))
    parting-value = ap (parts (row_tags maps)) value-is

    -- where the way is shared the page parts
    pub parting-shared : page_short nodes (get_or trees i 0) p ≢ 0 → parts (row_tags maps) (row_of maps i p) ≡ true
    parting-shared short =
        parting-value ∙ lt-ltb 1 (times (frame_stamp frames f) (row_tags maps)) (elsewhere-times ((elsewhere-is nodes frames trees i p f kept.tied i_in p_in is).1 (inl short)))

    -- else it parts where the frame is held more than once
    pub parting-alone : page_short nodes (get_or trees i 0) p ≡ 0 → parts (row_tags maps) (row_of maps i p) ≡ ltb 1 (frame_count frames f)
    parting-alone alone =
        let there = λ (more : 1 < frame_count frames f). elsewhere-times ((elsewhere-is nodes frames trees i p f kept.tied i_in p_in is).1 (inr more)) in
        let back = λ (many : 1 < times (frame_stamp frames f) (row_tags maps)). (elsewhere-is nodes frames trees i p f kept.tied i_in p_in is).0 (times-elsewhere many) in
        parting-value ∙ grind (arith, nat_tests, there, back, alone)
