-- A page of a row is written: in a new frame, or in its own.
use Rattle.std.proofs.Common.{◌≡◌, ◌≢◌, ℕ, ◌+◌, ◌-◌, ◌^◌, ◌<◌, ◌≤◌, inl, inr, ⊎_elim, true, false, cond, eqb, List, [], ◌∷◌, length, get_or, set, map, refl, sym, ◌∙◌, ap, arith, length-set, get_or-set_other, Option, Some}
use Rattle.std.specs.Prelude.{unwrap_or}
use Rattle.std.proofs.lemmas.Bool.{cases_eq, cases_lt, lt-ltb}
use Rattle.std.proofs.lemmas.Bool.Decides.{nat_tests}
use Rattle.std.proofs.lemmas.List.{get_or-set_same, set-get_or}
use Rattle.frame_pool.specs.Frame.{Frame, no_frame, frame_at, frame_count, frame_stamp, frame_bytes, recount_frame, refill_frame}
use Rattle.lwc_base.specs.Store.{Piece, bytes_after, stored_value}
use Rattle.lwc_types.specs.declared.name.Tag.{Tag}
use Rattle.lwc_types.specs.declared.page.PageValue.{PageValue}
use Rattle.lwc_types.specs.declared.page.PageValue.TheVariants as value
use Rattle.lwc_types.specs.Pages.{bytes_of}
use Rattle.node_pool.specs.Nodes.{Node}
use Rattle.page_tree.specs.declared.cell.PageCell.{PageCell}
use Rattle.page_tree.specs.declared.cell.PageCell.TheVariants.{Absent, Zero}
use Rattle.page_tree.specs.declared.cell.PageCell.TheVariants as cell
use Rattle.page_tree.specs.Changes.{KeepsTrees, KeepsMaps, KeepsFrames}
use Rattle.page_tree.specs.Pages.{page}
use Rattle.page_tree.specs.Short.{page_short}
use Rattle.page_tree.specs.Sound.{IsSound, naming}
use Rattle.page_tree.specs.Tied.{HasElsewhere, IsElsewhere, page_of}
use Rattle.cow_space.specs.Trees.{cells, all_cells, cell_value, values, tree_maps}
use Rattle.cow_space.specs.RowKept.{IsStamped, IsKept}
use Rattle.cow_space.specs.Maps.{row_of, put_page}
use Rattle.cow_space.specs.Tags.{parts, row_tags, times}
use Rattle.cow_space.specs.Takes.{Takes, cell_bytes}
use Rattle.cow_space.specs.RowWrites.{read_value, written_value}
use Rattle.cow_space.proofs.Lists.{map-set_changed}
use Rattle.cow_space.proofs.Trees.{cells-page, cells-past, cells-put, having-set, other-tree, row-at}
use Rattle.cow_space.proofs.TagLemmas.{tag-some}
use Rattle.cow_space.proofs.UsedLemmas.{held-tag, inside-frame, parting-shared, parting-alone}
use Rattle.page_tree.proofs.HolderLemmas.{held-frame}
use Rattle.page_tree.proofs.ElsewhereLemmas.{elsewhere-is}
use Rattle.page_tree.specs.declared.store.TheConstants.{PAGES}

-- a store stays sound with other frames that are held near enough to as often as entries name them
sound-frames : (nodes : List Node) (frames frames' : List Frame) → IsSound nodes frames → length frames' ≡ length frames → ((f : ℕ) → naming nodes f ≤ frame_count frames' f) → ((f : ℕ) → frame_count frames' f < naming nodes f + 2 ^ 31) → IsSound nodes frames'
sound-frames nodes frames frames' sound size framed near =
    record {
      few = sound.few;
      few_frames = omega (arith, size, sound.few_frames);
      shape = sound.shape;
      clean = sound.clean;
      levels = sound.levels;
      held = sound.held;
      below = sound.below;
      counted = sound.counted;
      narrow = sound.narrow;
      led = sound.led;
      framed = framed;
      near = near;
    }

-- the value of a cell whose frame has its stamp and its bytes still
value-same : (frames frames' : List Frame) (c : PageCell) → ((f : ℕ) → c ≡ cell.Frame (record { n = f }) → (frame_stamp frames' f ≡ frame_stamp frames f) × (frame_bytes frames' f ≡ frame_bytes frames f)) → cell_value frames' c ≡ cell_value frames c
value-same frames frames' Absent same = refl
value-same frames frames' Zero same = refl
value-same frames frames' (cell.Frame f) same = let h = same f.n refl in λ i. Some (value.Data (h.0 i) (h.1 i))

fused : (frames : List Frame) (nodes : List Node) (trees : List ℕ) → tree_maps frames nodes trees ≡ map (λ t. values frames (cells nodes t)) trees
unfolding tree_maps all_cells
fused frames nodes [] = refl
fused frames nodes (t ∷ trees) = ap (λ ms. values frames (cells nodes t) ∷ ms) (fused frames nodes trees)

-- one page of one row has another value, and all others have theirs
module _ (old new : List Node) (frames frames' : List Frame) (trees : List ℕ) (i came p : ℕ) (c : PageCell) (v : Option PageValue) (i_in : i < length trees) (here : cells new came ≡ put_page (cells old (get_or trees i 0)) p c) (others : (j : ℕ) → j < length trees → j ≢ i → cells new (get_or trees j 0) ≡ cells old (get_or trees j 0)) (is : cell_value frames' c ≡ v)
    (elsewhere : (k q g : ℕ) → k < length trees → q < PAGES → IsElsewhere i p k q → page_of old trees k q ≡ cell.Frame (record { n = g }) → (frame_stamp frames' g ≡ frame_stamp frames g) × (frame_bytes frames' g ≡ frame_bytes frames g)) where
  value-elsewhere : (k q : ℕ) → k < length trees → IsElsewhere i p k q → cell_value frames' (cells old (get_or trees k 0) q) ≡ cell_value frames (cells old (get_or trees k 0) q)
  value-elsewhere k q lt off =
      ⊎_elim
      (λ below. value-same frames frames' (cells old (get_or trees k 0) q) (λ g has. elsewhere k q g lt below off (sym (cells-page old (get_or trees k 0) q below) ∙ has)))
      (λ past. let none = cells-past old (get_or trees k 0) q past in ap (cell_value frames') none ∙ sym (ap (cell_value frames) none))
      (cases_lt q PAGES)

  own-value : (q : ℕ) → cell_value frames' (cond (eqb q p) c (cells old (get_or trees i 0) q)) ≡ cond (eqb q p) v (cell_value frames (cells old (get_or trees i 0) q))
  own-value q = grind (arith, nat_tests, is, (λ (off : q ≢ p). value-elsewhere i q i_in (inr (refl, off))))

  pub maps-put : tree_maps frames' new (set trees i came) ≡ set (tree_maps frames old trees) i (put_page (row_of (tree_maps frames old trees) i) p v)
  maps-put =
      fused frames' new (set trees i came)
      ∙ map-set_changed (λ t. values frames' (cells new t)) (λ t. values frames (cells old t)) trees i came 0 (put_page (values frames (cells old (get_or trees i 0))) p v)
      (ap (values frames') here ∙ (λ x q. own-value q x))
      (λ j lt off. ap (values frames') (others j lt off) ∙ (λ x q. value-elsewhere j q lt (inl off) x))
      ∙ ap (λ ms. set ms i (put_page (values frames (cells old (get_or trees i 0))) p v)) (sym (fused frames old trees))
      ∙ ap (λ m. set (tree_maps frames old trees) i (put_page m p v)) (sym (row-at frames old trees i i_in))

-- what is written

pub stored-parting : (tag : Tag) (v : PageValue) (bytes : List ℕ) → stored_value true tag v bytes ≡ value.Data tag bytes
stored-parting tag value.Zero bytes = refl
stored-parting tag (value.Data own old) bytes = refl

read-bytes : (frames : List Frame) (c : PageCell) → bytes_of (unwrap_or (cell_value frames c) value.Zero) ≡ cell_bytes frames c
read-bytes frames Absent = refl
read-bytes frames Zero = refl
read-bytes frames (cell.Frame f) = refl

pub written-parting : (maps : List (ℕ → Option PageValue)) (frames : List Frame) (i p : ℕ) (piece : Piece) (tag : Tag) (c : PageCell) → row_of maps i p ≡ cell_value frames c → parts (row_tags maps) (row_of maps i p) ≡ true → value.Data tag (bytes_after piece p (cell_bytes frames c)) ≡ written_value maps i p piece tag
written-parting maps frames i p piece tag c row parts =
    sym (ap (λ b. stored_value b tag (read_value maps i p) (bytes_after piece p (bytes_of (read_value maps i p)))) parts
    ∙ stored-parting tag (read_value maps i p) (bytes_after piece p (bytes_of (read_value maps i p)))
    ∙ ap (λ bs. value.Data tag (bytes_after piece p bs)) (ap (λ v. bytes_of (unwrap_or v value.Zero)) row ∙ read-bytes frames c))

pub written-own : (maps : List (ℕ → Option PageValue)) (i p : ℕ) (piece : Piece) (tag own : Tag) (bytes : List ℕ) → row_of maps i p ≡ Some (value.Data own bytes) → parts (row_tags maps) (row_of maps i p) ≡ false → value.Data own (bytes_after piece p bytes) ≡ written_value maps i p piece tag
written-own maps i p piece tag own bytes row alone =
    sym (ap (λ b. stored_value b tag (read_value maps i p) (bytes_after piece p (bytes_of (read_value maps i p)))) alone
    ∙ ap (λ v. stored_value false tag (unwrap_or v value.Zero) (bytes_after piece p (bytes_of (unwrap_or v value.Zero)))) row)

-- a frame that is held once more or less

count-taken : (old new : List Frame) (n : ℕ) (tag : Tag) (bytes : List ℕ) → Takes old new n tag bytes → frame_count new n ≡ 1
count-taken old new n tag bytes takes = ap (λ (frame : Frame). frame.count) takes.here

count-other : (old new : List Frame) (n g : ℕ) (tag : Tag) (bytes : List ℕ) → Takes old new n tag bytes → g ≢ n → frame_count new g ≡ frame_count old g
count-other old new n g tag bytes takes off = ap (λ (frame : Frame). frame.count) (takes.others g off)

-- a frame in hand leaves the store sound
pub sound-take : (nodes : List Node) (old new : List Frame) (n : ℕ) (tag : Tag) (bytes : List ℕ) → IsSound nodes old → ((f : ℕ) → frame_count old f ≡ naming nodes f) → Takes old new n tag bytes → IsSound nodes new
sound-take nodes old new n tag bytes sound exact takes =
    sound-frames nodes old new sound takes.size
    (λ f. grind (arith, exact f, takes.was_free, count-taken old new n tag bytes takes, count-other old new n f tag bytes takes))
    (λ f. grind (arith, exact f, takes.was_free, count-taken old new n tag bytes takes, count-other old new n f tag bytes takes))

-- the frame in hand is held
pub held-taken : (old new : List Frame) (n f : ℕ) (tag : Tag) (bytes : List ℕ) → Takes old new n tag bytes → f ≡ n → 0 < frame_count new f
held-taken old new n f tag bytes takes is = let one = count-taken old new n tag bytes takes in let same = ap (frame_count new) is in omega (arith, one, same)

recount-other : (frames : List Frame) (n c g : ℕ) → g ≢ n → frame_at (recount_frame frames n c) g ≡ frame_at frames g
recount-other frames n c g off = get_or-set_other frames n g (record (frame_at frames n) { count = c }) no_frame off

recount-here : (frames : List Frame) (n c : ℕ) → n < length frames → frame_at (recount_frame frames n c) n ≡ record (frame_at frames n) { count = c }
recount-here frames n c lt = get_or-set_same frames n (record (frame_at frames n) { count = c }) no_frame lt

-- a page parts: a frame is taken and filled, the page gets it, and the hand lets it go
module _ (old new : List Node) (first second third fourth : List Frame) (trees : List ℕ) (i left came p n : ℕ) (tag : Tag) (bytes : List ℕ) (kept : IsKept old first trees) (i_in : i < length trees) (left_is : left ≡ get_or trees i 0)
    (takes : Takes first second n tag bytes) (sound : IsSound new third) (keeps : KeepsTrees old new left came) (kept_maps : KeepsMaps old new left) (kept_frames : KeepsFrames old new second third) (gone : fourth ≡ recount_frame third n (frame_count third n - 1)) where
  exact : (f : ℕ) → frame_count first f ≡ naming old f
  exact = kept.tied.exact

  pub third-held : 1 ≤ frame_count third n
  third-held = let h = kept_frames.holds n in let e = exact n in omega (arith, h, e, takes.was_free, count-taken first second n tag bytes takes)

  third_in : n < length third
  third_in = inside-frame third n (omega (arith, third-held))

  pub part-size : length fourth ≡ length first
  part-size = ap length gone ∙ length-set third n (record (frame_at third n) { count = frame_count third n - 1 }) ∙ kept_frames.size ∙ takes.size

  fourth-other : (f : ℕ) → f ≢ n → frame_at fourth f ≡ frame_at third f
  fourth-other f off = ap (λ fs. frame_at fs f) gone ∙ recount-other third n (frame_count third n - 1) f off

  fourth-here : frame_at fourth n ≡ record (frame_at third n) { count = frame_count third n - 1 }
  fourth-here = ap (λ fs. frame_at fs n) gone ∙ recount-here third n (frame_count third n - 1) third_in

  fourth-exact : (f : ℕ) → frame_count fourth f ≡ naming new f
  fourth-exact f =
      grind (arith, fourth-here, fourth-other f, kept_frames.holds f, exact f, takes.was_free, count-taken first second n tag bytes takes, count-other first second n f tag bytes takes, third-held)

  part-other : (f : ℕ) → f ≢ n → (frame_stamp fourth f ≡ frame_stamp first f) × (frame_bytes fourth f ≡ frame_bytes first f)
  part-other f off =
      let at = fourth-other f off in
      let was = takes.others f off in
      (ap (λ (x : Frame). x.stamp) at ∙ kept_frames.stamps f ∙ ap (λ (x : Frame). x.stamp) was, ap (λ (x : Frame). x.bytes) at ∙ kept_frames.bytes f ∙ ap (λ (x : Frame). x.bytes) was)

  part-here : (frame_stamp fourth n ≡ tag) × (frame_bytes fourth n ≡ bytes)
  part-here =
      (ap (λ (x : Frame). x.stamp) fourth-here ∙ kept_frames.stamps n ∙ ap (λ (x : Frame). x.stamp) takes.here, ap (λ (x : Frame). x.bytes) fourth-here ∙ kept_frames.bytes n ∙ ap (λ (x : Frame). x.bytes) takes.here)

  -- another frame that is held now was held before
  was-held : (f : ℕ) → f ≢ n → 0 < frame_count fourth f → 0 < frame_count first f
  was-held f off held =
      let at = ap (λ (x : Frame). x.count) (fourth-other f off) in
      let was = count-other first second n f tag bytes takes off in
      ⊎_elim (λ some. some) (λ none. absurd (let free = kept_frames.free f (omega (arith, was, none)) in omega (arith, free, at, held))) (cases_lt 0 (frame_count first f))

  module _ (new_tag : times tag (row_tags (tree_maps first old trees)) ≡ 0) where
    -- no held frame had the tag
    fresh : (f : ℕ) → 0 < frame_count first f → frame_stamp first f ≢ tag
    fresh f held is =
        let has = held-tag old first trees kept tag (record { f = f; held = held; is = is }) in
        absurd (omega (arith, tag-some (tree_maps first old trees) tag has, new_tag))

    part-stamped : IsStamped fourth
    part-stamped f g f_held g_held is =
        grind (arith, kept.stamped f g, was-held f, was-held g, fresh f, fresh g, part-other f, part-other g, part-here)

    pub part-kept : IsKept new fourth (set trees i came)
    part-kept =
        record {
          tied = record {
            sound = sound-frames new third fourth sound (ap length gone ∙ length-set third n (record (frame_at third n) { count = frame_count third n - 1 }))
                (λ f. let e = fourth-exact f in omega (arith, e)) (λ f. let e = fourth-exact f in omega (arith, e));
            rooted = λ x.
                let a = kept.tied.rooted x in
                let b = keeps.roots x in
                let c = having-set trees i left came i_in left_is x in
                omega (arith, a, b, c);
            exact = fourth-exact;
          };
          stamped = part-stamped;
          room = omega (arith, kept.room, keeps.size, length-set trees i came);
        }

    pub part-maps : (v : Option PageValue) → Some (value.Data tag bytes) ≡ v → p < PAGES → page new came p ≡ cell.Frame (record { n = n }) → ((q : ℕ) → q ≢ p → q < PAGES → page new came q ≡ page old left q) →
        tree_maps fourth new (set trees i came) ≡ set (tree_maps first old trees) i (put_page (row_of (tree_maps first old trees) i) p v)
    part-maps v is p_in here there =
        maps-put old new first fourth trees i came p (cell.Frame (record { n = n })) v i_in
        (cells-put old new left came p (cell.Frame (record { n = n })) p_in here there ∙ ap (λ t. put_page (cells old t) p (cell.Frame (record { n = n }))) left_is)
        (other-tree old new first trees i left kept i_in left_is kept_maps)
        ((λ x. Some (value.Data (part-here.0 x) (part-here.1 x))) ∙ is)
        (λ k q g k_in q_in off has. part-other g (λ same.
        let held = held-frame old first trees kept.tied g (record { k = k; p = q; inside = k_in; below = q_in; has = has }) in
        let free = ap (frame_count first) same in
        absurd (omega (arith, held, free, takes.was_free))))

-- a page is written in its own frame

refill-other : (frames : List Frame) (n g : ℕ) (bs : List ℕ) → g ≢ n → frame_at (refill_frame frames n bs) g ≡ frame_at frames g
refill-other frames n g bs off = get_or-set_other frames n g (record (frame_at frames n) { bytes = bs }) no_frame off

refill-here : (frames : List Frame) (n : ℕ) (bs : List ℕ) → n < length frames → frame_at (refill_frame frames n bs) n ≡ record (frame_at frames n) { bytes = bs }
refill-here frames n bs lt = get_or-set_same frames n (record (frame_at frames n) { bytes = bs }) no_frame lt

put-same : (m : ℕ → PageCell) (p : ℕ) (c : PageCell) → m p ≡ c → put_page m p c ≡ m
put-same m p c is = λ i q. at q i
  where
    at : (q : ℕ) → cond (eqb q p) c (m q) ≡ m q
    at q = grind (arith, nat_tests, is)

module _ (nodes : List Node) (frames frames' : List Frame) (trees : List ℕ) (i p f : ℕ) (kept : IsKept nodes frames trees) (i_in : i < length trees) (p_in : p < PAGES) (is : page_of nodes trees i p ≡ cell.Frame (record { n = f })) (alone : parts (row_tags (tree_maps frames nodes trees)) (row_of (tree_maps frames nodes trees) i p) ≡ false) where
  pub way-alone : page_short nodes (get_or trees i 0) p ≡ 0
  way-alone =
      ⊎_elim (λ none. none)
      (λ short. absurd (let parts = parting-shared nodes frames trees kept i p f i_in p_in is short in cc (parts, alone)))
      (cases_eq (page_short nodes (get_or trees i 0) p) 0)

  few-holds : frame_count frames f ≤ 1
  few-holds =
      ⊎_elim
      (λ more. absurd (let same = parting-alone nodes frames trees kept i p f i_in p_in is way-alone in let yes = lt-ltb 1 (frame_count frames f) more in cc (same, yes, alone)))
      (λ few. few)
      (cases_lt 1 (frame_count frames f))

  own_held : 0 < frame_count frames f
  own_held = held-frame nodes frames trees kept.tied f (record { k = i; p = p; inside = i_in; below = p_in; has = is })

  pub held-once : frame_count frames f ≡ 1
  held-once = omega (arith, few-holds, own_held)

  module _ (bytes : List ℕ) (refilled : frames' ≡ refill_frame frames f bytes) where
    here-at : frame_at frames' f ≡ record (frame_at frames f) { bytes = bytes }
    here-at = ap (λ fs. frame_at fs f) refilled ∙ refill-here frames f bytes (inside-frame frames f own_held)

    other-at : (g : ℕ) → g ≢ f → frame_at frames' g ≡ frame_at frames g
    other-at g off = ap (λ fs. frame_at fs g) refilled ∙ refill-other frames f g bytes off

    same-count : (g : ℕ) → frame_count frames' g ≡ frame_count frames g
    same-count g = grind (arith, nat_tests, here-at, other-at g)

    same-stamp : (g : ℕ) → frame_stamp frames' g ≡ frame_stamp frames g
    same-stamp g = grind (arith, nat_tests, here-at, other-at g)

    pub refill-count : (g : ℕ) → frame_count frames' g ≡ frame_count frames g
    refill-count = same-count

    pub refill-size : length frames' ≡ length frames
    refill-size = ap length refilled ∙ length-set frames f (record (frame_at frames f) { bytes = bytes })

    pub refill-kept : IsKept nodes frames' trees
    refill-kept =
        record {
          tied = record {
            sound = sound-frames nodes frames frames' kept.tied.sound refill-size
                (λ g. let c = same-count g in let e = kept.tied.exact g in omega (arith, c, e)) (λ g. let c = same-count g in let e = kept.tied.exact g in omega (arith, c, e));
            rooted = kept.tied.rooted;
            exact = λ g. same-count g ∙ kept.tied.exact g;
          };
          stamped = λ g h g_held h_held same.
              kept.stamped g h (let c = same-count g in omega (arith, c, g_held)) (let c = same-count h in omega (arith, c, h_held)) (sym (same-stamp g) ∙ same ∙ same-stamp h);
          room = kept.room;
        }

    pub refill-maps : (v : Option PageValue) → Some (value.Data (frame_stamp frames f) bytes) ≡ v →
        tree_maps frames' nodes trees ≡ set (tree_maps frames nodes trees) i (put_page (row_of (tree_maps frames nodes trees) i) p v)
    refill-maps v v_is =
        ap (tree_maps frames' nodes) (sym (set-get_or trees i 0))
        ∙ maps-put nodes nodes frames frames' trees i (get_or trees i 0) p (cell.Frame (record { n = f })) v i_in
        (sym (put-same (cells nodes (get_or trees i 0)) p (cell.Frame (record { n = f })) (cells-page nodes (get_or trees i 0) p p_in ∙ is)))
        (λ j _ _. refl)
        ((λ x. Some (value.Data (same-stamp f x) (ap (λ (y : Frame). y.bytes) here-at x))) ∙ v_is)
        (λ k q g k_in q_in off has.
        let apart : g ≢ f = λ same.
        let elsewhere : HasElsewhere nodes trees i p f = record { other = record { k = k; p = q; inside = k_in; below = q_in; has = has ∙ ap (λ x. cell.Frame (record { n = x })) same }; elsewhere = off } in
        ⊎_elim (λ short. short way-alone) (λ more. absurd (omega (arith, more, few-holds))) ((elsewhere-is nodes frames trees i p f kept.tied i_in p_in is).0 elsewhere) in
        (same-stamp g, ap (λ (x : Frame). x.bytes) (other-at g apart)))
