-- What changes of the counts, the stamps and the bytes are in the list of frames.
use Rattle.std.proofs.Common.{◌≡◌, ℕ, ◌<◌, ◌≤◌, ⊎_elim, cond, eqb, ltb, List, [], length, get_or, set, replicate, refl, sym, ◌∙◌, ap, arith, length-set, get_or-set_other}
use Rattle.std.proofs.lemmas.List.{set-get_or, get_or_past, get_or_read}
use Rattle.std.proofs.lemmas.Bool.{cases_lt}
use Rattle.lwc_types.specs.declared.name.Tag.{Tag}
use Rattle.lwc_types.specs.Pages.{zero_page}
use Rattle.pool_base.specs.HoldCounts.{Places, free_count, held_count}
use Rattle.pool_base.specs.Padded.{padded}
use Rattle.pool_base.specs.Paired.{paired}
use Rattle.pool_base.proofs.PaddedLemmas.{length-padded, get_or-padded, get_or-padding}
use Rattle.pool_base.proofs.PairedLemmas.{length-paired, get_or-paired, paired-set, paired-replicate, sum_by-paired}
use Rattle.frame_pool.specs.Frame.{Frame, no_frame, frame_at, frame_count, frame_stamp, frame_bytes, recount_frame, refill_frame, free_frames, used_frames}
use Rattle.frame_pool.specs.View.{Content, content, no_tag, seen_frame, seen_contents, seen_frames, IsWhole}

abbrev no_content : Content
no_content = content no_tag []

module _ (places : Places) (stamps : List Tag) (bytes : List (List ℕ)) (frames : List Frame) (v : seen_frames places stamps bytes ≡ frames) (whole : IsWhole places stamps bytes) where
  abbrev size : ℕ
  size = length places.counts

  length-stamps : length (padded size no_tag stamps) ≡ size
  length-stamps = length-padded size no_tag stamps (omega (arith, whole.stamped, whole.within))

  length-bytes : length (padded size zero_page bytes) ≡ size
  length-bytes = length-padded size zero_page bytes (omega (arith, whole.filled, whole.within))

  length-contents : size ≡ length (seen_contents size stamps bytes)
  length-contents = omega (arith, length-stamps, length-bytes, length-paired content (padded size no_tag stamps) (padded size zero_page bytes) (length-stamps ∙ sym length-bytes))

  content_at : (n : ℕ) → n < places.taken → get_or (seen_contents size stamps bytes) n no_content ≡ content (get_or stamps n no_tag) (get_or bytes n [])
  content_at n lt =
      get_or-paired content (padded size no_tag stamps) (padded size zero_page bytes) n no_tag [] no_content (omega (arith, length-stamps, whole.within, lt)) (omega (arith, length-bytes, whole.within, lt))
      ∙ (λ i. content (get_or-padded size no_tag stamps n no_tag (omega (arith, whole.stamped, lt)) i) (get_or-padded size zero_page bytes n [] (omega (arith, whole.filled, lt)) i))

  pub seen_length : length frames ≡ size
  seen_length = ap (λ fs. length fs) (sym v) ∙ length-paired seen_frame places.counts (seen_contents size stamps bytes) length-contents

  frame_at-all : (n : ℕ) → n < size → frame_at frames n ≡ seen_frame (get_or places.counts n 0) (get_or (seen_contents size stamps bytes) n no_content)
  frame_at-all n lt =
      ap (λ fs. frame_at fs n) (sym v) ∙ get_or-paired seen_frame places.counts (seen_contents size stamps bytes) n 0 no_content no_frame lt (omega (arith, length-contents, lt))

  pub seen_frame_at : (n : ℕ) → n < places.taken → frame_at frames n ≡ seen_frame (get_or places.counts n 0) (content (get_or stamps n no_tag) (get_or bytes n []))
  seen_frame_at n lt = frame_at-all n (omega (arith, whole.within, lt)) ∙ ap (λ c. seen_frame (get_or places.counts n 0) c) (content_at n lt)

  pub seen_count : (n : ℕ) → get_or places.counts n 0 ≡ frame_count frames n
  seen_count n =
      ⊎_elim
      (λ lt. sym (ap (λ frame. frame.count) (frame_at-all n lt)))
      (λ past.
      let past_frames : length frames ≤ n = omega (arith, seen_length, past) in
      get_or_past places.counts n 0 past ∙ sym (ap (λ frame. frame.count) (get_or_past frames n no_frame past_frames)))
      (cases_lt n size)

  -- a frame that is held was taken
  pub seen_inside : (n : ℕ) → 0 < frame_count frames n → n < places.taken
  seen_inside n held =
      ⊎_elim (λ lt. lt) (λ late. absurd (let none = whole.fresh n late in let same = seen_count n in omega (arith, none, same, held))) (cases_lt n places.taken)

  pub seen_stamp : (n : ℕ) (stamp : Tag) → n < places.taken → stamp ≡ get_or stamps n stamp → stamp ≡ frame_stamp frames n
  seen_stamp n stamp lt is = get_or_read stamps n stamp (omega (arith, whole.stamped, lt)) is no_tag ∙ sym (ap (λ frame. frame.stamp) (seen_frame_at n lt))

  -- a frame that was never taken has no stamp
  pub seen_no_stamp : (n : ℕ) → length stamps ≤ n → n < length frames → no_tag ≡ frame_stamp frames n
  seen_no_stamp n late lt =
      let inside : n < size = omega (arith, seen_length, lt) in
      sym (ap (λ (f : Frame). f.stamp) (frame_at-all n inside)
      ∙ ap (λ (c : Content). c.stamp) (get_or-paired content (padded size no_tag stamps) (padded size zero_page bytes) n no_tag [] no_content (omega (arith, length-stamps, inside)) (omega (arith, length-bytes, inside)))
      ∙ get_or-padding size no_tag stamps n no_tag late inside)

  pub seen_bytes : (n : ℕ) (bs : List ℕ) → n < places.taken → bs ≡ get_or bytes n bs → bs ≡ frame_bytes frames n
  seen_bytes n bs lt is = get_or_read bytes n bs (omega (arith, whole.filled, lt)) is [] ∙ sym (ap (λ frame. frame.bytes) (seen_frame_at n lt))

  -- one frame is held more or less often
  pub seen_recount : (places' : Places) (n c : ℕ) → n < places.taken → places'.counts ≡ set places.counts n c → seen_frames places' stamps bytes ≡ recount_frame frames n c
  seen_recount places' n c lt is =
      let contents = seen_contents size stamps bytes in
      let put = paired-set seen_frame places.counts contents n c (get_or contents n no_content) in
      let same = set-get_or contents n no_content in
      let frame : seen_frame c (get_or contents n no_content) ≡ record (frame_at frames n) { count = c } = ap (λ (f : Frame). record f { count = c }) (sym (frame_at-all n (omega (arith, whole.within, lt)))) in
      let long : length places'.counts ≡ size = ap length is ∙ length-set places.counts n c in
      ap (λ cs. paired seen_frame cs (seen_contents (length places'.counts) stamps bytes)) is
      ∙ ap (λ k. paired seen_frame (set places.counts n c) (seen_contents k stamps bytes)) long
      ∙ ap (λ xs. paired seen_frame (set places.counts n c) xs) (sym same) ∙ put ∙ ap (λ fs. set fs n (seen_frame c (get_or contents n no_content))) v ∙ ap (λ f. set frames n f) frame

  -- one frame has another count, stamp and bytes
  pub seen_taken : (places' : Places) (stamps' : List Tag) (bytes' : List (List ℕ)) (n c : ℕ) (stamp : Tag) (bs : List ℕ) → places'.counts ≡ set places.counts n c → padded size no_tag stamps' ≡ set (padded size no_tag stamps) n stamp → padded size zero_page bytes' ≡ set (padded size zero_page bytes) n bs → seen_frames places' stamps' bytes' ≡ set frames n (seen_frame c (content stamp bs))
  seen_taken places' stamps' bytes' n c stamp bs is stamped filled =
      let long : length places'.counts ≡ size = ap length is ∙ length-set places.counts n c in
      ap (λ cs. paired seen_frame cs (seen_contents (length places'.counts) stamps' bytes')) is
      ∙ ap (λ k. paired seen_frame (set places.counts n c) (seen_contents k stamps' bytes')) long
      ∙ (λ i. paired seen_frame (set places.counts n c) (paired content (stamped i) (filled i)))
      ∙ ap (λ xs. paired seen_frame (set places.counts n c) xs) (paired-set content (padded size no_tag stamps) (padded size zero_page bytes) n stamp bs)
      ∙ paired-set seen_frame places.counts (seen_contents size stamps bytes) n c (content stamp bs) ∙ ap (λ fs. set fs n (seen_frame c (content stamp bs))) v

  pub seen_refill : (bytes' : List (List ℕ)) (n : ℕ) (bs : List ℕ) → n < places.taken → padded size zero_page bytes' ≡ set (padded size zero_page bytes) n bs → seen_frames places stamps bytes' ≡ refill_frame frames n bs
  seen_refill bytes' n bs lt filled =
      let stamp_same : padded size no_tag stamps ≡ set (padded size no_tag stamps) n (get_or stamps n no_tag) =
      sym (set-get_or (padded size no_tag stamps) n no_tag) ∙ ap (set (padded size no_tag stamps) n) (get_or-padded size no_tag stamps n no_tag (omega (arith, whole.stamped, lt))) in
      let put = seen_taken places stamps bytes' n (get_or places.counts n 0) (get_or stamps n no_tag) bs (sym (set-get_or places.counts n 0)) stamp_same filled in
      let frame : seen_frame (get_or places.counts n 0) (content (get_or stamps n no_tag) bs) ≡ record (frame_at frames n) { bytes = bs } = ap (λ (f : Frame). record f { bytes = bs }) (sym (seen_frame_at n lt)) in
      put ∙ ap (λ f. set frames n f) frame

  pub seen_free : free_frames frames ≡ free_count places.counts
  seen_free =
      ap (λ fs. free_frames fs) (sym v) ∙ sum_by-paired seen_frame (λ frame. cond (eqb frame.count 0) 1 0) (λ c. cond (eqb c 0) 1 0) places.counts (seen_contents size stamps bytes) (λ _ _. refl) length-contents

  pub seen_used : held_count places.counts ≡ used_frames frames
  seen_used =
      sym (sum_by-paired seen_frame (λ frame. cond (ltb 0 frame.count) 1 0) (λ c. cond (ltb 0 c) 1 0) places.counts (seen_contents size stamps bytes) (λ _ _. refl) length-contents) ∙ ap (λ fs. used_frames fs) v

  -- one frame that was taken is held more or less often
  pub whole-recount : (places' : Places) (n c : ℕ) → n < places.taken → places'.counts ≡ set places.counts n c → places'.taken ≡ places.taken → IsWhole places' stamps bytes
  whole-recount places' n c lt is same =
      record {
        stamped = whole.stamped ∙ sym same;
        filled = whole.filled ∙ sym same;
        within = omega (arith, ap length is, length-set places.counts n c, whole.within, same);
        fresh = λ m late. ap (λ cs. get_or cs m 0) is ∙ get_or-set_other places.counts n m c 0 (λ e. absurd (omega (arith, e, late, same, lt))) ∙ whole.fresh m (omega (arith, late, same));
      }

  pub whole-taken : (places' : Places) (stamps' : List Tag) (bytes' : List (List ℕ)) (n c : ℕ) → places'.counts ≡ set places.counts n c → n < size → places.taken ≤ places'.taken → n < places'.taken → places'.taken ≤ size → length stamps' ≡ places'.taken → length bytes' ≡ places'.taken → IsWhole places' stamps' bytes'
  whole-taken places' stamps' bytes' n c is lt more held within stamped filled =
      record {
        stamped = stamped;
        filled = filled;
        within = omega (arith, ap length is, length-set places.counts n c, within);
        fresh = λ m late. ap (λ cs. get_or cs m 0) is ∙ get_or-set_other places.counts n m c 0 (λ e. absurd (omega (arith, e, late, held))) ∙ whole.fresh m (omega (arith, late, more));
      }

pub seen_new : (n : ℕ) (stamp : Tag) (bs : List ℕ) → paired seen_frame (replicate n 0) (paired content (replicate n stamp) (replicate n bs)) ≡ replicate n (seen_frame 0 (content stamp bs))
seen_new n stamp bs = ap (λ xs. paired seen_frame (replicate n 0) xs) (paired-replicate content n stamp bs) ∙ paired-replicate seen_frame n 0 (content stamp bs)
