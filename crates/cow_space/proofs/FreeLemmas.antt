-- Frames that are free.
use Rattle.std.proofs.Common.{◌≡◌, ℕ, suc, ◌+◌, ◌≤◌, eqb, List, [], ◌∷◌, length, arith}
use Rattle.std.proofs.lemmas.Bool.Decides.{nat_tests}
use Rattle.std.proofs.lemmas.List.Sums.{sum_by-cons}
use Rattle.frame_pool.specs.Frame.{Frame, frame_count}
use Rattle.frame_pool.specs.Frame as frames
use Rattle.pool_base.proofs.Totals.{one_if}
use Rattle.cow_space.specs.declared.cells.PageCells.{PageCells}
use Rattle.cow_space.specs.declared.rows.Rows.{Rows}
use Rattle.cow_space.specs.RowSeen as rows
use Rattle.cow_space.specs.Seen.{cells, frames_of, free_frames}
use Rattle.cow_space.specs.Tags.{different, row_tags, used}
use Rattle.cow_space.proofs.OwnTags.{used-rows}
use Rattle.cow_space.proofs.UsedLemmas.{free-used, used-is}

-- where free frames stay free, no fewer are free
pub free-kept : (old new : List Frame) → length new ≡ length old → ((f : ℕ) → frame_count old f ≡ 0 → frame_count new f ≡ 0) → frames.free_frames old ≤ frames.free_frames new
free-kept [] new size keeps = omega arith
free-kept (x ∷ xs) [] size keeps = absurd (omega (arith, size))
free-kept (x ∷ xs) (y ∷ ys) size keeps =
    let tail = free-kept xs ys (omega (arith, size)) (λ f. keeps (suc f)) in
    let before = sum_by-cons (λ (z : Frame). one_if (eqb z.count 0)) x xs in
    let after = sum_by-cons (λ (z : Frame). one_if (eqb z.count 0)) y ys in
    let first : one_if (eqb x.count 0) ≤ one_if (eqb y.count 0) = let here = keeps 0 in grind (arith, nat_tests, here) in
    omega (arith, tail, before, after, first)

-- each frame is free, or that of one tag of the rows
pub rows-free : (w : Rows) → rows.free_frames w + different (row_tags (rows.maps w)) ≡ rows.frames_of w
unfolding rows.free_frames rows.maps rows.frames_of
rows-free w = let used = used-is w.store.nodes.all w.store.frames w.trees.items w.kept in let all = free-used w.store.frames in omega (arith, used, all)

pub cells-free : (w : PageCells) → free_frames w + used (cells w) ≡ frames_of w
cells-free w = let all = rows-free w.rows in let tags = used-rows w in omega (arith, all, tags)

-- as many frames are in use, so as many are free
pub free-same : (old new : PageCells) → frames_of new ≡ frames_of old → used (cells new) ≡ used (cells old) → free_frames new ≡ free_frames old
free-same old new size same = let before = cells-free old in let after = cells-free new in omega (arith, before, after, size, same)
