use Rattle.std.proofs.Common.{◌≡◌, ℕ, [], ◌-◌, length, replicate, ap, ◌∙◌, arith}
use Rattle.std.proofs.lemmas.List.{length-replicate}
use Rattle.pool_base.specs.Paired.{paired}
use Rattle.lwc_types.specs.Pages.{zero_page}
use Rattle.frame_pool.specs.View.{content, no_tag, seen_frame, seen_contents, seen_frames}
use Rattle.frame_pool.proofs.PoolLemmas.{seen_new}
use Rattle.frame_pool.proofs.pool.Pool.open.Goals as goal

pub returns : goal.returns
returns c =
    let size : length (replicate c.args.frames 0) ≡ c.args.frames = length-replicate {A = ℕ} c.args.frames 0 in
    let whole : c.args.frames - 0 ≡ c.args.frames = omega arith in
    (λ i. seen_frames (c.in_ok-counts.ensures i) (c.in_ok-stamps.ensures.items i) (c.in_ok-bytes.ensures.items i))
    ∙ ap (λ n. paired seen_frame (replicate c.args.frames 0) (seen_contents n [] [])) size
    ∙ ap (λ n. paired seen_frame (replicate c.args.frames 0) (paired content (replicate n no_tag) (replicate n zero_page))) whole
    ∙ seen_new c.args.frames no_tag zero_page
