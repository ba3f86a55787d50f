use Rattle.std.proofs.Common.{◌≡◌, ℕ, [], ◌-◌, length, replicate, ap, ◌∙◌, arith}
use Rattle.std.proofs.lemmas.List.{length-replicate}
use Rattle.pool_base.specs.Padded.{padded}
use Rattle.pool_base.specs.Paired.{paired}
use Rattle.pool_base.proofs.PairedLemmas.{paired-replicate}
use Rattle.fd_table.specs.Pools.{seen_held, seen_pool}
use Rattle.fd_table.specs.Slots.{empty_slot}
use Rattle.fd_table.proofs.pool.Pool.open.Goals as goal

pub returns : goal.returns
returns c =
    let size : length (replicate c.args.objects 0) ≡ c.args.objects = length-replicate {A = ℕ} c.args.objects 0 in
    let whole : c.args.objects - 0 ≡ c.args.objects = omega arith in
    (λ i. seen_pool (c.in_ok-counts.ensures i) ((c.in_ok-fillings.ensures i).slots))
    ∙ ap (λ n. paired seen_held (replicate c.args.objects 0) (padded n empty_slot [])) size
    ∙ ap (λ n. paired seen_held (replicate c.args.objects 0) (replicate n empty_slot)) whole
    ∙ paired-replicate seen_held c.args.objects 0 empty_slot
