use Rattle.std.proofs.Common.{◌≡◌, ◌<◌, sym, subst, length, set}
use Rattle.fd_table.specs.Fillings.{slot_of}
use Rattle.fd_table.specs.Pools.{count_of}
use Rattle.fd_table.specs.Objects.{IsCounted}
use Rattle.fd_table.proofs.ObjectLemmas.{counted-take, some-of}
use Rattle.fd_table.proofs.objects.Objects.take.Goals as goal

pub invariant_of-self : goal.invariant_of-self
invariant_of-self c =
    let pool = c.args.self.now.pool in
    let o = c.unwrap-o.result in
    let inside = some-of c.take.result o (λ p. p < length pool) c.unwrap-o.ensures c.take.ensures.inside in
    let free = some-of c.take.result o (λ p. count_of pool p ≡ 0) c.unwrap-o.ensures c.take.ensures.was_free in
    let taken = some-of c.take.result o (λ p. c.take.new.self ≡ set pool p (record { count = 1; slot = slot_of c.args.filling.now })) c.unwrap-o.ensures c.take.ensures.taken in
    record {
      counted = subst (λ named. IsCounted c.take.new.self named) (sym c.count_more.ensures)
          (counted-take pool _ _ o (slot_of c.args.filling.now) c.args.self.now.counted inside free (λ t is. some-of _ t (λ p. p < length c.args.self.now.named.items) is c.requires.target) taken);
    }
