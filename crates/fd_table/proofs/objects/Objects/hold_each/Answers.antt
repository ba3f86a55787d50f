use Rattle.std.proofs.Common.{◌+◌, ◌-◌, ◌<◌, get_or, length, take, refl, arith, ap, ◌∙◌, subst, sym}
use Rattle.fd_table.specs.Pools.{count_of}
use Rattle.fd_table.specs.Objects.{HoldsMore}
use Rattle.fd_table.proofs.ObjectLemmas.{more-none, more-skip, more-hold, times-some, times-next, held-in}
use Rattle.fd_table.proofs.objects.Objects.hold_each.Goals as goal
use Rattle.fd_table.proofs.objects.Objects.hold_each.Goals.{then-entry-gt0, else-entry-gt0}

pub loop-entry-init : goal.loop-entry-init
loop-entry-init c = record { pool = more-none _; places = refl }

pub hold-requires-clause-held : goal.hold-requires-clause-held
hold-requires-clause-held c =
    let k = c.loop-entry.entry-index in
    let o = get_or c.args.entries.now k 0 - 1 in
    let named = times-some o c.args.entries.now k (omega arith) (omega arith) in
    let now = c.loop-entry.invariant.pool.counts o in
    omega (arith, c.requires.held o named, now)

pub hold-requires-clause-fits : goal.hold-requires-clause-fits
hold-requires-clause-fits c =
    let k = c.loop-entry.entry-index in
    let o = get_or c.args.entries.now k 0 - 1 in
    let next = times-next o c.args.entries.now k (omega arith) (omega arith) in
    let now = c.loop-entry.invariant.pool.counts o in
    omega (arith, next, c.requires.fits o, now)

pub loop-entry-preserved : goal.loop-entry-preserved
loop-entry-preserved c =
    let k = c.loop-entry.entry-index in
    let entries = c.args.entries.now in
    let o = get_or entries k 0 - 1 in
    elim c.if-entry-gt0.branch [
      | then-entry-gt0 w ↦
          let named = times-some o entries k (omega arith) (omega arith) in
          let now = c.loop-entry.invariant.pool.counts o in
          let held : 0 < count_of c.loop-entry.self.pool o = omega (arith, c.requires.held o named, now) in
          record {
            pool = subst (λ s. HoldsMore c.args.self.now.pool s.pool (take (k + 1) entries)) (sym w.self-is)
                (more-hold c.args.self.now.pool c.loop-entry.self.pool _ entries k o c.loop-entry.invariant.pool (omega arith) (omega arith) (held-in _ o held) w.hold.ensures.pool);
            places = ap (λ s. length s.named.items) w.self-is ∙ w.hold.ensures.places ∙ c.loop-entry.invariant.places;
          }
      | else-entry-gt0 w ↦
          record {
            pool = subst (λ s. HoldsMore c.args.self.now.pool s.pool (take (k + 1) entries)) (sym w.self-is)
                (more-skip c.args.self.now.pool c.loop-entry.self.pool entries k c.loop-entry.invariant.pool (omega arith) (omega arith));
            places = ap (λ s. length s.named.items) w.self-is ∙ c.loop-entry.invariant.places;
          }
    ]
