use Rattle.std.proofs.Common.{◌<◌, ap, ◌∙◌, sym, subst, get_or}
use Rattle.fd_table.specs.Objects.{IsCounted, counted_less}
use Rattle.fd_table.proofs.ObjectLemmas.{counted-drop, if-some, last-counted}
use Rattle.fd_table.proofs.objects.Objects.drop_hold.Goals as goal

pub count_less-requires : goal.count_less-requires
count_less-requires c =
    if-some c.last_target-target.result (λ p. 0 < get_or c.args.self.now.named.items p 0) (λ t is.
    last-counted c.args.self.now.pool c.args.self.now.named.items c.args.object t c.args.self.now.counted c.requires (sym c.last_target-target.ensures ∙ is))

pub invariant_of-self : goal.invariant_of-self
invariant_of-self c =
    record {
      counted = subst (λ named. IsCounted c.drop_hold.new.self named) (sym (c.count_less.ensures ∙ ap (counted_less c.args.self.now.named.items) c.last_target-target.ensures))
          (counted-drop c.args.self.now.pool _ _ c.args.object c.args.self.now.counted c.requires c.drop_hold.ensures);
    }
