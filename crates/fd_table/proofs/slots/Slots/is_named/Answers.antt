use Rattle.std.proofs.Common.{arith, ◌∙◌, sym}
use Rattle.fd_table.specs.Seen.{slots}
use Rattle.fd_table.proofs.NamedLemmas.{named-some, some-named}
use Rattle.fd_table.proofs.slots.Slots.is_named.Goals as goal

pub is_named-requires : goal.is_named-requires
unfolding slots
is_named-requires c =
    omega (arith, c.requires, c.args.self.now.numbers)

pub returns : goal.returns
unfolding slots
returns c =
    let pool = c.args.self.now.objects.pool in
    let tables = c.args.self.now.tables in (
      λ yes. named-some pool tables c.args.number c.args.self.now.kept (sym c.is_named.ensures ∙ yes),
      λ has. c.is_named.ensures ∙ some-named pool tables c.args.number has.0 has.1 c.args.self.now.kept has.2,
    )
