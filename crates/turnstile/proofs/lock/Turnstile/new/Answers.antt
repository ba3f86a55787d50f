use Rattle.turnstile.specs.Passes.{Lock}
use Rattle.turnstile.proofs.Passing.{all_new, dealt}
use Rattle.turnstile.proofs.lock.Turnstile.new.Goals as goal

pub returns-clause-all : goal.returns-clause-all
returns-clause-all g c =
    let table = c.in_ok-table.table in
    let t : Lock g.row.S-Name.Denot = record { table = table.shared.table_id; name = g.S.Turned.name table.shared.key.value; seats = c.args.seats } in
    let passes = c.in_ok-passes.ensures in
    all_new t c.in_ok-passes.passes.items passes.count (dealt t c.in_ok-passes.passes.items passes.first passes.others)
