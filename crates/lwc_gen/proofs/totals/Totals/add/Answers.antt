use Rattle.std.proofs.Common.{rules}
use Rattle.lwc_gen.proofs.Added.{added}
use Rattle.lwc_gen.proofs.totals.Totals.add.Goals as goal

pub returns-clause-added : goal.returns-clause-added
returns-clause-added c replies is = added replies c.args.status c.args.reply.now c.args.self.now c.from.result _ _ is (search rules) c.words-first.ensures.first c.words-first.ensures.second
