use Rattle.std.proofs.Common.{◌∙◌, ap, arith, length}
use Rattle.std.proofs.Math.ListN.{length-set}
use Rattle.std.proofs.lemmas.List.{length_push}
use Rattle.pool_base.proofs.PaddedLemmas.{padded-push, padded-set}
use Rattle.fd_table.specs.Fillings.{slot_of}
use Rattle.fd_table.proofs.FillingLemmas.{stored-length}
use Rattle.fd_table.proofs.fillings.Fillings.put_next.Goals as goal

pub replace-requires : goal.replace-requires
replace-requires c =
    omega (arith, c.if-place-len.true, c.len.ensures, c.self.inside.stored.ok, stored-length _ _ _ (λ i. (c.self.view_is i).slots) c.self.invariant.beside)

pub push-requires : goal.push-requires
push-requires c =
    omega (arith, c.requires.room, c.if-place-len.false, c.len.ensures, c.self.inside.stored.ok, stored-length _ _ _ (λ i. (c.self.view_is i).slots) c.self.invariant.beside)

pub returns-then-place-len-clause-padded : goal.returns-then-place-len-clause-padded
returns-then-place-len-clause-padded c = λ size fill lt.
    padded-set size fill _ _ _ _
    (omega (arith, c.if-place-len.true, c.len.ensures, c.self.inside.stored.ok, stored-length _ _ _ (λ i. (c.self.view_is i).slots) c.self.invariant.beside))
    c.replace.ensures.slots (ap length c.replace.ensures.slots ∙ length-set _ _ _)

pub returns-then-place-len-clause-len : goal.returns-then-place-len-clause-len
returns-then-place-len-clause-len c =
    let same = ap length c.replace.ensures.slots ∙ length-set c.args.self.now.slots c.args.place (slot_of c.args.filling.now) in
    omega (arith, same, c.if-place-len.true, c.len.ensures, c.self.inside.stored.ok, stored-length _ _ _ (λ i. (c.self.view_is i).slots) c.self.invariant.beside)

pub returns-else-place-len-clause-padded : goal.returns-else-place-len-clause-padded
returns-else-place-len-clause-padded c = λ size fill lt.
    padded-push size fill _ _ _ _
    (omega (arith, c.requires.next, c.if-place-len.false, c.len.ensures, c.self.inside.stored.ok, stored-length _ _ _ (λ i. (c.self.view_is i).slots) c.self.invariant.beside))
    lt c.push.ensures.slots

pub returns-else-place-len-clause-len : goal.returns-else-place-len-clause-len
returns-else-place-len-clause-len c =
    let more = ap length c.push.ensures.slots ∙ length_push c.args.self.now.slots (slot_of c.args.filling.now) in
    omega (arith, more, c.requires.next, c.if-place-len.false, c.len.ensures, c.self.inside.stored.ok, stored-length _ _ _ (λ i. (c.self.view_is i).slots) c.self.invariant.beside)
