use Rattle.std.proofs.Common.{◌++◌, ◌∷◌, [], refl, sym, ap, subst}
use Rattle.std.specs.Prelude.{slice_set}
use Rattle.lwc_stream.proofs.Lists.{set_same}
use Rattle.lwc_stream.proofs.Shown.{takes_one}
use Rattle.lwc_stream.specs.Queues.{End}
use Rattle.lwc_stream.specs.Streams.{HasShown}
use Rattle.lwc_stream.proofs.collector.take_one.Goals as goal

pub returns-in_default-clause-shown : goal.returns-in_default-clause-shown
returns-in_default-clause-shown c = λ place lists there failed before now h.
    let values = c.args.takes.now.values in
    let same = ap (λ (e : End). e.values) c.in_default.ensures in
    subst (λ vs. HasShown (slice_set lists place vs) c.args.waiting.now failed before now) (sym same)
    (subst (λ l. HasShown l c.args.waiting.now failed before now) (sym (set_same lists place values there)) h)

pub returns-clause-shown : goal.returns-clause-shown
returns-clause-shown c = λ place lists there failed before now h.
    let values = c.args.takes.now.values in
    let x = c.in-Some.reply in
    let grown = ap (λ (e : End). e.values) c.in-Some.ensures in
    subst (λ vs. HasShown (slice_set lists place vs) c.put.new.self failed before now) (sym grown)
    (takes_one place lists (slice_set lists place (values ++ x ∷ [])) c.args.waiting.now c.put.new.self x (record { list = values; there = there; grown = refl }) c.put.ensures.places c.put.ensures.next failed before now h)
