use Rattle.std.proofs.Common.{[], ◌∷◌, ◌++◌, inl, inr, refl, subst}
use Rattle.lwcrun_inputs.proofs.Pieces.{goes-on, stops-in-first, unread-line}
use Rattle.lwcrun_inputs.specs.Statuses.{Takes}
use Rattle.lwcrun_inputs.proofs.messages.write_unread_line.Goals as goal

pub returns-in_err-write_whole : goal.returns-in_err-write_whole
returns-in_err-write_whole g c =
    let old = g.E.Sink.seen c.args.err.now in
    let now = g.E.Sink.seen c.write_whole.new.out in
    let first = c.as_bytes.result.now in
    let name = c.args.name.now in
    subst (λ text. Takes text old now) (unread-line first name (10 ∷ []) name c.as_bytes.ensures.value refl refl)
    (stops-in-first old now first (name ++ 10 ∷ []) c.in_err-write_whole.ensures.part c.in_err-write_whole.ensures.cause)

pub returns-in_err-write_whole-2 : goal.returns-in_err-write_whole-2
returns-in_err-write_whole-2 g c =
    let old = g.E.Sink.seen c.args.err.now in
    let mid = g.E.Sink.seen c.write_whole.new.out in
    let now = g.E.Sink.seen c.write_whole-2.new.out in
    let first = c.as_bytes.result.now in
    let name = c.as_bytes-2.result.now in
    subst (λ text. Takes text old now) (unread-line first name (10 ∷ []) c.args.name.now c.as_bytes.ensures.value c.as_bytes-2.ensures.value refl)
    (goes-on old mid now first (name ++ 10 ∷ []) c.in_ok-write_whole.ensures.whole c.in_ok-write_whole.ensures.no_fault
    (stops-in-first mid now name (10 ∷ []) c.in_err-write_whole-2.ensures.part c.in_err-write_whole-2.ensures.cause))

pub returns-in_err-write_whole-3 : goal.returns-in_err-write_whole-3
returns-in_err-write_whole-3 g c =
    let old = g.E.Sink.seen c.args.err.now in
    let mid = g.E.Sink.seen c.write_whole.new.out in
    let next = g.E.Sink.seen c.write_whole-2.new.out in
    let now = g.E.Sink.seen c.write_whole-3.new.out in
    let first = c.as_bytes.result.now in
    let name = c.as_bytes-2.result.now in
    let end = c.as_bytes-3.result.now in
    subst (λ text. Takes text old now) (unread-line first name end c.args.name.now c.as_bytes.ensures.value c.as_bytes-2.ensures.value c.as_bytes-3.ensures.value)
    (goes-on old mid now first (name ++ end) c.in_ok-write_whole.ensures.whole c.in_ok-write_whole.ensures.no_fault
    (goes-on mid next now name end c.in_ok-write_whole-2.ensures.whole c.in_ok-write_whole-2.ensures.no_fault
    (inr (c.in_err-write_whole-3.ensures.part, c.in_err-write_whole-3.ensures.cause))))

pub returns : goal.returns
returns g c =
    let old = g.E.Sink.seen c.args.err.now in
    let mid = g.E.Sink.seen c.write_whole.new.out in
    let next = g.E.Sink.seen c.write_whole-2.new.out in
    let now = g.E.Sink.seen c.write_whole-3.new.out in
    let first = c.as_bytes.result.now in
    let name = c.as_bytes-2.result.now in
    let end = c.as_bytes-3.result.now in
    subst (λ text. Takes text old now) (unread-line first name end c.args.name.now c.as_bytes.ensures.value c.as_bytes-2.ensures.value c.as_bytes-3.ensures.value)
    (goes-on old mid now first (name ++ end) c.in_ok-write_whole.ensures.whole c.in_ok-write_whole.ensures.no_fault
    (goes-on mid next now name end c.in_ok-write_whole-2.ensures.whole c.in_ok-write_whole-2.ensures.no_fault
    (inl (c.in_ok-write_whole-3.ensures.whole, c.in_ok-write_whole-3.ensures.no_fault))))
