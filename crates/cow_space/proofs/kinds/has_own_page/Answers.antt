use Rattle.std.proofs.Common.{◌≡◌, ◌≢◌, ◌∙◌, sym, true, [], List, ◌∷◌, length, arith, ap}
use Rattle.range_map.specs.declared.segment.Segment.{Segment}
use Rattle.cow_space.specs.Kept.{has_own}
use Rattle.cow_space.proofs.OwnPages.{own-none, own-some}
use Rattle.cow_space.proofs.kinds.has_own_page.Goals as goal

some-segment : (segments : List Segment) → has_own segments ≡ true → 0 ≢ length segments
some-segment [] has = absurd cc
some-segment (s ∷ segments) has = λ none. omega (arith, none)

pub returns-clause-none : goal.returns-clause-none
returns-clause-none c off = own-none c.args.kinds.now (ap has_own (sym c.segments.ensures.items) ∙ sym c.has_own.ensures ∙ off)

pub returns-clause-some : goal.returns-clause-some
returns-clause-some c on none =
    let found = own-some c.args.kinds.now c.segments.ensures.canonical.some c.segments.ensures.canonical.apart (ap has_own (sym c.segments.ensures.items) ∙ sym c.has_own.ensures ∙ on) in
    none found.0 found.1

pub returns-clause-ranges : goal.returns-clause-ranges
returns-clause-ranges c on =
    let some = some-segment c.args.kinds.now (ap has_own (sym c.segments.ensures.items) ∙ sym c.has_own.ensures ∙ on) in
    omega (arith, some, c.segments.ensures.canonical.counted)
