use Rattle.std.proofs.Common.{◌≡◌, ℕ, Option, ap, sym, ◌∙◌, true, false, not, Bool, refl}
use Rattle.lwc_types.specs.declared.key.Key.TheVariants.{Page}
use Rattle.range_map.specs.declared.segment.PageState.{PageState}
use Rattle.lazy_world.specs.Cells.{rows_of}
use Rattle.lazy_world.specs.Seen.{rights, rows}
use Rattle.lazy_world.proofs.CommonPages.{common-cell, own-cell}
use Rattle.lazy_world.proofs.places.Places.has_own_pages.Goals as goal

off-not : (b : Bool) → not b ≡ true → b ≡ false
off-not true is = absurd cc
off-not false is = refl

not-on : (b : Bool) → (b ≡ true → not b ≡ true) → not b ≡ true
not-on true other = other refl
not-on false other = refl

pub returns-clause-own : goal.returns-clause-own
unfolding rows rights rows_of
returns-clause-own c on p low =
    let same = ap (λ (f : ℕ → Option PageState). f p) c.segments.ensures.states in
    own-cell c.segments.result.now c.segments.ensures.canonical (sym c.has_common.ensures ∙ off-not c.has_common.result on) p (rows c.args.self.now c.args.place (Page p)) (rights c.args.self.now c.args.place p) same

pub returns-clause-all : goal.returns-clause-all
unfolding rows rights rows_of
returns-clause-all c own = not-on c.has_common.result (λ on.
    let found = common-cell c.segments.result.now c.segments.ensures.canonical (sym c.has_common.ensures ∙ on) (λ p. rows c.args.self.now c.args.place (Page p)) (rights c.args.self.now c.args.place)
    (λ p. ap (λ (f : ℕ → Option PageState). f p) c.segments.ensures.states) in
    let other = own found.0 in
    absurd cc)
