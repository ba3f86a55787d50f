use Rattle.std.proofs.Common.{arith, ◌≡◌, ◌∙◌, ℕ, Bool, Option, None, Some, false, true, not, ⊎_elim, sym, ap, subst}
use Rattle.std.proofs.lemmas.Bool.{cases_Bool}
use Rattle.lwc_types.specs.declared.right.Right.{Right}
use Rattle.lwc_types.specs.declared.right.Right.TheVariants.{Write}
use Rattle.range_map.specs.declared.segment.PageState.{PageState}
use Rattle.range_map.specs.declared.segment.SegmentKind.{SegmentKind}
use Rattle.range_map.specs.declared.segment.SegmentKind.TheVariants.{Own}
use Rattle.range_map.specs.Kinds.{kind_of, state_of}
use Rattle.cow_space.specs.Cells.{IsOwnPage, place_of, rights_of, states_of}
use Rattle.cow_space.specs.declared.cells.PageCells.{PageCells}
use Rattle.cow_space.specs.RowSeen.{maps}
use Rattle.cow_space.specs.Seen.{cells, rights}
use Rattle.cow_space.proofs.OwnTags.{parting-rows, used-rows}
use Rattle.cow_space.proofs.Views.{own-page, row-in}
use Rattle.cow_space.proofs.Written.{cells-written, kept-written}
use Rattle.cow_space.specs.Cells.{all_cells}
use Rattle.cow_space.specs.Kept.{IsKept}
use Rattle.cow_space.proofs.cells.PageCells.write_in_place.Goals as goal

-- the kind and the right of a state that was found
found : (kind : Option SegmentKind) (right : Right) (state : PageState) → Some state ≡ state_of kind right → state.kind ≡ Own → state.right ≡ Write → (kind ≡ Some Own) × (right ≡ Write)
found None right state is own write = absurd cc
found (Some kind) right state is own write = (cc, cc)

-- the page is the place's own and may be written
is-own : (w : PageCells) (i p : ℕ) (answer : Option PageState) (state : PageState) → answer ≡ states_of (place_of (cells w) i) (rights_of (rights w) i) p → answer ≡ Some state → state.kind ≡ Own → state.right ≡ Write →
    IsOwnPage (place_of (cells w) i p) × (rights_of (rights w) i p ≡ Write)
is-own w i p answer state told is own write = found (kind_of (place_of (cells w) i p)) (rights_of (rights w) i p) state (sym is ∙ told) own write

-- it is written where it does not part
tells : (result parts parting : Bool) → result ≡ not parts → parting ≡ parts → (result ≡ true → parting ≡ false) × (parting ≡ false → result ≡ true)
tells result true parting is same = ((λ yes. absurd cc), (λ off. absurd cc))
tells result false parting is same = ((λ yes. same), (λ off. is))

pub write_in_place-requires-clause-row : goal.write_in_place-requires-clause-row
write_in_place-requires-clause-row c = row-in c.args.self.now c.args.place c.requires.place

pub write_in_place-requires-clause-page : goal.write_in_place-requires-clause-page
write_in_place-requires-clause-page c =
    own-page c.args.self.now c.args.place c.args.page (is-own c.args.self.now c.args.place c.args.page c.state.result c.in-Some.state c.state.ensures c.in-Some.is c.in-Own-Write.is-0 c.in-Own-Write.is-1).0

pub invariant_of-self : goal.invariant_of-self
invariant_of-self c =
    let w = c.args.self.now in
    let own = is-own w c.args.place c.args.page c.state.result c.in-Some.state c.state.ensures c.in-Some.is c.in-Own-Write.is-0 c.in-Own-Write.is-1 in
    record {
      kept = ⊎_elim
          (λ done. kept-written w c.args.place c.args.page (record { at = c.args.at; bytes = c.args.piece.now }) (record { job = 0; k = 0 }) (maps c.write_in_place.new.self) c.requires.place own.0 (c.write_in_place.ensures.written done (record { job = 0; k = 0 })))
          (λ off. subst (λ m. IsKept m w.kinds) (sym (c.write_in_place.ensures.same off)) w.kept)
          (cases_Bool c.write_in_place.result);
      bare = λ j none. c.write_in_place.ensures.others j (w.bare j none);
    }

pub returns-in-Own-Write-clause-tells : goal.returns-in-Own-Write-clause-tells
returns-in-Own-Write-clause-tells c =
    let w = c.args.self.now in
    let own = is-own w c.args.place c.args.page c.state.result c.in-Some.state c.state.ensures c.in-Some.is c.in-Own-Write.is-0 c.in-Own-Write.is-1 in
    let told = tells c.write_in_place.result _ _ c.write_in_place.ensures.tells (parting-rows w c.args.place c.args.page) in
    ((λ done. (own.0, (own.1, told.0 done))), (λ all. told.1 all.1.1))

pub returns-in-Own-Write-clause-written : goal.returns-in-Own-Write-clause-written
unfolding cells
returns-in-Own-Write-clause-written c =
    let own = is-own c.args.self.now c.args.place c.args.page c.state.result c.in-Some.state c.state.ensures c.in-Some.is c.in-Own-Write.is-0 c.in-Own-Write.is-1 in
    λ done tag. cells-written c.args.self.now c.args.place c.args.page (record { at = c.args.at; bytes = c.args.piece.now }) tag (maps c.write_in_place.new.self) c.requires.place own.0 (c.write_in_place.ensures.written done tag)

pub returns-in-Own-Write-clause-same : goal.returns-in-Own-Write-clause-same
unfolding cells
returns-in-Own-Write-clause-same c = λ off. ap (all_cells c.args.self.now.kinds) (c.write_in_place.ensures.same off)

pub returns-in-Own-Write-clause-enough : goal.returns-in-Own-Write-clause-enough
returns-in-Own-Write-clause-enough c = λ _. omega (arith, used-rows c.args.self.now, c.write_in_place.ensures.within)
