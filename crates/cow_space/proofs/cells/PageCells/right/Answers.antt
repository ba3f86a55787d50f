use Rattle.std.proofs.Common.{◌≡◌, ℕ, ap, sym, refl, ◌∙◌, arith, Option, None, Some, unwrap_or}
use Rattle.std.specs.Option.{option_map}
use Rattle.lwc_types.specs.declared.right.Right.{Right}
use Rattle.lwc_types.specs.declared.right.Right.TheVariants.{Write}
use Rattle.range_map.specs.declared.segment.PageState.{PageState}
use Rattle.range_map.specs.Kinds.{state_at}
use Rattle.cow_space.specs.Cells.{place_rights, right_in}
use Rattle.cow_space.proofs.Views.{kinds-in, read-segments, rights-at}
use Rattle.cow_space.proofs.cells.PageCells.right.Goals as goal

pub index-requires : goal.index-requires
index-requires c = omega (arith, kinds-in c.args.self.now c.args.place c.requires)

right-or : (state : Option PageState) → unwrap_or (option_map (λ s. s.right) state) Write ≡ right_in state
right-or None = refl
right-or (Some s) = refl

pub returns : goal.returns
returns c =
    let w = c.args.self.now in
    c.unwrap_or.ensures
    ∙ ap (λ o. unwrap_or o Write) c.right_at.ensures.right
    ∙ right-or (state_at c.index.result.now c.args.page)
    ∙ ap (λ s. place_rights s c.args.page) (read-segments w c.args.place _ c.requires c.index.ensures)
    ∙ ap (λ (f : ℕ → Right). f c.args.page) (sym (rights-at w c.args.place))
