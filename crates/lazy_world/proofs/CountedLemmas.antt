-- The states of pages that a transfer gives, as a walk counts their ranges.
use Rattle.std.proofs.Common.{◌≡◌, Bool, cond, ap, refl, sym, ◌∙◌, Option, Some, None}
use Rattle.lwc_base.specs.declared.cell.Cell.{Cell}
use Rattle.lwc_types.specs.declared.page.PageValue.{PageValue}
use Rattle.lwc_types.specs.declared.right.Right.{Right}
use Rattle.lwc_types.specs.declared.right.Right.TheVariants.{Read}
use Rattle.cow_space.specs.Cells.{right_in}
use Rattle.range_map.specs.Kinds.{kind_of, state_of}
use Rattle.range_map.specs.declared.segment.SegmentKind.{SegmentKind}
use Rattle.lazy_world.specs.Origins.{shown_right}

-- a state that is given once more
steady : (kind : Option SegmentKind) (right : Right) → state_of kind (right_in (state_of kind right)) ≡ state_of kind right
steady None right = refl
steady (Some kind) right = refl

-- the state of a cell with its shown right
pub shown_state : (wanted cell : Cell (Option PageValue)) (right own given : Right) (reads read : Bool) → cell ≡ wanted → reads ≡ read →
    shown_right wanted reads own ≡ right → given ≡ cond read Read own → state_of (kind_of wanted) right ≡ state_of (kind_of cell) given
shown_state wanted cell right own given reads read same is shown gives =
    ap (state_of (kind_of wanted)) (sym shown)
    ∙ steady (kind_of wanted) (cond reads Read own)
    ∙ (λ e. state_of (kind_of (sym same e)) ((ap (λ b. cond b Read own) is ∙ sym gives) e))
