use Rattle.std.proofs.Common.{◌≡◌, ◌∙◌, Bool, Option, None, Some, false, true, sym}
use Rattle.std.specs.Prelude.{IfNone, IfSome, is_some, not}
use Rattle.frame_pool.specs.declared.pool.FrameNo.{FrameNo}
use Rattle.cow_space.proofs.OwnTags.{parting-rows}
use Rattle.cow_space.proofs.Views.{own-page, row-in}
use Rattle.cow_space.proofs.cells.PageCells.is_parting.Goals as goal

pub lone_frame-requires-clause-row : goal.lone_frame-requires-clause-row
lone_frame-requires-clause-row c = row-in c.args.self.now c.args.place c.requires.place

pub lone_frame-requires-clause-page : goal.lone_frame-requires-clause-page
lone_frame-requires-clause-page c = own-page c.args.self.now c.args.place c.args.page c.requires.own

told : (frame : Option FrameNo) (none parts : Bool) → is_some frame ≡ not none → IfSome frame (λ f. parts ≡ false) → IfNone frame (parts ≡ true) → none ≡ parts
told None true parts is alone parting = sym parting
told None false parts is alone parting = absurd cc
told (Some f) true parts is alone parting = absurd cc
told (Some f) false parts is alone parting = sym alone

pub returns : goal.returns
returns c =
    told c.lone_frame.result c.is_none.result _ c.is_none.ensures c.lone_frame.ensures.alone c.lone_frame.ensures.parts
    ∙ sym (parting-rows c.args.self.now c.args.place c.args.page)
