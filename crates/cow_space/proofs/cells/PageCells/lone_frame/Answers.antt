use Rattle.cow_space.proofs.FrameLemmas.{found-own, may-segment, own-segment}
use Rattle.cow_space.proofs.Views.{own-page, row-in}
use Rattle.cow_space.proofs.cells.PageCells.lone_frame.Goals as goal

pub lone_frame-requires-clause-row : goal.lone_frame-requires-clause-row
lone_frame-requires-clause-row c = row-in c.args.self.now c.args.place c.requires

pub lone_frame-requires-clause-page : goal.lone_frame-requires-clause-page
lone_frame-requires-clause-page c =
    own-page c.args.self.now c.args.place c.args.page (found-own c.args.self.now c.args.place c.args.page c.state.result c.in-Some.state c.state.ensures c.in-Some.is c.in-Own-Write.is-0 c.in-Own-Write.is-1).0

pub returns-in_ok-frame-in-Own-Write : goal.returns-in_ok-frame-in-Own-Write
returns-in_ok-frame-in-Own-Write c =
    let w = c.args.self.now in
    let own = found-own w c.args.place c.args.page c.state.result c.in-Some.state c.state.ensures c.in-Some.is c.in-Own-Write.is-0 c.in-Own-Write.is-1 in
    record {
      has = record { inside = c.requires; own = own-segment w c.args.place c.args.page own.0; row = c.in_ok-frame-in-Own-Write.ensures.lone.to };
      may = may-segment w c.args.place c.args.page own.1;
      row = c.in_ok-frame-in-Own-Write.ensures.lone;
    }
