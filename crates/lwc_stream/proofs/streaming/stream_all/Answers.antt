use Rattle.std.proofs.Common.{◌≡◌, ◌∙◌, [], All, None, length, map, sym, ap, subst, true, arith}
use Rattle.std.proofs.Math.ListN.{length-map}
use Rattle.std.proofs.lemmas.List.{length-replicate}
use Rattle.std.proofs.lemmas.List.Elements.{All-map}
use Rattle.std.proofs.lemmas.Simd.{map-map}
use Rattle.kernel_core.specs.Machine.{has_ended}
use Rattle.lwc_stream.proofs.Lists.{map_all}
use Rattle.lwc_stream.proofs.Shown.{opens}
use Rattle.lwc_stream.specs.Blocks.{HaveRoom}
use Rattle.lwc_stream.specs.Replies.{AreShown, finished_by}
use Rattle.lwc_stream.specs.Streams.{HasShown, Held}
use Rattle.process_core.proofs.Carrying.{all_made, still_all}
use Rattle.process_core.specs.Running.{AreAllOf, Carried, IsPassOf}
use Rattle.lwc_stream.proofs.streaming.stream_all.Goals as goal

pub serve_beside-workers-requires-clause-fresh : goal.serve_beside-workers-requires-clause-fresh
serve_beside-workers-requires-clause-fresh g c κs within =
    let process = c.args.process.now in
    let workers = c.in_ok-workers.workers.items in
    let same = c.in_ok-workers.ensures.passes in
    let ours : All (IsPassOf process) (map (λ w. w.pass) workers) = subst (All (IsPassOf process)) (sym same) c.requires.all.ours in
    let unseen : All (λ (p : Carried). p.held.seen ≡ []) (map (λ w. w.pass) workers) = subst (All (λ (p : Carried). p.held.seen ≡ [])) (sym same) c.requires.fresh in
    λ k d inside. record {
      ours = all_made (IsPassOf process) (λ w. w.pass) workers ours k d inside;
      unseen = all_made (λ (p : Carried). p.held.seen ≡ []) (λ w. w.pass) workers unseen k d inside;
      unturned = c.in_ok-workers.ensures.unturned k d inside;
      empty = c.in_ok-workers.ensures.unput k d inside;
    }

pub finish-requires-clause-queues : goal.finish-requires-clause-queues
finish-requires-clause-queues g c κs within =
    c.serve_beside-workers.ensures.served.queues ∙ (c.in_ok-workers.ensures.queues ∙ sym c.serve_beside-workers.ensures.queues)

pub finish-requires-clause-room : goal.finish-requires-clause-room
finish-requires-clause-room g c κs within =
    let before = c.in_ok-workers.workers.items in
    let after = c.serve_beside-workers.result.0.items in
    let numbers = ap length c.serve_beside-workers.ensures.served.numbers in
    omega (arith, numbers, length-map after (λ w. w.pass.held.number), length-map before (λ w. w.pass.held.number), ap length c.in_ok-workers.ensures.passes, length-map before (λ w. w.pass), c.in_ok-taken.ensures.capacity, c.len.ensures)

pub finish-requires-clause-room_left : goal.finish-requires-clause-room_left
finish-requires-clause-room_left g c κs within =
    let before = c.in_ok-workers.workers.items in
    let after = c.serve_beside-workers.result.0.items in
    let numbers = ap length c.serve_beside-workers.ensures.served.numbers in
    omega (arith, numbers, length-map after (λ w. w.pass.held.number), length-map before (λ w. w.pass.held.number), ap length c.in_ok-workers.ensures.passes, length-map before (λ w. w.pass), c.in_ok-workers.ensures.room)

pub returns-clause-all : goal.returns-clause-all
returns-clause-all g c =
    let process = c.args.process.now in
    let after = c.serve_beside-workers.result.0.items in
    let served = c.serve_beside-workers.ensures.served in
    subst (AreAllOf process) (sym c.finish.ensures.passes)
    (still_all (λ w. w.pass) process c.args.passes.items c.in_ok-workers.workers.items after c.requires.all c.in_ok-workers.ensures.passes (λ k d inside. (served.served k d inside).ours) served.numbers)

pub returns-clause-numbers : goal.returns-clause-numbers
returns-clause-numbers g c =
    let number = λ (p : Carried). p.held.number in
    let after = c.serve_beside-workers.result.0.items in
    let before = c.in_ok-workers.workers.items in
    ap (map number) c.finish.ensures.passes
    ∙ (map-map number (λ w. w.pass) after
    ∙ (c.serve_beside-workers.ensures.served.numbers
    ∙ (sym (map-map number (λ w. w.pass) before) ∙ ap (map number) c.in_ok-workers.ensures.passes)))

pub returns-clause-ended : goal.returns-clause-ended
returns-clause-ended g c =
    let after = c.serve_beside-workers.result.0.items in
    subst (All (λ (p : Carried). has_ended p.last.status ≡ true)) (sym c.finish.ensures.passes)
    (All-map (λ (p : Carried). has_ended p.last.status ≡ true) (λ w. w.pass) after (λ k d inside. (c.serve_beside-workers.ensures.served.served k d inside).ended))

pub returns-clause-written : goal.returns-clause-written
returns-clause-written g c =
    let name = c.args.process.now.name.inputs in
    let seen = g.O.Sink.seen in
    let after = c.serve_beside-workers.result.0.items in
    let ends = c.in_ok-workers.collector.takes.items in
    let begun : HasShown (map (λ e. e.values) ends) c.in_ok-workers.collector.waiting c.in_ok-workers.collector.writer (seen c.args.out.now) (seen c.args.out.now) =
    opens (λ e. e.values) ends c.args.requests c.in_ok-workers.collector.waiting c.in_ok-workers.collector.writer (seen c.args.out.now) c.in_ok-workers.ensures.untaken c.in_ok-workers.ensures.waiting c.in_ok-workers.ensures.writer in
    let written = c.finish.ensures.written (seen c.args.out.now) (c.serve_beside-workers.ensures.shown (seen c.args.out.now) begun) in
    let lists : map (λ w. w.turns.puts.values) after ≡ map (finished_by name) c.finish.result.passes.items =
    map_all (λ w. w.turns.puts.values) (λ w. finished_by name w.pass) after (λ k d inside. (c.serve_beside-workers.ensures.served.served k d inside).put)
    ∙ (sym (map-map (finished_by name) (λ w. w.pass) after) ∙ ap (map (finished_by name)) (sym c.finish.ensures.passes)) in
    let opened : length c.in_ok-workers.collector.waiting.places ≡ c.args.requests = ap (λ (w : Held). length w.places) c.in_ok-workers.ensures.waiting ∙ length-replicate c.args.requests None in
    let count = c.serve_beside-workers.ensures.places ∙ opened in (
      written.0,
      subst (λ l. AreShown l c.args.requests written.0) lists (subst (λ n. AreShown (map (λ w. w.turns.puts.values) after) n written.0) count written.1),
      written.2,
    )

pub open_stream-requires-clause-room : goal.open_stream-requires-clause-room
open_stream-requires-clause-room g c κs within = subst (All (HaveRoom c.args.requests)) (sym c.as_mut_slice.ensures.value) c.in_ok-blocks.ensures.room
