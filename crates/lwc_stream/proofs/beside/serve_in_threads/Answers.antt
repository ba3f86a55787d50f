use Rattle.std.proofs.Common.{◌∙◌, All, map, sym, ap, subst, arith}
use Rattle.std.specs.List.{AllZip}
use Rattle.lwc_stream.proofs.Serving.{have_served}
use Rattle.lwc_stream.proofs.Turns.{Puts}
use Rattle.lwc_stream.specs.Workers.{HaveServed}
use Rattle.process_core.proofs.Carrying.{written_back}
use Rattle.process_core.specs.Running.{Carries, IsPassOf}
use Rattle.lwc_stream.proofs.beside.serve_in_threads.Goals as goal

pub carry_all-requires-clause-ours : goal.carry_all-requires-clause-ours
carry_all-requires-clause-ours g c κs within =
    subst (λ l. All (λ w. IsPassOf c.args.process.now w.pass) l) (sym c.as_mut_slice.ensures.value) (λ k d inside. (c.requires.fresh k d inside).ours)

pub returns : goal.returns
returns g c =
    let process = c.args.process.now in
    let before = c.args.workers.items in
    let after = c.carry_all.new.carriers in
    let same = c.as_mut_slice.ensures.value in
    let have : HaveServed (λ w. w.pass) (λ w. w.turns.puts) process before after =
    have_served (λ w. w.pass) (λ w. w.turns) (λ o. o.turns) (λ o. o.puts) process before after
    (subst (λ l. AllZip (λ b d. Carries (Puts (λ o. o.puts)) process b.pass b.turns d.pass d.turns) l after) same c.carry_all.ensures.carries)
    c.requires.fresh c.carry_all.ensures.ours c.carry_all.ensures.ended (c.carry_all.ensures.numbers ∙ ap (map (λ w. w.pass.held.number)) same) in
    let back = written_back (λ w. w.pass.held.number) c.args.workers.len after before (omega (arith, c.args.workers.ok.0)) have.numbers in
    subst (HaveServed (λ w. w.pass) (λ w. w.turns.puts) process before) (sym back) have
