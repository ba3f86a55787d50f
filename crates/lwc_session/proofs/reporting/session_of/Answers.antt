use Rattle.std.proofs.Common.{◌≡◌, ◌<◌, ◌≤◌, ◌∙◌, ℕ, List, Some, ap, arith, length, subst, sym}
use Rattle.kernel_core.specs.Start.{inputs_of}
use Rattle.lwc_session.proofs.Sittings.{are_requests, come_first, come_on, short_at, steps_at_end, steps_for_more, work_of}
use Rattle.lwc_session.proofs.reporting.session_of.Goals as goal
use Rattle.lwc_session.specs.At.{IsAt}
use Rattle.lwc_session.specs.Sessions.{after_requests, begun, session_of}
use Rattle.std.proofs.lemmas.List.{take_all}

pub requests-init : goal.requests-init
requests-init g c = come_first c.args.settings.now c.args.image c.args.requests.now _ c.open-session.ensures c.requires.can

pub serve-requires-clause-image : goal.serve-requires-clause-image
serve-requires-clause-image g c κs within = c.requests.invariant.holds

pub serve-requires-clause-fits : goal.serve-requires-clause-fits
serve-requires-clause-fits g c κs within = c.requests.invariant.fits

pub serve-requires-clause-short : goal.serve-requires-clause-short
serve-requires-clause-short g c κs within =
    short_at c.args.requests.now c.requests.r _ (are_requests c.args.image c.args.requests.now c.args.settings.now c.requires.can c.requires.worker) (c.get.ensures ∙ ap Some (sym c.as_slice.ensures))

pub serve-requires-clause-few : goal.serve-requires-clause-few
serve-requires-clause-few g c κs within =
    let are = are_requests c.args.image c.args.requests.now c.args.settings.now c.requires.can c.requires.worker in
    let inside : c.requests.r < length c.args.requests.now = omega arith in
    omega (arith, inside, are.few, c.requests.invariant.count)

pub serve-requires-clause-steps : goal.serve-requires-clause-steps
serve-requires-clause-steps g c κs within =
    let inside : c.requests.r < length c.args.requests.now = omega arith in
    steps_for_more c.requests.r (length c.args.requests.now) c.args.settings.now.budget _ _ inside c.requests.invariant.steps (work_of c.args.image c.args.requests.now c.args.settings.now c.requires.worker) c.requires.few

pub requests-preserved : goal.requests-preserved
requests-preserved g c =
    let made = c.in_ok-serve.ensures in
    come_on c.args.settings.now c.args.image c.args.requests.now c.requests.r c.requests.session _ c.as_slice.result.now c.requests.invariant (c.get.ensures ∙ ap Some (sym c.as_slice.ensures)) made.at made.image made.fits made.steps made.served

pub returns : goal.returns
unfolding session_of
returns g c =
    let all : length c.args.requests.now ≤ c.requests.r = omega arith in
    let within : c.requests.r ≤ length c.args.requests.now = omega arith in
    record {
      at = subst (λ (l : List (List ℕ)). IsAt c.requests.session (after_requests c.args.settings.now (begun c.args.image) l)) (take_all c.requests.r c.args.requests.now all) c.requests.invariant.at;
      image = c.requests.invariant.holds;
      fits = c.requests.invariant.fits;
      steps = steps_at_end c.requests.r (length c.args.requests.now) c.args.settings.now.budget _ _ within c.requests.invariant.steps (work_of c.args.image c.args.requests.now c.args.settings.now c.requires.worker) c.requires.few;
    }
