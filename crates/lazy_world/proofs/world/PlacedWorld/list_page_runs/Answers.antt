use Rattle.std.proofs.Common.{◌≡◌, ◌<◌, ◌∙◌, ◌∷◌, [], ap, arith, length, length-append, sym, subst}
use Rattle.std.specs.Prelude.{IfSome}
use Rattle.std.specs.Option.{option_map}
use Rattle.lwc_base.specs.Modes.{mode}
use Rattle.lwc_types.specs.declared.key.Key.TheVariants.{Page}
use Rattle.lwc_types.specs.declared.limits.TheConstants.{MOST_PAGES}
use Rattle.lazy_world.specs.Cells.{states_of}
use Rattle.cow_space.specs.declared.page_runs.PageRun.{PageRun}
use Rattle.lazy_world.specs.Origins.{gift_of, gift_right, shown_right}
use Rattle.lazy_world.specs.Transfers.{CanGet, given_or, reads}
use Rattle.lazy_world.specs.Seen.{count, rights, rows}
use Rattle.lazy_world.specs.Worlds.{transferred}
use Rattle.lazy_world.proofs.FitLemmas.{fits}
use Rattle.lazy_world.proofs.OriginLemmas.{HasGiven, given_kept, given_more, none_given}
use Rattle.lazy_world.proofs.TurnLemmas.{few-turns, more-turns, most-turns, no-turns}
use Rattle.lazy_world.proofs.world.PlacedWorld.list_page_runs.Goals as goal

pub pages-init : goal.pages-init
pages-init c =
    let w = c.args.self.now in
    record {
      inside = omega arith;
      modes = c.empty-modes.ensures c.args.spec.now;
      has = subst (HasGiven (count w.places) c.args.to (fits w c.args.transfer c.args.spec.now c.args.from c.args.to) 0) (sym c.requires.none) (none_given (count w.places) c.args.to (fits w c.args.transfer c.args.spec.now c.args.from c.args.to));
      few = λ _. omega (arith, ap length c.requires.none, no-turns (states_of (rows w.places c.args.from) (rights w.places c.args.from)) c.args.spec.now);
      most = omega (arith, ap length c.requires.none);
    }

pub push-requires : goal.push-requires
push-requires c =
    let w = c.args.self.now in
    let inside : c.pages.p < MOST_PAGES = omega (arith, c.pages-test.true) in
    (omega arith, few-turns (states_of (rows w.places c.args.from) (rights w.places c.args.from)) c.args.spec.now c.pages.p (length c.pages.page_runs.items) inside c.stretch_from-stretch.ensures.few c.requires.within.few (c.pages.invariant.few inside))

pub pages-preserved-in-Some : goal.pages-preserved-in-Some
pages-preserved-in-Some c =
    let w = c.args.self.now in
    let got = c.stretch_from-stretch.ensures in
    let is = c.in-Some.is in
    let fit = fits w c.args.transfer c.args.spec.now c.args.from c.args.to in
    record {
      inside = got.within;
      modes = got.modes;
      has = subst (HasGiven (count w.places) c.args.to fit c.stretch_from-stretch.result.to) (sym c.push.ensures.items)
          (given_more (count w.places) c.args.to fit c.pages.p c.stretch_from-stretch.result.to c.pages.page_runs.items got.past c.pages.invariant.has c.in-Some.page_run
          (subst (λ o. IfSome o (λ (s : PageRun). s.range.from ≡ c.pages.p)) is got.begin) (subst (λ o. IfSome o (λ (s : PageRun). s.range.to ≡ c.stretch_from-stretch.result.to)) is got.end) got.within
          (λ q low high. record {
            cell = sym (ap (λ o. given_or (rows w.places) (Page q) (rows w.places c.args.to (Page q)) (option_map (λ (s : PageRun). s.origin) o)) is) ∙ got.gives q low high;
            right = sym (ap (λ o. shown_right (transferred w c.args.transfer c.args.spec.now c.args.from c.args.to (Page q)) (reads c.args.transfer (mode c.args.spec.now (Page q)))
                (gift_right (rights w.places) q (rights w.places c.args.to q) (option_map gift_of o))) is) ∙ got.rights q low high;
          })
          (subst (λ o. CanGet (count w.places) c.args.to (option_map (λ (s : PageRun). s.origin) o)) is got.can));
      few = λ early. more-turns (states_of (rows w.places c.args.from) (rights w.places c.args.from)) c.args.spec.now c.pages.p c.stretch_from-stretch.result.to (length c.pages.page_runs.items) (length c.push.new.self.items) got.past got.alike (got.edge early)
          (omega (arith, ap length c.push.ensures.items, length-append c.pages.page_runs.items (c.in-Some.page_run ∷ []))) (c.pages.invariant.few (omega (arith, c.pages-test.true)));
      most =
          let inside : c.pages.p < MOST_PAGES = omega (arith, c.pages-test.true) in
          let all = most-turns (states_of (rows w.places c.args.from) (rights w.places c.args.from)) c.args.spec.now c.pages.p (length c.pages.page_runs.items) inside (c.pages.invariant.few inside) in
          omega (arith, all, ap length c.push.ensures.items, length-append c.pages.page_runs.items (c.in-Some.page_run ∷ []));
    }

pub pages-preserved : goal.pages-preserved
pages-preserved c =
    let w = c.args.self.now in
    let got = c.stretch_from-stretch.ensures in
    let is = c.in_default.is in
    let fit = fits w c.args.transfer c.args.spec.now c.args.from c.args.to in
    record {
      inside = got.within;
      modes = got.modes;
      has = given_kept (count w.places) c.args.to fit c.pages.p c.stretch_from-stretch.result.to c.pages.page_runs.items got.past c.pages.invariant.has
          (λ q low high. record {
            cell = sym (ap (λ o. given_or (rows w.places) (Page q) (rows w.places c.args.to (Page q)) (option_map (λ (s : PageRun). s.origin) o)) is) ∙ got.gives q low high;
            right = sym (ap (λ o. shown_right (transferred w c.args.transfer c.args.spec.now c.args.from c.args.to (Page q)) (reads c.args.transfer (mode c.args.spec.now (Page q)))
                (gift_right (rights w.places) q (rights w.places c.args.to q) (option_map gift_of o))) is) ∙ got.rights q low high;
          });
      few = λ early. more-turns (states_of (rows w.places c.args.from) (rights w.places c.args.from)) c.args.spec.now c.pages.p c.stretch_from-stretch.result.to (length c.pages.page_runs.items) (length c.pages.page_runs.items) got.past got.alike (got.edge early)
          (omega arith) (c.pages.invariant.few (omega (arith, c.pages-test.true)));
      most = c.pages.invariant.most;
    }

pub returns-clause-gives : goal.returns-clause-gives
returns-clause-gives c q low = (c.pages.invariant.has.done q (omega (arith, c.pages-test.false))).cell

pub returns-clause-rights : goal.returns-clause-rights
returns-clause-rights c q low = (c.pages.invariant.has.done q (omega (arith, c.pages-test.false))).right

pub returns-clause-past : goal.returns-clause-past
returns-clause-past c q low = c.pages.invariant.has.rest q (omega (arith, c.pages.invariant.inside))

pub returns-clause-given : goal.returns-clause-given
returns-clause-given c = c.pages.invariant.has.each

pub returns-clause-few : goal.returns-clause-few
returns-clause-few c = c.pages.invariant.most
