use Rattle.std.proofs.Common.{◌≡◌, ◌≢◌, ◌||◌, true, inl, inr, ⊎_elim, ◌∙◌, ap, arith, refl, sym, subst}
use Rattle.std.specs.Prelude.{◌==◌}
use Rattle.std.specs.List.{list_any}
use Rattle.std.specs.Option.{option_map}
use Rattle.lwc_base.specs.declared.item.Item.{Item}
use Rattle.lwc_types.specs.declared.key.Key.TheVariants.{Page}
use Rattle.std.proofs.lemmas.Bool.{cases_lt}
use Rattle.lwc_base.specs.Modes.{mode}
use Rattle.lazy_world.specs.Transfers.{CanGet, given_or, origin_of, reads}
use Rattle.lazy_world.specs.Cells.{states_of}
use Rattle.lazy_world.specs.Seen.{count, rights, rows}
use Rattle.lazy_world.specs.Worlds.{parts, seen}
use Rattle.lazy_world.proofs.AbsentLemmas.{no-right}
use Rattle.lazy_world.proofs.RightLemmas.{right-found}
use Rattle.lazy_world.proofs.PageRunLemmas.{gift-of, origin-of}
use Rattle.lazy_world.proofs.TransferLemmas.{transfer-can, transfer-gives}
use Rattle.lazy_world.proofs.world.PlacedWorld.stretch_from.Goals as goal

pub returns-clause-gives : goal.returns-clause-gives
returns-clause-gives c q low high =
    let w = c.args.self.now in
    let mode_is = sym (c.next-modes.ensures.run.alike q low (omega (arith, high, c.min-end.ensures))) in
    ap (given_or (rows w.places) (Page q) (rows w.places c.args.to (Page q)))
    (origin-of c.origin-origin.result _ c.found_page-edge.result.0.right c.page_run_of.result c.page_run_of.ensures ∙ c.origin-origin.ensures ∙ ap (λ m. origin_of c.args.transfer m c.found_page-edge.result.0 c.args.from c.args.to) mode_is)
    ∙ transfer-gives (seen w) (parts w).size.contexts (count w.places) (rows w.places) (Page q) c.args.from c.args.to c.found_page-edge.result.0
    (rows w.places c.args.from (Page q)) refl (c.found_page-edge.ensures.found q low (omega (arith, high, c.min-end.ensures))) c.args.transfer _ c.requires.transfer

pub returns-clause-rights : goal.returns-clause-rights
unfolding seen parts
returns-clause-rights c q low high =
    let w = c.args.self.now in
    let mode_is = sym (c.next-modes.ensures.run.alike q low (omega (arith, high, c.min-end.ensures))) in
    let found = c.found_page-edge.result.0 in
    right-found (parts w) w.sound.pages (no-right w.places) q c.args.from c.args.to found (c.found_page-edge.ensures.found q low (omega (arith, high, c.min-end.ensures))).kind (c.found_page-edge.ensures.right q low (omega (arith, high, c.min-end.ensures)))
    c.args.transfer (mode c.args.spec.now (Page q)) c.requires.transfer _
    (gift-of c.origin-origin.result _ found.right c.page_run_of.result c.page_run_of.ensures ∙ ap (option_map (λ origin. (origin, found.right))) (c.origin-origin.ensures ∙ ap (λ m. origin_of c.args.transfer m found c.args.from c.args.to) mode_is))

pub returns-clause-can : goal.returns-clause-can
returns-clause-can c =
    let w = c.args.self.now in
    let found = c.found_page-edge.ensures.found c.args.page (omega arith) c.found_page-edge.ensures.past in
    subst (CanGet (count w.places) c.args.to) (sym (origin-of c.origin-origin.result _ c.found_page-edge.result.0.right c.page_run_of.result c.page_run_of.ensures ∙ c.origin-origin.ensures))
    (transfer-can (parts w).size.contexts (count w.places) c.args.from c.args.to c.requires.from c.found_page-edge.result.0 found.behind found.inside c.args.transfer c.next-modes.result.mode c.requires.transfer)

pub returns-clause-alike : goal.returns-clause-alike
returns-clause-alike c q low high = c.found_page-edge.ensures.alike q low (omega (arith, high, c.min-end.ensures))

pub returns-clause-edge : goal.returns-clause-edge
returns-clause-edge c early =
    let w = c.args.self.now in
    let found = c.found_page-edge.ensures in
    let run = c.next-modes.ensures in
    ⊎_elim
    (λ before.
    let same : c.next-modes.result.to ≡ c.min-end.result = omega (arith, before, c.min-end.ensures) in
    inr (subst (λ e. list_any (λ (item : Item). (item.from == e) || (item.to == e)) c.args.spec.now ≡ true) same (run.run.edge run.past (omega (arith, early, same)))))
    (λ last.
    let same : c.found_page-edge.result.1 ≡ c.min-end.result = omega (arith, last, c.min-end.ensures) in
    inl (subst (λ e. states_of (rows w.places c.args.from) (rights w.places c.args.from) e ≢ states_of (rows w.places c.args.from) (rights w.places c.args.from) c.args.page) same (found.other (omega (arith, early, same)))))
    (cases_lt c.next-modes.result.to c.found_page-edge.result.1)

pub returns-clause-read : goal.returns-clause-read
returns-clause-read c q low high =
    ap (reads c.args.transfer) (c.next-modes.ensures.run.alike q low (omega (arith, high, c.min-end.ensures))) ∙ sym c.makes_read.ensures

pub returns-clause-modes : goal.returns-clause-modes
returns-clause-modes c =
    let run = c.next-modes.ensures in
    record {
      alike = λ q low high. run.run.alike q (omega (arith, low, c.min-end.ensures, run.past, c.found_page-edge.ensures.past)) high;
      within = run.run.within;
      edge = λ low inside. run.run.edge run.past inside;
    }
