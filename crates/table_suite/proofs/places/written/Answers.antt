use Rattle.std.proofs.Common.{◌≡◌, ℕ, ◌<◌, ⊎_elim, Bool, true, false, cond, List, [], ◌∷◌, length, set, replicate, sym, ◌∙◌, ap, arith, get_or-set_other, None, Some}
use Rattle.std.proofs.lemmas.Bool.{cases_eq}
use Rattle.std.proofs.lemmas.List.{get_or-set_same, length-replicate}
use Rattle.lwc_base.specs.declared.cell.Cell.TheVariants as cell
use Rattle.lwc_types.specs.declared.name.Tag.{Tag}
use Rattle.lwc_types.specs.declared.page.PageValue.TheVariants.{Zero, Data}
use Rattle.range_map.specs.Kinds.{is_between}
use Rattle.cow_space.specs.declared.page_runs.Origin.TheVariants.{Zeros}
use Rattle.cow_space.specs.declared.page_runs.PageRun.{PageRun}
use Rattle.cow_space.specs.Cells.{Place, no_pages, place_of}
use Rattle.cow_space.specs.Changes.{cell_by, changed_place, origin_cell}
use Rattle.cow_space.specs.Seen.{cells}
use Rattle.cow_space.specs.Tags.{IsNewTag}
use Rattle.table_suite.proofs.places.written.Goals as goal
use Rattle.lwc_types.proofs.Small.{at-new}

-- zeros have no tag
zeros-new : (n : ℕ) (old new : List Place) (s : PageRun) (tag : Tag) → old ≡ replicate n no_pages → new ≡ set old 0 (changed_place old 0 (s ∷ [])) → 0 < length old → s.origin ≡ Zeros → IsNewTag new tag
unfolding changed_place
zeros-new n old new s tag begun changed some zeros = λ k q bytes is.
    let none : (j : ℕ) → place_of old j q ≡ cell.Own None = λ j. ap (λ cs. place_of cs j q) begun ∙ ap (λ (place : Place). place q) (at-new n j no_pages) in
    let now = ap (λ cs. place_of cs k q) (sym changed) ∙ is in
    ⊎_elim
    (λ here. by q (is_between s.range.from s.range.to q) bytes (none 0)
    (sym (ap (λ (place : Place). place q) (ap (place_of (set old 0 (changed_place old 0 (s ∷ [])))) here ∙ get_or-set_same old 0 (changed_place old 0 (s ∷ [])) no_pages some)) ∙ now))
    (λ off. let value = sym (none k) ∙ sym (ap (λ (place : Place). place q) (get_or-set_other old 0 k (changed_place old 0 (s ∷ [])) no_pages off)) ∙ now in cc)
    (cases_eq k 0)
  where
    by : (q : ℕ) (b : Bool) (bytes : List ℕ) → place_of old 0 q ≡ cell.Own None → cell_by old q (place_of old 0 q) (cond b (Some s) None) ≡ cell.Own (Some (Data tag bytes)) → ⊥
    by q true bytes none is = let value : cell.Own (Some Zero) ≡ cell.Own (Some (Data tag bytes)) = ap (λ origin. origin_cell old origin q) (sym zeros) ∙ is in cc
    by q false bytes none is = cc

pub write_end-is_parting-requires-clause-new : goal.write_end-is_parting-requires-clause-new
write_end-is_parting-requires-clause-new g c =
    zeros-new 3 (cells c.in_ok-places.places) (cells c.change.new.places) c.page_run.result (record { job = 1; k = 0 }) c.in_ok-places.ensures.cells c.change.ensures
    (omega (arith, ap length c.in_ok-places.ensures.cells, length-replicate 3 no_pages))
    (ap (λ (s : PageRun). s.origin) c.page_run.ensures)
