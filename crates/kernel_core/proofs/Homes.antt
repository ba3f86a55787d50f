-- A home is as it was at the start: it has few ranges, and its slots have no descriptor of a context.
use Rattle.std.proofs.Common.{◌≡◌, ℕ, ◌≤◌, refl, sym, ap, subst, ◌∙◌, Bool, true, false, cond, eqb, ltb, Option, Some, None, arith}
use Rattle.std.specs.List.{enumerate_from, find}
use Rattle.std.specs.Option.{option_map}
use Rattle.std.specs.Prelude.{is_some}
use Rattle.guest_image.specs.Limits.{IsImage, page_numbers, pages_of}
use Rattle.guest_image.specs.declared.image.Image.{Image}
use Rattle.guest_image.specs.declared.image.PageImage.{PageImage}
use Rattle.lwc_types.specs.declared.page.PageValue.TheVariants.{Data}
use Rattle.kernel_core.proofs.FirstLife.{not_of}
use Rattle.kernel_core.proofs.Ranges.{has, is_some-found, ranges-own}
use Rattle.kernel_core.specs.Start.{Inputs, first_context, first_page, first_slot, home_context, image_tag, world_size}
use Rattle.lwc_base.specs.Cells.{slot_at, value_at, value_of}
use Rattle.lwc_base.specs.Life.{is_of}
use Rattle.lwc_base.specs.Ranges.{ranges, ranges_of}
use Rattle.lwc_base.specs.World.{World, Context, context}
use Rattle.lwc_base.specs.declared.descriptor.Descriptor.TheVariants.{Empty}
use Rattle.lwc_types.specs.declared.key.Key.TheVariants.{Slot}
use Rattle.lwc_types.specs.declared.name.Name.{Name}

module _ (image : Image) (is : IsImage image) where
  found_page : (o : Option (ℕ × PageImage)) → is_some (option_map (λ e. Data (image_tag e.0) e.1.bytes) o) ≡ is_some o
  found_page None = refl
  found_page (Some e) = refl

  home_page-there : (p : ℕ) → is_some (first_page 0 image.pages p) ≡ has (page_numbers image.pages) p
  unfolding first_page
  home_page-there p = found_page (find (λ e. eqb e.1.number p) (enumerate_from 0 image.pages)) ∙ is_some-found 0 p image.pages

  -- so has the first context
  pub few_ranges_in_first : ranges (pages_of image.form) (first_context image image.pages 64) ≤ 64
  unfolding first_context
  few_ranges_in_first =
      omega (arith, ranges-own (first_context image image.pages 64) (page_numbers image.pages) (first_page 0 image.pages) (λ q. refl) (λ q. refl) home_page-there (pages_of image.form), is.pages.ranges)

  few_ranges_in_home : ranges (pages_of image.form) (home_context image) ≤ 64
  unfolding home_context
  few_ranges_in_home =
      omega (arith, ranges-own (home_context image) (page_numbers image.pages) (first_page 0 image.pages) (λ q. refl) (λ q. refl) home_page-there (pages_of image.form), is.pages.ranges)

-- a home has few ranges
pub few_home_ranges : (inputs : Inputs) (w : World) (home : Name) → IsImage inputs.image → w.size ≡ world_size inputs.image.form inputs.settings.frames → context w home ≡ home_context inputs.image → ranges_of w home ≤ 64
unfolding ranges_of
few_home_ranges inputs w home image size same =
    subst (λ (x : Context). ranges w.size.pages x ≤ 64) (sym same)
    (subst (λ (n : ℕ). ranges n (home_context inputs.image) ≤ 64) (sym (ap (λ s. s.pages) size)) (few_ranges_in_home inputs.image image))

-- a slot of a home is of no context
pub not_of_home : (d : Name) (image : Image) (n : ℕ) → is_of d (cond (ltb n 2) Empty (cond (ltb n 64) (first_slot image.slots n) Empty)) ≡ false
not_of_home d image n = by_low (ltb n 2)
  where
    by_low : (b : Bool) → is_of d (cond b Empty (cond (ltb n 64) (first_slot image.slots n) Empty)) ≡ false
    by_low true = refl
    by_low false = not_of d image n

pub no_names : (inputs : Inputs) (w : World) (home : Name) → context w home ≡ home_context inputs.image → (n : ℕ) (d : Name) → is_of d (slot_at w home n) ≡ false
unfolding value_at home_context
no_names inputs w home same n d = ap (λ (x : Context). is_of d (value_of w (Slot n) (x.cell (Slot n)))) same ∙ not_of_home d inputs.image n
