-- Starts with vaults of one shape are one where the vaults are blank.
use Rattle.std.proofs.Common.{◌≡◌, ℕ, ◌+◌, refl, sym, ap, subst, ◌∙◌, Bool, true, false, cond, eqb, Option, Some, None, List, [], ◌∷◌, length}
use Rattle.std.proofs.lemmas.List.{length-map}
use Rattle.std.specs.List.{enumerate_from, find}
use Rattle.std.specs.Option.{option_map}
use Rattle.guest_image.specs.Limits.{page_numbers}
use Rattle.guest_image.specs.declared.image.PageImage.{PageImage}
use Rattle.guest_image.specs.declared.image.Vault.{Vault}
use Rattle.kernel_core.specs.Histories.{IsLegal}
use Rattle.kernel_core.specs.Kernel.{CanOpen}
use Rattle.kernel_core.specs.Machine.{Machine}
use Rattle.kernel_core.specs.Start.{Inputs, first_name, first_page, image_tag, start, vault_context, vault_name, vault_value, with_context, with_vault, world_for}
use Rattle.lwc_base.specs.Capabilities.{empty_cap}
use Rattle.lwc_base.specs.Cells.{put_slot}
use Rattle.lwc_base.specs.World.{World, Context, change_counters}
use Rattle.lwc_base.specs.declared.cell.Cell.TheVariants.{Own}
use Rattle.lwc_base.specs.declared.descriptor.Descriptor.TheVariants.{Ctx}
use Rattle.lwc_types.specs.Pages.{zero_page}
use Rattle.lwc_types.specs.Registers.{fresh_registers}
use Rattle.lwc_types.specs.declared.key.Key.{Key}
use Rattle.lwc_types.specs.declared.key.Key.TheVariants.{Page, Slot, Cred}
use Rattle.lwc_types.specs.declared.page.PageValue.{PageValue}
use Rattle.lwc_types.specs.declared.page.PageValue.TheVariants.{Data}
use Rattle.lwc_types.specs.declared.right.Right.TheVariants.{Write}
use Rattle.lwc_text.specs.Report.{report_after, text_of}
use Rattle.lwc_vault.proofs.Staying.{all-outside, no_serve}
use Rattle.lwc_vault.proofs.Telling.{ActOutside, act-back, act-blank, legal-back, legal-blank, text-blank}
use Rattle.lwc_vault.specs.Blanks.{blank_machine}
use Rattle.lwc_vault.specs.Secrets.{HaveOneShape, StandOutside, TellsNothing, beside}
use Rattle.world_views.proofs.BlankChanges.{blanks-alike}
use Rattle.world_views.specs.Blank.{blank, blank_context, blank_page, blank_value}

-- what is under a page of a blank vault, by the numbers of its pages
abbrev by_numbers : ℕ → List ℕ → ℕ → Option PageValue
by_numbers i ns p = option_map (λ e. Data (image_tag e.0) zero_page) (find (λ e. eqb e.1 p) (enumerate_from i ns))

pages-blank : (i p : ℕ) (pages : List PageImage) → blank_page (first_page i pages p) ≡ by_numbers i (page_numbers pages) p
unfolding first_page
pages-blank i p [] = refl
pages-blank i p (q ∷ qs) = by (eqb q.number p) (pages-blank (i + 1) p qs)
  where
    by : (b : Bool) → blank_page (option_map (λ (e : ℕ × PageImage). Data (image_tag e.0) e.1.bytes) (find (λ e. eqb e.1.number p) (enumerate_from (i + 1) qs))) ≡ by_numbers (i + 1) (page_numbers qs) p →
        blank_page (option_map (λ (e : ℕ × PageImage). Data (image_tag e.0) e.1.bytes) (cond b (Some (i, q)) (find (λ e. eqb e.1.number p) (enumerate_from (i + 1) qs))))
        ≡ option_map (λ (e : ℕ × ℕ). Data (image_tag e.0) zero_page) (cond b (Some (i, q.number)) (find (λ e. eqb e.1 p) (enumerate_from (i + 1) (page_numbers qs))))
    by true later = refl
    by false later = later

module _ (a b : Vault) (shape : HaveOneShape a b) where
  value-shape : (taken : ℕ) (k : Key) → blank_value k (vault_value taken a.pages k) ≡ blank_value k (vault_value taken b.pages k)
  value-shape taken (Page p) = pages-blank taken p a.pages ∙ ap (λ ns. by_numbers taken ns p) shape.pages ∙ sym (pages-blank taken p b.pages)
  value-shape taken (Slot n) = refl
  value-shape taken Cred = refl

  context-shape : (keep : Bool) (taken : ℕ) → blank_context keep (vault_context taken a.entry a.pages) ≡ blank_context keep (vault_context taken b.entry b.pages)
  unfolding blank_context vault_context
  context-shape keep taken = λ i. record {
    cell = λ k. Own (value-shape taken k i);
    right = λ p. Write;
    entry = fresh_registers (shape.entry i);
    saved = λ t. cond keep None None;
  }

  count-shape : length a.pages ≡ length b.pages
  count-shape = sym (length-map a.pages (λ (p : PageImage). p.number)) ∙ ap length shape.pages ∙ length-map b.pages (λ (p : PageImage). p.number)

  abbrev made : World → ℕ → Context → World
  made w count x = put_slot (with_context w vault_name count x) first_name 63 (Ctx vault_name empty_cap)

  blank-held : (keep : Bool) (w : World) (count : ℕ) (x : Context) → blank keep vault_name (with_context w vault_name count x) ≡ with_context w vault_name count (blank_context keep x)
  unfolding with_context change_counters
  blank-held keep w count x = (blanks-alike keep vault_name (change_counters w 0 (λ n. record n { contexts = n.contexts + 1; tags = n.tags + count }))).insert x

  blank-made : (keep : Bool) (w : World) (count : ℕ) (x : Context) → blank keep vault_name (made w count x) ≡ made w count (blank_context keep x)
  blank-made keep w count x =
      sym ((blanks-alike keep vault_name (with_context w vault_name count x)).put_slot first_name 63 (Ctx vault_name empty_cap))
      ∙ ap (λ u. put_slot u first_name 63 (Ctx vault_name empty_cap)) (blank-held keep w count x)

  pub world-shape : (keep : Bool) (w : World) → blank keep vault_name (with_vault w a) ≡ blank keep vault_name (with_vault w b)
  unfolding with_vault
  world-shape keep w =
      let taken : ℕ = (w.next 0).tags in
      blank-made keep w (length a.pages) (vault_context taken a.entry a.pages)
      ∙ (λ i. made w (count-shape i) (context-shape keep taken i))
      ∙ sym (blank-made keep w (length b.pages) (vault_context taken b.entry b.pages))

  pub start-shape : (inputs : Inputs) → blank_machine (start (beside inputs a)) ≡ blank_machine (start (beside inputs b))
  unfolding start
  start-shape inputs = λ i. record (start (beside inputs a)) {
    environment = record {
      world = world-shape true (world_for inputs.image inputs.settings.frames inputs.settings.job) i;
      channels = (start (beside inputs a)).environment.channels;
    };
  }

  module _ (inputs : Inputs) (steps : List ℕ) (can : CanOpen (beside inputs a)) (stand : StandOutside (start (beside inputs a)) steps) where
    abbrev here : Machine
    here = start (beside inputs a)

    abbrev other : Machine
    other = start (beside inputs b)

    outside : ActOutside here steps
    outside = all-outside inputs a steps can stand

    run_here : here.serve ≡ None
    run_here = no_serve inputs a can

    run_other : other.serve ≡ None
    unfolding start
    run_other = no_serve inputs a can

    there : ActOutside other steps
    there = act-back other steps run_other (subst (λ n. ActOutside n steps) (start-shape inputs) (act-blank here steps run_here outside))

    pub text-shape : text_of other steps ≡ text_of here steps
    text-shape =
        sym (text-blank other steps run_other there) ∙ ap (λ n. text_of n steps) (sym (start-shape inputs)) ∙ text-blank here steps run_here outside

    pub legal-shape : IsLegal here steps → IsLegal other steps
    legal-shape legal =
        legal-back other steps run_other there (subst (λ n. IsLegal n steps) (start-shape inputs) (legal-blank here steps run_here outside legal))

pub tells-nothing : (inputs : Inputs) (v : Vault) (steps : List ℕ) → CanOpen (beside inputs v) → StandOutside (start (beside inputs v)) steps → IsLegal (start (beside inputs v)) steps → TellsNothing inputs steps v
tells-nothing inputs v steps can stand legal other shape = (legal-shape v other shape inputs steps can stand legal, text-shape v other shape inputs steps can stand)

pub blank-tells : (inputs : Inputs) (v : Vault) (steps : List ℕ) → CanOpen (beside inputs v) → StandOutside (start (beside inputs v)) steps → IsLegal (start (beside inputs v)) steps →
    IsLegal (blank_machine (start (beside inputs v))) steps × (text_of (blank_machine (start (beside inputs v))) steps ≡ report_after (beside inputs v) steps)
blank-tells inputs v steps can stand legal =
    let outside : ActOutside (start (beside inputs v)) steps = all-outside inputs v steps can stand in
    (legal-blank (start (beside inputs v)) steps (no_serve inputs v can) outside legal, text-blank (start (beside inputs v)) steps (no_serve inputs v can) outside)
