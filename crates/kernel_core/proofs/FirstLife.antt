-- In the world of a start no slot has a descriptor of a context, and nothing is left to drop.
use Rattle.std.proofs.Common.{◌≡◌, ℕ, ◌≤◌, sym, ap, ◌∙◌, Bool, true, false, cond, eqb, ltb, Option, Some, None, List, [], ◌∷◌, length, refl, arith}
use Rattle.std.specs.FinMap as fm
use Rattle.std.specs.List.{find, list_any, range_with_len}
use Rattle.std.specs.Option.{option_map_or}
use Rattle.std.specs.Ordering.{eq_by_cmp}
use Rattle.std.specs.Prelude.{is_some}
use Rattle.std.proofs.lemmas.Bool.{false≢true}
use Rattle.guest_image.specs.declared.image.Form.{Form}
use Rattle.guest_image.specs.declared.image.Image.{Image}
use Rattle.guest_image.specs.declared.image.PageImage.{PageImage}
use Rattle.guest_image.specs.declared.image.SlotImage.{SlotImage}
use Rattle.kernel_core.proofs.FirstWorld.{context-first, get-first}
use Rattle.kernel_core.specs.Start.{first_context, first_name, first_slot, first_threads, world_with}
use Rattle.kernel_core.specs.Step.{roots}
use Rattle.lwc_base.specs.Cells.{slot_at, value_at, value_of}
use Rattle.lwc_base.specs.Life.{HasItsContexts, IsReaped, Root, is_among, is_of, links}
use Rattle.lwc_base.specs.World.{Context, is_live}
use Rattle.lwc_base.specs.declared.descriptor.Descriptor.TheVariants.{Console, Empty, File}
use Rattle.lwc_types.specs.Names.{name_cmp}
use Rattle.lwc_types.specs.declared.key.Key.TheVariants.{Slot}
use Rattle.lwc_types.specs.declared.name.Name.{Name}
use Rattle.lwc_types.proofs.Orders.{same_name}

pub none_of : (test : ℕ → Bool) (ns : List ℕ) → ((n : ℕ) → test n ≡ false) → list_any test ns ≡ false
none_of test [] fails = refl
none_of test (n ∷ ns) fails = let here = fails n in let rest = none_of test ns fails in grind arith

-- a slot at the start is of no context
pub not_of : (d : Name) (image : Image) (n : ℕ) → is_of d (cond (ltb n 64) (first_slot image.slots n) Empty) ≡ false
unfolding first_slot
not_of d image n = by_number (ltb n 64)
  where
    by_file : (file : Option SlotImage) → is_of d (option_map_or (λ (s : SlotImage). File s.file 0) file Empty) ≡ false
    by_file None = refl
    by_file (Some s) = refl

    by_console : (b : Bool) → is_of d (cond b Console (option_map_or (λ (s : SlotImage). File s.file 0) (find (λ (s : SlotImage). eqb s.slot n) image.slots) Empty)) ≡ false
    by_console true = refl
    by_console false = by_file _

    by_number : (b : Bool) → is_of d (cond b (cond (ltb n 2) Console (option_map_or (λ (s : SlotImage). File s.file 0) (find (λ (s : SlotImage). eqb s.slot n) image.slots) Empty)) Empty) ≡ false
    by_number true = by_console (ltb n 2)
    by_number false = refl

module _ (form : Form) (frames tags : ℕ) where
  -- a name that is live at the start is the first one
  pub only_first : (x : Context) (c : Name) → is_live (world_with form frames tags x) c ≡ true → c ≡ first_name
  unfolding world_with
  only_first x c live = by_name _ refl (sym (ap is_some (get-first x c)) ∙ live)
    where
      by_name : (b : Bool) → eq_by_cmp name_cmp c first_name ≡ b → is_some (cond b (Some x) None) ≡ true → c ≡ first_name
      by_name true same live = same_name c first_name same
      by_name false other live = absurd (false≢true live)

  pub reaped_first : (x : Context) (budget : ℕ) (entries : List ℕ) → 1 ≤ length entries → IsReaped (world_with form frames tags x) (roots (first_threads budget entries) None)
  unfolding world_with first_threads
  reaped_first x budget [] some = absurd (omega arith)
  reaped_first x budget (e ∷ es) some = record {
    contexts = λ c live. Root c (ap (λ n. is_among (roots (first_threads budget (e ∷ es)) None) n) (only_first x c live));
    groups = λ g live. absurd (false≢true (sym (ap is_some (fm.get-empty name_cmp g)) ∙ live));
  }

module _ (image : Image) (frames tags : ℕ) (pages : List PageImage) where
  slot-first : (n : ℕ) → slot_at (world_with image.form frames tags (first_context image pages 64)) first_name n ≡ cond (ltb n 64) (first_slot image.slots n) Empty
  unfolding value_at first_context
  slot-first n = ap (λ (y : Context). value_of (world_with image.form frames tags (first_context image pages 64)) (Slot n) (y.cell (Slot n))) (context-first image.form frames tags (first_context image pages 64))

  no_links : (c d : Name) → is_live (world_with image.form frames tags (first_context image pages 64)) c ≡ true → links (world_with image.form frames tags (first_context image pages 64)) c d ≡ false
  unfolding links
  no_links c d live =
      ap (λ e. list_any (λ n. is_of d (slot_at (world_with image.form frames tags (first_context image pages 64)) e n)) (range_with_len 0 64)) (only_first image.form frames tags (first_context image pages 64) c live)
      ∙ none_of _ (range_with_len 0 64) (λ n. ap (is_of d) (slot-first n) ∙ not_of d image n)

  pub named_first : HasItsContexts (world_with image.form frames tags (first_context image pages 64))
  named_first = record { live = λ c d live link. absurd (false≢true (sym (no_links c d live) ∙ link)) }
