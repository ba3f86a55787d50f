-- The generated server is an image.
use Rattle.std.proofs.Common.{◌≡◌, ◌-◌, ◌<◌, ℕ, zero, suc, Bool, true, ◌&&◌, List, [], ◌∷◌, ◌++◌, ap, get_or, length, refl, replicate, sym, subst, take, ◌∙◌, arith, length-append}
use lib.ListN.{length-replicate}
use Rattle.std.specs.Prelude.{All}
use Rattle.std.specs.Int.{to_le_bytes, w64}
use Rattle.std.proofs.lemmas.List.FromFn.{get_or-map-range_with_len, length-map-range_with_len}
use Rattle.guest_image.specs.Limits.{ArePages, IsImage, page_numbers, stays_inside}
use Rattle.guest_image.specs.Numbers.{ranges, ranges_after, rising_after}
use Rattle.guest_image.specs.declared.image.Form.TheVariants.{One}
use Rattle.guest_image.specs.declared.image.PageImage.{PageImage}
use Rattle.guest_isa.specs.Instructions.{IsText, is_instruction}
use Rattle.lwc_types.specs.Pages.{zero_bytes}
use Rattle.lwc_types.specs.declared.limits.TheConstants.{PAGES_OF_FORM_ONE}
use Rattle.lwc_types.specs.declared.page.TheConstants.{PAGE_BYTES}
use Rattle.lwc_gen.specs.Generated.{handler, numbered_page, server}
use Rattle.lwc_gen.specs.declared.generating.TheConstants.{PAGES}
use Rattle.lwc_types.proofs.Small.{both-true}

-- whether each element passes a test
each : {A : Type 0} → (A → Bool) → List A → Bool
each p [] = true
each p (x ∷ xs) = p x && each p xs

all_pass : {A : Type 0} (p : A → Bool) (xs : List A) → each p xs ≡ true → All (λ x. p x ≡ true) xs
unfolding each
all_pass p [] is k d below = absurd (omega arith)
all_pass p (x ∷ xs) is zero d below = (both-true (p x) (each p xs) is).0
all_pass p (x ∷ xs) is (suc k) d below = all_pass p xs (both-true (p x) (each p xs) is).1 k d (omega arith)

-- the handler is a text
pub handler_is_text : IsText handler
unfolding each is_instruction
handler_is_text = record {
  some = omega arith;
  bounded = omega arith;
  instructions = all_pass is_instruction handler refl;
}

page_whole : (p : ℕ) → length (numbered_page p).bytes ≡ PAGE_BYTES
unfolding zero_bytes
page_whole p = length-append (to_le_bytes w64 p) (zero_bytes (PAGE_BYTES - 8)) ∙ omega (arith, length-replicate {A = ℕ} (PAGE_BYTES - 8) 0)

-- the bytes of a page's number, filled up with zeros to a page
pub page_filled : (p : ℕ) (bytes : List ℕ) (count : ℕ) → bytes ≡ to_le_bytes w64 p → count ≡ length bytes → take PAGE_BYTES bytes ++ replicate (PAGE_BYTES - count) 0 ≡ (numbered_page p).bytes
unfolding zero_bytes
page_filled p bytes count are many =
    ap (λ (bs : List ℕ). take PAGE_BYTES bs ++ replicate (PAGE_BYTES - count) 0) are
    ∙ ap (λ (n : ℕ). to_le_bytes w64 p ++ replicate (PAGE_BYTES - n) 0) (many ∙ ap length are)

-- the pages are those of an image
pages_are : ArePages One server.pages
unfolding rising_after ranges_after
pages_are = record {
  numbers = λ k d below. subst (λ (p : PageImage). p.number < PAGES_OF_FORM_ONE) (sym (at k d below)) (omega (arith, inside k below));
  rise = refl;
  ranges = let one : ranges (page_numbers server.pages) ≡ 1 = refl in omega (arith, one);
  whole = λ k d below. subst (λ (p : PageImage). length p.bytes ≡ PAGE_BYTES) (sym (at k d below)) (page_whole k);
}
  where
    inside : (k : ℕ) → k < length server.pages → k < 300
    inside k below = omega (arith, length-map-range_with_len numbered_page 0 PAGES)

    at : (k : ℕ) (d : PageImage) → k < length server.pages → get_or server.pages k d ≡ numbered_page k
    at k d below = get_or-map-range_with_len numbered_page 0 PAGES k k d (inside k below) (omega arith)

-- the server is an image
pub server_is_image : IsImage server
unfolding each rising_after
server_is_image = record {
  text = handler_is_text;
  targets = all_pass (stays_inside 21) handler refl;
  uid = omega arith;
  page_count = omega (arith, length-map-range_with_len numbered_page 0 PAGES);
  pages = pages_are;
  file_count = omega arith;
  files = record { owners = λ k d below. absurd (omega arith); content = omega arith };
  slot_count = omega arith;
  slots = record {
    above = λ k d below. absurd (omega arith);
    below = λ k d below. absurd (omega arith);
    rise = refl;
    files = λ k d below. absurd (omega arith);
  };
  some_thread = omega arith;
  thread_count = omega arith;
  entries = entry_inside;
}
  where
    entry_inside : All (λ (e : ℕ). e < length handler) (0 ∷ [])
    entry_inside zero d below = omega arith
    entry_inside (suc k) d below = absurd (omega arith)
