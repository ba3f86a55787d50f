-- The number of bytes of a draft.
use Rattle.std.proofs.Common.{◌≡◌, ℕ, ◌+◌, ◌*◌, ◌^◌, ◌<◌, ◌≤◌, List, [], ◌∷◌, ◌++◌, length, map, get_or, refl, ap, ◌∙◌, arith, length-append}
use Rattle.std.specs.List.{flat_map}
use Rattle.std.proofs.lemmas.List.Folds.{length-flat_map-take}
use Rattle.lwc_types.specs.declared.limits.TheConstants.{MOST_IMAGE_BYTES}
use Rattle.guest_isa.specs.Spelling.{spelling}
use Rattle.guest_image.specs.Spelling.{number}
use Rattle.guest_asm.specs.declared.parts.FileDraft.{FileDraft}
use Rattle.std.proofs.lemmas.List.{length-map}
use Rattle.guest_asm.specs.declared.source.Source.{Source}
use Rattle.guest_asm.specs.Views.{source_in, coded_in, immediate_in, label_at}
use Rattle.guest_asm.specs.Drafts.{Draft, draft_of, draft_bytes, header, page, file, slot, instruction_with, value_of}

each_of_8 : {X : Type 0} (f : X → List ℕ) (xs : List X) → ((x : X) → length (f x) ≡ 8) → length (flat_map f xs) ≡ 8 * length xs
each_of_8 f [] h = refl
each_of_8 f (x ∷ xs) h = omega (arith, length-append (f x) (flat_map f xs), h x, each_of_8 f xs h)

each_of_4 : {X : Type 0} (f : X → List ℕ) (xs : List X) → ((x : X) → length (f x) ≡ 4) → length (flat_map f xs) ≡ 4 * length xs
each_of_4 f [] h = refl
each_of_4 f (x ∷ xs) h = omega (arith, length-append (f x) (flat_map f xs), h x, each_of_4 f xs h)

at_least : {X : Type 0} (f : X → List ℕ) (xs : List X) → ((x : X) → 1 ≤ length (f x)) → length xs ≤ length (flat_map f xs)
at_least f [] h = omega arith
at_least f (x ∷ xs) h = omega (arith, length-append (f x) (flat_map f xs), h x, at_least f xs h)

-- the bytes of the parts together
pub length_of : (d : Draft) → length (draft_bytes d) ≡ 28 + 8 * length d.text + length (flat_map page d.pages) + length (flat_map file d.files) + 8 * length d.slots + 4 * length d.entries
unfolding draft_bytes
length_of d =
    let a = flat_map spelling d.text in
    let b = flat_map page d.pages in
    let c = flat_map file d.files in
    let e = flat_map slot d.slots in
    let f = flat_map number d.entries in
    let h : length (header d) ≡ 28 = refl in
    omega (
      arith,
      length-append (header d) (a ++ (b ++ (c ++ (e ++ f)))),
      h,
      length-append a (b ++ (c ++ (e ++ f))),
      length-append b (c ++ (e ++ f)),
      length-append c (e ++ f),
      length-append e f,
      each_of_8 spelling d.text (λ i. refl),
      each_of_8 slot d.slots (λ s. refl),
      each_of_4 number d.entries (λ n. refl),
    )

-- a draft that is not too long has few values in each list
pub record HasFew (d : Draft) : Type 0 where
  pub text : length d.text < 2 ^ 32
  pub pages : length d.pages < 2 ^ 32
  pub files : length d.files < 2 ^ 32
  pub slots : length d.slots < 2 ^ 32
  pub entries : length d.entries < 2 ^ 32
  pub content : length (flat_map file d.files) ≤ MOST_IMAGE_BYTES

pub has_few : (d : Draft) → length (draft_bytes d) ≤ MOST_IMAGE_BYTES → HasFew d
has_few d short =
    let l = length_of d in
    let p = at_least page d.pages (λ x. omega arith) in
    let f = at_least file d.files (λ x. omega arith) in
    record {
      text = omega (arith, l, short);
      pages = omega (arith, l, short, p);
      files = omega (arith, l, short, f);
      slots = omega (arith, l, short);
      entries = omega (arith, l, short);
      content = omega (arith, l, short);
    }

-- a file of files that are not too long together
pub file_fits : (files : List FileDraft) (i : ℕ) (f : FileDraft) → i < length files → f ≡ get_or files i f → length (flat_map file files) ≤ MOST_IMAGE_BYTES → length f.bytes ≤ MOST_IMAGE_BYTES
file_fits files i f lt is few =
    let whole = length-flat_map-take file files i f lt in
    let one : length (file f) ≡ 12 + length f.bytes = omega arith in
    omega (arith, whole, one, few, ap (λ (x : FileDraft). length (file x)) is)

-- the number of instructions and of entries
pub counts_of : (s : Source) → (length (draft_of (source_in s)).text ≡ length s.text.items) × (length (draft_of (source_in s)).entries ≡ length s.entries.items)
counts_of s =
    let labels = label_at s.labels in (
      length-map (map coded_in s.text.items) (instruction_with labels) ∙ length-map s.text.items coded_in,
      length-map (map immediate_in s.entries.items) (value_of labels) ∙ length-map s.entries.items immediate_in,
    )
