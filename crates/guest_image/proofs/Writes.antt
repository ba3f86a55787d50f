-- One value more of a list, as a loop over its places writes or copies it.
use Rattle.std.proofs.Common.{◌≡◌, ℕ, ◌+◌, List, [], ◌∷◌, ◌++◌, length, take, Some, sym, ap, ◌∙◌, append_assoc}
use Rattle.std.specs.List.{flat_map, slice_get}
use Rattle.std.proofs.lemmas.List.{take_more, flat_map_more}
use Rattle.lwc_types.specs.declared.file_image.FileImage.{FileImage}
use Rattle.guest_image.specs.declared.header.Header.{Header}
use Rattle.guest_image.specs.declared.image.Form.{Form}
use Rattle.guest_image.specs.Spelling.{magic, number, flag, header, file}
use Rattle.std.proofs.lemmas.Option.{slice_get_within, get_or_from_slice_get}

pub take_next : {X : Type 0} (xs : List X) (i : ℕ) (x : X) → slice_get xs i ≡ Some x → take (i + 1) xs ≡ take i xs ++ x ∷ []
take_next {X} xs i x e = take_more xs i x (slice_get_within xs i x e) ∙ ap (λ (y : X). take i xs ++ y ∷ []) (get_or_from_slice_get xs i x x e)

pub spell_next : {X : Type 0} (spell : X → List ℕ) (bytes : List ℕ) (xs : List X) (i : ℕ) (x : X) → slice_get xs i ≡ Some x → (bytes ++ flat_map spell (take i xs)) ++ spell x ≡ bytes ++ flat_map spell (take (i + 1) xs)
spell_next {X} spell bytes xs i x e = flat_map_more spell bytes (take i xs) x ∙ ap (λ (ys : List X). bytes ++ flat_map spell ys) (sym (take_next xs i x e))

pub more : (x y n rest : List ℕ) → y ≡ x ++ n → y ++ rest ≡ x ++ (n ++ rest)
more x y n rest is = ap (λ (t : List ℕ). t ++ rest) is ∙ append_assoc x n rest

-- the parts of a header, written one after another
pub header_written : (form : Form) (h : Header) (o a b c d e f g : List ℕ) → a ≡ o ++ magic form → b ≡ a ++ number h.instructions → c ≡ b ++ number h.pages → d ≡ c ++ number h.files → e ≡ d ++ number h.slots → f ≡ e ++ number h.threads → g ≡ f ++ number h.uid → g ≡ o ++ header form h
header_written form h o a b c d e f g p0 p1 p2 p3 p4 p5 p6 =
    p6 ∙ more e f (number h.threads) (number h.uid) p5 ∙ more d e (number h.slots) _ p4 ∙ more c d (number h.files) _ p3 ∙ more b c (number h.pages) _ p2 ∙ more a b (number h.instructions) _ p1 ∙ more o a (magic form) _ p0

-- the parts of a file, written one after another
pub file_written : (i : FileImage) (o a b c d : List ℕ) → a ≡ o ++ number i.owner → b ≡ a ++ flag i.public → c ≡ b ++ number (length i.bytes) → d ≡ c ++ i.bytes → d ≡ o ++ file i
file_written i o a b c d p0 p1 p2 p3 = p3 ∙ more b c (number (length i.bytes)) i.bytes p2 ∙ more a b (flag i.public) _ p1 ∙ more o a (number i.owner) _ p0
