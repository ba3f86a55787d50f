-- One line more, as a loop over places appends it.
use Rattle.std.proofs.Common.{◌≡◌, ℕ, suc, ◌<◌, ◌+◌, List, [], ◌∷◌, ◌++◌, take, Some, sym, ap, ◌∙◌, All}
use Rattle.std.specs.List.{flat_map, slice_get, slice_index}
use Rattle.std.proofs.lemmas.List.{flat_map_more}
use Rattle.std.proofs.lemmas.List.Elements.{All-nil, All-cons, All-push}
use Rattle.guest_image.proofs.Writes.{take_next}

pub line_next : {X : Type 0} (line : X → List ℕ) (bytes : List ℕ) (xs : List X) (i : ℕ) (x : X) → slice_get xs i ≡ Some x → (bytes ++ flat_map line (take i xs)) ++ line x ≡ bytes ++ flat_map line (take (i + 1) xs)
line_next {X} line bytes xs i x e = flat_map_more line bytes (take i xs) x ∙ ap (λ (ys : List X). bytes ++ flat_map line ys) (sym (take_next xs i x e))

-- what is so of each value up to a place, and of the next
pub all_next : {X : Type 0} (P : X → Type 0) (xs : List X) (i : ℕ) (x : X) → slice_get xs i ≡ Some x → All P (take i xs) → P x → All P (take (i + 1) xs)
all_next P xs i x e all one = rw (take_next xs i x e) (All-push P (take i xs) x all one)

-- bytes that are below 256 at each place
pub all_bytes : (bs : List ℕ) → ((i : ℕ) → slice_index bs i < 256) → All (λ b. b < 256) bs
all_bytes [] each = All-nil (λ b. b < 256)
all_bytes (b ∷ bs) each = All-cons (λ b. b < 256) b bs (each 0) (all_bytes bs (λ i. each (suc i)))
