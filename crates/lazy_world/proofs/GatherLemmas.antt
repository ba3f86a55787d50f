-- What is gathered of a list, with what one element more gives.
use Rattle.std.proofs.Common.{◌≡◌, ℕ, ◌+◌, ◌<◌, List, [], ◌∷◌, ◌++◌, length, sym, ap, ◌∙◌, Option, Some, None, get_or, take, append-nil}
use Rattle.std.specs.List.{cons_option, filter_map}
use Rattle.std.proofs.lemmas.List.{take_more}
use Rattle.std.proofs.lemmas.List.Elements.{filter_map-append}

module _ {X Y : Type 0} (h : X → Option Y) (xs : List X) (i : ℕ) (d : X) where
  filter_map_more : i < length xs → filter_map h (take (i + 1) xs) ≡ filter_map h (take i xs) ++ filter_map h (get_or xs i d ∷ [])
  filter_map_more within = ap (filter_map h) (take_more xs i d within) ∙ filter_map-append h (take i xs) (get_or xs i d ∷ [])

  pub gathered_some : (y : Y) (ys : List Y) → i < length xs → h (get_or xs i d) ≡ Some y → ys ≡ filter_map h (take i xs) → ys ++ y ∷ [] ≡ filter_map h (take (i + 1) xs)
  gathered_some y ys within is before =
      ap (λ l. l ++ y ∷ []) before ∙ ap (λ o. filter_map h (take i xs) ++ cons_option o []) (sym is) ∙ sym (filter_map_more within)

  pub gathered_none : (ys : List Y) → i < length xs → h (get_or xs i d) ≡ None → ys ≡ filter_map h (take i xs) → ys ≡ filter_map h (take (i + 1) xs)
  gathered_none ys within is before =
      before ∙ sym (append-nil _) ∙ ap (λ o. filter_map h (take i xs) ++ cons_option o []) (sym is) ∙ sym (filter_map_more within)
