-- Two lists side by side.
use Rattle.std.specs.Prelude.{List, [], ◌∷◌}

-- what a function makes of the elements that stand at the same place of two lists
abbrev pub paired : {A B C : Type 0} → (A → B → C) → List A → List B → List C
paired f [] ys = []
paired f (x ∷ xs) [] = []
paired f (x ∷ xs) (y ∷ ys) = f x y ∷ paired f xs ys
