-- How the bytes of a reply are kept.
use Rattle.std.specs.Prelude.{ℕ, List, [], ◌∷◌}

-- the bytes of a reply, of what its short row and its long row have
abbrev pub seen_reply : List ℕ → List ℕ → List ℕ
seen_reply short [] = short
seen_reply short (byte ∷ bytes) = byte ∷ bytes
