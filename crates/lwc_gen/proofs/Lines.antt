-- The pieces of a line, grouped from the left.
use Rattle.std.proofs.Common.{◌≡◌, ℕ, List, ◌++◌, sym, ◌∙◌, append_assoc}

pub from_left : (a b c d e f g h i j k : List ℕ) →
    a ++ (b ++ (c ++ (d ++ (e ++ (f ++ (g ++ (h ++ (i ++ (j ++ k))))))))) ≡ ((((((((((a ++ b) ++ c) ++ d) ++ e) ++ f) ++ g) ++ h) ++ i) ++ j) ++ k)
from_left a b c d e f g h i j k =
    let ab = a ++ b in
    let abc = ab ++ c in
    let abcd = abc ++ d in
    let abcde = abcd ++ e in
    let to_f = abcde ++ f in
    let to_g = to_f ++ g in
    let to_h = to_g ++ h in
    let to_i = to_h ++ i in
    sym (append_assoc a b (c ++ (d ++ (e ++ (f ++ (g ++ (h ++ (i ++ (j ++ k)))))))))
    ∙ (sym (append_assoc ab c (d ++ (e ++ (f ++ (g ++ (h ++ (i ++ (j ++ k))))))))
    ∙ (sym (append_assoc abc d (e ++ (f ++ (g ++ (h ++ (i ++ (j ++ k)))))))
    ∙ (sym (append_assoc abcd e (f ++ (g ++ (h ++ (i ++ (j ++ k))))))
    ∙ (sym (append_assoc abcde f (g ++ (h ++ (i ++ (j ++ k)))))
    ∙ (sym (append_assoc to_f g (h ++ (i ++ (j ++ k))))
    ∙ (sym (append_assoc to_g h (i ++ (j ++ k)))
    ∙ (sym (append_assoc to_h i (j ++ k))
    ∙ sym (append_assoc to_i j k))))))))
