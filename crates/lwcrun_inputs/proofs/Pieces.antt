-- What a sink takes of a text in pieces.
use Rattle.std.proofs.Common.{◌≡◌, inl, inr, ℕ, ◌+◌, List, [], ◌∷◌, ◌++◌, Option, None, Some, codes, take, min, length, refl, ap, sym, ◌∙◌, append_assoc, arith}
use Rattle.std.proofs.Math.Seq.{take-append-add}
use Rattle.std.proofs.lemmas.List.{take-append-le, take_min}
use Rattle.lwc_io.specs.Outside.{CountsOneFault, IsPartTaken, SinkView, appended, incremented}
use Rattle.lwcrun_inputs.specs.Ends as ends
use Rattle.lwcrun_inputs.specs.Statuses.{Takes, message_of}

-- what is appended twice
appended-again : (x : Option (List ℕ)) (a b : List ℕ) → appended (appended x a) b ≡ appended x (a ++ b)
appended-again None a b = refl
appended-again (Some xs) a b = ap Some (append_assoc xs a b)

-- one piece after another
pub both-taken : (x y z : Option (List ℕ)) (a b : List ℕ) → y ≡ appended x a → z ≡ appended y b → z ≡ appended x (a ++ b)
both-taken x y z a b first next = next ∙ ap (λ o. appended o b) first ∙ appended-again x a b

-- a part of a piece behind a whole one
pub next-part : (x y z : Option (List ℕ)) (a b : List ℕ) → y ≡ appended x a → IsPartTaken y z b → IsPartTaken x z (a ++ b)
next-part x y z a b first (n, next) = (length a + n, both-taken x y z a (take n b) first next ∙ ap (appended x) (sym (take-append-add a b n)))

-- a part of the first piece
pub first-part : (x z : Option (List ℕ)) (a b : List ℕ) → IsPartTaken x z a → IsPartTaken x z (a ++ b)
first-part x z a b (n, is) = (min n (length a), is ∙ ap (appended x) (sym (take_min n a) ∙ sym (take-append-le (min n (length a)) a b (omega arith))))

-- the first piece was taken in part, and no more
pub stops-in-first : (before after : SinkView) (a b : List ℕ) → IsPartTaken before.taken after.taken a → CountsOneFault before.faults after.faults → Takes (a ++ b) before after
stops-in-first before after a b part cause = inr (first-part before.taken after.taken a b part, cause)

-- the first piece was taken, and then what there was of the rest
pub goes-on : (before mid after : SinkView) (a b : List ℕ) → mid.taken ≡ appended before.taken a → mid.faults ≡ before.faults → Takes b mid after → Takes (a ++ b) before after
goes-on before mid after a b first same (inl (taken, faults)) = inl (both-taken before.taken mid.taken after.taken a b first taken, faults ∙ same)
goes-on before mid after a b first same (inr (part, cause)) = inr (next-part before.taken mid.taken after.taken a b first part, cause ∙ ap incremented same)

-- the three pieces of the message of a file that was not read
pub unread-line : (a b c name : List ℕ) → a ≡ codes "lwcrun: cannot read " → b ≡ name → c ≡ 10 ∷ [] → a ++ (b ++ c) ≡ message_of (ends.Unread name)
unfolding message_of
unread-line a b c name first second third =
    ap (λ x. x ++ (b ++ c)) first ∙ ap (λ x. codes "lwcrun: cannot read " ++ (x ++ c)) second
    ∙ ap (λ x. codes "lwcrun: cannot read " ++ (name ++ x)) third
    ∙ ap (λ x. codes "lwcrun: " ++ x) (sym (append_assoc (codes "cannot read ") name (10 ∷ [])))
