-- The turns of a thread that a number counts.
use Rattle.std.proofs.Common.{◌≡◌, ◌+◌, ◌++◌, ◌∷◌, ◌∙◌, ℕ, [], List, refl, sym, ap, subst, arith, append_assoc, append-nil}
use Rattle.std.specs.List.{AllZip}
use Rattle.kernel_core.specs.Histories.{GoesOn}
use Rattle.process_core.proofs.Offers.{one_more}
use Rattle.process_core.specs.Running.{Carried, Carries}
use Rattle.process_core.specs.Running.Carries.{Still, More}
use Rattle.thread_carrier.specs.Turned.{HasTurned}

-- before its first turn a thread has seen and counted no more
none_turned : (p : Carried) (turns : ℕ) → HasTurned p turns p turns
none_turned p turns = record {
  more = [];
  seen = sym (append-nil p.held.seen);
  counted = omega arith;
}

-- a turn more
one_turn_more : (p q r : Carried) (turns so_far : ℕ) → HasTurned p turns q so_far → q.held.number ≡ p.held.number → GoesOn q.held.number q.held.seen r.held.seen →
    HasTurned p turns r (so_far + 1)
one_turn_more p q r turns so_far turned same on =
    let t = p.held.number in
    let later : GoesOn t q.held.seen r.held.seen = subst (λ (k : ℕ). GoesOn k q.held.seen r.held.seen) same on in
    let new = later.others ++ t ∷ [] in
    let one = one_more t turned.more (turned.more ++ new) (record { others = later.others; none = later.none; after_is = refl }) in
    record {
      more = turned.more ++ new;
      seen = later.after_is ∙ (ap (λ (l : List ℕ). l ++ new) turned.seen ∙ append_assoc p.held.seen turned.more new);
      counted = omega (arith, turned.counted, one);
    }

-- the turns of a thread stay its own, and the number has counted them
record Turned (p : Carried) (turns : ℕ) (q : Carried) (later : ℕ) : Type 0 where
  same : q.held.number ≡ p.held.number
  turned : HasTurned p turns q later

all_turned : (process : _) (p : Carried) (turns : ℕ) (q : Carried) (later : ℕ) → Carries (λ n _ m. m ≡ n + 1) process p turns q later → Turned p turns q later
all_turned process p turns _ _ Still = record { same = refl; turned = none_turned p turns }
all_turned process p turns _ _ (More q r so_far later before going makes counted) =
    let t = all_turned process p turns q so_far before in record {
      same = makes.number ∙ t.same;
      turned = subst (HasTurned p turns r) (sym counted) (one_turn_more p q r turns so_far t.turned t.same (makes.goes_on going));
    }

pub have_turned : (process : _) (p : Carried) (turns : ℕ) (q : Carried) (later : ℕ) → Carries (λ n _ m. m ≡ n + 1) process p turns q later → HasTurned p turns q later
have_turned process p turns q later carried = (all_turned process p turns q later carried).turned

-- what holds of two lists at each place follows there
pub zip_map : {A : Type 0} (R S : A → A → Type 0) (xs ys : List A) → ((x y : A) → R x y → S x y) → AllZip R xs ys → AllZip S xs ys
zip_map R S [] [] each all = tt
zip_map R S [] (y ∷ ys) each all = all
zip_map R S (x ∷ xs) [] each all = all
zip_map R S (x ∷ xs) (y ∷ ys) each all = (each x y all.0, zip_map R S xs ys each all.1)
