-- A capability that has each key of another covers what that one stands for.
use Rattle.std.proofs.Common.{◌≡◌, ◌∙◌, ◌↔◌, sym, ℕ, ◌≤◌, Bool, true, false, not, ◌&&◌, arith}
use Rattle.std.specs.Prelude.{nat_lt}
use Rattle.std.proofs.lemmas.Bool.{and_from, and_parts, both_ways, lt-ltb, ltb-true, not_from_false, true_from_ne_false}
use Rattle.access_cap.proofs.Keys.{HasKeysOf, within_most}
use Rattle.lwc_base.specs.Capabilities.{has_key}
use Rattle.lwc_base.specs.declared.descriptor.Cap.{Cap}
use Rattle.lwc_base.specs.Modes.{IsKey, kind_of, limit, number_of}
use Rattle.lwc_base.specs.Sharing.{any_key}
use Rattle.lwc_base.proofs.Needs.{any_key-none, any_key-some}
use Rattle.lwc_types.specs.declared.key.Key.{Key}
use Rattle.lwc_types.specs.declared.limits.TheConstants.{MOST_PAGES}

-- a test is another's opposite where each way is shown from one side
opposite : (t x : Bool) → (t ≡ true → x ≡ false) → (x ≡ false → t ≡ true) → t ≡ not x
opposite t x off on = grind arith

-- the keys of a part are those that there are and that pass a test; each is had exactly if none that passes is missing
module _ (pages : ℕ) (cap part : Cap) (test : Key → Bool) (few : pages ≤ MOST_PAGES)
    (has : (k : Key) → IsKey MOST_PAGES k → has_key part k ≡ (nat_lt (number_of k) (limit pages (kind_of k)) && test k)) where
  is_missing : Key → Bool
  is_missing k = test k && not (has_key cap k)

  none_missing : HasKeysOf cap part → any_key pages is_missing ≡ false
  unfolding is_missing
  none_missing all = any_key-none pages is_missing (λ k within.
      let most = within_most pages few k within in
      let is = has k most in
      let each = all k most in
      let below = lt-ltb (number_of k) (limit pages (kind_of k)) within in grind arith)

  all_had : any_key pages is_missing ≡ false → HasKeysOf cap part
  unfolding is_missing
  all_had none k most had = true_from_ne_false (has_key cap k) (λ lacks.
      let both = and_parts (nat_lt (number_of k) (limit pages (kind_of k))) (test k) (sym (has k most) ∙ had) in
      both_ways _ none (any_key-some pages is_missing k (ltb-true (number_of k) (limit pages (kind_of k)) both.0) (and_from _ _ both.1 (not_from_false _ lacks))))

  pub had_exactly : (t : Bool) → ((t ≡ true) ↔ HasKeysOf cap part) → t ≡ not (any_key pages (λ k. test k && not (has_key cap k)))
  unfolding is_missing
  had_exactly t is = opposite t (any_key pages is_missing) (λ yes. none_missing (is.0 yes)) (λ none. is.1 (all_had none))
