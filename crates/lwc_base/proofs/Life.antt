-- A live context comes into reach in no more rounds than there are contexts, exactly where a way leads to it from a root.
use Rattle.std.proofs.Common.{◌≡◌, ◌⊎◌, inl, inr, ℕ, zero, suc, ◌+◌, ◌≤◌, refl, sym, ap, ◌∙◌, Bool, true, false, cond, ◌&&◌, ◌||◌, List, [], ◌∷◌, map, length, arith}
use Rattle.std.proofs.lemmas.Bool.{false≢true}
use Rattle.std.proofs.lemmas.List.Sums.{sum_by-cons}
use Rattle.std.specs.Prelude.{count_by}
use Rattle.std.specs.List.{list_any}
use Rattle.std.specs.Ordering.{eq_by_cmp}
use Rattle.std.specs.FinMap as fm
use Rattle.lwc_base.specs.Life.{links, is_among, reached_in, is_reached, Reaches, Root, Link}
use Rattle.lwc_base.specs.World.{World, is_live}
use Rattle.lwc_types.specs.declared.name.Name.{Name}
use Rattle.lwc_types.specs.Names.{name_cmp}
use Rattle.lwc_types.proofs.Orders.{name-itself, same_name}

pub or_left : (a b : Bool) → a ≡ true → (a || b) ≡ true
or_left true b e = refl
or_left false b e = absurd (false≢true e)

pub or_right : (a b : Bool) → b ≡ true → (a || b) ≡ true
or_right true b e = refl
or_right false b e = e

pub or_cases : (a b : Bool) → (a || b) ≡ true → (a ≡ true) ⊎ (b ≡ true)
or_cases true b e = inl refl
or_cases false b e = inr e

and_left : (a b : Bool) → (a && b) ≡ true → a ≡ true
and_left true b e = refl
and_left false b e = e

and_right : (a b : Bool) → (a && b) ≡ true → b ≡ true
and_right true b e = e
and_right false b e = absurd (false≢true e)

and_both : (a b : Bool) → a ≡ true → b ≡ true → (a && b) ≡ true
and_both true b e f = f
and_both false b e f = e

-- a test passes at some name of a list
some_name : (test : Name → Bool) (ks : List Name) → list_any test ks ≡ true → (d : Name) × (test d ≡ true) × (list_any (eq_by_cmp name_cmp d) ks ≡ true)
some_name test [] e = absurd (false≢true e)
some_name test (k ∷ ks) e =
    elim (or_cases (test k) (list_any test ks) e) [
      | inl here ↦ (k, here, or_left _ _ (name-itself k))
      | inr later ↦ let found = some_name test ks later in (found.0, found.1, or_right _ _ found.2)
    ]

any_name : (test : Name → Bool) (ks : List Name) (d : Name) → test d ≡ true → list_any (eq_by_cmp name_cmp d) ks ≡ true → list_any test ks ≡ true
any_name test [] d passes there = there
any_name test (k ∷ ks) d passes there =
    elim (or_cases (eq_by_cmp name_cmp d k) (list_any (eq_by_cmp name_cmp d) ks) there) [
      | inl same ↦ or_left _ _ (ap test (sym (same_name d k same)) ∙ passes)
      | inr later ↦ or_right _ _ (any_name test ks d passes later)
    ]

-- a test that passes wherever another does, and no oftener in a list, passes there only where the other does
count_one : (test : Name → Bool) (k : Name) (ks : List Name) → count_by test (k ∷ ks) ≡ cond (test k) 1 0 + count_by test ks
count_one test k ks = sum_by-cons (λ q. cond (test q) 1 0) k ks

at_most : (p q : Name → Bool) (ks : List Name) → ((c : Name) → p c ≡ true → q c ≡ true) → count_by p ks ≤ count_by q ks
at_most p q [] more = omega arith
at_most p q (k ∷ ks) more =
    let rest = at_most p q ks more in
    let one_p = count_one p k ks in
    let one_q = count_one q k ks in
    elim (p k) as (λ b. p k ≡ b → count_by p (k ∷ ks) ≤ count_by q (k ∷ ks)) [
      | true ↦ λ is.
          let here_p = ap {B = ℕ} (λ b. cond b 1 0) is in
          let here_q = ap {B = ℕ} (λ b. cond b 1 0) (more k is) in
          omega (arith, rest, one_p, one_q, here_p, here_q)
      | false ↦ λ is. let here_p = ap {B = ℕ} (λ b. cond b 1 0) is in omega (arith, rest, one_p, one_q, here_p)
    ] refl

same_where : (p q : Name → Bool) (ks : List Name) → ((c : Name) → p c ≡ true → q c ≡ true) → count_by q ks ≤ count_by p ks →
    (c : Name) → list_any (eq_by_cmp name_cmp c) ks ≡ true → q c ≡ true → p c ≡ true
same_where p q [] more few c there passes = absurd (false≢true there)
same_where p q (k ∷ ks) more few c there passes =
    let rest = at_most p q ks more in
    let one_p = count_one p k ks in
    let one_q = count_one q k ks in
    elim (or_cases (eq_by_cmp name_cmp c k) (list_any (eq_by_cmp name_cmp c) ks) there) [
      | inl same ↦
          let is_k : q k ≡ true = ap q (sym (same_name c k same)) ∙ passes in
          elim (p k) as (λ b. p k ≡ b → p c ≡ true) [
            | true ↦ λ is. ap p (same_name c k same) ∙ is
            | false ↦ λ is.
                let here_p = ap {B = ℕ} (λ b. cond b 1 0) is in
                let here_q = ap {B = ℕ} (λ b. cond b 1 0) is_k in
                absurd (omega (arith, few, rest, one_p, one_q, here_p, here_q))
          ] refl
      | inr later ↦
          let fewer : count_by q ks ≤ count_by p ks =
          elim (p k) as (λ b. p k ≡ b → count_by q ks ≤ count_by p ks) [
            | true ↦ λ is.
                let here_p = ap {B = ℕ} (λ b. cond b 1 0) is in
                let here_q = ap {B = ℕ} (λ b. cond b 1 0) (more k is) in
                omega (arith, few, one_p, one_q, here_p, here_q)
            | false ↦ λ is. let here_p = ap {B = ℕ} (λ b. cond b 1 0) is in omega (arith, few, one_p, one_q, here_p)
          ] refl in
          same_where p q ks more fewer c later passes
    ]

all_pass : (ks : List Name) → count_by (λ (c : Name). true) ks ≡ length ks
all_pass [] = refl
all_pass (k ∷ ks) = count_one (λ (c : Name). true) k ks ∙ ap (λ n. 1 + n) (all_pass ks) ∙ omega arith

le_or_more : (a b : ℕ) → (a ≤ b) ⊎ (b + 1 ≤ a)
le_or_more a b = grind arith

length-keys : {X : Type 0} (es : List (Name × X)) → length es ≡ length (map (λ (e : Name × X). e.0) es)
length-keys [] = refl
length-keys (e ∷ es) = ap suc (length-keys es)

module _ (w : World) (roots : List Name) where
  live-among : (c : Name) → is_live w c ≡ true → list_any (eq_by_cmp name_cmp c) (fm.keys w.contexts) ≡ true
  live-among c live = sym (fm.contains_key-keys w.contexts c) ∙ live

  among-live : (c : Name) → list_any (eq_by_cmp name_cmp c) (fm.keys w.contexts) ≡ true → is_live w c ≡ true
  among-live c there = fm.contains_key-keys w.contexts c ∙ there

  -- a name that comes into reach in some rounds is in reach
  way : (k : ℕ) (c : Name) → reached_in w roots k c ≡ true → Reaches w roots c
  way zero c e = Root c e
  way (suc k) c e =
      elim (or_cases (reached_in w roots k c) (list_any (λ d. reached_in w roots k d && links w d c) (fm.keys w.contexts)) e) [
        | inl before ↦ way k c before
        | inr now ↦
            let found = some_name (λ d. reached_in w roots k d && links w d c) (fm.keys w.contexts) now in
            Link found.0 c (way k found.0 (and_left _ _ found.1)) (among-live found.0 found.2) (and_right _ _ found.1)
      ]

  stays : (k : ℕ) (c : Name) → reached_in w roots k c ≡ true → reached_in w roots (suc k) c ≡ true
  stays k c e = or_left _ _ e

  stays_from_first : (k : ℕ) (c : Name) → is_among roots c ≡ true → reached_in w roots k c ≡ true
  stays_from_first zero c e = e
  stays_from_first (suc k) c e = or_left _ _ (stays_from_first k c e)

  -- a round that brings nothing live into reach
  Stable : ℕ → Type 0
  Stable k = (c : Name) → is_live w c ≡ true → reached_in w roots (suc k) c ≡ true → reached_in w roots k c ≡ true

  stable_later : (k : ℕ) → Stable k → Stable (suc k)
  unfolding Stable
  stable_later k stable c live e =
      elim (or_cases (reached_in w roots (suc k) c) (list_any (λ d. reached_in w roots (suc k) d && links w d c) (fm.keys w.contexts)) e) [
        | inl before ↦ before
        | inr now ↦
            let found = some_name (λ d. reached_in w roots (suc k) d && links w d c) (fm.keys w.contexts) now in
            let was = stable found.0 (among-live found.0 found.2) (and_left _ _ found.1) in
            or_right _ _ (any_name (λ d. reached_in w roots k d && links w d c) (fm.keys w.contexts) found.0 (and_both _ _ was (and_right _ _ found.1)) found.2)
      ]

  stable_by_count : (k : ℕ) → count_by (reached_in w roots (suc k)) (fm.keys w.contexts) ≤ count_by (reached_in w roots k) (fm.keys w.contexts) → Stable k
  unfolding Stable
  stable_by_count k few c live e = same_where (reached_in w roots k) (reached_in w roots (suc k)) (fm.keys w.contexts) (stays k) few c (live-among c live) e

  more_or_same : (k : ℕ) → (count_by (reached_in w roots (suc k)) (fm.keys w.contexts) ≤ count_by (reached_in w roots k) (fm.keys w.contexts)) ⊎ (count_by (reached_in w roots k) (fm.keys w.contexts) + 1 ≤ count_by (reached_in w roots (suc k)) (fm.keys w.contexts)) →
      k ≤ count_by (reached_in w roots k) (fm.keys w.contexts) → (suc k ≤ count_by (reached_in w roots (suc k)) (fm.keys w.contexts)) ⊎ Stable (suc k)
  more_or_same k (inl same) many = inr (stable_later k (stable_by_count k same))
  more_or_same k (inr more) many = inl (omega (arith, more, many))

  many_or_stable : (k : ℕ) → (k ≤ count_by (reached_in w roots k) (fm.keys w.contexts)) ⊎ Stable k
  many_or_stable zero = inl (omega arith)
  many_or_stable (suc k) =
      elim (many_or_stable k) [
        | inl many ↦ more_or_same k (le_or_more (count_by (reached_in w roots (suc k)) (fm.keys w.contexts)) (count_by (reached_in w roots k) (fm.keys w.contexts))) many
        | inr stable ↦ inr (stable_later k stable)
      ]

  length_of_keys : fm.len w.contexts ≡ length (fm.keys w.contexts)
  length_of_keys = fm.len-entries w.contexts ∙ length-keys (fm.entries w.contexts)

  -- after as many rounds as there are contexts
  stable_at_last : Stable (fm.len w.contexts)
  unfolding Stable
  stable_at_last =
      elim (many_or_stable (fm.len w.contexts)) [
        | inl many ↦ λ c live e.
            same_where (reached_in w roots (fm.len w.contexts)) (λ (q : Name). true) (fm.keys w.contexts) (λ q p. refl)
            (omega (arith, many, all_pass (fm.keys w.contexts), length_of_keys)) c (live-among c live) refl
        | inr stable ↦ stable
      ]

  pub reached_by_way : (c : Name) → Reaches w roots c → is_live w c ≡ true → is_reached w roots c ≡ true
  unfolding is_reached Stable
  reached_by_way _ (Root c e) live = stays_from_first (fm.len w.contexts) c e
  reached_by_way _ (Link d c there live_d link) live =
      stable_at_last c live (or_right _ _ (any_name (λ q. reached_in w roots (fm.len w.contexts) q && links w q c) (fm.keys w.contexts) d (and_both _ _ (reached_by_way d there live_d) link) (live-among d live_d)))

  pub way_of_reached : (c : Name) → is_reached w roots c ≡ true → Reaches w roots c
  unfolding is_reached
  way_of_reached c e = way (fm.len w.contexts) c e
