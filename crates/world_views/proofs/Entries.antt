-- Sums over a table: what the entries of one job weigh, where the others weigh nothing.
use Rattle.std.proofs.Common.{◌≡◌, ◌≢◌, ◌⊎◌, inl, inr, ℕ, ◌+◌, ◌≤◌, refl, sym, ap, subst, ◌∙◌, Bool, true, false, cond, eqb, ◌&&◌, Option, Some, None, List, [], ◌∷◌, map, arith}
use Rattle.std.proofs.lemmas.Bool.{eqb-true}
use Rattle.std.proofs.lemmas.Cmp.{tied_itself}
use Rattle.std.proofs.lemmas.List.Sums.{sum_by-append, sum_by-cons}
use Rattle.std.specs.Prelude.{T, count_by, unwrap_or}
use Rattle.std.specs.List.{AllByRecursion, flat_map, sum_by}
use Rattle.std.specs.Option.{option_map}
use Rattle.std.specs.Ordering.{eq_by_cmp, is_eq, is_lt}
use Rattle.std.specs.FinMap as fm
use Rattle.std.specs.FinMap.Entries.{below_all, find, find-where_key, is_sorted, is_sorted-where_key, same_entries, where_key}
use Rattle.lwc_base.proofs.Facts.{orders}
use Rattle.lwc_base.proofs.Reaped.{none_below}
use Rattle.lwc_types.specs.Names.{name_cmp}
use Rattle.lwc_types.specs.declared.name.Name.{Name}
use Rattle.lwc_types.proofs.Orders.{same_name}
use Rattle.world_views.proofs.JobTables.{at}

-- whether a name is of a job
abbrev pub of_job : ℕ → Name → Bool
of_job job q = eqb q.job job

tail_of : (a b : Bool) → T (a && b) → T b
tail_of true b h = h
tail_of false b h = absurd h

head_of : (a b : Bool) → T (a && b) → T a
head_of true b h = tt
head_of false b h = absurd h

-- a count over lists in a row is the sum of their counts
pub count-flat_map : {X Y : Type 0} (test : Y → Bool) (h : X → List Y) (xs : List X) → count_by test (flat_map h xs) ≡ sum_by (λ x. count_by test (h x)) xs
count-flat_map test h [] = refl
count-flat_map test h (x ∷ xs) =
    sum_by-append (λ y. cond (test y) 1 0) (h x) (flat_map h xs) ∙ ap (λ n. count_by test (h x) + n) (count-flat_map test h xs)
    ∙ sym (sum_by-cons (λ x. count_by test (h x)) x xs)

module _ {X : Type 0} where
  -- what holds of each value that is found holds of each entry
  each_in : (P : Name → X → Type 0) (es : List (Name × X)) → T (is_sorted name_cmp es) → ((q : Name) (x : X) → find name_cmp q es ≡ Some x → P q x) →
      AllByRecursion (λ e. P e.0 e.1) es
  each_in P [] sorted all = tt
  each_in P (e ∷ es) sorted all = (
    all e.0 e.1 (ap (λ o. cond (is_eq o) (Some e.1) (find name_cmp e.0 es)) (tied_itself orders.names e.0)),
    each_in P es (tail_of _ _ sorted) (λ q x is. later q x (eq_by_cmp name_cmp q e.0) refl is),
  )
    where
      later : (q : Name) (x : X) (b : Bool) → eq_by_cmp name_cmp q e.0 ≡ b → find name_cmp q es ≡ Some x → P q x
      later q x true same is = let none = ap (λ n. find name_cmp n es) (same_name q e.0 same) ∙ none_below e.0 es (head_of _ _ sorted) in cc
      later q x false other is = all q x (ap (λ b. cond b (Some e.1) (find name_cmp q es)) other ∙ is)

  pub each_entry : (P : Name → X → Type 0) (m : fm.FinMap name_cmp X) → ((q : Name) (x : X) → fm.get m q ≡ Some x → P q x) →
      AllByRecursion (λ e. P e.0 e.1) (fm.entries m)
  each_entry P m all = each_in P (fm.entries m) (fm.entries_sorted m) (λ q x is. all q x (fm.get-entries m q ∙ is))

  -- entries with what they weigh in place of their values
  abbrev weighed : (X → ℕ) → List (Name × X) → List (Name × ℕ)
  weighed W es = map (λ e. (e.0, W e.1)) es

  below_all-weighed : (W : X → ℕ) (q : Name) (es : List (Name × X)) → below_all name_cmp q (weighed W es) ≡ below_all name_cmp q es
  below_all-weighed W q [] = refl
  below_all-weighed W q (e ∷ es) = ap (λ b. is_lt (name_cmp q e.0) && b) (below_all-weighed W q es)

  is_sorted-weighed : (W : X → ℕ) (es : List (Name × X)) → is_sorted name_cmp (weighed W es) ≡ is_sorted name_cmp es
  is_sorted-weighed W [] = refl
  is_sorted-weighed W (e ∷ es) = λ i. below_all-weighed W e.0 es i && is_sorted-weighed W es i

  map_either : (W : X → ℕ) (b : Bool) (o p : Option X) → cond b (option_map W o) (option_map W p) ≡ option_map W (cond b o p)
  map_either W true o p = refl
  map_either W false o p = refl

  find-weighed : (W : X → ℕ) (q : Name) (es : List (Name × X)) → find name_cmp q (weighed W es) ≡ option_map W (find name_cmp q es)
  find-weighed W q [] = refl
  find-weighed W q (e ∷ es) = ap (cond (eq_by_cmp name_cmp q e.0) (Some (W e.1))) (find-weighed W q es) ∙ map_either W (eq_by_cmp name_cmp q e.0) (Some e.1) (find name_cmp q es)

  -- what the entries of a job weigh, in order
  abbrev pub job_weights : ℕ → (X → ℕ) → fm.FinMap name_cmp X → List (Name × ℕ)
  job_weights job W m = weighed W (where_key name_cmp (of_job job) (fm.entries m))

  found_of_job : (job : ℕ) (W : X → ℕ) (m : fm.FinMap name_cmp X) (q : Name) → find name_cmp q (job_weights job W m) ≡ cond (of_job job q) (option_map W (fm.get m q)) None
  found_of_job job W m q =
      find-weighed W q (where_key name_cmp (of_job job) (fm.entries m))
      ∙ ap (option_map W) (find-where_key name_cmp (of_job job) q (λ x tie. ap (of_job job) (sym (orders.one_name q x tie))) (fm.entries m))
      ∙ sym (map_either W (of_job job q) (find name_cmp q (fm.entries m)) None)
      ∙ ap (λ o. cond (of_job job q) (option_map W o) None) (sym (fm.get-entries m q))

  sorted_of_job : (job : ℕ) (W : X → ℕ) (m : fm.FinMap name_cmp X) → T (is_sorted name_cmp (job_weights job W m))
  sorted_of_job job W m =
      subst T (sym (is_sorted-weighed W (where_key name_cmp (of_job job) (fm.entries m)))) (is_sorted-where_key name_cmp (of_job job) (fm.entries m) (fm.entries_sorted m))

  -- they are the same in two tables where each of them weighs the same
  pub same_weights : (job : ℕ) (W V : X → ℕ) (m n : fm.FinMap name_cmp X) → ((k : ℕ) → option_map W (fm.get m (at job k)) ≡ option_map V (fm.get n (at job k))) →
      job_weights job W m ≡ job_weights job V n
  same_weights job W V m n same =
      same_entries name_cmp orders.names orders.one_name _ _ (sorted_of_job job W m) (sorted_of_job job V n)
      (λ q. found_of_job job W m q ∙ in_job q (of_job job q) refl ∙ sym (found_of_job job V n q))
    where
      in_job : (q : Name) (b : Bool) → of_job job q ≡ b → cond b (option_map W (fm.get m q)) None ≡ cond b (option_map V (fm.get n q)) None
      in_job q true own = subst (λ j. option_map W (fm.get m (at j q.k)) ≡ option_map V (fm.get n (at j q.k))) (sym (eqb-true q.job job own)) (same q.k)
      in_job q false other = refl

  -- a sum over a table is one over the entries of a job, where the others weigh nothing
  sum_in : (job : ℕ) (W : X → ℕ) (es : List (Name × X)) → AllByRecursion (λ e. of_job job e.0 ≡ false → W e.1 ≡ 0) es →
      sum_by (λ e. W e.1) es ≡ sum_by (λ e. e.1) (weighed W (where_key name_cmp (of_job job) es))
  sum_in job W [] others = refl
  sum_in job W (e ∷ es) others =
      sum_by-cons (λ (f : Name × X). W f.1) e es ∙ ap (λ n. W e.1 + n) (sum_in job W es others.1) ∙ of_first (of_job job e.0) refl
    where
      of_first : (b : Bool) → of_job job e.0 ≡ b → W e.1 + sum_by (λ f. f.1) (weighed W (where_key name_cmp (of_job job) es))
          ≡ sum_by (λ f. f.1) (weighed W (cond b (e ∷ where_key name_cmp (of_job job) es) (where_key name_cmp (of_job job) es)))
      of_first true own = sym (sum_by-cons (λ (f : Name × ℕ). f.1) (e.0, W e.1) (weighed W (where_key name_cmp (of_job job) es)))
      of_first false other = let none = others.0 other in omega (arith, none)

  pub sum_of_job : (job : ℕ) (W : X → ℕ) (m : fm.FinMap name_cmp X) → ((q : Name) (x : X) → fm.get m q ≡ Some x → of_job job q ≡ false → W x ≡ 0) →
      sum_by (λ e. W e.1) (fm.entries m) ≡ sum_by (λ e. e.1) (job_weights job W m)
  sum_of_job job W m others = sum_in job W (fm.entries m) (each_entry (λ q x. of_job job q ≡ false → W x ≡ 0) m others)

  -- how many names are of a job
  keys_in : (job : ℕ) (es : List (Name × X)) → count_by (of_job job) (map (λ (e : Name × X). e.0) es) ≡ sum_by (λ e. e.1) (weighed (λ x. 1) (where_key name_cmp (of_job job) es))
  keys_in job [] = refl
  keys_in job (e ∷ es) =
      sum_by-cons (λ (q : Name). cond (of_job job q) 1 0) e.0 (map (λ (f : Name × X). f.0) es) ∙ ap (λ n. cond (of_job job e.0) 1 0 + n) (keys_in job es) ∙ of_first (of_job job e.0)
    where
      of_first : (b : Bool) → cond b 1 0 + sum_by (λ f. f.1) (weighed (λ x. 1) (where_key name_cmp (of_job job) es))
          ≡ sum_by (λ f. f.1) (weighed (λ x. 1) (cond b (e ∷ where_key name_cmp (of_job job) es) (where_key name_cmp (of_job job) es)))
      of_first true = sym (sum_by-cons (λ (f : Name × ℕ). f.1) (e.0, 1) (weighed (λ x. 1) (where_key name_cmp (of_job job) es)))
      of_first false = omega arith

  pub keys_of_job : (job : ℕ) (m n : fm.FinMap name_cmp X) → ((k : ℕ) → option_map {U = ℕ} (λ x. 1) (fm.get m (at job k)) ≡ option_map {U = ℕ} (λ x. 1) (fm.get n (at job k))) →
      count_by (of_job job) (fm.keys m) ≡ count_by (of_job job) (fm.keys n)
  keys_of_job job m n same =
      keys_in job (fm.entries m) ∙ ap (λ (es : List (Name × ℕ)). sum_by (λ e. e.1) es) (same_weights job (λ x. 1) (λ x. 1) m n same) ∙ sym (keys_in job (fm.entries n))

  -- an entry that weighs something
  here_or_later : (q : Name) (x : X) (e : Name × X) (es : List (Name × X)) (b : Bool) → eq_by_cmp name_cmp q e.0 ≡ b → cond b (Some e.1) (find name_cmp q es) ≡ Some x →
      ((q ≡ e.0) × (e.1 ≡ x)) ⊎ (find name_cmp q es ≡ Some x)
  here_or_later q x e es true same is = inl (same_name q e.0 same, ap (λ o. unwrap_or o x) is)
  here_or_later q x e es false other is = inr is

  one_in : (W : X → ℕ) (q : Name) (x : X) (es : List (Name × X)) → find name_cmp q es ≡ Some x → 1 ≤ W x → 1 ≤ sum_by (λ e. W e.1) es
  one_in W q x [] is one = cc
  one_in W q x (e ∷ es) is one =
      let split = sum_by-cons (λ (f : Name × X). W f.1) e es in
      elim (here_or_later q x e es _ refl is) [
        | inl here ↦ let more : 1 ≤ W e.1 = subst (λ y. 1 ≤ W y) (sym here.1) one in omega (arith, more, split)
        | inr later ↦ let rest = one_in W q x es later one in omega (arith, rest, split)
      ]

  two_in : (W : X → ℕ) (q r : Name) (x y : X) (es : List (Name × X)) → q ≢ r → find name_cmp q es ≡ Some x → find name_cmp r es ≡ Some y → 1 ≤ W x → 1 ≤ W y →
      2 ≤ sum_by (λ e. W e.1) es
  two_in W q r x y [] apart is_x is_y one_x one_y = cc
  two_in W q r x y (e ∷ es) apart is_x is_y one_x one_y =
      let split = sum_by-cons (λ (f : Name × X). W f.1) e es in
      elim (here_or_later q x e es _ refl is_x) [
        | inl first ↦
            let more : 1 ≤ W e.1 = subst (λ z. 1 ≤ W z) (sym first.1) one_x in
            elim (here_or_later r y e es _ refl is_y) [
              | inl second ↦ absurd (apart (first.0 ∙ sym second.0))
              | inr later ↦ let rest = one_in W r y es later one_y in omega (arith, more, rest, split)
            ]
        | inr later_x ↦ elim (here_or_later r y e es _ refl is_y) [
          | inl second ↦
              let more : 1 ≤ W e.1 = subst (λ z. 1 ≤ W z) (sym second.1) one_y in
              let rest = one_in W q x es later_x one_x in omega (arith, more, rest, split)
          | inr later_y ↦ let rest = two_in W q r x y es apart later_x later_y one_x one_y in omega (arith, rest, split)
        ]
      ]

  pub one_weighs : (W : X → ℕ) (m : fm.FinMap name_cmp X) (q : Name) (x : X) → fm.get m q ≡ Some x → 1 ≤ W x → 1 ≤ sum_by (λ e. W e.1) (fm.entries m)
  one_weighs W m q x is one = one_in W q x (fm.entries m) (sym (fm.get-entries m q) ∙ is) one

  pub two_weigh : (W : X → ℕ) (m : fm.FinMap name_cmp X) (q r : Name) (x y : X) → q ≢ r → fm.get m q ≡ Some x → fm.get m r ≡ Some y → 1 ≤ W x → 1 ≤ W y →
      2 ≤ sum_by (λ e. W e.1) (fm.entries m)
  two_weigh W m q r x y apart is_x is_y one_x one_y =
      two_in W q r x y (fm.entries m) apart (sym (fm.get-entries m q) ∙ is_x) (sym (fm.get-entries m r) ∙ is_y) one_x one_y
