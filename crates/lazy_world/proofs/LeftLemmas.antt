-- What is left of a map by tests of the places of its names.
use Rattle.std.proofs.Common.{◌≡◌, ⊎_elim, ℕ, ◌+◌, ◌<◌, List, arith, refl, sym, ap, ◌∙◌, Bool, true, false, cond, eqb, Option, Some, None, get_or}
use Rattle.std.specs.Prelude.{◌&&◌, ◌||◌, nat_le, not}
use Rattle.std.specs.Ordering.{eq_by_cmp}
use Rattle.std.specs.FinMap as fm
use Rattle.std.proofs.lemmas.Bool.{cases_eq}
use Rattle.std.proofs.lemmas.Bool.Decides.{nat_tests}
use Rattle.lwc_types.specs.declared.name.Name.{Name}
use Rattle.lwc_types.specs.Names.{name_cmp}
use Rattle.ctx_table.specs.NameTables.{ArePlaced, NameTable}
use Rattle.reach.specs.Reach.{is_marked}
use Rattle.lazy_world.specs.Reaping.{keeps, left_by, passes}
use Rattle.lwc_base.proofs.Facts.{orders}
use Rattle.lwc_types.proofs.Orders.{name-itself, same_name}
use Rattle.lwc_types.proofs.Small.{alike, same_some}

-- two tests, one after the other
joined : {X : Type 0} (a b c : Bool) (o : Option X) → (a && b) ≡ c → cond b (cond a o None) None ≡ cond c o None
joined true b c o is = ap (λ d. cond d o None) is
joined false true c o is = ap (λ d. cond d o None) is
joined false false c o is = ap (λ d. cond d o None) is

all_pass : {X : Type 0} (b : Bool) (o : Option X) → b ≡ true → o ≡ cond b o None
all_pass true o is = refl
all_pass false o is = cc

-- a place that is passed, by the step that comes to it
step_here : (marks : List Bool) (n p : ℕ) → p ≡ n → ((nat_le n p || is_marked marks p) && passes (is_marked marks n) n (cond (nat_le n p || is_marked marks p) (Some p) None)) ≡ (nat_le (n + 1) p || is_marked marks p)
step_here marks n p same =
    let reached : nat_le n p ≡ true = grind (arith, nat_tests) in
    let passed : nat_le (n + 1) p ≡ false = grind (arith, nat_tests) in
    let here : eqb p n ≡ true = grind (arith, nat_tests) in
    ap (λ b. (b || is_marked marks p) && passes (is_marked marks n) n (cond (b || is_marked marks p) (Some p) None)) reached
    ∙ ap (λ b. is_marked marks n || not b) here
    ∙ or_false (is_marked marks n) ∙ ap (is_marked marks) (sym same)
    ∙ sym (ap (λ b. b || is_marked marks p) passed)
  where
    or_false : (b : Bool) → (b || false) ≡ b
    or_false true = refl
    or_false false = refl

step_there : (marks : List Bool) (n p : ℕ) → (p ≡ n → ⊥) → ((nat_le n p || is_marked marks p) && passes (is_marked marks n) n (cond (nat_le n p || is_marked marks p) (Some p) None)) ≡ (nat_le (n + 1) p || is_marked marks p)
step_there marks n p other =
    let alike : nat_le n p ≡ nat_le (n + 1) p = grind (arith, nat_tests) in
    let elsewhere : eqb p n ≡ false = grind (arith, nat_tests) in
    both (nat_le n p || is_marked marks p) elsewhere ∙ ap (λ b. b || is_marked marks p) alike
  where
    or_true : (b : Bool) → (b || true) ≡ true
    or_true true = refl
    or_true false = refl

    both : (b : Bool) → eqb p n ≡ false → (b && passes (is_marked marks n) n (cond b (Some p) None)) ≡ b
    both true elsewhere = ap (λ b. is_marked marks n || not b) elsewhere ∙ or_true (is_marked marks n)
    both false elsewhere = refl

pub keeps-more : (marks : List Bool) (n : ℕ) (o : Option ℕ) → (keeps marks n o && passes (is_marked marks n) n (cond (keeps marks n o) o None)) ≡ keeps marks (n + 1) o
keeps-more marks n None = refl
keeps-more marks n (Some p) = ⊎_elim (step_here marks n p) (step_there marks n p) (cases_eq p n)

pub keeps-first : (marks : List Bool) (o : Option ℕ) → keeps marks 0 o ≡ true
keeps-first marks None = refl
keeps-first marks (Some p) = let low : nat_le 0 p ≡ true = grind (arith, nat_tests) in ap (λ b. b || is_marked marks p) low

-- once all places are passed, the marks decide
pub keeps-all : (marks : List Bool) (n p : ℕ) → p < n → keeps marks n (Some p) ≡ is_marked marks p
keeps-all marks n p within = let passed : nat_le n p ≡ false = grind (arith, nat_tests) in ap (λ b. b || is_marked marks p) passed

passes-all : (i : ℕ) (o : Option ℕ) → passes true i o ≡ true
passes-all i None = refl
passes-all i (Some p) = refl

pub get-left_by : {X : Type 0} (places : fm.FinMap name_cmp ℕ) (test : Option ℕ → Bool) (m : fm.FinMap name_cmp X) (c : Name) →
    fm.get (left_by places test m) c ≡ cond (test (fm.get places c)) (fm.get m c) None
unfolding left_by
get-left_by places test m c = fm.get-retain_keys m (λ d. test (fm.get places d)) c (alike (λ d. test (fm.get places d)) c)

-- what is left was there
pub left-found : {X : Type 0} (places : fm.FinMap name_cmp ℕ) (test : Option ℕ → Bool) (m : fm.FinMap name_cmp X) (c : Name) (x : X) → fm.get (left_by places test m) c ≡ Some x → fm.get m c ≡ Some x
left-found {X} places test m c x is = at (test (fm.get places c)) (sym (get-left_by places test m c) ∙ is)
  where
    at : (b : Bool) → cond b (fm.get m c) None ≡ Some x → fm.get m c ≡ Some x
    at true there = there
    at false there = absurd (let none = there in cc)

-- a test that all names pass leaves all
pub left_by-same : {X : Type 0} (places : fm.FinMap name_cmp ℕ) (test : Option ℕ → Bool) (m : fm.FinMap name_cmp X) →
    ((c : Name) → test (fm.get places c) ≡ true) → m ≡ left_by places test m
left_by-same places test m passed =
    fm.same_map orders.names orders.one_name _ _ (λ c. all_pass (test (fm.get places c)) (fm.get m c) (passed c) ∙ sym (get-left_by places test m c))

-- what stays at a place leaves all
pub left_by-stays : {X : Type 0} (places : fm.FinMap name_cmp ℕ) (i : ℕ) (stays : Bool) → stays ≡ true → (m : fm.FinMap name_cmp X) → m ≡ left_by places (passes stays i) m
left_by-stays places i stays is m = left_by-same places (passes stays i) m (λ c. ap (λ b. passes b i (fm.get places c)) is ∙ passes-all i (fm.get places c))

-- nothing is left of nothing
pub nothing_left : {X : Type 0} (m : fm.FinMap name_cmp X) (kept : Name → Bool) → fm.len m ≡ 0 → m ≡ fm.retain_keys m kept
nothing_left {X} m kept none =
    let empty : m ≡ fm.empty = fm.empty_of_len m none in
    fm.same_map orders.names orders.one_name _ _
    (λ c.
    let missed : fm.get m c ≡ None = ap (λ n. fm.get n c) empty ∙ fm.get-empty name_cmp c in
    missed ∙ sym (nowhere (kept c)) ∙ ap (λ o. cond (kept c) o None) (sym missed) ∙ sym (fm.get-retain_keys m kept c (alike kept c)))
  where
    nowhere : (b : Bool) → cond {A = Option X} b None None ≡ None
    nowhere true = refl
    nowhere false = refl

-- a test that each name there passes leaves all
pub nothing_lost : {X : Type 0} (m : fm.FinMap name_cmp X) (kept : Name → Bool) → ((c : Name) (x : X) → fm.get m c ≡ Some x → kept c ≡ true) → m ≡ fm.retain_keys m kept
nothing_lost {X} m kept all =
    fm.same_map orders.names orders.one_name _ _ (λ c. by c (fm.get m c) refl ∙ sym (fm.get-retain_keys m kept c (alike kept c)))
  where
    nowhere : (b : Bool) → cond {A = Option X} b None None ≡ None
    nowhere true = refl
    nowhere false = refl

    by : (c : Name) (o : Option X) → fm.get m c ≡ o → fm.get m c ≡ cond (kept c) (fm.get m c) None
    by c None none = none ∙ sym (nowhere (kept c)) ∙ ap (λ o. cond (kept c) o None) (sym none)
    by c (Some x) there = all_pass (kept c) (fm.get m c) (all c x there)

-- what two tests leave, the second of the places that are left
pub left_by-more : {X : Type 0} (places next : fm.FinMap name_cmp ℕ) (first second both : Option ℕ → Bool) (m : fm.FinMap name_cmp X) →
    next ≡ left_by places first places → ((o : Option ℕ) → (first o && second (cond (first o) o None)) ≡ both o) →
    left_by next second (left_by places first m) ≡ left_by places both m
left_by-more places next first second both m is tests =
    fm.same_map orders.names orders.one_name _ _
    (λ c.
    let o = fm.get places c in
    get-left_by next second (left_by places first m) c
    ∙ ap (λ n. cond (second (fm.get n c)) (fm.get (left_by places first m) c) None) is
    ∙ ap (λ p. cond (second p) (fm.get (left_by places first m) c) None) (get-left_by places first places c)
    ∙ ap (cond (second (cond (first o) o None)) (fm.get (left_by places first m) c)) refl
    ∙ ap (λ x. cond (second (cond (first o) o None)) x None) (get-left_by places first m c)
    ∙ joined (first o) (second (cond (first o) o None)) (both o) (fm.get m c) (tests o)
    ∙ sym (get-left_by places both m c))

-- a test of places that says the same as one of names
pub left_by-test : {X : Type 0} (places : fm.FinMap name_cmp ℕ) (test : Option ℕ → Bool) (kept : Name → Bool) (m : fm.FinMap name_cmp X) →
    ((c : Name) (x : X) → fm.get m c ≡ Some x → test (fm.get places c) ≡ kept c) → left_by places test m ≡ fm.retain_keys m kept
left_by-test {X} places test kept m same =
    fm.same_map orders.names orders.one_name _ _
    (λ c. get-left_by places test m c ∙ each c (fm.get m c) refl ∙ sym (fm.get-retain_keys m kept c (alike kept c)))
  where
    nothing : (a b : Bool) → cond a None None ≡ cond {A = Option X} b None None
    nothing true true = refl
    nothing true false = refl
    nothing false true = refl
    nothing false false = refl

    each : (c : Name) (o : Option X) → fm.get m c ≡ o → cond (test (fm.get places c)) o None ≡ cond (kept c) o None
    each c None is = nothing (test (fm.get places c)) (kept c)
    each c (Some x) is = ap (λ b. cond b (Some x) None) (same c x is)

module _ (table : NameTable) (placed : ArePlaced table) (i : ℕ) (stays : Bool) (goes : stays ≡ false) where
  gone : (p : ℕ) → passes stays i (Some p) ≡ not (eqb p i)
  gone p = ap (λ b. b || not (eqb p i)) goes

  place_differs : (c : Name) (p : ℕ) → fm.get table.map c ≡ Some p → (p ≡ i → ⊥) → passes stays i (fm.get table.map c) ≡ true
  place_differs c p is other = let differ : eqb p i ≡ false = grind (arith, nat_tests) in ap (passes stays i) is ∙ gone p ∙ ap not differ

  -- no name is at the place
  pub left_by-nothing : {X : Type 0} (m : fm.FinMap name_cmp X) → get_or table.places i None ≡ None → m ≡ left_by table.map (passes stays i) m
  left_by-nothing m none = left_by-same table.map (passes stays i) m (λ c. each c (fm.get table.map c) refl)
    where
      each : (c : Name) (o : Option ℕ) → fm.get table.map c ≡ o → passes stays i (fm.get table.map c) ≡ true
      each c None is = ap (passes stays i) is
      each c (Some p) is =
          place_differs c p is (λ same. let both = sym ((placed.at c p).0 is) ∙ ap (λ q. get_or table.places q None) same ∙ none in cc)

  -- a name is at the place
  pub left_by-removed : {X : Type 0} (m : fm.FinMap name_cmp X) (d : Name) → get_or table.places i None ≡ Some d → fm.remove m d ≡ left_by table.map (passes stays i) m
  left_by-removed {X} m d named =
      fm.same_map orders.names orders.one_name _ _
      (λ c. fm.get-remove orders.names m d c ∙ turned (eq_by_cmp name_cmp c d) (passes stays i (fm.get table.map c)) (fm.get m c) (decides c) ∙ sym (get-left_by table.map (passes stays i) m c))
    where
      turned : (a b : Bool) (o : Option X) → b ≡ not a → cond a None o ≡ cond b o None
      turned true b o is = sym (ap (λ x. cond x o None) is)
      turned false b o is = sym (ap (λ x. cond x o None) is)

      decides : (c : Name) → passes stays i (fm.get table.map c) ≡ not (eq_by_cmp name_cmp c d)
      decides c = at (eq_by_cmp name_cmp c d) refl (fm.get table.map c) refl
        where
          at : (b : Bool) → eq_by_cmp name_cmp c d ≡ b → (o : Option ℕ) → fm.get table.map c ≡ o → passes stays i (fm.get table.map c) ≡ not b
          at true tied o is =
              let same : c ≡ d = same_name c d tied in
              let here : eqb i i ≡ true = grind (arith, nat_tests) in
              ap (λ n. passes stays i (fm.get table.map n)) same ∙ ap (passes stays i) ((placed.at d i).1 named) ∙ gone i ∙ ap not here
          at false differ None is = ap (passes stays i) is
          at false differ (Some p) is =
              place_differs c p is
              (λ here.
              let same : c ≡ d = same_some c d (sym ((placed.at c p).0 is) ∙ ap (λ q. get_or table.places q None) here ∙ named) in
              let itself : eq_by_cmp name_cmp c d ≡ true = ap (eq_by_cmp name_cmp c) (sym same) ∙ name-itself c in
              let both = sym differ ∙ itself in cc)
