-- A sharing and a clone, key by key: what a context and a group have once some keys are done.
use Rattle.std.proofs.Common.{◌≡◌, ℕ, ◌+◌, ◌<◌, ◌≤◌, arith, refl, sym, ap, ◌∙◌, Bool, true, false, cond, eqb, ltb, List, Some, None, ⊎_elim}
use Rattle.std.specs.Prelude.{if◌then◌else◌, nat_lt}
use Rattle.std.proofs.lemmas.Bool.{cases_lt}
use Rattle.std.proofs.lemmas.Bool.Decides.{nat_tests}
use Rattle.lwc_base.specs.declared.cell.Cell.{Cell}
use Rattle.lwc_base.specs.declared.cell.Cell.TheVariants.{Own, Common}
use Rattle.lwc_base.specs.declared.item.Item.{Item}
use Rattle.lwc_base.specs.declared.item.Mode.{Mode}
use Rattle.lwc_base.specs.declared.item.Mode.TheVariants.{Copy, CopyRead, Share, Unmap}
use Rattle.lwc_base.specs.Cells.{with_cell, with_value}
use Rattle.lwc_base.specs.Keys.{ValueOf, nothing, with_key}
use Rattle.lwc_base.specs.Modes.{IsSpec, kind_of, limit, mode_or_copy, number_of}
use Rattle.lwc_base.specs.Sharing.{shared_cell, with_shared, moved_values, is_moved, moved_value}
use Rattle.lwc_base.specs.World.{Context, Group, new_group}
use Rattle.lwc_types.specs.declared.key.TheConstants.{SLOTS}
use Rattle.lwc_types.specs.declared.key.Key.{Key}
use Rattle.lwc_types.specs.declared.key.Key.TheVariants.{Page, Slot, Cred}
use Rattle.lwc_types.specs.declared.key.Kind.{Kind}
use Rattle.lwc_types.specs.declared.key.Kind.TheVariants as kind
use Rattle.lwc_types.specs.declared.name.Name.{Name}
use Rattle.whole_world.specs.Sharing.{gave, is_below, key_of, took, with_cells}
use Rattle.whole_world.proofs.Unnamed.{copied_past}

-- a context that gives a group the value under a key, if it moves
abbrev pub gives : Name → Mode → Key → Context → Context
gives g mode k x = if is_moved mode k (x.cell k) then with_cell k (Common g) x else x

-- a group that takes the value of a cell under a key, if it moves
abbrev pub takes : Mode → (k : Key) → Cell (ValueOf k) → Group → Group
takes mode k cell h = if is_moved mode k cell then with_value k (moved_value mode k cell) h else h

at_next : {A : Type 0} (f old : ℕ → A) (n p : ℕ) → cond (eqb p n) (f n) (cond (ltb p n) (f p) (old p)) ≡ cond (ltb p (n + 1)) (f p) (old p)
at_next f old n p = grind (arith, nat_tests)

past_next : {A : Type 0} (f old : ℕ → A) (n p : ℕ) → f n ≡ old n → cond (ltb p n) (f p) (old p) ≡ cond (ltb p (n + 1)) (f p) (old p)
past_next f old n p same = grind (arith, nat_tests)

below_next : (n : ℕ) → true ≡ ltb 0 (n + 1)
below_next n = grind (arith, nat_tests)

same_whether : {A : Type 0} (a b : Bool) (x y : A) → x ≡ y → cond a x y ≡ cond b x y
same_whether true true x y same = refl
same_whether true false x y same = same
same_whether false true x y same = sym same
same_whether false false x y same = refl

-- the next key of a kind is put
with_key-next : (F : Type 0 → Type 0) (kind : Kind) (n : ℕ) (f old : (q : Key) → F (ValueOf q)) (q : Key) →
    with_key F (key_of kind n) (f (key_of kind n)) (λ k. cond (is_below kind n k) (f k) (old k)) q ≡ cond (is_below kind (n + 1) q) (f q) (old q)
with_key-next F kind.Page n f old (Page p) = at_next (λ r. f (Page r)) (λ r. old (Page r)) n p
with_key-next F kind.Slot n f old (Slot m) = at_next (λ r. f (Slot r)) (λ r. old (Slot r)) n m
with_key-next F kind.Cred n f old Cred = ap (λ b. cond b (f Cred) (old Cred)) (below_next n)
with_key-next F kind.Page n f old q = refl
with_key-next F kind.Slot n f old q = refl
with_key-next F kind.Cred n f old q = refl

-- or it need not be
with_key-kept : (F : Type 0 → Type 0) (kind : Kind) (n : ℕ) (f old : (q : Key) → F (ValueOf q)) (q : Key) → f (key_of kind n) ≡ old (key_of kind n) →
    cond (is_below kind n q) (f q) (old q) ≡ cond (is_below kind (n + 1) q) (f q) (old q)
with_key-kept F kind.Page n f old (Page p) same = past_next (λ r. f (Page r)) (λ r. old (Page r)) n p same
with_key-kept F kind.Slot n f old (Slot m) same = past_next (λ r. f (Slot r)) (λ r. old (Slot r)) n m same
with_key-kept F kind.Cred n f old Cred same = same_whether _ _ (f Cred) (old Cred) same
with_key-kept F kind.Page n f old q same = refl
with_key-kept F kind.Slot n f old q same = refl
with_key-kept F kind.Cred n f old q same = refl

-- one key more has its cell
pub with_cells-next : (kind : Kind) (n : ℕ) (cells : (k : Key) → Cell (ValueOf k)) (x y z : Context) → y ≡ with_cells (is_below kind n) cells x →
    z ≡ with_cell (key_of kind n) (cells (key_of kind n)) y → z ≡ with_cells (is_below kind (n + 1)) cells x
with_cells-next kind n cells x y z before put =
    put ∙ ap (with_cell (key_of kind n) (cells (key_of kind n))) before
    ∙ (λ i. record x { cell = λ k. with_key-next Cell kind n cells x.cell k i })

-- what holds below the limit of each kind holds of all keys, where it does past it
pub in_all : {A : Type 0} (pages : ℕ) (k : Key) (after old : A) → (limit pages (kind_of k) ≤ number_of k → after ≡ old) →
    cond (nat_lt (number_of k) (limit pages (kind_of k))) after old ≡ after
in_all pages k after old same =
    ⊎_elim (λ (h : number_of k < limit pages (kind_of k)). ap (λ b. cond b after old) (below (limit pages (kind_of k)) (number_of k) h))
    (λ (h : limit pages (kind_of k) ≤ number_of k). same_whether (nat_lt (number_of k) (limit pages (kind_of k))) true after old (same h))
    (cases_lt (number_of k) (limit pages (kind_of k)))
  where
    below : (n p : ℕ) → p < n → nat_lt p n ≡ true
    below n p within = grind (arith, nat_tests)

-- first the pages, then the slots, then the credential
pub with_cells-all : (pages : ℕ) (cells : (k : Key) → Cell (ValueOf k)) (x : Context) → ((k : Key) → limit pages (kind_of k) ≤ number_of k → cells k ≡ x.cell k) →
    with_cells (is_below kind.Cred 1) cells (with_cells (is_below kind.Slot SLOTS) cells (with_cells (is_below kind.Page pages) cells x)) ≡ record x { cell = cells }
with_cells-all pages cells x past =
    let f : (k : Key) → Cell (ValueOf k) =
    (with_cells (is_below kind.Cred 1) cells (with_cells (is_below kind.Slot SLOTS) cells (with_cells (is_below kind.Page pages) cells x))).cell in
    let at : (k : Key) → f k ≡ cells k =
    λ k. elim k as (λ k. f k ≡ cells k) [
      | Page p ↦ in_all pages (Page p) _ _ (past (Page p))
      | Slot n ↦ in_all pages (Slot n) _ _ (past (Slot n))
      | Cred ↦ refl
    ] in
    λ i. record x { cell = λ k. at k i }

-- nothing is done yet
pub with_cells-none : (cells : (k : Key) → Cell (ValueOf k)) (x : Context) → x ≡ with_cells (is_below kind.Cred 0) cells x
with_cells-none cells x =
    let at : (k : Key) → x.cell k ≡ (with_cells (is_below kind.Cred 0) cells x).cell k =
    λ k. elim k as (λ k. x.cell k ≡ (with_cells (is_below kind.Cred 0) cells x).cell k) [ Page p ↦ refl | Slot n ↦ refl | Cred ↦ refl ] in
    λ i. record x { cell = λ k. at k i }

module _ (kind : Kind) (n : ℕ) (items : List Item) where
  abbrev here : Key
  here = key_of kind n

  abbrev mode_here : Mode
  mode_here = mode_or_copy items here

  given_on : (g : Name) (x : Context) (b : Bool) → is_moved mode_here here (x.cell here) ≡ b →
      cond b (with_cell here (Common g) (gave (is_below kind n) g items x)) (gave (is_below kind n) g items x) ≡ gave (is_below kind (n + 1)) g items x
  given_on g x true is =
      let f : (k : Key) → Cell (ValueOf k) = λ k. shared_cell g (mode_or_copy items k) k (x.cell k) in
      λ i. record x {
        cell = λ k.
            (ap (λ cell. with_key Cell here cell (λ q. cond (is_below kind n q) (f q) (x.cell q)) k) (sym (ap (λ b. cond b (Common g) (x.cell here)) is))
            ∙ with_key-next Cell kind n f x.cell k) i;
      }
  given_on g x false is =
      let f : (k : Key) → Cell (ValueOf k) = λ k. shared_cell g (mode_or_copy items k) k (x.cell k) in
      λ i. record x { cell = λ k. with_key-kept Cell kind n f x.cell k (ap (λ b. cond b (Common g) (x.cell here)) is) i }

  taken_on : (x : Context) (h : Group) (b : Bool) → is_moved mode_here here (x.cell here) ≡ b →
      cond b (with_value here (moved_value mode_here here (x.cell here)) (took (is_below kind n) items x h)) (took (is_below kind n) items x h) ≡ took (is_below kind (n + 1)) items x h
  taken_on x h true is =
      let f : (k : Key) → ValueOf k = λ k. cond (is_moved (mode_or_copy items k) k (x.cell k)) (moved_value (mode_or_copy items k) k (x.cell k)) (h.value k) in
      λ i. record {
        value = λ k.
            (ap (λ value. with_key (λ T. T) here value (λ q. cond (is_below kind n q) (f q) (h.value q)) k) (sym (ap (λ b. cond b (moved_value mode_here here (x.cell here)) (h.value here)) is))
            ∙ with_key-next (λ T. T) kind n f h.value k) i;
      }
  taken_on x h false is =
      let f : (k : Key) → ValueOf k = λ k. cond (is_moved (mode_or_copy items k) k (x.cell k)) (moved_value (mode_or_copy items k) k (x.cell k)) (h.value k) in
      λ i. record { value = λ k. with_key-kept (λ T. T) kind n f h.value k (ap (λ b. cond b (moved_value mode_here here (x.cell here)) (h.value here)) is) i }

  -- one key more has moved
  module _ (g : Name) (mode : Mode) (x y : Context) (start h : Group) (new : is_below kind n here ≡ false)
      (gave_before : y ≡ gave (is_below kind n) g items x) (took_before : h ≡ took (is_below kind n) items x start) (mode_is : mode ≡ mode_here) where
    cell_is : y.cell here ≡ x.cell here
    cell_is = ap (λ (z : Context). z.cell here) gave_before ∙ ap (λ b. cond b (shared_cell g mode_here here (x.cell here)) (x.cell here)) new

    pub context_gives : (z : Context) → z ≡ gives g mode here y → z ≡ gave (is_below kind (n + 1)) g items x
    context_gives z given =
        given ∙ (λ i. cond (is_moved (mode_is i) here (cell_is i)) (with_cell here (Common g) (gave_before i)) (gave_before i)) ∙ given_on g x _ refl

    pub group_takes : (j : Group) → j ≡ takes mode here (y.cell here) h → j ≡ took (is_below kind (n + 1)) items x start
    group_takes j taken =
        taken ∙ (λ i. cond (is_moved (mode_is i) here (cell_is i)) (with_value here (moved_value (mode_is i) here (cell_is i)) (took_before i)) (took_before i)) ∙ taken_on x start _ refl

pub not_below : (n : ℕ) → nat_lt n n ≡ false
not_below n = grind (arith, nat_tests)

moved_or_nothing : (mode : Mode) (k : Key) (cell : Cell (ValueOf k)) → cond (is_moved mode k cell) (moved_value mode k cell) (nothing k) ≡ moved_value mode k cell
moved_or_nothing Copy k cell = refl
moved_or_nothing Unmap k cell = refl
moved_or_nothing CopyRead k cell = refl
moved_or_nothing Share k (Common g) = refl
moved_or_nothing Share (Page p) (Own None) = refl
moved_or_nothing Share (Page p) (Own (Some value)) = refl
moved_or_nothing Share (Slot n) (Own value) = refl
moved_or_nothing Share Cred (Own value) = refl

module _ (pages : ℕ) (items : List Item) (spec : IsSpec pages items) (x : Context) where
  abbrev mode_of : Key → Mode
  mode_of = mode_or_copy items

  -- past the keys that there are nothing moves
  stays_past : (k : Key) → limit pages (kind_of k) ≤ number_of k → is_moved (mode_of k) k (x.cell k) ≡ false
  stays_past k past = ap (λ m. is_moved m k (x.cell k)) (copied_past pages k items spec past)

  all_given : (g : Name) → gave (is_below kind.Cred 1) g items (gave (is_below kind.Slot SLOTS) g items (gave (is_below kind.Page pages) g items x)) ≡ with_shared g items x
  unfolding with_shared
  all_given g =
      let f : (k : Key) → Cell (ValueOf k) = (gave (is_below kind.Cred 1) g items (gave (is_below kind.Slot SLOTS) g items (gave (is_below kind.Page pages) g items x))).cell in
      let at : (k : Key) → f k ≡ shared_cell g (mode_of k) k (x.cell k) =
      λ k. elim k as (λ k. f k ≡ shared_cell g (mode_of k) k (x.cell k)) [
        | Page p ↦ in_all pages (Page p) _ _ (λ past. ap (λ b. cond b (Common g) (x.cell (Page p))) (stays_past (Page p) past))
        | Slot n ↦ in_all pages (Slot n) _ _ (λ past. ap (λ b. cond b (Common g) (x.cell (Slot n))) (stays_past (Slot n) past))
        | Cred ↦ refl
      ] in
      λ i. record x { cell = λ k. at k i }

  value_in_all : (k : Key) → cond (nat_lt (number_of k) (limit pages (kind_of k))) (cond (is_moved (mode_of k) k (x.cell k)) (moved_value (mode_of k) k (x.cell k)) (nothing k)) (nothing k)
      ≡ moved_value (mode_of k) k (x.cell k)
  value_in_all k =
      in_all pages k _ _ (λ past. ap (λ b. cond b (moved_value (mode_of k) k (x.cell k)) (nothing k)) (stays_past k past)) ∙ moved_or_nothing (mode_of k) k (x.cell k)

  -- the context after its pages, and after its slots too
  abbrev after_pages : Name → Context
  after_pages g = gave (is_below kind.Page pages) g items x

  abbrev after_slots : Name → Context
  after_slots g = gave (is_below kind.Slot SLOTS) g items (after_pages g)

  all_taken : (g : Name) →
      took (is_below kind.Cred 1) items (after_slots g) (took (is_below kind.Slot SLOTS) items (after_pages g) (took (is_below kind.Page pages) items x new_group)) ≡ moved_values items x
  unfolding moved_values
  all_taken g =
      let f : (k : Key) → ValueOf k =
      (took (is_below kind.Cred 1) items (after_slots g) (took (is_below kind.Slot SLOTS) items (after_pages g) (took (is_below kind.Page pages) items x new_group))).value in
      let at : (k : Key) → f k ≡ moved_value (mode_of k) k (x.cell k) =
      λ k. elim k as (λ k. f k ≡ moved_value (mode_of k) k (x.cell k)) [
        | Page p ↦ value_in_all (Page p)
        | Slot n ↦ value_in_all (Slot n)
        | Cred ↦ moved_or_nothing (mode_of Cred) Cred (x.cell Cred)
      ] in
      λ i. record { value = λ k. at k i }

  none_taken : (y : Context) (h : Group) → h ≡ took (is_below kind.Cred 0) items y h
  none_taken y h =
      let at : (k : Key) → h.value k ≡ (took (is_below kind.Cred 0) items y h).value k =
      λ k. elim k as (λ k. h.value k ≡ (took (is_below kind.Cred 0) items y h).value k) [ Page p ↦ refl | Slot n ↦ refl | Cred ↦ refl ] in
      λ i. record { value = λ k. at k i }

  -- all own values under share have moved
  module _ (g : Name) (mode : Mode) (y z : Context) (mode_is : mode ≡ mode_of Cred)
      (gave_pages : y ≡ after_pages g) (gave_slots : z ≡ gave (is_below kind.Slot SLOTS) g items y) where
    slots_are : z ≡ gave (is_below kind.Cred 0) g items (after_slots g)
    slots_are = gave_slots ∙ ap (gave (is_below kind.Slot SLOTS) g items) gave_pages ∙ with_cells-none _ (after_slots g)

    pub values_given : (u : Context) → u ≡ gives g mode Cred z → u ≡ with_shared g items x
    values_given u uid = context_gives kind.Cred 0 items g mode (after_slots g) z new_group new_group refl slots_are (none_taken (after_slots g) new_group) mode_is u uid ∙ all_given g

    pub values_taken : (h j k start : Group) → start ≡ new_group → h ≡ took (is_below kind.Page pages) items x start → j ≡ took (is_below kind.Slot SLOTS) items y h →
        k ≡ takes mode Cred (z.cell Cred) j → k ≡ moved_values items x
    values_taken h j k start empty pages_taken slots_taken uid_taken =
        let has : Group = took (is_below kind.Slot SLOTS) items (after_pages g) (took (is_below kind.Page pages) items x new_group) in
        let is : j ≡ has = slots_taken ∙ (λ i. took (is_below kind.Slot SLOTS) items (gave_pages i) ((pages_taken ∙ ap (took (is_below kind.Page pages) items x) empty) i)) in
        group_takes kind.Cred 0 items g mode (after_slots g) z has j refl slots_are (is ∙ none_taken (after_slots g) has) mode_is k uid_taken ∙ all_taken g
