-- What is under each key once something else is put under one of them, or under a range of pages.
use Rattle.std.proofs.Common.{◌≡◌, ◌≢◌, ℕ, ◌<◌, true, false, refl, ap, Option, arith}
use Rattle.std.specs.Prelude.{◌==◌}
use Rattle.std.proofs.lemmas.Bool.Decides.{nat_tests}
use Rattle.lwc_base.specs.declared.cell.Cell.{Cell}
use Rattle.lwc_base.specs.Keys.{ValueOf, with_key}
use Rattle.lwc_base.specs.Mapping.{on_pages}
use Rattle.lwc_types.specs.declared.key.Key.{Key}
use Rattle.lwc_types.specs.declared.key.Key.TheVariants.{Page, Slot, Cred}
use Rattle.lwc_types.specs.declared.page.PageValue.{PageValue}

-- two numbers are one, or they differ
pub cases_number : {A : Type 0} (m n : ℕ) → (m ≡ n → A) → (m ≢ n → A) → A
cases_number {A} m n one two =
    elim (m == n) as (λ b. (m == n) ≡ b → A) [
      | true ↦ λ same. one (grind arith)
      | false ↦ λ other. two (λ e. grind arith)
    ] refl

-- two keys are one, or they differ
pub cases_key : {A : Type 0} (k q : Key) → (k ≡ q → A) → (k ≢ q → A) → A
cases_key (Page m) (Page n) one two = cases_number m n (λ e. one (ap Page e)) (λ differ. two (λ e. differ cc))
cases_key (Slot m) (Slot n) one two = cases_number m n (λ e. one (ap Slot e)) (λ differ. two (λ e. differ cc))
cases_key Cred Cred one two = one refl
cases_key (Page m) (Slot n) one two = two (λ e. cc)
cases_key (Page m) Cred one two = two (λ e. cc)
cases_key (Slot m) (Page n) one two = two (λ e. cc)
cases_key (Slot m) Cred one two = two (λ e. cc)
cases_key Cred (Page n) one two = two (λ e. cc)
cases_key Cred (Slot n) one two = two (λ e. cc)

-- what is so of what is put under a key, and of what was under the others, is so under each key afterwards
pub with_key-cases : (F : Type 0 → Type 0) (k : Key) (new : F (ValueOf k)) (old : (q : Key) → F (ValueOf q)) (P : (q : Key) → F (ValueOf q) → Type 0) →
    P k new → (q : Key) → (q ≢ k → P q (old q)) → P q (with_key F k new old q)
with_key-cases F (Page p) new old P here (Page q) there = grind (arith, nat_tests)
with_key-cases F (Slot p) new old P here (Slot q) there = grind (arith, nat_tests)
with_key-cases F Cred new old P here Cred there = here
with_key-cases F _ new old P here q there = there (λ e. cc)

pub with_key-itself : (F : Type 0 → Type 0) (k : Key) (new : F (ValueOf k)) (old : (q : Key) → F (ValueOf q)) → with_key F k new old k ≡ new
with_key-itself F (Page p) new old = grind (arith, nat_tests)
with_key-itself F (Slot n) new old = grind (arith, nat_tests)
with_key-itself F Cred new old = refl

pub with_key-other : (F : Type 0 → Type 0) (k : Key) (new : F (ValueOf k)) (old : (q : Key) → F (ValueOf q)) (q : Key) → q ≢ k → with_key F k new old q ≡ old q
with_key-other F k new old q other = with_key-cases F k new old (λ r x. r ≢ k → x ≡ old r) (λ same. absurd (same refl)) q (λ _ _. refl) other

-- what is so of the cell that is put under the pages of a range, and of what was under each key, is so under each key afterwards
pub on_pages-cases : (from to : ℕ) (cell : Cell (Option PageValue)) (old : (q : Key) → Cell (ValueOf q)) (P : (q : Key) → Cell (ValueOf q) → Type 0) →
    ((p : ℕ) → p < to → P (Page p) cell) → (q : Key) → P q (old q) → P q (on_pages from to cell old q)
on_pages-cases from to cell old P here (Page p) there = grind (arith, nat_tests, here p)
on_pages-cases from to cell old P here (Slot n) there = there
on_pages-cases from to cell old P here Cred there = there
