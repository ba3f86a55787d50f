-- The orders of names and of tags are total, and only equal ones tie.
use Rattle.std.proofs.Common.{◌≡◌, ◌≢◌, ℕ, refl, ap, true, false, arith}
use Rattle.std.specs.Ordering.{eq_by_cmp, is_eq, nat_cmp}
use Rattle.std.specs.Cmp.{IsTotalOrder}
use Rattle.std.proofs.lemmas.Cmp.{then_total, on_total, nat_cmp_total, tied_itself}
use Rattle.std.specs.FinMap.{IsAntisymmetric}
use Rattle.std.proofs.lemmas.Map.Lookups.{exact_pairs, exact_unsigned}
use Rattle.lwc_types.specs.declared.name.Name.{Name}
use Rattle.lwc_types.specs.declared.name.Tag.{Tag}
use Rattle.lwc_types.specs.Names.{name_cmp, tag_cmp}

pub name_cmp-total : IsTotalOrder name_cmp
name_cmp-total = then_total (on_total (λ n. n.job) nat_cmp_total) (on_total (λ n. n.k) nat_cmp_total)

pub name_cmp-IsAntisymmetric : IsAntisymmetric name_cmp
name_cmp-IsAntisymmetric a b h = ap (λ (p : ℕ × ℕ). record { job = p.0; k = p.1 }) (exact_pairs nat_cmp nat_cmp exact_unsigned exact_unsigned (a.job, a.k) (b.job, b.k) h)

pub tag_cmp-total : IsTotalOrder tag_cmp
tag_cmp-total = then_total (on_total (λ t. t.job) nat_cmp_total) (on_total (λ t. t.k) nat_cmp_total)

pub tag_cmp-IsAntisymmetric : IsAntisymmetric tag_cmp
tag_cmp-IsAntisymmetric a b h = ap (λ (p : ℕ × ℕ). record { job = p.0; k = p.1 }) (exact_pairs nat_cmp nat_cmp exact_unsigned exact_unsigned (a.job, a.k) (b.job, b.k) h)

-- names that tie are one
pub same_name : (a b : Name) → eq_by_cmp name_cmp a b ≡ true → a ≡ b
same_name a b e = grind (arith, name_cmp-IsAntisymmetric)

-- a name ties with itself
pub name-itself : (c : Name) → eq_by_cmp name_cmp c c ≡ true
name-itself c = ap is_eq (tied_itself name_cmp-total c)

-- names that differ do not tie
pub other_name : (a b : Name) → a ≢ b → eq_by_cmp name_cmp a b ≡ false
other_name a b other = grind (arith, same_name)

-- tags that tie are one
pub same_tag : (a b : Tag) → eq_by_cmp tag_cmp a b ≡ true → a ≡ b
same_tag a b e = grind (arith, tag_cmp-IsAntisymmetric)

-- a tag ties with itself
pub tag-itself : (t : Tag) → eq_by_cmp tag_cmp t t ≡ true
tag-itself t = ap is_eq (tied_itself tag_cmp-total t)

-- two names are one, or they differ
pub cases_name : {A : Type 0} (a b : Name) → (a ≡ b → A) → (a ≢ b → A) → A
cases_name {A} a b one two =
    elim (eq_by_cmp name_cmp a b) as (λ t. eq_by_cmp name_cmp a b ≡ t → A) [
      | true ↦ λ same. one (same_name a b same)
      | false ↦ λ other. two (λ same. grind (arith, name-itself))
    ] refl
