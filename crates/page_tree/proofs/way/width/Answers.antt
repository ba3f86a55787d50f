use Rattle.std.proofs.Common.{◌≡◌, ℕ, ◌-◌, ◌*◌, ◌%◌, ◌^◌, ◌≤◌, ⊎_elim, refl, sym, subst, arith}
use Rattle.std.proofs.lemmas.Bool.{cases_eq}
use Rattle.page_tree.proofs.way.width.Goals as goal

abbrev IsWidth : ℕ → Type 0
IsWidth level = 1 * 2 ^ (5 * (level - 1)) % 18446744073709551616 ≡ 32 ^ (level - 1)

width-is : (level : ℕ) → 1 ≤ level → level ≤ 3 → IsWidth level
width-is level low high =
    ⊎_elim
    (λ one. subst IsWidth (sym one) refl)
    (λ more. ⊎_elim
    (λ two. subst IsWidth (sym two) refl)
    (λ most. let three : level ≡ 3 = omega (arith, low, high, more, most) in subst IsWidth (sym three) refl)
    (cases_eq level 2))
    (cases_eq level 1)

pub returns : goal.returns
returns c = width-is c.args.level c.requires.low c.requires.high
