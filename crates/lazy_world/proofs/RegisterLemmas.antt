-- The registers that are kept for threads, by their marks.
use Rattle.std.proofs.Common.{◌≡◌, ◌≢◌, ◌<◌, ◌∙◌, ⊎_elim, ℕ, Bool, true, false, cond, List, Option, None, Some, arith, ap, get_or, length, length-set, map, set, sym}
use Rattle.std.specs.List.{range_with_len}
use Rattle.std.proofs.lemmas.Bool.{cases_eq}
use Rattle.std.proofs.lemmas.List.{ext_get_or, get_or-set_other, get_or-set_same}
use Rattle.std.proofs.lemmas.List.FromFn.{get_or-map-range_with_len, length-map-range_with_len}
use Rattle.lwc_types.specs.declared.regs.Regs.{Regs}
use Rattle.lwc_types.specs.Registers.{fresh_registers}

abbrev pub there : List Bool → List Regs → ℕ → Option Regs
there kept saved t = cond (get_or kept t false) (Some (get_or saved t (fresh_registers 0))) None

abbrev pub all_there : List Bool → List Regs → List (Option Regs)
all_there kept saved = map (there kept saved) (range_with_len 0 16)

pub read-there : (kept : List Bool) (saved : List Regs) (t : ℕ) → t < 16 → get_or (all_there kept saved) t None ≡ there kept saved t
read-there kept saved t lt = get_or-map-range_with_len (there kept saved) 0 16 t t None lt (omega arith)

pub long-there : (kept : List Bool) (saved : List Regs) → length (all_there kept saved) ≡ 16
long-there kept saved = length-map-range_with_len (there kept saved) 0 16

-- registers that are put for a thread
pub put-there : (kept : List Bool) (saved : List Regs) (t : ℕ) (regs : Regs) → t < 16 → length kept ≡ 16 → length saved ≡ 16 → all_there (set kept t true) (set saved t regs) ≡ set (all_there kept saved) t (Some regs)
put-there kept saved t regs lt marks room =
    ext_get_or None (all_there (set kept t true) (set saved t regs)) (set (all_there kept saved) t (Some regs))
    (long-there (set kept t true) (set saved t regs) ∙ sym (length-set (all_there kept saved) t (Some regs) ∙ long-there kept saved))
    (λ n below.
    let inside : n < 16 = omega (arith, below, long-there (set kept t true) (set saved t regs)) in
    read-there (set kept t true) (set saved t regs) n inside
    ∙ ⊎_elim
    (λ (is : n ≡ t).
    let at : t < length (all_there kept saved) = omega (arith, lt, long-there kept saved) in
    ap (there (set kept t true) (set saved t regs)) is
    ∙ (λ e. cond (get_or-set_same kept t true false (omega (arith, lt, marks)) e) (Some (get_or-set_same saved t regs (fresh_registers 0) (omega (arith, lt, room)) e)) None)
    ∙ sym (ap (λ m. get_or (set (all_there kept saved) t (Some regs)) m None) is ∙ get_or-set_same (all_there kept saved) t (Some regs) None at))
    (λ (off : n ≢ t).
    (λ e. cond (get_or-set_other kept t n true false off e) (Some (get_or-set_other saved t n regs (fresh_registers 0) off e)) None)
    ∙ sym (get_or-set_other (all_there kept saved) t n (Some regs) None off ∙ read-there kept saved n inside))
    (cases_eq n t))
