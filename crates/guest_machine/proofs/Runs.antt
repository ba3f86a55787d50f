-- The advance of a loop, and the facts of an advance.
use Rattle.std.proofs.Common.{◌≡◌, ℕ, ◌+◌, ◌<◌, ◌≤◌, Bool, true, false, cond, ◌⊎◌, inl, inr, List, length, get_or, Option, Some, None, refl, sym, ap, subst, ◌∙◌, add-one, arith}
use Rattle.std.specs.Prelude.{All, slice_get, is_some, unwrap_or}
use Rattle.std.proofs.lemmas.List.Elements.{All-get_or}
use Rattle.guest_isa.specs.Instructions.{IsInstruction, IsText}
use Rattle.std.proofs.lemmas.Bool.{cases_lt}
use Rattle.std.proofs.lemmas.Option.{slice_get-get_or, slice_get_past, slice_get_cases, slice_get_within, get_or_from_slice_get}
use Rattle.guest_isa.specs.declared.op.Op.{Op}
use Rattle.guest_isa.specs.declared.op.Op.TheVariants.{Li}
use Rattle.guest_isa.specs.declared.instr.Instr.{Instr}
use Rattle.guest_isa.specs.Opcodes.{is_private, is_shared}
use Rattle.lwc_types.specs.declared.regs.Regs.{Regs}
use Rattle.guest_machine.specs.declared.progress.Next.{Next}
use Rattle.guest_machine.specs.declared.progress.Next.TheVariants.{Shared, Pause, BadPc}
use Rattle.guest_machine.specs.declared.progress.Advance.{Advance}
use Rattle.guest_machine.specs.Effects.{effect}
use Rattle.guest_machine.specs.Advances.{after_instruction, after_private, stop_at, stop, least, advanced, PrivateComes, Comes, IfShared, IsAdvance}
use Rattle.guest_machine.proofs.Least.{least_is, least_is_least}

-- after j instructions from s, all of them private, the registers are t
pub record IsUnderWay (text : List Instr) (s : Regs) (j : ℕ) (t : Regs) : Type 0 where
  pub after : t ≡ after_private text j s
  pub private : (k : ℕ) → k < j → stop text (after_private text k s) ≡ None

pub begins : (text : List Instr) (s : Regs) → IsUnderWay text s 0 s
unfolding after_private
begins text s = record { after = refl; private = λ k lt. absurd (omega arith) }

pub goes_on : (text : List Instr) (s t u : Regs) (j : ℕ) (i : Instr) → IsUnderWay text s j t → slice_get text t.pc ≡ Some i → stop text t ≡ None → u ≡ effect i t → IsUnderWay text s (j + 1) u
unfolding after_private
goes_on text s t u j i way at none is =
    record {
      after = rw add-one (let here : after_instruction (slice_get text t.pc) t ≡ effect i t = rw at refl in is ∙ sym here ∙ ap (λ (v : Regs). after_instruction (slice_get text v.pc) v) way.after);
      private = private_more text s t j way none;
    }
  where
    private_more : (text : List Instr) (s t : Regs) (j : ℕ) → IsUnderWay text s j t → stop text t ≡ None → (k : ℕ) → k < j + 1 → stop text (after_private text k s) ≡ None
    private_more text s t j way none k lt = elim (cases_lt k j) [
      | inl below ↦ way.private k below
      | inr le ↦ let same : k ≡ j = omega arith in rw (same, ← way.after) none
    ]

is_some-none : {X : Type 0} (o : Option X) → o ≡ None → is_some o ≡ false
is_some-none o e = rw e refl

-- where the first stop is, or the 256th instruction, is the advance
pub advanced_is : (text : List Instr) (s t : Regs) (j : ℕ) (next : Next) → IsUnderWay text s j t → j ≤ 256 → (is_some (stop text t) ≡ true) ⊎ (j ≡ 256) → next ≡ unwrap_or (stop text t) Pause → record { before = s; after = t; next = next } ≡ advanced text s
unfolding advanced
advanced_is text s t j next way le ends is =
    let test : ℕ → Bool = λ k. is_some (stop text (after_private text k s)) in
    let here : (test j ≡ true) ⊎ (j ≡ 256) = rw (← way.after) ends in
    let first : least 256 test ≡ j = least_is 256 test j le (λ k lt. is_some-none _ (way.private k lt)) here in
    rw (first, ← way.after, is) refl

-- an operation that is not shared is private, and the other way round
private_from_shared : (op : Op) → is_shared op ≡ false → is_private op ≡ true
private_from_shared Li e = refl
private_from_shared _ e = cc

shared_from_private : (op : Op) → is_private op ≡ true → is_shared op ≡ false
shared_from_private Li e = refl
shared_from_private _ e = cc

private_from_none : (text : List Instr) (s : Regs) (o : Option Instr) → slice_get text s.pc ≡ o → stop_at o ≡ None → PrivateComes text s
private_from_none text s None is e = absurd cc
private_from_none text s (Some i) is e = (i, is, private_from_shared i.op (by_test (is_shared i.op) refl e))
  where
    by_test : (b : Bool) → is_shared i.op ≡ b → cond b (Some (Shared i)) None ≡ None → is_shared i.op ≡ false
    by_test true is e = absurd cc
    by_test false is e = is

-- no stop: a private instruction comes
PrivateComes-from_none : (text : List Instr) (s : Regs) → stop text s ≡ None → PrivateComes text s
PrivateComes-from_none text s e = private_from_none text s (slice_get text s.pc) refl e

none_from_PrivateComes : (text : List Instr) (s : Regs) → PrivateComes text s → stop text s ≡ None
none_from_PrivateComes text s comes = rw (comes.1, shared_from_private comes.0.op comes.2) refl

past_from_none : (text : List Instr) (pc : ℕ) → slice_get text pc ≡ None → length text ≤ pc
past_from_none text pc none =
    elim (slice_get_cases text pc).1 [
      | inl within ↦ let some = within.2 in absurd cc
      | inr past ↦ past.0
    ]

Comes-from_some : (text : List Instr) (s : Regs) (j : ℕ) (o : Option Instr) (next : Next) → slice_get text s.pc ≡ o → stop_at o ≡ Some next → Comes text s j next
Comes-from_some text s j None next is e = let same : BadPc ≡ next = cc in subst (Comes text s j) same (past_from_none text s.pc is)
Comes-from_some text s j (Some i) next is e = by_test (is_shared i.op) refl e
  where
    by_test : (b : Bool) → is_shared i.op ≡ b → cond b (Some (Shared i)) None ≡ Some next → Comes text s j next
    by_test true shared e = let same : Shared i ≡ next = cc in subst (Comes text s j) same (is, shared)
    by_test false shared e = absurd cc

-- what the advance answers comes next
Comes-next : (text : List Instr) (s : Regs) (j : ℕ) (o : Option Next) → stop text s ≡ o → (is_some o ≡ true) ⊎ (j ≡ 256) → Comes text s j (unwrap_or o Pause)
Comes-next text s j (Some next) is ends = Comes-from_some text s j (slice_get text s.pc) next refl is
Comes-next text s j None is (inl some) = absurd cc
Comes-next text s j None is (inr last) = (last, PrivateComes-from_none text s is)

private_from_test : (text : List Instr) (s : Regs) (o : Option Next) → stop text s ≡ o → is_some o ≡ false → PrivateComes text s
private_from_test text s None is e = PrivateComes-from_none text s is
private_from_test text s (Some next) is e = absurd cc

-- there is an advance, and it has the facts
pub advanced_is_advance : (text : List Instr) (s : Regs) → (j : ℕ) × IsAdvance text (advanced text s) j
unfolding advanced
advanced_is_advance text s =
    let test : ℕ → Bool = λ k. is_some (stop text (after_private text k s)) in
    let first = least_is_least 256 test in
    let j = least 256 test in (
      j,
      record {
        within = first.within;
        after = refl;
        next = Comes-next text (after_private text j s) j (stop text (after_private text j s)) refl first.at;
        private = λ k lt. private_from_test text (after_private text k s) (stop text (after_private text k s)) refl (first.below k lt);
      },
    )

-- what comes next is what stops there, or a pause after 256 instructions
next_from_Comes : (text : List Instr) (s : Regs) (j : ℕ) (next : Next) → Comes text s j next → ((is_some (stop text s) ≡ true) ⊎ (j ≡ 256)) × (next ≡ unwrap_or (stop text s) Pause)
next_from_Comes text s j BadPc past = let none : slice_get text s.pc ≡ None = slice_get_past text s.pc past in (inl (rw none refl), rw none refl)
next_from_Comes text s j (Shared i) comes = (inl (rw (comes.0, comes.1) refl), rw (comes.0, comes.1) refl)
next_from_Comes text s j Pause comes = let none : stop text s ≡ None = none_from_PrivateComes text s comes.1 in (inr comes.0, rw none refl)

-- the facts hold of one advance alone
pub advance_is_one : (text : List Instr) (a : Advance) (j : ℕ) → IsAdvance text a j → a ≡ advanced text a.before
advance_is_one text a j is =
    let way : IsUnderWay text a.before j a.after = record { after = is.after; private = λ k lt. none_from_PrivateComes text (after_private text k a.before) (is.private k lt) } in
    let both = next_from_Comes text a.after j a.next is.next in
    advanced_is text a.before a.after j a.next way is.within both.0 both.1

pub has_facts : (text : List Instr) (s : Regs) (a : Advance) → a ≡ advanced text s → (j : ℕ) × IsAdvance text a j
has_facts text s a e = subst (λ (b : Advance). (j : ℕ) × IsAdvance text b j) (sym e) (advanced_is_advance text s)

-- an advance that ends at a stop
pub stopped : (text : List Instr) (s t : Regs) (j : ℕ) (next : Next) → IsUnderWay text s j t → j < 256 → stop text t ≡ Some next → record { before = s; after = t; next = next } ≡ advanced text s
stopped text s t j next way lt is = advanced_is text s t j next way (omega arith) (inl (rw is refl)) (rw is refl)

-- an advance of 256 instructions
pub paused : (text : List Instr) (s t : Regs) (j : ℕ) (next : Next) → IsUnderWay text s j t → j ≤ 256 → 256 ≤ j → next ≡ unwrap_or (stop text t) Pause → record { before = s; after = t; next = next } ≡ advanced text s
paused text s t j next way le ge is = advanced_is text s t j next way le (inr (omega arith)) is

-- no instruction is past the end
pub stop_past : (text code : List Instr) (t : Regs) → code ≡ text → length code ≤ t.pc → stop text t ≡ Some BadPc
stop_past text code t same past =
    let none : slice_get code t.pc ≡ None = slice_get_past code t.pc past in rw (← same, none) refl

-- the instruction that is read comes next
pub read_at : (text code : List Instr) (pc : ℕ) (d : Instr) → code ≡ text → pc < length code → slice_get text pc ≡ Some (get_or code pc d)
read_at text code pc d same within = subst (λ (l : List Instr). slice_get l pc ≡ Some (get_or code pc d)) same (slice_get-get_or code pc d within)

pub stop_shared : (text : List Instr) (t : Regs) (i : Instr) → slice_get text t.pc ≡ Some i → is_shared i.op ≡ true → stop text t ≡ Some (Shared i)
stop_shared text t i found shared = rw (found, shared) refl

pub stop_private : (text : List Instr) (t : Regs) (i : Instr) → slice_get text t.pc ≡ Some i → is_shared i.op ≡ false → stop text t ≡ None
stop_private text t i found private = rw (found, private) refl

comes_to_by : (b : Bool) (i : Instr) → IsInstruction i → IfShared (unwrap_or (cond b (Some (Shared i)) None) Pause) IsInstruction
comes_to_by true i is = is
comes_to_by false i is = tt

comes_to_at : (text : List Instr) (pc : ℕ) (found : Option Instr) → All IsInstruction text → slice_get text pc ≡ found →
    IfShared (unwrap_or (stop_at found) Pause) IsInstruction
comes_to_at text pc None each found = tt
comes_to_at text pc (Some i) each found =
    comes_to_by (is_shared i.op) i
    (subst (λ (j : Instr). IsInstruction j) (get_or_from_slice_get text pc i i found)
    (All-get_or IsInstruction text pc i (slice_get_within text pc i found) each))

-- the shared instruction that an advance comes to is one of the text's
pub comes_to_instruction : (text : List Instr) (s : Regs) → IsText text → IfShared (advanced text s).next IsInstruction
unfolding advanced
comes_to_instruction text s is = comes_to_at text _ _ is.instructions refl
