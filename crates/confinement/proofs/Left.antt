-- What a confined step leaves as it was.
use Rattle.std.proofs.Common.{◌≡◌, ◌≢◌, ◌⊎◌, inl, inr, ℕ, ◌<◌, Bool, true, false, cond, ltb, None, Some, [], ◌∷◌, ◌++◌, refl, ap, sym, subst, ◌∙◌, arith}
use Rattle.std.proofs.lemmas.Bool.{ltb-true}
use Rattle.std.specs.Prelude.{is_none, slice_get, slice_index}
use Rattle.guest_call.specs.Asked.{item_refusals}
use Rattle.guest_call.specs.Guest.{descriptor_for, link_of, slot_refusals}
use Rattle.kernel_core.specs.Refused.{advanced_thread, refusal_in, refusal_of}
use Rattle.guest_isa.specs.declared.instr.Instr.{Instr}
use Rattle.guest_machine.specs.Advances.{advanced}
use Rattle.guest_machine.specs.declared.progress.Next.TheVariants.{Shared}
use Rattle.access_cap.specs.Kinds.{is_chosen}
use Rattle.kernel_core.specs.Machine.{Environment, Machine}
use Rattle.kernel_core.specs.declared.calling.TheConstants.{LW_CREATE, LW_OVERLAY, LW_RESTRICT, LW_SWITCH, LW_SYSCALL}
use Rattle.kernel_core.specs.declared.thread.Thread.{Thread}
use Rattle.lwc_base.specs.declared.descriptor.Cap.{Cap}
use Rattle.lwc_base.specs.declared.descriptor.Descriptor.TheVariants.{Ctx, Empty}
use Rattle.lwc_base.specs.Capabilities.{empty_cap, has_key}
use Rattle.lwc_types.specs.declared.key.TheConstants.{SLOTS}
use Rattle.lwc_types.specs.declared.key.Key.{Key}
use Rattle.lwc_types.specs.declared.key.Key.TheVariants.{Page}
use Rattle.lwc_types.specs.declared.key.Kind.TheVariants as kinds
use Rattle.lwc_types.specs.declared.limits.TheConstants.{MOST_PAGES}
use Rattle.lwc_types.specs.declared.name.Name.{Name}
use Rattle.access_cap.proofs.Keys.{zeros_have_none}
use Rattle.lwc_base.specs.Cells.{slot_at, value_at}
use Rattle.lwc_base.specs.Modes.{IsKey, kind_of}
use Rattle.lwc_base.specs.Rights.{right_at}
use Rattle.lwc_base.specs.World.{World, context, is_live, next_context}
use Rattle.lwc_base.specs.Refusals.{first_refusal}
use Rattle.lwc_base.specs.Summaries.{is_empty}
use Rattle.lwc_types.specs.declared.refusal.Refusal.TheVariants.{BadFd, WrongKind}
use Rattle.lwc_types.specs.declared.regs.Regs.{Regs}
use Rattle.lwc_overlay.specs.RestrictCall.{ended, refusals, restrict}
use Rattle.lwc_syscall.specs.Syscall.{mask_in}
use Rattle.res_spec.specs.declared.items.SpecCall.TheVariants as spec_call
use Rattle.confinement.specs.Confined.{ComesFrom, IsConfined, IsLiveInBoth, Made, OfTheCaller, Restricted, Stood}
use Rattle.confinement.specs.May.{IsGiven, MakesCall, MayChange, OfItsOwn, OfTheChosen, OfTheGiver, OfTheTarget, regs_at, world_of}
use Rattle.confinement.specs.One.{IsOneValue}

-- an accepted restriction names a slot that there is
restricted_slot : (w : World) (c : Name) (regs : Regs) → refusal_in (restrict w c regs).0 ≡ None → slice_index regs.r 1 < SLOTS
unfolding restrict refusals slot_refusals descriptor_for
restricted_slot w c regs none = by (ltb (slice_index regs.r 1) 64) refl
  where
    n : ℕ
    n = slice_index regs.r 1

    by : (b : Bool) → ltb n 64 ≡ b → n < 64
    by true is = ltb-true n 64 is
    by false is =
        let bad : refusal_in (restrict w c regs).0 ≡ Some BadFd =
        ap (λ b. refusal_in (ended w c regs (cond (is_empty (cond b (slot_at w c n) Empty)) (Some BadFd)
        (first_refusal ((is_none (link_of (descriptor_for w c n)), WrongKind) ∷ (item_refusals w c spec_call.Restrict (slice_index regs.r 2) (slice_index regs.r 3) ++ []))))).0) is in
        let no : Some BadFd ≡ None = sym bad ∙ none in cc

pub accepted_slot : (t : ℕ) (e : Environment) (x : Thread) → refusal_of LW_RESTRICT t e x ≡ None → slice_index x.regs.r 1 < SLOTS
unfolding refusal_of
accepted_slot t e x none = restricted_slot e.world x.context x.regs none

-- the empty capability has no key
pub empty_lacks : (k : Key) → has_key empty_cap k ≡ false
unfolding empty_cap
empty_lacks k = zeros_have_none empty_cap refl refl refl k

module _ (m : Machine) (t : ℕ) (after : Machine) (confined : IsConfined m t after) where
  abbrev w : World
  w = world_of m

  abbrev v : World
  v = world_of after

  -- where no slot had a capability with a key for a context that the step has not made, none has one afterwards
  pub no_key : (e d : Name) (n : ℕ) (held : Cap) (k : Key) → is_live v e ≡ true → n < SLOTS → slot_at v e n ≡ Ctx d held → IsKey MOST_PAGES k →
      ((x : Thread) → MakesCall m t x LW_CREATE → d ≢ next_context w x.job) → ((f : Name) (i : ℕ) (old : Cap) → i < SLOTS → slot_at w f i ≡ Ctx d old → has_key old k ≡ false) → has_key held k ≡ false
  no_key e d n held k live slot is key old lacked = elim (confined.capabilities e d n held live slot is) [
    | inl had ↦ lacked e n held slot had
    | inr comes ↦ by_source comes
  ]
    where
      by_source : ComesFrom m t d held → has_key held k ≡ false
      by_source (Stood f i there in_slot had) = lacked f i held in_slot had
      by_source (Restricted x whole calls given part) = elim (has_key held k) as (λ b. has_key held k ≡ b → b ≡ false) [
        | false ↦ λ is. refl
        | true ↦ λ has. absurd (let no = lacked x.context _ whole (accepted_slot t m.environment (advanced_thread m x) calls.accepted) given in let more = part k key has in cc)
      ] refl
      by_source (Made x calls new full) = absurd (old x calls new)
      by_source (OfTheCaller x calls same empty) = ap (λ (c : Cap). has_key c k) empty ∙ empty_lacks k

  -- an instruction that is none of three calls changes no value but those that are its own context's
  pub own_alone : (x : Thread) (e : Name) (k : Key) → slice_get m.threads t ≡ Some x → ((number : ℕ) (y : Thread) → MakesCall m t y number → number ≢ LW_SWITCH × (number ≢ LW_OVERLAY) × (number ≢ LW_SYSCALL)) →
      IsLiveInBoth w v e → IsKey w.size.pages k → (value_at v e k ≡ value_at w e k) ⊎ IsOneValue w x.context e k
  own_alone x e k found other both key = elim (confined.values e k both key) [
    | inl same ↦ inl same
    | inr seen ↦ inr (by_pair seen.changed k refl seen.one seen.may)
  ]
    where
      by_pair : (a : Name) (l : Key) → l ≡ k → IsOneValue w a e l → MayChange m t a l → IsOneValue w x.context e k
      by_pair a _ is one (OfItsOwn y l own) =
          let both : Some y ≡ Some x = sym own ∙ found in
          let same : y ≡ x = cc in
          subst (IsOneValue w x.context e) is (subst (λ (z : Thread). IsOneValue w z.context e l) same one)
      by_pair a _ is one (OfTheTarget y d c n calls given lowest) = absurd ((other LW_SWITCH y calls).0 refl)
      by_pair a _ is one (OfTheGiver y d c l calls given has named) = absurd ((other LW_OVERLAY y calls).1 refl)
      by_pair a _ is one (OfTheChosen y d c l calls given has chosen) = absurd ((other LW_SYSCALL y calls).2 refl)

  -- the registers kept for another thread stay
  pub others_registers : (e : Name) (s : ℕ) → s ≢ t → IsLiveInBoth w v e → (context v e).saved s ≡ (context w e).saved s
  others_registers e s differ both = elim (confined.saved e s both) [
    | inl same ↦ same
    | inr stands ↦ absurd (differ stands.0)
  ]

  -- an overlay may change nothing of its giver under a key that the capability lacks
  not_covered : (x : Thread) (d : Name) (held : Cap) (k : Key) → MakesCall m t x LW_OVERLAY → IsGiven m x d held → x.context ≢ d → has_key held k ≡ false → MayChange m t d k → ⊥
  not_covered x d held k calls given differ lacks = by_pair d k refl refl
    where
      one_thread : (y : Thread) → slice_get m.threads t ≡ Some y → y ≡ x
      one_thread y found = let same : Some y ≡ Some x = sym found ∙ calls.found in cc

      no_other : (y : Thread) (number : ℕ) → MakesCall m t y number → number ≢ LW_OVERLAY → ⊥
      no_other y number other differs =
          let next : Shared other.instr ≡ Shared calls.instr = sym other.next ∙ (ap (λ (z : Thread). (advanced m.text z.regs).next) (one_thread y other.found) ∙ calls.next) in
          let instr : other.instr ≡ calls.instr = cc in
          differs (sym other.number ∙ (ap (λ (i : Instr). i.imm) instr ∙ calls.number))

      same_cap : (y : Thread) → y ≡ x → (c : Cap) (a : Name) → a ≡ d → IsGiven m y a c → c ≡ held
      same_cap y same c a is other =
          let here : slot_at w x.context (slice_index (regs_at m x).r 1) ≡ Ctx a c = subst (λ (z : Thread). IsGiven m z a c) same other in
          let both : Ctx a c ≡ Ctx d held = sym here ∙ given in cc

      by_pair : (a : Name) (l : Key) → a ≡ d → l ≡ k → MayChange m t a l → ⊥
      by_pair a _ is key_is (OfItsOwn y l own) = differ (ap (λ (z : Thread). z.context) (sym (one_thread y own)) ∙ is)
      by_pair a _ is key_is (OfTheTarget y e c n other given lowest) = no_other y LW_SWITCH other (λ no. absurd (omega (arith, no)))
      by_pair a _ is key_is (OfTheGiver y e c l other same_slot has named) =
          let same : c ≡ held = same_cap y (one_thread y other.found) c e is same_slot in
          let has_it : has_key held k ≡ true = subst (λ (q : Cap). has_key q k ≡ true) same (subst (λ (i : Key). has_key c i ≡ true) key_is has) in
          let no : true ≡ false = sym has_it ∙ lacks in cc
      by_pair a _ is key_is (OfTheChosen y e c l other given has chosen) = no_other y LW_SYSCALL other (λ no. absurd (omega (arith, no)))

  -- nor a call over chosen contexts of the other one, under a key of a kind that is not chosen
  not_chosen : (x : Thread) (d : Name) (k : Key) → MakesCall m t x LW_SYSCALL → x.context ≢ d → is_chosen (mask_in (regs_at m x)) (kind_of k) ≡ false → MayChange m t d k → ⊥
  not_chosen x d k calls differ other = by_pair d k refl refl
    where
      one_thread : (y : Thread) → slice_get m.threads t ≡ Some y → y ≡ x
      one_thread y found = let same : Some y ≡ Some x = sym found ∙ calls.found in cc

      no_other : (y : Thread) (number : ℕ) → MakesCall m t y number → number ≢ LW_SYSCALL → ⊥
      no_other y number makes differs =
          let next : Shared makes.instr ≡ Shared calls.instr = sym makes.next ∙ (ap (λ (z : Thread). (advanced m.text z.regs).next) (one_thread y makes.found) ∙ calls.next) in
          let instr : makes.instr ≡ calls.instr = cc in
          differs (sym makes.number ∙ (ap (λ (i : Instr). i.imm) instr ∙ calls.number))

      by_pair : (a : Name) (l : Key) → a ≡ d → l ≡ k → MayChange m t a l → ⊥
      by_pair a _ is key_is (OfItsOwn y l own) = differ (ap (λ (z : Thread). z.context) (sym (one_thread y own)) ∙ is)
      by_pair a _ is key_is (OfTheTarget y e c n makes given lowest) = no_other y LW_SWITCH makes (λ no. absurd (omega (arith, no)))
      by_pair a _ is key_is (OfTheGiver y e c l makes given has named) = no_other y LW_OVERLAY makes (λ no. absurd (omega (arith, no)))
      by_pair a _ is key_is (OfTheChosen y e c l makes given has chosen) =
          let there : is_chosen (mask_in (regs_at m x)) (kind_of k) ≡ true =
          subst (λ (i : Key). is_chosen (mask_in (regs_at m x)) (kind_of i) ≡ true) key_is (subst (λ (z : Thread). is_chosen (mask_in (regs_at m z)) (kind_of l) ≡ true) (one_thread y makes.found) chosen) in
          let no : true ≡ false = sym there ∙ other in cc

  -- where a step may not change a key of a context, the cell stays, and the right of a page
  cell_stays : (d : Name) (k : Key) → IsLiveInBoth w v d → IsKey w.size.pages k → (MayChange m t d k → ⊥) → (context v d).cell k ≡ (context w d).cell k
  cell_stays d k both key never = elim (confined.cells d k both key) [
    | inl same ↦ same
    | inr may ↦ absurd (never may)
  ]

  right_stays : (d : Name) (p : ℕ) → IsLiveInBoth w v d → IsKey w.size.pages (Page p) → (MayChange m t d (Page p) → ⊥) → right_at v d p ≡ right_at w d p
  right_stays d p both key never = elim (confined.rights d p both key) [
    | inl same ↦ same
    | inr may ↦ absurd (never may)
  ]

  pub uncovered_cell : (x : Thread) (d : Name) (held : Cap) (k : Key) → MakesCall m t x LW_OVERLAY → IsGiven m x d held → x.context ≢ d → has_key held k ≡ false → IsLiveInBoth w v d → IsKey w.size.pages k →
      (context v d).cell k ≡ (context w d).cell k
  uncovered_cell x d held k calls given differ lacks both key = cell_stays d k both key (not_covered x d held k calls given differ lacks)

  pub uncovered_right : (x : Thread) (d : Name) (held : Cap) (p : ℕ) → MakesCall m t x LW_OVERLAY → IsGiven m x d held → x.context ≢ d → has_key held (Page p) ≡ false → IsLiveInBoth w v d →
      IsKey w.size.pages (Page p) → right_at v d p ≡ right_at w d p
  uncovered_right x d held p calls given differ lacks both key = right_stays d p both key (not_covered x d held (Page p) calls given differ lacks)

  pub unchosen_cell : (x : Thread) (d : Name) (k : Key) → MakesCall m t x LW_SYSCALL → x.context ≢ d → is_chosen (mask_in (regs_at m x)) (kind_of k) ≡ false → IsLiveInBoth w v d → IsKey w.size.pages k →
      (context v d).cell k ≡ (context w d).cell k
  unchosen_cell x d k calls differ other both key = cell_stays d k both key (not_chosen x d k calls differ other)

  pub unchosen_right : (x : Thread) (d : Name) (p : ℕ) → MakesCall m t x LW_SYSCALL → x.context ≢ d → is_chosen (mask_in (regs_at m x)) kinds.Page ≡ false → IsLiveInBoth w v d →
      IsKey w.size.pages (Page p) → right_at v d p ≡ right_at w d p
  unchosen_right x d p calls differ other both key = right_stays d p both key (not_chosen x d (Page p) calls differ other)
