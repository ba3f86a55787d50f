-- What a thread's arrival in another context changes: one slot there, and the registers that its own one keeps.
use Rattle.std.proofs.Common.{◌≡◌, ◌⊎◌, inl, inr, ℕ, ◌<◌, true, Some, refl, ap, sym, subst, ◌∙◌}
use Rattle.confinement.proofs.Confining.{Leaves}
use Rattle.confinement.proofs.Decide.{apart_or_one, key_or_not, name_or_not, number_or_not, same_then}
use Rattle.confinement.specs.Confined.{Enters}
use Rattle.confinement.specs.May.{world_of}
use Rattle.confinement.specs.One.{IsOneValue}
use Rattle.guest_call.proofs.Changes.{putting, saving}
use Rattle.guest_call.specs.Changes.{ChangesSaved}
use Rattle.guest_call.specs.Guest.{with_answer}
use Rattle.kernel_core.specs.Machine.{Machine}
use Rattle.kernel_core.specs.declared.thread.Thread.{Thread}
use Rattle.lwc_base.proofs.Common.{put-apart, put-itself, put-other_cell, put-other_key}
use Rattle.lwc_base.proofs.Lookups.{changes-change_group}
use Rattle.lwc_base.proofs.Puts.{after_put_at}
use Rattle.lwc_base.proofs.Sound.{sound-save}
use Rattle.lwc_base.specs.Capabilities.{empty_cap}
use Rattle.lwc_base.specs.Cells.{put_slot, slot_at, value_at}
use Rattle.lwc_base.specs.Clones.{AreApart}
use Rattle.lwc_base.specs.Modes.{IsKey}
use Rattle.lwc_base.specs.Rights.{right_at}
use Rattle.lwc_base.specs.Saved.{save}
use Rattle.lwc_base.specs.Slots.{lowest_empty}
use Rattle.lwc_base.specs.Sound.{IsSound}
use Rattle.lwc_base.specs.World.{World, context, is_live}
use Rattle.lwc_base.specs.declared.cell.Cell.TheVariants.{Common, Own}
use Rattle.lwc_base.specs.declared.descriptor.Descriptor.TheVariants.{Ctx, Empty}
use Rattle.lwc_types.specs.declared.key.TheConstants.{SLOTS}
use Rattle.lwc_types.specs.declared.key.Key.{Key}
use Rattle.lwc_types.specs.declared.key.Key.TheVariants.{Slot}
use Rattle.lwc_types.specs.declared.name.Name.{Name}
use Rattle.lwc_types.specs.declared.regs.Regs.{Regs}
use Rattle.lwc_types.specs.declared.right.Right.{Right}
use Rattle.lwc_monitor.specs.Contexts.{LeavesRegisters}

module _ (m after : Machine) (t : ℕ) (x : Thread) (regs : Regs) (d : Name) (slot : ℕ) (sound : IsSound (world_of m)) (lives : is_live (world_of m) d ≡ true) (within : slot < SLOTS)
    (lowest : lowest_empty (world_of m) d ≡ Some slot) (empty : slot_at (world_of m) d slot ≡ Empty)
    (reached : Leaves (put_slot (save (world_of m) x.context t (with_answer regs 0)) d slot (Ctx x.context empty_cap)) (world_of after)) where
  abbrev w : World
  w = world_of m

  abbrev saved : World
  saved = save w x.context t (with_answer regs 0)

  abbrev v : World
  v = put_slot saved d slot (Ctx x.context empty_cap)

  saves : ChangesSaved w saved x.context t
  saves = saving w x.context t (with_answer regs 0)

  size_same : v.size ≡ w.size
  size_same = (putting saved d (Slot slot) (Ctx x.context empty_cap)).names.size ∙ saves.names.size

  key_there : (k : Key) → IsKey w.size.pages k → IsKey v.size.pages k
  key_there k key = subst (λ (s : _). IsKey s.pages k) (sym size_same) key

  put_there : slot_at v d slot ≡ Ctx x.context empty_cap
  put_there = put-itself saved d (Slot slot) (Ctx x.context empty_cap) (saves.names.live d ∙ lives) (sound-save w x.context t _ sound).groups refl

  enter_cell : (e : Name) (k : Key) → ((context v e).cell k ≡ (context w e).cell k) ⊎ ((e ≡ d) × (k ≡ Slot slot))
  enter_cell e k = elim (key_or_not k (Slot slot)) [
    | inl key ↦ elim (name_or_not e d) [
      | inl one ↦ inr (one, key)
      | inr two ↦ inl (put-other_cell saved d (Slot slot) (Ctx x.context empty_cap) e k (λ is. absurd (two is)) ∙ saves.cells e k)
    ]
    | inr other ↦ inl (put-other_cell saved d (Slot slot) (Ctx x.context empty_cap) e k (λ is. other) ∙ saves.cells e k)
  ]

  apart_saved : (e : Name) (k : Key) → AreApart w d e k → AreApart saved d e k
  apart_saved e k is = record { differ = is.differ; no_group = λ g one two. is.no_group g (sym (saves.cells d k) ∙ one) (sym (saves.cells e k) ∙ two) }

  enter_value : (e : Name) (k : Key) → (value_at v e k ≡ value_at w e k) ⊎ (IsOneValue w d e k × (k ≡ Slot slot))
  enter_value e k = elim (key_or_not k (Slot slot)) [
    | inl key ↦ elim (apart_or_one w sound.groups d e k) [
      | inl apart ↦ inl (subst (λ (l : Key). value_at v e l ≡ value_at saved e l) (sym key)
          (put-apart saved d (Slot slot) (Ctx x.context empty_cap) e (subst (AreApart saved d e) key (apart_saved e k apart))) ∙ saves.values e k)
      | inr one ↦ inr (one, key)
    ]
    | inr other ↦ inl (put-other_key saved d (Slot slot) (Ctx x.context empty_cap) e k other ∙ saves.values e k)
  ]

  enter_right : (e : Name) (p : ℕ) → right_at v e p ≡ right_at w e p
  enter_right e p =
      ap (λ (f : ℕ → Right). f p) ((putting saved d (Slot slot) (Ctx x.context empty_cap)).rights e) ∙ ap (λ (f : ℕ → Right). f p) (saves.rights e)

  shared_stays : (g : Name) → (context w d).cell (Slot slot) ≡ Common g → (context v d).cell (Slot slot) ≡ Common g
  shared_stays g is =
      let there : (context saved d).cell (Slot slot) ≡ Common g = saves.cells d (Slot slot) ∙ is in
      after_put_at (λ (u : World). (context u d).cell (Slot slot) ≡ Common g) saved d (Slot slot) (Ctx x.context empty_cap) (λ _ _ _. there)
      (λ old own _. absurd (let no : Own old ≡ Common g = sym own ∙ there in cc))
      (λ h _. ap (λ y. y.cell (Slot slot)) ((changes-change_group saved h _).contexts d) ∙ there)

  pub enters : Enters m after x d
  enters = record {
    slot = slot;
    within = within;
    shared = λ g both is. ap (λ y. y.cell (Slot slot)) (reached.contexts d both.1) ∙ shared_stays g is;
    lowest = lowest;
    empty = empty;
    descriptor = λ both. reached.values d (Slot slot) within both.1 ∙ put_there;
    cells = λ e k both key. same_then _ _ _ (ap (λ y. y.cell k) (reached.contexts e both.1)) (enter_cell e k);
    rights = λ e p both. ap (λ y. y.right p) (reached.contexts e both.1) ∙ enter_right e p;
    values = λ e k both key. same_then _ _ _ (reached.values e k (key_there k key) both.1) (enter_value e k);
  }

  enter_saved : (e : Name) (s : ℕ) → ((context v e).saved s ≡ (context w e).saved s) ⊎ ((s ≡ t) × (e ≡ x.context))
  enter_saved e s = elim (number_or_not s t) [
    | inr other ↦ inl ((putting saved d (Slot slot) (Ctx x.context empty_cap)).saved e s ∙ saves.saved e s (λ is. other))
    | inl same ↦ elim (name_or_not e x.context) [
      | inl one ↦ inr (same, one)
      | inr two ↦ inl ((putting saved d (Slot slot) (Ctx x.context empty_cap)).saved e s ∙ saves.saved e s (λ is. absurd (two is)))
    ]
  ]

  pub registers : LeavesRegisters m after t x.context
  registers = record {
    entries = λ e both. ap (λ y. y.entry) (reached.contexts e both.1) ∙ ((putting saved d (Slot slot) (Ctx x.context empty_cap)).entries e ∙ saves.entries e);
    saved = λ e s both. same_then _ _ _ (ap (λ y. y.saved s) (reached.contexts e both.1)) (enter_saved e s);
  }
