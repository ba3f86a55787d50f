-- What a capability that has all keys of chosen kinds has.
use Rattle.std.proofs.Common.{◌≡◌, ◌⊎◌, inl, inr, ◌∙◌, ℕ, true, false, ap, arith, refl}
use Rattle.std.specs.Prelude.{◌&&◌, if◌then◌else◌, not}
use Rattle.access_cap.specs.Kinds.{has_kinds, is_chosen}
use Rattle.lwc_base.specs.Capabilities.{has_key}
use Rattle.lwc_base.specs.Modes.{IsKey, kind_of}
use Rattle.lwc_base.specs.World.{World}
use Rattle.lwc_base.specs.declared.descriptor.Cap.{Cap}
use Rattle.lwc_types.specs.declared.key.Key.{Key}
use Rattle.lwc_types.specs.declared.key.Key.TheVariants.{Page, Slot, Cred}
use Rattle.lwc_types.specs.declared.name.Name.{Name}
use Rattle.lwc_types.specs.declared.regs.Regs.{Regs}
use Rattle.lwc_syscall.specs.Changes.{holder}
use Rattle.lwc_syscall.specs.Syscall.{IsAllowed, link, mask_in, taken_from, targets_of}
use Rattle.lwc_base.proofs.Needs.{any_key-some}

-- a capability with all keys of the chosen kinds has each key of one of them
has_chosen : (pages : ℕ) (cap : Cap) (mask : ℕ) (k : Key) → has_kinds pages cap mask ≡ true → IsKey pages k → is_chosen mask (kind_of k) ≡ true → has_key cap k ≡ true
unfolding has_kinds
has_chosen pages cap mask k all within chosen =
    elim (has_key cap k) as (λ b. has_key cap k ≡ b → b ≡ true) [
      | true ↦ λ has. refl
      | false ↦ λ lacks. let some = any_key-some pages (λ k. is_chosen mask (kind_of k) && not (has_key cap k)) k within (grind arith) in grind arith
    ] refl

-- a key's context is the one that its kind is taken from
holder-kind : (w : World) (c : Name) (regs : Regs) (k : Key) → holder (targets_of w c regs) k ≡ taken_from w c regs (kind_of k)
holder-kind w c regs (Page p) = refl
holder-kind w c regs (Slot n) = refl
holder-kind w c regs Cred = refl

pub holder-covered : (w : World) (c : Name) (regs : Regs) (k : Key) → IsAllowed w c regs → IsKey w.size.pages k →
    (holder (targets_of w c regs) k ≡ c) ⊎ ((holder (targets_of w c regs) k ≡ (link w c regs).0) × (has_key (link w c regs).1 k ≡ true))
holder-covered w c regs k allowed within =
    elim (is_chosen (mask_in regs) (kind_of k)) as (λ b. is_chosen (mask_in regs) (kind_of k) ≡ b →
    (holder (targets_of w c regs) k ≡ c) ⊎ ((holder (targets_of w c regs) k ≡ (link w c regs).0) × (has_key (link w c regs).1 k ≡ true))) [
      | true ↦ λ chosen. inr (holder-kind w c regs k ∙ ap (λ b. if b then (link w c regs).0 else c) chosen, has_chosen w.size.pages (link w c regs).1 (mask_in regs) k allowed.covered within chosen)
      | false ↦ λ other. inl (holder-kind w c regs k ∙ ap (λ b. if b then (link w c regs).0 else c) other)
    ] refl
