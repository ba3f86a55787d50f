use Rattle.std.proofs.Common.{◌∙◌, ◌≡◌, ℕ, List, None, Some, ap, arith, false, inl, inr, not, subst, sym, true}
use Rattle.std.proofs.lemmas.Bool.{cases_lt}
use Rattle.std.specs.Prelude.{is_some}
use Rattle.lwc_base.specs.Modes.{mode}
use Rattle.fd_table.specs.Slots.{context_of}
use Rattle.lwc_base.specs.declared.cell.Cell.{Cell}
use Rattle.lwc_base.specs.declared.descriptor.Descriptor.{Descriptor}
use Rattle.lwc_base.specs.Cells.{value_of}
use Rattle.lwc_base.specs.Life.{is_among}
use Rattle.lwc_base.specs.World.{World}
use Rattle.lwc_types.specs.declared.key.Key.TheVariants.{Slot}
use Rattle.lwc_types.specs.declared.name.Name.{Name}
use Rattle.fd_table.specs.Slots.{is_filled}
use Rattle.lazy_world.specs.Seen.{rows}
use Rattle.lazy_world.specs.Worlds.{seen}
use Rattle.lazy_world.proofs.AddLemmas.{no_slot}
use Rattle.lazy_world.proofs.CachedRootLemmas.{among-last, among-more}
use Rattle.lazy_world.proofs.world.PlacedWorld.add_named_links.Goals as goal

-- a slot that is not filled has no descriptor of a context
no-link : (w : World) (n : ℕ) (cell : Cell Descriptor) → is_filled cell ≡ false → context_of (value_of w (Slot n) cell) ≡ None
no-link w n cell off = ap (λ x. context_of (value_of w (Slot n) x)) (no_slot cell n (ap not off))

different : {d : Name} → None ≡ Some d → ⊥
different is = cc

pub slots-init : goal.slots-init
slots-init c = record { below = omega arith; more = λ d among. among; links = λ n d below. absurd (omega (arith, below)) }

pub slots-preserved : goal.slots-preserved
slots-preserved c =
    let w = c.args.self.now in
    let cell = λ (m : ℕ). rows w.places c.args.place (Slot m) in
    let n = c.in-Some.n in
    let lowest = c.in-Some.ensures.some in
    let kept = c.slots.invariant in
    let among : (d : Name) → List Name → Type 0 = λ d names. is_among names d ≡ true in
    let new = c.add_root.ensures.added c.if-not-add_root.false in
    let more : (d : Name) → is_among c.slots.roots.items d ≡ true → is_among c.add_root.new.roots.items d ≡ true =
    λ d was. subst (among d) (sym new) (among-more c.slots.roots.items c.named_link.result d was) in
    record {
      below = omega (arith, lowest.below);
      more = λ d was. more d (kept.more d was);
      links = λ m d below named is.
          elim (cases_lt m c.slots.next) [
            | inl done ↦ more d (kept.links m d done named is)
            | inr from ↦
                elim (cases_lt m n) [
                  | inl before ↦
                      let none = no-link (seen w) m (cell m) (sym (c.filled-filled.ensures m (omega (arith, before, lowest.below))) ∙ lowest.lowest m from before) in
                      absurd (different (sym none ∙ is))
                  | inr after ↦
                      let here : m ≡ n = omega (arith, below, after) in
                      let named-here = subst (λ k. is_some (mode c.args.spec.now (Slot k)) ≡ true) here named in
                      let is-here = subst (λ k. context_of (value_of (seen w) (Slot k) (cell k)) ≡ Some d) here is in
                      subst (among d) (sym new) (among-last c.slots.roots.items c.named_link.result d (c.named_link.ensures named-here ∙ is-here))
                ]
          ];
    }

pub returns : goal.returns
returns c =
    let w = c.args.self.now in
    let kept = c.slots.invariant in
    record {
      more = kept.more;
      links = λ _ m d low named is.
          elim (cases_lt m c.slots.next) [
            | inl done ↦ kept.links m d done named is
            | inr from ↦
                absurd (different (sym (no-link (seen w) m (rows w.places c.args.place (Slot m)) (sym (c.filled-filled.ensures m low) ∙ c.in_default.ensures.none m from low)) ∙ is))
          ];
    }
