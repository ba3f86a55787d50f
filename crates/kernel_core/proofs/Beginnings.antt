-- A request begins: what its job's first context changes.
use Rattle.std.proofs.Common.{◌≡◌, ℕ, zero, suc, ◌+◌, ◌≤◌, ◌<◌, refl, sym, ap, subst, ◌∙◌, Bool, true, false, cond, eqb, List, [], ◌∷◌, length, arith}
use Rattle.std.specs.FinMap as fm
use Rattle.std.specs.List.{Contains}
use Rattle.std.proofs.lemmas.Bool.Decides.{nat_tests}
use Rattle.std.proofs.lemmas.List.Elements.{All-nil}
use Rattle.kernel_core.proofs.Limits.{none_borne}
use Rattle.kernel_core.proofs.Worlds.{RisesBy}
use Rattle.kernel_core.specs.Ready.{IsWithinLimits}
use Rattle.lwc_base.specs.Cells.{put_slot}
use Rattle.lwc_base.specs.Channels.{Channels}
use Rattle.lwc_base.specs.Facts.{AddsContext}
use Rattle.lwc_base.specs.Fresh.{IsFresh}
use Rattle.lwc_base.specs.Modes.{IsSpec}
use Rattle.lwc_base.specs.Sharing.{clone_context}
use Rattle.lwc_base.specs.World.{World, context, is_live, live_of, next_context}
use Rattle.lwc_base.specs.declared.descriptor.Descriptor.TheVariants.{Reply, Request}
use Rattle.lwc_types.specs.declared.counters.Counters.{Counters}
use Rattle.lwc_types.specs.declared.name.Name.{Name}
use Rattle.lwc_syscall.specs.Changes.{IsWell}
use Rattle.snapshot_host.specs.Begin.{IsNewJob, begin, begun_context, request_context}
use Rattle.lwc_base.proofs.Facts.{counts}
use Rattle.lwc_base.proofs.InRange.{files-clone}
use Rattle.lwc_base.proofs.Lookups.{adds-add_context}
use Rattle.lwc_base.proofs.NamedContexts.{contexts-clone}
use Rattle.lwc_base.proofs.Sound.{sound-clone_context}
use Rattle.lwc_types.proofs.Orders.{cases_name}
use Rattle.snapshot_host.proofs.Copies.{begun}
use Rattle.lwc_syscall.proofs.Kept.{well-slot}

rises_one : (b : Bool) (n : Counters) → RisesBy 2 n (cond b (record n { contexts = n.contexts + 1 }) n)
rises_one true n = record { contexts = omega arith; groups = omega arith; tags = omega arith }
rises_one false n = record { contexts = omega arith; groups = omega arith; tags = omega arith }

module _ (w : World) (home : Name) (r : ℕ) where
  -- a context is added
  pub adds : AddsContext w (r + 1) (begun_context w home r) (begin w home r)
  unfolding begin
  adds = adds-add_context w (r + 1) (begun_context w home r)

  pub still_live : (c : Name) → is_live w c ≡ true → is_live (begin w home r) c ≡ true
  still_live c live =
      cases_name c (next_context w (r + 1))
      (λ same. ap (is_live (begin w home r)) same ∙ adds.live)
      (λ other. adds.still_live c other ∙ live)

  pub rises_begun : (j : ℕ) → RisesBy 2 (w.next j) ((begin w home r).next j)
  rises_begun j = subst (λ (next : ℕ → Counters). RisesBy 2 (w.next j) (next j)) (sym adds.next) (rises_one (eqb j (r + 1)) (w.next j))

  module _ (new : IsNewJob w (r + 1)) where
    -- it bears the name of the request's context
    pub name_is : next_context w (r + 1) ≡ request_context r
    name_is = ap (λ (n : Counters). record { job = r + 1; k = n.contexts }) new

    pub live : is_live (begin w home r) (request_context r) ≡ true
    live = ap (is_live (begin w home r)) (sym name_is) ∙ adds.live

    -- no context bears a job that is new
    no_context : IsFresh w → (c : Name) → is_live w c ≡ true → eqb c.job (r + 1) ≡ false
    no_context fresh c live = by_test (eqb c.job (r + 1)) refl
      where
        by_test : (b : Bool) → eqb c.job (r + 1) ≡ b → b ≡ false
        by_test false is = refl
        by_test true is =
            let same : c.job ≡ r + 1 = grind (arith, nat_tests) in
            let below : c.k < (w.next c.job).contexts = fresh.contexts c live in
            absurd (omega (arith, below, ap (λ j. (w.next j).contexts) same, ap (λ (n : Counters). n.contexts) new))

    none_yet : IsFresh w → live_of w (r + 1) ≡ 0
    unfolding live_of
    none_yet fresh = none_borne (r + 1) (fm.keys w.contexts) (λ q there. no_context fresh q (fm.contains_key-keys w.contexts q ∙ there))

    at_most : (j : ℕ) → IsFresh w → live_of w j ≤ 32 → live_of (begin w home r) j ≤ 32
    at_most j fresh few = by_test (eqb j (r + 1)) refl
      where
        count : live_of (begin w home r) j ≡ cond (eqb j (r + 1)) (live_of w j + 1) (live_of w j)
        count = (counts.context_added w (begin w home r) (r + 1) j (begun_context w home r) fresh adds).0

        by_test : (b : Bool) → eqb j (r + 1) ≡ b → live_of (begin w home r) j ≤ 32
        by_test true is =
            let same : j ≡ r + 1 = grind (arith, nat_tests) in
            omega (arith, count ∙ ap (λ b. cond b (live_of w j + 1) (live_of w j)) is, ap (live_of w) same, none_yet fresh)
        by_test false is = omega (arith, count ∙ ap (λ b. cond b (live_of w j + 1) (live_of w j)) is, few)

    not_0 : eqb 0 (r + 1) ≡ false
    not_0 = grind (arith, nat_tests)

    -- the request's job takes the place of one that is 0
    pub limits_begun : (jobs now : List ℕ) → IsFresh w → Contains now (r + 1) → ((j : ℕ) → Contains jobs j → 1 ≤ j → Contains now j) → IsWithinLimits w jobs → IsWithinLimits (begin w home r) now
    limits_begun jobs now fresh there others limits = record {
      contexts = λ c live. cases_name c (next_context w (r + 1))
          (λ same. later _ _ (subst (Contains now) (sym (ap (λ (n : Name). n.job) same)) there))
          (λ other. old c.job (limits.contexts c (sym (adds.still_live c other) ∙ live)));
      groups = λ g live.
          let was = limits.groups g (sym (ap (λ m. fm.contains_key m g) adds.groups) ∙ live) in
          (others g.job was.0 was.1, was.1);
      homes = omega (arith, (counts.context_added w (begin w home r) (r + 1) 0 (begun_context w home r) fresh adds).0 ∙ ap (λ b. cond b (live_of w 0 + 1) (live_of w 0)) not_0, limits.homes);
      few_contexts = λ j. at_most j fresh (limits.few_contexts j);
      few_groups = λ j. omega (arith, (counts.same_groups w (begin w home r) j (λ g. ap (λ m. fm.contains_key m g) adds.groups)).0, limits.few_groups j);
    }
      where
        later : (ks : List ℕ) (j : ℕ) → Contains ks j → Contains (0 ∷ ks) j
        later ks j here = (suc here.0, omega (arith, here.1), here.2)

        old : (j : ℕ) → Contains (0 ∷ jobs) j → Contains (0 ∷ now) j
        old j (zero, within, is) = (zero, omega arith, is)
        old j (suc k, within, is) = by_test (eqb j 0) refl
          where
            by_test : (b : Bool) → eqb j 0 ≡ b → Contains (0 ∷ now) j
            by_test true none = (zero, omega arith, grind (arith, nat_tests))
            by_test false some = later now j (others j (k, omega (arith, within), is) (grind (arith, nat_tests)))

    no_items : IsSpec w.size.pages []
    no_items = record { few = omega arith; each = All-nil _; apart = λ i j d before within. absurd (omega (arith, within)) }

    -- the world stays well
    pub well_begun : (io : Channels) → is_live w home ≡ true → r < length io.requests → IsWell w io → IsWell (begin w home r) io
    well_begun io live there well =
        let entry = (context w home).entry in
        let c = next_context w (r + 1) in
        let copy : World = clone_context w home (r + 1) [] entry in
        let first : IsWell copy io = record {
          sound = sound-clone_context w home (r + 1) [] no_items live well.sound entry;
          named = contexts-clone w home (r + 1) [] entry well.sound.fresh live well.named;
          files = files-clone io w home (r + 1) [] entry live well.files;
        } in
        let second : IsWell (put_slot copy c 1 (Reply r)) io = well-slot copy io c 1 (Reply r) there (λ d is. cc) first in
        subst (λ (v : World). IsWell v io) (sym (begun w home r))
        (well-slot (put_slot copy c 1 (Reply r)) io c 0 (Request r 0) (record { there = there; within = omega arith }) (λ d is. cc) second)
