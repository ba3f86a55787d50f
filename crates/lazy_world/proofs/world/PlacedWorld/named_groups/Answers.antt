use Rattle.std.proofs.Common.{◌≡◌, [], inl, inr, arith, refl, subst}
use Rattle.std.specs.FinMap as fm
use Rattle.std.specs.List.{list_any, range_with_len}
use Rattle.std.proofs.lemmas.Bool.{cases_lt}
use Rattle.lazy_world.specs.Reaping.{AddsMarks, names_at}
use Rattle.lazy_world.specs.Worlds.{parts}
use Rattle.lazy_world.proofs.MarkLemmas.{adds-first, adds-more, any_more, any_up}
use Rattle.lazy_world.proofs.MarkedLemmas.{adds-all, each_name, stays-marked}
use Rattle.lazy_world.proofs.world.PlacedWorld.named_groups.Goals as goal

pub loop-i-init : goal.loop-i-init
loop-i-init c = record { adds = adds-first c.args.self.now.groups.places 1024; marked = λ n g j low at found. absurd (omega (arith, low)) }

pub mark_named-requires : goal.mark_named-requires
unfolding parts
mark_named-requires c = omega arith

pub loop-i-preserved : goal.loop-i-preserved
loop-i-preserved c =
    let w = c.args.self.now in
    record {
      adds = adds-more w.groups.places _ _ _ _ _ _ c.loop-i.invariant.adds c.mark_named.ensures (λ g. any_more (names_at (parts w) g) c.loop-i.i);
      marked = λ n g j low at found. stays-marked w.groups w.placed_groups (λ h. names_at (parts w) h c.loop-i.i) _ _ c.mark_named.ensures g j found
          (elim (cases_lt n c.loop-i.k) [
            | inl before ↦ c.loop-i.invariant.marked n g j before at found
            | inr from ↦ c.first_unmarked-k.ensures n from low g j at found
          ]);
    }

pub returns-then-k-len : goal.returns-then-k-len
returns-then-k-len c =
    let w = c.args.self.now in
    adds-all w.groups w.placed_groups (λ g. list_any (names_at (parts w) g) (range_with_len 0 c.loop-i.i)) (λ g. list_any (names_at (parts w) g) (range_with_len 0 w.size.contexts))
    c.loop-i.marks c.loop-i.invariant.adds
    (each_name w.groups.map c.loop-i.marks (fm.len w.groups.map)
    (λ n g j low at found.
    elim (cases_lt n c.loop-i.k) [
      | inl before ↦ c.loop-i.invariant.marked n g j before at found
      | inr from ↦ c.first_unmarked-k.ensures n from (omega (arith, low, c.len.ensures, c.if-k-len.true)) g j at found
    ])
    refl)
    (λ g on. any_up (names_at (parts w) g) c.loop-i.i w.size.contexts (omega (arith, c.loop-i-test.true)) on)

pub returns : goal.returns
returns c =
    let w = c.args.self.now in
    let last : c.loop-i.i ≡ w.size.contexts = omega arith in
    subst (λ m. AddsMarks w.groups.places (λ g. list_any (names_at (parts w) g) (range_with_len 0 m)) [] c.loop-i.marks) last c.loop-i.invariant.adds
