-- What the steps of making a context, or of taking over from one, cost together.
use Rattle.std.proofs.Common.{◌≡◌, ◌≤◌, ℕ, ◌+◌, length, List, arith, ap, min, refl, subst, sym, ◌∙◌, Option, None, Some}
use Rattle.std.proofs.Math.Nat.{min-le_left}
use Rattle.std.specs.FinMap as fm
use Rattle.lwc_base.specs.declared.item.Item.{Item}
use Rattle.lwc_base.specs.Ranges.{ranges, ranges_of}
use Rattle.lwc_base.specs.World.{World, Context, Group, add_context, add_group, change_group, changed_group, change_counters, context, new_context, new_group}
use Rattle.lwc_types.specs.declared.name.Name.{Name}
use Rattle.lwc_types.specs.declared.regs.Regs.{Regs}
use Rattle.lwc_types.specs.declared.limits.TheConstants.{MOST_PAGES}
use Rattle.lwc_types.specs.declared.right.Right.{Right}
use Rattle.range_map.specs.Kinds as kinds
use Rattle.lazy_world.specs.declared.world.PlacedWorld.{PlacedWorld}
use Rattle.lazy_world.specs.declared.pieces.PageOrigins.{PageOrigins}
use Rattle.lazy_world.specs.declared.pieces.PageOrigins.TheVariants.{AllOf, PageRuns}
use Rattle.lazy_world.specs.Origins.{any_steps, most_nodes, most_steps}
use Rattle.lazy_world.specs.Cells.{HasOwnPages, Row, states_of}
use Rattle.lazy_world.specs.Clones.{change_nodes, change_steps, copy_nodes, fill_nodes, fill_steps}
use Rattle.lazy_world.specs.Costs.{CopySteps, CopyStore, TakesNodes, pieces}
use Rattle.lazy_world.specs.Seen.{KeepsStore}
use Rattle.lazy_world.specs.Worlds.{seen}

-- a new group leaves the ranges of a context, and so does a change of a group
pub added-pieces : (w : World) (c : Name) (job : ℕ) (items : List Item) (v : World) → v ≡ add_group w job new_group → pieces v c items ≡ pieces w c items
unfolding ranges_of context add_group change_counters
added-pieces w c job items v is = ap (λ (u : World). pieces u c items) is

pub filled-pieces : (w : World) (c : Name) (items : List Item) (g : Name) (f : Group → Group) (v : World) → v ≡ change_group w g f → pieces v c items ≡ pieces w c items
unfolding ranges_of context change_group
filled-pieces w c items g f v is = ap (λ (u : World). pieces u c items) is ∙ by (fm.get w.groups g)
  where
    by : (o : Option Group) → pieces (changed_group w g f o) c items ≡ pieces w c items
    by None = refl
    by (Some x) = refl

-- and so does a new context that is another one
pub added-ranges : (w : World) (c : Name) (job uid : ℕ) (entry : Regs) → context (add_context w job (new_context uid entry)) c ≡ context w c → ranges_of (add_context w job (new_context uid entry)) c ≡ ranges_of w c
unfolding ranges_of add_context change_counters
added-ranges w c job uid entry same = ap (ranges w.size.pages) same

-- a place that had no pages takes less for the same page runs
pub fill-less : (rows : ℕ → Row) (rights : ℕ → ℕ → Right) (pages : PageOrigins) (p : ℕ) → any_steps pages ≤ change_steps p → (most_nodes pages ≤ fill_nodes p) × (most_steps rows rights pages ≤ fill_steps p)
fill-less rows rights (AllOf j) p few = (omega arith, let one = min-le_left 1 (kinds.ranges MOST_PAGES (states_of (rows j) (rights j))) in omega (arith, one))
fill-less rows rights (PageRuns page_runs reads) p few =
    let one = min-le_left 1 (length page_runs.items) in (omega (arith, few, one), omega (arith, few))

-- what a new group gets, and a change of pages
pub takes-both : (a b d e : PlacedWorld) (p m n : ℕ) → m ≡ p → n ≡ p → KeepsStore a.places b.places → TakesNodes b d (fill_nodes m) → TakesNodes d e (change_nodes n) → TakesNodes a e (fill_nodes p + change_nodes p)
takes-both a b d e p m n first second kept one two = record {
  frames = omega (arith, kept.free, one.frames, two.frames);
  pool = two.pool ∙ one.pool ∙ kept.pool;
  nodes = omega (arith, first, second, kept.nodes, one.nodes, two.nodes);
}

-- sharing, a new context and a copy
pub clone-takes : (a b d e : PlacedWorld) (c : Name) (items : List Item) (p q : ℕ) → TakesNodes a b (fill_nodes p + change_nodes p) → KeepsStore b.places d.places → pieces (seen d) c items ≡ q → CopyStore d e c items →
    TakesNodes a e (fill_nodes p + change_nodes p + copy_nodes q)
clone-takes a b d e c items p q shared kept same copy = record {
  frames = omega (arith, shared.frames, kept.free, copy.frames);
  pool = copy.pool ∙ kept.pool ∙ shared.pool;
  nodes = omega (arith, shared.nodes, kept.nodes, copy.nodes, ap copy_nodes same);
}

-- a copy from a context that was there before with the same cells, rights and ranges
pub copy-before : (a d e : PlacedWorld) (c : Name) (items : List Item) → context (seen d) c ≡ context (seen a) c → pieces (seen d) c items ≡ pieces (seen a) c items → KeepsStore a.places d.places → CopyStore d e c items → CopyStore a e c items
copy-before a d e c items here same kept copy = record {
  frames = copy.frames ∙ kept.free;
  pool = copy.pool ∙ kept.pool;
  nodes = omega (arith, kept.nodes, copy.nodes, ap copy_nodes same);
  whole = λ copies own. let all = copy.whole copies (subst (λ (x : Context). HasOwnPages x.cell) (sym here) own) in omega (arith, kept.nodes, all);
}

pub steps-before : (a d e : PlacedWorld) (c : Name) (items : List Item) → context (seen d) c ≡ context (seen a) c → ranges_of (seen d) c ≡ ranges_of (seen a) c → KeepsStore a.places d.places → CopySteps d e c items → CopySteps a e c items
steps-before a d e c items here same kept copy = record {
  all = omega (arith, kept.steps, copy.all, same);
  whole = λ copies own. let all = copy.whole copies (subst (λ (x : Context). HasOwnPages x.cell) (sym here) own) in omega (arith, kept.steps, all, ap (min 1) same);
}
