-- The context and the group of a name after each small change of a world.
use Rattle.std.proofs.Common.{◌≡◌, ℕ, true, false, arith, rules}
use Rattle.std.specs.FinMap as fm
use Rattle.lwc_base.specs.Facts.{KeepsNames, ChangesContext, ChangesGroup, AddsContext, AddsGroup}
use Rattle.lwc_base.specs.Holders.{IsGroup}
use Rattle.lwc_base.specs.World.{World, Context, Group, is_live, context, group, new_context, new_group, change_context, change_group, change_counters, add_context, add_group}
use Rattle.lwc_base.proofs.Tables.{entry-insert, contains_key-insert, contains_key-again}
use Rattle.lwc_types.specs.declared.name.Name.{Name}
use Rattle.lwc_types.specs.Registers.{fresh_registers}
use Rattle.lwc_types.proofs.Orders.{cases_name, name-itself, other_name}

-- a name that no context has stands for an empty context
pub context-dead : (w : World) (c : Name) → is_live w c ≡ false → context w c ≡ new_context 0 (fresh_registers 0)
unfolding context
context-dead w c dead = grind arith

-- and a name that no group has for an empty group
pub group-dead : (w : World) (g : Name) → fm.contains_key w.groups g ≡ false → group w g ≡ new_group
unfolding group
group-dead w g dead = grind arith

-- what is so of a world in which a live context is put in its own place, and of the world itself where it is not live
pub after_change_context : (P : World → Type 0) (w : World) (c : Name) (f : Context → Context) →
    (is_live w c ≡ true → P (record w { contexts = fm.insert w.contexts c (f (context w c)) })) → (is_live w c ≡ false → P w) → P (change_context w c f)
unfolding change_context context
after_change_context P w c f changed same = grind arith

-- the same of a group
pub after_change_group : (P : World → Type 0) (w : World) (g : Name) (f : Group → Group) →
    (IsGroup w g → P (record w { groups = fm.insert w.groups g (f (group w g)) })) → (fm.contains_key w.groups g ≡ false → P w) → P (change_group w g f)
unfolding change_group group
after_change_group P w g f changed same = grind arith

-- no name is new or gone
pub keeps_names-itself : (w : World) → KeepsNames w w
keeps_names-itself w = search rules

pub keeps_names-then : (u v w : World) → KeepsNames u v → KeepsNames v w → KeepsNames u w
keeps_names-then u v w first second = search rules

pub changes-change_context : (w : World) (c : Name) (f : Context → Context) → ChangesContext w c f (change_context w c f)
unfolding context group
changes-change_context w c f =
    after_change_context (ChangesContext w c f) w c f
    (λ live. search (rules, contains_key-again, name-itself, other_name, entry-insert)) (λ dead. search (rules, keeps_names-itself))

pub changes-change_group : (w : World) (g : Name) (f : Group → Group) → ChangesGroup w g f (change_group w g f)
unfolding context group
changes-change_group w g f =
    after_change_group (ChangesGroup w g f) w g f
    (λ live. search (rules, contains_key-again, name-itself, other_name, entry-insert)) (λ dead. search (rules, keeps_names-itself))

pub adds-add_context : (w : World) (job : ℕ) (x : Context) → AddsContext w job x (add_context w job x)
unfolding add_context change_counters context
adds-add_context w job x = search (rules, contains_key-insert, name-itself, other_name, entry-insert)

pub adds-add_group : (w : World) (job : ℕ) (x : Group) → AddsGroup w job x (add_group w job x)
unfolding add_group change_counters group
adds-add_group w job x = search (rules, contains_key-insert, name-itself, other_name, entry-insert)

-- what is so of the group that has changed, and of each group as it was, is so of each group
pub group-cases : (w : World) (g : Name) (f : Group → Group) (v : World) → ChangesGroup w g f v → (P : Name → Group → Type 0) →
    (IsGroup w g → P g (f (group w g))) → (h : Name) → P h (group w h) → P h (group v h)
group-cases w g f v changes P changed h same = grind (arith, cases_name)
