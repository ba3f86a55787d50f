-- The facts of the definitions that the crates above cite.
use Rattle.std.proofs.Common.{◌≡◌, ◌≢◌, ℕ, ◌+◌, subst, true, eqb, ◌&&◌, List, arith, rules}
use Rattle.std.specs.Prelude.{if◌then◌else◌}
use Rattle.std.specs.FinMap as fm
use Rattle.lwc_base.specs.declared.cell.Cell.TheVariants.{Own, Common}
use Rattle.lwc_base.specs.declared.item.Item.{Item}
use Rattle.lwc_base.specs.Cells.{put_at, with_cell, with_value}
use Rattle.lwc_base.specs.Facts.{AddsContext, ChangeFacts, CountFacts, FreshFacts, OrderFacts, SharesValues}
use Rattle.lwc_base.specs.Fresh.{IsFresh, IsNamedGroup, named_groups}
use Rattle.lwc_base.specs.Holders.{InCell, InContext, IsGroup}
use Rattle.lwc_base.specs.Keys.{ValueOf, is_there}
use Rattle.lwc_base.specs.Mapping.{map_pages, unmap_pages}
use Rattle.lwc_base.specs.Overlay.{overlay}
use Rattle.lwc_base.specs.Saved.{save}
use Rattle.lwc_base.specs.Sharing.{clone_context, cloned_context, needs_group}
use Rattle.lwc_base.specs.World.{World, Context, context, groups_of, live_of, is_live, new_group, change_context, change_group, next_context, next_group}
use Rattle.lwc_base.proofs.Clones.{next_context-share}
use Rattle.lwc_base.proofs.Counted.{count_by-same, count_by-more, len-alike, len-more}
use Rattle.lwc_base.proofs.Fresh.{fresh-add_context, fresh-add_group, fresh-after_store, fresh-change_context, fresh-change_counters, fresh-change_group, fresh-clone_context, fresh-empty_world, fresh-insert_context, fresh-insert_group, fresh-map_pages, fresh-overlay, fresh-put_at, fresh-put_pages, fresh-save, fresh-share, fresh-unmap_pages, next_context-new, next_group-new}
use Rattle.lwc_base.proofs.Holders.{in_clone, lets-everywhere}
use Rattle.lwc_base.proofs.Lookups.{adds-add_context, adds-add_group, changes-change_context, changes-change_group}
use Rattle.lwc_base.proofs.Puts.{live_of_common, names-put_at, names-put_pages, takes-after_store}
use Rattle.lwc_base.proofs.Reaps.{fewer-reap, fresh-reap}
use Rattle.lwc_base.proofs.Sharing.{context-same, group-same, shares-share}
use Rattle.lwc_types.specs.declared.regs.Regs.{Regs}
use Rattle.lwc_types.specs.declared.key.Key.{Key}
use Rattle.lwc_types.specs.declared.name.Name.{Name}
use Rattle.lwc_types.proofs.Orders.{name_cmp-total, name_cmp-IsAntisymmetric, tag_cmp-total, tag_cmp-IsAntisymmetric}

pub orders : OrderFacts
orders = record { names = name_cmp-total; one_name = name_cmp-IsAntisymmetric; tags = tag_cmp-total; one_tag = tag_cmp-IsAntisymmetric }

put_own : (w : World) (c : Name) (k : Key) (old value : ValueOf k) → (context w c).cell k ≡ Own old → is_there k old ≡ true →
    put_at w c k value ≡ change_context w c (with_cell k (Own value))
unfolding put_at
put_own w c k old value own there = grind arith

put_common : (w : World) (c : Name) (k : Key) (g : Name) (value : ValueOf k) → (context w c).cell k ≡ Common g → put_at w c k value ≡ change_group w g (with_value k value)
unfolding put_at
put_common w c k g value common = grind arith

ruleset small = (context-same, group-same, changes-change_context, changes-change_group, adds-add_context, adds-add_group)

pub changes : ChangeFacts
unfolding map_pages unmap_pages clone_context save overlay
changes = search (rules, small, names-put_at, put_own, put_common, names-put_pages, takes-after_store, shares-share, next_context-share)

module _ (w v : World) (job j : ℕ) where
  live_of-same : ((c : Name) → is_live v c ≡ is_live w c) → live_of v job ≡ live_of w job
  unfolding live_of
  live_of-same same = count_by-same v.contexts w.contexts same (λ c. eqb c.job job)

  groups_of-same : ((g : Name) → fm.contains_key v.groups g ≡ fm.contains_key w.groups g) → groups_of v job ≡ groups_of w job
  unfolding groups_of
  groups_of-same same = count_by-same v.groups w.groups same (λ g. eqb g.job job)

  module _ (fresh : IsFresh w) where
    contexts-more : (x : Context) → AddsContext w job x v → (live_of v j ≡ (if eqb j job then live_of w j + 1 else live_of w j)) × (fm.len v.contexts ≡ fm.len w.contexts + 1)
    unfolding live_of
    contexts-more x adds =
        let new = next_context-new w job fresh in
        (count_by-more v.contexts w.contexts (next_context w job) x adds.live adds.still_live new j, len-more v.contexts w.contexts (next_context w job) x adds.live adds.still_live new)

    groups-more : IsGroup v (next_group w job) → ((g : Name) → g ≢ next_group w job → fm.contains_key v.groups g ≡ fm.contains_key w.groups g) →
        (groups_of v j ≡ (if eqb j job then groups_of w j + 1 else groups_of w j)) × (fm.len v.groups ≡ fm.len w.groups + 1)
    unfolding groups_of
    groups-more live others =
        let new = next_group-new w job fresh in
        (count_by-more v.groups w.groups (next_group w job) new_group live others new j, len-more v.groups w.groups (next_group w job) new_group live others new)

    groups-shared : (c : Name) (items : List Item) → SharesValues w c job items v →
        (groups_of v j ≡ (if needs_group w c items && eqb j job then groups_of w j + 1 else groups_of w j))
        × (fm.len v.groups ≡ (if needs_group w c items then fm.len w.groups + 1 else fm.len w.groups))
    groups-shared c items shares = let more = λ (live : IsGroup v (next_group w job)). groups-more live shares.still_live in (grind (arith, more), grind (arith, more))

pub counts : CountFacts
counts = record {
  same_contexts = λ w v job same. (live_of-same w v job 0 same, len-alike v.contexts w.contexts same);
  same_groups = λ w v job same. (groups_of-same w v job 0 same, len-alike v.groups w.groups same);
  context_added = λ w v job j x fresh. contexts-more w v job j fresh x;
  group_added = λ w v job j x fresh adds. groups-more w v job j fresh adds.live adds.still_live;
  shared = λ w v c job j items fresh. groups-shared w v job j fresh c items;
  reaped = fewer-reap;
}

named : (w : World) (c : Name) (k : Key) (g : Name) → IsFresh w → (context w c).cell k ≡ Common g → IsNamedGroup w.next g
named w c k g fresh is = subst (InCell (named_groups w.next) c.job k) is (fresh.cells.contexts c (live_of_common w c k g is) k)

change : (w : World) (c : Name) (f : Context → Context) → (is_live w c ≡ true → InContext (named_groups w.next) c.job (context w c) → InContext (named_groups w.next) c.job (f (context w c))) →
    IsFresh w → IsFresh (change_context w c f)
change w c f fits fresh = fresh-change_context w c f (λ live. fits live (fresh.cells.contexts c live)) fresh

clone_cells : (w : World) (c : Name) (job : ℕ) (items : List Item) (entry : Regs) → is_live w c ≡ true → IsFresh w → InContext (named_groups w.next) job (cloned_context w c items entry)
clone_cells w c job items entry live fresh = in_clone (named_groups w.next) w c job items live (λ i k. tt) (lets-everywhere _ _ c.job job) fresh.cells entry (λ k g value _ _. tt)

ruleset small_fresh = (fresh-empty_world, fresh-insert_context, fresh-insert_group, change, fresh-change_group, fresh-change_counters, fresh-add_context, fresh-add_group)

ruleset calls_fresh = (fresh-put_at, fresh-put_pages, fresh-map_pages, fresh-unmap_pages, fresh-after_store, fresh-share, clone_cells, fresh-clone_context, fresh-save, fresh-overlay, fresh-reap)

pub stays_fresh : FreshFacts
stays_fresh = search (rules, next_context-new, next_group-new, named, small_fresh, calls_fresh)
