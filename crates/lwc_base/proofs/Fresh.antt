-- Fresh worlds: the empty world is one, each change of a world keeps it so, and in it the next names of a job are new.
use Rattle.std.proofs.Common.{◌≡◌, ℕ, ◌+◌, ◌<◌, ◌∙◌, true, false, eqb, Some, None, List, length, arith, rules}
use Rattle.std.proofs.lemmas.Bool.Decides.{nat_tests}
use Rattle.std.proofs.lemmas.Bool.{cases_Bool, cond_both, eqb-true}
use Rattle.std.specs.FinMap as fm
use Rattle.lwc_base.specs.declared.cell.Cell.{Cell}
use Rattle.lwc_base.specs.declared.item.Item.{Item}
use Rattle.lwc_base.specs.Cells.{put_at}
use Rattle.lwc_base.specs.Facts.{KeepsNames, with_context, with_group}
use Rattle.lwc_base.specs.Fresh.{IsFresh, IsNamedContext, IsNamedGroup, Rises, named_groups}
use Rattle.lwc_base.specs.Holders.{InCell, InContext, Keeps}
use Rattle.lwc_base.specs.Keys.{ValueOf}
use Rattle.lwc_base.specs.Mapping.{map_pages, unmap_pages}
use Rattle.lwc_base.specs.Memory.{touched}
use Rattle.lwc_base.specs.Overlay.{overlay, with_overlay}
use Rattle.lwc_base.specs.Saved.{save, with_saved}
use Rattle.lwc_base.specs.Sharing.{cloned_context, share, clone_context}
use Rattle.lwc_base.specs.Store.{Piece, after_store, parting_count, stored_pages, put_pages}
use Rattle.lwc_base.specs.World.{World, Context, Group, is_live, context, change_context, change_group, change_counters, empty_world, add_context, next_context, add_group, next_group}
use Rattle.lwc_base.proofs.Holders.{keeps-weaker, in_cell-weaker, keeps-empty_world, keeps-insert_context, keeps-insert_group, keeps-change_context, keeps-change_group, keeps-change_counters, keeps-put_at, keeps-put_pages, keeps-on_pages, keeps-share, may_have-free, in_clone, keeps-with_overlay, lets-everywhere}
use Rattle.lwc_base.proofs.Lookups.{changes-change_context, changes-change_group}
use Rattle.lwc_base.proofs.Puts.{names-put_at, names-put_pages}
use Rattle.lwc_base.proofs.Sharing.{shares-share}
use Rattle.lwc_base.proofs.Tables.{each-insert}
use Rattle.lwc_types.specs.declared.counters.Counters.{Counters}
use Rattle.lwc_types.specs.declared.key.Key.{Key}
use Rattle.lwc_types.specs.declared.name.Name.{Name}
use Rattle.lwc_types.specs.declared.page.PageValue.{PageValue}
use Rattle.lwc_types.specs.declared.page.PageValue.TheVariants.{Zero}
use Rattle.lwc_types.specs.declared.regs.Regs.{Regs}
use Rattle.lwc_types.specs.declared.size.WorldSize.{WorldSize}
use Rattle.lwc_types.proofs.Orders.{cases_name}

pub rises-itself : (n : Counters) → Rises n n
rises-itself n = search rules

pub rises-with_context : (next : ℕ → Counters) (job j : ℕ) → Rises (next j) (with_context next job j)
rises-with_context next job j = cond_both (eqb j job) _ (next j) (Rises (next j)) (λ _. search rules) (λ _. search rules)

pub rises-with_group : (next : ℕ → Counters) (job j : ℕ) → Rises (next j) (with_group next job j)
rises-with_group next job j = cond_both (eqb j job) _ (next j) (Rises (next j)) (λ _. search rules) (λ _. search rules)

-- a new context of a job is counted
one_more_context : (next : ℕ → Counters) (job : ℕ) → (next job).contexts < (with_context next job job).contexts
one_more_context next job = grind (arith, nat_tests)

-- a new group of a job is counted
one_more_group : (next : ℕ → Counters) (job : ℕ) → (next job).groups < (with_group next job job).groups
one_more_group next job = grind (arith, nat_tests)

-- the groups that have been named stay so when counts rise
module _ (next later : ℕ → Counters) (rises : (job : ℕ) → Rises (next job) (later job)) where
  in_named-rises : (job : ℕ) (k : Key) (cell : Cell (ValueOf k)) → InCell (named_groups next) job k cell → InCell (named_groups later) job k cell
  in_named-rises = in_cell-weaker (named_groups next) (named_groups later) (λ job k g named. omega (arith, named, (rises g.job).groups)) (λ job k value is. tt)

  named_groups-rises : (w : World) → Keeps (named_groups next) w → Keeps (named_groups later) w
  named_groups-rises = keeps-weaker (named_groups next) (named_groups later) (λ job k g named. omega (arith, named, (rises g.job).groups)) (λ job k value is. tt)

-- a fresh world stays fresh where no name is new
fresh-names : (w v : World) → KeepsNames w v → (Keeps (named_groups w.next) w → Keeps (named_groups w.next) v) → IsFresh w → IsFresh v
fresh-names w v names cells fresh = search rules

pub fresh-empty_world : (size : WorldSize) → IsFresh (empty_world size)
unfolding empty_world
fresh-empty_world size = search (rules, fm.get-empty, keeps-empty_world)

-- a context whose name and whose groups have been named
pub fresh-insert_context : (w : World) (c : Name) (x : Context) → IsNamedContext w.next c → InContext (named_groups w.next) c.job x →
    IsFresh w → IsFresh (record w { contexts = fm.insert w.contexts c x })
fresh-insert_context w c x named fits fresh = record {
  contexts = each-insert w.contexts c x x (λ d _. IsNamedContext w.next d) named fresh.contexts;
  groups = fresh.groups;
  cells = keeps-insert_context (named_groups w.next) w c x fits fresh.cells;
}

-- a group whose name has been named
pub fresh-insert_group : (w : World) (g : Name) (x : Group) → IsNamedGroup w.next g → IsFresh w → IsFresh (record w { groups = fm.insert w.groups g x })
fresh-insert_group w g x named fresh = record {
  contexts = fresh.contexts;
  groups = each-insert w.groups g x x (λ h _. IsNamedGroup w.next h) named fresh.groups;
  cells = keeps-insert_group (named_groups w.next) w g x (λ k. tt) fresh.cells;
}

pub fresh-change_context : (w : World) (c : Name) (f : Context → Context) → (is_live w c ≡ true → InContext (named_groups w.next) c.job (f (context w c))) →
    IsFresh w → IsFresh (change_context w c f)
fresh-change_context w c f fits = fresh-names w _ (changes-change_context w c f).names (keeps-change_context _ w c f fits)

pub fresh-change_group : (w : World) (g : Name) (f : Group → Group) → IsFresh w → IsFresh (change_group w g f)
fresh-change_group w g f = fresh-names w _ (changes-change_group w g f).names (keeps-change_group _ w g f (λ live k. tt))

pub fresh-change_counters : (w : World) (job : ℕ) (f : Counters → Counters) → Rises (w.next job) (f (w.next job)) → IsFresh w → IsFresh (change_counters w job f)
unfolding change_counters
fresh-change_counters w job f rises fresh = search (rules, cond_both, eqb-true, keeps-change_counters, named_groups-rises)

pub fresh-put_at : (w : World) (c : Name) (k : Key) (value : ValueOf k) → IsFresh w → IsFresh (put_at w c k value)
fresh-put_at w c k value = fresh-names w _ (names-put_at w c k value) (keeps-put_at _ w c k value tt (λ g _. tt))

pub fresh-put_pages : (w : World) (c : Name) (values : List (ℕ × PageValue)) → IsFresh w → IsFresh (put_pages w c values)
fresh-put_pages w c values = fresh-names w _ (names-put_pages w c values) (keeps-put_pages _ w c values (may_have-free (named_groups w.next) c.job (λ i p value. tt) values))

pub fresh-map_pages : (w : World) (c : Name) (from to : ℕ) → IsFresh w → IsFresh (map_pages w c from to)
unfolding map_pages
fresh-map_pages w c from to = fresh-names w _ (changes-change_context w c _).names (keeps-on_pages _ w c from to (Some Zero) (λ p _. tt))

pub fresh-unmap_pages : (w : World) (c : Name) (from to : ℕ) → IsFresh w → IsFresh (unmap_pages w c from to)
unfolding unmap_pages
fresh-unmap_pages w c from to = fresh-names w _ (changes-change_context w c _).names (keeps-on_pages _ w c from to None (λ p _. tt))

pub fresh-after_store : (w : World) (c : Name) (job : ℕ) (piece : Piece) → IsFresh w → IsFresh (after_store w c job piece)
unfolding after_store
fresh-after_store w c job piece fresh =
    let values : List (ℕ × PageValue) = stored_pages w c job piece (w.next job).tags (touched piece.at (length piece.bytes)) in
    fresh-change_counters (put_pages w c values) job (λ n. record n { tags = n.tags + parting_count w c piece })
    (search rules) (fresh-put_pages w c values fresh)

pub fresh-add_context : (w : World) (job : ℕ) (x : Context) → InContext (named_groups w.next) job x → IsFresh w → IsFresh (add_context w job x)
unfolding add_context change_counters
fresh-add_context w job x fits fresh =
    let more : Counters → Counters = λ n. record n { contexts = n.contexts + 1 } in
    let counted : IsFresh (change_counters w job more) = fresh-change_counters w job more (search rules) fresh in
    fresh-insert_context (change_counters w job more) (next_context w job) x (one_more_context w.next job)
    (λ k. in_named-rises w.next (with_context w.next job) (rises-with_context w.next job) job k (x.cell k) (fits k)) counted

pub fresh-add_group : (w : World) (job : ℕ) (x : Group) → IsFresh w → IsFresh (add_group w job x)
unfolding add_group change_counters
fresh-add_group w job x fresh =
    let more : Counters → Counters = λ n. record n { groups = n.groups + 1 } in
    let counted : IsFresh (change_counters w job more) = fresh-change_counters w job more (search rules) fresh in
    fresh-insert_group (change_counters w job more) (next_group w job) x (one_more_group w.next job) counted

module _ (w : World) (c : Name) (job : ℕ) (items : List Item) (live : is_live w c ≡ true) (fresh : IsFresh w) where
  pub fresh-share : IsFresh (share w c job items)
  fresh-share = search (rules, shares-share, cases_Bool, rises-with_group, one_more_group, cases_name, keeps-share, lets-everywhere, named_groups-rises)

  pub fresh-clone_context : (entry : Regs) → IsFresh (clone_context w c job items entry)
  unfolding clone_context
  fresh-clone_context entry =
      let v : World = share w c job items in
      fresh-add_context v job (cloned_context v c items entry)
      (in_clone (named_groups v.next) v c job items ((shares-share w c job items).live c ∙ live) (λ i k. tt) (lets-everywhere _ _ c.job job)
      fresh-share.cells entry (λ k g value _ _. tt)) fresh-share

pub fresh-save : (w : World) (c : Name) (t : ℕ) (regs : Regs) → IsFresh w → IsFresh (save w c t regs)
unfolding save
fresh-save w c t regs fresh = fresh-change_context w c (with_saved t regs) (λ live. fresh.cells.contexts c live) fresh

pub fresh-overlay : (w : World) (c d : Name) (job : ℕ) (items : List Item) → is_live w d ≡ true → IsFresh w → IsFresh (overlay w c d job items)
unfolding overlay
fresh-overlay w c d job items there fresh =
    let s : World = share w d job items in
    let shared : IsFresh s = fresh-share w d job items there fresh in
    fresh-names s _ (changes-change_context s c (with_overlay s d items)).names
    (keeps-with_overlay (named_groups s.next) s c d items ((shares-share w d job items).live d ∙ there) (λ i k. tt) (lets-everywhere _ _ d.job c.job) (λ k g value _ _. tt)) shared

-- no context has the next name of a job
pub next_context-new : (w : World) (job : ℕ) → IsFresh w → is_live w (next_context w job) ≡ false
next_context-new w job fresh = grind (arith, fresh.contexts (next_context w job))

-- no group has the next name of a job
pub next_group-new : (w : World) (job : ℕ) → IsFresh w → fm.contains_key w.groups (next_group w job) ≡ false
next_group-new w job fresh = grind (arith, fresh.groups (next_group w job))
