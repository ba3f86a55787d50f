-- What is so of each holder of a world stays so after each change that puts nothing else there.
use Rattle.std.proofs.Common.{◌≡◌, ℕ, ◌<◌, subst, true, Option, Some, None, List, [], ◌∷◌, length, arith, rules}
use Rattle.std.specs.List.{AllByRecursion}
use Rattle.std.proofs.lemmas.Bool.{cond_both}
use Rattle.std.specs.FinMap as fm
use Rattle.lwc_base.specs.declared.cell.Cell.{Cell}
use Rattle.lwc_base.specs.declared.cell.Cell.TheVariants.{Own, Common}
use Rattle.lwc_base.specs.declared.item.Item.{Item}
use Rattle.lwc_base.specs.declared.item.Mode.{Mode}
use Rattle.lwc_base.specs.declared.item.Mode.TheVariants.{Copy, Share, Unmap, CopyRead}
use Rattle.lwc_base.specs.Cells.{value_of, value_at, put_at, put_page, with_cell, with_value}
use Rattle.lwc_base.specs.Holders.{Rules, everywhere, InCell, InContext, InGroup, IsGroup, Keeps}
use Rattle.lwc_base.specs.Keys.{ValueOf, nothing}
use Rattle.lwc_base.specs.Mapping.{with_pages}
use Rattle.lwc_base.specs.Memory.{touched}
use Rattle.lwc_base.specs.Modes.{mode, mode_or_copy}
use Rattle.lwc_base.specs.Overlay.{overlaid_cell, with_overlay}
use Rattle.lwc_base.specs.Sharing.{is_moved, moved_value, moved_values, with_shared, share, cloned_cell, cloned_context}
use Rattle.lwc_base.specs.Store.{Piece, after_store, stored_pages, put_pages}
use Rattle.lwc_base.specs.World.{World, Context, Group, context, group, is_live, change_context, change_group, change_counters, add_context, next_context, add_group, next_group, empty_world}
use Rattle.lwc_base.proofs.Keys.{with_key-cases, on_pages-cases}
use Rattle.lwc_base.proofs.Lookups.{group-dead, after_change_context, after_change_group}
use Rattle.lwc_base.proofs.Puts.{live_of_common, after_put_at}
use Rattle.lwc_base.proofs.Tables.{each-insert}
use Rattle.lwc_types.specs.declared.counters.Counters.{Counters}
use Rattle.lwc_types.specs.declared.key.Key.{Key}
use Rattle.lwc_types.specs.declared.key.Key.TheVariants.{Page}
use Rattle.lwc_types.specs.declared.name.Name.{Name}
use Rattle.lwc_types.specs.declared.page.PageValue.{PageValue}
use Rattle.lwc_types.specs.declared.regs.Regs.{Regs}
use Rattle.lwc_types.specs.declared.size.WorldSize.{WorldSize}

module _ (rules weaker : Rules) (groups : (job : ℕ) (k : Key) (g : Name) → rules.group job k g → weaker.group job k g)
    (values : (job : ℕ) (k : Key) (value : ValueOf k) → rules.value job k value → weaker.value job k value) where
  -- a cell that keeps some rules keeps weaker ones
  pub in_cell-weaker : (job : ℕ) (k : Key) (cell : Cell (ValueOf k)) → InCell rules job k cell → InCell weaker job k cell
  in_cell-weaker job k (Own value) is = values job k value is
  in_cell-weaker job k (Common g) is = groups job k g is

  -- and so does a world
  pub keeps-weaker : (w : World) → Keeps rules w → Keeps weaker w
  keeps-weaker w keeps = record {
    contexts = λ c live k. in_cell-weaker c.job k ((context w c).cell k) (keeps.contexts c live k);
    groups = λ g live k. values g.job k ((group w g).value k) (keeps.groups g live k);
  }

module _ (rules : Rules) where
  pub keeps-empty_world : (size : WorldSize) → Keeps rules (empty_world size)
  unfolding empty_world
  keeps-empty_world size = grind (arith, fm.get-empty)

  pub keeps-insert_context : (w : World) (c : Name) (x : Context) → InContext rules c.job x → Keeps rules w → Keeps rules (record w { contexts = fm.insert w.contexts c x })
  unfolding context group
  keeps-insert_context w c x fits keeps = record { contexts = each-insert w.contexts c x _ (λ q y. InContext rules q.job y) fits keeps.contexts; groups = keeps.groups }

  pub keeps-insert_group : (w : World) (g : Name) (x : Group) → InGroup rules g.job x → Keeps rules w → Keeps rules (record w { groups = fm.insert w.groups g x })
  unfolding context group
  keeps-insert_group w g x fits keeps = record { contexts = keeps.contexts; groups = each-insert w.groups g x _ (λ q y. InGroup rules q.job y) fits keeps.groups }

  pub keeps-change_context : (w : World) (c : Name) (f : Context → Context) → (is_live w c ≡ true → InContext rules c.job (f (context w c))) →
      Keeps rules w → Keeps rules (change_context w c f)
  keeps-change_context w c f fits keeps = after_change_context (Keeps rules) w c f (λ live. keeps-insert_context w c _ (fits live) keeps) (λ _. keeps)

  pub keeps-change_group : (w : World) (g : Name) (f : Group → Group) → (IsGroup w g → InGroup rules g.job (f (group w g))) →
      Keeps rules w → Keeps rules (change_group w g f)
  keeps-change_group w g f fits keeps = after_change_group (Keeps rules) w g f (λ live. keeps-insert_group w g _ (fits live) keeps) (λ _. keeps)

  pub keeps-change_counters : (w : World) (job : ℕ) (f : Counters → Counters) → Keeps rules w → Keeps rules (change_counters w job f)
  unfolding change_counters context group
  keeps-change_counters w job f keeps = record { contexts = keeps.contexts; groups = keeps.groups }

  pub keeps-add_context : (w : World) (job : ℕ) (x : Context) → InContext rules job x → Keeps rules w → Keeps rules (add_context w job x)
  unfolding add_context
  keeps-add_context w job x fits keeps = keeps-change_counters _ job _ (keeps-insert_context w (next_context w job) x fits keeps)

  pub keeps-add_group : (w : World) (job : ℕ) (x : Group) → InGroup rules job x → Keeps rules w → Keeps rules (add_group w job x)
  unfolding add_group
  keeps-add_group w job x fits keeps = keeps-change_counters _ job _ (keeps-insert_group w (next_group w job) x fits keeps)

  -- another value is put, which the context may have, and so may the group that the cell names
  pub keeps-put_at : (w : World) (c : Name) (k : Key) (value : ValueOf k) → rules.value c.job k value →
      ((g : Name) → rules.group c.job k g → rules.value g.job k value) → Keeps rules w → Keeps rules (put_at w c k value)
  keeps-put_at w c k value fits into keeps =
      after_put_at (Keeps rules) w c k value (λ _ _ _. keeps)
      (λ old is there. keeps-change_context w c (with_cell k (Own value))
      (λ live q. with_key-cases Cell k (Own value) (context w c).cell (InCell rules c.job) fits q (λ _. keeps.contexts c live q)) keeps)
      (λ g is. keeps-change_group w g (with_value k value)
      (λ live q. with_key-cases (λ T. T) k value (group w g).value (rules.value g.job)
      (into g (subst (InCell rules c.job k) is (keeps.contexts c (live_of_common w c k g is) k))) q (λ _. keeps.groups g live q)) keeps)

  -- a context of a job, and the groups that its cells may name, may have each of these pages
  abbrev pub MayHave : ℕ → List (ℕ × PageValue) → Type 0
  MayHave job values =
      AllByRecursion (λ v. rules.value job (Page v.0) (Some v.1) × ((g : Name) → rules.group job (Page v.0) g → rules.value g.job (Page v.0) (Some v.1))) values

  pub keeps-put_pages : (w : World) (c : Name) (values : List (ℕ × PageValue)) → MayHave c.job values → Keeps rules w → Keeps rules (put_pages w c values)
  keeps-put_pages w c [] fits keeps = keeps
  keeps-put_pages w c (v ∷ vs) fits keeps = keeps-put_pages (put_page w c v.0 v.1) c vs fits.1 (keeps-put_at w c (Page v.0) (Some v.1) fits.0.0 fits.0.1 keeps)

  pub keeps-after_store : (w : World) (c : Name) (job : ℕ) (piece : Piece) →
      MayHave c.job (stored_pages w c job piece (w.next job).tags (touched piece.at (length piece.bytes))) → Keeps rules w → Keeps rules (after_store w c job piece)
  unfolding after_store
  keeps-after_store w c job piece fits keeps =
      keeps-change_counters _ job _ (keeps-put_pages w c (stored_pages w c job piece (w.next job).tags (touched piece.at (length piece.bytes))) fits keeps)

  -- pages of a range of the context's own become another value, as zeros or absent ones
  pub keeps-on_pages : (w : World) (c : Name) (from to : ℕ) (value : Option PageValue) → ((p : ℕ) → p < to → rules.value c.job (Page p) value) →
      Keeps rules w → Keeps rules (change_context w c (with_pages from to value))
  keeps-on_pages w c from to value fits keeps =
      keeps-change_context w c _ (λ live k. on_pages-cases from to (Own value) (context w c).cell (InCell rules c.job) fits k (keeps.contexts c live k)) keeps

-- what a job's holders may have, those of another job may have too
pub record Lets (rules : Rules) (i j : ℕ) : Type 0 where
  pub group : (k : Key) (g : Name) → rules.group i k g → rules.group j k g
  pub value : (k : Key) (value : ValueOf k) → rules.value i k value → rules.value j k value

-- pages are free where each value is
pub may_have-free : (rules : Rules) (job : ℕ) → ((i p : ℕ) (value : PageValue) → rules.value i (Page p) (Some value)) → (values : List (ℕ × PageValue)) → MayHave rules job values
may_have-free rules job free [] = tt
may_have-free rules job free (v ∷ vs) = ((free job v.0 v.1, λ g _. free g.job v.0 v.1), may_have-free rules job free vs)

-- rules that are the same for every job
pub lets-everywhere : (G : (k : Key) → Name → Type 0) (V : (k : Key) → ValueOf k → Type 0) (i j : ℕ) → Lets (everywhere G V) i j
lets-everywhere G V i j = record { group = λ k g is. is; value = λ k value is. is }

-- what is under a key of a live context, where a context may have what a group has that its cells may name
module _ (rules : Rules) (w : World) (c : Name) (live : is_live w c ≡ true) (none : (i : ℕ) (k : Key) → rules.value i k (nothing k))
    (out : (k : Key) (g : Name) (value : ValueOf k) → rules.group c.job k g → rules.value g.job k value → rules.value c.job k value) (keeps : Keeps rules w) where
  value_of-keeps : (k : Key) (cell : Cell (ValueOf k)) → InCell rules c.job k cell → rules.value c.job k (value_of w k cell)
  value_of-keeps k (Own value) is = is
  value_of-keeps k (Common g) is = out k g ((group w g).value k) is (let live = keeps.groups g in let dead = group-dead w g in let empty = none g.job k in grind arith)

  pub value_at-keeps : (k : Key) → rules.value c.job k (value_at w c k)
  unfolding value_at
  value_at-keeps k = value_of-keeps k ((context w c).cell k) (keeps.contexts c live k)

module _ (rules : Rules) (w : World) (c : Name) (job : ℕ) (items : List Item) (live : is_live w c ≡ true)
    (none : (i : ℕ) (k : Key) → rules.value i k (nothing k)) (lets : Lets rules c.job job) (keeps : Keeps rules w) where
  in_moved : (mode : Mode) (k : Key) (cell : Cell (ValueOf k)) → InCell rules c.job k cell → rules.value job k (moved_value mode k cell)
  in_moved Share k (Own value) is = lets.value k value is
  in_moved _ k _ is = none job k

  -- values are shared, in a group that the context's cells may name
  pub keeps-share : ((k : Key) → is_moved (mode_or_copy items k) k ((context w c).cell k) ≡ true → rules.group c.job k (next_group w job)) →
      Keeps rules (share w c job items)
  unfolding share with_shared moved_values
  keeps-share named = grind (arith, cond_both, keeps-add_group, in_moved, keeps-change_context)

  in_lets : (k : Key) (cell : Cell (ValueOf k)) → InCell rules c.job k cell → InCell rules job k cell
  in_lets k (Own value) is = lets.value k value is
  in_lets k (Common g) is = lets.group k g is

  -- a cell that a context of the job gets of the context
  pub in_cloned_cell : ((k : Key) (g : Name) (value : ValueOf k) → rules.group c.job k g → rules.value g.job k value → rules.value c.job k value) →
      (k : Key) (mode : Mode) → InCell rules job k (cloned_cell w c k mode)
  in_cloned_cell out k Copy = lets.value k _ (value_at-keeps rules w c live none out keeps k)
  in_cloned_cell out k Share = in_lets k ((context w c).cell k) (keeps.contexts c live k)
  in_cloned_cell out k Unmap = none job k
  in_cloned_cell out k CopyRead = lets.value k _ (value_at-keeps rules w c live none out keeps k)

  -- the cells of a context that is made from the context
  pub in_clone : (entry : Regs) → ((k : Key) (g : Name) (value : ValueOf k) → rules.group c.job k g → rules.value g.job k value → rules.value c.job k value) →
      InContext rules job (cloned_context w c items entry)
  unfolding cloned_context
  in_clone entry out k = in_cloned_cell out k (mode_or_copy items k)

-- a context takes over from another one
pub keeps-with_overlay : (rules : Rules) (w : World) (c d : Name) (items : List Item) → is_live w d ≡ true → ((i : ℕ) (k : Key) → rules.value i k (nothing k)) → Lets rules d.job c.job →
    ((k : Key) (g : Name) (value : ValueOf k) → rules.group d.job k g → rules.value g.job k value → rules.value d.job k value) → Keeps rules w →
    Keeps rules (change_context w c (with_overlay w d items))
keeps-with_overlay rules w c d items there none lets out keeps = keeps-change_context rules w c (with_overlay w d items) (λ live k. at live k (mode items k)) keeps
  where
    at : is_live w c ≡ true → (k : Key) (m : Option Mode) → InCell rules c.job k (overlaid_cell w d k m ((context w c).cell k))
    at live k None = keeps.contexts c live k
    at live k (Some m) = in_cloned_cell rules w d c.job items there none lets keeps out k m
