-- A request's context as a copy of its home in which two slots are put.
use Rattle.std.proofs.Common.{◌≡◌, ℕ, ◌+◌, refl, sym, ap, ◌∙◌, Bool, true, false, cond, eqb, Some, None, []}
use Rattle.std.specs.FinMap as fm
use Rattle.std.specs.Ordering.{eq_by_cmp}
use Rattle.lwc_base.specs.Cells.{put_slot, slot_at, value_at, with_cell}
use Rattle.lwc_base.specs.Keys.{with_key}
use Rattle.lwc_base.specs.Modes.{mode, mode_or_copy}
use Rattle.lwc_base.specs.Sharing.{clone_context, cloned_context, needs_group, share}
use Rattle.lwc_base.specs.World.{World, Context, add_context, change_context, change_counters, changed_context, context, next_context}
use Rattle.lwc_base.specs.declared.cell.Cell.{Cell}
use Rattle.lwc_base.specs.declared.cell.Cell.TheVariants.{Own}
use Rattle.lwc_base.specs.declared.descriptor.Descriptor.{Descriptor}
use Rattle.lwc_base.specs.declared.descriptor.Descriptor.TheVariants.{Reply, Request}
use Rattle.lwc_base.specs.declared.item.Mode.TheVariants.{Copy}
use Rattle.lwc_types.specs.Names.{name_cmp}
use Rattle.lwc_types.specs.declared.key.Key.{Key}
use Rattle.lwc_types.specs.declared.key.Key.TheVariants.{Page, Slot, Cred}
use Rattle.lwc_types.specs.declared.name.Name.{Name}
use Rattle.lwc_types.specs.declared.regs.Regs.{Regs}
use Rattle.snapshot_host.specs.Begin.{begin, begun_context, begun_value}
use Rattle.lwc_base.proofs.Facts.{changes, orders}
use Rattle.lwc_base.proofs.Needs.{not_needed}
use Rattle.lwc_base.proofs.Sharing.{shares-share}
use Rattle.lwc_types.proofs.Orders.{name-itself}

-- under no item each key is copied
pub copied : (k : Key) → mode_or_copy [] k ≡ Copy
unfolding mode_or_copy mode
copied k = refl

-- a copy by no item
abbrev pub copy_of : World → Name → Regs → Context
copy_of w home entry = record { cell = λ k. Own (value_at w home k); right = (context w home).right; entry = entry; saved = λ t. None }

pub is_copy : (w : World) (home : Name) (entry : Regs) → cloned_context w home [] entry ≡ copy_of w home entry
unfolding cloned_context mode_or_copy mode
is_copy w home entry = refl

pub chosen_twice : {A : Type 0} (b : Bool) (x y z : A) → cond b x (cond b y z) ≡ cond b x z
chosen_twice true x y z = refl
chosen_twice false x y z = refl

pub insert-twice : (m : fm.FinMap name_cmp Context) (c : Name) (x y : Context) → fm.insert (fm.insert m c x) c y ≡ fm.insert m c y
insert-twice m c x y = fm.same_map orders.names orders.one_name _ _ (λ q.
    fm.get-insert orders.names (fm.insert m c x) c y q
    ∙ ap (cond (eq_by_cmp name_cmp q c) (Some y)) (fm.get-insert orders.names m c x q)
    ∙ chosen_twice (eq_by_cmp name_cmp q c) (Some y) (Some x) (fm.get m q)
    ∙ sym (fm.get-insert orders.names m c y q))

-- a change of the context that a job has just made
pub changed_added : (w : World) (job : ℕ) (x : Context) (f : Context → Context) → change_context (add_context w job x) (next_context w job) f ≡ add_context w job (f x)
unfolding change_context add_context change_counters
changed_added w job x f =
    let c = next_context w job in
    ap (changed_context (add_context w job x) c f) (fm.get-insert orders.names w.contexts c x c ∙ ap (λ b. cond b (Some x) (fm.get w.contexts c)) (name-itself c))
    ∙ ap (λ m. record (add_context w job x) { contexts = m }) (insert-twice w.contexts c x (f x))

-- a slot of it is put
pub put_added : (w : World) (job : ℕ) (x : Context) (n : ℕ) (old value : Descriptor) → x.cell (Slot n) ≡ Own old →
    put_slot (add_context w job x) (next_context w job) n value ≡ add_context w job (with_cell (Slot n) (Own value) x)
put_added w job x n old value own =
    changes.put_own (add_context w job x) (next_context w job) (Slot n) old value (ap (λ (y : Context). y.cell (Slot n)) (changes.context_added w job x).added ∙ own) refl
    ∙ changed_added w job x (with_cell (Slot n) (Own value))

own_slot : (a b : Bool) (d e f : Descriptor) → cond a (Own d) (cond b (Own e) (Own f)) ≡ Own (cond a d (cond b e f))
own_slot true b d e f = refl
own_slot false true d e f = refl
own_slot false false d e f = refl

both_cells : (w : World) (home : Name) (r : ℕ) (k : Key) →
    with_key Cell (Slot 0) (Own (Request r 0)) (with_key Cell (Slot 1) (Own (Reply r)) (λ q. Own (value_at w home q))) k ≡ Own (begun_value w home r k)
both_cells w home r (Page p) = refl
both_cells w home r (Slot n) = own_slot (eqb n 0) (eqb n 1) (Request r 0) (Reply r) (slot_at w home n)
both_cells w home r Cred = refl

both_put : (w : World) (home : Name) (r : ℕ) →
    with_cell (Slot 0) (Own (Request r 0)) (with_cell (Slot 1) (Own (Reply r)) (copy_of w home (context w home).entry)) ≡ begun_context w home r
unfolding begun_context
both_put w home r = λ i. record { cell = λ k. both_cells w home r k i; right = (context w home).right; entry = (context w home).entry; saved = λ t. None }

cloned : (w : World) (home : Name) (job : ℕ) (entry : Regs) → share w home job [] ≡ w → clone_context w home job [] entry ≡ add_context w job (copy_of w home entry)
unfolding clone_context
cloned w home job entry same = ap (λ (s : World). add_context s job (cloned_context s home [] entry)) same ∙ ap (add_context w job) (is_copy w home entry)

-- such a copy needs no group, and shares nothing
pub no_group : (w : World) (home : Name) → needs_group w home [] ≡ false
no_group w home = not_needed w home [] (λ k is share. absurd (let e = copied k in cc))

pub shares_nothing : (w : World) (home : Name) (job : ℕ) → share w home job [] ≡ w
shares_nothing w home job = (shares-share w home job []).none (no_group w home)

-- a request begins as a copy of the home, in which two slots are put
pub begun : (w : World) (home : Name) (r : ℕ) → begin w home r ≡ put_slot (put_slot (clone_context w home (r + 1) [] (context w home).entry) (next_context w (r + 1)) 1 (Reply r)) (next_context w (r + 1)) 0 (Request r 0)
unfolding begin
begun w home r =
    let entry = (context w home).entry in
    let c = next_context w (r + 1) in
    let copy = copy_of w home entry in
    sym (ap (λ (v : World). put_slot (put_slot v c 1 (Reply r)) c 0 (Request r 0)) (cloned w home (r + 1) entry (shares_nothing w home (r + 1)))
    ∙ ap (λ (v : World). put_slot v c 0 (Request r 0)) (put_added w (r + 1) copy 1 (slot_at w home 1) (Reply r) refl)
    ∙ put_added w (r + 1) (with_cell (Slot 1) (Own (Reply r)) copy) 0 (slot_at w home 0) (Request r 0) refl
    ∙ ap (add_context w (r + 1)) (both_put w home r))

-- what a beginning is
pub ruleset begins = (begun, no_group, shares_nothing)
