-- A context's values that have moved into a new group.
use Rattle.std.proofs.Common.{◌≡◌, ℕ, zero, suc, ◌+◌, ◌≤◌, List, [], ◌∷◌, arith, refl, sym, ap, ◌∙◌, Bool, true, false, cond, Option, Some, None}
use Rattle.std.specs.Prelude.{◌&&◌, not, count_by, is_some, unwrap_or}
use Rattle.std.specs.Ordering.{eq_by_cmp, is_eq}
use Rattle.std.specs.Cmp.{eq_by_cmp_equiv}
use Rattle.std.specs.List.{fold, range_with_len}
use Rattle.std.specs.FinMap as fm
use Rattle.lwc_base.specs.declared.cell.Cell.{Cell}
use Rattle.lwc_base.specs.declared.cell.Cell.TheVariants as cells
use Rattle.lwc_base.specs.declared.item.Item.{Item}
use Rattle.lwc_base.specs.declared.item.Mode.{Mode}
use Rattle.lwc_base.specs.declared.item.Mode.TheVariants.{Copy, Share, Unmap, CopyRead}
use Rattle.lwc_base.specs.Holders.{IsGroup}
use Rattle.lwc_base.specs.Rights.{same_right}
use Rattle.lwc_base.specs.Modes.{mode, mode_or_copy}
use Rattle.lwc_base.specs.Sharing.{is_moved, moved_value, moved_values, needs_group, share, with_shared}
use Rattle.lwc_base.specs.World.{World, Context, Group, add_group, change_context, change_counters, change_group, changed_context, changed_group, context, group, new_group, next_group}
use Rattle.lwc_types.specs.declared.key.Key.TheVariants.{Page}
use Rattle.lwc_types.specs.declared.name.Name.{Name}
use Rattle.lwc_types.specs.declared.page.PageValue.{PageValue}
use Rattle.lwc_types.specs.declared.right.Right.{Right}
use Rattle.lwc_types.specs.Names.{name_cmp}
use Rattle.range_map.specs.Kinds.{are_alike, begins_range, ranges, same_kind}
use Rattle.range_map.specs.declared.segment.PageState.{PageState}
use Rattle.range_map.specs.declared.segment.SegmentKind.{SegmentKind}
use Rattle.range_map.specs.declared.segment.SegmentKind.TheVariants.{Own, Common}
use Rattle.lazy_world.specs.Followed.{HasMoved, followed, with_transferred}
use Rattle.lazy_world.specs.Transfers.{moves}
use Rattle.lazy_world.specs.declared.transfer.Transfer.TheVariants.{Mark}
use Rattle.lazy_world.proofs.FollowLemmas.{change-agree}
use Rattle.lwc_base.proofs.Facts.{changes, orders}
use Rattle.lwc_types.proofs.Orders.{same_name}

-- a test has one answer
pub not_both : (b : Bool) → b ≡ true → b ≡ false → ⊥
not_both b on off = let clash = sym on ∙ off in cc

set_twice : {X : Type 0} (b : Bool) (x y : X) (o : Option X) → cond b (Some y) (cond b (Some x) o) ≡ cond b (Some y) o
set_twice true x y o = refl
set_twice false x y o = refl

-- what is put under a name again
pub insert-twice : {X : Type 0} (m : fm.FinMap name_cmp X) (c : Name) (x y : X) → fm.insert (fm.insert m c x) c y ≡ fm.insert m c y
insert-twice m c x y =
    fm.same_map orders.names orders.one_name _ _
    (λ q. fm.get-insert orders.names (fm.insert m c x) c y q
    ∙ ap (cond (eq_by_cmp name_cmp q c) (Some y)) (fm.get-insert orders.names m c x q)
    ∙ set_twice (eq_by_cmp name_cmp q c) x y (fm.get m q)
    ∙ sym (fm.get-insert orders.names m c y q))

pub get-same : {X : Type 0} (m : fm.FinMap name_cmp X) (c : Name) (x : X) → fm.get (fm.insert m c x) c ≡ Some x
get-same m c x = fm.get-insert orders.names m c x c ∙ ap (λ b. cond b (Some x) (fm.get m c)) ((eq_by_cmp_equiv orders.names).refl c)

moved-there : (m : Mode) (p : ℕ) (cell : Cell (Option PageValue)) → is_moved m (Page p) cell ≡ true → is_some (moved_value m (Page p) cell) ≡ true
moved-there Copy p cell is = absurd (let e = is in cc)
moved-there Share p (cells.Own v) is = is
moved-there Share p (cells.Common g) is = absurd (let e = is in cc)
moved-there Unmap p cell is = absurd (let e = is in cc)
moved-there CopyRead p cell is = absurd (let e = is in cc)

-- where nothing moves any group has it
pub none-moved : (w : World) (items : List Item) (x : Context) (g : Name) → ((p : ℕ) → moves items (Page p) x.cell ≡ false) → HasMoved w items x g
none-moved w items x g still p is = absurd (let both = sym is ∙ still p in cc)

module _ (w : World) (c : Name) (job : ℕ) (items : List Item) where
  abbrev g : Name
  g = next_group w job

  abbrev added : World
  added = add_group w job new_group

  abbrev filled : World
  filled = change_group added g (λ x. moved_values items (context added c))

  same_context : context added c ≡ context w c
  same_context = changes.same_contexts w added c (changes.group_added w job new_group).contexts

  filled-is : filled ≡ add_group w job (moved_values items (context w c))
  unfolding add_group change_group change_counters
  filled-is =
      ap (changed_group added g (λ x. moved_values items (context added c))) (get-same w.groups g new_group)
      ∙ ap (λ m. record added { groups = m }) (insert-twice w.groups g new_group (moved_values items (context added c)))
      ∙ ap (λ x. add_group w job (moved_values items x)) same_context

  -- a context changes as well before a group is added as after
  commuted : (x : Group) (change : Context → Context) → change_context (add_group w job x) c change ≡ add_group (change_context w c change) job x
  unfolding change_context add_group change_counters
  commuted x change = at (fm.get w.contexts c)
    where
      at : (o : Option Context) → changed_context (add_group w job x) c change o ≡ add_group (changed_context w c change o) job x
      at None = refl
      at (Some y) = refl

  marked : (v : World) → change_context v c (with_transferred v (Mark g) items (context v c)) ≡ change_context v c (with_shared g items)
  unfolding with_shared mode_or_copy
  marked v = change-agree v c (with_transferred v (Mark g) items (context v c)) (with_shared g items) refl

  pub shared-world : needs_group w c items ≡ true → followed filled (Mark g) items c c ≡ share w c job items
  unfolding share
  shared-world needs =
      marked filled
      ∙ ap (λ v. change_context v c (with_shared g items)) filled-is
      ∙ commuted (moved_values items (context w c)) (with_shared g items)
      ∙ sym (ap (λ b. cond b (add_group (change_context w c (with_shared g items)) job (moved_values items (context w c))) w) needs)

  pub followed-is : needs_group w c items ≡ true → (h : Name) (w1 w2 : World) → h ≡ g → w1 ≡ added → w2 ≡ change_group w1 h (λ x. moved_values items (context w1 c)) →
      followed w2 (Mark h) items c c ≡ share w c job items
  followed-is needs h w1 w2 named first second =
      ap (λ v. followed v (Mark h) items c c) (second ∙ (λ e. change_group (first e) (named e) (λ x. moved_values items (context (first e) c))))
      ∙ ap (λ n. followed filled (Mark n) items c c) named
      ∙ shared-world needs

  -- the new group has what moves
  filled-has : (w1 w2 : World) (h : Name) → IsGroup w1 h → w2 ≡ change_group w1 h (λ x. moved_values items (context w1 c)) → HasMoved w2 items (context w2 c) h
  unfolding moved_values mode_or_copy
  filled-has w1 w2 h live is p moved =
      let changed = changes.group_changed w1 h (λ x. moved_values items (context w1 c)) in
      let same : context w2 c ≡ context w1 c = ap (λ (v : World). context v c) is ∙ changed.contexts c in
      ap (λ (v : World). is_some ((group v h).value (Page p))) is ∙ ap (λ (x : Group). is_some (x.value (Page p))) (changed.changed live)
      ∙ moved-there (unwrap_or (mode items (Page p)) Copy) p ((context w1 c).cell (Page p)) (sym (ap (λ (x : Context). moves items (Page p) x.cell) same) ∙ moved)

  pub moved-has : (h : Name) (w1 w2 : World) → h ≡ g → w1 ≡ added → w2 ≡ change_group w1 h (λ x. moved_values items (context w1 c)) → HasMoved w2 items (context w2 c) h
  moved-has h w1 w2 named first second =
      filled-has w1 w2 h ((λ e. fm.contains_key (first e).groups (named e)) ∙ (changes.group_added w job new_group).live) second

  -- and had nothing before
  pub added-empty : (h : Name) (w1 : World) → h ≡ g → w1 ≡ added → group w1 h ≡ new_group
  added-empty h w1 named first = (λ e. group (first e) (named e)) ∙ (changes.group_added w job new_group).added

  pub added-context : (w1 : World) → w1 ≡ added → context w1 c ≡ context w c
  added-context w1 is = ap (λ v. context v c) is ∙ same_context

-- fewer pages pass a stronger test
count_le : (a b : Bool) → (a ≡ true → b ≡ true) → cond a 1 0 ≤ cond b 1 0
count_le true true le = omega arith
count_le true false le = absurd (let e = le refl in cc)
count_le false b le = omega arith

fold_mono : {X : Type 0} (f h : X → Bool) (xs : List X) (a b : ℕ) → a ≤ b → ((x : X) → f x ≡ true → h x ≡ true) →
    fold (λ n x. n + cond (f x) 1 0) a xs ≤ fold (λ n x. n + cond (h x) 1 0) b xs
fold_mono f h [] a b below le = below
fold_mono f h (x ∷ xs) a b below le =
    fold_mono f h xs (a + cond (f x) 1 0) (b + cond (h x) 1 0) (omega (arith, below, count_le (f x) (h x) (le x))) le

count_mono : {X : Type 0} (f h : X → Bool) (xs : List X) → ((x : X) → f x ≡ true → h x ≡ true) → count_by f xs ≤ count_by h xs
count_mono f h xs le = fold_mono f h xs 0 0 (omega arith) le

abbrev own_state : Right → Option PageState
own_state r = Some (record { kind = Own; right = r })

abbrev common_state : Name → Right → Option PageState
common_state g r = Some (record { kind = Common g; right = r })

module _ (moved : ℕ → Bool) (right : ℕ → Right) (group states : ℕ → Option PageState) (g : Name)
    (is_group : (p : ℕ) → group p ≡ cond (moved p) (own_state (right p)) None) (here : (p : ℕ) → moved p ≡ true → states p ≡ common_state g (right p))
    (away : (p : ℕ) (r : Right) → moved p ≡ false → states p ≡ common_state g r → ⊥) where
  apart : (state : Option PageState) (r : Right) → ((q : Right) → state ≡ common_state g q → ⊥) → are_alike state (common_state g r) ≡ false
  apart None r other = refl
  apart (Some state) r other = at state.kind refl
    where
      named : (h : Name) (b : Bool) → state.kind ≡ Common h → is_eq (name_cmp h g) ≡ b → (is_eq (name_cmp h g) && same_right state.right r) ≡ false
      named h true is tied = absurd (other state.right (λ e. Some (record { kind = (is ∙ ap Common (same_name h g tied)) e; right = state.right })))
      named h false is tied = ap (λ b. b && same_right state.right r) tied

      at : (kind : SegmentKind) → state.kind ≡ kind → (same_kind state.kind (Common g) && same_right state.right r) ≡ false
      at Own is = ap (λ k. same_kind k (Common g) && same_right state.right r) is
      at (Common h) is = ap (λ k. same_kind k (Common g) && same_right state.right r) is ∙ named h (is_eq (name_cmp h g)) is refl

  same_group : is_eq (name_cmp g g) ≡ true
  same_group = (eq_by_cmp_equiv orders.names).refl g

  begins_too : (p : ℕ) → begins_range group p ≡ true → begins_range states p ≡ true
  unfolding begins_range
  begins_too zero is = at (moved 0) refl
    where
      at : (b : Bool) → moved 0 ≡ b → (is_some (states 0) && not false) ≡ true
      at true on = ap (λ k. is_some k && not false) (here 0 on)
      at false off = absurd (let none = sym (ap (λ k. is_some k && not false) (is_group 0 ∙ ap (λ b. cond b (own_state (right 0)) None) off)) ∙ is in cc)
  begins_too (suc p) is = at (moved (suc p)) (moved p) refl refl
    where
      group_at : (q : ℕ) (b : Bool) → moved q ≡ b → group q ≡ cond b (own_state (right q)) None
      group_at q b on = is_group q ∙ ap (λ b. cond b (own_state (right q)) None) on

      at : (b a : Bool) → moved (suc p) ≡ b → moved p ≡ a → (is_some (states (suc p)) && not (are_alike (states p) (states (suc p)))) ≡ true
      at true false on off =
          ap (λ k. is_some k && not (are_alike (states p) k)) (here (suc p) on) ∙ ap not (apart (states p) (right (suc p)) (λ r. away p r off))
      at true true on on_too =
          (λ e. is_some (here (suc p) on e) && not (are_alike (here p on_too e) (here (suc p) on e)))
          ∙ ap (λ b. not (b && same_right (right p) (right (suc p)))) same_group
          ∙ sym (λ e. is_some (group_at (suc p) true on e) && not (are_alike (group_at p true on_too e) (group_at (suc p) true on e)))
          ∙ is
      at false a off any = absurd (let none = sym (ap (λ k. is_some k && not (are_alike (group p) k)) (group_at (suc p) false off)) ∙ is in cc)

  pub fewer-ranges : (pages : ℕ) → ranges pages group ≤ ranges pages states
  unfolding ranges
  fewer-ranges pages = count_mono (begins_range group) (begins_range states) (range_with_len 0 pages) begins_too
