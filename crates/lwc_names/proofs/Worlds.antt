-- Worlds under other numbers: what is looked up in them, and each change of them.
use Rattle.std.proofs.Common.{◌≡◌, ℕ, zero, suc, ◌+◌, ◌-◌, ◌≤◌, ◌<◌, refl, sym, ap, ◌∙◌, Bool, true, false, cond, eqb, ltb, Option, Some, None, arith}
use Rattle.std.proofs.lemmas.Bool.Decides.{nat_tests}
use Rattle.std.specs.Prelude.{is_some, unwrap_or}
use Rattle.std.specs.Option.{option_map}
use Rattle.std.specs.FinMap as fm
use Rattle.lwc_base.specs.Cells.{value_at, value_of}
use Rattle.lwc_base.proofs.Facts.{orders}
use Rattle.lwc_base.specs.Keys.{ValueOf, is_there, nothing}
use Rattle.lwc_base.specs.World.{World, Context, Group, add_context, add_group, change_context, change_counters, change_group, changed_context, changed_group, context, group, is_live, new_context, new_group, new_value, next_context, next_group, nothing_counted}
use Rattle.lwc_base.specs.declared.cell.Cell.{Cell}
use Rattle.lwc_base.specs.declared.cell.Cell.TheVariants.{Own, Common}
use Rattle.lwc_types.specs.Names.{name_cmp}
use Rattle.lwc_types.specs.Registers.{fresh_registers}
use Rattle.lwc_types.specs.declared.counters.Counters.{Counters}
use Rattle.lwc_types.specs.declared.key.Key.{Key}
use Rattle.lwc_types.specs.declared.key.Key.TheVariants.{Page, Slot, Cred}
use Rattle.lwc_types.specs.declared.name.Name.{Name}
use Rattle.lwc_types.specs.declared.regs.Regs.{Regs}
use Rattle.lwc_types.specs.declared.right.Right.TheVariants.{Write}
use Rattle.lwc_names.proofs.Tables as tables
use Rattle.lwc_names.proofs.Tables.{name_cmp-shifted}
use Rattle.lwc_names.specs.Shifts.{shifted_cell, shifted_context, shifted_counters, shifted_group, shifted_job, shifted_name, shifted_value, shifted_world}

module _ (r : ℕ) where
  -- what is under no key has no name
  new_value-shifted : (uid : ℕ) (k : Key) → shifted_value r k (new_value uid k) ≡ new_value uid k
  new_value-shifted uid (Page p) = refl
  new_value-shifted uid (Slot n) = refl
  new_value-shifted uid Cred = refl

  pub nothing-shifted : (k : Key) → shifted_value r k (nothing k) ≡ nothing k
  nothing-shifted (Page p) = refl
  nothing-shifted (Slot n) = refl
  nothing-shifted Cred = refl

  pub new_context-shifted : (uid : ℕ) (entry : Regs) → shifted_context r (new_context uid entry) ≡ new_context uid entry
  new_context-shifted uid entry = λ i. record { cell = λ k. Own (new_value-shifted uid k i); right = λ p. Write; entry = entry; saved = λ t. None }

  new_group-shifted : shifted_group r new_group ≡ new_group
  new_group-shifted = λ i. record { value = λ k. nothing-shifted k i }

  pub there-shifted : (k : Key) (value : ValueOf k) → is_there k (shifted_value r k value) ≡ is_there k value
  there-shifted (Page p) None = refl
  there-shifted (Page p) (Some value) = refl
  there-shifted (Slot n) value = refl
  there-shifted Cred value = refl

  -- what is looked up
  module _ (w : World) where
    pub get_context-shifted : (c : Name) → fm.get (shifted_world r w).contexts (shifted_name r c) ≡ option_map (shifted_context r) (fm.get w.contexts c)
    unfolding shifted_world
    get_context-shifted c = tables.get-shifted name_cmp (shifted_name r) (name_cmp-shifted r) (shifted_context r) w.contexts c

    pub get_group-shifted : (g : Name) → fm.get (shifted_world r w).groups (shifted_name r g) ≡ option_map (shifted_group r) (fm.get w.groups g)
    unfolding shifted_world
    get_group-shifted g = tables.get-shifted name_cmp (shifted_name r) (name_cmp-shifted r) (shifted_group r) w.groups g

    context_or : (o : Option Context) → unwrap_or (option_map (shifted_context r) o) (new_context 0 (fresh_registers 0)) ≡ shifted_context r (unwrap_or o (new_context 0 (fresh_registers 0)))
    context_or None = sym (new_context-shifted 0 (fresh_registers 0))
    context_or (Some x) = refl

    group_or : (o : Option Group) → unwrap_or (option_map (shifted_group r) o) new_group ≡ shifted_group r (unwrap_or o new_group)
    group_or None = sym new_group-shifted
    group_or (Some x) = refl

    some_or : {X : Type 0} (f : X → X) (o : Option X) → is_some (option_map f o) ≡ is_some o
    some_or f None = refl
    some_or f (Some x) = refl

    pub context-shifted : (c : Name) → context (shifted_world r w) (shifted_name r c) ≡ shifted_context r (context w c)
    unfolding context
    context-shifted c = ap (λ o. unwrap_or o (new_context 0 (fresh_registers 0))) (get_context-shifted c) ∙ context_or (fm.get w.contexts c)

    pub group-shifted : (g : Name) → group (shifted_world r w) (shifted_name r g) ≡ shifted_group r (group w g)
    unfolding group
    group-shifted g = ap (λ o. unwrap_or o new_group) (get_group-shifted g) ∙ group_or (fm.get w.groups g)

    pub live-shifted : (c : Name) → is_live (shifted_world r w) (shifted_name r c) ≡ is_live w c
    live-shifted c = ap is_some (get_context-shifted c) ∙ some_or (shifted_context r) (fm.get w.contexts c)

    pub value_of-shifted : (k : Key) (cell : Cell (ValueOf k)) → value_of (shifted_world r w) k (shifted_cell r k cell) ≡ shifted_value r k (value_of w k cell)
    value_of-shifted k (Own value) = refl
    value_of-shifted k (Common g) = ap (λ (x : Group). x.value k) (group-shifted g)

    pub value_at-shifted : (c : Name) (k : Key) → value_at (shifted_world r w) (shifted_name r c) k ≡ shifted_value r k (value_at w c k)
    unfolding value_at
    value_at-shifted c k = (λ i. value_of (shifted_world r w) k ((context-shifted c i).cell k)) ∙ value_of-shifted k ((context w c).cell k)

  -- what jobs have counted
  next_at : (next : ℕ → Counters) (job : ℕ) → shifted_counters r next (shifted_job r job) ≡ next job
  next_at next zero = refl
  next_at next (suc j) =
      let no : eqb (suc j + r) 0 ≡ false = grind (arith, nat_tests) in
      let yes : ltb r (suc j + r) ≡ true = grind (arith, nat_tests) in
      let back : (suc j + r) - r ≡ suc j = omega arith in
      (λ i. cond (no i) (next 0) (cond (yes i) (next (back i)) nothing_counted))

  pub counters-shifted : (w : World) (job : ℕ) → (shifted_world r w).next (shifted_job r job) ≡ w.next job
  unfolding shifted_world
  counters-shifted w job = next_at w.next job

  module _ (next : ℕ → Counters) (job : ℕ) (change : Counters → Counters) where
    one_zero : (job : ℕ) → eqb 0 (shifted_job r job) ≡ eqb 0 job
    one_zero zero = refl
    one_zero (suc j) = grind (arith, nat_tests)

    one_job : (i job : ℕ) → r < suc i → eqb (suc i) (shifted_job r job) ≡ eqb (suc i - r) job
    one_job i zero over = grind (arith, nat_tests)
    one_job i (suc j) over = grind (arith, nat_tests)

    no_job : (i job : ℕ) → suc i ≤ r → eqb (suc i) (shifted_job r job) ≡ false
    no_job i zero under = grind (arith, nat_tests)
    no_job i (suc j) under = grind (arith, nat_tests)

    abbrev above : (ℕ → Counters) → ℕ → Counters
    above all i = cond (ltb r (suc i)) (all (suc i - r)) nothing_counted

    at_suc : (all : ℕ → Counters) (i : ℕ) → shifted_counters r all (suc i) ≡ above all i
    at_suc all i = let no : eqb (suc i) 0 ≡ false = grind (arith, nat_tests) in ap (λ b. cond b (all 0) (above all i)) no

    changed_above : (i : ℕ) (over : Bool) → ltb r (suc i) ≡ over →
        cond (eqb (suc i) (shifted_job r job)) (change (cond over (next (suc i - r)) nothing_counted)) (cond over (next (suc i - r)) nothing_counted)
        ≡ cond over (cond (eqb (suc i - r) job) (change (next (suc i - r))) (next (suc i - r))) nothing_counted
    changed_above i true is = let over : r < suc i = grind (arith, nat_tests) in ap (λ b. cond b (change (next (suc i - r))) (next (suc i - r))) (one_job i job over)
    changed_above i false is = let under : suc i ≤ r = grind (arith, nat_tests) in ap (λ b. cond b (change nothing_counted) nothing_counted) (no_job i job under)

    pub changed-shifted : (j : ℕ) → cond (eqb j (shifted_job r job)) (change (shifted_counters r next j)) (shifted_counters r next j)
        ≡ shifted_counters r (λ q. cond (eqb q job) (change (next q)) (next q)) j
    changed-shifted zero = ap (λ b. cond b (change (next 0)) (next 0)) (one_zero job)
    changed-shifted (suc i) =
        (λ p. cond (eqb (suc i) (shifted_job r job)) (change (at_suc next i p)) (at_suc next i p))
        ∙ changed_above i (ltb r (suc i)) refl
        ∙ sym (at_suc (λ q. cond (eqb q job) (change (next q)) (next q)) i)

  pub change_counters-shifted : (w : World) (job : ℕ) (change : Counters → Counters) → change_counters (shifted_world r w) (shifted_job r job) change ≡ shifted_world r (change_counters w job change)
  unfolding change_counters shifted_world
  change_counters-shifted w job change = λ i. record (shifted_world r w) { next = λ j. changed-shifted w.next job change j i }

  insert_context-shifted : (w : World) (c : Name) (x : Context) → record (shifted_world r w) { contexts = fm.insert (shifted_world r w).contexts (shifted_name r c) (shifted_context r x) } ≡ shifted_world r (record w { contexts = fm.insert w.contexts c x })
  unfolding shifted_world
  insert_context-shifted w c x = λ i. record (shifted_world r w) { contexts = tables.insert-shifted name_cmp (shifted_name r) (name_cmp-shifted r) (shifted_context r) orders.names w.contexts c x i }

  insert_group-shifted : (w : World) (g : Name) (x : Group) → record (shifted_world r w) { groups = fm.insert (shifted_world r w).groups (shifted_name r g) (shifted_group r x) } ≡ shifted_world r (record w { groups = fm.insert w.groups g x })
  unfolding shifted_world
  insert_group-shifted w g x = λ i. record (shifted_world r w) { groups = tables.insert-shifted name_cmp (shifted_name r) (name_cmp-shifted r) (shifted_group r) orders.names w.groups g x i }

  -- a change of a context, or of a group, that is the same under other numbers
  module _ (w : World) where
    pub change_context-shifted : (c : Name) (change other : Context → Context) → ((x : Context) → other (shifted_context r x) ≡ shifted_context r (change x)) →
        change_context (shifted_world r w) (shifted_name r c) other ≡ shifted_world r (change_context w c change)
    unfolding change_context
    change_context-shifted c change other same =
        ap (changed_context (shifted_world r w) (shifted_name r c) other) (get_context-shifted w c) ∙ by_found (fm.get w.contexts c)
      where
        by_found : (o : Option Context) → changed_context (shifted_world r w) (shifted_name r c) other (option_map (shifted_context r) o) ≡ shifted_world r (changed_context w c change o)
        by_found None = refl
        by_found (Some x) = (λ i. record (shifted_world r w) { contexts = fm.insert (shifted_world r w).contexts (shifted_name r c) (same x i) }) ∙ insert_context-shifted w c (change x)

    pub change_group-shifted : (g : Name) (change other : Group → Group) → ((x : Group) → other (shifted_group r x) ≡ shifted_group r (change x)) →
        change_group (shifted_world r w) (shifted_name r g) other ≡ shifted_world r (change_group w g change)
    unfolding change_group
    change_group-shifted g change other same =
        ap (changed_group (shifted_world r w) (shifted_name r g) other) (get_group-shifted w g) ∙ by_found (fm.get w.groups g)
      where
        by_found : (o : Option Group) → changed_group (shifted_world r w) (shifted_name r g) other (option_map (shifted_group r) o) ≡ shifted_world r (changed_group w g change o)
        by_found None = refl
        by_found (Some x) = (λ i. record (shifted_world r w) { groups = fm.insert (shifted_world r w).groups (shifted_name r g) (same x i) }) ∙ insert_group-shifted w g (change x)

    pub next_context-shifted : (job : ℕ) → next_context (shifted_world r w) (shifted_job r job) ≡ shifted_name r (next_context w job)
    next_context-shifted job = λ i. record { job = shifted_job r job; k = (counters-shifted w job i).contexts }

    pub next_group-shifted : (job : ℕ) → next_group (shifted_world r w) (shifted_job r job) ≡ shifted_name r (next_group w job)
    next_group-shifted job = λ i. record { job = shifted_job r job; k = (counters-shifted w job i).groups }

    pub add_context-shifted : (job : ℕ) (x : Context) → add_context (shifted_world r w) (shifted_job r job) (shifted_context r x) ≡ shifted_world r (add_context w job x)
    unfolding add_context
    add_context-shifted job x =
        (λ i. change_counters (record (shifted_world r w) { contexts = fm.insert (shifted_world r w).contexts (next_context-shifted job i) (shifted_context r x) }) (shifted_job r job) (λ n. record n { contexts = n.contexts + 1 }))
        ∙ ap (λ (v : World). change_counters v (shifted_job r job) (λ n. record n { contexts = n.contexts + 1 })) (insert_context-shifted w (next_context w job) x)
        ∙ change_counters-shifted (record w { contexts = fm.insert w.contexts (next_context w job) x }) job (λ n. record n { contexts = n.contexts + 1 })

    pub add_group-shifted : (job : ℕ) (x : Group) → add_group (shifted_world r w) (shifted_job r job) (shifted_group r x) ≡ shifted_world r (add_group w job x)
    unfolding add_group
    add_group-shifted job x =
        (λ i. change_counters (record (shifted_world r w) { groups = fm.insert (shifted_world r w).groups (next_group-shifted job i) (shifted_group r x) }) (shifted_job r job) (λ n. record n { groups = n.groups + 1 }))
        ∙ ap (λ (v : World). change_counters v (shifted_job r job) (λ n. record n { groups = n.groups + 1 })) (insert_group-shifted w (next_group w job) x)
        ∙ change_counters-shifted (record w { groups = fm.insert w.groups (next_group w job) x }) job (λ n. record n { groups = n.groups + 1 })
