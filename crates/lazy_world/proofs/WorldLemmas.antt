-- The world of parts: what it has under a name, and what becomes of it where a part changes.
use Rattle.std.proofs.Common.{◌≡◌, ◌≢◌, ℕ, ◌+◌, ◌<◌, arith, length, refl, sym, ap, ◌∙◌, Some, None, Option, true, get_or, get_or-set_other, set}
use Rattle.std.specs.Prelude.{unwrap_or}
use Rattle.std.specs.Option.{option_map}
use Rattle.std.specs.FinMap as fm
use Rattle.std.proofs.lemmas.List.{get_or-set_same}
use Rattle.lwc_base.specs.Cells.{slot_at, value_at, value_of}
use Rattle.lwc_base.specs.World.{World, Context, Group, change_context, changed_context, change_group, changed_group, context, group, is_live, new_context, new_group, nothing_counted}
use Rattle.lwc_types.specs.declared.key.Key.TheVariants.{Page, Slot}
use Rattle.lwc_types.specs.declared.name.Name.{Name}
use Rattle.lwc_types.specs.declared.right.Right.{Right}
use Rattle.lwc_types.specs.Registers.{fresh_registers}
use Rattle.ctx_table.specs.NameTables.{ArePlaced, NameTable}
use Rattle.lazy_world.specs.Registers.{KeptRegisters}
use Rattle.lazy_world.specs.Cells.{HasNoPages, Row, is_own, put_row}
use Rattle.lazy_world.specs.Sound.{IsAllOwn}
use Rattle.lwc_base.specs.declared.cell.Cell.{Cell}
use Rattle.lwc_base.specs.declared.cell.Cell.TheVariants.{Own, Common}
use Rattle.lwc_types.specs.declared.page.PageValue.{PageValue}
use Rattle.lazy_world.specs.Mapped.{mapped}
use Rattle.lazy_world.specs.States.{Parts, context_at, context_of, group_at, group_of, held, no_registers, registers_at, world_of}
use Rattle.lazy_world.proofs.MappedLemmas.{mapped-change, mapped-get, mapped-len, mapped-keys, mapped-live, mapped-same}
use Rattle.lazy_world.proofs.PlaceLemmas.{choose, pass}
use Rattle.lwc_types.proofs.Small.{same_some}

-- a row at a place, and at another one
row_here : (rows : ℕ → Row) (i j : ℕ) (row : Row) → j ≡ i → put_row rows i row j ≡ row
row_here rows i j row same = choose i j row (rows j) same

row_there : (rows : ℕ → Row) (i j : ℕ) (row : Row) → (j ≡ i → ⊥) → put_row rows i row j ≡ rows j
row_there rows i j row other = pass i j row (rows j) other

-- two names of one place are one
pub one_name : (table : NameTable) → ArePlaced table → (c d : Name) (p q : ℕ) → fm.get table.map c ≡ Some p → fm.get table.map d ≡ Some q → q ≡ p → d ≡ c
one_name table placed c d p q at_p at_q same =
    same_some d c (sym ((placed.at d q).0 at_q) ∙ ap (λ r. get_or table.places r None) same ∙ (placed.at c p).0 at_p)

module _ (s : Parts) where
  abbrev now : World
  now = world_of s

  pub get-context : (c : Name) → fm.get now.contexts c ≡ option_map (context_at s) (fm.get s.contexts.map c)
  unfolding world_of
  get-context c = mapped-get (context_at s) s.contexts.map c

  pub get-group : (g : Name) → fm.get now.groups g ≡ option_map (group_at s) (fm.get s.groups.map g)
  unfolding world_of
  get-group g = mapped-get (group_at s) s.groups.map g

  -- a name is live that has a place
  pub live-there : (c : Name) → is_live now c ≡ fm.contains_key s.contexts.map c
  unfolding world_of
  live-there c = mapped-live (context_at s) s.contexts.map c

  pub group-there : (g : Name) → fm.contains_key now.groups g ≡ fm.contains_key s.groups.map g
  unfolding world_of
  group-there g = mapped-live (group_at s) s.groups.map g

  -- a context is what is at its place
  pub context-found : (c : Name) (i : ℕ) → fm.get s.contexts.map c ≡ Some i → context now c ≡ context_at s i
  unfolding context
  context-found c i found = ap (λ o. unwrap_or o (new_context 0 (fresh_registers 0))) (get-context c ∙ ap (option_map (context_at s)) found)

  -- and the value in a slot of it is what the slot of the place has
  pub slot-found : (c : Name) (i n : ℕ) → fm.get s.contexts.map c ≡ Some i → value_of now (Slot n) (s.rows i (Slot n)) ≡ slot_at now c n
  unfolding value_at
  slot-found c i n found = ap (λ (x : Context). value_of now (Slot n) (x.cell (Slot n))) (sym (context-found c i found))

  -- and so is a group
  pub group-found : (g : Name) (j : ℕ) → fm.get s.groups.map g ≡ Some j → group now g ≡ group_at s j
  unfolding group
  group-found g j found = ap (λ o. unwrap_or o new_group) (get-group g ∙ ap (option_map (group_at s)) found)

  pub group-missed : (g : Name) → fm.get s.groups.map g ≡ None → group now g ≡ new_group
  unfolding group
  group-missed g missed = ap (λ o. unwrap_or o new_group) (get-group g ∙ ap (option_map (group_at s)) missed)

  pub change_group-missed : (g : Name) (change : Group → Group) → fm.get s.groups.map g ≡ None → now ≡ change_group now g change
  unfolding change_group
  change_group-missed g change missed = sym (ap (changed_group now g change) (get-group g ∙ ap (option_map (group_at s)) missed))

  pub len-contexts : fm.len now.contexts ≡ fm.len s.contexts.map
  unfolding world_of
  len-contexts = mapped-len (context_at s) s.contexts.map

  pub len-groups : fm.len now.groups ≡ fm.len s.groups.map
  unfolding world_of
  len-groups = mapped-len (group_at s) s.groups.map

  pub names-contexts : fm.keys now.contexts ≡ fm.keys s.contexts.map
  unfolding world_of
  names-contexts = mapped-keys (context_at s) s.contexts.map

  pub names-groups : fm.keys now.groups ≡ fm.keys s.groups.map
  unfolding world_of
  names-groups = mapped-keys (group_at s) s.groups.map

  -- another row at the place of a live context
  module _ (placed : ArePlaced s.contexts) (c : Name) (i : ℕ) (found : fm.get s.contexts.map c ≡ Some i) where
    -- the context there is another one, and all other contexts and all groups are as they were
    changed : (t : Parts) → t.contexts ≡ s.contexts → t.groups ≡ s.groups → t.counts ≡ s.counts → t.size ≡ s.size →
        ((d : Name) (q : ℕ) → fm.get s.contexts.map d ≡ Some q → d ≢ c → context_at t q ≡ context_at s q) →
        ((d : Name) (q : ℕ) → fm.get s.groups.map d ≡ Some q → group_at t q ≡ group_at s q) →
        (change : Context → Context) → context_at t i ≡ change (context_at s i) → world_of t ≡ change_context now c change
    unfolding world_of change_context
    changed t contexts groups counts size others same_groups change is =
        (λ e. record {
          contexts = (ap (λ (table : NameTable). mapped (context_at t) table.map) contexts ∙ mapped-change (context_at s) s.contexts.map (context_at t) c i found others) e;
          groups = (ap (λ (table : NameTable). mapped (group_at t) table.map) groups ∙ mapped-same (group_at s) s.groups.map (group_at t) same_groups) e;
          next = λ job. get_or (counts e) job nothing_counted;
          size = size e;
        })
        ∙ ap (λ x. record now { contexts = fm.insert now.contexts c x }) is
        ∙ sym (ap (changed_context now c change) (get-context c ∙ ap (option_map (context_at s)) found))

    pub change_context-row : (row : Row) (rights : ℕ → ℕ → Right) (change : Context → Context) → i < s.size.contexts → ((q : ℕ) → (q ≡ i → ⊥) → rights q ≡ s.rights q) →
        context_of row (rights i) (registers_at s.registers i) ≡ change (context_at s i) → world_of (record s { rows = put_row s.rows i row; rights = rights }) ≡ change_context now c change
    change_context-row row rights change inside others is =
        changed (record s { rows = put_row s.rows i row; rights = rights }) refl refl refl refl
        (λ d q at_q other.
        let far : q ≡ i → ⊥ = λ same. other (one_name s.contexts placed c d i q found at_q same) in
        λ e. context_of (row_there s.rows i q row far e) (others q far e) (registers_at s.registers q))
        (λ d q at_q. ap group_of (row_there s.rows i (s.size.contexts + q) row (λ (same : s.size.contexts + q ≡ i). absurd (omega (arith, same, inside)))))
        change
        (ap (λ r. context_of r (rights i) (registers_at s.registers i)) (row_here s.rows i i row refl) ∙ is)

    -- other registers there
    pub change_context-registers : (registers : KeptRegisters) (change : Context → Context) → i < length s.registers →
        context_of (s.rows i) (s.rights i) registers ≡ change (context_at s i) →
        world_of (record s { registers = set s.registers i registers }) ≡ change_context now c change
    change_context-registers registers change inside is =
        changed (record s { registers = set s.registers i registers }) refl refl refl refl
        (λ d q at_q other. ap (context_of (s.rows q) (s.rights q)) (get_or-set_other s.registers i q registers no_registers (λ same. other (one_name s.contexts placed c d i q found at_q same))))
        (λ d q at_q. refl)
        change
        (ap (context_of (s.rows i) (s.rights i)) (get_or-set_same s.registers i registers no_registers inside) ∙ is)

  -- another row at the place of a live group
  module _ (placed : ArePlaced s.groups) (g : Name) (j : ℕ) (found : fm.get s.groups.map g ≡ Some j) (inside : (d : Name) (q : ℕ) → fm.get s.contexts.map d ≡ Some q → q < s.size.contexts) where
    pub change_group-row : (row : Row) (rights : ℕ → ℕ → Right) (change : Group → Group) → ((q : ℕ) → (q ≡ s.size.contexts + j → ⊥) → rights q ≡ s.rights q) → group_of row ≡ change (group_at s j) →
        world_of (record s { rows = put_row s.rows (s.size.contexts + j) row; rights = rights }) ≡ change_group now g change
    unfolding world_of change_group
    change_group-row row rights change others is =
        let t : Parts = record s { rows = put_row s.rows (s.size.contexts + j) row; rights = rights } in
        let here : group_at t j ≡ change (group_at s j) = ap group_of (row_here s.rows (s.size.contexts + j) (s.size.contexts + j) row refl) ∙ is in
        let contexts : mapped (context_at t) s.contexts.map ≡ mapped (context_at s) s.contexts.map =
        mapped-same (context_at s) s.contexts.map (context_at t)
        (λ d q at_q.
        let far : q ≡ s.size.contexts + j → ⊥ = λ same. absurd (let low = inside d q at_q in omega (arith, same, low)) in
        λ e. context_of (row_there s.rows (s.size.contexts + j) q row far e) (others q far e) (registers_at s.registers q)) in
        let groups : mapped (group_at t) s.groups.map ≡ fm.insert (mapped (group_at s) s.groups.map) g (group_at t j) =
        mapped-change (group_at s) s.groups.map (group_at t) g j found
        (λ d q at_q other. ap group_of
        (row_there s.rows (s.size.contexts + j) (s.size.contexts + q) row
        (λ (same : s.size.contexts + q ≡ s.size.contexts + j). other (one_name s.groups placed g d j q found at_q (omega (arith, same)))))) in
        (λ e. record now { contexts = contexts e; groups = groups e })
        ∙ ap (λ x. record now { groups = fm.insert now.groups g x }) here
        ∙ sym (ap (changed_group now g change) (get-group g ∙ ap (option_map (group_at s)) found))

-- a group without values has a place without pages
pub no_pages-new : (s : Parts) → ((j : ℕ) → IsAllOwn (s.rows (s.size.contexts + j))) → (g : Name) (j : ℕ) → fm.get s.groups.map g ≡ Some j → group (world_of s) g ≡ new_group → HasNoPages (s.rows (s.size.contexts + j))
no_pages-new s own g j found none p =
    by (s.rows (s.size.contexts + j) (Page p)) (own j (Page p)) (ap (λ (x : Group). x.value (Page p)) (sym (group-found s g j found) ∙ none))
  where
    by : (cell : Cell (Option PageValue)) → is_own cell ≡ true → held (Page p) cell ≡ None → cell ≡ Own None
    by (Own value) own is = ap Own is
    by (Common h) off is = cc
