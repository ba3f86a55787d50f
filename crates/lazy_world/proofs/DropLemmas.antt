-- A name goes, with all that is at its place.
use Rattle.std.proofs.Common.{◌≡◌, ⊎_elim, ℕ, ◌+◌, ◌<◌, arith, length, length-set, refl, sym, ap, subst, ◌∙◌, Bool, true, false, cond, Option, Some, None, get_or, get_or-set_other, set}
use Rattle.std.specs.Prelude.{is_some, unwrap_or}
use Rattle.std.specs.Cmp.{eq_by_cmp_equiv}
use Rattle.std.specs.Ordering.{eq_by_cmp}
use Rattle.std.specs.FinMap as fm
use Rattle.std.proofs.lemmas.Bool.{cases_eq, false≢true}
use Rattle.lwc_base.specs.declared.cell.Cell.TheVariants.{Common}
use Rattle.lwc_base.specs.Fresh.{IsFresh, named_groups}
use Rattle.lwc_base.specs.Holders.{InContext}
use Rattle.lwc_base.specs.World.{World, Context, Group, context, group, new_context, new_group}
use Rattle.lwc_types.specs.declared.key.Key.TheVariants.{Page}
use Rattle.lwc_types.specs.declared.name.Name.{Name}
use Rattle.lwc_types.specs.Names.{name_cmp}
use Rattle.lwc_types.specs.Registers.{fresh_registers}
use Rattle.ctx_table.specs.NameTables.{ArePlaced, NameTable}
use Rattle.cow_space.specs.Cells.{all_write}
use Rattle.lazy_world.specs.Cells.{Row, no_row, put_rights, put_row}
use Rattle.lazy_world.specs.Mapped.{mapped}
use Rattle.lazy_world.specs.Reaping.{NamesNone}
use Rattle.lazy_world.specs.Sound.{HasOldTags, IsAllOwn, IsEmpty, IsSound, IsWithin}
use Rattle.lazy_world.specs.States.{Parts, context_at, context_of, group_at, group_of, registers_at, world_of}
use Rattle.lazy_world.proofs.AddLemmas.{no_tag, no_tags}
use Rattle.lazy_world.proofs.MappedLemmas.{mapped-remove, mapped-same}
use Rattle.lazy_world.proofs.OpenLemmas.{nothing_there}
use Rattle.lazy_world.proofs.PageLemmas.{has_group_page, no_group, pages-row, pages-same}
use Rattle.lazy_world.proofs.PlaceLemmas.{choose, pass}
use Rattle.lazy_world.proofs.SoundLemmas.{each_row, homes-row}
use Rattle.lwc_base.proofs.Facts.{changes, orders}
use Rattle.lwc_types.proofs.Orders.{same_name}
use Rattle.lwc_types.proofs.Small.{same_some}

-- a world with no context and no group that was not there has only old names
pub fresh-fewer : (w : World) → IsFresh w → (contexts : fm.FinMap name_cmp Context) (groups : fm.FinMap name_cmp Group) →
    ((c : Name) → is_some (fm.get contexts c) ≡ true → fm.get contexts c ≡ fm.get w.contexts c) →
    ((g : Name) → is_some (fm.get groups g) ≡ true → fm.get groups g ≡ fm.get w.groups g) →
    IsFresh (record w { contexts = contexts; groups = groups })
unfolding context
fresh-fewer w fresh contexts groups same same_groups = record {
  contexts = λ c live. fresh.contexts c (ap is_some (sym (same c live)) ∙ live);
  groups = λ g there. fresh.groups g (ap is_some (sym (same_groups g there)) ∙ there);
  cells = record {
    contexts = λ c live.
        subst (InContext (named_groups w.next) c.job) (ap (λ o. unwrap_or o (new_context 0 (fresh_registers 0))) (sym (same c live)))
        (fresh.cells.contexts c (ap is_some (sym (same c live)) ∙ live));
    groups = λ g there k. tt;
  };
}

still : {A : Type 0} (b : Bool) (o : Option A) → is_some (cond b None o) ≡ true → cond b None o ≡ o
still true o there = absurd (false≢true there)
still false o there = refl

-- what is left once a name is removed was there
removed : {X : Type 0} (m : fm.FinMap name_cmp X) (c d : Name) → is_some (fm.get (fm.remove m c) d) ≡ true → fm.get (fm.remove m c) d ≡ fm.get m d
removed m c d there = let at = fm.get-remove orders.names m c d in at ∙ still (eq_by_cmp name_cmp d c) (fm.get m d) (sym (ap is_some at) ∙ there)

was_there : {X : Type 0} (m : fm.FinMap name_cmp X) (c d : Name) (x : X) → fm.get (fm.remove m c) d ≡ Some x → fm.get m d ≡ Some x
was_there m c d x is = sym (removed m c d (ap is_some is)) ∙ is

gone : {X : Type 0} (m : fm.FinMap name_cmp X) (c d : Name) (x : X) → fm.get (fm.remove m c) d ≡ Some x → d ≡ c → ⊥
gone m c d x is same =
    let none : fm.get (fm.remove m c) d ≡ None =
    fm.get-remove orders.names m c d ∙ ap (λ b. cond b None (fm.get m d)) (ap (λ n. eq_by_cmp name_cmp n c) same ∙ (eq_by_cmp_equiv orders.names).refl c) in
    let both = sym none ∙ is in cc

-- another group is as it was
group-left : (w : World) (g h : Name) → (h ≡ g → ⊥) → group (record w { groups = fm.remove w.groups g }) h ≡ group w h
unfolding group
group-left w g h other = ap (λ o. unwrap_or o new_group) (fm.get-remove orders.names w.groups g h ∙ ap (λ b. cond b None (fm.get w.groups h)) (differ (eq_by_cmp name_cmp h g) refl))
  where
    differ : (b : Bool) → eq_by_cmp name_cmp h g ≡ b → eq_by_cmp name_cmp h g ≡ false
    differ true is = absurd (other (same_name h g is))
    differ false is = is

-- a name that is left has another place
apart : (table : NameTable) → ArePlaced table → (c d : Name) (p q : ℕ) → fm.get table.map c ≡ Some p → fm.get (fm.remove table.map c) d ≡ Some q → q ≡ p → ⊥
apart table placed c d p q at_p at_q same =
    gone table.map c d q at_q
    (same_some d c (sym ((placed.at d q).0 (was_there table.map c d q at_q)) ∙ ap (λ r. get_or table.places r None) same ∙ (placed.at c p).0 at_p))

module _ (s : Parts) (sound : IsSound s) (placed : ArePlaced s.contexts) where
  -- a context goes
  module _ (c : Name) (i : ℕ) (found : fm.get s.contexts.map c ≡ Some i)
      (table : NameTable) (map : table.map ≡ fm.remove s.contexts.map c) (places : table.places ≡ set s.contexts.places i None) where
    abbrev later : Parts
    later = record s { rows = put_row s.rows i no_row; rights = put_rights s.rights i all_write; contexts = table }

    low : i < s.size.contexts
    low = let within = placed.within c i found in omega (arith, within, sound.sizes.contexts)

    behind : (j : ℕ) → s.size.contexts + j ≡ i → ⊥
    behind j same = absurd (omega (arith, same, low))

    pub dropped-context : world_of later ≡ record (world_of s) { contexts = fm.remove (world_of s).contexts c }
    unfolding world_of
    dropped-context =
        let contexts : mapped (context_at later) table.map ≡ fm.remove (mapped (context_at s) s.contexts.map) c =
        ap (mapped (context_at later)) map
        ∙ mapped-same (context_at s) (fm.remove s.contexts.map c) (context_at later)
        (λ d q at_q.
        let far = apart s.contexts placed c d i q found at_q in
        λ e. context_of (pass i q no_row (s.rows q) far e) (pass i q all_write (s.rights q) far e) (registers_at s.registers q))
        ∙ mapped-remove (context_at s) s.contexts.map c in
        let groups : mapped (group_at later) s.groups.map ≡ mapped (group_at s) s.groups.map =
        mapped-same (group_at s) s.groups.map (group_at later) (λ d j at_j. ap group_of (pass i (s.size.contexts + j) no_row (s.rows (s.size.contexts + j)) (behind j))) in
        λ e. record (world_of s) { contexts = contexts e; groups = groups e }

    pub sound-context : IsSound later
    unfolding world_of
    sound-context = record {
      sizes = record {
        size = sound.sizes.size;
        registers = sound.sizes.registers;
        contexts = ap length places ∙ length-set s.contexts.places i None ∙ sound.sizes.contexts;
        groups = sound.sizes.groups;
        counts = sound.sizes.counts;
      };
      past = λ j. each_row s.rows i no_row (IsWithin s.size.pages) j (λ same k past. nothing_there k) (λ other. sound.past j);
      own = λ j. each_row s.rows i no_row IsAllOwn (s.size.contexts + j) (λ same. absurd (behind j same)) (λ other. sound.own j);
      free = λ j below none. each_row s.rows i no_row IsEmpty j (λ same. nothing_there)
          (λ other. sound.free j below (sym (get_or-set_other s.contexts.places i j None None other) ∙ ap (λ ps. get_or ps j None) (sym places) ∙ none));
      free_groups = λ j none. each_row s.rows i no_row IsEmpty (s.size.contexts + j) (λ same. absurd (behind j same)) (λ other. sound.free_groups j none);
      tags = λ j. each_row s.rows i no_row (HasOldTags (world_of s).next) j (λ same. no_tags (world_of s).next no_row nothing_there) (λ other. sound.tags j);
      fresh = subst IsFresh (sym dropped-context)
          (fresh-fewer (world_of s) sound.fresh (fm.remove (world_of s).contexts c) (world_of s).groups (λ d there. removed (world_of s).contexts c d there) (λ g there. refl));
      homes = homes-row s.rows i no_row sound.homes (λ q tag bytes is. absurd (no_tag no_row nothing_there q tag bytes is));
      pages = pages-row s later i no_row sound.pages refl
          (pages-same (world_of s) (world_of later)
          (λ g. ap (λ (u : World). group u g) dropped-context ∙ changes.same_groups (world_of s) (record (world_of s) { contexts = fm.remove (world_of s).contexts c }) g refl))
          (λ p g is. absurd (no_group None g is));
    }

  -- a group goes
  module _ (placed_groups : ArePlaced s.groups) (g : Name) (j : ℕ) (found : fm.get s.groups.map g ≡ Some j)
      (table : NameTable) (map : table.map ≡ fm.remove s.groups.map g) (places : table.places ≡ set s.groups.places j None) where
    abbrev later_group : Parts
    later_group = record s { rows = put_row s.rows (s.size.contexts + j) no_row; rights = put_rights s.rights (s.size.contexts + j) all_write; groups = table }

    before : (d : Name) (q : ℕ) → fm.get s.contexts.map d ≡ Some q → q ≡ s.size.contexts + j → ⊥
    before d q at_q same = let within = placed.within d q at_q in absurd (omega (arith, same, within, sound.sizes.contexts))

    pub dropped-group : world_of later_group ≡ record (world_of s) { groups = fm.remove (world_of s).groups g }
    unfolding world_of
    dropped-group =
        let contexts : mapped (context_at later_group) s.contexts.map ≡ mapped (context_at s) s.contexts.map =
        mapped-same (context_at s) s.contexts.map (context_at later_group)
        (λ d q at_q.
        let far = before d q at_q in
        λ e. context_of (pass (s.size.contexts + j) q no_row (s.rows q) far e) (pass (s.size.contexts + j) q all_write (s.rights q) far e) (registers_at s.registers q)) in
        let groups : mapped (group_at later_group) table.map ≡ fm.remove (mapped (group_at s) s.groups.map) g =
        ap (mapped (group_at later_group)) map
        ∙ mapped-same (group_at s) (fm.remove s.groups.map g) (group_at later_group)
        (λ d q at_q. ap group_of
        (pass (s.size.contexts + j) (s.size.contexts + q) no_row (s.rows (s.size.contexts + q))
        (λ (same : s.size.contexts + q ≡ s.size.contexts + j). apart s.groups placed_groups g d j q found at_q (omega (arith, same)))))
        ∙ mapped-remove (group_at s) s.groups.map g in
        λ e. record (world_of s) { contexts = contexts e; groups = groups e }

    -- a page that is common of a group was so before
    was_common : (i p : ℕ) (h : Name) → later_group.rows i (Page p) ≡ Common h → s.rows i (Page p) ≡ Common h
    was_common i p h is =
        ⊎_elim
        (λ same. absurd (no_group None h (ap (λ (r : Row). r (Page p)) (sym (choose (s.size.contexts + j) i no_row (s.rows i) same)) ∙ is)))
        (λ other. ap (λ (r : Row). r (Page p)) (sym (pass (s.size.contexts + j) i no_row (s.rows i) other)) ∙ is)
        (cases_eq i (s.size.contexts + j))

    pub names-left : (h : Name) → NamesNone s h → NamesNone later_group h
    names-left h none i p is = none i p (was_common i p h is)

    pub sound-group : NamesNone s g → IsSound later_group
    unfolding world_of
    sound-group none = record {
      sizes = record {
        size = sound.sizes.size;
        registers = sound.sizes.registers;
        contexts = sound.sizes.contexts;
        groups = ap length places ∙ length-set s.groups.places j None ∙ sound.sizes.groups;
        counts = sound.sizes.counts;
      };
      past = λ q. each_row s.rows (s.size.contexts + j) no_row (IsWithin s.size.pages) q (λ same k past. nothing_there k) (λ other. sound.past q);
      own = λ q. each_row s.rows (s.size.contexts + j) no_row IsAllOwn (s.size.contexts + q) (λ same k. refl) (λ other. sound.own q);
      free = λ q below none. each_row s.rows (s.size.contexts + j) no_row IsEmpty q (λ same. nothing_there) (λ other. sound.free q below none);
      free_groups = λ q none. each_row s.rows (s.size.contexts + j) no_row IsEmpty (s.size.contexts + q) (λ same. nothing_there)
          (λ other. sound.free_groups q
          (sym (get_or-set_other s.groups.places j q None None (λ (same : q ≡ j). other (ap (λ r. s.size.contexts + r) same))) ∙ ap (λ ps. get_or ps q None) (sym places) ∙ none));
      tags = λ q. each_row s.rows (s.size.contexts + j) no_row (HasOldTags (world_of s).next) q (λ same. no_tags (world_of s).next no_row nothing_there) (λ other. sound.tags q);
      fresh = subst IsFresh (sym dropped-group)
          (fresh-fewer (world_of s) sound.fresh (world_of s).contexts (fm.remove (world_of s).groups g) (λ c there. refl) (λ d there. removed (world_of s).groups g d there));
      homes = homes-row s.rows (s.size.contexts + j) no_row sound.homes (λ q tag bytes is. absurd (no_tag no_row nothing_there q tag bytes is));
      pages = λ i p h is.
          let old = was_common i p h is in
          let other : h ≡ g → ⊥ = λ same. none i p (old ∙ ap Common same) in
          ap (λ (u : World). has_group_page u h p) dropped-group ∙ ap (λ (x : Group). is_some (x.value (Page p))) (group-left (world_of s) g h other) ∙ sound.pages i p h old;
    }
