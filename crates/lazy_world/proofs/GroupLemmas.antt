-- A group that is added at a free place, and one that gets what moves.
use Rattle.std.proofs.Common.{◌≡◌, ℕ, ◌+◌, ◌<◌, List, arith, length, length-set, refl, sym, ap, subst, ◌∙◌, Bool, true, false, cond, eqb, Some, None, get_or, get_or-set_other, set}
use Rattle.std.specs.Prelude.{is_some}
use Rattle.std.specs.FinMap as fm
use Rattle.lwc_base.specs.declared.cell.Cell.{Cell}
use Rattle.lwc_base.specs.declared.cell.Cell.TheVariants.{Own}
use Rattle.lwc_base.specs.declared.item.Item.{Item}
use Rattle.lwc_base.specs.Fresh.{IsFresh}
use Rattle.lwc_base.specs.Keys.{with_key}
use Rattle.lwc_base.specs.Modes.{mode_or_copy}
use Rattle.lwc_base.specs.Sharing.{moved_values}
use Rattle.lwc_base.specs.World.{World, Context, Group, add_group, change_counters, change_group, context, group, new_group, new_value, next_group, nothing_counted}
use Rattle.lwc_types.specs.declared.key.Key.{Key}
use Rattle.lwc_types.specs.declared.counters.Counters.{Counters}
use Rattle.lwc_types.specs.declared.key.Key.TheVariants.{Page, Slot, Cred}
use Rattle.lwc_types.specs.declared.key.TheConstants.{NOBODY}
use Rattle.lwc_types.specs.declared.name.Name.{Name}
use Rattle.lwc_types.specs.declared.right.Right.{Right}
use Rattle.ctx_table.specs.NameTables.{ArePlaced, NameTable}
use Rattle.lazy_world.specs.declared.key_value.KeyValue.TheVariants as values
use Rattle.lazy_world.specs.declared.transfer.Transfer.TheVariants.{Move}
use Rattle.lazy_world.specs.Cells.{Row, put_row}
use Rattle.lazy_world.specs.Mapped.{mapped}
use Rattle.lazy_world.specs.Transfers.{transferred_row}
use Rattle.lazy_world.specs.Sound.{HasOldTags, HasOneHome, IsAllOwn, IsEmpty, IsSound, IsWithin}
use Rattle.lazy_world.specs.States.{Parts, context_at, context_of, group_at, group_of, held, registers_at, world_of}
use Rattle.lazy_world.proofs.AddLemmas.{counted-at, new_row, no_common, no_tag, no_tags, some_name, still_empty}
use Rattle.lazy_world.proofs.KeyLemmas.{own-put}
use Rattle.lazy_world.proofs.MappedLemmas.{mapped-insert, mapped-same}
use Rattle.lazy_world.proofs.PageLemmas.{no_group, pages-group, pages-new_group, pages-row}
use Rattle.lazy_world.proofs.PlaceLemmas.{choose, pass}
use Rattle.lazy_world.proofs.SoundLemmas.{each_row, homes-row, sound-row}
use Rattle.lazy_world.proofs.WorldLemmas.{change_group-row}
use Rattle.lwc_base.proofs.Facts.{stays_fresh}

module _ (s : Parts) (sound : IsSound s) (placed : ArePlaced s.contexts) (placed_groups : ArePlaced s.groups) where
  abbrev now : World
  now = world_of s

  -- contexts stay, where a row behind theirs changes
  behind : (p : ℕ) (d : Name) (q : ℕ) → fm.get s.contexts.map d ≡ Some q → q ≡ s.size.contexts + p → ⊥
  behind p d q at_q same = let low = placed.within d q at_q in absurd (omega (arith, same, low, sound.sizes.contexts))

  module _ (job : ℕ) (g : Name) (named : g ≡ next_group now job) (known : job < s.size.jobs)
      (p : ℕ) (inside : p < length s.groups.places) (is_free : get_or s.groups.places p None ≡ None)
      (table : NameTable) (map : table.map ≡ fm.insert s.groups.map g p) (places : table.places ≡ set s.groups.places p (Some g))
      (n : Counters) (counted : n ≡ record (get_or s.counts job nothing_counted) { groups = (get_or s.counts job nothing_counted).groups + 1 }) where
    abbrev at : ℕ
    at = s.size.contexts + p

    abbrev row : Row
    row = with_key Cell Cred (Own NOBODY) (s.rows at)

    abbrev later : Parts
    later = record s { rows = put_row s.rows at row; groups = table; counts = set s.counts job n }

    empty : IsEmpty (s.rows at)
    empty = sound.free_groups p is_free

    nothing_held : (k : Key) → held k (Own (new_value NOBODY k)) ≡ new_group.value k
    nothing_held (Page p) = refl
    nothing_held (Slot n) = refl
    nothing_held Cred = refl

    here : group_at later p ≡ new_group
    here =
        ap group_of (choose at at row (s.rows at) refl ∙ new_row (s.rows at) NOBODY empty) ∙ (λ e. record { value = λ k. nothing_held k e })

    elsewhere : (d : Name) (q : ℕ) → fm.get s.groups.map d ≡ Some q → group_at later q ≡ group_at s q
    elsewhere d q at_q =
        let other : q ≡ p → ⊥ = λ same. some_name d (get_or s.groups.places q None) ((placed_groups.at d q).0 at_q) (ap (λ i. get_or s.groups.places i None) same ∙ is_free) in
        ap group_of (pass at (s.size.contexts + q) row (s.rows (s.size.contexts + q)) (λ (same : s.size.contexts + q ≡ at). other (omega (arith, same))))

    pub added-group : world_of later ≡ add_group now job new_group
    unfolding world_of add_group change_counters
    added-group =
        let contexts : mapped (context_at later) s.contexts.map ≡ mapped (context_at s) s.contexts.map =
        mapped-same (context_at s) s.contexts.map (context_at later)
        (λ d q at_q. ap (λ r. context_of r (s.rights q) (registers_at s.registers q)) (pass at q row (s.rows q) (behind p d q at_q))) in
        let groups : mapped (group_at later) table.map ≡ fm.insert now.groups g new_group =
        ap (mapped (group_at later)) map ∙ mapped-insert (group_at later) s.groups.map g p
        ∙ (λ e. fm.insert (mapped-same (group_at s) s.groups.map (group_at later) elsewhere e) g (here e)) in
        let next : (j : ℕ) → get_or (set s.counts job n) j nothing_counted ≡ cond (eqb j job) (record (now.next j) { groups = (now.next j).groups + 1 }) (now.next j) =
        counted-at s sound job n (λ m. record m { groups = m.groups + 1 }) (omega (arith, known, sound.sizes.counts)) counted in
        (λ e. record { contexts = contexts e; groups = groups e; next = λ j. next j e; size = s.size })
        ∙ ap (λ d. record {
          contexts = now.contexts;
          groups = fm.insert now.groups d new_group;
          next = λ j. cond (eqb j job) (record (now.next j) { groups = (now.next j).groups + 1 }) (now.next j);
          size = s.size;
        }) named

    tags_kept : (b : Bool) (m : Counters) → (cond b (record m { groups = m.groups + 1 }) m).tags ≡ m.tags
    tags_kept true m = refl
    tags_kept false m = refl

    pub sound-new_group : IsSound later
    unfolding world_of
    sound-new_group =
        let next : (j : ℕ) → ((world_of later).next j).tags ≡ (now.next j).tags =
        λ j. ap (λ (m : Counters). m.tags) (counted-at s sound job n (λ m. record m { groups = m.groups + 1 }) (omega (arith, known, sound.sizes.counts)) counted j) ∙ tags_kept (eqb j job) (now.next j) in
        record {
          sizes = record {
            size = sound.sizes.size;
            registers = sound.sizes.registers;
            contexts = sound.sizes.contexts;
            groups = ap length places ∙ length-set s.groups.places p (Some g) ∙ sound.sizes.groups;
            counts = length-set s.counts job n ∙ sound.sizes.counts;
          };
          past = λ j. each_row s.rows at row (IsWithin s.size.pages) j (λ same k past. still_empty (s.rows at) NOBODY empty k) (λ other. sound.past j);
          own = λ j. each_row s.rows at row IsAllOwn (s.size.contexts + j) (λ same. own-put (values.Cred NOBODY) (s.rows at) (sound.own p)) (λ other. sound.own j);
          free = λ j below none. each_row s.rows at row IsEmpty j (λ (same : j ≡ at). absurd (omega (arith, same, below))) (λ other. sound.free j below none);
          free_groups = λ j none. each_row s.rows at row IsEmpty (s.size.contexts + j)
              (λ same. still_empty (s.rows at) NOBODY empty)
              (λ other. sound.free_groups j (sym (get_or-set_other s.groups.places p j (Some g) None (λ (same : j ≡ p). other (omega (arith, same)))) ∙ ap (λ ps. get_or ps j None) (sym places) ∙ none));
          tags = λ j. each_row s.rows at row (HasOldTags (world_of later).next) j
              (λ same. no_tags (world_of later).next row (still_empty (s.rows at) NOBODY empty))
              (λ other q tag bytes is. subst (λ m. tag.k < m) (sym (next tag.job)) (sound.tags j q tag bytes is));
          fresh = subst IsFresh (sym added-group) (stays_fresh.group_added now job new_group sound.fresh);
          homes = homes-row s.rows at row sound.homes (λ q tag bytes is. absurd (no_tag row (still_empty (s.rows at) NOBODY empty) q tag bytes is));
          pages = pages-row s later at row sound.pages refl (pages-new_group now (world_of later) job new_group sound.fresh added-group)
              (λ q h is. absurd (no_common row (still_empty (s.rows at) NOBODY empty) q h is));
        }

  -- a group gets what moves
  module _ (g : Name) (j : ℕ) (found : fm.get s.groups.map g ≡ Some j) (items : List Item) (c : Name) (from : ℕ) (is : context now c ≡ context_at s from)
      (rights : ℕ → ℕ → Right) (others : (q : ℕ) → (q ≡ s.size.contexts + j → ⊥) → rights q ≡ s.rights q) where
    abbrev moved_row : Row
    moved_row = transferred_row now Move items (s.rows from) (s.rows (s.size.contexts + j))

    abbrev filled : Parts
    filled = record s { rows = put_row s.rows (s.size.contexts + j) moved_row; rights = rights }

    same_values : (x : Context) → group_of (transferred_row now Move items x.cell (s.rows (s.size.contexts + j))) ≡ moved_values items x
    unfolding moved_values mode_or_copy
    same_values x = refl

    pub filled-world : world_of filled ≡ change_group now g (λ x. moved_values items (context now c))
    filled-world =
        change_group-row s placed_groups g j found (λ d q at_q. let low = placed.within d q at_q in omega (arith, low, sound.sizes.contexts))
        moved_row rights (λ x. moved_values items (context now c)) others (same_values (context_at s from) ∙ ap (moved_values items) (sym is))

    pub filled-sound : group now g ≡ new_group → IsWithin s.size.pages moved_row → HasOldTags now.next moved_row → HasOneHome filled.rows → IsSound filled
    filled-sound none within tags homes =
        let keeps = pages-group now (world_of filled) g (λ x. moved_values items (context now c)) filled-world
        (λ p there. absurd (let both = sym (ap (λ (x : Group). is_some (x.value (Page p))) none) ∙ there in cc)) in
        sound-row s sound (s.size.contexts + j) moved_row rights within
        (λ q same k. refl)
        (λ low none. absurd (omega (arith, low)))
        (λ q same none. absurd (let q_is : q ≡ j = omega (arith, same) in let both = sym ((placed_groups.at g j).0 found) ∙ ap (λ r. get_or s.groups.places r None) (sym q_is) ∙ none in cc))
        tags
        (subst IsFresh (sym filled-world) (stays_fresh.group_changed now g (λ x. moved_values items (context now c)) sound.fresh))
        homes
        (pages-row s filled (s.size.contexts + j) moved_row sound.pages refl keeps (λ p h names. absurd (no_group _ h names)))
