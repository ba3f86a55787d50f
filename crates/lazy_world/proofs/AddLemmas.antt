-- A name that is added at a free place.
use Rattle.std.proofs.Common.{◌≡◌, ℕ, ◌+◌, ◌<◌, List, arith, length, length-set, refl, sym, ap, subst, ◌∙◌, Bool, true, false, cond, eqb, Option, Some, None, get_or, get_or-set_other, set, replicate}
use Rattle.std.specs.Prelude.{not}
use Rattle.std.specs.FinMap as fm
use Rattle.std.proofs.lemmas.Bool.Decides.{nat_tests}
use Rattle.std.proofs.lemmas.List.{get_or-set_same}
use Rattle.lwc_base.specs.declared.cell.Cell.{Cell}
use Rattle.lwc_base.specs.declared.cell.Cell.TheVariants.{Own, Common}
use Rattle.lwc_base.specs.declared.descriptor.Descriptor.{Descriptor}
use Rattle.lwc_base.specs.declared.descriptor.Descriptor.TheVariants.{Empty, Console, File, Request, Reply, Ctx}
use Rattle.lwc_base.specs.Fresh.{IsFresh}
use Rattle.lwc_base.specs.Keys.{with_key}
use Rattle.lwc_base.specs.Summaries.{is_empty}
use Rattle.lwc_base.specs.World.{World, add_context, change_counters, group, new_context, new_value, next_context, nothing_counted}
use Rattle.lwc_types.specs.declared.key.Key.{Key}
use Rattle.lwc_types.specs.declared.counters.Counters.{Counters}
use Rattle.lwc_types.specs.declared.key.Key.TheVariants.{Page, Slot, Cred}
use Rattle.lwc_types.specs.declared.name.Name.{Name}
use Rattle.lwc_types.specs.declared.name.Tag.{Tag}
use Rattle.lwc_types.specs.declared.page.PageValue.{PageValue}
use Rattle.lwc_types.specs.declared.page.PageValue.TheVariants.{Data}
use Rattle.lwc_types.specs.declared.regs.Regs.{Regs}
use Rattle.lwc_types.specs.declared.right.Right.TheVariants.{Write}
use Rattle.ctx_table.specs.NameTables.{ArePlaced, NameTable}
use Rattle.lazy_world.specs.Registers.{KeptRegisters}
use Rattle.lazy_world.specs.Cells.{Row, is_nothing, put_row}
use Rattle.lazy_world.specs.Mapped.{mapped}
use Rattle.lazy_world.specs.Sound.{HasOldTags, IsAllOwn, IsEmpty, IsSound, IsWithin}
use Rattle.lazy_world.specs.States.{Parts, context_at, context_of, group_at, group_of, no_registers, registers_at, world_of}
use Rattle.lazy_world.proofs.MappedLemmas.{mapped-insert, mapped-same}
use Rattle.lazy_world.proofs.PageLemmas.{pages-row, pages-same}
use Rattle.lazy_world.proofs.PlaceLemmas.{choose, pass, set_at}
use Rattle.lazy_world.proofs.SoundLemmas.{each_row, homes-row}
use Rattle.lwc_base.proofs.Facts.{changes, stays_fresh}
use Rattle.lwc_types.proofs.Small.{at-new}

-- a cell with nothing in it
pub no_page : (cell : Cell (Option PageValue)) (p : ℕ) → is_nothing (Page p) cell ≡ true → cell ≡ Own None
no_page (Own None) p is = refl
no_page (Own (Some value)) p is = cc
no_page (Common g) p is = cc

no_descriptor : (d : Descriptor) → is_empty d ≡ true → d ≡ Empty
no_descriptor Empty e = refl
no_descriptor Console e = cc
no_descriptor (File file at) e = cc
no_descriptor (Request r at) e = cc
no_descriptor (Reply r) e = cc
no_descriptor (Ctx name cap) e = cc

pub no_slot : (cell : Cell Descriptor) (n : ℕ) → is_nothing (Slot n) cell ≡ true → cell ≡ Own Empty
no_slot (Own d) n is = ap Own (no_descriptor d (twice (is_empty d) is))
  where
    twice : (b : Bool) → not (not b) ≡ true → b ≡ true
    twice true e = refl
    twice false e = cc
no_slot (Common g) n is = cc

-- a row with nothing in it but a credential is that of a new context
pub new_row : (row : Row) (uid : ℕ) → IsEmpty row → with_key Cell Cred (Own uid) row ≡ (λ k. Own (new_value uid k))
new_row row uid empty = λ e k. at k e
  where
    at : (k : Key) → with_key Cell Cred (Own uid) row k ≡ Own (new_value uid k)
    at (Page p) = no_page (row (Page p)) p (empty (Page p))
    at (Slot n) = no_slot (row (Slot n)) n (empty (Slot n))
    at Cred = refl

pub still_empty : (row : Row) (uid : ℕ) → IsEmpty row → IsEmpty (with_key Cell Cred (Own uid) row)
still_empty row uid empty (Page p) = empty (Page p)
still_empty row uid empty (Slot n) = empty (Slot n)
still_empty row uid empty Cred = refl

-- nothing has no tag
pub no_tag : (row : Row) → IsEmpty row → (p : ℕ) (tag : Tag) (bytes : List ℕ) → row (Page p) ≡ Own (Some (Data tag bytes)) → ⊥
no_tag row empty p tag bytes is = let none = sym is ∙ no_page (row (Page p)) p (empty (Page p)) in cc

pub no_common : (row : Row) → IsEmpty row → (p : ℕ) (g : Name) → row (Page p) ≡ Common g → ⊥
no_common row empty p g is = let none = sym is ∙ no_page (row (Page p)) p (empty (Page p)) in cc

pub no_tags : (next : ℕ → Counters) (row : Row) → IsEmpty row → HasOldTags next row
no_tags next row empty p tag bytes is = absurd (no_tag row empty p tag bytes is)

pub some_name : (name : Name) (o : Option Name) → o ≡ Some name → o ≡ None → ⊥
some_name name o is none = let both = sym is ∙ none in cc

module _ (s : Parts) (sound : IsSound s) where
  abbrev now : World
  now = world_of s

  -- what the jobs have counted, where one counts something else
  pub counted-at : (job : ℕ) (n : Counters) (f : Counters → Counters) → job < length s.counts → n ≡ f (get_or s.counts job nothing_counted) →
      (j : ℕ) → get_or (set s.counts job n) j nothing_counted ≡ cond (eqb j job) (f (now.next j)) (now.next j)
  unfolding world_of
  counted-at job n f known is j =
      set_at s.counts job j n nothing_counted known
      ∙ at (eqb j job) (λ same. is ∙ ap (λ i. f (get_or s.counts i nothing_counted)) (sym (same_number j job same)))
    where
      same_number : (j job : ℕ) → eqb j job ≡ true → j ≡ job
      same_number j job e = grind (arith, nat_tests)

      at : (b : Bool) → (b ≡ true → n ≡ f (get_or s.counts j nothing_counted)) →
          cond b n (get_or s.counts j nothing_counted) ≡ cond b (f (get_or s.counts j nothing_counted)) (get_or s.counts j nothing_counted)
      at true same = same refl
      at false same = refl

  -- a context is added at a free place of contexts
  module _ (placed : ArePlaced s.contexts) (job : ℕ) (c : Name) (named : c ≡ next_context now job) (known : job < s.size.jobs)
      (p : ℕ) (inside : p < length s.contexts.places) (is_free : get_or s.contexts.places p None ≡ None)
      (table : NameTable) (map : table.map ≡ fm.insert s.contexts.map c p) (places : table.places ≡ set s.contexts.places p (Some c))
      (uid : ℕ) (entry : Regs) (n : Counters) (counted : n ≡ record (get_or s.counts job nothing_counted) { contexts = (get_or s.counts job nothing_counted).contexts + 1 })
      (bare : (q : ℕ) → s.rights p q ≡ Write) where
    abbrev registers : KeptRegisters
    registers = record { entry = entry; saved = replicate 16 None }

    abbrev row : Row
    row = with_key Cell Cred (Own uid) (s.rows p)

    abbrev later : Parts
    later = record s { rows = put_row s.rows p row; registers = set s.registers p registers; contexts = table; counts = set s.counts job n }

    low : p < s.size.contexts
    low = omega (arith, inside, sound.sizes.contexts)

    empty : IsEmpty (s.rows p)
    empty = sound.free p low is_free

    here : context_at later p ≡ new_context uid entry
    here =
        ap (λ r. context_of r (s.rights p) (registers_at (set s.registers p registers) p)) (choose p p row (s.rows p) refl)
        ∙ ap (context_of row (s.rights p)) (get_or-set_same s.registers p registers no_registers (omega (arith, low, sound.sizes.registers)))
        ∙ (λ e. record { cell = new_row (s.rows p) uid empty e; right = λ q. bare q e; entry = entry; saved = λ t. at-new 16 t None e })

    elsewhere : (d : Name) (q : ℕ) → fm.get s.contexts.map d ≡ Some q → context_at later q ≡ context_at s q
    elsewhere d q at_q =
        let other : q ≡ p → ⊥ = λ same. some_name d (get_or s.contexts.places q None) ((placed.at d q).0 at_q) (ap (λ i. get_or s.contexts.places i None) same ∙ is_free) in
        ap (λ r. context_of r (s.rights q) (registers_at (set s.registers p registers) q)) (pass p q row (s.rows q) other)
        ∙ ap (context_of (s.rows q) (s.rights q)) (get_or-set_other s.registers p q registers no_registers other)

    behind : (j : ℕ) → s.size.contexts + j ≡ p → ⊥
    behind j same = absurd (omega (arith, same, low))

    pub added-context : world_of later ≡ add_context now job (new_context uid entry)
    unfolding world_of add_context change_counters
    added-context =
        let contexts : mapped (context_at later) table.map ≡ fm.insert now.contexts c (new_context uid entry) =
        ap (mapped (context_at later)) map ∙ mapped-insert (context_at later) s.contexts.map c p
        ∙ (λ e. fm.insert (mapped-same (context_at s) s.contexts.map (context_at later) elsewhere e) c (here e)) in
        let groups : mapped (group_at later) s.groups.map ≡ mapped (group_at s) s.groups.map =
        mapped-same (group_at s) s.groups.map (group_at later) (λ d j at_j. ap group_of (pass p (s.size.contexts + j) row (s.rows (s.size.contexts + j)) (behind j))) in
        let next : (j : ℕ) → get_or (set s.counts job n) j nothing_counted ≡ cond (eqb j job) (record (now.next j) { contexts = (now.next j).contexts + 1 }) (now.next j) =
        counted-at job n (λ m. record m { contexts = m.contexts + 1 }) (omega (arith, known, sound.sizes.counts)) counted in
        (λ e. record { contexts = contexts e; groups = groups e; next = λ j. next j e; size = s.size })
        ∙ ap (λ d. record {
          contexts = fm.insert now.contexts d (new_context uid entry);
          groups = now.groups;
          next = λ j. cond (eqb j job) (record (now.next j) { contexts = (now.next j).contexts + 1 }) (now.next j);
          size = s.size;
        }) named

    same_groups : (g : Name) → group (world_of later) g ≡ group now g
    same_groups g = ap (λ (u : World). group u g) added-context ∙ changes.same_groups now (add_context now job (new_context uid entry)) g (changes.context_added now job (new_context uid entry)).groups

    tags_kept : (b : Bool) (m : Counters) → (cond b (record m { contexts = m.contexts + 1 }) m).tags ≡ m.tags
    tags_kept true m = refl
    tags_kept false m = refl

    pub sound-context : IsSound later
    unfolding world_of
    sound-context =
        let next : (j : ℕ) → ((world_of later).next j).tags ≡ (now.next j).tags =
        λ j. ap (λ (m : Counters). m.tags) (counted-at job n (λ m. record m { contexts = m.contexts + 1 }) (omega (arith, known, sound.sizes.counts)) counted j) ∙ tags_kept (eqb j job) (now.next j) in
        record {
          sizes = record {
            size = sound.sizes.size;
            registers = length-set s.registers p registers ∙ sound.sizes.registers;
            contexts = ap length places ∙ length-set s.contexts.places p (Some c) ∙ sound.sizes.contexts;
            groups = sound.sizes.groups;
            counts = length-set s.counts job n ∙ sound.sizes.counts;
          };
          past = λ j. each_row s.rows p row (IsWithin s.size.pages) j (λ same k past. still_empty (s.rows p) uid empty k) (λ other. sound.past j);
          own = λ j. each_row s.rows p row IsAllOwn (s.size.contexts + j) (λ same. absurd (behind j same)) (λ other. sound.own j);
          free = λ j below none. each_row s.rows p row IsEmpty j
              (λ same. still_empty (s.rows p) uid empty)
              (λ other. sound.free j below (sym (get_or-set_other s.contexts.places p j (Some c) None other) ∙ ap (λ ps. get_or ps j None) (sym places) ∙ none));
          free_groups = λ j none. each_row s.rows p row IsEmpty (s.size.contexts + j) (λ same. absurd (behind j same)) (λ other. sound.free_groups j none);
          tags = λ j. each_row s.rows p row (HasOldTags (world_of later).next) j
              (λ same. no_tags (world_of later).next row (still_empty (s.rows p) uid empty))
              (λ other q tag bytes is. subst (λ m. tag.k < m) (sym (next tag.job)) (sound.tags j q tag bytes is));
          fresh = subst IsFresh (sym added-context) (stays_fresh.context_added now job (new_context uid entry) (λ k. tt) sound.fresh);
          homes = homes-row s.rows p row sound.homes (λ q tag bytes is. absurd (no_tag row (still_empty (s.rows p) uid empty) q tag bytes is));
          pages = pages-row s later p row sound.pages refl (pages-same now (world_of later) same_groups) (λ q g is. absurd (no_common row (still_empty (s.rows p) uid empty) q g is));
        }
