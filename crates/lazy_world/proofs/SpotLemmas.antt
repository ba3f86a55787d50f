-- A page of a context that gets a new value at the place that has it, and a job that takes tags.
use Rattle.std.proofs.Common.{◌≡◌, ◌≢◌, ⊎_elim, ◌⊎◌, inl, inr, ℕ, ◌+◌, ◌<◌, ◌≤◌, List, arith, length-set, refl, sym, ap, subst, ◌∙◌, Bool, true, false, cond, eqb, Option, Some, None, get_or, set}
use Rattle.std.specs.FinMap as fm
use Rattle.std.specs.Option.{option_map}
use Rattle.std.proofs.lemmas.Bool.{cases_eq, cases_lt}
use Rattle.std.proofs.lemmas.Bool.Decides.{nat_tests}
use Rattle.lwc_base.specs.declared.cell.Cell.{Cell}
use Rattle.lwc_base.specs.declared.cell.Cell.TheVariants.{Own, Common}
use Rattle.lwc_base.specs.Cells.{put_page, with_cell, with_value}
use Rattle.lwc_base.specs.Fresh.{IsFresh}
use Rattle.lwc_base.specs.Keys.{with_key}
use Rattle.lwc_base.specs.World.{World, Context, change_counters, group, nothing_counted}
use Rattle.lwc_types.specs.declared.key.Key.{Key}
use Rattle.lwc_types.specs.declared.counters.Counters.{Counters}
use Rattle.lwc_types.specs.declared.key.Key.TheVariants.{Page, Slot, Cred}
use Rattle.lwc_types.specs.declared.name.Name.{Name}
use Rattle.lwc_types.specs.declared.name.Tag.{Tag}
use Rattle.lwc_types.specs.declared.page.PageValue.{PageValue}
use Rattle.lwc_types.specs.declared.page.PageValue.TheVariants.{Data}
use Rattle.ctx_table.specs.NameTables.{ArePlaced}
use Rattle.lazy_world.specs.Cells.{Row, is_nothing, is_own, put_row}
use Rattle.lazy_world.specs.Memory.{holder, holder_of}
use Rattle.lazy_world.specs.Sound.{HasOldTags, HasOneHome, IsAllOwn, IsSound, IsWithin}
use Rattle.lazy_world.specs.States.{Parts, group_of, held, world_of}
use Rattle.lazy_world.proofs.AddLemmas.{counted-at}
use Rattle.lazy_world.proofs.PageLemmas.{no_group, pages-put_page, pages-row}
use Rattle.lazy_world.proofs.PlaceLemmas.{choose, pass}
use Rattle.lazy_world.proofs.SoundLemmas.{IsTagged, sound-row}
use Rattle.lazy_world.proofs.WorldLemmas.{change_context-row, change_group-row, context-found}
use Rattle.lwc_base.proofs.Facts.{changes, stays_fresh}

-- the row with a page of a value
abbrev pub with_page : ℕ → PageValue → Row → Row
with_page p v row = with_key Cell (Page p) (Own (Some v)) row

pub page-there : (p : ℕ) (v : PageValue) (row : Row) → with_page p v row (Page p) ≡ Own (Some v)
page-there p v row = choose p p (Own (Some v)) (row (Page p)) refl

pub page-other : (p q : ℕ) (v : PageValue) (row : Row) → q ≢ p → with_page p v row (Page q) ≡ row (Page q)
page-other p q v row off = pass p q (Own (Some v)) (row (Page q)) off

chosen_within : (p q pages : ℕ) (v : PageValue) (cell : Cell (Option PageValue)) → p < pages → pages ≤ q → is_nothing (Page q) cell ≡ true → is_nothing (Page q) (cond (eqb q p) (Own (Some v)) cell) ≡ true
chosen_within p q pages v cell low past is = let other : eqb q p ≡ false = grind (arith, nat_tests) in ap (λ b. is_nothing (Page q) (cond b (Own (Some v)) cell)) other ∙ is

within-page : (p : ℕ) (v : PageValue) (pages : ℕ) (row : Row) → p < pages → IsWithin pages row → IsWithin pages (with_page p v row)
within-page p v pages row low within (Page q) past = chosen_within p q pages v (row (Page q)) low past (within (Page q) past)
within-page p v pages row low within (Slot n) past = within (Slot n) past
within-page p v pages row low within Cred past = within Cred past

chosen_own : (b : Bool) (v : PageValue) (cell : Cell (Option PageValue)) → is_own cell ≡ true → is_own (cond b (Own (Some v)) cell) ≡ true
chosen_own true v cell own = refl
chosen_own false v cell own = own

own-page : (p : ℕ) (v : PageValue) (row : Row) → IsAllOwn row → IsAllOwn (with_page p v row)
own-page p v row own (Page q) = chosen_own (eqb q p) v (row (Page q)) (own (Page q))
own-page p v row own (Slot n) = own (Slot n)
own-page p v row own Cred = own Cred

chosen_held : (q : ℕ) (b : Bool) (v : PageValue) (cell : Cell (Option PageValue)) → held (Page q) (cond b (Own (Some v)) cell) ≡ cond b (Some v) (held (Page q) cell)
chosen_held q true v cell = refl
chosen_held q false v cell = refl

group-page : (p : ℕ) (v : PageValue) (row : Row) → group_of (with_page p v row) ≡ with_value (Page p) (Some v) (group_of row)
group-page p v row = λ e. record { value = λ k. at k e }
  where
    at : (k : Key) → held k (with_page p v row k) ≡ with_key (λ T. T) (Page p) (Some v) (λ q. held q (row q)) k
    at (Page q) = chosen_held q (eqb q p) v (row (Page q))
    at (Slot n) = refl
    at Cred = refl

-- a page that is common of a group was so before
common-page : (p q : ℕ) (v : PageValue) (row : Row) (g : Name) → with_page p v row (Page q) ≡ Common g → row (Page q) ≡ Common g
common-page p q v row g is = at (eqb q p) is
  where
    at : (b : Bool) → cond b (Own (Some v)) (row (Page q)) ≡ Common g → row (Page q) ≡ Common g
    at true is = absurd (no_group (Some v) g is)
    at false is = is

some-value : (a b : PageValue) → Own (Some a) ≡ Own (Some b) → a ≡ b
some-value a b is = cc

-- what a page of the new rows has is the new value, or was there
new-or-old : (rows : ℕ → Row) (j p : ℕ) (v : PageValue) (m q : ℕ) (t : Tag) (bytes : List ℕ) → put_row rows j (with_page p v (rows j)) m (Page q) ≡ Own (Some (Data t bytes)) →
    ((q ≡ p) × (v ≡ Data t bytes)) ⊎ (rows m (Page q) ≡ Own (Some (Data t bytes)))
new-or-old rows j p v m q t bytes is =
    ⊎_elim
    (λ here.
    let row = ap (λ (r : Row). r (Page q)) (sym (choose j m (with_page p v (rows j)) (rows m) here)) ∙ is in
    ⊎_elim
    (λ page. inl (page, some-value v (Data t bytes) (sym (choose p q (Own (Some v)) (rows j (Page q)) page) ∙ row)))
    (λ off. inr (ap (λ k. rows k (Page q)) here ∙ sym (page-other p q v (rows j) off) ∙ row))
    (cases_eq q p))
    (λ away. inr (ap (λ (r : Row). r (Page q)) (sym (pass j m (with_page p v (rows j)) (rows m) away)) ∙ is))
    (cases_eq m j)

-- a tag of a new value is that of the page before, or is at no page yet
abbrev pub KeepsHome : (ℕ → Row) → ℕ → PageValue → Type 0
KeepsHome rows p v = (t : Tag) (bytes : List ℕ) → v ≡ Data t bytes → IsTagged rows p t ⊎ ((m q : ℕ) (b : List ℕ) → rows m (Page q) ≡ Own (Some (Data t b)) → ⊥)

homes-page : (rows : ℕ → Row) (j p : ℕ) (v : PageValue) → HasOneHome rows → KeepsHome rows p v → HasOneHome (put_row rows j (with_page p v (rows j)))
homes-page rows j p v homes keeps m n q r t a b at_q at_r =
    ⊎_elim
    (λ new. ⊎_elim (λ also. new.0 ∙ sym also.0) (λ old. new.0 ∙ with-new n r a b new.1 old) (new-or-old rows j p v n r t b at_r))
    (λ old. ⊎_elim (λ new. sym (with-new m q b a new.1 old) ∙ sym new.0) (λ also. homes m n q r t a b old also) (new-or-old rows j p v n r t b at_r))
    (new-or-old rows j p v m q t a at_q)
  where
    with-new : (k x : ℕ) (c d : List ℕ) → v ≡ Data t c → rows k (Page x) ≡ Own (Some (Data t d)) → p ≡ x
    with-new k x c d is old = ⊎_elim (λ (was : IsTagged rows p t). homes was.place k p x t was.bytes d was.is old) (λ none. absurd (none k x d old)) (keeps t c is)

module _ (s : Parts) (sound : IsSound s) where
  abbrev now : World
  now = world_of s

  -- a page gets a value at its holder
  module _ (placed : ArePlaced s.contexts) (placed_groups : ArePlaced s.groups) (c : Name) (i : ℕ) (found : fm.get s.contexts.map c ≡ Some i) (p j : ℕ) (there : holder s i p ≡ Some j)
      (old v : PageValue) (own : s.rows j (Page p) ≡ Own (Some old)) where
    abbrev later : Parts
    later = record s { rows = put_row s.rows j (with_page p v (s.rows j)) }

    inside : i < s.size.contexts
    inside = let low = placed.within c i found in omega (arith, low, sound.sizes.contexts)

    -- the page is the context's own at its place, or the group's at that of the group
    spot : ((j ≡ i) × ((o : PageValue) × (s.rows i (Page p) ≡ Own (Some o)))) ⊎ ((g : Name) × (q : ℕ) × (s.rows i (Page p) ≡ Common g) × (fm.get s.groups.map g ≡ Some q) × (j ≡ s.size.contexts + q))
    spot = at (s.rows i (Page p)) refl there
      where
        by : (g : Name) (o : Option ℕ) → s.rows i (Page p) ≡ Common g → fm.get s.groups.map g ≡ o → option_map (λ q. s.size.contexts + q) o ≡ Some j →
            ((j ≡ i) × ((o : PageValue) × (s.rows i (Page p) ≡ Own (Some o)))) ⊎ ((g : Name) × (q : ℕ) × (s.rows i (Page p) ≡ Common g) × (fm.get s.groups.map g ≡ Some q) × (j ≡ s.size.contexts + q))
        by g None cell missed is = absurd cc
        by g (Some q) cell found is = let place : s.size.contexts + q ≡ j = cc in inr (g, q, cell, found, sym place)

        at : (cell : Cell (Option PageValue)) → s.rows i (Page p) ≡ cell → holder_of s i cell ≡ Some j →
            ((j ≡ i) × ((o : PageValue) × (s.rows i (Page p) ≡ Own (Some o)))) ⊎ ((g : Name) × (q : ℕ) × (s.rows i (Page p) ≡ Common g) × (fm.get s.groups.map g ≡ Some q) × (j ≡ s.size.contexts + q))
        at (Own None) same is = absurd cc
        at (Own (Some o)) same is = let place : i ≡ j = cc in inl (sym place, (o, same))
        at (Common g) same is = by g (fm.get s.groups.map g) same refl is

    pub put-spot : world_of later ≡ put_page now c p v
    put-spot =
        ⊎_elim
        (λ mine.
        ap (λ k. world_of (record s { rows = put_row s.rows k (with_page p v (s.rows k)) })) mine.0
        ∙ change_context-row s placed c i found (with_page p v (s.rows i)) s.rights (with_cell (Page p) (Own (Some v))) inside (λ q other. refl) refl
        ∙ sym (changes.put_own now c (Page p) (Some mine.1.0) (Some v) (ap (λ (x : Context). x.cell (Page p)) (context-found s c i found) ∙ mine.1.1) refl))
        (λ theirs.
        ap (λ k. world_of (record s { rows = put_row s.rows k (with_page p v (s.rows k)) })) theirs.4
        ∙ change_group-row s placed_groups theirs.0 theirs.1 theirs.3 (λ d q at_q. let low = placed.within d q at_q in omega (arith, low, sound.sizes.contexts))
        (with_page p v (s.rows (s.size.contexts + theirs.1))) s.rights (with_value (Page p) (Some v)) (λ q other. refl) (group-page p v (s.rows (s.size.contexts + theirs.1)))
        ∙ sym (changes.put_common now c (Page p) theirs.0 (Some v) (ap (λ (x : Context). x.cell (Page p)) (context-found s c i found) ∙ theirs.2)))
        spot

    -- there is no such page past the last one
    page-low : p < s.size.pages
    page-low = ⊎_elim (λ low. low) (λ past. absurd (let none = sym (ap (is_nothing (Page p)) own) ∙ sound.past j (Page p) past in cc)) (cases_lt p s.size.pages)

    taken-place : j < s.size.contexts → get_or s.contexts.places j None ≡ None → ⊥
    taken-place low none = let there = sym (sound.free j low none (Page p)) ∙ ap (is_nothing (Page p)) own in cc

    taken-group : (q : ℕ) → s.size.contexts + q ≡ j → get_or s.groups.places q None ≡ None → ⊥
    taken-group q is none = let there = sym (sound.free_groups q none (Page p)) ∙ ap (λ k. is_nothing (Page p) (s.rows k (Page p))) is ∙ ap (is_nothing (Page p)) own in cc

    old-tags : ((t : Tag) (bytes : List ℕ) → v ≡ Data t bytes → t.k < (now.next t.job).tags) → HasOldTags now.next (with_page p v (s.rows j))
    old-tags old q t bytes is =
        ⊎_elim
        (λ page. old t bytes (some-value v (Data t bytes) (sym (choose p q (Own (Some v)) (s.rows j (Page q)) page) ∙ is)))
        (λ off. sound.tags j q t bytes (sym (page-other p q v (s.rows j) off) ∙ is))
        (cases_eq q p)

    pub sound-spot : ((t : Tag) (bytes : List ℕ) → v ≡ Data t bytes → t.k < (now.next t.job).tags) → KeepsHome s.rows p v → IsSound later
    sound-spot tags keeps =
        let pages = pages-put_page now (world_of later) c p v put-spot in
        sound-row s sound j (with_page p v (s.rows j)) s.rights (within-page p v s.size.pages (s.rows j) page-low (sound.past j))
        (λ q is. own-page p v (s.rows j) (subst (λ k. IsAllOwn (s.rows k)) is (sound.own q)))
        (λ low none. absurd (taken-place low none))
        (λ q is none. absurd (taken-group q is none))
        (old-tags tags)
        (subst IsFresh (sym put-spot) (stays_fresh.put now c (Page p) (Some v) sound.fresh))
        (homes-page s.rows j p v sound.homes keeps)
        (pages-row s later j (with_page p v (s.rows j)) sound.pages refl pages (λ q g is. pages g q (sound.pages j q g (common-page p q v (s.rows j) g is))))

  -- a job takes tags
  module _ (job : ℕ) (known : job < s.size.jobs) (n : Counters) (taken : ℕ)
      (counted : n ≡ record (get_or s.counts job nothing_counted) { tags = (get_or s.counts job nothing_counted).tags + taken }) where
    abbrev more : Parts
    more = record s { counts = set s.counts job n }

    next-now : (k : ℕ) → get_or (set s.counts job n) k nothing_counted ≡ cond (eqb k job) (record (now.next k) { tags = (now.next k).tags + taken }) (now.next k)
    next-now = counted-at s sound job n (λ m. record m { tags = m.tags + taken }) (omega (arith, known, sound.sizes.counts)) counted

    pub counted-world : world_of more ≡ change_counters now job (λ m. record m { tags = m.tags + taken })
    unfolding world_of change_counters
    counted-world = λ e. record { contexts = now.contexts; groups = now.groups; next = λ k. next-now k e; size = s.size }

    rises : (b : Bool) (m : Counters) → m.tags ≤ (cond b (record m { tags = m.tags + taken }) m).tags
    rises true m = omega arith
    rises false m = omega arith

    pub sound-counted : IsSound more
    unfolding world_of group
    sound-counted = record {
      sizes = record {
        size = sound.sizes.size;
        registers = sound.sizes.registers;
        contexts = sound.sizes.contexts;
        groups = sound.sizes.groups;
        counts = length-set s.counts job n ∙ sound.sizes.counts;
      };
      past = sound.past;
      own = sound.own;
      free = sound.free;
      free_groups = sound.free_groups;
      tags = λ m q t bytes is.
          let before = sound.tags m q t bytes is in
          let after = rises (eqb t.job job) (now.next t.job) in
          let same = ap (λ (x : Counters). x.tags) (next-now t.job) in
          omega (arith, before, after, same);
      fresh = subst IsFresh (sym counted-world)
          (stays_fresh.counted now job (λ m. record m { tags = m.tags + taken }) (record { contexts = omega arith; groups = omega arith; tags = omega arith }) sound.fresh);
      homes = sound.homes;
      pages = sound.pages;
    }
