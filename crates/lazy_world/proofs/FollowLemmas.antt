-- A context whose cells become another row.
use Rattle.std.proofs.Common.{◌≡◌, ◌≢◌, ℕ, ◌<◌, arith, refl, sym, ap, subst, ◌∙◌, List, Option, Some, None, true}
use Rattle.std.specs.Prelude.{slice_index_or, unwrap_or}
use Rattle.std.specs.FinMap as fm
use Rattle.lwc_base.specs.declared.cell.Cell.TheVariants as cells
use Rattle.lwc_base.specs.declared.cell.Cell.TheVariants.{Common}
use Rattle.lwc_base.specs.declared.item.Item.{Item}
use Rattle.lwc_base.specs.Fresh.{IsFresh}
use Rattle.lwc_base.specs.Modes.{IsSpec}
use Rattle.lwc_base.specs.Ranges as base
use Rattle.lwc_base.specs.Ranges.{ranges_of}
use Rattle.lwc_base.specs.World.{World, Context, change_context, changed_context, context, new_context}
use Rattle.lwc_types.specs.declared.key.Key.TheVariants.{Page}
use Rattle.lwc_types.specs.declared.counters.Counters.{Counters}
use Rattle.lwc_types.specs.declared.limits.TheConstants.{MOST_PAGES}
use Rattle.lwc_types.specs.declared.name.Name.{Name}
use Rattle.lwc_types.specs.declared.name.Tag.{Tag}
use Rattle.lwc_types.specs.declared.page.PageValue.TheVariants.{Data}
use Rattle.lwc_types.specs.declared.right.Right.{Right}
use Rattle.lwc_types.specs.Names.{name_cmp}
use Rattle.lwc_types.specs.Registers.{fresh_registers}
use Rattle.range_map.specs.Kinds.{kind_of, ranges, state_of}
use Rattle.cow_space.specs.declared.page_runs.Origin.{Origin}
use Rattle.cow_space.specs.declared.page_runs.Origin.TheVariants as origins
use Rattle.ctx_table.specs.NameTables.{ArePlaced, NameTable}
use Rattle.lazy_world.specs.Cells.{Row, put_rights, put_row, states_of}
use Rattle.lazy_world.specs.Followed.{IsOfContexts, IsReady, followed, with_transferred}
use Rattle.lazy_world.specs.Transfers.{IsFor, given_or, transferred_rights, transferred_row}
use Rattle.lazy_world.specs.Sound.{HasOldTags, HasOneHome, IsSound, IsWithin}
use Rattle.lazy_world.specs.Origins.{page_origin, origin_row}
use Rattle.lazy_world.specs.States.{Parts, context_at, context_of, registers_at, world_of}
use Rattle.lazy_world.specs.declared.pieces.Origins.{Origins}
use Rattle.lazy_world.specs.declared.transfer.Transfer.{Transfer}
use Rattle.lazy_world.specs.declared.transfer.Transfer.TheVariants.{Mark, Move, Clone, Overlay}
use Rattle.lazy_world.proofs.MapLemmas.{few_pages, no_state, past_of}
use Rattle.lazy_world.proofs.PageLemmas.{has_group_page, pages-context, pages-row, transferred-pages}
use Rattle.lazy_world.proofs.PastLemmas.{transferred-within}
use Rattle.lazy_world.proofs.PlaceLemmas.{choose, pass}
use Rattle.lazy_world.proofs.SoundLemmas.{IsTagged, homes-row, sound-row}
use Rattle.lazy_world.proofs.WorldLemmas.{change_context-row, context-found}
use Rattle.range_map.proofs.Ranges.{ranges_of_context}

-- all tags of what origins give are old
pub origin-tags : (next : ℕ → Counters) (rows : ℕ → Row) (i : ℕ) (s : Origins) → ((j : ℕ) → HasOldTags next (rows j)) → HasOldTags next (origin_row rows i s)
origin-tags next rows i s old p tag bytes is = at (page_origin s.pages p) is
  where
    at : (o : Option Origin) → given_or rows (Page p) (rows i (Page p)) o ≡ cells.Own (Some (Data tag bytes)) → tag.k < (next tag.job).tags
    at None e = old i p tag bytes e
    at (Some origins.Absent) e = absurd (let none = e in cc)
    at (Some origins.Zeros) e = absurd (let none = e in cc)
    at (Some (origins.Common g)) e = absurd (let none = e in cc)
    at (Some (origins.CopyOf j)) e = old j p tag bytes e

-- a row that origins give leaves each tag its one page number
pub origin-homes : (rows : ℕ → Row) (i : ℕ) (s : Origins) → HasOneHome rows → HasOneHome (put_row rows i (origin_row rows i s))
origin-homes rows i s homes = homes-row rows i (origin_row rows i s) homes (λ p tag bytes is. at p tag bytes (page_origin s.pages p) is)
  where
    at : (p : ℕ) (tag : Tag) (bytes : List ℕ) (o : Option Origin) → given_or rows (Page p) (rows i (Page p)) o ≡ cells.Own (Some (Data tag bytes)) → IsTagged rows p tag
    at p tag bytes None e = record { place = i; bytes = bytes; is = e }
    at p tag bytes (Some origins.Absent) e = absurd (let none = e in cc)
    at p tag bytes (Some origins.Zeros) e = absurd (let none = e in cc)
    at p tag bytes (Some (origins.Common g)) e = absurd (let none = e in cc)
    at p tag bytes (Some (origins.CopyOf j)) e = record { place = j; bytes = bytes; is = e }

-- so does a copy of another row
pub copied-homes : (rows : ℕ → Row) (i j : ℕ) → HasOneHome rows → HasOneHome (put_row rows i (rows j))
copied-homes rows i j homes = homes-row rows i (rows j) homes (λ p tag bytes is. record { place = j; bytes = bytes; is = is })

-- two names that are one have one place
pub same-place : (m : fm.FinMap name_cmp ℕ) (d c : Name) (from to : ℕ) → d ≡ c → fm.get m d ≡ Some from → fm.get m c ≡ Some to → from ≡ to
same-place m d c from to same at_from at_to = let both : Some from ≡ Some to = sym at_from ∙ ap (fm.get m) same ∙ at_to in cc

-- a transfer for contexts is one for their places
pub transfer-for : (transfer : Transfer) (contexts : ℕ) (d c : Name) (from to : ℕ) → IsOfContexts transfer d c → (d ≡ c → from ≡ to) → to < contexts → IsFor contexts from to transfer
transfer-for (Mark g) contexts d c from to is same low = same is
transfer-for Move contexts d c from to is same low = absurd is
transfer-for (Clone g) contexts d c from to is same low = low
transfer-for (Overlay g) contexts d c from to is same low = low

-- a context that gets cells of a context that is known
pub followed-from : (w : World) (transfer : Transfer) (items : List Item) (d : Name) (x old : Context) → context w d ≡ x → with_transferred w transfer items x old ≡ with_transferred w transfer items (context w d) old
followed-from w transfer items d x old is = ap (λ (z : Context). with_transferred w transfer items z old) (sym is)

-- two changes of a context that agree on it are one
pub change-agree : (w : World) (c : Name) (f g : Context → Context) → f (context w c) ≡ g (context w c) → change_context w c f ≡ change_context w c g
unfolding change_context context
change-agree w c f g same = at (fm.get w.contexts c) same
  where
    at : (o : Option Context) → f (unwrap_or o (new_context 0 (fresh_registers 0))) ≡ g (unwrap_or o (new_context 0 (fresh_registers 0))) → changed_context w c f o ≡ changed_context w c g o
    at None e = refl
    at (Some x) e = ap (λ y. record w { contexts = fm.insert w.contexts c y }) e

module _ (s : Parts) (sound : IsSound s) (placed : ArePlaced s.contexts) (c : Name) (i : ℕ) (found : fm.get s.contexts.map c ≡ Some i)
    (row : Row) (right : ℕ → Right) (change : Context → Context) (is : context_of row right (registers_at s.registers i) ≡ change (context_at s i)) where
  abbrev later : Parts
  later = record s { rows = put_row s.rows i row; rights = put_rights s.rights i right }

  inside : i < s.size.contexts
  inside = let low = placed.within c i found in omega (arith, low, sound.sizes.contexts)

  pub row-world : world_of later ≡ change_context (world_of s) c change
  row-world =
      change_context-row s placed c i found row (put_rights s.rights i right) change inside (λ q other. pass i q right (s.rights q) other)
      (ap (λ r. context_of row r (registers_at s.registers i)) (choose i i right (s.rights i) refl) ∙ is)

  pub row-sound : IsWithin s.size.pages row → HasOldTags (world_of s).next row → IsFresh (change_context (world_of s) c change) → HasOneHome later.rows →
      ((p : ℕ) (g : Name) → row (Page p) ≡ Common g → has_group_page (world_of s) g p ≡ true) → IsSound later
  row-sound within tags fresh homes there =
      let keeps = pages-context (world_of s) (world_of later) c change row-world in
      sound-row s sound i row later.rights within
      (λ j same. absurd (omega (arith, same, inside)))
      (λ low none. absurd (let both = sym ((placed.at c i).0 found) ∙ none in cc))
      (λ j same none. absurd (omega (arith, same, inside)))
      tags (subst IsFresh (sym row-world) fresh) homes
      (pages-row s later i row sound.pages refl keeps (λ p g is. keeps g p (there p g is)))

  -- the ranges of the context afterwards
  pub row-ranges : IsWithin s.size.pages row → ranges_of (change_context (world_of s) c change) c ≡ ranges MOST_PAGES (states_of row right)
  unfolding ranges_of
  row-ranges within =
      ap (λ w. ranges_of w c) (sym row-world)
      ∙ ap (base.ranges (world_of later).size.pages) (context-found later c i found)
      ∙ ranges_of_context (world_of later).size.pages (context_at later i) (states_of row right) (few_pages later sound.sizes.size.pages.1)
      (λ p low e. state_of (kind_of (choose i i row (s.rows i) refl e (Page p))) (choose i i right (s.rights i) refl e p))
      (λ p past low. no_state p (row (Page p)) (right p) (within (Page p) (past_of later p past)))

-- a context that has got at its place what a transfer gives
module _ (s : Parts) (sound : IsSound s) (placed : ArePlaced s.contexts) (transfer : Transfer) (items : List Item) (spec : IsSpec s.size.pages items) (d c : Name) (from to : ℕ)
    (at_d : context (world_of s) d ≡ context_at s from) (at_c : fm.get s.contexts.map c ≡ Some to) where
  abbrev row_now : Row
  row_now = transferred_row (world_of s) transfer items (s.rows from) (s.rows to)

  abbrev right_now : ℕ → Right
  right_now = transferred_rights transfer items (s.rows from) (s.rights from) (s.rights to)

  abbrev change : Context → Context
  change = with_transferred (world_of s) transfer items (context (world_of s) d)

  is_change : context_of row_now right_now (registers_at s.registers to) ≡ change (context_at s to)
  is_change = followed-from (world_of s) transfer items d (context_at s from) (context_at s to) at_d

  within : IsWithin s.size.pages row_now
  within = transferred-within (world_of s) s.size.pages items spec transfer (s.rows from) (s.rows to) (sound.past from) (sound.past to)

  -- its ranges
  pub followed-few : ranges_of (followed (world_of s) transfer items d c) c ≡ ranges MOST_PAGES (states_of row_now right_now)
  followed-few = row-ranges s sound placed c to at_c row_now right_now change is_change within

  module _ (rows : ℕ → Row) (rights : ℕ → ℕ → Right) (rows_are : rows ≡ put_row s.rows to row_now) (rights_are : rights ≡ put_rights s.rights to right_now) where
    abbrev now : Parts
    now = record s { rows = rows; rights = rights }

    now_is : now ≡ record s { rows = put_row s.rows to row_now; rights = put_rights s.rights to right_now }
    now_is = λ e. record s { rows = rows_are e; rights = rights_are e }

    pub followed-world : world_of now ≡ followed (world_of s) transfer items d c
    followed-world = ap world_of now_is ∙ row-world s sound placed c to at_c row_now right_now change is_change

    pub followed-sound : IsReady (world_of s) transfer items (context (world_of s) d) → HasOldTags (world_of s).next row_now → IsFresh (followed (world_of s) transfer items d c) →
        HasOneHome (put_row s.rows to row_now) → IsSound now
    followed-sound ready tags fresh homes =
        subst IsSound (sym now_is)
        (row-sound s sound placed c to at_c row_now right_now change is_change within tags fresh homes
        (transferred-pages s transfer items (context (world_of s) d) from to sound.pages (ap (λ (x : Context). x.cell) at_d) ready))

-- two contexts have two places
pub other-place : (table : NameTable) → ArePlaced table → (c d : Name) (i j : ℕ) → fm.get table.map c ≡ Some i → fm.get table.map d ≡ Some j → c ≢ d → i ≢ j
other-place table placed c d i j at_c at_d other same =
    let here = (placed.at c i).0 at_c in
    let there = (placed.at d j).0 at_d in
    other (let both : Some c ≡ Some d = sym here ∙ ap (λ n. slice_index_or table.places n None) same ∙ there in cc)

-- the ranges of a context are those of its row
pub ranges-here : (s : Parts) → IsSound s → (c : Name) (i : ℕ) → fm.get s.contexts.map c ≡ Some i → ranges_of (world_of s) c ≡ ranges MOST_PAGES (states_of (s.rows i) (s.rights i))
unfolding ranges_of
ranges-here s sound c i found =
    ap (base.ranges (world_of s).size.pages) (context-found s c i found)
    ∙ ranges_of_context (world_of s).size.pages (context_at s i) (states_of (s.rows i) (s.rights i)) (few_pages s sound.sizes.size.pages.1) (λ p low. refl)
    (λ p past low. no_state p (s.rows i (Page p)) (s.rights i p) (sound.past i (Page p) (past_of s p past)))
