-- A world uses the frames of its places, and the same pages part.
use Rattle.std.proofs.Common.{◌≡◌, ◌≢◌, ⊎_elim, ℕ, zero, suc, ◌+◌, ◌-◌, ◌<◌, ◌≤◌, List, [], ◌∷◌, ◌++◌, arith, length, map, refl, sym, ap, subst, ◌∙◌, Bool, true, false, cond, Option, Some, None, get_or}
use Rattle.std.specs.Prelude.{All, T}
use Rattle.std.specs.Cmp.{tied_itself}
use Rattle.std.specs.List.{AllPairs, Contains, flat_map}
use Rattle.std.specs.Ordering.{is_eq, ordering_reverse}
use Rattle.std.specs.declared.cmp.Ordering.{Ordering}
use Rattle.std.specs.declared.cmp.Ordering.TheVariants.{Less, Equal}
use Rattle.std.specs.FinMap as fm
use Rattle.std.specs.FinMap.Entries.{below_all}
use Rattle.std.proofs.lemmas.Bool.{cases_lt}
use Rattle.std.proofs.lemmas.Grind.{flat_map-append}
use Rattle.std.proofs.lemmas.List.{get_or-map, length-map}
use Rattle.std.proofs.lemmas.List.Elements.{All-append, All-map, Contains-append_left, Contains-append_right}
use Rattle.std.proofs.lemmas.List.Kept.{AllPairs-cons}
use Rattle.lwc_base.specs.declared.cell.Cell.{Cell}
use Rattle.lwc_base.specs.declared.cell.Cell.TheVariants.{Own, Common}
use Rattle.lwc_base.specs.Frames as frames
use Rattle.lwc_base.specs.World.{Context, Group}
use Rattle.lwc_types.specs.declared.key.Key.TheVariants.{Page}
use Rattle.lwc_types.specs.declared.name.Name.{Name}
use Rattle.lwc_types.specs.declared.name.Tag.{Tag}
use Rattle.lwc_types.specs.declared.page.PageValue.{PageValue}
use Rattle.lwc_types.specs.Names.{name_cmp}
use Rattle.ctx_table.specs.NameTables.{ArePlaced, NameTable}
use Rattle.cow_space.specs.Cells.{Place, place_of}
use Rattle.cow_space.specs.Seen as pages_seen
use Rattle.cow_space.specs.Tags as places
use Rattle.cow_space.specs.Tags.{tags_of_place}
use Rattle.cow_space.specs.Worlds.{HoldAllTags, tags_at}
use Rattle.lazy_world.specs.declared.places.Places.{Places}
use Rattle.lazy_world.specs.declared.world.PlacedWorld.{PlacedWorld}
use Rattle.lazy_world.specs.Cells.{is_own, rows_of}
use Rattle.lazy_world.specs.Seen.{count, pages, rows}
use Rattle.lazy_world.specs.Sound.{IsEmpty, IsSound}
use Rattle.lazy_world.specs.States.{Parts, context_at, group_at, held, world_of}
use Rattle.lazy_world.specs.Worlds.{parts, seen}
use Rattle.lazy_world.proofs.AddLemmas.{no_page}
use Rattle.lazy_world.proofs.MappedLemmas.{mapped-entries}
use Rattle.lazy_world.proofs.WorldLemmas.{one_name}
use Rattle.lwc_base.proofs.Facts.{orders}
use Rattle.cow_space.proofs.WorldTags.{context-tags, group-tags, world-parting, world-used}
use Rattle.ctx_table.proofs.Rows.{below-at, first_of_both, rising, second_of_both}

-- rows in the order of names

-- the place that is found is in the list of places
found-there : (shift : ℕ → ℕ) (rows : List (Name × ℕ)) (name : Name) (p : ℕ) → fm.find name_cmp name rows ≡ Some p → Contains (map (λ e. shift e.1) rows) (shift p)
found-there shift [] name p found = absurd cc
found-there shift (e ∷ es) name p found = by (is_eq (name_cmp name e.0)) found (found-there shift es name p)
  where
    by : (b : Bool) → cond b (Some e.1) (fm.find name_cmp name es) ≡ Some p → (fm.find name_cmp name es ≡ Some p → Contains (map (λ x. shift x.1) es) (shift p)) →
        Contains (map (λ x. shift x.1) (e ∷ es)) (shift p)
    by true is later = let same : e.1 ≡ p = cc in (0, omega arith, ap shift same)
    by false is later = let rest = later is in (suc rest.0, omega (arith, rest.1), rest.2)

-- all are different where each half's are and none of the first is in the second
pairs-append : (xs ys : List ℕ) → AllPairs ◌≢◌ xs → AllPairs ◌≢◌ ys → All (λ x. All (λ y. x ≢ y) ys) xs → AllPairs ◌≢◌ (xs ++ ys)
pairs-append [] ys first second cross = second
pairs-append (x ∷ xs) ys first second cross =
    AllPairs-cons ◌≢◌ x (xs ++ ys)
    (All-append (λ y. x ≢ y) xs ys (λ k d lt. first 0 (suc k) d (omega arith) (omega (arith, lt))) (cross 0 x (omega arith)))
    (pairs-append xs ys (λ a b d less lt. first (suc a) (suc b) d (omega (arith, less)) (omega (arith, lt))) second (λ k d lt. cross (suc k) d (omega (arith, lt))))

flat-map-map : {X Y A : Type 0} (g : Y → List A) (f : X → Y) (xs : List X) → flat_map g (map f xs) ≡ flat_map (λ x. g (f x)) xs
flat-map-map g f [] = refl
flat-map-map g f (x ∷ xs) = ap (λ ts. g (f x) ++ ts) (flat-map-map g f xs)

-- the places of the names of a table
module _ (table : NameTable) (placed : ArePlaced table) where
  abbrev es : List (Name × ℕ)
  es = fm.entries table.map

  find-at : (rows : List (Name × ℕ)) (i : ℕ) (d : Name × ℕ) → T (fm.is_sorted name_cmp rows) → i < length rows → fm.find name_cmp (get_or rows i d).0 rows ≡ Some (get_or rows i d).1
  find-at [] i d sorted within = absurd (omega (arith, within))
  find-at (e ∷ es) zero d sorted within = ap (λ (r : Ordering). cond (is_eq r) (Some e.1) (fm.find name_cmp e.0 es)) (tied_itself orders.names e.0)
  find-at (e ∷ es) (suc i) d sorted within =
      let lower : name_cmp e.0 (get_or es i d).0 ≡ Less = below-at e.0 es i d (first_of_both (below_all name_cmp e.0 es) (fm.is_sorted name_cmp es) sorted) (omega (arith, within)) in
      ap (λ (r : Ordering). cond (is_eq r) (Some e.1) (fm.find name_cmp (get_or es i d).0 es)) (orders.names.antisymm (get_or es i d).0 e.0 ∙ ap ordering_reverse lower)
      ∙ find-at es i d (second_of_both (below_all name_cmp e.0 es) (fm.is_sorted name_cmp es) sorted) (omega (arith, within))

  entry-at : (k : ℕ) (d : Name × ℕ) → k < length es → fm.get table.map (get_or es k d).0 ≡ Some (get_or es k d).1
  entry-at k d inside = fm.get-entries table.map (get_or es k d).0 ∙ find-at es k d (fm.entries_sorted table.map) inside

  differ : (a b : ℕ) (d : Name × ℕ) → a < b → b < length es → (get_or es a d).1 ≢ (get_or es b d).1
  differ a b d less inside same =
      let a_in : a < length es = omega (arith, less, inside) in
      let one : (get_or es a d).0 ≡ (get_or es b d).0 =
      one_name table placed (get_or es b d).0 (get_or es a d).0 (get_or es b d).1 (get_or es a d).1 (entry-at b d inside) (entry-at a d a_in) same in
      let rises = rising es a b d (fm.entries_sorted table.map) less inside in
      let ties = ap (name_cmp (get_or es a d).0) one in
      let itself = tied_itself orders.names (get_or es a d).0 in
      let both : Less ≡ Equal = sym rises ∙ sym ties ∙ itself in
      cc

  pub pairs : (shift : ℕ → ℕ) → ((m n : ℕ) → shift m ≡ shift n → m ≡ n) → AllPairs ◌≢◌ (map (λ e. shift e.1) es)
  pairs shift one a b d less inside same =
      let none : Name × ℕ = (record { job = 0; k = 0 }, 0) in
      let b_in : b < length es = omega (arith, inside, length-map es (λ (e : Name × ℕ). shift e.1)) in
      let a_in : a < length es = omega (arith, less, b_in) in
      let at_a = get_or-map (λ (e : Name × ℕ). shift e.1) es a none d a_in in
      let at_b = get_or-map (λ (e : Name × ℕ). shift e.1) es b none d b_in in
      differ a b none less b_in (one (get_or es a none).1 (get_or es b none).1 (sym at_a ∙ same ∙ at_b))

  pub each-place : (shift : ℕ → ℕ) (P : ℕ → Type 0) → ((p : ℕ) → p < length table.places → P (shift p)) → All P (map (λ e. shift e.1) es)
  each-place shift P has =
      All-map P (λ (e : Name × ℕ). shift e.1) es (λ k d lt. has (get_or es k d).1 (placed.within (get_or es k d).0 (get_or es k d).1 (entry-at k d lt)))

  pub place-there : (shift : ℕ → ℕ) (name : Name) (p : ℕ) → fm.get table.map name ≡ Some p → Contains (map (λ e. shift e.1) es) (shift p)
  place-there shift name p found = found-there shift es name p (sym (fm.get-entries table.map name) ∙ found)

own_held : (p : ℕ) (cell : Cell (Option PageValue)) → is_own cell ≡ true → cell ≡ Own (held (Page p) cell)
own_held p (Own value) own = refl
own_held p (Common g) own = cc

no-context-tags : (x : Context) → frames.tags_of_context 0 x ≡ []
unfolding frames.tags_of_context
no-context-tags x = refl

module _ (s : Parts) (sound : IsSound s) (placed : ArePlaced s.contexts) (placed_groups : ArePlaced s.groups) (cells : List Place)
    (tie : (i p : ℕ) → s.rows i (Page p) ≡ place_of cells i p) (long : length cells ≡ s.size.contexts + s.size.groups) where
  abbrev context_places : List ℕ
  context_places = map (λ e. e.1) (fm.entries s.contexts.map)

  abbrev group_places : List ℕ
  group_places = map (λ e. s.size.contexts + e.1) (fm.entries s.groups.map)

  nothing-past : (i p : ℕ) → s.size.pages ≤ p → place_of cells i p ≡ Own None
  nothing-past i p past = sym (tie i p) ∙ no_page (s.rows i (Page p)) p (sound.past i (Page p) past)

  place-context : (i : ℕ) → frames.tags_of_context s.size.pages (context_at s i) ≡ tags_of_place (place_of cells i)
  place-context i = context-tags s.size.pages (context_at s i) (place_of cells i) sound.sizes.size.pages.1 (λ p low. sym (tie i p)) (nothing-past i)

  place-group : (j : ℕ) → frames.tags_of_group s.size.pages (group_at s j) ≡ tags_of_place (place_of cells (s.size.contexts + j))
  place-group j =
      group-tags s.size.pages (group_at s j) (place_of cells (s.size.contexts + j)) sound.sizes.size.pages.1
      (λ p low. sym (tie (s.size.contexts + j) p) ∙ own_held p (s.rows (s.size.contexts + j) (Page p)) (sound.own j (Page p)))
      (nothing-past (s.size.contexts + j))

  world-tags : frames.tags (world_of s) ≡ tags_at cells (context_places ++ group_places)
  unfolding world_of frames.tags tags_at
  world-tags =
      let tags_of : ℕ → List Tag = λ i. tags_of_place (place_of cells i) in
      let first =
      ap (flat_map (λ (e : Name × Context). frames.tags_of_context s.size.pages e.1)) (mapped-entries (context_at s) s.contexts.map)
      ∙ flat-map-map (λ (e : Name × Context). frames.tags_of_context s.size.pages e.1) (λ (e : Name × ℕ). (e.0, context_at s e.1)) (fm.entries s.contexts.map)
      ∙ (λ x. flat_map (λ (e : Name × ℕ). place-context e.1 x) (fm.entries s.contexts.map))
      ∙ sym (flat-map-map tags_of (λ (e : Name × ℕ). e.1) (fm.entries s.contexts.map)) in
      let second =
      ap (flat_map (λ (e : Name × Group). frames.tags_of_group s.size.pages e.1)) (mapped-entries (group_at s) s.groups.map)
      ∙ flat-map-map (λ (e : Name × Group). frames.tags_of_group s.size.pages e.1) (λ (e : Name × ℕ). (e.0, group_at s e.1)) (fm.entries s.groups.map)
      ∙ (λ x. flat_map (λ (e : Name × ℕ). place-group e.1 x) (fm.entries s.groups.map))
      ∙ sym (flat-map-map tags_of (λ (e : Name × ℕ). s.size.contexts + e.1) (fm.entries s.groups.map)) in
      (λ x. first x ++ second x) ∙ sym (flat_map-append tags_of context_places group_places)

  empty-tags : (i : ℕ) → IsEmpty (s.rows i) → tags_of_place (place_of cells i) ≡ []
  empty-tags i empty =
      sym (context-tags 0 (context_at s i) (place_of cells i) (omega arith) (λ p low. absurd (omega (arith, low))) (λ p past. sym (tie i p) ∙ no_page (s.rows i (Page p)) p (empty (Page p))))
      ∙ no-context-tags (context_at s i)

  free-tags : (i : ℕ) → (Contains (context_places ++ group_places) i → ⊥) → i < s.size.contexts → (o : Option Name) → get_or s.contexts.places i None ≡ o → tags_of_place (place_of cells i) ≡ []
  free-tags i not_in low None free = empty-tags i (sound.free i low free)
  free-tags i not_in low (Some name) taken = absurd (not_in (Contains-append_left context_places group_places i (place-there s.contexts placed (λ p. p) name i ((placed.at name i).1 taken))))

  free-group-tags : (j : ℕ) → (Contains (context_places ++ group_places) (s.size.contexts + j) → ⊥) → (o : Option Name) → get_or s.groups.places j None ≡ o →
      tags_of_place (place_of cells (s.size.contexts + j)) ≡ []
  free-group-tags j not_in None free = empty-tags (s.size.contexts + j) (sound.free_groups j free)
  free-group-tags j not_in (Some name) taken =
      absurd (not_in (Contains-append_right context_places group_places (s.size.contexts + j) (place-there s.groups placed_groups (λ q. s.size.contexts + q) name j ((placed_groups.at name j).1 taken))))

  hold-all : HoldAllTags cells (context_places ++ group_places)
  hold-all = record {
    inside = All-append (λ i. i < length cells) context_places group_places
        (each-place s.contexts placed (λ p. p) (λ i. i < length cells) (λ p lt. omega (arith, lt, long, sound.sizes.contexts)))
        (each-place s.groups placed_groups (λ q. s.size.contexts + q) (λ i. i < length cells) (λ p lt. omega (arith, lt, long, sound.sizes.groups)));
    apart = pairs-append context_places group_places (pairs s.contexts placed (λ p. p) (λ m n same. same)) (pairs s.groups placed_groups (λ q. s.size.contexts + q) (λ m n same. omega (arith, same)))
        (each-place s.contexts placed (λ p. p) (λ x. All (λ y. x ≢ y) group_places)
        (λ p lt. each-place s.groups placed_groups (λ q. s.size.contexts + q) (λ y. p ≢ y) (λ q _ same. omega (arith, lt, same, sound.sizes.contexts))));
    rest = λ i not_in.
        ⊎_elim
        (λ low. free-tags i not_in low (get_or s.contexts.places i None) refl)
        (λ high.
        let behind : s.size.contexts + (i - s.size.contexts) ≡ i = omega (arith, high) in
        ap (λ k. tags_of_place (place_of cells k)) (sym behind)
        ∙ free-group-tags (i - s.size.contexts) (λ has. not_in (moved (s.size.contexts + (i - s.size.contexts)) i behind has)) (get_or s.groups.places (i - s.size.contexts) None) refl)
        (cases_lt i s.size.contexts);
  }
    where
      moved : (a b : ℕ) → a ≡ b → Contains (context_places ++ group_places) a → Contains (context_places ++ group_places) b
      moved a b same has = subst (Contains (context_places ++ group_places)) same has

  -- the frames in use
  pub used-places : frames.used (world_of s) ≡ places.used cells
  used-places = world-used (world_of s) cells (context_places ++ group_places) hold-all world-tags

  -- whether a page parts
  pub parting-places : (i p : ℕ) (value : PageValue) → s.rows i (Page p) ≡ Own (Some value) → frames.is_parting (world_of s) value ≡ places.is_parting cells i p
  parting-places i p value own = world-parting (world_of s) cells (context_places ++ group_places) i p value hold-all world-tags (sym (tie i p) ∙ own)

-- the cells of places, and how many there are
pub row-page : (w : Places) (i p : ℕ) → rows w i (Page p) ≡ place_of (pages w) i p
unfolding rows rows_of pages
row-page w i p = refl

pub count-pages : (w : Places) → length (pages w) ≡ count w
unfolding pages
count-pages w = refl

-- the frames in use, by the places and by the world
pub used-world : (w : PlacedWorld) → places.used (pages_seen.cells w.places.pages) ≡ frames.used (seen w)
unfolding pages seen parts
used-world w = sym (used-places (parts w) w.sound w.placed w.placed_groups (pages w.places) (row-page w.places) (count-pages w.places ∙ w.count))
