-- Where the pages of a clone come from: by items first, and else by the segments of the context.
use Rattle.std.proofs.Common.{◌≡◌, ◌≢◌, ℕ, ◌+◌, ◌<◌, ◌++◌, Bool, true, false, cond, List, [], ◌∷◌, arith, get_or, length, take, refl, sym, ap, ◌∙◌, Option, Some, None}
use Rattle.std.specs.Prelude.{◌||◌, All, unwrap_or}
use Rattle.std.specs.FinMap as fm
use Rattle.std.specs.List.{find}
use Rattle.std.specs.Option.{option_map, option_or}
use Rattle.std.proofs.lemmas.List.{take_more}
use Rattle.std.proofs.lemmas.List.Elements.{All-push}
use Rattle.std.proofs.lemmas.List.Folds.{find-append, list_any-append}
use Rattle.lwc_base.specs.declared.cell.Cell.{Cell}
use Rattle.lwc_base.specs.declared.cell.Cell.TheVariants as cells
use Rattle.lwc_base.specs.declared.item.Item.{Item}
use Rattle.lwc_base.specs.declared.item.Mode.{Mode}
use Rattle.lwc_base.specs.declared.item.Mode.TheVariants.{Copy, Share, Unmap, CopyRead}
use Rattle.lwc_base.specs.Cells.{value_of}
use Rattle.lwc_base.specs.Modes.{IsSpec, mode, mode_or_copy, names}
use Rattle.lwc_base.specs.Sharing.{is_moved}
use Rattle.lwc_base.specs.World.{Group, group}
use Rattle.lwc_types.specs.declared.key.Key.{Key}
use Rattle.lwc_types.specs.declared.key.Key.TheVariants.{Page}
use Rattle.lwc_types.specs.declared.name.Name.{Name}
use Rattle.lwc_types.specs.declared.page.PageValue.{PageValue}
use Rattle.range_map.specs.Kinds.{IsSegment, is_between, kind_of, state_at, state_in, state_of}
use Rattle.range_map.specs.declared.segment.PageState.{PageState}
use Rattle.range_map.specs.declared.segment.Segment.{Segment}
use Rattle.range_map.specs.declared.segment.SegmentKind.{SegmentKind}
use Rattle.range_map.specs.declared.segment.SegmentKind.TheVariants.{Own, Common}
use Rattle.range_map.proofs.Built.{or_none}
use Rattle.lwc_types.specs.declared.range.Range.{Range}
use Rattle.cow_space.specs.declared.page_runs.PageRun.{PageRun}
use Rattle.cow_space.specs.Changes.{IsApart, IsPageRun, have_page}
use Rattle.ctx_table.specs.NameTables.{ArePlaced}
use Rattle.lazy_world.specs.Clones.{CopiesPages, item_gift, kind_origin, place_of_group, state_gift}
use Rattle.lazy_world.specs.Cells.{states_of}
use Rattle.lazy_world.specs.Transfers.{CanGet, copied_origin, given, given_or, is_read, transferred_cell}
use Rattle.lazy_world.specs.Sound.{IsAllOwn}
use Rattle.lazy_world.specs.Origins.{Gift, gift_at, gift_of}
use Rattle.lazy_world.specs.States.{Parts, world_of}
use Rattle.lazy_world.specs.declared.transfer.Transfer.TheVariants.{Clone}
use Rattle.item_modes.proofs.ModeLemmas.{mode_here, mode_named, mode_other, none_before}
use Rattle.lazy_world.proofs.FoundLemmas.{held_own}
use Rattle.lazy_world.proofs.WorldLemmas.{group-found, group-missed}

-- what page runs after others give
pub gift_append : (xs ys : List PageRun) (q : ℕ) → gift_at (xs ++ ys) q ≡ option_or (gift_at xs q) (gift_at ys q)
gift_append xs ys q =
    ap (option_map gift_of) (find-append (λ (s : PageRun). is_between s.range.from s.range.to q) xs ys)
    ∙ at (find (λ (s : PageRun). is_between s.range.from s.range.to q) xs) (find (λ (s : PageRun). is_between s.range.from s.range.to q) ys)
  where
    at : (a b : Option PageRun) → option_map gift_of (option_or a b) ≡ option_or (option_map gift_of a) (option_map gift_of b)
    at None b = refl
    at (Some s) b = refl

-- what one page run gives
one_gift : (s : PageRun) (q : ℕ) (b : Bool) → is_between s.range.from s.range.to q ≡ b → gift_at (s ∷ []) q ≡ cond b (Some (gift_of s)) None
one_gift s q true on = ap (λ c. option_map gift_of (cond c (Some s) None)) on
one_gift s q false off = ap (λ c. option_map gift_of (cond c (Some s) None)) off

module _ (items : List Item) (pages : ℕ) (spec : IsSpec pages items) (i : ℕ) (d : Item) (inside : i < length items) (q : ℕ) where
  abbrev item : Item
  item = get_or items i d

  -- an item that copies its pages leaves all copied that were
  pub still_copied : (names item (Page q) ≡ true → item.mode ≡ Copy) → mode_or_copy (take i items) (Page q) ≡ Copy → mode_or_copy (take (i + 1) items) (Page q) ≡ Copy
  unfolding mode_or_copy
  still_copied copies so_far = at (names item (Page q)) refl
    where
      at : (b : Bool) → names item (Page q) ≡ b → unwrap_or (mode (take (i + 1) items) (Page q)) Copy ≡ Copy
      at true here = ap (λ o. unwrap_or o Copy) (mode_named items pages spec i d inside q here) ∙ copies here
      at false off = ap (λ o. unwrap_or o Copy) (mode_other items pages spec i d inside q off) ∙ so_far

  -- where all pages are copied, the item copies what it names
  pub copied_here : CopiesPages items → names item (Page q) ≡ true → item.mode ≡ Copy
  unfolding mode_or_copy
  copied_here copies here = sym (ap (λ o. unwrap_or o Copy) (mode_here items pages spec i d inside q here)) ∙ copies q

  module _ (from : ℕ) (page_runs : List PageRun) (so_far : gift_at page_runs q ≡ item_gift from (mode (take i items) (Page q))) where
    -- an item whose pages are copied has no page run
    pub item_passed : (names item (Page q) ≡ true → item_gift from (Some item.mode) ≡ None) → gift_at page_runs q ≡ item_gift from (mode (take (i + 1) items) (Page q))
    item_passed copies = at (names item (Page q)) refl
      where
        at : (b : Bool) → names item (Page q) ≡ b → gift_at page_runs q ≡ item_gift from (mode (take (i + 1) items) (Page q))
        at true here = so_far ∙ ap (item_gift from) (none_before items pages spec i d inside q here) ∙ sym (ap (item_gift from) (mode_named items pages spec i d inside q here) ∙ copies here)
        at false off = so_far ∙ sym (ap (item_gift from) (mode_other items pages spec i d inside q off))

    -- another one has a page run of its own
    pub item_pushed : (s : PageRun) → is_between s.range.from s.range.to q ≡ names item (Page q) → Some (gift_of s) ≡ item_gift from (Some item.mode) →
        gift_at (page_runs ++ s ∷ []) q ≡ item_gift from (mode (take (i + 1) items) (Page q))
    item_pushed s same gift = gift_append page_runs (s ∷ []) q ∙ at (names item (Page q)) refl
      where
        at : (b : Bool) → names item (Page q) ≡ b → option_or (gift_at page_runs q) (gift_at (s ∷ []) q) ≡ item_gift from (mode (take (i + 1) items) (Page q))
        at true here =
            (λ x. option_or ((so_far ∙ ap (item_gift from) (none_before items pages spec i d inside q here)) x) (one_gift s q true (same ∙ here) x))
            ∙ gift ∙ sym (ap (item_gift from) (mode_named items pages spec i d inside q here))
        at false off =
            ap (option_or (gift_at page_runs q)) (one_gift s q false (same ∙ off))
            ∙ or_none (gift_at page_runs q) ∙ so_far ∙ sym (ap (item_gift from) (mode_other items pages spec i d inside q off))

  -- of pages that may only be read, with one item more
  module _ (ranges : List Range) (so_far : have_page ranges q ≡ is_read (mode (take i items) (Page q))) where
    none_read : names item (Page q) ≡ true → have_page ranges q ≡ false
    none_read here = so_far ∙ ap is_read (none_before items pages spec i d inside q here)

    pub read_passed : (names item (Page q) ≡ true → is_read (Some item.mode) ≡ false) → have_page ranges q ≡ is_read (mode (take (i + 1) items) (Page q))
    read_passed other = at (names item (Page q)) refl
      where
        at : (b : Bool) → names item (Page q) ≡ b → have_page ranges q ≡ is_read (mode (take (i + 1) items) (Page q))
        at true here = none_read here ∙ sym (ap is_read (mode_named items pages spec i d inside q here) ∙ other here)
        at false off = so_far ∙ sym (ap is_read (mode_other items pages spec i d inside q off))

    pub read_pushed : (r : Range) → is_between r.from r.to q ≡ names item (Page q) → is_read (Some item.mode) ≡ true → have_page (ranges ++ r ∷ []) q ≡ is_read (mode (take (i + 1) items) (Page q))
    read_pushed r same read =
        list_any-append (λ (x : Range). is_between x.from x.to q) ranges (r ∷ [])
        ∙ ap (λ b. have_page ranges q || (b || false)) same ∙ at (names item (Page q)) refl
      where
        or_false : (b : Bool) → (b || (false || false)) ≡ b
        or_false true = refl
        or_false false = refl

        at : (b : Bool) → names item (Page q) ≡ b → (have_page ranges q || (names item (Page q) || false)) ≡ is_read (mode (take (i + 1) items) (Page q))
        at true here = (λ e. none_read here e || (here e || false)) ∙ sym (ap is_read (mode_named items pages spec i d inside q here) ∙ read)
        at false off = ap (λ b. have_page ranges q || (b || false)) off ∙ or_false (have_page ranges q) ∙ so_far ∙ sym (ap is_read (mode_other items pages spec i d inside q off))

-- a place can get what an item gives of another one
pub item_given : (from count to : ℕ) → from < count → from ≢ to → (m : Option Mode) → CanGet count to (option_map (λ gift. gift.0) (item_gift from m))
item_given from count to inside apart None = tt
item_given from count to inside apart (Some Copy) = tt
item_given from count to inside apart (Some Share) = (inside, apart)
item_given from count to inside apart (Some Unmap) = tt
item_given from count to inside apart (Some CopyRead) = tt

module _ (s : Parts) (from : ℕ) where
  -- the page run of a segment
  abbrev pub page_run_of : Segment → PageRun
  page_run_of segment = record { range = record { from = segment.from; to = segment.to }; origin = kind_origin s from segment.kind; right = Some segment.right }

  module _ (segments : List Segment) (i : ℕ) (d : Segment) (inside : i < length segments) (q : ℕ) where
    abbrev segment : Segment
    segment = get_or segments i d

    abbrev has : Bool
    has = is_between segment.from segment.to q

    state_more : state_at (take (i + 1) segments) q ≡ option_or (state_at (take i segments) q) (cond has (Some (state_in segment)) None)
    unfolding state_at
    state_more =
        ap (λ xs. option_map state_in (find (λ x. is_between x.from x.to q) xs)) (take_more segments i d inside)
        ∙ ap (option_map state_in) (find-append (λ x. is_between x.from x.to q) (take i segments) (segment ∷ []))
        ∙ at (find (λ x. is_between x.from x.to q) (take i segments)) has
      where
        at : (o : Option Segment) (b : Bool) → option_map state_in (option_or o (cond b (Some segment) None)) ≡ option_or (option_map state_in o) (cond b (Some (state_in segment)) None)
        at None true = refl
        at None false = refl
        at (Some x) b = refl

    -- one more segment gives what it says to the pages that neither an item nor a segment before it has
    pub segment_pushed : (first : Option Gift) (page_runs : List PageRun) → gift_at page_runs q ≡ option_or first (option_map (state_gift s from) (state_at (take i segments) q)) →
        gift_at (page_runs ++ page_run_of segment ∷ []) q ≡ option_or first (option_map (state_gift s from) (state_at (take (i + 1) segments) q))
    segment_pushed first page_runs so_far =
        gift_append page_runs (page_run_of segment ∷ []) q
        ∙ (λ x. option_or (so_far x) (one_gift (page_run_of segment) q has refl x))
        ∙ at first (state_at (take i segments) q) has
        ∙ sym (ap (λ o. option_or first (option_map (state_gift s from) o)) state_more)
      where
        at : (a : Option Gift) (o : Option PageState) (b : Bool) → option_or (option_or a (option_map (state_gift s from) o)) (cond b (Some (gift_of (page_run_of segment))) None)
            ≡ option_or a (option_map (state_gift s from) (option_or o (cond b (Some (state_in segment)) None)))
        at (Some x) o b = refl
        at None (Some k) b = refl
        at None None true = refl
        at None None false = refl

  -- a place can get what a segment gives
  module _ (count to : ℕ) (placed : ArePlaced s.groups) (long : length s.groups.places ≡ s.size.groups) (places : count ≡ s.size.contexts + s.size.groups) (inside : from < count) (apart : from ≢ to)
      (low : to < s.size.contexts) where
    group_given : (g : Name) (o : Option ℕ) → fm.get s.groups.map g ≡ o → IsApart count to (copied_origin (option_map (λ j. s.size.contexts + j) o))
    group_given g None at = tt
    group_given g (Some n) at =
        let within = placed.within g n at in
        (omega (arith, within, long, places), λ (there : s.size.contexts + n ≡ to). absurd (omega (arith, there, low)))

    kind_given : (kind : SegmentKind) → IsApart count to (kind_origin s from kind)
    kind_given Own = (inside, apart)
    kind_given (Common g) = group_given g (fm.get s.groups.map g) refl

    pub segment_given : (page_runs : List PageRun) (segment : Segment) → IsSegment segment → All (IsPageRun count to) page_runs → All (IsPageRun count to) (page_runs ++ page_run_of segment ∷ [])
    segment_given page_runs segment is all =
        All-push (IsPageRun count to) page_runs (page_run_of segment) all (record { order = omega (arith, is.some); inside = is.inside; given = kind_given segment.kind })

-- a group's value is what its place has, if it is live
pub group_copied : (s : Parts) → ((j : ℕ) → IsAllOwn (s.rows (s.size.contexts + j))) → (k : Key) (g : Name) → given s.rows k (copied_origin (place_of_group s g)) ≡ cells.Own ((group (world_of s) g).value k)
group_copied s own k g = at (fm.get s.groups.map g) refl
  where
    at : (o : Option ℕ) → fm.get s.groups.map g ≡ o → given s.rows k (copied_origin (option_map (λ j. s.size.contexts + j) o)) ≡ cells.Own ((group (world_of s) g).value k)
    at None missed = ap (λ (x : Group). cells.Own (x.value k)) (sym (group-missed s g missed))
    at (Some j) found = held_own k (s.rows (s.size.contexts + j) k) (own j k) ∙ ap (λ (x : Group). cells.Own (x.value k)) (sym (group-found s g j found))

-- the origins of a clone give what a clone gets, if nothing moves any more
pub clone_gives : (s : Parts) → ((j : ℕ) → IsAllOwn (s.rows (s.size.contexts + j))) → (g : Name) (m : Option Mode) (from q : ℕ) (old : Cell (Option PageValue)) → is_moved (unwrap_or m Copy) (Page q) (s.rows from (Page q)) ≡ false →
    given_or s.rows (Page q) (cells.Own None) (option_map (λ gift. gift.0) (option_or (item_gift from m) (option_map (state_gift s from) (states_of (s.rows from) (s.rights from) q))))
    ≡ transferred_cell (world_of s) (Clone g) m (Page q) (s.rows from (Page q)) old
clone_gives s own g m from q old still = by m still
  where
    copied : (cell : Cell (Option PageValue)) → s.rows from (Page q) ≡ cell →
        given_or s.rows (Page q) (cells.Own None) (option_map (λ gift. gift.0) (option_map (state_gift s from) (state_of (kind_of cell) (s.rights from q)))) ≡ cells.Own (value_of (world_of s) (Page q) cell)
    copied (cells.Own None) is = refl
    copied (cells.Own (Some value)) is = is
    copied (cells.Common h) is = group_copied s own (Page q) h

    by : (m : Option Mode) → is_moved (unwrap_or m Copy) (Page q) (s.rows from (Page q)) ≡ false →
        given_or s.rows (Page q) (cells.Own None) (option_map (λ gift. gift.0) (option_or (item_gift from m) (option_map (state_gift s from) (states_of (s.rows from) (s.rights from) q)))) ≡ transferred_cell (world_of s) (Clone g) m (Page q) (s.rows from (Page q)) old
    by None rests = copied (s.rows from (Page q)) refl
    by (Some Copy) rests = copied (s.rows from (Page q)) refl
    by (Some Share) rests = sym (ap (λ b. cond b (cells.Common g) (s.rows from (Page q))) rests)
    by (Some Unmap) rests = refl
    by (Some CopyRead) rests = copied (s.rows from (Page q)) refl
