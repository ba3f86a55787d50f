-- A store that is tied to trees of which one changes: what is kept, and what the trees stand for.
use Rattle.std.proofs.Common.{◌≡◌, ◌≢◌, ℕ, zero, suc, ◌+◌, ◌*◌, ◌<◌, ◌≤◌, ⊎_elim, true, cond, eqb, ltb, leb, ◌&&◌, List, [], length, get_or, set, map, replicate, refl, sym, ◌∙◌, ap, arith, subst, length-set, get_or-set_other, Option, None, Some}
use Rattle.std.proofs.lemmas.Bool.{cases_lt, lt-ltb, le-ltb, cond-true, cond-false}
use Rattle.std.proofs.lemmas.Bool.Decides.{nat_tests}
use Rattle.std.proofs.lemmas.List.{map-set, get_or-map, length-map, length-replicate, get_or-replicate, get_or_past, get_or_read}
use Rattle.std.proofs.lemmas.List.Sums.{sum_by-set, get_or-le-sum_by, sum_by-cons}
use Rattle.frame_pool.specs.Frame.{Frame, no_frame, zero_frame, frame_count}
use Rattle.lwc_types.specs.declared.name.Tag.{Tag}
use Rattle.lwc_types.specs.declared.page.PageValue.{PageValue}
use Rattle.lwc_types.specs.declared.page.PageValue.TheVariants.{Data}
use Rattle.node_pool.specs.Nodes.{Node, free_of}
use Rattle.page_tree.specs.declared.cell.PageCell.{PageCell}
use Rattle.page_tree.specs.declared.cell.PageCell.TheVariants.{Absent, Zero}
use Rattle.page_tree.specs.declared.cell.PageCell.TheVariants as cell
use Rattle.page_tree.specs.Changes.{KeepsTrees, KeepsMaps, KeepsFrames}
use Rattle.page_tree.specs.Pages.{page, entry_for}
use Rattle.page_tree.specs.Sound.{IsSound, IsTree, trees_at, is_root}
use Rattle.page_tree.specs.Tied.{having, IsTied}
use Rattle.cow_space.specs.Trees.{cells, all_cells, cell_value, values, tree_maps}
use Rattle.cow_space.specs.RowKept.{IsStamped, IsKept}
use Rattle.frame_pool.specs.declared.pool.FrameNo.{FrameNo}
use Rattle.cow_space.specs.Tags.{parts}
use Rattle.cow_space.specs.Maps.{data_of, no_pages, row_of, put_page, put_range}
use Rattle.pool_base.proofs.Totals.{one_if-no, one_if-yes}
use Rattle.cow_space.proofs.Lists.{cond-of, map-set_changed, two_terms}
use Rattle.page_tree.proofs.HolderLemmas.{having-le, tied-tree}
use Rattle.page_tree.proofs.NodeBound.{node_bound}
use Rattle.page_tree.proofs.TreeLemmas.{page-none}
use Rattle.page_tree.proofs.LinkLemmas.{zero_or_more}
use Rattle.lwc_types.proofs.Small.{map-replicate, set-again}
use Rattle.page_tree.specs.declared.store.TheConstants.{PAGES, TREE_NODES}
use Rattle.cow_space.specs.declared.rows.TheConstants.{FREE_NODES}

-- held frames have stamps of their own still, where free ones stay free
pub stamped-kept : (old new : List Node) (frames frames' : List Frame) → KeepsFrames old new frames frames' → IsStamped frames → IsStamped frames'
stamped-kept old new frames frames' keeps stamped = λ f g f_held g_held is.
    stamped f g (was f f_held) (was g g_held) (sym (keeps.stamps f) ∙ is ∙ keeps.stamps g)
  where
    was : (f : ℕ) → 0 < frame_count frames' f → 0 < frame_count frames f
    was f held = ⊎_elim (λ some. some) (λ none. absurd (let free = keeps.free f (omega (arith, none)) in omega (arith, free, held))) (cases_lt 0 (frame_count frames f))

pub few-trees : (nodes : List Node) (frames : List Frame) (trees : List ℕ) → IsKept nodes frames trees → length trees ≤ 65536
few-trees nodes frames trees kept = let few = kept.tied.sound.few in omega (arith, kept.room, few)

pub kept-free : (nodes : List Node) (frames : List Frame) (trees : List ℕ) → IsKept nodes frames trees → FREE_NODES ≤ free_of nodes
kept-free nodes frames trees kept = let bound = node_bound nodes frames trees kept.tied in omega (arith, bound, kept.room)

pub kept-tree : (nodes : List Node) (frames : List Frame) (trees : List ℕ) (i tree : ℕ) → IsKept nodes frames trees → i < length trees → tree ≡ get_or trees i 0 → IsTree nodes tree
kept-tree nodes frames trees i tree kept lt is =
    subst (λ t. IsTree nodes t) (sym is) (tied-tree nodes frames trees i kept.tied lt (few-trees nodes frames trees kept))

-- two rows with one root are both counted there
pub kept-both : (nodes : List Node) (frames : List Frame) (trees : List ℕ) (i j n left other : ℕ) → IsKept nodes frames trees → i < length trees → j < length trees → j ≢ i → left ≡ get_or trees i 0 → other ≡ get_or trees j 0 → left ≡ n + 1 → other ≡ n + 1 → 1 < trees_at nodes n
kept-both nodes frames trees i j n left other kept i_in j_in apart at at' is is' =
    let rooted = kept.tied.rooted n in
    let one = one_if-yes (get_or trees i 0) (n + 1) (sym at ∙ is) in
    let two = one_if-yes (get_or trees j 0) (n + 1) (sym at' ∙ is') in
    let both = two_terms (λ tree. is_root tree n) trees i j 0 i_in j_in apart in
    omega (arith, rooted, one, two, both)

-- the cells of trees

pub cells-page : (nodes : List Node) (tree p : ℕ) → p < PAGES → cells nodes tree p ≡ page nodes tree p
unfolding cells
cells-page nodes tree p lt = cond-true (ltb p PAGES) (page nodes tree p) Absent (lt-ltb p PAGES lt)

pub cells-past : (nodes : List Node) (tree p : ℕ) → PAGES ≤ p → cells nodes tree p ≡ Absent
unfolding cells
cells-past nodes tree p le = cond-false (ltb p PAGES) (page nodes tree p) Absent (le-ltb p PAGES le)

-- the empty tree has nothing
pub cells-empty : (nodes : List Node) → cells nodes 0 ≡ (λ p. Absent)
cells-empty nodes = λ i p. at p i
  where
    at : (p : ℕ) → cells nodes 0 p ≡ Absent
    at p = ⊎_elim (λ lt. cells-page nodes 0 p lt ∙ page-none nodes p) (λ le. cells-past nodes 0 p le) (cases_lt p PAGES)

-- two trees have the same cells where they have the same pages
pub cells-same : (old new : List Node) (tree tree' : ℕ) → ((p : ℕ) → p < PAGES → page new tree' p ≡ page old tree p) → cells new tree' ≡ cells old tree
unfolding cells
cells-same old new tree tree' same = λ i p. at p i
  where
    at : (p : ℕ) → cond (ltb p PAGES) (page new tree' p) Absent ≡ cond (ltb p PAGES) (page old tree p) Absent
    at p = grind (arith, nat_tests, same p)

-- a page is another now
pub cells-put : (old new : List Node) (left came p : ℕ) (c : PageCell) → p < PAGES → page new came p ≡ c → ((q : ℕ) → q ≢ p → q < PAGES → page new came q ≡ page old left q) → cells new came ≡ put_page (cells old left) p c
unfolding cells
cells-put old new left came p c lt here there = λ i q. at q i
  where
    at : (q : ℕ) → cond (ltb q PAGES) (page new came q) Absent ≡ cond (eqb q p) c (cond (ltb q PAGES) (page old left q) Absent)
    at q = grind (arith, nat_tests, lt, here, there q)

-- a range of pages is another tree's now
pub cells-share : (old new : List Node) (left came from to : ℕ) (other : ℕ → PageCell) → to ≤ PAGES → ((q : ℕ) → from ≤ q → q < to → page new came q ≡ other q) → ((q : ℕ) → q < from → page new came q ≡ page old left q) → ((q : ℕ) → to ≤ q → q < PAGES → page new came q ≡ page old left q) → cells new came ≡ put_range (cells old left) from to other
unfolding cells
cells-share old new left came from to other most within before after = λ i q. at q i
  where
    at : (q : ℕ) → cond (ltb q PAGES) (page new came q) Absent ≡ cond (leb from q && ltb q to) (other q) (cond (ltb q PAGES) (page old left q) Absent)
    at q = grind (arith, nat_tests, most, within q, before q, after q)

-- a tree that is one of the trees beside the one that left stands for the same
pub cells-other : (old new : List Node) (frames : List Frame) (trees : List ℕ) (left tree : ℕ) → IsTied old frames trees → KeepsMaps old new left → ((n : ℕ) → tree ≡ n + 1 → is_root left n < having trees n) → cells new tree ≡ cells old tree
cells-other old new frames trees left tree tied kept other =
    ⊎_elim
    (λ none. ap (cells new) none ∙ cells-empty new ∙ sym (cells-empty old) ∙ sym (ap (cells old) none))
    (λ some.
    let rooted = tied.rooted some.0 in
    let more = other some.0 some.1 in
    ap (cells new) some.1
    ∙ cells-same old new (some.0 + 1) (some.0 + 1) (λ p _. kept some.0 p (omega (arith, rooted, more)))
    ∙ sym (ap (cells old) some.1))
    (zero_or_more tree)

-- the values of cells

pub values-kept : (old new : List Node) (frames frames' : List Frame) → KeepsFrames old new frames frames' → values frames' ≡ values frames
values-kept old new frames frames' keeps = λ i m p. at (m p) i
  where
    at : (c : PageCell) → cell_value frames' c ≡ cell_value frames c
    at Absent = refl
    at Zero = refl
    at (cell.Frame f) = λ i. Some (Data (keeps.stamps f.n i) (keeps.bytes f.n i))

pub values-put_range : (frames : List Frame) (m other : ℕ → PageCell) (from to : ℕ) → values frames (put_range m from to other) ≡ put_range (values frames m) from to (values frames other)
values-put_range frames m other from to = λ i q. cond-of (cell_value frames) (leb from q && ltb q to) (other q) (m q) i

pub length-maps : (frames : List Frame) (nodes : List Node) (trees : List ℕ) → length (tree_maps frames nodes trees) ≡ length trees
unfolding tree_maps all_cells
length-maps frames nodes trees = length-map (all_cells nodes trees) (values frames) ∙ length-map trees (cells nodes)

pub cells-at : (nodes : List Node) (trees : List ℕ) (i : ℕ) → i < length trees → get_or (all_cells nodes trees) i (λ p. Absent) ≡ cells nodes (get_or trees i 0)
unfolding all_cells
cells-at nodes trees i lt = get_or-map (cells nodes) trees i 0 (λ p. Absent) lt

pub row-at : (frames : List Frame) (nodes : List Node) (trees : List ℕ) (i : ℕ) → i < length trees → row_of (tree_maps frames nodes trees) i ≡ values frames (cells nodes (get_or trees i 0))
unfolding tree_maps all_cells
row-at frames nodes trees i lt =
    get_or-map (values frames) (all_cells nodes trees) i (λ p. Absent) no_pages (omega (arith, lt, length-map trees (cells nodes))) ∙ ap (values frames) (cells-at nodes trees i lt)

-- the value of a page of a row
pub row-page : (frames : List Frame) (nodes : List Node) (trees : List ℕ) (i p : ℕ) → i < length trees → p < PAGES → row_of (tree_maps frames nodes trees) i p ≡ cell_value frames (page nodes (get_or trees i 0) p)
row-page frames nodes trees i p lt below =
    ap (λ (m : ℕ → Option PageValue). m p) (row-at frames nodes trees i lt) ∙ ap (cell_value frames) (cells-page nodes (get_or trees i 0) p below)

-- a row has no value past the last page, so one whose pages are all gone has none
pub row-none : (frames : List Frame) (nodes : List Node) (trees : List ℕ) (i : ℕ) → i < length trees → put_range (row_of (tree_maps frames nodes trees) i) 0 PAGES no_pages ≡ no_pages
row-none frames nodes trees i lt = λ x q. at q x
  where
    at : (q : ℕ) → put_range (row_of (tree_maps frames nodes trees) i) 0 PAGES no_pages q ≡ None
    at q =
        ⊎_elim
        (λ below. grind (arith, nat_tests, below))
        (λ past.
        let row = ap (λ (m : ℕ → Option PageValue). m q) (row-at frames nodes trees i lt) ∙ ap (cell_value frames) (cells-past nodes (get_or trees i 0) q past) in
        grind (arith, nat_tests, past, row))
        (cases_lt q PAGES)

-- a cell without a frame has no bytes, and parts
pub data-none : (frames : List Frame) (c : PageCell) → ((f : FrameNo) → c ≡ cell.Frame f → ⊥) → data_of (cell_value frames c) ≡ None
data-none frames Absent off = refl
data-none frames Zero off = refl
data-none frames (cell.Frame f) off = absurd (off f refl)

pub parting-none : (tags : List Tag) (frames : List Frame) (c : PageCell) → ((f : FrameNo) → c ≡ cell.Frame f → ⊥) → parts tags (cell_value frames c) ≡ true
parting-none tags frames Absent off = refl
parting-none tags frames Zero off = refl
parting-none tags frames (cell.Frame f) off = absurd (off f refl)

-- how often trees have a root once one left its place in the list for another
pub having-set : (trees : List ℕ) (i left came : ℕ) → i < length trees → left ≡ get_or trees i 0 → (n : ℕ) → having (set trees i came) n + is_root left n ≡ having trees n + is_root came n
having-set trees i left came i_in left_is n =
    let sums = sum_by-set (λ tree. is_root tree n) trees i came 0 i_in in
    let there = ap (λ t. is_root t n) left_is in
    omega (arith, sums, there)

-- the other trees stand for what they stood for
pub other-tree : (old new : List Node) (frames : List Frame) (trees : List ℕ) (i left : ℕ) → IsKept old frames trees → i < length trees → left ≡ get_or trees i 0 → KeepsMaps old new left → (j : ℕ) → j < length trees → j ≢ i → cells new (get_or trees j 0) ≡ cells old (get_or trees j 0)
other-tree old new frames trees i left kept i_in left_is maps j j_in off =
    cells-other old new frames trees left (get_or trees j 0) kept.tied maps (λ n root.
    let one = one_if-yes (get_or trees j 0) (n + 1) root in
    let two = two_terms (λ tree. is_root tree n) trees i j 0 i_in j_in off in
    let here = ap (λ t. is_root t n) left_is in
    omega (arith, one, two, here))

-- one tree left its place in the list for another
module _ (old new : List Node) (frames frames' : List Frame) (trees : List ℕ) (i left came : ℕ) (kept : IsKept old frames trees) (i_in : i < length trees) (left_is : left ≡ get_or trees i 0) (sound : IsSound new frames') (keeps : KeepsTrees old new left came) (maps : KeepsMaps old new left) (frames_kept : KeepsFrames old new frames frames') where
  pub kept-set : IsKept new frames' (set trees i came)
  kept-set =
      record {
        tied = record {
          sound = sound;
          rooted = λ n. let a = kept.tied.rooted n in let b = keeps.roots n in let c = having-set trees i left came i_in left_is n in omega (arith, a, b, c);
          exact = λ f. let a = kept.tied.exact f in let b = frames_kept.holds f in omega (arith, a, b);
        };
        stamped = stamped-kept old new frames frames' frames_kept kept.stamped;
        room = omega (arith, kept.room, keeps.size, length-set trees i came);
      }

  cells-set : (f : ℕ → PageCell) → cells new came ≡ f → all_cells new (set trees i came) ≡ set (all_cells old trees) i f
  unfolding all_cells
  cells-set f is = map-set_changed (cells new) (cells old) trees i came 0 f is (other-tree old new frames trees i left kept i_in left_is maps)

  pub maps-set : (f : ℕ → PageCell) → cells new came ≡ f → tree_maps frames' new (set trees i came) ≡ set (tree_maps frames old trees) i (values frames f)
  unfolding tree_maps
  maps-set f is =
      ap (map (values frames')) (cells-set f is)
      ∙ ap (λ g. map g (set (all_cells old trees) i f)) (values-kept old new frames frames' frames_kept)
      ∙ map-set (values frames) (all_cells old trees) i f

  -- a range of its pages is that of another map
  pub maps-range : (from to : ℕ) (other : ℕ → PageCell) → to ≤ PAGES → ((q : ℕ) → from ≤ q → q < to → page new came q ≡ other q) → ((q : ℕ) → q < from → page new came q ≡ page old left q) → ((q : ℕ) → to ≤ q → q < PAGES → page new came q ≡ page old left q) →
      tree_maps frames' new (set trees i came) ≡ set (tree_maps frames old trees) i (put_range (row_of (tree_maps frames old trees) i) from to (values frames other))
  maps-range from to other most within before after =
      maps-set (put_range (cells old left) from to other) (cells-share old new left came from to other most within before after)
      ∙ ap (set (tree_maps frames old trees) i)
      (values-put_range frames (cells old left) other from to
      ∙ ap (λ m. put_range m from to (values frames other)) (ap (λ t. values frames (cells old t)) left_is ∙ sym (row-at frames old trees i i_in)))

pub rows-in : (frames : List Frame) (nodes : List Node) (trees : List ℕ) (i : ℕ) → i < length (tree_maps frames nodes trees) → i < length trees
rows-in frames nodes trees i lt = omega (arith, lt, length-maps frames nodes trees)

-- a tree that was read at a place, also once another place was written
pub other-read : (trees : List ℕ) (i j tree r : ℕ) → j ≢ i → j < length trees → r ≡ get_or (set trees i tree) j r → r ≡ get_or trees j 0
other-read trees i j tree r off lt is =
    get_or_read (set trees i tree) j r (omega (arith, lt, length-set trees i tree)) is 0 ∙ get_or-set_other trees i j tree 0 off

-- a root can be held once more
pub kept-few : (nodes : List Node) (frames : List Frame) (trees : List ℕ) (n : ℕ) → IsKept nodes frames trees → trees_at nodes n + 1 < 2147483648
kept-few nodes frames trees n kept =
    let rooted = kept.tied.rooted n in
    omega (arith, rooted, having-le trees n, few-trees nodes frames trees kept)

-- an empty place of the list gets a tree that another place has
module _ (old new : List Node) (frames frames' : List Frame) (trees : List ℕ) (maps : List (ℕ → Option PageValue)) (to from tree came : ℕ) (kept : IsKept old frames trees) (to_in : to < length trees) (from_in : from < length trees) (apart : from ≢ to) (none : get_or trees to 0 ≡ 0) (tree_is : tree ≡ get_or trees from 0) (same : came ≡ tree) (sound : IsSound new frames') (keeps : KeepsTrees old new 0 came) (kept_maps : KeepsMaps old new 0) (frames_kept : KeepsFrames old new frames frames') (are : tree_maps frames old trees ≡ set maps to no_pages) where
  cells-held : cells new came ≡ cells old (get_or trees from 0)
  cells-held =
      ap (cells new) (same ∙ tree_is)
      ∙ cells-other old new frames trees 0 (get_or trees from 0) kept.tied kept_maps (λ n is.
      let one = one_if-yes (get_or trees from 0) (n + 1) is in
      let some = get_or-le-sum_by (λ t. is_root t n) trees from 0 from_in in
      let zero = one_if-no 0 (n + 1) (λ e. absurd (omega (arith, e))) in
      omega (arith, one, some, zero))

  pub maps-clone : tree_maps frames' new (set trees to came) ≡ set maps to (row_of maps from)
  maps-clone =
      maps-set old new frames frames' trees to 0 came kept to_in (sym none) sound keeps kept_maps frames_kept (cells old (get_or trees from 0)) cells-held
      ∙ ap (set (tree_maps frames old trees) to) (sym (row-at frames old trees from from_in))
      ∙ ap (λ ms. set ms to (row_of (tree_maps frames old trees) from)) are
      ∙ set-again maps to no_pages (row_of (tree_maps frames old trees) from)
      ∙ ap (set maps to) (ap (λ ms. row_of ms from) are ∙ get_or-set_other maps to from no_pages no_pages apart)

-- a new store with empty trees

no-frames : (n f : ℕ) (tag : Tag) → frame_count (replicate n (zero_frame 0 tag)) f ≡ 0
no-frames n f tag =
    ⊎_elim
    (λ lt. ap (λ (x : Frame). x.count) (get_or-replicate n f (zero_frame 0 tag) no_frame lt))
    (λ out. ap (λ (x : Frame). x.count) (get_or_past (replicate n (zero_frame 0 tag)) f no_frame (omega (arith, out, length-replicate n (zero_frame 0 tag)))))
    (cases_lt f n)

having-none : (k n : ℕ) → having (replicate k 0) n ≡ 0
having-none zero n = refl
having-none (suc k) n =
    let tail = having-none k n in
    let head = one_if-no 0 (n + 1) (λ is. absurd (omega (arith, is))) in
    omega (arith, sum_by-cons (λ tree. is_root tree n) 0 (replicate k 0), head, tail)

pub kept-new : (n m k : ℕ) (tag : Tag) (nodes : List Node) (frames : List Frame) (trees : List ℕ) → IsTied nodes frames [] → length nodes ≡ n → frames ≡ replicate m (zero_frame 0 tag) → trees ≡ replicate k 0 → TREE_NODES * k + FREE_NODES ≤ n → IsKept nodes frames trees
kept-new n m k tag nodes frames trees tied size new empty room =
    record {
      tied = record {
        sound = tied.sound;
        rooted = λ x. tied.rooted x ∙ sym (ap (λ ts. having ts x) empty ∙ having-none k x);
        exact = tied.exact;
      };
      stamped = λ f g held _ _. absurd (let none = ap (λ fs. frame_count fs f) new ∙ no-frames m f tag in omega (arith, none, held));
      room = omega (arith, room, size, ap length empty, length-replicate {A = ℕ} k 0);
    }

pub maps-new : (frames : List Frame) (nodes : List Node) (trees : List ℕ) (k : ℕ) → trees ≡ replicate k 0 → tree_maps frames nodes trees ≡ replicate k no_pages
unfolding tree_maps all_cells
maps-new frames nodes trees k empty =
    ap (λ ts. map (values frames) (map (cells nodes) ts)) empty
    ∙ ap (map (values frames)) (map-replicate (cells nodes) k 0 ∙ ap (replicate k) (cells-empty nodes))
    ∙ map-replicate (values frames) k (λ p. Absent)

pub none-new : (k i : ℕ) → ◌≡◌ {A = ℕ} (get_or (replicate k 0) i 0) 0
none-new k i = ⊎_elim (λ lt. get_or-replicate k i 0 0 lt) (λ out. get_or_past (replicate k 0) i 0 (omega (arith, out, length-replicate {A = ℕ} k 0))) (cases_lt i k)

-- an entry that names a frame is that of a cell with it
pub entry-frame : (c : PageCell) (f : ℕ) → entry_for c ≡ f + 2 → c ≡ cell.Frame (record { n = f })
entry-frame Absent f is = absurd (omega (arith, is))
entry-frame Zero f is = absurd (omega (arith, is))
entry-frame (cell.Frame frame) f is = let e : frame.n ≡ f = omega (arith, is) in λ i. cell.Frame (record { n = e i })
