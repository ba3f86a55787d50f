-- What a frame that a row leads to tells of the row.
use Rattle.std.proofs.Common.{◌≡◌, ◌<◌, ◌+◌, ◌∙◌, ℕ, Option, None, Some, false, true, ap, arith, length, refl, sym}
use Rattle.lwc_base.specs.Rights.{may_write}
use Rattle.lwc_types.specs.declared.right.Right.{Right}
use Rattle.lwc_types.specs.declared.right.Right.TheVariants.{Read, Write}
use Rattle.range_map.specs.declared.segment.SegmentKind.{SegmentKind}
use Rattle.range_map.specs.declared.segment.SegmentKind.TheVariants.{Common, Own}
use Rattle.range_map.specs.declared.segment.PageState.{PageState}
use Rattle.range_map.specs.Kinds.{kind_at, kind_of, state_of}
use Rattle.cow_space.specs.declared.cells.PageCells.{PageCells}
use Rattle.cow_space.specs.Cells.{IsOwnPage, place_of, place_rights, rights_of, segments_of, states_of}
use Rattle.cow_space.specs.Seen.{cells, rights}
use Rattle.cow_space.specs.Frames.{is_own_kind}
use Rattle.cow_space.proofs.Views.{place-kinds, rights-at}
use Rattle.std.proofs.lemmas.Bool.{le-ltb}
use Rattle.page_tree.specs.declared.cell.PageCell.{PageCell}
use Rattle.page_tree.specs.declared.cell.PageCell.TheVariants.{Absent, Frame, Zero}
use Rattle.page_tree.specs.Pages.{entry_for}
use Rattle.page_tree.specs.Tied.{page_of}
use Rattle.cow_space.specs.declared.rows.Rows.{Rows}
use Rattle.cow_space.specs.Maps.{row_of}
use Rattle.cow_space.specs.RowFrames.{LeadsAlone, LeadsTo}
use Rattle.cow_space.specs.RowSeen.{maps}
use Rattle.cow_space.specs.Tags.{parts, row_tags}
use Rattle.cow_space.proofs.Trees.{length-maps}
use Rattle.cow_space.proofs.UsedLemmas.{parting-alone}

-- the cell of an entry of a frame
pub frame-cell : (cell : PageCell) (f : ℕ) → entry_for cell ≡ f + 2 → cell ≡ Frame (record { n = f })
frame-cell Absent f is = absurd (omega (arith, is))
frame-cell Zero f is = absurd (omega (arith, is))
frame-cell (Frame frame) f is = let same : frame.n ≡ f = omega (arith, is) in λ i. Frame (record { n = same i })

pub row-there : (w : Rows) (i : ℕ) → i < length w.trees.items → i < length (maps w)
unfolding maps
row-there w i inside = omega (arith, inside, length-maps w.store.frames w.store.nodes.all w.trees.items)

-- a kind that is that of own pages
pub own-kind : (kind : Option SegmentKind) → is_own_kind kind ≡ true → kind ≡ Some Own
own-kind None is = absurd cc
own-kind (Some Own) is = refl
own-kind (Some (Common g)) is = absurd cc

pub kind-own : (kind : Option SegmentKind) → kind ≡ Some Own → is_own_kind kind ≡ true
kind-own kind is = ap is_own_kind is

-- a right to store
pub write-right : (right : Right) → may_write right ≡ true → right ≡ Write
write-right Write may = refl
write-right Read may = absurd cc

-- the kind and the right of a state that was found
found : (kind : Option SegmentKind) (right : Right) (state : PageState) → Some state ≡ state_of kind right → state.kind ≡ Own → state.right ≡ Write → (kind ≡ Some Own) × (right ≡ Write)
found None right state is own write = absurd cc
found (Some kind) right state is own write = (cc, cc)

-- a page is the place's own and may be written
pub found-own : (w : PageCells) (i p : ℕ) (answer : Option PageState) (state : PageState) → answer ≡ states_of (place_of (cells w) i) (rights_of (rights w) i) p → answer ≡ Some state → state.kind ≡ Own → state.right ≡ Write →
    IsOwnPage (place_of (cells w) i p) × (rights_of (rights w) i p ≡ Write)
found-own w i p answer state told is own write = found (kind_of (place_of (cells w) i p)) (rights_of (rights w) i p) state (sym is ∙ told) own write

-- by segments
pub own-segment : (w : PageCells) (i p : ℕ) → IsOwnPage (place_of (cells w) i p) → is_own_kind (kind_at (segments_of w.kinds i) p) ≡ true
own-segment w i p own = kind-own (kind_at (segments_of w.kinds i) p) (ap (λ (f : ℕ → Option SegmentKind). f p) (place-kinds w i) ∙ own)

pub may-segment : (w : PageCells) (i p : ℕ) → rights_of (rights w) i p ≡ Write → may_write (place_rights (segments_of w.kinds i) p) ≡ true
may-segment w i p may = ap may_write (sym (ap (λ (f : ℕ → Right). f p) (rights-at w i)) ∙ may)

pub segment-own : (w : PageCells) (i p : ℕ) → is_own_kind (kind_at (segments_of w.kinds i) p) ≡ true → IsOwnPage (place_of (cells w) i p)
segment-own w i p own = sym (ap (λ (f : ℕ → Option SegmentKind). f p) (place-kinds w i)) ∙ own-kind (kind_at (segments_of w.kinds i) p) own

pub segment-may : (w : PageCells) (i p : ℕ) → may_write (place_rights (segments_of w.kinds i) p) ≡ true → rights_of (rights w) i p ≡ Write
segment-may w i p may = ap (λ (f : ℕ → Right). f p) (rights-at w i) ∙ write-right (place_rights (segments_of w.kinds i) p) may

module _ (w : Rows) (i p f : ℕ) where
  pub there : LeadsTo w i p f → page_of w.store.nodes.all w.trees.items i p ≡ Frame (record { n = f })
  there leads = frame-cell _ f leads.there

  pub lone : LeadsAlone w i p f → parts (row_tags (maps w)) (row_of (maps w) i p) ≡ false
  unfolding maps
  lone leads =
      parting-alone w.store.nodes.all w.store.frames w.trees.items w.kept i p f leads.to.inside leads.to.below (there leads.to) leads.path
      ∙ le-ltb 1 _ (let once = leads.once in omega (arith, once))
