-- What an origin gives is what the transfer wants, and an origin that copies has something to copy.
use Rattle.std.proofs.Common.{◌≡◌, ◌≢◌, ℕ, ◌<◌, ◌≤◌, ◌⊎◌, inl, inr, ⊎_elim, arith, refl, sym, ap, subst, ◌∙◌, Bool, true, false, cond, Option, Some, None}
use Rattle.std.specs.Prelude.{unwrap_or}
use Rattle.std.proofs.lemmas.Bool.{cases_eq}
use Rattle.lwc_base.specs.declared.cell.Cell.{Cell}
use Rattle.lwc_base.specs.declared.cell.Cell.TheVariants as cells
use Rattle.lwc_base.specs.declared.item.Mode.{Mode}
use Rattle.lwc_base.specs.declared.item.Mode.TheVariants.{Copy, Share, Unmap, CopyRead}
use Rattle.lwc_base.specs.Keys.{ValueOf, nothing}
use Rattle.lwc_base.specs.Sharing.{is_moved, moved_value, shared_cell}
use Rattle.lwc_base.specs.World.{World}
use Rattle.lwc_types.specs.declared.key.Key.{Key}
use Rattle.lwc_types.specs.declared.key.Key.TheVariants.{Page, Slot, Cred}
use Rattle.lwc_types.specs.declared.name.Name.{Name}
use Rattle.range_map.specs.declared.segment.SegmentKind.{SegmentKind}
use Rattle.range_map.specs.declared.segment.SegmentKind.TheVariants.{Own, Common}
use Rattle.cow_space.specs.declared.page_runs.Origin.{Origin}
use Rattle.cow_space.specs.declared.page_runs.Origin.TheVariants as origins
use Rattle.cow_space.specs.Changes.{IsApart}
use Rattle.lazy_world.specs.Cells.{Row}
use Rattle.lazy_world.specs.Transfers.{CanGet, IsFor, IsFound, copied_origin, given, given_or, kind_in, moved_origin, other_origin, transferred_cell, share_origin, shown_origin, origin_of, taken_cell, taken_origin}
use Rattle.lazy_world.specs.declared.transfer.Found.{Found}
use Rattle.lazy_world.specs.declared.transfer.Transfer.{Transfer}
use Rattle.lazy_world.specs.declared.transfer.Transfer.TheVariants.{Mark, Move, Clone, Overlay}
use Rattle.lazy_world.proofs.PlaceLemmas.{choose, pass}

-- a value of a place's own is there or is nothing
kind_own : (k : Key) (v : ValueOf k) → ((kind_in k (cells.Own v) ≡ None) × (v ≡ nothing k)) ⊎ (kind_in k (cells.Own v) ≡ Some Own)
kind_own (Page p) None = inl (refl, refl)
kind_own (Page p) (Some v) = inr refl
kind_own (Slot n) v = inr refl
kind_own Cred v = inr refl

pub kind_common : (k : Key) (g : Name) → kind_in k (cells.Common g) ≡ Some (Common g)
kind_common (Page p) g = refl
kind_common (Slot n) g = refl
kind_common Cred g = refl

-- what moves is the context's own, and there
shared_own : (k : Key) (cell : Cell (ValueOf k)) → moved_origin (Some Share) (kind_in k cell) ≡ is_moved Share k cell
shared_own (Page p) (cells.Own None) = refl
shared_own (Page p) (cells.Own (Some v)) = refl
shared_own (Page p) (cells.Common g) = refl
shared_own (Slot n) (cells.Own v) = refl
shared_own (Slot n) (cells.Common g) = refl
shared_own Cred (cells.Own v) = refl
shared_own Cred (cells.Common g) = refl

pub moved_same : (m : Option Mode) (k : Key) (cell : Cell (ValueOf k)) → moved_origin m (kind_in k cell) ≡ is_moved (unwrap_or m Copy) k cell
moved_same None k cell = refl
moved_same (Some Copy) k cell = refl
moved_same (Some Share) k cell = shared_own k cell
moved_same (Some Unmap) k cell = refl
moved_same (Some CopyRead) k cell = refl

module _ (w : World) (contexts count : ℕ) (rows : ℕ → Row) (k : Key) (from to : ℕ) (found : Found) where
  abbrev got : Option Origin → Cell (ValueOf k)
  got origin = given_or rows k (rows to k) origin

  other-gives : got (other_origin from to) ≡ rows from k
  other-gives =
      ⊎_elim
      (λ same. ap got (choose to from None (Some (origins.CopyOf from)) same) ∙ ap (λ i. rows i k) (sym same))
      (λ other. ap got (pass to from None (Some (origins.CopyOf from)) other))
      (cases_eq from to)

  module _ (cell : Cell (ValueOf k)) (is : rows from k ≡ cell) (seen : IsFound w contexts count rows k cell found) (group : Name) where
    copy-gives : got (taken_origin group Copy found from to) ≡ taken_cell w group Copy k cell
    copy-gives = at cell is seen
      where
        at : (c : Cell (ValueOf k)) → rows from k ≡ c → IsFound w contexts count rows k c found → got (taken_origin group Copy found from to) ≡ taken_cell w group Copy k c
        at (cells.Own v) here f =
            ⊎_elim
            (λ none. ap (λ kind. got (shown_origin (copied_origin found.holder) kind from to)) (f.kind ∙ none.0) ∙ ap cells.Own (sym none.1))
            (λ own. ap (λ kind. got (shown_origin (copied_origin found.holder) kind from to)) (f.kind ∙ own) ∙ other-gives ∙ here)
            (kind_own k v)
        at (cells.Common g) here f =
            ap (λ kind. got (shown_origin (copied_origin found.holder) kind from to)) (f.kind ∙ kind_common k g) ∙ f.value g refl

    share-gives : got (taken_origin group Share found from to) ≡ shared_cell group Share k cell
    share-gives = ap (λ kind. given rows k (share_origin group kind)) seen.kind ∙ at cell
      where
        at : (c : Cell (ValueOf k)) → given rows k (share_origin group (kind_in k c)) ≡ shared_cell group Share k c
        at (cells.Own v) =
            ⊎_elim
            (λ none. ap (λ kind. given rows k (share_origin group kind)) none.0 ∙ ap cells.Own (sym none.1)
            ∙ ap (λ b. cond b (cells.Common group) (cells.Own v)) (ap (moved_origin (Some Share)) (sym none.0) ∙ shared_own k (cells.Own v)))
            (λ own. ap (λ kind. given rows k (share_origin group kind)) own
            ∙ ap (λ b. cond b (cells.Common group) (cells.Own v)) (ap (moved_origin (Some Share)) (sym own) ∙ shared_own k (cells.Own v)))
            (kind_own k v)
        at (cells.Common g) = ap (λ kind. given rows k (share_origin group kind)) (kind_common k g)

    taken-gives : (m : Mode) → got (taken_origin group m found from to) ≡ taken_cell w group m k cell
    taken-gives Copy = copy-gives
    taken-gives Share = share-gives
    taken-gives Unmap = refl
    taken-gives CopyRead = copy-gives

    mark-gives : (g : Name) (m : Option Mode) → from ≡ to → got (origin_of (Mark g) m found from to) ≡ transferred_cell w (Mark g) m k cell (rows to k)
    mark-gives g m same =
        ap (λ kind. got (cond (moved_origin m kind) (Some (origins.Common g)) None)) seen.kind
        ∙ ap (λ b. got (cond b (Some (origins.Common g)) None)) (moved_same m k cell)
        ∙ at (is_moved (unwrap_or m Copy) k cell) (ap (λ i. rows i k) (sym same) ∙ is)
      where
        at : (b : Bool) → rows to k ≡ cell → got (cond b (Some (origins.Common g)) None) ≡ cond b (cells.Common g) cell
        at true here = refl
        at false here = here

    move-gives : (m : Option Mode) → got (origin_of Move m found from to) ≡ transferred_cell w Move m k cell (rows to k)
    move-gives m =
        ap (λ kind. given rows k (cond (moved_origin m kind) (origins.CopyOf from) origins.Absent)) seen.kind ∙ at m cell is
      where
        at : (m : Option Mode) (c : Cell (ValueOf k)) → rows from k ≡ c →
            given rows k (cond (moved_origin m (kind_in k c)) (origins.CopyOf from) origins.Absent) ≡ cells.Own (moved_value (unwrap_or m Copy) k c)
        at None c here = refl
        at (Some Copy) c here = refl
        at (Some Unmap) c here = refl
        at (Some CopyRead) c here = refl
        at (Some Share) (cells.Own v) here =
            ⊎_elim
            (λ none. ap (λ kind. given rows k (cond (moved_origin (Some Share) kind) (origins.CopyOf from) origins.Absent)) none.0 ∙ ap cells.Own (sym none.1))
            (λ own. ap (λ kind. given rows k (cond (moved_origin (Some Share) kind) (origins.CopyOf from) origins.Absent)) own ∙ here)
            (kind_own k v)
        at (Some Share) (cells.Common g) here = ap (λ kind. given rows k (cond (moved_origin (Some Share) kind) (origins.CopyOf from) origins.Absent)) (kind_common k g)

  module _ (cell : Cell (ValueOf k)) (is : rows from k ≡ cell) (seen : IsFound w contexts count rows k cell found) where
    pub transfer-gives : (transfer : Transfer) (m : Option Mode) → IsFor contexts from to transfer → got (origin_of transfer m found from to) ≡ transferred_cell w transfer m k cell (rows to k)
    transfer-gives (Mark g) m for = mark-gives cell is seen g g m for
    transfer-gives Move m for = move-gives cell is seen (record { job = 0; k = 0 }) m
    transfer-gives (Clone g) m for = taken-gives cell is seen g (unwrap_or m Copy)
    transfer-gives (Overlay g) None for = refl
    transfer-gives (Overlay g) (Some m) for = taken-gives cell is seen g m

-- what is copied is another place
module _ (contexts count from to : ℕ) (inside : from < count) where
  held-apart : to < contexts → (holder : Option ℕ) → ((j : ℕ) → holder ≡ Some j → contexts ≤ j) → ((j : ℕ) → holder ≡ Some j → j < count) → IsApart count to (copied_origin holder)
  held-apart low None behind within = tt
  held-apart low (Some place) behind within =
      (within place refl, λ (there : place ≡ to). absurd (let past = behind place refl in omega (arith, past, there, low)))

  other-apart : CanGet count to (other_origin from to)
  other-apart =
      ⊎_elim
      (λ same. subst (CanGet count to) (sym (choose to from None (Some (origins.CopyOf from)) same)) tt)
      (λ other. subst (CanGet count to) (sym (pass to from None (Some (origins.CopyOf from)) other)) (inside, other))
      (cases_eq from to)

  shown-apart : (common : Origin) (kind : Option SegmentKind) → IsApart count to common → CanGet count to (shown_origin common kind from to)
  shown-apart common None held = tt
  shown-apart common (Some Own) held = other-apart
  shown-apart common (Some (Common g)) held = held

  share-apart : (group : Name) (kind : Option SegmentKind) → IsApart count to (share_origin group kind)
  share-apart group None = tt
  share-apart group (Some Own) = tt
  share-apart group (Some (Common g)) = tt

  marked : (b : Bool) (g : Name) → CanGet count to (cond b (Some (origins.Common g)) None)
  marked true g = tt
  marked false g = tt

  moved : (b : Bool) → from ≢ to → IsApart count to (cond b (origins.CopyOf from) origins.Absent)
  moved true apart = (inside, apart)
  moved false apart = tt

  module _ (found : Found) (behind : (j : ℕ) → found.holder ≡ Some j → contexts ≤ j) (within : (j : ℕ) → found.holder ≡ Some j → j < count) where
    taken-apart : to < contexts → (g : Name) (m : Mode) → CanGet count to (taken_origin g m found from to)
    taken-apart low g Copy = shown-apart (copied_origin found.holder) found.kind (held-apart low found.holder behind within)
    taken-apart low g Share = share-apart g found.kind
    taken-apart low g Unmap = tt
    taken-apart low g CopyRead = shown-apart (copied_origin found.holder) found.kind (held-apart low found.holder behind within)

    pub transfer-can : (transfer : Transfer) (m : Option Mode) → IsFor contexts from to transfer → CanGet count to (origin_of transfer m found from to)
    transfer-can (Mark g) m for = marked (moved_origin m found.kind) g
    transfer-can Move m for = moved (moved_origin m found.kind) for
    transfer-can (Clone g) m for = taken-apart for g (unwrap_or m Copy)
    transfer-can (Overlay g) None for = tt
    transfer-can (Overlay g) (Some m) for = taken-apart for g m
