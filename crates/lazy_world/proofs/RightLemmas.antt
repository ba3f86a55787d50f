-- The rights that a transfer gives, by what is found and by what a page gets.
use Rattle.std.proofs.Common.{◌≡◌, ℕ, ◌+◌, ◌<◌, ◌≤◌, ⊎_elim, List, arith, refl, sym, ap, ◌∙◌, Bool, true, false, cond, Option, Some, None}
use Rattle.std.specs.Prelude.{is_some, unwrap_or}
use Rattle.std.specs.Option.{option_map, option_or}
use Rattle.std.proofs.lemmas.Bool.{cases_eq, cases_lt}
use Rattle.lwc_base.specs.declared.cell.Cell.{Cell}
use Rattle.lwc_base.specs.declared.cell.Cell.TheVariants as cells
use Rattle.lwc_base.specs.declared.item.Item.{Item}
use Rattle.lwc_base.specs.declared.item.Mode.{Mode}
use Rattle.lwc_base.specs.declared.item.Mode.TheVariants.{Copy, Share, Unmap, CopyRead}
use Rattle.lwc_base.specs.Cells.{value_of}
use Rattle.lwc_base.specs.Modes.{IsSpec, mode}
use Rattle.lwc_base.specs.Ranges.{is_page}
use Rattle.lwc_base.specs.Rights.{read_right}
use Rattle.lwc_base.specs.Sharing.{is_moved, moved_value}
use Rattle.lwc_base.specs.World.{World}
use Rattle.lwc_types.specs.declared.key.Key.TheVariants.{Page}
use Rattle.lwc_types.specs.declared.limits.TheConstants.{MOST_PAGES}
use Rattle.lwc_types.specs.declared.name.Name.{Name}
use Rattle.lwc_types.specs.declared.page.PageValue.{PageValue}
use Rattle.lwc_types.specs.declared.right.Right.{Right}
use Rattle.lwc_types.specs.declared.right.Right.TheVariants.{Write, Read}
use Rattle.range_map.specs.Kinds.{kind_of, state_of}
use Rattle.range_map.specs.declared.segment.SegmentKind.{SegmentKind}
use Rattle.range_map.specs.declared.segment.SegmentKind.TheVariants.{Own, Common}
use Rattle.cow_space.specs.declared.page_runs.Origin.{Origin}
use Rattle.cow_space.specs.declared.page_runs.Origin.TheVariants as origins
use Rattle.lazy_world.specs.Clones.{item_gift, state_gift}
use Rattle.lazy_world.specs.Sound.{HasItsPages, IsAllOwn, IsSound}
use Rattle.lazy_world.specs.States.{Parts, world_of}
use Rattle.lazy_world.specs.Origins.{Gift, gift_right, origin_right, shown_right}
use Rattle.lazy_world.specs.Transfers.{IsFor, copied_origin, given_or, moved_origin, origin_of, other_origin, reads, is_read, shown_origin, taken_cell, taken_origin, taken_right, transferred_cell, transferred_right, transferred_rights}
use Rattle.lazy_world.specs.declared.transfer.Found.{Found}
use Rattle.lazy_world.specs.declared.transfer.Transfer.{Transfer}
use Rattle.lazy_world.specs.declared.transfer.Transfer.TheVariants.{Mark, Move, Clone, Overlay}
use Rattle.lazy_world.proofs.CloneOrigins.{clone_gives}
use Rattle.lazy_world.proofs.MovedLemmas.{moved-kind}
use Rattle.lazy_world.proofs.PageLemmas.{has_group_page}
use Rattle.lazy_world.proofs.AddLemmas.{no_page}
use Rattle.lazy_world.proofs.PastLemmas.{transferred-past}
use Rattle.lazy_world.proofs.PlaceLemmas.{choose, pass}
use Rattle.lazy_world.proofs.TransferLemmas.{moved_same}

-- the right of a page, by what it is where it is absent, and by what it is where it is present
pub shown-is : (c : Cell (Option PageValue)) (read : Bool) (r wanted : Right) → (c ≡ cells.Own None → Write ≡ wanted) → (is_page c ≡ true → cond read Read r ≡ wanted) → shown_right c read r ≡ wanted
shown-is (cells.Own None) read r wanted absent present = absent refl
shown-is (cells.Own (Some v)) read r wanted absent present = present refl
shown-is (cells.Common g) read r wanted absent present = present refl

common-absent : (g : Name) → ◌≡◌ {A = Cell (Option PageValue)} (cells.Common g) (cells.Own None) → ⊥
common-absent g is = let none = is in cc

own-none : (v : Option PageValue) → ◌≡◌ {A = Cell (Option PageValue)} (cells.Own v) (cells.Own None) → v ≡ None
own-none v is = cc

module _ (w : World) (p : ℕ) (cell old : Cell (Option PageValue)) (right was : Right) (bare : cell ≡ cells.Own None → right ≡ Write) (old_bare : old ≡ cells.Own None → was ≡ Write)
    (there : (g : Name) → cell ≡ cells.Common g → has_group_page w g p ≡ true) where
  -- a value that is not there is of an absent page
  lost : value_of w (Page p) cell ≡ None → cell ≡ cells.Own None
  lost none = at cell refl none
    where
      at : (c : Cell (Option PageValue)) → cell ≡ c → value_of w (Page p) c ≡ None → cell ≡ cells.Own None
      at (cells.Own v) is none = is ∙ ap cells.Own none
      at (cells.Common g) is none = absurd (let both = sym (there g is) ∙ ap is_some none in cc)

  marked-bare : (b : Bool) (g : Name) → cond b (cells.Common g) cell ≡ cells.Own None → Write ≡ right
  marked-bare true g is = absurd (common-absent g is)
  marked-bare false g is = sym (bare is)

  taken-bare : (m : Mode) (g : Name) → taken_cell w g m (Page p) cell ≡ cells.Own None → Write ≡ taken_right m (is_page cell) right
  taken-bare Copy g is = sym (bare (lost (own-none (value_of w (Page p) cell) is)))
  taken-bare Share g is = marked-bare (is_moved Share (Page p) cell) g is
  taken-bare Unmap g is = refl
  taken-bare CopyRead g is = sym (ap (λ c. read_right (is_page c)) (lost (own-none (value_of w (Page p) cell) is)))

  moved-bare : (m : Mode) → cells.Own (moved_value m (Page p) cell) ≡ cells.Own None → Write ≡ cond (is_moved m (Page p) cell) right Write
  moved-bare m is = at (is_moved m (Page p) cell) (sym (ap kind_of is) ∙ moved-kind m p cell)
    where
      at : (b : Bool) → None ≡ cond b (Some Own) None → Write ≡ cond b right Write
      at true none = absurd (let e = none in cc)
      at false none = refl

  -- a page that a transfer leaves absent has the right Write
  pub right-absent : (transfer : Transfer) (m : Option Mode) → transferred_cell w transfer m (Page p) cell old ≡ cells.Own None → Write ≡ transferred_right transfer m p cell right was
  right-absent (Mark g) m is = marked-bare (is_moved (unwrap_or m Copy) (Page p) cell) g is
  right-absent Move m is = moved-bare (unwrap_or m Copy) is
  right-absent (Clone g) m is = taken-bare (unwrap_or m Copy) g is
  right-absent (Overlay g) None is = sym (old_bare is)
  right-absent (Overlay g) (Some m) is = taken-bare m g is

-- a page of a clone without pages has the right that its gift says
module _ (s : Parts) (own : (j : ℕ) → IsAllOwn (s.rows (s.size.contexts + j))) (pages : HasItsPages s) (bare : (i p : ℕ) → s.rows i (Page p) ≡ cells.Own None → s.rights i p ≡ Write)
    (g : Name) (m : Option Mode) (from to q : ℕ) (still : is_moved (unwrap_or m Copy) (Page q) (s.rows from (Page q)) ≡ false) (empty : s.rows to (Page q) ≡ cells.Own None) where
  abbrev gift : Option Mode → Cell (Option PageValue) → Option Gift
  gift m cell = option_or (item_gift from m) (option_map (state_gift s from) (state_of (kind_of cell) (s.rights from q)))

  abbrev said : Option Mode → Cell (Option PageValue) → Right
  said m cell = cond (is_read m) Read (gift_right s.rights q (s.rights to q) (gift m cell))

  copied-says : (cell : Cell (Option PageValue)) → is_page (cells.Own (value_of (world_of s) (Page q) cell)) ≡ true → gift_right s.rights q (s.rights to q) (gift None cell) ≡ s.rights from q
  copied-says (cells.Own None) page = cc
  copied-says (cells.Own (Some v)) page = refl
  copied-says (cells.Common h) page = refl

  read-says : (cell : Cell (Option PageValue)) → is_page (cells.Own (value_of (world_of s) (Page q) cell)) ≡ true → Read ≡ read_right (is_page cell)
  read-says (cells.Own None) page = cc
  read-says (cells.Own (Some v)) page = refl
  read-says (cells.Common h) page = refl

  says : (m : Option Mode) (cell : Cell (Option PageValue)) → is_page (transferred_cell (world_of s) (Clone g) m (Page q) cell (cells.Own None)) ≡ true →
      said m cell ≡ taken_right (unwrap_or m Copy) (is_page cell) (s.rights from q)
  says None cell page = copied-says cell page
  says (Some Copy) cell page = copied-says cell page
  says (Some Share) cell page = refl
  says (Some Unmap) cell page = cc
  says (Some CopyRead) cell page = read-says cell page

  pub clone-rights : shown_right (given_or s.rows (Page q) (s.rows to (Page q)) (option_map (λ gift. gift.0) (gift m (s.rows from (Page q))))) (is_read m)
      (gift_right s.rights q (s.rights to q) (gift m (s.rows from (Page q))))
      ≡ transferred_right (Clone g) m q (s.rows from (Page q)) (s.rights from q) (s.rights to q)
  clone-rights =
      ap (λ c. shown_right c (is_read m) (gift_right s.rights q (s.rights to q) (gift m (s.rows from (Page q)))))
      (ap (λ c. given_or s.rows (Page q) c (option_map (λ gift. gift.0) (gift m (s.rows from (Page q))))) empty ∙ clone_gives s own g m from q (cells.Own None) still)
      ∙ shown-is (transferred_cell (world_of s) (Clone g) m (Page q) (s.rows from (Page q)) (cells.Own None)) (is_read m) _ _
      (λ gone. right-absent (world_of s) q (s.rows from (Page q)) (cells.Own None) (s.rights from q) Write (bare from q) (λ _. refl) (λ h. pages from q h) (Clone g) m gone)
      (says m (s.rows from (Page q)))

moved-own : (m : Option Mode) (kind : Option SegmentKind) → moved_origin m kind ≡ true → kind ≡ Some Own
moved-own None kind is = absurd cc
moved-own (Some Copy) kind is = absurd cc
moved-own (Some Share) None is = absurd cc
moved-own (Some Share) (Some Own) is = refl
moved-own (Some Share) (Some (Common g)) is = absurd cc
moved-own (Some Unmap) kind is = absurd cc
moved-own (Some CopyRead) kind is = absurd cc

module _ (w : World) (rights : ℕ → ℕ → Right) (p from to : ℕ) (cell old : Cell (Option PageValue)) (found : Found)
    (kind_is : found.kind ≡ kind_of cell) (right_is : found.right ≡ option_map (λ s. s.right) (state_of (kind_of cell) (rights from p))) where
  abbrev got : Option Origin → Right
  got o = gift_right rights p (rights to p) (option_map (λ origin. (origin, found.right)) o)

  -- a page that is found gives its right
  found-right : (kind : SegmentKind) → found.kind ≡ Some kind → found.right ≡ Some (rights from p)
  found-right kind is = right_is ∙ ap (λ k. option_map (λ s. s.right) (state_of k (rights from p))) (sym kind_is ∙ is)

  got-some : (kind : SegmentKind) (o : Origin) → found.kind ≡ Some kind → got (Some o) ≡ rights from p
  got-some kind o is = ap (λ r. unwrap_or r (origin_right rights o p)) (found-right kind is)

  other-right : found.kind ≡ Some Own → got (other_origin from to) ≡ rights from p
  other-right own =
      ⊎_elim
      (λ same. ap got (choose to from None (Some (origins.CopyOf from)) same) ∙ ap (λ i. rights i p) (sym same))
      (λ other. ap got (pass to from None (Some (origins.CopyOf from)) other) ∙ got-some Own (origins.CopyOf from) own)
      (cases_eq from to)

  shown-kind : (common : Origin) (kind : Option SegmentKind) → found.kind ≡ kind → (kind ≡ None → ⊥) → got (shown_origin common kind from to) ≡ rights from p
  shown-kind common None is some = absurd (some refl)
  shown-kind common (Some Own) is some = other-right is
  shown-kind common (Some (Common g)) is some = got-some (Common g) common is

  present-kind : is_page cell ≡ true → kind_of cell ≡ None → ⊥
  present-kind page none = at cell page none
    where
      at : (c : Cell (Option PageValue)) → is_page c ≡ true → kind_of c ≡ None → ⊥
      at (cells.Own None) page none = cc
      at (cells.Own (Some v)) page none = let e = none in cc
      at (cells.Common g) page none = let e = none in cc

  shared-kind : (g : Name) (kind : Option SegmentKind) → found.kind ≡ kind → (kind ≡ None → ⊥) → got (taken_origin g Share found from to) ≡ rights from p
  shared-kind g None is some = absurd (some refl)
  shared-kind g (Some kind) is some = got-some kind _ is

  copied-page : is_page (cells.Own (value_of w (Page p) cell)) ≡ true → is_page cell ≡ true
  copied-page page = at cell page
    where
      at : (c : Cell (Option PageValue)) → is_page (cells.Own (value_of w (Page p) c)) ≡ true → is_page c ≡ true
      at (cells.Own v) page = page
      at (cells.Common g) page = refl

  shared-page : (g : Name) → is_page (taken_cell w g Share (Page p) cell) ≡ true → is_page cell ≡ true
  shared-page g page = at cell page
    where
      at : (c : Cell (Option PageValue)) → is_page (taken_cell w g Share (Page p) c) ≡ true → is_page c ≡ true
      at (cells.Own None) page = page
      at (cells.Own (Some v)) page = refl
      at (cells.Common h) page = refl

  read-page : (page : Bool) → page ≡ true → Read ≡ read_right page
  read-page true is = refl
  read-page false is = cc

  taken-shown : (m : Mode) (g : Name) → is_page (taken_cell w g m (Page p) cell) ≡ true → cond (is_read (Some m)) Read (got (taken_origin g m found from to)) ≡ taken_right m (is_page cell) (rights from p)
  taken-shown Copy g page = shown-kind (copied_origin found.holder) found.kind refl (λ none. present-kind (copied-page page) (sym kind_is ∙ none))
  taken-shown Share g page = shared-kind g found.kind refl (λ none. present-kind (shared-page g page) (sym kind_is ∙ none))
  taken-shown Unmap g page = absurd cc
  taken-shown CopyRead g page = read-page (is_page cell) (copied-page page)

  marked-shown : (b : Bool) (g : Name) (m : Option Mode) → moved_origin m found.kind ≡ b → from ≡ to → got (cond b (Some (origins.Common g)) None) ≡ rights from p
  marked-shown true g m is same = got-some Own (origins.Common g) (moved-own m found.kind is)
  marked-shown false g m is same = ap (λ i. rights i p) (sym same)

  moved-shown : (b : Bool) (m : Option Mode) → moved_origin m found.kind ≡ b → is_moved (unwrap_or m Copy) (Page p) cell ≡ b → is_page (cells.Own (moved_value (unwrap_or m Copy) (Page p) cell)) ≡ true →
      got (Some (cond b (origins.CopyOf from) origins.Absent)) ≡ cond b (rights from p) Write
  moved-shown true m is moved page = got-some Own (origins.CopyOf from) (moved-own m found.kind is)
  moved-shown false m is moved page = absurd (none (moved_value (unwrap_or m Copy) (Page p) cell) page (moved-kind (unwrap_or m Copy) p cell ∙ ap (λ b. cond b (Some Own) None) moved))
    where
      none : (v : Option PageValue) → is_page (cells.Own v) ≡ true → kind_of (cells.Own v) ≡ None → ⊥
      none None page is = cc
      none (Some v) page is = let e = is in cc

  mode_moved : (m : Option Mode) → moved_origin m found.kind ≡ is_moved (unwrap_or m Copy) (Page p) cell
  mode_moved m = ap (moved_origin m) kind_is ∙ moved_same m (Page p) cell

  -- a page that a transfer leaves present has the right that it gives
  pub right-present : (transfer : Transfer) (m : Option Mode) (contexts : ℕ) → IsFor contexts from to transfer → is_page (transferred_cell w transfer m (Page p) cell old) ≡ true →
      cond (reads transfer m) Read (got (origin_of transfer m found from to)) ≡ transferred_right transfer m p cell (rights from p) (rights to p)
  right-present (Mark g) m contexts for page = marked-shown (moved_origin m found.kind) g m refl for
  right-present Move m contexts for page =
      ap (λ b. got (Some (cond b (origins.CopyOf from) origins.Absent))) (mode_moved m)
      ∙ moved-shown (is_moved (unwrap_or m Copy) (Page p) cell) m (mode_moved m) refl page
  right-present (Clone g) None contexts for page = taken-shown Copy g page
  right-present (Clone g) (Some m) contexts for page = taken-shown m g page
  right-present (Overlay g) None contexts for page = refl
  right-present (Overlay g) (Some m) contexts for page = taken-shown m g page

-- the right of a page by a transfer of what is found, in a world whose absent pages have the right Write
pub right-found : (s : Parts) → HasItsPages s → ((i p : ℕ) → s.rows i (Page p) ≡ cells.Own None → s.rights i p ≡ Write) → (p from to : ℕ) (found : Found) → found.kind ≡ kind_of (s.rows from (Page p)) →
    found.right ≡ option_map (λ t. t.right) (state_of (kind_of (s.rows from (Page p))) (s.rights from p)) → (transfer : Transfer) (m : Option Mode) → IsFor s.size.contexts from to transfer →
    (gift : Option Gift) → gift ≡ option_map (λ origin. (origin, found.right)) (origin_of transfer m found from to) →
    shown_right (transferred_cell (world_of s) transfer m (Page p) (s.rows from (Page p)) (s.rows to (Page p))) (reads transfer m) (gift_right s.rights p (s.rights to p) gift)
    ≡ transferred_right transfer m p (s.rows from (Page p)) (s.rights from p) (s.rights to p)
right-found s pages bare p from to found kind_is right_is transfer m for gift is =
    shown-is (transferred_cell (world_of s) transfer m (Page p) (s.rows from (Page p)) (s.rows to (Page p))) (reads transfer m) (gift_right s.rights p (s.rights to p) gift) _
    (right-absent (world_of s) p (s.rows from (Page p)) (s.rows to (Page p)) (s.rights from p) (s.rights to p) (bare from p) (bare to p) (λ h. pages from p h) transfer m)
    (λ present.
    ap (λ g. cond (reads transfer m) Read (gift_right s.rights p (s.rights to p) g)) is
    ∙ right-present (world_of s) s.rights p from to (s.rows from (Page p)) (s.rows to (Page p)) found kind_is right_is transfer m s.size.contexts for present)

-- the rights of all pages: of those below the last one by what is said of them, and past it there is none
pub origin-rights : (s : Parts) → IsSound s → ((i p : ℕ) → s.rows i (Page p) ≡ cells.Own None → s.rights i p ≡ Write) → (transfer : Transfer) (items : List Item) → IsSpec s.size.pages items → (from to : ℕ)
    (right : ℕ → Right) → ((q : ℕ) → q < MOST_PAGES → right q ≡ transferred_rights transfer items (s.rows from) (s.rights from) (s.rights to) q) →
    ((q : ℕ) → s.rows to (Page q) ≡ cells.Own None → MOST_PAGES ≤ q → right q ≡ Write) → right ≡ transferred_rights transfer items (s.rows from) (s.rights from) (s.rights to)
origin-rights s sound bare transfer items spec from to right low high = λ e q. at q e
  where
    nothing : (i q : ℕ) → MOST_PAGES ≤ q → s.rows i (Page q) ≡ cells.Own None
    nothing i q past = no_page (s.rows i (Page q)) q (sound.past i (Page q) (omega (arith, past, sound.sizes.size.pages.1)))

    at : (q : ℕ) → right q ≡ transferred_rights transfer items (s.rows from) (s.rights from) (s.rights to) q
    at q =
        ⊎_elim
        (λ inside. low q inside)
        (λ past.
        high q (nothing to q past) past
        ∙ right-absent (world_of s) q (s.rows from (Page q)) (s.rows to (Page q)) (s.rights from q) (s.rights to q) (bare from q) (bare to q) (λ h. sound.pages from q h) transfer (mode items (Page q))
        (transferred-past (world_of s) s.size.pages items spec transfer (s.rows from) (s.rows to) (sound.past from) (sound.past to) (Page q) (omega (arith, past, sound.sizes.size.pages.1)) ∙ nothing to q past))
        (cases_lt q MOST_PAGES)
