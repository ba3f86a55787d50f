-- Ranges go by what pages are to their context: as many begin as holders change.
use Rattle.std.proofs.Common.{◌≡◌, ◌≢◌, ℕ, zero, suc, ◌+◌, ◌-◌, ◌<◌, ◌≤◌, arith, refl, sym, ap, ◌∙◌, Bool, true, false, cond, List, Option, Some, None}
use Rattle.std.specs.Prelude.{◌&&◌, ◌||◌, not, is_some, count_by, nat_le, nat_lt}
use Rattle.std.specs.List.{range_with_len}
use Rattle.std.specs.Ordering.{eq_by_cmp, is_eq}
use Rattle.std.proofs.lemmas.Bool.{false≢true}
use Rattle.std.proofs.lemmas.List.Sums.{sum_by-cons}
use Rattle.lwc_base.specs.declared.cell.Cell.{Cell}
use Rattle.lwc_base.specs.declared.cell.Cell.TheVariants as cell
use Rattle.lwc_base.specs.declared.item.Item.{Item}
use Rattle.lwc_base.specs.declared.item.Mode.{Mode}
use Rattle.lwc_base.specs.declared.item.Mode.TheVariants.{Copy, CopyRead, Share, Unmap}
use Rattle.lwc_base.specs.Cells.{page_at}
use Rattle.lwc_base.specs.Fresh.{IsFresh}
use Rattle.lwc_base.specs.Mapping.{mapped_or_not, writable_in}
use Rattle.lwc_base.specs.Modes.{IsSpec, mode_or_copy}
use Rattle.lwc_base.specs.Ranges.{are_of_one_kind, is_page, begins_range, ranges, ranges_of}
use Rattle.lwc_base.specs.Rights.{right_at, same_right}
use Rattle.lwc_base.specs.Sharing.{shared_cell, cloned_context, cloned_cell, with_shared, moved_values, ranges_after_clone, share}
use Rattle.lwc_base.specs.World.{World, Context, context, is_live, next_group}
use Rattle.lwc_types.specs.declared.key.Key.TheVariants.{Page}
use Rattle.lwc_types.specs.declared.name.Name.{Name}
use Rattle.lwc_types.specs.declared.page.PageValue.{PageValue}
use Rattle.lwc_types.specs.declared.page.PageValue.TheVariants.{Zero}
use Rattle.lwc_types.specs.declared.regs.Regs.{Regs}
use Rattle.lwc_types.specs.declared.right.Right.TheVariants.{Write}
use Rattle.lwc_types.specs.declared.size.WorldSize.{WorldSize}
use Rattle.lwc_types.specs.Names.{name_cmp}
use Rattle.whole_world.specs.declared.holder.Holder.{Holder}
use Rattle.whole_world.specs.declared.holder.Side.{Side}
use Rattle.whole_world.specs.declared.holder.Holder.TheVariants.{Nobody, Own, NewGroup, Group}
use Rattle.whole_world.specs.Holders.{begins_after, begins_at, cloned_holder, count_of_ranges, holder_after_clone, holder_after_map, holder_in_clone, holder_of, is_somebody, moved_holder, page_holder, side_after_clone, side_after_map, side_before, side_in_clone}
use Rattle.whole_world.proofs.SharedCells.{cloned_right-shared, context-shared, right-shared}
use Rattle.lwc_base.proofs.Facts.{changes, stays_fresh}
use Rattle.lwc_base.proofs.Sharing.{value_at-share}
use Rattle.lwc_types.proofs.Orders.{name-itself, same_name}

-- what a page with this cell is to its context, seen from a new group
abbrev pub seen_from : Name → Cell (Option PageValue) → Holder
seen_from g (cell.Own None) = Nobody
seen_from g (cell.Own (Some value)) = Own
seen_from g (cell.Common h) = cond (is_eq (name_cmp h g)) NewGroup (Group h)

other_name : (h g : Name) → h ≢ g → is_eq (name_cmp h g) ≡ false
other_name h g other = not_tied (is_eq (name_cmp h g)) refl
  where
    not_tied : (b : Bool) → is_eq (name_cmp h g) ≡ b → b ≡ false
    not_tied true is = absurd (other (same_name h g is))
    not_tied false is = refl

same_as_itself : (g h k : Name) (e : Bool) → eq_by_cmp name_cmp h g ≡ true → eq_by_cmp name_cmp k g ≡ true → is_eq (name_cmp h k) ≡ e → e ≡ true
same_as_itself g h k e h_is k_is is = sym is ∙ (λ i. is_eq (name_cmp (same_name h g h_is i) (same_name k g k_is i))) ∙ name-itself g

begins_after-common : (g h k : Name) (a b e : Bool) → is_eq (name_cmp h g) ≡ a → is_eq (name_cmp k g) ≡ b → is_eq (name_cmp h k) ≡ e →
    begins_after (cond a NewGroup (Group h)) (cond b NewGroup (Group k)) ≡ not e
begins_after-common g h k true true e h_is k_is is = ap not (sym (same_as_itself g h k e h_is k_is is))
begins_after-common g h k true false true h_is k_is is =
    absurd (false≢true (sym k_is ∙ ap (λ n. is_eq (name_cmp n g)) (sym (same_name h k is)) ∙ h_is))
begins_after-common g h k true false false h_is k_is is = refl
begins_after-common g h k false true true h_is k_is is = absurd (false≢true (sym h_is ∙ ap (λ n. is_eq (name_cmp n g)) (same_name h k is) ∙ k_is))
begins_after-common g h k false true false h_is k_is is = refl
begins_after-common g h k false false e h_is k_is is = ap not is

own_begins : (h : Name) (b : Bool) → begins_after (cond b NewGroup (Group h)) Own ≡ true
own_begins h true = refl
own_begins h false = refl

begins_after_own : (h : Name) (b : Bool) → begins_after Own (cond b NewGroup (Group h)) ≡ true
begins_after_own h true = refl
begins_after_own h false = refl

begins_after_absent : (h : Name) (b : Bool) → begins_after Nobody (cond b NewGroup (Group h)) ≡ true
begins_after_absent h true = refl
begins_after_absent h false = refl

begins-cells : (g : Name) (a b : Cell (Option PageValue)) → begins_after (seen_from g a) (seen_from g b) ≡ (is_page b && not (are_of_one_kind a b))
begins-cells g a (cell.Own None) = refl
begins-cells g (cell.Own None) (cell.Own (Some v)) = refl
begins-cells g (cell.Own (Some u)) (cell.Own (Some v)) = refl
begins-cells g (cell.Common h) (cell.Own (Some v)) = own_begins h _
begins-cells g (cell.Own None) (cell.Common k) = begins_after_absent k _
begins-cells g (cell.Own (Some u)) (cell.Common k) = begins_after_own k _
begins-cells g (cell.Common h) (cell.Common k) = begins_after-common g h k _ _ _ refl refl refl

begins-first : (g : Name) (b : Cell (Option PageValue)) → begins_after Nobody (seen_from g b) ≡ (is_page b && not false)
begins-first g (cell.Own None) = refl
begins-first g (cell.Own (Some v)) = refl
begins-first g (cell.Common k) = begins_after_absent k _

somebody_in : (h : Name) (b : Bool) → is_somebody (cond b NewGroup (Group h)) ≡ true
somebody_in h true = refl
somebody_in h false = refl

-- somebody has the pages that are present
somebody-page : (g : Name) (b : Cell (Option PageValue)) → is_somebody (seen_from g b) ≡ is_page b
somebody-page g (cell.Own None) = refl
somebody-page g (cell.Own (Some v)) = refl
somebody-page g (cell.Common k) = somebody_in k _

-- a page that is not of the kind or not of the right of the one before it begins a range
parted : (page kind right : Bool) → ((page && not kind) || (page && not right)) ≡ (page && not (kind && right))
parted false kind right = refl
parted true true right = refl
parted true false right = refl

parted_first : (page right : Bool) → ((page && not false) || (page && not right)) ≡ (page && not false)
parted_first false right = refl
parted_first true right = refl

-- a context whose pages are to it what some sides say has the ranges that they make
module _ (g : Name) (x : Context) (sides : ℕ → Side) (each : (p : ℕ) → seen_from g (x.cell (Page p)) ≡ (sides p).holder) (rights : (p : ℕ) → x.right p ≡ (sides p).right) where
  begins-each : (p : ℕ) → begins_range x p ≡ begins_at sides p
  unfolding begins_range
  begins-each zero =
      let b : Cell (Option PageValue) = x.cell (Page 0) in
      let other : Bool = not (same_right Write (sides 0).right) in
      sym (parted_first (is_page b) (same_right Write (sides 0).right))
      ∙ (λ i. (sym (begins-first g b)) i || ((sym (somebody-page g b)) i && other))
      ∙ (λ i. begins_after Nobody (each 0 i) || (is_somebody (each 0 i) && other))
  begins-each (suc p) =
      let a : Cell (Option PageValue) = x.cell (Page p) in
      let b : Cell (Option PageValue) = x.cell (Page (suc p)) in
      let other : Bool = not (same_right (x.right p) (x.right (suc p))) in
      sym (parted (is_page b) (are_of_one_kind a b) (same_right (x.right p) (x.right (suc p))))
      ∙ (λ i. (sym (begins-cells g a b)) i || ((sym (somebody-page g b)) i && other))
      ∙ (λ i. begins_after (each p i) (each (suc p) i) || (is_somebody (each (suc p) i) && not (same_right (rights p i) (rights (suc p) i))))

  pub ranges-holders : (pages : ℕ) → ranges pages x ≡ count_of_ranges pages sides
  unfolding ranges count_of_ranges
  ranges-holders pages = ap (λ f. count_by f (range_with_len 0 pages)) (λ i p. begins-each p i)

pub seen_from-shared : (g : Name) (p : ℕ) (mode : Mode) (c : Cell (Option PageValue)) → c ≢ cell.Common g →
    seen_from g (shared_cell g mode (Page p) c) ≡ moved_holder mode (holder_of (Page p) c)
seen_from-shared g p Copy (cell.Own None) other = refl
seen_from-shared g p Share (cell.Own None) other = refl
seen_from-shared g p Unmap (cell.Own None) other = refl
seen_from-shared g p CopyRead (cell.Own None) other = refl
seen_from-shared g p Copy (cell.Own (Some v)) other = refl
seen_from-shared g p Share (cell.Own (Some v)) other = ap (λ b. cond b NewGroup (Group g)) (name-itself g)
seen_from-shared g p Unmap (cell.Own (Some v)) other = refl
seen_from-shared g p CopyRead (cell.Own (Some v)) other = refl
seen_from-shared g p Copy (cell.Common h) other = ap (λ b. cond b NewGroup (Group h)) (other_name h g (λ same. other (ap (λ n. cell.Common n) same)))
seen_from-shared g p Share (cell.Common h) other = ap (λ b. cond b NewGroup (Group h)) (other_name h g (λ same. other (ap (λ n. cell.Common n) same)))
seen_from-shared g p Unmap (cell.Common h) other = ap (λ b. cond b NewGroup (Group h)) (other_name h g (λ same. other (ap (λ n. cell.Common n) same)))
seen_from-shared g p CopyRead (cell.Common h) other = ap (λ b. cond b NewGroup (Group h)) (other_name h g (λ same. other (ap (λ n. cell.Common n) same)))

seen_from-own : (g : Name) (value : Option PageValue) → seen_from g (cell.Own value) ≡ cond (is_some value) Own Nobody
seen_from-own g None = refl
seen_from-own g (Some value) = refl

module _ (w : World) (c : Name) (fresh : IsFresh w) where
  pub not_new : (job p : ℕ) → (context w c).cell (Page p) ≢ cell.Common (next_group w job)
  not_new job p is = let h : (w.next job).groups < (w.next job).groups = stays_fresh.named w c (Page p) (next_group w job) fresh is in absurd (omega arith)

  module _ (job : ℕ) (items : List Item) (live : is_live w c ≡ true) (spec : IsSpec w.size.pages items) where
    abbrev new : Name
    new = next_group w job

    pub page-shared : (p : ℕ) → seen_from new ((context (share w c job items) c).cell (Page p)) ≡ moved_holder (mode_or_copy items (Page p)) (holder_of (Page p) ((context w c).cell (Page p)))
    unfolding with_shared moved_values
    page-shared p =
        ap (λ (x : Context). seen_from new (x.cell (Page p))) (context-shared w c job items live spec)
        ∙ seen_from-shared new p (mode_or_copy items (Page p)) ((context w c).cell (Page p)) (not_new job p)

    -- the ranges of the context after the sharing
    pub ranges-shared : ranges_of (share w c job items) c ≡ count_of_ranges w.size.pages (side_after_clone w c items)
    unfolding ranges_of side_after_clone holder_after_clone page_holder
    ranges-shared =
        ap (λ (s : WorldSize). ranges s.pages (context (share w c job items) c)) ((changes.shared w c job items).size)
        ∙ ranges-holders new (context (share w c job items) c) (side_after_clone w c items) page-shared (right-shared w c job items live spec) w.size.pages

    pub page-cloned : (p : ℕ) (mode : Mode) → mode_or_copy items (Page p) ≡ mode →
        seen_from new (cloned_cell (share w c job items) c (Page p) mode) ≡ cloned_holder mode (is_some (page_at w c p)) (holder_of (Page p) ((context w c).cell (Page p)))
    page-cloned p Copy is =
        ap (λ o. seen_from new (cell.Own o)) (value_at-share w c job items fresh c (Page p)) ∙ seen_from-own new (page_at w c p)
    page-cloned p CopyRead is =
        ap (λ o. seen_from new (cell.Own o)) (value_at-share w c job items fresh c (Page p)) ∙ seen_from-own new (page_at w c p)
    page-cloned p Share is = page-shared p ∙ ap (λ m. moved_holder m (holder_of (Page p) ((context w c).cell (Page p)))) is
    page-cloned p Unmap is = refl

    -- the ranges of the new context
    pub ranges-cloned : (entry : Regs) → ranges (share w c job items).size.pages (cloned_context (share w c job items) c items entry) ≡ count_of_ranges w.size.pages (side_in_clone w c items)
    unfolding cloned_context side_in_clone holder_in_clone page_holder
    ranges-cloned entry =
        ap (λ (s : WorldSize). ranges s.pages (cloned_context (share w c job items) c items entry)) ((changes.shared w c job items).size)
        ∙ ranges-holders new (cloned_context (share w c job items) c items entry) (side_in_clone w c items) (λ p. page-cloned p _ refl)
        (λ p. cloned_right-shared w c job items live spec p (mode_or_copy items (Page p))) w.size.pages

    -- both
    pub ranges-both : (a b : ℕ) → a ≡ count_of_ranges w.size.pages (side_after_clone w c items) → b ≡ count_of_ranges w.size.pages (side_in_clone w c items) →
        ◌≡◌ {A = ℕ × ℕ} (a, b) (ranges_after_clone w c job items)
    unfolding ranges_after_clone
    ranges-both a b shared cloned = λ i. ((shared ∙ sym ranges-shared) i, (cloned ∙ sym (ranges-cloned (context (share w c job items) c).entry)) i)

  mapped-cell : (g : Name) (here present : Bool) (old : Cell (Option PageValue)) (held : Holder) → seen_from g old ≡ held →
      seen_from g (cond present (cond here (cell.Own (Some Zero)) old) (cond here (cell.Own None) old)) ≡ cond here (cond present Own Nobody) held
  mapped-cell g true true old held same = refl
  mapped-cell g true false old held same = refl
  mapped-cell g false true old held same = same
  mapped-cell g false false old held same = same

  size-mapped : (from to : ℕ) (present : Bool) → (mapped_or_not w c from to present).size ≡ w.size
  size-mapped from to true = (changes.mapped w c from to).names.size
  size-mapped from to false = (changes.unmapped w c from to).names.size

  context-mapped : (from to : ℕ) (present : Bool) → is_live w c ≡ true → (p : ℕ) → (context (mapped_or_not w c from to present) c).cell (Page p)
      ≡ (let here : Bool = nat_le from p && nat_lt p to in cond present (cond here (cell.Own (Some Zero)) ((context w c).cell (Page p))) (cond here (cell.Own None) ((context w c).cell (Page p))))
  context-mapped from to true live p = ap (λ (x : Context). x.cell (Page p)) ((changes.mapped w c from to).changed live)
  context-mapped from to false live p = ap (λ (x : Context). x.cell (Page p)) ((changes.unmapped w c from to).changed live)

  right-mapped : (from to : ℕ) (present : Bool) → is_live w c ≡ true → (p : ℕ) → right_at (mapped_or_not w c from to present) c p ≡ writable_in from to (context w c).right p
  right-mapped from to true live p = ap (λ (x : Context). x.right p) ((changes.mapped w c from to).changed live)
  right-mapped from to false live p = ap (λ (x : Context). x.right p) ((changes.unmapped w c from to).changed live)

  -- the ranges of the context once pages have been mapped or unmapped
  pub ranges-mapped : (from to : ℕ) (present : Bool) → is_live w c ≡ true →
      ranges_of (mapped_or_not w c from to present) c ≡ count_of_ranges w.size.pages (side_after_map w c from to present)
  unfolding ranges_of side_after_map holder_after_map page_holder
  ranges-mapped from to present live =
      let new : Name = next_group w 0 in
      ap (λ (s : WorldSize). ranges s.pages (context (mapped_or_not w c from to present) c)) (size-mapped from to present)
      ∙ ranges-holders new (context (mapped_or_not w c from to present) c) (side_after_map w c from to present)
      (λ p. ap (seen_from new) (context-mapped from to present live p)
      ∙ mapped-cell new (nat_le from p && nat_lt p to) present ((context w c).cell (Page p)) _ (seen_from-shared new p Copy ((context w c).cell (Page p)) (not_new 0 p)))
      (right-mapped from to present live) w.size.pages

next_page : (p end : ℕ) → p < end → end - p ≡ suc (end - (p + 1))
next_page p end within = omega arith

none_left : (p end : ℕ) → end ≤ p → end - p ≡ 0
none_left p end past = omega arith

-- the ranges that begin at a page and after it
pub ranges-next : (sides : ℕ → Side) (p end : ℕ) → p < end →
    count_by (begins_at sides) (range_with_len p (end - p)) ≡ cond (begins_at sides p) 1 0 + count_by (begins_at sides) (range_with_len (p + 1) (end - (p + 1)))
ranges-next sides p end within =
    ap (λ n. count_by (begins_at sides) (range_with_len p n)) (next_page p end within)
    ∙ sum_by-cons (λ q. cond (begins_at sides q) 1 0) p (range_with_len (p + 1) (end - (p + 1)))

pub ranges-end : (sides : ℕ → Side) (p end : ℕ) → end ≤ p → count_by (begins_at sides) (range_with_len p (end - p)) ≡ 0
ranges-end sides p end past = ap (λ n. count_by (begins_at sides) (range_with_len p n)) (none_left p end past)

pub before_next : (sides : ℕ → Side) (p : ℕ) → side_before sides (p + 1) ≡ sides p
before_next sides p = let e : p + 1 ≡ suc p = omega arith in ap (side_before sides) e
