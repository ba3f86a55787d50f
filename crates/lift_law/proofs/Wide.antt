-- A world with as many pages as there may be, in which each full capability has them all; what is asked of it.
use Rattle.std.proofs.Common.{◌≡◌, ◌∙◌, ◌/◌, ◌%◌, refl, sym, ap, ℕ, zero, suc, true, cond, ◌&&◌, Option, Some, None, map}
use Rattle.std.specs.Prelude.{count_by, is_some, not, slice_index, unwrap_or}
use Rattle.std.specs.List.{find, list_all, list_any, range_with_len}
use Rattle.std.specs.Option.{option_map, option_map_or}
use Rattle.std.specs.FinMap as fm
use Rattle.lwc_base.specs.Capabilities.{full_cap}
use Rattle.lwc_base.specs.Cells.{page_at, slot_at, uid_at, value_at, value_of}
use Rattle.lwc_base.specs.Keys.{ValueOf, is_there}
use Rattle.lwc_base.specs.Life.{is_of, links}
use Rattle.lwc_base.specs.Memory.{byte_at, is_present, load, touched}
use Rattle.lwc_base.specs.Ranges.{are_of_one_kind, begins_range, has_page, is_page}
use Rattle.lwc_base.specs.Rights.{is_writable, may_write, right_at, same_right}
use Rattle.lwc_base.specs.Saved.{entered}
use Rattle.lwc_base.specs.Sharing.{is_moved}
use Rattle.lwc_base.specs.Slots.{lowest_empty}
use Rattle.lwc_base.specs.Summaries.{is_empty}
use Rattle.lwc_base.specs.World.{World, Context, Group, context, group, groups_of, is_live, live_of, new_context, new_group}
use Rattle.lwc_base.specs.declared.cell.Cell.{Cell}
use Rattle.lwc_base.specs.declared.cell.Cell.TheVariants.{Own, Common}
use Rattle.lwc_base.specs.declared.descriptor.Cap.{Cap}
use Rattle.lwc_base.specs.declared.descriptor.Descriptor.{Descriptor}
use Rattle.lwc_base.specs.declared.descriptor.Descriptor.TheVariants.{Empty, Console, File, Request, Reply, Ctx}
use Rattle.lwc_base.specs.declared.item.Mode.{Mode}
use Rattle.lwc_base.specs.declared.item.Mode.TheVariants.{Copy, Share, Unmap, CopyRead}
use Rattle.lwc_types.specs.Pages.{bytes_of}
use Rattle.lwc_types.specs.Registers.{fresh_registers}
use Rattle.lwc_types.specs.declared.key.TheConstants.{SLOTS}
use Rattle.lwc_types.specs.declared.key.Key.{Key}
use Rattle.lwc_types.specs.declared.key.Key.TheVariants.{Page, Slot, Cred}
use Rattle.lwc_types.specs.declared.limits.TheConstants.{MOST_PAGES}
use Rattle.lwc_types.specs.declared.name.Name.{Name}
use Rattle.lwc_types.specs.declared.page.PageValue.{PageValue}
use Rattle.lwc_types.specs.declared.page.TheConstants.{PAGE_BYTES}
use Rattle.lift_law.proofs.Tables.{get-with, has-with, keys-with, with_values}

-- a capability with the credential's key is a full one, and has all pages
abbrev pub wide_cap : Cap → Cap
wide_cap cap = cond cap.cred (full_cap MOST_PAGES) cap

abbrev pub wide_descriptor : Descriptor → Descriptor
wide_descriptor Empty = Empty
wide_descriptor Console = Console
wide_descriptor (File file at) = File file at
wide_descriptor (Request r at) = Request r at
wide_descriptor (Reply r) = Reply r
wide_descriptor (Ctx name cap) = Ctx name (wide_cap cap)

abbrev pub wide_value : (k : Key) → ValueOf k → ValueOf k
wide_value (Page p) value = value
wide_value (Slot n) value = wide_descriptor value
wide_value Cred value = value

abbrev pub wide_cell : (k : Key) → Cell (ValueOf k) → Cell (ValueOf k)
wide_cell k (Own value) = Own (wide_value k value)
wide_cell k (Common g) = Common g

abbrev pub wide_context : Context → Context
wide_context x = record x { cell = λ k. wide_cell k (x.cell k) }

abbrev pub wide_group : Group → Group
wide_group x = record x { value = λ k. wide_value k (x.value k) }

abbrev pub wide : World → World
wide w = record {
  contexts = with_values wide_context w.contexts;
  groups = with_values wide_group w.groups;
  next = w.next;
  size = record w.size { pages = MOST_PAGES };
}

-- a cell of a page is the same, since a page has no descriptor
pub page_cell-wide : (p : ℕ) (cell : Cell (Option PageValue)) → wide_cell (Page p) cell ≡ cell
page_cell-wide p (Own value) = refl
page_cell-wide p (Common g) = refl

pub empty-wide : (d : Descriptor) → is_empty (wide_descriptor d) ≡ is_empty d
empty-wide Empty = refl
empty-wide Console = refl
empty-wide (File file at) = refl
empty-wide (Request r at) = refl
empty-wide (Reply r) = refl
empty-wide (Ctx name cap) = refl

pub is_of-wide : (c : Name) (d : Descriptor) → is_of c (wide_descriptor d) ≡ is_of c d
is_of-wide c Empty = refl
is_of-wide c Console = refl
is_of-wide c (File file at) = refl
is_of-wide c (Request r at) = refl
is_of-wide c (Reply r) = refl
is_of-wide c (Ctx name cap) = refl

pub is_there-wide : (k : Key) (value : ValueOf k) → is_there k (wide_value k value) ≡ is_there k value
is_there-wide (Page p) value = refl
is_there-wide (Slot n) value = refl
is_there-wide Cred value = refl

pub is_moved-wide : (m : Mode) (k : Key) (cell : Cell (ValueOf k)) → is_moved m k (wide_cell k cell) ≡ is_moved m k cell
is_moved-wide Copy k cell = refl
is_moved-wide Share k (Own value) = is_there-wide k value
is_moved-wide Share k (Common g) = refl
is_moved-wide Unmap k cell = refl
is_moved-wide CopyRead k cell = refl

pub begins-wide : (x : Context) (p : ℕ) → begins_range (wide_context x) p ≡ begins_range x p
unfolding begins_range
begins-wide x zero = ap (λ c. is_page c && true) (page_cell-wide 0 (x.cell (Page 0)))
begins-wide x (suc p) = λ i.
    is_page (page_cell-wide (suc p) (x.cell (Page (suc p))) i)
    && not (are_of_one_kind (page_cell-wide p (x.cell (Page p)) i) (page_cell-wide (suc p) (x.cell (Page (suc p))) i) && same_right (x.right p) (x.right (suc p)))

-- nothing is in a context or a group that is not there
nobody-wide : wide_context (new_context 0 (fresh_registers 0)) ≡ new_context 0 (fresh_registers 0)
nobody-wide = λ i. record (new_context 0 (fresh_registers 0)) { cell = λ k. at k i }
  where
    at : (k : Key) → wide_cell k ((new_context 0 (fresh_registers 0)).cell k) ≡ (new_context 0 (fresh_registers 0)).cell k
    at (Page p) = refl
    at (Slot n) = refl
    at Cred = refl

nothing-wide : wide_group new_group ≡ new_group
nothing-wide = λ i. record { value = λ k. at k i }
  where
    at : (k : Key) → wide_value k (new_group.value k) ≡ new_group.value k
    at (Page p) = refl
    at (Slot n) = refl
    at Cred = refl

unwrapped : {X : Type 0} (f : X → X) (x : X) → f x ≡ x → (o : Option X) → unwrap_or (option_map f o) x ≡ f (unwrap_or o x)
unwrapped f x same None = sym same
unwrapped f x same (Some y) = refl

module _ (w : World) where
  pub context-wide : (c : Name) → context (wide w) c ≡ wide_context (context w c)
  unfolding context
  context-wide c =
      ap (λ o. unwrap_or o (new_context 0 (fresh_registers 0))) (get-with wide_context w.contexts c)
      ∙ unwrapped wide_context (new_context 0 (fresh_registers 0)) nobody-wide (fm.get w.contexts c)

  pub group-wide : (g : Name) → group (wide w) g ≡ wide_group (group w g)
  unfolding group
  group-wide g = ap (λ o. unwrap_or o new_group) (get-with wide_group w.groups g) ∙ unwrapped wide_group new_group nothing-wide (fm.get w.groups g)

  pub live-wide : (c : Name) → is_live (wide w) c ≡ is_live w c
  live-wide c = has-with wide_context w.contexts c

  pub live_of-wide : (job : ℕ) → live_of (wide w) job ≡ live_of w job
  unfolding live_of
  live_of-wide job = ap (count_by _) (keys-with wide_context w.contexts)

  pub groups_of-wide : (job : ℕ) → groups_of (wide w) job ≡ groups_of w job
  unfolding groups_of
  groups_of-wide job = ap (count_by _) (keys-with wide_group w.groups)

  pub cell-wide : (c : Name) (k : Key) → (context (wide w) c).cell k ≡ wide_cell k ((context w c).cell k)
  cell-wide c k = ap (λ (x : Context). x.cell k) (context-wide c)

  value_of-wide : (k : Key) (cell : Cell (ValueOf k)) → value_of (wide w) k (wide_cell k cell) ≡ wide_value k (value_of w k cell)
  value_of-wide k (Own value) = refl
  value_of-wide k (Common g) = ap (λ (x : Group). x.value k) (group-wide g)

  pub value-wide : (c : Name) (k : Key) → value_at (wide w) c k ≡ wide_value k (value_at w c k)
  unfolding value_at
  value-wide c k = ap (value_of (wide w) k) (cell-wide c k) ∙ value_of-wide k ((context w c).cell k)

  pub page-wide : (c : Name) (p : ℕ) → page_at (wide w) c p ≡ page_at w c p
  page-wide c p = value-wide c (Page p)

  pub slot-wide : (c : Name) (n : ℕ) → slot_at (wide w) c n ≡ wide_descriptor (slot_at w c n)
  slot-wide c n = value-wide c (Slot n)

  pub uid-wide : (c : Name) → uid_at (wide w) c ≡ uid_at w c
  uid-wide c = value-wide c Cred

  pub right-wide : (c : Name) (p : ℕ) → right_at (wide w) c p ≡ right_at w c p
  right-wide c p = ap (λ (x : Context). x.right p) (context-wide c)

  pub has_page-wide : (c : Name) (p : ℕ) → has_page (context (wide w) c) p ≡ has_page (context w c) p
  has_page-wide c p = ap is_page (cell-wide c (Page p) ∙ page_cell-wide p ((context w c).cell (Page p)))

  pub enters-wide : (c : Name) (t : ℕ) → entered (context (wide w) c) t ≡ entered (context w c) t
  enters-wide c t = ap (λ (x : Context). unwrap_or (x.saved t) x.entry) (context-wide c)

  pub entry-wide : (c : Name) → (context (wide w) c).entry ≡ (context w c).entry
  entry-wide c = ap (λ (x : Context). x.entry) (context-wide c)

  pub present-wide : (c : Name) (at count : ℕ) → is_present (wide w) c at count ≡ is_present w c at count
  unfolding is_present
  present-wide c at count = λ i. list_all (λ p. is_some (page-wide c p i)) (touched at count)

  pub writable-wide : (c : Name) (at count : ℕ) → is_writable (wide w) c at count ≡ is_writable w c at count
  unfolding is_writable
  writable-wide c at count = λ i. list_all (λ p. may_write (right-wide c p i)) (touched at count)

  byte-wide : (c : Name) (at : ℕ) → byte_at (wide w) c at ≡ byte_at w c at
  unfolding byte_at
  byte-wide c at = ap (λ o. option_map_or (λ value. slice_index (bytes_of value) (at % PAGE_BYTES)) o 0) (page-wide c (at / PAGE_BYTES))

  pub load-wide : (c : Name) (at count : ℕ) → load (wide w) c at count ≡ load w c at count
  unfolding load
  load-wide c at count = λ i. cond (present-wide c at count i) (Some (map (λ a. byte-wide c a i) (range_with_len at count))) None

  pub lowest-wide : (c : Name) → lowest_empty (wide w) c ≡ lowest_empty w c
  unfolding lowest_empty
  lowest-wide c = λ i. find (λ n. (ap is_empty (slot-wide c n) ∙ empty-wide (slot_at w c n)) i) (range_with_len 0 SLOTS)

  pub links-wide : (d c : Name) → links (wide w) d c ≡ links w d c
  unfolding links
  links-wide d c = λ i. list_any (λ n. (ap (is_of c) (slot-wide d n) ∙ is_of-wide c (slot_at w d n)) i) (range_with_len 0 SLOTS)
