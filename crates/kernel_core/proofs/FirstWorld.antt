-- The world of one context: what changes of it make, and a whole page that is stored in it.
use Rattle.std.proofs.Common.{◌≡◌, ℕ, suc, ◌+◌, ◌-◌, ◌*◌, ◌/◌, ◌≤◌, ◌<◌, refl, sym, ap, subst, ◌∙◌, Bool, true, false, cond, eqb, leb, ltb, ◌&&◌, Some, None, List, [], ◌∷◌, ◌++◌, length, get_or, arith, length-append}
use Rattle.std.specs.FinMap as fm
use Rattle.std.specs.FinSet as set
use Rattle.std.specs.List.{flat_map, list_all, range_with_len}
use Rattle.std.specs.Ordering.{eq_by_cmp}
use Rattle.std.specs.Prelude.{count_by, is_some, not, slice_index, unwrap_or}
use Rattle.std.proofs.lemmas.Bool.Decides.{nat_tests}
use Rattle.std.proofs.lemmas.List.{length-replicate}
use Rattle.std.proofs.lemmas.List.FromFn.{fill_by_all}
use Rattle.guest_image.specs.Limits.{pages_of}
use Rattle.guest_image.specs.declared.image.Form.{Form}
use Rattle.kernel_core.specs.Start.{counted, first_name, world_size, world_with}
use Rattle.lwc_base.specs.Cells.{page_at, put_at, put_in, value_at, value_of, with_cell}
use Rattle.lwc_base.specs.Frames.{is_parting, tags, tags_of_context, tags_of_group, used}
use Rattle.lwc_base.specs.Keys.{ValueOf, is_there}
use Rattle.lwc_base.specs.Mapping.{map_pages, with_zeros}
use Rattle.lwc_base.specs.Memory.{is_present, touched}
use Rattle.lwc_base.specs.Rights.{is_writable, may_write, right_at}
use Rattle.lwc_base.specs.Store.{Absent, Done, Full, ReadOnly, Piece, after_store, byte_after, bytes_after, page_value_at, parting_count, stored_pages, put_pages, store, stored_value}
use Rattle.lwc_base.specs.World.{World, Context, Group, add_context, change_context, change_counters, changed_context, context, empty_world, is_live, new_context}
use Rattle.lwc_base.specs.declared.cell.Cell.TheVariants.{Own}
use Rattle.lwc_base.proofs.Facts.{orders}
use Rattle.lwc_types.specs.Names.{name_cmp, tag_cmp}
use Rattle.lwc_types.specs.Pages.{bytes_of, zero_bytes, zero_page}
use Rattle.lwc_types.specs.Registers.{fresh_registers}
use Rattle.lwc_types.specs.declared.right.Right.TheVariants.{Write}
use Rattle.lwc_types.specs.declared.key.Key.{Key}
use Rattle.lwc_types.specs.declared.key.Key.TheVariants.{Page}
use Rattle.lwc_types.specs.declared.name.Name.{Name}
use Rattle.lwc_types.specs.declared.name.Tag.{Tag}
use Rattle.lwc_types.specs.declared.page.PageValue.TheVariants.{Zero, Data}
use Rattle.lwc_types.specs.declared.page.TheConstants.{PAGE_BYTES}
use Rattle.snapshot_host.proofs.Copies.{chosen_twice}

counted_once : (b : Bool) → cond b (record (counted 0 0) { contexts = 0 + 1 }) (counted 0 0) ≡ cond b (counted 1 0) (counted 0 0)
counted_once true = refl
counted_once false = refl

-- the first context of a world in which nothing is live
pub first_added : (form : Form) (frames : ℕ) (x : Context) → add_context (empty_world (world_size form frames)) 0 x ≡ world_with form frames 0 x
unfolding world_with add_context change_counters empty_world
first_added form frames x = λ i. record {
  contexts = fm.insert fm.empty first_name x;
  groups = fm.empty;
  next = λ j. counted_once (eqb j 0) i;
  size = world_size form frames;
}

chosen : {A : Type 0} (b : Bool) (x y : A) → b ≡ true → cond b x y ≡ x
chosen b x y is = ap (λ c. cond c x y) is

pub get-first : (x : Context) (q : Name) → fm.get (fm.insert (fm.empty {R = name_cmp}) first_name x) q ≡ cond (eq_by_cmp name_cmp q first_name) (Some x) None
get-first x q = fm.get-insert orders.names fm.empty first_name x q ∙ ap (cond (eq_by_cmp name_cmp q first_name) (Some x)) (fm.get-empty name_cmp q)

insert-twice : (x y : Context) → fm.insert (fm.insert (fm.empty {R = name_cmp}) first_name x) first_name y ≡ fm.insert fm.empty first_name y
insert-twice x y = fm.same_map orders.names orders.one_name _ _ (λ q.
    fm.get-insert orders.names (fm.insert fm.empty first_name x) first_name y q
    ∙ ap (cond (eq_by_cmp name_cmp q first_name) (Some y)) (get-first x q)
    ∙ chosen_twice (eq_by_cmp name_cmp q first_name) (Some y) (Some x) None
    ∙ sym (get-first y q))

-- the one context
pub context-first : (form : Form) (frames tags : ℕ) (x : Context) → context (world_with form frames tags x) first_name ≡ x
unfolding context world_with
context-first form frames tags x = ap (λ o. unwrap_or o (new_context 0 (fresh_registers 0))) (get-first x first_name)

-- it is live
pub live-first : (form : Form) (frames tags : ℕ) (x : Context) → is_live (world_with form frames tags x) first_name ≡ true
unfolding world_with
live-first form frames tags x = ap is_some (get-first x first_name)

change-first : (form : Form) (frames tags : ℕ) (x : Context) (change : Context → Context) → change_context (world_with form frames tags x) first_name change ≡ world_with form frames tags (change x)
unfolding change_context world_with
change-first form frames tags x change =
    ap (changed_context (world_with form frames tags x) first_name change) (get-first x first_name)
    ∙ ap (λ m. record (world_with form frames tags x) { contexts = m }) (insert-twice x (change x))

-- another value under a key of its own
pub put_at-first : (form : Form) (frames tags : ℕ) (x : Context) (k : Key) (old value : ValueOf k) → x.cell k ≡ Own old → is_there k old ≡ true →
    put_at (world_with form frames tags x) first_name k value ≡ world_with form frames tags (with_cell k (Own value) x)
unfolding put_at
put_at-first form frames tags x k old value own there =
    ap (put_in (world_with form frames tags x) first_name k value) (ap (λ (y : Context). y.cell k) (context-first form frames tags x) ∙ own)
    ∙ ap (λ b. cond b (change_context (world_with form frames tags x) first_name (with_cell k (Own value))) (world_with form frames tags x)) there
    ∙ change-first form frames tags x (with_cell k (Own value))

-- pages that are mapped
pub map-first : (form : Form) (frames tags : ℕ) (x : Context) (from to : ℕ) → map_pages (world_with form frames tags x) first_name from to ≡ world_with form frames tags (with_zeros from to x)
unfolding map_pages
map-first form frames tags x from to = change-first form frames tags x (with_zeros from to)

-- the bytes of a whole page
abbrev pub page_piece : ℕ → List ℕ → Piece
page_piece p bytes = record { at = p * 4096; bytes = bytes }

touched_whole : (p : ℕ) → touched (p * 4096) 4096 ≡ p ∷ []
unfolding touched
touched_whole p =
    let from : p * 4096 / 4096 ≡ p = omega arith in
    let count : (p * 4096 + 4096 - 1) / 4096 + 1 - p * 4096 / 4096 ≡ 1 = omega arith in
    λ i. range_with_len (from i) (count i)

pub touched_page : (p count : ℕ) → count ≡ 4096 → touched (p * 4096) count ≡ p ∷ []
touched_page p count whole = subst (λ (n : ℕ). touched (p * 4096) n ≡ p ∷ []) (sym whole) (touched_whole p)

byte_there : (at k old : ℕ) (bytes : List ℕ) → k < length bytes → get_or bytes k 0 ≡ byte_after (record { at = at; bytes = bytes }) (at + k) old
byte_there at k old bytes within =
    let covered : (leb at (at + k) && ltb (at + k) (at + length bytes)) ≡ true = grind (arith, nat_tests) in
    let place : at + k - at ≡ k = omega arith in
    sym (chosen (leb at (at + k) && ltb (at + k) (at + length bytes)) (slice_index bytes (at + k - at)) old covered ∙ ap (λ n. get_or bytes n 0) place)

-- the bytes of a page once a whole page is stored there
pub bytes_whole : (p : ℕ) (bytes old : List ℕ) → length bytes ≡ 4096 → length old ≡ 4096 → bytes_after (page_piece p bytes) p old ≡ bytes
unfolding bytes_after
bytes_whole p bytes old whole old_whole =
    sym (fill_by_all (λ i. byte_after (page_piece p bytes) (p * 4096 + i) (slice_index old i)) bytes (length old) 0 (whole ∙ sym old_whole)
    (λ k h. byte_there (p * 4096) k (slice_index old k) bytes (omega arith)))

pub length-zero_page : length zero_page ≡ 4096
unfolding zero_page zero_bytes
length-zero_page = length-replicate {A = ℕ} PAGE_BYTES 0

counted_more : (b : Bool) (tags more : ℕ) → more ≡ 1 →
    cond b (record (cond b (counted 1 tags) (counted 0 0)) { tags = (cond b (counted 1 tags) (counted 0 0)).tags + more }) (cond b (counted 1 tags) (counted 0 0))
    ≡ cond b (counted 1 (tags + 1)) (counted 0 0)
counted_more true tags more one = ap (λ n. counted 1 (tags + n)) one
counted_more false tags more one = refl

one_more_tag : (form : Form) (frames tags : ℕ) (x : Context) (more : ℕ) → more ≡ 1 → change_counters (world_with form frames tags x) 0 (λ n. record n { tags = n.tags + more }) ≡ world_with form frames (tags + 1) x
unfolding world_with change_counters
one_more_tag form frames tags x more one = λ i. record (world_with form frames tags x) { next = λ j. counted_more (eqb j 0) tags more one i }

pub is_done : (absent read full : Bool) (after : World) → absent ≡ false → read ≡ false → full ≡ false →
    cond absent Absent (cond read ReadOnly (cond full Full (Done after))) ≡ Done after
is_done absent read full after present writable free = grind arith

-- a page of zeros of the one context, for which a frame is free, and the whole page that is stored over it
module _ (form : Form) (frames tags p : ℕ) (x : Context) (bytes : List ℕ) (whole : length bytes ≡ 4096) (zeros : x.cell (Page p) ≡ Own (Some Zero)) (right : x.right p ≡ Write)
    (free : used (world_with form frames tags x) < frames) where
  w : World
  w = world_with form frames tags x

  stored : Context
  stored = with_cell (Page p) (Own (Some (Data (record { job = 0; k = tags }) bytes))) x

  page-zeros : page_at w first_name p ≡ Some Zero
  unfolding value_at w
  page-zeros = ap (value_of w (Page p)) (ap (λ (y : Context). y.cell (Page p)) (context-first form frames tags x) ∙ zeros)

  value-zeros : page_value_at w first_name p ≡ Zero
  value-zeros = ap (λ o. unwrap_or o Zero) page-zeros

  parting-one : parting_count w first_name (page_piece p bytes) ≡ 1
  unfolding parting_count is_parting
  parting-one =
      ap (count_by (λ q. is_parting w (page_value_at w first_name q))) (touched_page p (length bytes) whole)
      ∙ ap (λ b. 0 + cond b 1 0) (ap (is_parting w) value-zeros)

  present-one : not (is_present w first_name (p * 4096) (length bytes)) ≡ false
  unfolding is_present
  present-one =
      ap (λ l. not (list_all (λ q. is_some (page_at w first_name q)) l)) (touched_page p (length bytes) whole)
      ∙ ap (λ o. not (is_some o && true)) page-zeros

  writable-one : not (is_writable w first_name (p * 4096) (length bytes)) ≡ false
  unfolding is_writable w
  writable-one =
      ap (λ l. not (list_all (λ q. may_write (right_at (world_with form frames tags x) first_name q)) l)) (touched_page p (length bytes) whole)
      ∙ ap (λ r. not (may_write r && true)) (ap (λ (y : Context). y.right p) (context-first form frames tags x) ∙ right)

  stored_pages-one : stored_pages w first_name 0 (page_piece p bytes) tags (p ∷ []) ≡ (p, Data (record { job = 0; k = tags }) bytes) ∷ []
  unfolding is_parting
  stored_pages-one =
      ap (λ v. (p, stored_value (is_parting w v) (record { job = 0; k = tags }) v (bytes_after (page_piece p bytes) p (bytes_of v))) ∷ []) value-zeros
      ∙ ap (λ l. (p, Data (record { job = 0; k = tags }) l) ∷ []) (bytes_whole p bytes zero_page whole length-zero_page)

  abbrev with_tags : World → World
  with_tags v = change_counters v 0 (λ n. record n { tags = n.tags + parting_count w first_name (page_piece p bytes) })

  after_store-one : after_store w first_name 0 (page_piece p bytes) ≡ world_with form frames (tags + 1) stored
  unfolding after_store world_with w stored
  after_store-one =
      ap (λ l. with_tags (put_pages (world_with form frames tags x) first_name (stored_pages (world_with form frames tags x) first_name 0 (page_piece p bytes) tags l))) (touched_page p (length bytes) whole)
      ∙ ap (λ l. with_tags (put_pages (world_with form frames tags x) first_name l)) stored_pages-one
      ∙ ap with_tags (put_at-first form frames tags x (Page p) (Some Zero) (Some (Data (record { job = 0; k = tags }) bytes)) zeros refl)
      ∙ one_more_tag form frames tags stored _ parting-one

  frame_free : ltb frames (used w + parting_count w first_name (page_piece p bytes)) ≡ false
  unfolding w
  frame_free = let parts = parting-one in grind (arith, nat_tests)

  -- the store is done
  pub store-first : store (world_with form frames tags x) first_name 0 (page_piece p bytes)
      ≡ Done (world_with form frames (tags + 1) (with_cell (Page p) (Own (Some (Data (record { job = 0; k = tags }) bytes))) x))
  unfolding store w stored world_with
  store-first = is_done _ _ _ _ present-one writable-one frame_free ∙ ap Done after_store-one

set_by_suc : (b : Bool) (n m : ℕ) → n ≤ m → cond b n (n + 1) ≤ suc m
set_by_suc true n m h = omega arith
set_by_suc false n m h = omega arith

no_entries : {X : Type 0} (es : List X) → length es ≡ 0 → es ≡ []
no_entries [] e = refl
no_entries (x ∷ es) e = absurd (omega (arith, e))

pub entries-none : {X : Type 0} → fm.entries (fm.empty {X = X} {R = name_cmp}) ≡ []
entries-none {X} = no_entries _ (sym (fm.len-entries fm.empty) ∙ fm.len-empty name_cmp X)

-- a set has no more items than the list that it was made of
pub len-from_list : (ts : List Tag) → set.len (set.from_list {R = tag_cmp} ts) ≤ length ts
len-from_list [] = subst (λ (n : ℕ). n ≤ 0) (sym (set.len-empty tag_cmp)) (omega arith)
len-from_list (t ∷ ts) =
    subst (λ (n : ℕ). n ≤ length (t ∷ ts)) (sym (set.len-insert orders.tags (set.from_list {R = tag_cmp} ts) t))
    (set_by_suc (set.contains (set.from_list {R = tag_cmp} ts) t) _ (length ts) (len-from_list ts))

pub entries-first : (x : Context) → fm.entries (fm.insert (fm.empty {R = name_cmp}) first_name x) ≡ (first_name, x) ∷ []
entries-first x = fm.entries-insert orders.names fm.empty first_name x ∙ ap (fm.put name_cmp first_name x) entries-none

-- the tags of the world are those of the context
tags-first : (form : Form) (frames counted : ℕ) (x : Context) → tags (world_with form frames counted x) ≡ (tags_of_context (pages_of form) x ++ []) ++ []
unfolding tags world_with
tags-first form frames counted x =
    ap (λ es. flat_map (λ (e : Name × Context). tags_of_context (pages_of form) e.1) es ++ flat_map (λ (e : Name × Group). tags_of_group (pages_of form) e.1) (fm.entries (fm.empty {X = Group} {R = name_cmp}))) (entries-first x)
    ∙ ap (λ es. (tags_of_context (pages_of form) x ++ []) ++ flat_map (λ (e : Name × Group). tags_of_group (pages_of form) e.1) es) entries-none

-- no more frames are used than the context's pages have tags
pub used-first : (form : Form) (frames counted : ℕ) (x : Context) → used (world_with form frames counted x) ≤ length (tags_of_context (pages_of form) x)
unfolding used
used-first form frames counted x =
    let few = len-from_list (tags (world_with form frames counted x)) in
    let same : length (tags (world_with form frames counted x)) ≡ length ((tags_of_context (pages_of form) x ++ []) ++ []) = ap length (tags-first form frames counted x) in
    omega (arith, few, same, length-append (tags_of_context (pages_of form) x ++ []) [], length-append (tags_of_context (pages_of form) x) [])
