-- Loads and stores: how they end, what is stored, and what is counted.
use Rattle.std.proofs.Common.{◌≡◌, ℕ, cond, eqb, ◌+◌, ◌-◌, ◌<◌, List, [], ◌∷◌, ◌++◌, refl, sym, ap, ◌∙◌, append_assoc, Bool, true, false, length, ◌≤◌}
use Rattle.std.proofs.lemmas.Bool.{eqb-true, lt-ltb, le-ltb}
use Rattle.std.specs.Prelude.{if◌then◌else◌, not, count_by, is_some, nat_lt}
use Rattle.std.specs.List.{range_with_len, list_all}
use Rattle.lwc_base.specs.Cells.{page_at}
use Rattle.lwc_base.specs.Frames.{is_parting, used}
use Rattle.lwc_base.specs.Memory.{touched, is_present}
use Rattle.lwc_base.specs.Rights.{is_writable, may_write, right_at}
use Rattle.lwc_base.specs.Store.{Piece, Stored, Absent, ReadOnly, Full, Done, bytes_after, stored_pages, put_pages, stored_value, page_value_at, parting_count, after_store, store}
use Rattle.lwc_base.specs.World.{World, change_counters}
use Rattle.lwc_types.specs.declared.limits.TheConstants.{MOST_PAGES}
use Rattle.lwc_types.specs.declared.counters.Counters.{Counters}
use Rattle.lwc_types.specs.declared.name.Name.{Name}
use Rattle.lwc_types.specs.declared.page.PageValue.{PageValue}
use Rattle.lwc_types.specs.Pages.{bytes_of}
use Rattle.whole_world.specs.States.{world_of}
use Rattle.whole_world.specs.Worlds.{seen}
use Rattle.whole_world.specs.declared.world.WholeWorld.{WholeWorld}
use Rattle.lwc_types.proofs.Small.{steps_left}

-- a world has few pages
pub few_pages-seen : (w : WholeWorld) → (seen w).size.pages ≤ MOST_PAGES
unfolding seen world_of
few_pages-seen w = w.sound.few_pages

-- and the frames of its size
pub frames-seen : (w : WholeWorld) → (seen w).size ≡ w.size
unfolding seen world_of
frames-seen w = refl

pub after_store-counted : (w put counted : World) (c : Name) (job : ℕ) (piece : Piece) (ps : List ℕ) (values : List (ℕ × PageValue)) (parting : ℕ) →
    ps ≡ touched piece.at (length piece.bytes) → values ≡ stored_pages w c job piece (w.next job).tags ps → put ≡ put_pages w c values →
    parting ≡ parting_count w c piece → counted ≡ change_counters put job (λ n. record n { tags = n.tags + parting }) → counted ≡ after_store w c job piece
unfolding after_store
after_store-counted w put counted c job piece ps values parting touches plans puts parts counts =
    counts
    ∙ (λ i. change_counters ((puts ∙ ap (put_pages w c) (plans ∙ ap (stored_pages w c job piece (w.next job).tags) touches)) i) job (λ n. record n { tags = n.tags + parts i }))

-- the stored pages go on behind those that are listed already
pub plan_more : (w : World) (c : Name) (job : ℕ) (piece : Piece) (k next p end : ℕ) (front : List (ℕ × PageValue)) (parting : Bool) (value old : PageValue) →
    p < end → parting ≡ is_parting w (page_value_at w c p) → old ≡ page_value_at w c p → next ≡ (if parting then k + 1 else k) →
    value ≡ stored_value parting (record { job = job; k = k }) old (bytes_after piece p (bytes_of old)) →
    (front ++ (p, value) ∷ []) ++ stored_pages w c job piece next (range_with_len (p + 1) (end - (p + 1))) ≡ front ++ stored_pages w c job piece k (range_with_len p (end - p))
plan_more w c job piece k next p end front parting value old within parts stands counts is =
    let ps : List ℕ = range_with_len (p + 1) (end - (p + 1)) in
    let next_is : next ≡ (if is_parting w (page_value_at w c p) then k + 1 else k) = counts ∙ ap (λ (b : Bool). if b then k + 1 else k) parts in
    let value_is : value ≡ stored_value (is_parting w (page_value_at w c p)) (record { job = job; k = k }) (page_value_at w c p) (bytes_after piece p (bytes_of (page_value_at w c p))) =
    is ∙ (λ i. stored_value (parts i) (record { job = job; k = k }) (stands i) (bytes_after piece p (bytes_of (stands i)))) in
    append_assoc front ((p, value) ∷ []) _
    ∙ (λ i. front ++ ((p, value_is i) ∷ stored_pages w c job piece (next_is i) ps))
    ∙ ap (λ n. front ++ stored_pages w c job piece k (range_with_len p n)) (steps_left p end within)

module _ (w : World) (c : Name) (job : ℕ) (piece : Piece) where
  abbrev present : Bool
  present = is_present w c piece.at (length piece.bytes)

  abbrev writable : Bool
  writable = is_writable w c piece.at (length piece.bytes)

  abbrev short_of : Bool
  short_of = nat_lt w.size.frames (used w + parting_count w c piece)

  -- how a store ends, by what is tested of it
  abbrev answer : Bool → Bool → Bool → Stored
  answer there may short = if not there then Absent else (if not may then ReadOnly else (if short then Full else Done (after_store w c job piece)))

  -- a store where a touched page is absent
  pub store-absent : present ≡ false → store w c job piece ≡ Absent
  unfolding store
  store-absent absent = λ i. answer (absent i) writable short_of

  -- a store where a touched page has the right Read
  pub store-read_only : present ≡ true → writable ≡ false → store w c job piece ≡ ReadOnly
  unfolding store
  store-read_only there kept = λ i. answer (there i) (kept i) short_of

  -- a store that finds too few frames
  pub store-full : present ≡ true → writable ≡ true → w.size.frames < used w + parting_count w c piece → store w c job piece ≡ Full
  unfolding store
  store-full there may short = λ i. answer (there i) (may i) (lt-ltb w.size.frames (used w + parting_count w c piece) short i)

  -- a store that is done
  pub store-done : present ≡ true → writable ≡ true → used w + parting_count w c piece ≤ w.size.frames → store w c job piece ≡ Done (after_store w c job piece)
  unfolding store
  store-done there may room = λ i. answer (there i) (may i) (le-ltb w.size.frames (used w + parting_count w c piece) room i)

-- whether the touched pages are present, told of the list of them
pub is_present-touched : (w : World) (c : Name) (at count : ℕ) (ps : List ℕ) (b : Bool) → ps ≡ touched at count →
    b ≡ list_all (λ p. is_some (page_at w c p)) ps → is_present w c at count ≡ b
unfolding is_present
is_present-touched w c at count ps b touches is = sym (is ∙ ap (list_all (λ p. is_some (page_at w c p))) touches)

-- whether bytes may be stored to all of them, told of the list of them
pub is_writable-touched : (w : World) (c : Name) (at count : ℕ) (ps : List ℕ) (b : Bool) → ps ≡ touched at count →
    b ≡ list_all (λ p. may_write (right_at w c p)) ps → is_writable w c at count ≡ b
unfolding is_writable
is_writable-touched w c at count ps b touches is = sym (is ∙ ap (list_all (λ p. may_write (right_at w c p))) touches)

-- how many of the touched pages part, told of the list of them
pub parting_count-touched : (w : World) (c : Name) (piece : Piece) (ps : List ℕ) (n : ℕ) → ps ≡ touched piece.at (length piece.bytes) →
    n ≡ count_by (λ p. is_parting w (page_value_at w c p)) ps → n ≡ parting_count w c piece
unfolding parting_count
parting_count-touched w c piece ps n touches is = is ∙ ap (count_by (λ p. is_parting w (page_value_at w c p))) touches

choice_of_same : {A : Type 0} (change : A → A) (f : ℕ → A) (n : A) (job j : ℕ) (b : Bool) → eqb j job ≡ b → change (f job) ≡ n →
    cond b n (f j) ≡ cond b (change (f j)) (f j)
choice_of_same change f n job j true same is = sym (ap (λ k. change (f k)) (eqb-true j job same) ∙ is)
choice_of_same change f n job j false other is = refl

-- a number that is counted on is the changed one
pub count_on_as : (w : World) (job : ℕ) (change : Counters → Counters) (n : Counters) → change (w.next job) ≡ n → change_counters w job (λ _. n) ≡ change_counters w job change
unfolding change_counters
count_on_as w job change n is = λ i. record w { next = λ j. choice_of_same change w.next n job j (eqb j job) refl is i }
