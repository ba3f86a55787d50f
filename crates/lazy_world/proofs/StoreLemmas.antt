-- The store of a piece, page by page, in the world that is seen.
use Rattle.std.proofs.Common.{◌≡◌, ℕ, suc, ◌+◌, ◌<◌, ◌≤◌, List, [], ◌∷◌, arith, length, refl, sym, ap, ◌∙◌, Bool, true, false, cond, eqb, Option, Some, None, get_or}
use Rattle.std.specs.Prelude.{if◌then◌else◌, not, count_by, is_some, nat_lt, unwrap_or}
use Rattle.std.specs.List.{list_all}
use Rattle.std.specs.FinMap as fm
use Rattle.std.proofs.lemmas.Bool.{eq-eqb, false≢true, lt-ltb, le-ltb}
use Rattle.std.proofs.lemmas.List.Sums.{sum_by-cons}
use Rattle.lwc_base.specs.declared.cell.Cell.{Cell}
use Rattle.lwc_base.specs.declared.cell.Cell.TheVariants.{Own, Common}
use Rattle.lwc_base.specs.Cells.{page_at, put_at, put_in, put_page, value_at}
use Rattle.lwc_base.specs.Frames.{is_parting, used}
use Rattle.lwc_base.specs.Memory.{is_present, touched}
use Rattle.lwc_base.specs.Rights.{is_writable, may_write}
use Rattle.lwc_base.specs.Store.{Piece, Stored, Absent, ReadOnly, Full, Done, after_store, bytes_after, page_value_at, parting_count, stored_pages, put_pages, store, stored_value}
use Rattle.lwc_base.specs.World.{World, Context, Group, change_context, change_counters, change_group, changed_context, changed_group, context, group}
use Rattle.lwc_types.specs.declared.key.Key.TheVariants.{Page}
use Rattle.lwc_types.specs.declared.counters.Counters.{Counters}
use Rattle.lwc_types.specs.declared.name.Name.{Name}
use Rattle.lwc_types.specs.declared.page.PageValue.{PageValue}
use Rattle.lwc_types.specs.declared.page.PageValue.TheVariants.{Zero}
use Rattle.lwc_types.specs.Pages.{bytes_of}
use Rattle.lazy_world.specs.Memory.{page_in}
use Rattle.lazy_world.specs.Stores.{parts_at, store_pages, taken_at, value_after}
use Rattle.lazy_world.proofs.MemoryLemmas.{page-in}
use Rattle.lwc_base.proofs.Facts.{changes}

-- the number of one page
pub count-one : (f : ℕ → Bool) (p : ℕ) (ps : List ℕ) → count_by f (p ∷ ps) ≡ cond (f p) 1 0 + count_by f ps
count-one f p ps = sum_by-cons (λ x. cond (f x) 1 0) p ps

-- what is put does not depend on what is counted

module _ (w : World) (job : ℕ) (f : Counters → Counters) where
  abbrev counted : World
  counted = change_counters w job f

  counted-changed : (c : Name) (change : Context → Context) → change_context counted c change ≡ change_counters (change_context w c change) job f
  unfolding change_counters change_context
  counted-changed c change = at (fm.get w.contexts c)
    where
      at : (o : Option Context) → changed_context counted c change o ≡ change_counters (changed_context w c change o) job f
      at None = refl
      at (Some x) = refl

  counted-group : (g : Name) (change : Group → Group) → change_group counted g change ≡ change_counters (change_group w g change) job f
  unfolding change_counters change_group
  counted-group g change = at (fm.get w.groups g)
    where
      at : (o : Option Group) → changed_group counted g change o ≡ change_counters (changed_group w g change o) job f
      at None = refl
      at (Some x) = refl

  counted-context : (c : Name) → context counted c ≡ context w c
  unfolding change_counters context
  counted-context c = refl

  pub counted-value : (c : Name) (p : ℕ) → page_at counted c p ≡ page_at w c p
  unfolding change_counters context group value_at
  counted-value c p = refl

  pub counted-put : (c : Name) (p : ℕ) (v : PageValue) → put_page counted c p v ≡ change_counters (put_page w c p v) job f
  unfolding put_at
  counted-put c p v =
      ap (λ (x : Context). put_in counted c (Page p) (Some v) (x.cell (Page p))) (counted-context c) ∙ at ((context w c).cell (Page p))
    where
      old-value : (o : Option PageValue) → put_in counted c (Page p) (Some v) (Own o) ≡ change_counters (put_in w c (Page p) (Some v) (Own o)) job f
      old-value None = refl
      old-value (Some o) = counted-changed c _

      at : (cell : Cell (Option PageValue)) → put_in counted c (Page p) (Some v) cell ≡ change_counters (put_in w c (Page p) (Some v) cell) job f
      at (Own o) = old-value o
      at (Common g) = counted-group g _

pub counted-puts : (w : World) (job : ℕ) (f : Counters → Counters) (c : Name) (vs : List (ℕ × PageValue)) → put_pages (change_counters w job f) c vs ≡ change_counters (put_pages w c vs) job f
counted-puts w job f c [] = refl
counted-puts w job f c (v ∷ vs) = ap (λ x. put_pages x c vs) (counted-put w job f c v.0 v.1) ∙ counted-puts (put_page w c v.0 v.1) job f c vs

counted-twice : (w : World) (job m n : ℕ) → change_counters (change_counters w job (λ x. record x { tags = x.tags + m })) job (λ x. record x { tags = x.tags + n })
    ≡ change_counters w job (λ x. record x { tags = x.tags + (m + n) })
unfolding change_counters
counted-twice w job m n = λ e. record w { next = λ j. at (eqb j job) (w.next j) e }
  where
    sum : (t : ℕ) → (t + m) + n ≡ t + (m + n)
    sum t = omega arith

    at : (b : Bool) (x : Counters) → cond b (record (cond b (record x { tags = x.tags + m }) x) { tags = (cond b (record x { tags = x.tags + m }) x).tags + n }) (cond b (record x { tags = x.tags + m }) x)
        ≡ cond b (record x { tags = x.tags + (m + n) }) x
    at true x = ap (λ (t : ℕ). record x { tags = t }) (sum x.tags)
    at false x = refl

pub counted-none : (w : World) (job : ℕ) → change_counters w job (λ x. record x { tags = x.tags + 0 }) ≡ w
unfolding change_counters
counted-none w job = λ e. record w { next = λ j. at (eqb j job) (w.next j) e }
  where
    sum : (t : ℕ) → t + 0 ≡ t
    sum t = omega arith

    at : (b : Bool) (x : Counters) → cond b (record x { tags = x.tags + 0 }) x ≡ x
    at true x = ap (λ (t : ℕ). record x { tags = t }) (sum x.tags)
    at false x = refl

-- no page is stored to
pub store-none : (w : World) (c : Name) (job : ℕ) (piece : Piece) → store_pages w c job piece [] ≡ w
unfolding store_pages
store-none w c job piece = counted-none w job

-- one page is stored to
pub store-one : (w : World) (c : Name) (job : ℕ) (piece : Piece) (p : ℕ) → store_pages w c job piece (p ∷ []) ≡ change_counters (put_page w c p (value_after w c job piece p)) job (λ n. record n { tags = n.tags + taken_at w c p })
unfolding store_pages
store-one w c job piece p =
    let one : count_by (parts_at w c) (p ∷ []) ≡ taken_at w c p = omega (arith, count-one (parts_at w c) p []) in
    ap (λ (m : ℕ). change_counters (put_page w c p (value_after w c job piece p)) job (λ n. record n { tags = n.tags + m })) one

pub next-tags : (w : World) (c : Name) (job : ℕ) (f : Counters → Counters) → ((change_counters w job f).next job) ≡ f (w.next job)
unfolding change_counters
next-tags w c job f = at (eqb job job) refl
  where
    at : (b : Bool) → eqb job job ≡ b → cond b (f (w.next job)) (w.next job) ≡ f (w.next job)
    at true is = refl
    at false is = let same : eqb job job ≡ true = eq-eqb job job refl in absurd (false≢true (sym is ∙ same))

module _ (w v : World) (c : Name) (job : ℕ) (piece : Piece) where
  -- the stored pages whose values are as before and that part as before
  same-stored_pages : (k : ℕ) (ps : List ℕ) → ((j : ℕ) (d : ℕ) → j < length ps → page_value_at v c (get_or ps j d) ≡ page_value_at w c (get_or ps j d)) →
      ((j : ℕ) (d : ℕ) → j < length ps → parts_at v c (get_or ps j d) ≡ parts_at w c (get_or ps j d)) → stored_pages v c job piece k ps ≡ stored_pages w c job piece k ps
  same-stored_pages k [] values parts = refl
  same-stored_pages k (p ∷ ps) values parts =
      let value = values 0 p (omega arith) in
      let part = parts 0 p (omega arith) in
      (λ e. (p, stored_value (part e) (record { job = job; k = k }) (value e) (bytes_after piece p (bytes_of (value e)))) ∷ stored_pages v c job piece (if part e then k + 1 else k) ps)
      ∙ ap (λ l. (p, stored_value (parts_at w c p) (record { job = job; k = k }) (page_value_at w c p) (bytes_after piece p (bytes_of (page_value_at w c p)))) ∷ l)
      (same-stored_pages (if parts_at w c p then k + 1 else k) ps (λ j d lt. values (suc j) d (omega (arith, lt))) (λ j d lt. parts (suc j) d (omega (arith, lt))))

  same-count : (ps : List ℕ) → ((j : ℕ) (d : ℕ) → j < length ps → parts_at v c (get_or ps j d) ≡ parts_at w c (get_or ps j d)) → count_by (parts_at v c) ps ≡ count_by (parts_at w c) ps
  same-count [] parts = refl
  same-count (p ∷ ps) parts =
      let part = ap {B = ℕ} (λ (b : Bool). cond b 1 0) (parts 0 p (omega arith)) in
      let rest = same-count ps (λ j d lt. parts (suc j) d (omega (arith, lt))) in
      omega (arith, part, rest, count-one (parts_at v c) p ps, count-one (parts_at w c) p ps)

next-k : (b : Bool) (k : ℕ) → k + cond b 1 0 ≡ cond b (k + 1) k
next-k true k = refl
next-k false k = omega arith

-- a page is stored to, and then those that follow
pub store-more : (w v : World) (c : Name) (job : ℕ) (piece : Piece) (p : ℕ) (ps : List ℕ) → v ≡ store_pages w c job piece (p ∷ []) →
    ((j : ℕ) (d : ℕ) → j < length ps → page_value_at v c (get_or ps j d) ≡ page_value_at w c (get_or ps j d)) → ((j : ℕ) (d : ℕ) → j < length ps → parts_at v c (get_or ps j d) ≡ parts_at w c (get_or ps j d)) →
    store_pages v c job piece ps ≡ store_pages w c job piece (p ∷ ps)
unfolding store_pages
store-more w v c job piece p ps is values parts =
    let f : Counters → Counters = λ n. record n { tags = n.tags + taken_at w c p } in
    let one : v ≡ change_counters (put_page w c p (value_after w c job piece p)) job f = is ∙ store-one w c job piece p in
    let tags : (v.next job).tags ≡ (w.next job).tags + taken_at w c p =
    ap (λ (x : World). (x.next job).tags) one ∙ ap (λ (n : Counters). n.tags) (next-tags (put_page w c p (value_after w c job piece p)) c job f)
    ∙ ap (λ (next : ℕ → Counters). (next job).tags + taken_at w c p) (changes.put w c (Page p) (Some (value_after w c job piece p))).next in
    let k : (v.next job).tags ≡ cond (parts_at w c p) ((w.next job).tags + 1) (w.next job).tags = tags ∙ next-k (parts_at w c p) (w.next job).tags in
    let vs : List (ℕ × PageValue) = stored_pages w c job piece (cond (parts_at w c p) ((w.next job).tags + 1) (w.next job).tags) ps in
    let same_pages : stored_pages v c job piece (v.next job).tags ps ≡ vs = same-stored_pages w v c job piece (v.next job).tags ps values parts ∙ ap (λ n. stored_pages w c job piece n ps) k in
    (λ e. change_counters (put_pages (one e) c (same_pages e)) job (λ n. record n { tags = n.tags + same-count w v c job piece ps parts e }))
    ∙ ap (λ (x : World). change_counters x job (λ n. record n { tags = n.tags + count_by (parts_at w c) ps })) (counted-puts (put_page w c p (value_after w c job piece p)) job f c vs)
    ∙ counted-twice (put_pages (put_page w c p (value_after w c job piece p)) c vs) job (taken_at w c p) (count_by (parts_at w c) ps)
    ∙ ap (λ (m : ℕ). change_counters (put_pages (put_page w c p (value_after w c job piece p)) c vs) job (λ n. record n { tags = n.tags + m })) (sym (count-one (parts_at w c) p ps))

-- how a store ends

abbrev ended : Bool → Bool → Bool → Stored → Stored
ended present writable full done = if not present then Absent else (if not writable then ReadOnly else (if full then Full else done))

ends_absent : (present writable full : Bool) (done : Stored) → present ≡ false → ended present writable full done ≡ Absent
ends_absent present writable full done absent = ap (λ b. ended b writable full done) absent

ends_read : (present writable full : Bool) (done : Stored) → present ≡ true → writable ≡ false → ended present writable full done ≡ ReadOnly
ends_read present writable full done there read = λ e. ended (there e) (read e) full done

ends_full : (present writable full : Bool) (done : Stored) → present ≡ true → writable ≡ true → full ≡ true → ended present writable full done ≡ Full
ends_full present writable full done there may short = λ e. ended (there e) (may e) (short e) done

ends_done : (present writable full : Bool) (done : Stored) → present ≡ true → writable ≡ true → full ≡ false → ended present writable full done ≡ done
ends_done present writable full done there may room = λ e. ended (there e) (may e) (room e) done

module _ (w : World) (c : Name) (job : ℕ) (piece : Piece) where
  -- a touched page is absent
  pub store-absent : is_present w c piece.at (length piece.bytes) ≡ false → store w c job piece ≡ Absent
  unfolding store
  store-absent absent =
      ends_absent (is_present w c piece.at (length piece.bytes)) (is_writable w c piece.at (length piece.bytes)) (nat_lt w.size.frames (used w + parting_count w c piece)) (Done (after_store w c job piece)) absent

  -- a touched page may only be read
  pub store-read_only : is_present w c piece.at (length piece.bytes) ≡ true → is_writable w c piece.at (length piece.bytes) ≡ false → store w c job piece ≡ ReadOnly
  unfolding store
  store-read_only there read =
      ends_read (is_present w c piece.at (length piece.bytes)) (is_writable w c piece.at (length piece.bytes)) (nat_lt w.size.frames (used w + parting_count w c piece)) (Done (after_store w c job piece)) there read

  module _ (there : is_present w c piece.at (length piece.bytes) ≡ true) (may : is_writable w c piece.at (length piece.bytes) ≡ true) (ps : List ℕ) (touches : ps ≡ touched piece.at (length piece.bytes)) where
    parting-touched : parting_count w c piece ≡ count_by (parts_at w c) ps
    unfolding parting_count
    parting-touched = ap (count_by (parts_at w c)) (sym touches)

    -- there are too few frames
    pub store-full : w.size.frames < used w + count_by (parts_at w c) ps → store w c job piece ≡ Full
    unfolding store
    store-full short =
        ends_full (is_present w c piece.at (length piece.bytes)) (is_writable w c piece.at (length piece.bytes)) (nat_lt w.size.frames (used w + parting_count w c piece)) (Done (after_store w c job piece)) there may
        (lt-ltb w.size.frames (used w + parting_count w c piece) (omega (arith, short, parting-touched)))

    -- it is done
    pub store-done : used w + count_by (parts_at w c) ps ≤ w.size.frames → store w c job piece ≡ Done (store_pages w c job piece ps)
    unfolding store after_store store_pages
    store-done room =
        ends_done (is_present w c piece.at (length piece.bytes)) (is_writable w c piece.at (length piece.bytes)) (nat_lt w.size.frames (used w + parting_count w c piece)) (Done (after_store w c job piece)) there may
        (le-ltb w.size.frames (used w + parting_count w c piece) (omega (arith, room, parting-touched)))
        ∙ ap Done
        (λ e. change_counters (put_pages w c (stored_pages w c job piece (w.next job).tags (sym touches e))) job (λ n. record n { tags = n.tags + parting-touched e }))

-- whether touched pages may be stored to, by the rights of the context
pub writable-touched : (w : World) (c : Name) (x : Context) (at count : ℕ) (ps : List ℕ) (answer : Bool) → context w c ≡ x → ps ≡ touched at count → answer ≡ list_all (λ p. may_write (x.right p)) ps →
    is_writable w c at count ≡ answer
unfolding is_writable
writable-touched w c x at count ps answer is touches told = (λ e. list_all (λ p. may_write ((is e).right p)) (sym touches e)) ∙ sym told

-- what is counted, and what is there, by the cells of the context
module _ (w : World) (c : Name) (x : Context) (ps : List ℕ) (cells : context w c ≡ x) where
  pub parting-in : count_by (λ p. is_parting w (unwrap_or (page_in w x.cell p) Zero)) ps ≡ count_by (parts_at w c) ps
  parting-in = λ e. count_by (λ p. is_parting w (unwrap_or (page-in w c x p cells e) Zero)) ps

  pub all-in : (b : Bool) → b ≡ list_all (λ p. is_some (page_in w x.cell p)) ps → list_all (λ p. is_some (page_at w c p)) ps ≡ b
  all-in b is = sym (is ∙ (λ e. list_all (λ p. is_some (page-in w c x p cells e)) ps))
