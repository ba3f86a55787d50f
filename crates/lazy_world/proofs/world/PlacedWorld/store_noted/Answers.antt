use Rattle.std.proofs.Common.{◌≡◌, ◌≤◌, ◌<◌, ◌∙◌, ℕ, ◌+◌, ◌-◌, ◌&&◌, true, false, Some, Bool, List, [], ◌∷◌, cond, ⊎_elim, arith, ap, length, subst, sym}
use Rattle.std.specs.FinMap as fm
use Rattle.std.specs.List.{range_with_len}
use Rattle.std.proofs.lemmas.Bool.{cases_Bool}
use Rattle.lwc_base.specs.Memory.{touched}
use Rattle.lwc_base.specs.Store.{Done, Piece, store}
use Rattle.lwc_types.specs.declared.limits.TheConstants.{MOST_PAGES}
use Rattle.lwc_types.specs.declared.name.Name.{Name}
use Rattle.lwc_types.specs.declared.name.Tag.{Tag}
use Rattle.lazy_world.specs.declared.places.Places.{Places}
use Rattle.lazy_world.specs.declared.world.PlacedWorld.{PlacedWorld}
use Rattle.lazy_world.specs.States.{Parts, context_at, world_of}
use Rattle.lazy_world.specs.Worlds.{parts, seen}
use Rattle.std.specs.Prelude.{count_by, is_some}
use Rattle.std.specs.List.{list_all}
use Rattle.lwc_base.specs.Frames.{used}
use Rattle.lwc_base.specs.Memory.{is_present}
use Rattle.lwc_base.specs.Rights.{is_writable, may_write}
use Rattle.lwc_base.specs.World.{context}
use Rattle.lwc_types.specs.declared.right.Right.TheVariants.{Write}
use Rattle.lazy_world.proofs.StoreLemmas.{count-one, store-done, writable-touched}
use Rattle.lwc_base.specs.Cells.{page_at}
use Rattle.cow_space.specs.Cells.{IsOwnPage, place_of}
use Rattle.cow_space.specs.Tags as places
use Rattle.cow_space.specs.Writes.{written_value}
use Rattle.lazy_world.specs.Cells.{put_row}
use Rattle.lazy_world.specs.Memory.{holder}
use Rattle.lazy_world.specs.Seen.{count, frame_count, pages, rights, rows}
use Rattle.lazy_world.specs.Sound.{IsSound}
use Rattle.lazy_world.specs.Stores.{parts_at, store_pages}
use Rattle.lazy_world.proofs.SpotLemmas.{with_page}
use Rattle.lazy_world.proofs.UsedLemmas.{count-pages, row-page}
use Rattle.lazy_world.proofs.WrittenLemmas.{own-held, own-there, part-now, sound-in_place, used-now, world-in_place}
use Rattle.lazy_world.specs.Notes.{AreRight, IsRead, IsWrite}
use Rattle.lazy_world.specs.declared.notes.Note.{Note}
use Rattle.lazy_world.specs.declared.notes.Notes.{Notes}
use Rattle.lazy_world.proofs.WorldLemmas.{context-found}
use Rattle.lazy_world.proofs.world.PlacedWorld.store_noted.Goals as goal

few : (w : PlacedWorld) → (seen w).size.pages ≤ MOST_PAGES
unfolding seen parts world_of
few w = w.sound.sizes.size.pages.1

pub touched_pages-pages-requires : goal.touched_pages-pages-requires
touched_pages-pages-requires c = omega (arith, few c.args.self.now, c.requires.within)

-- the world once the page is written in place
module _ (w : PlacedWorld) (c : Name) (i p : ℕ) (found : fm.get (parts w).contexts.map c ≡ Some i) (inside : i < count w.places) (q : Places) (piece : Piece) (own : IsOwnPage (place_of (pages w.places) i p)) (alone : places.is_parting (pages w.places) i p ≡ false)
    (rows_are : (tag : Tag) → rows q ≡ put_row (rows w.places) i (with_page p (written_value (pages w.places) i p piece tag) (rows w.places i))) (rights_are : rights q ≡ rights w.places) where
  abbrev after : Parts
  after = record (parts w) { rows = rows q; rights = rights q }

  abbrev by : ℕ → Parts
  unfolding seen parts
  by job = record (parts w) { rows = put_row (rows w.places) i (with_page p (written_value (pages w.places) i p piece (record { job = job; k = ((seen w).next job).tags })) (rows w.places i)) }

  after_is : (job : ℕ) → after ≡ by job
  unfolding parts by
  after_is job = λ e. record (parts w) { rows = rows_are (record { job = job; k = ((seen w).next job).tags }) e; rights = rights_are e }

  held : holder (parts w) i p ≡ Some i
  unfolding parts
  held = own-held (parts w) w.sound w.placed w.placed_groups (pages w.places) (row-page w.places) (count-pages w.places ∙ w.count) c i found p own

  pub is_there : is_some (page_at (seen w) c p) ≡ true
  unfolding seen parts
  is_there = own-there (parts w) w.sound w.placed w.placed_groups (pages w.places) (row-page w.places) (count-pages w.places ∙ w.count) c i found p own

  pub sound : IsSound after
  unfolding seen parts
  sound =
      subst IsSound (sym (after_is 0))
      (sound-in_place (parts w) w.sound w.placed w.placed_groups (pages w.places) (row-page w.places) (count-pages w.places ∙ w.count) c i found p i held is_there 0 piece alone)

  pub stored : (job : ℕ) → world_of after ≡ store_pages (seen w) c job piece (p ∷ [])
  unfolding seen parts by
  stored job =
      ap world_of (after_is job)
      ∙ world-in_place (parts w) w.sound w.placed w.placed_groups (pages w.places) (row-page w.places) (count-pages w.places ∙ w.count) c i found p i held is_there job piece alone

  pub stays : parts_at (seen w) c p ≡ false
  unfolding seen parts
  stays = sym (part-now (parts w) w.sound w.placed w.placed_groups (pages w.places) (row-page w.places) (count-pages w.places ∙ w.count) c i found p i held is_there 0) ∙ alone

  module _ (one : p ∷ [] ≡ touched piece.at (length piece.bytes)) (may : rights w.places i p ≡ Write) (enough : places.used (pages w.places) ≤ frame_count w.places) (cells : context (seen w) c ≡ context_at (parts w) i) where
    present : is_present (seen w) c piece.at (length piece.bytes) ≡ true
    unfolding is_present
    present = (λ e. list_all (λ q. is_some (page_at (seen w) c q)) (sym one e)) ∙ (λ e. is_there e && true)

    writable : is_writable (seen w) c piece.at (length piece.bytes) ≡ true
    unfolding parts
    writable = writable-touched (seen w) c (context_at (parts w) i) piece.at (length piece.bytes) (p ∷ []) true cells one (sym (λ e. may_write (may e) && true))

    room : used (seen w) + count_by (parts_at (seen w) c) (p ∷ []) ≤ (seen w).size.frames
    unfolding seen parts world_of
    room =
        let none = ap {B = ℕ} (λ (b : Bool). cond b 1 0) stays in
        let now = used-now (parts w) w.sound w.placed w.placed_groups (pages w.places) (row-page w.places) (count-pages w.places ∙ w.count) c i found p in
        omega (arith, none, now, enough, w.frames, count-one (parts_at (seen w) c) p [])

    pub done : (job : ℕ) → store (seen w) c job piece ≡ Done (world_of after)
    done job = store-done (seen w) c job piece present writable (p ∷ []) one room ∙ ap Done (sym (stored job))

-- one page is touched
one-page : (first end : ℕ) (ps : List ℕ) → range_with_len first (end - first) ≡ ps → end - first ≡ 1 → first ∷ [] ≡ ps
one-page first end ps is one = sym (ap (range_with_len first) one) ∙ is

-- the note is of this context
at_place : (w : PlacedWorld) (c : Name) (note : Note) → IsWrite w note → note.context ≡ c → fm.get (parts w).contexts.map c ≡ Some note.place
unfolding parts
at_place w c note is same = ap (fm.get w.contexts.map) (sym same) ∙ is.there

pub invariant_of-self : goal.invariant_of-self
unfolding parts
invariant_of-self c =
    let w = c.args.self.now in
    let note = c.args.note.now in
    record {
      placed = w.placed;
      placed_groups = w.placed_groups;
      count = c.write_at.ensures.count ∙ w.count;
      frames = c.write_at.ensures.frames ∙ w.frames;
      sound = sound w c.args.context note.place note.page (at_place w c.args.context note c.requires.note c.requires.context) c.requires.note.has.has.inside c.write_at.new.self (record { at = c.args.at; bytes = c.args.piece.now })
          c.write_at.ensures.own c.write_at.ensures.alone c.write_at.ensures.rows c.write_at.ensures.rights;
    }

pub returns-clause-done : goal.returns-clause-done
unfolding seen parts
returns-clause-done c = λ _.
    let w = c.args.self.now in
    let note = c.args.note.now in
    let found = at_place w c.args.context note c.requires.note c.requires.context in
    done w c.args.context note.place note.page found c.requires.note.has.has.inside c.write_at.new.self (record { at = c.args.at; bytes = c.args.piece.now })
    c.write_at.ensures.own c.write_at.ensures.alone c.write_at.ensures.rows c.write_at.ensures.rights
    (let page : note.page ≡ c.touched_pages-pages.result.from = sym c.if-pages-note.false in (λ i. page i ∷ []) ∙ one-page c.touched_pages-pages.result.from c.touched_pages-pages.result.to _ c.touched_pages-pages.ensures.pages c.if-pages-ne1.false) c.write_at.ensures.may c.write_at.ensures.enough (context-found (parts w) c.args.context note.place found)

pub returns-clause-notes : goal.returns-clause-notes
returns-clause-notes c = λ notes right. record {
  read = λ k note at on. let is = right.read k note at on in record { there = is.there; has = c.write_at.ensures.has _ _ _ is.has };
  write = λ k note at on. let is = right.write k note at on in record { there = is.there; has = c.write_at.ensures.lone _ _ _ is.has };
}
