use Rattle.std.proofs.Common.{◌≡◌, ◌-◌, ◌≤◌, ◌∙◌, ap, arith, refl, sym}
use Rattle.std.specs.List.{range_with_len}
use Rattle.lwc_base.specs.Store.{Absent, Done, Full, ReadOnly, store}
use Rattle.lwc_types.specs.declared.limits.TheConstants.{MOST_PAGES}
use Rattle.lazy_world.specs.declared.world.PlacedWorld.{PlacedWorld}
use Rattle.lazy_world.specs.States.{context_at, world_of}
use Rattle.lazy_world.specs.Worlds.{parts, seen}
use Rattle.lazy_world.proofs.MemoryLemmas.{present-touched}
use Rattle.lazy_world.proofs.StoreLemmas.{all-in, parting-in, store-absent, store-done, store-full, store-read_only, writable-touched}
use Rattle.lazy_world.proofs.world.PlacedWorld.store.Goals as goal

few : (w : PlacedWorld) → (seen w).size.pages ≤ MOST_PAGES
unfolding seen parts world_of
few w = w.sound.sizes.size.pages.1

pub touched_pages-pages-requires : goal.touched_pages-pages-requires
touched_pages-pages-requires c = omega (arith, few c.args.self.now, c.requires.within)

is_absent : (c : goal.Then-not-are_present) → store (seen c.args.self.now) c.args.context c.args.job (record { at = c.args.at; bytes = c.args.piece.now }) ≡ Absent
unfolding parts
is_absent c =
    store-absent _ _ _ _ (present-touched _ _ _ _ _ _ _ c.place-i.ensures.context c.touched_pages-pages.ensures.pages c.are_present.ensures ∙ c.if-not-are_present.true)

pub returns-then-not-are_present-clause-bad_address : goal.returns-then-not-are_present-clause-bad_address
returns-then-not-are_present-clause-bad_address c = (λ _. is_absent c, λ _. refl)

pub returns-then-not-are_present-clause-no_frame : goal.returns-then-not-are_present-clause-no_frame
returns-then-not-are_present-clause-no_frame c = (λ same. cc, λ full. let absent = is_absent c in cc)

pub returns-then-not-are_present-clause-read_only : goal.returns-then-not-are_present-clause-read_only
returns-then-not-are_present-clause-read_only c = (λ same. cc, λ read. let absent = is_absent c in cc)

is_read : (c : goal.Then-not-are_writable) → store (seen c.args.self.now) c.args.context c.args.job (record { at = c.args.at; bytes = c.args.piece.now }) ≡ ReadOnly
unfolding parts
is_read c =
    let there = present-touched _ _ _ _ _ _ _ c.place-i.ensures.context c.touched_pages-pages.ensures.pages c.are_present.ensures ∙ c.if-not-are_present.false in
    store-read_only _ _ _ _ there (writable-touched _ _ (context_at (parts c.args.self.now) c.place-i.result) _ _ _ _ c.place-i.ensures.context c.touched_pages-pages.ensures.pages c.are_writable.ensures ∙ c.if-not-are_writable.true)

pub returns-then-not-are_writable-clause-bad_address : goal.returns-then-not-are_writable-clause-bad_address
returns-then-not-are_writable-clause-bad_address c = (λ same. cc, λ absent. let read = is_read c in cc)

pub returns-then-not-are_writable-clause-read_only : goal.returns-then-not-are_writable-clause-read_only
returns-then-not-are_writable-clause-read_only c = (λ _. is_read c, λ _. refl)

pub returns-then-not-are_writable-clause-no_frame : goal.returns-then-not-are_writable-clause-no_frame
returns-then-not-are_writable-clause-no_frame c = (λ same. cc, λ full. let read = is_read c in cc)

is_full : (c : goal.Then-lacks_frames) → store (seen c.args.self.now) c.args.context c.args.job (record { at = c.args.at; bytes = c.args.piece.now }) ≡ Full
unfolding parts
is_full c =
    let w = seen c.args.self.now in
    let there = present-touched _ _ _ _ _ _ _ c.place-i.ensures.context c.touched_pages-pages.ensures.pages c.are_present.ensures ∙ c.if-not-are_present.false in
    let many = parting-in w c.args.context (context_at (parts c.args.self.now) c.place-i.result) (range_with_len c.touched_pages-pages.result.from (c.touched_pages-pages.result.to - c.touched_pages-pages.result.from)) c.place-i.ensures.context in
    let may = writable-touched w c.args.context (context_at (parts c.args.self.now) c.place-i.result) _ _ _ _ c.place-i.ensures.context c.touched_pages-pages.ensures.pages c.are_writable.ensures ∙ c.if-not-are_writable.false in
    store-full w c.args.context c.args.job (record { at = c.args.at; bytes = c.args.piece.now }) there may (range_with_len c.touched_pages-pages.result.from (c.touched_pages-pages.result.to - c.touched_pages-pages.result.from)) c.touched_pages-pages.ensures.pages (let lacks = c.lacks_frames.ensures.lacking c.if-lacks_frames.true in omega (arith, many, lacks))

pub returns-then-lacks_frames-clause-bad_address : goal.returns-then-lacks_frames-clause-bad_address
returns-then-lacks_frames-clause-bad_address c = (λ same. cc, λ absent. let full = is_full c in cc)

pub returns-then-lacks_frames-clause-read_only : goal.returns-then-lacks_frames-clause-read_only
returns-then-lacks_frames-clause-read_only c = (λ same. cc, λ read. let full = is_full c in cc)

pub returns-then-lacks_frames-clause-no_frame : goal.returns-then-lacks_frames-clause-no_frame
returns-then-lacks_frames-clause-no_frame c = (λ _. is_full c, λ _. refl)

pub write_pages-requires-clause-there : goal.write_pages-requires-clause-there
unfolding parts
write_pages-requires-clause-there c = all-in (seen c.args.self.now) c.args.context (context_at (parts c.args.self.now) c.place-i.result) (range_with_len c.touched_pages-pages.result.from (c.touched_pages-pages.result.to - c.touched_pages-pages.result.from)) c.place-i.ensures.context c.are_present.result c.are_present.ensures ∙ c.if-not-are_present.false

pub write_pages-requires-clause-enough : goal.write_pages-requires-clause-enough
unfolding parts
write_pages-requires-clause-enough c =
    let many = parting-in (seen c.args.self.now) c.args.context (context_at (parts c.args.self.now) c.place-i.result) (range_with_len c.touched_pages-pages.result.from (c.touched_pages-pages.result.to - c.touched_pages-pages.result.from)) c.place-i.ensures.context in
    let enough = c.lacks_frames.ensures.enough c.if-lacks_frames.false in omega (arith, many, enough)

pub returns-clause-done : goal.returns-clause-done
unfolding parts
returns-clause-done c =
    let w = seen c.args.self.now in
    let there = present-touched _ _ _ _ _ _ _ c.place-i.ensures.context c.touched_pages-pages.ensures.pages c.are_present.ensures ∙ c.if-not-are_present.false in
    let many = parting-in w c.args.context (context_at (parts c.args.self.now) c.place-i.result) (range_with_len c.touched_pages-pages.result.from (c.touched_pages-pages.result.to - c.touched_pages-pages.result.from)) c.place-i.ensures.context in
    let may = writable-touched w c.args.context (context_at (parts c.args.self.now) c.place-i.result) _ _ _ _ c.place-i.ensures.context c.touched_pages-pages.ensures.pages c.are_writable.ensures ∙ c.if-not-are_writable.false in
    store-done w c.args.context c.args.job (record { at = c.args.at; bytes = c.args.piece.now }) there may (range_with_len c.touched_pages-pages.result.from (c.touched_pages-pages.result.to - c.touched_pages-pages.result.from)) c.touched_pages-pages.ensures.pages (let enough = c.lacks_frames.ensures.enough c.if-lacks_frames.false in omega (arith, many, enough))
    ∙ ap Done (sym c.write_pages.ensures)

pub returns-clause-bad_address : goal.returns-clause-bad_address
returns-clause-bad_address c = (λ same. cc, λ absent. let done = returns-clause-done c in cc)

pub returns-clause-read_only : goal.returns-clause-read_only
returns-clause-read_only c = (λ same. cc, λ read. let done = returns-clause-done c in cc)

pub returns-clause-no_frame : goal.returns-clause-no_frame
returns-clause-no_frame c = (λ same. cc, λ full. let done = returns-clause-done c in cc)
