use Rattle.std.proofs.Common.{◌≡◌, ℕ, ◌∙◌, ap, sym, refl, arith}
use Rattle.lwc_base.specs.Store.{store, parting_count, Absent, ReadOnly, Full, Done, after_store}
use Rattle.lwc_base.specs.World.{World}
use Rattle.lwc_types.specs.declared.counters.Counters.{Counters}
use Rattle.lwc_types.specs.declared.size.WorldSize.{WorldSize}
use Rattle.whole_world.specs.Worlds.{seen}
use Rattle.whole_world.proofs.Stores.{after_store-counted, few_pages-seen, frames-seen, store-absent, store-full, store-done, store-read_only, is_present-touched, is_writable-touched, parting_count-touched}
use Rattle.lwc_base.proofs.Facts.{changes}
use Rattle.whole_world.proofs.world.WholeWorldWorld.store.Goals as goal

pub touched_pages-pages-requires : goal.touched_pages-pages-requires
touched_pages-pages-requires c = omega (arith, few_pages-seen c.args.self.now, c.requires.within)

is_absent : (c : goal.Then-not-are_present) → store (seen c.args.self.now) c.args.context c.args.job (record { at = c.args.at; bytes = c.args.piece.now }) ≡ Absent
is_absent c = store-absent _ _ _ _ (is_present-touched _ _ _ _ _ _ c.touched_pages-pages.ensures.pages c.are_present.ensures ∙ c.if-not-are_present.true)

pub returns-then-not-are_present-clause-bad_address : goal.returns-then-not-are_present-clause-bad_address
returns-then-not-are_present-clause-bad_address c = (λ _. is_absent c, λ _. refl)

pub returns-then-not-are_present-clause-no_frame : goal.returns-then-not-are_present-clause-no_frame
returns-then-not-are_present-clause-no_frame c = (λ same. cc, λ full. let absent = is_absent c in cc)

pub returns-then-not-are_present-clause-read_only : goal.returns-then-not-are_present-clause-read_only
returns-then-not-are_present-clause-read_only c = (λ same. cc, λ read_only. let absent = is_absent c in cc)

is_read_only : (c : goal.Then-not-are_writable) → store (seen c.args.self.now) c.args.context c.args.job (record { at = c.args.at; bytes = c.args.piece.now }) ≡ ReadOnly
is_read_only c =
    let there = is_present-touched _ _ _ _ _ _ c.touched_pages-pages.ensures.pages c.are_present.ensures ∙ c.if-not-are_present.false in
    store-read_only _ _ _ _ there (is_writable-touched _ _ _ _ _ _ c.touched_pages-pages.ensures.pages c.are_writable.ensures ∙ c.if-not-are_writable.true)

pub returns-then-not-are_writable-clause-bad_address : goal.returns-then-not-are_writable-clause-bad_address
returns-then-not-are_writable-clause-bad_address c = (λ same. cc, λ absent. let read_only = is_read_only c in cc)

pub returns-then-not-are_writable-clause-read_only : goal.returns-then-not-are_writable-clause-read_only
returns-then-not-are_writable-clause-read_only c = (λ _. is_read_only c, λ _. refl)

pub returns-then-not-are_writable-clause-no_frame : goal.returns-then-not-are_writable-clause-no_frame
returns-then-not-are_writable-clause-no_frame c = (λ same. cc, λ full. let read_only = is_read_only c in cc)

is_full : (c : goal.Then-self-used) → store (seen c.args.self.now) c.args.context c.args.job (record { at = c.args.at; bytes = c.args.piece.now }) ≡ Full
is_full c =
    let there = is_present-touched _ _ _ _ _ _ c.touched_pages-pages.ensures.pages c.are_present.ensures ∙ c.if-not-are_present.false in
    let may = is_writable-touched _ _ _ _ _ _ c.touched_pages-pages.ensures.pages c.are_writable.ensures ∙ c.if-not-are_writable.false in
    let parts : c.parting_count-parting.result ≡ parting_count (seen c.args.self.now) c.args.context (record { at = c.args.at; bytes = c.args.piece.now }) =
    parting_count-touched _ _ _ _ _ c.touched_pages-pages.ensures.pages c.parting_count-parting.ensures.parting in
    store-full _ _ _ _ there may (omega (arith, parts, ap (λ (size : WorldSize). size.frames) (frames-seen c.args.self.now), c.used.ensures, c.if-self-used.true))

pub returns-then-self-used-clause-bad_address : goal.returns-then-self-used-clause-bad_address
returns-then-self-used-clause-bad_address c = (λ same. cc, λ absent. let full = is_full c in cc)

pub returns-then-self-used-clause-read_only : goal.returns-then-self-used-clause-read_only
returns-then-self-used-clause-read_only c = (λ same. cc, λ read_only. let full = is_full c in cc)

pub returns-then-self-used-clause-no_frame : goal.returns-then-self-used-clause-no_frame
returns-then-self-used-clause-no_frame c = (λ _. is_full c, λ _. refl)

pub count_tags-requires-clause-few : goal.count_tags-requires-clause-few
count_tags-requires-clause-few c =
    let tags : ((seen c.put_pages.new.self).next c.args.job).tags ≡ ((seen c.args.self.now).next c.args.job).tags =
    ap (λ (w : World). (w.next c.args.job).tags) c.put_pages.ensures
    ∙ ap (λ (next : ℕ → Counters). (next c.args.job).tags) (changes.pages_put (seen c.args.self.now) c.args.context c.in-Ok.values.items).next in
    omega (arith, tags, c.parting_count-parting.ensures.few, c.touched_pages-pages.ensures.last, few_pages-seen c.args.self.now, c.requires.within, c.requires.may.tags)

pub count_tags-requires-clause-known : goal.count_tags-requires-clause-known
count_tags-requires-clause-known c =
    let same = ap (λ (w : World). w.size) c.put_pages.ensures ∙ (changes.pages_put (seen c.args.self.now) c.args.context c.in-Ok.values.items).size in
    omega (arith, ap (λ (size : WorldSize). size.jobs) same, c.requires.may.known)

pub returns-in-Ok-clause-done : goal.returns-in-Ok-clause-done
returns-in-Ok-clause-done c =
    let there = is_present-touched _ _ _ _ _ _ c.touched_pages-pages.ensures.pages c.are_present.ensures ∙ c.if-not-are_present.false in
    let may = is_writable-touched _ _ _ _ _ _ c.touched_pages-pages.ensures.pages c.are_writable.ensures ∙ c.if-not-are_writable.false in
    let parts : c.parting_count-parting.result ≡ parting_count (seen c.args.self.now) c.args.context (record { at = c.args.at; bytes = c.args.piece.now }) =
    parting_count-touched _ _ _ _ _ c.touched_pages-pages.ensures.pages c.parting_count-parting.ensures.parting in
    store-done _ _ _ _ there may (omega (arith, parts, ap (λ (size : WorldSize). size.frames) (frames-seen c.args.self.now), c.used.ensures, c.if-self-used.false))
    ∙ ap Done (sym (after_store-counted _ _ _ _ _ _ _ _ _ c.touched_pages-pages.ensures.pages c.in-Ok.ensures c.put_pages.ensures parts c.count_tags.ensures))

pub returns-in-Ok-clause-bad_address : goal.returns-in-Ok-clause-bad_address
returns-in-Ok-clause-bad_address c = (λ same. cc, λ absent. let done = returns-in-Ok-clause-done c in cc)

pub returns-in-Ok-clause-read_only : goal.returns-in-Ok-clause-read_only
returns-in-Ok-clause-read_only c = (λ same. cc, λ read_only. let done = returns-in-Ok-clause-done c in cc)

pub returns-in-Ok-clause-no_frame : goal.returns-in-Ok-clause-no_frame
returns-in-Ok-clause-no_frame c = (λ same. cc, λ full. let done = returns-in-Ok-clause-done c in cc)

would_be_done : (c : goal.In-Err) → store (seen c.args.self.now) c.args.context c.args.job (record { at = c.args.at; bytes = c.args.piece.now })
    ≡ Done (after_store (seen c.args.self.now) c.args.context c.args.job (record { at = c.args.at; bytes = c.args.piece.now }))
would_be_done c =
    let there = is_present-touched _ _ _ _ _ _ c.touched_pages-pages.ensures.pages c.are_present.ensures ∙ c.if-not-are_present.false in
    let may = is_writable-touched _ _ _ _ _ _ c.touched_pages-pages.ensures.pages c.are_writable.ensures ∙ c.if-not-are_writable.false in
    let parts : c.parting_count-parting.result ≡ parting_count (seen c.args.self.now) c.args.context (record { at = c.args.at; bytes = c.args.piece.now }) =
    parting_count-touched _ _ _ _ _ c.touched_pages-pages.ensures.pages c.parting_count-parting.ensures.parting in
    store-done _ _ _ _ there may (omega (arith, parts, ap (λ (size : WorldSize). size.frames) (frames-seen c.args.self.now), c.used.ensures, c.if-self-used.false))

pub returns-in-Err-clause-bad_address : goal.returns-in-Err-clause-bad_address
returns-in-Err-clause-bad_address c = (λ same. cc, λ absent. let done = would_be_done c in cc)

pub returns-in-Err-clause-read_only : goal.returns-in-Err-clause-read_only
returns-in-Err-clause-read_only c = (λ same. cc, λ read_only. let done = would_be_done c in cc)

pub returns-in-Err-clause-no_frame : goal.returns-in-Err-clause-no_frame
returns-in-Err-clause-no_frame c = (λ same. cc, λ full. let done = would_be_done c in cc)
