use Rattle.std.proofs.Common.{◌≡◌, ◌-◌, ◌<◌, ◌≤◌, ◌∙◌, ℕ, ap, arith, refl, sym}
use Rattle.std.specs.List.{range_with_len}
use Rattle.lwc_base.specs.Store.{Piece}
use Rattle.lwc_base.specs.World.{World}
use Rattle.lwc_types.specs.declared.name.Name.{Name}
use Rattle.lwc_types.specs.declared.size.WorldSize.{WorldSize}
use Rattle.lazy_world.specs.Stores.{parts_at, store_pages}
use Rattle.lazy_world.specs.Worlds.{seen}
use Rattle.lazy_world.proofs.StepLemmas.{first-count, first-there, step-count, step-live, step-size, step-stored, step-tags, step-there, taken-one}
use Rattle.lazy_world.proofs.StoreLemmas.{store-none}
use Rattle.lazy_world.proofs.world.PlacedWorld.write_pages.Goals as goal

pub loop-p-init : goal.loop-p-init
loop-p-init c = record { live = c.requires.live; there = c.requires.there; size = refl; tags = omega arith; enough = c.requires.enough; stored = refl }

pub write_page-requires-clause-live : goal.write_page-requires-clause-live
write_page-requires-clause-live c = c.loop-p.invariant.live

pub write_page-requires-clause-there : goal.write_page-requires-clause-there
write_page-requires-clause-there c = (first-there (seen c.loop-p.self) c.args.context c.loop-p.p c.args.pages.to (omega (arith, c.loop-p-test.true)) c.loop-p.invariant.there).0

pub write_page-requires-clause-known : goal.write_page-requires-clause-known
write_page-requires-clause-known c = omega (arith, c.requires.known, ap (λ (size : WorldSize). size.jobs) c.loop-p.invariant.size)

pub write_page-requires-clause-few : goal.write_page-requires-clause-few
write_page-requires-clause-few c = omega (arith, c.requires.few, c.loop-p.invariant.tags, c.loop-p-test.true, c.loop-p.auto.p)

pub write_page-requires-clause-enough : goal.write_page-requires-clause-enough
write_page-requires-clause-enough c =
    omega (arith, first-count (seen c.loop-p.self) c.args.context c.loop-p.p c.args.pages.to (omega (arith, c.loop-p-test.true)), c.loop-p.invariant.enough)

pub loop-p-preserved : goal.loop-p-preserved
loop-p-preserved c =
    let w = seen c.loop-p.self in
    let v = seen c.write_page.new.self in
    let piece : Piece = record { at = c.args.at; bytes = c.args.piece.now } in
    let low : c.loop-p.p < c.args.pages.to = omega (arith, c.loop-p-test.true) in
    let size = step-size w v c.args.context c.args.job piece c.loop-p.p c.args.pages.to low c.write_page.ensures.stored c.write_page.ensures.others in
    let tags = step-tags w v c.args.context c.args.job piece c.loop-p.p c.args.pages.to low c.write_page.ensures.stored c.write_page.ensures.others in
    let few = taken-one (parts_at w c.args.context c.loop-p.p) in
    let counts = step-count w v c.args.context c.args.job piece c.loop-p.p c.args.pages.to low c.write_page.ensures.stored c.write_page.ensures.others in
    record {
      live = step-live w v c.args.context c.args.job piece c.loop-p.p c.args.pages.to low c.write_page.ensures.stored c.write_page.ensures.others ∙ c.loop-p.invariant.live;
      there = step-there w v c.args.context c.args.job piece c.loop-p.p c.args.pages.to low c.write_page.ensures.stored c.write_page.ensures.others
          (first-there w c.args.context c.loop-p.p c.args.pages.to low c.loop-p.invariant.there).1;
      size = size ∙ c.loop-p.invariant.size;
      tags = omega (arith, tags, few, c.loop-p.invariant.tags);
      enough = omega (arith, counts, c.write_page.ensures.used, c.loop-p.invariant.enough, ap (λ (s : WorldSize). s.frames) size);
      stored = step-stored w v c.args.context c.args.job piece c.loop-p.p c.args.pages.to low c.write_page.ensures.stored c.write_page.ensures.others ∙ c.loop-p.invariant.stored;
    }

none : (p end : ℕ) → end ≤ p → end - p ≡ 0
none p end past = omega (arith, past)

none_left : (w : World) (c : Name) (job : ℕ) (piece : Piece) (p end : ℕ) → end ≤ p → w ≡ store_pages w c job piece (range_with_len p (end - p))
none_left w c job piece p end past = sym (ap (λ n. store_pages w c job piece (range_with_len p n)) (none p end past) ∙ store-none w c job piece)

pub returns : goal.returns
returns c =
    none_left (seen c.loop-p.self) c.args.context c.args.job (record { at = c.args.at; bytes = c.args.piece.now }) c.loop-p.p c.args.pages.to (omega (arith, c.loop-p-test.false)) ∙ c.loop-p.invariant.stored
