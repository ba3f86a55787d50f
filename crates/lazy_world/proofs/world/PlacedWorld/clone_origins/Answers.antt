use Rattle.std.proofs.Common.{◌≡◌, ℕ, ◌∙◌, arith}
use Rattle.lwc_types.specs.declared.key.Key.TheVariants.{Page}
use Rattle.lazy_world.specs.Transfers.{given_or}
use Rattle.lazy_world.specs.Seen.{count, rows}
use Rattle.lazy_world.specs.Origins.{page_origin}
use Rattle.lazy_world.specs.States.{world_of}
use Rattle.lazy_world.specs.Worlds.{parts, transferred, seen}
use Rattle.lazy_world.specs.declared.transfer.Transfer.TheVariants.{Clone}
use Rattle.lazy_world.proofs.PastLemmas.{transferred-past, origin-transferred}
use Rattle.lazy_world.proofs.world.PlacedWorld.clone_origins.Goals as goal

pub slot_origins-requires-clause-to : goal.slot_origins-requires-clause-to
unfolding parts
slot_origins-requires-clause-to c = omega (arith, c.requires.to, c.args.self.now.count)

pub returns-clause-row : goal.returns-clause-row
unfolding seen world_of parts
returns-clause-row c =
    let w = c.args.self.now in
    let from = c.args.from in
    let items = c.args.spec.now in
    let pages = c.clone_pages.new.pages in
    let few = w.sound.sizes.size.pages.1 in
    let gives : (q : ℕ) → given_or (rows w.places) (Page q) (rows w.places c.args.to (Page q)) (page_origin pages q) ≡ transferred w (Clone c.args.made) items from c.args.to (Page q) = λ q. (λ e. given_or (rows w.places) (Page q) (c.requires.empty q e) (page_origin pages q)) ∙ c.clone_pages.ensures.gives c.args.made (rows w.places c.args.to) q in
    origin-transferred (seen w) w.size.pages (count w.places) items (Clone c.args.made) (rows w.places) from c.args.to _ few (omega (arith, c.slot_origins.ensures.long))
    c.requires.within (w.sound.past from) (w.sound.past c.args.to)
    (λ q low. gives q)
    (λ q high. gives q
    ∙ transferred-past (seen w) w.size.pages items c.requires.within (Clone c.args.made) (rows w.places from) (rows w.places c.args.to) (w.sound.past from) (w.sound.past c.args.to) (Page q) (omega (arith, few, high)))
    c.slot_origins.ensures.gives c.uid_origin-origins.ensures

pub returns-clause-rights : goal.returns-clause-rights
returns-clause-rights c = c.clone_pages.ensures.rights c.args.made c.args.to c.requires.empty

pub returns-clause-given : goal.returns-clause-given
returns-clause-given c = record {
  pages = c.clone_pages.ensures.given c.args.to c.requires.apart c.requires.to;
  slots = λ n low. (c.slot_origins.ensures.gives n low).can;
  uid = c.uid_origin-origins.ensures.can;
}
