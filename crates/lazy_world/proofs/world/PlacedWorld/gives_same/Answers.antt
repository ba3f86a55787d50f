use Rattle.std.proofs.Common.{◌∙◌}
use Rattle.lazy_world.specs.Transfers.{transferred_rights, transferred_row}
use Rattle.lazy_world.specs.Seen.{rights, rows}
use Rattle.lazy_world.specs.Worlds.{parts, seen}
use Rattle.lazy_world.proofs.CopyLemmas.{all-own, cloned-rights, cloned-same, no-items}
use Rattle.lazy_world.proofs.world.PlacedWorld.gives_same.Goals as goal

pub returns-then-is_empty-clause-row : goal.returns-then-is_empty-clause-row
unfolding parts
returns-then-is_empty-clause-row c here old =
    let w = c.args.self.now in
    let none = no-items c.items.result.now c.args.spec.now c.is_empty.result c.items.ensures.items c.is_empty.ensures c.if-is_empty.true in
    let own = c.is_all_own.ensures in
    (λ e. transferred_row (seen w) (c.in-Clone.is e) (none e) (rows w.places c.args.from) old)
    ∙ cloned-same (seen w) c.in-Clone.field-0 (rows w.places c.args.from) old
    (all-own w.size.pages (rows w.places c.args.from) w.sound.sizes.size.pages.1 (w.sound.past c.args.from) (own.slots here) (own.uid here) (own.pages here))

pub returns-then-is_empty-clause-rights : goal.returns-then-is_empty-clause-rights
returns-then-is_empty-clause-rights c here old =
    let w = c.args.self.now in
    let none = no-items c.items.result.now c.args.spec.now c.is_empty.result c.items.ensures.items c.is_empty.ensures c.if-is_empty.true in
    (λ e. transferred_rights (c.in-Clone.is e) (none e) (rows w.places c.args.from) (rights w.places c.args.from) old)
    ∙ cloned-rights c.in-Clone.field-0 (rows w.places c.args.from) (rights w.places c.args.from) old
