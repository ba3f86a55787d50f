use Rattle.std.proofs.Common.{ap, subst, sym, ◌∙◌}
use Rattle.std.specs.Prelude.{Some}
use Rattle.lwc_base.specs.declared.cell.Cell.{Cell}
use Rattle.lwc_base.specs.Keys.{with_key}
use Rattle.lwc_types.specs.declared.key.Key.TheVariants.{Cred}
use Rattle.lazy_world.specs.Cells.{put_row}
use Rattle.lazy_world.specs.Transfers.{CanGet, given_or}
use Rattle.lazy_world.specs.Seen.{count, rows}
use Rattle.lazy_world.proofs.TakeLemmas.{kept-key}
use Rattle.lazy_world.proofs.places.Places.take_uid.Goals as goal

pub given_uid-uid-requires : goal.given_uid-uid-requires
given_uid-uid-requires c j is = (subst (CanGet (count c.args.self.now) c.args.place) (c.in-Some.is ∙ ap Some is) c.requires.given).0

pub returns-in_default-clause-rows : goal.returns-in_default-clause-rows
returns-in_default-clause-rows c =
    let old = rows c.args.self.now in
    kept-key old c.args.place Cred ∙ ap (λ s. put_row old c.args.place (with_key Cell Cred (given_or old Cred (old c.args.place Cred) s) (old c.args.place))) (sym c.in_default.is)
