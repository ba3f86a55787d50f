use Rattle.std.proofs.Common.{refl}
use Rattle.lwc_debug.proofs.Telling.{places_next}
use Rattle.lwc_debug.proofs.debugging.placed.Goals as goal

pub commands-preserved : goal.commands-preserved
commands-preserved c =
    places_next c.args.count c.args.script.now c.commands.answers.items _ c.commands.i c.commands.place _ c.get-command.result _ c.get-command.ensures refl refl c.new.ensures.items c.in_ok-push.ensures.items
    c.place_after-place.ensures.place c.place_after-place.ensures.there c.commands.invariant
