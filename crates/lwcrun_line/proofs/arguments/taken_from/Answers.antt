use Rattle.std.proofs.Common.{codes, refl}
use Rattle.clap.specs.Words.{found_of}
use Rattle.lwcrun_line.proofs.TakenWords.{taken}
use Rattle.lwcrun_line.proofs.arguments.taken_from.Goals as goal

pub returns : goal.returns
returns c =
    let f = found_of c.args.matches.now in
    let mode = taken f (codes "mode") c.get_str.result c.get_str.ensures in
    let first = taken f (codes "first") c.get_str-2.result c.get_str-2.ensures in
    let second = taken f (codes "second") c.get_str-3.result c.get_str-3.ensures in
    let third = taken f (codes "third") c.get_str-4.result c.get_str-4.ensures in
    let frames = taken f (codes "frames") c.get_str-5.result c.get_str-5.ensures in
    let budget = taken f (codes "budget") c.get_str-6.result c.get_str-6.ensures in
    let workers = taken f (codes "workers") c.get_str-7.result c.get_str-7.ensures in
    rw (mode, first, second, third, frames, budget, workers) refl
