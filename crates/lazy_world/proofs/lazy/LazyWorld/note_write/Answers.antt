use Rattle.std.proofs.Common.{false, true, refl}
use Rattle.lazy_world.specs.Worlds.{parts, seen}
use Rattle.lazy_world.specs.declared.notes.Note.{Note}
use Rattle.lazy_world.proofs.NoteLemmas.{noted}
use Rattle.lazy_world.proofs.lazy.LazyWorld.note_write.Goals as goal

pub invariant_of-self : goal.invariant_of-self
unfolding parts
invariant_of-self c =
    let old = c.args.self.now in
    let note : Note = record { context = c.args.context; place = c.place-place.result; page = c.args.page; frame = c.in-Some.frame } in
    record {
      reached = old.reached;
      noted = noted old.world old.notes c.put.new.self note true old.noted
          (record { there = c.place-place.ensures.found; has = c.in-Some.ensures.has })
          (λ _. record { there = c.place-place.ensures.found; has = c.in-Some.ensures })
          c.put.ensures.read c.put.ensures.write;
    }
