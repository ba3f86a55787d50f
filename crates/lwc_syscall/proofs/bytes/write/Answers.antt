use Rattle.lwc_syscall.proofs.bytes.write.Goals as goal

pub write_through-requires-clause-range : goal.write_through-requires-clause-range
write_through-requires-clause-range g c κs within = c.in-Some.ensures.range c.args.io.now c.requires.files

pub write_through-requires-else-count-2-clause-range :
    goal.write_through-requires-else-count-2-clause-range
write_through-requires-else-count-2-clause-range g c κs within = c.in-Some.ensures.range c.args.io.now c.requires.files
