use Rattle.lwc_syscall.proofs.bytes.read.Goals as goal

pub left-requires : goal.left-requires
left-requires g c = c.in-Some.ensures.range c.args.io.now c.requires.files
