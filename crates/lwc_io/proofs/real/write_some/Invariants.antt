use Rattle.std.specs.Io.KnownBytes.{Keeps}
use Rattle.lwc_io.proofs.real.write_some.Given as goal

-- nothing was taken yet
abbrev pub invariant-loop : goal.invariant-loop
invariant-loop g l = let contents = g.W.Write.contents in Keeps (contents l.fn.writer) (contents l.writer)
