use Rattle.std.proofs.Common.{◌≡◌, take}
use Rattle.kernel_core.specs.Start.{start_world, vault_so_far}
use Rattle.kernel_core.proofs.starting.put_vault.Given as goal

abbrev pub invariant-pages : goal.invariant-pages
invariant-pages g l =
    g.W.World.seen l.world
    ≡ vault_so_far (start_world l.image (g.W.World.seen l.initial.world).size.frames) l.vault.entry (take l.k l.vault.pages)
