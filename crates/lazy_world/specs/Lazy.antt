-- The world that a world with cached roots stands for.
use Rattle.lwc_base.specs.World.{World}
use Rattle.lazy_world.specs.declared.lazy.LazyWorld.{LazyWorld}
use Rattle.lazy_world.specs.declared.world.PlacedWorld.{PlacedWorld}
use Rattle.lazy_world.specs.Worlds.{seen}

-- the world at places
abbrev pub seen_lazy : LazyWorld → World
seen_lazy w = seen w.world

-- its world at places, which has the store
abbrev pub placed : LazyWorld → PlacedWorld
placed w = w.world
