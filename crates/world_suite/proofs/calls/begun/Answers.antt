use Rattle.std.proofs.Common.{◌≡◌, ◌≤◌, ◌∙◌, ap, refl, arith}
use Rattle.std.specs.FinMap as fm
use Rattle.lwc_base.specs.World.{World}
use Rattle.lwc_types.specs.declared.counters.Counters.{Counters}
use Rattle.lwc_types.specs.declared.size.WorldSize.{WorldSize}
use Rattle.world_suite.proofs.Begun.{counts-empty, live-begun, live-made, next-begun, no_group-begun, none-empty, one-begun, size-begun, size-empty, size-made}
use Rattle.world_suite.proofs.calls.begun.Goals as goal

pub first-requires-clause-place : goal.first-requires-clause-place
first-requires-clause-place g c =
    let none : fm.len (g.W.World.seen c.in_ok-world.world).contexts ≡ 0 = ap (λ (w : World). fm.len w.contexts) c.in_ok-world.ensures.opened ∙ none-empty _ in
    omega (arith, none, ap (λ (w : World). w.size.contexts) c.in_ok-world.ensures.opened, ap (λ (s : WorldSize). s.contexts) (size-empty (record { frames = c.args.frames; contexts = 2; groups = 1; jobs = 2; pages = 4 })))

pub first-requires-clause-may : goal.first-requires-clause-may
first-requires-clause-may g c =
    let none : (g.W.World.seen c.in_ok-world.world).next 0 ≡ record { contexts = 0; groups = 0; tags = 0 } =
    ap (λ (w : World). w.next 0) c.in_ok-world.ensures.opened ∙ counts-empty _ 0 in
    let jobs : (g.W.World.seen c.in_ok-world.world).size.jobs ≡ 2 = ap (λ (w : World). w.size.jobs) c.in_ok-world.ensures.opened ∙ ap (λ (s : WorldSize). s.jobs) (size-empty _) in
    record {
      known = omega (arith, jobs);
      contexts = omega (arith, ap (λ (n : Counters). n.contexts) none);
      groups = omega (arith, ap (λ (n : Counters). n.groups) none);
      tags = omega (arith, ap (λ (n : Counters). n.tags) none);
    }

pub ranges_after_map-requires-clause-live : goal.ranges_after_map-requires-clause-live
ranges_after_map-requires-clause-live g c = live-made _ _ _ _ _ _ 0 2 c.in_ok-world.ensures.opened c.in_ok-c.ensures.made c.in_ok-c.ensures.name refl

pub map-requires-clause-live : goal.map-requires-clause-live
map-requires-clause-live g c = live-made _ _ _ _ _ _ 0 2 c.in_ok-world.ensures.opened c.in_ok-c.ensures.made c.in_ok-c.ensures.name refl

pub ranges_after_map-requires-clause-within : goal.ranges_after_map-requires-clause-within
ranges_after_map-requires-clause-within g c =
    let many = ap (λ (s : WorldSize). s.pages) (size-made _ _ _ _ _ _ 0 2 c.in_ok-world.ensures.opened c.in_ok-c.ensures.made c.in_ok-c.ensures.name refl) in
    omega (arith, many)

pub map-requires-clause-within : goal.map-requires-clause-within
map-requires-clause-within g c =
    let many = ap (λ (s : WorldSize). s.pages) (size-made _ _ _ _ _ _ 0 2 c.in_ok-world.ensures.opened c.in_ok-c.ensures.made c.in_ok-c.ensures.name refl) in
    omega (arith, many)

pub returns : goal.returns
returns g c =
    let size = size-begun _ _ _ _ _ _ 0 2 c.in_ok-world.ensures.opened c.in_ok-c.ensures.made c.in_ok-c.ensures.name c.in_ok-map.ensures.mapped in
    let one = one-begun _ _ _ _ _ _ 0 2 c.in_ok-world.ensures.opened c.in_ok-c.ensures.made c.in_ok-c.ensures.name c.in_ok-map.ensures.mapped in
    let none = no_group-begun _ _ _ _ _ _ 0 2 c.in_ok-world.ensures.opened c.in_ok-c.ensures.made c.in_ok-c.ensures.name c.in_ok-map.ensures.mapped in record {
      live = live-begun _ _ _ _ _ _ 0 2 c.in_ok-world.ensures.opened c.in_ok-c.ensures.made c.in_ok-c.ensures.name c.in_ok-map.ensures.mapped;
      size = size;
      place = omega (arith, one, ap (λ (s : WorldSize). s.contexts) size);
      group_place = omega (arith, none, ap (λ (s : WorldSize). s.groups) size);
      next = next-begun _ _ _ _ _ _ 0 2 c.in_ok-world.ensures.opened c.in_ok-c.ensures.made c.in_ok-c.ensures.name c.in_ok-map.ensures.mapped;
    }
