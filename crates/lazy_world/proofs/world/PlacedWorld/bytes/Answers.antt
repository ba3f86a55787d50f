use Rattle.std.proofs.Common.{◌≡◌, ◌≤◌, ◌∙◌, ℕ, Bool, true, false, List, Some, None, refl, sym, ap, arith, length, map}
use Rattle.std.specs.Prelude.{is_some}
use Rattle.std.specs.List.{list_all, range_with_len}
use Rattle.lwc_base.specs.World.{context}
use Rattle.lwc_types.specs.declared.name.Name.{Name}
use Rattle.lazy_world.specs.Memory.{byte_in, page_in}
use Rattle.lazy_world.specs.Seen.{rows}
use Rattle.lwc_base.specs.Memory.{load, touched}
use Rattle.lwc_types.specs.declared.limits.TheConstants.{MOST_PAGES}
use Rattle.lazy_world.specs.declared.world.PlacedWorld.{PlacedWorld}
use Rattle.lazy_world.specs.States.{context_at, world_of}
use Rattle.lazy_world.specs.Worlds.{parts, seen}
use Rattle.lazy_world.proofs.MemoryLemmas.{byte-in, present-touched}
use Rattle.lazy_world.proofs.world.PlacedWorld.bytes.Goals as goal
use Rattle.lwc_base.proofs.Loads.{load-absent, load-present}

few : (w : PlacedWorld) → (seen w).size.pages ≤ MOST_PAGES
unfolding seen parts world_of
few w = w.sound.sizes.size.pages.1

pub copy_own-requires-clause-within : goal.copy_own-requires-clause-within
copy_own-requires-clause-within c = omega (arith, few c.args.self.now, c.requires.within)

pub touched_pages-pages-requires : goal.touched_pages-pages-requires
touched_pages-pages-requires c = let same = ap length (c.copy_own.ensures.same c.if-copy_own.false) in omega (arith, same, few c.args.self.now, c.requires.within)

pub copy_to-requires-clause-within : goal.copy_to-requires-clause-within
copy_to-requires-clause-within c = let same = ap length (c.copy_own.ensures.same c.if-copy_own.false) in omega (arith, same, few c.args.self.now, c.requires.within)

-- what is loaded, where the touched pages are there or not
module _ (w : PlacedWorld) (c : Name) (i at count : ℕ) (ps : List ℕ) (b : Bool) (cells : context (seen w) c ≡ context_at (parts w) i) (touches : ps ≡ touched at count)
    (told : b ≡ list_all (λ p. is_some (page_in (seen w) (rows w.places i) p)) ps) where
  loaded-none : b ≡ false → load (seen w) c at count ≡ None
  unfolding parts
  loaded-none off = load-absent _ _ _ _ (present-touched _ _ _ _ _ _ _ cells touches told ∙ off)

  loaded : b ≡ true → (out : List ℕ) → out ≡ map (byte_in (seen w) (rows w.places i)) (range_with_len at count) → load (seen w) c at count ≡ Some out
  unfolding parts
  loaded there out is =
      load-present (seen w) c at count (present-touched _ _ _ _ _ _ _ cells touches told ∙ there)
      ∙ ap Some (sym (is ∙ ap (λ (f : ℕ → ℕ). map f (range_with_len at count)) (byte-in _ _ _ cells)))

-- one page is touched
own_there : (c : goal.Then-copy_own) → load (seen c.args.self.now) c.args.context c.args.at (length c.args.out.now) ≡ Some c.copy_own.new.out
own_there c =
    loaded c.args.self.now c.args.context c.place-i.result c.args.at (length c.args.out.now) (touched c.args.at (length c.args.out.now)) true c.place-i.ensures.context refl (sym (c.copy_own.ensures.present c.if-copy_own.true)) refl c.copy_own.new.out (c.copy_own.ensures.copied c.if-copy_own.true)

pub returns-then-copy_own-clause-present : goal.returns-then-copy_own-clause-present
returns-then-copy_own-clause-present c = rw (own_there c) refl

pub returns-then-copy_own-clause-found : goal.returns-then-copy_own-clause-found
returns-then-copy_own-clause-found c = rw (own_there c) refl

pub returns-then-copy_own-clause-absent : goal.returns-then-copy_own-clause-absent
returns-then-copy_own-clause-absent c = rw (own_there c) tt

-- by pages
none_there : (c : goal.Then-not-are_present) → load (seen c.args.self.now) c.args.context c.args.at (length c.args.out.now) ≡ None
none_there c =
    ap (λ (l : List ℕ). load (seen c.args.self.now) c.args.context c.args.at (length l)) (sym (c.copy_own.ensures.same c.if-copy_own.false))
    ∙ loaded-none c.args.self.now c.args.context c.place-i.result c.args.at (length c.copy_own.new.out) _ c.are_present.result c.place-i.ensures.context c.touched_pages-pages.ensures.pages c.are_present.ensures c.if-not-are_present.true

pub returns-then-not-are_present-clause-present : goal.returns-then-not-are_present-clause-present
returns-then-not-are_present-clause-present c = rw (none_there c) refl

pub returns-then-not-are_present-clause-found : goal.returns-then-not-are_present-clause-found
returns-then-not-are_present-clause-found c = rw (none_there c) tt

pub returns-then-not-are_present-clause-absent : goal.returns-then-not-are_present-clause-absent
returns-then-not-are_present-clause-absent c = rw (none_there c) (c.copy_own.ensures.same c.if-copy_own.false)

all_there : (c : goal.After-slice_known-3-1) → load (seen c.args.self.now) c.args.context c.args.at (length c.args.out.now) ≡ Some c.copy_to.new.out
all_there c =
    ap (λ (l : List ℕ). load (seen c.args.self.now) c.args.context c.args.at (length l)) (sym (c.copy_own.ensures.same c.if-copy_own.false))
    ∙ loaded c.args.self.now c.args.context c.place-i.result c.args.at (length c.copy_own.new.out) _ c.are_present.result c.place-i.ensures.context c.touched_pages-pages.ensures.pages c.are_present.ensures c.if-not-are_present.false c.copy_to.new.out c.copy_to.ensures

pub returns-clause-present : goal.returns-clause-present
returns-clause-present c = rw (all_there c) refl

pub returns-clause-found : goal.returns-clause-found
returns-clause-found c = rw (all_there c) refl

pub returns-clause-absent : goal.returns-clause-absent
returns-clause-absent c = rw (all_there c) tt
