use Rattle.std.proofs.Common.{◌≡◌, ◌≤◌, ◌∙◌, ℕ, Bool, true, false, List, Some, None, refl, sym, ap, arith, length, map}
use Rattle.std.specs.Prelude.{is_some}
use Rattle.std.specs.List.{list_all, range_with_len}
use Rattle.lwc_base.specs.World.{context}
use Rattle.lwc_types.specs.declared.name.Name.{Name}
use Rattle.lazy_world.specs.Memory.{byte_in, page_in}
use Rattle.lazy_world.specs.Seen.{rows}
use Rattle.lwc_base.specs.Memory.{load, touched}
use Rattle.lwc_types.specs.declared.limits.TheConstants.{MOST_PAGES}
use Rattle.lazy_world.specs.declared.world.PlacedWorld.{PlacedWorld}
use Rattle.lazy_world.specs.States.{context_at, world_of}
use Rattle.lazy_world.specs.Worlds.{parts, seen}
use Rattle.lazy_world.proofs.MemoryLemmas.{byte-in, present-touched}
use Rattle.std.specs.FinMap as fm
use Rattle.lazy_world.proofs.WorldLemmas.{context-found}
use Rattle.lazy_world.proofs.world.PlacedWorld.load_noted.Goals as goal
use Rattle.lwc_base.proofs.Loads.{load-absent, load-present}

few : (w : PlacedWorld) → (seen w).size.pages ≤ MOST_PAGES
unfolding seen parts world_of
few w = w.sound.sizes.size.pages.1

-- what is loaded, where the touched pages are there or not
module _ (w : PlacedWorld) (c : Name) (i at count : ℕ) (ps : List ℕ) (b : Bool) (cells : context (seen w) c ≡ context_at (parts w) i) (touches : ps ≡ touched at count)
    (told : b ≡ list_all (λ p. is_some (page_in (seen w) (rows w.places i) p)) ps) where
  loaded-none : b ≡ false → load (seen w) c at count ≡ None
  unfolding parts
  loaded-none off = load-absent _ _ _ _ (present-touched _ _ _ _ _ _ _ cells touches told ∙ off)

  loaded : b ≡ true → (out : List ℕ) → out ≡ map (byte_in (seen w) (rows w.places i)) (range_with_len at count) → load (seen w) c at count ≡ Some out
  unfolding parts
  loaded there out is =
      load-present (seen w) c at count (present-touched _ _ _ _ _ _ _ cells touches told ∙ there)
      ∙ ap Some (sym (is ∙ ap (λ (f : ℕ → ℕ). map f (range_with_len at count)) (byte-in _ _ _ cells)))

pub copy_noted-requires-clause-has : goal.copy_noted-requires-clause-has
copy_noted-requires-clause-has c = c.requires.note.has

pub copy_noted-requires-clause-within : goal.copy_noted-requires-clause-within
copy_noted-requires-clause-within c = omega (arith, few c.args.self.now, c.requires.within)

pub returns-clause-done : goal.returns-clause-done
unfolding parts seen world_of
returns-clause-done c = λ yes.
    let w = c.args.self.now in
    let note = c.args.note.now in
    let found = ap (fm.get w.contexts.map) (sym c.requires.context) ∙ c.requires.note.there in
    loaded w c.args.context note.place c.args.at (length c.args.out.now) (touched c.args.at (length c.args.out.now)) true (context-found (parts w) c.args.context note.place found) refl (sym (c.copy_noted.ensures.present yes)) refl c.copy_noted.new.out (c.copy_noted.ensures.copied yes)
