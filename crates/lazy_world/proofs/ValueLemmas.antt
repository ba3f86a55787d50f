-- A test of the values of a map, by the places of names.
use Rattle.std.proofs.Common.{◌≡◌, ⊎_elim, ℕ, ◌+◌, ◌-◌, ◌<◌, arith, refl, sym, ap, ◌∙◌, Bool, true, false, Option, Some, None, get_or}
use Rattle.std.specs.Prelude.{◌||◌, unwrap_or}
use Rattle.std.specs.List.{list_any, range_with_len}
use Rattle.std.specs.Option.{option_map}
use Rattle.std.specs.Cmp.{eq_by_cmp_equiv}
use Rattle.std.specs.FinMap as fm
use Rattle.std.proofs.lemmas.Bool.{cases_lt, false≢true}
use Rattle.lwc_base.specs.declared.cell.Cell.TheVariants.{Common}
use Rattle.lwc_base.specs.Life.{is_in, names_group}
use Rattle.lwc_base.specs.Sharing.{any_key}
use Rattle.lwc_base.specs.World.{Context}
use Rattle.lwc_types.specs.declared.key.TheConstants.{SLOTS}
use Rattle.lwc_types.specs.declared.key.Key.TheVariants.{Page, Slot, Cred}
use Rattle.lwc_types.specs.declared.name.Name.{Name}
use Rattle.ctx_table.specs.NameTables.{ArePlaced}
use Rattle.lazy_world.specs.Cells.{is_own}
use Rattle.lazy_world.specs.Reaping.{NamesNone, names_at, names_from}
use Rattle.lazy_world.specs.Sound.{IsSound}
use Rattle.lazy_world.specs.States.{Parts, context_at, world_of}
use Rattle.lazy_world.proofs.AddLemmas.{no_common, no_page}
use Rattle.lazy_world.proofs.WorldLemmas.{get-context}
use Rattle.lwc_base.proofs.Facts.{orders}
use Rattle.lwc_base.proofs.Life.{or_left}
use Rattle.lwc_base.proofs.Needs.{some_in_range}
use Rattle.lwc_base.proofs.Reaped.{any_value, number_in, some_value}
use Rattle.lwc_types.proofs.Small.{same_bool}

module _ (s : Parts) (sound : IsSound s) (placed : ArePlaced s.contexts) (g : Name) where
  abbrev test : Context → Bool
  test x = names_group s.size.pages g x

  value_at : (i : ℕ) (o : Option Name) → get_or s.contexts.places i None ≡ o → names_from s g i o ≡ true → list_any test (fm.values (world_of s).contexts) ≡ true
  value_at i None is passes = absurd (false≢true passes)
  value_at i (Some c) is passes =
      any_value test (world_of s).contexts c (context_at s i) (get-context s c ∙ ap (option_map (context_at s)) ((placed.at c i).1 is)) passes

  place_from : (c : Name) (x : Context) (o : Option ℕ) → fm.get s.contexts.map c ≡ o → option_map (context_at s) o ≡ Some x → test x ≡ true →
      list_any (names_at s g) (range_with_len 0 s.size.contexts) ≡ true
  place_from c x None found is passes = cc
  place_from c x (Some i) found is passes =
      let within = placed.within c i found in
      some_in_range (names_at s g) s.size.contexts 0 i (omega arith) (omega (arith, within, sound.sizes.contexts))
      (ap (names_from s g i) ((placed.at c i).0 found) ∙ ap (λ o. test (unwrap_or o x)) is ∙ passes)

  -- a cell of a context names a group exactly where one of a context at a place does
  pub named-values : list_any (names_at s g) (range_with_len 0 s.size.contexts) ≡ list_any test (fm.values (world_of s).contexts)
  named-values =
      same_bool _ _
      (λ at. let found = number_in (names_at s g) s.size.contexts 0 at in value_at found.0 (get_or s.contexts.places found.0 None) refl found.3)
      (λ at.
      let found = some_value test (world_of s).contexts at in
      place_from found.0 found.1 (fm.get s.contexts.map found.0) refl (sym (get-context s found.0) ∙ found.2) found.3)

-- where no cell of a context names a group, no page of a place is common of it
module _ (s : Parts) (sound : IsSound s) (g : Name) (none : list_any (names_at s g) (range_with_len 0 s.size.contexts) ≡ false) where
  page_names : (i p : ℕ) → s.rows i (Page p) ≡ Common g → p < s.size.pages → names_group s.size.pages g (context_at s i) ≡ true
  unfolding names_group any_key
  page_names i p is low =
      let pages = list_any (λ k. is_in g (s.rows i (Page k))) (range_with_len 0 s.size.pages) in
      let slots = list_any (λ n. is_in g (s.rows i (Slot n))) (range_with_len 0 SLOTS) in
      or_left (pages || slots) (is_in g (s.rows i Cred))
      (or_left pages slots
      (some_in_range (λ k. is_in g (s.rows i (Page k))) s.size.pages 0 p (omega arith) (omega (arith, low)) (ap (is_in g) is ∙ (eq_by_cmp_equiv orders.names).refl g)))

  context_names : (i p : ℕ) → s.rows i (Page p) ≡ Common g → i < s.size.contexts → p < s.size.pages → (o : Option Name) → get_or s.contexts.places i None ≡ o → ⊥
  context_names i p is inside low None free = no_common (s.rows i) (sound.free i inside free) p g is
  context_names i p is inside low (Some c) taken =
      false≢true
      (sym none ∙ some_in_range (names_at s g) s.size.contexts 0 i (omega arith) (omega (arith, inside)) (ap (names_from s g i) taken ∙ page_names i p is low))

  pub none-named : NamesNone s g
  none-named i p is =
      ⊎_elim
      (λ low.
      ⊎_elim
      (λ inside. context_names i p is inside low (get_or s.contexts.places i None) refl)
      (λ behind.
      let at : s.size.contexts + (i - s.size.contexts) ≡ i = omega (arith, behind) in
      false≢true (sym (ap is_own (ap (λ k. s.rows k (Page p)) at ∙ is)) ∙ sound.own (i - s.size.contexts) (Page p)))
      (cases_lt i s.size.contexts))
      (λ past. let gone = sym is ∙ no_page (s.rows i (Page p)) p (sound.past i (Page p) past) in cc)
      (cases_lt p s.size.pages)
