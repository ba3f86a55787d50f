-- Contexts that nothing reaches, without a search.
use Rattle.std.proofs.Common.{◌≡◌, ◌⊎◌, inl, inr, ℕ, suc, zero, ◌+◌, ◌<◌, arith, List, [], ◌∷◌, refl, sym, ap, ◌∙◌, Bool, true, false, ◌&&◌, eqb, cond, get_or, length, Option, Some, None}
use Rattle.std.specs.Prelude.{All, is_some}
use Rattle.std.specs.FinMap as fm
use Rattle.std.specs.Ordering.{eq_by_cmp, is_eq}
use Rattle.std.proofs.lemmas.Bool.{and_parts, eq-eqb, eqb-true, false≢true}
use Rattle.fd_table.specs.Slots.{context_in, context_of}
use Rattle.lwc_base.specs.declared.cell.Cell.{Cell}
use Rattle.lwc_base.specs.declared.cell.Cell.TheVariants.{Own, Common}
use Rattle.lwc_base.specs.declared.descriptor.Descriptor.{Descriptor}
use Rattle.lwc_base.specs.declared.descriptor.Descriptor.TheVariants.{Empty, Console, File, Request, Reply, Ctx}
use Rattle.lwc_base.specs.Cells.{slot_at, value_at, value_of}
use Rattle.lwc_base.specs.Life.{Link, Reaches, Root, is_among, is_of, is_reached, links}
use Rattle.lwc_base.specs.World.{World, Context, Group, group, is_live}
use Rattle.lwc_types.specs.declared.key.TheConstants.{SLOTS}
use Rattle.lwc_types.specs.declared.key.Key.TheVariants.{Slot}
use Rattle.lwc_types.specs.declared.name.Name.{Name}
use Rattle.lwc_types.specs.Names.{name_cmp}
use Rattle.lazy_world.specs.CachedRoots.{AreReached, HasLoose, HasRoot, IsLoose}
use Rattle.lazy_world.specs.States.{Parts, held, world_of}
use Rattle.lazy_world.proofs.WorldLemmas.{context-found, group-found, group-missed, live-there}
use Rattle.lwc_base.proofs.Facts.{orders}
use Rattle.lwc_base.proofs.Life.{or_left, or_right, reached_by_way, way_of_reached}
use Rattle.lwc_base.proofs.Slots.{linked_slot, slot_links}
use Rattle.lwc_types.proofs.Orders.{name-itself, same_name}
use Rattle.lwc_types.proofs.Small.{alike, same_bool, same_some}

-- names are the same exactly where the order ties them
pub same-test : (a b : Name) → (eqb a.job b.job && eqb a.k b.k) ≡ eq_by_cmp name_cmp b a
same-test a b =
    same_bool _ _
    (λ both.
    let job : a.job ≡ b.job = eqb-true a.job b.job (and_parts _ _ both).0 in
    let k : a.k ≡ b.k = eqb-true a.k b.k (and_parts _ _ both).1 in
    let same : a ≡ b = λ e. record { job = job e; k = k e } in
    ap (eq_by_cmp name_cmp b) same ∙ name-itself b)
    (λ tied.
    let same : a ≡ b = sym (same_name b a tied) in
    ap (λ (n : Name). eqb n.job b.job && eqb n.k b.k) same ∙ ap (λ t. t && eqb b.k b.k) (eq-eqb b.job b.job refl) ∙ eq-eqb b.k b.k refl)

-- a descriptor is one of the context that it is of
is_of-context : (value : Descriptor) (c : Name) → context_of value ≡ Some c → is_of c value ≡ true
is_of-context Empty c is = cc
is_of-context Console c is = cc
is_of-context (File file at) c is = cc
is_of-context (Request r at) c is = cc
is_of-context (Reply r) c is = cc
is_of-context (Ctx name cap) c is = ap (λ d. is_eq (name_cmp name d)) (sym (same_some name c is)) ∙ name-itself name

context-is_of : (value : Descriptor) (c : Name) → is_of c value ≡ true → context_of value ≡ Some c
context-is_of Empty c is = cc
context-is_of Console c is = cc
context-is_of (File file at) c is = cc
context-is_of (Request r at) c is = cc
context-is_of (Reply r) c is = cc
context-is_of (Ctx name cap) c is = ap Some (same_name name c is)

-- a context links to another one exactly where one of its slots has a descriptor of that one
pub links-by : (w : World) (d c : Name) (n : ℕ) → n < SLOTS → context_of (slot_at w d n) ≡ Some c → links w d c ≡ true
links-by w d c n low is = slot_links w d c n low (is_of-context (slot_at w d n) c is)

pub links-slot : (w : World) (d c : Name) → links w d c ≡ true → (n : ℕ) × (n < SLOTS) × (context_of (slot_at w d n) ≡ Some c)
links-slot w d c link = let found = linked_slot w d c link in (found.0, found.1, context-is_of (slot_at w d found.0) c found.2)

pub among-index : (names : List Name) (i : ℕ) (d : Name) → i < length names → is_among names (get_or names i d) ≡ true
among-index [] i d low = absurd (omega (arith, low))
among-index (n ∷ ns) zero d low = or_left _ _ (name-itself n)
among-index (n ∷ ns) (suc i) d low = or_right _ _ (among-index ns i d (omega (arith, low)))

-- what a root links to is reached
pub next-root : (w : World) (roots : List Name) (i : ℕ) (d c : Name) → All (λ root. is_live w root ≡ true) roots → i < length roots → links w (get_or roots i d) c ≡ true → Reaches w roots c
next-root w roots i d c live low link = Link (get_or roots i d) c (Root (get_or roots i d) (among-index roots i d low)) (live i d low) link

-- what a slot at a root's place has a descriptor of is reached
pub next-place : (s : Parts) (roots : List Name) (i n : ℕ) (c : Name) → HasRoot s roots i → n < SLOTS → context_of (value_of (world_of s) (Slot n) (s.rows i (Slot n))) ≡ Some c →
    Reaches (world_of s) roots c
unfolding value_at
next-place s roots i n c at low is =
    let w = world_of s in
    let cell = ap (λ (x : Context). context_of (value_of w (Slot n) (x.cell (Slot n)))) (context-found s at.root i at.there) in
    Link at.root c (Root at.root at.among) (live-there s at.root ∙ ap is_some at.there) (links-by w at.root c n low (cell ∙ is))

-- a context that no cell has a descriptor of is linked from none
module _ (s : Parts) (c : Name) (none : (i n : ℕ) → context_in (s.rows i (Slot n)) ≡ Some c → ⊥) where
  abbrev w : World
  w = world_of s

  in-group : (g : Name) (n : ℕ) (o : Option ℕ) → fm.get s.groups.map g ≡ o → context_of ((group w g).value (Slot n)) ≡ Some c → ⊥
  in-group g n None missed is =
      let empty = ap (λ (x : Group). context_of (x.value (Slot n))) (sym (group-missed s g missed)) ∙ is in cc
  in-group g n (Some j) found is = at (s.rows (s.size.contexts + j) (Slot n)) refl (ap (λ (x : Group). context_of (x.value (Slot n))) (sym (group-found s g j found)) ∙ is)
    where
      at : (cell : Cell Descriptor) → s.rows (s.size.contexts + j) (Slot n) ≡ cell → context_of (held (Slot n) (s.rows (s.size.contexts + j) (Slot n))) ≡ Some c → ⊥
      at (Own value) here found_it =
          none (s.size.contexts + j) n (ap context_in here ∙ ap (λ (x : Cell Descriptor). context_of (held (Slot n) x)) (sym here) ∙ found_it)
      at (Common h) here found_it = let empty = ap (λ (x : Cell Descriptor). context_of (held (Slot n) x)) (sym here) ∙ found_it in cc

  in-cell : (i n : ℕ) (cell : Cell Descriptor) → s.rows i (Slot n) ≡ cell → context_of (value_of w (Slot n) cell) ≡ Some c → ⊥
  in-cell i n (Own value) here is = none i n (ap context_in here ∙ is)
  in-cell i n (Common g) here is = in-group g n (fm.get s.groups.map g) refl is

  pub unlinked : (d : Name) → is_live w d ≡ true → links w d c ≡ true → ⊥
  unfolding value_at
  unlinked d live link =
      let slot = links-slot w d c link in
      from (fm.get s.contexts.map d) refl slot.0 slot.2
    where
      from : (o : Option ℕ) → fm.get s.contexts.map d ≡ o → (n : ℕ) → context_of (slot_at w d n) ≡ Some c → ⊥
      from None missed n is = false≢true (sym (ap is_some missed) ∙ sym (live-there s d) ∙ live)
      from (Some i) found n is =
          in-cell i n (s.rows i (Slot n)) refl (ap (λ (x : Context). context_of (value_of w (Slot n) (x.cell (Slot n)))) (sym (context-found s d i found)) ∙ is)

-- what no slot has a descriptor of is not reached, but for roots
pub unreached : (w : World) (roots : List Name) (c : Name) → is_among roots c ≡ false → ((d : Name) → is_live w d ≡ true → links w d c ≡ true → ⊥) → Reaches w roots c → ⊥
unreached w roots _ none unlinked_ (Root c among) = false≢true (sym none ∙ among)
unreached w roots _ none unlinked_ (Link d c before live link) = unlinked_ d live link

-- each live context is reached or loose
module _ (w : World) (names roots : List Name) (loose : Option Name) (has : HasLoose w names roots loose) where
  reached-or : (c : Name) → Reaches w names c → is_live w c ≡ true → (loose ≡ Some c) ⊎ Reaches w roots c
  reached-or _ (Root c among) live = has.others c among live
  reached-or _ (Link d c before live_d link) live =
      elim (reached-or d before live_d) [
        | inl is ↦ inr ((has.one d is).ends c link)
        | inr reached ↦ inr (Link d c reached live_d link)
      ]

module _ (w : World) (names roots : List Name) (reached : AreReached w names) where
  abbrev kept : fm.FinMap name_cmp Context
  kept = fm.retain_keys w.contexts (is_reached w roots)

  get-kept : (c : Name) → fm.get kept c ≡ cond (is_reached w roots c) (fm.get w.contexts c) None
  get-kept c = fm.get-retain_keys w.contexts (is_reached w roots) c (alike (is_reached w roots) c)

  lives : (c : Name) (x : Context) → fm.get w.contexts c ≡ Some x → is_live w c ≡ true
  lives c x is = ap is_some is

  -- where none is loose, all are kept
  pub none-dropped : HasLoose w names roots None → w.contexts ≡ kept
  none-dropped has = fm.same_map orders.names orders.one_name _ _ (λ c. at c (fm.get w.contexts c) refl ∙ sym (get-kept c))
    where
      at : (c : Name) (o : Option Context) → fm.get w.contexts c ≡ o → fm.get w.contexts c ≡ cond (is_reached w roots c) (fm.get w.contexts c) None
      at c None is = is ∙ sym (ap (λ o. cond (is_reached w roots c) o None) is ∙ nowhere (is_reached w roots c))
        where
          nowhere : (b : Bool) → cond {A = Option Context} b None None ≡ None
          nowhere true = refl
          nowhere false = refl
      at c (Some x) is =
          elim (reached-or w names roots None has c (way_of_reached w names c (reached c (lives c x is))) (lives c x is)) [
            | inl loose ↦ absurd (let no = loose in cc)
            | inr there ↦ sym (ap (λ b. cond b (fm.get w.contexts c) None) (reached_by_way w roots c there (lives c x is)))
          ]

  -- where one is loose, all but that one are kept
  pub one-dropped : (d : Name) → HasLoose w names roots (Some d) → fm.remove w.contexts d ≡ kept
  one-dropped d has =
      fm.same_map orders.names orders.one_name _ _
      (λ c. fm.get-remove orders.names w.contexts d c ∙ at c (eq_by_cmp name_cmp c d) refl (fm.get w.contexts c) refl ∙ sym (get-kept c))
    where
      loose : IsLoose w roots d
      loose = has.one d refl

      gone : is_reached w roots d ≡ false
      gone = test (is_reached w roots d) refl
        where
          test : (b : Bool) → is_reached w roots d ≡ b → is_reached w roots d ≡ false
          test true is = absurd (loose.loose (way_of_reached w roots d is))
          test false is = is

      at : (c : Name) (b : Bool) → eq_by_cmp name_cmp c d ≡ b → (o : Option Context) → fm.get w.contexts c ≡ o →
          cond (eq_by_cmp name_cmp c d) None (fm.get w.contexts c) ≡ cond (is_reached w roots c) (fm.get w.contexts c) None
      at c true tied o is =
          let same : c ≡ d = same_name c d tied in
          ap (λ b. cond b None (fm.get w.contexts c)) tied ∙ sym (ap (λ b. cond b (fm.get w.contexts c) None) (ap (is_reached w roots) same ∙ gone))
      at c false differs None is =
          ap (λ b. cond b None (fm.get w.contexts c)) differs ∙ is ∙ sym (ap (λ o. cond (is_reached w roots c) o None) is ∙ nowhere (is_reached w roots c))
        where
          nowhere : (b : Bool) → cond {A = Option Context} b None None ≡ None
          nowhere true = refl
          nowhere false = refl
      at c false differs (Some x) is =
          elim (reached-or w names roots (Some d) has c (way_of_reached w names c (reached c (lives c x is))) (lives c x is)) [
            | inl one ↦
                absurd
                (let same : d ≡ c = same_some d c one in
                let tied : eq_by_cmp name_cmp c d ≡ true = ap (eq_by_cmp name_cmp c) same ∙ name-itself c in
                false≢true (sym differs ∙ tied))
            | inr there ↦ ap (λ b. cond b None (fm.get w.contexts c)) differs ∙ sym (ap (λ b. cond b (fm.get w.contexts c) None) (reached_by_way w roots c there (lives c x is)))
          ]
