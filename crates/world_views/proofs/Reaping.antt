-- What is dropped of a job's contexts and groups is the same in two worlds that look alike to it, where it has the same roots.
use Rattle.std.proofs.Common.{◌≡◌, ℕ, refl, sym, ap, subst, ◌∙◌, Bool, true, false, cond, ◌||◌, Option, Some, None, List, [], ◌∷◌, map}
use Rattle.std.proofs.lemmas.Bool.{false≢true}
use Rattle.std.specs.Prelude.{is_some, unwrap_or}
use Rattle.std.specs.List.{list_any, range_with_len}
use Rattle.std.specs.Option.{option_map}
use Rattle.std.specs.Ordering.{eq_by_cmp}
use Rattle.std.specs.FinMap as fm
use Rattle.std.specs.FinMap.Entries.{find}
use Rattle.lwc_base.specs.Cells.{slot_at}
use Rattle.lwc_base.specs.Holders.{InCell, InContext, Keeps}
use Rattle.lwc_base.specs.Keys.{ValueOf}
use Rattle.lwc_base.specs.Life.{Link, Reaches, Root, is_among, is_in, is_of, is_reached, links, names_group, reap}
use Rattle.lwc_base.specs.World.{World, Context, context, is_live, new_context}
use Rattle.lwc_base.specs.declared.cell.Cell.{Cell}
use Rattle.lwc_base.specs.declared.cell.Cell.TheVariants.{Own, Common}
use Rattle.lwc_base.specs.declared.descriptor.Descriptor.{Descriptor}
use Rattle.lwc_base.specs.declared.descriptor.Descriptor.TheVariants.{Ctx}
use Rattle.lwc_base.proofs.Facts.{orders}
use Rattle.lwc_base.proofs.Life.{or_right, reached_by_way, way_of_reached}
use Rattle.lwc_base.proofs.Reaped.{number_in, some_key, some_value}
use Rattle.lwc_types.specs.Names.{name_cmp}
use Rattle.lwc_types.specs.Registers.{fresh_registers}
use Rattle.lwc_types.specs.declared.key.TheConstants.{SLOTS}
use Rattle.lwc_types.specs.declared.key.Key.{Key}
use Rattle.lwc_types.specs.declared.key.Key.TheVariants.{Slot}
use Rattle.lwc_types.specs.declared.name.Name.{Name}
use Rattle.lwc_types.proofs.Orders.{same_name}
use Rattle.lwc_types.proofs.Small.{same_bool}
use Rattle.world_views.proofs.JobTables.{at}
use Rattle.world_views.proofs.Keeping.{value_at-in}
use Rattle.world_views.proofs.Reading.{live-alike, value-alike}
use Rattle.world_views.proofs.Views.{contexts-alike, groups-alike, next-alike, pages-alike, same_views, seen}
use Rattle.world_views.specs.ByJob.{Home, IsSlotOf, SameRoots, by_job}
use Rattle.world_views.specs.Views.{seen_by, view}

module _ {X : Type 0} where
  any_entry : (test : X → Bool) (q : Name) (x : X) (es : List (Name × X)) → find name_cmp q es ≡ Some x → test x ≡ true → list_any test (map (λ (e : Name × X). e.1) es) ≡ true
  any_entry test q x [] there passes = cc
  any_entry test q x (e ∷ es) there passes = by_first (any_entry test q x es) (eq_by_cmp name_cmp q e.0) there
    where
      by_first : (find name_cmp q es ≡ Some x → test x ≡ true → list_any test (map (λ (f : Name × X). f.1) es) ≡ true) → (b : Bool) → cond b (Some e.1) (find name_cmp q es) ≡ Some x →
          (test e.1 || list_any test (map (λ (f : Name × X). f.1) es)) ≡ true
      by_first later true is = ap (λ b. b || list_any test (map (λ (f : Name × X). f.1) es)) (ap (λ o. test (unwrap_or o x)) is ∙ passes)
      by_first later false is = or_right (test e.1) _ (later is passes)

  any_value : (test : X → Bool) (m : fm.FinMap name_cmp X) (q : Name) (x : X) → fm.get m q ≡ Some x → test x ≡ true → list_any test (fm.values m) ≡ true
  any_value test m q x there passes = any_entry test q x (fm.entries m) (sym (fm.get-entries m q) ∙ there) passes

  get-kept : (m : fm.FinMap name_cmp X) (p : Name → Bool) (q : Name) → fm.get (fm.retain_keys m p) q ≡ cond (p q) (fm.get m q) None
  get-kept m p q = fm.get-retain_keys m p q (λ x tie. ap p (sym (orders.one_name q x tie)))

was_there : {X : Type 0} (b : Bool) (o : Option X) (x : X) → cond b o None ≡ Some x → o ≡ Some x
was_there true o x e = e
was_there false o x e = cc

where_kept : {X Y : Type 0} (f g : X → Y) (a b : Bool) (o p : Option X) → (is_some o ≡ true → a ≡ b) → option_map f o ≡ option_map g p →
    option_map f (cond a o None) ≡ option_map g (cond b p None)
where_kept f g true true o p tests same = same
where_kept f g false false o p tests same = refl
where_kept f g true false None p tests same = refl
where_kept f g true false (Some x) p tests same = absurd (false≢true (sym (tests refl)))
where_kept f g false true None p tests same = same
where_kept f g false true (Some x) p tests same = absurd (false≢true (tests refl))

found_too : {X Y : Type 0} (f g : X → Y) (o p : Option X) (x : X) → o ≡ Some x → option_map f o ≡ option_map g p → (y : X) × (p ≡ Some y) × (f x ≡ g y)
found_too f g o None x is same = let clash : Some (f x) ≡ None = sym (ap (option_map f) is) ∙ same in cc
found_too f g o (Some y) x is same = (y, refl, ap (λ q. unwrap_or q (f x)) (sym (ap (option_map f) is) ∙ same))

module _ (home : Home) where
  slot_job : (job : ℕ) (c : Name) (d : Descriptor) → IsSlotOf job d → is_of c d ≡ true → c.job ≡ job
  slot_job job c (Ctx name cap) fits e = ap (λ (n : Name). n.job) (sym (same_name name c e)) ∙ fits
  slot_job job c _ fits e = absurd (false≢true e)

  -- a descriptor leads to a context of its own job
  pub links-job : (w : World) (d c : Name) → Keeps (by_job home) w → links w d c ≡ true → c.job ≡ d.job
  unfolding links
  links-job w d c keeps e =
      let found = number_in (λ n. is_of c (slot_at w d n)) SLOTS 0 e in
      slot_job d.job c (slot_at w d found.0) (value_at-in home w keeps d (Slot found.0)) found.3

  cell_job : (job : ℕ) (k : Key) (g : Name) (cell : Cell (ValueOf k)) → InCell (by_job home) job k cell → is_in g cell ≡ true → g.job ≡ job
  cell_job job k g (Own value) fits e = absurd (false≢true e)
  cell_job job k g (Common h) fits e = ap (λ (n : Name). n.job) (sym (same_name h g e)) ∙ fits

  names_group-job : (pages job : ℕ) (g : Name) (x : Context) → InContext (by_job home) job x → names_group pages g x ≡ true → g.job ≡ job
  unfolding names_group
  names_group-job pages job g x within e = let found = some_key pages (λ k. is_in g (x.cell k)) e in cell_job job found.0 g (x.cell found.0) (within found.0) found.2

  names_group-seen : (t pages : ℕ) (g : Name) (x : Context) → names_group pages g (seen_by t x) ≡ names_group pages g x
  unfolding names_group
  names_group-seen t pages g x = refl

  module _ (job t s : ℕ) (w v : World) (roots others : List Name) (keeps : Keeps (by_job home) w) (alike : view job t w ≡ view job s v) (same : SameRoots job roots others) where
    here : (c : Name) → c.job ≡ job → view c.job t w ≡ view c.job s v
    here c own = subst (λ j. view j t w ≡ view j s v) (sym own) alike

    links-alike : (d c : Name) → d.job ≡ job → links w d c ≡ links v d c
    unfolding links
    links-alike d c own = λ i. list_any (λ n. is_of c (value-alike t s d w v (here d own) home keeps (Slot n) i)) (range_with_len 0 SLOTS)

    -- a chain to a context of the job in the one world is one in the other
    chain-alike : (c : Name) → Reaches w roots c → c.job ≡ job → Reaches v others c
    chain-alike _ (Root c e) own = Root c (sym (subst (λ j. is_among roots (at j c.k) ≡ is_among others (at j c.k)) (sym own) (same c.k)) ∙ e)
    chain-alike _ (Link d c there live link) own =
        let of_job : d.job ≡ job = sym (links-job w d c keeps link) ∙ own in
        Link d c (chain-alike d there of_job) (sym (live-alike t s d w v (here d of_job)) ∙ live) (sym (links-alike d c of_job) ∙ link)

    reached-alike : (k : ℕ) → is_live w (at job k) ≡ true → is_reached w roots (at job k) ≡ true → is_reached v others (at job k) ≡ true
    reached-alike k live e = reached_by_way v others (at job k) (chain-alike (at job k) (way_of_reached w roots (at job k) e) refl) (sym (live-alike t s (at job k) w v alike) ∙ live)

  module _ (job t s : ℕ) (w v : World) (roots others : List Name) (keeps_w : Keeps (by_job home) w) (keeps_v : Keeps (by_job home) v) (alike : view job t w ≡ view job s v)
      (same : SameRoots job roots others) where
    same_reached : (k : ℕ) → is_live w (at job k) ≡ true → is_reached w roots (at job k) ≡ is_reached v others (at job k)
    same_reached k live =
        same_bool _ _ (reached-alike job t s w v roots others keeps_w alike same k live)
        (reached-alike job s t v w others roots keeps_v (sym alike) (λ n. sym (same n)) k (sym (live-alike t s (at job k) w v alike) ∙ live))

    kept-alike : (k : ℕ) → seen t (fm.get (fm.retain_keys w.contexts (is_reached w roots)) (at job k)) ≡ seen s (fm.get (fm.retain_keys v.contexts (is_reached v others)) (at job k))
    kept-alike k =
        ap (seen t) (get-kept w.contexts (is_reached w roots) (at job k))
        ∙ where_kept (seen_by t) (seen_by s) (is_reached w roots (at job k)) (is_reached v others (at job k)) _ _ (same_reached k) (contexts-alike job t s w v alike k)
        ∙ sym (ap (seen s) (get-kept v.contexts (is_reached v others) (at job k)))

    -- a group of the job that a kept context names in the one world, one names in the other
    named-alike : (k : ℕ) → list_any (names_group w.size.pages (at job k)) (fm.values (fm.retain_keys w.contexts (is_reached w roots))) ≡ true →
        list_any (names_group v.size.pages (at job k)) (fm.values (fm.retain_keys v.contexts (is_reached v others))) ≡ true
    unfolding context
    named-alike k e =
        let found = some_value (names_group w.size.pages (at job k)) (fm.retain_keys w.contexts (is_reached w roots)) e in
        let q : Name = found.0 in
        let live : fm.get w.contexts q ≡ Some found.1 = was_there (is_reached w roots q) (fm.get w.contexts q) found.1 (sym (get-kept w.contexts (is_reached w roots) q) ∙ found.2) in
        let within : InContext (by_job home) q.job found.1 =
        subst (λ o. InContext (by_job home) q.job (unwrap_or o (new_context 0 (fresh_registers 0)))) live (keeps_w.contexts q (ap is_some live)) in
        let own : job ≡ q.job = names_group-job w.size.pages q.job (at job k) found.1 within found.3 in
        let kept = subst (λ j. seen t (fm.get (fm.retain_keys w.contexts (is_reached w roots)) (at j q.k)) ≡ seen s (fm.get (fm.retain_keys v.contexts (is_reached v others)) (at j q.k))) own (kept-alike q.k) in
        let there = found_too (seen_by t) (seen_by s) _ _ found.1 found.2 kept in
        let names : names_group v.size.pages (at job k) there.0 ≡ true =
        sym (names_group-seen s v.size.pages (at job k) there.0) ∙ ap (names_group v.size.pages (at job k)) (sym there.2) ∙ names_group-seen t v.size.pages (at job k) found.1
        ∙ ap (λ n. names_group n (at job k) found.1) (sym (pages-alike job t s w v alike)) ∙ found.3 in
        any_value (names_group v.size.pages (at job k)) (fm.retain_keys v.contexts (is_reached v others)) q there.0 there.1 names

  pub alike-reap : (job t s : ℕ) (w v : World) (roots others : List Name) → Keeps (by_job home) w → Keeps (by_job home) v → view job t w ≡ view job s v → SameRoots job roots others →
      view job t (reap w roots) ≡ view job s (reap v others)
  unfolding reap
  alike-reap job t s w v roots others keeps_w keeps_v alike same =
      let named = λ (k : ℕ). same_bool _ _ (named-alike job t s w v roots others keeps_w keeps_v alike same k) (named-alike job s t v w others roots keeps_v keeps_w (sym alike) (λ n. sym (same n)) k) in
      same_views job t s _ _ (kept-alike job t s w v roots others keeps_w keeps_v alike same)
      (λ k. get-kept w.groups (λ g. list_any (names_group w.size.pages g) (fm.values (fm.retain_keys w.contexts (is_reached w roots)))) (at job k)
      ∙ (λ i. cond (named k i) (groups-alike job t s w v alike k i) None)
      ∙ sym (get-kept v.groups (λ g. list_any (names_group v.size.pages g) (fm.values (fm.retain_keys v.contexts (is_reached v others)))) (at job k)))
      (next-alike job t s w v alike) (pages-alike job t s w v alike)
