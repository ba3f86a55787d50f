-- Sound worlds: the empty world is one, and each change that a run makes keeps a world sound.
use Rattle.std.proofs.Common.{◌≡◌, ◌≢◌, ℕ, ◌<◌, ◌≤◌, refl, sym, ap, subst, ◌∙◌, inl, inr, true, List, Some, None, arith, rules}
use Rattle.std.specs.FinMap as fm
use Rattle.std.proofs.lemmas.Bool.{cases_Bool}
use Rattle.lwc_base.specs.declared.cell.Cell.{Cell}
use Rattle.lwc_base.specs.declared.cell.Cell.TheVariants.{Own, Common}
use Rattle.lwc_base.specs.declared.descriptor.Descriptor.{Descriptor}
use Rattle.lwc_base.specs.declared.item.Item.{Item}
use Rattle.lwc_base.specs.declared.item.Mode.{Mode}
use Rattle.lwc_base.specs.Cells.{page_at, put_at, put_slot, put_uid, with_value}
use Rattle.lwc_base.specs.Facts.{ChangesGroup, SharesValues}
use Rattle.lwc_base.specs.Fresh.{IsFresh, Rises, named_groups}
use Rattle.lwc_base.specs.Holders.{Rules, everywhere, InCell, InContext, Keeps}
use Rattle.lwc_base.specs.Keys.{ValueOf, is_there, nothing}
use Rattle.lwc_base.specs.Mapping.{map_pages, unmap_pages}
use Rattle.lwc_base.specs.Life.{reap}
use Rattle.lwc_base.specs.Modes.{IsKey, IsSpec, mode_or_copy}
use Rattle.lwc_base.specs.Overlay.{overlay, with_overlay}
use Rattle.lwc_base.specs.Saved.{save, with_saved}
use Rattle.lwc_base.specs.Sharing.{cloned_context, clone_context, is_moved, moved_value, moved_values, needs_group, share}
use Rattle.lwc_base.specs.Sound.{HasItsGroups, HasValue, IsSound, IsSoundPage, IsSoundValue, common_keys, live_groups, sound_pages}
use Rattle.lwc_base.specs.World.{World, Context, Group, context, group, is_live, new_context, new_value, change_context, change_counters, change_group, add_context, empty_world, next_group}
use Rattle.lwc_base.proofs.Fresh.{fresh-empty_world, fresh-put_at, fresh-map_pages, fresh-unmap_pages, fresh-add_context, fresh-overlay, fresh-save, fresh-share, rises-itself, rises-with_context, rises-with_group}
use Rattle.lwc_base.proofs.Holders.{keeps-weaker, in_cell-weaker, keeps-empty_world, keeps-change_counters, keeps-put_at, keeps-on_pages, keeps-add_context, keeps-change_context, keeps-share, keeps-with_overlay, value_at-keeps, in_clone, lets-everywhere}
use Rattle.lwc_base.proofs.ItemModes.{named-key}
use Rattle.lwc_base.proofs.Keys.{with_key-cases}
use Rattle.lwc_base.proofs.Lookups.{changes-change_context, changes-change_group, group-cases}
use Rattle.lwc_base.proofs.Puts.{after_put_at}
use Rattle.lwc_base.proofs.Reaped.{context-kept, group-kept, group-left, live-was_live}
use Rattle.lwc_base.proofs.Reaps.{fresh-reap, keeps-reap}
use Rattle.lwc_base.proofs.Sharing.{shares-share}
use Rattle.lwc_types.specs.declared.counters.Counters.{Counters}
use Rattle.lwc_types.specs.declared.key.Key.{Key}
use Rattle.lwc_types.specs.declared.key.Key.TheVariants.{Page, Slot, Cred}
use Rattle.lwc_types.specs.declared.name.Name.{Name}
use Rattle.lwc_types.specs.declared.name.Tag.{Tag}
use Rattle.lwc_types.specs.declared.page.PageValue.TheVariants.{Zero, Data}
use Rattle.lwc_types.specs.declared.regs.Regs.{Regs}
use Rattle.lwc_types.specs.declared.size.WorldSize.{WorldSize}

-- a world has at least what another has: its size, its names and tags, and something wherever a group has something
pub record Extends (w v : World) : Type 0 where
  pub size : v.size ≡ w.size
  pub next : (job : ℕ) → Rises (w.next job) (v.next job)
  pub values : (k : Key) (g : Name) → HasValue w k g → HasValue v k g

rises-same : (next later : ℕ → Counters) (job : ℕ) → later ≡ next → Rises (next job) (later job)
rises-same next later job same = subst (λ (n : ℕ → Counters). Rises (next job) (n job)) (sym same) (rises-itself (next job))

has_value-same : (w v : World) (k : Key) (g : Name) → fm.contains_key v.groups g ≡ fm.contains_key w.groups g → group v g ≡ group w g → HasValue w k g → HasValue v k g
has_value-same w v k g live same has = search rules

pub extends-itself : (w : World) → Extends w w
extends-itself w = search (rules, rises-itself)

-- a change of one context
pub extends-change_context : (w : World) (c : Name) (f : Context → Context) → Extends w (change_context w c f)
extends-change_context w c f = let changes = changes-change_context w c f in search (rules, rises-same, has_value-same)

pub extends-put_at : (w : World) (c : Name) (k : Key) (value : ValueOf k) → is_there k value ≡ true → Extends w (put_at w c k value)
extends-put_at w c k value there =
    after_put_at (Extends w) w c k value (λ _ _ _. extends-itself w) (λ _ _ _. extends-change_context w c _)
    (λ g _. let changes : ChangesGroup w g (with_value k value) (change_group w g (with_value k value)) = changes-change_group w g _ in
    record {
      size = changes.names.size;
      next = λ job. rises-same w.next (change_group w g (with_value k value)).next job changes.names.next;
      values = λ q h has. record {
        live = changes.names.groups h ∙ has.live;
        there = group-cases w g (with_value k value) _ changes (λ n x. is_there q ((group w n).value q) ≡ true → is_there q (x.value q) ≡ true)
            (λ _ old. with_key-cases (λ T. T) k value (group w g).value (λ r x. is_there r x ≡ true) there q (λ _. old)) h (λ old. old) has.there;
      };
    })

extends-add_context : (w : World) (job : ℕ) (x : Context) → Extends w (add_context w job x)
unfolding add_context change_counters group
extends-add_context w job x = record { size = refl; next = rises-with_context w.next job; values = λ k g has. has_value-same w (add_context w job x) k g refl refl has }

-- what cells may name and values may be in a sound world
abbrev sound_rules : World → (Tag → ℕ) → Rules
sound_rules w home = everywhere (λ k g. HasValue w k g × IsKey w.size.pages k) (IsSoundValue w home)

module _ (w : World) (sound : IsSound w) where
  in_sound_cell : (job : ℕ) (k : Key) (cell : Cell (ValueOf k)) → InCell (live_groups w) job k cell → InCell (common_keys w) job k cell →
      InCell (sound_pages w sound.home) job k cell → InCell (sound_rules w sound.home) job k cell
  in_sound_cell job k (Own value) group key is = is
  in_sound_cell job k (Common g) group key is = (group, key)

  pub sound-rules : Keeps (sound_rules w sound.home) w
  sound-rules = search (rules, in_sound_cell)

-- a world is sound whose cells and values are so
pub sound-by : (w : World) (home : Tag → ℕ) → IsFresh w → Keeps (sound_rules w home) w → IsSound w
sound-by w home fresh keeps = record {
  fresh = fresh;
  groups = keeps-weaker (sound_rules w home) (live_groups w) (λ job k g is. is.0) (λ job k value is. tt) w keeps;
  keys = keeps-weaker (sound_rules w home) (common_keys w) (λ job k g is. is.1) (λ job k value is. tt) w keeps;
  home = home;
  pages = keeps-weaker (sound_rules w home) (sound_pages w home) (λ job k g is. tt) (λ job k value is. is) w keeps;
}

-- what is sound is so in a world as large, where no fewer tags have been taken and each keeps its page number
module _ (w v : World) (home later : Tag → ℕ) (size : v.size ≡ w.size) (next : (job : ℕ) → (w.next job).tags ≤ (v.next job).tags)
    (same : (tag : Tag) → tag.k < (w.next tag.job).tags → later tag ≡ home tag) where
  pub within : (p : ℕ) → p < w.size.pages → p < v.size.pages
  within p there = subst (λ (s : WorldSize). p < s.pages) (sym size) there

  pub sound_value-extends : (k : Key) (value : ValueOf k) → IsSoundValue w home k value → IsSoundValue v later k value
  sound_value-extends (Page p) None is = tt
  sound_value-extends (Page p) (Some Zero) is = within p is
  sound_value-extends (Page p) (Some (Data tag bytes)) is =
      (within p is.0, record { whole = is.1.whole; old = omega (arith, is.1.old, next tag.job); at_home = same tag is.1.old ∙ is.1.at_home })
  sound_value-extends (Slot n) value is = tt
  sound_value-extends Cred value is = tt

  pub pages-extends : (u : World) → Keeps (sound_pages w home) u → Keeps (sound_pages v later) u
  pages-extends = keeps-weaker (sound_pages w home) (sound_pages v later) (λ i q g here. tt) (λ i. sound_value-extends)

module _ (w v : World) (home : Tag → ℕ) (more : Extends w v) where
  value-extends : (job : ℕ) (k : Key) (value : ValueOf k) → IsSoundValue w home k value → IsSoundValue v home k value
  value-extends job = sound_value-extends w v home home more.size (λ j. (more.next j).tags) (λ tag _. refl)

  may_name-extends : (k : Key) (g : Name) → HasValue w k g × IsKey w.size.pages k → HasValue v k g × IsKey v.size.pages k
  may_name-extends k g is = (more.values k g is.0, subst (λ (s : WorldSize). IsKey s.pages k) (sym more.size) is.1)

  in_cell-extends : (job : ℕ) (k : Key) (cell : Cell (ValueOf k)) → InCell (sound_rules w home) job k cell → InCell (sound_rules v home) job k cell
  in_cell-extends = in_cell-weaker (sound_rules w home) (sound_rules v home) (λ job. may_name-extends) value-extends

  rules-extends : (u : World) → Keeps (sound_rules w home) u → Keeps (sound_rules v home) u
  rules-extends = keeps-weaker (sound_rules w home) (sound_rules v home) (λ job. may_name-extends) value-extends

-- a world that has at least as much stays sound, where what is put at holders is sound
sound-extends : (w v : World) → Extends w v → IsFresh v → (sound : IsSound w) → (Keeps (sound_rules v sound.home) w → Keeps (sound_rules v sound.home) v) → IsSound v
sound-extends w v more fresh sound keeps = sound-by v sound.home fresh (keeps (rules-extends w v sound.home more w (sound-rules w sound)))

pub sound_nothing : (w : World) (home : Tag → ℕ) (k : Key) → IsSoundValue w home k (nothing k)
sound_nothing w home k = search rules

-- what is under a page of a live context, where each page is sound
pub page_at-sound : (w u : World) (home : Tag → ℕ) (c : Name) → is_live u c ≡ true → Keeps (sound_pages w home) u → (p : ℕ) → IsSoundPage w home p (page_at u c p)
page_at-sound w u home c live keeps p =
    value_at-keeps (sound_pages w home) u c live (λ i k. sound_nothing w home k) (λ k g value _ is. is) keeps (Page p)

pub sound-empty_world : (size : WorldSize) → IsSound (empty_world size)
sound-empty_world size = sound-by (empty_world size) (λ tag. 0) (fresh-empty_world size) (keeps-empty_world _ size)

pub groups-put_at : (w : World) (c : Name) (k : Key) (value : ValueOf k) → is_there k value ≡ true → HasItsGroups w → HasItsGroups (put_at w c k value)
groups-put_at w c k value there groups =
    let v : World = put_at w c k value in
    keeps-put_at (live_groups v) w c k value tt (λ g _. tt)
    (keeps-weaker (live_groups w) (live_groups v) (λ job. (extends-put_at w c k value there).values) (λ job k value is. tt) w groups)

pub groups-change_counters : (w : World) (job : ℕ) (f : Counters → Counters) → HasItsGroups w → HasItsGroups (change_counters w job f)
unfolding change_counters group
groups-change_counters w job f groups = search (rules, keeps-change_counters, keeps-weaker)

-- something is put that may be anywhere
sound-put_at : (w : World) (c : Name) (k : Key) (value : ValueOf k) → is_there k value ≡ true → ((v : World) (home : Tag → ℕ) → IsSoundValue v home k value) →
    IsSound w → IsSound (put_at w c k value)
sound-put_at w c k value there fits sound =
    let v : World = put_at w c k value in
    sound-extends w v (extends-put_at w c k value there) (fresh-put_at w c k value sound.fresh) sound
    (keeps-put_at (sound_rules v sound.home) w c k value (fits v sound.home) (λ g _. fits v sound.home))

pub sound-put_slot : (w : World) (c : Name) (n : ℕ) (value : Descriptor) → IsSound w → IsSound (put_slot w c n value)
sound-put_slot w c n value = sound-put_at w c (Slot n) value refl (λ v home. tt)

pub sound-put_uid : (w : World) (c : Name) (uid : ℕ) → IsSound w → IsSound (put_uid w c uid)
sound-put_uid w c uid = sound-put_at w c Cred uid refl (λ v home. tt)

pub sound-map_pages : (w : World) (c : Name) (from to : ℕ) → to ≤ w.size.pages → IsSound w → IsSound (map_pages w c from to)
unfolding map_pages
sound-map_pages w c from to few sound =
    let v : World = map_pages w c from to in
    let more : Extends w v = extends-change_context w c _ in
    sound-extends w v more (fresh-map_pages w c from to sound.fresh) sound
    (keeps-on_pages (sound_rules v sound.home) w c from to (Some Zero) (λ p below. within w v sound.home sound.home more.size (λ j. (more.next j).tags) (λ tag _. refl) p (omega (arith, below, few))))

pub sound-unmap_pages : (w : World) (c : Name) (from to : ℕ) → IsSound w → IsSound (unmap_pages w c from to)
unfolding unmap_pages
sound-unmap_pages w c from to sound =
    sound-extends w (unmap_pages w c from to) (extends-change_context w c _) (fresh-unmap_pages w c from to sound.fresh) sound
    (keeps-on_pages _ w c from to None (λ p _. tt))

-- a context is added whose cells are as those of a sound world are
sound-add_context : (w : World) (job : ℕ) (x : Context) (sound : IsSound w) → InContext (named_groups w.next) job x → InContext (sound_rules w sound.home) job x →
    IsSound (add_context w job x)
sound-add_context w job x sound names fits =
    let v : World = add_context w job x in
    let more : Extends w v = extends-add_context w job x in
    sound-extends w v more (fresh-add_context w job x names sound.fresh) sound
    (keeps-add_context (sound_rules v sound.home) w job x (λ k. in_cell-extends w v sound.home more job k (x.cell k) (fits k)))

pub sound-add_new_context : (w : World) (job uid : ℕ) (entry : Regs) → IsSound w → IsSound (add_context w job (new_context uid entry))
sound-add_new_context w job uid entry sound = sound-add_context w job (new_context uid entry) sound (λ k. tt) new
  where
    new : (k : Key) → IsSoundValue w sound.home k (new_value uid k)
    new k = search rules

moved_there : (mode : Mode) (k : Key) (cell : Cell (ValueOf k)) → is_moved mode k cell ≡ true → is_there k (moved_value mode k cell) ≡ true
moved_there mode k cell is = grind arith

-- a key under which a value moves is named by an item
moved-key : (pages : ℕ) (items : List Item) (k : Key) (cell : Cell (ValueOf k)) → IsSpec pages items → is_moved (mode_or_copy items k) k cell ≡ true → IsKey pages k
unfolding mode_or_copy
moved-key pages items k cell spec moves = named-key pages items k spec (grind arith)

module _ (w : World) (c : Name) (job : ℕ) (items : List Item) (spec : IsSpec w.size.pages items) (live : is_live w c ≡ true) (sound : IsSound w) where
  abbrev shared : World
  shared = share w c job items

  pub sound-share : IsSound shared
  unfolding moved_values
  sound-share =
      let shares : SharesValues w c job items shared = shares-share w c job items in
      elim (cases_Bool (needs_group w c items)) [
        | inr none ↦ subst IsSound (sym (shares.none none)) sound
        | inl needs ↦
            let more : Extends w shared = record {
              size = shares.size;
              next = λ j. subst (λ (n : ℕ → Counters). Rises (w.next j) (n j)) (sym (shares.next needs)) (rises-with_group w.next job j);
              values = λ k g has. let old = sound.fresh.groups g has.live in
                  let other : g ≢ next_group w job = λ same. grind arith in has_value-same w shared k g (shares.still_live g other) (shares.groups g other) has;
            } in
            sound-extends w shared more (fresh-share w c job items live sound.fresh) sound
            (λ keeps. keeps-share (sound_rules shared sound.home) w c job items live (λ i k. sound_nothing shared sound.home k) (lets-everywhere _ _ c.job job) keeps
            (λ k moves. (
              record {
                live = shares.new_group needs;
                there = ap (λ (x : Group). is_there k (x.value k)) (shares.moved needs) ∙ moved_there (mode_or_copy items k) k ((context w c).cell k) moves;
              },
              subst (λ (s : WorldSize). IsKey s.pages k) (sym shares.size) (moved-key w.size.pages items k ((context w c).cell k) spec moves),
            )))
      ]

  pub sound-clone_context : (entry : Regs) → IsSound (clone_context w c job items entry)
  unfolding clone_context
  sound-clone_context entry =
      let there : is_live shared c ≡ true = (shares-share w c job items).live c ∙ live in
      sound-add_context shared job (cloned_context shared c items entry) sound-share
      (in_clone (named_groups shared.next) shared c job items there (λ i k. tt) (lets-everywhere _ _ c.job job) sound-share.fresh.cells entry (λ k g value _ _. tt))
      (in_clone (sound_rules shared sound-share.home) shared c job items there (λ i k. sound_nothing shared sound-share.home k) (lets-everywhere _ _ c.job job)
      (sound-rules shared sound-share) entry (λ k g value _ is. is))

pub sound-save : (w : World) (c : Name) (t : ℕ) (regs : Regs) → IsSound w → IsSound (save w c t regs)
unfolding save
sound-save w c t regs sound =
    sound-extends w _ (extends-change_context w c (with_saved t regs)) (fresh-save w c t regs sound.fresh) sound
    (λ keeps. keeps-change_context _ w c (with_saved t regs) (λ live. keeps.contexts c live) keeps)

pub sound-overlay : (w : World) (c d : Name) (job : ℕ) (items : List Item) → IsSpec w.size.pages items → is_live w d ≡ true → IsSound w → IsSound (overlay w c d job items)
unfolding overlay
sound-overlay w c d job items spec there sound =
    let s : World = share w d job items in
    let shared : IsSound s = sound-share w d job items spec there sound in
    let v : World = change_context s c (with_overlay s d items) in
    sound-extends s v (extends-change_context s c (with_overlay s d items)) (fresh-overlay w c d job items there sound.fresh) shared
    (keeps-with_overlay (sound_rules v shared.home) s c d items ((shares-share w d job items).live d ∙ there) (λ i k. sound_nothing v shared.home k) (lets-everywhere _ _ d.job c.job)
    (λ k g value _ is. is))

-- what cells of a sound world name is left with what it has
pub sound-reap : (w : World) (roots : List Name) → IsSound w → IsSound (reap w roots)
unfolding reap
sound-reap w roots sound = record {
  fresh = fresh-reap w roots sound.fresh;
  groups = record { contexts = λ c live k. in_reaped c live k ((context (reap w roots) c).cell k) refl; groups = λ g live k. tt };
  keys = keeps-reap w roots (common_keys w) sound.keys;
  home = sound.home;
  pages = pages-extends w (reap w roots) sound.home sound.home refl (λ j. omega arith) (λ tag old. refl) (reap w roots)
      (keeps-reap w roots (sound_pages w sound.home) sound.pages);
}
  where
    in_reaped : (c : Name) → is_live (reap w roots) c ≡ true → (k : Key) (cell : Cell (ValueOf k)) → (context (reap w roots) c).cell k ≡ cell → InCell (live_groups (reap w roots)) c.job k cell
    in_reaped c live k (Own value) is = tt
    in_reaped c live k (Common g) is =
        let was = live-was_live w roots c live in
        let before : (context w c).cell k ≡ Common g = ap (λ (x : Context). x.cell k) (sym (context-kept w roots c live)) ∙ is in
        let key : IsKey w.size.pages k = subst (InCell (common_keys w) c.job k) before (sound.keys.contexts c was k) in
        let has : HasValue w k g = subst (InCell (live_groups w) c.job k) before (sound.groups.contexts c was k) in
        let left = group-left w roots c g k key live before has.live in
        record { live = left; there = ap (λ (x : Group). is_there k (x.value k)) (group-kept w roots g left) ∙ has.there }
