-- Each job has what is its own, after each change that puts nothing else there; and no change is seen by another job.
use Rattle.std.proofs.Common.{◌≡◌, ◌≢◌, inl, ℕ, ◌<◌, refl, sym, ap, subst, ◌∙◌, Bool, true, false, Option, Some, None, List, [], ◌∷◌, length}
use Rattle.std.proofs.lemmas.Bool.{cond_both}
use Rattle.std.specs.List.{AllByRecursion}
use Rattle.std.specs.Prelude.{is_some, unwrap_or}
use Rattle.std.specs.FinMap as fm
use Rattle.lwc_base.specs.Cells.{page_at, put_at, put_in, put_page, value_at, value_of}
use Rattle.lwc_base.specs.Frames.{own_value, tag_of}
use Rattle.lwc_base.specs.Holders.{InCell, InContext, InGroup, Keeps}
use Rattle.lwc_base.specs.Keys.{ValueOf, is_there, nothing}
use Rattle.lwc_base.specs.Mapping.{map_pages, mapped_or_not, unmap_pages}
use Rattle.lwc_base.specs.Memory.{touched}
use Rattle.lwc_base.specs.Modes.{mode, mode_or_copy}
use Rattle.lwc_base.specs.Overlay.{overlaid_cell, overlay}
use Rattle.lwc_base.specs.Saved.{save}
use Rattle.lwc_base.specs.Sharing.{clone_context, cloned_cell, cloned_context, is_moved, moved_value, moved_values, needs_group, share, shared_cell, with_shared}
use Rattle.lwc_base.specs.Store.{Piece, after_store, stored_pages, put_pages, stored_value}
use Rattle.lwc_base.specs.World.{World, Context, Group, add_context, context, group, new_context, new_group, new_value, next_group}
use Rattle.lwc_base.specs.declared.cell.Cell.{Cell}
use Rattle.lwc_base.specs.declared.cell.Cell.TheVariants.{Own, Common}
use Rattle.lwc_base.specs.declared.item.Item.{Item}
use Rattle.lwc_base.specs.declared.item.Mode.{Mode}
use Rattle.lwc_base.specs.declared.item.Mode.TheVariants.{Copy, Share, Unmap, CopyRead}
use Rattle.lwc_base.proofs.Holders as holders
use Rattle.lwc_base.proofs.Holders.{keeps-add_context, keeps-add_group, keeps-change_context, keeps-change_counters, keeps-on_pages}
use Rattle.lwc_types.specs.Registers.{fresh_registers}
use Rattle.lwc_types.specs.declared.key.Key.{Key}
use Rattle.lwc_types.specs.declared.key.Key.TheVariants.{Page, Slot, Cred}
use Rattle.lwc_types.specs.declared.name.Name.{Name}
use Rattle.lwc_types.specs.declared.page.PageValue.{PageValue}
use Rattle.lwc_types.specs.declared.page.PageValue.TheVariants.{Zero, Data}
use Rattle.lwc_types.specs.declared.regs.Regs.{Regs}
use Rattle.world_views.proofs.JobTables.{at}
use Rattle.world_views.proofs.Views.{contexts-alike, hidden-add_context, hidden-add_group, hidden-change_context, hidden-change_counters, hidden-change_group, pages-alike, seen}
use Rattle.world_views.specs.ByJob.{Home, HasHome, IsPageOf, IsValueOf, KeepsJobs, by_job}
use Rattle.world_views.specs.JobFacts.{ChangesHidden, ChangesKeepJobs}
use Rattle.world_views.specs.Views.{view}

module _ (home : Home) where
  pub nothing_fits : (job : ℕ) (k : Key) → IsValueOf home job k (nothing k)
  nothing_fits job (Page p) = tt
  nothing_fits job (Slot n) = tt
  nothing_fits job Cred = tt

  new_fits : (job uid : ℕ) (k : Key) → IsValueOf home job k (new_value uid k)
  new_fits job uid (Page p) = tt
  new_fits job uid (Slot n) = tt
  new_fits job uid Cred = tt

  module _ (w : World) (keeps : Keeps (by_job home) w) where
    context_by : (c : Name) (o : Option Context) → fm.get w.contexts c ≡ o → InContext (by_job home) c.job (unwrap_or o (new_context 0 (fresh_registers 0)))
    unfolding context
    context_by c None is = new_fits c.job 0
    context_by c (Some x) is = subst (λ (o : Option Context). InContext (by_job home) c.job (unwrap_or o (new_context 0 (fresh_registers 0)))) is (keeps.contexts c (ap is_some is))

    -- each context keeps the rules, whether it lives or not
    pub context-in : (c : Name) → InContext (by_job home) c.job (context w c)
    unfolding context
    context-in c = context_by c (fm.get w.contexts c) refl

    group_by : (g : Name) (o : Option Group) → fm.get w.groups g ≡ o → InGroup (by_job home) g.job (unwrap_or o new_group)
    unfolding group
    group_by g None is = nothing_fits g.job
    group_by g (Some x) is = subst (λ (o : Option Group). InGroup (by_job home) g.job (unwrap_or o new_group)) is (keeps.groups g (ap is_some is))

    group-in : (g : Name) → InGroup (by_job home) g.job (group w g)
    unfolding group
    group-in g = group_by g (fm.get w.groups g) refl

    value_of-in : (job : ℕ) (k : Key) (cell : Cell (ValueOf k)) → InCell (by_job home) job k cell → IsValueOf home job k (value_of w k cell)
    value_of-in job k (Own value) is = is
    value_of-in job k (Common g) is = subst (λ j. IsValueOf home j k ((group w g).value k)) is (group-in g k)

    -- what is under a key of a context is of its job
    pub value_at-in : (c : Name) (k : Key) → IsValueOf home c.job k (value_at w c k)
    unfolding value_at
    value_at-in c k = value_of-in c.job k ((context w c).cell k) (context-in c k)

    stored_fits : (job n p : ℕ) (parting : Bool) (value : PageValue) (bytes : List ℕ) → IsPageOf home job p (Some value) → IsPageOf home job p (Some (stored_value parting (record { job = job; k = n }) value bytes))
    stored_fits job n p parting Zero bytes is = inl refl
    stored_fits job n p true (Data tag old) bytes is = inl refl
    stored_fits job n p false (Data tag old) bytes is = is

    page_fits : (job p : ℕ) (o : Option PageValue) → IsPageOf home job p o → IsPageOf home job p (Some (unwrap_or o Zero))
    page_fits job p None is = tt
    page_fits job p (Some value) is = is

    -- what a store puts under pages of a context is of its job
    pub stored_pages_fit : (c : Name) (piece : Piece) (ps : List ℕ) (n : ℕ) → AllByRecursion (λ v. IsPageOf home c.job v.0 (Some v.1)) (stored_pages w c c.job piece n ps)
    stored_pages_fit c piece [] n = tt
    stored_pages_fit c piece (p ∷ ps) n =
        (stored_fits c.job n p _ _ _ (page_fits c.job p (page_at w c p) (value_at-in c (Page p))), stored_pages_fit c piece ps _)

  -- a home that job 0 sees as before is as before
  has_home-seen : (w v : World) → view 0 0 v ≡ view 0 0 w → HasHome home w → HasHome home v
  unfolding context
  has_home-seen w v alike has =
      let same : seen 0 (fm.get v.contexts home.name) ≡ seen 0 (fm.get w.contexts home.name) =
      subst (λ (j : ℕ). seen 0 (fm.get v.contexts (at j home.name.k)) ≡ seen 0 (fm.get w.contexts (at j home.name.k))) (sym has.nobody) (contexts-alike 0 0 0 v w alike home.name.k) in
      record {
        nobody = has.nobody;
        live = live_by _ _ same ∙ has.live;
        tags = λ p tag is. let tags = has.tags p tag is in
            (subst (λ n. p < n) (sym (pages-alike 0 0 0 v w alike)) tags.0, tags.1, ap (λ (cell : Cell (Option PageValue)). tag_of (own_value cell)) (cell_by _ _ same p) ∙ tags.2);
      }
    where
      live_by : (a b : Option Context) → seen 0 a ≡ seen 0 b → is_some a ≡ is_some b
      live_by None None is = refl
      live_by (Some x) (Some y) is = refl
      live_by None (Some y) is = cc
      live_by (Some x) None is = cc

      cell_by : (a b : Option Context) → seen 0 a ≡ seen 0 b → (p : ℕ) →
          (unwrap_or a (new_context 0 (fresh_registers 0))).cell (Page p) ≡ (unwrap_or b (new_context 0 (fresh_registers 0))).cell (Page p)
      cell_by None None is p = refl
      cell_by (Some x) (Some y) is p = ap (λ (o : Option Context). (unwrap_or o x).cell (Page p)) is
      cell_by None (Some y) is p = cc
      cell_by (Some x) None is p = cc

  -- a put: what changes is the context's own cell, or a group of its job
  module _ (w : World) (c : Name) (keeps : Keeps (by_job home) w) where
    pub keeps-put_at : (k : Key) (value : ValueOf k) → IsValueOf home c.job k value → Keeps (by_job home) (put_at w c k value)
    keeps-put_at k value fits = holders.keeps-put_at (by_job home) w c k value fits (λ g own. subst (λ j. IsValueOf home j k value) (sym own) fits) keeps

    module _ (job t : ℕ) (other : c.job ≢ job) where
      put_hidden : (k : Key) (value : ValueOf k) (cell : Cell (ValueOf k)) → InCell (by_job home) c.job k cell → view job t (put_in w c k value cell) ≡ view job t w
      put_hidden k value (Own old) is =
          cond_both (is_there k old) _ w (λ v. view job t v ≡ view job t w) (λ _. hidden-change_context job t c w _ other) (λ _. refl)
      put_hidden k value (Common g) is = hidden-change_group job t g w _ (λ same. other (sym is ∙ same))

      pub hidden-put_at : (k : Key) (value : ValueOf k) → view job t (put_at w c k value) ≡ view job t w
      unfolding put_at
      hidden-put_at k value = put_hidden k value ((context w c).cell k) (context-in w keeps c k)

  -- puts of pages
  pub keeps-put_pages : (c : Name) (w : World) (values : List (ℕ × PageValue)) → AllByRecursion (λ v. IsPageOf home c.job v.0 (Some v.1)) values → Keeps (by_job home) w →
      Keeps (by_job home) (put_pages w c values)
  keeps-put_pages c w [] fits keeps = keeps
  keeps-put_pages c w (v ∷ vs) fits keeps = keeps-put_pages c (put_page w c v.0 v.1) vs fits.1 (keeps-put_at w c keeps (Page v.0) (Some v.1) fits.0)

  hidden-put_pages : (c : Name) (job t : ℕ) → c.job ≢ job → (w : World) (values : List (ℕ × PageValue)) → AllByRecursion (λ v. IsPageOf home c.job v.0 (Some v.1)) values →
      Keeps (by_job home) w → view job t (put_pages w c values) ≡ view job t w
  hidden-put_pages c job t other w [] fits keeps = refl
  hidden-put_pages c job t other w (v ∷ vs) fits keeps =
      hidden-put_pages c job t other (put_page w c v.0 v.1) vs fits.1 (keeps-put_at w c keeps (Page v.0) (Some v.1) fits.0)
      ∙ hidden-put_at w c keeps job t other (Page v.0) (Some v.1)

  module _ (c : Name) (w : World) (keeps : Keeps (by_job home) w) where
    pub keeps-after_store : (piece : Piece) → Keeps (by_job home) (after_store w c c.job piece)
    unfolding after_store
    keeps-after_store piece = keeps-change_counters (by_job home) _ c.job _ (keeps-put_pages c w _ (stored_pages_fit w keeps c piece (touched piece.at (length piece.bytes)) _) keeps)

    keeps-mapped : (from to : ℕ) (present : Bool) → Keeps (by_job home) (mapped_or_not w c from to present)
    unfolding map_pages unmap_pages
    keeps-mapped from to true = keeps-on_pages (by_job home) w c from to _ (λ p _. tt) keeps
    keeps-mapped from to false = keeps-on_pages (by_job home) w c from to _ (λ p _. tt) keeps

    keeps-save : (t : ℕ) (regs : Regs) → Keeps (by_job home) (save w c t regs)
    unfolding save
    keeps-save t regs = keeps-change_context (by_job home) w c _ (λ _. context-in w keeps c) keeps

    moved_fits : (job : ℕ) (mode : Mode) (k : Key) (cell : Cell (ValueOf k)) → InCell (by_job home) job k cell → IsValueOf home job k (moved_value mode k cell)
    moved_fits job Share k (Own value) is = is
    moved_fits job _ k _ is = nothing_fits job k

    shared_fits : (g : Name) (mode : Mode) (k : Key) (cell : Cell (ValueOf k)) → g.job ≡ c.job → InCell (by_job home) c.job k cell → InCell (by_job home) c.job k (shared_cell g mode k cell)
    shared_fits g mode k cell own is = cond_both (is_moved mode k cell) (Common g) cell (InCell (by_job home) c.job k) (λ _. own) (λ _. is)

    moved_in : (items : List Item) → InGroup (by_job home) c.job (moved_values items (context w c))
    unfolding moved_values
    moved_in items k = moved_fits c.job (mode_or_copy items k) k ((context w c).cell k) (context-in w keeps c k)

    shared_in : (items : List Item) (g : Name) → g.job ≡ c.job → InContext (by_job home) c.job (context w c) → InContext (by_job home) c.job (with_shared g items (context w c))
    unfolding with_shared
    shared_in items g own within k = shared_fits g (mode_or_copy items k) k ((context w c).cell k) own (within k)

    -- values are shared in a group of the context's job
    pub keeps-share : (job : ℕ) → c.job ≡ job → (items : List Item) → Keeps (by_job home) (share w c job items)
    unfolding share
    keeps-share job own items =
        cond_both (needs_group w c items) _ w (Keeps (by_job home))
        (λ _. keeps-add_group (by_job home) _ job _ (subst (λ j. InGroup (by_job home) j (moved_values items (context w c))) own (moved_in items))
        (keeps-change_context (by_job home) w c (with_shared (next_group w job) items) (λ _. shared_in items (next_group w job) (sym own) (context-in w keeps c)) keeps))
        (λ _. keeps)

    cloned_fits : (k : Key) (mode : Mode) → InCell (by_job home) c.job k (cloned_cell w c k mode)
    cloned_fits k Copy = value_at-in w keeps c k
    cloned_fits k Share = context-in w keeps c k
    cloned_fits k Unmap = nothing_fits c.job k
    cloned_fits k CopyRead = value_at-in w keeps c k

    cloned_in : (items : List Item) (entry : Regs) → InContext (by_job home) c.job (cloned_context w c items entry)
    unfolding cloned_context
    cloned_in items entry k = cloned_fits k (mode_or_copy items k)

    overlaid_fits : (job : ℕ) → c.job ≡ job → (k : Key) (mode : Option Mode) (cell : Cell (ValueOf k)) → InCell (by_job home) job k cell →
        InCell (by_job home) job k (overlaid_cell w c k mode cell)
    overlaid_fits job own k None cell is = is
    overlaid_fits job own k (Some m) cell is = subst (λ j. InCell (by_job home) j k (cloned_cell w c k m)) own (cloned_fits k m)

    hidden-share : (job t : ℕ) → c.job ≢ job → (own : ℕ) → own ≢ job → (items : List Item) → view job t (share w c own items) ≡ view job t w
    unfolding share
    hidden-share job t other own differs items =
        cond_both (needs_group w c items) _ w (λ v. view job t v ≡ view job t w)
        (λ _. hidden-add_group job t own _ _ differs ∙ hidden-change_context job t c w _ other)
        (λ _. refl)

  module _ (c : Name) (w : World) (keeps : Keeps (by_job home) w) where
    keeps-clone : (items : List Item) (entry : Regs) → Keeps (by_job home) (clone_context w c c.job items entry)
    unfolding clone_context
    keeps-clone items entry =
        let shared = keeps-share c w keeps c.job refl items in
        keeps-add_context (by_job home) _ c.job _ (cloned_in c (share w c c.job items) shared items entry) shared

    pub keeps-overlay : (d : Name) (items : List Item) → d.job ≡ c.job → Keeps (by_job home) (overlay w c d c.job items)
    unfolding overlay
    keeps-overlay d items own =
        let shared = keeps-share d w keeps c.job own items in
        keeps-change_context (by_job home) (share w d c.job items) c _
        (λ _ k. overlaid_fits d (share w d c.job items) shared c.job own k (mode items k) _ (context-in (share w d c.job items) shared c k)) shared

    pub changes-hidden : (job t : ℕ) → c.job ≢ job → ChangesHidden job t c w
    unfolding after_store map_pages unmap_pages save clone_context overlay
    changes-hidden job t other = record {
      put = λ k value. hidden-put_at w c keeps job t other k value;
      store = λ piece. hidden-change_counters job t c.job _ _ other
          ∙ hidden-put_pages c job t other w _ (stored_pages_fit w keeps c piece (touched piece.at (length piece.bytes)) _) keeps;
      map = λ from to present. hidden_map from to present;
      save = λ s regs. hidden-change_context job t c w _ other;
      clone = λ items entry. hidden-add_context job t c.job _ _ other ∙ hidden-share c w keeps job t other c.job other items;
      overlay = λ d items own. hidden-change_context job t c _ _ other ∙ hidden-share d w keeps job t (λ same. other (sym own ∙ same)) c.job other items;
    }
      where
        hidden_map : (from to : ℕ) (present : Bool) → view job t (mapped_or_not w c from to present) ≡ view job t w
        hidden_map from to true = hidden-change_context job t c w _ other
        hidden_map from to false = hidden-change_context job t c w _ other

  -- what is not seen by job 0 leaves the home
  pub still_keeps : (w v : World) → Keeps (by_job home) v → view 0 0 v ≡ view 0 0 w → KeepsJobs home w → KeepsJobs home v
  still_keeps w v kept alike keeps = record { kept = kept; there = has_home-seen w v alike keeps.there }

  pub changes-keep : (c : Name) (w : World) → c.job ≢ 0 → KeepsJobs home w → ChangesKeepJobs home c w
  changes-keep c w some keeps =
      let hidden = changes-hidden c w keeps.kept 0 0 some in
      record {
        put = λ k value fits. still_keeps w _ (keeps-put_at w c keeps.kept k value fits) (hidden.put k value) keeps;
        store = λ piece. still_keeps w _ (keeps-after_store c w keeps.kept piece) (hidden.store piece) keeps;
        map = λ from to present. still_keeps w _ (keeps-mapped c w keeps.kept from to present) (hidden.map from to present) keeps;
        save = λ t regs. still_keeps w _ (keeps-save c w keeps.kept t regs) (hidden.save t regs) keeps;
        clone = λ items entry. still_keeps w _ (keeps-clone c w keeps.kept items entry) (hidden.clone items entry) keeps;
        overlay = λ d items own. still_keeps w _ (keeps-overlay c w keeps.kept d items own) (hidden.overlay d items own) keeps;
      }

  pub add-keeps : (job : ℕ) (w : World) (x : Context) → job ≢ 0 → InContext (by_job home) job x → KeepsJobs home w → KeepsJobs home (add_context w job x)
  add-keeps job w x some fits keeps = still_keeps w _ (keeps-add_context (by_job home) w job x fits keeps.kept) (hidden-add_context 0 0 job w x some) keeps
