-- Views that are equal, taken apart and put together; and what small of worlds do to them.
use Rattle.std.proofs.Common.{◌≡◌, ◌≢◌, ℕ, refl, sym, ap, ◌∙◌, Bool, true, false, cond, eqb, Option, Some, None}
use Rattle.std.proofs.lemmas.Bool.{ne_eqb}
use Rattle.std.specs.Prelude.{unwrap_or}
use Rattle.std.specs.Option.{option_map}
use Rattle.std.specs.Ordering.{eq_by_cmp}
use Rattle.std.specs.FinMap as fm
use Rattle.lwc_base.specs.World.{World, Context, Group, add_context, add_group, change_context, change_counters, change_group, next_context, next_group}
use Rattle.lwc_base.proofs.Facts.{changes, orders}
use Rattle.lwc_types.specs.Names.{name_cmp}
use Rattle.lwc_types.specs.declared.counters.Counters.{Counters}
use Rattle.lwc_types.specs.declared.name.Name.{Name}
use Rattle.lwc_types.specs.declared.size.WorldSize.{WorldSize}
use Rattle.world_views.proofs.JobTables.{at, other_job}
use Rattle.world_views.proofs.Worlds.{contexts-change_group, get-change_context, get-change_group, groups-change_context}
use Rattle.world_views.specs.Views.{JobView, seen_by, view}

-- what a job sees under a number: the context as its thread sees it, or none
abbrev pub seen : ℕ → Option Context → Option Context
seen t o = option_map (seen_by t) o

module _ (job t s : ℕ) (w v : World) where
  -- views are equal whose parts are
  pub same_views : ((k : ℕ) → seen t (fm.get w.contexts (at job k)) ≡ seen s (fm.get v.contexts (at job k))) →
      ((k : ℕ) → fm.get w.groups (at job k) ≡ fm.get v.groups (at job k)) → w.next job ≡ v.next job → w.size.pages ≡ v.size.pages → view job t w ≡ view job s v
  unfolding view
  same_views contexts groups next pages = λ i. record { contexts = λ k. contexts k i; groups = λ k. groups k i; next = next i; pages = pages i }

  module _ (alike : view job t w ≡ view job s v) where
    pub contexts-alike : (k : ℕ) → seen t (fm.get w.contexts (at job k)) ≡ seen s (fm.get v.contexts (at job k))
    unfolding view
    contexts-alike k = ap (λ (V : JobView). V.contexts k) alike

    pub groups-alike : (k : ℕ) → fm.get w.groups (at job k) ≡ fm.get v.groups (at job k)
    unfolding view
    groups-alike k = ap (λ (V : JobView). V.groups k) alike

    pub next-alike : w.next job ≡ v.next job
    unfolding view
    next-alike = ap (λ (V : JobView). V.next) alike

    pub pages-alike : w.size.pages ≡ v.size.pages
    unfolding view
    pages-alike = ap (λ (V : JobView). V.pages) alike

-- contexts that a thread sees alike in two worlds: what they are changed into, it sees alike too
abbrev pub KeepsAlike : ℕ → ℕ → (Context → Context) → (Context → Context) → Type 0
KeepsAlike t s f g = (x y : Context) → seen_by t x ≡ seen_by s y → seen_by t (f x) ≡ seen_by s (g y)

module _ (t s : ℕ) (f g : Context → Context) (keeps : KeepsAlike t s f g) where
  changed_alike : (o p : Option Context) → seen t o ≡ seen s p → seen t (option_map f o) ≡ seen s (option_map g p)
  changed_alike None None same = refl
  changed_alike (Some x) (Some y) same = ap Some (keeps x y (ap (λ o. unwrap_or o (seen_by t x)) same))
  changed_alike None (Some y) same = cc
  changed_alike (Some x) None same = cc

  entry_alike : (b : Bool) (o p : Option Context) → seen t o ≡ seen s p → seen t (cond b (option_map f o) o) ≡ seen s (cond b (option_map g p) p)
  entry_alike true o p same = changed_alike o p same
  entry_alike false o p same = same

-- a put of one entry under the next name of a job
put_alike : {X Y : Type 0} (f g : X → Y) (b : Bool) (x y : X) (o p : Option X) → f x ≡ g y → option_map f o ≡ option_map g p →
    option_map f (cond b (Some x) o) ≡ option_map g (cond b (Some y) p)
put_alike f g true x y o p here there = ap Some here
put_alike f g false x y o p here there = there

other_test : (j job : ℕ) → j ≢ job → eqb job j ≡ false
other_test j job other = ne_eqb job j (λ same. other (sym same))

-- a change of a context of the job
pub alike-change_context : (t s : ℕ) (c : Name) (w v : World) (f g : Context → Context) → KeepsAlike t s f g → view c.job t w ≡ view c.job s v →
    view c.job t (change_context w c f) ≡ view c.job s (change_context v c g)
alike-change_context t s c w v f g keeps alike =
    let one = (changes.context_changed w c f).names in
    let two = (changes.context_changed v c g).names in
    same_views c.job t s _ _
    (λ k. ap (seen t) (get-change_context w c f (at c.job k))
    ∙ entry_alike t s f g keeps (eq_by_cmp name_cmp (at c.job k) c) _ _ (contexts-alike c.job t s w v alike k)
    ∙ ap (seen s) (sym (get-change_context v c g (at c.job k))))
    (λ k. ap (λ (m : fm.FinMap name_cmp Group). fm.get m (at c.job k)) (groups-change_context w c f) ∙ groups-alike c.job t s w v alike k
    ∙ ap (λ (m : fm.FinMap name_cmp Group). fm.get m (at c.job k)) (sym (groups-change_context v c g)))
    (ap (λ (n : ℕ → Counters). n c.job) one.next ∙ next-alike c.job t s w v alike ∙ ap (λ (n : ℕ → Counters). n c.job) (sym two.next))
    (ap (λ (z : WorldSize). z.pages) one.size ∙ pages-alike c.job t s w v alike ∙ ap (λ (z : WorldSize). z.pages) (sym two.size))

-- the same change of a group of the job
pub alike-change_group : (t s : ℕ) (h : Name) (w v : World) (f : Group → Group) → view h.job t w ≡ view h.job s v →
    view h.job t (change_group w h f) ≡ view h.job s (change_group v h f)
alike-change_group t s h w v f alike =
    let one = (changes.group_changed w h f).names in
    let two = (changes.group_changed v h f).names in
    same_views h.job t s _ _
    (λ k. ap (λ (m : fm.FinMap name_cmp Context). seen t (fm.get m (at h.job k))) (contexts-change_group w h f) ∙ contexts-alike h.job t s w v alike k
    ∙ ap (λ (m : fm.FinMap name_cmp Context). seen s (fm.get m (at h.job k))) (sym (contexts-change_group v h f)))
    (λ k. get-change_group w h f (at h.job k)
    ∙ ap (λ (o : Option Group). cond (eq_by_cmp name_cmp (at h.job k) h) (option_map f o) o) (groups-alike h.job t s w v alike k)
    ∙ sym (get-change_group v h f (at h.job k)))
    (ap (λ (n : ℕ → Counters). n h.job) one.next ∙ next-alike h.job t s w v alike ∙ ap (λ (n : ℕ → Counters). n h.job) (sym two.next))
    (ap (λ (z : WorldSize). z.pages) one.size ∙ pages-alike h.job t s w v alike ∙ ap (λ (z : WorldSize). z.pages) (sym two.size))

-- what the job has counted is changed
pub alike-change_counters : (job t s : ℕ) (w v : World) (f : Counters → Counters) → view job t w ≡ view job s v →
    view job t (change_counters w job f) ≡ view job s (change_counters v job f)
unfolding change_counters
alike-change_counters job t s w v f alike =
    same_views job t s _ _ (contexts-alike job t s w v alike) (groups-alike job t s w v alike)
    (ap (λ (n : Counters). cond (eqb job job) (f n) n) (next-alike job t s w v alike)) (pages-alike job t s w v alike)

-- the job makes its next context
pub alike-add_context : (job t s : ℕ) (w v : World) (x y : Context) → seen_by t x ≡ seen_by s y → view job t w ≡ view job s v →
    view job t (add_context w job x) ≡ view job s (add_context v job y)
unfolding add_context
alike-add_context job t s w v x y same alike =
    let named : next_context w job ≡ next_context v job = ap (λ (n : Counters). at job n.contexts) (next-alike job t s w v alike) in
    alike-change_counters job t s _ _ _ (same_views job t s _ _
    (λ k. ap (seen t) (fm.get-insert orders.names w.contexts (next_context w job) x (at job k))
    ∙ ap (λ c. seen t (cond (eq_by_cmp name_cmp (at job k) c) (Some x) (fm.get w.contexts (at job k)))) named
    ∙ put_alike (seen_by t) (seen_by s) (eq_by_cmp name_cmp (at job k) (next_context v job)) x y _ _ same (contexts-alike job t s w v alike k)
    ∙ ap (seen s) (sym (fm.get-insert orders.names v.contexts (next_context v job) y (at job k))))
    (groups-alike job t s w v alike) (next-alike job t s w v alike) (pages-alike job t s w v alike))

-- the job makes its next group
pub alike-add_group : (job t s : ℕ) (w v : World) (x : Group) → view job t w ≡ view job s v →
    view job t (add_group w job x) ≡ view job s (add_group v job x)
unfolding add_group
alike-add_group job t s w v x alike =
    let named : next_group w job ≡ next_group v job = ap (λ (n : Counters). at job n.groups) (next-alike job t s w v alike) in
    alike-change_counters job t s _ _ _ (same_views job t s _ _ (contexts-alike job t s w v alike)
    (λ k. fm.get-insert orders.names w.groups (next_group w job) x (at job k)
    ∙ (λ i. cond (eq_by_cmp name_cmp (at job k) (named i)) (Some x) (groups-alike job t s w v alike k i))
    ∙ sym (fm.get-insert orders.names v.groups (next_group v job) x (at job k)))
    (next-alike job t s w v alike) (pages-alike job t s w v alike))

-- none of these is seen by another job
pub hidden-change_context : (job t : ℕ) (c : Name) (w : World) (f : Context → Context) → c.job ≢ job → view job t (change_context w c f) ≡ view job t w
hidden-change_context job t c w f other =
    let names = (changes.context_changed w c f).names in
    same_views job t t _ _
    (λ k. ap (seen t) (get-change_context w c f (at job k)
    ∙ ap (λ b. cond b (option_map f (fm.get w.contexts (at job k))) (fm.get w.contexts (at job k))) (other_job job k c other)))
    (λ k. ap (λ (m : fm.FinMap name_cmp Group). fm.get m (at job k)) (groups-change_context w c f))
    (ap (λ (n : ℕ → Counters). n job) names.next) (ap (λ (z : WorldSize). z.pages) names.size)

pub hidden-change_group : (job t : ℕ) (h : Name) (w : World) (f : Group → Group) → h.job ≢ job → view job t (change_group w h f) ≡ view job t w
hidden-change_group job t h w f other =
    let names = (changes.group_changed w h f).names in
    same_views job t t _ _
    (λ k. ap (λ (m : fm.FinMap name_cmp Context). seen t (fm.get m (at job k))) (contexts-change_group w h f))
    (λ k. get-change_group w h f (at job k)
    ∙ ap (λ b. cond b (option_map f (fm.get w.groups (at job k))) (fm.get w.groups (at job k))) (other_job job k h other))
    (ap (λ (n : ℕ → Counters). n job) names.next) (ap (λ (z : WorldSize). z.pages) names.size)

pub hidden-change_counters : (job t own : ℕ) (w : World) (f : Counters → Counters) → own ≢ job → view job t (change_counters w own f) ≡ view job t w
unfolding change_counters
hidden-change_counters job t own w f other =
    same_views job t t _ _ (λ k. refl) (λ k. refl) (ap (λ b. cond b (f (w.next job)) (w.next job)) (other_test own job other)) refl

pub hidden-add_context : (job t own : ℕ) (w : World) (x : Context) → own ≢ job → view job t (add_context w own x) ≡ view job t w
unfolding add_context
hidden-add_context job t own w x other =
    hidden-change_counters job t own _ _ other
    ∙ same_views job t t _ _
    (λ k. ap (seen t) (fm.get-insert orders.names w.contexts (next_context w own) x (at job k)
    ∙ ap (λ b. cond b (Some x) (fm.get w.contexts (at job k))) (other_job job k (next_context w own) other)))
    (λ k. refl) refl refl

pub hidden-add_group : (job t own : ℕ) (w : World) (x : Group) → own ≢ job → view job t (add_group w own x) ≡ view job t w
unfolding add_group
hidden-add_group job t own w x other =
    hidden-change_counters job t own _ _ other
    ∙ same_views job t t _ _ (λ k. refl)
    (λ k. fm.get-insert orders.names w.groups (next_group w own) x (at job k)
    ∙ ap (λ b. cond b (Some x) (fm.get w.groups (at job k))) (other_job job k (next_group w own) other))
    refl refl
