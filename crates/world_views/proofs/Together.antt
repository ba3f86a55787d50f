-- The laws, put together: answers and that are alike, and what is dropped.
use Rattle.std.proofs.Common.{◌≡◌, ℕ, ◌<◌, refl, sym, ap, subst, ◌∙◌, true, Option, Some, None, List, arith}
use Rattle.std.specs.Prelude.{is_some}
use Rattle.std.specs.Option.{option_map}
use Rattle.std.specs.FinMap as fm
use Rattle.lwc_base.specs.Frames.{own_value, tag_of}
use Rattle.lwc_base.specs.Fresh.{IsFresh}
use Rattle.lwc_base.specs.Holders.{InContext}
use Rattle.lwc_base.specs.Life.{IsReaped, Root, is_among, reap}
use Rattle.lwc_base.specs.Overlay.{overlay, ranges_after_overlay}
use Rattle.lwc_base.specs.Ranges.{ranges}
use Rattle.lwc_base.specs.Sharing.{cloned_context, ranges_after_clone, share}
use Rattle.lwc_base.specs.World.{World, Context, add_context, context, groups_of, live_of}
use Rattle.lwc_base.specs.declared.item.Item.{Item}
use Rattle.lwc_base.proofs.Reaped.{context-kept, kept-by_way, reap-reaped, reap-stays}
use Rattle.lwc_base.proofs.Reaps.{keeps-reap}
use Rattle.lwc_types.specs.declared.counters.Counters.{Counters}
use Rattle.lwc_types.specs.declared.key.Key.TheVariants.{Page}
use Rattle.lwc_types.specs.declared.name.Name.{Name}
use Rattle.lwc_types.specs.declared.size.WorldSize.{WorldSize}
use Rattle.world_views.proofs.Entries.{keys_of_job}
use Rattle.world_views.proofs.JobAlike.{alike-after_store, alike-clone, alike-mapped, alike-overlay, alike-put_at, alike-save, alike-share, cloned-alike, count-alike}
use Rattle.world_views.proofs.JobTables.{at}
use Rattle.world_views.proofs.Keeping.{add-keeps, changes-keep, keeps-share}
use Rattle.world_views.proofs.Reading.{bytes-alike, context-alike, enters-alike, live-alike, lowest-alike, needs-alike, present-alike, ranges_of-alike, value-alike, writable-alike}
use Rattle.world_views.proofs.Reaping.{alike-reap}
use Rattle.world_views.proofs.Tags.{parts-alike}
use Rattle.world_views.proofs.Views.{alike-add_context, contexts-alike, groups-alike, next-alike, pages-alike, same_views, seen}
use Rattle.world_views.specs.ByJob.{Home, KeepsJobs, LooksAlike, SameRoots, by_job}
use Rattle.world_views.specs.JobFacts.{AnswersAlike, ChangesAlike}
use Rattle.world_views.specs.Views.{seen_by, view}

ones : {X Y : Type 0} (f : X → Y) (o : Option X) → option_map {U = ℕ} (λ y. 1) (option_map f o) ≡ option_map (λ x. 1) o
ones f None = refl
ones f (Some x) = refl

module _ (home : Home) where
  module _ (t s : ℕ) (c : Name) (w v : World) (alike : LooksAlike home c.job t s w v) where
    live_of-alike : live_of w c.job ≡ live_of v c.job
    unfolding live_of
    live_of-alike =
        keys_of_job c.job w.contexts v.contexts
        (λ k. sym (ones (seen_by t) (fm.get w.contexts (at c.job k))) ∙ ap (option_map {U = ℕ} (λ x. 1)) (contexts-alike c.job t s w v alike.seen k) ∙ ones (seen_by s) (fm.get v.contexts (at c.job k)))

    groups_of-alike : groups_of w c.job ≡ groups_of v c.job
    unfolding groups_of
    groups_of-alike = keys_of_job c.job w.groups v.groups (λ k. ap (option_map {U = ℕ} (λ x. 1)) (groups-alike c.job t s w v alike.seen k))

    cloned_ranges : (items : List Item) → ranges_after_clone w c c.job items ≡ ranges_after_clone v c c.job items
    unfolding ranges_after_clone
    cloned_ranges items =
        let one : World = share w c c.job items in
        let two : World = share v c c.job items in
        let shared = alike-share home t s c w v alike.first.kept alike.seen items in
        let kept = keeps-share home c w alike.first.kept c.job refl items in
        let entries = ap (λ (x : Context). x.entry) (context-alike t s c one two shared) in
        λ i. (
          ranges_of-alike t s c one two shared i,
          ranges (pages-alike c.job t s one two shared i) ((cloned-alike home t s c one two kept shared items (context one c).entry ∙ ap (cloned_context two c items) entries) i),
        )

    overlaid_ranges : (d : Name) (items : List Item) → d.job ≡ c.job → ranges_after_overlay w c d c.job items ≡ ranges_after_overlay v c d c.job items
    unfolding ranges_after_overlay
    overlaid_ranges d items own =
        let laid = alike-overlay home t s c w v alike.first.kept alike.seen d items own in
        λ i. (ranges_of-alike t s d _ _ (subst (λ j. view j t (overlay w c d c.job items) ≡ view j s (overlay v c d c.job items)) (sym own) laid) i, ranges_of-alike t s c _ _ laid i)

    pub answers-alike : AnswersAlike t s c w v
    answers-alike = record {
      live = live-alike t s c w v alike.seen;
      seen = context-alike t s c w v alike.seen;
      enters = enters-alike t s c w v alike.seen;
      value = value-alike t s c w v alike.seen home alike.first.kept;
      next = next-alike c.job t s w v alike.seen;
      pages = pages-alike c.job t s w v alike.seen;
      lowest = lowest-alike t s c w v alike.seen home alike.first.kept;
      bytes = bytes-alike t s c w v alike.seen home alike.first.kept;
      contexts = live_of-alike;
      groups = groups_of-alike;
      needs = needs-alike t s c w v alike.seen;
      ranges = ranges_of-alike t s c w v alike.seen;
      cloned = cloned_ranges;
      overlaid = overlaid_ranges;
      present = present-alike t s c w v alike.seen home alike.first.kept;
      writable = writable-alike t s c w v alike.seen;
      parting = count-alike home t s c w v alike.first.kept alike.seen (parts-alike home t s c w v alike);
    }

    -- worlds that each keep the rules, and that the job sees alike
    still_alike : (a b : World) → KeepsJobs home a → KeepsJobs home b → view c.job t a ≡ view c.job s b → LooksAlike home c.job t s a b
    still_alike a b one two same = record { some_job = alike.some_job; first = one; second = two; seen = same }

    pub changes-alike : ChangesAlike home t s c w v
    changes-alike =
        let one = changes-keep home c w alike.some_job alike.first in
        let two = changes-keep home c v alike.some_job alike.second in
        let kept = alike.first.kept in
        record {
          put = λ k value fits. still_alike _ _ (one.put k value fits) (two.put k value fits) (alike-put_at home t s c w v kept alike.seen k value);
          store = λ piece. still_alike _ _ (one.store piece) (two.store piece) (alike-after_store home t s c w v kept alike.seen (parts-alike home t s c w v alike) piece);
          map = λ from to present. still_alike _ _ (one.map from to present) (two.map from to present) (alike-mapped home t s c w v kept alike.seen from to present);
          save = λ regs. still_alike _ _ (one.save t regs) (two.save s regs) (alike-save home t s c w v kept alike.seen regs);
          clone = λ items entry. still_alike _ _ (one.clone items entry) (two.clone items entry) (alike-clone home t s c w v kept alike.seen items entry);
          overlay = λ d items own. still_alike _ _ (one.overlay d items own) (two.overlay d items own) (alike-overlay home t s c w v kept alike.seen d items own);
        }

  pub add-alike : (job t s : ℕ) (w v : World) (x y : Context) → InContext (by_job home) job x → InContext (by_job home) job y → seen_by t x ≡ seen_by s y → LooksAlike home job t s w v →
      LooksAlike home job t s (add_context w job x) (add_context v job y)
  add-alike job t s w v x y fits_x fits_y same alike = record {
    some_job = alike.some_job;
    first = add-keeps home job w x alike.some_job fits_x alike.first;
    second = add-keeps home job v y alike.some_job fits_y alike.second;
    seen = alike-add_context job t s w v x y same alike.seen;
  }

-- what a job that has counted nothing sees of a fresh world: nothing
nothing_seen : {X : Type 0} (o : Option X) (n k : ℕ) → n ≡ 0 → (is_some o ≡ true → k < n) → o ≡ None
nothing_seen None n k none below = refl
nothing_seen (Some x) n k none below = absurd (let small = below refl in omega (arith, small, none))

none_here : (job : ℕ) (w : World) → IsFresh w → w.next job ≡ record { contexts = 0; groups = 0; tags = 0 } → ((k : ℕ) → fm.get w.contexts (at job k) ≡ None) × ((k : ℕ) → fm.get w.groups (at job k) ≡ None)
none_here job w fresh new = (
  λ k. nothing_seen _ (w.next job).contexts k (ap (λ (n : Counters). n.contexts) new) (fresh.contexts (at job k)),
  λ k. nothing_seen _ (w.next job).groups k (ap (λ (n : Counters). n.groups) new) (fresh.groups (at job k)),
)

pub new-alike : (job t s : ℕ) (w v : World) → IsFresh w → IsFresh v → w.next job ≡ record { contexts = 0; groups = 0; tags = 0 } → w.next job ≡ v.next job → w.size.pages ≡ v.size.pages →
    view job t w ≡ view job s v
new-alike job t s w v fresh_w fresh_v new next pages =
    let one = none_here job w fresh_w new in
    let two = none_here job v fresh_v (sym next ∙ new) in
    same_views job t s w v (λ k. ap (seen t) (one.0 k) ∙ ap (seen s) (sym (two.0 k))) (λ k. one.1 k ∙ sym (two.1 k)) next pages

module _ (home : Home) where
  pub reap-keeps : (w : World) (roots : List Name) → is_among roots home.name ≡ true → KeepsJobs home w → KeepsJobs home (reap w roots)
  reap-keeps w roots root keeps =
      let live = kept-by_way w roots home.name keeps.there.live (Root home.name root) in
      record {
        kept = keeps-reap w roots (by_job home) keeps.kept;
        there = record {
          nobody = keeps.there.nobody;
          live = live;
          tags = λ p tag is. let tags = keeps.there.tags p tag is in (
            subst (λ (z : WorldSize). p < z.pages) (sym (reap-stays w roots).0) tags.0,
            tags.1,
            ap (λ (x : Context). tag_of (own_value (x.cell (Page p)))) (context-kept w roots home.name live) ∙ tags.2,
          );
        };
      }

  pub reap-alike : (job t s : ℕ) (w v : World) (roots others : List Name) → is_among roots home.name ≡ true → is_among others home.name ≡ true → SameRoots job roots others →
      LooksAlike home job t s w v → LooksAlike home job t s (reap w roots) (reap v others)
  reap-alike job t s w v roots others here there same alike = record {
    some_job = alike.some_job;
    first = reap-keeps w roots here alike.first;
    second = reap-keeps v others there alike.second;
    seen = alike-reap home job t s w v roots others alike.first.kept alike.second.kept alike.seen same;
  }

-- another job sees nothing of what is dropped, where nothing of its own was left to drop
pub reap-hidden : (home : Home) (job t : ℕ) (w v : World) (roots others : List Name) → IsReaped w roots → KeepsJobs home w → KeepsJobs home v →
    SameRoots job roots others → view job t v ≡ view job t w → view job t (reap v others) ≡ view job t w
reap-hidden home job t w v roots others reaped keeps_w keeps_v same alike =
    alike-reap home job t t v w others roots keeps_v.kept keeps_w.kept alike (λ k. sym (same k)) ∙ ap (view job t) (reap-reaped w roots reaped)
