-- How far a store and a call that makes a context change a world.
use Rattle.std.proofs.Common.{◌≡◌, ◌≢◌, ◌⊎◌, inl, inr, ℕ, suc, ◌+◌, ◌-◌, ◌/◌, ◌≤◌, ◌<◌, refl, sym, ap, subst, ◌∙◌, Bool, true, false, cond, eqb, ◌&&◌, List, [], ◌∷◌, length, arith}
use Rattle.std.specs.FinMap as fm
use Rattle.std.specs.List.{Contains, range_with_len}
use Rattle.std.proofs.lemmas.Bool.Decides.{nat_tests}
use Rattle.std.proofs.lemmas.List.Sums.{count_by-le-length}
use Rattle.std.proofs.lemmas.List.FromFn.{length-range_with_len}
use Rattle.kernel_core.specs.Ready.{IsWithinLimits}
use Rattle.lwc_base.specs.Cells.{put_slot}
use Rattle.lwc_base.specs.Channels.{Channels, HasItsFiles}
use Rattle.lwc_base.specs.Facts.{AddsContext, KeepsNames, SharesValues, TakesTags}
use Rattle.lwc_base.specs.Frames.{is_parting}
use Rattle.lwc_base.specs.Fresh.{IsFresh}
use Rattle.lwc_base.specs.Holders.{IsGroup}
use Rattle.lwc_base.specs.Jobs.{NamesKeepToJobs}
use Rattle.lwc_base.specs.Memory.{touched}
use Rattle.lwc_base.specs.Modes.{IsSpec}
use Rattle.lwc_base.specs.Overlay.{overlay}
use Rattle.lwc_base.specs.Saved.{save}
use Rattle.lwc_base.specs.Sharing.{clone_context, needs_group, share}
use Rattle.lwc_base.specs.Sound.{IsSound}
use Rattle.lwc_base.specs.Store.{Done, Piece, after_store, page_value_at, parting_count, store}
use Rattle.lwc_base.specs.World.{World, Context, context, groups_of, is_live, live_of, next_context, next_group}
use Rattle.lwc_base.specs.declared.descriptor.Cap.{Cap}
use Rattle.lwc_base.specs.declared.descriptor.Descriptor.{Descriptor}
use Rattle.lwc_base.specs.declared.descriptor.Descriptor.TheVariants.{Ctx}
use Rattle.lwc_base.specs.declared.item.Item.{Item}
use Rattle.lwc_types.specs.declared.counters.Counters.{Counters}
use Rattle.lwc_types.specs.declared.name.Name.{Name}
use Rattle.lwc_types.specs.declared.regs.Regs.{Regs}
use Rattle.lwc_syscall.specs.Changes.{IsWell, KeepsNumbers}
use Rattle.lwc_base.proofs.Clones.{next_context-share}
use Rattle.lwc_base.proofs.Facts.{changes, counts}
use Rattle.lwc_base.proofs.InRange.{files-after_store, files-clone, files-save}
use Rattle.lwc_base.proofs.NamedContexts.{contexts-clone, contexts-save}
use Rattle.lwc_base.proofs.Puts.{names-put_at, takes-after_store}
use Rattle.lwc_base.proofs.Saving.{saves}
use Rattle.lwc_base.proofs.Sharing.{shares-share}
use Rattle.lwc_base.proofs.Sound.{sound-clone_context, sound-save, sound-share}
use Rattle.lwc_base.proofs.Stored.{is_done}
use Rattle.lwc_types.proofs.Orders.{cases_name, same_name}
use Rattle.lwc_syscall.proofs.Kept.{well-slot}

-- what an act for a job leaves: names keep to their jobs, and contexts and counters of other jobs are as before
pub record StaysInJob (job : ℕ) (w v : World) : Type 0 where
  pub kept : NamesKeepToJobs v
  pub contexts : (d : Name) → d.job ≢ job → context v d ≡ context w d
  pub next : (j : ℕ) → j ≢ job → v.next j ≡ w.next j

-- none of a job's counts rises by more than this
pub record RisesBy (most : ℕ) (before after : Counters) : Type 0 where
  pub contexts : after.contexts ≤ before.contexts + most
  pub groups : after.groups ≤ before.groups + most
  pub tags : after.tags ≤ before.tags + most

-- what is live stays so, no more contexts and groups are made than this, no count rises by more, and a world within its limits stays so, where the job is one of the jobs
pub record Grows (job most : ℕ) (w v : World) : Type 0 where
  pub live : (c : Name) → is_live w c ≡ true → is_live v c ≡ true
  pub size : v.size ≡ w.size
  pub names : fm.len v.contexts + fm.len v.groups ≤ fm.len w.contexts + fm.len w.groups + most
  pub counts : (j : ℕ) → RisesBy most (w.next j) (v.next j)
  pub limits : (jobs : List ℕ) → Contains jobs job → 1 ≤ job → IsWithinLimits w jobs → IsWithinLimits v jobs

rises_not : (most : ℕ) (n : Counters) → RisesBy most n n
rises_not most n = record { contexts = omega arith; groups = omega arith; tags = omega arith }

pub grows_not : (job most : ℕ) (w : World) → Grows job most w w
grows_not job most w = record { live = λ c live. live; size = refl; names = omega arith; counts = λ j. rises_not most (w.next j); limits = λ jobs there some limits. limits }

-- a bound may be greater
pub grows_more : (job m n : ℕ) (w v : World) → m ≤ n → Grows job m w v → Grows job n w v
grows_more job m n w v more grows = record {
  live = grows.live;
  size = grows.size;
  names = omega (arith, grows.names, more);
  counts = λ j. record { contexts = omega (arith, (grows.counts j).contexts); groups = omega (arith, (grows.counts j).groups); tags = omega (arith, (grows.counts j).tags) };
  limits = grows.limits;
}

then_rises : (m n : ℕ) (a b c : Counters) → RisesBy m a b → RisesBy n b c → RisesBy (m + n) a c
then_rises m n a b c first second = record {
  contexts = omega (arith, first.contexts, second.contexts);
  groups = omega (arith, first.groups, second.groups);
  tags = omega (arith, first.tags, second.tags);
}

then_grows : (job m n : ℕ) (u v w : World) → Grows job m u v → Grows job n v w → Grows job (m + n) u w
then_grows job m n u v w first second = record {
  live = λ c live. second.live c (first.live c live);
  size = second.size ∙ first.size;
  names = omega (arith, first.names, second.names);
  counts = λ j. then_rises m n _ _ _ (first.counts j) (second.counts j);
  limits = λ jobs there some limits. second.limits jobs there some (first.limits jobs there some limits);
}

-- a world stays within its limits where each new name bears the job, and there are few names
limits_kept : (w v : World) (jobs : List ℕ) (job : ℕ) → Contains jobs job → 1 ≤ job →
    ((c : Name) → is_live v c ≡ true → (is_live w c ≡ true) ⊎ (c.job ≡ job)) → ((g : Name) → IsGroup v g → IsGroup w g ⊎ (g.job ≡ job)) →
    live_of v 0 ≡ live_of w 0 → ((j : ℕ) → live_of v j ≤ 32) → ((j : ℕ) → groups_of v j ≤ 64) → IsWithinLimits w jobs → IsWithinLimits v jobs
limits_kept w v jobs job there some contexts groups homes few_contexts few_groups limits = record {
  contexts = λ c live. elim (contexts c live) [
    | inl old ↦ limits.contexts c old
    | inr new ↦ subst (Contains (0 ∷ jobs)) (sym new) (suc there.0, omega (arith, there.1), there.2)
  ];
  groups = λ g live. elim (groups g live) [
    | inl old ↦ limits.groups g old
    | inr new ↦ (subst (Contains jobs) (sym new) there, omega (arith, new, some))
  ];
  homes = omega (arith, homes, limits.homes);
  few_contexts = few_contexts;
  few_groups = few_groups;
}

not_job_0 : (job : ℕ) → 1 ≤ job → eqb 0 job ≡ false
not_job_0 job some = grind (arith, nat_tests)

-- one more of a job that has fewer than it may have
one_more_of : (j job before after most : ℕ) (new : Bool) → after ≡ cond (new && eqb j job) (before + 1) before → (new ≡ true → j ≡ job → before < most) → before ≤ most → after ≤ most
one_more_of j job before after most true is fewer few = one_more_by (eqb j job) refl
  where
    one_more_by : (b : Bool) → eqb j job ≡ b → after ≤ most
    one_more_by true same =
        let now : after ≡ before + 1 = is ∙ ap (λ b. cond b (before + 1) before) same in
        let here : j ≡ job = grind (arith, nat_tests) in
        omega (arith, now, fewer refl here)
    one_more_by false other =
        let now : after ≡ before = is ∙ ap (λ b. cond b (before + 1) before) other in
        omega (arith, now, few)
one_more_of j job before after most false is fewer few = omega (arith, is, few)

rises_tags : (b : Bool) (n : Counters) (count : ℕ) → count ≤ 2 → RisesBy 2 n (cond b (record n { tags = n.tags + count }) n)
rises_tags true n count few = record { contexts = omega arith; groups = omega arith; tags = omega arith }
rises_tags false n count few = rises_not 2 n

rises_context : (b : Bool) (n : Counters) → RisesBy 1 n (cond b (record n { contexts = n.contexts + 1 }) n)
rises_context true n = record { contexts = omega arith; groups = omega arith; tags = omega arith }
rises_context false n = rises_not 1 n

rises_group : (b : Bool) (n : Counters) → RisesBy 1 n (cond b (record n { groups = n.groups + 1 }) n)
rises_group true n = record { contexts = omega arith; groups = omega arith; tags = omega arith }
rises_group false n = rises_not 1 n

at_most_two : (b : Bool) (from count : ℕ) → count ≤ 2 → length (cond b [] (range_with_len from count)) ≤ 2
at_most_two true from count few = omega arith
at_most_two false from count few = rw length-range_with_len few

-- a store of at most a page's bytes takes at most two tags
pub few_parting : (w : World) (c : Name) (piece : Piece) → length piece.bytes ≤ 4096 → parting_count w c piece ≤ 2
unfolding parting_count touched
few_parting w c piece short =
    let count = length piece.bytes in
    let pages = at_most_two (eqb count 0) (piece.at / 4096) ((piece.at + count - 1) / 4096 + 1 - piece.at / 4096) (omega arith) in
    omega (arith, count_by-le-length (λ p. is_parting w (page_value_at w c p)) (touched piece.at count), pages)

live_as_before : (w v : World) → ((c : Name) → is_live v c ≡ is_live w c) → (j : ℕ) → live_of v j ≡ live_of w j
live_as_before w v same j = (counts.same_contexts w v j same).0

groups_as_before : (w v : World) → ((g : Name) → fm.contains_key v.groups g ≡ fm.contains_key w.groups g) → (j : ℕ) → groups_of v j ≡ groups_of w j
groups_as_before w v same j = (counts.same_groups w v j same).0

-- where the same names live
grows_names : (job most : ℕ) (w v : World) → ((c : Name) → is_live v c ≡ is_live w c) → ((g : Name) → fm.contains_key v.groups g ≡ fm.contains_key w.groups g) →
    v.size ≡ w.size → ((j : ℕ) → RisesBy most (w.next j) (v.next j)) → Grows job most w v
grows_names job most w v live groups size rises = record {
  live = λ c is. live c ∙ is;
  size = size;
  names = omega (arith, (counts.same_contexts w v 0 live).1, (counts.same_groups w v 0 groups).1);
  counts = rises;
  limits = λ jobs there some limits.
      limits_kept w v jobs job there some (λ c is. inl (sym (live c) ∙ is)) (λ g is. inl (sym (groups g) ∙ is)) (live_as_before w v live 0)
      (λ j. omega (arith, live_as_before w v live j, limits.few_contexts j)) (λ j. omega (arith, groups_as_before w v groups j, limits.few_groups j)) limits;
}

-- another value under a slot
pub grows_slot : (job : ℕ) (w : World) (c : Name) (n : ℕ) (value : Descriptor) → Grows job 0 w (put_slot w c n value)
grows_slot job w c n value =
    let names : KeepsNames w (put_slot w c n value) = names-put_at w c _ value in
    grows_names job 0 w (put_slot w c n value) names.live names.groups names.size
    (λ j. subst (λ (next : ℕ → Counters). RisesBy 0 (w.next j) (next j)) (sym names.next) (rises_not 0 (w.next j)))

grows_after_store : (w : World) (c : Name) (job : ℕ) (piece : Piece) → length piece.bytes ≤ 4096 → Grows job 2 w (after_store w c job piece)
grows_after_store w c job piece short =
    let takes : TakesTags w job (parting_count w c piece) (after_store w c job piece) = takes-after_store w c job piece in
    grows_names job 2 w (after_store w c job piece) takes.live takes.groups takes.size
    (λ j. subst (λ (next : ℕ → Counters). RisesBy 2 (w.next j) (next j)) (sym takes.next) (rises_tags (eqb j job) (w.next j) _ (few_parting w c piece short)))

-- a store that is done
pub grows_store : (w v : World) (c : Name) (job : ℕ) (piece : Piece) → length piece.bytes ≤ 4096 → store w c job piece ≡ Done v → Grows job 2 w v
grows_store w v c job piece short done = subst (Grows job 2 w) (sym (is_done w c job piece v done).after) (grows_after_store w c job piece short)

-- numbers that are kept
pub grows_numbers : (job : ℕ) (w v : World) → KeepsNumbers w v → Grows job 2 w v
grows_numbers job w v numbers =
    grows_names job 2 w v numbers.live numbers.groups numbers.size
    (λ j. record { contexts = omega (arith, numbers.contexts_counted j); groups = omega (arith, numbers.groups_counted j); tags = (numbers.tags_counted j).1 })

-- a store puts no descriptor
pub files_store : (w v : World) (io : Channels) (c : Name) (job : ℕ) (piece : Piece) → store w c job piece ≡ Done v → HasItsFiles io w → HasItsFiles io v
files_store w v io c job piece done files = subst (HasItsFiles io) (sym (is_done w c job piece v done).after) (files-after_store io w c job piece files)

grows_context : (job : ℕ) (w v : World) (x : Context) → IsFresh w → AddsContext w job x v → live_of w job < 32 → Grows job 1 w v
grows_context job w v x fresh adds fewer = record {
  live = λ c live. cases_name c (next_context w job)
      (λ same. ap (is_live v) same ∙ adds.live)
      (λ other. adds.still_live c other ∙ live);
  size = adds.size;
  names = omega (arith, (counts.context_added w v job 0 x fresh adds).1, (counts.same_groups w v 0 (λ g. ap (λ m. fm.contains_key m g) adds.groups)).1);
  counts = λ j. subst (λ (next : ℕ → Counters). RisesBy 1 (w.next j) (next j)) (sym adds.next) (rises_context (eqb j job) (w.next j));
  limits = λ jobs there some limits.
      let groups : (g : Name) → fm.contains_key v.groups g ≡ fm.contains_key w.groups g = λ g. ap (λ m. fm.contains_key m g) adds.groups in
      let count : (j : ℕ) → live_of v j ≡ cond (eqb j job) (live_of w j + 1) (live_of w j) = λ j. (counts.context_added w v job j x fresh adds).0 in
      limits_kept w v jobs job there some
      (λ c live. cases_name c (next_context w job)
      (λ same. inr (ap (λ (n : Name). n.job) same))
      (λ other. inl (sym (adds.still_live c other) ∙ live)))
      (λ g is. inl (sym (groups g) ∙ is))
      (count 0 ∙ ap (λ b. cond b (live_of w 0 + 1) (live_of w 0)) (not_job_0 job some))
      (λ j. one_more_of j job (live_of w j) (live_of v j) 32 true (count j) (λ new same. omega (arith, ap (live_of w) same, fewer)) (limits.few_contexts j))
      (λ j. omega (arith, groups_as_before w v groups j, limits.few_groups j))
      limits;
}

-- registers that are saved, and another value under a slot
pub grows_switched : (job : ℕ) (w : World) (c d : Name) (t : ℕ) (regs : Regs) (n : ℕ) (value : Descriptor) → Grows job 0 w (put_slot (save w c t regs) d n value)
grows_switched job w c d t regs n value =
    let v : World = save w c t regs in
    let names : KeepsNames w v = (saves w c t regs).names in
    let first : Grows job 0 w v = grows_names job 0 w v names.live names.groups names.size (λ j. subst (λ (next : ℕ → Counters). RisesBy 0 (w.next j) (next j)) (sym names.next) (rises_not 0 (w.next j))) in
    then_grows job 0 0 w v (put_slot v d n value) first (grows_slot job v d n value)

-- the context that was left lives
pub well_switched : (w : World) (c d : Name) (t : ℕ) (regs : Regs) (n : ℕ) (cap : Cap) (io : Channels) → is_live w c ≡ true → IsWell w io → IsWell (put_slot (save w c t regs) d n (Ctx c cap)) io
well_switched w c d t regs n cap io live well =
    let v : World = save w c t regs in
    let names : KeepsNames w v = (saves w c t regs).names in
    well-slot v io d n (Ctx c cap) tt (λ e is. ap (is_live v) (sym (same_name c e is)) ∙ names.live c ∙ live)
    (record { sound = sound-save w c t regs well.sound; named = contexts-save w c t regs well.named; files = files-save io w c t regs well.files })

module _ (w : World) (c : Name) (job : ℕ) (items : List Item) (spec : IsSpec w.size.pages items) (sound : IsSound w) (here : is_live w c ≡ true) (room : needs_group w c items ≡ true → groups_of w job < 64) where
  shares : SharesValues w c job items (share w c job items)
  shares = shares-share w c job items

  grows_group : needs_group w c items ≡ true → Grows job 1 w (share w c job items)
  unfolding shares
  grows_group needs = record {
    live = λ d live. shares.live d ∙ live;
    size = shares.size;
    names = omega (
      arith,
      (counts.same_contexts w (share w c job items) 0 shares.live).1,
      (counts.shared w (share w c job items) c job 0 items sound.fresh shares).1 ∙ ap (λ b. cond b (fm.len w.groups + 1) (fm.len w.groups)) needs,
    );
    counts = λ j. subst (λ (next : ℕ → Counters). RisesBy 1 (w.next j) (next j)) (sym (shares.next needs)) (rises_group (eqb j job) (w.next j));
    limits = λ jobs there some limits.
        limits_kept w (share w c job items) jobs job there some (λ d live. inl (sym (shares.live d) ∙ live))
        (λ g is. cases_name g (next_group w job)
        (λ same. inr (ap (λ (n : Name). n.job) same))
        (λ other. inl (sym (shares.still_live g other) ∙ is)))
        (live_as_before w (share w c job items) shares.live 0)
        (λ j. omega (arith, live_as_before w (share w c job items) shares.live j, limits.few_contexts j))
        (λ j. one_more_of j job (groups_of w j) (groups_of (share w c job items) j) 64 (needs_group w c items) (counts.shared w _ c job j items sound.fresh shares).0
        (λ new same. omega (arith, ap (groups_of w) same, room new)) (limits.few_groups j))
        limits;
  }

  grows_by : (b : Bool) → needs_group w c items ≡ b → Grows job 1 w (share w c job items)
  unfolding shares
  grows_by true needs = grows_group needs
  grows_by false none = subst (Grows job 1 w) (sym (shares.none none)) (grows_not job 1 w)

  -- a context that takes over
  pub grows_overlay : (e : Name) → Grows job 2 w (overlay w e c job items)
  unfolding overlay
  grows_overlay e =
      let shared = share w c job items in
      let made = overlay w e c job items in
      let names : KeepsNames shared made = (changes.overlaid w e c job items).names in
      let second : Grows job 0 shared made = grows_names job 0 shared made names.live names.groups names.size
      (λ j. subst (λ (next : ℕ → Counters). RisesBy 0 (shared.next j) (next j)) (sym names.next) (rises_not 0 (shared.next j))) in
      grows_more job 1 2 w made (omega arith) (then_grows job 1 0 w shared made (grows_by (needs_group w c items) refl) second)

  -- a context that is made, and another value under a slot
  pub grows_created : (entry : Regs) (n : ℕ) (value : Descriptor) → live_of w job < 32 → Grows job 2 w (put_slot (clone_context w c job items entry) c n value)
  unfolding shares
  grows_created entry n value fewer =
      let shared = share w c job items in
      let made = clone_context w c job items entry in
      let fewer_now : live_of shared job < 32 = omega (arith, live_as_before w shared shares.live job, fewer) in
      let adds = changes.cloned w c job items entry in
      let first : Grows job 1 w shared = grows_by (needs_group w c items) refl in
      let second : Grows job 1 shared made = grows_context job shared made _ (sound-share w c job items spec here sound).fresh adds fewer_now in
      then_grows job 2 0 w made (put_slot made c n value) (then_grows job 1 1 w shared made first second) (grows_slot job made c n value)

  -- the new context is live
  pub well_created : (entry : Regs) (n : ℕ) (cap : Cap) (io : Channels) → IsWell w io → IsWell (put_slot (clone_context w c job items entry) c n (Ctx (next_context w job) cap)) io
  well_created entry n cap io well =
      let made = clone_context w c job items entry in
      let adds = changes.cloned w c job items entry in
      well-slot made io c n (Ctx (next_context w job) cap) tt
      (λ d is. ap (is_live made) (sym (same_name (next_context w job) d is) ∙ sym (next_context-share w c job items job)) ∙ adds.live)
      (record {
        sound = sound-clone_context w c job items spec here sound entry;
        named = contexts-clone w c job items entry sound.fresh here well.named;
        files = files-clone io w c job items entry here well.files;
      })
