-- The machine of a start with a vault is ready.
use Rattle.std.proofs.Common.{◌≡◌, ◌⊎◌, inl, inr, ℕ, zero, suc, ◌+◌, ◌*◌, ◌≤◌, refl, sym, ap, subst, ◌∙◌, Bool, true, false, cond, eqb, ltb, None, List, [], ◌∷◌, length, take, arith}
use Rattle.std.specs.FinMap as fm
use Rattle.std.specs.List.{Contains}
use Rattle.std.specs.Ordering.{eq_by_cmp}
use Rattle.std.specs.Prelude.{is_some}
use Rattle.std.proofs.lemmas.Bool.{false≢true}
use Rattle.std.proofs.lemmas.List.Sums.{count_by-le-length}
use Rattle.std.proofs.lemmas.List.{take_all}
use Rattle.guest_image.specs.Limits.{IsImage, IsVault, pages_of}
use Rattle.guest_image.specs.declared.image.Image.{Image}
use Rattle.guest_image.specs.declared.image.Vault.{Vault}
use Rattle.guest_image.proofs.Lifted.{most_pages}
use Rattle.kernel_core.proofs.FirstLife.{not_of, only_first}
use Rattle.kernel_core.proofs.FirstWorld.{context-first}
use Rattle.kernel_core.proofs.Held.{context-held, live-held}
use Rattle.kernel_core.proofs.Limits.{length_of_keys}
use Rattle.kernel_core.proofs.Paging.{can_put, next_stored}
use Rattle.kernel_core.proofs.Started.{files_start, machine_at, page_there, ready_from, sound_start}
use Rattle.kernel_core.proofs.Vaults.{begun, first_is_live, still_live}
use Rattle.kernel_core.proofs.Worlds.{files_store}
use Rattle.kernel_core.specs.Kernel.{CanOpen}
use Rattle.kernel_core.specs.Machine.{Machine}
use Rattle.kernel_core.specs.Ready.{IsCounted, IsReady, IsWithinLimits, jobs_of, mapped, most_counted}
use Rattle.kernel_core.specs.Start.{Inputs, counted, first_context, first_name, first_slot, first_threads, start_world, vault_context, vault_name, vault_so_far, with_context, with_vault, world_size, world_with}
use Rattle.kernel_core.specs.Step.{roots}
use Rattle.kernel_core.specs.declared.settings.Job.TheVariants.{Run}
use Rattle.lwc_base.specs.Capabilities.{empty_cap}
use Rattle.lwc_base.specs.Cells.{slot_at, value_at, value_of}
use Rattle.lwc_base.specs.Channels.{HasItsFiles, opened}
use Rattle.lwc_base.specs.Facts.{KeepsNames}
use Rattle.lwc_base.specs.Holders.{IsGroup}
use Rattle.lwc_base.specs.Life.{HasItsContexts, IsReaped, Link, Reaches, Root, is_among, is_of, links}
use Rattle.lwc_base.specs.Mapping.{map_pages}
use Rattle.lwc_base.specs.Sound.{IsSound}
use Rattle.lwc_base.specs.Store.{Done, Piece, store}
use Rattle.lwc_base.specs.World.{World, Context, Group, add_context, change_counters, context, groups_of, is_live, live_of, new_context}
use Rattle.lwc_base.specs.declared.descriptor.Descriptor.TheVariants.{Ctx, Empty}
use Rattle.lwc_base.proofs.Common.{put-itself}
use Rattle.lwc_base.proofs.Counted.{count_by-same}
use Rattle.lwc_base.proofs.Facts.{orders}
use Rattle.lwc_base.proofs.InRange.{files-add_context, files-map_pages, files-put_slot}
use Rattle.lwc_base.proofs.NamedContexts.{contexts-put_slot}
use Rattle.lwc_base.proofs.Puts.{names-put_at}
use Rattle.lwc_base.proofs.Room.{sound-store}
use Rattle.lwc_base.proofs.Slots.{linked_slot, slot_links}
use Rattle.lwc_base.proofs.Sound.{sound-add_new_context, sound-map_pages, sound-put_slot}
use Rattle.lwc_base.proofs.Tables.{contains_key-insert, entry-insert}
use Rattle.lwc_types.specs.Names.{name_cmp}
use Rattle.lwc_types.specs.Registers.{fresh_registers}
use Rattle.lwc_types.specs.declared.counters.Counters.{Counters}
use Rattle.lwc_types.specs.declared.key.Key.TheVariants.{Slot}
use Rattle.lwc_types.specs.declared.key.TheConstants.{NOBODY}
use Rattle.lwc_types.specs.declared.name.Name.{Name}
use Rattle.lwc_types.proofs.Orders.{same_name}

module _ (image : Image) (is : IsImage image) (v : Vault) (is_vault : IsVault (length image.text) (pages_of image.form) v) (frames : ℕ)
    (fits : length image.pages + length v.pages ≤ frames) where
  abbrev w : World
  w = start_world image frames

  -- the world with all pages of the vault, and once its descriptor is there
  abbrev full : World
  full = vault_so_far w v.entry v.pages

  abbrev final : World
  final = with_vault w v

  frames_are : w.size.frames ≡ frames
  unfolding start_world world_with
  frames_are = refl

  fits_here : length image.pages + length v.pages ≤ w.size.frames
  fits_here = omega (arith, fits, frames_are)

  w_is : w ≡ start_world image w.size.frames
  w_is = ap (start_world image) (sym frames_are)

  -- what stays so while the vault is built, is so of it
  module _ (P : World → Type 0) (add : P (add_context w 0 (new_context NOBODY (fresh_registers v.entry))))
      (map : (u : World) (c : Name) (from to : ℕ) → to ≤ u.size.pages → P u → P (map_pages u c from to))
      (stores : (u z : World) (c : Name) (job : ℕ) (piece : Piece) → P u → is_live u c ≡ true → store u c job piece ≡ Done z → P z) where
    so_after : (k : ℕ) → k ≤ length v.pages → P (vault_so_far w v.entry (take k v.pages))
    so_after zero within = subst P (begun image is v is_vault w fits_here w_is (fresh_registers v.entry) _ refl refl) add
    so_after (suc k) within =
        let there = page_there v.pages k (omega arith) in
        let x = there.0 in
        let u : World = vault_so_far w v.entry (take k v.pages) in
        let can = can_put image is frames v is_vault fits k x there.1 in
        let next : k + 1 ≡ suc k = omega arith in
        subst (λ (n : ℕ). P (vault_so_far w v.entry (take n v.pages))) next
        (stores (mapped u vault_name x) (vault_so_far w v.entry (take (k + 1) v.pages)) vault_name 0 (record { at = x.number * 4096; bytes = x.bytes })
        (map u vault_name x.number (x.number + 1) (omega (arith, can.number)) (so_after k (omega arith))) can.stays
        (next_stored image is frames v is_vault fits k x there.1))

    so_full : P full
    so_full = subst (λ l. P (vault_so_far w v.entry l)) (take_all (length v.pages) v.pages (omega arith)) (so_after (length v.pages) (omega arith))

  some_fit : length image.pages ≤ frames
  some_fit = omega (arith, fits)

  sound_full : IsSound full
  sound_full = so_full IsSound (sound-add_new_context w 0 NOBODY (fresh_registers v.entry) (sound_start image is frames some_fit)) sound-map_pages sound-store

  pub sound_final : IsSound final
  unfolding with_vault
  sound_final = sound-put_slot full first_name 63 (Ctx vault_name empty_cap) sound_full

  pub files_final : (requests : List (List ℕ)) → HasItsFiles (opened image.files requests) final
  unfolding with_vault
  files_final requests =
      let io = opened image.files requests in
      files-put_slot io full first_name 63 (Ctx vault_name empty_cap) tt
      (so_full (HasItsFiles io) (files-add_context io w 0 NOBODY (fresh_registers v.entry) (files_start image is frames some_fit requests))
      (λ u c from to within. files-map_pages io u c from to) (λ u z c job piece has live done. files_store u z io c job piece done has))

  -- the names that are there
  names : KeepsNames full final
  unfolding with_vault
  names = names-put_at full first_name (Slot 63) (Ctx vault_name empty_cap)

  first_full : is_live full first_name ≡ true
  first_full = still_live w vault_name first_name (length v.pages) (vault_context (w.next 0).tags v.entry v.pages) (first_is_live image is v is_vault w fits_here w_is)

  -- what is live before, and what is in the slots
  first_alone : (c : Name) → is_live w c ≡ true → c ≡ first_name
  unfolding start_world
  first_alone c live = only_first image.form frames (length image.pages) (first_context image image.pages 64) c live

  vault_slot : (n : ℕ) → slot_at full vault_name n ≡ Empty
  unfolding value_at vault_context
  vault_slot n = ap (λ (y : Context). value_of full (Slot n) (y.cell (Slot n))) (context-held w vault_name (length v.pages) (vault_context (w.next 0).tags v.entry v.pages))

  first_stays : context full first_name ≡ first_context image image.pages 64
  unfolding context with_context change_counters start_world
  first_stays =
      entry-insert w.contexts vault_name (vault_context (w.next 0).tags v.entry v.pages) (new_context 0 (fresh_registers 0)) first_name
      ∙ context-first image.form frames (length image.pages) (first_context image image.pages 64)

  first_slot_stays : (n : ℕ) → slot_at full first_name n ≡ cond (ltb n 64) (first_slot image.slots n) Empty
  unfolding value_at first_context
  first_slot_stays n = ap (λ (y : Context). value_of full (Slot n) (y.cell (Slot n))) first_stays

  live_by : (c : Name) → is_live full c ≡ true → (c ≡ vault_name) ⊎ (c ≡ first_name)
  unfolding with_context change_counters
  live_by c live = by (eq_by_cmp name_cmp c vault_name) refl (sym (contains_key-insert w.contexts vault_name (vault_context (w.next 0).tags v.entry v.pages) c) ∙ live)
    where
      by : (b : Bool) → eq_by_cmp name_cmp c vault_name ≡ b → cond b true (fm.contains_key w.contexts c) ≡ true → (c ≡ vault_name) ⊎ (c ≡ first_name)
      by true same there = inl (same_name c vault_name same)
      by false other there = inr (first_alone c there)

  -- no slot has a descriptor of a context before the last
  slot_by : (d : Name) (n : ℕ) (c : Name) → (c ≡ vault_name) ⊎ (c ≡ first_name) → is_of d (slot_at full c n) ≡ false
  slot_by d n c (inl vault) =
      ap (λ e. is_of d (slot_at full e n)) vault ∙ ap (is_of d) (vault_slot n)
  slot_by d n c (inr first) = ap (λ e. is_of d (slot_at full e n)) first ∙ ap (is_of d) (first_slot_stays n) ∙ not_of d image n

  pub no_descriptor : (d c : Name) (n : ℕ) → is_live full c ≡ true → is_of d (slot_at full c n) ≡ false
  no_descriptor d c n live = slot_by d n c (live_by c live)

  none_linked : (c d : Name) → is_live full c ≡ true → links full c d ≡ false
  none_linked c d live = by (links full c d) refl
    where
      by : (b : Bool) → links full c d ≡ b → b ≡ false
      by false is = refl
      by true is = let found = linked_slot full c d is in absurd (false≢true (sym (no_descriptor d c found.0 live) ∙ found.2))

  of_live : (d : Name) → is_of d (Ctx vault_name empty_cap) ≡ true → is_live full d ≡ true
  of_live d is =
      ap (is_live full) (sym (same_name vault_name d is)) ∙ live-held w vault_name (length v.pages) (vault_context (w.next 0).tags v.entry v.pages)

  pub named_final : HasItsContexts final
  unfolding with_vault
  named_final =
      contexts-put_slot full first_name 63 (Ctx vault_name empty_cap) of_live
      (record { live = λ c d live link. absurd (false≢true (sym (none_linked c d live) ∙ link)) })

  pub first_final : is_live final first_name ≡ true
  first_final = names.live first_name ∙ first_full

  -- the first context links to the vault
  linked : links final first_name vault_name ≡ true
  unfolding with_vault
  linked =
      slot_links final first_name vault_name 63 (omega arith)
      (ap (is_of vault_name) (put-itself full first_name (Slot 63) (Ctx vault_name empty_cap) first_full sound_full.groups refl))

  reached : (roots : List Name) (c : Name) → is_among roots first_name ≡ true → (c ≡ vault_name) ⊎ (c ≡ first_name) → Reaches final roots c
  reached roots c root (inl vault) = subst (Reaches final roots) (sym vault) (Link first_name vault_name (Root first_name root) first_final linked)
  reached roots c root (inr first) = subst (Reaches final roots) (sym first) (Root first_name root)

  no_group : (g : Name) → IsGroup final g → ⊥
  unfolding with_context change_counters start_world world_with
  no_group g there = false≢true (sym (ap is_some (fm.get-empty name_cmp g)) ∙ sym (names.groups g) ∙ there)

  pub reaped_final : (budget : ℕ) (entries : List ℕ) → 1 ≤ length entries → IsReaped final (roots (first_threads budget entries) None)
  unfolding first_threads
  reaped_final budget [] some = absurd (omega arith)
  reaped_final budget (e ∷ es) some = record {
    contexts = λ c live. reached (roots (first_threads budget (e ∷ es)) None) c refl (live_by c (sym (names.live c) ∙ live));
    groups = λ g there. absurd (no_group g there);
  }

  -- there are two contexts
  at_most_more : (b : Bool) (n m : ℕ) → n ≤ m → cond b n (n + 1) ≤ suc m
  at_most_more true n m few = omega (arith, few)
  at_most_more false n m few = omega (arith, few)

  two : fm.len full.contexts ≤ 2
  unfolding with_context change_counters start_world world_with
  two =
      let none : fm.FinMap name_cmp Context = fm.empty in
      let one : fm.len (fm.insert none first_name (first_context image image.pages 64)) ≤ 1 =
      subst (λ (n : ℕ). n ≤ 1) (sym (fm.len-insert orders.names none first_name (first_context image image.pages 64)))
      (at_most_more (is_some (fm.get none first_name)) (fm.len none) 0 (omega (arith, fm.len-empty name_cmp Context))) in
      subst (λ (n : ℕ). n ≤ 2) (sym (fm.len-insert orders.names (fm.insert none first_name (first_context image image.pages 64)) vault_name (vault_context (w.next 0).tags v.entry v.pages)))
      (at_most_more (is_some (fm.get (fm.insert none first_name (first_context image image.pages 64)) vault_name)) (fm.len (fm.insert none first_name (first_context image image.pages 64))) 1 one)

  few_live : (job : ℕ) → live_of final job ≤ 2
  unfolding live_of
  few_live job =
      omega (
        arith,
        two,
        count_by-same final.contexts full.contexts names.live (λ c. eqb c.job job),
        length_of_keys full.contexts,
        count_by-le-length (λ (c : Name). eqb c.job job) (fm.keys full.contexts),
      )

  no_groups : (job : ℕ) → groups_of final job ≤ 0
  unfolding groups_of with_context change_counters start_world world_with
  no_groups job =
      omega (
        arith,
        count_by-same final.groups full.groups names.groups (λ c. eqb c.job job),
        length_of_keys full.groups,
        fm.len-empty name_cmp Group,
        count_by-le-length (λ (c : Name). eqb c.job job) (fm.keys full.groups),
      )

  of_job_0 : (jobs : List ℕ) (c : Name) → (c ≡ vault_name) ⊎ (c ≡ first_name) → Contains (0 ∷ jobs) c.job
  of_job_0 jobs c (inl vault) = (zero, omega arith, sym (ap (λ (n : Name). n.job) vault))
  of_job_0 jobs c (inr first) = (zero, omega arith, sym (ap (λ (n : Name). n.job) first))

  pub limits_final : (jobs : List ℕ) → IsWithinLimits final jobs
  limits_final jobs = record {
    contexts = λ c live. of_job_0 jobs c (live_by c (sym (names.live c) ∙ live));
    groups = λ g there. absurd (no_group g there);
    homes = omega (arith, few_live 0);
    few_contexts = λ job. omega (arith, few_live job);
    few_groups = λ job. omega (arith, no_groups job);
  }

  counted_by : (b : Bool) → IsCounted (most_counted 0) (cond b (record (cond b (counted 1 (length image.pages)) (counted 0 0)) { contexts = (cond b (counted 1 (length image.pages)) (counted 0 0)).contexts + 1; tags = (cond b (counted 1 (length image.pages)) (counted 0 0)).tags + length v.pages }) (cond b (counted 1 (length image.pages)) (counted 0 0)))
  counted_by true = record { contexts = omega arith; groups = omega arith; tags = omega (arith, is.page_count, most_pages image.form, is_vault.few) }
  counted_by false = record { contexts = omega arith; groups = omega arith; tags = omega arith }

  counted_full : (job : ℕ) → IsCounted (most_counted 0) (full.next job)
  unfolding with_context change_counters start_world world_with
  counted_full job = counted_by (eqb job 0)

  pub counted_final : (job : ℕ) → IsCounted (most_counted 0) (final.next job)
  counted_final job = subst (λ (next : ℕ → Counters). IsCounted (most_counted 0) (next job)) (sym names.next) (counted_full job)

  size_full : full.size ≡ world_size image.form frames
  unfolding with_context change_counters start_world world_with
  size_full = refl

  pub size_final : final.size ≡ world_size image.form frames
  size_final = names.size ∙ size_full

-- the machine of a run's start with a vault
abbrev pub machine_with : Inputs → Vault → Machine
machine_with inputs v = record (machine_at inputs Run) {
  environment = record {
    world = with_vault (start_world inputs.image inputs.settings.frames) v;
    channels = opened inputs.image.files inputs.requests;
  };
}

-- it is ready, as the one without a vault is
pub ready_with_vault : (inputs : Inputs) (v : Vault) → CanOpen inputs → IsVault (length inputs.image.text) (pages_of inputs.image.form) v → length inputs.image.pages + length v.pages ≤ inputs.settings.frames →
    IsReady inputs 0 (machine_at inputs Run) → IsReady inputs 0 (machine_with inputs v)
unfolding first_threads
ready_with_vault inputs v can is_vault fits ready =
    let image = inputs.image in
    let frames = inputs.settings.frames in
    let entries = image.entries in
    record {
      image = ready.image;
      few_requests = ready.few_requests;
      serve = tt;
      size = size_final image can.image v is_vault frames fits;
      sound = sound_final image can.image v is_vault frames fits;
      named = named_final image can.image v is_vault frames fits;
      files = files_final image can.image v is_vault frames fits inputs.requests;
      given_files = refl;
      given_requests = refl;
      reaped = reaped_final image can.image v is_vault frames fits inputs.settings.budget entries can.image.some_thread;
      limits = limits_final image can.image v is_vault frames fits (jobs_of (first_threads inputs.settings.budget entries));
      counted = counted_final image can.image v is_vault frames fits;
      threads = ready_from (with_vault (start_world image frames) v) inputs.settings.budget 0 entries (first_final image can.image v is_vault frames fits)
          can.settings.budget.0 can.settings.budget.1
          (omega (arith, can.image.thread_count, ap (λ size. size.jobs) (size_final image can.image v is_vault frames fits)));
      count = ready.count;
      some = ready.some;
      few = ready.few;
      text = refl;
    }
