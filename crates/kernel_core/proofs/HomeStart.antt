-- The worlds of a serve's start: homes are made from the first context, which is dropped then.
use Rattle.std.proofs.Common.{◌≡◌, ◌⊎◌, inl, inr, ℕ, zero, suc, ◌+◌, ◌≤◌, ◌<◌, refl, sym, ap, subst, ◌∙◌, Bool, true, false, cond, eqb, ltb, Option, Some, None, List, [], ◌||◌, length, arith}
use Rattle.std.specs.FinMap as fm
use Rattle.std.specs.List.{list_any, range_with_len}
use Rattle.std.specs.Ordering.{eq_by_cmp}
use Rattle.std.specs.Prelude.{All, IfSome, is_some, map, replicate, unwrap_or}
use Rattle.std.proofs.lemmas.List.{length-map, length-replicate}
use Rattle.std.proofs.lemmas.List.Elements.{All-map, All-nil}
use Rattle.std.proofs.lemmas.List.FromFn.{length-map-range_with_len}
use Rattle.std.proofs.lemmas.List.Sums.{count_by-le-length}
use Rattle.std.proofs.lemmas.Bool.{false≢true}
use Rattle.std.proofs.lemmas.Bool.Decides.{nat_tests}
use Rattle.guest_image.specs.declared.image.Image.{Image}
use Rattle.guest_image.specs.declared.image.Vault.{Vault}
use Rattle.guest_image.proofs.Lifted.{most_pages}
use Rattle.kernel_core.proofs.Limits.{length_of_keys}
use Rattle.kernel_core.proofs.Started.{files_start, image_fits, machine_at, ready_run_start, sound_start}
use Rattle.kernel_core.proofs.VaultReady.{ready_with_vault}
use Rattle.kernel_core.specs.Kernel.{CanKeep, CanOpen, MayHave, pages_in}
use Rattle.kernel_core.specs.Ready.{CanPutHome, IsCounted, IsReady, IsReadyThread, IsWithinLimits, IsWorker, jobs_of, most_counted}
use Rattle.kernel_core.specs.Settings.{IsJob}
use Rattle.kernel_core.specs.declared.settings.Job.{Job}
use Rattle.kernel_core.specs.declared.settings.Job.TheVariants.{Run, Serve}
use Rattle.kernel_core.proofs.Afters.{home_there}
use Rattle.kernel_core.proofs.FirstLife.{none_of, not_of}
use Rattle.kernel_core.proofs.Homes.{few_ranges_in_first, not_of_home}
use Rattle.kernel_core.proofs.ReadyRuns.{all_homes}
use Rattle.kernel_core.proofs.Reaping.{among_back}
use Rattle.kernel_core.specs.Machine as machine
use Rattle.kernel_core.specs.Machine.{Machine, home_of, homes_of}
use Rattle.kernel_core.specs.Step.{contexts_of, roots, waiting}
use Rattle.kernel_core.specs.declared.thread.Thread.{Thread}
use Rattle.lwc_base.specs.Channels.{Channels, HasItsFiles, opened}
use Rattle.lwc_base.specs.Holders.{InContext, IsGroup}
use Rattle.lwc_base.specs.Jobs.{IsOwnName, NamesKeepToJobs, own_names}
use Rattle.guest_image.specs.Limits.{IsImage, pages_of}
use Rattle.lwc_base.specs.Ranges.{ranges, ranges_of}
use Rattle.lwc_base.specs.Sound.{HasItsGroups, IsSound, live_groups}
use Rattle.world_face.specs.Calls.{HasPlace, MayName}
use Rattle.snapshot_host.specs.Begin.{IsNewJob}
use Rattle.kernel_core.specs.Start.{Inputs, counted, first_context, first_entry, first_name, first_value, first_workers, home_context, home_value, homes_so_far, serve_world, start, start_world, thread_count, threads_for, with_homes, with_its_vault, world_for, world_of, world_size, world_with}
use Rattle.lwc_base.specs.Cells.{put_slot, slot_at, value_at, value_of, with_cell}
use Rattle.lwc_base.specs.Keys.{with_key}
use Rattle.lwc_base.specs.Life.{HasItsContexts, IsReaped, Link, Reaches, Root, is_among, is_of, is_reached, links, names_group, reap}
use Rattle.lwc_base.specs.Modes.{IsSpec}
use Rattle.lwc_base.specs.Sharing.{clone_context, cloned_context, share}
use Rattle.lwc_base.specs.World.{World, Context, Group, add_context, change_counters, context, groups_of, is_live, live_of, new_context, next_context}
use Rattle.lwc_base.specs.declared.cell.Cell.{Cell}
use Rattle.lwc_base.specs.declared.cell.Cell.TheVariants.{Own}
use Rattle.lwc_base.specs.declared.descriptor.Descriptor.{Descriptor}
use Rattle.lwc_base.specs.declared.descriptor.Descriptor.TheVariants.{Ctx, Empty}
use Rattle.lwc_base.proofs.Clones.{next_context-share}
use Rattle.lwc_base.proofs.Facts.{changes, orders}
use Rattle.lwc_base.proofs.InRange.{files-clone, files-put_slot, files-reap}
use Rattle.lwc_base.proofs.Life.{or_cases, or_right, reached_by_way, way_of_reached}
use Rattle.lwc_base.proofs.Puts.{names-put_at}
use Rattle.lwc_base.proofs.Sound.{sound-clone_context, sound-put_slot, sound-reap}
use Rattle.lwc_types.specs.Names.{name_cmp}
use Rattle.lwc_types.specs.declared.key.Key.{Key}
use Rattle.lwc_types.specs.declared.key.Key.TheVariants.{Page, Slot, Cred}
use Rattle.lwc_types.specs.Registers.{fresh_registers}
use Rattle.lwc_types.specs.declared.name.Name.{Name}
use Rattle.lwc_types.specs.declared.right.Right.TheVariants.{Write}
use Rattle.lwc_types.specs.declared.regs.Regs.{Regs}
use Rattle.lwc_types.proofs.Orders.{name-itself, same_name}
use Rattle.snapshot_host.proofs.Copies.{copy_of, is_copy, no_group, put_added, shares_nothing}
use Rattle.snapshot_host.proofs.CopyRanges.{ranges_copied}
use Rattle.lwc_types.specs.declared.limits.TheConstants.{MOST_BUDGET, MOST_REQUESTS}

-- the contexts of a run's start: the first one
abbrev pub only_first : Image → fm.FinMap name_cmp Context
only_first image = fm.insert fm.empty first_name (first_context image image.pages 64)

abbrev so_far : Image → ℕ → ℕ → World
so_far = homes_so_far

-- no homes yet
pub none_yet : (image : Image) (frames : ℕ) → so_far image frames 0 ≡ start_world image frames
unfolding world_of start_world world_with
none_yet image frames = refl

abbrev nobody : fm.FinMap name_cmp Context
nobody = fm.empty

abbrev no_group_map : fm.FinMap name_cmp Group
no_group_map = fm.empty

none_either : (A : Type 0) (b : Bool) (x : Option A) → x ≡ None → cond b x None ≡ None
none_either A true x none = none
none_either A false x none = refl

-- whether a name is that of one of this number of homes
abbrev pub is_home : ℕ → Name → Bool
is_home zero q = false
is_home (suc t) q = eq_by_cmp name_cmp q (home_of t) || is_home t q

chosen_or : {A : Type 0} (a b : Bool) (x y : A) → cond a x (cond b x y) ≡ cond (a || b) x y
chosen_or true b x y = refl
chosen_or false b x y = refl

-- what is under a name
pub get-homes : (base : fm.FinMap name_cmp Context) (home : Context) (count : ℕ) (q : Name) → fm.get (with_homes base home count) q ≡ cond (is_home count q) (Some home) (fm.get base q)
get-homes base home zero q = refl
get-homes base home (suc t) q =
    fm.get-insert orders.names (with_homes base home t) (home_of t) home q
    ∙ ap (cond (eq_by_cmp name_cmp q (home_of t)) (Some home)) (get-homes base home t q)
    ∙ chosen_or (eq_by_cmp name_cmp q (home_of t)) (is_home t q) (Some home) (fm.get base q)

-- such a name is that of a home, and the other way round
pub home_at : (count : ℕ) (q : Name) → is_home count q ≡ true → (t : ℕ) × (t < count) × (q ≡ home_of t)
home_at zero q is = cc
home_at (suc t) q is =
    elim (or_cases (eq_by_cmp name_cmp q (home_of t)) (is_home t q) is) [
      | inl here ↦ (t, omega arith, same_name q (home_of t) here)
      | inr later ↦ let rest = home_at t q later in (rest.0, omega (arith, rest.1), rest.2)
    ]

pub at_home : (count t : ℕ) → t < count → is_home count (home_of t) ≡ true
at_home zero t within = absurd (omega arith)
at_home (suc n) t within = by_test (eqb t n) refl (at_home n t)
  where
    by_test : (b : Bool) → eqb t n ≡ b → (t < n → is_home n (home_of t) ≡ true) → (eq_by_cmp name_cmp (home_of t) (home_of n) || is_home n (home_of t)) ≡ true
    by_test true is rest =
        let same : t ≡ n = grind (arith, nat_tests) in
        ap (λ b. b || is_home n (home_of t)) (ap (λ k. eq_by_cmp name_cmp (home_of k) (home_of n)) same ∙ name-itself (home_of n))
    by_test false is rest = or_right (eq_by_cmp name_cmp (home_of t) (home_of n)) (is_home n (home_of t)) (rest (grind (arith, nat_tests)))

-- a name that is among homes is that of one
pub home_among_at : (from count : ℕ) (q : Name) → is_among (map home_of (range_with_len from count)) q ≡ true → (t : ℕ) × (t < from + count) × (q ≡ home_of t)
home_among_at from zero q among = cc
home_among_at from (suc count) q among =
    elim (or_cases (eq_by_cmp name_cmp q (home_of from)) (is_among (map home_of (range_with_len (from + 1) count)) q) among) [
      | inl here ↦ (from, omega arith, same_name q (home_of from) here)
      | inr later ↦ let rest = home_among_at (from + 1) count q later in (rest.0, omega (arith, rest.1), rest.2)
    ]

-- the first context is no home
first_is_none : (count : ℕ) → is_home count first_name ≡ false
first_is_none count = by_test (is_home count first_name) refl
  where
    by_test : (b : Bool) → is_home count first_name ≡ b → b ≡ false
    by_test false is = refl
    by_test true is = let at = home_at count first_name is in absurd (omega (arith, ap (λ (n : Name). n.k) at.2))

module _ (image : Image) (frames k : ℕ) where
  w : World
  w = so_far image frames k

  get-first-map : (q : Name) → fm.get (only_first image) q ≡ cond (eq_by_cmp name_cmp q first_name) (Some (first_context image image.pages 64)) None
  get-first-map q = fm.get-insert orders.names fm.empty first_name (first_context image image.pages 64) q ∙ ap (cond (eq_by_cmp name_cmp q first_name) (Some (first_context image image.pages 64))) (fm.get-empty name_cmp q)

  found_first : fm.get (with_homes (only_first image) (home_context image) k) first_name ≡ Some (first_context image image.pages 64)
  found_first =
      get-homes (only_first image) (home_context image) k first_name
      ∙ ap (λ b. cond b (Some (home_context image)) (fm.get (only_first image) first_name)) (first_is_none k)
      ∙ get-first-map first_name ∙ ap (λ b. cond b (Some (first_context image image.pages 64)) None) (name-itself first_name)

  pub first_lives : is_live (so_far image frames k) first_name ≡ true
  unfolding world_of
  first_lives = ap is_some found_first

  pub first_there : context (so_far image frames k) first_name ≡ first_context image image.pages 64
  unfolding world_of context
  first_there = ap (λ (o : Option Context). unwrap_or o (new_context 0 (fresh_registers 0))) found_first

  pub next_is : next_context (so_far image frames k) 0 ≡ home_of k
  unfolding world_of
  next_is = refl

  counted_more : (j : ℕ) → cond (eqb j 0) (record ((so_far image frames k).next j) { contexts = ((so_far image frames k).next j).contexts + 1 }) ((so_far image frames k).next j) ≡ (so_far image frames (k + 1)).next j
  unfolding world_of
  counted_more j = by_test (eqb j 0)
    where
      by_test : (b : Bool) → cond b (record (cond b (counted (k + 1) (length image.pages)) (counted 0 0)) { contexts = (cond b (counted (k + 1) (length image.pages)) (counted 0 0)).contexts + 1 }) (cond b (counted (k + 1) (length image.pages)) (counted 0 0))
          ≡ cond b (counted (k + 1 + 1) (length image.pages)) (counted 0 0)
      by_test true = refl
      by_test false = refl

  -- one home more
  added : add_context (so_far image frames k) 0 (home_context image) ≡ so_far image frames (k + 1)
  unfolding add_context change_counters world_of
  added =
      let next : suc k ≡ k + 1 = omega arith in
      λ i. record {
        contexts = with_homes (only_first image) (home_context image) (next i);
        groups = fm.empty;
        next = λ j. counted_more j i;
        size = world_size image.form frames;
      }

  low_slot : (n : ℕ) → cond (eqb n 0) (Own Empty) (cond (eqb n 1) (Own Empty) (Own (first_value image image.pages 64 (Slot n)))) ≡ Own (home_value image (Slot n))
  low_slot n = by_tests (eqb n 0) (eqb n 1) refl refl
    where
      below : (n : ℕ) (b : Bool) → ltb n 2 ≡ b → Own (cond b Empty (first_value image image.pages 64 (Slot n))) ≡ Own (home_value image (Slot n))
      below n b is = ap (λ (c : Bool). Own (cond c Empty (first_value image image.pages 64 (Slot n)))) (sym is)

      by_tests : (a b : Bool) → eqb n 0 ≡ a → eqb n 1 ≡ b → cond a (Own Empty) (cond b (Own Empty) (Own (first_value image image.pages 64 (Slot n)))) ≡ Own (home_value image (Slot n))
      by_tests true b zero_is one_is = below n true (let is : n ≡ 0 = grind (arith, nat_tests) in grind (arith, nat_tests))
      by_tests false true zero_is one_is = below n true (let is : n ≡ 1 = grind (arith, nat_tests) in grind (arith, nat_tests))
      by_tests false false zero_is one_is = below n false (grind (arith, nat_tests))

  value_there : (q : Key) → value_at (so_far image frames k) first_name q ≡ first_value image image.pages 64 q
  unfolding value_at first_context
  value_there q = ap (λ (x : Context). value_of (so_far image frames k) q (x.cell q)) first_there

  emptied : (q : Key) → with_key Cell (Slot 0) (Own Empty) (with_key Cell (Slot 1) (Own Empty) (λ p. Own (value_at (so_far image frames k) first_name p))) q ≡ Own (home_value image q)
  emptied (Page p) = ap Own (value_there (Page p))
  emptied (Slot n) = ap (λ (d : Descriptor). cond (eqb n 0) (Own Empty) (cond (eqb n 1) (Own Empty) (Own d))) (value_there (Slot n)) ∙ low_slot n
  emptied Cred = ap Own (value_there Cred)

  entry_is : (context (so_far image frames k) first_name).entry ≡ fresh_registers (first_entry image)
  unfolding first_context
  entry_is = ap (λ (x : Context). x.entry) first_there

  right_is : (p : ℕ) → (context (so_far image frames k) first_name).right p ≡ Write
  unfolding first_context
  right_is p = ap (λ (x : Context). x.right p) first_there

  home_made : with_cell (Slot 0) (Own Empty) (with_cell (Slot 1) (Own Empty) (copy_of (so_far image frames k) first_name (context (so_far image frames k) first_name).entry)) ≡ home_context image
  unfolding home_context
  home_made = λ i. record { cell = λ q. emptied q i; right = λ p. right_is p i; entry = entry_is i; saved = λ t. None }

  cloned : (entry : Regs) → share (so_far image frames k) first_name 0 [] ≡ so_far image frames k → clone_context (so_far image frames k) first_name 0 [] entry ≡ add_context (so_far image frames k) 0 (copy_of (so_far image frames k) first_name entry)
  unfolding clone_context
  cloned entry same = ap (λ (s : World). add_context s 0 (cloned_context s first_name [] entry)) same ∙ ap (add_context (so_far image frames k) 0) (is_copy (so_far image frames k) first_name entry)

  -- a home is a copy of the first context in which two slots are emptied
  pub home_put : share (so_far image frames k) first_name 0 [] ≡ so_far image frames k →
      put_slot (put_slot (clone_context (so_far image frames k) first_name 0 [] (context (so_far image frames k) first_name).entry) (home_of k) 1 Empty) (home_of k) 0 Empty ≡ so_far image frames (k + 1)
  home_put same =
      let v = so_far image frames k in
      let entry = (context v first_name).entry in
      let copy = copy_of v first_name entry in
      ap (λ (u : World). put_slot (put_slot u (home_of k) 1 Empty) (home_of k) 0 Empty) (cloned entry same)
      ∙ ap (λ (c : Name). put_slot (put_slot (add_context v 0 copy) c 1 Empty) c 0 Empty) (sym next_is)
      ∙ ap (λ (u : World). put_slot u (next_context v 0) 0 Empty) (put_added v 0 copy 1 _ Empty refl)
      ∙ put_added v 0 (with_cell (Slot 1) (Own Empty) copy) 0 _ Empty refl
      ∙ ap (add_context v 0) home_made ∙ added

-- what lives in a world of homes and no other contexts, or beside the first one
module _ (image : Image) (frames k : ℕ) (base : fm.FinMap name_cmp Context) (base_is : (q : Name) (x : Context) → fm.get base q ≡ Some x → x ≡ first_context image image.pages 64) where
  v : World
  v = world_of image frames k (with_homes base (home_context image) k)

  found_by : (q : Name) (b : Bool) → is_home k q ≡ b → fm.get (with_homes base (home_context image) k) q ≡ cond b (Some (home_context image)) (fm.get base q)
  found_by q b is = get-homes base (home_context image) k q ∙ ap (λ c. cond c (Some (home_context image)) (fm.get base q)) is

  context_by : (q : Name) (o : Option Context) → fm.get (with_homes base (home_context image) k) q ≡ o → context (world_of image frames k (with_homes base (home_context image) k)) q ≡ unwrap_or o (new_context 0 (fresh_registers 0))
  unfolding context world_of
  context_by q o is = ap (λ (p : Option Context). unwrap_or p (new_context 0 (fresh_registers 0))) is

  pub home_lives_here : (t : ℕ) → t < k → is_live (world_of image frames k (with_homes base (home_context image) k)) (home_of t) ≡ true
  unfolding world_of
  home_lives_here t within = ap is_some (found_by (home_of t) true (at_home k t within))

  pub home_is : (t : ℕ) → t < k → context (world_of image frames k (with_homes base (home_context image) k)) (home_of t) ≡ home_context image
  home_is t within = context_by (home_of t) _ (found_by (home_of t) true (at_home k t within))

  live_by : (q : Name) → is_live (world_of image frames k (with_homes base (home_context image) k)) q ≡ true → (b : Bool) → is_home k q ≡ b → (o : Option Context) → fm.get base q ≡ o →
      (context (world_of image frames k (with_homes base (home_context image) k)) q ≡ home_context image) ⊎ (context (world_of image frames k (with_homes base (home_context image) k)) q ≡ first_context image image.pages 64)
  unfolding world_of
  live_by q live true is o there = inl (context_by q _ (found_by q true is))
  live_by q live false is None there = absurd (false≢true (sym (ap is_some (found_by q false is ∙ there)) ∙ live))
  live_by q live false is (Some x) there = inr (context_by q _ (found_by q false is ∙ there) ∙ base_is q x there)

  slot_none : (q : Name) → is_live (world_of image frames k (with_homes base (home_context image) k)) q ≡ true → (n : ℕ) (d : Name) → is_of d (slot_at (world_of image frames k (with_homes base (home_context image) k)) q n) ≡ false
  unfolding value_at home_context first_context
  slot_none q live n d =
      elim (live_by q live (is_home k q) refl (fm.get base q) refl) [
        | inl home ↦ ap (λ (x : Context). is_of d (value_of (world_of image frames k (with_homes base (home_context image) k)) (Slot n) (x.cell (Slot n)))) home ∙ not_of_home d image n
        | inr first ↦ ap (λ (x : Context). is_of d (value_of (world_of image frames k (with_homes base (home_context image) k)) (Slot n) (x.cell (Slot n)))) first ∙ not_of d image n
      ]

  pub no_links : (c d : Name) → is_live (world_of image frames k (with_homes base (home_context image) k)) c ≡ true → links (world_of image frames k (with_homes base (home_context image) k)) c d ≡ false
  unfolding links
  no_links c d live = none_of _ (range_with_len 0 64) (λ n. slot_none c live n d)

  -- so only roots are reached
  pub only_roots : (roots : List Name) (c : Name) → Reaches (world_of image frames k (with_homes base (home_context image) k)) roots c → is_among roots c ≡ true
  only_roots roots c (Root _ among) = among
  only_roots roots c (Link d _ before live link) = absurd (false≢true (sym (no_links d c live) ∙ link))

module _ (image : Image) (frames k : ℕ) where
  base_first : (q : Name) (x : Context) → fm.get (only_first image) q ≡ Some x → x ≡ first_context image image.pages 64
  base_first q x is = by_test (eq_by_cmp name_cmp q first_name) (sym (get-first-map image frames k q) ∙ is)
    where
      by_test : (b : Bool) → cond b (Some (first_context image image.pages 64)) None ≡ Some x → x ≡ first_context image image.pages 64
      by_test true same = cc
      by_test false same = cc

  base_none : (q : Name) (x : Context) → fm.get nobody q ≡ Some x → x ≡ first_context image image.pages 64
  base_none q x is = let none : fm.get nobody q ≡ None = fm.get-empty name_cmp q in cc

  reached_by : (q : Name) (b : Bool) → is_home k q ≡ b →
      cond (is_reached (so_far image frames k) (homes_of k) q) (fm.get (with_homes (only_first image) (home_context image) k) q) None ≡ fm.get (with_homes fm.empty (home_context image) k) q
  unfolding world_of
  reached_by q true is =
      let at = home_at k q is in
      let there : is_live (so_far image frames k) q ≡ true = ap is_some (found_by image frames k (only_first image) base_first q true is) in
      let root : is_among (homes_of k) q ≡ true = subst (λ (n : Name). is_among (homes_of k) n ≡ true) (sym at.2) (home_there k at.0 at.1) in
      ap (λ b. cond b (fm.get (with_homes (only_first image) (home_context image) k) q) None) (reached_by_way (so_far image frames k) (homes_of k) q (Root q root) there)
      ∙ found_by image frames k (only_first image) base_first q true is ∙ sym (found_by image frames k fm.empty base_none q true is)
  reached_by q false is = by_reached (is_reached (so_far image frames k) (homes_of k) q) refl
    where
      by_reached : (b : Bool) → is_reached (so_far image frames k) (homes_of k) q ≡ b → cond b (fm.get (with_homes (only_first image) (home_context image) k) q) None ≡ fm.get (with_homes fm.empty (home_context image) k) q
      by_reached true reached =
          let root = only_roots image frames k (only_first image) base_first (homes_of k) q (way_of_reached (so_far image frames k) (homes_of k) q reached) in
          let at = home_among_at 0 k q root in
          let here : is_home k q ≡ true = subst (λ (n : Name). is_home k n ≡ true) (sym at.2) (at_home k at.0 (omega (arith, at.1))) in
          absurd (false≢true (sym is ∙ here))
      by_reached false none = sym (fm.get-empty name_cmp q) ∙ sym (found_by image frames k fm.empty base_none q false is)

  abbrev kept_contexts : fm.FinMap name_cmp Context
  kept_contexts = fm.retain_keys (with_homes (only_first image) (home_context image) k) (is_reached (so_far image frames k) (homes_of k))

  abbrev is_named : Name → Bool
  is_named g = list_any (names_group (pages_of image.form) g) (fm.values kept_contexts)

  contexts_left : kept_contexts ≡ with_homes fm.empty (home_context image) k
  contexts_left =
      fm.same_map orders.names orders.one_name kept_contexts (with_homes fm.empty (home_context image) k) (λ q.
      fm.get-retain_keys (with_homes (only_first image) (home_context image) k) (is_reached (so_far image frames k) (homes_of k)) q
      (λ x tie. ap (is_reached (so_far image frames k) (homes_of k)) (sym (orders.one_name q x tie)))
      ∙ reached_by q (is_home k q) refl)

  groups_left : fm.retain_keys no_group_map is_named ≡ no_group_map
  groups_left =
      fm.same_map orders.names orders.one_name (fm.retain_keys no_group_map is_named) no_group_map (λ q.
      fm.get-retain_keys no_group_map is_named q (λ x tie. ap is_named (sym (orders.one_name q x tie)))
      ∙ none_either Group (is_named q) (fm.get no_group_map q) (fm.get-empty name_cmp q) ∙ sym (fm.get-empty name_cmp q))

  -- the first context is dropped
  pub homes_left : reap (so_far image frames k) (homes_of k) ≡ serve_world image frames k
  unfolding reap world_of
  homes_left = λ i. record { contexts = contexts_left i; groups = groups_left i; next = (so_far image frames k).next; size = world_size image.form frames }

-- there are few contexts
few_contexts : (image : Image) (base : fm.FinMap name_cmp Context) (most n : ℕ) → fm.len base ≤ most → fm.len (with_homes base (home_context image) n) ≤ n + most
few_contexts image base most zero few = omega (arith, few)
few_contexts image base most (suc n) few =
    by_test (fm.contains_key (with_homes base (home_context image) n) (home_of n)) (fm.len-insert orders.names (with_homes base (home_context image) n) (home_of n) (home_context image)) (few_contexts image base most n few)
  where
    by_test : (b : Bool) → fm.len (with_homes base (home_context image) (suc n)) ≡ cond b (fm.len (with_homes base (home_context image) n)) (fm.len (with_homes base (home_context image) n) + 1) →
        fm.len (with_homes base (home_context image) n) ≤ n + most → fm.len (with_homes base (home_context image) (suc n)) ≤ suc n + most
    by_test true is fewer = omega (arith, is, fewer)
    by_test false is fewer = omega (arith, is, fewer)

one_context : (image : Image) → fm.len (only_first image) ≤ 1
one_context image = by_test (fm.contains_key nobody first_name) (fm.len-insert orders.names nobody first_name (first_context image image.pages 64))
  where
    by_test : (b : Bool) → fm.len (only_first image) ≡ cond b (fm.len nobody) (fm.len nobody + 1) → fm.len (only_first image) ≤ 1
    by_test true is = omega (arith, is, fm.len-empty name_cmp Context)
    by_test false is = omega (arith, is, fm.len-empty name_cmp Context)

module _ (image : Image) (is : IsImage image) (frames k : ℕ) (few : k < 16) where
  groups_there : HasItsGroups (so_far image frames k)
  unfolding world_of home_context first_context
  groups_there = record {
    contexts = λ c live q.
        elim (live_by image frames k (only_first image) (base_first image frames k) c live (is_home k c) refl (fm.get (only_first image) c) refl) [
          | inl home ↦ subst (λ (x : Context). InContext (live_groups (so_far image frames k)) c.job x) (sym home) (λ p. tt) q
          | inr first ↦ subst (λ (x : Context). InContext (live_groups (so_far image frames k)) c.job x) (sym first) (λ p. tt) q
        ];
    groups = λ g there q. tt;
  }

  ranges_first : ranges_of (so_far image frames k) first_name ≤ 64
  unfolding ranges_of world_of
  ranges_first = subst (λ (x : Context). ranges (pages_of image.form) x ≤ 64) (sym (first_there image frames k)) (few_ranges_in_first image is)

  place_there : HasPlace (so_far image frames k)
  unfolding world_of
  place_there = let most = few_contexts image (only_first image) 1 k (one_context image) in omega (arith, most, few)

  may_there : MayName (so_far image frames k) 0
  unfolding world_of
  may_there = record { known = omega arith; contexts = omega (arith, few); groups = omega arith; tags = omega (arith, is.page_count, most_pages image.form) }

  copied_there : (entry : Regs) → is_live (clone_context (so_far image frames k) first_name 0 [] entry) (home_of k) ≡ true
  copied_there entry =
      let adds = changes.cloned (so_far image frames k) first_name 0 [] entry in
      ap (is_live (clone_context (so_far image frames k) first_name 0 [] entry)) (sym (next_context-share (so_far image frames k) first_name 0 [] 0 ∙ next_is image frames k)) ∙ adds.live

  -- one more home can be made
  pub can_put : CanPutHome (so_far image frames k) (home_of k)
  can_put =
      let first = first_lives image frames k in
      let after = ranges_copied (so_far image frames k) first_name 0 groups_there first in
      record {
        live = first;
        may = may_there;
        place = place_there;
        group = no_group (so_far image frames k) first_name;
        few = (omega (arith, after.0, ranges_first), omega (arith, after.1, ranges_first));
        next = next_is image frames k;
        copied = copied_there;
        emptied = λ entry. (names-put_at (clone_context (so_far image frames k) first_name 0 [] entry) (home_of k) (Slot 1) Empty).live (home_of k) ∙ copied_there entry;
      }

-- a home that is copied from the first context, and whose first two slots are emptied, is the next one
pub one_home_more : (image : Image) (frames t : ℕ) →
    put_slot (put_slot (clone_context (so_far image frames t) first_name 0 [] (fresh_registers (first_entry image))) (home_of t) 1 Empty) (home_of t) 0 Empty ≡ so_far image frames (t + 1)
one_home_more image frames t =
    ap (λ (entry : Regs). put_slot (put_slot (clone_context (so_far image frames t) first_name 0 [] entry) (home_of t) 1 Empty) (home_of t) 0 Empty) (sym (entry_is image frames t))
    ∙ home_put image frames t (shares_nothing (so_far image frames t) first_name 0)

-- each home lives
pub homes_live : (image : Image) (frames workers : ℕ) → All (λ home. is_live (so_far image frames workers) home ≡ true) (homes_of workers)
homes_live image frames workers =
    all_homes (λ home. is_live (so_far image frames workers) home ≡ true) 0 workers
    (λ t within. let same : t ≡ 0 + t = omega arith in subst (λ (k : ℕ). is_live (so_far image frames workers) (home_of k) ≡ true) same (home_lives_here image frames workers (only_first image) (base_first image frames workers) t within))

-- how the homes of a serve are made
pub ruleset homes_are_made = (none_yet, homes_live, homes_left)

module _ (inputs : Inputs) (is_image : IsImage inputs.image) (fits : length inputs.image.pages ≤ inputs.settings.frames) (budget : (1 ≤ inputs.settings.budget) × (inputs.settings.budget ≤ MOST_BUDGET))
    (workers : ℕ) (job : inputs.settings.job ≡ Serve workers) (few : IsJob (Serve workers)) (few_requests : length inputs.requests ≤ MOST_REQUESTS)
    (taken : ℕ) (few_taken : taken ≤ length inputs.requests) where
  image : Image
  image = inputs.image

  abbrev made_world : ℕ → World
  made_world k = so_far inputs.image inputs.settings.frames k

  abbrev start_here : World
  start_here = serve_world inputs.image inputs.settings.frames workers

  no_items : IsSpec (pages_of inputs.image.form) []
  no_items = record { few = omega arith; each = All-nil _; apart = λ i j d before within. absurd (omega (arith, within)) }

  size_is : (k : ℕ) → (made_world k).size.pages ≡ pages_of inputs.image.form
  unfolding world_of
  size_is k = refl

  -- what stays so while homes are made
  so_made : (P : World → Type 0) → P (start_world inputs.image inputs.settings.frames) → ((k : ℕ) (entry : Regs) → P (made_world k) → P (clone_context (made_world k) first_name 0 [] entry)) →
      ((w : World) (c : Name) (n : ℕ) → P w → P (put_slot w c n Empty)) → (k : ℕ) → P (made_world k)
  so_made P first clone put zero = subst P (sym (none_yet inputs.image inputs.settings.frames)) first
  so_made P first clone put (suc k) =
      let next : k + 1 ≡ suc k = omega arith in
      let entry = (context (made_world k) first_name).entry in
      subst (λ (n : ℕ). P (made_world n)) next
      (subst P (home_put inputs.image inputs.settings.frames k (shares_nothing (made_world k) first_name 0))
      (put _ (home_of k) 0 (put _ (home_of k) 1 (clone k entry (so_made P first clone put k)))))

  sound_made : (k : ℕ) → IsSound (made_world k)
  sound_made =
      so_made IsSound (sound_start inputs.image is_image inputs.settings.frames fits)
      (λ k entry so. sound-clone_context (made_world k) first_name 0 [] (subst (λ (n : ℕ). IsSpec n []) (sym (size_is k)) no_items) (first_lives inputs.image inputs.settings.frames k) so entry)
      (λ w c n so. sound-put_slot w c n Empty so)

  sound_here : IsSound start_here
  sound_here = subst IsSound (homes_left inputs.image inputs.settings.frames workers) (sound-reap (made_world workers) (homes_of workers) (sound_made workers))

  abbrev io : Channels
  io = opened inputs.image.files inputs.requests

  files_made : (k : ℕ) → HasItsFiles io (made_world k)
  files_made =
      so_made (HasItsFiles io) (files_start inputs.image is_image inputs.settings.frames fits inputs.requests)
      (λ k entry so. files-clone io (made_world k) first_name 0 [] entry (first_lives inputs.image inputs.settings.frames k) so)
      (λ w c n so. files-put_slot io w c n Empty tt so)

  files_here : HasItsFiles io start_here
  files_here = subst (HasItsFiles io) (homes_left inputs.image inputs.settings.frames workers) (files-reap io (made_world workers) (homes_of workers) (files_made workers))

  none_there : (q : Name) (x : Context) → fm.get nobody q ≡ Some x → x ≡ first_context inputs.image inputs.image.pages 64
  none_there = base_none inputs.image inputs.settings.frames workers

  -- only homes live
  is_home_here : (c : Name) → is_live start_here c ≡ true → is_home workers c ≡ true
  unfolding world_of
  is_home_here c live = by_test (is_home workers c) refl
    where
      by_test : (b : Bool) → is_home workers c ≡ b → b ≡ true
      by_test true is = refl
      by_test false is = absurd (false≢true (sym (ap is_some (get-homes nobody (home_context inputs.image) workers c ∙ ap (λ b. cond b (Some (home_context inputs.image)) (fm.get nobody c)) is ∙ fm.get-empty name_cmp c)) ∙ live))

  home_of_live : (c : Name) → is_live start_here c ≡ true → (t : ℕ) × (t < workers) × (c ≡ home_of t)
  home_of_live c live = home_at workers c (is_home_here c live)

  no_group_here : (g : Name) → IsGroup start_here g → ⊥
  unfolding world_of
  no_group_here g there = false≢true (sym (ap is_some (fm.get-empty name_cmp g)) ∙ there)

  context_here : (t : ℕ) → t < workers → context start_here (home_of t) ≡ home_context inputs.image
  context_here = home_is inputs.image inputs.settings.frames workers nobody none_there

  live_here : (t : ℕ) → t < workers → is_live start_here (home_of t) ≡ true
  live_here = home_lives_here inputs.image inputs.settings.frames workers nobody none_there

  named_here : HasItsContexts start_here
  named_here = record { live = λ c d live link. absurd (false≢true (sym (no_links inputs.image inputs.settings.frames workers nobody none_there c d live) ∙ link)) }

  own_by : (job : ℕ) (value : Descriptor) → ((d : Name) → is_of d value ≡ false) → IsOwnName job value
  own_by job (Ctx name cap) of_none = absurd (false≢true (sym (of_none name) ∙ name-itself name))
  own_by job _ of_none = tt

  home_names : (job : ℕ) → InContext own_names job (home_context inputs.image)
  unfolding home_context
  home_names job (Page p) = tt
  home_names job (Slot n) = own_by job _ (λ d. not_of_home d inputs.image n)
  home_names job Cred = tt

  names_here : NamesKeepToJobs start_here
  names_here = record {
    contexts = λ c live.
        let at = home_of_live c live in
        let same : context start_here c ≡ home_context inputs.image = ap (context start_here) at.2 ∙ context_here at.0 at.1 in
        subst (InContext own_names c.job) (sym same) (home_names c.job);
    groups = λ g there. absurd (no_group_here g there);
  }

  abbrev threads_here : List Thread
  threads_here = first_workers (first_entry inputs.image) workers

  abbrev serve_here : machine.Serve
  serve_here = record { workers = workers; budget = inputs.settings.budget; next = taken; replies = replicate (length inputs.requests) None }

  reaped_here : IsReaped start_here (roots threads_here (Some serve_here))
  reaped_here = record {
    contexts = λ c live.
        let at = home_of_live c live in
        Root c (among_back (contexts_of threads_here) (homes_of workers) c (subst (λ (n : Name). is_among (homes_of workers) n ≡ true) (sym at.2) (home_there workers at.0 at.1)));
    groups = λ g there. absurd (no_group_here g there);
  }

  few_homes : (n : ℕ) → fm.len (with_homes nobody (home_context inputs.image) n) ≤ n
  few_homes zero = omega (arith, fm.len-empty name_cmp Context)
  few_homes (suc n) =
      let longer = fm.len-insert orders.names (with_homes nobody (home_context inputs.image) n) (home_of n) (home_context inputs.image) in
      by_test (fm.contains_key (with_homes nobody (home_context inputs.image) n) (home_of n)) longer (few_homes n)
    where
      by_test : (b : Bool) → fm.len (with_homes nobody (home_context inputs.image) (suc n)) ≡ cond b (fm.len (with_homes nobody (home_context inputs.image) n)) (fm.len (with_homes nobody (home_context inputs.image) n) + 1) →
          fm.len (with_homes nobody (home_context inputs.image) n) ≤ n → fm.len (with_homes nobody (home_context inputs.image) (suc n)) ≤ suc n
      by_test true is fewer = omega (arith, is, fewer)
      by_test false is fewer = omega (arith, is, fewer)

  few_live : (j : ℕ) → live_of start_here j ≤ workers
  unfolding live_of world_of
  few_live j =
      let keys = fm.keys (with_homes nobody (home_context inputs.image) workers) in
      omega (arith, count_by-le-length (λ (c : Name). eqb c.job j) keys, length_of_keys (with_homes nobody (home_context inputs.image) workers), few_homes workers)

  no_groups : (j : ℕ) → groups_of start_here j ≤ 0
  unfolding groups_of world_of
  no_groups j = omega (arith, count_by-le-length (λ (c : Name). eqb c.job j) (fm.keys no_group_map), length_of_keys no_group_map, fm.len-empty name_cmp Group)

  limits_here : IsWithinLimits start_here (jobs_of threads_here)
  limits_here = record {
    contexts = λ c live. let at = home_of_live c live in (zero, omega arith, sym (ap (λ (n : Name). n.job) at.2));
    groups = λ g there. absurd (no_group_here g there);
    homes = omega (arith, few_live 0, few.1);
    few_contexts = λ j. omega (arith, few_live j, few.1);
    few_groups = λ j. omega (arith, no_groups j);
  }

  counted_here : (j : ℕ) → IsCounted (most_counted 0) (start_here.next j)
  unfolding world_of
  counted_here j = by_test (eqb j 0)
    where
      by_test : (b : Bool) → IsCounted (most_counted 0) (cond b (counted (workers + 1) (length inputs.image.pages)) (counted 0 0))
      by_test true = record { contexts = omega (arith, few.1); groups = omega arith; tags = omega (arith, is_image.page_count, most_pages inputs.image.form) }
      by_test false = record { contexts = omega arith; groups = omega arith; tags = omega arith }

  new_here : (r : ℕ) → IsNewJob start_here (r + 1)
  unfolding world_of
  new_here r = ap (λ b. cond b (counted (workers + 1) (length inputs.image.pages)) (counted 0 0)) (let other : eqb (r + 1) 0 ≡ false = grind (arith, nat_tests) in other)

  abbrev make : Name → Thread
  make home = waiting home (fresh_registers (first_entry inputs.image))

  all_workers : (P : Thread → Type 0) → ((t : ℕ) → t < workers → P (make (home_of t))) → All P threads_here
  unfolding first_workers
  all_workers P each =
      All-map P make (homes_of workers) (all_homes (λ home. P (make home)) 0 workers (λ t within. let same : t ≡ 0 + t = omega arith in subst (λ (k : ℕ). P (make (home_of k))) same (each t within)))

  count_here : length threads_here ≡ workers
  unfolding first_workers
  count_here = length-map (homes_of workers) make ∙ length-map-range_with_len home_of 0 workers

  -- also where the first requests are taken as begun
  pub ready_serve : IsReady inputs 0 (record (machine_at inputs (Serve workers)) { serve = Some serve_here })
  unfolding thread_count world_of
  ready_serve = record {
    image = is_image;
    size = size_here;
    sound = sound_here;
    named = named_here;
    files = files_here;
    given_files = refl;
    given_requests = refl;
    few_requests = few_requests;
    reaped = reaped_here;
    limits = limits_here;
    counted = counted_here;
    threads = all_workers (IsReadyThread start_here) (λ t within. record { live = live_here t within; budget = omega arith; runs = tt });
    count = count_here ∙ sym (ap (threads_for inputs.image) job);
    some = omega (arith, count_here, few.0);
    few = omega (arith, count_here, few.1);
    text = refl;
    serve = record {
      workers = few.1;
      count = count_here;
      budget = budget;
      next = few_taken;
      replies = length-replicate (length inputs.requests) None;
      live = live_here;
      homes = context_here;
      names = names_here;
      new_jobs = λ r more. new_here r;
      threads = all_workers (IsWorker serve_here) (λ t within. record { here = refl; job = refl });
    };
  }
    where
      size_here : start_here.size ≡ world_size inputs.image.form inputs.settings.frames
      size_here = refl

-- the machine of a start is ready
-- the machine of a start, by the job and the vault
abbrev machine_beside : Inputs → Job → Option Vault → Machine
machine_beside inputs job vault = record (machine_at inputs job) {
  environment = record {
    world = with_its_vault (world_for inputs.image inputs.settings.frames job) vault;
    channels = opened inputs.image.files inputs.requests;
  };
}

pub ready_start : (inputs : Inputs) → CanOpen inputs → IsReady inputs 0 (start inputs)
unfolding start
ready_start inputs can = by_vault inputs.vault refl can.vault inputs.settings.job refl can.requests
  where
    by_job : (job : Job) → inputs.settings.job ≡ job → MayHave job inputs.requests → IsReady inputs 0 (machine_at inputs job)
    by_job Run is none = ready_run_start inputs can is none
    by_job (Serve workers) is may =
        ready_serve inputs can.image (image_fits inputs.image inputs.vault inputs.settings.frames can.fits) can.settings.budget workers is (subst IsJob is can.settings.job) may.few 0 (omega arith)

    by_vault : (vault : Option Vault) → inputs.vault ≡ vault → IfSome vault (CanKeep inputs.image inputs.settings.job) → (job : Job) → inputs.settings.job ≡ job → MayHave job inputs.requests →
        IsReady inputs 0 (machine_beside inputs job vault)
    by_vault None none keeps job is may = by_job job is may
    by_vault (Some v) some keeps Run is may =
        ready_with_vault inputs v can keeps.vault (subst (λ (o : Option Vault). pages_in inputs.image o ≤ inputs.settings.frames) some can.fits) (by_job Run is may)
    by_vault (Some v) some keeps (Serve workers) is may = let run : Serve workers ≡ Run = sym is ∙ keeps.run in cc
