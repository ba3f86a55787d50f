-- One more home is made from the first context.
use Rattle.std.proofs.Common.{◌≡◌, ℕ, ◌+◌, ◌*◌, ◌<◌, ◌≤◌, refl, sym, ap, subst, ◌∙◌, true, List, [], ◌∷◌, ◌++◌, arith}
use Rattle.std.specs.Prelude.{map}
use Rattle.std.proofs.lemmas.Bool.{false≢true}
use Rattle.std.proofs.lemmas.Nat.{mul-le}
use Rattle.std.proofs.lemmas.List.{map-append}
use Rattle.guest_image.specs.Limits.{IsImage}
use Rattle.guest_image.specs.declared.image.Image.{Image}
use Rattle.kernel_core.proofs.Reaping.{homes-more}
use Rattle.kernel_core.specs.Machine.{home_of, homes_of}
use Rattle.kernel_core.specs.Ready.{CanPutHome}
use Rattle.kernel_core.specs.Start.{first_entry, first_name, first_workers, homes_so_far, serve_world, start_world, world_of, world_with}
use Rattle.kernel_core.specs.Step.{waiting}
use Rattle.kernel_core.specs.declared.thread.Thread.{Thread}
use Rattle.lwc_base.specs.Cells.{put_slot}
use Rattle.lwc_base.specs.Sharing.{clone_context, needs_group, ranges_after_clone}
use Rattle.lwc_base.specs.World.{World, is_live, next_context}
use Rattle.lwc_base.specs.declared.descriptor.Descriptor.TheVariants.{Empty}
use Rattle.lwc_base.specs.declared.item.Item.{Item}
use Rattle.lwc_types.specs.Registers.{fresh_registers}
use Rattle.lwc_types.specs.declared.name.Name.{Name}
use Rattle.lwc_types.specs.declared.regs.Regs.{Regs}
use Rattle.world_face.specs.Calls.{AreFew}
use Rattle.kernel_core.proofs.HomeStart.{can_put, one_home_more}

-- the homes of one worker more
pub home_pushed : (t : ℕ) (names more : List Name) → names ≡ homes_of t → more ≡ names ++ home_of t ∷ [] → more ≡ homes_of (t + 1)
home_pushed t names more so_far pushed =
    let same : 0 + t ≡ t = omega arith in
    pushed ∙ ap (λ (l : List Name). l ++ home_of t ∷ []) so_far ∙ sym (homes-more 0 t ∙ ap (λ n. homes_of t ++ home_of n ∷ []) same)

-- the workers of one more
pub worker_pushed : (entry t : ℕ) (regs : Regs) (threads more : List Thread) → regs ≡ fresh_registers entry → threads ≡ first_workers entry t → more ≡ threads ++ waiting (home_of t) regs ∷ [] → more ≡ first_workers entry (t + 1)
unfolding first_workers
worker_pushed entry t regs threads more regs_are so_far pushed =
    let make = λ (home : Name). waiting home (fresh_registers entry) in
    pushed ∙ ap (λ (r : Regs). threads ++ waiting (home_of t) r ∷ []) regs_are ∙ ap (λ (l : List Thread). l ++ make (home_of t) ∷ []) so_far
    ∙ sym (map-append make (homes_of t) (home_of t ∷ [])) ∙ ap (map make) (home_pushed t (homes_of t) (homes_of t ++ home_of t ∷ []) refl refl)

module _ (image : Image) (is : IsImage image) (t : ℕ) (few : t < 16) (w : World) (before : w ≡ homes_so_far image w.size.frames t) where
  pub can_here : CanPutHome w (home_of t)
  can_here = subst (λ (u : World). CanPutHome u (home_of t)) (sym before) (can_put image is w.size.frames t few)

  module _ (items : List Item) (none : items ≡ []) where
    pub group_here : (P : Type 0) → needs_group w first_name items ≡ true → P
    group_here P needs = absurd (false≢true (sym (ap (needs_group w first_name) none ∙ can_here.group) ∙ needs))

    pub few_here : AreFew (ranges_after_clone w first_name 0 items)
    few_here = subst (λ (l : List Item). AreFew (ranges_after_clone w first_name 0 l)) (sym none) can_here.few

    module _ (v : World) (home : Name) (entry : Regs) (name : home ≡ next_context w 0) (copy : v ≡ clone_context w first_name 0 items entry) where
      at_home : home ≡ home_of t
      at_home = name ∙ can_here.next

      made : v ≡ clone_context w first_name 0 [] entry
      made = copy ∙ ap (λ (l : List Item). clone_context w first_name 0 l entry) none

      pub live_copy : is_live v home ≡ true
      live_copy = ap (is_live v) at_home ∙ ap (λ (u : World). is_live u (home_of t)) made ∙ can_here.copied entry

      module _ (u : World) (first : u ≡ put_slot v home 1 Empty) where
        emptied : u ≡ put_slot (clone_context w first_name 0 [] entry) (home_of t) 1 Empty
        emptied = first ∙ ap (λ (n : Name). put_slot v n 1 Empty) at_home ∙ ap (λ (x : World). put_slot x (home_of t) 1 Empty) made

        pub live_emptied : is_live u home ≡ true
        live_emptied = ap (is_live u) at_home ∙ ap (λ (x : World). is_live x (home_of t)) emptied ∙ can_here.emptied entry

        pub home_step : (z : World) → z ≡ put_slot u home 0 Empty → entry ≡ fresh_registers (first_entry image) → z ≡ homes_so_far image w.size.frames (t + 1)
        home_step z second entry_is =
            second ∙ ap (λ (n : Name). put_slot u n 0 Empty) at_home ∙ ap (λ (x : World). put_slot x (home_of t) 0 Empty) emptied
            ∙ ap (λ (x : World). put_slot (put_slot (clone_context x first_name 0 [] entry) (home_of t) 1 Empty) (home_of t) 0 Empty) before
            ∙ ap (λ (r : Regs). put_slot (put_slot (clone_context (homes_so_far image w.size.frames t) first_name 0 [] r) (home_of t) 1 Empty) (home_of t) 0 Empty) entry_is
            ∙ one_home_more image w.size.frames t

-- the size stays
pub size_so_far : (image : Image) (frames t : ℕ) (w : World) → w ≡ homes_so_far image frames t → w.size.frames ≡ frames
unfolding world_of
size_so_far image frames t w is = ap (λ (u : World). u.size.frames) is

pub before_here : (image : Image) (frames t : ℕ) (w : World) → w ≡ homes_so_far image frames t → w ≡ homes_so_far image w.size.frames t
before_here image frames t w is = is ∙ ap (λ (f : ℕ). homes_so_far image f t) (sym (size_so_far image frames t w is))

pub after_here : (image : Image) (frames t n : ℕ) (w v : World) → w ≡ homes_so_far image frames t → v ≡ homes_so_far image w.size.frames n → v ≡ homes_so_far image frames n
after_here image frames t n w v is made = made ∙ ap (λ (f : ℕ). homes_so_far image f n) (size_so_far image frames t w is)

-- the world of a run's start has the size that was asked for
pub size_at_start : (image : Image) (frames : ℕ) (w : World) → w ≡ start_world image frames → w.size.frames ≡ frames
unfolding start_world world_with
size_at_start image frames w is = ap (λ (u : World). u.size.frames) is

pub start_here : (image : Image) (frames : ℕ) (w : World) → w ≡ start_world image frames → w ≡ start_world image w.size.frames
start_here image frames w is = is ∙ ap (λ (f : ℕ). start_world image f) (sym (size_at_start image frames w is))

pub serve_here : (image : Image) (frames workers : ℕ) (w v : World) → w ≡ start_world image frames → v ≡ serve_world image w.size.frames workers → v ≡ serve_world image frames workers
serve_here image frames workers w v is made = made ∙ ap (λ (f : ℕ). serve_world image f workers) (size_at_start image frames w is)

-- the steps for requests that are not begun are few
pub few_steps : (n budget : ℕ) → n ≤ 1024 → budget ≤ 100000 → n * (budget + 1) ≤ 102401024
few_steps n budget few_n few_budget = let most = mul-le n (budget + 1) 1024 100001 few_n (omega (arith, few_budget)) in omega (arith, most)
