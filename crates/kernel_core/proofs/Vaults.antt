-- A start with a vault: what is made of the world of a run's start, and that the machine is ready.
use Rattle.std.proofs.Common.{◌≡◌, ℕ, ◌+◌, ◌≤◌, refl, sym, ap, subst, ◌∙◌, Bool, true, false, cond, Option, Some, [], length, take, arith}
use Rattle.std.specs.FinMap as fm
use Rattle.std.specs.Ordering.{eq_by_cmp}
use Rattle.std.specs.Prelude.{is_some, slice_get}
use Rattle.std.proofs.lemmas.List.{take_all}
use Rattle.guest_image.specs.Limits.{IsImage, IsVault, pages_of}
use Rattle.guest_image.specs.declared.image.Image.{Image}
use Rattle.guest_image.specs.declared.image.PageImage.{PageImage}
use Rattle.guest_image.specs.declared.image.Vault.{Vault}
use Rattle.guest_image.proofs.Lifted.{most_pages}
use Rattle.kernel_core.proofs.Building.{first_world}
use Rattle.kernel_core.proofs.Held.{added-held}
use Rattle.kernel_core.proofs.Paging.{can_put, next_stored}
use Rattle.kernel_core.proofs.Started.{all_put}
use Rattle.kernel_core.specs.Kernel.{CanKeep, pages_in}
use Rattle.kernel_core.specs.declared.settings.Job.{Job}
use Rattle.kernel_core.specs.Ready.{CanPutPage, mapped, page_stored}
use Rattle.kernel_core.specs.Start.{first_context, first_name, first_page, start_world, vault_context, vault_name, vault_so_far, vault_value, with_context, with_vault, world_for, world_with}
use Rattle.lwc_base.specs.Capabilities.{empty_cap}
use Rattle.lwc_base.specs.Cells.{put_slot}
use Rattle.lwc_base.specs.Store.{Done}
use Rattle.lwc_base.specs.World.{World, Context, add_context, change_counters, is_live, new_context, new_value, next_context}
use Rattle.lwc_base.specs.declared.cell.Cell.TheVariants.{Own}
use Rattle.lwc_base.specs.declared.descriptor.Descriptor.{Descriptor}
use Rattle.lwc_base.specs.declared.descriptor.Descriptor.TheVariants.{Ctx}
use Rattle.lwc_base.proofs.Facts.{orders}
use Rattle.lwc_base.proofs.Tables.{contains_key-insert}
use Rattle.lwc_types.specs.Names.{name_cmp}
use Rattle.lwc_types.specs.Registers.{fresh_registers}
use Rattle.lwc_types.specs.declared.key.Key.{Key}
use Rattle.lwc_types.specs.declared.key.Key.TheVariants.{Page, Slot, Cred}
use Rattle.lwc_types.specs.declared.key.TheConstants.{NOBODY}
use Rattle.lwc_types.specs.declared.name.Name.{Name}
use Rattle.lwc_types.specs.declared.regs.Regs.{Regs}
use Rattle.world_face.specs.Calls.{HasPlace, MayName}

-- a new context of nobody is a vault without pages
new_is : (taken entry : ℕ) → new_context NOBODY (fresh_registers entry) ≡ vault_context taken entry []
unfolding vault_context first_page
new_is taken entry = λ i. record (new_context NOBODY (fresh_registers entry)) { cell = λ k. Own (value k i) }
  where
    value : (k : Key) → new_value NOBODY k ≡ vault_value taken [] k
    value (Page p) = refl
    value (Slot n) = refl
    value Cred = refl

-- what is live stays so beside one context more
pub still_live : (w : World) (c d : Name) (tags : ℕ) (x : Context) → is_live w d ≡ true → is_live (with_context w c tags x) d ≡ true
unfolding with_context change_counters
still_live w c d tags x live = contains_key-insert w.contexts c x d ∙ by (eq_by_cmp name_cmp d c)
  where
    by : (b : Bool) → cond b true (fm.contains_key w.contexts d) ≡ true
    by true = refl
    by false = live

-- the start of a run, for whose image and vault there are frames
module _ (image : Image) (is : IsImage image) (v : Vault) (is_vault : IsVault (length image.text) (pages_of image.form) v) (u : World)
    (fits : length image.pages + length v.pages ≤ u.size.frames) (before : u ≡ start_world image u.size.frames) where
  abbrev started : World
  started = start_world image u.size.frames

  pub first_is_live : is_live u first_name ≡ true
  first_is_live = (first_world image is u.size.frames (length image.pages) 64 u (before ∙ sym (all_put image u.size.frames)) (omega (arith, is.page_count, most_pages image.form))).live

  pub may_name_vault : MayName u 0
  may_name_vault = (first_world image is u.size.frames (length image.pages) 64 u (before ∙ sym (all_put image u.size.frames)) (omega (arith, is.page_count, most_pages image.form))).may

  abbrev none : fm.FinMap name_cmp Context
  none = fm.empty

  place_in_start : HasPlace started
  unfolding start_world world_with
  place_in_start =
      let one = fm.len-insert orders.names none first_name (first_context image image.pages 64) in
      let here = ap (λ b. cond b (fm.len none) (fm.len none + 1)) (ap (is_some {T = Context}) (fm.get-empty name_cmp first_name)) in
      omega (arith, one, here, fm.len-empty name_cmp Context)

  pub has_place : HasPlace u
  has_place = subst HasPlace (sym before) place_in_start

  named_in_start : next_context started 0 ≡ vault_name
  unfolding start_world world_with
  named_in_start = refl

  named : next_context u 0 ≡ vault_name
  named = ap (λ z. next_context z 0) before ∙ named_in_start

  -- the name that is made, and the vault as it begins
  pub name_is : (c : Name) → c ≡ next_context u 0 → c ≡ vault_name
  name_is c made = made ∙ named

  pub begun : (regs : Regs) (z : World) → regs ≡ fresh_registers v.entry → z ≡ add_context u 0 (new_context NOBODY regs) → z ≡ vault_so_far u v.entry (take 0 v.pages)
  begun regs z entry made =
      made ∙ ap (λ r. add_context u 0 (new_context NOBODY r)) entry ∙ added-held u (new_context NOBODY (fresh_registers v.entry))
      ∙ (λ i. with_context u (named i) 0 (new_is (u.next 0).tags v.entry i))

  -- the world is named by the frames of the one that the vault's pages are put into
  pub frames_stay : (regs : Regs) (z : World) → z ≡ add_context u 0 (new_context NOBODY regs) → z.size.frames ≡ u.size.frames
  unfolding add_context change_counters
  frames_stay regs z made = ap (λ (y : World). y.size.frames) made

  pub as_before : (n k : ℕ) (z : World) → n ≡ u.size.frames → z ≡ vault_so_far (start_world image n) v.entry (take k v.pages) → z ≡ vault_so_far u v.entry (take k v.pages)
  as_before n k z same so_far = so_far ∙ ap (λ y. vault_so_far y v.entry (take k v.pages)) (ap (start_world image) same ∙ sym before)

  pub by_frames : (n k : ℕ) (z : World) → n ≡ u.size.frames → z ≡ vault_so_far u v.entry (take k v.pages) → z ≡ vault_so_far (start_world image n) v.entry (take k v.pages)
  by_frames n k z same so_far = so_far ∙ ap (λ y. vault_so_far y v.entry (take k v.pages)) (before ∙ ap (start_world image) (sym same))

  -- the k-th page may be put, and then one more is there
  module _ (k : ℕ) (x : PageImage) (found : slice_get v.pages k ≡ Some x) where
    pub can_put_here : (c : Name) (z : World) → c ≡ vault_name → z ≡ vault_so_far u v.entry (take k v.pages) → CanPutPage z c x
    can_put_here c z name so_far =
        subst (λ d. CanPutPage z d x) (sym name) (subst (λ y. CanPutPage y vault_name x) (sym (so_far ∙ ap (λ y. vault_so_far y v.entry (take k v.pages)) before))
        (can_put image is u.size.frames v is_vault fits k x found))

    pub put_here : (c : Name) (z y : World) → c ≡ vault_name → z ≡ vault_so_far u v.entry (take k v.pages) → page_stored (mapped z c x) c x ≡ Done y →
        y ≡ vault_so_far u v.entry (take (k + 1) v.pages)
    put_here c z y name so_far done =
        let there : page_stored (mapped z c x) c x ≡ Done (vault_so_far started v.entry (take (k + 1) v.pages)) =
        (λ i. page_stored (mapped ((so_far ∙ ap (λ s. vault_so_far s v.entry (take k v.pages)) before) i) (name i) x) (name i) x)
        ∙ next_stored image is u.size.frames v is_vault fits k x found in
        let same : y ≡ vault_so_far started v.entry (take (k + 1) v.pages) = cc in
        same ∙ ap (λ s. vault_so_far s v.entry (take (k + 1) v.pages)) (sym before)

  -- the first context lives beside the vault
  pub first_lives : (z : World) → z ≡ vault_so_far u v.entry v.pages → is_live z first_name ≡ true
  first_lives z so_far =
      subst (λ y. is_live y first_name ≡ true) (sym so_far)
      (still_live u vault_name first_name (length v.pages) (vault_context (u.next 0).tags v.entry v.pages) first_is_live)

  -- all pages are there, and the descriptor
  pub all_there : (k : ℕ) (z : World) → length v.pages ≤ k → z ≡ vault_so_far u v.entry (take k v.pages) → z ≡ vault_so_far u v.entry v.pages
  all_there k z end so_far = so_far ∙ ap (vault_so_far u v.entry) (take_all k v.pages end)

  pub vault_put : (c : Name) (value : Descriptor) (z y : World) → c ≡ vault_name → value ≡ Ctx c empty_cap → z ≡ vault_so_far u v.entry v.pages → y ≡ put_slot z first_name 63 value → y ≡ with_vault u v
  unfolding with_vault
  vault_put c value z y name value_is so_far put =
      put ∙ (λ i. put_slot (so_far i) first_name 63 (value_is i)) ∙ ap (λ d. put_slot (vault_so_far u v.entry v.pages) first_name 63 (Ctx d empty_cap)) name

-- the start that a vault is put into is a run's, and there are frames for both
module _ (image : Image) (frames : ℕ) (job : Job) (v : Vault) (keeps : CanKeep image job v) (w : World) (started : w ≡ world_for image frames job) where
  frames_of_run : (start_world image frames).size.frames ≡ frames
  unfolding start_world world_with
  frames_of_run = refl

  of_run : w ≡ start_world image frames
  of_run = started ∙ ap (world_for image frames) keeps.run

  frames_of : w.size.frames ≡ frames
  frames_of = ap (λ (y : World). y.size.frames) of_run ∙ frames_of_run

  pub run_start : w ≡ start_world image w.size.frames
  run_start = of_run ∙ ap (start_world image) (sym frames_of)

  pub both_fit : (vault : Option Vault) → pages_in image vault ≤ frames → vault ≡ Some v → length image.pages + length v.pages ≤ w.size.frames
  both_fit vault fits is =
      let fit : length image.pages + length v.pages ≤ frames = subst (λ (o : Option Vault). pages_in image o ≤ frames) is fits in
      omega (arith, fit, frames_of)
