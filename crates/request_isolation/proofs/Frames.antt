-- What takes frames: a store alone. What else a step does leaves no tag that was not there.
use Rattle.std.proofs.Common.{◌≡◌, ◌≢◌, ◌⊎◌, inl, inr, ◌+◌, ◌≤◌, ◌<◌, ◌∙◌, refl, sym, ap, subst, ℕ, Bool, true, false, cond, eqb, eqb-true, Option, Some, None, List, length, arith}
use Rattle.std.proofs.lemmas.Option.{slice_get_within}
use Rattle.std.specs.Prelude.{IfSome, nat_lt, slice_get, slice_index, unwrap_or}
use Rattle.guest_call.specs.Guest.{descriptor_for, link_of, with_answer}
use Rattle.guest_call.proofs.Targets.{target_links}
use Rattle.guest_machine.specs.Advances.{advanced}
use Rattle.guest_machine.specs.declared.progress.Next.{Next}
use Rattle.guest_machine.specs.declared.progress.Next.TheVariants as next
use Rattle.guest_isa.specs.declared.instr.Instr.{Instr}
use Rattle.guest_isa.specs.declared.op.Op.{Op}
use Rattle.guest_isa.specs.declared.op.Op.TheVariants.{Stb, Stw, Sys}
use Rattle.kernel_core.proofs.Outcomes.{guest_calls_act, step_running}
use Rattle.kernel_core.proofs.ReadyRuns.{ready_thread, well_ready}
use Rattle.kernel_core.specs.Machine.{Environment, Machine, Serve, has_ended, home_of}
use Rattle.kernel_core.specs.Ready.{IsReady, IsReadyServe}
use Rattle.kernel_core.specs.Runs.{frames_of}
use Rattle.kernel_core.specs.Start.{Inputs}
use Rattle.kernel_core.specs.Step.{Outcome as StepOutcome, advance_outcome, args_of, begin_next, finish, guest_calls, next_outcome, only, plain_outcome, settled, shared_outcome, syscall_outcome, thread_outcome, three_times, unchanged, with_regs, with_status, woken}
use Rattle.kernel_core.specs.declared.calling.TheConstants.{LW_CREATE, LW_OVERLAY, LW_RESTRICT, LW_SWITCH, LW_SYSCALL}
use Rattle.kernel_core.specs.declared.thread.Thread.{Thread}
use Rattle.lwc_types.specs.declared.fault.ThreadStatus.{ThreadStatus}
use Rattle.lwc_types.specs.declared.fault.ThreadStatus.TheVariants.{Idle, Running, Done, Faulted}
use Rattle.lwc_types.specs.declared.size.WorldSize.{WorldSize}
use Rattle.request_isolation.specs.Needs.{IsStoring, Reads, Stores, StoresNext, acted_world, store_of_read, world_by, world_left}
use Rattle.request_isolation.proofs.Full.{kept_put, used_put}
use Rattle.lwc_base.specs.Capabilities.{empty_cap, full_cap}
use Rattle.lwc_base.specs.Cells.{put_slot, put_uid}
use Rattle.lwc_base.specs.Channels.{Channels}
use Rattle.lwc_base.specs.Frames.{tags, used}
use Rattle.lwc_base.specs.Holders.{IsGroup, InCell, InContext, Keeps, Rules, everywhere}
use Rattle.lwc_base.specs.Keys.{ValueOf, nothing}
use Rattle.lwc_base.specs.Life.{HasItsContexts}
use Rattle.lwc_base.specs.Mapping.{map_pages, mapped_or_not, unmap_pages}
use Rattle.lwc_base.specs.Overlay as overlays
use Rattle.lwc_base.specs.Saved.{save, with_saved}
use Rattle.lwc_base.specs.Sharing.{clone_context, share}
use Rattle.lwc_base.specs.Slots.{lowest_empty}
use Rattle.lwc_base.specs.World as worlds
use Rattle.lwc_base.specs.World.{World, context, group, is_live, next_context}
use Rattle.lwc_base.specs.declared.cell.Cell.{Cell}
use Rattle.lwc_base.specs.declared.cell.Cell.TheVariants.{Own, Common}
use Rattle.lwc_base.specs.declared.descriptor.Cap.{Cap}
use Rattle.lwc_base.specs.declared.descriptor.Descriptor.{Descriptor}
use Rattle.lwc_base.specs.declared.descriptor.Descriptor.TheVariants.{Empty, File, Ctx}
use Rattle.lwc_base.specs.declared.item.Item.{Item}
use Rattle.lwc_types.specs.declared.key.Key.{Key}
use Rattle.lwc_types.specs.declared.key.Key.TheVariants.{Page, Slot, Cred}
use Rattle.lwc_types.specs.declared.name.Name.{Name}
use Rattle.lwc_types.specs.declared.name.Tag.{Tag}
use Rattle.lwc_types.specs.declared.page.PageValue.{PageValue}
use Rattle.lwc_types.specs.declared.page.PageValue.TheVariants.{Zero, Data}
use Rattle.lwc_types.specs.declared.refusal.Refusal.{Refusal}
use Rattle.lwc_types.specs.declared.regs.Regs.{Regs}
use Rattle.lwc_create.specs.Create as creating
use Rattle.lwc_overlay.specs.Named as named
use Rattle.lwc_overlay.specs.Named.{link}
use Rattle.lwc_overlay.specs.OverlayCall as overlaying
use Rattle.lwc_overlay.specs.RestrictCall as restricting
use Rattle.lwc_switch.specs.Switch as switching
use Rattle.lwc_syscall.specs.Plain as calls
use Rattle.lwc_syscall.specs.Plain.{Outcome, answering, moved, placed, plain, read_on, refused_or, world_after, plain_call}
use Rattle.lwc_syscall.specs.Syscall as syscalls
use Rattle.lwc_syscall.specs.declared.calls.CallContexts.{CallContexts}
use Rattle.lwc_syscall.specs.declared.plain_call.PlainCall.{PlainCall}
use Rattle.lwc_syscall.specs.declared.plain_call.PlainCall.TheVariants as plain_calls
use Rattle.res_spec.specs.declared.items.SpecCall.TheVariants as spec_call
use Rattle.world_views.proofs.Counting.{is_in_list}
use Rattle.lwc_base.proofs.Holders.{in_clone, keeps-add_context, keeps-change_context, keeps-on_pages, keeps-put_at, keeps-share, keeps-with_overlay, lets-everywhere, value_at-keeps}
use Rattle.lwc_base.proofs.Sharing.{shares-share}
use Rattle.snapshot_host.specs.Begin.{begin, begun_context}
use Rattle.request_isolation.proofs.Counting.{no_fewer}
use Rattle.request_isolation.proofs.Tagged.{Holder, AtContext, AtGroup, held_in, holder_of}

-- the tag of a page below a number of pages is in a list
abbrev HasTagIn : ℕ → List Tag → ℕ → Option PageValue → Type 0
HasTagIn pages ts p None = Unit {0}
HasTagIn pages ts p (Some Zero) = Unit {0}
HasTagIn pages ts p (Some (Data tag bytes)) = p < pages → is_in_list tag ts ≡ true

abbrev HasTagAt : ℕ → List Tag → (k : Key) → ValueOf k → Type 0
HasTagAt pages ts (Page p) value = HasTagIn pages ts p value
HasTagAt pages ts (Slot n) value = Unit {0}
HasTagAt pages ts Cred value = Unit {0}

abbrev pub tagged : ℕ → List Tag → Rules
tagged pages ts = everywhere (λ k g. Unit {0}) (HasTagAt pages ts)

-- a world has its own tags
pub has_its_tags : (w : World) → Keeps (tagged w.size.pages (tags w)) w
has_its_tags w = record { contexts = λ c live. by_key c live; groups = λ g live. by_value g live }
  where
    in_cell : (c : Name) → is_live w c ≡ true → (p : ℕ) (cell : Cell (Option PageValue)) → (context w c).cell (Page p) ≡ cell → InCell (tagged w.size.pages (tags w)) c.job (Page p) cell
    in_cell c live p (Own None) is = tt
    in_cell c live p (Own (Some Zero)) is = tt
    in_cell c live p (Own (Some (Data tag bytes))) is = λ small. held_in w tag (AtContext c live p small bytes is)
    in_cell c live p (Common g) is = tt

    by_key : (c : Name) → is_live w c ≡ true → InContext (tagged w.size.pages (tags w)) c.job (context w c)
    by_key c live (Page p) = in_cell c live p ((context w c).cell (Page p)) refl
    by_key c live (Slot n) = other ((context w c).cell (Slot n))
      where
        other : (cell : Cell Descriptor) → InCell (tagged w.size.pages (tags w)) c.job (Slot n) cell
        other (Own value) = tt
        other (Common g) = tt
    by_key c live Cred = other ((context w c).cell Cred)
      where
        other : (cell : Cell ℕ) → InCell (tagged w.size.pages (tags w)) c.job Cred cell
        other (Own value) = tt
        other (Common g) = tt

    in_value : (g : Name) → IsGroup w g → (p : ℕ) (value : Option PageValue) → (group w g).value (Page p) ≡ value → HasTagIn w.size.pages (tags w) p value
    in_value g live p None is = tt
    in_value g live p (Some Zero) is = tt
    in_value g live p (Some (Data tag bytes)) is = λ small. held_in w tag (AtGroup g live p small bytes is)

    by_value : (g : Name) → IsGroup w g → (k : Key) → HasTagAt w.size.pages (tags w) k ((group w g).value k)
    by_value g live (Page p) = in_value g live p ((group w g).value (Page p)) refl
    by_value g live (Slot n) = tt
    by_value g live Cred = tt

-- a world of no other tags uses no more frames
pub no_more_frames : (w v : World) → v.size.pages ≡ w.size.pages → Keeps (tagged w.size.pages (tags w)) v → used v ≤ used w
unfolding used
no_more_frames w v pages keeps = no_fewer (tags v) (tags w) (λ tag there. of_holder tag (holder_of v tag there))
  where
    of_holder : (tag : Tag) → Holder v tag → is_in_list tag (tags w) ≡ true
    of_holder tag (AtContext c live p small bytes is) =
        subst (InCell (tagged w.size.pages (tags w)) c.job (Page p)) is (keeps.contexts c live (Page p)) (subst (λ (k : ℕ). p < k) pages small)
    of_holder tag (AtGroup g live p small bytes is) =
        subst (λ (value : Option PageValue). HasTagIn w.size.pages (tags w) p value) is (keeps.groups g live (Page p)) (subst (λ (k : ℕ). p < k) pages small)

module _ (pages : ℕ) (ts : List Tag) where
  abbrev rules : Rules
  rules = tagged pages ts

  nothing_tagged : (i : ℕ) (k : Key) → rules.value i k (nothing k)
  nothing_tagged i (Page p) = tt
  nothing_tagged i (Slot n) = tt
  nothing_tagged i Cred = tt

  abbrev pub KeepsTags : World → Type 0
  KeepsTags w = Keeps rules w

  module _ (w : World) (keeps : KeepsTags w) where
    pub tags-slot : (c : Name) (n : ℕ) (value : Descriptor) → KeepsTags (put_slot w c n value)
    tags-slot c n value = keeps-put_at rules w c (Slot n) value tt (λ g _. tt) keeps

    tags-uid : (c : Name) (uid : ℕ) → KeepsTags (put_uid w c uid)
    tags-uid c uid = keeps-put_at rules w c Cred uid tt (λ g _. tt) keeps

    tags-map : (c : Name) (from to : ℕ) (present : Bool) → KeepsTags (mapped_or_not w c from to present)
    unfolding map_pages unmap_pages
    tags-map c from to true = keeps-on_pages rules w c from to _ (λ p _. tt) keeps
    tags-map c from to false = keeps-on_pages rules w c from to _ (λ p _. tt) keeps

    tags-share : (c : Name) (job : ℕ) (items : List Item) → is_live w c ≡ true → KeepsTags (share w c job items)
    tags-share c job items live = keeps-share rules w c job items live nothing_tagged (lets-everywhere (λ k g. Unit {0}) (HasTagAt pages ts) c.job job) keeps (λ k _. tt)

    tags-clone : (c : Name) (job : ℕ) (items : List Item) (entry : Regs) → is_live w c ≡ true → KeepsTags (clone_context w c job items entry)
    unfolding clone_context
    tags-clone c job items entry live =
        let s : World = share w c job items in
        let shared : KeepsTags s = tags-share c job items live in
        keeps-add_context rules s job _
        (in_clone rules s c job items ((shares-share w c job items).live c ∙ live) nothing_tagged (lets-everywhere (λ k g. Unit {0}) (HasTagAt pages ts) c.job job) shared entry (λ k g value e is. is)) shared

    tags-save : (c : Name) (t : ℕ) (regs : Regs) → KeepsTags (save w c t regs)
    unfolding save
    tags-save c t regs = keeps-change_context rules w c (with_saved t regs) (λ live. keeps.contexts c live) keeps

    tags-overlay : (c d : Name) (job : ℕ) (items : List Item) → is_live w d ≡ true → KeepsTags (overlays.overlay w c d job items)
    unfolding overlays.overlay
    tags-overlay c d job items live =
        keeps-with_overlay rules (share w d job items) c d items ((shares-share w d job items).live d ∙ live) nothing_tagged
        (lets-everywhere (λ k g. Unit {0}) (HasTagAt pages ts) d.job c.job) (λ k g value same is. is) (tags-share d job items live)

    -- a plain call that does not read
    module _ (io : Channels) (job : ℕ) (targets : CallContexts) where
      ends : (first : Option Refusal) (done : Outcome) → KeepsTags done.world → KeepsTags (refused_or w io done first).world
      ends None done is = is
      ends (Some refusal) done is = keeps

      placed-tags : (value : Descriptor) → KeepsTags (placed w io targets.slots value).world
      placed-tags value = tags-slot targets.slots (unwrap_or (lowest_empty w targets.slots) 0) value

      writing-tags : (n from count : ℕ) → KeepsTags (calls.writing w io targets n from count).world
      unfolding calls.writing
      writing-tags n from count = ends _ _ keeps

      either : (b : Bool) (x y : Outcome) → KeepsTags x.world → KeepsTags y.world → KeepsTags (cond b x y).world
      either true x y first second = first
      either false x y first second = second

      pub plain-tags : (call : Option PlainCall) (args : List ℕ) → call ≢ Some plain_calls.Read → KeepsTags (plain w io targets job call args).world
      unfolding plain
      plain-tags None args no_read = keeps
      plain-tags (Some plain_calls.Open) args no_read = ends _ _ (placed-tags (File (slice_index args 0) 0))
      plain-tags (Some plain_calls.Close) args no_read = ends _ _ (tags-slot targets.slots (slice_index args 0) Empty)
      plain-tags (Some plain_calls.Dup) args no_read = ends _ _ (placed-tags _)
      plain-tags (Some plain_calls.Read) args no_read = absurd (no_read refl)
      plain-tags (Some plain_calls.Write) args no_read = writing-tags (slice_index args 0) (slice_index args 1) (slice_index args 2)
      plain-tags (Some plain_calls.Map) args no_read = ends _ _ (tags-map targets.memory (slice_index args 0) (slice_index args 1) true)
      plain-tags (Some plain_calls.Unmap) args no_read = ends _ _ (tags-map targets.memory (slice_index args 0) (slice_index args 1) false)
      plain-tags (Some plain_calls.GetUid) args no_read = keeps
      plain-tags (Some plain_calls.SetUid) args no_read = ends _ _ (tags-uid targets.cred (slice_index args 0))
      plain-tags (Some plain_calls.Exit) args no_read = keeps

  -- the context of a request
  pub begin-tags : (w : World) (home : Name) (r : ℕ) → KeepsTags w → InContext rules (r + 1) (begun_context w home r) → KeepsTags (begin w home r)
  unfolding begin
  begin-tags w home r keeps cells = keeps-add_context rules w (r + 1) (begun_context w home r) cells keeps

  module _ (c : Name) (job t : ℕ) (w : World) (io : Channels) (keeps : KeepsTags w) (live : is_live w c ≡ true) (named_live : HasItsContexts w) (regs : Regs) where
    abbrev d : Descriptor
    d = descriptor_for w c (slice_index regs.r 1)

    -- the context that a descriptor names, and else another one
    abbrev link_or : Name × Cap
    link_or = unwrap_or (link_of d) (c, empty_cap)

    -- the context that the slot names lives
    link-live : is_live w link_or.0 ≡ true
    link-live = by (link_of d) refl
      where
        by : (o : Option (Name × Cap)) → link_of d ≡ o → is_live w (unwrap_or o (c, empty_cap)).0 ≡ true
        by None is = live
        by (Some l) is = named_live.live c l.0 live (target_links w c (slice_index regs.r 1) l is)

    created-tags : (slot : ℕ) (first : Option Refusal) → KeepsTags (creating.ended w c job regs slot first).1
    created-tags slot (Some refusal) = keeps
    created-tags slot None =
        tags-slot _ (tags-clone w keeps c job (creating.items_of w c regs) (creating.after_call regs creating.no_caller) live) c slot (Ctx (next_context w job) (full_cap w.size.pages))

    pub create-tags : KeepsTags (creating.create w c job regs).1
    unfolding creating.create
    create-tags = created-tags _ _

    switched-tags : (slot : ℕ) (first : Option Refusal) → KeepsTags (switching.ended w c t regs (switching.target w c regs) slot first).1
    switched-tags slot (Some refusal) = keeps
    switched-tags slot None = tags-slot _ (tags-save w keeps c t (with_answer regs 0)) (switching.target w c regs) slot (Ctx c empty_cap)

    pub switch-tags : KeepsTags (switching.switch w c t regs).1
    unfolding switching.switch
    switch-tags = switched-tags _ _

    restricted-tags : (first : Option Refusal) → KeepsTags (restricting.ended w c regs first).1
    restricted-tags (Some refusal) = keeps
    restricted-tags None = tags-slot w keeps c _ _

    pub restrict-tags : KeepsTags (restricting.restrict w c regs).1
    unfolding restricting.restrict
    restrict-tags = restricted-tags _

    overlaid-tags : (first : Option Refusal) → KeepsTags (overlaying.ended w c job regs first).1
    unfolding link
    overlaid-tags (Some refusal) = keeps
    overlaid-tags None = tags-overlay w keeps c link_or.0 job (named.items_of w c spec_call.Overlay regs) link-live

    pub overlay-tags : KeepsTags (overlaying.overlay w c job regs).1
    unfolding overlaying.overlay
    overlay-tags = overlaid-tags _

    pub syscall-tags : syscalls.inner_call regs ≢ Some plain_calls.Read → KeepsTags (syscalls.lw_syscall w io c job regs).world
    unfolding syscalls.lw_syscall
    syscall-tags no_read = ends w keeps io job (syscalls.targets_of w c regs) _ _
        (plain-tags w keeps io job (syscalls.targets_of w c regs) (syscalls.inner_call regs) (syscalls.inner_args regs) no_read)

-- what a step does that makes no store
module _ (t : ℕ) (e : Environment) (x : Thread) (live : is_live e.world x.context ≡ true) (named_live : HasItsContexts e.world) where
  abbrev ts : List Tag
  ts = tags e.world

  abbrev pages : ℕ
  pages = e.world.size.pages

  keeps : KeepsTags pages ts e.world
  keeps = has_its_tags e.world

  called-tags : (number : ℕ) → (Reads number x.regs → ⊥) → KeepsTags pages ts (guest_calls number t e x).environment.world
  unfolding guest_calls
  called-tags number never =
      either (eqb number LW_CREATE) _ _ (create-tags pages ts x.context x.job t e.world e.channels keeps live named_live x.regs)
      (either (eqb number LW_SWITCH) _ _ (switch-tags pages ts x.context x.job t e.world e.channels keeps live named_live x.regs)
      (either (eqb number LW_RESTRICT) _ _ (restrict-tags pages ts x.context x.job t e.world e.channels keeps live named_live x.regs)
      (either (eqb number LW_OVERLAY) _ _ (overlay-tags pages ts x.context x.job t e.world e.channels keeps live named_live x.regs)
      (by_syscall (eqb number LW_SYSCALL) refl))))
    where
      either : (b : Bool) (f g : StepOutcome) → KeepsTags pages ts f.environment.world → KeepsTags pages ts g.environment.world → KeepsTags pages ts (cond b f g).environment.world
      either true f g first second = first
      either false f g first second = second

      by_syscall : (b : Bool) → eqb number LW_SYSCALL ≡ b → KeepsTags pages ts (cond b (syscall_outcome e x) (plain_outcome number e x)).environment.world
      by_syscall true is = syscall-tags pages ts x.context x.job t e.world e.channels keeps live named_live x.regs (λ reads. never (inr (eqb-true number LW_SYSCALL is, reads)))
      by_syscall false is = plain-tags pages ts e.world keeps e.channels x.job (three_times x.context) (plain_call number) (args_of x.regs) (λ reads. never (inl reads))

  shared-tags : (i : Instr) (op : Op) → (Stores x.regs i op → ⊥) → KeepsTags pages ts (shared_outcome guest_calls t e x i op).environment.world
  unfolding shared_outcome
  shared-tags i Stb never = absurd (never tt)
  shared-tags i Stw never = absurd (never tt)
  shared-tags i Sys never = called-tags i.imm never
  shared-tags i _ never = keeps

  pub next-tags : (next : Next) → (StoresNext x.regs next → ⊥) → KeepsTags pages ts (next_outcome guest_calls t e x next).environment.world
  unfolding next_outcome
  next-tags next.Pause never = keeps
  next-tags next.BadPc never = keeps
  next-tags (next.Shared i) never = shared-tags i i.op never

-- the world that a step leaves before what is not reached is dropped
pub settled-world : (t : ℕ) (serve : Option Serve) (o : StepOutcome) → (settled t serve o).environment ≡ o.environment
settled-world t None o = refl
settled-world t (Some s) o = by (has_ended o.thread.status)
  where
    by : (b : Bool) → (cond b (finish t s o) (only (Some s) o)).environment ≡ o.environment
    by true = refl
    by false = refl

-- the context of a request has the tags of its home
begun-cells : (w : World) (home : Name) (r : ℕ) → is_live w home ≡ true → InContext (tagged w.size.pages (tags w)) (r + 1) (begun_context w home r)
unfolding begun_context
begun-cells w home r live (Page p) =
    value_at-keeps (tagged w.size.pages (tags w)) w home live (nothing_tagged w.size.pages (tags w)) (λ k g value e is. is) (has_its_tags w) (Page p)
begun-cells w home r live (Slot n) = tt
begun-cells w home r live Cred = tt

begun-size : (w : World) (home : Name) (r : ℕ) → (begin w home r).size.pages ≡ w.size.pages
unfolding begin worlds.add_context worlds.change_counters
begun-size w home r = refl

begun-frames : (w : World) (home : Name) (r : ℕ) → is_live w home ≡ true → used (begin w home r) ≤ used w
begun-frames w home r live =
    no_more_frames w (begin w home r) (begun-size w home r) (begin-tags w.size.pages (tags w) w home r (has_its_tags w) (begun-cells w home r live))

-- a machine of a run, and a step of it that makes no store
module _ (inputs : Inputs) (count t : ℕ) (m : Machine) (ready : IsReady inputs count m) (never : IsStoring m t → ⊥) where
  abbrev e : Environment
  e = m.environment

  running-frames : (x : Thread) → slice_get m.threads t ≡ Some x → x.status ≡ Running → used (settled t m.serve (advance_outcome guest_calls t e x (advanced m.text x.regs))).environment.world ≤ used e.world
  unfolding advance_outcome
  running-frames x found running =
      let thread = ready_thread inputs count t m x ready found in
      let size = (step_running guest_calls guest_calls_act t e x (advanced m.text x.regs) (well_ready inputs count m ready) running thread).changes.grows.size in
      let kept = next-tags t e (with_regs x (advanced m.text x.regs).after) thread.live ready.named (advanced m.text x.regs).next (λ stores. never (record { thread = x; found = found; runs = running; stores = stores })) in
      subst (λ (f : Environment). used f.world ≤ used e.world) (sym (settled-world t m.serve (advance_outcome guest_calls t e x (advanced m.text x.regs))))
      (no_more_frames e.world _ (ap (λ (z : WorldSize). z.pages) size) kept)

  woken-frames : (serve : Option Serve) → m.serve ≡ serve → t < length m.threads → (x : Thread) → used (woken t serve e x).environment.world ≤ used e.world
  woken-frames None is within x = omega arith
  woken-frames (Some s) is within x = by (nat_lt s.next (length e.channels.requests))
    where
      serves : IsReadyServe inputs m s
      serves = subst (λ (o : Option Serve). IfSome o (IsReadyServe inputs m)) is ready.serve

      by : (b : Bool) → used (cond b (begin_next t s e) (only (Some s) (unchanged e (with_status x (Done 0))))).environment.world ≤ used e.world
      by true = begun-frames e.world (home_of t) s.next (serves.live t (subst (λ n. t < n) serves.count within))
      by false = omega arith

  left-frames : (x : Thread) → slice_get m.threads t ≡ Some x → (s : ThreadStatus) → x.status ≡ s → used (world_left e.world (thread_outcome guest_calls t e m.serve m.text x s)) ≤ used e.world
  left-frames x found Running is = running-frames x found is
  left-frames x found Idle is = woken-frames m.serve refl (slice_get_within m.threads t x found) x
  left-frames x found (Done code) is = omega arith
  left-frames x found (Faulted f) is = omega arith

  pub acted-frames : used (acted_world m t) ≤ frames_of m
  unfolding acted_world
  acted-frames = by (slice_get m.threads t) refl
    where
      by : (o : Option Thread) → slice_get m.threads t ≡ o → used (world_by m t o) ≤ used e.world
      by None is = omega arith
      by (Some x) is = left-frames x is x.status refl

-- a read leaves as many frames in use as its store
module _ (w : World) (io : Channels) (job : ℕ) (targets : CallContexts) (args : List ℕ) where
  abbrev value : Descriptor
  value = descriptor_for w targets.slots (slice_index args 0)

  abbrev count : ℕ
  count = length (moved io value (slice_index args 2))

  abbrev stored : World
  stored = world_after w (store_of_read w io targets job args)

  abbrev left : World
  left = put_slot stored targets.slots (slice_index args 0) (read_on count value)

  same-frames : used left ≡ used stored
  same-frames =
      let up = used_put stored targets.slots (slice_index args 0) (read_on count value) in
      let down = no_more_frames stored left (kept_put stored targets.slots (slice_index args 0) (read_on count value)).pages
      (tags-slot stored.size.pages (tags stored) stored (has_its_tags stored) targets.slots (slice_index args 0) (read_on count value)) in
      omega (arith, up, down)

  ended-frames : (first : Option Refusal) → (used (refused_or w io (answering count left io) first).world ≡ used w) ⊎ (used (refused_or w io (answering count left io) first).world ≡ used stored)
  ended-frames None = inr same-frames
  ended-frames (Some refusal) = inl refl

  pub read-frames : (used (plain w io targets job (Some plain_calls.Read) args).world ≡ used w) ⊎ (used (plain w io targets job (Some plain_calls.Read) args).world ≡ used stored)
  unfolding plain calls.reading
  read-frames = ended-frames _
