-- What an act for a job leaves: names keep to their jobs, and the contexts and counters of other jobs are as before.
use Rattle.std.proofs.Common.{◌≡◌, ◌≢◌, ℕ, ◌+◌, refl, sym, ap, subst, ◌∙◌, Bool, true, false, cond, eqb, ltb, ◌||◌, Option, Some, None, List, [], ◌∷◌, length, arith}
use Rattle.std.specs.Ordering.{eq_by_cmp}
use Rattle.std.proofs.lemmas.Bool.{false≢true}
use Rattle.std.proofs.lemmas.Bool.Decides.{nat_tests}
use Rattle.kernel_core.proofs.Worlds.{StaysInJob}
use Rattle.guest_call.specs.Guest.{descriptor_for, link_of}
use Rattle.lwc_base.specs.Cells.{put_at, put_in, put_slot, slot_at, with_cell, with_value}
use Rattle.lwc_base.specs.Channels.{Channels}
use Rattle.lwc_base.specs.Holders.{InContext}
use Rattle.lwc_base.specs.Facts.{AddsContext, ChangesContext, SharesValues, TakesTags}
use Rattle.lwc_base.specs.Jobs.{IsOwnName, NamesKeepToJobs, own_names}
use Rattle.lwc_base.specs.Keys.{ValueOf, is_there}
use Rattle.lwc_base.specs.Life.{Link, Root, is_among, is_of, links}
use Rattle.lwc_base.specs.Mapping.{mapped_or_not}
use Rattle.lwc_base.specs.Memory.{touched}
use Rattle.lwc_base.specs.Refusals.{first_refusal}
use Rattle.lwc_base.specs.Sharing.{clone_context, needs_group, share}
use Rattle.lwc_base.specs.Store.{Done, Piece, after_store, parting_count, stored_pages, put_pages, store}
use Rattle.lwc_base.specs.World.{World, Context, add_context, change_context, change_counters, context, is_live}
use Rattle.lwc_base.specs.declared.answer.Answer.{Answer}
use Rattle.lwc_base.specs.declared.answer.Answer.TheVariants as answers
use Rattle.lwc_base.specs.declared.answer.Moved.{Moved}
use Rattle.lwc_base.specs.declared.answer.Moved.TheVariants as moved
use Rattle.lwc_base.specs.declared.cell.Cell.{Cell}
use Rattle.lwc_base.specs.declared.cell.Cell.TheVariants.{Own, Common}
use Rattle.lwc_base.specs.declared.descriptor.Cap.{Cap}
use Rattle.lwc_base.specs.declared.descriptor.Descriptor.{Descriptor}
use Rattle.lwc_base.specs.declared.descriptor.Descriptor.TheVariants.{Ctx, Empty, Reply, Request}
use Rattle.lwc_base.specs.declared.item.Item.{Item}
use Rattle.lwc_types.specs.Names.{name_cmp}
use Rattle.lwc_types.specs.declared.counters.Counters.{Counters}
use Rattle.lwc_types.specs.declared.key.Key.{Key}
use Rattle.lwc_types.specs.declared.key.Key.TheVariants.{Page, Slot, Cred}
use Rattle.lwc_types.specs.declared.name.Name.{Name}
use Rattle.lwc_types.specs.declared.page.PageValue.{PageValue}
use Rattle.lwc_types.specs.declared.refusal.Refusal.{Refusal}
use Rattle.lwc_types.specs.declared.regs.Regs.{Regs}
use Rattle.lwc_create.specs.Create as create
use Rattle.lwc_overlay.specs.OverlayCall as overlaying
use Rattle.lwc_overlay.specs.RestrictCall as restricting
use Rattle.lwc_switch.specs.Switch as switching
use Rattle.lwc_syscall.specs.Changes.{IsPlainChange, IsWell, Mapped, Nothing, Read, SlotPut, UidPut, Written}
use Rattle.lwc_syscall.specs.Plain.{plain}
use Rattle.lwc_syscall.specs.Plain as calls
use Rattle.lwc_syscall.specs.Syscall as syscalls
use Rattle.lwc_syscall.specs.Syscall.{lw_syscall}
use Rattle.lwc_syscall.specs.declared.calls.CallContexts.{CallContexts}
use Rattle.lwc_types.specs.declared.key.Kind.TheVariants as kinds
use Rattle.snapshot_host.specs.Begin.{begin, begun_context}
use Rattle.lwc_base.proofs.Facts.{changes}
use Rattle.lwc_base.proofs.Holders.{keeps-add_context}
use Rattle.lwc_base.proofs.Jobs.{jobs-after_store, jobs-clone, jobs-map_pages, jobs-overlay, jobs-put_slot, jobs-put_uid, jobs-save, jobs-slot_at, jobs-unmap_pages, root_of_job}
use Rattle.lwc_base.proofs.Lookups.{adds-add_context, changes-change_context, changes-change_group}
use Rattle.lwc_base.proofs.Puts.{names-put_at, takes-after_store}
use Rattle.lwc_base.proofs.Saving.{saves}
use Rattle.lwc_base.proofs.Sharing.{context-same, shares-share}
use Rattle.lwc_base.proofs.Stored.{is_done}
use Rattle.lwc_types.proofs.Orders.{name-itself, same_name}
use Rattle.lwc_overlay.proofs.Accepted.{restriction, taken}
use Rattle.lwc_switch.proofs.Accepted.{accepted}
use Rattle.lwc_syscall.proofs.Does.{does-one_thing}
use Rattle.lwc_syscall.proofs.Syscalls.{allowed}
use Rattle.lwc_syscall.specs.declared.plain_call.PlainCall.{PlainCall}

-- a change leaves the contexts of other names than one, and the counters of other jobs
record Leaves (c : Name) (job : ℕ) (w v : World) : Type 0 where
  contexts : (d : Name) → d ≢ c → context v d ≡ context w d
  next : (j : ℕ) → j ≢ job → v.next j ≡ w.next j

other_by : (b : Bool) (j job : ℕ) → eqb j job ≡ b → j ≢ job → b ≡ false
other_by false j job is other = refl
other_by true j job is other = absurd (other (grind (arith, nat_tests)))

is_other : (j job : ℕ) → j ≢ job → eqb j job ≡ false
is_other j job other = other_by (eqb j job) j job refl other

leaves_same : (c : Name) (job : ℕ) (w : World) → Leaves c job w w
leaves_same c job w = record { contexts = λ d other. refl; next = λ j other. refl }

leaves_changed : (c : Name) (job : ℕ) (w v : World) (f : Context → Context) → ChangesContext w c f v → Leaves c job w v
leaves_changed c job w v f changes = record { contexts = changes.others; next = λ j other. ap (λ (n : ℕ → Counters). n j) changes.names.next }

-- a put under a key
leaves_put : (c : Name) (job : ℕ) (w : World) (k : Key) (value : ValueOf k) → Leaves c job w (put_at w c k value)
unfolding put_at
leaves_put c job w k value = record {
  contexts = λ d other. put_others d other ((context w c).cell k) refl;
  next = λ j other. ap (λ (n : ℕ → Counters). n j) (names-put_at w c k value).next;
}
  where
    put_own : (d : Name) → d ≢ c → (old : ValueOf k) (b : Bool) → is_there k old ≡ b → context (cond b (change_context w c (with_cell k (Own value))) w) d ≡ context w d
    put_own d other old true there = (changes-change_context w c (with_cell k (Own value))).others d other
    put_own d other old false none = refl

    put_others : (d : Name) → d ≢ c → (cell : Cell (ValueOf k)) → (context w c).cell k ≡ cell → context (put_at w c k value) d ≡ context w d
    put_others d other (Own old) is = ap (λ (x : Cell (ValueOf k)). context (put_in w c k value x) d) is ∙ put_own d other old (is_there k old) refl
    put_others d other (Common g) is = ap (λ (x : Cell (ValueOf k)). context (put_in w c k value x) d) is ∙ (changes-change_group w g (with_value k value)).contexts d

pages_others : (c : Name) (w : World) (values : List (ℕ × PageValue)) (d : Name) → d ≢ c → context (put_pages w c values) d ≡ context w d
pages_others c w [] d other = refl
pages_others c w (v ∷ vs) d other = pages_others c (put_at w c (Page v.0) (Some v.1)) vs d other ∙ (leaves_put c 0 w (Page v.0) (Some v.1)).contexts d other

-- a store
leaves_stored : (c : Name) (job : ℕ) (w : World) (piece : Piece) → Leaves c job w (after_store w c job piece)
unfolding after_store change_counters
leaves_stored c job w piece =
    let takes : TakesTags w job _ (after_store w c job piece) = takes-after_store w c job piece in
    record {
      contexts = stored_others;
      next = λ j other. ap (λ (n : ℕ → Counters). n j) takes.next ∙ ap (λ b. cond b (record (w.next j) { tags = (w.next j).tags + parting_count w c piece }) (w.next j)) (is_other j job other);
    }
  where
    stored_others : (d : Name) → d ≢ c → context (after_store w c job piece) d ≡ context w d
    stored_others d other =
        let values = stored_pages w c job piece (w.next job).tags (touched piece.at (length piece.bytes)) in
        context-same (put_pages w c values) (after_store w c job piece) d refl ∙ pages_others c w values d other

leaves_store : (c : Name) (job : ℕ) (w v : World) (piece : Piece) → store w c job piece ≡ Done v → Leaves c job w v
leaves_store c job w v piece done = subst (Leaves c job w) (sym (is_done w c job piece v done).after) (leaves_stored c job w piece)

-- values that move into a group
leaves_shared : (c : Name) (job : ℕ) (w : World) (items : List Item) → Leaves c job w (share w c job items)
leaves_shared c job w items =
    let shares : SharesValues w c job items (share w c job items) = shares-share w c job items in
    record { contexts = shares.others; next = λ j other. by_need shares j other (needs_group w c items) refl }
  where
    by_need : SharesValues w c job items (share w c job items) → (j : ℕ) → j ≢ job → (b : Bool) → needs_group w c items ≡ b → (share w c job items).next j ≡ w.next j
    by_need shares j other true needs = ap (λ (n : ℕ → Counters). n j) (shares.next needs) ∙ ap (λ b. cond b (record (w.next j) { groups = (w.next j).groups + 1 }) (w.next j)) (is_other j job other)
    by_need shares j other false none = ap (λ (u : World). u.next j) (shares.none none)

mapped_leaves : (c : Name) (job : ℕ) (w : World) (from to : ℕ) (present : Bool) → Leaves c job w (mapped_or_not w c from to present)
mapped_leaves c job w from to true = leaves_changed c job w _ _ (changes.mapped w c from to)
mapped_leaves c job w from to false = leaves_changed c job w _ _ (changes.unmapped w c from to)

-- a change of a context of the job
in_job : (c : Name) (job : ℕ) (w v : World) → c.job ≡ job → NamesKeepToJobs v → Leaves c job w v → StaysInJob job w v
in_job c job w v ours kept leaves = record {
  kept = kept;
  contexts = λ d other. leaves.contexts d (λ same. other (ap (λ (n : Name). n.job) same ∙ ours));
  next = leaves.next;
}

then_stays : (job : ℕ) (u v w : World) → StaysInJob job u v → StaysInJob job v w → StaysInJob job u w
then_stays job u v w first second = record {
  kept = second.kept;
  contexts = λ d other. second.contexts d other ∙ first.contexts d other;
  next = λ j other. second.next j other ∙ first.next j other;
}

stays_same : (job : ℕ) (w : World) → NamesKeepToJobs w → StaysInJob job w w
stays_same job w keeps = record { kept = keeps; contexts = λ d other. refl; next = λ j other. refl }

stays_put : (c : Name) (job : ℕ) (w : World) (n : ℕ) (value : Descriptor) → c.job ≡ job → IsOwnName job value → NamesKeepToJobs w → StaysInJob job w (put_slot w c n value)
stays_put c job w n value ours own keeps =
    in_job c job w (put_slot w c n value) ours (jobs-put_slot w c n value (subst (λ (j : ℕ). IsOwnName j value) (sym ours) own) keeps) (leaves_put c job w (Slot n) value)

pub stays_store : (c : Name) (job : ℕ) (w v : World) (piece : Piece) → c.job ≡ job → store w c job piece ≡ Done v → NamesKeepToJobs w → StaysInJob job w v
stays_store c job w v piece ours done keeps =
    let kept = subst NamesKeepToJobs (sym (is_done w c job piece v done).after) (jobs-after_store w c job piece keeps) in
    in_job c job w v ours kept (leaves_store c job w v piece done)

-- what a plain call does over contexts of the job
pub stays_plain : (targets : CallContexts) (job : ℕ) (w : World) (io : Channels) (v : World) (after : Channels) → targets.memory.job ≡ job → targets.slots.job ≡ job → targets.cred.job ≡ job → IsPlainChange w io targets job v after → NamesKeepToJobs w → StaysInJob job w v
stays_plain targets job w io v after memory slots cred Nothing keeps = stays_same job w keeps
stays_plain targets job w io v after memory slots cred (SlotPut n value within known) keeps = stays_put targets.slots job w n value slots (subst (λ (j : ℕ). IsOwnName j value) slots (known.own keeps)) keeps
stays_plain targets job w io v after memory slots cred (UidPut uid) keeps = in_job targets.cred job w _ cred (jobs-put_uid w targets.cred uid keeps) (leaves_put targets.cred job w Cred uid)
stays_plain targets job w io v after memory slots cred (Mapped from to present few) keeps =
    in_job targets.memory job w _ memory (kept_mapped present) (mapped_leaves targets.memory job w from to present)
  where
    kept_mapped : (b : Bool) → NamesKeepToJobs (mapped_or_not w targets.memory from to b)
    kept_mapped true = jobs-map_pages w targets.memory from to keeps
    kept_mapped false = jobs-unmap_pages w targets.memory from to keeps
stays_plain targets job w io v after memory slots cred (Read u piece n value short done within known) keeps =
    let first : StaysInJob job w u = stays_store targets.memory job w u piece memory done keeps in
    then_stays job w u _ first (stays_put targets.slots job u n value slots (subst (λ (j : ℕ). IsOwnName j value) slots (known.own keeps)) first.kept)
stays_plain targets job w io v after memory slots cred (Written value bytes) keeps = stays_same job w keeps

stays_cloned : (c : Name) (w : World) (items : List Item) (entry : Regs) → is_live w c ≡ true → NamesKeepToJobs w → StaysInJob c.job w (clone_context w c c.job items entry)
stays_cloned c w items entry live keeps =
    let shared : World = share w c c.job items in
    let adds = changes.cloned w c c.job items entry in
    let shares = leaves_shared c c.job w items in
    record {
      kept = jobs-clone w c items entry live keeps;
      contexts = λ d other. adds.others d (λ same. other (ap (λ (n : Name). n.job) same)) ∙ shares.contexts d (λ same. other (ap (λ (n : Name). n.job) same));
      next = λ j other. ap (λ (n : ℕ → Counters). n j) adds.next ∙ ap (λ b. cond b (record (shared.next j) { contexts = (shared.next j).contexts + 1 }) (shared.next j)) (is_other j c.job other) ∙ shares.next j other;
    }

module _ (c : Name) (w : World) (live : is_live w c ≡ true) (keeps : NamesKeepToJobs w) where
  created_by : (job : ℕ) → c.job ≡ job → (regs : Regs) (slot : ℕ) (refusal : Option Refusal) → StaysInJob job w (create.ended w c job regs slot refusal).1
  created_by job ours regs slot (Some r) = stays_same job w keeps
  created_by job ours regs slot None =
      subst (λ (j : ℕ). StaysInJob j w (create.created w c j regs slot)) ours
      (let made : StaysInJob c.job w (clone_context w c c.job (create.items_of w c regs) (create.after_call regs create.no_caller)) = stays_cloned c w (create.items_of w c regs) (create.after_call regs create.no_caller) live keeps in
      then_stays c.job w _ _ made (stays_put c c.job _ slot _ refl refl made.kept))

  pub stays_created : (job : ℕ) → c.job ≡ job → (regs : Regs) → StaysInJob job w (create.create w c job regs).1
  unfolding create.create
  stays_created job ours regs = created_by job ours regs _ _

  -- a context that is linked is of the job
  linked_job : (d : Name) → links w c d ≡ true → d.job ≡ c.job
  linked_job d link =
      let root = root_of_job w (c ∷ []) d keeps (Link c d (Root c first_is) live link) in
      sym root.2 ∙ ap (λ (n : Name). n.job) (only root.0 root.1)
    where
      first_is : is_among (c ∷ []) c ≡ true
      first_is = ap (λ b. b || false) (name-itself c)

      only_by : (b : Bool) (r : Name) → eq_by_cmp name_cmp r c ≡ b → (b || false) ≡ true → r ≡ c
      only_by true r same is = same_name r c same
      only_by false r other is = cc

      only : (r : Name) → is_among (c ∷ []) r ≡ true → r ≡ c
      only r among = only_by (eq_by_cmp name_cmp r c) r refl among

  module _ (io : Channels) (well : IsWell w io) where
    switched_by : (t : ℕ) (regs : Regs) (answer : Moved) (v : World) → switching.switch w c t regs ≡ (answer, v) → StaysInJob c.job w v × ((d : Name) (arrived : Regs) → answer ≡ moved.To d arrived → d.job ≡ c.job)
    unfolding switching.switch
    switched_by t regs (moved.To d arrived) v is =
        let went = accepted w c t regs well.named live v d arrived is in
        let same : d.job ≡ c.job = linked_job d went.linked in
        let saved : StaysInJob c.job w (switching.left w c t regs) = in_job c c.job w _ refl (jobs-save w c t _ keeps) (leaves_changed c c.job w _ _ (saves w c t _)) in
        let all : StaysInJob c.job w (switching.switched w c t regs d went.slot) = then_stays c.job w _ _ saved (stays_put d c.job _ went.slot _ same refl saved.kept) in
        (subst (StaysInJob c.job w) (sym went.made) all, λ e there to. ap (λ (n : Name). n.job) (to_same d e arrived there to) ∙ same)
      where
        to_same : (a b : Name) (r s : Regs) → moved.To a r ≡ moved.To b s → b ≡ a
        to_same a b r s is = cc
    switched_by t regs (moved.Refused r) v is = (subst (StaysInJob c.job w) (sym (stays_refused is)) (stays_same c.job w keeps), λ e there to. cc)
      where
        refused_world : (d : Name) (n : ℕ) (first : Option Refusal) → switching.ended w c t regs d n first ≡ (moved.Refused r, v) → v ≡ w
        refused_world d n (Some s) same = sym (ap (λ (p : Moved × World). p.1) same)
        refused_world d n None same = let other = ap (λ (p : Moved × World). p.0) same in cc

        stays_refused : switching.switch w c t regs ≡ (moved.Refused r, v) → v ≡ w
        stays_refused same = refused_world _ _ _ same

    pub stays_switched : (t : ℕ) (regs : Regs) → StaysInJob c.job w (switching.switch w c t regs).1 × ((d : Name) (arrived : Regs) → (switching.switch w c t regs).0 ≡ moved.To d arrived → d.job ≡ c.job)
    stays_switched t regs = switched_by t regs _ _ refl

    restricted_by : (regs : Regs) (answer : Answer) (v : World) → restricting.restrict w c regs ≡ (answer, v) → StaysInJob c.job w v
    unfolding restricting.restrict
    restricted_by regs (answers.Done after) v is =
        let made = restriction w c regs v after is in
        let had = jobs-slot_at w c _ live keeps in
        subst (StaysInJob c.job w) (sym made.made) (stays_put c c.job w _ _ refl (subst (IsOwnName c.job) made.had had) keeps)
    restricted_by regs (answers.Refused r) v is = subst (StaysInJob c.job w) (sym (restrict_same is)) (stays_same c.job w keeps)
      where
        ended_same : (first : Option Refusal) → restricting.ended w c regs first ≡ (answers.Refused r, v) → v ≡ w
        ended_same (Some s) same = sym (ap (λ (p : Answer × World). p.1) same)
        ended_same None same = let other = ap (λ (p : Answer × World). p.0) same in cc

        restrict_same : restricting.restrict w c regs ≡ (answers.Refused r, v) → v ≡ w
        restrict_same same = ended_same _ same

    pub stays_restricted : (regs : Regs) → StaysInJob c.job w (restricting.restrict w c regs).1
    stays_restricted regs = restricted_by regs _ _ refl

    overlaid_by : (regs : Regs) (answer : Answer) (v : World) → overlaying.overlay w c c.job regs ≡ (answer, v) → StaysInJob c.job w v
    unfolding overlaying.overlay
    overlaid_by regs (answers.Done after) v is =
        let taken = taken w c regs c.job well.named live v after is in
        let own : taken.giver.job ≡ c.job = subst (IsOwnName c.job) taken.had (jobs-slot_at w c _ live keeps) in
        let shares = leaves_shared taken.giver c.job w _ in
        let shared : World = share w taken.giver c.job _ in
        let changes = leaves_changed c c.job shared _ _ (changes.overlaid w c taken.giver c.job _) in
        subst (StaysInJob c.job w) (sym taken.made) (record {
          kept = jobs-overlay w c taken.giver _ taken.live own keeps;
          contexts = λ d other. changes.contexts d (λ same. other (ap (λ (n : Name). n.job) same)) ∙ shares.contexts d (λ same. other (ap (λ (n : Name). n.job) same ∙ own));
          next = λ j other. changes.next j other ∙ shares.next j other;
        })
    overlaid_by regs (answers.Refused r) v is = subst (StaysInJob c.job w) (sym (overlay_same is)) (stays_same c.job w keeps)
      where
        ended_same : (first : Option Refusal) → overlaying.ended w c c.job regs first ≡ (answers.Refused r, v) → v ≡ w
        ended_same (Some s) same = sym (ap (λ (p : Answer × World). p.1) same)
        ended_same None same = let other = ap (λ (p : Answer × World). p.0) same in cc

        overlay_same : overlaying.overlay w c c.job regs ≡ (answers.Refused r, v) → v ≡ w
        overlay_same same = ended_same _ same

    pub stays_overlaid : (job : ℕ) → c.job ≡ job → (regs : Regs) → StaysInJob job w (overlaying.overlay w c job regs).1
    stays_overlaid job ours regs = subst (λ (j : ℕ). StaysInJob j w (overlaying.overlay w c j regs).1) ours (overlaid_by regs _ _ refl)

    -- a descriptor of the job's own, in a slot that there is
    own_descriptor : (b : Bool) (n : ℕ) → IsOwnName c.job (cond b (slot_at w c n) Empty)
    own_descriptor true n = jobs-slot_at w c n live keeps
    own_descriptor false n = tt

    own_link : (value : Descriptor) (link : Name × Cap) → IsOwnName c.job value → link_of value ≡ Some link → link.0.job ≡ c.job
    own_link (Ctx name cap) link own is = ap (λ (o : Option (Name × Cap)). linked_to o) (sym is) ∙ own
      where
        linked_to : Option (Name × Cap) → ℕ
        linked_to (Some l) = l.0.job
        linked_to None = 0
    own_link _ link own is = cc

    link_job : (n : ℕ) (link : Name × Cap) → link_of (descriptor_for w c n) ≡ Some link → link.0.job ≡ c.job
    unfolding descriptor_for
    link_job n link is = own_link _ link (own_descriptor (ltb n 64) n) is

    chosen_job : (b : Bool) (d : Name) → d.job ≡ c.job → (cond b d c).job ≡ c.job
    chosen_job true d same = same
    chosen_job false d same = refl

    syscalled_by : (regs : Regs) (first : Option Refusal) → first_refusal (syscalls.refusals w c regs) ≡ first →
        StaysInJob c.job w (calls.refused_or w io (plain w io (syscalls.targets_of w c regs) c.job (syscalls.inner_call regs) (syscalls.inner_args regs)) first).world
    syscalled_by regs (Some r) is = stays_same c.job w keeps
    syscalled_by regs None is =
        let allowed = allowed w c regs well.named live is in
        let same : (syscalls.link w c regs).0.job ≡ c.job = link_job _ _ allowed.found in
        stays_plain (syscalls.targets_of w c regs) c.job w io _ _ (chosen_job _ _ same) (chosen_job _ _ same) (chosen_job _ _ same)
        (does-one_thing w io (syscalls.targets_of w c regs) c.job (syscalls.inner_call regs) (syscalls.inner_args regs) well.named well.files (allowed.live kinds.Slot)) keeps

    syscalled_here : (regs : Regs) → StaysInJob c.job w (lw_syscall w io c c.job regs).world
    unfolding lw_syscall
    syscalled_here regs = syscalled_by regs _ refl

    pub stays_syscalled : (job : ℕ) → c.job ≡ job → (regs : Regs) → StaysInJob job w (lw_syscall w io c job regs).world
    stays_syscalled job ours regs = subst (λ (j : ℕ). StaysInJob j w (lw_syscall w io c j regs).world) ours (syscalled_here regs)

    pub stays_plain_here : (job : ℕ) → c.job ≡ job → (call : Option PlainCall) (args : List ℕ) → StaysInJob job w (plain w io (record { memory = c; slots = c; cred = c }) job call args).world
    stays_plain_here job ours call args =
        stays_plain (record { memory = c; slots = c; cred = c }) job w io _ _ ours ours ours (does-one_thing w io (record { memory = c; slots = c; cred = c }) job call args well.named well.files live) keeps

-- a request begins in a copy of a context that names none
pub stays_begun : (w : World) (home : Name) (r : ℕ) → NamesKeepToJobs w → ((n : ℕ) (d : Name) → is_of d (slot_at w home n) ≡ false) → StaysInJob (r + 1) w (begin w home r)
unfolding begin begun_context
stays_begun w home r keeps none =
    let adds : AddsContext w (r + 1) (begun_context w home r) (add_context w (r + 1) (begun_context w home r)) = adds-add_context w (r + 1) (begun_context w home r) in
    record {
      kept = keeps-add_context own_names w (r + 1) (begun_context w home r) begun_names keeps;
      contexts = λ d other. adds.others d (λ same. other (ap (λ (n : Name). n.job) same));
      next = λ j other. ap (λ (n : ℕ → Counters). n j) adds.next ∙ ap (λ b. cond b (record (w.next j) { contexts = (w.next j).contexts + 1 }) (w.next j)) (is_other j (r + 1) other);
    }
  where
    own_by : (value : Descriptor) → ((d : Name) → is_of d value ≡ false) → IsOwnName (r + 1) value
    own_by (Ctx name cap) of_none = absurd (false≢true (sym (of_none name) ∙ name-itself name))
    own_by _ of_none = tt

    own_slot : (a b : Bool) (n : ℕ) → IsOwnName (r + 1) (cond a (Request r 0) (cond b (Reply r) (slot_at w home n)))
    own_slot true b n = tt
    own_slot false true n = tt
    own_slot false false n = own_by (slot_at w home n) (none n)

    begun_names : InContext own_names (r + 1) (begun_context w home r)
    begun_names (Page p) = tt
    begun_names (Slot n) = own_slot (eqb n 0) (eqb n 1) n
    begun_names Cred = tt
