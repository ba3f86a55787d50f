-- What it means that a store finds too few frames, and what the same act does where there are more.
use Rattle.std.proofs.Common.{◌≡◌, ◌≢◌, ◌⊎◌, inl, inr, ℕ, zero, suc, ◌+◌, ◌-◌, ◌*◌, ◌/◌, ◌%◌, ◌≤◌, ◌<◌, refl, sym, ap, subst, ◌∙◌, Bool, true, false, cond, eqb, leb, ltb, not, Option, Some, None, List, [], ◌∷◌, length, arith}
use Rattle.std.specs.Prelude.{is_none, is_some, slice_index, take, unwrap_or}
use Rattle.std.specs.FinMap as fm
use Rattle.std.specs.Int.{w64, to_le_bytes}
use Rattle.std.specs.List.{list_all, range_with_len}
use Rattle.std.specs.Ordering.{eq_by_cmp}
use Rattle.std.proofs.lemmas.Bool.{and_parts, eqb-true, false≢true}
use Rattle.std.proofs.lemmas.Bool.Decides.{nat_tests}
use Rattle.guest_call.specs.Guest.{descriptor_for, link_of, slot_refusals}
use Rattle.guest_isa.specs.declared.instr.Instr.{Instr}
use Rattle.guest_isa.specs.declared.op.Op.{Op}
use Rattle.guest_isa.specs.declared.op.Op.TheVariants.{Stb, Stw, Sys}
use Rattle.guest_machine.specs.declared.progress.Next.{Next}
use Rattle.guest_machine.specs.declared.progress.Next.TheVariants.{Shared, Pause, BadPc}
use Rattle.world_views.specs.ByJob.{Home, IsSlotOf, KeepsJobs}
use Rattle.kernel_core.specs.Machine.{Environment}
use Rattle.kernel_core.specs.Step as kernel
use Rattle.kernel_core.specs.Step.{address, args_of, beside, ended_outcome, guest_calls, is_aligned, next_outcome, shared_outcome, store_outcome, stored_outcome, three_times, word_outcome}
use Rattle.kernel_core.specs.declared.calling.TheConstants.{LW_SYSCALL}
use Rattle.kernel_core.specs.declared.thread.Thread.{Thread}
use Rattle.lwc_base.specs.Cells.{put_at, put_in, put_slot, value_at, value_of, with_cell, with_value, page_at, slot_at}
use Rattle.access_cap.specs.Kinds.{is_chosen}
use Rattle.lwc_base.specs.Capabilities.{empty_cap}
use Rattle.lwc_base.specs.Channels.{Channels}
use Rattle.lwc_base.specs.Facts.{KeepsNames}
use Rattle.lwc_base.specs.Frames.{is_parting, tags, used}
use Rattle.lwc_base.specs.Holders.{InCell, IsGroup}
use Rattle.lwc_base.specs.Keys.{ValueOf}
use Rattle.lwc_base.specs.Memory.{is_present, touched}
use Rattle.lwc_base.specs.Refusals.{first_refusal}
use Rattle.lwc_base.specs.Sound.{IsSound, IsSoundPage, IsSoundValue, live_groups, sound_pages}
use Rattle.lwc_base.specs.Rights.{is_writable}
use Rattle.lwc_base.specs.Store.{Absent, Done, Full, Piece, ReadOnly, Stored, after_store, parting_count, store}
use Rattle.lwc_base.specs.World.{Context, Group, World, change_context, change_group, context, group, is_live, new_context}
use Rattle.lwc_base.specs.declared.cell.Cell.{Cell}
use Rattle.lwc_base.specs.declared.cell.Cell.TheVariants.{Own, Common}
use Rattle.lwc_base.specs.declared.descriptor.Descriptor.{Descriptor}
use Rattle.lwc_base.specs.declared.descriptor.Descriptor.TheVariants.{Console, Ctx, Empty, File, Reply, Request}
use Rattle.lwc_base.specs.Summaries.{is_empty}
use Rattle.lwc_types.specs.Names.{name_cmp}
use Rattle.lwc_types.specs.Registers.{fresh_registers}
use Rattle.lwc_types.specs.declared.fault.Fault.TheVariants as fault
use Rattle.lwc_types.specs.declared.key.Key.{Key}
use Rattle.lwc_types.specs.declared.key.Key.TheVariants.{Page, Slot, Cred}
use Rattle.lwc_types.specs.declared.key.Kind.TheVariants as kinds
use Rattle.lwc_types.specs.declared.name.Name.{Name}
use Rattle.lwc_types.specs.declared.name.Tag.{Tag}
use Rattle.lwc_types.specs.declared.regs.Regs.{Regs}
use Rattle.lwc_types.specs.declared.page.TheConstants.{PAGE_BYTES}
use Rattle.lwc_types.specs.declared.refusal.Refusal.{Refusal}
use Rattle.lwc_types.specs.declared.refusal.Refusal.TheVariants as refusal
use Rattle.lwc_types.specs.declared.refusal.Refusal.TheVariants.{BadAddress, BadCall, BadFd, BadMode, NoFrame, NotCovered, TooLong, WrongKind}
use Rattle.lwc_types.specs.declared.page.PageValue.{PageValue}
use Rattle.lwc_types.specs.declared.page.PageValue.TheVariants.{Zero, Data}
use Rattle.lwc_syscall.specs.Plain as calls
use Rattle.lwc_syscall.specs.Plain.{plain, read_refusals, reading, refused_or, store_at, plain_call}
use Rattle.lwc_syscall.specs.Syscall.{inner_args, inner_call, link, lw_syscall, mask_in, refusals, targets_of}
use Rattle.lwc_syscall.specs.declared.answer.CallAnswer.TheVariants.{Refused}
use Rattle.lwc_syscall.specs.declared.calls.CallContexts.{CallContexts}
use Rattle.lwc_syscall.specs.declared.plain_call.PlainCall.{PlainCall}
use Rattle.lwc_syscall.specs.declared.plain_call.PlainCall.TheVariants as plain_calls
use Rattle.request_isolation.specs.Needs.{IsFull, StoreIsFull, WantsFrames}
use Rattle.request_isolation.proofs.Counting.{no_fewer}
use Rattle.request_isolation.proofs.Tagged.{AtContext, AtGroup, Holder, held_in, holder_of}
use Rattle.world_views.proofs.Frames.{plain-reason}
use Rattle.world_views.proofs.Keeping.{value_at-in}
use Rattle.lwc_base.proofs.Room.{store-used}
use Rattle.lwc_base.proofs.Lookups.{changes-change_context, changes-change_group}
use Rattle.lwc_types.proofs.Orders.{name-itself, same_name}
use Rattle.kernel_core.proofs.Worlds.{few_parting}

-- a store that finds too few frames
record IsFullStore (w : World) (c : Name) (piece : Piece) : Type 0 where
  present : is_present w c piece.at (length piece.bytes) ≡ true
  writable : is_writable w c piece.at (length piece.bytes) ≡ true
  few : w.size.frames < used w + parting_count w c piece

full_parts : (w : World) (c : Name) (job : ℕ) (piece : Piece) → store w c job piece ≡ Full → IsFullStore w c piece
unfolding store
full_parts w c job piece is = record { present = grind arith; writable = grind arith; few = grind (arith, nat_tests) }

-- the world with more frames
abbrev pub more : World → World
more w = record w { size = record w.size { frames = used w + 2 } }

pub used_more : (w : World) → used (more w) ≡ used w
unfolding used tags
used_more w = refl

pub parting_more : (w : World) (c : Name) (piece : Piece) → parting_count (more w) c piece ≡ parting_count w c piece
unfolding parting_count is_parting tags value_at context group
parting_more w c piece = refl

present_more : (w : World) (c : Name) (at count : ℕ) → is_present (more w) c at count ≡ is_present w c at count
unfolding is_present value_at context group
present_more w c at count = refl

writable_more : (w : World) (c : Name) (at count : ℕ) → is_writable (more w) c at count ≡ is_writable w c at count
unfolding is_writable context
writable_more w c at count = refl

named_more : (w : World) (job : ℕ) (k : Key) (cell : Cell (ValueOf k)) → InCell (live_groups w) job k cell → InCell (live_groups (more w)) job k cell
unfolding group
named_more w job k (Own value) is = is
named_more w job k (Common g) is = record { live = is.live; there = is.there }

page_more : (w : World) (home : Tag → ℕ) (p : ℕ) (value : Option PageValue) → IsSoundPage w home p value → IsSoundPage (more w) home p value
page_more w home p None is = is
page_more w home p (Some Zero) is = is
page_more w home p (Some (Data tag bytes)) is = (is.0, record { whole = is.1.whole; old = is.1.old; at_home = is.1.at_home })

value_more : (w : World) (home : Tag → ℕ) (k : Key) (value : ValueOf k) → IsSoundValue w home k value → IsSoundValue (more w) home k value
value_more w home (Page p) value is = page_more w home p value is
value_more w home (Slot n) value is = is
value_more w home Cred value is = is

cell_more : (w : World) (home : Tag → ℕ) (job : ℕ) (k : Key) (cell : Cell (ValueOf k)) → InCell (sound_pages w home) job k cell → InCell (sound_pages (more w) home) job k cell
cell_more w home job k (Own value) is = value_more w home k value is
cell_more w home job k (Common g) is = is

pub sound_more : (w : World) → IsSound w → IsSound (more w)
unfolding context group
sound_more w sound = record {
  fresh = record {
    contexts = sound.fresh.contexts;
    groups = sound.fresh.groups;
    cells = record { contexts = sound.fresh.cells.contexts; groups = sound.fresh.cells.groups };
  };
  groups = record { contexts = λ c live k. named_more w c.job k _ (sound.groups.contexts c live k); groups = sound.groups.groups };
  keys = record { contexts = sound.keys.contexts; groups = sound.keys.groups };
  home = sound.home;
  pages = record { contexts = λ c live k. cell_more w sound.home c.job k _ (sound.pages.contexts c live k); groups = λ g live k. value_more w sound.home k _ (sound.pages.groups g live k) };
}

-- a page that is present is one of a live context
live_found : (w : World) (c : Name) (o : Option Context) → fm.get w.contexts c ≡ o → (p : ℕ) → is_some (page_at w c p) ≡ true → is_some o ≡ true
unfolding value_at context
live_found w c None is p there =
    let none : is_some (page_at w c p) ≡ false = ap (λ (q : Option Context). is_some (value_of w (Page p) ((unwrap_or q (new_context 0 (fresh_registers 0))).cell (Page p)))) is in
    absurd (false≢true (sym none ∙ there))
live_found w c (Some x) is p there = refl

pub live_present : (w : World) (c : Name) (at count : ℕ) → 1 ≤ count → is_present w c at count ≡ true → is_live w c ≡ true
unfolding is_present touched
live_present w c at count some is = by_test (eqb count 0) refl is
  where
    first_of : (n : ℕ) → 1 ≤ n → list_all (λ p. is_some (page_at w c p)) (range_with_len (at / 4096) n) ≡ true → is_some (page_at w c (at / 4096)) ≡ true
    first_of zero few there = absurd (omega (arith, few))
    first_of (suc n) few there = (and_parts _ _ there).0

    by_test : (b : Bool) → eqb count 0 ≡ b → list_all (λ p. is_some (page_at w c p)) (cond b [] (range_with_len (at / 4096) ((at + count - 1) / 4096 + 1 - at / 4096))) ≡ true → is_live w c ≡ true
    by_test true none there = absurd (let clash : count ≡ 0 = grind (arith, nat_tests) in omega (arith, clash, some))
    by_test false other there = live_found w c (fm.get w.contexts c) refl (at / 4096) (first_of ((at + count - 1) / 4096 + 1 - at / 4096) (omega (arith, some)) there)

-- the store in a world with more frames
module _ (w : World) (sound : IsSound w) (c : Name) (job : ℕ) (piece : Piece) (is : store w c job piece ≡ Full) (some : 1 ≤ length piece.bytes) (short : length piece.bytes ≤ 4096) where
  done_by : (present writable full : Bool) (v : World) → present ≡ true → writable ≡ true → full ≡ false →
      cond (not present) Absent (cond (not writable) ReadOnly (cond full Full (Done v))) ≡ Done v
  done_by present writable full v a b c = grind arith

  pub store_more : store (more w) c job piece ≡ Done (after_store (more w) c job piece)
  unfolding store
  store_more =
      let few = few_parting w c piece short in
      let same = used_more w in
      let parts = parting_more w c piece in
      let full = full_parts w c job piece is in
      done_by _ _ _ _ (present_more w c piece.at (length piece.bytes) ∙ full.present) (writable_more w c piece.at (length piece.bytes) ∙ full.writable)
      (let low : used (more w) + parting_count (more w) c piece ≤ used w + 2 = omega (arith, few, same, parts) in grind (arith, nat_tests))

  pub taken_more : used w + parting_count w c piece ≤ used (after_store (more w) c job piece)
  taken_more =
      let live = live_present w c piece.at (length piece.bytes) some (full_parts w c job piece is).present in
      let taken = store-used (more w) (after_store (more w) c job piece) c job piece store_more (sound_more w sound) live in
      omega (arith, taken, used_more w, parting_more w c piece)

-- a slot that is put leaves each tag where it is
pub record KeepsPages (v u : World) : Type 0 where
  live : (c : Name) → is_live v c ≡ true → is_live u c ≡ true
  cell : (c : Name) (p : ℕ) → (context u c).cell (Page p) ≡ (context v c).cell (Page p)
  groups : (g : Name) → IsGroup v g → IsGroup u g
  value : (g : Name) (p : ℕ) → (group u g).value (Page p) ≡ (group v g).value (Page p)
  pub pages : u.size.pages ≡ v.size.pages

one_or_other : (c d : Name) → (c ≡ d) ⊎ (c ≢ d)
one_or_other c d = by_test (eq_by_cmp name_cmp c d) refl
  where
    by_test : (b : Bool) → eq_by_cmp name_cmp c d ≡ b → (c ≡ d) ⊎ (c ≢ d)
    by_test true same = inl (same_name c d same)
    by_test false other = inr (λ same. false≢true (sym other ∙ ap (λ (n : Name). eq_by_cmp name_cmp n d) same ∙ name-itself d))

pages_kept : (v u : World) → KeepsNames v u → ((c : Name) (p : ℕ) → (context u c).cell (Page p) ≡ (context v c).cell (Page p)) → ((g : Name) (p : ℕ) → (group u g).value (Page p) ≡ (group v g).value (Page p)) → KeepsPages v u
pages_kept v u names cell value = record {
  live = λ c live. names.live c ∙ live;
  cell = cell;
  groups = λ g live. names.groups g ∙ live;
  value = value;
  pages = ap (λ z. z.pages) names.size;
}

kept_context : (v : World) (s : Name) (n : ℕ) (d : Descriptor) → KeepsPages v (change_context v s (with_cell (Slot n) (Own d)))
kept_context v s n d =
    let changes = changes-change_context v s (with_cell (Slot n) (Own d)) in
    pages_kept v _ changes.names (λ c p. cell_by c p (one_or_other c s)) (λ g p. ap (λ (x : Group). x.value (Page p)) (changes.groups g))
  where
    by_live : (p : ℕ) (b : Bool) → is_live v s ≡ b → (context (change_context v s (with_cell (Slot n) (Own d))) s).cell (Page p) ≡ (context v s).cell (Page p)
    by_live p true live = ap (λ (x : Context). x.cell (Page p)) ((changes-change_context v s (with_cell (Slot n) (Own d))).changed live)
    by_live p false dead = ap (λ (u : World). (context u s).cell (Page p)) ((changes-change_context v s (with_cell (Slot n) (Own d))).same dead)

    cell_by : (c : Name) (p : ℕ) → (c ≡ s) ⊎ (c ≢ s) → (context (change_context v s (with_cell (Slot n) (Own d))) c).cell (Page p) ≡ (context v c).cell (Page p)
    cell_by c p (inl same) = subst (λ (e : Name). (context (change_context v s (with_cell (Slot n) (Own d))) e).cell (Page p) ≡ (context v e).cell (Page p)) (sym same) (by_live p (is_live v s) refl)
    cell_by c p (inr other) = ap (λ (x : Context). x.cell (Page p)) ((changes-change_context v s (with_cell (Slot n) (Own d))).others c other)

kept_group : (v : World) (g : Name) (n : ℕ) (d : Descriptor) → KeepsPages v (change_group v g (with_value (Slot n) d))
kept_group v g n d =
    let changes = changes-change_group v g (with_value (Slot n) d) in
    pages_kept v _ changes.names (λ c p. ap (λ (x : Context). x.cell (Page p)) (changes.contexts c)) (λ h p. value_by h p (one_or_other h g))
  where
    by_live : (p : ℕ) (b : Bool) → fm.contains_key v.groups g ≡ b → (group (change_group v g (with_value (Slot n) d)) g).value (Page p) ≡ (group v g).value (Page p)
    by_live p true live = ap (λ (x : Group). x.value (Page p)) ((changes-change_group v g (with_value (Slot n) d)).changed live)
    by_live p false dead = ap (λ (u : World). (group u g).value (Page p)) ((changes-change_group v g (with_value (Slot n) d)).same dead)

    value_by : (h : Name) (p : ℕ) → (h ≡ g) ⊎ (h ≢ g) → (group (change_group v g (with_value (Slot n) d)) h).value (Page p) ≡ (group v h).value (Page p)
    value_by h p (inl same) = subst (λ (e : Name). (group (change_group v g (with_value (Slot n) d)) e).value (Page p) ≡ (group v e).value (Page p)) (sym same) (by_live p (fm.contains_key v.groups g) refl)
    value_by h p (inr other) = ap (λ (x : Group). x.value (Page p)) ((changes-change_group v g (with_value (Slot n) d)).others h other)

pub kept_put : (v : World) (s : Name) (n : ℕ) (d : Descriptor) → KeepsPages v (put_slot v s n d)
unfolding put_at
kept_put v s n d = by_cell ((context v s).cell (Slot n))
  where
    by_cell : (cell : Cell Descriptor) → KeepsPages v (put_in v s (Slot n) d cell)
    by_cell (Own old) = kept_context v s n d
    by_cell (Common g) = kept_group v g n d

pub used_put : (v : World) (s : Name) (n : ℕ) (d : Descriptor) → used v ≤ used (put_slot v s n d)
unfolding used
used_put v s n d =
    no_fewer (tags v) (tags (put_slot v s n d)) (λ t there. held_in (put_slot v s n d) t (moved t (holder_of v t there)))
  where
    moved : (t : Tag) → Holder v t → Holder (put_slot v s n d) t
    moved t (AtContext c live p small bytes is) =
        let keeps = kept_put v s n d in AtContext c (keeps.live c live) p (subst (λ (k : ℕ). p < k) (sym keeps.pages) small) bytes (keeps.cell c p ∙ is)
    moved t (AtGroup g live p small bytes is) =
        let keeps = kept_put v s n d in AtGroup g (keeps.groups g live) p (subst (λ (k : ℕ). p < k) (sym keeps.pages) small) bytes (keeps.value g p ∙ is)

-- why an act is refused at its last row
last_row : (a b c d g f : Bool) → first_refusal ((a, BadFd) ∷ (b, WrongKind) ∷ (c, TooLong) ∷ (d, BadAddress) ∷ (g, refusal.ReadOnly) ∷ (f, NoFrame) ∷ []) ≡ Some NoFrame →
    (a ≡ false) × (b ≡ false) × (c ≡ false) × (d ≡ false) × (f ≡ true)
last_row true b c d g f is = cc
last_row false true c d g f is = cc
last_row false false true d g f is = cc
last_row false false false true g f is = cc
last_row false false false false true f is = cc
last_row false false false false false true is = (refl, refl, refl, refl, refl)
last_row false false false false false false is = cc

refused_row : (w : World) (io : Channels) (value : ℕ) (v : World) (after : Channels) (first : Option Refusal) → (refused_or w io (calls.answering value v after) first).answer ≡ Refused NoFrame → first ≡ Some NoFrame
refused_row w io value v after None is = cc
refused_row w io value v after (Some r) is = let same : r ≡ NoFrame = cc in ap Some same

full_is : (s : Stored) → calls.is_full s ≡ true → s ≡ Full
full_is Absent is = cc
full_is ReadOnly is = cc
full_is Full is = refl
full_is (Done v) is = cc

at_parts : (w : World) (none within : Bool) (stored : Stored) → cond none (Done w) (cond within stored Absent) ≡ Full → (none ≡ false) × (within ≡ true) × (stored ≡ Full)
at_parts w true within stored is = cc
at_parts w false true stored is = (refl, refl, is)
at_parts w false false stored is = cc

few_taken : (n : ℕ) (l : List ℕ) → length (take n l) ≤ n
few_taken zero l = omega arith
few_taken (suc n) [] = omega arith
few_taken (suc n) (y ∷ ys) = let rest = few_taken n ys in omega (arith, rest)

-- a read whose store finds too few frames
record FullRead (w : World) (io : Channels) (targets : CallContexts) (job n at count : ℕ) : Type 0 where
  bytes : List ℕ
  are : bytes ≡ calls.moved io (descriptor_for w targets.slots n) count
  some : 1 ≤ length bytes
  short : length bytes ≤ 4096
  full : store w targets.memory job (record { at = at; bytes = bytes }) ≡ Full
  within : leb (at + length bytes) (w.size.pages * PAGE_BYTES) ≡ true
  rows : (is_empty (descriptor_for w targets.slots n) ≡ false) × (is_none (calls.left io (descriptor_for w targets.slots n)) ≡ false) × (ltb 4096 count ≡ false)

full_read : (w : World) (io : Channels) (targets : CallContexts) (job n at count : ℕ) → (reading w io targets job n at count).answer ≡ Refused NoFrame → FullRead w io targets job n at count
unfolding reading store_at
full_read w io targets job n at count is =
    let value = descriptor_for w targets.slots n in
    let bytes = calls.moved io value count in
    let stored = store_at w targets.memory job at bytes in
    let row = refused_row w io (length bytes) _ io (first_refusal (read_refusals io value count stored)) is in
    let rows = last_row (is_empty value) (is_none (calls.left io value)) (ltb 4096 count) (calls.is_absent stored) (calls.is_read_only stored) (calls.is_full stored) row in
    let parts = at_parts w (eqb (length bytes) 0) (leb (at + length bytes) (w.size.pages * PAGE_BYTES)) (store w targets.memory job (record { at = at; bytes = bytes })) (full_is stored rows.4) in
    let few = few_taken count (unwrap_or (calls.left io value) []) in
    record {
      bytes = bytes;
      are = refl;
      some = (let none : eqb (length bytes) 0 ≡ false = parts.0 in grind (arith, nat_tests));
      short = (let low : ltb 4096 count ≡ false = rows.2 in let most : count ≤ 4096 = grind (arith, nat_tests) in omega (arith, few, most));
      full = parts.2;
      within = parts.1;
      rows = (rows.0, rows.1, rows.2);
    }

rows_none : (a b c d g f : Bool) → a ≡ false → b ≡ false → c ≡ false → d ≡ false → g ≡ false → f ≡ false →
    first_refusal ((a, BadFd) ∷ (b, WrongKind) ∷ (c, TooLong) ∷ (d, BadAddress) ∷ (g, refusal.ReadOnly) ∷ (f, NoFrame) ∷ []) ≡ None
rows_none false false false false false false a b c d g f = refl
rows_none true b c d g f one two targets four five six = cc
rows_none false true c d g f one two targets four five six = cc
rows_none false false true d g f one two targets four five six = cc
rows_none false false false true g f one two targets four five six = cc
rows_none false false false false true f one two targets four five six = cc
rows_none false false false false false true one two targets four five six = cc

descriptor_more : (w : World) (s : Name) (n : ℕ) → descriptor_for (more w) s n ≡ descriptor_for w s n
unfolding descriptor_for value_at context group
descriptor_more w s n = refl

at_done : (w : World) (none within : Bool) (v : World) (stored : Stored) → none ≡ false → within ≡ true → stored ≡ Done v → cond none (Done w) (cond within stored Absent) ≡ Done v
at_done w false true v stored a b is = is
at_done w true within v stored a b is = cc
at_done w false false v stored a b is = cc

-- the same read where there are more frames
read_more : (w : World) (io : Channels) (targets : CallContexts) (job n at count : ℕ) → IsSound w → (read : FullRead w io targets job n at count) →
    used w + parting_count w targets.memory (record { at = at; bytes = read.bytes }) ≤ used (reading (more w) io targets job n at count).world
unfolding reading store_at
read_more w io targets job n at count sound read =
    let value = descriptor_for (more w) targets.slots n in
    let bytes = calls.moved io value count in
    let same_value : value ≡ descriptor_for w targets.slots n = descriptor_more w targets.slots n in
    let same : bytes ≡ read.bytes = ap (λ (d : Descriptor). calls.moved io d count) same_value ∙ sym read.are in
    let v = after_store (more w) targets.memory job (record { at = at; bytes = read.bytes }) in
    let stored : store_at (more w) targets.memory job at bytes ≡ Done v =
    ap (store_at (more w) targets.memory job at) same
    ∙ at_done (more w) (eqb (length read.bytes) 0) (leb (at + length read.bytes) (w.size.pages * PAGE_BYTES)) v (store (more w) targets.memory job (record { at = at; bytes = read.bytes }))
    (let some = read.some in grind (arith, nat_tests)) read.within (store_more w sound targets.memory job (record { at = at; bytes = read.bytes }) read.full read.some read.short) in
    let none : first_refusal (read_refusals io value count (store_at (more w) targets.memory job at bytes)) ≡ None =
    rows_none (is_empty value) (is_none (calls.left io value)) (ltb 4096 count) (calls.is_absent (store_at (more w) targets.memory job at bytes))
    (calls.is_read_only (store_at (more w) targets.memory job at bytes)) (calls.is_full (store_at (more w) targets.memory job at bytes))
    (ap is_empty same_value ∙ read.rows.0) (ap (λ (d : Descriptor). is_none (calls.left io d)) same_value ∙ read.rows.1) read.rows.2
    (ap calls.is_absent stored) (ap calls.is_read_only stored) (ap calls.is_full stored) in
    let put = put_slot (calls.world_after (more w) (store_at (more w) targets.memory job at bytes)) targets.slots n (calls.read_on (length bytes) value) in
    let world : (reading (more w) io targets job n at count).world ≡ put = ap (λ (o : Option Refusal). (refused_or (more w) io (calls.answering (length bytes) put io) o).world) none in
    let after : calls.world_after (more w) (store_at (more w) targets.memory job at bytes) ≡ v = ap (calls.world_after (more w)) stored in
    let grown = used_put (calls.world_after (more w) (store_at (more w) targets.memory job at bytes)) targets.slots n (calls.read_on (length bytes) value) in
    let taken = taken_more w sound targets.memory job (record { at = at; bytes = read.bytes }) read.full read.some read.short in
    omega (arith, grown, taken, ap used world, ap used after)

-- an act that finds too few frames: the store that it makes, and what it leaves where there are more
pub record FullAct (e : Environment) (y : Thread) (t : ℕ) (next : Next) : Type 0 where
  pub name : Name
  pub piece : Piece
  pub own : name.job ≡ y.context.job
  pub short : length piece.bytes ≤ 4096
  pub full : e.world.size.frames < used e.world + parting_count e.world name piece
  pub done : IsSound e.world → used e.world + parting_count e.world name piece ≤ used (next_outcome guest_calls t (beside (more e.world) e.channels) y next).environment.world

module _ (home : Home) (e : Environment) (y : Thread) (t : ℕ) (jobs : KeepsJobs home e.world) where
  stored_world : (within : Bool) (v : World) (s : Stored) → within ≡ true → s ≡ Done v →
      (cond within (stored_outcome (beside (more e.world) e.channels) y s) (kernel.unchanged (beside (more e.world) e.channels) (kernel.faulted y fault.BadStore))).environment.world ≡ v
  stored_world true v (Done u) a is = let same : u ≡ v = cc in same
  stored_world true v Absent a is = cc
  stored_world true v ReadOnly a is = cc
  stored_world true v Full a is = cc
  stored_world false v s a is = cc

  full_piece : IsSound e.world → (piece : Piece) → 1 ≤ length piece.bytes → length piece.bytes ≤ 4096 → StoreIsFull e y piece →
      used e.world + parting_count e.world y.context piece ≤ used (store_outcome (beside (more e.world) e.channels) y piece).environment.world
  unfolding store_outcome
  full_piece sound piece some short is =
      let v = after_store (more e.world) y.context y.job piece in
      let world = stored_world (leb (piece.at + length piece.bytes) (e.world.size.pages * PAGE_BYTES)) v (store (more e.world) y.context y.job piece) is.0 (store_more e.world sound y.context y.job piece is.1 some short) in
      let taken = taken_more e.world sound y.context y.job piece is.1 some short in
      omega (arith, taken, ap used world)

  full_plain : (targets : CallContexts) (call : Option PlainCall) (args : List ℕ) → call ≡ Some plain_calls.Read → (plain e.world e.channels targets y.job call args).answer ≡ Refused NoFrame →
      (piece : Piece) × (length piece.bytes ≤ 4096) × (e.world.size.frames < used e.world + parting_count e.world targets.memory piece)
      × (IsSound e.world → used e.world + parting_count e.world targets.memory piece ≤ used (plain (more e.world) e.channels targets y.job call args).world)
  unfolding plain
  full_plain targets call args reads is =
      let arg = slice_index args in
      let refused : (plain e.world e.channels targets y.job (Some plain_calls.Read) args).answer ≡ Refused NoFrame = ap (λ (k : Option PlainCall). (plain e.world e.channels targets y.job k args).answer) (sym reads) ∙ is in
      let read = full_read e.world e.channels targets y.job (arg 0) (arg 1) (arg 2) refused in
      let parts = full_parts e.world targets.memory y.job (record { at = arg 1; bytes = read.bytes }) read.full in (
        record { at = arg 1; bytes = read.bytes },
        read.short,
        parts.few,
        λ sound. subst (λ (k : Option PlainCall). used e.world + parting_count e.world targets.memory (record { at = arg 1; bytes = read.bytes }) ≤ used (plain (more e.world) e.channels targets y.job k args).world) (sym reads)
            (read_more e.world e.channels targets y.job (arg 0) (arg 1) (arg 2) sound read),
      )

  number_of_read : (number : ℕ) → plain_call number ≡ Some plain_calls.Read → number ≡ 4
  number_of_read number is = grind (arith, nat_tests)

  -- the context that a slot's descriptor is of is of the job
  link_own : (job : ℕ) (value : Descriptor) (c : Name) → IsSlotOf job value → c.job ≡ job → (unwrap_or (link_of value) (c, empty_cap)).0.job ≡ job
  link_own job Empty c own here = here
  link_own job Console c own here = here
  link_own job (File f at) c own here = here
  link_own job (Request r at) c own here = here
  link_own job (Reply r) c own here = here
  link_own job (Ctx name cap) c own here = own

  slot_own : (c : Name) (n : ℕ) → IsSlotOf c.job (descriptor_for e.world c n)
  unfolding descriptor_for
  slot_own c n = by_there (ltb n 64)
    where
      by_there : (b : Bool) → IsSlotOf c.job (cond b (slot_at e.world c n) Empty)
      by_there true = value_at-in home e.world jobs.kept c (Slot n)
      by_there false = tt

  memory_own : (regs : Regs) → (targets_of e.world y.context regs).memory.job ≡ y.context.job
  memory_own regs = by_chosen (is_chosen (mask_in regs) kinds.Page)
    where
      by_chosen : (b : Bool) → (cond b (link e.world y.context regs).0 y.context).job ≡ y.context.job
      by_chosen true = link_own y.context.job (descriptor_for e.world y.context (slice_index regs.r 1)) y.context (slot_own y.context (slice_index regs.r 1)) refl
      by_chosen false = refl

  outer_rows : (a b c d f : Bool) → first_refusal ((a, BadFd) ∷ (b, WrongKind) ∷ (c, BadMode) ∷ (d, NotCovered) ∷ (f, BadCall) ∷ []) ≡ Some NoFrame → ⊥
  outer_rows true b c d f is = cc
  outer_rows false true c d f is = cc
  outer_rows false false true d f is = cc
  outer_rows false false false true f is = cc
  outer_rows false false false false true is = cc
  outer_rows false false false false false is = cc

  outer_passed : (w : World) (io : Channels) (done : calls.Outcome) (first : Option Refusal) → (first ≡ Some NoFrame → ⊥) → (refused_or w io done first).answer ≡ Refused NoFrame → (first ≡ None) × (done.answer ≡ Refused NoFrame)
  outer_passed w io done None never is = (refl, is)
  outer_passed w io done (Some r) never is = let same : r ≡ NoFrame = cc in absurd (never (ap Some same))

  full_syscall : (lw_syscall e.world e.channels y.context y.job y.regs).answer ≡ Refused NoFrame →
      (piece : Piece) × (length piece.bytes ≤ 4096) × (e.world.size.frames < used e.world + parting_count e.world (targets_of e.world y.context y.regs).memory piece)
      × (IsSound e.world → used e.world + parting_count e.world (targets_of e.world y.context y.regs).memory piece ≤ used (lw_syscall (more e.world) e.channels y.context y.job y.regs).world)
  unfolding lw_syscall refusals slot_refusals descriptor_for value_at context group
  full_syscall is =
      let targets = targets_of e.world y.context y.regs in
      let passed = outer_passed e.world e.channels (plain e.world e.channels targets y.job (inner_call y.regs) (inner_args y.regs)) (first_refusal (refusals e.world y.context y.regs)) (outer_rows _ _ _ _ _) is in
      let four = (plain-reason e.world e.channels targets y.job (inner_call y.regs) (inner_args y.regs) passed.1).0 in
      let read = full_plain targets (inner_call y.regs) (inner_args y.regs) four passed.1 in
      let world : (lw_syscall (more e.world) e.channels y.context y.job y.regs).world ≡ (plain (more e.world) e.channels targets y.job (inner_call y.regs) (inner_args y.regs)).world =
      ap (λ (o : Option Refusal). (refused_or (more e.world) e.channels (plain (more e.world) e.channels targets y.job (inner_call y.regs) (inner_args y.regs)) o).world) passed.0 in
      (read.0, read.1, read.2, λ sound. let most = read.3 sound in omega (arith, most, ap used world))

  full_call : (number : ℕ) (b : Bool) → eqb number LW_SYSCALL ≡ b → (cond b (lw_syscall e.world e.channels y.context y.job y.regs) (plain e.world e.channels (three_times y.context) y.job (plain_call number) (args_of y.regs))).answer ≡ Refused NoFrame →
      (c : Name) × (piece : Piece) × (c.job ≡ y.context.job) × (length piece.bytes ≤ 4096) × (e.world.size.frames < used e.world + parting_count e.world c piece)
      × (IsSound e.world → used e.world + parting_count e.world c piece ≤ used (guest_calls number t (beside (more e.world) e.channels) y).environment.world)
  unfolding guest_calls
  full_call number true is full =
      let same : number ≡ LW_SYSCALL = eqb-true number LW_SYSCALL is in
      let found = full_syscall full in (
        (targets_of e.world y.context y.regs).memory,
        found.0,
        memory_own y.regs,
        found.1,
        found.2,
        λ sound. subst (λ (k : ℕ). used e.world + parting_count e.world (targets_of e.world y.context y.regs).memory found.0 ≤ used (guest_calls k t (beside (more e.world) e.channels) y).environment.world) (sym same) (found.3 sound),
      )
  full_call number false is full =
      let reads = (plain-reason e.world e.channels (three_times y.context) y.job (plain_call number) (args_of y.regs) full).0 in
      let four = number_of_read number reads in
      let found =
      full_plain (three_times y.context) (Some plain_calls.Read) (args_of y.regs) refl (ap (λ (k : Option PlainCall). (plain e.world e.channels (three_times y.context) y.job k (args_of y.regs)).answer) (sym reads) ∙ full) in (
        y.context,
        found.0,
        refl,
        found.1,
        found.2,
        λ sound. subst (λ (k : ℕ). used e.world + parting_count e.world y.context found.0 ≤ used (guest_calls k t (beside (more e.world) e.channels) y).environment.world) (sym four) (found.3 sound),
      )

  full_by : (i : Instr) (op : Op) → IsFull e y i op →
      (c : Name) × (piece : Piece) × (c.job ≡ y.context.job) × (length piece.bytes ≤ 4096) × (e.world.size.frames < used e.world + parting_count e.world c piece)
      × (IsSound e.world → used e.world + parting_count e.world c piece ≤ used (shared_outcome guest_calls t (beside (more e.world) e.channels) y i op).environment.world)
  unfolding shared_outcome
  full_by i Stb is =
      let piece : Piece = record { at = address y.regs i; bytes = slice_index y.regs.r i.rb % 256 ∷ [] } in
      (y.context, piece, refl, omega arith, (full_parts e.world y.context y.job piece is.1).few, λ sound. full_piece sound piece (omega arith) (omega arith) is)
  full_by i Stw is =
      let piece : Piece = record { at = address y.regs i; bytes = to_le_bytes w64 (slice_index y.regs.r i.rb) } in (
        y.context,
        piece,
        refl,
        omega arith,
        (full_parts e.world y.context y.job piece is.1.1).few,
        λ sound. (let most = full_piece sound piece (omega arith) (omega arith) is.1 in let aligned = ap (λ b. (cond b (store_outcome (beside (more e.world) e.channels) y piece) (kernel.unchanged (beside (more e.world) e.channels) (kernel.faulted y fault.BadStore))).environment.world) is.0 in
            omega (arith, most, ap used aligned)),
      )
  full_by i Sys is = full_call i.imm (eqb i.imm LW_SYSCALL) refl is
  full_by i _ is = absurd is

  pub full_act : (next : Next) → WantsFrames e y next → FullAct e y t next
  unfolding next_outcome
  full_act (Shared i) is =
      let found = full_by i i.op is in record { name = found.0; piece = found.1; own = found.2; short = found.3; full = found.4; done = found.5 }
  full_act Pause is = absurd is
  full_act BadPc is = absurd is
