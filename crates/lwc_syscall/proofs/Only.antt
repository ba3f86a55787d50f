-- What plain calls leave as it was.
use Rattle.std.proofs.Common.{◌≡◌, ◌≢◌, ◌⊎◌, inl, inr, ◌∙◌, ◌+◌, ℕ, Bool, true, false, List, [], ◌∷◌, Option, None, Some, ap, refl, length, subst, sym, arith}
use Rattle.std.proofs.lemmas.Bool.Decides.{nat_tests}
use Rattle.std.specs.Option.{option_map_or}
use Rattle.std.specs.Prelude.{◌==◌, ◌&&◌, if◌then◌else◌, is_none, map, nat_le, nat_lt, slice_index, unwrap_or}
use Rattle.guest_call.specs.Changes.{IsUntouched}
use Rattle.guest_call.specs.Guest.{descriptor_for}
use Rattle.lwc_base.specs.Cells.{put_at, put_page, put_slot, put_uid, uid_at, value_at, value_of}
use Rattle.lwc_base.specs.declared.cell.Cell.TheVariants.{Own, Common}
use Rattle.lwc_base.specs.Channels.{Channels}
use Rattle.lwc_base.specs.Clones.{AreApart}
use Rattle.lwc_base.specs.Facts.{ChangesContext}
use Rattle.lwc_base.specs.Frames.{is_parting}
use Rattle.lwc_base.specs.Keys.{ValueOf}
use Rattle.lwc_base.specs.Mapping.{mapped_or_not, with_zeros, without_pages}
use Rattle.lwc_base.specs.Memory.{bytes_for, touched}
use Rattle.lwc_base.specs.Refusals.{first_refusal}
use Rattle.lwc_base.specs.Slots.{lowest_empty}
use Rattle.lwc_base.specs.Store.{Piece, Stored, after_store, page_value_at, parting_count, stored_pages, put_pages, store}
use Rattle.lwc_base.specs.Store as stores
use Rattle.lwc_base.specs.World.{World, Context, change_counters, context, group, is_live}
use Rattle.lwc_base.specs.declared.descriptor.Descriptor.{Descriptor}
use Rattle.lwc_base.specs.declared.descriptor.Descriptor.TheVariants.{Empty, File}
use Rattle.lwc_types.specs.declared.counters.Counters.{Counters}
use Rattle.lwc_types.specs.declared.key.Key.{Key}
use Rattle.lwc_types.specs.declared.key.Key.TheVariants.{Page, Slot, Cred}
use Rattle.lwc_types.specs.declared.name.Name.{Name}
use Rattle.lwc_types.specs.declared.page.PageValue.{PageValue}
use Rattle.lwc_types.specs.declared.refusal.Refusal.{Refusal}
use Rattle.lwc_types.specs.declared.refusal.Refusal.TheVariants.{BadCall}
use Rattle.lwc_types.specs.declared.regs.Regs.{Regs}
use Rattle.lwc_types.specs.declared.right.Right.TheVariants.{Write}
use Rattle.lwc_syscall.proofs.Does.{ended-cases, stored-cases}
use Rattle.lwc_syscall.specs.Changes.{ChangesOnly, has_page, holder, in_range, is_lowest, may_change, read_pages}
use Rattle.lwc_syscall.specs.Plain.{Outcome, answering, becoming, close_refusals, closing, copy_refusals, copying, ended, is_absent, is_read_only, is_full, map_refusals, mapping, moved, open_refusals, opening, placed, plain, read_on, read_refusals, reading, store_at, uid_refusals, world_after, write_refusals, writing, written}
use Rattle.lwc_syscall.specs.Syscall.{inner_args, inner_call, lw_syscall, refusals, targets_of}
use Rattle.lwc_syscall.specs.declared.answer.CallAnswer.TheVariants.{Exit, Refused}
use Rattle.lwc_syscall.specs.declared.calls.CallContexts.{CallContexts}
use Rattle.lwc_syscall.specs.declared.plain_call.PlainCall.{PlainCall}
use Rattle.lwc_syscall.specs.declared.plain_call.PlainCall.TheVariants as calls
use Rattle.guest_call.proofs.Changes.{putting}
use Rattle.lwc_base.proofs.Common.{apart-put_at}
use Rattle.lwc_base.proofs.Facts.{changes}
use Rattle.lwc_types.proofs.Orders.{cases_name}

-- what is apart in one world is apart in another
abbrev KeepsApart : World → World → Type 0
KeepsApart w v = (a b : Name) (k : Key) → AreApart w a b k → AreApart v a b k

-- a change of some keys that keeps what is apart
record Leaves (w v : World) (targets : CallContexts) (keys : Key → Bool) : Type 0 where
  only : ChangesOnly w v targets keys
  apart : KeepsApart w v

-- each page of some values is one of the keys
abbrev PagesIn : (Key → Bool) → List ℕ → Type 0
PagesIn keys pages = (p : ℕ) → has_page pages p ≡ true → keys (Page p) ≡ true

module _ (w : World) (targets : CallContexts) (keys : Key → Bool) where
  same : Leaves w w targets keys
  same = record { only = record { values = λ e k out. refl; cells = λ e k out. refl; rights = λ e p out. refl; entries = λ e. refl; saved = λ e t. refl }; apart = λ a b k is. is }

  -- one more put under one of the keys
  put_on : (v : World) (q : Key) (value : ValueOf q) → keys q ≡ true → Leaves w v targets keys → Leaves w (put_at v (holder targets q) q value) targets keys
  put_on v q value is left =
      let put = putting v (holder targets q) q value in
      let out : (e : Name) (k : Key) → (keys k ≡ true → AreApart w (holder targets k) e k) → IsUntouched v (holder targets q) q e k =
      λ e k out same. left.apart (holder targets q) e k (subst (λ r. AreApart w (holder targets r) e k) same (out (subst (λ r. keys r ≡ true) (sym same) is))) in
      record {
        only = record {
          values = λ e k untouched. put.values e k (out e k untouched) ∙ left.only.values e k untouched;
          cells = λ e k untouched. put.cells e k (out e k untouched) ∙ left.only.cells e k untouched;
          rights = λ e p untouched. ap (λ f. f p) (put.rights e) ∙ left.only.rights e p untouched;
          entries = λ e. put.entries e ∙ left.only.entries e;
          saved = λ e t. put.saved e t ∙ left.only.saved e t;
        };
        apart = λ a b k is. apart-put_at v (holder targets q) q value a b k (left.apart a b k is);
      }

  -- pages of the memory's context that get new values
  pages_on : (v : World) (values : List (ℕ × PageValue)) → PagesIn keys (map (λ x. x.0) values) → Leaves w v targets keys → Leaves w (put_pages v targets.memory values) targets keys
  pages_on v [] named left = left
  pages_on v (x ∷ xs) named left =
      pages_on (put_page v targets.memory x.0 x.1) xs (λ p is. named p (grind arith)) (put_on v (Page x.0) (Some x.1) (named x.0 (grind (arith, nat_tests))) left)

  -- the pages that are stored are those that are touched
  put_so_far : (c : Name) (job : ℕ) (piece : Piece) (ps : List ℕ) (k : ℕ) → map (λ x. x.0) (stored_pages w c job piece k ps) ≡ ps
  put_so_far c job piece [] k = refl
  put_so_far c job piece (p ∷ ps) k = ap (λ qs. p ∷ qs) (put_so_far c job piece ps (if is_parting w (page_value_at w c p) then k + 1 else k))

  counters_on : (v : World) (job : ℕ) (f : Counters → Counters) → Leaves w v targets keys → Leaves w (change_counters v job f) targets keys
  unfolding change_counters value_at context group
  counters_on v job f left = record {
    only = record { values = left.only.values; cells = left.only.cells; rights = left.only.rights; entries = left.only.entries; saved = left.only.saved };
    apart = λ a b k is. let was = left.apart a b k is in record { differ = was.differ; no_group = was.no_group };
  }

  store_on : (job : ℕ) (piece : Piece) → PagesIn keys (touched piece.at (length piece.bytes)) → (v : World) → store w targets.memory job piece ≡ stores.Done v → Leaves w v targets keys
  unfolding store after_store
  store_on job piece named v is =
      let pages = touched piece.at (length piece.bytes) in
      let put = stored_pages w targets.memory job piece (w.next job).tags pages in
      let left = pages_on w put (subst (PagesIn keys) (sym (put_so_far targets.memory job piece pages (w.next job).tags)) named) same in
      let f = λ (n : Counters). record n { tags = n.tags + parting_count w targets.memory piece } in
      let done : v ≡ change_counters (put_pages w targets.memory put) job f = grind arith in
      subst (λ u. Leaves w u targets keys) (sym done) (counters_on (put_pages w targets.memory put) job f left)

  -- a context in which cells of pages of a range have changed
  record TurnsPages (from to : ℕ) (change : Context → Context) : Type 0 where
    cell : (x : Context) (k : Key) → ((p : ℕ) → k ≡ Page p → (nat_le from p && nat_lt p to) ≡ false) → (change x).cell k ≡ x.cell k
    right : (x : Context) (p : ℕ) → (nat_le from p && nat_lt p to) ≡ false → (change x).right p ≡ x.right p
    entry : (x : Context) → (change x).entry ≡ x.entry
    saved : (x : Context) (t : ℕ) → (change x).saved t ≡ x.saved t

  zeros_turn : (from to : ℕ) → TurnsPages from to (with_zeros from to)
  zeros_turn from to = record {
    cell = λ x k out. elim k as (λ k. ((p : ℕ) → k ≡ Page p → (nat_le from p && nat_lt p to) ≡ false) → (with_zeros from to x).cell k ≡ x.cell k) [
      | Page p ↦ λ out. let h = out p refl in grind arith
      | Slot n ↦ λ out. refl
      | Cred ↦ λ out. refl
    ] out;
    right = λ x p out. ap (λ b. if b then Write else x.right p) out;
    entry = λ x. refl;
    saved = λ x t. refl;
  }

  absent_turn : (from to : ℕ) → TurnsPages from to (without_pages from to)
  absent_turn from to = record {
    cell = λ x k out. elim k as (λ k. ((p : ℕ) → k ≡ Page p → (nat_le from p && nat_lt p to) ≡ false) → (without_pages from to x).cell k ≡ x.cell k) [
      | Page p ↦ λ out. let h = out p refl in grind arith
      | Slot n ↦ λ out. refl
      | Cred ↦ λ out. refl
    ] out;
    right = λ x p out. ap (λ b. if b then Write else x.right p) out;
    entry = λ x. refl;
    saved = λ x t. refl;
  }

  module _ (from to : ℕ) (change : Context → Context) (v : World) (turns : TurnsPages from to change) (changed : ChangesContext w targets.memory change v)
      (within : (p : ℕ) → nat_le from p && nat_lt p to ≡ true → keys (Page p) ≡ true) where
    -- what the change leaves of a context, it leaves of each
    each : {X : Type 0} (part : Context → X) (e : Name) → (e ≡ targets.memory → (x : Context) → part (change x) ≡ part x) → part (context v e) ≡ part (context w e)
    each part e left =
        cases_name e targets.memory
        (λ is. elim (is_live w targets.memory) as (λ b. is_live w targets.memory ≡ b → part (context v e) ≡ part (context w e)) [
          | true ↦ λ live. let h = changed.changed live in let l = left is (context w targets.memory) in grind arith
          | false ↦ λ dead. let h = changed.same dead in grind arith
        ] refl)
        (λ other. ap part (changed.others e other))

    -- a key that is left in the memory's context is no page of the range
    outside : (e : Name) (k : Key) → (keys k ≡ true → AreApart w (holder targets k) e k) → e ≡ targets.memory → (p : ℕ) → k ≡ Page p → (nat_le from p && nat_lt p to) ≡ false
    outside e k out is p at =
        elim (nat_le from p && nat_lt p to) as (λ b. (nat_le from p && nat_lt p to) ≡ b → b ≡ false) [
          | false ↦ λ none. refl
          | true ↦ λ some.
              let apart = out (subst (λ r. keys r ≡ true) (sym at) (within p some)) in
              absurd ((subst (λ r. AreApart w (holder targets r) e r) at apart).differ (sym is))
        ] refl

    cells_on : (e : Name) (k : Key) → (keys k ≡ true → AreApart w (holder targets k) e k) → (context v e).cell k ≡ (context w e).cell k
    cells_on e k out = each (λ x. x.cell k) e (λ is x. turns.cell x k (outside e k out is))

    values_on : (e : Name) (k : Key) → (keys k ≡ true → AreApart w (holder targets k) e k) → value_at v e k ≡ value_at w e k
    unfolding value_at
    values_on e k out = let c = cells_on e k out in elim ((context w e).cell k) as (λ cell. (context w e).cell k ≡ cell → value_of v k ((context v e).cell k) ≡ value_of w k ((context w e).cell k)) [
      | Own value ↦ λ is. grind arith
      | Common g ↦ λ is. let h = changed.groups g in grind arith
    ] refl

    unnamed : (e : Name) (p : ℕ) → (keys (Page p) ≡ true → e ≢ targets.memory) → e ≡ targets.memory → (nat_le from p && nat_lt p to) ≡ false
    unnamed e p out is =
        elim (nat_le from p && nat_lt p to) as (λ b. (nat_le from p && nat_lt p to) ≡ b → b ≡ false) [
          | false ↦ λ none. refl
          | true ↦ λ some. absurd (out (within p some) is)
        ] refl

    mapped_on : ChangesOnly w v targets keys
    mapped_on = record { values = values_on; cells = cells_on; rights = λ e p out. each (λ x. x.right p) e (λ is x. turns.right x p (unnamed e p out is)); entries = λ e. each (λ x. x.entry) e (λ is. turns.entry); saved = λ e t. each (λ x. x.saved t) e (λ is x. turns.saved x t) }

module _ (w : World) (io : Channels) (targets : CallContexts) (job : ℕ) (args : List ℕ) where
  abbrev keys : Option PlainCall → Key → Bool
  keys call = may_change w io targets call args

  abbrev arg : ℕ → ℕ
  arg = slice_index args

  abbrev Only : Option PlainCall → Outcome → Type 0
  Only call o = ChangesOnly w o.world targets (keys call)

  none : (call : Option PlainCall) → ChangesOnly w w targets (keys call)
  none call = (same w targets (keys call)).only

  slot_on : (call : Option PlainCall) (n : ℕ) (value : Descriptor) → keys call (Slot n) ≡ true → ChangesOnly w (put_slot w targets.slots n value) targets (keys call)
  slot_on call n value is = (put_on w targets (keys call) w (Slot n) value is (same w targets (keys call))).only

  named-itself : (n : ℕ) → (n == n) ≡ true
  named-itself n = grind (arith, nat_tests)

  closing_only : Only (Some calls.Close) (closing w io targets.slots (arg 0))
  unfolding may_change
  closing_only =
      ended-cases (Only (Some calls.Close)) w io (close_refusals w targets.slots (arg 0)) (answering 0 (put_slot w targets.slots (arg 0) Empty) io) (λ _. none (Some calls.Close))
      (λ passed. slot_on (Some calls.Close) (arg 0) Empty (named-itself (arg 0)))

  lowest-itself : (lowest : Option ℕ) → is_none lowest ≡ false → option_map_or (λ m. m == unwrap_or lowest 0) lowest false ≡ true
  lowest-itself None some = absurd cc
  lowest-itself (Some n) some = named-itself n

  placed_only : (call : Option PlainCall) (value : Descriptor) (rows : List (Bool × Refusal)) → ((n : ℕ) → is_lowest w targets.slots n ≡ true → keys call (Slot n) ≡ true) →
      (first_refusal rows ≡ None → is_none (lowest_empty w targets.slots) ≡ false) → Only call (ended w io rows (placed w io targets.slots value))
  placed_only call value rows fills some =
      ended-cases (Only call) w io rows (placed w io targets.slots value) (λ _. none call)
      (λ passed. let n = unwrap_or (lowest_empty w targets.slots) 0 in slot_on call n value (fills n (lowest-itself (lowest_empty w targets.slots) (some passed))))

  uid_only : (uid : ℕ) → Only (Some calls.SetUid) (becoming w io targets.cred uid)
  unfolding may_change
  uid_only uid =
      ended-cases (Only (Some calls.SetUid)) w io (uid_refusals w targets.cred uid) (answering 0 (put_uid w targets.cred uid) io) (λ _. none (Some calls.SetUid))
      (λ passed. (put_on w targets (keys (Some calls.SetUid)) w Cred uid refl (same w targets (keys (Some calls.SetUid)))).only)

  mapping_only : (call : Option PlainCall) (present : Bool) → ((p : ℕ) → in_range args p ≡ true → keys call (Page p) ≡ true) → Only call (mapping w io targets.memory (arg 0) (arg 1) present)
  mapping_only call present within =
      ended-cases (Only call) w io (map_refusals w targets.memory (arg 0) (arg 1) present) (answering 0 (mapped_or_not w targets.memory (arg 0) (arg 1) present) io) (λ _. none call)
      (λ passed. elim present as (λ b. ChangesOnly w (mapped_or_not w targets.memory (arg 0) (arg 1) b) targets (keys call)) [
        | true ↦ mapped_on w targets (keys call) (arg 0) (arg 1) _ _ (zeros_turn w targets (keys call) (arg 0) (arg 1)) (changes.mapped w targets.memory (arg 0) (arg 1)) within
        | false ↦ mapped_on w targets (keys call) (arg 0) (arg 1) _ _ (absent_turn w targets (keys call) (arg 0) (arg 1)) (changes.unmapped w targets.memory (arg 0) (arg 1)) within
      ])

  writing_only : (n at count : ℕ) → Only (Some calls.Write) (writing w io targets n at count)
  unfolding writing
  writing_only n at count =
      let value = descriptor_for w targets.slots n in
      let bytes = bytes_for w targets.memory at count in
      let same_world = none (Some calls.Write) in
      ended-cases (Only (Some calls.Write)) w io (write_refusals io value count bytes) (answering count w (written io value (unwrap_or bytes []))) (λ _. same_world) (λ _. same_world)

  abbrev read_keys : Key → Bool
  read_keys = keys (Some calls.Read)

  pages_in : (p : ℕ) → has_page (read_pages w io targets args) p ≡ true → read_keys (Page p) ≡ true
  unfolding may_change
  pages_in p within = within

  slot_in : read_keys (Slot (arg 0)) ≡ true
  unfolding may_change
  slot_in = named-itself (arg 0)

  done_only : (stored : Stored) (piece : Piece) (value : Descriptor) → is_absent stored ≡ false → is_read_only stored ≡ false → is_full stored ≡ false →
      (stored ≡ stores.Done w) ⊎ ((stored ≡ stores.Absent) ⊎ (stored ≡ store w targets.memory job piece)) → PagesIn read_keys (touched piece.at (length piece.bytes)) →
      ChangesOnly w (put_slot (world_after w stored) targets.slots (arg 0) value) targets read_keys
  done_only stores.Absent piece value there writable room by pages = absurd (grind arith)
  done_only stores.ReadOnly piece value there writable room by pages = absurd (grind arith)
  done_only stores.Full piece value there writable room by pages = absurd (grind arith)
  done_only (stores.Done v) piece value there writable room (inl is) pages =
      let one : w ≡ v = grind arith in subst (λ (u : World). ChangesOnly w (put_slot u targets.slots (arg 0) value) targets read_keys) one (slot_on (Some calls.Read) (arg 0) value slot_in)
  done_only (stores.Done v) piece value there writable room (inr (inl is)) pages = absurd (grind arith)
  done_only (stores.Done v) piece value there writable room (inr (inr is)) pages =
      (put_on w targets read_keys v (Slot (arg 0)) value slot_in (store_on w targets read_keys job piece pages v (sym is))).only

  reading_only : Only (Some calls.Read) (reading w io targets job (arg 0) (arg 1) (arg 2))
  unfolding reading
  reading_only =
      let value = descriptor_for w targets.slots (arg 0) in
      let bytes = moved io value (arg 2) in
      let stored = store_at w targets.memory job (arg 1) bytes in
      ended-cases (Only (Some calls.Read)) w io (read_refusals io value (arg 2) stored)
      (answering (length bytes) (put_slot (world_after w stored) targets.slots (arg 0) (read_on (length bytes) value)) io) (λ _. none (Some calls.Read))
      (λ passed. done_only stored (record { at = arg 1; bytes = bytes }) (read_on (length bytes) value) (grind arith) (grind arith) (grind arith) (stored-cases w targets.memory job (arg 1) bytes) pages_in)

  pub plain_only : (call : Option PlainCall) → Only call (plain w io targets job call args)
  unfolding plain may_change
  plain_only None = none None
  plain_only (Some calls.Open) = placed_only (Some calls.Open) (File (arg 0) 0) (open_refusals w io targets (arg 0)) (λ n is. is) (λ passed. grind arith)
  plain_only (Some calls.Close) = closing_only
  plain_only (Some calls.Dup) = placed_only (Some calls.Dup) (descriptor_for w targets.slots (arg 0)) (copy_refusals w targets.slots (arg 0)) (λ n is. is) (λ passed. grind arith)
  plain_only (Some calls.Read) = reading_only
  plain_only (Some calls.Write) = writing_only (arg 0) (arg 1) (arg 2)
  plain_only (Some calls.Map) = mapping_only (Some calls.Map) true (λ p is. is)
  plain_only (Some calls.Unmap) = mapping_only (Some calls.Unmap) false (λ p is. is)
  plain_only (Some calls.GetUid) = none (Some calls.GetUid)
  plain_only (Some calls.SetUid) = uid_only (arg 0)
  plain_only (Some calls.Exit) = none (Some calls.Exit)

pub syscall_only : (w : World) (io : Channels) (c : Name) (job : ℕ) (regs : Regs) →
    ChangesOnly w (lw_syscall w io c job regs).world (targets_of w c regs) (may_change w io (targets_of w c regs) (inner_call regs) (inner_args regs))
unfolding lw_syscall
syscall_only w io c job regs =
    ended-cases (λ o. ChangesOnly w o.world (targets_of w c regs) (may_change w io (targets_of w c regs) (inner_call regs) (inner_args regs))) w io (refusals w c regs)
    (plain w io (targets_of w c regs) job (inner_call regs) (inner_args regs)) (λ _. none w io (targets_of w c regs) job (inner_args regs) (inner_call regs))
    (λ _. plain_only w io (targets_of w c regs) job (inner_args regs) (inner_call regs))
