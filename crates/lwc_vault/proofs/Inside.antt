-- A step of a thread in the vault, where that is hidden: what it does is known by what it hands out.
use Rattle.std.proofs.Common.{◌≡◌, ℕ, length, ◌%◌, ◌*◌, ◌+◌, ◌-◌, refl, sym, ap, subst, ◌∙◌, Bool, true, false, cond, eqb, ◌&&◌, Option, Some, None, List, [], ◌∷◌, ◌++◌}
use Rattle.std.specs.Prelude.{nat_lt, nat_le, count_by, is_none, not, slice_get, slice_index, unwrap_or}
use Rattle.std.specs.Int.{w64, to_le_bytes}
use Rattle.std.specs.Option.{option_map}
use Rattle.std.proofs.lemmas.Bool.{eqb-true}
use Rattle.std.proofs.lemmas.Option.{slice_get-map}
use Rattle.guest_call.specs.Guest.{link_of, descriptor_for, slot_refusals, with_answer}
use Rattle.guest_isa.specs.declared.instr.Instr.{Instr}
use Rattle.guest_isa.specs.declared.op.Op.{Op}
use Rattle.guest_isa.specs.declared.op.Op.TheVariants.{Ldb, Ldw, Stb, Stw, Sys}
use Rattle.guest_machine.specs.Advances.{advanced}
use Rattle.guest_machine.specs.declared.progress.Next.{Next}
use Rattle.guest_machine.specs.declared.progress.Next.TheVariants as next
use Rattle.kernel_core.specs.Machine.{Environment, Machine, has_ended}
use Rattle.kernel_core.specs.Start.{vault_name}
use Rattle.kernel_core.specs.Step.{three_times, beside, stored_outcome, store_outcome, next_instruction, is_aligned, faulted, Outcome, address, advance_outcome, after_outcome, after_thread, byte_for, counted, ended_outcome, guest_calls, loaded, next_outcome, only, plainly, refused, shared_outcome, status_with, step, step_by, switched, thread_outcome, unchanged, with_regs, with_result, with_status, with_world, word_for}
use Rattle.kernel_core.specs.declared.calling.TheConstants.{LW_SWITCH}
use Rattle.kernel_core.specs.declared.thread.Thread.{Thread}
use Rattle.kernel_core.proofs.Others.{found_set}
use Rattle.lwc_base.specs.Capabilities.{empty_cap}
use Rattle.lwc_base.specs.Cells.{uid_at, put_slot, put_uid}
use Rattle.lwc_base.specs.Frames.{is_parting, used}
use Rattle.lwc_base.specs.Mapping.{mapped_or_not}
use Rattle.lwc_base.specs.Memory.{bytes_for, is_present, touched}
use Rattle.lwc_base.specs.Rights.{is_writable}
use Rattle.lwc_base.specs.Store.{Absent, Done, Full, Piece, ReadOnly, after_store, page_value_at, parting_count, store}
use Rattle.lwc_base.specs.declared.cell.Cell.{Cell}
use Rattle.lwc_base.specs.declared.cell.Cell.TheVariants.{Own, Common}
use Rattle.lwc_base.specs.Refusals.{first_refusal}
use Rattle.lwc_base.specs.Saved.{entered}
use Rattle.lwc_base.specs.Slots.{lowest_empty}
use Rattle.lwc_base.specs.World.{World, context}
use Rattle.lwc_base.specs.declared.answer.Moved.{Moved}
use Rattle.lwc_base.specs.declared.descriptor.Descriptor.{Descriptor}
use Rattle.lwc_base.specs.declared.descriptor.Descriptor.TheVariants.{Ctx, Empty, File}
use Rattle.lwc_types.specs.declared.fault.Fault.{Fault}
use Rattle.lwc_types.specs.declared.fault.Fault.TheVariants as fault
use Rattle.lwc_types.specs.declared.key.Key.TheVariants.{Page}
use Rattle.lwc_types.specs.declared.page.PageValue.{PageValue}
use Rattle.lwc_types.specs.declared.page.TheConstants.{PAGE_BYTES}
use Rattle.lwc_types.specs.Registers.{fresh_registers}
use Rattle.lwc_types.specs.declared.fault.ThreadStatus.{ThreadStatus}
use Rattle.lwc_types.specs.declared.fault.ThreadStatus.TheVariants as status
use Rattle.lwc_types.specs.declared.name.Name.{Name}
use Rattle.lwc_types.specs.declared.refusal.Refusal.{Refusal}
use Rattle.lwc_types.specs.declared.refusal.Refusal.TheVariants.{NoSlotThere}
use Rattle.lwc_types.specs.declared.regs.Regs.{Regs}
use Rattle.lwc_types.proofs.Orders.{same_name}
use Rattle.lwc_switch.specs.Switch as switching
use Rattle.lwc_syscall.specs.Plain as plain
use Rattle.lwc_syscall.specs.Plain.{plain_call}
use Rattle.lwc_syscall.specs.declared.calls.CallContexts.{CallContexts}
use Rattle.lwc_syscall.specs.declared.plain_call.PlainCall.{PlainCall}
use Rattle.lwc_syscall.specs.declared.plain_call.PlainCall.TheVariants as calls
use Rattle.confinement.specs.May.{regs_at}
use Rattle.lwc_vault.proofs.Hiding.{after-hide, cover-inside, hide, hide_threads, step-outside}
use Rattle.lwc_vault.proofs.Stores.{parted, store-hide, stored_as}
use Rattle.lwc_vault.proofs.Stepping.{blank_env, blank_out, cover}
use Rattle.lwc_vault.specs.Blanks.{ActsOutside}
use Rattle.lwc_vault.specs.Told.{Parts, Writes, Told, Outside, Nothing, Makes, Leaves, Other, IsPlain, stands_inside, told, told_by, told_by_call, told_by_cell, told_by_pages, told_by_next, told_by_op, told_by_plain}
use Rattle.world_views.proofs.BlankChanges.{blanks-alike}
use Rattle.world_views.proofs.BlankPlainly.{becoming-blank, closing-blank, copying-blank, mapping-blank, opening-blank}
use Rattle.world_views.specs.Outside.{blank_outcome}
use Rattle.world_views.proofs.BlankNamed.{descriptor-blank, slot_refusals-blank}
use Rattle.world_views.specs.Blank.{blank, tells_registers}

-- where a switch from the vault leads by a slot
abbrev aim : World → ℕ → Name
aim w n = unwrap_or (option_map (λ link. link.0) (link_of (descriptor_for w vault_name n))) vault_name

-- why it is refused, where it leads to this context
abbrev rows : World → ℕ → Name → List (Bool × Refusal)
rows w n d = slot_refusals w vault_name n ++ (is_none (lowest_empty w d), NoSlotThere) ∷ []

-- a hidden thread that leaves the vault
abbrev gone : Environment → ℕ → Thread → Name → ℕ → ℕ → Thread
gone e t x d slot a = cover false (record x { context = d; regs = switching.arriving (entered (context e.world d) t) slot a })

-- what a switch from the vault does, hidden
abbrev leaving : Environment → ℕ → Thread → Name → ℕ → ℕ → Option Refusal → Outcome
leaving e t x d slot a (Some refusal) = unchanged e x
leaving e t x d slot a None = record { thread = gone e t x d slot a; environment = with_world e (put_slot e.world d slot (Ctx vault_name empty_cap)) }

-- what a plain call of the vault does, hidden
abbrev making : Environment → Thread → plain.Outcome → Outcome
making e x ended = unchanged (beside ended.world ended.io) x

-- what a write from the vault does, hidden
abbrev writing : Environment → Thread → ℕ → ℕ → Option (List ℕ) → Option Refusal → Outcome
writing e x n count bytes (Some refusal) = unchanged e x
writing e x n count bytes None = unchanged (beside e.world (plain.written e.channels (descriptor_for e.world vault_name n) (unwrap_or bytes []))) x

-- what a step in the vault does, hidden, by what it hands out
abbrev done : Told → ℕ → Environment → Thread → Outcome
done (Leaves n a) t e x =
    leaving e t x (aim e.world n) (unwrap_or (lowest_empty e.world (aim e.world n)) 0) a (first_refusal (rows e.world n (aim e.world n)))
done (Parts p) t e x = unchanged (with_world e (parted e.world x.job p)) x
done (Writes n count bytes) t e x = writing e x n count bytes (first_refusal (plain.write_refusals e.channels (descriptor_for e.world vault_name n) count bytes))
done (Makes call args) t e x = making e x (plain.plain e.world e.channels (three_times vault_name) x.job (Some call) args)
done _ t e x = unchanged e x

-- the number of each plain call that is told of
abbrev number_of : PlainCall → ℕ
number_of calls.Open = 1
number_of calls.Close = 2
number_of calls.Dup = 3
number_of calls.Read = 4
number_of calls.Write = 5
number_of calls.Map = 6
number_of calls.Unmap = 7
number_of calls.GetUid = 8
number_of calls.SetUid = 9
number_of calls.Exit = 10

numbers : (number : ℕ) (c : PlainCall) → plain_call number ≡ Some c → number ≡ number_of c
numbers number c =
    pick 1 calls.Open _ refl (pick 2 calls.Close _ refl (pick 3 calls.Dup _ refl (pick 4 calls.Read _ refl (pick 5 calls.Write _ refl (pick 6 calls.Map _ refl
    (pick 7 calls.Unmap _ refl (pick 8 calls.GetUid _ refl (pick 9 calls.SetUid _ refl (pick 10 calls.Exit _ refl (λ is. cc))))))))))
  where
    pick : (k : ℕ) (a : PlainCall) (rest : Option PlainCall) → number_of a ≡ k → (rest ≡ Some c → number ≡ number_of c) → cond (eqb number k) (Some a) rest ≡ Some c → number ≡ number_of c
    pick k a rest of later is = by (eqb number k) refl is
      where
        by : (b : Bool) → eqb number k ≡ b → cond b (Some a) rest ≡ Some c → number ≡ number_of c
        by true same is = let one : a ≡ c = cc in eqb-true number k same ∙ sym of ∙ ap number_of one
        by false other is = later is

module _ (t : ℕ) (e : Environment) (x : Thread) (inside : stands_inside x ≡ true) where
  abbrev w : World
  w = e.world

  covers : (regs : Regs) → cover false (with_regs x regs) ≡ cover false x
  covers = cover-inside x inside

  -- a thread that stands in the vault, by its place
  here : x.context ≡ vault_name
  here = same_name x.context vault_name inside

  -- it leaves
  module _ (d : Name) (slot a : ℕ) (regs : Regs) where
    abbrev after : World
    after = switching.left w vault_name t regs

    -- what is kept for it there does not show
    forgets : blank false vault_name after ≡ blank false vault_name w
    forgets = (blanks-alike false vault_name w).forgets t (with_answer regs 0) refl

    arrives : cover false (record x { context = d; regs = switching.arriving (entered (context after d) t) slot a }) ≡ gone (blank_env false e) t (cover false x) d slot a
    arrives = ap (λ r. record x { context = d; regs = r }) (by (tells_registers false vault_name d) refl)
      where
        by : (b : Bool) → tells_registers false vault_name d ≡ b → cond b (switching.arriving (entered (context after d) t) slot a) (fresh_registers 0)
            ≡ cond b (switching.arriving (entered (context (blank false vault_name w) d) t) slot a) (fresh_registers 0)
        by true is = ap (λ r. switching.arriving r slot a) (sym ((blanks-alike false vault_name after).enters d t is) ∙ ap (λ u. entered (context u d) t) forgets)
        by false is = refl

    puts : blank false vault_name (put_slot after d slot (Ctx vault_name empty_cap)) ≡ put_slot (blank false vault_name w) d slot (Ctx vault_name empty_cap)
    puts = sym ((blanks-alike false vault_name after).put_slot d slot (Ctx vault_name empty_cap)) ∙ ap (λ u. put_slot u d slot (Ctx vault_name empty_cap)) forgets

  abbrev outcome_of : Moved × World → Outcome
  outcome_of r = unchanged (with_world e r.1) (switched x r.0)

  leaves_by : (d : Name) (slot : ℕ) (regs : Regs) (first : Option Refusal) →
      blank_out false (outcome_of (switching.ended w vault_name t regs d slot first)) ≡ leaving (blank_env false e) t (cover false x) d slot (slice_index regs.r 2) first
  leaves_by d slot regs (Some refusal) = λ i. record { thread = covers (refused x refusal).regs i; environment = blank_env false e }
  leaves_by d slot regs None = λ i. record {
    thread = arrives d slot (slice_index regs.r 2) regs i;
    environment = with_world (blank_env false e) (puts d slot (slice_index regs.r 2) regs i);
  }

  -- what decides is the same where the vault is hidden
  leaves_alike : (n a : ℕ) → leaving (blank_env false e) t (cover false x) (aim w n) (unwrap_or (lowest_empty w (aim w n)) 0) a (first_refusal (rows w n (aim w n)))
      ≡ done (Leaves n a) t (blank_env false e) (cover false x)
  leaves_alike n a =
      (λ i. leaving (blank_env false e) t (cover false x) (aim w n) (unwrap_or (lowests (aim w n) i) 0) a
      (first_refusal (sym (slot_refusals-blank false vault_name w vault_name n) i ++ (is_none (lowests (aim w n) i), NoSlotThere) ∷ [])))
      ∙ ap (λ d. leaving (blank_env false e) t (cover false x) d (unwrap_or (lowest_empty (blank false vault_name w) d) 0) a (first_refusal (rows (blank false vault_name w) n d))) (sym aims)
    where
      lowests : (d : Name) → lowest_empty w d ≡ lowest_empty (blank false vault_name w) d
      lowests d = sym ((blanks-alike false vault_name w).lowest d)

      aims : aim (blank false vault_name w) n ≡ aim w n
      aims = ap (λ (d : Descriptor). unwrap_or (option_map (λ link. link.0) (link_of d)) vault_name) (descriptor-blank false vault_name w vault_name n)

  leaves : blank_out false (outcome_of (switching.switch w x.context t x.regs)) ≡ done (Leaves (slice_index x.regs.r 1) (slice_index x.regs.r 2)) t (blank_env false e) (cover false x)
  unfolding switching.switch switching.target switching.refusals
  leaves =
      ap (λ c. blank_out false (outcome_of (switching.switch w c t x.regs))) here
      ∙ leaves_by (aim w (slice_index x.regs.r 1)) (unwrap_or (lowest_empty w (aim w (slice_index x.regs.r 1))) 0) x.regs (first_refusal (rows w (slice_index x.regs.r 1) (aim w (slice_index x.regs.r 1))))
      ∙ leaves_alike (slice_index x.regs.r 1) (slice_index x.regs.r 2)

  leaves_so : blank_out false (guest_calls LW_SWITCH t e x) ≡ done (Leaves (slice_index x.regs.r 1) (slice_index x.regs.r 2)) t (blank_env false e) (cover false x)
  unfolding guest_calls
  leaves_so = leaves

  -- a plain call that gives a value, or is refused
  abbrev ending : ℕ → World → Option Refusal → plain.Outcome
  ending value then first = plain.refused_or w e.channels (plain.answering value then e.channels) first

  covers_ended : (value : ℕ) (then : World) (first : Option Refusal) → cover false (plainly x (ending value then first).answer) ≡ cover false x
  covers_ended value then (Some refusal) = covers (refused x refusal).regs
  covers_ended value then None = covers (with_result x.regs 0 value)

  makes : (value : ℕ) (then : World) (first : Option Refusal) (hidden : plain.Outcome) → hidden ≡ blank_outcome false vault_name (ending value then first) →
      blank_out false (ended_outcome x (ending value then first)) ≡ making (blank_env false e) (cover false x) hidden
  makes value then first hidden is = λ i. record {
    thread = covers_ended value then first i;
    environment = beside (sym is i).world (sym is i).io;
  }

  abbrev three : CallContexts
  three = three_times vault_name

  abbrev first_arg : ℕ
  first_arg = slice_index x.regs.r 1

  abbrev second_arg : ℕ
  second_arg = slice_index x.regs.r 2

  abbrev MakesIt : PlainCall → Type 0
  MakesIt call = blank_out false (guest_calls (number_of call) t e x) ≡ done (told_by_plain w x.regs (Some call)) t (blank_env false e) (cover false x)

  opens : MakesIt calls.Open
  unfolding guest_calls plain.plain
  opens =
      ap (λ c. blank_out false (ended_outcome x (plain.opening w e.channels (three_times c) first_arg))) here
      ∙ makes (unwrap_or (lowest_empty w vault_name) 0) (put_slot w vault_name (unwrap_or (lowest_empty w vault_name) 0) (File first_arg 0))
      (first_refusal (plain.open_refusals w e.channels three first_arg)) _ (opening-blank false vault_name w e.channels three first_arg)

  closes : MakesIt calls.Close
  unfolding guest_calls plain.plain
  closes =
      ap (λ c. blank_out false (ended_outcome x (plain.closing w e.channels c first_arg))) here
      ∙ makes 0 (put_slot w vault_name first_arg Empty) (first_refusal (plain.close_refusals w vault_name first_arg)) _ (closing-blank false vault_name w e.channels three first_arg)

  copies : MakesIt calls.Dup
  unfolding guest_calls plain.plain
  copies =
      ap (λ c. blank_out false (ended_outcome x (plain.copying w e.channels c first_arg))) here
      ∙ makes (unwrap_or (lowest_empty w vault_name) 0) (put_slot w vault_name (unwrap_or (lowest_empty w vault_name) 0) (descriptor_for w vault_name first_arg))
      (first_refusal (plain.copy_refusals w vault_name first_arg)) _ (copying-blank false vault_name w e.channels three first_arg)

  becomes : MakesIt calls.SetUid
  unfolding guest_calls plain.plain
  becomes =
      ap (λ c. blank_out false (ended_outcome x (plain.becoming w e.channels c first_arg))) here
      ∙ makes 0 (put_uid w vault_name first_arg) (first_refusal (plain.uid_refusals w vault_name first_arg)) _ (becoming-blank false vault_name w e.channels three first_arg)

  maps : MakesIt calls.Map
  unfolding guest_calls plain.plain
  maps =
      ap (λ c. blank_out false (ended_outcome x (plain.mapping w e.channels c first_arg second_arg true))) here
      ∙ makes 0 (mapped_or_not w vault_name first_arg second_arg true) (first_refusal (plain.map_refusals w vault_name first_arg second_arg true)) _
      (mapping-blank false vault_name w e.channels three first_arg second_arg true)

  unmaps : MakesIt calls.Unmap
  unfolding guest_calls plain.plain
  unmaps =
      ap (λ c. blank_out false (ended_outcome x (plain.mapping w e.channels c first_arg second_arg false))) here
      ∙ makes 0 (mapped_or_not w vault_name first_arg second_arg false) (first_refusal (plain.map_refusals w vault_name first_arg second_arg false)) _
      (mapping-blank false vault_name w e.channels three first_arg second_arg false)

  -- it writes
  writes_by : (n count : ℕ) (bytes : Option (List ℕ)) (first : Option Refusal) →
      blank_out false (ended_outcome x (plain.refused_or w e.channels (plain.answering count w (plain.written e.channels (descriptor_for w vault_name n) (unwrap_or bytes []))) first))
      ≡ writing (blank_env false e) (cover false x) n count bytes first
  writes_by n count bytes (Some refusal) = λ i. record { thread = covers (refused x refusal).regs i; environment = blank_env false e }
  writes_by n count bytes None = λ i. record {
    thread = covers (with_result x.regs 0 count) i;
    environment = beside (blank false vault_name w) (plain.written e.channels (sym (descriptor-blank false vault_name w vault_name n) i) (unwrap_or bytes []));
  }

  write : blank_out false (guest_calls 5 t e x) ≡ done (Writes (slice_index x.regs.r 1) (slice_index x.regs.r 3) (bytes_for w vault_name (slice_index x.regs.r 2) (slice_index x.regs.r 3))) t (blank_env false e) (cover false x)
  unfolding guest_calls plain.plain plain.writing
  write =
      let n = slice_index x.regs.r 1 in
      let count = slice_index x.regs.r 3 in
      let bytes = bytes_for w vault_name (slice_index x.regs.r 2) count in
      ap (λ c. blank_out false (ended_outcome x (plain.writing w e.channels (three_times c) n (slice_index x.regs.r 2) count))) here
      ∙ writes_by n count bytes (first_refusal (plain.write_refusals e.channels (descriptor_for w vault_name n) count bytes))
      ∙ (λ i. writing (blank_env false e) (cover false x) n count bytes (first_refusal (plain.write_refusals e.channels (sym (descriptor-blank false vault_name w vault_name n) i) count bytes)))

  -- it asks for its uid
  asks : blank_out false (guest_calls 8 t e x) ≡ unchanged (blank_env false e) (cover false x)
  unfolding guest_calls plain.plain
  asks = λ i. record { thread = covers (with_result x.regs 0 (uid_at w x.context)) i; environment = blank_env false e }

  call-inside : (number : ℕ) → IsPlain (told_by_call w x.regs number) → blank_out false (guest_calls number t e x) ≡ done (told_by_call w x.regs number) t (blank_env false e) (cover false x)
  call-inside number plainly = by (eqb number LW_SWITCH) refl plainly
    where
      -- a plain call that is told of, by its number
      by_number : (c : PlainCall) → plain_call number ≡ Some c → MakesIt c → blank_out false (guest_calls number t e x) ≡ done (told_by_plain w x.regs (Some c)) t (blank_env false e) (cover false x)
      by_number c is made = subst (λ k. blank_out false (guest_calls k t e x) ≡ done (told_by_plain w x.regs (Some c)) t (blank_env false e) (cover false x)) (sym (numbers number c is)) made

      by_plain : (c : Option PlainCall) → plain_call number ≡ c → IsPlain (told_by_plain w x.regs c) → blank_out false (guest_calls number t e x) ≡ done (told_by_plain w x.regs c) t (blank_env false e) (cover false x)
      by_plain (Some calls.Open) is some = by_number calls.Open is opens
      by_plain (Some calls.Close) is some = by_number calls.Close is closes
      by_plain (Some calls.Dup) is some = by_number calls.Dup is copies
      by_plain (Some calls.Read) is some = absurd some
      by_plain (Some calls.Write) is some = by_number calls.Write is write
      by_plain (Some calls.Map) is some = by_number calls.Map is maps
      by_plain (Some calls.Unmap) is some = by_number calls.Unmap is unmaps
      by_plain (Some calls.GetUid) is some = by_number calls.GetUid is asks
      by_plain (Some calls.SetUid) is some = by_number calls.SetUid is becomes
      by_plain (Some calls.Exit) is some = absurd some
      by_plain None is some = absurd some

      by : (b : Bool) → eqb number LW_SWITCH ≡ b → IsPlain (cond b (Leaves (slice_index x.regs.r 1) (slice_index x.regs.r 2)) (told_by_plain w x.regs (plain_call number))) →
          blank_out false (guest_calls number t e x) ≡ done (cond b (Leaves (slice_index x.regs.r 1) (slice_index x.regs.r 2)) (told_by_plain w x.regs (plain_call number))) t (blank_env false e) (cover false x)
      by true is some = subst (λ k. blank_out false (guest_calls k t e x) ≡ done (Leaves (slice_index x.regs.r 1) (slice_index x.regs.r 2)) t (blank_env false e) (cover false x)) (sym (eqb-true number LW_SWITCH is)) leaves_so
      by false is some = by_plain (plain_call number) refl some

  -- whether it has ended in the vault, with this number of steps left
  module _ (left : ℕ) where
    abbrev ends : Outcome → Bool
    ends o = stands_inside o.thread && has_ended (status_with left o.thread.status)

    load-inside : (d : ℕ) (o : Option ℕ) → ends (unchanged e (loaded x d o)) ≡ false → blank_out false (unchanged e (loaded x d o)) ≡ unchanged (blank_env false e) (cover false x)
    load-inside d None lives = let no : true ≡ false = sym (ap (λ b. b && true) inside) ∙ lives in absurd cc
    load-inside d (Some value) lives = λ i. unchanged (blank_env false e) (covers (with_result x.regs d value) i)

    faults : {P : Type 0} (f : Fault) → ends (unchanged e (faulted x f)) ≡ false → P
    faults f lives = let no : true ≡ false = sym (ap (λ b. b && true) inside) ∙ lives in absurd cc

    -- it stores to a page of its own
    module _ (piece : Piece) where
      abbrev stores : Environment → Told → Type 0
      stores to k = blank_out false (unchanged to (with_regs x (next_instruction x.regs))) ≡ done k t (blank_env false e) (cover false x)

      by_part : (p : ℕ) (value : PageValue) → (context w vault_name).cell (Page p) ≡ Own (Some value) → (b : Bool) → is_parting w value ≡ b →
          stores (with_world e (stored_as w x.job piece (p ∷ []))) (cond b (Parts p) Nothing)
      by_part p value own true is = λ i. record { thread = covers (next_instruction x.regs) i; environment = with_world (blank_env false e) (store-hide w x.job piece p value own true is i) }
      by_part p value own false is = λ i. record { thread = covers (next_instruction x.regs) i; environment = with_world (blank_env false e) (store-hide w x.job piece p value own false is i) }

      by_cell : (p : ℕ) (cell : Cell (Option PageValue)) → (context w vault_name).cell (Page p) ≡ cell → IsPlain (told_by_cell w p cell) →
          stores (with_world e (stored_as w x.job piece (p ∷ []))) (told_by_cell w p cell)
      by_cell p (Own (Some value)) is some = by_part p value is (is_parting w value) refl
      by_cell p (Own None) is some = absurd some
      by_cell p (Common g) is some = absurd some

      by_pages : (ps : List ℕ) → IsPlain (told_by_pages w ps) → stores (with_world e (stored_as w x.job piece ps)) (told_by_pages w ps)
      by_pages [] some = absurd some
      by_pages (p ∷ []) some = by_cell p ((context w vault_name).cell (Page p)) refl some
      by_pages (p ∷ q ∷ rest) some = absurd some

      by_tests : (k : Told) (v : World) → stores (with_world e v) k → (a b c : Bool) →
          ends (stored_outcome e x (cond a Absent (cond b ReadOnly (cond c Full (Done v))))) ≡ false →
          blank_out false (stored_outcome e x (cond a Absent (cond b ReadOnly (cond c Full (Done v))))) ≡ done k t (blank_env false e) (cover false x)
      by_tests k v is true b c lives = faults fault.BadStore lives
      by_tests k v is false true c lives = faults fault.ReadOnly lives
      by_tests k v is false false true lives = faults fault.NoFrame lives
      by_tests k v is false false false lives = is

      abbrev ps : List ℕ
      ps = touched piece.at (length piece.bytes)

      stored-inside : IsPlain (told_by_pages w ps) → ends (stored_outcome e x (store w vault_name x.job piece)) ≡ false →
          blank_out false (stored_outcome e x (store w vault_name x.job piece)) ≡ done (told_by_pages w ps) t (blank_env false e) (cover false x)
      unfolding store after_store parting_count
      stored-inside some lives =
          by_tests (told_by_pages w ps) (stored_as w x.job piece ps) (by_pages ps some) (not (is_present w vault_name piece.at (length piece.bytes)))
          (not (is_writable w vault_name piece.at (length piece.bytes))) (nat_lt w.size.frames (used w + count_by (λ p. is_parting w (page_value_at w vault_name p)) ps)) lives

      store-inside : IsPlain (told_by_pages w ps) → ends (store_outcome e x piece) ≡ false → blank_out false (store_outcome e x piece) ≡ done (told_by_pages w ps) t (blank_env false e) (cover false x)
      unfolding store_outcome
      store-inside some lives = by (nat_le (piece.at + length piece.bytes) (w.size.pages * PAGE_BYTES)) lives
        where
          at_vault : ends (stored_outcome e x (store w x.context x.job piece)) ≡ false → blank_out false (stored_outcome e x (store w x.context x.job piece)) ≡ done (told_by_pages w ps) t (blank_env false e) (cover false x)
          at_vault going = ap (λ c. blank_out false (stored_outcome e x (store w c x.job piece))) here ∙ stored-inside some (ap (λ c. ends (stored_outcome e x (store w c x.job piece))) (sym here) ∙ going)

          by : (b : Bool) → ends (cond b (stored_outcome e x (store w x.context x.job piece)) (unchanged e (faulted x fault.BadStore))) ≡ false →
              blank_out false (cond b (stored_outcome e x (store w x.context x.job piece)) (unchanged e (faulted x fault.BadStore))) ≡ done (told_by_pages w ps) t (blank_env false e) (cover false x)
          by true going = at_vault going
          by false going = faults fault.BadStore going

    word-inside : (at value : ℕ) (b : Bool) → IsPlain (told_by_pages w (touched at 8)) →
        ends (cond b (store_outcome e x (record { at = at; bytes = to_le_bytes w64 value })) (unchanged e (faulted x fault.BadStore))) ≡ false →
        blank_out false (cond b (store_outcome e x (record { at = at; bytes = to_le_bytes w64 value })) (unchanged e (faulted x fault.BadStore))) ≡ done (told_by_pages w (touched at 8)) t (blank_env false e) (cover false x)
    word-inside at value true some lives = store-inside (record { at = at; bytes = to_le_bytes w64 value }) some lives
    word-inside at value false some lives = faults fault.BadStore lives

    op-inside : (i : Instr) (op : Op) → IsPlain (told_by_op e.world x.regs i op) → ends (shared_outcome guest_calls t e x i op) ≡ false →
        blank_out false (shared_outcome guest_calls t e x i op) ≡ done (told_by_op e.world x.regs i op) t (blank_env false e) (cover false x)
    unfolding shared_outcome
    op-inside i Ldb some lives = load-inside i.rd (byte_for w x.context (address x.regs i)) lives
    op-inside i Ldw some lives = load-inside i.rd (word_for w x.context (address x.regs i)) lives
    op-inside i Stb some lives = store-inside (record { at = address x.regs i; bytes = slice_index x.regs.r i.rb % 256 ∷ [] }) some lives
    op-inside i Stw some lives = word-inside (address x.regs i) (slice_index x.regs.r i.rb) (is_aligned (address x.regs i)) some lives
    op-inside i Sys some lives = call-inside i.imm some
    op-inside i _ some lives = absurd some

    pub next-inside : (n : Next) → IsPlain (told_by_next e.world x.regs n) → ends (next_outcome guest_calls t e x n) ≡ false →
        blank_out false (next_outcome guest_calls t e x n) ≡ done (told_by_next e.world x.regs n) t (blank_env false e) (cover false x)
    unfolding next_outcome
    next-inside next.Pause some lives = refl
    next-inside next.BadPc some lives = absurd some
    next-inside (next.Shared i) some lives = op-inside i i.op some lives

-- whether a step hands out nothing of the vault because it is not made there
abbrev pub is_outside : Told → Bool
is_outside Outside = true
is_outside _ = false

-- what is handed out in the vault is not that
pub told-inside : (u : World) (regs : Regs) (n : Next) → is_outside (told_by_next u regs n) ≡ false
told-inside u regs next.Pause = refl
told-inside u regs next.BadPc = refl
told-inside u regs (next.Shared i) = by_op i.op
  where
    by_plain : (c : Option PlainCall) → is_outside (told_by_plain u regs c) ≡ false
    by_plain None = refl
    by_plain (Some calls.Open) = refl
    by_plain (Some calls.Close) = refl
    by_plain (Some calls.Dup) = refl
    by_plain (Some calls.Write) = refl
    by_plain (Some calls.Map) = refl
    by_plain (Some calls.Unmap) = refl
    by_plain (Some calls.GetUid) = refl
    by_plain (Some calls.SetUid) = refl
    by_plain (Some _) = refl

    by_call : (b : Bool) → is_outside (cond b (Leaves (slice_index regs.r 1) (slice_index regs.r 2)) (told_by_plain u regs (plain_call i.imm))) ≡ false
    by_call true = refl
    by_call false = by_plain (plain_call i.imm)

    by_part : (b : Bool) (p : ℕ) → is_outside (cond b (Parts p) Nothing) ≡ false
    by_part true p = refl
    by_part false p = refl

    by_cell : (p : ℕ) (cell : Cell (Option PageValue)) → is_outside (told_by_cell u p cell) ≡ false
    by_cell p (Own (Some value)) = by_part (is_parting u value) p
    by_cell p (Own None) = refl
    by_cell p (Common g) = refl

    by_pages : (ps : List ℕ) → is_outside (told_by_pages u ps) ≡ false
    by_pages [] = refl
    by_pages (p ∷ []) = by_cell p ((context u vault_name).cell (Page p))
    by_pages (p ∷ q ∷ rest) = refl

    by_op : (op : Op) → is_outside (told_by_op u regs i op) ≡ false
    by_op Stb = by_pages (touched (address regs i) 1)
    by_op Stw = by_pages (touched (address regs i) 8)
    by_op Sys = by_call (eqb i.imm LW_SWITCH)
    by_op Ldb = refl
    by_op Ldw = refl
    by_op _ = refl

-- whether a thread has ended in the vault
abbrev pub ended_inside : Option Thread → Bool
ended_inside None = false
ended_inside (Some x) = stands_inside x && has_ended x.status

-- the hidden machine after a step in the vault, by what that hands out
abbrev pub after_inside : Told → Machine → ℕ → Option Thread → Machine
after_inside k h t None = h
after_inside k h t (Some x) = after_outcome h t (Some (only None (counted (x.budget - 1) (done k t h.environment x))))

-- the hidden machine after a step
abbrev pub after_told : Told → Machine → ℕ → Machine
after_told k h t = cond (is_outside k) (hide_threads (step h t)) (after_inside k h t (slice_get h.threads t))

module _ (m : Machine) (t : ℕ) (run : m.serve ≡ None) (x : Thread) (found : slice_get m.threads t ≡ Some x) (inside : stands_inside x ≡ true) where
  abbrev y : Thread
  y = with_regs x (regs_at m x)

  abbrev comes : Next
  comes = (advanced m.text x.regs).next

  abbrev result : Outcome
  result = next_outcome guest_calls t m.environment y comes

  stepped : x.status ≡ status.Running → step m t ≡ after_outcome m t (Some (only None (counted (x.budget - 1) result)))
  unfolding step_by advance_outcome
  stepped runs = ap (after_thread guest_calls m t) found ∙ (λ i. after_outcome m t (thread_outcome guest_calls t m.environment (run i) m.text x (runs i)))

  idled : x.status ≡ status.Idle → step m t ≡ after_outcome m t (Some (only None (unchanged m.environment (with_status x (status.Done 0)))))
  unfolding step_by
  idled idle = ap (after_thread guest_calls m t) found ∙ (λ i. after_outcome m t (thread_outcome guest_calls t m.environment (run i) m.text x (idle i)))

  ended_at : (o : Outcome) → step m t ≡ after_outcome m t (Some (only None o)) → ended_inside (slice_get (step m t).threads t) ≡ stands_inside o.thread && has_ended o.thread.status
  ended_at o is = ap (λ (n : Machine). ended_inside (slice_get n.threads t)) is ∙ ap ended_inside (found_set m.threads t x o.thread found)

  abbrev Steps : Type 0
  Steps = hide (step m t) ≡ after_told (told_by_next m.environment.world y.regs comes) (hide m) t

  runs_inside : x.status ≡ status.Running → IsPlain (told_by_next m.environment.world y.regs comes) → ended_inside (slice_get (step m t).threads t) ≡ false → Steps
  runs_inside runs some lives =
      let k : Told = told_by_next m.environment.world y.regs comes in
      ap hide (stepped runs)
      ∙ after-hide m t (Some (only None (counted (x.budget - 1) result)))
      ∙ ap (λ o. after_outcome (hide m) t (Some (only None (counted (x.budget - 1) o))))
      (next-inside t m.environment y inside (x.budget - 1) comes some (sym (ended_at (counted (x.budget - 1) result) (stepped runs)) ∙ lives))
      ∙ ap (λ z. after_outcome (hide m) t (Some (only None (counted (x.budget - 1) (done k t (hide m).environment z))))) (cover-inside x inside (regs_at m x))
      ∙ ap (after_inside k (hide m) t) (sym (slice_get-map (cover false) m.threads t ∙ ap (option_map (cover false)) found))
      ∙ ap (λ b. cond b (hide_threads (step (hide m) t)) (after_inside k (hide m) t (slice_get (hide m).threads t))) (sym (told-inside m.environment.world y.regs comes))

  steps_inside : has_ended x.status ≡ false → IsPlain (told_by_next m.environment.world y.regs comes) → ended_inside (slice_get (step m t).threads t) ≡ false → Steps
  steps_inside going some lives = by x.status refl going
    where
      by : (s : ThreadStatus) → x.status ≡ s → has_ended s ≡ false → Steps
      by status.Running is not = runs_inside is some lives
      by status.Idle is not =
          let ended : stands_inside x && true ≡ false = sym (ended_at (unchanged m.environment (with_status x (status.Done 0))) (idled is)) ∙ lives in
          let no : true ≡ false = sym (ap (λ b. b && true) inside) ∙ ended in absurd cc
      by (status.Done code) is not = absurd cc
      by (status.Faulted f) is not = absurd cc

abbrev StepsAs : Machine → ℕ → Told → Type 0
StepsAs m t k = hide (step m t) ≡ after_told k (hide m) t

-- a step is the same step where the vault is hidden, by what it hands out, unless its thread ends there
pub step-hide : (m : Machine) (t : ℕ) → m.serve ≡ None → ended_inside (slice_get (step m t).threads t) ≡ false → IsPlain (told m t) → (told m t ≡ Outside → ActsOutside m t) → hide (step m t) ≡ after_told (told m t) (hide m) t
unfolding told
step-hide m t run lives some outside = by (slice_get m.threads t) refl some outside
  where
    stands : (x : Thread) → slice_get m.threads t ≡ Some x → (b c : Bool) → stands_inside x ≡ b → has_ended x.status ≡ c →
        IsPlain (cond (b && not c) (told_by_next m.environment.world (regs_at m x) (advanced m.text x.regs).next) Outside) →
        (cond (b && not c) (told_by_next m.environment.world (regs_at m x) (advanced m.text x.regs).next) Outside ≡ Outside → ActsOutside m t) →
        StepsAs m t (cond (b && not c) (told_by_next m.environment.world (regs_at m x) (advanced m.text x.regs).next) Outside)
    stands x found true false inside going some outside = steps_inside m t run x found inside going some lives
    stands x found true true inside going some outside = step-outside m t run (outside refl)
    stands x found false c inside going some outside = step-outside m t run (outside refl)

    by : (o : Option Thread) → slice_get m.threads t ≡ o → IsPlain (told_by m t o) → (told_by m t o ≡ Outside → ActsOutside m t) → StepsAs m t (told_by m t o)
    by None found some outside = step-outside m t run (outside refl)
    by (Some x) found some outside = stands x found (stands_inside x) (has_ended x.status) refl refl some outside
