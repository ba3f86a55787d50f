-- Plain calls end alike in two worlds, and with channels, that look alike to their job.
use Rattle.std.proofs.Common.{◌≡◌, ℕ, ◌+◌, ◌*◌, refl, sym, ap, subst, ◌∙◌, Bool, true, false, cond, eqb, ◌||◌, Option, Some, None, List, [], ◌∷◌, ◌++◌, length}
use Rattle.std.specs.Prelude.{◌^◌, is_none, nat_le, nat_lt, not, slice_get, slice_index, take, unwrap_or}
use Rattle.std.specs.Option.{option_map_or}
use Rattle.access_cap.specs.Kinds.{has_kinds, is_chosen}
use Rattle.guest_call.specs.Guest.{descriptor_for}
use Rattle.lwc_base.specs.Cells.{put_slot}
use Rattle.lwc_base.specs.Channels.{Channels, may_open, may_set}
use Rattle.lwc_base.specs.Mapping.{mapped_or_not}
use Rattle.lwc_base.specs.Memory.{bytes_for, is_present}
use Rattle.lwc_base.specs.Rights.{is_writable}
use Rattle.lwc_base.specs.Refusals.{first_refusal}
use Rattle.lwc_base.specs.Store.{Absent, Done, Full, ReadOnly, Piece, Stored, after_store, store}
use Rattle.lwc_base.specs.Summaries.{is_empty}
use Rattle.lwc_base.specs.World.{World}
use Rattle.lwc_base.specs.declared.descriptor.Descriptor.{Descriptor}
use Rattle.lwc_base.specs.declared.descriptor.Descriptor.TheVariants.{Empty, File}
use Rattle.lwc_types.specs.declared.key.Key.TheVariants.{Cred, Slot}
use Rattle.lwc_types.specs.declared.key.Kind.TheVariants as kinds
use Rattle.lwc_types.specs.declared.limits.TheConstants.{MOST_BYTES_OF_CALL, MOST_RANGES}
use Rattle.lwc_types.specs.declared.name.Name.{Name}
use Rattle.lwc_types.specs.declared.page.TheConstants.{PAGE_BYTES}
use Rattle.lwc_types.specs.declared.refusal.Refusal.{Refusal}
use Rattle.lwc_types.specs.declared.refusal.Refusal.TheVariants.{BadAddress, BadCall, BadFd, BadMode, BadRange, NoFile, NoFrame, NoSlot, NotCovered, NotPermitted, ReplyFull, TooLong, TooManyRanges, WrongKind}
use Rattle.lwc_types.specs.declared.refusal.Refusal.TheVariants as refusal
use Rattle.lwc_types.specs.declared.regs.Regs.{Regs}
use Rattle.lwc_syscall.specs.Plain.{Outcome, answering, left, moved, placed, plain, read_on, refused_or, store_at, world_after, written}
use Rattle.lwc_syscall.specs.Plain as calls
use Rattle.lwc_syscall.specs.Syscall as syscalls
use Rattle.lwc_syscall.specs.declared.answer.CallAnswer.TheVariants.{Value}
use Rattle.lwc_syscall.specs.declared.calls.CallContexts.{CallContexts}
use Rattle.lwc_syscall.specs.declared.plain_call.PlainCall.{PlainCall}
use Rattle.world_views.proofs.Channels.{files-alike, left-alike, passes-alike, written-alike}
use Rattle.world_views.proofs.JobPlainly.{all_calls}
use Rattle.world_views.proofs.Seen.{descriptor-alike, descriptor_fits, link_or, read_fits, slot_refusals-alike, three_own}
use Rattle.world_views.proofs.Together.{answers-alike, changes-alike}
use Rattle.world_views.specs.ByJob.{Home, IsSlotOf, LooksAlike}
use Rattle.world_views.specs.Ends.{AreOf, HasFrames, OutcomesAlike}
use Rattle.world_views.specs.JobFacts.{AnswersAlike}
use Rattle.world_views.specs.Views.{channel_view}

-- two stores end alike, or one of them finds too few frames
data StoresAlike (home : Home) (job t s : ℕ) : Stored → Stored → Type 0 where
  Both_absent : StoresAlike home job t s Absent Absent
  Both_read_only : StoresAlike home job t s ReadOnly ReadOnly
  Both_done : (a b : World) → LooksAlike home job t s a b → StoresAlike home job t s (Done a) (Done b)
  First_full : (b : Stored) → StoresAlike home job t s Full b
  Second_full : (a : Stored) → StoresAlike home job t s a Full

module _ (home : Home) (r t s : ℕ) (targets : CallContexts) (w v : World) (io other : Channels) (of : AreOf (r + 1) targets) (alike : LooksAlike home (r + 1) t s w v)
    (same : channel_view r io ≡ channel_view r other) where
  here : (c : Name) → c.job ≡ r + 1 → (a b : World) → LooksAlike home (r + 1) t s a b → LooksAlike home c.job t s a b
  here c own a b is = subst (λ j. LooksAlike home j t s a b) (sym own) is

  back : (c : Name) → c.job ≡ r + 1 → (a b : World) → LooksAlike home c.job t s a b → LooksAlike home (r + 1) t s a b
  back c own a b is = subst (λ j. LooksAlike home j t s a b) own is

  asks : (c : Name) → c.job ≡ r + 1 → AnswersAlike t s c w v
  asks c own = answers-alike home t s c w v (here c own w v alike)

  -- by the same refusal, or done alike
  pub by_first : (a b : Outcome) (f g : Option Refusal) → f ≡ g → (HasFrames a → HasFrames b → OutcomesAlike home r t s a b) →
      HasFrames (refused_or w io a f) → HasFrames (refused_or v other b g) → OutcomesAlike home r t s (refused_or w io a f) (refused_or v other b g)
  by_first a b f g first done =
      subst (λ h. HasFrames (refused_or w io a f) → HasFrames (refused_or v other b h) → OutcomesAlike home r t s (refused_or w io a f) (refused_or v other b h)) first (by_one f)
    where
      by_one : (h : Option Refusal) → HasFrames (refused_or w io a h) → HasFrames (refused_or v other b h) → OutcomesAlike home r t s (refused_or w io a h) (refused_or v other b h)
      by_one (Some refusal) one two = record { answer = refl; worlds = alike; channels = same }
      by_one None one two = done one two

  value_alike : (n : ℕ) → descriptor_for w targets.slots n ≡ descriptor_for v targets.slots n
  value_alike n = descriptor-alike home t s targets.slots w v (here targets.slots of.slots w v alike) n

  value_fits : (n : ℕ) → IsSlotOf targets.slots.job (descriptor_for w targets.slots n)
  value_fits n = descriptor_fits home targets.slots w alike.first.kept n

  -- a put into a slot
  put_alike : (a b : World) → LooksAlike home (r + 1) t s a b → (m n : ℕ) (x y : Descriptor) → m ≡ n → x ≡ y → IsSlotOf targets.slots.job x →
      LooksAlike home (r + 1) t s (put_slot a targets.slots m x) (put_slot b targets.slots n y)
  put_alike a b is m n x y numbers values fits =
      back targets.slots of.slots _ _
      (subst (λ u. LooksAlike home targets.slots.job t s (put_slot a targets.slots m x) u) (λ i. put_slot b targets.slots (numbers i) (values i))
      ((changes-alike home t s targets.slots a b (here targets.slots of.slots a b is)).put (Slot m) x fits))

  placed_alike : (x y : Descriptor) → x ≡ y → IsSlotOf targets.slots.job x → OutcomesAlike home r t s (placed w io targets.slots x) (placed v other targets.slots y)
  placed_alike x y values fits =
      let slots = ap (λ o. unwrap_or o 0) (asks targets.slots of.slots).lowest in
      record { answer = ap Value slots; worlds = put_alike w v alike _ _ x y slots values fits; channels = same }

  -- a store of the same bytes
  store_alike : (piece : Piece) → StoresAlike home (r + 1) t s (store w targets.memory (r + 1) piece) (store v targets.memory (r + 1) piece)
  unfolding store
  store_alike piece =
      by_presence (is_present w targets.memory piece.at (length piece.bytes)) (is_present v targets.memory piece.at (length piece.bytes))
      ((asks targets.memory of.memory).present piece.at (length piece.bytes))
      (is_writable w targets.memory piece.at (length piece.bytes)) (is_writable v targets.memory piece.at (length piece.bytes))
      ((asks targets.memory of.memory).writable piece.at (length piece.bytes)) (nat_lt w.size.frames _) (nat_lt v.size.frames _)
    where
      stored : LooksAlike home (r + 1) t s (after_store w targets.memory (r + 1) piece) (after_store v targets.memory (r + 1) piece)
      stored = subst (λ j. LooksAlike home j t s (after_store w targets.memory j piece) (after_store v targets.memory j piece)) of.memory
          ((changes-alike home t s targets.memory w v (here targets.memory of.memory w v alike)).store piece)

      by_presence : (p q : Bool) → p ≡ q → (x y : Bool) → x ≡ y → (m n : Bool) →
          StoresAlike home (r + 1) t s (cond (not p) Absent (cond (not x) ReadOnly (cond m Full (Done (after_store w targets.memory (r + 1) piece)))))
          (cond (not q) Absent (cond (not y) ReadOnly (cond n Full (Done (after_store v targets.memory (r + 1) piece)))))
      by_presence false false is x y same m n = Both_absent
      by_presence true true is false false same m n = Both_read_only
      by_presence true true is true true same true n = First_full _
      by_presence true true is true true same false true = Second_full _
      by_presence true true is true true same false false = Both_done _ _ stored
      by_presence true true is true false same m n = cc
      by_presence true true is false true same m n = cc
      by_presence true false is x y same m n = cc
      by_presence false true is x y same m n = cc

  store_at_alike : (from : ℕ) (bytes : List ℕ) → StoresAlike home (r + 1) t s (store_at w targets.memory (r + 1) from bytes) (store_at v targets.memory (r + 1) from bytes)
  unfolding store_at
  store_at_alike from bytes =
      by_size (eqb (length bytes) 0) (nat_le (from + length bytes) (w.size.pages * PAGE_BYTES)) (nat_le (from + length bytes) (v.size.pages * PAGE_BYTES))
      (ap (λ n. nat_le (from + length bytes) (n * PAGE_BYTES)) (asks targets.memory of.memory).pages)
    where
      by_size : (none p q : Bool) → p ≡ q → StoresAlike home (r + 1) t s (cond none (Done w) (cond p (store w targets.memory (r + 1) (record { at = from; bytes = bytes })) Absent))
          (cond none (Done v) (cond q (store v targets.memory (r + 1) (record { at = from; bytes = bytes })) Absent))
      by_size true p q is = Both_done w v alike
      by_size false true true is = store_alike (record { at = from; bytes = bytes })
      by_size false false false is = Both_absent
      by_size false true false is = cc
      by_size false false true is = cc

  -- how a read ends, by what is left to read and by how its store ends
  abbrev read_rows : Descriptor → Option (List ℕ) → ℕ → Stored → List (Bool × Refusal)
  read_rows value rest count stored =
      (is_empty value, BadFd) ∷ (is_none rest, WrongKind) ∷ (nat_lt MOST_BYTES_OF_CALL count, TooLong) ∷ (calls.is_absent stored, BadAddress) ∷ (calls.is_read_only stored, refusal.ReadOnly)
      ∷ (calls.is_full stored, NoFrame) ∷ []

  abbrev read_done : World → Channels → ℕ → ℕ → Descriptor → Stored → Outcome
  read_done u chans n moves value stored = answering moves (put_slot (world_after u stored) targets.slots n (read_on moves value)) chans

  abbrev read_end : World → Channels → ℕ → ℕ → Descriptor → Option (List ℕ) → ℕ → Stored → Outcome
  read_end u chans n moves value rest count stored = calls.ended u chans (read_rows value rest count stored) (read_done u chans n moves value stored)

  abbrev EndAlike : Outcome → Outcome → Type 0
  EndAlike a b = HasFrames a → HasFrames b → OutcomesAlike home r t s a b

  -- where the first store finds too few frames, or the second, a refusal before that is the same
  first_full : (a b : Outcome) (e f g x y z : Bool) →
      EndAlike (refused_or w io a (first_refusal ((e, BadFd) ∷ (f, WrongKind) ∷ (g, TooLong) ∷ (false, BadAddress) ∷ (false, refusal.ReadOnly) ∷ (true, NoFrame) ∷ [])))
      (refused_or v other b (first_refusal ((e, BadFd) ∷ (f, WrongKind) ∷ (g, TooLong) ∷ (x, BadAddress) ∷ (y, refusal.ReadOnly) ∷ (z, NoFrame) ∷ [])))
  first_full a b true f g x y z one two = record { answer = refl; worlds = alike; channels = same }
  first_full a b false true g x y z one two = record { answer = refl; worlds = alike; channels = same }
  first_full a b false false true x y z one two = record { answer = refl; worlds = alike; channels = same }
  first_full a b false false false x y z one two = absurd (one refl)

  second_full : (a b : Outcome) (e f g x y z : Bool) →
      EndAlike (refused_or w io a (first_refusal ((e, BadFd) ∷ (f, WrongKind) ∷ (g, TooLong) ∷ (x, BadAddress) ∷ (y, refusal.ReadOnly) ∷ (z, NoFrame) ∷ [])))
      (refused_or v other b (first_refusal ((e, BadFd) ∷ (f, WrongKind) ∷ (g, TooLong) ∷ (false, BadAddress) ∷ (false, refusal.ReadOnly) ∷ (true, NoFrame) ∷ [])))
  second_full a b true f g x y z one two = record { answer = refl; worlds = alike; channels = same }
  second_full a b false true g x y z one two = record { answer = refl; worlds = alike; channels = same }
  second_full a b false false true x y z one two = record { answer = refl; worlds = alike; channels = same }
  second_full a b false false false x y z one two = absurd (two refl)

  by_stores : (n moves : ℕ) (value : Descriptor) (rest : Option (List ℕ)) (count : ℕ) (a b : Stored) → IsSlotOf targets.slots.job value → StoresAlike home (r + 1) t s a b →
      EndAlike (read_end w io n moves value rest count a) (read_end v other n moves value rest count b)
  by_stores n moves value rest count _ _ fits Both_absent =
      by_first (read_done w io n moves value Absent) (read_done v other n moves value Absent) (first_refusal (read_rows value rest count Absent)) _ refl
      (λ one two. record { answer = refl; worlds = put_alike w v alike n n _ _ refl refl (read_fits targets.slots.job moves value fits); channels = same })
  by_stores n moves value rest count _ _ fits Both_read_only =
      by_first (read_done w io n moves value ReadOnly) (read_done v other n moves value ReadOnly) (first_refusal (read_rows value rest count ReadOnly)) _ refl
      (λ one two. record { answer = refl; worlds = put_alike w v alike n n _ _ refl refl (read_fits targets.slots.job moves value fits); channels = same })
  by_stores n moves value rest count _ _ fits (Both_done a b done) =
      by_first (read_done w io n moves value (Done a)) (read_done v other n moves value (Done b)) (first_refusal (read_rows value rest count (Done a))) _ refl
      (λ one two. record { answer = refl; worlds = put_alike a b done n n _ _ refl refl (read_fits targets.slots.job moves value fits); channels = same })
  by_stores n moves value rest count _ _ fits (First_full b) = first_full _ _ (is_empty value) (is_none rest) (nat_lt MOST_BYTES_OF_CALL count) (calls.is_absent b) (calls.is_read_only b) (calls.is_full b)
  by_stores n moves value rest count _ _ fits (Second_full a) = second_full _ _ (is_empty value) (is_none rest) (nat_lt MOST_BYTES_OF_CALL count) (calls.is_absent a) (calls.is_read_only a) (calls.is_full a)

  reads_alike : (n from count : ℕ) → EndAlike (calls.reading w io targets (r + 1) n from count) (calls.reading v other targets (r + 1) n from count)
  unfolding calls.reading
  reads_alike n from count =
      let value = descriptor_for w targets.slots n in
      let fits = value_fits n in
      let rests : left io value ≡ left other value = left-alike r io other same value (subst (λ j. IsSlotOf j value) of.slots fits) in
      let first : EndAlike (calls.reading w io targets (r + 1) n from count)
      (read_end v other n (length (moved io value count)) value (left io value) count (store_at v targets.memory (r + 1) from (moved io value count))) =
      by_stores n (length (moved io value count)) value (left io value) count _ _ fits (store_at_alike from (moved io value count)) in
      subst (λ u. EndAlike (calls.reading w io targets (r + 1) n from count) u)
      ((λ i. read_end v other n (length (take count (unwrap_or (rests i) []))) value (rests i) count (store_at v targets.memory (r + 1) from (take count (unwrap_or (rests i) []))))
      ∙ (λ i. read_end v other n (length (moved other (value_alike n i) count)) (value_alike n i) (left other (value_alike n i)) count
      (store_at v targets.memory (r + 1) from (moved other (value_alike n i) count)))) first

  writes_alike : (n from count : ℕ) → EndAlike (calls.writing w io targets n from count) (calls.writing v other targets n from count)
  unfolding calls.writing
  writes_alike n from count =
      let value = descriptor_for w targets.slots n in
      let fits : IsSlotOf (r + 1) value = subst (λ j. IsSlotOf j value) of.slots (value_fits n) in
      let bytes = (asks targets.memory of.memory).bytes from count in
      let passes = passes-alike r io other same value count fits in
      by_first _ _ _ _
      (ap first_refusal
      ((λ i. (is_empty value, BadFd) ∷ (not (calls.is_written value), WrongKind) ∷ (nat_lt MOST_BYTES_OF_CALL count, TooLong) ∷ (is_none (bytes i), BadAddress) ∷ (passes i, ReplyFull) ∷ [])
      ∙ (λ i. calls.write_refusals other (value_alike n i) count (bytes_for v targets.memory from count))))
      (λ one two. record {
        answer = refl;
        worlds = alike;
        channels = written-alike r io other same value (unwrap_or (bytes_for w targets.memory from count) []) fits
            ∙ (λ i. channel_view r (written other (value_alike n i) (unwrap_or (bytes i) [])));
      })

  mapped_alike : (from to : ℕ) (present : Bool) → LooksAlike home (r + 1) t s (mapped_or_not w targets.memory from to present) (mapped_or_not v targets.memory from to present)
  mapped_alike from to present = back targets.memory of.memory _ _ ((changes-alike home t s targets.memory w v (here targets.memory of.memory w v alike)).map from to present)

  maps_alike : (from to : ℕ) (present : Bool) → EndAlike (calls.mapping w io targets.memory from to present) (calls.mapping v other targets.memory from to present)
  maps_alike from to present =
      let pages = (asks targets.memory of.memory).pages in
      let ranges = (answers-alike home t s targets.memory _ _ (here targets.memory of.memory _ _ (mapped_alike from to present))).ranges in
      by_first _ _ _ _
      (ap first_refusal (λ i. (nat_le to from || nat_lt (pages i) to, BadRange) ∷ (nat_lt MOST_RANGES (ranges i), TooManyRanges) ∷ []))
      (λ one two. record { answer = refl; worlds = mapped_alike from to present; channels = same })

  becomes_alike : (uid : ℕ) → EndAlike (calls.becoming w io targets.cred uid) (calls.becoming v other targets.cred uid)
  becomes_alike uid =
      let uids = (asks targets.cred of.cred).value Cred in
      by_first _ _ _ _
      (ap first_refusal (λ i. (nat_le (2 ^ 32) uid, BadRange) ∷ (not (may_set (uids i) uid), NotPermitted) ∷ []))
      (λ one two. record {
        answer = refl;
        worlds = back targets.cred of.cred _ _ ((changes-alike home t s targets.cred w v (here targets.cred of.cred w v alike)).put Cred uid tt);
        channels = same;
      })

  opens_alike : (file : ℕ) → EndAlike (calls.opening w io targets file) (calls.opening v other targets file)
  opens_alike file =
      let files = files-alike r io other same in
      let uids = (asks targets.cred of.cred).value Cred in
      let slots = (asks targets.slots of.slots).lowest in
      by_first _ _ _ _
      (ap first_refusal (λ i. (nat_le (length (files i)) file, NoFile) ∷ (not (option_map_or (λ found. may_open (uids i) found.owner found.public) (slice_get (files i) file) false), NotPermitted) ∷ (is_none (slots i), NoSlot) ∷ []))
      (λ one two. placed_alike (File file 0) (File file 0) refl tt)

  closes_alike : (n : ℕ) → EndAlike (calls.closing w io targets.slots n) (calls.closing v other targets.slots n)
  closes_alike n =
      by_first _ _ _ _ (ap first_refusal (λ i. (is_empty (value_alike n i), BadFd) ∷ []))
      (λ one two. record { answer = refl; worlds = put_alike w v alike n n Empty Empty refl refl tt; channels = same })

  copies_alike : (n : ℕ) → EndAlike (calls.copying w io targets.slots n) (calls.copying v other targets.slots n)
  copies_alike n =
      let slots = (asks targets.slots of.slots).lowest in
      by_first _ _ _ _ (ap first_refusal (λ i. (is_empty (value_alike n i), BadFd) ∷ (is_none (slots i), NoSlot) ∷ []))
      (λ one two. placed_alike _ _ (value_alike n) (value_fits n))

  pub plain-alike : (call : Option PlainCall) (args : List ℕ) → EndAlike (plain w io targets (r + 1) call args) (plain v other targets (r + 1) call args)
  plain-alike call args =
      all_calls EndAlike w v io other targets (r + 1) call args (record {
        opens = opens_alike (slice_index args 0);
        closes = closes_alike (slice_index args 0);
        copies = copies_alike (slice_index args 0);
        reads = λ is. reads_alike (slice_index args 0) (slice_index args 1) (slice_index args 2);
        writes = writes_alike (slice_index args 0) (slice_index args 1) (slice_index args 2);
        maps = maps_alike (slice_index args 0) (slice_index args 1);
        tells = λ one two. record { answer = ap Value ((asks targets.cred of.cred).value Cred); worlds = alike; channels = same };
        becomes = becomes_alike (slice_index args 0);
        exits = λ one two. record { answer = refl; worlds = alike; channels = same };
        refuses = λ one two. record { answer = refl; worlds = alike; channels = same };
      })

-- the call over contexts that a mask chooses
module _ (home : Home) (r t s : ℕ) (c : Name) (w v : World) (io other : Channels) (regs : Regs) (own : c.job ≡ r + 1) (alike : LooksAlike home (r + 1) t s w v)
    (same : channel_view r io ≡ channel_view r other) where
  of_caller : LooksAlike home c.job t s w v
  of_caller = subst (λ j. LooksAlike home j t s w v) (sym own) alike

  links : syscalls.link w c regs ≡ syscalls.link v c regs
  links = ap (link_or c) (descriptor-alike home t s c w v of_caller (slice_index regs.r 1))

  threes : syscalls.targets_of w c regs ≡ syscalls.targets_of v c regs
  threes = λ i. record {
    memory = cond (is_chosen (syscalls.mask_in regs) kinds.Page) (links i).0 c;
    slots = cond (is_chosen (syscalls.mask_in regs) kinds.Slot) (links i).0 c;
    cred = cond (is_chosen (syscalls.mask_in regs) kinds.Cred) (links i).0 c;
  }

  refusals-alike : syscalls.refusals w c regs ≡ syscalls.refusals v c regs
  unfolding syscalls.refusals
  refusals-alike =
      let pages = (answers-alike home t s c w v of_caller).pages in
      λ i.
      slot_refusals-alike home t s c w v of_caller (slice_index regs.r 1) i
      ++ ((nat_lt 7 (syscalls.mask_in regs), BadMode)
      ∷ (not (has_kinds (pages i) (links i).1 (syscalls.mask_in regs)), NotCovered)
      ∷ (nat_lt (syscalls.inner_number regs) 1 || nat_lt 9 (syscalls.inner_number regs), BadCall) ∷ [])

  pub syscall-alike : HasFrames (syscalls.lw_syscall w io c (r + 1) regs) → HasFrames (syscalls.lw_syscall v other c (r + 1) regs) →
      OutcomesAlike home r t s (syscalls.lw_syscall w io c (r + 1) regs) (syscalls.lw_syscall v other c (r + 1) regs)
  unfolding syscalls.lw_syscall
  syscall-alike =
      let of : AreOf (r + 1) (syscalls.targets_of w c regs) = subst (λ j. AreOf j (syscalls.targets_of w c regs)) own (three_own home c w regs alike.first.kept) in
      let call = syscalls.inner_call regs in
      let args = syscalls.inner_args regs in
      by_first home r t s (syscalls.targets_of w c regs) w v io other of alike same _ (plain v other (syscalls.targets_of v c regs) (r + 1) call args) _ _ (ap first_refusal refusals-alike)
      (subst (λ targets. HasFrames (plain w io (syscalls.targets_of w c regs) (r + 1) call args) → HasFrames (plain v other targets (r + 1) call args) →
      OutcomesAlike home r t s (plain w io (syscalls.targets_of w c regs) (r + 1) call args) (plain v other targets (r + 1) call args)) threes
      (plain-alike home r t s (syscalls.targets_of w c regs) w v io other of alike same call args))
