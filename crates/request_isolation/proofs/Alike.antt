-- An act of a request does the same wherever its job sees the same, if neither act ends for want of frames.
use Rattle.std.proofs.Common.{◌≡◌, ◌≢◌, ℕ, ◌+◌, ◌-◌, ◌*◌, refl, sym, ap, subst, ◌∙◌, Bool, true, false, cond, eqb, leb, not, ltb, Option, None, List, length}
use Rattle.std.specs.Prelude.{slice_index}
use Rattle.std.specs.Option.{option_map}
use Rattle.std.specs.Int.{w64, from_le_bytes, to_le_bytes}
use Rattle.guest_isa.specs.declared.instr.Instr.{Instr}
use Rattle.guest_isa.specs.declared.op.Op.{Op}
use Rattle.guest_isa.specs.declared.op.Op.TheVariants.{Ldb, Ldw, Stb, Stw, Sys, Halt}
use Rattle.guest_machine.specs.declared.progress.Advance.{Advance}
use Rattle.guest_machine.specs.declared.progress.Next.{Next}
use Rattle.guest_machine.specs.declared.progress.Next.TheVariants.{Shared, Pause, BadPc}
use Rattle.kernel_core.specs.Machine.{Environment}
use Rattle.kernel_core.specs.Step.{Outcome, address, advance_outcome, answered, args_of, call_outcome, ended_outcome, faulted, guest_calls, is_aligned, loaded, next_outcome, plainly, shared_outcome, store_outcome, stored_outcome, switch_outcome, switched, three_times, unchanged, with_regs, with_steps, with_world, word_for, word_outcome}
use Rattle.kernel_core.specs.declared.calling.TheConstants.{LW_CREATE, LW_OVERLAY, LW_RESTRICT, LW_SWITCH, LW_SYSCALL}
use Rattle.kernel_core.specs.declared.thread.Thread.{Thread}
use Rattle.lwc_base.specs.Frames.{used}
use Rattle.lwc_base.specs.Memory.{is_present}
use Rattle.lwc_base.specs.Rights.{is_writable}
use Rattle.lwc_base.specs.Store.{Absent, Done, Full, Piece, ReadOnly, Stored, after_store, parting_count, store}
use Rattle.lwc_base.specs.World.{World}
use Rattle.lwc_types.specs.declared.fault.Fault.TheVariants as fault
use Rattle.lwc_types.specs.declared.page.TheConstants.{PAGE_BYTES}
use Rattle.lwc_types.specs.declared.refusal.Refusal.TheVariants.{NoFrame}
use Rattle.lwc_create.specs.Create.{create}
use Rattle.lwc_overlay.specs.OverlayCall.{overlay}
use Rattle.lwc_overlay.specs.RestrictCall.{restrict}
use Rattle.lwc_syscall.specs.Plain as calls
use Rattle.lwc_syscall.specs.Plain.{plain, plain_call}
use Rattle.lwc_syscall.specs.Syscall.{lw_syscall}
use Rattle.lwc_syscall.specs.declared.answer.CallAnswer.TheVariants as ends
use Rattle.lwc_syscall.specs.declared.plain_call.PlainCall.{PlainCall}
use Rattle.request_isolation.specs.Needs.{CallIsFull, IsFull, StoreIsFull, WantsFrames}
use Rattle.world_views.proofs.Calling.{create-alike, overlay-alike, restrict-alike, switch-alike}
use Rattle.world_views.proofs.PlainAlike.{plain-alike, syscall-alike}
use Rattle.world_views.proofs.Together.{answers-alike, changes-alike}
use Rattle.world_views.specs.ByJob.{Home, LooksAlike}
use Rattle.world_views.specs.Ends.{OutcomesAlike}
use Rattle.world_views.specs.JobFacts.{AnswersAlike}
use Rattle.world_views.specs.Views.{channel_view}

-- two acts for a request leave the same thread, and what looks alike to its job
pub record ActsAlike (home : Home) (r t s : ℕ) (first second : Outcome) : Type 0 where
  pub thread : first.thread ≡ second.thread
  pub worlds : LooksAlike home (r + 1) t s first.environment.world second.environment.world
  pub channels : channel_view r first.environment.channels ≡ channel_view r second.environment.channels

module _ (home : Home) (r t s : ℕ) (e f : Environment) (x : Thread) (here : x.context.job ≡ r + 1) (job : x.job ≡ r + 1)
    (like : LooksAlike home (r + 1) t s e.world f.world) (same : channel_view r e.channels ≡ channel_view r f.channels) where
  own_job : x.context.job ≡ x.job
  own_job = here ∙ sym job

  like_here : LooksAlike home x.context.job t s e.world f.world
  like_here = subst (λ (j : ℕ). LooksAlike home j t s e.world f.world) (sym here) like

  asked : AnswersAlike t s x.context e.world f.world
  asked = answers-alike home t s x.context e.world f.world like_here

  alike_thread : (y : Thread) → ActsAlike home r t s (unchanged e y) (unchanged f y)
  alike_thread y = record { thread = refl; worlds = like; channels = same }

  alike_world : (y z : Thread) (w v : World) → y ≡ z → LooksAlike home x.context.job t s w v → ActsAlike home r t s (unchanged (with_world e w) y) (unchanged (with_world f v) z)
  alike_world y z w v thread worlds = record { thread = thread; worlds = subst (λ (j : ℕ). LooksAlike home j t s w v) here worlds; channels = same }

  chosen : (b : Bool) (o p o2 p2 : Outcome) → (b ≡ true → ActsAlike home r t s o p) → (b ≡ false → ActsAlike home r t s o2 p2) → ActsAlike home r t s (cond b o o2) (cond b p p2)
  chosen true o p o2 p2 if_so else_so = if_so refl
  chosen false o p o2 p2 if_so else_so = else_so refl

  alike_loaded : (d : ℕ) (found also : Option ℕ) → found ≡ also → ActsAlike home r t s (unchanged e (loaded x d found)) (unchanged f (loaded x d also))
  alike_loaded d found also is = subst (λ (o : Option ℕ). ActsAlike home r t s (unchanged e (loaded x d found)) (unchanged f (loaded x d o))) is (alike_thread (loaded x d found))

  alike_word : (at : ℕ) → word_for e.world x.context at ≡ word_for f.world x.context at
  alike_word at = ap (λ (o : Option (List ℕ)). cond (is_aligned at) (option_map (from_le_bytes w64) o) None) (asked.bytes at 8)

  stored_by : Bool → Bool → Bool → World → Stored
  stored_by present writable full v = cond (not present) Absent (cond (not writable) ReadOnly (cond full Full (Done v)))

  alike_stored : (p q : Bool) → p ≡ q → (m n : Bool) → m ≡ n → (a b : Bool) (w v : World) → stored_by p m a w ≢ Full → stored_by q n b v ≢ Full → LooksAlike home x.context.job t s w v →
      ActsAlike home r t s (stored_outcome e x (stored_by p m a w)) (stored_outcome f x (stored_by q n b v))
  unfolding stored_by
  alike_stored false false is m n may a b w v first second worlds = alike_thread (faulted x fault.BadStore)
  alike_stored true true is false false may a b w v first second worlds = alike_thread (faulted x fault.ReadOnly)
  alike_stored true true is true true may false false w v first second worlds = alike_world _ _ w v refl worlds
  alike_stored true true is true true may true b w v first second worlds = absurd (first refl)
  alike_stored true true is true true may false true w v first second worlds = absurd (second refl)
  alike_stored true true is true false may a b w v first second worlds = cc
  alike_stored true true is false true may a b w v first second worlds = cc
  alike_stored true false is m n may a b w v first second worlds = cc
  alike_stored false true is m n may a b w v first second worlds = cc

  alike_within : (a b : Bool) → a ≡ b → (stored also : Stored) → (a ≡ true → b ≡ true → ActsAlike home r t s (stored_outcome e x stored) (stored_outcome f x also)) →
      ActsAlike home r t s (cond a (stored_outcome e x stored) (unchanged e (faulted x fault.BadStore))) (cond b (stored_outcome f x also) (unchanged f (faulted x fault.BadStore)))
  alike_within true true is stored also within = within refl refl
  alike_within false false is stored also within = alike_thread (faulted x fault.BadStore)
  alike_within true false is stored also within = cc
  alike_within false true is stored also within = cc

  alike_store : (piece : Piece) → (StoreIsFull e x piece → ⊥) → (StoreIsFull f x piece → ⊥) → ActsAlike home r t s (store_outcome e x piece) (store_outcome f x piece)
  unfolding store_outcome store stored_by
  alike_store piece first second =
      alike_within (leb (piece.at + length piece.bytes) (e.world.size.pages * PAGE_BYTES)) (leb (piece.at + length piece.bytes) (f.world.size.pages * PAGE_BYTES))
      (ap (λ (n : ℕ). leb (piece.at + length piece.bytes) (n * PAGE_BYTES)) asked.pages) (store e.world x.context x.job piece) (store f.world x.context x.job piece)
      (λ one two. alike_stored (is_present e.world x.context piece.at (length piece.bytes)) (is_present f.world x.context piece.at (length piece.bytes)) (asked.present piece.at (length piece.bytes))
      (is_writable e.world x.context piece.at (length piece.bytes)) (is_writable f.world x.context piece.at (length piece.bytes)) (asked.writable piece.at (length piece.bytes))
      (ltb e.world.size.frames (used e.world + parting_count e.world x.context piece)) (ltb f.world.size.frames (used f.world + parting_count f.world x.context piece))
      (after_store e.world x.context x.job piece) (after_store f.world x.context x.job piece) (λ full. first (one, full)) (λ full. second (two, full))
      (subst (λ (j : ℕ). LooksAlike home x.context.job t s (after_store e.world x.context j piece) (after_store f.world x.context j piece)) own_job
      ((changes-alike home t s x.context e.world f.world like_here).store piece)))

  alike_word_stored : (at value : ℕ) → ((is_aligned at ≡ true) × StoreIsFull e x (record { at = at; bytes = to_le_bytes w64 value }) → ⊥) →
      ((is_aligned at ≡ true) × StoreIsFull f x (record { at = at; bytes = to_le_bytes w64 value }) → ⊥) → ActsAlike home r t s (word_outcome e x at value) (word_outcome f x at value)
  alike_word_stored at value first second =
      chosen (is_aligned at) _ _ _ _ (λ is. alike_store (record { at = at; bytes = to_le_bytes w64 value }) (λ full. first (is, full)) (λ full. second (is, full))) (λ is. alike_thread (faulted x fault.BadStore))

  alike_create : ActsAlike home r t s (call_outcome e x (create e.world x.context x.job x.regs)) (call_outcome f x (create f.world x.context x.job x.regs))
  alike_create = subst (λ (j : ℕ). ActsAlike home r t s (call_outcome e x (create e.world x.context j x.regs)) (call_outcome f x (create f.world x.context j x.regs))) own_job
      (let both = create-alike home t s x.context e.world f.world x.regs like_here in alike_world _ _ _ _ (ap (answered x) both.answer) both.worlds)

  alike_overlay : ActsAlike home r t s (call_outcome e x (overlay e.world x.context x.job x.regs)) (call_outcome f x (overlay f.world x.context x.job x.regs))
  alike_overlay = subst (λ (j : ℕ). ActsAlike home r t s (call_outcome e x (overlay e.world x.context j x.regs)) (call_outcome f x (overlay f.world x.context j x.regs))) own_job
      (let both = overlay-alike home t s x.context e.world f.world x.regs like_here in alike_world _ _ _ _ (ap (answered x) both.answer) both.worlds)

  alike_restrict : ActsAlike home r t s (call_outcome e x (restrict e.world x.context x.regs)) (call_outcome f x (restrict f.world x.context x.regs))
  alike_restrict = let both = restrict-alike home t s x.context e.world f.world x.regs like_here in alike_world _ _ _ _ (ap (answered x) both.answer) both.worlds

  alike_switch : ActsAlike home r t s (switch_outcome t e x) (switch_outcome s f x)
  alike_switch = let both = switch-alike home t s x.context e.world f.world x.regs like_here in alike_world _ _ _ _ (ap (switched x) both.answer) both.worlds

  alike_ended : (first second : calls.Outcome) → OutcomesAlike home r t s first second → ActsAlike home r t s (ended_outcome x first) (ended_outcome x second)
  alike_ended first second both = record { thread = ap (plainly x) both.answer; worlds = both.worlds; channels = both.channels }

  alike_plain : (call : Option PlainCall) (args : List ℕ) → (plain e.world e.channels (three_times x.context) x.job call args).answer ≢ ends.Refused NoFrame →
      (plain f.world f.channels (three_times x.context) x.job call args).answer ≢ ends.Refused NoFrame →
      ActsAlike home r t s (ended_outcome x (plain e.world e.channels (three_times x.context) x.job call args)) (ended_outcome x (plain f.world f.channels (three_times x.context) x.job call args))
  alike_plain call args first second =
      subst (λ (j : ℕ). (plain e.world e.channels (three_times x.context) j call args).answer ≢ ends.Refused NoFrame → (plain f.world f.channels (three_times x.context) j call args).answer ≢ ends.Refused NoFrame →
      ActsAlike home r t s (ended_outcome x (plain e.world e.channels (three_times x.context) j call args)) (ended_outcome x (plain f.world f.channels (three_times x.context) j call args))) (sym job)
      (λ one two. alike_ended _ _ (plain-alike home r t s (three_times x.context) e.world f.world e.channels f.channels (record { memory = here; slots = here; cred = here }) like same call args one two))
      first second

  alike_syscall : (lw_syscall e.world e.channels x.context x.job x.regs).answer ≢ ends.Refused NoFrame → (lw_syscall f.world f.channels x.context x.job x.regs).answer ≢ ends.Refused NoFrame →
      ActsAlike home r t s (ended_outcome x (lw_syscall e.world e.channels x.context x.job x.regs)) (ended_outcome x (lw_syscall f.world f.channels x.context x.job x.regs))
  alike_syscall first second =
      subst (λ (j : ℕ). (lw_syscall e.world e.channels x.context j x.regs).answer ≢ ends.Refused NoFrame → (lw_syscall f.world f.channels x.context j x.regs).answer ≢ ends.Refused NoFrame →
      ActsAlike home r t s (ended_outcome x (lw_syscall e.world e.channels x.context j x.regs)) (ended_outcome x (lw_syscall f.world f.channels x.context j x.regs))) (sym job)
      (λ one two. alike_ended _ _ (syscall-alike home r t s x.context e.world f.world e.channels f.channels x.regs here like same one two))
      first second

  -- a call that is not refused for want of frames
  chosen_call : (number : ℕ) (env : Environment) → (CallIsFull number env x → ⊥) → (b : Bool) → eqb number LW_SYSCALL ≡ b →
      (cond b (lw_syscall env.world env.channels x.context x.job x.regs) (plain env.world env.channels (three_times x.context) x.job (plain_call number) (args_of x.regs))).answer ≢ ends.Refused NoFrame
  chosen_call number env spared b is full =
      spared (ap (λ c. (cond c (lw_syscall env.world env.channels x.context x.job x.regs) (plain env.world env.channels (three_times x.context) x.job (plain_call number) (args_of x.regs))).answer) is ∙ full)

  alike_guest : (number : ℕ) → (CallIsFull number e x → ⊥) → (CallIsFull number f x → ⊥) → ActsAlike home r t s (guest_calls number t e x) (guest_calls number s f x)
  unfolding guest_calls
  alike_guest number first second =
      chosen (eqb number LW_CREATE) _ _ _ _ (λ is. alike_create)
      (λ is. chosen (eqb number LW_SWITCH) _ _ _ _ (λ is. alike_switch)
      (λ is. chosen (eqb number LW_RESTRICT) _ _ _ _ (λ is. alike_restrict)
      (λ is. chosen (eqb number LW_OVERLAY) _ _ _ _ (λ is. alike_overlay)
      (λ is. chosen (eqb number LW_SYSCALL) _ _ _ _ (λ is. alike_syscall (chosen_call number e first true is) (chosen_call number f second true is))
      (λ is. alike_plain (plain_call number) (args_of x.regs) (chosen_call number e first false is) (chosen_call number f second false is))))))

  alike_shared : (i : Instr) (op : Op) → (IsFull e x i op → ⊥) → (IsFull f x i op → ⊥) → ActsAlike home r t s (shared_outcome guest_calls t e x i op) (shared_outcome guest_calls s f x i op)
  unfolding shared_outcome
  alike_shared i Ldb first second = alike_loaded i.rd _ _ (ap (λ (o : Option (List ℕ)). option_map (λ bytes. slice_index bytes 0) o) (asked.bytes (address x.regs i) 1))
  alike_shared i Ldw first second = alike_loaded i.rd _ _ (alike_word (address x.regs i))
  alike_shared i Stb first second = alike_store _ first second
  alike_shared i Stw first second = alike_word_stored _ _ first second
  alike_shared i Sys first second = alike_guest i.imm first second
  alike_shared i Halt first second = alike_thread _
  alike_shared i _ first second = alike_thread x

  alike_next : (next : Next) → (WantsFrames e x next → ⊥) → (WantsFrames f x next → ⊥) → ActsAlike home r t s (next_outcome guest_calls t e x next) (next_outcome guest_calls s f x next)
  unfolding next_outcome
  alike_next Pause first second = alike_thread x
  alike_next BadPc first second = alike_thread _
  alike_next (Shared i) first second = alike_shared i i.op first second

-- acts of a running thread in two environments that look alike to its job
pub acts_alike : (home : Home) (r t s : ℕ) (e f : Environment) (x : Thread) (advance : Advance) → x.context.job ≡ r + 1 → x.job ≡ r + 1 →
    LooksAlike home (r + 1) t s e.world f.world → channel_view r e.channels ≡ channel_view r f.channels → (WantsFrames e (with_regs x advance.after) advance.next → ⊥) → (WantsFrames f (with_regs x advance.after) advance.next → ⊥) →
    ActsAlike home r t s (advance_outcome guest_calls t e x advance) (advance_outcome guest_calls s f x advance)
unfolding advance_outcome
acts_alike home r t s e f x advance here job like same first second =
    let both = alike_next home r t s e f (with_regs x advance.after) here job like same advance.next first second in
    record { thread = ap (with_steps (x.budget - 1)) both.thread; worlds = both.worlds; channels = both.channels }
