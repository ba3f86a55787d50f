-- The contexts of threads as roots: what a step that cuts no link leaves reached, and what a reaped world keeps.
use Rattle.std.proofs.Common.{◌≡◌, ◌≢◌, ◌⊎◌, inl, inr, ℕ, zero, suc, ◌+◌, ◌<◌, refl, sym, ap, subst, ◌∙◌, true, false, ◌||◌, Option, Some, None, List, [], ◌∷◌, ◌++◌, length, arith}
use Rattle.std.specs.Ordering.{eq_by_cmp}
use Rattle.std.specs.Prelude.{All, is_none, map, slice_get, slice_set, unwrap_or}
use Rattle.std.specs.List.{range_with_len}
use Rattle.std.proofs.lemmas.List.FromFn.{length-map-range_with_len}
use Rattle.std.proofs.lemmas.List.{append_assoc, length-map}
use Rattle.std.proofs.lemmas.List.Elements.{All-cons, All-map, All-nil, All-weaker}
use Rattle.kernel_core.specs.Changes.{Keeps, LeavesNothing, change_by}
use Rattle.kernel_core.specs.Ready.{IsWithinLimits}
use Rattle.kernel_core.specs.Machine.{Serve, home_of, homes, homes_of}
use Rattle.kernel_core.specs.Step.{answered, contexts_of, roots, with_regs}
use Rattle.kernel_core.specs.declared.acting.Change.{Change}
use Rattle.kernel_core.specs.declared.acting.Change.TheVariants as changes
use Rattle.kernel_core.specs.declared.thread.Thread.{Thread}
use Rattle.lwc_base.specs.Cells.{put_slot, slot_at}
use Rattle.lwc_base.specs.Facts.{HasFewer}
use Rattle.lwc_base.specs.Life.{IsReaped, Root, is_among, is_of, reap}
use Rattle.lwc_base.specs.Saved.{save}
use Rattle.lwc_base.specs.Slots.{lowest_empty}
use Rattle.lwc_base.specs.Sound.{HasItsGroups, IsSound}
use Rattle.lwc_base.specs.Store.{Done, Piece, after_store, store}
use Rattle.lwc_base.specs.Summaries.{is_empty}
use Rattle.lwc_base.specs.World.{World, is_live}
use Rattle.lwc_base.specs.declared.answer.Answer.{Answer}
use Rattle.lwc_base.specs.declared.answer.Answer.TheVariants as answers
use Rattle.lwc_base.specs.declared.descriptor.Cap.{Cap}
use Rattle.lwc_base.specs.declared.descriptor.Descriptor.TheVariants.{Ctx}
use Rattle.lwc_types.specs.Names.{name_cmp}
use Rattle.lwc_types.specs.declared.key.TheConstants.{SLOTS}
use Rattle.lwc_types.specs.declared.name.Name.{Name}
use Rattle.lwc_types.specs.declared.refusal.Refusal.{Refusal}
use Rattle.lwc_types.specs.declared.regs.Regs.{Regs}
use Rattle.lwc_create.specs.Create as create
use Rattle.lwc_overlay.specs.RestrictCall.{IsRestriction}
use Rattle.lwc_base.proofs.Facts.{counts}
use Rattle.lwc_base.proofs.Reaped.{kept-by_way, live-was_live, was_group-reap}
use Rattle.lwc_base.proofs.Slots.{lowest_is_empty_slot}
use Rattle.lwc_base.proofs.Stored.{is_done}
use Rattle.lwc_base.proofs.StillReaped.{reaped-after_store, reaped-created, reaped-put_slot, reaped-switched}
use Rattle.lwc_types.proofs.Orders.{name-itself, same_name}
use Rattle.lwc_create.proofs.Allowed.{slot_there}
use Rattle.lwc_base.proofs.Life.{or_cases, or_right}

get-front : {T : Type 0} (xs ys : List T) (t : ℕ) (x : T) → slice_get xs t ≡ Some x → slice_get (xs ++ ys) t ≡ Some x
get-front [] ys t x found = cc
get-front (z ∷ xs) ys zero x found = found
get-front (z ∷ xs) ys (suc t) x found = get-front xs ys t x found

set-front : {T : Type 0} (xs ys : List T) (t : ℕ) (x y : T) → slice_get xs t ≡ Some x → slice_set (xs ++ ys) t y ≡ slice_set xs t y ++ ys
set-front [] ys t x y found = cc
set-front (z ∷ xs) ys zero x y found = refl
set-front (z ∷ xs) ys (suc t) x y found = ap (λ l. z ∷ l) (set-front xs ys t x y found)

-- the contexts of threads, where one of them is another one
contexts-set : (threads : List Thread) (t : ℕ) (y : Thread) → contexts_of (slice_set threads t y) ≡ slice_set (contexts_of threads) t y.context
contexts-set [] t y = refl
contexts-set (x ∷ xs) zero y = refl
contexts-set (x ∷ xs) (suc t) y = ap (λ l. x.context ∷ l) (contexts-set xs t y)

-- the homes of one worker more
pub homes-more : (from count : ℕ) → map home_of (range_with_len from (count + 1)) ≡ map home_of (range_with_len from count) ++ home_of (from + count) ∷ []
homes-more from zero = let same : from + 0 ≡ from = omega arith in ap (λ n. home_of n ∷ []) (sym same)
homes-more from (suc count) =
    let same : from + 1 + count ≡ from + suc count = omega arith in
    let longer : suc count + 1 ≡ suc (count + 1) = omega arith in
    ap (λ n. map home_of (range_with_len from n)) longer ∙ ap (λ l. home_of from ∷ l) (homes-more (from + 1) count ∙ ap (λ n. map home_of (range_with_len (from + 1) count) ++ home_of n ∷ []) same)

pub home_more : (threads : List Thread) (t : ℕ) (names more : List Name) → names ≡ contexts_of threads ++ homes_of t → more ≡ names ++ home_of t ∷ [] → more ≡ contexts_of threads ++ homes_of (t + 1)
home_more threads t names more so_far pushed =
    let same : 0 + t ≡ t = omega arith in
    pushed ∙ ap (λ (l : List Name). l ++ home_of t ∷ []) so_far ∙ append_assoc (contexts_of threads) (homes_of t) (home_of t ∷ [])
    ∙ ap (λ (l : List Name). contexts_of threads ++ l) (sym (homes-more 0 t ∙ ap (λ n. homes_of t ++ home_of n ∷ []) same))

pub length-homes : (t : ℕ) → length (homes_of t) ≡ t
length-homes t = length-map-range_with_len home_of 0 t

pub length-contexts : (threads : List Thread) → length (contexts_of threads) ≡ length threads
length-contexts threads = length-map threads (λ (y : Thread). y.context)

append-none : (names : List Name) → names ++ [] ≡ names
append-none [] = refl
append-none (c ∷ cs) = ap (λ l. c ∷ l) (append-none cs)

-- the contexts of threads are live where each one's is
pub live_roots : (w : World) (threads : List Thread) → All (λ (x : Thread). is_live w x.context ≡ true) threads → All (λ c. is_live w c ≡ true) (contexts_of threads)
live_roots w threads live = All-map (λ c. is_live w c ≡ true) (λ (x : Thread). x.context) threads live

context_of : (threads : List Thread) (t : ℕ) (x : Thread) → slice_get threads t ≡ Some x → slice_get (contexts_of threads) t ≡ Some x.context
context_of [] t x found = cc
context_of (y ∷ ys) zero x found = let same : y ≡ x = cc in ap (λ (z : Thread). Some z.context) same
context_of (y ∷ ys) (suc t) x found = context_of ys t x found

module _ (threads : List Thread) (serve : Option Serve) (t : ℕ) (x : Thread) (found : slice_get threads t ≡ Some x) where
  root_of : slice_get (roots threads serve) t ≡ Some x.context
  root_of = get-front (contexts_of threads) (homes serve) t x.context (context_of threads t x found)

  roots-set : (y : Thread) → roots (slice_set threads t y) serve ≡ slice_set (roots threads serve) t y.context
  roots-set y =
      ap (λ (l : List Name). l ++ homes serve) (contexts-set threads t y)
      ∙ sym (set-front (contexts_of threads) (homes serve) t x.context y.context (context_of threads t x found))

-- a list in which an element is put in its own place
set-same : (names : List Name) (t : ℕ) (c : Name) → slice_get names t ≡ Some c → slice_set names t c ≡ names
set-same [] t c found = refl
set-same (d ∷ ds) zero c found = let same : d ≡ c = cc in ap (λ e. e ∷ ds) (sym same)
set-same (d ∷ ds) (suc t) c found = ap (λ l. d ∷ l) (set-same ds t c found)

-- a change after which nothing is left to drop, for a thread that stays in its context
pub leaves_same : (w v : World) (c : Name) → ((contexts : List Name) → IsReaped w contexts → IsReaped v contexts) → LeavesNothing w c v c
leaves_same w v c stays contexts t found reaped = subst (IsReaped v) (sym (set-same contexts t c found)) (stays contexts reaped)

-- a store that is done
pub leaves_stored : (w v : World) (c : Name) (job : ℕ) (piece : Piece) → store w c job piece ≡ Done v → LeavesNothing w c v c
leaves_stored w v c job piece done =
    subst (λ (u : World). LeavesNothing w c u c) (sym (is_done w c job piece v done).after) (leaves_same w (after_store w c job piece) c (λ contexts. reaped-after_store w contexts c job piece))

-- the end of a call that made a context
created_by : (w v : World) (c : Name) (job : ℕ) (regs after : Regs) (slot : ℕ) (refusal : Option Refusal) → create.ended w c job regs slot refusal ≡ (answers.Done after, v) →
    (refusal ≡ None) × (v ≡ create.created w c job regs slot)
created_by w v c job regs after slot (Some r) is = let other = ap (λ (p : Answer × World). p.0) is in cc
created_by w v c job regs after slot None is = (refl, sym (ap (λ (p : Answer × World). p.1) is))

-- the lowest empty slot was found
slot_of : (o : Option ℕ) → is_none o ≡ false → o ≡ Some (unwrap_or o 0)
slot_of None there = cc
slot_of (Some n) there = refl

-- a context that was made
pub leaves_created : (w v : World) (c : Name) (job : ℕ) (regs after : Regs) → IsSound w → is_live w c ≡ true → create.create w c job regs ≡ (answers.Done after, v) → LeavesNothing w c v c
unfolding create.create
leaves_created w v c job regs after sound live done =
    let ended = created_by w v c job regs after _ _ done in
    let slot = lowest_is_empty_slot w c _ (slot_of (lowest_empty w c) (slot_there w c job regs ended.0)) in
    subst (λ (u : World). LeavesNothing w c u c) (sym ended.1)
    (leaves_same w _ c (λ contexts. reaped-created w c job _ _ sound.fresh contexts _ _ sound.groups live slot.0 slot.1))

-- a capability that was restricted
pub leaves_restricted : (w v : World) (c : Name) (regs : Regs) → IsRestriction w v c regs → LeavesNothing w c v c
leaves_restricted w v c regs is =
    subst (λ (u : World). LeavesNothing w c u c) (sym is.made)
    (leaves_same w _ c (λ contexts. reaped-put_slot w contexts c _ _ (λ d of. sym (ap (is_of d) is.had) ∙ of)))

-- a call that ended by its answer
pub ended_keeps : (w v : World) (x y : Thread) (answer : Answer) (accepted change : Change) → ((regs : Regs) → answer ≡ answers.Done regs → Keeps accepted w x v (with_regs x regs)) →
    ((refusal : Refusal) → answer ≡ answers.Refused refusal → v ≡ w) → change ≡ change_by answer accepted → y ≡ answered x answer → Keeps change w x v y
ended_keeps w v x y answer accepted change done refused changed ended =
    subst (λ (c : Change). Keeps c w x v y) (sym changed) (subst (λ (z : Thread). Keeps (change_by answer accepted) w x v z) (sym ended) (by_answer answer done refused))
  where
    by_answer : (a : Answer) → ((regs : Regs) → a ≡ answers.Done regs → Keeps accepted w x v (with_regs x regs)) → ((refusal : Refusal) → a ≡ answers.Refused refusal → v ≡ w) →
        Keeps (change_by a accepted) w x v (answered x a)
    by_answer (answers.Done regs) done refused = done regs refl
    by_answer (answers.Refused r) done refused = (refused r refl, refl)

-- a step that may cut no link leaves nothing to drop
pub uncut : (change : Change) (w v : World) (threads : List Thread) (serve : Option Serve) (t : ℕ) (x y : Thread) → Keeps change w x v y → change ≢ changes.Links → slice_get threads t ≡ Some x →
    IsReaped w (roots threads serve) → IsReaped v (roots (slice_set threads t y) serve)
uncut changes.Thread w v threads serve t x y keeps other found reaped =
    subst (IsReaped v) (sym (roots-set threads serve t x found y ∙ ap (slice_set (roots threads serve) t) keeps.1 ∙ set-same (roots threads serve) t x.context (root_of threads serve t x found)))
    (subst (λ (u : World). IsReaped u (roots threads serve)) (sym keeps.0) reaped)
uncut changes.World w v threads serve t x y keeps other found reaped =
    subst (IsReaped v) (sym (roots-set threads serve t x found y)) (keeps (roots threads serve) t (root_of threads serve t x found) reaped)
uncut changes.Links w v threads serve t x y keeps other found reaped = absurd (other refl)

first_is : (c : Name) (names : List Name) → is_among (c ∷ names) c ≡ true
first_is c names = ap (λ b. b || is_among names c) (name-itself c)

pub among_front : (xs ys : List Name) (c : Name) → is_among xs c ≡ true → is_among (xs ++ ys) c ≡ true
among_front [] ys c among = cc
among_front (d ∷ xs) ys c among =
    elim (or_cases (eq_by_cmp name_cmp c d) (is_among xs c) among) [
      | inl here ↦ ap (λ b. b || is_among (xs ++ ys) c) here
      | inr later ↦ or_right _ _ (among_front xs ys c later)
    ]

pub among_back : (xs ys : List Name) (c : Name) → is_among ys c ≡ true → is_among (xs ++ ys) c ≡ true
among_back [] ys c among = among
among_back (d ∷ xs) ys c among = or_right _ _ (among_back xs ys c among)

each_context : (threads : List Thread) → All (λ (x : Thread). is_among (contexts_of threads) x.context ≡ true) threads
each_context [] = All-nil _
each_context (x ∷ xs) =
    All-cons (λ (y : Thread). is_among (contexts_of (x ∷ xs)) y.context ≡ true) x xs (first_is x.context (contexts_of xs))
    (All-weaker (λ (y : Thread). is_among (contexts_of xs) y.context ≡ true) (λ (y : Thread). is_among (contexts_of (x ∷ xs)) y.context ≡ true) (λ y is. or_right _ _ is) xs (each_context xs))

-- each thread's context is a root
pub each_root : (threads : List Thread) (serve : Option Serve) → All (λ (x : Thread). is_among (roots threads serve) x.context ≡ true) threads
each_root threads serve =
    All-weaker (λ (x : Thread). is_among (contexts_of threads) x.context ≡ true) (λ (x : Thread). is_among (roots threads serve) x.context ≡ true)
    (λ x among. among_front (contexts_of threads) (homes serve) x.context among) threads (each_context threads)

-- a root that is put in the place of another one, and what the other roots were
pub put_root : (names : List Name) (t : ℕ) (c d : Name) → slice_get names t ≡ Some c → is_among (slice_set names t d) d ≡ true
put_root [] t c d found = cc
put_root (e ∷ es) zero c d found = first_is d es
put_root (e ∷ es) (suc t) c d found = or_right _ _ (put_root es t c d found)

pub was_root : (names : List Name) (t : ℕ) (c d : Name) → slice_get names t ≡ Some c → (e : Name) → is_among names e ≡ true → (is_among (slice_set names t d) e ≡ true) ⊎ (e ≡ c)
was_root [] t c d found e among = cc
was_root (f ∷ fs) zero c d found e among =
    let same : f ≡ c = cc in
    elim (or_cases (eq_by_cmp name_cmp e f) (is_among fs e) among) [
      | inl here ↦ inr (same_name e f here ∙ same)
      | inr later ↦ inl (or_right _ _ later)
    ]
was_root (f ∷ fs) (suc t) c d found e among =
    elim (or_cases (eq_by_cmp name_cmp e f) (is_among fs e) among) [
      | inl here ↦ inl (ap (λ b. b || is_among (slice_set fs t d) e) here)
      | inr later ↦ elim (was_root fs t c d found e later) [ inl still ↦ inl (or_right _ _ still) | inr is ↦ inr is ]
    ]

-- a thread that goes from a context to a live one, an empty slot of which gets a descriptor of the first, cuts no link
pub leaves_switched : (w : World) (c d : Name) (t : ℕ) (regs : Regs) (n : ℕ) (cap : Cap) → HasItsGroups w → is_live w c ≡ true → is_live w d ≡ true → n < SLOTS →
    is_empty (slot_at w d n) ≡ true → LeavesNothing w c (put_slot (save w c t regs) d n (Ctx c cap)) d
leaves_switched w c d t regs n cap groups here there within empty contexts place found =
    reaped-switched w contexts (slice_set contexts place d) c d t regs n cap groups here there within empty (put_root contexts place c d found) (was_root contexts place c d found)

-- a root that lives is kept
pub root_kept : (w : World) (names : List Name) (c : Name) → is_live w c ≡ true → is_among names c ≡ true → is_live (reap w names) c ≡ true
root_kept w names c live among = kept-by_way w names c live (Root c among)

-- a world within its limits stays so
pub limits_reaped : (w : World) (names : List Name) (jobs : List ℕ) → IsWithinLimits w jobs → IsWithinLimits (reap w names) jobs
limits_reaped w names jobs limits =
    let fewer : HasFewer w (reap w names) = counts.reaped w names in
    record {
      contexts = λ c live. limits.contexts c (live-was_live w names c live);
      groups = λ g live. limits.groups g (was_group-reap w names g live);
      homes = omega (arith, fewer.live_of 0, limits.homes);
      few_contexts = λ job. omega (arith, fewer.live_of job, limits.few_contexts job);
      few_groups = λ job. omega (arith, fewer.groups_of job, limits.few_groups job);
    }
