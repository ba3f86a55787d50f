-- Machines without what a vault hides: its bytes, the registers that it keeps, and those of threads that stand in it.
use Rattle.std.proofs.Common.{◌≡◌, ◌≢◌, ℕ, refl, sym, ap, subst, ◌∙◌, Bool, true, false, cond, Option, Some, None, List, [], ◌∷◌, ◌++◌, map}
use Rattle.std.specs.Prelude.{not, slice_get, slice_set}
use Rattle.std.specs.Option.{option_map, option_map_or}
use Rattle.std.proofs.lemmas.List.{map-set}
use Rattle.std.proofs.lemmas.Option.{slice_get-map}
use Rattle.guest_isa.specs.declared.instr.Instr.{Instr}
use Rattle.guest_machine.specs.Advances.{advanced}
use Rattle.kernel_core.specs.Machine.{Environment, Machine, Serve, has_ended, homes, is_ended}
use Rattle.kernel_core.specs.Runs.{frames_of}
use Rattle.kernel_core.specs.Start.{vault_name}
use Rattle.kernel_core.specs.Step.{AfterStep, after_outcome, after_thread, contexts_of, guest_calls, only, roots, step, step_by, thread_outcome, unchanged, with_regs, with_status, with_world}
use Rattle.kernel_core.specs.declared.thread.Thread.{Thread}
use Rattle.lwc_base.specs.Life as life
use Rattle.lwc_types.specs.Registers.{fresh_registers}
use Rattle.lwc_types.specs.declared.fault.ThreadStatus.{ThreadStatus}
use Rattle.lwc_types.specs.declared.fault.ThreadStatus.TheVariants as status
use Rattle.lwc_types.specs.declared.regs.Regs.{Regs}
use Rattle.lwc_vault.proofs.Stepping.{advance-blank, blank_env, cover, tells_outside}
use Rattle.lwc_vault.specs.Blanks.{ActsOutside}
use Rattle.lwc_vault.specs.Told.{stands_inside}
use Rattle.world_views.proofs.BlankChanges.{blanks-alike}
use Rattle.world_views.specs.Blank.{blank, tells_registers}
use Rattle.world_views.specs.Outside.{IsOutside}

-- the machine without what the vault hides
abbrev pub hide : Machine → Machine
hide m = record m { threads = map (cover false) m.threads; environment = blank_env false m.environment }

-- the machine without the registers of threads that stand in the vault
abbrev pub hide_threads : Machine → Machine
hide_threads m = record m { threads = map (cover false) m.threads }

abbrev pub hide_after : AfterStep → AfterStep
hide_after a = record a { thread = cover false a.thread; environment = blank_env false a.environment }

abbrev pub cover_after : AfterStep → AfterStep
cover_after a = record a { thread = cover false a.thread }

-- a thread is hidden once
cover-again : (x : Thread) → cover false (cover false x) ≡ cover false x
cover-again x = ap (with_regs x) (by (tells_registers false vault_name x.context))
  where
    by : (b : Bool) → cond b (cond b x.regs (fresh_registers 0)) (fresh_registers 0) ≡ cond b x.regs (fresh_registers 0)
    by true = refl
    by false = refl

-- who is not in the vault is not hidden
pub cover-outside : (x : Thread) → x.context ≢ vault_name → cover false x ≡ x
cover-outside x other = ap (λ b. with_regs x (cond b x.regs (fresh_registers 0))) (tells_outside false x.context other)

-- who is has no registers to tell
pub cover-inside : (x : Thread) → stands_inside x ≡ true → (regs : Regs) → cover false (with_regs x regs) ≡ cover false x
cover-inside x inside regs =
    ap (λ b. with_regs x (cond (not b) regs (fresh_registers 0))) inside ∙ sym (ap (λ b. with_regs x (cond (not b) x.regs (fresh_registers 0))) inside)

all-again : (xs : List Thread) → map (cover false) (map (cover false) xs) ≡ map (cover false) xs
all-again [] = refl
all-again (x ∷ xs) = λ i. cover-again x i ∷ all-again xs i

contexts-cover : (xs : List Thread) → contexts_of (map (cover false) xs) ≡ contexts_of xs
contexts-cover [] = refl
contexts-cover (x ∷ xs) = ap (λ cs. x.context ∷ cs) (contexts-cover xs)

-- what a step leaves is hidden before or after the contexts are dropped that are not reached
pub after-hide : (m : Machine) (t : ℕ) (o : Option AfterStep) → hide (after_outcome m t o) ≡ after_outcome (hide m) t (option_map hide_after o)
after-hide m t None = refl
after-hide m t (Some a) = λ i. record m { threads = sets i; environment = with_world a.environment (worlds i); serve = a.serve }
  where
    sets : map (cover false) (slice_set m.threads t a.thread) ≡ slice_set (map (cover false) m.threads) t (cover false a.thread)
    sets = map-set (cover false) m.threads t a.thread

    names : contexts_of (slice_set m.threads t a.thread) ≡ contexts_of (slice_set (map (cover false) m.threads) t (cover false a.thread))
    names = sym (contexts-cover (slice_set m.threads t a.thread)) ∙ ap contexts_of sets

    worlds : blank false vault_name (life.reap a.environment.world (roots (slice_set m.threads t a.thread) a.serve))
        ≡ life.reap (blank false vault_name a.environment.world) (roots (slice_set (map (cover false) m.threads) t (cover false a.thread)) a.serve)
    worlds =
        sym ((blanks-alike false vault_name a.environment.world).reap (roots (slice_set m.threads t a.thread) a.serve))
        ∙ ap (λ cs. life.reap (blank false vault_name a.environment.world) (cs ++ homes a.serve)) names

abbrev hidden_in : Machine → List Thread
hidden_in m = map (cover false) m.threads

hidden-again : (m : Machine) → hide_threads (hide m) ≡ hide m
hidden-again m = λ i. record (hide m) { threads = all-again m.threads i }

cover-after : (m : Machine) (t : ℕ) (o : Option AfterStep) → hide_threads (after_outcome (hide m) t o) ≡ after_outcome (hide m) t (option_map cover_after o)
cover-after m t None = hidden-again m
cover-after m t (Some a) = λ i. record m { threads = sets i; environment = with_world a.environment (life.reap a.environment.world (names i ++ homes a.serve)); serve = a.serve }
  where
    sets : map (cover false) (slice_set (hidden_in m) t a.thread) ≡ slice_set (hidden_in m) t (cover false a.thread)
    sets = map-set (cover false) (hidden_in m) t a.thread ∙ ap (λ xs. slice_set xs t (cover false a.thread)) (all-again m.threads)

    names : contexts_of (slice_set (hidden_in m) t a.thread) ≡ contexts_of (slice_set (hidden_in m) t (cover false a.thread))
    names = sym (contexts-cover (slice_set (hidden_in m) t a.thread)) ∙ ap contexts_of sets

-- what a thread outside leaves, by its status
outcome-hide : (t : ℕ) (e : Environment) (text : List Instr) (x : Thread) (s : ThreadStatus) → (s ≡ status.Running → IsOutside vault_name x.context x.job e.world) →
    option_map cover_after (thread_outcome guest_calls t (blank_env false e) None text (cover false x) s) ≡ option_map hide_after (thread_outcome guest_calls t e None text x s)
outcome-hide t e text x status.Running outside =
    ap (λ y. option_map cover_after (thread_outcome guest_calls t (blank_env false e) None text y status.Running)) (cover-outside x (outside refl).context)
    ∙ ap (λ o. Some (only None o)) (advance-blank false t e x (outside refl) (advanced text x.regs))
outcome-hide t e text x status.Idle outside = ap (λ y. Some (only None (unchanged (blank_env false e) (with_status y (status.Done 0))))) (cover-again x)
outcome-hide t e text x (status.Done code) outside = refl
outcome-hide t e text x (status.Faulted f) outside = refl

-- a step from outside is the same step where the vault is hidden; who enters it is hidden afterwards
pub step-outside : (m : Machine) (t : ℕ) → m.serve ≡ None → ActsOutside m t → hide (step m t) ≡ hide_threads (step (hide m) t)
unfolding step_by
step-outside m t run outside =
    by (slice_get m.threads t) refl
    ∙ ap (λ o. hide_threads (after_thread guest_calls (hide m) t o)) (sym (slice_get-map (cover false) m.threads t))
  where
    by : (o : Option Thread) → slice_get m.threads t ≡ o → hide (after_thread guest_calls m t o) ≡ hide_threads (after_thread guest_calls (hide m) t (option_map (cover false) o))
    by None is = sym (hidden-again m)
    by (Some x) is =
        after-hide m t (thread_outcome guest_calls t m.environment m.serve m.text x x.status)
        ∙ ap (after_outcome (hide m) t)
        (subst (λ (s : Option Serve). option_map hide_after (thread_outcome guest_calls t m.environment s m.text x x.status)
        ≡ option_map cover_after (thread_outcome guest_calls t (blank_env false m.environment) s m.text (cover false x) x.status)) (sym run)
        (sym (outcome-hide t m.environment m.text x x.status (outside x is))))
        ∙ sym (cover-after m t (thread_outcome guest_calls t (blank_env false m.environment) m.serve m.text (cover false x) x.status))

abbrev ended_at : Option Thread → Bool
ended_at o = option_map_or (λ (x : Thread). has_ended x.status) o true

pub ended-hide : (m : Machine) (t : ℕ) → is_ended (hide m) t ≡ is_ended m t
unfolding is_ended
ended-hide m t = ended (slice_get m.threads t) (slice_get-map (cover false) m.threads t)
  where
    by : (o : Option Thread) → ended_at (option_map (cover false) o) ≡ ended_at o
    by None = refl
    by (Some x) = refl

    ended : (o : Option Thread) → slice_get (map (cover false) m.threads) t ≡ option_map (cover false) o → ended_at (slice_get (map (cover false) m.threads) t) ≡ ended_at o
    ended o is = ap ended_at is ∙ by o

pub frames-hide : (m : Machine) → frames_of (hide m) ≡ frames_of m
frames-hide m = (blanks-alike false vault_name m.environment.world).used
