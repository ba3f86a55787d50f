-- The table of calls under traps: each call acts, and without traps it is the kernel's.
use Rattle.std.proofs.Common.{◌≡◌, ◌≢◌, ℕ, refl, ap, ◌∙◌, Bool, true, false, cond, eqb, ◌&&◌, ◌||◌, Option, Some, None, arith}
use Rattle.std.specs.Prelude.{is_some, not}
use Rattle.std.specs.FinMap as fm
use Rattle.std.specs.List.{list_any}
use Rattle.std.specs.Option.{option_and_then, option_map_or}
use Rattle.std.specs.Ordering.{eq_by_cmp}
use Rattle.std.proofs.lemmas.Bool.{ne_eqb}
use Rattle.kernel_core.proofs.Outcomes.{Acts, AllAct, acts_chosen, acts_regs, guest_calls_act}
use Rattle.kernel_core.proofs.Worlds.{grows_more, grows_switched, well_switched}
use Rattle.kernel_core.specs.Machine.{Environment}
use Rattle.kernel_core.specs.Step.{guest_calls, unchanged, with_result}
use Rattle.kernel_core.specs.declared.calling.TheConstants.{LW_OVERLAY, LW_SWITCH, LW_SYSCALL}
use Rattle.kernel_core.specs.declared.thread.Thread.{Thread}
use Rattle.lwc_base.specs.Capabilities.{empty_cap}
use Rattle.lwc_base.specs.Refusals.{first_refusal}
use Rattle.lwc_base.specs.Slots.{lowest_empty}
use Rattle.lwc_base.specs.World.{is_live}
use Rattle.lwc_base.specs.declared.descriptor.Descriptor.TheVariants.{Ctx}
use Rattle.lwc_types.specs.Names.{name_cmp}
use Rattle.lwc_types.specs.declared.name.Name.{Name}
use Rattle.lwc_monitor.specs.Calls.{by_monitor, calls_under, is_forbidden, refused_by, trapped_outcome, trapped_to, trapping}
use Rattle.lwc_monitor.specs.Traps.{Traps, forbids_overlay, monitor_of_named, named, names_anothers, shares_slots, trap_rows}
use Rattle.lwc_monitor.specs.declared.numbers.TheConstants.{EXIT, LW_TRAP, TRAPPED}
use Rattle.lwc_monitor.specs.declared.trapping.TrapRefusal.{TrapRefusal}
use Rattle.lwc_overlay.specs.Named.{items_of}
use Rattle.lwc_switch.specs.Switch.{switched}
use Rattle.res_spec.specs.declared.items.SpecCall.TheVariants as spec_call

acts_trapping : (e : Environment) (x : Thread) (first : Option TrapRefusal) → Acts e x (unchanged e (trapping x first))
acts_trapping e x None = acts_regs e x (with_result x.regs 0 0)
acts_trapping e x (Some refusal) = acts_regs e x (with_result x.regs 0 _)

acts_to : (number t : ℕ) (e : Environment) (x : Thread) (m : Name) (live : Bool) (slot : Option ℕ) → is_live e.world m ≡ live → Acts e x (trapped_to number t e x m live slot)
acts_to number t e x m false slot is = acts_regs e x (with_result x.regs 0 _)
acts_to number t e x m true None is = acts_regs e x (with_result x.regs 0 _)
acts_to number t e x m true (Some slot) is = record {
  job = refl;
  left = λ more n. omega arith;
  ends = λ well live.
      let grows = grows_switched x.job e.world x.context m t _ slot (Ctx x.context empty_cap) in
      record {
        changes = record {
          grows = grows_more x.job 0 2 e.world (switched e.world x.context t x.regs m slot) (omega arith) grows;
          well = well_switched e.world x.context m t _ slot empty_cap e.channels live well;
          inputs = (refl, refl);
        };
        live = grows.live m is;
      };
}

acts_by : (traps : Traps) (found : Option Name) (number t : ℕ) (e : Environment) (x : Thread) → Acts e x (by_monitor traps found number t e x)
unfolding trapped_outcome
acts_by traps (Some m) number t e x = acts_chosen e x (eqb number EXIT) (guest_calls number t e x) _ (guest_calls_act number t e x) (acts_to number t e x m (is_live e.world m) (lowest_empty e.world m) refl)
acts_by traps None number t e x =
    acts_chosen e x (eqb number LW_TRAP) (unchanged e (trapping x (first_refusal (trap_rows traps e.world x.context x.regs)))) _ (acts_trapping e x _)
    (acts_chosen e x (is_forbidden traps number e.world x.context x.regs) (unchanged e (refused_by x TRAPPED)) (guest_calls number t e x) (acts_regs e x (with_result x.regs 0 _)) (guest_calls_act number t e x))

-- each call under traps acts
pub acts_under : (traps : Traps) → AllAct (calls_under traps)
unfolding calls_under
acts_under traps number t e x = acts_by traps (fm.get traps x.context) number t e x

none_there : (o : Option Name) → option_and_then (fm.get (fm.empty {K = Name} {X = Name} {R = name_cmp})) o ≡ None
none_there None = refl
none_there (Some d) = fm.get-empty name_cmp d

neither : (a b c d : Bool) → c ≡ false → d ≡ false → (a && c || b && d) ≡ false
neither true true c d first second = ap (λ x. x || d) first ∙ second
neither true false c d first second = ap (λ x. x || false) first
neither false true c d first second = second
neither false false c d first second = refl

second_none : (a b : Bool) → b ≡ false → (a && b) ≡ false
second_none true b none = none
second_none false b none = refl

nothing_forbidden : (number : ℕ) (e : Environment) (x : Thread) → is_forbidden fm.empty number e.world x.context x.regs ≡ false
unfolding is_forbidden names_anothers forbids_overlay
nothing_forbidden number e x =
    let none : monitor_of_named fm.empty e.world x.context x.regs ≡ None = none_there (named e.world x.context x.regs) in
    neither (eqb number LW_SWITCH || eqb number LW_SYSCALL) (eqb number LW_OVERLAY) _ _ (ap (λ o. option_map_or (λ m. not (eq_by_cmp name_cmp x.context m)) o false) none)
    (second_none _ _ (ap (λ o. option_map_or (λ m. not (eq_by_cmp name_cmp x.context m)) o false || (is_some o && list_any shares_slots (items_of e.world x.context spec_call.Overlay x.regs))) none))

-- without traps each call but the one that traps is the kernel's
pub without_traps : (number t : ℕ) (e : Environment) (x : Thread) → number ≢ LW_TRAP → calls_under fm.empty number t e x ≡ guest_calls number t e x
unfolding calls_under
without_traps number t e x other =
    ap (λ o. by_monitor fm.empty o number t e x) (fm.get-empty name_cmp x.context)
    ∙ ap (λ b. cond b (unchanged e (trapping x (first_refusal (trap_rows fm.empty e.world x.context x.regs)))) (cond (is_forbidden fm.empty number e.world x.context x.regs) (unchanged e (refused_by x TRAPPED)) (guest_calls number t e x))) (ne_eqb number LW_TRAP other)
    ∙ ap (λ b. cond b (unchanged e (refused_by x TRAPPED)) (guest_calls number t e x)) (nothing_forbidden number e x)
