-- A call of a request writes nothing to the console, since no slot of its job has a descriptor of it.
use Rattle.std.proofs.Common.{◌≡◌, ℕ, refl, subst, Option, List}
use Rattle.std.specs.Prelude.{slice_index}
use Rattle.guest_call.specs.Guest.{descriptor_for}
use Rattle.lwc_base.specs.Channels.{Channels}
use Rattle.lwc_base.specs.Refusals.{first_refusal}
use Rattle.lwc_base.specs.World.{World}
use Rattle.lwc_base.specs.declared.descriptor.Descriptor.{Descriptor}
use Rattle.lwc_base.specs.declared.descriptor.Descriptor.TheVariants.{Empty, Console, File, Request, Reply, Ctx}
use Rattle.lwc_types.specs.declared.name.Name.{Name}
use Rattle.lwc_types.specs.declared.refusal.Refusal.{Refusal}
use Rattle.lwc_types.specs.declared.regs.Regs.{Regs}
use Rattle.lwc_syscall.specs.Plain.{Outcome, plain, written}
use Rattle.lwc_syscall.specs.Plain as calls
use Rattle.lwc_syscall.specs.Syscall as syscalls
use Rattle.lwc_syscall.specs.declared.answer.CallAnswer.{CallAnswer}
use Rattle.lwc_syscall.specs.declared.calls.CallContexts.{CallContexts}
use Rattle.lwc_syscall.specs.declared.plain_call.PlainCall.{PlainCall}
use Rattle.world_views.proofs.JobPlainly.{all_calls, by_refusal}
use Rattle.world_views.proofs.Seen.{descriptor_fits, three_own}
use Rattle.world_views.specs.ByJob.{Home, IsSlotOf, KeepsJobs}
use Rattle.world_views.specs.Ends.{AreOf}

module _ (home : Home) where
  -- a plain call over contexts of a job
  module _ (own : ℕ) (targets : CallContexts) (w : World) (io : Channels) (of : AreOf own targets) (keeps : KeepsJobs home w) where
    Quiet : Outcome → Type 0
    Quiet outcome = outcome.io.console ≡ io.console

    end_quiet : (first : Option Refusal) (done : Outcome) → Quiet done → Quiet (calls.refused_or w io done first)
    unfolding Quiet
    end_quiet first done same = by_refusal Quiet w io done first (λ refusal is. refl) (λ is. same)

    written_quiet : (value : Descriptor) (bytes : List ℕ) → IsSlotOf own value → (written io value bytes).console ≡ io.console
    written_quiet Console bytes fits = absurd fits
    written_quiet (Reply q) bytes fits = refl
    written_quiet Empty bytes fits = refl
    written_quiet (File file at) bytes fits = refl
    written_quiet (Request q at) bytes fits = refl
    written_quiet (Ctx name cap) bytes fits = refl

    keeps_io : (answer : CallAnswer) (v : World) → Quiet (record { answer = answer; world = v; io = io })
    unfolding Quiet
    keeps_io answer v = refl

    writes_io : (answer : CallAnswer) (v : World) (value : Descriptor) (bytes : List ℕ) → IsSlotOf own value → Quiet (record { answer = answer; world = v; io = written io value bytes })
    unfolding Quiet
    writes_io answer v value bytes fits = written_quiet value bytes fits

    quiet_plain : (call : Option PlainCall) (args : List ℕ) → Quiet (plain w io targets own call args)
    unfolding calls.reading calls.writing
    quiet_plain call args =
        let fits : IsSlotOf own (descriptor_for w targets.slots (slice_index args 0)) =
        subst (λ j. IsSlotOf j (descriptor_for w targets.slots (slice_index args 0))) of.slots (descriptor_fits home targets.slots w keeps.kept (slice_index args 0)) in
        all_calls (λ a b. Quiet a) w w io io targets own call args (record {
          opens = search (end_quiet, keeps_io);
          closes = search (end_quiet, keeps_io);
          copies = search (end_quiet, keeps_io);
          reads = λ is. search (end_quiet, keeps_io);
          writes = search (end_quiet, writes_io);
          maps = λ present. search (end_quiet, keeps_io);
          tells = search keeps_io;
          becomes = search (end_quiet, keeps_io);
          exits = search keeps_io;
          refuses = search keeps_io;
        })

    pub plain_quiet : (call : Option PlainCall) (args : List ℕ) → (plain w io targets own call args).io.console ≡ io.console
    unfolding Quiet
    plain_quiet call args = quiet_plain call args

  -- the call over contexts that a mask chooses
  pub syscall_quiet : (c : Name) (w : World) (io : Channels) (regs : Regs) → KeepsJobs home w → (syscalls.lw_syscall w io c c.job regs).io.console ≡ io.console
  unfolding syscalls.lw_syscall
  syscall_quiet c w io regs keeps =
      by_refusal (λ outcome. outcome.io.console ≡ io.console) w io _ (first_refusal (syscalls.refusals w c regs)) (λ refusal is. refl)
      (λ is. plain_quiet c.job (syscalls.targets_of w c regs) w io (three_own home c w regs keeps.kept) keeps (syscalls.inner_call regs) (syscalls.inner_args regs))
