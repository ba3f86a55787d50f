-- What is refused of kept homes: one more context of job 0, and a home that has changed.
use Rattle.std.proofs.Common.{◌≡◌, ◌≢◌, ap, cond, false, sym, Some, ◌∙◌}
use Rattle.std.proofs.lemmas.Bool.{false≢true}
use Rattle.std.specs.FinMap as fm
use Rattle.std.specs.Prelude.{is_some}
use Rattle.kernel_core.specs.Machine.{Machine}
use Rattle.kernel_core.specs.Start.{Inputs, start}
use Rattle.lwc_base.proofs.Facts.{orders}
use Rattle.lwc_base.specs.World.{Context, is_live}
use Rattle.lwc_types.proofs.Orders.{name-itself}
use Rattle.lwc_types.specs.declared.name.Name.{Name}
use Rattle.request_isolation.specs.Restored.{KeepsHomes, with_context}

module _ (inputs : Inputs) (m : Machine) (c : Name) (x : Context) (nobody : c.job ≡ 0) (keeps : KeepsHomes inputs (with_context m c x)) where
  start_has : fm.get (start inputs).environment.world.contexts c ≡ Some x
  start_has =
      let contexts = m.environment.world.contexts in
      sym (keeps.homes c nobody) ∙ fm.get-insert orders.names contexts c x c
      ∙ ap (λ b. cond b (Some x) (fm.get contexts c)) (name-itself c)

  pub one_more : is_live (start inputs).environment.world c ≡ false → ⊥
  one_more dead = false≢true (sym dead ∙ ap is_some start_has)

  pub changed : (y : Context) → fm.get (start inputs).environment.world.contexts c ≡ Some y → x ≢ y → ⊥
  changed y was other = let both : Some x ≡ Some y = sym start_has ∙ was in let same : x ≡ y = cc in other same
