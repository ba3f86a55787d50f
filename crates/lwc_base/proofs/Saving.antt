-- A context keeps registers for a thread, and all else stays as it was.
use Rattle.std.proofs.Common.{◌≡◌, ◌≢◌, ℕ, sym, ap, ◌∙◌, true, Some, arith}
use Rattle.std.proofs.lemmas.Bool.Decides.{nat_tests}
use Rattle.lwc_base.specs.Cells.{value_at}
use Rattle.lwc_base.specs.Clones.{AreApart, HaveInCommon}
use Rattle.lwc_base.specs.Facts.{ChangesContext}
use Rattle.lwc_base.specs.Saved.{save, with_saved}
use Rattle.lwc_base.specs.World.{World, Group, context, is_live}
use Rattle.lwc_base.proofs.Common.{value_at-same}
use Rattle.lwc_base.proofs.Lookups.{changes-change_context}
use Rattle.lwc_types.specs.declared.key.Key.{Key}
use Rattle.lwc_types.specs.declared.name.Name.{Name}
use Rattle.lwc_types.specs.declared.regs.Regs.{Regs}
use Rattle.lwc_types.proofs.Orders.{cases_name}

module _ (w : World) (c : Name) (t : ℕ) (regs : Regs) where
  pub saves : ChangesContext w c (with_saved t regs) (save w c t regs)
  unfolding save
  saves = changes-change_context w c _

  pub save-kept : is_live w c ≡ true → (context (save w c t regs) c).saved t ≡ Some regs
  save-kept live = grind (arith, nat_tests, saves.changed)

  pub save-other_threads : (s : ℕ) → s ≢ t → (context (save w c t regs) c).saved s ≡ (context w c).saved s
  save-other_threads s other = grind (arith, nat_tests, saves.changed, saves.same)

  pub save-begins : (context (save w c t regs) c).entry ≡ (context w c).entry
  save-begins = grind (arith, saves.changed, saves.same)

  -- each cell of each context stays
  pub save-cell : (d : Name) (k : Key) → (context (save w c t regs) d).cell k ≡ (context w d).cell k
  save-cell d k = grind (arith, cases_name, saves.changed, saves.same, saves.others)

  -- and so does what is under it
  pub save-value : (d : Name) (k : Key) → value_at (save w c t regs) d k ≡ value_at w d k
  save-value d k = value_at-same _ w d k (save-cell d k) (λ g _. ap (λ (x : Group). x.value k) (saves.groups g))

  -- what contexts have apart and in common stays
  pub save-apart : (a b : Name) (k : Key) → AreApart w a b k → AreApart (save w c t regs) a b k
  save-apart a b k apart = record {
    differ = apart.differ;
    no_group = λ g one two. apart.no_group g (sym (save-cell a k) ∙ one) (sym (save-cell b k) ∙ two);
  }

  pub save-common : (a b : Name) (k : Key) → HaveInCommon w a b k → HaveInCommon (save w c t regs) a b k
  save-common a b k both = record {
    group = both.group;
    live = saves.names.groups both.group ∙ both.live;
    first = save-cell a k ∙ both.first;
    second = save-cell b k ∙ both.second;
  }

-- the lemmas of what a save changes
pub ruleset saving = (saves, save-kept, save-other_threads, save-begins, save-value)
