-- A context that is added: its job counts it first, and then it is put in.
use Rattle.std.proofs.Common.{refl, ◌≡◌, ℕ, ◌+◌, ◌<◌, ◌≤◌, arith, sym, ap, subst, ◌∙◌, Bool, true, false, cond, eqb}
use Rattle.std.specs.FinMap as fm
use Rattle.lwc_base.specs.Fresh.{IsFresh, named_groups}
use Rattle.lwc_base.specs.declared.cell.Cell.{Cell}
use Rattle.lwc_base.specs.declared.cell.Cell.TheVariants.{Own, Common}
use Rattle.lwc_base.specs.Holders.{InCell, InContext}
use Rattle.lwc_base.specs.Keys.{ValueOf}
use Rattle.lwc_base.specs.World.{World, Context, change_counters, add_context, is_live, next_context}
use Rattle.lwc_base.proofs.Facts.{stays_fresh}
use Rattle.lwc_types.specs.declared.counters.Counters.{Counters}
use Rattle.lwc_types.specs.declared.name.Name.{Name}
use Rattle.lwc_types.specs.declared.key.Key.{Key}
use Rattle.std.proofs.lemmas.Bool.{eq-eqb}

counts_at : (b : Bool) (n : Counters) → b ≡ true → n.contexts < (cond b (record n { contexts = n.contexts + 1 }) n).contexts
counts_at true n e = omega arith
counts_at false n e = cc

no_fewer : (b : Bool) (n : Counters) → n.groups ≤ (cond b (record n { contexts = n.contexts + 1 }) n).groups
no_fewer true n = omega arith
no_fewer false n = omega arith

still_old : (next later : ℕ → Counters) (job : ℕ) (k : Key) (cell : Cell (ValueOf k)) → ((j : ℕ) → (next j).groups ≤ (later j).groups) →
    InCell (named_groups next) job k cell → InCell (named_groups later) job k cell
still_old next later job k (Own value) rises old = old
still_old next later job k (Common g) rises old = omega (arith, old, rises g.job)

module _ (w counted : World) (job : ℕ) (is_counted : counted ≡ change_counters w job (λ n. record n { contexts = n.contexts + 1 })) where
  -- no context is there that was not
  pub same_contexts : counted.contexts ≡ w.contexts
  unfolding change_counters
  same_contexts = ap (λ (v : World). v.contexts) is_counted

  pub counted-size : counted.size ≡ w.size
  unfolding change_counters
  counted-size = ap (λ (v : World). v.size) is_counted

  -- the next name is still new
  pub counted-dead : (c : Name) → IsFresh w → c ≡ next_context w job → is_live counted c ≡ false
  counted-dead c fresh is = ap (λ m. fm.contains_key m c) same_contexts ∙ ap (is_live w) is ∙ stays_fresh.next_context_is_new w job fresh

  next_is : (j : ℕ) → counted.next j ≡ cond (eqb j job) (record (w.next j) { contexts = (w.next j).contexts + 1 }) (w.next j)
  unfolding change_counters
  next_is j = ap (λ (v : World). v.next j) is_counted

  -- and has been counted now
  pub counted-named : (c : Name) → c ≡ next_context w job → c.k < (counted.next c.job).contexts
  counted-named c is =
      subst (λ (n : Name). n.k < (counted.next n.job).contexts) (sym is)
      (subst (λ (n : Counters). (w.next job).contexts < n.contexts) (sym (next_is job)) (counts_at (eqb job job) (w.next job) (eq-eqb job job refl)))

  -- groups that were named are so still
  pub counted-old : (x : Context) → InContext (named_groups w.next) job x → InContext (named_groups counted.next) job x
  counted-old x old k =
      still_old w.next counted.next job k (x.cell k)
      (λ j. subst (λ (n : Counters). (w.next j).groups ≤ n.groups) (sym (next_is j)) (no_fewer (eqb j job) (w.next j))) (old k)

-- the world once it is put in
pub add_context-counted : (w counted added : World) (job : ℕ) (c : Name) (x : Context) → c ≡ next_context w job →
    counted ≡ change_counters w job (λ n. record n { contexts = n.contexts + 1 }) → added ≡ record counted { contexts = fm.insert counted.contexts c x } →
    added ≡ add_context w job x
unfolding add_context change_counters
add_context-counted w counted added job c x named is_counted is_added =
    is_added ∙ (λ i. record (is_counted i) { contexts = fm.insert (is_counted i).contexts (named i) x })
