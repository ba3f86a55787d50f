-- What a put under a key, and saving registers, leave as they were.
use Rattle.std.proofs.Common.{◌≡◌, ℕ, true, false, ap, arith, refl, sym, subst}
use Rattle.lwc_base.specs.declared.cell.Cell.TheVariants.{Own}
use Rattle.lwc_base.specs.Cells.{put_at, value_at, with_cell}
use Rattle.lwc_base.specs.Clones.{AreApart}
use Rattle.lwc_base.specs.Facts.{ChangesContext}
use Rattle.lwc_base.specs.Keys.{ValueOf}
use Rattle.lwc_base.specs.Saved.{save}
use Rattle.lwc_base.specs.World.{World, Context, context, is_live}
use Rattle.lwc_types.specs.declared.key.Key.{Key}
use Rattle.lwc_types.specs.declared.name.Name.{Name}
use Rattle.lwc_types.specs.declared.regs.Regs.{Regs}
use Rattle.guest_call.specs.Changes.{ChangesKey, ChangesSaved, IsUntouched}
use Rattle.lwc_base.proofs.Lookups.{changes-change_context, changes-change_group}
use Rattle.lwc_base.proofs.Keys.{cases_key}
use Rattle.lwc_base.proofs.Puts.{after_put_at, names-put_at}
use Rattle.lwc_base.proofs.Rights.{rights-put_at, rights-save}
use Rattle.lwc_base.proofs.Saving.{save-value, saves}
use Rattle.lwc_base.proofs.Common.{put-apart, put-other_cell, put-other_key, put-others}
use Rattle.lwc_types.proofs.Orders.{cases_name}

-- what a change of one context leaves of it, it leaves of each
left_of_each : {X : Type 0} (part : Context → X) (w v : World) (c : Name) (f : Context → Context) → ChangesContext w c f v →
    ((x : Context) → part (f x) ≡ part x) → (e : Name) → part (context v e) ≡ part (context w e)
left_of_each part w v c f changed left e =
    cases_name e c
    (λ same. elim (is_live w c) as (λ b. is_live w c ≡ b → part (context v e) ≡ part (context w e)) [
      | true ↦ λ live. let h = changed.changed live in let l = left (context w c) in grind arith
      | false ↦ λ dead. let h = changed.same dead in grind arith
    ] refl)
    (λ other. ap part (changed.others e other))

-- what another cell under the key leaves of a context, a put leaves of each
left_by_put : {X : Type 0} (part : Context → X) (w : World) (c : Name) (k : Key) (value : ValueOf k) →
    ((x : Context) → part (with_cell k (Own value) x) ≡ part x) → (e : Name) → part (context (put_at w c k value) e) ≡ part (context w e)
left_by_put part w c k value left e =
    after_put_at (λ v. part (context v e) ≡ part (context w e)) w c k value (λ _ _ _. refl)
    (λ _ _ _. left_of_each part w _ c _ (changes-change_context w c _) left e)
    (λ g _. ap part ((changes-change_group w g _).contexts e))

-- all that saving leaves
pub saving : (w : World) (c : Name) (t : ℕ) (regs : Regs) → ChangesSaved w (save w c t regs) c t
saving w c t regs =
    let saved = saves w c t regs in
    record {
      names = saved.names;
      values = save-value w c t regs;
      cells = λ e k. left_of_each (λ x. x.cell k) w (save w c t regs) c _ saved (λ x. refl) e;
      rights = rights-save w c t regs;
      entries = λ e. left_of_each (λ x. x.entry) w (save w c t regs) c _ saved (λ x. refl) e;
      saved = λ e s differ.
          cases_name e c
          (λ same. left_of_each (λ x. x.saved s) w (save w c t regs) c _ saved (λ x. let other = differ same in grind arith) e)
          (λ other. ap (λ x. x.saved s) (saved.others e other));
    }

module _ (w : World) (c : Name) (q : Key) (value : ValueOf q) where
  values_by_put : (e : Name) (k : Key) → IsUntouched w c q e k → value_at (put_at w c q value) e k ≡ value_at w e k
  values_by_put e k untouched =
      cases_key k q
      (λ is. subst (λ k. value_at (put_at w c q value) e k ≡ value_at w e k) (sym is)
      (put-apart w c q value e (subst (AreApart w c e) is (untouched is))))
      (λ other. put-other_key w c q value e k other)

  -- all that a put leaves
  pub putting : ChangesKey w (put_at w c q value) c q
  putting = record {
    names = names-put_at w c q value;
    values = values_by_put;
    cells = λ e k untouched. put-other_cell w c q value e k (λ same is. (untouched is).differ (sym same));
    others = put-others w c q value;
    rights = rights-put_at w c q value;
    entries = left_by_put (λ x. x.entry) w c q value (λ x. refl);
    saved = λ e t. left_by_put (λ x. x.saved t) w c q value (λ x. refl) e;
  }
