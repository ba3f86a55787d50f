-- Tables by name, and which of their names are of a job.
use Rattle.std.proofs.Common.{◌≡◌, ◌≢◌, ℕ, refl, sym, ap, ◌∙◌, Bool, true, false, cond, Option, Some, None}
use Rattle.std.specs.Option.{option_map}
use Rattle.std.specs.Ordering.{eq_by_cmp}
use Rattle.std.specs.FinMap as fm
use Rattle.lwc_base.proofs.Facts.{orders}
use Rattle.lwc_types.specs.Names.{name_cmp}
use Rattle.lwc_types.specs.declared.name.Name.{Name}
use Rattle.lwc_types.proofs.Orders.{same_name}

-- the name of a number in a job
abbrev pub at : ℕ → ℕ → Name
at job k = record { job = job; k = k }

-- a name of another job is another one
pub other_job : (job k : ℕ) (c : Name) → c.job ≢ job → eq_by_cmp name_cmp (at job k) c ≡ false
other_job job k c other = other_by (eq_by_cmp name_cmp (at job k) c) refl
  where
    other_by : (b : Bool) → eq_by_cmp name_cmp (at job k) c ≡ b → b ≡ false
    other_by true is = absurd (other (sym (ap (λ (n : Name). n.job) (same_name (at job k) c is))))
    other_by false is = refl

module _ {X : Type 0} (m : fm.FinMap name_cmp X) (c : Name) (f : X → X) where
  -- the table with a change of the entry that was found, if one was
  abbrev pub changed_entry : Option X → fm.FinMap name_cmp X
  changed_entry None = m
  changed_entry (Some x) = fm.insert m c (f x)

  pub get-changed_entry : (q : Name) → fm.get (changed_entry (fm.get m c)) q ≡ cond (eq_by_cmp name_cmp q c) (option_map f (fm.get m q)) (fm.get m q)
  get-changed_entry q = by_entry (fm.get m c) refl (eq_by_cmp name_cmp q c) refl
    where
      by_entry : (o : Option X) → fm.get m c ≡ o → (b : Bool) → eq_by_cmp name_cmp q c ≡ b → fm.get (changed_entry o) q ≡ cond b (option_map f (fm.get m q)) (fm.get m q)
      by_entry None none true same = let found : fm.get m q ≡ None = ap (fm.get m) (same_name q c same) ∙ none in found ∙ ap (option_map f) (sym found)
      by_entry None none false other = refl
      by_entry (Some x) some true same =
          fm.get-insert orders.names m c (f x) q ∙ ap (λ t. cond t (Some (f x)) (fm.get m q)) same
          ∙ ap (option_map f) (sym (ap (fm.get m) (same_name q c same) ∙ some))
      by_entry (Some x) some false other = fm.get-insert orders.names m c (f x) q ∙ ap (λ t. cond t (Some (f x)) (fm.get m q)) other
