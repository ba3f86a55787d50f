-- A table by name: what has a name once something is put there.
use Rattle.std.proofs.Common.{◌≡◌, true, cond, arith}
use Rattle.std.specs.Prelude.{unwrap_or}
use Rattle.std.specs.Ordering.{eq_by_cmp}
use Rattle.std.specs.FinMap as fm
use Rattle.lwc_types.specs.declared.name.Name.{Name}
use Rattle.lwc_types.specs.Names.{name_cmp}
use Rattle.lwc_types.proofs.Orders.{name_cmp-total, same_name}

module _ {X : Type 0} (m : fm.FinMap name_cmp X) (c : Name) (y : X) where
  pub entry-insert : (d : X) (q : Name) → unwrap_or (fm.get (fm.insert m c y) q) d ≡ cond (eq_by_cmp name_cmp q c) y (unwrap_or (fm.get m q) d)
  entry-insert d q = grind (arith, fm.get-insert, name_cmp-total)

  pub contains_key-insert : (q : Name) → fm.contains_key (fm.insert m c y) q ≡ cond (eq_by_cmp name_cmp q c) true (fm.contains_key m q)
  contains_key-insert q = grind (arith, fm.get-insert, name_cmp-total)

  -- what is so of each entry, and of what is put there, is so of each entry afterwards
  pub each-insert : (d : X) (P : Name → X → Type 0) → P c y → ((q : Name) → fm.contains_key m q ≡ true → P q (unwrap_or (fm.get m q) d)) →
      (q : Name) → fm.contains_key (fm.insert m c y) q ≡ true → P q (unwrap_or (fm.get (fm.insert m c y) q) d)
  each-insert d P here there q live = grind (arith, entry-insert, contains_key-insert, same_name, there q)

  -- a name that is there already is there no more than before
  pub contains_key-again : fm.contains_key m c ≡ true → (q : Name) → fm.contains_key (fm.insert m c y) q ≡ fm.contains_key m q
  contains_key-again there q = grind (arith, contains_key-insert, same_name)
