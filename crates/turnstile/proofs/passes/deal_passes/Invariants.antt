use Rattle.std.proofs.Common.{◌≡◌, ◌+◌, ℕ, [], Some, slice_get, length}
use Rattle.turnstile.specs.Passes.{Held, fresh_pass}
use Rattle.turnstile.specs.Rule.{first_view}
use Rattle.turnstile.proofs.passes.deal_passes.Given as goal

abbrev pub invariant-loop-number : goal.invariant-loop-number
invariant-loop-number g l = record {
  table : l.first.table_id ≡ l.initial.first.table_id;
  split : l.first.me ≡ (record (first_view (g.S.Turned.name l.shared.key.value)) { made = l.number }, []);
  count : length l.passes.items + 1 ≡ l.number;
  fresh : (i : ℕ) (p : Held g.row.S-Name.Denot) → slice_get l.passes.items i ≡ Some p → p ≡ fresh_pass l.shared.table_id (g.S.Turned.name l.shared.key.value) (i + 1);
}
