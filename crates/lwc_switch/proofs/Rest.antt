-- What a switch leaves as it was.
use Rattle.std.proofs.Common.{◌∙◌, ℕ, rules, sym}
use Rattle.guest_call.specs.Changes.{ChangesKey, ChangesSaved}
use Rattle.lwc_base.specs.Clones.{AreApart}
use Rattle.lwc_base.specs.World.{World}
use Rattle.lwc_types.specs.declared.key.Key.{Key}
use Rattle.lwc_types.specs.declared.key.Key.TheVariants.{Slot}
use Rattle.lwc_types.specs.declared.name.Name.{Name}
use Rattle.lwc_switch.specs.Switch.{LeavesRest}

-- what is apart under saved cells was apart before
apart_before : (w u : World) (c d e : Name) (t : ℕ) (k : Key) → ChangesSaved w u c t → AreApart w d e k → AreApart u d e k
apart_before w u c d e t k saved apart = record {
  differ = apart.differ;
  no_group = λ g first second. apart.no_group g (sym (saved.cells d k) ∙ first) (sym (saved.cells e k) ∙ second);
}

-- a put after saving leaves the rest
pub leaves_rest : (w u v : World) (c d : Name) (t n : ℕ) → ChangesSaved w u c t → ChangesKey u v d (Slot n) → LeavesRest w v c d t n
leaves_rest w u v c d t n saved put = record {
  names = let first = saved.names in let second = put.names in search rules;
  values = λ e k untouched. put.values e k (λ is. apart_before w u c d e t k saved (untouched is)) ∙ saved.values e k;
  cells = λ e k untouched. put.cells e k (λ is. apart_before w u c d e t k saved (untouched is)) ∙ saved.cells e k;
  rights = λ e. put.rights e ∙ saved.rights e;
  entries = λ e. put.entries e ∙ saved.entries e;
  saved = λ e s differ. put.saved e s ∙ saved.saved e s differ;
}
