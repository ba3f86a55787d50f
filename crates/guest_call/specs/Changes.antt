-- What a put under a key, and what saving registers, may change.
use Rattle.std.specs.Prelude.{◌≡◌, ◌≢◌, ℕ}
use Rattle.lwc_base.specs.Cells.{value_at}
use Rattle.lwc_base.specs.Clones.{AreApart}
use Rattle.lwc_base.specs.Facts.{KeepsNames}
use Rattle.lwc_base.specs.World.{World, context}
use Rattle.lwc_types.specs.declared.key.Key.{Key}
use Rattle.lwc_types.specs.declared.name.Name.{Name}

-- a key is not the one that changes, or the context in which that changes and the other one are apart under
-- it
abbrev pub IsUntouched : World → Name → Key → Name → Key → Type 0
IsUntouched w d changed e k = k ≡ changed → AreApart w d e k

-- nothing but a key of a context has changed, and the same key of each context that has it in common
pub record ChangesKey (w v : World) (d : Name) (changed : Key) : Type 0 where
  pub names : KeepsNames w v
  pub values : (e : Name) (k : Key) → IsUntouched w d changed e k → value_at v e k ≡ value_at w e k
  pub cells : (e : Name) (k : Key) → IsUntouched w d changed e k → (context v e).cell k ≡ (context w e).cell k
  pub others : (e : Name) → e ≢ d → context v e ≡ context w e
  pub rights : (e : Name) → (context v e).right ≡ (context w e).right
  pub entries : (e : Name) → (context v e).entry ≡ (context w e).entry
  pub saved : (e : Name) (t : ℕ) → (context v e).saved t ≡ (context w e).saved t

-- nothing but the registers that a context keeps for a thread has changed
pub record ChangesSaved (w v : World) (c : Name) (t : ℕ) : Type 0 where
  pub names : KeepsNames w v
  pub values : (e : Name) (k : Key) → value_at v e k ≡ value_at w e k
  pub cells : (e : Name) (k : Key) → (context v e).cell k ≡ (context w e).cell k
  pub rights : (e : Name) → (context v e).right ≡ (context w e).right
  pub entries : (e : Name) → (context v e).entry ≡ (context w e).entry
  pub saved : (e : Name) (s : ℕ) → (e ≡ c → s ≢ t) → (context v e).saved s ≡ (context w e).saved s
