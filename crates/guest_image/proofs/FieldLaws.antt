-- A field that is read is the field that was written, and what was written is read again.
use Rattle.std.proofs.Common.{◌≡◌, ◌⊎◌, inl, inr, ℕ, ◌+◌, ◌^◌, ◌<◌, ◌≤◌, Bool, true, false, cond, ltb, List, ◌++◌, length, get_or, take, drop, Ok, Err, refl, sym, ap, subst, ◌∙◌, append_assoc, arith}
use Rattle.std.specs.Int.{w32, from_le_bytes}
use Rattle.std.proofs.lemmas.Bool.{cases_lt, ltb-false, le-ltb}
use Rattle.std.proofs.lemmas.List.{take_at, drop_at, take-append-drop, length-append, length-take, get_or-drop, get_or-take, get_or_past}
use Rattle.std.proofs.lemmas.Nat.{le_bytes_4, from_le_bytes-to_le_bytes_4}
use Rattle.guest_image.specs.declared.fault.ImageRule.{ImageRule}
use Rattle.guest_image.specs.declared.fault.ImageRule.TheVariants.{Truncated}
use Rattle.guest_image.specs.Rest.{Rest}
use Rattle.guest_image.specs.Spelling.{number}
use Rattle.guest_image.specs.Reading.{Read, refused, bytes_at, number_at, number_where}
use Rattle.lwc_types.specs.Outcomes.{Refusal, ◌>>=◌}

abbrev pub IsBytes : List ℕ → Type 0
IsBytes bytes = (i : ℕ) → get_or bytes i 0 < 256

IsBytes-drop : (n : ℕ) (bytes : List ℕ) → IsBytes bytes → IsBytes (drop n bytes)
IsBytes-drop n bytes h i = rw get_or-drop (h (n + i))

IsBytes-take : (n : ℕ) (bytes : List ℕ) → IsBytes bytes → IsBytes (take n bytes)
IsBytes-take n bytes h i =
    elim (cases_lt i n) [
      | inl lt ↦ rw (get_or-take n bytes i 0 lt) (h i)
      | inr le ↦ rw (get_or_past (take n bytes) i 0 (omega (arith, length-take n bytes))) (omega arith)
    ]

-- the bytes from an offset on
abbrev pub from : ℕ → List ℕ → Rest
from at bytes = record { at = at; bytes = bytes }

-- the value of a step that was not refused
pub bind_ok : {A B : Type 0} (r : Read A) (f : A → Read B) (y : B) → (r >>= f) ≡ Ok y → (x : A) × (r ≡ Ok x) × (f x ≡ Ok y)
bind_ok (Ok x) f y e = (x, refl, e)
bind_ok (Err d) f y e = absurd cc

-- a refusal comes of the first step, or of what follows
pub bind_err : {A B : Type 0} (r : Read A) (f : A → Read B) (s : Refusal ImageRule) → (r >>= f) ≡ Err s → (r ≡ Err s) ⊎ ((x : A) × (r ≡ Ok x) × (f x ≡ Err s))
bind_err (Ok x) f s e = inr (x, refl, e)
bind_err (Err d) f s e = let same : d ≡ s = cc in inl (ap (λ (t : Refusal ImageRule). Err t) same)

-- a test that was passed
pub passed : {A : Type 0} (b : Bool) (s : Refusal ImageRule) (x y : A) → cond b (Ok x) (Err s) ≡ Ok y → (b ≡ true) × (x ≡ y)
passed true s x y e = (refl, cc)
passed false s x y e = absurd cc

-- a test that was not passed
pub failed : {A : Type 0} (b : Bool) (s t : Refusal ImageRule) (x : A) → cond b (Ok x) (Err s) ≡ Err t → (b ≡ false) × (s ≡ t)
failed true s t x e = absurd cc
failed false s t x e = (refl, cc)

-- a test that failed where failing continues
not_stopped : {A : Type 0} (b : Bool) (s : Refusal ImageRule) (x y : A) → cond b (Err s) (Ok x) ≡ Ok y → (b ≡ false) × (x ≡ y)
not_stopped true s x y e = absurd cc
not_stopped false s x y e = (refl, cc)

stopped : {A : Type 0} (b : Bool) (s t : Refusal ImageRule) (x : A) → cond b (Err s) (Ok x) ≡ Err t → s ≡ t
stopped true s t x e = cc
stopped false s t x e = absurd cc

abbrev done : {A : Type 0} → A → Read A
done x = Ok x

pub ok_is : {A : Type 0} (x y : A) → done x ≡ done y → x ≡ y
ok_is x y e = cc

-- what a reader took from the front
pub record Takes (rest : Rest) (text : List ℕ) (after : Rest) : Type 0 where
  pub parts : rest.bytes ≡ text ++ after.bytes
  pub moved : after.at ≡ rest.at + length text
  pub rest_fits : IsBytes after.bytes

pub Takes-then : (a : Rest) (x : List ℕ) (b : Rest) (y : List ℕ) (c : Rest) → Takes a x b → Takes b y c → Takes a (x ++ y) c
Takes-then a x b y c p q = record {
  parts = p.parts ∙ ap (λ (t : List ℕ). x ++ t) q.parts ∙ sym (append_assoc x y c.bytes);
  moved = omega (arith, p.moved, q.moved, length-append x y);
  rest_fits = q.rest_fits;
}

-- the refusal of a file that ends too early
abbrev pub end_of : Rest → Refusal ImageRule
end_of rest = record { rule = Truncated; at = rest.at + length rest.bytes }

-- what is read of a file ends where the file does
pub Takes-end : (a : Rest) (x : List ℕ) (b : Rest) → Takes a x b → end_of b ≡ end_of a
Takes-end a x b t = ap (λ (n : ℕ). record { rule = Truncated; at = n }) (omega (arith, t.moved, ap length t.parts, length-append x b.bytes))

-- ---- bytes

pub bytes_take : (count : ℕ) (r : Rest) (field : List ℕ) (after : Rest) → IsBytes r.bytes → bytes_at count r ≡ Ok (field, after) → Takes r field after × (length field ≡ count) × IsBytes field
bytes_take count r field after fits e =
    let g = not_stopped (ltb (length r.bytes) count) (end_of r) (take count r.bytes, from (r.at + count) (drop count r.bytes)) (field, after) e in
    let long : count ≤ length r.bytes = ltb-false _ _ g.0 in
    subst (λ (p : List ℕ × Rest). Takes r p.0 p.1 × (length p.0 ≡ count) × IsBytes p.0) g.1 (
      record { parts = sym (take-append-drop count r.bytes); moved = omega (arith, length-take count r.bytes); rest_fits = IsBytes-drop count r.bytes fits },
      omega (arith, length-take count r.bytes),
      IsBytes-take count r.bytes fits,
    )

pub bytes_again : (count at : ℕ) (field rest : List ℕ) → length field ≡ count → bytes_at count (from at (field ++ rest)) ≡ Ok (field, from (at + count) rest)
bytes_again count at field rest len =
    let long : ltb (length (field ++ rest)) count ≡ false = le-ltb _ _ (omega (arith, length-append field rest)) in
    rw (long, take_at field rest count len, drop_at field rest count len) refl

pub bytes_stop : (count : ℕ) (r : Rest) (s : Refusal ImageRule) → bytes_at count r ≡ Err s → s ≡ end_of r
bytes_stop count r s e = sym (stopped (ltb (length r.bytes) count) (end_of r) s (take count r.bytes, from (r.at + count) (drop count r.bytes)) e)

-- ---- numbers

pub number_takes : (r : Rest) (n : ℕ) (after : Rest) → IsBytes r.bytes → number_at r ≡ Ok (n, after) → Takes r (number n) after × (n < 2 ^ 32)
number_takes r n after fits e =
    let b = bind_ok (bytes_at 4 r) (λ field. Ok (from_le_bytes w32 field.0, field.1)) (n, after) e in
    let t = bytes_take 4 r b.0.0 b.0.1 fits b.1 in
    let same = ok_is (from_le_bytes w32 b.0.0, b.0.1) (n, after) b.2 in
    let back : number (from_le_bytes w32 b.0.0) ≡ b.0.0 = le_bytes_4 b.0.0 _ t.1 t.2 refl in
    let below : from_le_bytes w32 b.0.0 < 2 ^ 32 = omega (arith, t.2 0, t.2 1, t.2 2, t.2 3) in
    subst (λ (p : ℕ × Rest). Takes r (number p.0) p.1 × (p.0 < 2 ^ 32)) same
    (subst (λ (f : List ℕ). Takes r f b.0.1) (sym back) t.0, below)

pub number_again : (n at : ℕ) (rest : List ℕ) → n < 2 ^ 32 → number_at (from at (number n ++ rest)) ≡ Ok (n, from (at + 4) rest)
number_again n at rest lt = rw (bytes_again 4 at (number n) rest refl, from_le_bytes-to_le_bytes_4 n lt) refl

pub number_stop : (r : Rest) (s : Refusal ImageRule) → number_at r ≡ Err s → s ≡ end_of r
number_stop r s e =
    elim (bind_err (bytes_at 4 r) (λ field. Ok (from_le_bytes w32 field.0, field.1)) s e) [
      | inl short ↦ bytes_stop 4 r s short
      | inr b ↦ absurd cc
    ]

pub where_takes : (test : ℕ → Bool) (rule : ImageRule) (r : Rest) (n : ℕ) (after : Rest) → IsBytes r.bytes → number_where test rule r ≡ Ok (n, after) → Takes r (number n) after × (n < 2 ^ 32) × (test n ≡ true)
unfolding number_where
where_takes test rule r n after fits e =
    let b = bind_ok (number_at r) (λ n. cond (test n.0) (Ok n) (refused rule r)) (n, after) e in
    let g = passed (test b.0.0) (record { rule = rule; at = r.at }) b.0 (n, after) b.2 in
    let t = number_takes r b.0.0 b.0.1 fits b.1 in
    subst (λ (p : ℕ × Rest). Takes r (number p.0) p.1 × (p.0 < 2 ^ 32) × (test p.0 ≡ true)) g.1 (t.0, t.1, g.0)

pub where_again : (test : ℕ → Bool) (rule : ImageRule) (n at : ℕ) (rest : List ℕ) → n < 2 ^ 32 → test n ≡ true → number_where test rule (from at (number n ++ rest)) ≡ Ok (n, from (at + 4) rest)
unfolding number_where
where_again test rule n at rest lt is = rw (number_again n at rest lt, is) refl

-- a number that does not pass the test
pub record IsBad (test : ℕ → Bool) (r : Rest) (n : ℕ) : Type 0 where
  pub fits : n < 2 ^ 32
  pub rest : List ℕ
  pub is : r.bytes ≡ number n ++ rest
  pub fails : test n ≡ false

-- the file ends too early, or the number does not pass the test
pub where_stop : (test : ℕ → Bool) (rule : ImageRule) (r : Rest) (s : Refusal ImageRule) → IsBytes r.bytes → number_where test rule r ≡ Err s
    → (s ≡ end_of r) ⊎ ((n : ℕ) × IsBad test r n × (s ≡ record { rule = rule; at = r.at }))
unfolding number_where
where_stop test rule r s fits e =
    elim (bind_err (number_at r) (λ n. cond (test n.0) (Ok n) (refused rule r)) s e) [
      | inl short ↦ inl (number_stop r s short)
      | inr b ↦
          let t = number_takes r b.0.0 b.0.1 fits b.1 in
          let f = failed (test b.0.0) (record { rule = rule; at = r.at }) s b.0 b.2 in
          inr (b.0.0, record { fits = t.1; rest = b.0.1.bytes; is = t.0.parts; fails = f.0 }, sym f.1)
    ]

pub where_fails : (test : ℕ → Bool) (rule : ImageRule) (n at : ℕ) (rest : List ℕ) → n < 2 ^ 32 → test n ≡ false → number_where test rule (from at (number n ++ rest)) ≡ Err (record { rule = rule; at = at })
unfolding number_where
where_fails test rule n at rest lt is = rw (number_again n at rest lt, is) refl
