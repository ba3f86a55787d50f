-- What holding and giving back objects does to their counts, to their slots, and to the numbers of those that name a place.
use Rattle.std.proofs.Common.{◌≡◌, ◌≢◌, ℕ, ◌+◌, ◌-◌, ◌<◌, ◌≤◌, ◌&&◌, ⊎_elim, Bool, true, false, cond, eqb, ltb, List, [], ◌∷◌, length, get_or, set, take, refl, sym, ◌∙◌, ap, subst, arith, add-zero, length-set, get_or-set_same, get_or-set_other, Option, None, Some, IfSome}
use Rattle.std.specs.List.{count_by}
use Rattle.std.proofs.lemmas.List.{get_or_past}
use Rattle.std.proofs.lemmas.List.Sums.{sum_by-set, sum_by-cons, sum_by_more, sum_by-take-le, sum_by_more_le, get_or-le-sum_by, count_by-le-length}
use Rattle.std.proofs.lemmas.Bool.{cases_eq, cases_lt, eq-eqb, ne_eqb}
use Rattle.std.proofs.lemmas.Bool.Decides.{nat_tests}
use Rattle.fd_table.specs.Slots.{Slot}
use Rattle.fd_table.specs.Pools.{Held, no_held, held_at, count_of, slot_at, recount}
use Rattle.fd_table.specs.Objects.{is_target, is_naming, IsCounted, counted_more, counted_less, last_target, HoldsMore, HoldsLess}
use Rattle.fd_table.specs.Tables.{times}

pub if-some : (r : Option ℕ) (P : ℕ → Type 0) → ((t : ℕ) → r ≡ Some t → P t) → IfSome r P
if-some None P all = tt
if-some (Some t) P all = all t refl

pub some-of : (r : Option ℕ) (t : ℕ) (P : ℕ → Type 0) → r ≡ Some t → IfSome r P → P t
some-of r t P is all = subst (λ q. IfSome q P) is all

-- 1 where a test passes, else 0
abbrev pub one_if : Bool → ℕ
one_if b = cond b 1 0

pub one-yes : (m n : ℕ) → m ≡ n → one_if (eqb m n) ≡ 1
one-yes m n is = ap one_if (eq-eqb m n is)

pub one-no : (m n : ℕ) → m ≢ n → one_if (eqb m n) ≡ 0
one-no m n off = ap one_if (ne_eqb m n off)

-- a held object is one of the pool
pub held-in : (pool : List Held) (o : ℕ) → 0 < count_of pool o → o < length pool
held-in pool o held =
    ⊎_elim (λ lt. lt) (λ past. absurd (let none = ap (λ (h : Held). h.count) (get_or_past pool o no_held past) in omega (arith, none, held))) (cases_lt o (length pool))

-- one object has another count
pub recount-here : (pool : List Held) (o c : ℕ) → o < length pool → count_of (recount pool o c) o ≡ c
recount-here pool o c lt = ap (λ (h : Held). h.count) (get_or-set_same pool o (record (held_at pool o) { count = c }) no_held lt)

pub recount-other : (pool : List Held) (o c p : ℕ) → p ≢ o → count_of (recount pool o c) p ≡ count_of pool p
recount-other pool o c p off = ap (λ (h : Held). h.count) (get_or-set_other pool o p (record (held_at pool o) { count = c }) no_held off)

pub recount-slot : (pool : List Held) (o c p : ℕ) → o < length pool → slot_at (recount pool o c) p ≡ slot_at pool p
recount-slot pool o c p lt =
    ⊎_elim
    (λ is. ap (slot_at (recount pool o c)) is ∙ ap (λ (h : Held). h.slot) (get_or-set_same pool o (record (held_at pool o) { count = c }) no_held lt) ∙ sym (ap (slot_at pool) is))
    (λ off. ap (λ (h : Held). h.slot) (get_or-set_other pool o p (record (held_at pool o) { count = c }) no_held off))
    (cases_eq p o)

-- how often entries name an object
pub times-none : (o : ℕ) → times o [] ≡ 0
unfolding times
times-none o = refl

pub times-more : (o : ℕ) (entries : List ℕ) (k : ℕ) → k < length entries → times o (take (k + 1) entries) ≡ times o (take k entries) + one_if (eqb (get_or entries k 0) (o + 1))
unfolding times
times-more o entries k lt = sum_by_more (λ e. one_if (eqb e (o + 1))) entries k 0 lt

pub times-room : (o : ℕ) (entries : List ℕ) (k : ℕ) → k < length entries → times o (take k entries) + one_if (eqb (get_or entries k 0) (o + 1)) ≤ times o entries
unfolding times
times-room o entries k lt = sum_by_more_le (λ e. one_if (eqb e (o + 1))) entries k 0 lt

pub times-le : (o : ℕ) (entries : List ℕ) (k : ℕ) → times o (take k entries) ≤ times o entries
unfolding times
times-le o entries k = sum_by-take-le (λ e. one_if (eqb e (o + 1))) entries k

pub times-few : (o : ℕ) (entries : List ℕ) → times o entries ≤ length entries
unfolding times
times-few o entries = count_by-le-length (λ e. eqb e (o + 1)) entries

pub times-some : (o : ℕ) (entries : List ℕ) (k : ℕ) → k < length entries → get_or entries k 0 ≡ o + 1 → 0 < times o entries
unfolding times
times-some o entries k lt is =
    let at = get_or-le-sum_by (λ e. one_if (eqb e (o + 1))) entries k 0 lt in
    let one = one-yes (get_or entries k 0) (o + 1) is in
    omega (arith, at, one)

pub times-set : (o : ℕ) (entries : List ℕ) (n e : ℕ) → n < length entries → times o (set entries n e) + one_if (eqb (get_or entries n 0) (o + 1)) ≡ times o entries + one_if (eqb e (o + 1))
unfolding times
times-set o entries n e lt = sum_by-set (λ x. one_if (eqb x (o + 1))) entries n e 0 lt

-- no entry has been gone over
pub more-none : (pool : List Held) → HoldsMore pool pool []
more-none pool =
    record { size = refl; counts = λ o. let none = times-none o in omega (arith, none); same = λ o. refl }

pub less-none : (pool : List Held) → HoldsLess pool pool []
less-none pool =
    record { size = refl; counts = λ o. let none = times-none o in omega (arith, none); same = λ o. refl }

-- an entry that names no object
pub more-skip : (old new : List Held) (entries : List ℕ) (k : ℕ) → HoldsMore old new (take k entries) → k < length entries → get_or entries k 0 ≡ 0 → HoldsMore old new (take (k + 1) entries)
more-skip old new entries k more lt zero =
    record {
      size = more.size;
      counts = λ o.
          let step = times-more o entries k lt in
          let no = one-no (get_or entries k 0) (o + 1) (λ is. absurd (omega (arith, is, zero))) in
          omega (arith, more.counts o, step, no);
      same = more.same;
    }

-- the object that an entry names is held once more
pub more-hold : (old mid new : List Held) (entries : List ℕ) (k p : ℕ) → HoldsMore old mid (take k entries) → k < length entries → get_or entries k 0 ≡ p + 1 → p < length mid → new ≡ recount mid p (count_of mid p + 1) → HoldsMore old new (take (k + 1) entries)
more-hold old mid new entries k p more lt is inside are =
    record {
      size = ap length are ∙ length-set mid p _ ∙ more.size;
      counts = λ o.
          let step = times-more o entries k lt in
          ⊎_elim
          (λ here.
          let now = ap (λ x. count_of new x) here ∙ ap (λ x. count_of x p) are ∙ recount-here mid p (count_of mid p + 1) inside in
          let yes = one-yes (get_or entries k 0) (o + 1) (omega (arith, is, here)) in
          let was = ap (λ x. count_of mid x) here in
          omega (arith, more.counts o, step, yes, now, was))
          (λ off.
          let now = ap (λ x. count_of x o) are ∙ recount-other mid p (count_of mid p + 1) o off in
          let no = one-no (get_or entries k 0) (o + 1) (λ e. off (omega (arith, e, is))) in
          omega (arith, more.counts o, step, no, now))
          (cases_eq o p);
      same = λ o. ap (λ x. slot_at x o) are ∙ recount-slot mid p (count_of mid p + 1) o inside ∙ more.same o;
    }

pub times-one : (o e : ℕ) → times o (e ∷ []) ≡ one_if (eqb e (o + 1))
unfolding times
times-one o e = sum_by-cons (λ x. one_if (eqb x (o + 1))) e [] ∙ add-zero _

-- an entry that is 0 names no object
pub less-skip : (pool : List Held) (e : ℕ) → e ≡ 0 → HoldsLess pool pool (e ∷ [])
less-skip pool e zero =
    record {
      size = refl;
      counts = λ o. let one = times-one o e in let no = one-no e (o + 1) (λ is. absurd (omega (arith, is, zero))) in omega (arith, one, no);
      same = λ o. refl;
    }

-- an object that an entry names may be given back
pub less-may : (pool : List Held) (e : ℕ) → 0 < e → ((o : ℕ) → times o (e ∷ []) ≤ count_of pool o) → 0 < count_of pool (e - 1)
less-may pool e some may =
    let one = times-one (e - 1) e in
    let yes = one-yes e (e - 1 + 1) (omega (arith, some)) in
    omega (arith, may (e - 1), one, yes)

pub less-drop : (old new : List Held) (e : ℕ) → 0 < e → 0 < count_of old (e - 1) → new ≡ recount old (e - 1) (count_of old (e - 1) - 1) → HoldsLess old new (e ∷ [])
less-drop old new e some held are =
    let p = e - 1 in
    let inside = held-in old p held in
    record {
      size = ap length are ∙ length-set old p _;
      counts = λ o.
          let one = times-one o e in
          ⊎_elim
          (λ here.
          let now = ap (λ x. count_of new x) here ∙ ap (λ x. count_of x p) are ∙ recount-here old p (count_of old p - 1) inside in
          let yes = one-yes e (o + 1) (omega (arith, some, here)) in
          let was = ap (λ x. count_of old x) here in
          omega (arith, one, yes, now, was, held))
          (λ off.
          let now = ap (λ x. count_of x o) are ∙ recount-other old p (count_of old p - 1) o off in
          let no = one-no e (o + 1) (λ is. off (omega (arith, is, some))) in
          omega (arith, one, no, now))
          (cases_eq o p);
      same = λ o. ap (λ x. slot_at x o) are ∙ recount-slot old p (count_of old p - 1) o inside;
    }

-- an entry of many may be given back next
pub less-next : (old mid : List Held) (entries : List ℕ) (k e : ℕ) → HoldsLess old mid (take k entries) → k < length entries → e ≡ get_or entries k 0 → ((o : ℕ) → times o entries ≤ count_of old o) → (o : ℕ) → times o (e ∷ []) ≤ count_of mid o
less-next old mid entries k e less lt is may o =
    let one = times-one o e ∙ ap (λ x. one_if (eqb x (o + 1))) is in
    omega (arith, one, times-room o entries k lt, less.counts o, may o)

pub less-more : (old mid new : List Held) (entries : List ℕ) (k e : ℕ) → HoldsLess old mid (take k entries) → HoldsLess mid new (e ∷ []) → k < length entries → e ≡ get_or entries k 0 → HoldsLess old new (take (k + 1) entries)
less-more old mid new entries k e less one lt is =
    record {
      size = one.size ∙ less.size;
      counts = λ o.
          let step = times-more o entries k lt in
          let mine = times-one o e ∙ ap (λ x. one_if (eqb x (o + 1))) is in
          omega (arith, less.counts o, one.counts o, step, mine);
      same = λ o. one.same o ∙ less.same o;
    }

-- a number is greater or less by 1 where the place is meant
more-at : (named : List ℕ) (target : Option ℕ) (p : ℕ) → ((t : ℕ) → target ≡ Some t → t < length named) → get_or (counted_more named target) p 0 ≡ get_or named p 0 + one_if (is_target p target)
more-at named None p inside = omega arith
more-at named (Some t) p inside =
    ⊎_elim
    (λ is.
    let here = ap (λ x. get_or (set named t (get_or named t 0 + 1)) x 0) (sym is) ∙ get_or-set_same named t (get_or named t 0 + 1) 0 (inside t refl) in
    let yes = one-yes t p is in
    let at = ap (λ x. get_or named x 0) is in
    omega (arith, here, yes, at))
    (λ off.
    let there = get_or-set_other named t p (get_or named t 0 + 1) 0 (λ e. off (sym e)) in
    let no = one-no t p off in
    omega (arith, there, no))
    (cases_eq t p)

less-at : (named : List ℕ) (target : Option ℕ) (p : ℕ) → ((t : ℕ) → target ≡ Some t → 0 < get_or named t 0) → get_or (counted_less named target) p 0 + one_if (is_target p target) ≡ get_or named p 0
less-at named None p some = omega arith
less-at named (Some t) p some =
    let inside : t < length named = ⊎_elim (λ lt. lt) (λ past. absurd (let none = get_or_past named t 0 past in let more = some t refl in omega (arith, none, more))) (cases_lt t (length named)) in
    ⊎_elim
    (λ is.
    let here = ap (λ x. get_or (set named t (get_or named t 0 - 1)) x 0) (sym is) ∙ get_or-set_same named t (get_or named t 0 - 1) 0 inside in
    let yes = one-yes t p is in
    let at = ap (λ x. get_or named x 0) is in
    let more = some t refl in
    omega (arith, here, yes, at, more))
    (λ off.
    let there = get_or-set_other named t p (get_or named t 0 - 1) 0 (λ e. off (sym e)) in
    let no = one-no t p off in
    omega (arith, there, no))
    (cases_eq t p)

more-long : (named : List ℕ) (target : Option ℕ) → length (counted_more named target) ≡ length named
more-long named None = refl
more-long named (Some t) = length-set named t (get_or named t 0 + 1)

less-long : (named : List ℕ) (target : Option ℕ) → length (counted_less named target) ≡ length named
less-long named None = refl
less-long named (Some t) = length-set named t (get_or named t 0 - 1)

-- what the objects that name a place become where one object is another
naming-set : (pool : List Held) (o p : ℕ) (h : Held) → o < length pool → count_by (is_naming p) (set pool o h) + one_if (is_naming p (held_at pool o)) ≡ count_by (is_naming p) pool + one_if (is_naming p h)
naming-set pool o p h lt = sum_by-set (λ x. one_if (is_naming p x)) pool o h no_held lt

naming-free : (p : ℕ) (h : Held) → h.count ≡ 0 → is_naming p h ≡ false
naming-free p h zero = ap (λ c. ltb 0 c && is_target p h.slot.target) zero

naming-held : (p : ℕ) (h : Held) → 0 < h.count → is_naming p h ≡ is_target p h.slot.target
naming-held p h some =
    let yes : ltb 0 h.count ≡ true = grind (arith, nat_tests) in
    ap (λ b. b && is_target p h.slot.target) yes

counts-free : (p : ℕ) (h : Held) → h.count ≡ 0 → one_if (is_naming p h) ≡ 0
counts-free p h zero = ap one_if (naming-free p h zero)

pub counts-held : (p : ℕ) (h : Held) → 0 < h.count → one_if (is_naming p h) ≡ one_if (is_target p h.slot.target)
counts-held p h some = ap one_if (naming-held p h some)

-- an object that is held still names what it named
pub target-same : (pool new : List Held) (o p : ℕ) → slot_at new o ≡ slot_at pool o → (slot_at new o).target ≡ Some p → (slot_at pool o).target ≡ Some p
target-same pool new o p same target = sym (ap (λ (s : Slot). s.target) same) ∙ target

-- an object that is held stays held
pub counted-hold : (pool new : List Held) (named : List ℕ) (o c : ℕ) → IsCounted pool named → 0 < count_of pool o → 0 < c → new ≡ recount pool o c → IsCounted new named
counted-hold pool new named o c counted held some are =
    let inside = held-in pool o held in
    let slots = λ (q : ℕ). ap (λ x. slot_at x q) are ∙ recount-slot pool o c q inside in
    record {
      counts = λ p lt.
          let set_at = naming-set pool o p (record (held_at pool o) { count = c }) inside in
          let was = counts-held p (held_at pool o) held in
          let is = counts-held p (record (held_at pool o) { count = c }) some in
          let same = ap (λ x. count_by (is_naming p) x) are in
          omega (arith, counted.counts p lt, set_at, was, is, same);
      inside = λ q p now target.
          counted.inside q p
          (⊎_elim
          (λ here. subst (λ k. 0 < count_of pool k) (sym here) held)
          (λ off. let same = ap (λ x. count_of x q) are ∙ recount-other pool o c q off in omega (arith, same, now))
          (cases_eq q o))
          (target-same pool new q p (slots q) target);
    }

-- where an object is held once, its last target is its target
last-once : (h : Held) → h.count ≡ 1 → last_target h ≡ h.slot.target
last-once h one = ap (λ b. cond b h.slot.target None) (eq-eqb h.count 1 one)

last-more : (h : Held) → h.count ≢ 1 → last_target h ≡ None
last-more h more = ap (λ b. cond b h.slot.target None) (ne_eqb h.count 1 more)

pub none-some : {A : Type 0} (t : ℕ) → None ≡ Some t → A
none-some t e = cc

-- a place that is counted for the last hold of an object has it among its objects
pub last-counted : (pool : List Held) (named : List ℕ) (o t : ℕ) → IsCounted pool named → 0 < count_of pool o → last_target (held_at pool o) ≡ Some t → 0 < get_or named t 0
last-counted pool named o t counted held last =
    ⊎_elim
    (λ once.
    let target = sym (last-once (held_at pool o) once) ∙ last in
    let one = get_or-le-sum_by (λ x. one_if (is_naming t x)) pool o no_held (held-in pool o held) in
    let is = counts-held t (held_at pool o) held in
    let yes = ap (λ u. one_if (is_target t u)) target ∙ one-yes t t refl in
    omega (arith, counted.counts t (counted.inside o t held target), one, is, yes))
    (λ more. none-some t (sym (last-more (held_at pool o) more) ∙ last))
    (cases_eq (count_of pool o) 1)

naming-drop : (p : ℕ) (h : Held) → 0 < h.count → one_if (is_naming p h) ≡ one_if (is_naming p (record h { count = h.count - 1 })) + one_if (is_target p (last_target h))
naming-drop p h held =
    let was = counts-held p h held in
    ⊎_elim
    (λ once.
    let now = counts-free p (record h { count = h.count - 1 }) (omega (arith, once)) in
    let last = ap (λ t. one_if (is_target p t)) (last-once h once) in
    omega (arith, was, now, last))
    (λ more.
    let now = counts-held p (record h { count = h.count - 1 }) (omega (arith, more, held)) in
    let last = ap (λ t. one_if (is_target p t)) (last-more h more) in
    omega (arith, was, now, last))
    (cases_eq h.count 1)

-- one hold of an object is given back
pub counted-drop : (pool new : List Held) (named : List ℕ) (o : ℕ) → IsCounted pool named → 0 < count_of pool o → new ≡ recount pool o (count_of pool o - 1) → IsCounted new (counted_less named (last_target (held_at pool o)))
counted-drop pool new named o counted held are =
    let inside = held-in pool o held in
    let last = last_target (held_at pool o) in
    let long = less-long named last in
    let slots = λ (q : ℕ). ap (λ x. slot_at x q) are ∙ recount-slot pool o (count_of pool o - 1) q inside in
    record {
      counts = λ p lt.
          let set_at = naming-set pool o p (record (held_at pool o) { count = count_of pool o - 1 }) inside in
          let step = naming-drop p (held_at pool o) held in
          let less = less-at named last p (λ t is. last-counted pool named o t counted held is) in
          let same = ap (λ x. count_by (is_naming p) x) are in
          omega (arith, counted.counts p (omega (arith, lt, long)), set_at, step, less, same);
      inside = λ q p now target.
          let was = counted.inside q p
          (⊎_elim
          (λ here. subst (λ k. 0 < count_of pool k) (sym here) held)
          (λ off. let same = ap (λ x. count_of x q) are ∙ recount-other pool o (count_of pool o - 1) q off in omega (arith, same, now))
          (cases_eq q o))
          (target-same pool new q p (slots q) target) in
          omega (arith, was, long);
    }

-- an object is taken
pub counted-take : (pool new : List Held) (named : List ℕ) (o : ℕ) (slot : Slot) → IsCounted pool named → o < length pool → count_of pool o ≡ 0 → ((t : ℕ) → slot.target ≡ Some t → t < length named) → new ≡ set pool o (record { count = 1; slot = slot }) → IsCounted new (counted_more named slot.target)
counted-take pool new named o slot counted lt free targets are =
    let taken : Held = record { count = 1; slot = slot } in
    let long = more-long named slot.target in
    record {
      counts = λ p p_in.
          let set_at = naming-set pool o p taken lt in
          let was = counts-free p (held_at pool o) free in
          let more = more-at named slot.target p targets in
          let same = ap (λ x. count_by (is_naming p) x) are in
          omega (arith, counted.counts p (omega (arith, p_in, long)), set_at, was, more, same);
      inside = λ q p now target.
          ⊎_elim
          (λ here.
          let mine = ap (λ x. held_at x q) are ∙ ap (λ k. held_at (set pool o taken) k) here ∙ get_or-set_same pool o taken no_held lt in
          let bound = targets p (sym (ap (λ (h : Held). h.slot.target) mine) ∙ target) in
          omega (arith, bound, long))
          (λ off.
          let same = ap (λ x. held_at x q) are ∙ get_or-set_other pool o q taken no_held off in
          let bound = counted.inside q p (let c = ap (λ (h : Held). h.count) same in omega (arith, c, now)) (sym (ap (λ (h : Held). h.slot.target) same) ∙ target) in
          omega (arith, bound, long))
          (cases_eq q o);
    }

-- the entries so far and the next one name an object at most as often as there are entries
pub times-next : (o : ℕ) (entries : List ℕ) (k : ℕ) → k < length entries → get_or entries k 0 ≡ o + 1 → times o (take k entries) + 1 ≤ length entries
times-next o entries k lt is =
    omega (arith, times-room o entries k lt, one-yes (get_or entries k 0) (o + 1) is, times-few o entries)
