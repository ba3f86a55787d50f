-- Ways of which nobody else holds a node: they stay so, unless what is on them is shared.
use Rattle.std.proofs.Common.{◌≡◌, ◌≢◌, ℕ, zero, suc, ◌+◌, ◌<◌, ◌≤◌, ◌⊎◌, inl, inr, ⊎_elim, List, refl, sym, ◌∙◌, ap, arith, subst}
use Rattle.frame_pool.specs.Frame.{Frame}
use Rattle.node_pool.specs.Nodes.{Node, node_at, count_of, level_of, entry_of}
use Rattle.page_tree.specs.Pages.{entries_of, link_of}
use Rattle.page_tree.specs.Sound.{IsSoundTo, is_root, leading_to}
use Rattle.page_tree.specs.Changes.{IsBelow}
use Rattle.page_tree.specs.Steps.{IsBeside, IsLoose, IsOther, IsLone, IsWay, KeepsLone, Moves, leads_to, none_shared}
use Rattle.page_tree.proofs.LinkLemmas.{is_root-here, below-here, below-none, entry-led, link-same, link_of-node, zero_or_more}
use Rattle.page_tree.proofs.MoveLemmas.{other-stays}
use Rattle.page_tree.proofs.PlaceLemmas.{one-place}

-- ways

-- a way that begins at its end
pub way-here : (P : ℕ → Type 0) (nodes : List Node) (k link m : ℕ) → 0 < k → link ≡ m + 1 → P m → IsWay P nodes k link m
unfolding IsWay
way-here P nodes zero link m some is p = absurd (omega (arith, some))
way-here P nodes (suc k) link m some is p = (m, (is, (p, inl refl)))

-- the first node of a way
pub way-first : (P : ℕ → Type 0) (nodes : List Node) (k link x : ℕ) → IsWay P nodes k link x → (m : ℕ) × ((link ≡ m + 1) × P m)
unfolding IsWay
way-first P nodes zero link x way = absurd way
way-first P nodes (suc k) link x way = (way.0, (way.1.0, way.1.1.0))

-- what is said of the nodes of a way is said of its last one
pub way-last : (P : ℕ → Type 0) (nodes : List Node) (k link x : ℕ) → IsWay P nodes k link x → P x
unfolding IsWay
way-last P nodes zero link x way = absurd way
way-last P nodes (suc k) link x way =
    ⊎_elim
    (λ here. subst P here way.1.1.0)
    (λ lower. way-last P nodes k (link_of nodes link lower.0) x lower.1)
    way.1.1.1

-- there is no way down no level
pub way-none : (P : ℕ → Type 0) (nodes : List Node) (k link x : ℕ) → k ≡ 0 → IsWay P nodes k link x → ⊥
unfolding IsWay
way-none P nodes zero link x none way = way
way-none P nodes (suc k) link x none way = absurd (omega (arith, none))

-- where all nodes of a way have other words, and keep their entries, it is a way of those
pub way-moved : (P Q : ℕ → Type 0) (old new : List Node) (k link x : ℕ) → ((m : ℕ) → IsWay P old k link m → Q m × (entries_of new m ≡ entries_of old m)) → IsWay P old k link x → IsWay Q new k link x
unfolding IsWay
way-moved P Q old new zero link x same way = way
way-moved P Q old new (suc k) link x same way =
    let first = same way.0 (way-here P old (suc k) link way.0 (omega arith) way.1.0 way.1.1.0) in (
      way.0,
      (
        way.1.0,
        (
          first.0,
          ⊎_elim
              (λ here. inl here)
              (λ lower.
              let links : link_of new link lower.0 ≡ link_of old link lower.0 = link-same old new link lower.0 (λ m is. ap (entries_of new) (let e : m ≡ way.0 = omega (arith, is, way.1.0) in e) ∙ first.1 ∙ ap (entries_of old) (let e : way.0 ≡ m = omega (arith, is, way.1.0) in e)) in
              inr (
                lower.0,
                subst (λ l. IsWay Q new k l x) (sym links)
                    (way-moved P Q old new k (link_of old link lower.0) x (λ m w. same m (way.0, (way.1.0, (way.1.1.0, inr (lower.0, w))))) lower.1),
              ))
              way.1.1.1,
        ),
      ),
    )

-- a way leads below
pub way-below : (P : ℕ → Type 0) (nodes : List Node) (k link x : ℕ) → IsWay P nodes k link x → IsBelow nodes k link x
unfolding IsWay
way-below P nodes zero link x way = way
way-below P nodes (suc k) link x way =
    ⊎_elim
    (λ here. inl (way.1.0 ∙ ap (λ m. m + 1) here))
    (λ lower. inr (lower.0, way-below P nodes k (link_of nodes link lower.0) x lower.1))
    way.1.1.1

-- a way ends at its beginning, or at what an entry of another of its nodes leads to
pub record Before (P : ℕ → Type 0) (nodes : List Node) (k link x : ℕ) : Type 0 where
  pub y : ℕ
  pub j : ℕ
  pub up : 1 < level_of nodes y
  pub way : IsWay P nodes k link y
  pub leads : entry_of nodes y j ≡ x + 1

pub way-before : (P : ℕ → Type 0) (top : ℕ) (nodes : List Node) (frames : List Frame) → IsSoundTo top nodes frames → (k t x : ℕ) → level_of nodes t ≡ k → IsWay P nodes k (t + 1) x → (x ≡ t) ⊎ Before P nodes k (t + 1) x
unfolding IsWay
way-before P top nodes frames sound zero t x level way = absurd way
way-before P top nodes frames sound (suc zero) t x level way = ⊎_elim (λ here. inl (omega (arith, here, way.1.0))) (λ lower. absurd lower.1) way.1.1.1
way-before P top nodes frames sound (suc (suc k)) t x level way =
    ⊎_elim
    (λ here. inl (omega (arith, here, way.1.0)))
    (λ lower.
    let first = way-first P nodes (suc k) (link_of nodes (t + 1) lower.0) x lower.1 in
    let leads : entry_of nodes t lower.0 ≡ first.0 + 1 = sym (link_of-node nodes t lower.0) ∙ first.1.0 in
    let up : 1 < level_of nodes t = omega (arith, level) in
    let next = sound.below t lower.0 first.0 up leads in
    let mine : P t = subst P (let e : way.0 ≡ t = omega (arith, way.1.0) in e) way.1.1.0 in
    let rest = way-before P top nodes frames sound (suc k) first.0 x (omega (arith, next, level)) (subst (λ l. IsWay P nodes (suc k) l x) first.1.0 lower.1) in
    ⊎_elim
    (λ here. inr (record { y = t; j = lower.0; up = up; way = way-here P nodes (suc (suc k)) (t + 1) t (omega arith) refl mine; leads = leads ∙ ap (λ m. m + 1) (sym here) }))
    (λ before.
    inr (record {
      y = before.y;
      j = before.j;
      up = before.up;
      way = (t, (refl, (mine, inr (lower.0, subst (λ l. IsWay P nodes (suc k) l before.y) (sym first.1.0) before.way))));
      leads = before.leads;
    }))
    rest)
    way.1.1.1

-- up from a node of such a way: all that leads there is on the way too
module _ (P : ℕ → Type 0) (top : ℕ) (nodes : List Node) (frames : List Frame) (sound : IsSoundTo top nodes frames) (once : (m : ℕ) → P m → count_of nodes m ≡ 1) (level t : ℕ) (level_is : level_of nodes t ≡ level) (free : leading_to nodes t ≡ 0) where
  -- what leads to a node of the way
  pub way-up_one : (z i x : ℕ) → 1 < level_of nodes z → entry_of nodes z i ≡ x + 1 → IsWay P nodes level (t + 1) x → IsWay P nodes level (t + 1) z
  way-up_one z i x up leads way =
      ⊎_elim
      (λ here. absurd (let led = entry-led top nodes frames sound z i x up leads in let same = ap (leading_to nodes) here in omega (arith, led, same, free)))
      (λ before.
      let place = one-place top nodes frames sound x before.y before.j z i (once x (way-last P nodes level (t + 1) x way)) before.up up before.leads leads in
      subst (IsWay P nodes level (t + 1)) (sym place.0) before.way)
      (way-before P top nodes frames sound level t x level_is way)

  pub way-up : (k z x : ℕ) → level_of nodes z ≡ k → IsBelow nodes k (z + 1) x → IsWay P nodes level (t + 1) x → IsWay P nodes level (t + 1) z
  way-up zero z x at below way = absurd below
  way-up (suc zero) z x at below way =
      ⊎_elim (λ here. subst (IsWay P nodes level (t + 1)) (let e : x ≡ z = omega (arith, here) in e) way) (λ lower. absurd lower.1) below
  way-up (suc (suc k)) z x at below way =
      ⊎_elim
      (λ here. subst (IsWay P nodes level (t + 1)) (let e : x ≡ z = omega (arith, here) in e) way)
      (λ lower.
      ⊎_elim
      (λ none. absurd (below-none nodes (suc k) x (subst (λ l. IsBelow nodes (suc k) l x) (link_of-node nodes z lower.0 ∙ none) lower.1)))
      (λ some.
      let up : 1 < level_of nodes z = omega (arith, at) in
      let next = sound.below z lower.0 some.0 up some.1 in
      let rest = way-up (suc k) some.0 x (omega (arith, next, at)) (subst (λ l. IsBelow nodes (suc k) l x) (link_of-node nodes z lower.0 ∙ some.1) lower.1) way in
      way-up_one z lower.0 some.0 up some.1 rest)
      (zero_or_more (entry_of nodes z lower.0)))
      below

  -- so what is held besides is not below, and what is beside another way is not on this one
  pub way-apart : (out : ℕ → ℕ) (low from x : ℕ) → 0 < out t → IsBeside nodes out low from → IsBelow nodes low from x → IsWay P nodes level (t + 1) x → ⊥
  way-apart out low from x given beside below way =
      let at = beside.above x below in
      let up = way-up (level_of nodes at.0) at.0 x refl at.1.1 way in
      let one = once at.0 (way-last P nodes level (t + 1) at.0 up) in
      ⊎_elim
      (λ here. let o = ap out here in omega (arith, o, given, at.1.0, one))
      (λ before. let led = entry-led top nodes frames sound before.y before.j at.0 before.up before.leads in omega (arith, led, at.1.0, one))
      (way-before P top nodes frames sound level t at.0 level_is up)

-- what keeps such ways

pub lone-same : (old new : List Node) (out : ℕ → ℕ) (E : ℕ → Type 0) → ((x : ℕ) → count_of new x ≡ count_of old x) → KeepsLone old new out E
lone-same old new out E same = λ t x other way. same x ∙ (way-last (IsLone old E) old (level_of old t) (t + 1) x way).0

-- where one node alone is held more or less
pub lone-off : (old new : List Node) (out : ℕ → ℕ) (E : ℕ → Type 0) (n : ℕ) → ((x : ℕ) → x ≢ n → node_at new x ≡ node_at old x) → ((t x : ℕ) → IsOther old out t → IsWay (IsLone old E) old (level_of old t) (t + 1) x → x ≢ n) → KeepsLone old new out E
lone-off old new out E n others off = λ t x other way. ap (λ y. y.count) (others x (off t x other way)) ∙ (way-last (IsLone old E) old (level_of old t) (t + 1) x way).0

-- more holds may be given up besides
pub lone-out : (old new : List Node) (out out' : ℕ → ℕ) (E : ℕ → Type 0) → ((n : ℕ) → out n ≤ out' n) → KeepsLone old new out E → KeepsLone old new out' E
lone-out old new out out' E le keeps = λ t x other way. keeps t x (let l = le t in omega (arith, other, l)) way

-- and more nodes may be shared
pub lone-less : (old new : List Node) (out : ℕ → ℕ) (E E' : ℕ → Type 0) → ((m : ℕ) → E m → E' m) → KeepsLone old new out E → KeepsLone old new out E'
lone-less old new out E E' less keeps = λ t x other way.
    keeps t x other (way-moved (IsLone old E') (IsLone old E) old old (level_of old t) (t + 1) x (λ m w. let p = way-last (IsLone old E') old (level_of old t) (t + 1) m w in ((p.0, λ e. p.1 (less m e)), refl)) way)

module _ (top level : ℕ) (a b d : List Node) (fa fb : List Frame) (out mid : ℕ → ℕ) (E E' : ℕ → Type 0) (sound : IsSoundTo top a fa) (ab : Moves level a b fa fb out mid) (first : KeepsLone a b out E) (second : KeepsLone b d mid E')
    (less : (t m : ℕ) → IsOther b mid t → IsWay (λ x. count_of b x ≡ 1) b (level_of b t) (t + 1) m → E' m → E m) where
  pub lone-trans : KeepsLone a d out E
  lone-trans = λ t x other way.
      let same = ab.same t t other (below-here a (level_of a t) (t + 1) t (let l = sound.levels t (omega (arith, other)) in omega (arith, l.0)) refl) in
      let stays = other-stays top level a b fa fb out mid sound ab t other in
      let entries : (m : ℕ) → IsWay (IsLone a E) a (level_of a t) (t + 1) m → entries_of b m ≡ entries_of a m = λ m w. (ab.same t m other (way-below (IsLone a E) a (level_of a t) (t + 1) m w)).entries in
      let at_b : (m : ℕ) → IsWay (IsLone a E) a (level_of a t) (t + 1) m → IsWay (λ y. count_of b y ≡ 1) b (level_of b t) (t + 1) m = λ m w.
      subst (λ l. IsWay (λ y. count_of b y ≡ 1) b l (t + 1) m) (sym same.level_is) (way-moved (IsLone a E) (λ y. count_of b y ≡ 1) a b (level_of a t) (t + 1) m (λ y v. (first t y other v, entries y v)) w) in
      second t x stays
      (subst (λ l. IsWay (IsLone b E') b l (t + 1) x) (sym same.level_is)
      (way-moved (IsLone a E) (IsLone b E') a b (level_of a t) (t + 1) x (λ m w. ((first t m other w, λ e. (way-last (IsLone a E) a (level_of a t) (t + 1) m w).1 (less t m stays (at_b m w) e)), entries m w)) way))

-- bases

pub lone-taken : (old new : List Node) (out : ℕ → ℕ) (E : ℕ → Type 0) (n : ℕ) → count_of old n ≡ 0 → ((x : ℕ) → x ≢ n → node_at new x ≡ node_at old x) → KeepsLone old new out E
lone-taken old new out E n free others =
    lone-off old new out E n others (λ t x other way is. let once = (way-last (IsLone old E) old (level_of old t) (t + 1) x way).0 in let same = ap (count_of old) is in absurd (omega (arith, once, same, free)))

pub lone-held : (old new : List Node) (out : ℕ → ℕ) (link n : ℕ) → n + 1 ≡ link → ((x : ℕ) → x ≢ n → node_at new x ≡ node_at old x) → KeepsLone old new out (leads_to link)
lone-held old new out link n is others =
    lone-off old new out (leads_to link) n others (λ t x other way here. (way-last (IsLone old (leads_to link)) old (level_of old t) (t + 1) x way).1 (sym is ∙ ap (λ m. m + 1) (sym here)))

pub lone-given : (top level : ℕ) (old new : List Node) (frames : List Frame) (n : ℕ) → IsSoundTo top old frames → IsLoose old level (n + 1) → ((x : ℕ) → x ≢ n → node_at new x ≡ node_at old x) → KeepsLone old new (is_root (n + 1)) none_shared
lone-given top level old new frames n sound loose others =
    lone-off old new (is_root (n + 1)) none_shared n others (λ t x other way here.
    let once = (way-last (IsLone old none_shared) old (level_of old t) (t + 1) x way).0 in
    ⊎_elim
    (λ first.
    let t_is : t ≡ n = sym first ∙ here in
    let one = is_root-here n in
    let given = ap (is_root (n + 1)) t_is in
    let count = ap (count_of old) t_is in
    let count' = ap (count_of old) here in
    absurd (omega (arith, other, one, given, count, count', once)))
    (λ before.
    let led = entry-led top old frames sound before.y before.j x before.up before.leads in
    let same = ap (leading_to old) here in
    let same' = ap (count_of old) here in
    let l = (loose n refl).1 in
    absurd (omega (arith, led, same, same', l, once)))
    (way-before (IsLone old none_shared) top old frames sound (level_of old t) t x refl way))

-- what leads to a node of such a way is held once
pub lone-leader : (top : ℕ) (nodes : List Node) (frames : List Frame) (out : ℕ → ℕ) (t z i m : ℕ) → IsSoundTo top nodes frames → IsOther nodes out t → IsWay (λ x. count_of nodes x ≡ 1) nodes (level_of nodes t) (t + 1) m → 1 < level_of nodes z → entry_of nodes z i ≡ m + 1 → count_of nodes z ≡ 1
lone-leader top nodes frames out t z i m sound other way up leads =
    let first = way-first (λ x. count_of nodes x ≡ 1) nodes (level_of nodes t) (t + 1) m way in
    let once : count_of nodes t ≡ 1 = ap (count_of nodes) (let e : t ≡ first.0 = omega (arith, first.1.0) in e) ∙ first.1.1 in
    let free : leading_to nodes t ≡ 0 = omega (arith, other, once) in
    let above = way-up_one (λ x. count_of nodes x ≡ 1) top nodes frames sound (λ x is. is) (level_of nodes t) t refl free z i m up leads way in
    way-last (λ x. count_of nodes x ≡ 1) nodes (level_of nodes t) (t + 1) z above
