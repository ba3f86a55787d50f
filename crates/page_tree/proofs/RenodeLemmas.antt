-- One node is taken, or held more or less often.
use Rattle.std.proofs.Common.{◌≡◌, ◌≢◌, ℕ, suc, ◌+◌, ◌<◌, ◌≤◌, ◌⊎◌, inl, inr, ⊎_elim, Bool, List, [], ◌∷◌, length, get_or, set, replicate, refl, sym, ◌∙◌, ap, arith, length-set}
use Rattle.std.proofs.lemmas.Bool.{cases_eq, cases_lt}
use Rattle.frame_pool.specs.Frame.{Frame}
use Rattle.node_pool.specs.Nodes.{Node, empty_node, node_at, count_of, level_of, entry_of, counted, recount, free_of}
use Rattle.page_tree.specs.Pages.{entries_of}
use Rattle.page_tree.specs.Sound.{IsSoundTo, is_inner, is_leaf, is_root, leading_to, uses}
use Rattle.page_tree.specs.Steps.{IsOwned, Moves}
use Rattle.page_tree.proofs.UsesLemmas.{uses-renode, inside-count, at-here, at-there, free_of-set}
use Rattle.pool_base.proofs.Totals.{one_if-yes}
use Rattle.page_tree.proofs.LinkLemmas.{is_root-here, is_root-there, entry-led, below-kind}
use Rattle.page_tree.proofs.MoveLemmas.{KeepsFrames-nodes}

zeros-replicate : (es : List ℕ) → ((i : ℕ) → get_or es i 0 ≡ 0) → es ≡ replicate (length es) 0
zeros-replicate [] zeros = refl
zeros-replicate (x ∷ xs) zeros = ap (λ y. y ∷ xs) (zeros 0) ∙ ap (λ ys. 0 ∷ ys) (zeros-replicate xs (λ i. zeros (suc i)))

-- a free node has the entries of an empty one
pub free-entries : (top : ℕ) (nodes : List Node) (frames : List Frame) (k c l : ℕ) → IsSoundTo top nodes frames → k < length nodes → count_of nodes k ≡ 0 → (empty_node c l).entries ≡ entries_of nodes k
free-entries top nodes frames k c l sound lt free =
    sym (zeros-replicate (entries_of nodes k) (λ i. sound.clean k i free) ∙ ap (λ n. replicate n 0) (sound.shape k lt))

module _ (top : ℕ) (old : List Node) (frames : List Frame) (sound : IsSoundTo top old frames) (m : ℕ) (node : Node) (inside : m < length old) (same : node.entries ≡ entries_of old m) (kind : (node.level ≡ level_of old m) ⊎ (count_of old m ≡ 0)) where
  abbrev new : List Node
  new = set old m node

  here : node_at new m ≡ node
  here = at-here old m node inside

  pub there : (x : ℕ) → x ≢ m → node_at new x ≡ node_at old x
  there x off = at-there old m x node off

  pub entries-renode : (x : ℕ) → entries_of new x ≡ entries_of old x
  entries-renode x =
      ⊎_elim
      (λ is. ap (entries_of new) is ∙ ap (λ y. y.entries) here ∙ same ∙ ap (entries_of old) (sym is))
      (λ off. ap (λ y. y.entries) (there x off))
      (cases_eq x m)

  entry-renode : (x i : ℕ) → entry_of new x i ≡ entry_of old x i
  entry-renode x i = ap (λ es. get_or es i 0) (entries-renode x)

  -- a node that was held has its level
  level-renode : (x : ℕ) → 0 < count_of old x → level_of new x ≡ level_of old x
  level-renode x held =
      ⊎_elim
      (λ is. ap (level_of new) is ∙ ap (λ y. y.level) here ∙ ⊎_elim (λ l. l ∙ ap (level_of old) (sym is)) (λ free. absurd (let c = ap (count_of old) is in omega (arith, c, free, held))) kind)
      (λ off. ap (λ y. y.level) (there x off))
      (cases_eq x m)

  -- a node with an entry was held
  entry-held : (x i y : ℕ) → entry_of new x i ≡ y + 1 → 0 < count_of old x
  entry-held x i y is =
      ⊎_elim (λ held. held) (λ none. absurd (let z = sound.clean x i (omega (arith, none)) in let e = entry-renode x i in omega (arith, z, e, is))) (cases_lt 0 (count_of old x))

  pub uses-kept : (test : ℕ → Bool) (e : ℕ) → 0 < e → uses test new e ≡ uses test old e
  uses-kept test e pos = uses-renode test old m node e pos inside same (⊎_elim (λ l. inl l) (λ free. inr (λ i. sound.clean m i free)) kind)

  pub leading-kept : (x : ℕ) → leading_to new x ≡ leading_to old x
  leading-kept x = uses-kept is_inner (x + 1) (omega arith)

  pub IsSound-renode : (node.count ≡ 0 → (i : ℕ) → entry_of old m i ≡ 0) → (0 < node.count → (1 ≤ node.level) × (node.level ≤ 3)) → leading_to old m ≤ node.count → (node.level < top → node.count ≡ leading_to old m) → IsSoundTo top new frames
  IsSound-renode clean levels led counted =
      let count : (x : ℕ) → x ≢ m → count_of new x ≡ count_of old x = λ x off. ap (λ y. y.count) (there x off) in
      let level : (x : ℕ) → x ≢ m → level_of new x ≡ level_of old x = λ x off. ap (λ y. y.level) (there x off) in
      let count_here : count_of new m ≡ node.count = ap (λ y. y.count) here in
      let level_here : level_of new m ≡ node.level = ap (λ y. y.level) here in
      let size = length-set old m node in
      record {
        few = omega (arith, size, sound.few);
        few_frames = sound.few_frames;
        shape = λ x lt. ap length (entries-renode x) ∙ sound.shape x (omega (arith, lt, size));
        clean = λ x i free.
            entry-renode x i ∙ ⊎_elim (λ is. ap (λ y. entry_of old y i) is ∙ clean (sym count_here ∙ ap (count_of new) (sym is) ∙ free) i) (λ off. sound.clean x i (sym (count x off) ∙ free)) (cases_eq x m);
        levels = λ x held.
            ⊎_elim
            (λ is.
            let c = ap (count_of new) is in
            let l = ap (level_of new) is in
            let both = levels (omega (arith, c, count_here, held)) in
            (omega (arith, l, level_here, both.0), omega (arith, l, level_here, both.1)))
            (λ off. let both = sound.levels x (omega (arith, count x off, held)) in (omega (arith, level x off, both.0), omega (arith, level x off, both.1)))
            (cases_eq x m);
        narrow = λ x i l past.
            ⊎_elim
            (λ held. entry-renode x i ∙ sound.narrow x i (sym (level-renode x held) ∙ l) past)
            (λ none. entry-renode x i ∙ sound.clean x i (omega (arith, none)))
            (cases_lt 0 (count_of old x));
        held = λ x i y up is.
            let was = entry-held x i y is in
            let e = sym (entry-renode x i) ∙ is in
            let up' : 1 < level_of old x = omega (arith, up, level-renode x was) in
            let held = sound.held x i y up' e in
            ⊎_elim
            (λ here_is. let lead = entry-led top old frames sound x i y up' e in let c = ap (count_of new) here_is in let l = ap (leading_to old) here_is in omega (arith, c, l, count_here, led, lead))
            (λ off. omega (arith, count y off, held))
            (cases_eq y m);
        below = λ x i y up is.
            let was = entry-held x i y is in
            let e = sym (entry-renode x i) ∙ is in
            let up' : 1 < level_of old x = omega (arith, up, level-renode x was) in
            let next = sound.below x i y up' e in
            omega (arith, next, level-renode x was, level-renode y (sound.held x i y up' e));
        led = λ x.
            let lead = leading-kept x in
            ⊎_elim
            (λ is. let c = ap (count_of new) is in let l = ap (leading_to old) is in omega (arith, c, l, count_here, led, lead))
            (λ off. omega (arith, count x off, sound.led x, lead))
            (cases_eq x m);
        counted = λ x lt.
            let lead = leading-kept x in
            ⊎_elim
            (λ is.
            let c = ap (count_of new) is in
            let l = ap (leading_to old) is in
            let k = ap (level_of new) is in
            let exact = counted (omega (arith, k, level_here, lt)) in
            omega (arith, c, l, count_here, exact, lead))
            (λ off. let exact = sound.counted x (omega (arith, level x off, lt)) in omega (arith, count x off, exact, lead))
            (cases_eq x m);
        framed = λ f. let naming = uses-kept is_leaf (f + 2) (omega arith) in omega (arith, naming, sound.framed f);
        near = λ f. let naming = uses-kept is_leaf (f + 2) (omega arith) in omega (arith, naming, sound.near f);
      }

  pub Moves-renode : (level : ℕ) (out come : ℕ → ℕ) → (0 < count_of old m → level_of old m ≤ level) → node.count + out m ≡ count_of old m + come m → ((x : ℕ) → x ≢ m → out x ≡ come x) → Moves level old new frames frames out come
  Moves-renode level out come low at off_is =
      record {
        size = length-set old m node;
        holds = λ x.
            let lead = leading-kept x in
            ⊎_elim
            (λ is.
            let c = ap (count_of new) is ∙ ap (λ y. y.count) here in
            let c' = ap (count_of old) is in
            let o = ap out is in
            let k = ap come is in
            omega (arith, c, c', o, k, at, lead))
            (λ off. let c = ap (λ y. y.count) (there x off) in let e = off_is x off in omega (arith, c, e, lead))
            (cases_eq x m);
        same = λ t x other way.
            let held = (below-kind top old frames sound (level_of old t) t x refl (omega (arith, other)) way).1.0 in
            record { level_is = level-renode x held; entries = entries-renode x };
        higher = λ x held up.
            there x (λ is. let l = ap (level_of old) is in let c = ap (count_of old) is in let le = low (omega (arith, c, held)) in absurd (omega (arith, l, le, up)));
        framed = KeepsFrames-nodes old new frames (λ e pos. uses-kept is_leaf e pos);
      }

-- a free node is taken
module _ (old : List Node) (frames : List Frame) (k level : ℕ) (sound : IsSoundTo level old frames) (inside : k < length old) (free : count_of old k ≡ 0) (low : 1 ≤ level) (high : level ≤ 3) where
  abbrev taken : List Node
  taken = set old k (empty_node 1 level)

  blank : (empty_node 1 level).entries ≡ entries_of old k
  blank = free-entries level old frames k 1 level sound inside free

  pub IsSound-taken : IsSoundTo level taken frames
  IsSound-taken =
      IsSound-renode level old frames sound k (empty_node 1 level) inside blank (inr free)
      (λ none. absurd (omega (arith, none))) (λ _. (low, high)) (let l = sound.led k in omega (arith, l, free)) (λ lt. absurd (omega (arith, lt)))

  pub Moves-taken : Moves level old taken frames frames (λ n. 0) (is_root (k + 1))
  Moves-taken =
      Moves-renode level old frames sound k (empty_node 1 level) inside blank (inr free) level (λ n. 0) (is_root (k + 1))
      (λ held. absurd (omega (arith, held, free)))
      (let h = is_root-here k in omega (arith, h, free))
      (λ x off. sym (is_root-there k x off))

  pub IsOwned-taken : IsOwned taken level k
  IsOwned-taken =
      let at = at-here old k (empty_node 1 level) inside in
      record {
        level_is = ap (λ y. y.level) at;
        once = ap (λ y. y.count) at;
        free = let l = leading-kept level old frames sound k (empty_node 1 level) inside blank (inr free) k in let led = sound.led k in omega (arith, l, led, free);
      }

  pub empty-taken : (i : ℕ) → entry_of taken k i ≡ 0
  empty-taken i = ap (λ es. get_or es i 0) (entries-renode level old frames sound k (empty_node 1 level) inside blank (inr free) k) ∙ sound.clean k i free

  pub free-taken : free_of old ≡ free_of taken + 1
  free-taken =
      let change = free_of-set old k (empty_node 1 level) inside in
      let one = one_if-yes (count_of old k) 0 free in
      omega (arith, change, one)

-- a node is held more or less often
module _ (top : ℕ) (old : List Node) (frames : List Frame) (sound : IsSoundTo top old frames) (m c : ℕ) (held : 0 < count_of old m) where
  abbrev changed : List Node
  changed = recount old m c

  abbrev node : Node
  node = counted (node_at old m) c

  pub IsSound-recount : (c ≡ 0 → (i : ℕ) → entry_of old m i ≡ 0) → leading_to old m ≤ c → top ≤ level_of old m → IsSoundTo top changed frames
  IsSound-recount clean led high =
      IsSound-renode top old frames sound m node (inside-count old m held) refl (inl refl)
      clean (λ _. sound.levels m held) led (λ lt. absurd (omega (arith, lt, high)))

  pub Moves-recount : (level : ℕ) (out come : ℕ → ℕ) → level_of old m ≤ level → c + out m ≡ count_of old m + come m → ((x : ℕ) → x ≢ m → out x ≡ come x) → Moves level old changed frames frames out come
  Moves-recount level out come low at off =
      Moves-renode top old frames sound m node (inside-count old m held) refl (inl refl) level out come (λ _. low) at off

  pub leading-recount : (x : ℕ) → leading_to changed x ≡ leading_to old x
  leading-recount x = leading-kept top old frames sound m node (inside-count old m held) refl (inl refl) x

  pub at-recount : node_at changed m ≡ node
  at-recount = at-here old m node (inside-count old m held)
