-- One entry of an owned node is another.
use Rattle.std.proofs.Common.{◌≡◌, ◌≢◌, ℕ, ◌+◌, ◌-◌, ◌<◌, ◌≤◌, ◌⊎◌, inl, inr, ⊎_elim, eqb, List, length, get_or, refl, sym, ◌∙◌, ap, arith, length-set, get_or-set_same, get_or-set_other}
use Rattle.std.proofs.lemmas.List.{get_or_past}
use Rattle.std.proofs.lemmas.Bool.{cases_eq, cases_lt}
use Rattle.frame_pool.specs.Frame.{Frame, no_frame, frame_count}
use Rattle.node_pool.specs.Nodes.{Node, node_at, count_of, level_of, entry_of, enter, entered}
use Rattle.page_tree.specs.Pages.{entries_of}
use Rattle.page_tree.specs.Sound.{IsSoundTo, is_inner, is_leaf, is_root, leading_to, naming, one_if, uses}
use Rattle.page_tree.specs.Steps.{IsOwned, IsLoose, IsOther, Moves, HoldsMore, HoldsLess}
use Rattle.page_tree.proofs.UsesLemmas.{uses-enter, uses-enter_other, uses-some, uses-le, inside-count, at-here, at-there, leaf-yes, leaf-no, inner-yes, inner-no}
use Rattle.pool_base.proofs.Totals.{one_if-no}
use Rattle.page_tree.proofs.LinkLemmas.{is_root-yes, is_root-no, is_root-here, below-kind}
use Rattle.page_tree.proofs.MoveLemmas.{KeepsFrames-nodes}

module _ (top level : ℕ) (old : List Node) (frames : List Frame) (sound : IsSoundTo top old frames) (n i v : ℕ) (own : IsOwned old level n) (place : i < 32) where
  abbrev new : List Node
  new = enter old n i v

  inside : n < length old
  inside = inside-count old n (omega (arith, own.once))

  pub at-entered : node_at new n ≡ entered (node_at old n) i v
  at-entered = at-here old n (entered (node_at old n) i v) inside

  pub off-entered : (x : ℕ) → x ≢ n → node_at new x ≡ node_at old x
  off-entered x off = at-there old n x (entered (node_at old n) i v) off

  pub count-entered : (x : ℕ) → count_of new x ≡ count_of old x
  count-entered x =
      ⊎_elim (λ is. ap (count_of new) is ∙ ap (λ y. y.count) at-entered ∙ ap (count_of old) (sym is)) (λ off. ap (λ y. y.count) (off-entered x off)) (cases_eq x n)

  pub level-entered : (x : ℕ) → level_of new x ≡ level_of old x
  level-entered x =
      ⊎_elim (λ is. ap (level_of new) is ∙ ap (λ y. y.level) at-entered ∙ ap (level_of old) (sym is)) (λ off. ap (λ y. y.level) (off-entered x off)) (cases_eq x n)

  wide : i < length (entries_of old n)
  wide = omega (arith, place, sound.shape n inside)

  pub here-entered : entry_of new n i ≡ v
  here-entered = ap (λ y. get_or y.entries i 0) at-entered ∙ get_or-set_same (entries_of old n) i v 0 wide

  pub there-entered : (k : ℕ) → k ≢ i → entry_of new n k ≡ entry_of old n k
  there-entered k off = ap (λ y. get_or y.entries k 0) at-entered ∙ get_or-set_other (entries_of old n) i k v 0 off

  -- an entry is the one that was put, or as it was
  entry-cases : (x k : ℕ) → ((x ≡ n) × (k ≡ i) × (entry_of new x k ≡ v)) ⊎ (entry_of new x k ≡ entry_of old x k)
  entry-cases x k =
      ⊎_elim
      (λ here.
      ⊎_elim
      (λ at. inl (here, at, ap (λ y. entry_of new y k) here ∙ ap (entry_of new n) at ∙ here-entered))
      (λ off. inr (ap (λ y. entry_of new y k) here ∙ there-entered k off ∙ ap (λ y. entry_of old y k) (sym here)))
      (cases_eq k i))
      (λ off. inr (ap (λ y. get_or y.entries k 0) (off-entered x off)))
      (cases_eq x n)

  shape-entered : (x : ℕ) → x < length new → length (entries_of new x) ≡ 32
  shape-entered x lt =
      let was = sound.shape x (omega (arith, lt, length-set old n (entered (node_at old n) i v))) in
      ⊎_elim
      (λ is. ap (λ y. length (entries_of new y)) is ∙ ap (λ y. length y.entries) at-entered ∙ length-set (entries_of old n) i v ∙ ap (λ y. length (entries_of old y)) (sym is) ∙ was)
      (λ off. ap (λ y. length y.entries) (off-entered x off) ∙ was)
      (cases_eq x n)

  clean-entered : (x k : ℕ) → count_of new x ≡ 0 → entry_of new x k ≡ 0
  clean-entered x k free =
      ⊎_elim
      (λ is. absurd (let c = ap (count_of old) is in omega (arith, c, own.once, count-entered x, free)))
      (λ off. ap (λ y. get_or y.entries k 0) (off-entered x off) ∙ sound.clean x k (sym (count-entered x) ∙ free))
      (cases_eq x n)

  levels-entered : (x : ℕ) → 0 < count_of new x → (1 ≤ level_of new x) × (level_of new x ≤ 3)
  levels-entered x held = let both = sound.levels x (omega (arith, held, count-entered x)) in (omega (arith, both.0, level-entered x), omega (arith, both.1, level-entered x))

  -- what is below another node that is held besides is not the owned one
  other-off : (out : ℕ → ℕ) (t x : ℕ) → 0 < out n → IsOther old out t → (x ≡ t) ⊎ (0 < leading_to old x) → x ≢ n
  other-off out t x some other kind is =
      ⊎_elim
      (λ top_is. let o = ap out (sym is ∙ top_is) in let c = ap (count_of old) (sym is ∙ top_is) in absurd (omega (arith, o, c, own.once, other, some)))
      (λ lead. let l = ap (leading_to old) is in absurd (omega (arith, l, lead, own.free)))
      kind

-- a link is put into an entry of a node above the leaves, and the one that was there is taken out
module _ (level : ℕ) (old : List Node) (frames : List Frame) (sound : IsSoundTo (level - 1) old frames) (n i v : ℕ) (own : IsOwned old level n) (place : i < 32) (up : 1 < level) (narrow : level ≡ 3 → 16 ≤ i → v ≡ 0) (loose : IsLoose old (level - 1) v) where
  abbrev swapped : List Node
  swapped = enter old n i v

  abbrev w : ℕ
  w = entry_of old n i

  n_in : n < length old
  n_in = inside-count old n (omega (arith, own.once))

  up_n : 1 < level_of old n
  up_n = omega (arith, up, own.level_is)

  count_is : (x : ℕ) → count_of swapped x ≡ count_of old x
  count_is = count-entered (level - 1) level old frames sound n i v own place

  level_is : (x : ℕ) → level_of swapped x ≡ level_of old x
  level_is = level-entered (level - 1) level old frames sound n i v own place

  leading : (x : ℕ) → leading_to swapped x + is_root w x ≡ leading_to old x + is_root v x
  leading x = uses-enter is_inner old n i v (x + 1) n_in (inner-yes (level_of old n) up_n) (let s = sound.shape n n_in in omega (arith, s, place))

  naming_is : (e : ℕ) → uses is_leaf swapped e ≡ uses is_leaf old e
  naming_is e = uses-enter_other is_leaf old n i v e n_in (leaf-no (level_of old n) up_n)

  -- the link that comes out leads one level lower
  was-below : (x : ℕ) → w ≡ x + 1 → level_of old x + 1 ≡ level
  was-below x is = sound.below n i x up_n is ∙ own.level_is

  -- what both links lead to is at one level
  not_linked : (x : ℕ) → level_of old x + 1 ≢ level → leading_to swapped x ≡ leading_to old x
  not_linked x off =
      let a = is_root-no w x (λ is. off (was-below x is)) in
      let b = is_root-no v x (λ is. let l = (loose x is).0 in off (omega (arith, l, up))) in
      let c = leading x in
      omega (arith, a, b, c)

  led-swapped : (x : ℕ) → leading_to swapped x ≤ count_of swapped x
  led-swapped x =
      let c = leading x in
      ⊎_elim
      (λ is. let lt = (loose x is).1 in let b = is_root-yes v x is in omega (arith, c, lt, b, count_is x))
      (λ off. let b = is_root-no v x off in let l = sound.led x in omega (arith, c, b, l, count_is x))
      (cases_eq v (x + 1))

  pub IsSound-swapped : IsSoundTo (level - 1) swapped frames
  IsSound-swapped =
      record {
        few = omega (arith, length-set old n (entered (node_at old n) i v), sound.few);
        few_frames = sound.few_frames;
        shape = shape-entered (level - 1) level old frames sound n i v own place;
        clean = clean-entered (level - 1) level old frames sound n i v own place;
        levels = levels-entered (level - 1) level old frames sound n i v own place;
        narrow = λ x k l past.
            let l' = sym (level_is x) ∙ l in
            ⊎_elim
            (λ put. put.2 ∙ narrow (sym own.level_is ∙ ap (level_of old) (sym put.0) ∙ l') (omega (arith, past, put.1)))
            (λ same. same ∙ sound.narrow x k l' past)
            (entry-cases (level - 1) level old frames sound n i v own place x k);
        held = λ x k y up_x is.
            ⊎_elim
            (λ put. let lt = (loose y (sym put.2 ∙ is)).1 in omega (arith, lt, count_is y))
            (λ same. let h = sound.held x k y (omega (arith, up_x, level_is x)) (sym same ∙ is) in omega (arith, h, count_is y))
            (entry-cases (level - 1) level old frames sound n i v own place x k);
        below = λ x k y up_x is.
            ⊎_elim
            (λ put. let l = (loose y (sym put.2 ∙ is)).0 in let lx = ap (level_of old) put.0 in omega (arith, l, lx, level_is x, level_is y, own.level_is, up))
            (λ same. let h = sound.below x k y (omega (arith, up_x, level_is x)) (sym same ∙ is) in omega (arith, h, level_is x, level_is y))
            (entry-cases (level - 1) level old frames sound n i v own place x k);
        led = led-swapped;
        counted = λ x lt. let e = sound.counted x (omega (arith, lt, level_is x)) in let same = not_linked x (λ is. absurd (omega (arith, is, lt, level_is x, up))) in omega (arith, e, same, count_is x);
        framed = λ f. let same = naming_is (f + 2) in omega (arith, same, sound.framed f);
        near = λ f. let same = naming_is (f + 2) in omega (arith, same, sound.near f);
      }

  pub IsOwned-swapped : IsOwned swapped level n
  IsOwned-swapped =
      record {
        level_is = level_is n ∙ own.level_is;
        once = count_is n ∙ own.once;
        free = let same = not_linked n (λ is. absurd (omega (arith, is, own.level_is))) in omega (arith, same, own.free);
      }

  pub IsLoose-swapped : IsLoose swapped (level - 1) w
  IsLoose-swapped = λ x is.
      let l = was-below x is in
      let a = is_root-yes w x is in
      let c = leading x in
      let led = sound.led x in (
        omega (arith, level_is x, l),
        ⊎_elim
            (λ both. let lt = (loose x both).1 in let b = is_root-yes v x both in omega (arith, a, b, c, lt, count_is x))
            (λ off. let b = is_root-no v x off in omega (arith, a, b, c, led, count_is x))
            (cases_eq v (x + 1)),
      )

  pub Moves-swapped : Moves level old swapped frames frames (λ x. is_root (n + 1) x + is_root v x) (λ x. is_root (n + 1) x + is_root w x)
  Moves-swapped =
      record {
        size = length-set old n (entered (node_at old n) i v);
        holds = λ x. let c = leading x in omega (arith, c, count_is x);
        same = λ t x other way.
            let kind = (below-kind (level - 1) old frames sound (level_of old t) t x refl (omega (arith, other)) way).0 in
            let one = is_root-here n in
            let off = other-off (level - 1) level old frames sound n i v own place (λ x. is_root (n + 1) x + is_root v x) t x (omega (arith, one)) other kind in
            record { level_is = level_is x; entries = ap (λ y. y.entries) (off-entered (level - 1) level old frames sound n i v own place x off) };
        higher = λ x held high. off-entered (level - 1) level old frames sound n i v own place x (λ is. let l = ap (level_of old) is in absurd (omega (arith, l, own.level_is, high)));
        framed = KeepsFrames-nodes old swapped frames (λ e _. naming_is e);
      }

-- a frame can be held once more
pub frame-fits : (top : ℕ) (nodes : List Node) (frames : List Frame) (f : ℕ) → IsSoundTo top nodes frames → frame_count frames f + 1 < 4294967296
frame-fits top nodes frames f sound =
    let le = uses-le is_leaf nodes 32 (f + 2) (λ n lt. let s = sound.shape n lt in omega (arith, s)) in
    omega (arith, le, sound.near f, sound.few)

-- a node that is held as often as it is led to can be held once more
pub node-fits : (top : ℕ) (nodes : List Node) (frames : List Frame) (n : ℕ) → IsSoundTo top nodes frames → level_of nodes n < top → count_of nodes n + 1 < 4294967296
node-fits top nodes frames n sound low =
    let le = uses-le is_inner nodes 32 (n + 1) (λ n lt. let s = sound.shape n lt in omega (arith, s)) in
    omega (arith, le, sound.counted n low, sound.few)

-- an entry that names a held frame, or none, is small
pub entry-small : (top : ℕ) (nodes : List Node) (frames : List Frame) (e : ℕ) → IsSoundTo top nodes frames → ((f : ℕ) → e ≡ f + 2 → 0 < frame_count frames f) → e < 4294967296
entry-small top nodes frames e sound held =
    ⊎_elim
    (λ small. omega (arith, small))
    (λ big.
    let h = held (e - 2) (omega (arith, big)) in
    ⊎_elim
    (λ lt. omega (arith, lt, sound.few_frames))
    (λ past. let none = ap (λ frame. frame.count) (get_or_past frames (e - 2) no_frame past) in absurd (omega (arith, none, h)))
    (cases_lt (e - 2) (length frames)))
    (cases_lt e 2)

-- a frame that an entry of a leaf names is held
pub named-held : (top : ℕ) (nodes : List Node) (frames : List Frame) (m j f : ℕ) → IsSoundTo top nodes frames → level_of nodes m ≡ 1 → entry_of nodes m j ≡ f + 2 → 0 < frame_count frames f
named-held top nodes frames m j f sound leaf is =
    let some = uses-some is_leaf nodes m j (f + 2) (omega (arith, leaf)) (leaf-yes (level_of nodes m) leaf) is (omega arith) in
    omega (arith, some, sound.framed f)

-- a cell is written to a leaf
module _ (old : List Node) (frames mid frames' : List Frame) (sound : IsSoundTo 1 old frames) (n j v : ℕ) (own : IsOwned old 1 n) (place : j < 32) (named : (f : ℕ) → v ≡ f + 2 → 0 < frame_count frames f) (more : HoldsMore frames mid v) (less : HoldsLess mid frames' (entry_of old n j)) where
  abbrev written : List Node
  written = enter old n j v

  m_in : n < length old
  m_in = inside-count old n (omega (arith, own.once))

  leading_is : (x : ℕ) → leading_to written x ≡ leading_to old x
  leading_is x = uses-enter_other is_inner old n j v (x + 1) m_in (inner-no (level_of old n) (omega (arith, own.level_is)))

  naming_of : (f : ℕ) → naming written f + one_if (eqb (entry_of old n j) (f + 2)) ≡ naming old f + one_if (eqb v (f + 2))
  naming_of f = uses-enter is_leaf old n j v (f + 2) m_in (leaf-yes (level_of old n) own.level_is) (let s = sound.shape n m_in in omega (arith, s, place))

  -- an entry of a node above the leaves is as it was
  inner-same : (x k : ℕ) → 1 < level_of written x → entry_of written x k ≡ entry_of old x k
  inner-same x k up =
      ap (λ y. get_or y.entries k 0) (off-entered 1 1 old frames sound n j v own place x (λ is. let l = ap (level_of old) is in let l' = level-entered 1 1 old frames sound n j v own place x in absurd (omega (arith, l, l', own.level_is, up))))

  pub IsSound-written : IsSoundTo 1 written frames'
  IsSound-written =
      let count = count-entered 1 1 old frames sound n j v own place in
      let level = level-entered 1 1 old frames sound n j v own place in
      record {
        few = omega (arith, length-set old n (entered (node_at old n) j v), sound.few);
        few_frames = omega (arith, more.size, less.size, sound.few_frames);
        shape = shape-entered 1 1 old frames sound n j v own place;
        clean = clean-entered 1 1 old frames sound n j v own place;
        levels = levels-entered 1 1 old frames sound n j v own place;
        narrow = λ x k l past. inner-same x k (omega (arith, l)) ∙ sound.narrow x k (sym (level x) ∙ l) past;
        held = λ x k y up is. let h = sound.held x k y (omega (arith, up, level x)) (sym (inner-same x k up) ∙ is) in omega (arith, h, count y);
        below = λ x k y up is. let h = sound.below x k y (omega (arith, up, level x)) (sym (inner-same x k up) ∙ is) in omega (arith, h, level x, level y);
        led = λ x. let l = sound.led x in omega (arith, l, leading_is x, count x);
        counted = λ x lt. let e = sound.counted x (omega (arith, lt, level x)) in omega (arith, e, leading_is x, count x);
        framed = λ f. let a = naming_of f in let b = more.counts f in let d = less.counts f in omega (arith, a, b, d, sound.framed f);
        near = λ f. let a = naming_of f in let b = more.counts f in let d = less.counts f in omega (arith, a, b, d, sound.near f);
      }

  pub IsOwned-written : IsOwned written 1 n
  IsOwned-written =
      record {
        level_is = level-entered 1 1 old frames sound n j v own place n ∙ own.level_is;
        once = count-entered 1 1 old frames sound n j v own place n ∙ own.once;
        free = leading_is n ∙ own.free;
      }

  pub Moves-written : Moves 1 old written frames frames' (is_root (n + 1)) (is_root (n + 1))
  Moves-written =
      record {
        size = length-set old n (entered (node_at old n) j v);
        holds = λ x. let count = count-entered 1 1 old frames sound n j v own place x in omega (arith, count, leading_is x);
        same = λ t x other way.
            let kind = (below-kind 1 old frames sound (level_of old t) t x refl (omega (arith, other)) way).0 in
            let one = is_root-here n in
            let off = other-off 1 1 old frames sound n j v own place (is_root (n + 1)) t x (omega (arith, one)) other kind in
            record { level_is = level-entered 1 1 old frames sound n j v own place x; entries = ap (λ y. y.entries) (off-entered 1 1 old frames sound n j v own place x off) };
        higher = λ x held high. off-entered 1 1 old frames sound n j v own place x (λ is. let l = ap (level_of old) is in absurd (omega (arith, l, own.level_is, high)));
        framed = record {
          size = less.size ∙ more.size;
          free = λ f none.
              let came = one_if-no v (f + 2) (λ is. let held = named f is in absurd (omega (arith, held, none))) in
              let b = more.counts f in
              let d = less.counts f in
              omega (arith, b, d, came, none);
          holds = λ f. let a = naming_of f in let b = more.counts f in let d = less.counts f in omega (arith, a, b, d);
          stamps = λ f. less.stamps f ∙ more.stamps f;
          bytes = λ f. less.bytes f ∙ more.bytes f;
        };
      }
