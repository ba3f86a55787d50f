-- Changes one after another, and beside other holds.
use Rattle.std.proofs.Common.{◌≡◌, ℕ, ◌+◌, ◌<◌, ◌≤◌, ⊎_elim, List, refl, sym, ◌∙◌, ap, arith, subst}
use Rattle.std.proofs.lemmas.Bool.{cases_lt}
use Rattle.frame_pool.specs.Frame.{Frame}
use Rattle.node_pool.specs.Nodes.{Node, count_of, level_of}
use Rattle.page_tree.specs.Pages.{entry_below}
use Rattle.page_tree.specs.Sound.{IsSoundTo, is_leaf, uses}
use Rattle.page_tree.specs.Changes.{IsBelow, KeepsFrames}
use Rattle.page_tree.specs.Steps.{IsOther, IsSame, Moves}
use Rattle.page_tree.proofs.LinkLemmas.{below-here, below-moved, entry-moved}

pub KeepsFrames-refl : (nodes : List Node) (frames : List Frame) → KeepsFrames nodes nodes frames frames
KeepsFrames-refl nodes frames = record { size = refl; free = λ f none. none; holds = λ f. refl; stamps = λ f. refl; bytes = λ f. refl }

pub KeepsFrames-trans : (a b d : List Node) (fa fb fd : List Frame) → KeepsFrames a b fa fb → KeepsFrames b d fb fd → KeepsFrames a d fa fd
KeepsFrames-trans a b d fa fb fd ab bd =
    record {
      size = bd.size ∙ ab.size;
      free = λ f none. bd.free f (ab.free f none);
      holds = λ f. omega (arith, ab.holds f, bd.holds f);
      stamps = λ f. bd.stamps f ∙ ab.stamps f;
      bytes = λ f. bd.bytes f ∙ ab.bytes f;
    }

-- where the entries of leaves stay and the frames too, the frames are kept
pub KeepsFrames-nodes : (old new : List Node) (frames : List Frame) → ((e : ℕ) → 0 < e → uses is_leaf new e ≡ uses is_leaf old e) → KeepsFrames old new frames frames
KeepsFrames-nodes old new frames same =
    record { size = refl; free = λ f none. none; holds = λ f. omega (arith, same (f + 2) (omega arith)); stamps = λ f. refl; bytes = λ f. refl }

pub IsSound-low : (top low : ℕ) (nodes : List Node) (frames : List Frame) → low ≤ top → IsSoundTo top nodes frames → IsSoundTo low nodes frames
IsSound-low top low nodes frames le sound =
    record {
      few = sound.few;
      few_frames = sound.few_frames;
      shape = sound.shape;
      clean = sound.clean;
      levels = sound.levels;
      narrow = sound.narrow;
      held = sound.held;
      below = sound.below;
      led = sound.led;
      counted = λ n lt. sound.counted n (omega (arith, lt, le));
      framed = sound.framed;
      near = sound.near;
    }

pub Moves-refl : (level : ℕ) (nodes : List Node) (frames : List Frame) (out : ℕ → ℕ) → Moves level nodes nodes frames frames out out
Moves-refl level nodes frames out =
    record { size = refl; holds = λ n. refl; same = λ t n _ _. record { level_is = refl; entries = refl }; higher = λ n _ _. refl; framed = KeepsFrames-refl nodes frames }

-- other holds may be given besides, and other words for the same numbers
pub Moves-with : (level : ℕ) (old new : List Node) (frames frames' : List Frame) (out come x out' come' : ℕ → ℕ) → Moves level old new frames frames' out come → ((n : ℕ) → out' n ≡ out n + x n) → ((n : ℕ) → come' n ≡ come n + x n) → Moves level old new frames frames' out' come'
Moves-with level old new frames frames' out come x out' come' moves out_is come_is =
    record {
      size = moves.size;
      holds = λ n. omega (arith, moves.holds n, out_is n, come_is n);
      same = λ t n other way. moves.same t n (omega (arith, other, out_is t)) way;
      higher = moves.higher;
      framed = moves.framed;
    }

pub Moves-raise : (level high : ℕ) (old new : List Node) (frames frames' : List Frame) (out come : ℕ → ℕ) → level ≤ high → Moves level old new frames frames' out come → Moves high old new frames frames' out come
Moves-raise level high old new frames frames' out come le moves =
    record { size = moves.size; holds = moves.holds; same = moves.same; higher = λ n held up. moves.higher n held (omega (arith, le, up)); framed = moves.framed }

-- a node that is held besides
module _ (top level : ℕ) (old new : List Node) (frames frames' : List Frame) (out come : ℕ → ℕ) (sound : IsSoundTo top old frames) (moves : Moves level old new frames frames' out come) (t : ℕ) (other : IsOther old out t) where
  other-up : 0 < level_of old t
  other-up = let l = sound.levels t (omega (arith, other)) in omega (arith, l.0)

  -- it has its level and its entries
  pub other-same : IsSame old new t
  other-same = moves.same t t other (below-here old (level_of old t) (t + 1) t other-up refl)

  -- it is still held besides
  pub other-stays : IsOther new come t
  other-stays = omega (arith, other, moves.holds t)

  -- what is below it stays below it
  pub other-below : (n : ℕ) → IsBelow old (level_of old t) (t + 1) n → IsBelow new (level_of new t) (t + 1) n
  other-below n way =
      subst (λ k. IsBelow new k (t + 1) n) (sym other-same.level_is) (below-moved old new (level_of old t) (t + 1) n (λ m w. (moves.same t m other w).entries) way)

  -- it stands for the same map
  pub other-map : (k q : ℕ) → level_of old t ≡ k → entry_below new k (t + 1) q ≡ entry_below old k (t + 1) q
  other-map k q level_is =
      entry-moved old new k (t + 1) q (λ m w. (moves.same t m other (subst (λ l. IsBelow old l (t + 1) m) (sym level_is) w)).entries)

pub Moves-trans : (top level : ℕ) (a b d : List Node) (fa fb fd : List Frame) (out mid come : ℕ → ℕ) → IsSoundTo top a fa → Moves level a b fa fb out mid → Moves level b d fb fd mid come → Moves level a d fa fd out come
Moves-trans top level a b d fa fb fd out mid come sound ab bd =
    record {
      size = bd.size ∙ ab.size;
      holds = λ n. omega (arith, ab.holds n, bd.holds n);
      same = λ t n other way.
          let first = ab.same t n other way in
          let second = bd.same t n (other-stays top level a b fa fb out mid sound ab t other) (other-below top level a b fa fb out mid sound ab t other n way) in
          record { level_is = second.level_is ∙ first.level_is; entries = second.entries ∙ first.entries };
      higher = λ n held up.
          let first = ab.higher n held up in
          let c = ap (λ node. node.count) first in
          let l = ap (λ node. node.level) first in
          bd.higher n (omega (arith, c, held)) (omega (arith, l, up)) ∙ first;
      framed = KeepsFrames-trans a b d fa fb fd ab.framed bd.framed;
    }

-- nodes below a level are held as often as they are led to, where they were, and no hold of them came or went
pub IsSound-raise : (top low level : ℕ) (old new : List Node) (frames frames' : List Frame) (out come : ℕ → ℕ) → IsSoundTo top old frames → IsSoundTo low new frames' → Moves level old new frames frames' out come → ((n : ℕ) → out n ≡ come n) → ((n : ℕ) → 0 < count_of old n → top ≤ level_of old n → level_of new n ≡ level_of old n) → IsSoundTo top new frames'
IsSound-raise top low level old new frames frames' out come was sound moves even stay =
    record {
      few = sound.few;
      few_frames = sound.few_frames;
      shape = sound.shape;
      clean = sound.clean;
      levels = sound.levels;
      narrow = sound.narrow;
      held = sound.held;
      below = sound.below;
      led = sound.led;
      counted = λ n lt.
          ⊎_elim
          (λ some.
          ⊎_elim
          (λ below. omega (arith, moves.holds n, even n, was.counted n below))
          (λ up. absurd (let l = stay n some up in omega (arith, l, lt, up)))
          (cases_lt (level_of old n) top))
          (λ none. omega (arith, moves.holds n, even n, was.led n, none))
          (cases_lt 0 (count_of old n));
      framed = sound.framed;
      near = sound.near;
    }
