-- A new store is sound.
use Rattle.std.proofs.Common.{◌≡◌, ℕ, zero, suc, ◌+◌, ◌≤◌, ⊎_elim, eqb, List, [], length, get_or, replicate, refl, subst, sym, ◌∙◌, ap, arith}
use Rattle.std.proofs.lemmas.List.{length-replicate, get_or-replicate, get_or_past}
use Rattle.std.proofs.lemmas.List.Sums.{sum_by-cons}
use Rattle.std.proofs.lemmas.Bool.{cases_lt, cond-false, ne_eqb}
use Rattle.lwc_types.specs.declared.name.Tag.{Tag}
use Rattle.frame_pool.specs.Frame.{Frame, zero_frame, no_frame, frame_count}
use Rattle.node_pool.specs.Nodes.{Node, empty_node, no_node, node_at, count_of, level_of, entry_of, free_of}
use Rattle.page_tree.specs.Sound.{IsSound, is_inner, is_leaf, leading_to, naming, one_if}
use Rattle.page_tree.specs.Tied.{IsTied}
use Rattle.page_tree.proofs.UsesLemmas.{uses-none}

abbrev blank : List ℕ
blank = replicate 32 0

zeros : (i : ℕ) → get_or blank i 0 ≡ 0
zeros i =
    ⊎_elim (λ lt. get_or-replicate 32 i 0 0 lt) (λ out. get_or_past blank i 0 (omega (arith, out, length-replicate {A = ℕ} 32 0))) (cases_lt i 32)

module _ (n m : ℕ) (tag : Tag) where
  abbrev nodes : List Node
  nodes = replicate n (empty_node 0 0)

  abbrev frames : List Frame
  frames = replicate m (zero_frame 0 tag)

  -- what is so of a new node, and of what stands past the end, is so of all
  each : (P : Node → Type 0) → P (empty_node 0 0) → P no_node → (k : ℕ) → P (node_at nodes k)
  each P new past k =
      ⊎_elim
      (λ lt. let at = get_or-replicate n k (empty_node 0 0) no_node lt in subst P (sym at) new)
      (λ out. let at = get_or_past nodes k no_node (omega (arith, out, length-replicate n (empty_node 0 0))) in subst P (sym at) past)
      (cases_lt k n)

  no-level : (k : ℕ) → level_of nodes k ≡ 0
  no-level = each (λ node. node.level ≡ 0) refl refl

  no-count : (k : ℕ) → count_of nodes k ≡ 0
  no-count = each (λ node. node.count ≡ 0) refl refl

  no-entry : (k i : ℕ) → entry_of nodes k i ≡ 0
  no-entry k i = each (λ node. get_or node.entries i 0 ≡ 0) (zeros i) refl k

  no-holds : (f : ℕ) → frame_count frames f ≡ 0
  no-holds f =
      ⊎_elim
      (λ lt. ap (λ frame. frame.count) (get_or-replicate m f (zero_frame 0 tag) no_frame lt))
      (λ out. ap (λ frame. frame.count) (get_or_past frames f no_frame (omega (arith, out, length-replicate m (zero_frame 0 tag)))))
      (cases_lt f m)

  no-naming : (f : ℕ) → naming nodes f ≡ 0
  no-naming f = uses-none is_leaf nodes (f + 2) (λ k i _ is. let z = no-entry k i in absurd (omega (arith, z, is)))

  no-leading : (k : ℕ) → leading_to nodes k ≡ 0
  no-leading x = uses-none is_inner nodes (x + 1) (λ k i _ is. let z = no-entry k i in absurd (omega (arith, z, is)))

  pub IsSound-new : n ≤ 1048576 → m ≤ 65536 → IsSound nodes frames
  IsSound-new few few' =
      record {
        few = omega (arith, few, length-replicate n (empty_node 0 0));
        few_frames = omega (arith, few', length-replicate m (zero_frame 0 tag));
        shape = λ k lt. ap (λ node. length node.entries) (get_or-replicate n k (empty_node 0 0) no_node (omega (arith, lt, length-replicate n (empty_node 0 0)))) ∙ length-replicate {A = ℕ} 32 0;
        clean = λ k i _. no-entry k i;
        levels = λ k held. absurd (omega (arith, held, no-count k));
        narrow = λ k i _ _. no-entry k i;
        held = λ k i y l _. absurd (omega (arith, l, no-level k));
        below = λ k i y l _. absurd (omega (arith, l, no-level k));
        led = λ k. omega (arith, no-leading k);
        counted = λ k _. no-count k ∙ sym (no-leading k);
        framed = λ f. omega (arith, no-naming f);
        near = λ f. omega (arith, no-holds f);
      }

  pub IsTied-new : n ≤ 1048576 → m ≤ 65536 → IsTied nodes frames []
  IsTied-new few few' =
      record {
        sound = IsSound-new few few';
        rooted = λ k. cond-false (eqb (level_of nodes k) 3) (count_of nodes k) 0 (ne_eqb (level_of nodes k) 3 (λ is. absurd (omega (arith, is, no-level k))));
        exact = λ f. no-holds f ∙ sym (no-naming f);
      }

pub free_of-new : (n : ℕ) → free_of (replicate n (empty_node 0 0)) ≡ n
free_of-new zero = refl
free_of-new (suc n) = omega (arith, free_of-new n, sum_by-cons (λ node. one_if (eqb node.count 0)) (empty_node 0 0) (replicate n (empty_node 0 0)))
