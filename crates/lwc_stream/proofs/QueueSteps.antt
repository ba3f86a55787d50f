-- Each step keeps the rule of the queue.
use Rattle.std.proofs.Common.{◌≡◌, ◌≢◌, ℕ, zero, suc, true, false, true≢false, List, [], ◌∷◌, ◌++◌, length, set, sym, refl, ap, ◌∙◌, subst, ⊎_elim, append_assoc}
use mathlib.Core.Option.{some, some-ne-none}
use lib.ListN.{get_elem?}
use Rattle.crossbeam_queue.specs.Fifo.{Pushes, Pops, Forks, Merges, Learns}
use Rattle.crossbeam_queue.proofs.Lists.{at_set, at_snoc}
use Rattle.lwc_stream.specs.declared.ends.Ends.{Ends}
use Rattle.snapshot_host.specs.declared.finishing.Finished.{Finished}
use Rattle.lwc_stream.specs.Queues.{ends, Fits, IsInOrder}

at_end : (l : List Ends) (a b : Ends) (j : ℕ) → get_elem? l j ≢ some b → get_elem? (l ++ a ∷ []) j ≡ some b → j ≡ length l
at_end [] a b zero n e = refl
at_end [] a b (suc j) n e = absurd (some-ne-none b (sym e))
at_end (x ∷ xs) a b zero n e = absurd (n e)
at_end (x ∷ xs) a b (suc j) n e = ap suc (at_end xs a b j n e)

abbrev All : (ℕ → Ends → Type 0) → List Ends → Type 0
All F views = (port : ℕ) (v : Ends) → get_elem? views port ≡ some v → F port v

all_set : (F : ℕ → Ends → Type 0) (views : List Ends) (port : ℕ) (w : Ends) → F port w → ((j : ℕ) (u : Ends) → j ≢ port → get_elem? views j ≡ some u → F j u) → All F (set views port w)
all_set F views port w mine others j u e = ⊎_elim (λ (x : (j ≡ port) × (w ≡ u)). subst (λ (y : ℕ × Ends). F y.0 y.1) (λ i. (sym x.0 i, x.1 i)) mine)
    (λ (x : (j ≢ port) × (get_elem? views j ≡ some u)). others j u x.0 x.1) (at_set views port j w u e)

pub begins : IsInOrder [] (ends true true [] [] ∷ [])
begins = record {
  putter = 0;
  taker = 0;
  put = [];
  taken = [];
  order = refl;
  fits = all_set (Fits 0 0 [] []) (ends true true [] [] ∷ []) 0 (ends true true [] []) (record { puts = λ _. (refl, refl); takes = λ _. (refl, refl) })
      (λ j u other e. absurd (other (at_end [] _ u j (λ x. some-ne-none u (sym x)) e)));
}

pub puts : (n port : ℕ) (v : Ends) (x : Finished) → v.puts ≡ true → Pushes IsInOrder n port v x (λ w. w ≡ ends v.puts v.takes (v.put ++ x ∷ []) v.taken)
puts n port v x may items views _ h at =
    let w : Ends = ends v.puts v.takes (v.put ++ x ∷ []) v.taken in
    let mine = h.fits port v at in
    let put = h.put ++ x ∷ [] in (
      w,
      record {
        putter = h.putter;
        taker = h.taker;
        put = put;
        taken = h.taken;
        order = ap (λ l. l ++ x ∷ []) h.order ∙ append_assoc h.taken items (x ∷ []);
        fits = all_set (Fits h.putter h.taker put h.taken) views port w (record { puts = λ _. ((mine.puts may).0, ap (λ l. l ++ x ∷ []) (mine.puts may).1); takes = mine.takes })
            (λ j u other e. record { puts = λ p. absurd (other (((h.fits j u e).puts p).0 ∙ sym (mine.puts may).0)); takes = (h.fits j u e).takes });
      },
      refl,
    )

pub takes : (port : ℕ) (v : Ends) → v.takes ≡ true → Pops IsInOrder port v (λ x w. w ≡ ends v.puts v.takes v.put (v.taken ++ x ∷ []))
takes port v may x items views h at =
    let w : Ends = ends v.puts v.takes v.put (v.taken ++ x ∷ []) in
    let mine = h.fits port v at in
    let taken = h.taken ++ x ∷ [] in (
      w,
      record {
        putter = h.putter;
        taker = h.taker;
        put = h.put;
        taken = taken;
        order = h.order ∙ sym (append_assoc h.taken (x ∷ []) items);
        fits = all_set (Fits h.putter h.taker h.put taken) views port w (record { puts = mine.puts; takes = λ _. ((mine.takes may).0, ap (λ l. l ++ x ∷ []) (mine.takes may).1) })
            (λ j u other e. record { puts = (h.fits j u e).puts; takes = λ p. absurd (other (((h.fits j u e).takes p).0 ∙ sym (mine.takes may).0)) });
      },
      refl,
    )

pub forks : (port : ℕ) (v : Ends) → v.puts ≡ true → v.takes ≡ true → Forks IsInOrder port v (ends true false v.put []) (ends false true [] v.taken)
forks port v a b items views h at =
    let l : Ends = ends true false v.put [] in
    let r : Ends = ends false true [] v.taken in
    let mine = h.fits port v at in
    let vs : List Ends = set views port l in
    let Old : ℕ → Ends → Type 0 = λ j u. (u.puts ≡ true → (j ≡ h.putter) × (u.put ≡ h.put)) × (u.takes ≢ true) in
    let old : All Old vs = all_set Old views port l ((λ _. mine.puts a), λ p. true≢false (sym p)) (λ j u other e. ((h.fits j u e).puts, λ p. other (((h.fits j u e).takes p).0 ∙ sym (mine.takes b).0))) in
    record {
      putter = h.putter;
      taker = length vs;
      put = h.put;
      taken = h.taken;
      order = h.order;
      fits = λ j u e. ⊎_elim (λ x. record { puts = (old j u x).0; takes = λ p. absurd ((old j u x).1 p) })
          (λ (is : r ≡ u). record {
            puts = λ p. absurd (true≢false (sym (ap (λ (y : Ends). y.puts) is ∙ p)));
            takes = λ p. (at_end vs r u j (λ x. (old j u x).1 p) e, ap (λ (y : Ends). y.taken) (sym is) ∙ (mine.takes b).1);
          }) (at_snoc vs r u j e);
    }

pub merges : (port : ℕ) (v : Ends) (other : ℕ) (u : Ends) → v.puts ≡ true → u.takes ≡ true → Merges IsInOrder port v other u (ends true true v.put u.taken) (ends false false [] [])
merges port v other u a b items views h at two at' =
    let both : Ends = ends true true v.put u.taken in
    let mine = h.fits port v at in
    let vs : List Ends = set views port both in
    let was : get_elem? views other ≡ some u = ⊎_elim (λ x. absurd (two x.0)) (λ x. x.1) (at_set views port other both u at') in
    let theirs = (h.fits other u was).takes b in
    let Now : ℕ → Ends → Type 0 = λ j y. j ≢ other → Fits h.putter port h.put h.taken j y in
    let now : All Now vs = all_set Now views port both (λ _. record { puts = λ _. mine.puts a; takes = λ _. (refl, theirs.1) })
    (λ j y _ e apart. record { puts = (h.fits j y e).puts; takes = λ p. absurd (apart (((h.fits j y e).takes p).0 ∙ sym theirs.0)) }) in
    record {
      putter = h.putter;
      taker = port;
      put = h.put;
      taken = h.taken;
      order = h.order;
      fits = all_set (Fits h.putter port h.put h.taken) vs other (ends false false [] []) (record { puts = λ p. absurd (true≢false (sym p)); takes = λ p. absurd (true≢false (sym p)) })
          (λ j y apart e. now j y e apart);
    }

pub totals : (port : ℕ) (v : Ends) → v.puts ≡ true → v.takes ≡ true → Learns IsInOrder port v (λ items. v.put ≡ v.taken ++ items)
totals port v a b items views h at = let mine = h.fits port v at in (mine.puts a).1 ∙ h.order ∙ ap (λ l. l ++ items) (sym (mine.takes b).1)
