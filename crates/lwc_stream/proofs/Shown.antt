-- What is taken and what is shown keeps replies in order.
use Rattle.std.proofs.Common.{◌≡◌, ◌≢◌, ◌⊎◌, inl, inr, ℕ, zero, suc, ◌+◌, ◌≤◌, ◌<◌, refl, sym, ap, subst, ◌∙◌, Bool, true, false, Option, Some, None, List, [], ◌∷◌, ◌++◌, All, map, replicate, length, append_assoc, append-nil, arith}
use Rattle.std.proofs.lemmas.Bool.{false≢true}
use Rattle.std.proofs.lemmas.Bool.Decides.{nat_tests}
use Rattle.std.proofs.lemmas.List.{get_or-set_same, length-append}
use Rattle.std.specs.Prelude.{◌==◌, nat_lt, slice_get, slice_set}
use Rattle.std.specs.List.{flat_map}
use Rattle.lwc_io.specs.Outside.{SinkView}
use Rattle.lwc_stream.proofs.Lists.{set_count, behind_set, behind_there, new_among, still_among, was_among}
use Rattle.lwc_stream.proofs.Written.{none_written}
use Rattle.lwc_stream.specs.Replies.{AreShown, IsAmong, IsWritten, line_of, lines_of}
use Rattle.lwc_stream.specs.Streams.{HasShown, Held, IsOneMore, IsStreamed, at}
use Rattle.snapshot_host.specs.declared.finishing.Finished.{Finished}

same_or_apart : (u t : ℕ) → (u ≡ t) ⊎ (u ≢ t)
same_or_apart u t = by_test (u == t) refl
  where
    by_test : (b : Bool) → (u == t) ≡ b → (u ≡ t) ⊎ (u ≢ t)
    by_test true is = inl (grind (arith, nat_tests))
    by_test false is = inr (λ same. let itself : (u == t) ≡ true = grind (arith, nat_tests) in false≢true (sym is ∙ itself))

set_other : (places : List (Option Finished)) (i j : ℕ) (x : Option Finished) → j ≢ i → at (slice_set places i x) j ≡ at places j
set_other [] i j x apart = refl
set_other (p ∷ ps) zero zero x apart = absurd (apart refl)
set_other (p ∷ ps) zero (suc j) x apart = refl
set_other (p ∷ ps) (suc i) zero x apart = refl
set_other (p ∷ ps) (suc i) (suc j) x apart = set_other ps i j x (λ same. apart (ap suc same))

beyond : (places : List (Option Finished)) (i : ℕ) → length places ≤ i → at places i ≡ None
beyond [] i over = refl
beyond (p ∷ ps) zero over = absurd (omega (arith, over))
beyond (p ∷ ps) (suc i) over = beyond ps i (omega (arith, over))

get_push : (xs : List Finished) (x y : Finished) (i : ℕ) → slice_get (xs ++ x ∷ []) i ≡ Some y → (slice_get xs i ≡ Some y) ⊎ ((i ≡ length xs) × (x ≡ y))
get_push [] x y zero is = inr (refl, cc)
get_push [] x y (suc i) is = cc
get_push (z ∷ zs) x y zero is = inl is
get_push (z ∷ zs) x y (suc i) is =
    elim (get_push zs x y i is) [
      | inl there ↦ inl there
      | inr last ↦ inr (ap suc last.0, last.1)
    ]

-- nothing is shown before anything is taken
pub begins : (L : List (List Finished)) (held : Held) → ((x : Finished) → IsAmong L x → ⊥) → ((i : ℕ) → at held.places i ≡ None) → held.next ≡ 0 → IsStreamed L held []
begins L held nothing empty first = record {
  next = first;
  few = omega arith;
  numbers = λ i x is. cc;
  among = λ i x is. cc;
  waits = λ i x is. let clash : None ≡ Some x = sym (empty i) ∙ is in cc;
  here = λ x is. absurd (nothing x is);
}

less_or_more : (n k : ℕ) → (k < n) ⊎ (n ≤ k)
less_or_more n k = by_test (nat_lt k n) refl
  where
    by_test : (b : Bool) → nat_lt k n ≡ b → (k < n) ⊎ (n ≤ k)
    by_test true is = inl (grind (arith, nat_tests))
    by_test false is = inr (grind (arith, nat_tests))

-- a reply that is taken waits at its place
module _ (L N : List (List Finished)) (held new : Held) (x : Finished) (places : new.places ≡ slice_set held.places x.request (Some x)) (next : new.next ≡ held.next) where
  put_length : length new.places ≡ length held.places
  put_length = ap length places ∙ set_count held.places x.request (Some x)

  put_there : x.request < length held.places → at new.places x.request ≡ Some x
  put_there below = ap (λ ps. at ps x.request) places ∙ get_or-set_same held.places x.request (Some x) None below

  put_waits : ((i : ℕ) (y : Finished) → at held.places i ≡ Some y → (y.request ≡ i) × IsAmong L y) → ((y : Finished) → IsAmong L y → IsAmong N y) → IsAmong N x → (i : ℕ) (y : Finished) → at new.places i ≡ Some y →
      (i ≡ x.request) ⊎ (i ≢ x.request) → (x.request < length held.places) ⊎ (length held.places ≤ x.request) → (y.request ≡ i) × IsAmong N y
  put_waits waits more this i y is (inr apart) _ =
      let old = waits i y (sym (set_other held.places x.request i (Some x) apart) ∙ ap (λ ps. at ps i) (sym places) ∙ is) in (old.0, more y old.1)
  put_waits waits more this i y is (inl same) (inl below) =
      let both : Some x ≡ Some y = sym (put_there below) ∙ ap (at new.places) (sym same) ∙ is in
      let one : x ≡ y = cc in
      (ap (λ (z : Finished). z.request) (sym one) ∙ sym same, subst (IsAmong N) one this)
  put_waits waits more this i y is (inl same) (inr over) =
      let none : at new.places i ≡ None = beyond new.places i (omega (arith, over, same, put_length)) in
      let clash : None ≡ Some y = sym none ∙ is in cc

  abbrev Here : Finished → Type 0
  Here y = (y.request < new.next) ⊎ ((length new.places ≤ y.request) ⊎ ((z : Finished) × (at new.places y.request ≡ Some z)))

  put_here : (y : Finished) → y.request ≡ x.request → (x.request < length held.places) ⊎ (length held.places ≤ x.request) → Here y
  put_here y same (inl below) = inr (inr (x, ap (at new.places) same ∙ put_there below))
  put_here y same (inr over) = inr (inl (omega (arith, over, same, put_length)))

  put_still : (y : Finished) → (y.request < held.next) ⊎ ((length held.places ≤ y.request) ⊎ ((z : Finished) × (at held.places y.request ≡ Some z))) → (y.request ≡ x.request) ⊎ (y.request ≢ x.request) → Here y
  put_still y (inl before) _ = inl (omega (arith, before, next))
  put_still y (inr (inl over)) _ = inr (inl (omega (arith, over, put_length)))
  put_still y (inr (inr there)) (inl same) = put_here y same (less_or_more (length held.places) x.request)
  put_still y (inr (inr there)) (inr apart) = inr (inr (there.0, ap (λ ps. at ps y.request) places ∙ set_other held.places x.request y.request (Some x) apart ∙ there.1))

  pub puts : (shown : List Finished) → IsStreamed L held shown → ((y : Finished) → IsAmong L y → IsAmong N y) → IsAmong N x → ((y : Finished) → IsAmong N y → IsAmong L y ⊎ (y ≡ x)) → IsStreamed N new shown
  puts shown s more this only = record {
    next = next ∙ s.next;
    few = omega (arith, put_length, s.few);
    numbers = s.numbers;
    among = λ i y is. more y (s.among i y is);
    waits = λ i y is. put_waits s.waits more this i y is (same_or_apart i x.request) (less_or_more (length held.places) x.request);
    here = λ y is. elim (only y is) [
      | inl old ↦ put_still y (s.here y old) (same_or_apart y.request x.request)
      | inr same ↦ put_here y (ap (λ (z : Finished). z.request) same) (less_or_more (length held.places) x.request)
    ];
  }

-- the next reply is shown
module _ (L : List (List Finished)) (held new : Held) (shown : List Finished) (x : Finished) (s : IsStreamed L held shown) (is : at held.places held.next ≡ Some x) (below : held.next < length held.places)
    (places : new.places ≡ slice_set held.places held.next None) (next : new.next ≡ held.next + 1) where
  show_length : length new.places ≡ length held.places
  show_length = ap length places ∙ set_count held.places held.next None

  show_none : at new.places held.next ≡ None
  show_none = ap (λ ps. at ps held.next) places ∙ get_or-set_same held.places held.next None None below

  show_old : (i : ℕ) → i ≢ held.next → at new.places i ≡ at held.places i
  show_old i apart = ap (λ ps. at ps i) places ∙ set_other held.places held.next i None apart

  show_waits : (i : ℕ) (y : Finished) → at new.places i ≡ Some y → (i ≡ held.next) ⊎ (i ≢ held.next) → (y.request ≡ i) × IsAmong L y
  show_waits i y there (inl same) = let clash : None ≡ Some y = sym show_none ∙ ap (at new.places) (sym same) ∙ there in cc
  show_waits i y there (inr apart) = s.waits i y (sym (show_old i apart) ∙ there)

  show_here : (y : Finished) → (y.request < held.next) ⊎ ((length held.places ≤ y.request) ⊎ ((z : Finished) × (at held.places y.request ≡ Some z))) → (y.request ≡ held.next) ⊎ (y.request ≢ held.next) →
      (y.request < new.next) ⊎ ((length new.places ≤ y.request) ⊎ ((z : Finished) × (at new.places y.request ≡ Some z)))
  show_here y (inl before) _ = inl (omega (arith, before, next))
  show_here y (inr (inl over)) _ = inr (inl (omega (arith, over, show_length)))
  show_here y (inr (inr there)) (inl same) = inl (omega (arith, same, next))
  show_here y (inr (inr there)) (inr apart) = inr (inr (there.0, show_old y.request apart ∙ there.1))

  pub shows : IsStreamed L new (shown ++ x ∷ [])
  shows = record {
    next = omega (arith, next, s.next, length-append shown (x ∷ []));
    few = omega (arith, show_length, below, s.next, length-append shown (x ∷ []));
    numbers = λ i y there. elim (get_push shown x y i there) [
      | inl old ↦ s.numbers i y old
      | inr last ↦ ap (λ (z : Finished). z.request) (sym last.1) ∙ (s.waits held.next x is).0 ∙ s.next ∙ sym last.0
    ];
    among = λ i y there. elim (get_push shown x y i there) [
      | inl old ↦ s.among i y old
      | inr last ↦ subst (IsAmong L) last.1 (s.waits held.next x is).1
    ];
    waits = λ i y there. show_waits i y there (same_or_apart i held.next);
    here = λ y is. show_here y (s.here y is) (same_or_apart y.request held.next);
  }

-- where the next reply is not there, all are shown that can be
pub ends : (L : List (List Finished)) (held : Held) (shown : List Finished) → IsStreamed L held shown → at held.places held.next ≡ None → AreShown L (length held.places) shown
ends L held shown s none = record {
  few = s.few;
  numbers = s.numbers;
  finished = s.among;
  all = λ more x is same. not_here more x same (s.here x is);
}
  where
    not_here : length shown < length held.places → (x : Finished) → x.request ≡ length shown → (x.request < held.next) ⊎ ((length held.places ≤ x.request) ⊎ ((y : Finished) × (at held.places x.request ≡ Some y))) → ⊥
    not_here more x same (inl before) = omega (arith, before, same, s.next)
    not_here more x same (inr (inl over)) = omega (arith, over, same, more)
    not_here more x same (inr (inr there)) =
        let clash : None ≡ Some there.0 = sym none ∙ ap (at held.places) (s.next ∙ sym same) ∙ there.1 in cc

-- one line more
pub lines_push : (f : Finished → List ℕ) (xs : List Finished) (x : Finished) → flat_map f (xs ++ x ∷ []) ≡ flat_map f xs ++ f x
lines_push f [] x = append-nil (f x)
lines_push f (y ∷ ys) x = ap (λ l. f y ++ l) (lines_push f ys x) ∙ sym (append_assoc (f y) (flat_map f ys) (f x))

-- a reply was taken, and waits at its place
pub takes_one : (place : ℕ) (lists more : List (List Finished)) (held new : Held) (x : Finished) → IsOneMore place lists more x → new.places ≡ slice_set held.places x.request (Some x) → new.next ≡ held.next →
    (failed : Bool) (before now : SinkView) → HasShown lists held failed before now → HasShown more new failed before now
takes_one place lists more held new x one places next failed before now h =
    let grown : List (List Finished) = slice_set lists place (one.list ++ x ∷ []) in record {
      shown = h.shown;
      streamed = subst (λ l. IsStreamed l new h.shown) (sym one.grown)
          (puts lists grown held new x places next h.shown h.streamed (still_among lists place one.list x one.there) (new_among lists place one.list x one.there) (was_among lists place one.list x one.there));
      written = h.written;
    }

-- the next reply was shown
pub shows_one : (lists : List (List Finished)) (held new : Held) (x : Finished) → at held.places held.next ≡ Some x → held.next < length held.places → new.places ≡ slice_set held.places held.next None → new.next ≡ held.next + 1 →
    (failed failed' : Bool) (before mid now : SinkView) → ((text : List ℕ) → IsWritten failed before mid text → IsWritten failed' before now (text ++ line_of x)) → HasShown lists held failed before mid → HasShown lists new failed' before now
shows_one lists held new x is below places next failed failed' before mid now written h = record {
  shown = h.shown ++ x ∷ [];
  streamed = shows lists held new h.shown x h.streamed is below places next;
  written = subst (λ text. IsWritten failed' before now text) (sym (lines_push line_of h.shown x)) (written (lines_of h.shown) h.written);
}

-- the list behind the first ones has one more
pub behind_one : (done rest : List (List Finished)) (l : List Finished) (x : Finished) → IsOneMore (length done) (done ++ l ∷ rest) (done ++ (l ++ x ∷ []) ∷ rest) x
behind_one done rest l x = record { list = l; there = behind_there done l rest; grown = sym (behind_set done l (l ++ x ∷ []) rest) }

-- nothing was taken of lists that are all empty
none_in : (lists : List (List Finished)) (i j : ℕ) (l : List Finished) (x : Finished) → ((k : ℕ) (m : List Finished) → slice_get lists k ≡ Some m → m ≡ []) → slice_get lists i ≡ Some l → slice_get l j ≡ Some x → ⊥
none_in lists i j l x empty row is = let none : slice_get [] j ≡ Some x = subst (λ m. slice_get m j ≡ Some x) (empty i l row) is in cc

each_empty : {A : Type 0} (f : A → List Finished) (xs : List A) → All (λ x. f x ≡ []) xs → (k : ℕ) (m : List Finished) → slice_get (map f xs) k ≡ Some m → m ≡ []
each_empty f [] all k m is = cc
each_empty f (x ∷ xs) all zero m is = let same : f x ≡ m = cc in sym same ∙ all 0 x (omega arith)
each_empty f (x ∷ xs) all (suc k) m is = each_empty f xs (λ n d inside. all (suc n) d (omega arith)) k m is

no_place : (n i : ℕ) → at (replicate n None) i ≡ None
no_place zero i = refl
no_place (suc n) zero = refl
no_place (suc n) (suc i) = no_place n i

-- before anything is taken
pub opens : {A : Type 0} (f : A → List Finished) (xs : List A) (n : ℕ) (held : Held) (failed : Bool) (now : SinkView) → All (λ x. f x ≡ []) xs → held ≡ record { places = replicate n None; next = 0 } → failed ≡ false → HasShown (map f xs) held failed now now
opens f xs n held failed now all is unfailed = record {
  shown = [];
  streamed = begins (map f xs) held (λ x among. none_in (map f xs) among.row among.place among.list x (each_empty f xs all) among.row_is among.there)
      (λ i. ap (λ (h : Held). at h.places i) is ∙ no_place n i) (ap (λ (h : Held). h.next) is);
  written = none_written failed now unfailed;
}
