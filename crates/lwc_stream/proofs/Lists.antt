-- Lists at their places, and one more reply in one of them.
use Rattle.std.proofs.Common.{◌≡◌, ◌⊎◌, inl, inr, ℕ, zero, suc, ◌<◌, refl, sym, ap, subst, ◌∙◌, Some, List, [], ◌∷◌, ◌++◌, All, length, get_or, map, arith}
use Rattle.std.specs.Prelude.{slice_get, slice_set}
use Rattle.lwc_stream.specs.Replies.{IsAmong}
use Rattle.snapshot_host.specs.declared.finishing.Finished.{Finished}

-- what stands at a place of a mapped list
mapped_there : {A B : Type 0} (f : A → B) (xs : List A) (i : ℕ) (d : A) → i < length xs → slice_get (map f xs) i ≡ Some (f (get_or xs i d))
mapped_there f [] i d inside = absurd (omega arith)
mapped_there f (x ∷ xs) zero d inside = refl
mapped_there f (x ∷ xs) (suc i) d inside = mapped_there f xs i d (omega arith)

pub at_place : {A B : Type 0} (f : A → B) (xs : List A) (ys : List B) (i : ℕ) (d : A) → map f xs ≡ ys → i < length xs → slice_get ys i ≡ Some (f (get_or xs i d))
at_place f xs ys i d same inside = subst (λ l. slice_get l i ≡ Some (f (get_or xs i d))) same (mapped_there f xs i d inside)

-- what is made of each is the same where it is the same of each
pub map_all : {A B : Type 0} (f g : A → B) (xs : List A) → All (λ x. f x ≡ g x) xs → map f xs ≡ map g xs
map_all f g [] each = refl
map_all f g (x ∷ xs) each = ap (λ y. y ∷ map f xs) (each 0 x (omega arith)) ∙ ap (λ l. g x ∷ l) (map_all f g xs (λ k d inside. each (suc k) d (omega arith)))

-- a change at a place changes the mapped list there
pub map_set : {A B : Type 0} (f : A → B) (xs : List A) (i : ℕ) (y : A) → map f (slice_set xs i y) ≡ slice_set (map f xs) i (f y)
map_set f [] i y = refl
map_set f (x ∷ xs) zero y = refl
map_set f (x ∷ xs) (suc i) y = ap (λ l. f x ∷ l) (map_set f xs i y)

pub set_count : {A : Type 0} (xs : List A) (i : ℕ) (y : A) → length (slice_set xs i y) ≡ length xs
set_count [] i y = refl
set_count (x ∷ xs) zero y = refl
set_count (x ∷ xs) (suc i) y = ap suc (set_count xs i y)

pub set_same : {A : Type 0} (xs : List A) (i : ℕ) (y : A) → slice_get xs i ≡ Some y → slice_set xs i y ≡ xs
set_same [] i y there = cc
set_same (x ∷ xs) zero y there = let same : x ≡ y = cc in ap (λ z. z ∷ xs) (sym same)
set_same (x ∷ xs) (suc i) y there = ap (λ l. x ∷ l) (set_same xs i y there)

-- one more on each side
pub push_map : {A B : Type 0} (f : A → B) (xs : List A) (x : A) → map f (xs ++ x ∷ []) ≡ map f xs ++ f x ∷ []
push_map f [] x = refl
push_map f (y ∷ xs) x = ap (λ l. f y ∷ l) (push_map f xs x)

pub map_push : {A B : Type 0} (f : A → B) (xs more : List A) (ys longer : List B) (x : A) (y : B) → map f xs ≡ ys → more ≡ xs ++ x ∷ [] → longer ≡ ys ++ y ∷ [] → f x ≡ y → map f more ≡ longer
map_push f xs more ys longer x y same grown_xs grown_ys is =
    ap (map f) grown_xs ∙ (push_map f xs x ∙ (ap (λ l. l ++ f x ∷ []) same ∙ (ap (λ z. ys ++ z ∷ []) is ∙ sym grown_ys)))

-- the first of each side, and the others
pub record AreHeads {A B : Type 0} (f : A → B) (x : A) (xs : List A) (y : B) (ys : List B) : Type 0 where
  pub first : f x ≡ y
  pub others : map f xs ≡ ys

pub heads : {A B : Type 0} (f : A → B) (l xs : List A) (x : A) (m ys : List B) (y : B) → map f l ≡ m → l ≡ x ∷ xs → m ≡ y ∷ ys → AreHeads f x xs y ys
heads f l xs x m ys y same l_is m_is =
    let whole : f x ∷ map f xs ≡ y ∷ ys = sym (ap (map f) l_is) ∙ (same ∙ m_is) in
    record { first = cc; others = cc }

pub none_left : {A : Type 0} (xs : List A) → length xs ≡ 0 → xs ≡ []
none_left [] is = refl
none_left (x ∷ xs) is = absurd (omega arith)

-- the place behind the first lists
pub behind_there : {A : Type 0} (done : List A) (x : A) (rest : List A) → slice_get (done ++ x ∷ rest) (length done) ≡ Some x
behind_there [] x rest = refl
behind_there (y ∷ done) x rest = behind_there done x rest

pub behind_set : {A : Type 0} (done : List A) (x y : A) (rest : List A) → slice_set (done ++ x ∷ rest) (length done) y ≡ done ++ y ∷ rest
behind_set [] x y rest = refl
behind_set (z ∷ done) x y rest = ap (λ l. z ∷ l) (behind_set done x y rest)

-- replies in lists of which one has a reply more
get_more : (l : List Finished) (x y : Finished) (j : ℕ) → slice_get l j ≡ Some y → slice_get (l ++ x ∷ []) j ≡ Some y
get_more [] x y j is = cc
get_more (z ∷ l) x y zero is = is
get_more (z ∷ l) x y (suc j) is = get_more l x y j is

get_last : (l : List Finished) (x : Finished) → slice_get (l ++ x ∷ []) (length l) ≡ Some x
get_last l x = behind_there l x []

get_old : (l : List Finished) (x y : Finished) (j : ℕ) → slice_get (l ++ x ∷ []) j ≡ Some y → (slice_get l j ≡ Some y) ⊎ (y ≡ x)
get_old [] x y zero is = inr cc
get_old [] x y (suc j) is = cc
get_old (z ∷ l) x y zero is = inl is
get_old (z ∷ l) x y (suc j) is = get_old l x y j is

in_row : (lists : List (List Finished)) (i j : ℕ) (l : List Finished) (y : Finished) → slice_get lists i ≡ Some l → slice_get l j ≡ Some y → IsAmong lists y
in_row lists i j l y row is = record { row = i; place = j; list = l; row_is = row; there = is }

next_row : (k : List Finished) (ks : List (List Finished)) (y : Finished) → IsAmong ks y → IsAmong (k ∷ ks) y
next_row k ks y among = in_row (k ∷ ks) (suc among.row) among.place among.list y among.row_is among.there

module _ (l : List Finished) (x y : Finished) where
  still : (lists : List (List Finished)) (place i j : ℕ) (m : List Finished) → slice_get lists place ≡ Some l → slice_get lists i ≡ Some m → slice_get m j ≡ Some y → IsAmong (slice_set lists place (l ++ x ∷ [])) y
  still [] place i j m there row is = cc
  still (k ∷ ks) zero zero j m there row is =
      let same : m ≡ l = cc in
      in_row _ 0 j (l ++ x ∷ []) y refl (get_more l x y j (subst (λ n. slice_get n j ≡ Some y) same is))
  still (k ∷ ks) zero (suc i) j m there row is = in_row _ (suc i) j m y row is
  still (k ∷ ks) (suc place) zero j m there row is = in_row _ 0 j m y row is
  still (k ∷ ks) (suc place) (suc i) j m there row is = next_row k _ y (still ks place i j m there row is)

  new_here : (lists : List (List Finished)) (place : ℕ) → slice_get lists place ≡ Some l → IsAmong (slice_set lists place (l ++ x ∷ [])) x
  new_here [] place there = cc
  new_here (k ∷ ks) zero there = in_row _ 0 (length l) (l ++ x ∷ []) x refl (get_last l x)
  new_here (k ∷ ks) (suc place) there = next_row k _ x (new_here ks place there)

  from_last : (lists : List (List Finished)) (i j : ℕ) → slice_get lists i ≡ Some l → (slice_get l j ≡ Some y) ⊎ (y ≡ x) → IsAmong lists y ⊎ (y ≡ x)
  from_last lists i j row (inl old) = inl (in_row lists i j l y row old)
  from_last lists i j row (inr same) = inr same

  next_old : (k : List Finished) (ks : List (List Finished)) → IsAmong ks y ⊎ (y ≡ x) → IsAmong (k ∷ ks) y ⊎ (y ≡ x)
  next_old k ks (inl old) = inl (next_row k ks y old)
  next_old k ks (inr same) = inr same

  was : (lists : List (List Finished)) (place i j : ℕ) (m : List Finished) → slice_get lists place ≡ Some l → slice_get (slice_set lists place (l ++ x ∷ [])) i ≡ Some m → slice_get m j ≡ Some y → IsAmong lists y ⊎ (y ≡ x)
  was [] place i j m there row is = cc
  was (k ∷ ks) zero zero j m there row is =
      let same : m ≡ l ++ x ∷ [] = cc in
      from_last (k ∷ ks) 0 j there (get_old l x y j (subst (λ n. slice_get n j ≡ Some y) same is))
  was (k ∷ ks) zero (suc i) j m there row is = inl (in_row (k ∷ ks) (suc i) j m y row is)
  was (k ∷ ks) (suc place) zero j m there row is = inl (in_row (k ∷ ks) 0 j m y row is)
  was (k ∷ ks) (suc place) (suc i) j m there row is = next_old k ks (was ks place i j m there row is)

-- a reply of the lists before is one of the lists with one more, the new one is, and no others are
pub still_among : (lists : List (List Finished)) (place : ℕ) (l : List Finished) (x : Finished) → slice_get lists place ≡ Some l → (y : Finished) → IsAmong lists y → IsAmong (slice_set lists place (l ++ x ∷ [])) y
still_among lists place l x there y among = still l x y lists place among.row among.place among.list there among.row_is among.there

pub new_among : (lists : List (List Finished)) (place : ℕ) (l : List Finished) (x : Finished) → slice_get lists place ≡ Some l → IsAmong (slice_set lists place (l ++ x ∷ [])) x
new_among lists place l x there = new_here l x x lists place there

pub was_among : (lists : List (List Finished)) (place : ℕ) (l : List Finished) (x : Finished) → slice_get lists place ≡ Some l → (y : Finished) → IsAmong (slice_set lists place (l ++ x ∷ [])) y → IsAmong lists y ⊎ (y ≡ x)
was_among lists place l x there y among = was l x y lists place among.row among.place among.list there among.row_is among.there
