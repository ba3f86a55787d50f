-- Entries in chunks: what chunks name together, and chunks that name nothing.
use Rattle.std.proofs.Common.{◌≡◌, ℕ, ◌+◌, ◌<◌, ◌≤◌, ⊎_elim, false, eqb, ltb, List, ◌++◌, length, get_or, refl, sym, ◌∙◌, ap, arith, append_assoc, length-append}
use Rattle.std.specs.List.{list_any}
use Rattle.std.proofs.lemmas.List.{get_or_past}
use Rattle.std.proofs.lemmas.List.Folds.{list_any_at}
use Rattle.std.proofs.lemmas.List.Sums.{sum_by-append}
use Rattle.std.proofs.lemmas.Bool.{cases_lt}
use Rattle.fd_table.specs.Pools.{Held, count_of}
use Rattle.fd_table.specs.Objects.{HoldsMore, HoldsLess}
use Rattle.fd_table.specs.Tables.{times}
use Rattle.fd_table.proofs.ObjectLemmas.{one_if, times-few}
use Rattle.fd_table.proofs.SlotLemmas.{times-zeros}

times-append : (o : ℕ) (xs ys : List ℕ) → times o (xs ++ ys) ≡ times o xs + times o ys
unfolding times
times-append o xs ys = sum_by-append (λ x. one_if (eqb x (o + 1))) xs ys

-- entries of which none names an object
times-unnamed : (o : ℕ) (xs : List ℕ) → list_any (ltb 0) xs ≡ false → times o xs ≡ 0
times-unnamed o xs none =
    times-zeros o xs
    (λ n.
    ⊎_elim
    (λ lt.
    ⊎_elim
    (λ some. absurd (let found = list_any_at (ltb 0) xs n 0 lt (grind (arith, some)) in grind (arith, found, none)))
    (λ zero. omega (arith, zero))
    (cases_lt 0 (get_or xs n 0)))
    (get_or_past xs n 0)
    (cases_lt n (length xs)))

-- a chunk that names nothing
pub more-unnamed : (pool : List Held) (chunk : List ℕ) → list_any (ltb 0) chunk ≡ false → HoldsMore pool pool chunk
more-unnamed pool chunk none =
    record { size = refl; counts = λ o. let zero = times-unnamed o chunk none in omega (arith, zero); same = λ o. refl }

pub less-unnamed : (pool : List Held) (chunk : List ℕ) → list_any (ltb 0) chunk ≡ false → HoldsLess pool pool chunk
less-unnamed pool chunk none =
    record { size = refl; counts = λ o. let zero = times-unnamed o chunk none in omega (arith, zero); same = λ o. refl }

-- a chunk after those that were gone over
pub more-chunk : (old mid new : List Held) (done chunk : List ℕ) → HoldsMore old mid done → HoldsMore mid new chunk → HoldsMore old new (done ++ chunk)
more-chunk old mid new done chunk before now =
    record {
      size = now.size ∙ before.size;
      counts = λ o. let sum = times-append o done chunk in omega (arith, before.counts o, now.counts o, sum);
      same = λ o. now.same o ∙ before.same o;
    }

pub less-chunk : (old mid new : List Held) (done chunk : List ℕ) → HoldsLess old mid done → HoldsLess mid new chunk → HoldsLess old new (done ++ chunk)
less-chunk old mid new done chunk before now =
    record {
      size = now.size ∙ before.size;
      counts = λ o. let sum = times-append o done chunk in omega (arith, before.counts o, now.counts o, sum);
      same = λ o. now.same o ∙ before.same o;
    }

-- what the entries gone over, the next chunk and the rest name together
times-parts : (o : ℕ) (done chunk rest from all : List ℕ) → done ++ from ≡ all → from ≡ chunk ++ rest → times o all ≡ times o done + times o chunk + times o rest
times-parts o done chunk rest from all is parts =
    let whole = ap (times o) (sym is) ∙ times-append o done from in
    let next = ap (times o) parts ∙ times-append o chunk rest in
    omega (arith, whole, next)

-- the objects that the next chunk names may be held once more, or once less
pub chunk-held : (old mid : List Held) (done chunk rest from all : List ℕ) → HoldsMore old mid done → done ++ from ≡ all → from ≡ chunk ++ rest
    → ((o : ℕ) → 0 < times o all → 0 < count_of old o) → (o : ℕ) → 0 < times o chunk → 0 < count_of mid o
chunk-held old mid done chunk rest from all before is parts held o named =
    let sum = times-parts o done chunk rest from all is parts in
    omega (arith, before.counts o, held o (omega (arith, sum, named)))

pub chunk-fits : (old mid : List Held) (done chunk rest from all : List ℕ) (most : ℕ) → HoldsMore old mid done → done ++ from ≡ all → from ≡ chunk ++ rest
    → ((o : ℕ) → count_of old o + length all < most) → (o : ℕ) → count_of mid o + length chunk < most
chunk-fits old mid done chunk rest from all most before is parts fits o =
    let long = ap length (sym is) ∙ length-append done from in
    let next = ap length parts ∙ length-append chunk rest in
    omega (arith, before.counts o, times-few o done, fits o, long, next)

pub chunk-may : (old mid : List Held) (done chunk rest from all : List ℕ) → HoldsLess old mid done → done ++ from ≡ all → from ≡ chunk ++ rest
    → ((o : ℕ) → times o all ≤ count_of old o) → (o : ℕ) → times o chunk ≤ count_of mid o
chunk-may old mid done chunk rest from all before is parts may o =
    let sum = times-parts o done chunk rest from all is parts in
    omega (arith, before.counts o, may o, sum)

-- the entries gone over grow by the chunk
pub chunk-done : (done chunk rest from all : List ℕ) → done ++ from ≡ all → from ≡ chunk ++ rest → (done ++ chunk) ++ rest ≡ all
chunk-done done chunk rest from all is parts =
    append_assoc done chunk rest ∙ ap (λ (xs : List ℕ). done ++ xs) (sym parts) ∙ is
