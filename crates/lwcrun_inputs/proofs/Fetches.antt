-- What has been read of a file, piece by piece.
use Rattle.std.proofs.Common.{◌≡◌, ◌≤◌, ◌<◌, ℕ, ◌+◌, ◌-◌, min, List, [], ◌∷◌, ◌++◌, Option, None, Some, IfSome, All, take, drop, length, refl, ap, sym, subst, ◌∙◌, append_assoc, arith, length-append, length-take}
use Rattle.std.proofs.Math.Seq.{take-add}
use Rattle.std.proofs.lemmas.List.{append-nil}
use Rattle.std.proofs.lemmas.List.Elements.{All-get_or, All-nil, All-push, All-weaker}
use Rattle.std.proofs.lemmas.List.Quantifiers.{all_pairs_push}
use Rattle.lwc_io.specs.Outside.{CountsOneFault, Fetch, FilesView, IsPiece}
use Rattle.lwcrun_inputs.specs.declared.reading.TheConstants.{CHUNK}
use Rattle.lwcrun_inputs.specs.Reading.{Fetched, GaveBefore, MayBeginWith, MayExceed, ReadsOnward, ReadsToTheEnd}

length-taken : (n : ℕ) (xs : List ℕ) → n ≤ length xs → length (take n xs) ≡ n
length-taken n xs h = omega (arith, length-take n xs)

-- a file that may begin with these bytes may begin with them and the next piece
pub more_begins : (contents : Option (List ℕ)) (bytes buffer : List ℕ) (at n : ℕ) → at ≡ length bytes → n ≤ length buffer → MayBeginWith contents bytes → IfSome contents (λ known. IsPiece known at n buffer) → MayBeginWith contents (bytes ++ take n buffer)
more_begins None bytes buffer at n is_at fits begins piece = tt
more_begins (Some known) bytes buffer at n is_at fits begins piece =
    let long : length (bytes ++ take n buffer) ≡ length bytes + n = length-append bytes (take n buffer) ∙ ap (λ k. length bytes + k) (length-taken n buffer fits) in
    ap (λ k. take k known) long
    ∙ take-add (length bytes) n known
    ∙ ap (λ xs. xs ++ take n (drop (length bytes) known)) begins
    ∙ ap (λ xs. bytes ++ xs) (ap (λ k. take n (drop k known)) (sym is_at) ∙ sym piece.bytes)

longer : (known bytes : List ℕ) → take (length bytes) known ≡ bytes → length bytes ≤ length known
longer known bytes e = omega (arith, ap length e, length-take (length bytes) known)

-- a file that may begin with more bytes than the limit may have more
pub passes_limit : (limit : ℕ) (contents : Option (List ℕ)) (bytes : List ℕ) → limit < length bytes → MayBeginWith contents bytes → MayExceed limit contents
passes_limit limit None bytes over begins = (bytes, tt, over)
passes_limit limit (Some known) bytes over begins = (known, refl, omega (arith, longer known bytes begins))

begins_empty : (contents : Option (List ℕ)) (bytes : List ℕ) → bytes ≡ [] → MayBeginWith contents bytes
begins_empty None bytes e = tt
begins_empty (Some known) bytes e = ap (λ xs. take (length xs) known) e ∙ sym e

-- fetches that read onward, each of which gave something before the n-th byte
pub record ReadsBefore (name : List ℕ) (limit n : ℕ) (fetches : List Fetch) : Type 0 where
  pub onward : ReadsOnward name limit fetches
  pub before : All (GaveBefore n) fetches

-- no fetches read onward
pub none_onward : (name : List ℕ) (limit : ℕ) → ReadsOnward name limit []
none_onward name limit = record {
  named = All-nil (λ f. f.name ≡ name);
  within = All-nil (λ f. (f.at ≤ limit) × (f.most ≡ min (limit + 1 - f.at) CHUNK));
  onward = λ i j d earlier inside. absurd (omega (arith, inside));
}

-- a fetch of the n-th byte and more, which gave this number of them
abbrev from_byte : List ℕ → ℕ → ℕ → Option ℕ → Fetch
from_byte name n most given = record { name = name; at = n; most = most; given = given }

one_more : (name : List ℕ) (limit n most : ℕ) (given : Option ℕ) (fetches : List Fetch) → ReadsBefore name limit n fetches → n ≤ limit → most ≡ min (limit + 1 - n) CHUNK → ReadsOnward name limit (fetches ++ from_byte name n most given ∷ [])
one_more name limit n most given fetches h left exact = record {
  named = All-push (λ f. f.name ≡ name) fetches (from_byte name n most given) h.onward.named refl;
  within = All-push (λ f. (f.at ≤ limit) × (f.most ≡ min (limit + 1 - f.at) CHUNK)) fetches (from_byte name n most given) h.onward.within (left, exact);
  onward = all_pairs_push (λ f g. GaveBefore g.at f) fetches (from_byte name n most given) h.onward.onward
      (λ k d inside. All-get_or (GaveBefore n) fetches k d inside h.before);
}

one_before : (name : List ℕ) (limit n most gave : ℕ) (fetches : List Fetch) → ReadsBefore name limit n fetches → n ≤ limit → most ≡ min (limit + 1 - n) CHUNK → 0 < gave →
    ReadsBefore name limit (n + gave) (fetches ++ from_byte name n most (Some gave) ∷ [])
one_before name limit n most gave fetches h left exact any = record {
  onward = one_more name limit n most (Some gave) fetches h left exact;
  before = All-push (GaveBefore (n + gave)) fetches (from_byte name n most (Some gave))
      (All-weaker (GaveBefore n) (GaveBefore (n + gave)) (λ f earlier. (earlier.0, earlier.1, earlier.2, omega (arith, earlier.3))) fetches h.before)
      (gave, refl, any, omega arith);
}

fetched_more : {P : List Fetch → Type 0} (before mid after : List Fetch) (name : List ℕ) (limit n : ℕ) (fetch : Fetch) (read : Fetched (ReadsBefore name limit n) before mid) →
    after ≡ mid ++ fetch ∷ [] → P (read.0 ++ fetch ∷ []) → Fetched P before after
fetched_more before mid after name limit n fetch (made, is, h) logged holds = (
  made ++ fetch ∷ [],
  logged ∙ ap (λ xs. xs ++ fetch ∷ []) is ∙ append_assoc before made (fetch ∷ []),
  holds,
)

-- a part of a file was read, into a buffer of 65536 bytes; no contents have changed, and no fetch failed
pub record ReadSoFar (files after : FilesView) (name : List ℕ) (limit : ℕ) (bytes : List ℕ) (buffer : ℕ) : Type 0 where
  pub begins : MayBeginWith (files.contents name) bytes
  pub short : length bytes ≤ limit + 1
  pub same : after.contents ≡ files.contents
  pub faults : after.faults ≡ files.faults
  pub fetched : Fetched (ReadsBefore name limit (length bytes)) files.fetches after.fetches
  pub chunk : buffer ≡ 65536

-- nothing was fetched so far
pub nothing_fetched : {P : List Fetch → Type 0} (fetches : List Fetch) → P [] → Fetched P fetches fetches
nothing_fetched fetches holds = ([], sym (append-nil fetches), holds)

-- nothing was read so far
pub nothing_read : (files : FilesView) (name : List ℕ) (limit : ℕ) (bytes : List ℕ) (buffer : ℕ) → bytes ≡ [] → buffer ≡ 65536 → ReadSoFar files files name limit bytes buffer
nothing_read files name limit bytes buffer none chunk = record {
  begins = begins_empty (files.contents name) bytes none;
  short = omega (arith, ap length none);
  same = refl;
  faults = refl;
  fetched = nothing_fetched files.fetches (record { onward = none_onward name limit; before = All-nil (GaveBefore (length bytes)) });
  chunk = chunk;
}

-- what was fetched of a file of which a part was read
pub fetched_so_far : (files after : FilesView) (name : List ℕ) (limit : ℕ) (bytes : List ℕ) (buffer : ℕ) → ReadSoFar files after name limit bytes buffer → Fetched (ReadsOnward name limit) files.fetches after.fetches
fetched_so_far files after name limit bytes buffer so_far = (so_far.fetched.0, so_far.fetched.1, so_far.fetched.2.onward)

module _ (files mid after : FilesView) (name : List ℕ) (limit : ℕ) (bytes : List ℕ) (buffer at most : ℕ) (given : Option ℕ) (so_far : ReadSoFar files mid name limit bytes buffer) (is_at : at ≡ length bytes) (logged : after.fetches ≡ mid.fetches ++ from_byte name at most given ∷ []) (left : at ≤ limit) (exact : most ≡ min (limit + 1 - at) CHUNK) where
  is_logged : after.fetches ≡ mid.fetches ++ from_byte name (length bytes) most given ∷ []
  is_logged = logged ∙ ap (λ n. mid.fetches ++ from_byte name n most given ∷ []) is_at

  left-here : length bytes ≤ limit
  left-here = subst (λ n. n ≤ limit) is_at left

  exact-here : most ≡ min (limit + 1 - length bytes) CHUNK
  exact-here = exact ∙ ap (λ n. min (limit + 1 - n) CHUNK) is_at

  -- what was fetched with one more piece
  pub fetched_next : Fetched (ReadsOnward name limit) files.fetches after.fetches
  fetched_next =
      fetched_more {P = ReadsOnward name limit} files.fetches mid.fetches after.fetches name limit (length bytes) _ so_far.fetched is_logged
      (one_more name limit (length bytes) most given so_far.fetched.0 so_far.fetched.2 left-here exact-here)

  -- what was fetched with one that was at the file's end
  pub fetched_to_the_end : given ≡ Some 0 → Fetched (ReadsToTheEnd name limit) files.fetches after.fetches
  fetched_to_the_end end =
      fetched_more {P = ReadsToTheEnd name limit} files.fetches mid.fetches after.fetches name limit (length bytes) _ so_far.fetched is_logged
      (record {
        onward = one_more name limit (length bytes) most given so_far.fetched.0 so_far.fetched.2 left-here exact-here;
        front = so_far.fetched.0;
        last = from_byte name (length bytes) most given;
        is = refl;
        end = end;
      })

  -- one more piece was read, which was not empty
  pub more_read : (bytes_now : List ℕ) (buffer_now : ℕ) → MayBeginWith (mid.contents name) bytes_now → length bytes_now ≤ limit + 1 → (n : ℕ) → given ≡ Some n → length bytes_now ≡ length bytes + n → 0 < n → after.contents ≡ mid.contents → after.faults ≡ mid.faults → buffer_now ≡ buffer → ReadSoFar files after name limit bytes_now buffer_now
  more_read bytes_now buffer_now begins short n gave grows any same faults chunk = record {
    begins = (let P : (List ℕ → Option (List ℕ)) → Type 0 = λ f. MayBeginWith (f name) bytes_now in subst P so_far.same begins);
    short = short;
    same = same ∙ so_far.same;
    faults = faults ∙ so_far.faults;
    fetched = subst (λ n. Fetched (ReadsBefore name limit n) files.fetches after.fetches) (sym grows)
        (fetched_more {P = ReadsBefore name limit (length bytes + n)} files.fetches mid.fetches after.fetches name limit (length bytes) _ so_far.fetched
        (is_logged ∙ ap (λ o. mid.fetches ++ from_byte name (length bytes) most o ∷ []) gave)
        (one_before name limit (length bytes) most n so_far.fetched.0 so_far.fetched.2 left-here exact-here any));
    chunk = chunk ∙ so_far.chunk;
  }

-- a count that has increased since it was what it was at first
pub increased_by_then : (files mid after : FilesView) (name : List ℕ) → mid.faults ≡ files.faults → CountsOneFault (mid.faults name) (after.faults name) → CountsOneFault (files.faults name) (after.faults name)
increased_by_then files mid after name same rose = (let P : (List ℕ → ℕ) → Type 0 = λ f. CountsOneFault (f name) (after.faults name) in subst P same rose)
