-- Items that are spelled are read, and what is read is spelled so.
use Rattle.std.proofs.Common.{◌≡◌, ◌∙◌, ◌<◌, ◌+◌, ◌*◌, ◌/◌, ◌%◌, ◌^◌, ◌++◌, ℕ, zero, suc, Bool, true, false, cond, List, [], ◌∷◌, Option, Some, None, refl, sym, ap, subst, length, get_or, take, drop, arith, All, inl, inr, ◌≤◌, ◌&&◌}
use Rattle.std.specs.Prelude.{IsTrue, is_some, map}
use Rattle.std.specs.List.{cons_option, filter_map, flat_map, list_all, range_with_len}
use Rattle.std.proofs.Math.Seq.{drop-append-add}
use Rattle.std.proofs.lemmas.Bool.{cases_lt}
use Rattle.std.proofs.lemmas.List.{take-append-drop, length-append, length-take, length-drop, get_or-drop, get_or-take, get_or_past, drop-drop, drop_at}
use Rattle.std.proofs.lemmas.List.Concat.{flat_map-cons}
use Rattle.std.proofs.lemmas.List.Elements.{All-cons, All-head, All-nil, All-tail}
use Rattle.std.proofs.lemmas.Nat.{le_bytes_4}
use Rattle.byteorder.specs.Endian.{little_number}
use Rattle.byteorder.specs.Numbers.{little_number-reads_back, little_from-append, little_from-lt}
use Rattle.lwc_base.specs.declared.item.Item.{Item}
use Rattle.lwc_base.specs.declared.item.Mode.{Mode}
use Rattle.lwc_base.specs.declared.item.Mode.TheVariants.{Copy, Share, Unmap, CopyRead}
use Rattle.lwc_types.specs.declared.key.Kind.{Kind}
use Rattle.lwc_types.specs.declared.key.Kind.TheVariants.{Page, Slot, Cred}
use Rattle.res_spec.specs.declared.items.SpecCall.{SpecCall}
use Rattle.res_spec.specs.Items.{Spelled, all_taken, item_of, item_of_kind, item_with, items_in, kind_of_number, mode_of_number, number_at, spelled, spelled_at, taken, takes}
use Rattle.res_spec.specs.Spelling.{kind_number, mode_number, number, spelling, Spells}

abbrev pub AreBytes : List ℕ → Type 0
AreBytes bytes = (i : ℕ) → get_or bytes i 0 < 256

-- ---- numbers and items

kind_back : (k : Kind) → kind_of_number (kind_number k) ≡ Some k
kind_back Page = refl
kind_back Slot = refl
kind_back Cred = refl

mode_back : (m : Mode) → mode_of_number (mode_number m) ≡ Some m
mode_back Copy = refl
mode_back Share = refl
mode_back Unmap = refl
mode_back CopyRead = refl

kind_forth : (n : ℕ) (k : Kind) → kind_of_number n ≡ Some k → kind_number k ≡ n
kind_forth zero k e = let is : Page ≡ k = cc in ap kind_number (sym is)
kind_forth (suc zero) k e = let is : Slot ≡ k = cc in ap kind_number (sym is)
kind_forth (suc (suc zero)) k e = let is : Cred ≡ k = cc in ap kind_number (sym is)
kind_forth (suc (suc (suc n))) k e = absurd cc

mode_forth : (n : ℕ) (m : Mode) → mode_of_number n ≡ Some m → mode_number m ≡ n
mode_forth zero m e = let is : Copy ≡ m = cc in ap mode_number (sym is)
mode_forth (suc zero) m e = let is : Share ≡ m = cc in ap mode_number (sym is)
mode_forth (suc (suc zero)) m e = let is : Unmap ≡ m = cc in ap mode_number (sym is)
mode_forth (suc (suc (suc zero))) m e = let is : CopyRead ≡ m = cc in ap mode_number (sym is)
mode_forth (suc (suc (suc (suc n)))) m e = absurd cc

-- the numbers of an item
abbrev spelled_of : Item → Spelled
spelled_of item = record { kind = kind_number item.kind; mode = mode_number item.mode; from = item.from; to = item.to }

is_item : (call : SpecCall) (item : Item) → takes call item.kind item.mode ≡ true → item_of call (spelled_of item) ≡ Some item
is_item call item takes_it = rw (kind_back item.kind, mode_back item.mode, takes_it) refl

taken_is : (call : SpecCall) (k : Kind) (o : Option Mode) (m : Mode) → taken call k o ≡ Some m → (o ≡ Some m) × (takes call k m ≡ true)
taken_is call k None m e = absurd cc
taken_is call k (Some n) m e = by_test (takes call k n) refl e
  where
    by_test : (b : Bool) → takes call k n ≡ b → cond b (Some n) None ≡ Some m → (Some n ≡ Some m) × (takes call k m ≡ true)
    by_test true is e = (e, let same : n ≡ m = cc in subst (λ (x : Mode). takes call k x ≡ true) same is)
    by_test false is e = absurd cc

-- what it means that numbers make an item
record Makes (call : SpecCall) (s : Spelled) (item : Item) : Type 0 where
  numbers : s ≡ spelled_of item
  takes_it : takes call item.kind item.mode ≡ true

parts_of : (s : Spelled) (k : Kind) (m : Option Mode) (item : Item) → item_with s k m ≡ Some item → (k ≡ item.kind) × (m ≡ Some item.mode) × (s.from ≡ item.from) × (s.to ≡ item.to)
parts_of s k None item e = absurd cc
parts_of s k (Some m) item e =
    let is = some_is (record { kind = k; mode = m; from = s.from; to = s.to }) item e in
    (ap (λ (i : Item). i.kind) is, ap (λ (i : Item). Some i.mode) is, ap (λ (i : Item). i.from) is, ap (λ (i : Item). i.to) is)
  where
    some_is : (a b : Item) → Some a ≡ Some b → a ≡ b
    some_is a b e = cc

makes : (call : SpecCall) (s : Spelled) (item : Item) → item_of call s ≡ Some item → Makes call s item
makes call s item e = of_kind (kind_of_number s.kind) refl e
  where
    same : s.kind ≡ kind_number item.kind → s.mode ≡ mode_number item.mode → s.from ≡ item.from → s.to ≡ item.to → s ≡ spelled_of item
    same a b c d = let whole : record { kind = s.kind; mode = s.mode; from = s.from; to = s.to } ≡ spelled_of item = rw (a, b, c, d) refl in whole

    of_kind : (k : Option Kind) → kind_of_number s.kind ≡ k → item_of_kind call s k ≡ Some item → Makes call s item
    of_kind None is e = absurd cc
    of_kind (Some k) is e =
        let p = parts_of s k (taken call k (mode_of_number s.mode)) item e in
        let t = taken_is call k (mode_of_number s.mode) item.mode p.1 in
        let kind : s.kind ≡ kind_number item.kind = sym (kind_forth s.kind item.kind (is ∙ ap (λ (k : Kind). Some k) p.0)) in
        let mode : s.mode ≡ mode_number item.mode = sym (mode_forth s.mode item.mode t.0) in
        record { numbers = same kind mode p.2 p.3; takes_it = subst (λ (k : Kind). takes call k item.mode ≡ true) p.0 t.1 }

-- ---- bytes and numbers

number_back : (n : ℕ) (rest : List ℕ) → n < 2 ^ 32 → little_number 4 (number n ++ rest) ≡ n
number_back n rest lt = little_number-reads_back 4 n rest lt

number_forth : (field : List ℕ) → length field ≡ 4 → AreBytes field → number (little_number 4 field) ≡ field
number_forth field len fits = le_bytes_4 field (little_number 4 field) len fits (omega arith)

AreBytes-take : (n : ℕ) (bytes : List ℕ) → AreBytes bytes → AreBytes (take n bytes)
AreBytes-take n bytes fits i =
    elim (cases_lt i n) [
      | inl lt ↦ rw (get_or-take n bytes i 0 lt) (fits i)
      | inr le ↦ rw (get_or_past (take n bytes) i 0 (omega (arith, length-take n bytes))) (omega arith)
    ]

AreBytes-drop : (n : ℕ) (bytes : List ℕ) → AreBytes bytes → AreBytes (drop n bytes)
AreBytes-drop n bytes fits i = rw get_or-drop (fits (n + i))

-- the bytes of a field are those of its number
field_is : (at : ℕ) (bytes : List ℕ) → at + 4 ≤ length bytes → AreBytes bytes → drop at bytes ≡ number (number_at bytes at) ++ drop (at + 4) bytes
field_is at bytes inside fits =
    let field = take 4 (drop at bytes) in
    let long : length field ≡ 4 = omega (arith, length-take 4 (drop at bytes), length-drop at bytes) in
    let split : field ++ drop 4 (drop at bytes) ≡ drop at bytes = take-append-drop 4 (drop at bytes) in
    let value : number_at bytes at ≡ little_number 4 field = ap (little_number 4) (sym split) ∙ little_from-append 4 field (drop 4 (drop at bytes)) (omega arith) in
    sym split
    ∙ ap (λ (l : List ℕ). l ++ drop 4 (drop at bytes)) (sym (number_forth field long (AreBytes-take 4 (drop at bytes) (AreBytes-drop at bytes fits))))
    ∙ ap (λ (n : ℕ). number n ++ drop 4 (drop at bytes)) (sym value)
    ∙ ap (λ (l : List ℕ). number (number_at bytes at) ++ l) (drop_drop at bytes)
  where
    drop_drop : (at : ℕ) (bytes : List ℕ) → drop 4 (drop at bytes) ≡ drop (at + 4) bytes
    drop_drop at bytes = simp drop-drop

-- ---- one item after another

shifted : {X : Type 0} (f g : ℕ → X) (a n : ℕ) → ((i : ℕ) → f (i + 1) ≡ g i) → map f (range_with_len (a + 1) n) ≡ map g (range_with_len a n)
shifted f g a zero h = refl
shifted f g a (suc n) h = let here = h a in let later = shifted f g (a + 1) n h in cc

same_number : (first rest : List ℕ) (i k j : ℕ) → length first ≡ 16 → j ≡ 16 + (i * 16 + k) → number_at (first ++ rest) j ≡ number_at rest (i * 16 + k)
same_number first rest i k j len is =
    let place : j ≡ length first + (i * 16 + k) = omega arith in
    ap (λ (n : ℕ). little_number 4 (drop n (first ++ rest))) place ∙ ap (little_number 4) (drop-append-add first rest (i * 16 + k))

same_item : (first rest : List ℕ) (i : ℕ) → length first ≡ 16 → spelled_at (first ++ rest) ((i + 1) * 16) ≡ spelled_at rest (i * 16)
same_item first rest i len =
    let a : number_at (first ++ rest) ((i + 1) * 16) ≡ number_at rest (i * 16) = same_number first rest i 0 ((i + 1) * 16) len (omega arith) ∙ ap (number_at rest) (omega arith) in
    let b = same_number first rest i 4 ((i + 1) * 16 + 4) len (omega arith) in
    let c = same_number first rest i 8 ((i + 1) * 16 + 8) len (omega arith) in
    let d = same_number first rest i 12 ((i + 1) * 16 + 12) len (omega arith) in
    cc

spelled_next : (first rest : List ℕ) → length first ≡ 16 → spelled (first ++ rest) ≡ spelled_at (first ++ rest) 0 ∷ spelled rest
unfolding spelled
spelled_next first rest len =
    let count : length (first ++ rest) / 16 ≡ suc (length rest / 16) = omega (arith, length-append first rest) in
    let at = λ (i : ℕ). spelled_at (first ++ rest) (i * 16) in
    let more = λ (i : ℕ). spelled_at rest (i * 16) in
    ap (λ (n : ℕ). map at (range_with_len 0 n)) count
    ∙ ap (λ (l : List Spelled). spelled_at (first ++ rest) 0 ∷ l) (shifted at more 0 (length rest / 16) (λ i. same_item first rest i len))

-- ---- items that are spelled are read

first_item : (item : Item) (rest : List ℕ) → item.from < 2 ^ 32 → item.to < 2 ^ 32 → spelled_at (spelling item ++ rest) 0 ≡ spelled_of item
first_item item rest from_fits to_fits =
    let kind_small : kind_number item.kind < 2 ^ 32 = small_kind item.kind in
    let mode_small : mode_number item.mode < 2 ^ 32 = small_mode item.mode in
    let tail = number item.from ++ (number item.to ++ rest) in
    let a = number_back (kind_number item.kind) (number (mode_number item.mode) ++ tail) kind_small in
    let b = number_back (mode_number item.mode) tail mode_small in
    let c = number_back item.from (number item.to ++ rest) from_fits in
    let d = number_back item.to rest to_fits in
    rw (a, b, c, d) refl
  where
    small_kind : (k : Kind) → kind_number k < 2 ^ 32
    small_kind Page = omega arith
    small_kind Slot = omega arith
    small_kind Cred = omega arith

    small_mode : (m : Mode) → mode_number m < 2 ^ 32
    small_mode Copy = omega arith
    small_mode Share = omega arith
    small_mode Unmap = omega arith
    small_mode CopyRead = omega arith

spelled_items : (items : List Item) → All (λ item. (item.from < 2 ^ 32) × (item.to < 2 ^ 32)) items → spelled (flat_map spelling items) ≡ map spelled_of items
unfolding spelled
spelled_items [] fits = refl
spelled_items (item ∷ items) fits =
    let one = All-head (λ item. (item.from < 2 ^ 32) × (item.to < 2 ^ 32)) item items fits in
    ap spelled (flat_map-cons spelling item items)
    ∙ spelled_next (spelling item) (flat_map spelling items) refl
    ∙ ap (λ (s : Spelled). s ∷ spelled (flat_map spelling items)) (first_item item (flat_map spelling items) one.0 one.1)
    ∙ ap (λ (l : List Spelled). spelled_of item ∷ l) (spelled_items items (All-tail (λ item. (item.from < 2 ^ 32) × (item.to < 2 ^ 32)) item items fits))

kept_items : (call : SpecCall) (items : List Item) → All (λ item. IsTrue (takes call item.kind item.mode)) items → filter_map (item_of call) (map spelled_of items) ≡ items
kept_items call [] are = refl
kept_items call (item ∷ items) are =
    let one = is_item call item (All-head (λ item. IsTrue (takes call item.kind item.mode)) item items are) in
    let others = kept_items call items (All-tail (λ item. IsTrue (takes call item.kind item.mode)) item items are) in
    rw (one, others) refl

each_taken : (call : SpecCall) (items : List Item) → All (λ item. IsTrue (takes call item.kind item.mode)) items → list_all (λ s. is_some (item_of call s)) (map spelled_of items) ≡ true
each_taken call [] are = refl
each_taken call (item ∷ items) are =
    let one = is_item call item (All-head (λ item. IsTrue (takes call item.kind item.mode)) item items are) in
    let others = each_taken call items (All-tail (λ item. IsTrue (takes call item.kind item.mode)) item items are) in
    rw (one, others) refl

-- items that are spelled are those that are read
pub spelled_are_read : (call : SpecCall) (items : List Item) (bytes : List ℕ) → Spells call items bytes → (all_taken call bytes ≡ true) × (items_in call bytes ≡ items)
unfolding all_taken items_in
spelled_are_read call items bytes s =
    let are : spelled bytes ≡ map spelled_of items = ap spelled s.spelled ∙ spelled_items items s.numbers in
    (ap (list_all (λ s. is_some (item_of call s))) are ∙ each_taken call items s.modes, ap (filter_map (item_of call)) are ∙ kept_items call items s.modes)

-- ---- items that are read are spelled so

-- sixteen bytes are the spelling of the item that their numbers make
spelled_so : (first rest : List ℕ) (item : Item) → length first ≡ 16 → AreBytes (first ++ rest) → spelled_at (first ++ rest) 0 ≡ spelled_of item → first ++ rest ≡ spelling item ++ rest
spelled_so first rest item len fits is =
    let bytes = first ++ rest in
    let long : 16 ≤ length bytes = omega (arith, length-append first rest) in
    let a = field_is 0 bytes (omega arith) fits in
    let b = field_is 4 bytes (omega arith) fits in
    let c = field_is 8 bytes (omega arith) fits in
    let d = field_is 12 bytes (omega arith) fits in
    let past : drop 16 bytes ≡ rest = drop_at first rest 16 len in
    let all : bytes ≡ number (number_at bytes 0) ++ (number (number_at bytes 4) ++ (number (number_at bytes 8) ++ (number (number_at bytes 12) ++ rest))) =
    a
    ∙ ap (λ (l : List ℕ). number (number_at bytes 0) ++ l) (b ∙ ap (λ (l : List ℕ). number (number_at bytes 4) ++ l) (c ∙ ap (λ (l : List ℕ). number (number_at bytes 8) ++ l) (d ∙ ap (λ (l : List ℕ). number (number_at bytes 12) ++ l) past))) in
    all
    ∙ ap (λ (s : Spelled). number s.kind ++ (number s.mode ++ (number s.from ++ (number s.to ++ rest)))) is

module _ (call : SpecCall) where
  -- the items of bytes, where each is one that the call takes
  record Read (bytes : List ℕ) (items : List Item) : Type 0 where
    modes : All (λ item. IsTrue (takes call item.kind item.mode)) items
    numbers : All (λ item. (item.from < 2 ^ 32) × (item.to < 2 ^ 32)) items
    spelled : bytes ≡ flat_map spelling items

  number_fits : (bytes : List ℕ) (at : ℕ) → AreBytes bytes → number_at bytes at < 2 ^ 32
  number_fits bytes at fits = little_from-lt 0 4 (drop at bytes) (AreBytes-drop at bytes fits)

  one_read : (first rest : List ℕ) (o : Option Item) → length first ≡ 16 → AreBytes (first ++ rest) → item_of call (spelled_at (first ++ rest) 0) ≡ o → (is_some o && list_all (λ s. is_some (item_of call s)) (spelled rest)) ≡ true
      → (list_all (λ s. is_some (item_of call s)) (spelled rest) ≡ true → Read rest (filter_map (item_of call) (spelled rest))) → Read (first ++ rest) (cons_option o (filter_map (item_of call) (spelled rest)))
  one_read first rest None len fits is all others = absurd cc
  one_read first rest (Some item) len fits is all others =
      let m = makes call (spelled_at (first ++ rest) 0) item is in
      let r = others all in
      let items = filter_map (item_of call) (spelled rest) in
      let from_is : number_at (first ++ rest) 8 ≡ item.from = ap (λ (s : Spelled). s.from) m.numbers in
      let to_is : number_at (first ++ rest) 12 ≡ item.to = ap (λ (s : Spelled). s.to) m.numbers in
      let from_fits : item.from < 2 ^ 32 = subst (λ (n : ℕ). n < 2 ^ 32) from_is (number_fits (first ++ rest) 8 fits) in
      let to_fits : item.to < 2 ^ 32 = subst (λ (n : ℕ). n < 2 ^ 32) to_is (number_fits (first ++ rest) 12 fits) in
      record {
        modes = All-cons (λ item. IsTrue (takes call item.kind item.mode)) item items m.takes_it r.modes;
        numbers = All-cons (λ item. (item.from < 2 ^ 32) × (item.to < 2 ^ 32)) item items (from_fits, to_fits) r.numbers;
        spelled = spelled_so first rest item len fits m.numbers ∙ ap (λ (l : List ℕ). spelling item ++ l) r.spelled ∙ sym (flat_map-cons spelling item items);
      }

  all_read : (n : ℕ) (bytes : List ℕ) → length bytes ≡ n * 16 → AreBytes bytes → list_all (λ s. is_some (item_of call s)) (spelled bytes) ≡ true → Read bytes (filter_map (item_of call) (spelled bytes))
  unfolding spelled
  all_read zero [] len fits all = record { modes = All-nil (λ item. IsTrue (takes call item.kind item.mode)); numbers = All-nil (λ item. (item.from < 2 ^ 32) × (item.to < 2 ^ 32)); spelled = refl }
  all_read zero (b ∷ bytes) len fits all = absurd (omega arith)
  all_read (suc n) bytes len fits all =
      let first = take 16 bytes in
      let rest = drop 16 bytes in
      let whole : first ++ rest ≡ bytes = take-append-drop 16 bytes in
      let long : length first ≡ 16 = omega (arith, length-take 16 bytes) in
      let short : length rest ≡ n * 16 = omega (arith, length-drop 16 bytes) in
      let own : AreBytes (first ++ rest) = subst AreBytes (sym whole) fits in
      let next : spelled (first ++ rest) ≡ spelled_at (first ++ rest) 0 ∷ spelled rest = spelled_next first rest long in
      let all_next : list_all (λ s. is_some (item_of call s)) (spelled_at (first ++ rest) 0 ∷ spelled rest) ≡ true = ap (list_all (λ s. is_some (item_of call s))) (sym next ∙ ap spelled whole) ∙ all in
      let r = one_read first rest (item_of call (spelled_at (first ++ rest) 0)) long own refl all_next (λ e. all_read n rest short (AreBytes-drop 16 bytes fits) e) in
      let items : cons_option (item_of call (spelled_at (first ++ rest) 0)) (filter_map (item_of call) (spelled rest)) ≡ filter_map (item_of call) (spelled bytes) = ap (filter_map (item_of call)) (sym next ∙ ap spelled whole) in
      subst (λ (l : List ℕ). Read l (filter_map (item_of call) (spelled bytes))) whole (subst (Read (first ++ rest)) items r)

-- items that the call takes are spelled as they are read
pub read_are_spelled : (call : SpecCall) (bytes : List ℕ) → length bytes % 16 ≡ 0 → AreBytes bytes → all_taken call bytes ≡ true → Spells call (items_in call bytes) bytes
unfolding all_taken items_in
read_are_spelled call bytes len fits all =
    let r = all_read call (length bytes / 16) bytes (omega arith) fits all in
    record { modes = r.modes; numbers = r.numbers; spelled = r.spelled }
