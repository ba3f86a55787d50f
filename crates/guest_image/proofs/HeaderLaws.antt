-- The header: what is read of it is a header that was written, and what was written is read again.
use Rattle.std.proofs.Common.{◌≡◌, ◌≢◌, inl, inr, ℕ, ◌+◌, ◌^◌, ◌<◌, Bool, true, false, ◌&&◌, eqb, leb, List, [], ◌∷◌, ◌++◌, length, get_or, Some, Ok, Err, refl, sym, ap, subst, ◌∙◌, arith, lit<}
use Rattle.std.specs.Prelude.{slice_get}
use Rattle.std.specs.List.{flat_map}
use Rattle.std.proofs.lemmas.Bool.{eqb-true, and_parts, and_from, leb-true, le-leb, false≢true}
use Rattle.std.proofs.lemmas.Bool.Decides.{nat_tests}
use Rattle.std.proofs.lemmas.List.{flat_map_more, append-nil, length-append}
use Rattle.std.proofs.lemmas.List.Concat.{flat_map-cons}
use Rattle.lwc_types.specs.Outcomes.{Refusal, ◌>>=◌}
use Rattle.lwc_types.specs.declared.limits.TheConstants.{MOST_FILES, MOST_IMAGE_SLOTS, MOST_INSTRUCTIONS, MOST_THREADS}
use Rattle.guest_image.specs.declared.fault.ImageRule.{ImageRule}
use Rattle.guest_image.specs.declared.fault.ImageRule.TheVariants.{BadMagic, BadCount}
use Rattle.guest_image.specs.declared.header.Header.{Header}
use Rattle.guest_image.specs.declared.image.Form.{Form}
use Rattle.guest_image.specs.declared.image.Form.TheVariants.{One, Two}
use Rattle.guest_image.specs.Rest.{Rest}
use Rattle.guest_image.specs.Limits.{pages_of}
use Rattle.guest_image.specs.Spelling.{digit, number, magic, header}
use Rattle.guest_image.specs.Reading.{bytes_at, number_at, byte_at, magic_at, count_at, header_at}
use Rattle.guest_image.specs.Refusals.{count_ranges, counts_of, IsInRange, AreInRanges, AfterHeader, Breaks}
use Rattle.guest_image.proofs.FieldLaws.{IsBytes, from, bind_ok, bind_err, passed, failed, ok_is, Takes, Takes-then, bytes_take, bytes_again, bytes_stop, number_takes, number_again, number_stop, where_takes, where_again, where_stop, where_fails}
use Rattle.guest_image.proofs.PartLaws.{pages_few}
use Rattle.guest_image.proofs.Stops.{Stops, ends_early, stops_at}

digit_same : (form : Form) → eqb (digit form) (digit form) ≡ true
digit_same One = refl
digit_same Two = refl

module _ (form : Form) where
  -- ---- the magic

  single : (xs : List ℕ) (b : ℕ) → length xs ≡ 1 → get_or xs 0 0 ≡ b → xs ≡ b ∷ []
  single [] b len is = absurd (omega arith)
  single (x ∷ []) b len is = ap (λ (y : ℕ). y ∷ []) is
  single (x ∷ y ∷ xs) b len is = absurd (omega arith)

  byte_takes : (expected : ℕ) (r after : Rest) → IsBytes r.bytes → byte_at expected r ≡ Ok after → Takes r (expected ∷ []) after
  unfolding byte_at
  byte_takes expected r after fits e =
      let b = bind_ok (bytes_at 1 r) _ _ e in
      let g = passed (eqb (get_or b.0.0 0 0) expected) (record { rule = BadMagic; at = r.at }) b.0.1 after b.2 in
      let t = bytes_take 1 r b.0.0 b.0.1 fits b.1 in
      let one : b.0.0 ≡ expected ∷ [] = single b.0.0 expected t.1 (eqb-true _ _ g.0) in
      subst (Takes r (expected ∷ [])) g.1 (subst (λ (f : List ℕ). Takes r f b.0.1) one t.0)

  byte_again : (b at : ℕ) (rest : List ℕ) → eqb b b ≡ true → byte_at b (from at (b ∷ rest)) ≡ Ok (from (at + 1) rest)
  unfolding byte_at
  byte_again b at rest same = rw (bytes_again 1 at (b ∷ []) rest refl, same) refl

  byte_fails : (expected b at : ℕ) (rest : List ℕ) → eqb b expected ≡ false → byte_at expected (from at (b ∷ rest)) ≡ Err (record { rule = BadMagic; at = at })
  unfolding byte_at
  byte_fails expected b at rest other = rw (bytes_again 1 at (b ∷ []) rest refl, other) refl

  differs : (a b : ℕ) → eqb a b ≡ false → a ≢ b
  differs a b e same = grind (arith, nat_tests)

  -- a byte of the magic is not taken
  byte_stop : (file : Rest) (front : List ℕ) (expected : ℕ) (later : List ℕ) (r : Rest) (s : Refusal ImageRule) → (magic form) ≡ front ++ expected ∷ later → Takes file front r → IsBytes r.bytes → byte_at expected r ≡ Err s → Stops form file s
  unfolding byte_at Breaks
  byte_stop file front expected later r s due t fits e =
      elim (bind_err (bytes_at 1 r) _ s e) [
        | inl short ↦ ends_early file front r s t (bytes_stop 1 r s short)
        | inr b ↦
            let f = failed (eqb (get_or b.0.0 0 0) expected) (record { rule = BadMagic; at = r.at }) s b.0.1 b.2 in
            let took = bytes_take 1 r b.0.0 b.0.1 fits b.1 in
            let one : b.0.0 ≡ get_or b.0.0 0 0 ∷ [] = single b.0.0 _ took.1 refl in
            let found : r.bytes ≡ (get_or b.0.0 0 0 ∷ []) ++ b.0.1.bytes = took.0.parts ∙ ap (λ (f : List ℕ). f ++ b.0.1.bytes) one in
            stops_at file front r BadMagic s t (expected, get_or b.0.0 0 0, later, due, (b.0.1.bytes, found), differs _ _ f.0) (sym f.1)
      ]

  magic_takes : (r after : Rest) → IsBytes r.bytes → magic_at form r ≡ Ok after → Takes r (magic form) after
  unfolding magic_at
  magic_takes r after fits e =
      let d = bind_ok (byte_at 0x4c r >>= byte_at 0x57 >>= byte_at 0x43) (byte_at (digit form)) after e in
      let c = bind_ok (byte_at 0x4c r >>= byte_at 0x57) (byte_at 0x43) d.0 d.1 in
      let b = bind_ok (byte_at 0x4c r) (byte_at 0x57) c.0 c.1 in
      let t1 = byte_takes 0x4c r b.0 fits b.1 in
      let t2 = byte_takes 0x57 b.0 c.0 t1.rest_fits b.2 in
      let t3 = byte_takes 0x43 c.0 d.0 t2.rest_fits c.2 in
      let t4 = byte_takes (digit form) d.0 after t3.rest_fits d.2 in
      Takes-then r (0x4c ∷ 0x57 ∷ 0x43 ∷ []) d.0 ((digit form) ∷ []) after (Takes-then r (0x4c ∷ 0x57 ∷ []) c.0 (0x43 ∷ []) d.0 (Takes-then r (0x4c ∷ []) b.0 (0x57 ∷ []) c.0 t1 t2) t3) t4

  magic_again : (rest : List ℕ) → magic_at form (from 0 ((magic form) ++ rest)) ≡ Ok (from 4 rest)
  unfolding magic_at
  magic_again rest = rw (byte_again 0x4c 0 (0x57 ∷ 0x43 ∷ (digit form) ∷ rest) refl, byte_again 0x57 1 (0x43 ∷ (digit form) ∷ rest) refl, byte_again 0x43 2 ((digit form) ∷ rest) refl, byte_again (digit form) 3 rest (digit_same form)) refl

  nothing_taken : (r : Rest) → IsBytes r.bytes → Takes r [] r
  nothing_taken r fits = record { parts = refl; moved = omega arith; rest_fits = fits }

  magic_stop : (file : Rest) (s : Refusal ImageRule) → IsBytes file.bytes → magic_at form file ≡ Err s → Stops form file s
  unfolding magic_at
  magic_stop file s fits e =
      elim (bind_err (byte_at 0x4c file >>= byte_at 0x57 >>= byte_at 0x43) (byte_at (digit form)) s e) [
        | inr d ↦
            let c = bind_ok (byte_at 0x4c file >>= byte_at 0x57) (byte_at 0x43) d.0 d.1 in
            let b = bind_ok (byte_at 0x4c file) (byte_at 0x57) c.0 c.1 in
            let t1 = byte_takes 0x4c file b.0 fits b.1 in
            let t2 = Takes-then file (0x4c ∷ []) b.0 (0x57 ∷ []) c.0 t1 (byte_takes 0x57 b.0 c.0 t1.rest_fits b.2) in
            let t3 = Takes-then file (0x4c ∷ 0x57 ∷ []) c.0 (0x43 ∷ []) d.0 t2 (byte_takes 0x43 c.0 d.0 t2.rest_fits c.2) in
            byte_stop file (0x4c ∷ 0x57 ∷ 0x43 ∷ []) (digit form) [] d.0 s refl t3 t3.rest_fits d.2
        | inl e3 ↦ elim (bind_err (byte_at 0x4c file >>= byte_at 0x57) (byte_at 0x43) s e3) [
          | inr c ↦
              let b = bind_ok (byte_at 0x4c file) (byte_at 0x57) c.0 c.1 in
              let t1 = byte_takes 0x4c file b.0 fits b.1 in
              let t2 = Takes-then file (0x4c ∷ []) b.0 (0x57 ∷ []) c.0 t1 (byte_takes 0x57 b.0 c.0 t1.rest_fits b.2) in
              byte_stop file (0x4c ∷ 0x57 ∷ []) 0x43 ((digit form) ∷ []) c.0 s refl t2 t2.rest_fits c.2
          | inl e2 ↦ elim (bind_err (byte_at 0x4c file) (byte_at 0x57) s e2) [
            | inr b ↦
                let t1 = byte_takes 0x4c file b.0 fits b.1 in
                byte_stop file (0x4c ∷ []) 0x57 (0x43 ∷ (digit form) ∷ []) b.0 s refl t1 t1.rest_fits b.2
            | inl e1 ↦ byte_stop file [] 0x4c (0x57 ∷ 0x43 ∷ (digit form) ∷ []) file s refl (nothing_taken file fits) fits e1
          ]
        ]
      ]

  -- ---- the counts

  abbrev counted : List ℕ → List ℕ
  counted counts = (magic form) ++ flat_map number counts

  -- one more count was taken
  count_more : (file : Rest) (counts : List ℕ) (range : ℕ × ℕ) (r : Rest) (n : ℕ) (after : Rest) → Takes file (counted counts) r → count_at range.0 range.1 r ≡ Ok (n, after) → Takes file (counted (counts ++ n ∷ [])) after × IsInRange range n
  count_more file counts range r n after t e =
      let w = where_takes _ _ r n after t.rest_fits e in
      let b = and_parts _ _ w.2 in (
        subst (λ (l : List ℕ). Takes file l after) (flat_map_more number (magic form) counts n) (Takes-then file (counted counts) r (number n) after t w.0),
        (leb-true _ _ b.0, leb-true _ _ b.1),
      )

  count_again : (range : ℕ × ℕ) (n at : ℕ) (rest : List ℕ) → range.1 < 2 ^ 32 → IsInRange range n → count_at range.0 range.1 (from at (number n ++ rest)) ≡ Ok (n, from (at + 4) rest)
  count_again range n at rest lt is = where_again _ _ n at rest (omega (arith, is.1)) (and_from _ _ (le-leb _ _ is.0) (le-leb _ _ is.1))

  -- a count is not taken
  count_stop : (file : Rest) (counts : List ℕ) (range : ℕ × ℕ) (r : Rest) (s : Refusal ImageRule) → Takes file (counted counts) r → AreInRanges (count_ranges form) counts → slice_get (count_ranges form) (length counts) ≡ Some range → count_at range.0 range.1 r ≡ Err s → Stops form file s
  unfolding Breaks
  count_stop file counts range r s t are due e =
      elim (where_stop _ _ r s t.rest_fits e) [
        | inl short ↦ ends_early file (counted counts) r s t short
        | inr w ↦ stops_at file (counted counts) r BadCount s t (
          counts,
          range,
          w.0,
          refl,
          are,
          due,
          (w.1.fits, (w.1.rest, w.1.is)),
          λ inside. false≢true (sym w.1.fails ∙ and_from _ _ (le-leb _ _ inside.0) (le-leb _ _ inside.1)),
        ) w.2
      ]

  -- the counts and the uid, one after another
  spelled_header : (h : Header) → counted (counts_of h ++ h.uid ∷ []) ≡ header form h
  spelled_header h = simp (flat_map-cons, append-nil)

  pub header_takes : (file : Rest) (h : Header) (r : Rest) → IsBytes file.bytes → header_at form file ≡ Ok (h, r) → Takes file (header form h) r × AfterHeader form h (header form h)
  unfolding header_at
  header_takes file h r fits e =
      let m = bind_ok (magic_at form file) _ _ e in
      let a = bind_ok (count_at 1 MOST_INSTRUCTIONS m.0) _ _ m.2 in
      let b = bind_ok (count_at 0 (pages_of form) a.0.1) _ _ a.2 in
      let c = bind_ok (count_at 0 MOST_FILES b.0.1) _ _ b.2 in
      let d = bind_ok (count_at 0 MOST_IMAGE_SLOTS c.0.1) _ _ c.2 in
      let t = bind_ok (count_at 1 MOST_THREADS d.0.1) _ _ d.2 in
      let u = bind_ok (number_at t.0.1) _ _ t.2 in
      let made : Header × Rest = (record { instructions = a.0.0; pages = b.0.0; files = c.0.0; slots = d.0.0; threads = t.0.0; uid = u.0.0 }, u.0.1) in
      let tm = magic_takes file m.0 fits m.1 in
      let ta = count_more file [] (1, MOST_INSTRUCTIONS) m.0 a.0.0 a.0.1 tm a.1 in
      let tb = count_more file (a.0.0 ∷ []) (0, (pages_of form)) a.0.1 b.0.0 b.0.1 ta.0 b.1 in
      let tc = count_more file (a.0.0 ∷ b.0.0 ∷ []) (0, MOST_FILES) b.0.1 c.0.0 c.0.1 tb.0 c.1 in
      let td = count_more file (a.0.0 ∷ b.0.0 ∷ c.0.0 ∷ []) (0, MOST_IMAGE_SLOTS) c.0.1 d.0.0 d.0.1 tc.0 d.1 in
      let te = count_more file (a.0.0 ∷ b.0.0 ∷ c.0.0 ∷ d.0.0 ∷ []) (1, MOST_THREADS) d.0.1 t.0.0 t.0.1 td.0 t.1 in
      let tu = number_takes t.0.1 u.0.0 u.0.1 te.0.rest_fits u.1 in
      let counts = counts_of made.0 in
      let all : Takes file (counted (counts ++ u.0.0 ∷ [])) u.0.1 = subst (λ (l : List ℕ). Takes file l u.0.1) (flat_map_more number (magic form) counts u.0.0) (Takes-then file (counted counts) t.0.1 (number u.0.0) u.0.1 te.0 tu.0) in
      subst (λ (y : Header × Rest). Takes file (header form y.0) y.1 × AfterHeader form y.0 (header form y.0)) (ok_is made (h, r) u.2) (
        subst (λ (l : List ℕ). Takes file l u.0.1) (spelled_header made.0) all,
        record { counts = (ta.1, (tb.1, (tc.1, (td.1, (te.1, tt))))); uid = tu.1; spelled = refl },
      )

  pub header_again : (h : Header) (rest : List ℕ) → AreInRanges (count_ranges form) (counts_of h) → h.uid < 2 ^ 32 → header_at form (from 0 (header form h ++ rest)) ≡ Ok (h, from 28 rest)
  unfolding header_at
  header_again h rest are uid =
      rw (
        magic_again (number h.instructions ++ (number h.pages ++ (number h.files ++ (number h.slots ++ (number h.threads ++ (number h.uid ++ rest)))))),
        count_again (1, MOST_INSTRUCTIONS) h.instructions 4 (number h.pages ++ (number h.files ++ (number h.slots ++ (number h.threads ++ (number h.uid ++ rest))))) (lit< tt) are.0,
        count_again (0, (pages_of form)) h.pages 8 (number h.files ++ (number h.slots ++ (number h.threads ++ (number h.uid ++ rest)))) (pages_few form) are.1.0,
        count_again (0, MOST_FILES) h.files 12 (number h.slots ++ (number h.threads ++ (number h.uid ++ rest))) (lit< tt) are.1.1.0,
        count_again (0, MOST_IMAGE_SLOTS) h.slots 16 (number h.threads ++ (number h.uid ++ rest)) (lit< tt) are.1.1.1.0,
        count_again (1, MOST_THREADS) h.threads 20 (number h.uid ++ rest) (lit< tt) are.1.1.1.1.0,
        number_again h.uid 24 rest uid,
      ) refl

  pub header_stop : (file : Rest) (s : Refusal ImageRule) → IsBytes file.bytes → header_at form file ≡ Err s → Stops form file s
  unfolding header_at
  header_stop file s fits e0 =
      elim (bind_err (magic_at form file) _ s e0) [
        | inl e ↦ magic_stop file s fits e
        | inr m ↦
            let tm = magic_takes file m.0 fits m.1 in
            elim (bind_err (count_at 1 MOST_INSTRUCTIONS m.0) _ s m.2) [
              | inl e ↦ count_stop file [] (1, MOST_INSTRUCTIONS) m.0 s tm tt refl e
              | inr a ↦
                  let ta = count_more file [] (1, MOST_INSTRUCTIONS) m.0 a.0.0 a.0.1 tm a.1 in
                  elim (bind_err (count_at 0 (pages_of form) a.0.1) _ s a.2) [
                    | inl e ↦ count_stop file (a.0.0 ∷ []) (0, (pages_of form)) a.0.1 s ta.0 (ta.1, tt) refl e
                    | inr b ↦
                        let tb = count_more file (a.0.0 ∷ []) (0, (pages_of form)) a.0.1 b.0.0 b.0.1 ta.0 b.1 in
                        elim (bind_err (count_at 0 MOST_FILES b.0.1) _ s b.2) [
                          | inl e ↦ count_stop file (a.0.0 ∷ b.0.0 ∷ []) (0, MOST_FILES) b.0.1 s tb.0 (ta.1, (tb.1, tt)) refl e
                          | inr c ↦
                              let tc = count_more file (a.0.0 ∷ b.0.0 ∷ []) (0, MOST_FILES) b.0.1 c.0.0 c.0.1 tb.0 c.1 in
                              elim (bind_err (count_at 0 MOST_IMAGE_SLOTS c.0.1) _ s c.2) [
                                | inl e ↦ count_stop file (a.0.0 ∷ b.0.0 ∷ c.0.0 ∷ []) (0, MOST_IMAGE_SLOTS) c.0.1 s tc.0 (ta.1, (tb.1, (tc.1, tt))) refl e
                                | inr d ↦
                                    let td = count_more file (a.0.0 ∷ b.0.0 ∷ c.0.0 ∷ []) (0, MOST_IMAGE_SLOTS) c.0.1 d.0.0 d.0.1 tc.0 d.1 in
                                    elim (bind_err (count_at 1 MOST_THREADS d.0.1) _ s d.2) [
                                      | inl e ↦ count_stop file (a.0.0 ∷ b.0.0 ∷ c.0.0 ∷ d.0.0 ∷ []) (1, MOST_THREADS) d.0.1 s td.0 (ta.1, (tb.1, (tc.1, (td.1, tt)))) refl e
                                      | inr t ↦
                                          let te = count_more file (a.0.0 ∷ b.0.0 ∷ c.0.0 ∷ d.0.0 ∷ []) (1, MOST_THREADS) d.0.1 t.0.0 t.0.1 td.0 t.1 in
                                          elim (bind_err (number_at t.0.1) _ s t.2) [
                                            | inl e ↦ ends_early file (counted (a.0.0 ∷ b.0.0 ∷ c.0.0 ∷ d.0.0 ∷ t.0.0 ∷ [])) t.0.1 s te.0 (number_stop t.0.1 s e)
                                            | inr u ↦ absurd cc
                                          ]
                                    ]
                              ]
                        ]
                  ]
            ]
      ]

  -- ---- refusals of the header

  not_equal : (b expected : ℕ) → (b ≡ expected → ⊥) → eqb b expected ≡ false
  not_equal b expected other = by_test (eqb b expected) refl
    where
      by_test : (t : Bool) → eqb b expected ≡ t → eqb b expected ≡ false
      by_test true e = absurd (other (eqb-true b expected e))
      by_test false e = e

  -- a byte of the magic differs
  magic_fails : (before : List ℕ) (expected b : ℕ) (later rest : List ℕ) → (magic form) ≡ before ++ expected ∷ later → eqb b expected ≡ false → magic_at form (from 0 (before ++ b ∷ rest)) ≡ Err (record { rule = BadMagic; at = length before })
  unfolding magic_at
  magic_fails [] expected b later rest due other =
      let e : expected ≡ 0x4c = cc in
      let f : eqb b 0x4c ≡ false = subst (λ (n : ℕ). eqb b n ≡ false) e other in
      rw (byte_fails 0x4c b 0 rest f) refl
  magic_fails (x ∷ []) expected b later rest due other =
      let e : expected ≡ 0x57 = cc in
      let f : eqb b 0x57 ≡ false = subst (λ (n : ℕ). eqb b n ≡ false) e other in
      let g : x ≡ 0x4c = cc in
      rw (g, byte_again 0x4c 0 (b ∷ rest) refl, byte_fails 0x57 b 1 rest f) refl
  magic_fails (x ∷ y ∷ []) expected b later rest due other =
      let e : expected ≡ 0x43 = cc in
      let f : eqb b 0x43 ≡ false = subst (λ (n : ℕ). eqb b n ≡ false) e other in
      let g : x ≡ 0x4c = cc in
      let h : y ≡ 0x57 = cc in
      rw (g, h, byte_again 0x4c 0 (0x57 ∷ b ∷ rest) refl, byte_again 0x57 1 (b ∷ rest) refl, byte_fails 0x43 b 2 rest f) refl
  magic_fails (x ∷ y ∷ z ∷ []) expected b later rest due other =
      let e : expected ≡ (digit form) = cc in
      let f : eqb b (digit form) ≡ false = subst (λ (n : ℕ). eqb b n ≡ false) e other in
      let g : x ≡ 0x4c = cc in
      let h : y ≡ 0x57 = cc in
      let i : z ≡ 0x43 = cc in
      rw (g, h, i, byte_again 0x4c 0 (0x57 ∷ 0x43 ∷ b ∷ rest) refl, byte_again 0x57 1 (0x43 ∷ b ∷ rest) refl, byte_again 0x43 2 (b ∷ rest) refl, byte_fails (digit form) b 3 rest f) refl
  magic_fails (x ∷ y ∷ z ∷ w ∷ before) expected b later rest due other = absurd (omega (arith, ap length due, length-append before (expected ∷ later)))

  -- a number out of its range fails the test
  outside : (range : ℕ × ℕ) (n : ℕ) → (IsInRange range n → ⊥) → (leb range.0 n && leb n range.1) ≡ false
  outside range n out = by_test (leb range.0 n && leb n range.1) refl
    where
      by_test : (t : Bool) → (leb range.0 n && leb n range.1) ≡ t → (leb range.0 n && leb n range.1) ≡ false
      by_test true e = let b = and_parts _ _ e in absurd (out (leb-true _ _ b.0, leb-true _ _ b.1))
      by_test false e = e

  count_fails : (range found : ℕ × ℕ) (n at : ℕ) (rest : List ℕ) → Some range ≡ Some found → n < 2 ^ 32 → (IsInRange found n → ⊥) → count_at range.0 range.1 (from at (number n ++ rest)) ≡ Err (record { rule = BadCount; at = at })
  count_fails range found n at rest is lt out =
      let same : found ≡ range = cc in
      where_fails _ _ n at rest lt (outside range n (subst (λ (r : ℕ × ℕ). IsInRange r n → ⊥) same out))

  -- behind counts in their ranges comes one out of its range
  counts_fail : (counts : List ℕ) (range : ℕ × ℕ) (n : ℕ) (rest : List ℕ) → AreInRanges (count_ranges form) counts → slice_get (count_ranges form) (length counts) ≡ Some range → n < 2 ^ 32 → (IsInRange range n → ⊥)
      → header_at form (from 0 (counted counts ++ (number n ++ rest))) ≡ Err (record { rule = BadCount; at = length (counted counts) })
  unfolding header_at
  counts_fail [] range n rest are due lt out =
      rw (magic_again (number n ++ rest), count_fails (1, MOST_INSTRUCTIONS) range n 4 rest due lt out) refl
  counts_fail (a ∷ []) range n rest are due lt out =
      rw (
        magic_again (number a ++ (number n ++ rest)),
        count_again (1, MOST_INSTRUCTIONS) a 4 (number n ++ rest) (lit< tt) are.0,
        count_fails (0, (pages_of form)) range n 8 rest due lt out,
      ) refl
  counts_fail (a ∷ b ∷ []) range n rest are due lt out =
      rw (
        magic_again (number a ++ (number b ++ (number n ++ rest))),
        count_again (1, MOST_INSTRUCTIONS) a 4 (number b ++ (number n ++ rest)) (lit< tt) are.0,
        count_again (0, (pages_of form)) b 8 (number n ++ rest) (pages_few form) are.1.0,
        count_fails (0, MOST_FILES) range n 12 rest due lt out,
      ) refl
  counts_fail (a ∷ b ∷ c ∷ []) range n rest are due lt out =
      rw (
        magic_again (number a ++ (number b ++ (number c ++ (number n ++ rest)))),
        count_again (1, MOST_INSTRUCTIONS) a 4 (number b ++ (number c ++ (number n ++ rest))) (lit< tt) are.0,
        count_again (0, (pages_of form)) b 8 (number c ++ (number n ++ rest)) (pages_few form) are.1.0,
        count_again (0, MOST_FILES) c 12 (number n ++ rest) (lit< tt) are.1.1.0,
        count_fails (0, MOST_IMAGE_SLOTS) range n 16 rest due lt out,
      ) refl
  counts_fail (a ∷ b ∷ c ∷ d ∷ []) range n rest are due lt out =
      rw (
        magic_again (number a ++ (number b ++ (number c ++ (number d ++ (number n ++ rest))))),
        count_again (1, MOST_INSTRUCTIONS) a 4 (number b ++ (number c ++ (number d ++ (number n ++ rest)))) (lit< tt) are.0,
        count_again (0, (pages_of form)) b 8 (number c ++ (number d ++ (number n ++ rest))) (pages_few form) are.1.0,
        count_again (0, MOST_FILES) c 12 (number d ++ (number n ++ rest)) (lit< tt) are.1.1.0,
        count_again (0, MOST_IMAGE_SLOTS) d 16 (number n ++ rest) (lit< tt) are.1.1.1.0,
        count_fails (1, MOST_THREADS) range n 20 rest due lt out,
      ) refl
  counts_fail (a ∷ b ∷ c ∷ d ∷ e ∷ []) range n rest are due lt out = absurd cc
  counts_fail (a ∷ b ∷ c ∷ d ∷ e ∷ f ∷ counts) range n rest are due lt out = absurd are.1.1.1.1.1

  pub header_breaks_magic : (before after : List ℕ) → Breaks form BadMagic before after → header_at form (from 0 (before ++ after)) ≡ Err (record { rule = BadMagic; at = length before })
  unfolding header_at Breaks
  header_breaks_magic before after h =
      rw (h.4.1, magic_fails before h.0 h.1 h.2 h.4.0 h.3 (not_equal h.1 h.0 h.5)) refl

  pub header_breaks_count : (before after : List ℕ) → Breaks form BadCount before after → header_at form (from 0 (before ++ after)) ≡ Err (record { rule = BadCount; at = length before })
  unfolding Breaks
  header_breaks_count before after h = rw (h.3, h.6.1.1) (counts_fail h.0 h.1 h.2 h.6.1.0 h.4 h.5 h.6.0 h.7)
