-- What each kind of step does to the seats together.
use Rattle.std.proofs.Common.{◌≡◌, ◌≢◌, ◌⊎◌, ◌+◌, ◌<◌, ◌≤◌, ℕ, List, [], ◌∷◌, ◌++◌, length, set, get_or, refl, sym, ap, subst, ◌∙◌, inl, inr, ⊎_elim, arith, length-append, length-set}
use Rattle.std.specs.Prelude.{All}
use Rattle.std.proofs.lemmas.List.Sums.{sum_by-append}
use Rattle.std.proofs.lemmas.List.Elements.{All-nil, All-cons, All-append}
use Rattle.std.proofs.lemmas.List.Quantifiers.{all_pairs_push}
use mathlib.Core.Logic.{dite}
use mathlib.Core.Option.{some}
use native.Mathlib.Decide.{ℕ_discrete}
use lib.ListN.{get_elem?}
use Rattle.atomic_table.proofs.Lists.{at_set, set_here, set_else, at_longer}
use Rattle.turnstile.specs.declared.views.Joined.{Joined}
use Rattle.turnstile.specs.declared.views.Stage.{Stage}
use Rattle.turnstile.specs.declared.views.Stage.TheVariants.{Idle, Waiting, Serving, Spent}
use Rattle.turnstile.specs.declared.views.View.{View}
use Rattle.turnstile.specs.Past.{times, Knows}
use Rattle.turnstile.specs.Rule.{tickets, HasTicket, Sits, Keeps, Fits, Seated}
use Rattle.turnstile.specs.Steps.{rested, kept_view, new_view, as_joined, joined_view, spent_view}
use Rattle.turnstile.proofs.Pasts.{times-push_other, knows_self, knows_none, knows_push}
use Rattle.turnstile.proofs.Places.{one_at, within, at_end, set-comm, sum_by-at}

-- at its turn a seat has its ticket
pub serving_ticket : (stage : Stage) (t : ℕ) → stage ≡ Serving t → HasTicket stage t
serving_ticket stage t is = let P : Stage → Type 0 = λ z. HasTicket z t in subst P (sym is) refl

-- without a ticket
pub no_ticket : (stage : Stage) (t : ℕ) → tickets stage ≡ 0 → HasTicket stage t → ⊥
no_ticket Idle t none has = has
no_ticket (Waiting own) t none has = omega arith
no_ticket (Serving own) t none has = omega arith
no_ticket Spent t none has = has

module _ {N : Type 0} where
  -- a spent seat stays spent
  abbrev StaySpent : List (View N) → List (View N) → Type 0
  StaySpent views views' = (seat : ℕ) (u : View N) → Sits views seat u → u.stage ≡ Spent → (u' : View N) × Sits views' seat u' × (u'.stage ≡ Spent)

  -- what is kept of joined passes stays
  keeps_stay : (past : List ℕ) (views views' : List (View N)) → StaySpent views views' → (js : List Joined) → All (Keeps past views) js → All (Keeps past views') js
  keeps_stay past views views' stay js all k d below = let h = all k d below in record {
    knows = h.knows;
    noted = h.noted;
    spent = stay _ h.spent.0 h.spent.1 h.spent.2;
  }

  -- a seat that does not change still fits
  fits_stay : (name : N) (next next' : ℕ) (past : List ℕ) (views views' : List (View N)) (seat : ℕ) (v : View N) → next ≤ next' → (seat ≡ 0 → v.made ≡ length views') → StaySpent views views'
      → Fits name next past views seat v → Fits name next' past views' seat v
  fits_stay name next next' past views views' seat v more made stay h = record {
    named = h.named;
    number = h.number;
    knows = h.knows;
    noted = h.noted;
    ticket = λ t has. let old = h.ticket t has in (old.0, omega arith);
    turn = h.turn;
    made = made;
    joined = keeps_stay past views views' stay v.joined h.joined;
    differ = h.differ;
  }

  -- where the written view was not spent
  set_stays : (views : List (View N)) (seat : ℕ) (v w : View N) → Sits views seat v → v.stage ≢ Spent → StaySpent views (set views seat w)
  set_stays views seat v w at live other u sits spent = (
    u,
    set_else views seat other w (λ same. live (ap (λ (z : View N). z.stage) (one_at views seat other v u (sym same) at sits) ∙ spent)) ∙ sits,
    spent,
  )

  module _ (name : N) (next next' serving : ℕ) (past : List ℕ) (views : List (View N)) (s : Seated name next serving past views) where
    -- one seat's view changes, and neither the past nor the number of seats
    pub changes : (id : ℕ) (v w : View N) → Sits views id v → v.stage ≢ Spent → w.stage ≢ Spent → next ≤ next' → next + tickets w.stage ≡ next' + tickets v.stage
        → ((t : ℕ) → HasTicket w.stage t → HasTicket v.stage t ⊎ (next ≤ t)) → Fits name next' past views id w → Seated name next' serving past (set views id w)
    changes id v w at live live' more count own fits = let as_long = length-set views id w in let stay = set_stays views id v w at live in
        let was : (j : ℕ) (u : View N) (t : ℕ) → Sits (set views id w) j u → HasTicket u.stage t → ((x : View N) × Sits views j x × HasTicket x.stage t) ⊎ ((j ≡ id) × (next ≤ t)) =
        λ j u t sits has. ⊎_elim
        (λ (h : (j ≡ id) × (w ≡ u)). ⊎_elim (λ old. inl (v, ap (λ (k : ℕ). get_elem? views k) h.0 ∙ at, old)) (λ new. inr (h.0, new)) (own t (let P : View N → Type 0 = λ z. HasTicket z.stage t in subst P (sym h.1) has)))
        (λ (h : (j ≢ id) × (get_elem? views j ≡ some u)). inl (u, h.1, has)) (at_set views id j w u sits) in
        let old_below : (j t : ℕ) (x : View N) → Sits views j x → HasTicket x.stage t → t < next = λ j t x sits has. ((s.each j x sits (λ gone. no_ticket x.stage t (ap tickets gone) has)).ticket t has).1 in record {
          some_seat = let z = s.some_seat in omega arith;
          few = let z = s.few in omega arith;
          first = λ u sits. ⊎_elim (λ (h : (0 ≡ id) × (w ≡ u)) gone. live' (ap (λ (z : View N). z.stage) h.1 ∙ gone)) (λ (h : (0 ≢ id) × (get_elem? views 0 ≡ some u)). s.first u h.1) (at_set views id 0 w u sits);
          each = λ j u sits alive. ⊎_elim
              (λ (h : (j ≡ id) × (w ≡ u)). subst (λ (z : ℕ × View N). Fits name next' past (set views id w) z.0 z.1) (λ i. (sym h.0 i, h.1 i))
              (fits_stay name next' next' past views (set views id w) id w (omega arith) (λ is. fits.made is ∙ sym as_long) stay fits))
              (λ (h : (j ≢ id) × (get_elem? views j ≡ some u)). let f = s.each j u h.1 alive in fits_stay name next next' past views (set views id w) j u more (λ is. f.made is ∙ sym as_long) stay f)
              (at_set views id j w u sits);
          drawn = let sum = sum_by-at (λ (z : View N). tickets z.stage) views id v w at in let d = s.drawn in omega arith;
          apart = λ i j t x y sits_x sits_y has_x has_y. ⊎_elim
              (λ (h : (a : View N) × Sits views i a × HasTicket a.stage t). ⊎_elim
              (λ (k : (b : View N) × Sits views j b × HasTicket b.stage t). s.apart i j t h.0 k.0 h.1 k.1 h.2 k.2)
              (λ (k : (j ≡ id) × (next ≤ t)). let below = old_below i t h.0 h.1 h.2 in absurd (omega arith)) (was j y t sits_y has_y))
              (λ (h : (i ≡ id) × (next ≤ t)). ⊎_elim
              (λ (k : (b : View N) × Sits views j b × HasTicket b.stage t). let below = old_below j t k.0 k.1 k.2 in absurd (omega arith))
              (λ (k : (j ≡ id) × (next ≤ t)). h.0 ∙ sym k.0) (was j y t sits_y has_y))
              (was i x t sits_x has_x);
          unmade = λ number beyond. s.unmade number (omega arith);
        }

  module _ (name : N) (next serving : ℕ) (past : List ℕ) (views : List (View N)) (s : Seated name next serving past views) where
    -- the seat at its turn passes on: the past has its number once more
    pub passes : (id t : ℕ) (v : View N) (past' : List ℕ) → Sits views id v → v.stage ≡ Serving t → length past ≡ serving → past' ≡ past ++ v.number ∷ [] → Seated name next (serving + 1) past' (set views id (rested past' v))
    passes id t v past' at turn served grown =
        let w : View N = rested past' v in
        let live : v.stage ≢ Spent = λ gone. cc (turn, gone) in
        let f = s.each id v at live in
        let has = serving_ticket v.stage t turn in
        let now = (f.turn t turn).0 in
        let here = f.number in
        let as_long = length-set views id w in
        let longer : length past' ≡ length past + 1 = omega (arith, ap length grown, length-append past (v.number ∷ [])) in
        let stay = set_stays views id v w at live in
        let learn : (number : ℕ) (seen : List ℕ) → v.number ≢ number → Knows past number seen → Knows past' number seen =
        λ number seen apart k. subst (λ (z : List ℕ). Knows z number seen) (sym grown) (knows_push past number v.number seen apart k) in
        let kept : (js : List Joined) → All (Keeps past views) js → All (Keeps past' (set views id w)) js = λ js all k d below. let h = all k d below in record {
          knows = learn _ _ (λ same. live (ap (λ (z : View N). z.stage) (one_at views id _ v h.spent.0 (sym here ∙ same) at h.spent.1) ∙ h.spent.2)) h.knows;
          noted = let z = h.noted in omega arith;
          spent = stay _ h.spent.0 h.spent.1 h.spent.2;
        } in
        let mine : Fits name next past' (set views id w) id w = record {
          named = f.named;
          number = f.number;
          knows = knows_self past' v.number;
          noted = let z = f.noted in omega arith;
          ticket = λ _ none. absurd none;
          turn = λ _ is. absurd (cc is);
          made = λ is. f.made is ∙ sym as_long;
          joined = kept v.joined f.joined;
          differ = f.differ;
        } in
        let others : (j : ℕ) (u : View N) → j ≢ id → Sits views j u → u.stage ≢ Spent → Fits name next past' (set views id w) j u = λ j u other sits alive. let g = s.each j u sits alive in record {
          named = g.named;
          number = g.number;
          knows = learn u.number u.seen (λ same. other (sym g.number ∙ (sym same ∙ here))) g.knows;
          noted = let z = g.noted in omega arith;
          ticket = λ t' own. let old = g.ticket t' own in let apart : t' ≢ t = λ same. other (s.apart j id t u v sits at (subst (HasTicket u.stage) same own) has) in (omega arith, old.1);
          turn = λ t' is. let same : t' ≡ t = (g.turn t' is).0 ∙ sym now in absurd (other (s.apart j id t u v sits at (subst (HasTicket u.stage) same (serving_ticket u.stage t' is)) has));
          made = λ is. g.made is ∙ sym as_long;
          joined = kept u.joined g.joined;
          differ = g.differ;
        } in
        let inside = within views id v at in record {
          some_seat = let z = s.some_seat in omega arith;
          few = let z = s.few in omega arith;
          first = λ u sits. ⊎_elim (λ (h : (0 ≡ id) × (w ≡ u)) gone. let z : Idle ≡ Spent = ap (λ (z : View N). z.stage) h.1 ∙ gone in cc) (λ (h : (0 ≢ id) × (get_elem? views 0 ≡ some u)). s.first u h.1) (at_set views id 0 w u sits);
          each = λ j u sits alive. ⊎_elim (λ (h : (j ≡ id) × (w ≡ u)). subst (λ (z : ℕ × View N). Fits name next past' (set views id w) z.0 z.1) (λ i. (sym h.0 i, h.1 i)) mine)
              (λ (h : (j ≢ id) × (get_elem? views j ≡ some u)). others j u h.0 h.1 alive) (at_set views id j w u sits);
          drawn = let sum = sum_by-at (λ (z : View N). tickets z.stage) views id v w at in let one : tickets v.stage ≡ 1 = ap tickets turn in let d = s.drawn in omega arith;
          apart = λ i j k x y sits_x sits_y has_x has_y. ⊎_elim (λ (h : (i ≡ id) × (w ≡ x)). absurd (let P : View N → Type 0 = λ z. HasTicket z.stage k in subst P (sym h.1) has_x))
              (λ (h : (i ≢ id) × (get_elem? views i ≡ some x)). ⊎_elim (λ (l : (j ≡ id) × (w ≡ y)). absurd (let P : View N → Type 0 = λ z. HasTicket z.stage k in subst P (sym l.1) has_y))
              (λ (l : (j ≢ id) × (get_elem? views j ≡ some y)). s.apart i j k x y h.1 l.1 has_x has_y) (at_set views id j w y sits_y)) (at_set views id i w x sits_x);
          unmade = λ number beyond. let none = s.unmade number (omega arith) in
              let apart : v.number ≢ number = λ same. omega arith in ap (times number) grown ∙ (times-push_other number v.number past apart ∙ none);
        }

    -- the first seat splits: there is one more, whose number is its place
    pub splits : (id : ℕ) (v : View N) → Sits views id v → v.number ≡ 0 → v.stage ≡ Idle → v.made < 16 → Seated name next serving past (set views id (kept_view v) ++ new_view v ∷ [])
    splits id v at zeroth idle room =
        let w : View N = kept_view v in
        let n : View N = new_view v in
        let live : v.stage ≢ Spent = λ gone. cc (idle, gone) in
        let f = s.each id v at live in
        let first : id ≡ 0 = sym f.number ∙ zeroth in
        let count : v.made ≡ length views = f.made first in
        let views' : List (View N) = set views id w ++ n ∷ [] in
        let as_long = length-set views id w in
        let longer : length views' ≡ length views + 1 = omega (arith, length-append (set views id w) (n ∷ [])) in
        let stay : StaySpent views views' = λ j u sits gone. let o = set_stays views id v w at live j u sits gone in (o.0, at_longer (set views id w) (n ∷ []) j o.0 o.1, o.2) in
        let old : (j : ℕ) (u : View N) → Sits views' j u → ((u' : View N) × Sits views j u' × (u'.stage ≡ u.stage)) ⊎ ((j ≡ length views) × (n ≡ u)) = λ j u sits. ⊎_elim
        (λ (h : get_elem? (set views id w) j ≡ some u). inl (⊎_elim (λ (k : (j ≡ id) × (w ≡ u)). (v, ap (λ (z : ℕ). get_elem? views z) k.0 ∙ at, ap (λ (z : View N). z.stage) k.1)) (λ (k : (j ≢ id) × (get_elem? views j ≡ some u)). (u, k.1, refl)) (at_set views id j w u h)))
        (λ (h : (j ≡ length (set views id w)) × (n ≡ u)). inr (h.0 ∙ as_long, h.1)) (at_end (set views id w) n u j sits) in
        let mine : Fits name next past views' id w = record {
          named = f.named;
          number = f.number;
          knows = f.knows;
          noted = f.noted;
          ticket = f.ticket;
          turn = f.turn;
          made = λ is. omega arith;
          joined = keeps_stay past views views' stay v.joined f.joined;
          differ = f.differ;
        } in
        let new : Fits name next past views' (length views) n = record {
          named = f.named;
          number = count;
          knows = knows_none past v.made (s.unmade v.made (omega arith));
          noted = omega arith;
          ticket = λ _ none. absurd none;
          turn = λ _ is. absurd (cc is);
          made = λ is. let z = s.some_seat in absurd (omega arith);
          joined = λ k d below. absurd (omega arith);
          differ = λ i j d before below. absurd (omega arith);
        } in record {
          some_seat = omega arith;
          few = omega arith;
          first = λ u sits gone. ⊎_elim (λ (h : (u' : View N) × Sits views 0 u' × (u'.stage ≡ u.stage)). s.first h.0 h.1 (h.2 ∙ gone)) (λ (h : (0 ≡ length views) × (n ≡ u)). let z = s.some_seat in omega arith) (old 0 u sits);
          each = λ j u sits alive. ⊎_elim
              (λ (h : get_elem? (set views id w) j ≡ some u). ⊎_elim (λ (k : (j ≡ id) × (w ≡ u)). subst (λ (z : ℕ × View N). Fits name next past views' z.0 z.1) (λ i. (sym k.0 i, k.1 i)) mine)
              (λ (k : (j ≢ id) × (get_elem? views j ≡ some u)). fits_stay name next next past views views' j u (omega arith) (λ is. absurd (k.0 (is ∙ sym first))) stay (s.each j u k.1 alive)) (at_set views id j w u h))
              (λ (h : (j ≡ length (set views id w)) × (n ≡ u)). subst (λ (z : ℕ × View N). Fits name next past views' z.0 z.1) (λ i. (sym (h.0 ∙ as_long) i, h.1 i)) new)
              (at_end (set views id w) n u j sits);
          drawn = let sum = sum_by-at (λ (z : View N). tickets z.stage) views id v w at in let end = sum_by-append (λ (z : View N). tickets z.stage) (set views id w) (n ∷ []) in let d = s.drawn in omega arith;
          apart = λ i j t x y sits_x sits_y has_x has_y. let P : View N → Type 0 = λ z. HasTicket z.stage t in let Q : Stage → Type 0 = λ z. HasTicket z t in ⊎_elim
              (λ (h : (x' : View N) × Sits views i x' × (x'.stage ≡ x.stage)). ⊎_elim
              (λ (k : (y' : View N) × Sits views j y' × (y'.stage ≡ y.stage)). s.apart i j t h.0 k.0 h.1 k.1 (subst Q (sym h.2) has_x) (subst Q (sym k.2) has_y))
              (λ (k : (j ≡ length views) × (n ≡ y)). absurd (subst P (sym k.1) has_y)) (old j y sits_y))
              (λ (h : (i ≡ length views) × (n ≡ x)). absurd (subst P (sym h.1) has_x)) (old i x sits_x);
          unmade = λ number beyond. s.unmade number (omega arith);
        }

    -- another seat is spent
    spends : (other : ℕ) (w : View N) → Sits views other w → w.stage ≡ Idle → other ≢ 0 → Seated name next serving past (set views other spent_view)
    spends other w at idle not_first =
        let gone : View N = spent_view in
        let as_long = length-set views other gone in
        let stay : StaySpent views (set views other gone) = λ j u sits is. dite (ℕ_discrete j other) (λ same. (gone, ap (λ (k : ℕ). get_elem? (set views other gone) k) same ∙ set_here views other gone (within views other w at), refl)) (λ else. (u, set_else views other j gone else ∙ sits, is)) in record {
          some_seat = let z = s.some_seat in omega arith;
          few = let z = s.few in omega arith;
          first = λ u sits. s.first u (sym (set_else views other 0 gone (λ same. not_first (sym same))) ∙ sits);
          each = λ j u sits alive. ⊎_elim (λ (h : (j ≡ other) × (gone ≡ u)). absurd (alive (sym (ap (λ (z : View N). z.stage) h.1))))
              (λ (h : (j ≢ other) × (get_elem? views j ≡ some u)). let f = s.each j u h.1 alive in fits_stay name next next past views (set views other gone) j u (omega arith) (λ is. f.made is ∙ sym as_long) stay f)
              (at_set views other j gone u sits);
          drawn = let sum = sum_by-at (λ (z : View N). tickets z.stage) views other w gone at in let none : tickets w.stage ≡ 0 = ap tickets idle in let d = s.drawn in omega arith;
          apart = λ i j t x y sits_x sits_y has_x has_y. let P : View N → Type 0 = λ z. HasTicket z.stage t in ⊎_elim (λ (h : (i ≡ other) × (gone ≡ x)). absurd (subst P (sym h.1) has_x))
              (λ (h : (i ≢ other) × (get_elem? views i ≡ some x)). ⊎_elim (λ (k : (j ≡ other) × (gone ≡ y)). absurd (subst P (sym k.1) has_y))
              (λ (k : (j ≢ other) × (get_elem? views j ≡ some y)). s.apart i j t x y h.1 k.1 has_x has_y) (at_set views other j gone y sits_y)) (at_set views other i gone x sits_x);
          unmade = λ number beyond. s.unmade number (omega arith);
        }

    -- the first seat takes in another
    pub joins : (id : ℕ) (v : View N) (other : ℕ) (w : View N) → Sits views id v → v.number ≡ 0 → v.stage ≡ Idle → other ≢ id → Sits views other w → w.stage ≡ Idle
        → Seated name next serving past (set (set views id (joined_view v w)) other spent_view)
    joins id v other w at zeroth idle apart there idle' =
        let gone : View N = spent_view in
        let both : View N = joined_view v w in
        let live : v.stage ≢ Spent = λ is. cc (idle, is) in
        let live' : w.stage ≢ Spent = λ is. cc (idle', is) in
        let f = s.each id v at live in
        let g = s.each other w there live' in
        let first : id ≡ 0 = sym f.number ∙ zeroth in
        let views' : List (View N) = set views other gone in
        let s' = spends other w there idle' (λ is. apart (is ∙ sym first)) in
        let at' : Sits views' id v = set_else views other id gone (λ same. apart (sym same)) ∙ at in
        let f' = s'.each id v at' live in
        let fresh : (k : ℕ) (d : Joined) → k < length v.joined → (get_or v.joined k d).number ≢ w.number = λ k d below same.
        let h = f.joined k d below in live' (ap (λ (z : View N). z.stage) (one_at views other _ w h.spent.0 (sym g.number ∙ sym same) there h.spent.1) ∙ h.spent.2) in
        let fits : Fits name next past views' id both = record {
          named = f'.named;
          number = f'.number;
          knows = f'.knows;
          noted = f'.noted;
          ticket = f'.ticket;
          turn = f'.turn;
          made = f'.made;
          joined = All-append (Keeps past views') v.joined (as_joined w ∷ []) f'.joined (All-cons (Keeps past views') (as_joined w) [] (record {
            knows = g.knows;
            noted = g.noted;
            spent = (gone, ap (λ (k : ℕ). get_elem? views' k) g.number ∙ set_here views other gone (within views other w there), refl);
          }) (All-nil (Keeps past views')));
          differ = all_pairs_push (λ (a b : Joined). a.number ≢ b.number) v.joined (as_joined w) f'.differ fresh;
        } in
        subst (λ (vs : List (View N)). Seated name next serving past vs) (set-comm views other id gone both apart)
        (changes name next next serving past views' s' id v both at' live live (omega arith) refl (λ t has. inl has) fits)
