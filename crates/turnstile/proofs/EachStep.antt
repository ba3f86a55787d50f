-- Each kind of step keeps the rule.
use Rattle.std.proofs.Common.{◌≡◌, ◌≢◌, ◌⊎◌, ◌+◌, ◌%◌, ◌^◌, ◌<◌, ◌≤◌, ℕ, List, [], ◌∷◌, ◌++◌, length, set, get_or, Option, Some, refl, sym, ap, subst, ◌∙◌, inl, inr, ⊎_elim, arith, length-append}
use Rattle.std.specs.Prelude.{sum_by, unwrap_or}
use Rattle.std.proofs.lemmas.List.Sums.{sum_by-cons}
use mathlib.Core.Logic.{dite}
use mathlib.Core.Option as maybe
use mathlib.Core.Option.{some, none, some-injective, some-ne-none}
use native.Mathlib.Decide.{ℕ_discrete}
use lib.ListN.{get_elem?}
use Rattle.atomic_table.specs.Table.{State, Me, step, Act, keeps, takes, gives, Valid, stepped, carried_after, Allows, Splits, Joins}
use Rattle.atomic_table.proofs.Lists.{at_set, set_here, set_else, at_longer}
use Rattle.turnstile.specs.declared.views.Stage.{Stage}
use Rattle.turnstile.specs.declared.views.Stage.TheVariants.{Idle, Waiting, Serving, Spent}
use Rattle.turnstile.specs.declared.views.View.{View}
use Rattle.turnstile.specs.Past.{Knows}
use Rattle.turnstile.specs.Rule.{tickets, HasTicket, Sits, Fits, Seated, IsHome, IsOut, Holds}
use Rattle.turnstile.specs.Steps.{staged, noting, serving_view, rested, kept_view, new_view, joined_view, spent_view, DrawsTicket, Looks, PassesOn}
use Rattle.turnstile.specs.Moves.{CanLook, MayEnd}
use Rattle.turnstile.proofs.Pasts.{knows_self, prefix_length}
use Rattle.turnstile.proofs.Places.{one_at, within, at_end}
use Rattle.turnstile.proofs.Seats.{serving_ticket, changes, passes, splits, joins}

-- a seat has one ticket at most
at_most : (stage : Stage) → tickets stage ≤ 1
at_most Idle = omega arith
at_most (Waiting t) = omega arith
at_most (Serving t) = omega arith
at_most Spent = omega arith

-- the state in the slot taken last
abbrev held_or : {S : Type 0} → S → List (ℕ × Option S) → S
held_or state [] = state
held_or state (slot ∷ slots) = unwrap_or slot.1 state

module _ {S N : Type 0} (name_of : S → N) (past_of : S → List ℕ) where
  abbrev Views : Type 0
  Views = List (View N)

  abbrev Slot : Type 0
  Slot = maybe.Option (Option S)

  abbrev M : Type 0
  M = Me (Option S) (View N)

  abbrev Rule : N → State (Option S) (View N) → Type 0
  Rule name = Holds name_of past_of name

  abbrev Lies : N → List ℕ → Slot → Views → Type 0
  Lies name past home views = IsHome name_of past_of name past home views ⊎ IsOut home views

  -- the table over written-out words and slot
  abbrev laid : ℕ → ℕ → Slot → Views → State (Option S) (View N)
  laid next serving home views = record { words = next ∷ serving ∷ []; homes = home ∷ []; views = views }

  -- what a step owes there
  abbrev Goes : N → ℕ → M → ℕ → (ℕ → ℕ) → (ℕ → M → Type 0) → List ℕ × List Slot → Views → Type 0
  Goes name id me i f then z views = (w : View N) × (a : Act (Option S)) × Valid z.1 me.1 a
      × Rule name (stepped (record { words = z.0; homes = z.1; views = views }) i (f (get_or z.0 i 0)) id me.1 w a) × then (get_or z.0 i 0) (w, carried_after me.1 a)

  -- it is enough to show it there
  opens : (name : N) (slots id : ℕ) (me : M) (i : ℕ) (f : ℕ → ℕ) (then : ℕ → M → Type 0)
      → ((next serving : ℕ) (past : List ℕ) (home : Slot) (views : Views) → length past ≡ serving → serving < 2 ^ 63 → Seated name next serving past views → Lies name past home views → Sits views id me.0
      → Goes name id me i f then (next ∷ serving ∷ [], home ∷ []) views) → Allows (Rule name) slots id me i f then
  opens name slots id me i f then ask s h _ at _ =
      subst (λ (z : List ℕ × List Slot). Goes name id me i f then z s.views) (λ c. (sym h.words c, sym h.slot c)) (ask h.next h.serving h.past h.home s.views h.served h.short h.seated h.lies at)

  -- the rule over written-out words and slot
  rules : (name : N) (next serving : ℕ) (past : List ℕ) (home : Slot) (views : Views) → length past ≡ serving → serving < 2 ^ 63 → Seated name next serving past views → Lies name past home views → Rule name (laid next serving home views)
  rules name next serving past home views served short seated lies = record { next = next; serving = serving; past = past; home = home; words = refl; slot = refl; served = served; short = short; seated = seated; lies = lies }

  -- a seat that is not at its turn changes its view, and is not then
  lies_stay : (name : N) (past : List ℕ) (home : Slot) (views : Views) (id : ℕ) (v w : View N) → Sits views id v → ((t : ℕ) → v.stage ≢ Serving t) → ((t : ℕ) → w.stage ≢ Serving t)
      → Lies name past home views → Lies name past home (set views id w)
  lies_stay name past home views id v w at before after lies = ⊎_elim
      (λ (h : IsHome name_of past_of name past home views). inl record {
        state = h.state;
        lies = h.lies;
        named = h.named;
        past_is = h.past_is;
        nobody = λ seat t u sits. ⊎_elim (λ (k : (seat ≡ id) × (w ≡ u)) is. after t (ap (λ (z : View N). z.stage) k.1 ∙ is)) (λ (k : (seat ≢ id) × (get_elem? views seat ≡ some u)). h.nobody seat t u k.1) (at_set views id seat w u sits);
      })
      (λ (h : IsOut home views). inr record {
        empty = h.empty;
        seat = h.seat;
        ticket = h.ticket;
        view = h.view;
        sits = set_else views id h.seat w (λ same. before h.ticket (ap (λ (z : View N). z.stage) (one_at views id h.seat v h.view (sym same) at h.sits) ∙ h.serves)) ∙ h.sits;
        serves = h.serves;
      })
      lies

  -- a seat without a ticket may draw one
  pub draws : (name : N) (slots id : ℕ) (me : M) → me.0.stage ≡ Idle → Allows (Rule name) slots id me 0 (λ n. (n + 1) % 2 ^ 64) (DrawsTicket (step slots 0 1 0 none) me)
  draws name slots id me idle = opens name slots id me 0 (λ n. (n + 1) % 2 ^ 64) (DrawsTicket (step slots 0 1 0 none) me) (λ next serving past home views served short s lies at.
      let v : View N = me.0 in
      let w : View N = staged (Waiting next) v in
      let live : v.stage ≢ Spent = λ gone. cc (idle, gone) in
      let f = s.each id v at live in
      let none_yet : tickets v.stage ≡ 0 = ap tickets idle in
      let low : length past ≤ next = let d = s.drawn in omega arith in
      let fits : Fits name (next + 1) past views id w = record {
        named = f.named;
        number = f.number;
        knows = f.knows;
        noted = f.noted;
        ticket = λ t is. (omega arith, omega arith);
        turn = λ t is. absurd (cc is);
        made = f.made;
        joined = f.joined;
        differ = f.differ;
      } in
      let few : next < 2 ^ 63 + 17 = total name next serving past views s short in
      let fit : next + 1 ≡ (next + 1) % 2 ^ 64 = omega arith in (
        w,
        keeps,
        tt,
        subst (λ (n : ℕ). Rule name (laid n serving home (set views id w))) fit
            (rules name (next + 1) serving past home (set views id w) served short
            (changes name next (next + 1) serving past views s id v w at live (λ gone. cc gone) (omega arith) (omega arith) (λ t is. inr (omega arith)) fits)
            (lies_stay name past home views id v w at (λ t is. cc (idle, is)) (λ t is. cc is) lies)),
        refl,
      ))
    where
      most : (views : Views) → sum_by (λ z. tickets z.stage) views ≤ length views
      most [] = omega arith
      most (v ∷ vs) = let rest = most vs in let one = at_most v.stage in omega (arith, sum_by-cons (λ (z : View N). tickets z.stage) v vs)

      total : (name : N) (next serving : ℕ) (past : List ℕ) (views : Views) → Seated name next serving past views → serving < 2 ^ 63 → next < 2 ^ 63 + 17
      total name next serving past views s short = let d = s.drawn in let few = s.few in let m = most views in omega arith

  -- a look that finds no turn of the seat's
  waits_on : (name : N) (next serving : ℕ) (past : List ℕ) (home : Slot) (views : Views) (id : ℕ) (v : View N) → length past ≡ serving → serving < 2 ^ 63 → Seated name next serving past views → Lies name past home views
      → Sits views id v → v.stage ≢ Spent → ((t : ℕ) → v.stage ≢ Serving t) → Rule name (laid next serving home (set views id (noting serving v)))
  waits_on name next serving past home views id v served short s lies at live before =
      let w : View N = noting serving v in
      let f = s.each id v at live in
      let fits : Fits name next past views id w = record {
        named = f.named;
        number = f.number;
        knows = f.knows;
        noted = omega arith;
        ticket = f.ticket;
        turn = f.turn;
        made = f.made;
        joined = f.joined;
        differ = f.differ;
      } in
      rules name next serving past home (set views id w) served short (changes name next next serving past views s id v w at live live (omega arith) refl (λ t has. inl has) fits) (lies_stay name past home views id v w at before before lies)

  -- a look that finds the seat's ticket
  turn_comes : (name : N) (next serving : ℕ) (past : List ℕ) (views : Views) (id : ℕ) (v : View N) → length past ≡ serving → serving < 2 ^ 63 → Seated name next serving past views
      → Sits views id v → v.stage ≡ Waiting serving → Rule name (laid next serving none (set views id (serving_view serving past v)))
  turn_comes name next serving past views id v served short s at waiting =
      let w : View N = serving_view serving past v in
      let live : v.stage ≢ Spent = λ gone. cc (waiting, gone) in
      let f = s.each id v at live in
      let has : HasTicket v.stage serving = let P : Stage → Type 0 = λ z. HasTicket z serving in subst P (sym waiting) refl in
      let mine = f.ticket serving has in
      let one : tickets v.stage ≡ 1 = ap tickets waiting in
      let fits : Fits name next past views id w = record {
        named = f.named;
        number = f.number;
        knows = knows_self past v.number;
        noted = omega arith;
        ticket = λ t is. let same : serving ≡ t = is in (omega arith, omega arith);
        turn = λ t is. (let same : serving ≡ t = cc is in omega arith, refl);
        made = f.made;
        joined = f.joined;
        differ = f.differ;
      } in
      rules name next serving past none (set views id w) served short
      (changes name next next serving past views s id v w at live (λ gone. cc gone) (omega arith) (omega arith) (λ t is. inl (subst (HasTicket v.stage) is has)) fits)
      (inr record { empty = refl; seat = id; ticket = serving; view = w; sits = set_here views id w (within views id v at); serves = refl })

  -- where a seat's ticket is served, no other seat is at its turn
  own_turn : (name : N) (next serving : ℕ) (past : List ℕ) (home : Slot) (views : Views) (id : ℕ) (v : View N) → length past ≡ serving → Seated name next serving past views → Sits views id v → v.stage ≡ Waiting serving → IsOut home views → ⊥
  own_turn name next serving past home views id v served s at waiting out =
      let has : HasTicket v.stage serving = let P : Stage → Type 0 = λ z. HasTicket z serving in subst P (sym waiting) refl in
      let g = s.each out.seat out.view out.sits (λ gone. cc (out.serves, gone)) in
      let now : out.ticket ≡ serving = (g.turn out.ticket out.serves).0 ∙ served in
      let theirs : HasTicket out.view.stage serving = subst (HasTicket out.view.stage) now (serving_ticket out.view.stage out.ticket out.serves) in
      let same : v ≡ out.view = one_at views id out.seat v out.view (s.apart id out.seat serving v out.view at out.sits has theirs) at out.sits in
      let both : Waiting serving ≡ Serving out.ticket = sym waiting ∙ (ap (λ (z : View N). z.stage) same ∙ out.serves) in cc

  -- who may look is not at its turn
  can_look : (stage : Stage) → CanLook stage → (stage ≢ Spent) × ((t : ℕ) → stage ≢ Serving t)
  can_look Idle may = ((λ is. cc is), λ t is. cc is)
  can_look (Waiting own) may = ((λ is. cc is), λ t is. cc is)
  can_look (Serving own) may = absurd may
  can_look Spent may = absurd may

  -- whether a seat waits with this ticket
  is_waiting : (stage : Stage) (n : ℕ) → Dec (stage ≡ Waiting n)
  is_waiting Idle n = no (λ is. cc is)
  is_waiting (Waiting own) n = dite (ℕ_discrete own n) (λ same. yes (ap Waiting same)) (λ other. no (λ is. other (cc is)))
  is_waiting (Serving own) n = no (λ is. cc is)
  is_waiting Spent n = no (λ is. cc is)

  -- a seat that is not at its turn may look
  pub looks : (name : N) (slots id : ℕ) (me : M) → CanLook me.0.stage → Allows (Rule name) slots id me 1 (λ n. n) (Looks name_of past_of me)
  looks name slots id me may = opens name slots id me 1 (λ n. n) (Looks name_of past_of me) (λ next serving past home views served short s lies at.
      let v : View N = me.0 in
      let cases = can_look v.stage may in
      let f = s.each id v at cases.0 in
      let seen_is : length v.seen ≤ serving = omega (arith, prefix_length v.seen past f.knows.0) in
      let noted_is : v.noted ≤ serving = let z = f.noted in omega arith in
      dite (is_waiting v.stage serving)
      (λ waiting. ⊎_elim
      (λ (h : IsHome name_of past_of name past home views). (
        serving_view serving past v,
        takes 0 (Some h.state),
        ap some h.lies,
        turn_comes name next serving past views id v served short s at waiting,
        record {
          seen = seen_is;
          noted = noted_is;
          waits = λ not. absurd (not waiting);
          serves = λ _. record {
            state = h.state;
            takes = ap (λ (z : List ℕ). (serving_view serving z v, (0, Some h.state) ∷ me.1)) (sym h.past_is);
            named = ap Some h.named ∙ sym f.named;
            knows = subst (λ (z : List ℕ). Knows z v.number v.seen) (sym h.past_is) f.knows;
            turns = ap length h.past_is ∙ served;
          };
        },
      ))
      (λ (h : IsOut home views). absurd (own_turn name next serving past home views id v served s at waiting h))
      lies)
      (λ not. (
        noting serving v,
        keeps,
        tt,
        waits_on name next serving past home views id v served short s lies at cases.0 cases.1,
        record { seen = seen_is; noted = noted_is; waits = λ _. refl; serves = λ waiting. absurd (not waiting) },
      )))

  -- the state is back: its past has the seat's number once more
  passes_with : (name : N) (slots id : ℕ) (v : View N) (state : S) (ticket : ℕ) → v.stage ≡ Serving ticket → Some (name_of state) ≡ v.name → past_of state ≡ v.seen ++ v.number ∷ [] → length (past_of state) < 2 ^ 63
      → Allows (Rule name) slots id (v, (0, Some state) ∷ []) 1 (λ n. (n + 1) % 2 ^ 64) (λ _. PassesOn past_of (v, (0, Some state) ∷ []))
  passes_with name slots id v state ticket turn named grown law = let me : M = (v, (0, Some state) ∷ []) in
      opens name slots id me 1 (λ n. (n + 1) % 2 ^ 64) (λ _. PassesOn past_of me) (λ next serving past home views served short s lies at.
      let past' : List ℕ = past_of state in
      let w : View N = rested past' v in
      let live : v.stage ≢ Spent = λ gone. cc (turn, gone) in
      let f = s.each id v at live in
      let seen_is : v.seen ≡ past = (f.turn ticket turn).1 in
      let grown' : past' ≡ past ++ v.number ∷ [] = grown ∙ ap (λ (z : List ℕ). z ++ v.number ∷ []) seen_is in
      let longer : length past' ≡ serving + 1 = omega (arith, ap length grown', length-append past (v.number ∷ [])) in
      let fit : serving + 1 ≡ (serving + 1) % 2 ^ 64 = omega arith in
      let named' : name_of state ≡ name = cc (named, f.named) in
      let has = serving_ticket v.stage ticket turn in
      let now : ticket ≡ length past = (f.turn ticket turn).0 in
      let nobody : (seat t : ℕ) (u : View N) → Sits (set views id w) seat u → u.stage ≢ Serving t = λ seat t u sits is. ⊎_elim
      (λ (k : (seat ≡ id) × (w ≡ u)). let z : Idle ≡ Serving t = ap (λ (x : View N). x.stage) k.1 ∙ is in cc)
      (λ (k : (seat ≢ id) × (get_elem? views seat ≡ some u)). let g = s.each seat u k.1 (λ gone. cc (is, gone)) in
      let same : t ≡ ticket = (g.turn t is).0 ∙ sym now in k.0 (s.apart seat id ticket u v k.1 at (subst (HasTicket u.stage) same (serving_ticket u.stage t is)) has))
      (at_set views id seat w u sits) in (
        w,
        gives,
        tt,
        subst (λ (n : ℕ). Rule name (laid next n (some (Some state)) (set views id w))) fit
            (rules name next (serving + 1) past' (some (Some state)) (set views id w) longer (omega arith) (passes name next serving past views s id ticket v past' at turn served grown')
            (inl record { state = state; lies = refl; named = named'; past_is = refl; nobody = nobody })),
        λ state' is. let same : state ≡ state' = ap (held_or state) is in ap (λ (x : S). (rested (past_of x) v, [])) same,
      ))

  -- the same, where the seat holds the slot with the state
  pub passes_on : (name : N) (slots id : ℕ) (me : M) (state : S) → me.1 ≡ (0, Some state) ∷ [] → MayEnd name_of past_of me.0 state → length (past_of state) < 2 ^ 63 → Allows (Rule name) slots id me 1 (λ n. (n + 1) % 2 ^ 64) (λ _. PassesOn past_of me)
  passes_on name slots id me state holds may law = subst (λ (slot : List (ℕ × Option S)). Allows (Rule name) slots id (me.0, slot) 1 (λ n. (n + 1) % 2 ^ 64) (λ _. PassesOn past_of (me.0, slot))) (sym holds)
      (passes_with name slots id me.0 state may.ticket may.serves may.named may.past_is law)

  -- the first seat may split
  pub splits_seat : (name : N) (id : ℕ) (v : View N) → v.number ≡ 0 → v.stage ≡ Idle → v.made < 16 → Splits (Rule name) id v (kept_view v) (new_view v)
  splits_seat name id v zeroth idle room s h at =
      let w : View N = kept_view v in
      let n : View N = new_view v in
      let one = lies_stay name h.past h.home s.views id v w at (λ t is. cc (idle, is)) (λ t is. cc (idle, is)) h.lies in record {
        next = h.next;
        serving = h.serving;
        past = h.past;
        home = h.home;
        words = h.words;
        slot = h.slot;
        served = h.served;
        short = h.short;
        seated = splits name h.next h.serving h.past s.views h.seated id v at zeroth idle room;
        lies = ⊎_elim
            (λ (k : IsHome name_of past_of name h.past h.home (set s.views id w)). inl record {
              state = k.state;
              lies = k.lies;
              named = k.named;
              past_is = k.past_is;
              nobody = λ seat t u sits is. ⊎_elim (λ (l : get_elem? (set s.views id w) seat ≡ some u). k.nobody seat t u l is)
                  (λ (l : (seat ≡ length (set s.views id w)) × (n ≡ u)). let z : Idle ≡ Serving t = ap (λ (x : View N). x.stage) l.1 ∙ is in cc) (at_end (set s.views id w) n u seat sits);
            })
            (λ (k : IsOut h.home (set s.views id w)). inr record { empty = k.empty; seat = k.seat; ticket = k.ticket; view = k.view; sits = at_longer (set s.views id w) (n ∷ []) k.seat k.view k.sits; serves = k.serves })
            one;
      }

  -- the first seat may take in another
  pub joins_seat : (name : N) (id : ℕ) (v : View N) (other : ℕ) (w : View N) → v.number ≡ 0 → v.stage ≡ Idle → w.stage ≡ Idle → Joins (Rule name) id v other w (joined_view v w) spent_view
  joins_seat name id v other w zeroth idle idle' s h at apart there' =
      let both : View N = joined_view v w in
      let gone : View N = spent_view in
      let there : Sits s.views other w = sym (set_else s.views id other both apart) ∙ there' in record {
        next = h.next;
        serving = h.serving;
        past = h.past;
        home = h.home;
        words = h.words;
        slot = h.slot;
        served = h.served;
        short = h.short;
        seated = joins name h.next h.serving h.past s.views h.seated id v other w at zeroth idle apart there idle';
        lies = lies_stay name h.past h.home (set s.views id both) other w gone there' (λ t is. cc (idle', is)) (λ t is. cc is)
            (lies_stay name h.past h.home s.views id v both at (λ t is. cc (idle, is)) (λ t is. cc (idle, is)) h.lies);
      }
