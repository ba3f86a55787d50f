-- The lines of threads and of contexts, one after another.
use Rattle.std.proofs.Common.{◌≡◌, ℕ, ◌≤◌, ◌<◌, ◌+◌, sym, ap, ◌∙◌, true, List, [], ◌∷◌, ◌++◌, length, Option, Some, None, suc, zero, take, ⊎_elim, arith, add-one, append-nil, append_assoc}
use Rattle.std.specs.Prelude.{slice_get}
use Rattle.std.specs.FinMap as fm
use Rattle.std.specs.List.{flat_map, range_with_len}
use Rattle.std.specs.Option.{option_map_or}
use Rattle.std.proofs.lemmas.Cmp.{eq_by_cmp_equiv}
use Rattle.std.proofs.lemmas.List.{length-map, take_more, take_all}
use Rattle.std.proofs.lemmas.List.Concat.{flat_map-append}
use Rattle.std.proofs.lemmas.Map.Views.{list_any-from_Contains}
use Rattle.std.proofs.lemmas.Option.{slice_get_cases, slice_get_within, get_or_from_slice_get}
use Rattle.kernel_core.specs.Kernel.{view_of}
use Rattle.kernel_core.specs.Machine.{Machine, reply_of}
use Rattle.snapshot_host.specs.declared.finishing.Finished.{Finished}
use Rattle.kernel_core.specs.declared.thread.ThreadView.{ThreadView}
use Rattle.lwc_base.specs.Summaries.{summary_of}
use Rattle.lwc_base.specs.World.{World}
use Rattle.lwc_types.specs.declared.name.Name.{Name}
use Rattle.lwc_types.specs.declared.size.Summary.{Summary}
use Rattle.lwc_text.specs.Lines.{context_line, reply_line, thread_lines}
use Rattle.lwc_text.specs.Report.{thread_at}
use Rattle.lwc_types.proofs.Orders.{name_cmp-total}

-- a name among those of live contexts is live
pub lives : (w : World) (i : ℕ) (c : Name) → slice_get (fm.keys w.contexts) i ≡ Some c → fm.contains_key w.contexts c ≡ true
lives w i c found =
    fm.contains_key-keys w.contexts c
    ∙ list_any-from_Contains (eq_by_cmp_equiv name_cmp-total) c (fm.keys w.contexts) (i, slice_get_within (fm.keys w.contexts) i c found, get_or_from_slice_get (fm.keys w.contexts) i c c found)

-- the last of some pieces
last_piece : {X : Type 0} (f : X → List ℕ) (xs : List X) (x : X) → flat_map f (xs ++ x ∷ []) ≡ flat_map f xs ++ f x
last_piece f xs x = flat_map-append f xs (x ∷ []) ∙ ap (λ ys. flat_map f xs ++ ys) (append-nil (f x))

count_on : (a n : ℕ) → range_with_len a (suc n) ≡ range_with_len a n ++ (a + n) ∷ []
count_on a zero = ap (λ k. k ∷ []) (omega arith)
count_on a (suc n) = ap (λ l. a ∷ l) (count_on (a + 1) n ∙ ap (λ k. range_with_len (a + 1) n ++ k ∷ []) (omega arith))

-- the lines of one more thread
pub more_threads : (m : Machine) (t : ℕ) (view : ThreadView) (now after : List ℕ) → view_of m t ≡ Some view → now ≡ flat_map (thread_at m) (range_with_len 0 t)
    → after ≡ now ++ thread_lines t view → after ≡ flat_map (thread_at m) (range_with_len 0 (t + 1))
more_threads m t view now after seen so_far added =
    let text : thread_at m t ≡ thread_lines t view = ap (λ (o : Option ThreadView). option_map_or (thread_lines t) o []) seen in
    let next : range_with_len 0 (t + 1) ≡ range_with_len 0 t ++ t ∷ [] = rw add-one (count_on 0 t ∙ ap (λ k. range_with_len 0 t ++ k ∷ []) (omega arith)) in
    added
    ∙ ap (λ l. l ++ thread_lines t view) so_far
    ∙ ap (λ l. flat_map (thread_at m) (range_with_len 0 t) ++ l) (sym text)
    ∙ sym (last_piece (thread_at m) (range_with_len 0 t) t)
    ∙ ap (flat_map (thread_at m)) (sym next)

-- the line of one reply more
pub more_replies : (m : Machine) (r : ℕ) (finished : Option Finished) (before now after : List ℕ) → finished ≡ reply_of m r → now ≡ before ++ flat_map (λ q. reply_line q (reply_of m q)) (range_with_len 0 r)
    → after ≡ now ++ reply_line r finished → after ≡ before ++ flat_map (λ q. reply_line q (reply_of m q)) (range_with_len 0 (r + 1))
more_replies m r finished before now after is so_far added =
    let line = λ (q : ℕ). reply_line q (reply_of m q) in
    let next : range_with_len 0 (r + 1) ≡ range_with_len 0 r ++ r ∷ [] = rw add-one (count_on 0 r ∙ ap (λ k. range_with_len 0 r ++ k ∷ []) (omega arith)) in
    added ∙ ap (λ l. l ++ reply_line r finished) so_far ∙ ap (λ f. (before ++ flat_map line (range_with_len 0 r)) ++ reply_line r f) is
    ∙ append_assoc before (flat_map line (range_with_len 0 r)) (line r)
    ∙ ap (λ l. before ++ l) (sym (last_piece line (range_with_len 0 r) r) ∙ ap (flat_map line) (sym next))

abbrev context_at : World → Name → List ℕ
context_at w c = context_line c (summary_of w c)

-- the line of one more context
pub one_more_context : (w : World) (i : ℕ) (c : Name) (s : Summary) (before now after : List ℕ) → Some c ≡ slice_get (fm.keys w.contexts) i → s ≡ summary_of w c
    → now ≡ before ++ flat_map (context_at w) (take i (fm.keys w.contexts)) → after ≡ now ++ context_line c s
    → after ≡ before ++ flat_map (context_at w) (take (i + 1) (fm.keys w.contexts))
one_more_context w i c s before now after named is so_far added =
    let keys : List Name = fm.keys w.contexts in
    let found : slice_get keys i ≡ Some c = sym named in
    let next : take (i + 1) keys ≡ take i keys ++ c ∷ [] =
    take_more keys i c (slice_get_within keys i c found) ∙ ap (λ x. take i keys ++ x ∷ []) (get_or_from_slice_get keys i c c found) in
    added
    ∙ ap (λ (x : Summary). now ++ context_line c x) is
    ∙ ap (λ l. l ++ context_at w c) so_far
    ∙ append_assoc before (flat_map (context_at w) (take i keys)) (context_at w c)
    ∙ ap (λ l. before ++ l) (sym (last_piece (context_at w) (take i keys) c) ∙ ap (flat_map (context_at w)) (sym next))

some_is_not_none : {X : Type 0} (x : X) → Some x ≡ None → ⊥
some_is_not_none x h = cc

count_of_keys : (w : World) → fm.len w.contexts ≡ length (fm.keys w.contexts)
count_of_keys w = fm.len-entries w.contexts ∙ sym (length-map (fm.entries w.contexts) (λ e. e.0))

-- below the number of live contexts there is a name
pub is_named : (w : World) (i : ℕ) → i < fm.len w.contexts → slice_get (fm.keys w.contexts) i ≡ None → ⊥
is_named w i below none =
    let keys : List Name = fm.keys w.contexts in
    ⊎_elim (λ p. some_is_not_none p.0 (sym p.2 ∙ none)) (λ p. absurd (omega (arith, p.0, count_of_keys w))) (slice_get_cases keys i).1

-- the lines of all contexts
pub all_contexts : (w : World) (i : ℕ) (before now : List ℕ) → fm.len w.contexts ≤ i
    → now ≡ before ++ flat_map (context_at w) (take i (fm.keys w.contexts)) → now ≡ before ++ flat_map (context_at w) (fm.keys w.contexts)
all_contexts w i before now past so_far =
    let keys : List Name = fm.keys w.contexts in
    so_far ∙ ap (λ l. before ++ flat_map (context_at w) l) (take_all i keys (omega (arith, count_of_keys w)))

pub ruleset live_names = (lives, is_named)
