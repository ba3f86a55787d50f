use Rattle.std.proofs.Common.{◌≡◌, ◌<◌, ◌+◌, ◌-◌, ◌∙◌, ◌++◌, ◌∷◌, [], ℕ, List, ap, arith, get_or, length, length-append, subst, sym, take}
use Rattle.std.proofs.lemmas.List.{get_or-take, length-take-le}
use Rattle.lwc_text.proofs.Steps.{IsPlain, IsSoFar, continues, ends, is_done, plain_continues}
use Rattle.lwc_text.proofs.schedule.read_steps.Goals as goal

pub bytes-preserved : goal.bytes-preserved
bytes-preserved c =
    continues c.args.threads c.args.most c.bytes.at c.bytes.steps.items c.read_byte.new.steps.items c.args.bytes.now (omega arith)
    c.in_ok-read_byte.ensures.kept c.in_ok-read_byte.ensures.added c.in_ok-read_byte.ensures.few c.bytes.invariant

pub returns-in_err-read_byte-clause-refused : goal.returns-in_err-read_byte-clause-refused
returns-in_err-read_byte-clause-refused c =
    let ended = ends c.in_err-read_byte.field-0.0 c.args.threads c.args.most c.bytes.at c.bytes.steps.items c.args.bytes.now (omega arith) c.in_err-read_byte.ensures.refused c.bytes.invariant in
    grind (arith, ended)

pub returns-clause-read : goal.returns-clause-read
returns-clause-read c = grind (arith, is_done)

pub first-preserved : goal.first-preserved
first-preserved c =
    let bytes = c.args.bytes.now in
    let at = c.first.byte-index in
    let n = c.plain_count.result in
    let inside : at < n = omega (arith, c.first-test.true, length-take-le n bytes c.plain_count.ensures.within) in
    let here : get_or (take n bytes) at 0 ≡ get_or bytes at 0 = get_or-take n bytes at 0 inside in
    let plain : IsPlain c.args.threads (get_or bytes at 0) = subst (IsPlain c.args.threads) here (c.plain_count.ensures.plain at 0 c.first-test.true) in
    let grown : c.push_reserved.new.self.items ≡ c.first.steps.items ++ (get_or bytes at 0 - 48) ∷ [] =
    c.push_reserved.ensures.items ∙ ap (λ b. c.first.steps.items ++ (b - 48) ∷ []) here in
    let next = plain_continues c.args.threads c.args.most at c.first.steps.items bytes (omega (arith, inside, c.plain_count.ensures.within)) (omega (arith, inside, c.plain_count.ensures.few)) c.first.invariant.count plain c.first.invariant.so_far in
    record {
      so_far = subst (λ (l : List ℕ). IsSoFar c.args.threads c.args.most bytes (at + 1) l) (sym grown) next;
      count = omega (arith, ap length grown, length-append c.first.steps.items ((get_or bytes at 0 - 48) ∷ []), c.first.invariant.count);
      room = omega (arith, c.first.invariant.room, c.push_reserved.ensures.capacity);
    }
