use Rattle.std.proofs.Common.{◌≡◌, ◌≤◌, ◌+◌, ◌-◌, ◌<◌, ◌∙◌, ap, min, Some, length, vec_len, arith, refl}
use Rattle.lwcrun_inputs.specs.declared.reading.TheConstants.{CHUNK}
use Rattle.lwcrun_inputs.proofs.Fetches.{fetched_next, fetched_so_far, fetched_to_the_end, more_read, nothing_read, passes_limit}
use Rattle.lwcrun_inputs.proofs.reading.read_whole.Goals as goal

pub loop-bytes-init : goal.loop-bytes-init
loop-bytes-init g c = nothing_read _ _ _ _ _ c.new-bytes.ensures.items c.in_ok-buffer.ensures.bytes

pub loop-bytes-preserved : goal.loop-bytes-preserved
loop-bytes-preserved g c =
    let is_at : vec_len c.loop-bytes.bytes ≡ length c.loop-bytes.bytes.items = omega arith in
    let left : vec_len c.loop-bytes.bytes ≤ c.args.limit = omega arith in
    let read : c.len-in-loop-bytes.result ≡ vec_len c.loop-bytes.bytes = omega arith in
    let short : length c.read_piece.new.bytes.items ≤ c.args.limit + 1 =
    omega (arith, c.in_ok-count.ensures.longer, c.in_ok-count.ensures.count, c.next_count-most.ensures.within) in
    let logged = c.in_ok-count.ensures.logged in
    let grows : length c.read_piece.new.bytes.items ≡ length c.loop-bytes.bytes.items + c.in_ok-count.count = omega (arith, c.in_ok-count.ensures.longer) in
    let any : 0 < c.in_ok-count.count = omega arith in
    more_read _ _ _ _ _ _ _ _ _ logged.0 c.loop-bytes.invariant is_at logged.1 left (c.next_count-most.ensures.exact ∙ ap (λ n. min (c.args.limit + 1 - n) CHUNK) read) _ _ c.in_ok-count.ensures.front short _ logged.2 grows any c.read_piece.ensures.same (c.in_ok-count.ensures.no_fault (λ is. absurd cc)) refl

pub returns-in_err-count-clause-fetches : goal.returns-in_err-count-clause-fetches
returns-in_err-count-clause-fetches g c =
    let is_at : vec_len c.loop-bytes.bytes ≡ length c.loop-bytes.bytes.items = omega arith in
    let left : vec_len c.loop-bytes.bytes ≤ c.args.limit = omega arith in
    let read : c.len-in-loop-bytes.result ≡ vec_len c.loop-bytes.bytes = omega arith in
    fetched_next _ _ (g.F.Files.seen c.read_piece.new.files) _ _ _ _ _ _ c.read_piece.ensures.logged.0 c.loop-bytes.invariant is_at c.read_piece.ensures.logged.1 left (c.next_count-most.ensures.exact ∙ ap (λ n. min (c.args.limit + 1 - n) CHUNK) read)

pub returns-then-count-eq0-clause-fetches : goal.returns-then-count-eq0-clause-fetches
returns-then-count-eq0-clause-fetches g c =
    let is_at : vec_len c.loop-bytes.bytes ≡ length c.loop-bytes.bytes.items = omega arith in
    let left : vec_len c.loop-bytes.bytes ≤ c.args.limit = omega arith in
    let read : c.len-in-loop-bytes.result ≡ vec_len c.loop-bytes.bytes = omega arith in
    fetched_next _ _ (g.F.Files.seen c.read_piece.new.files) _ _ _ _ _ _ c.read_piece.ensures.logged.0 c.loop-bytes.invariant is_at c.read_piece.ensures.logged.1 left (c.next_count-most.ensures.exact ∙ ap (λ n. min (c.args.limit + 1 - n) CHUNK) read)

pub returns-then-count-eq0-clause-whole : goal.returns-then-count-eq0-clause-whole
returns-then-count-eq0-clause-whole g c =
    let is_at : vec_len c.loop-bytes.bytes ≡ length c.loop-bytes.bytes.items = omega arith in
    let left : vec_len c.loop-bytes.bytes ≤ c.args.limit = omega arith in
    let read : c.len-in-loop-bytes.result ≡ vec_len c.loop-bytes.bytes = omega arith in
    let logged = c.in_ok-count.ensures.logged in
    let end : c.in_ok-count.count ≡ 0 = omega arith in
    fetched_to_the_end _ _ (g.F.Files.seen c.read_piece.new.files) _ _ _ _ _ _ logged.0 c.loop-bytes.invariant is_at logged.1 left (c.next_count-most.ensures.exact ∙ ap (λ n. min (c.args.limit + 1 - n) CHUNK) read) (logged.2 ∙ ap Some end)

pub returns-clause-too_long : goal.returns-clause-too_long
returns-clause-too_long g c _ =
    let over : c.args.limit < length c.loop-bytes.bytes.items = omega arith in
    passes_limit _ _ _ over c.loop-bytes.invariant.begins

pub returns-clause-fetches : goal.returns-clause-fetches
returns-clause-fetches g c = fetched_so_far _ _ _ _ _ _ c.loop-bytes.invariant
