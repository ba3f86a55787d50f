use Rattle.std.proofs.Common.{◌≡◌, ◌≤◌, All, length}
use Rattle.stream_suite.proofs.guests.requests_of.Given as goal

-- a request of one byte for each byte so far
abbrev pub invariant-bytes : goal.invariant-bytes
invariant-bytes l = record {
  count : length l.requests.items ≡ l.byte-index;
  short : All (λ request. length request ≤ 1) l.requests.items;
}
