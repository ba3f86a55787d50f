-- The replies of a machine, one after another.
use Rattle.std.proofs.Common.{◌≡◌, ◌+◌, ℕ, List, [], ◌∷◌, ◌++◌, Option, Some, map, sym, ap, ◌∙◌, arith}
use Rattle.std.specs.List.{range_with_len}
use Rattle.std.proofs.lemmas.List.FromFn.{map-range_with_len_more}
use Rattle.kernel_core.specs.Machine.{Machine, reply_of}
use Rattle.lwc_gen.specs.Summary.{Reply, recorded_reply, totals_of}
use Rattle.lwc_gen.specs.declared.totals.Totals.{Totals}
use Rattle.lwc_types.specs.declared.fault.ThreadStatus.{ThreadStatus}
use Rattle.snapshot_host.specs.declared.finishing.Finished.{Finished}

-- the replies to the requests before one
abbrev pub replies_before : Machine → ℕ → List Reply
replies_before m r = map (λ q. recorded_reply (reply_of m q)) (range_with_len 0 r)

-- the totals with the next request's record
pub added_next : (m : Machine) (r : ℕ) (finished : Option Finished) (totals : Totals) → finished ≡ reply_of m r →
    totals ≡ totals_of (replies_before m r ++ recorded_reply finished ∷ []) → totals ≡ totals_of (replies_before m (r + 1))
added_next m r finished totals is added =
    added ∙ ap totals_of (ap (λ (f : Option Finished). replies_before m r ++ recorded_reply f ∷ []) is ∙ sym (map-range_with_len_more (λ q. recorded_reply (reply_of m q)) 0 r r (omega arith)))

-- and where its reply has this status and these bytes
pub added_reply : (m : Machine) (r : ℕ) (finished : Finished) (status : ThreadStatus) (bytes : List ℕ) (totals : Totals) → Some finished ≡ reply_of m r → status ≡ finished.status → bytes ≡ finished.bytes →
    totals ≡ totals_of (replies_before m r ++ record { status = Some status; bytes = bytes } ∷ []) → totals ≡ totals_of (replies_before m (r + 1))
added_reply m r finished status bytes totals is ended same added =
    added_next m r (Some finished) totals is
    (added
    ∙ ap (λ (s : ThreadStatus). totals_of (replies_before m r ++ record { status = Some s; bytes = bytes } ∷ [])) ended
    ∙ ap (λ (l : List ℕ). totals_of (replies_before m r ++ record { status = Some finished.status; bytes = l } ∷ [])) same)
