-- A kernel can be opened to serve the requests of a number.
use Rattle.std.proofs.Common.{◌≡◌, ◌+◌, ◌*◌, ◌≤◌, ℕ, List, length, sym, subst, arith}
use Rattle.std.specs.Int.{to_le_bytes, w64}
use Rattle.std.specs.Prelude.{All}
use Rattle.std.proofs.lemmas.List.FromFn.{get_or-map-range_with_len, length-map-range_with_len}
use Rattle.kernel_core.specs.Kernel.{CanOpen}
use Rattle.kernel_core.specs.Machine.{work}
use Rattle.kernel_core.specs.Start.{start}
use Rattle.lwc_types.specs.declared.limits.TheConstants.{MOST_REQUEST_BYTES, MOST_STEPS}
use Rattle.lwc_gen.proofs.Images.{server_is_image}
use Rattle.lwc_gen.specs.Generated.{generated, numbered_page, requests_of}
use Rattle.lwc_gen.specs.declared.generating.TheConstants.{PAGES, REQUESTS_FOR_EACH, SETTINGS}

request : ℕ → ℕ → List ℕ
request number r = to_le_bytes w64 (1000 * number + r)

request_count : (number : ℕ) → length (requests_of number) ≡ REQUESTS_FOR_EACH * number
unfolding request
request_count number = length-map-range_with_len (request number) 0 (REQUESTS_FOR_EACH * number)

short_requests : (number : ℕ) → All (λ bytes. length bytes ≤ MOST_REQUEST_BYTES) (requests_of number)
unfolding request
short_requests number k d below =
    subst (λ (bytes : List ℕ). length bytes ≤ MOST_REQUEST_BYTES)
    (sym (get_or-map-range_with_len (request number) 0 (REQUESTS_FOR_EACH * number) k k d (omega (arith, request_count number)) (omega arith)))
    (omega arith)

-- a kernel can be opened with them
pub can_open : (number : ℕ) → number ≤ 100 → CanOpen (generated number)
can_open number small = record {
  image = server_is_image;
  vault = tt;
  settings = record { frames = (omega arith, omega arith); budget = (omega arith, omega arith); job = (omega arith, omega arith) };
  fits = omega (arith, length-map-range_with_len numbered_page 0 PAGES);
  requests = record { few = omega (arith, request_count number); short = short_requests number };
}

-- the steps of its threads are within the limit
pub few_steps : (number workers : ℕ) → number ≤ 100 → workers ≤ 16 →
    work (start (generated number)) ≡ length (requests_of number) * (SETTINGS.budget + 1) + workers → work (start (generated number)) ≤ MOST_STEPS
few_steps number workers small few is = omega (arith, is, request_count number)
