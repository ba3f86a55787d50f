-- The server and the requests that are made from a number.
use Rattle.std.specs.Prelude.{ℕ, ◌+◌, ◌*◌, ◌-◌, ◌++◌, List, [], ◌∷◌, None, map}
use Rattle.std.specs.Int.{to_le_bytes, w64}
use Rattle.std.specs.List.{range_with_len}
use Rattle.guest_image.specs.declared.image.Form.TheVariants.{One}
use Rattle.guest_image.specs.declared.image.Image.{Image}
use Rattle.guest_image.specs.declared.image.PageImage.{PageImage}
use Rattle.guest_isa.specs.declared.instr.Instr.{Instr}
use Rattle.guest_isa.specs.declared.op.Op.{Op}
use Rattle.guest_isa.specs.declared.op.Op.TheVariants.{Add, Addi, Halt, Ldw, Li, Mov, Mul, Remu, Stw, Sys}
use Rattle.kernel_core.specs.Start.{Inputs}
use Rattle.lwc_types.specs.Pages.{zero_bytes}
use Rattle.lwc_types.specs.declared.page.TheConstants.{PAGE_BYTES}
use Rattle.lwc_gen.specs.declared.generating.TheConstants.{PAGES, REQUESTS_FOR_EACH, SETTINGS}

-- an instruction: its operation, the registers rd, ra and rb, and the number
abbrev pub instruction : Op → ℕ → ℕ → ℕ → ℕ → Instr
instruction op rd ra rb imm = record { op = op; rd = rd; ra = ra; rb = rb; imm = imm }

-- the handler: it adds the word x of its request to the first word of page 2 + x mod 298, and 1 to the first word of
-- page 0, and replies with both sums
abbrev pub handler : List Instr
handler =
    instruction Li 2 0 0 4096 ∷
    instruction Li 3 0 0 8 ∷
    instruction Sys 0 0 0 4 ∷
    instruction Ldw 4 2 0 0 ∷
    instruction Li 5 0 0 298 ∷
    instruction Remu 5 4 5 0 ∷
    instruction Addi 5 5 0 2 ∷
    instruction Li 6 0 0 4096 ∷
    instruction Mul 5 5 6 0 ∷
    instruction Ldw 7 5 0 0 ∷
    instruction Add 7 7 4 0 ∷
    instruction Stw 0 5 7 0 ∷
    instruction Ldw 8 9 0 0 ∷
    instruction Addi 8 8 0 1 ∷
    instruction Stw 0 9 8 0 ∷
    instruction Li 1 0 0 1 ∷
    instruction Mov 2 5 0 0 ∷
    instruction Sys 0 0 0 5 ∷
    instruction Li 2 0 0 0 ∷
    instruction Sys 0 0 0 5 ∷
    instruction Halt 0 0 0 0 ∷
    []

-- the page of a number: its first word is the number, and the rest is 0
abbrev pub numbered_page : ℕ → PageImage
numbered_page p = record { number = p; bytes = to_le_bytes w64 p ++ zero_bytes (PAGE_BYTES - 8) }

-- the server, of form 1: the handler, PAGES pages from 0 on, each with its number, and one thread from the first
-- instruction on
abbrev pub server : Image
server = record {
  form = One;
  text = handler;
  uid = 0;
  pages = map numbered_page (range_with_len 0 PAGES);
  files = [];
  slots = [];
  entries = 0 ∷ [];
}

-- the requests: request r is the word 1000 * number + r
abbrev pub requests_of : ℕ → List (List ℕ)
requests_of number = map (λ r. to_le_bytes w64 (1000 * number + r)) (range_with_len 0 (REQUESTS_FOR_EACH * number))

-- what a kernel is opened with to serve them
abbrev pub generated : ℕ → Inputs
generated number =
    record { image = server; vault = None; requests = requests_of number; settings = SETTINGS }
