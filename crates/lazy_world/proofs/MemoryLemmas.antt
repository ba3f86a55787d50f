-- Bytes of memory: what is read, and whether it is there.
use Rattle.std.proofs.Common.{◌≡◌, ℕ, ◌+◌, ◌/◌, ◌%◌, ◌<◌, ◌≤◌, List, arith, get_or, length, map, refl, replicate, sym, ap, ◌∙◌, Bool, Option, Some, None}
use Rattle.std.specs.Prelude.{is_some, slice_index}
use Rattle.std.specs.List.{between, list_all, range_with_len}
use Rattle.std.proofs.lemmas.List.{get_or-replicate, length-replicate}
use Rattle.std.proofs.lemmas.List.Edits.{get_or-between, length-between}
use Rattle.lazy_world.specs.Cells.{Row}
use Rattle.std.specs.Option.{option_map_or}
use Rattle.lwc_base.specs.Cells.{page_at, value_at}
use Rattle.lwc_base.specs.Memory.{byte_at, is_present, touched}
use Rattle.lwc_base.specs.World.{Context, World, context}
use Rattle.lwc_types.specs.declared.name.Name.{Name}
use Rattle.lwc_types.specs.declared.page.PageValue.{PageValue}
use Rattle.lwc_types.specs.declared.page.PageValue.TheVariants.{Zero, Data}
use Rattle.lwc_types.specs.Pages.{bytes_of}
use Rattle.cow_space.specs.Maps.{data_of}
use Rattle.lazy_world.specs.Memory.{byte_in, page_in}
use Rattle.lwc_types.proofs.Small.{filled_from, zeros_at}

-- a byte of a page without bytes is 0
pub byte-none : (o : Option PageValue) (k : ℕ) → None ≡ data_of o → 0 ≡ option_map_or (λ value. slice_index (bytes_of value) k) o 0
byte-none None k none = refl
byte-none (Some Zero) k none = sym (zeros_at k)
byte-none (Some (Data tag bytes)) k none = absurd cc

-- pages and bytes of a context by its cells
pub page-in : (w : World) (c : Name) (x : Context) (p : ℕ) → context w c ≡ x → page_in w x.cell p ≡ page_at w c p
unfolding value_at
page-in w c x p is = ap (λ (y : Context). page_in w y.cell p) (sym is)

pub byte-in : (w : World) (c : Name) (x : Context) → context w c ≡ x → byte_in w x.cell ≡ byte_at w c
unfolding byte_at value_at
byte-in w c x is = ap (λ (y : Context). byte_in w y.cell) (sym is)

-- whether the touched pages are present, told of the list of them and of the context's cells
pub present-touched : (w : World) (c : Name) (x : Context) (at count : ℕ) (ps : List ℕ) (b : Bool) → context w c ≡ x → ps ≡ touched at count →
    b ≡ list_all (λ p. is_some (page_in w x.cell p)) ps → is_present w c at count ≡ b
unfolding is_present
present-touched w c x at count ps b cells touches is =
    sym (is ∙ (λ i. list_all (λ p. is_some (page-in w c x p cells i)) (touches i)))

-- bytes of one page that are copied from it, or are 0 where it has none
byte-some : (o : Option PageValue) (bytes : List ℕ) (k : ℕ) → Some bytes ≡ data_of o → get_or bytes k 0 ≡ option_map_or (λ value. slice_index (bytes_of value) k) o 0
byte-some None bytes k some = absurd cc
byte-some (Some Zero) bytes k some = absurd cc
byte-some (Some (Data tag own)) bytes k some = let same : bytes ≡ own = cc in ap (λ l. get_or l k 0) same

module _ (w : World) (row : Row) (at count : ℕ) (one : at % 4096 + count ≤ 4096) where
  byte-near : (j : ℕ) → j < count → byte_in w row (at + j) ≡ option_map_or (λ value. slice_index (bytes_of value) (at % 4096 + j)) (page_in w row (at / 4096)) 0
  byte-near j lt =
      let page : (at + j) / 4096 ≡ at / 4096 = omega (arith, one, lt) in
      let place : (at + j) % 4096 ≡ at % 4096 + j = omega (arith, one, lt) in
      λ e. option_map_or (λ value. slice_index (bytes_of value) (place e)) (page_in w row (page e)) 0

  pub copied-own : (bytes out : List ℕ) → Some bytes ≡ data_of (page_in w row (at / 4096)) → length bytes ≡ 4096 → out ≡ between (at % 4096) (at % 4096 + count) bytes → out ≡ map (byte_in w row) (range_with_len at count)
  copied-own bytes out some whole is =
      filled_from (byte_in w row) at count out (ap length is ∙ length-between bytes (at % 4096) (at % 4096 + count) (omega (arith, one, whole)) ∙ omega arith)
      (λ j lt.
      ap (λ l. get_or l j 0) is ∙ get_or-between bytes (at % 4096) (at % 4096 + count) j 0 (omega (arith, lt)) ∙ byte-some (page_in w row (at / 4096)) bytes (at % 4096 + j) some ∙ sym (byte-near j lt))

  pub copied-zeros : (out : List ℕ) → None ≡ data_of (page_in w row (at / 4096)) → out ≡ replicate count 0 → out ≡ map (byte_in w row) (range_with_len at count)
  copied-zeros out none is =
      filled_from (byte_in w row) at count out (ap length is ∙ length-replicate count 0)
      (λ j lt. ap (λ l. get_or l j 0) is ∙ get_or-replicate count j 0 0 lt ∙ byte-none (page_in w row (at / 4096)) (at % 4096 + j) none ∙ sym (byte-near j lt))
