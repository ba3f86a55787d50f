-- Segments with and without pages that are common.
use Rattle.std.proofs.Common.{◌≡◌, ◌≤◌, inl, inr, ℕ, get_or, true, false, List, ap, arith, refl, sym, ◌∙◌, Option, None, Some}
use Rattle.std.specs.List.{list_any, range_with_len}
use Rattle.std.proofs.lemmas.Bool.{cases_lt, false≢true}
use Rattle.std.specs.Option.{option_map}
use Rattle.std.proofs.lemmas.List.Folds.{Any-from_list_any, list_any_at}
use Rattle.lwc_base.specs.declared.cell.Cell.{Cell}
use Rattle.lwc_base.specs.declared.cell.Cell.TheVariants.{Own, Common}
use Rattle.lwc_types.specs.declared.page.PageValue.{PageValue}
use Rattle.lwc_types.specs.declared.right.Right.{Right}
use Rattle.range_map.specs.Kinds.{IsCanonical, kind_of, state_at, state_in, state_of}
use Rattle.range_map.specs.declared.segment.PageState.{PageState}
use Rattle.range_map.specs.declared.segment.Segment.{Segment}
use Rattle.range_map.proofs.Edges.{none, own, owned}
use Rattle.lwc_base.specs.Life.{is_in}
use Rattle.lwc_base.proofs.Needs.{some_in_range}
use Rattle.lwc_base.proofs.Reaped.{number_in}
use Rattle.lwc_types.specs.declared.name.Name.{Name}
use Rattle.lwc_types.proofs.Small.{same_bool}
use Rattle.lazy_world.specs.Cells.{is_common, is_own}
use Rattle.lazy_world.specs.Reaping.{is_of}
use Rattle.lazy_world.proofs.MarkLemmas.{in-kind, kind-of-state, named_kind}

-- whether a segment is of common pages
abbrev pub has_common : List Segment → Type 0
has_common segments = list_any (λ s. is_common s.kind) segments ≡ true

module _ (segments : List Segment) (canonical : IsCanonical segments) where
  -- where no segment is of common pages, a cell with the state of its page is its own
  pub own-cell : list_any (λ s. is_common s.kind) segments ≡ false → (p : ℕ) (cell : Cell (Option PageValue)) (right : Right) → state_at segments p ≡ state_of (kind_of cell) right → is_own cell ≡ true
  own-cell off p (Own value) right same = refl
  own-cell off p (Common g) right same =
      let o = owned segments canonical none p _ same in
      let common = ap (λ (state : PageState). is_common state.kind) o.1.1.1.1 in
      let on = list_any_at (λ (s : Segment). is_common s.kind) segments o.0 none o.1.0 common in
      absurd cc

  -- where some segment is, some page is common
  pub common-cell : has_common segments → (cells : ℕ → Cell (Option PageValue)) (rights : ℕ → Right) → ((p : ℕ) → state_at segments p ≡ state_of (kind_of (cells p)) (rights p)) → (p : ℕ) × (is_own (cells p) ≡ false)
  common-cell on cells rights same =
      let any = Any-from_list_any (λ (s : Segment). is_common s.kind) segments on in
      let s = get_or segments any.0 any.1 in
      let long = canonical.some any.0 any.1 any.2 in
      let here = own segments canonical any.1 any.0 s.from any.2 (omega arith) long in
      (s.from, by (cells s.from) (rights s.from) s (sym (same s.from) ∙ here) (ap (λ (t : Segment). is_common t.kind) any.3 ∙ any.4))
    where
      by : (cell : Cell (Option PageValue)) (right : Right) (s : Segment) → state_of (kind_of cell) right ≡ Some (state_in s) → is_common s.kind ≡ true → is_own cell ≡ false
      by (Own None) right s is common = absurd cc
      by (Own (Some value)) right s is common = let off : Some false ≡ Some (is_common s.kind) = ap (option_map (λ (state : PageState). is_common state.kind)) is in absurd cc
      by (Common g) right s is common = refl

  -- a segment is of common pages of a group exactly where a page is
  pub named-pages : (g : Name) (pages : ℕ) (cells : ℕ → Cell (Option PageValue)) (rights : ℕ → Right) → ((p : ℕ) → state_at segments p ≡ state_of (kind_of (cells p)) (rights p)) →
      ((p : ℕ) → pages ≤ p → cells p ≡ Own None) → list_any (λ s. is_of s.kind g) segments ≡ list_any (λ p. is_in g (cells p)) (range_with_len 0 pages)
  named-pages g pages cells rights same past = same_bool _ _ to from
    where
      to : list_any (λ s. is_of s.kind g) segments ≡ true → list_any (λ p. is_in g (cells p)) (range_with_len 0 pages) ≡ true
      to on =
          let any = Any-from_list_any (λ (s : Segment). is_of s.kind g) segments on in
          let s = get_or segments any.0 any.1 in
          let long = canonical.some any.0 any.1 any.2 in
          let here = own segments canonical any.1 any.0 s.from any.2 (omega arith) long in
          let kind : kind_of (cells s.from) ≡ Some s.kind = sym (kind-of-state (kind_of (cells s.from)) (rights s.from)) ∙ ap (option_map (λ (t : PageState). t.kind)) (sym (same s.from) ∙ here) in
          let named : is_in g (cells s.from) ≡ true = in-kind g (cells s.from) ∙ ap (named_kind g) kind ∙ ap (λ (t : Segment). is_of t.kind g) any.3 ∙ any.4 in
          elim (cases_lt s.from pages) [
            | inl low ↦ some_in_range (λ p. is_in g (cells p)) pages 0 s.from (omega arith) (omega (arith, low)) named
            | inr high ↦ absurd (false≢true (sym (ap (is_in g) (past s.from high)) ∙ named))
          ]

      by : (p : ℕ) (cell : Cell (Option PageValue)) (right : Right) → state_at segments p ≡ state_of (kind_of cell) right → is_in g cell ≡ true → list_any (λ s. is_of s.kind g) segments ≡ true
      by p (Own value) right is named = absurd (false≢true named)
      by p (Common h) right is named =
          let o = owned segments canonical none p _ is in
          list_any_at (λ (s : Segment). is_of s.kind g) segments o.0 none o.1.0 (ap (λ (state : PageState). is_of state.kind g) o.1.1.1.1 ∙ named)

      from : list_any (λ p. is_in g (cells p)) (range_with_len 0 pages) ≡ true → list_any (λ s. is_of s.kind g) segments ≡ true
      from at = let found = number_in (λ p. is_in g (cells p)) pages 0 at in by found.0 (cells found.0) (rights found.0) (same found.0) found.3
