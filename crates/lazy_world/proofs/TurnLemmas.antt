-- A walk over the pages of a place, from each edge of a range or of an item to the next one, is short.
use Rattle.std.proofs.Common.{◌≡◌, ◌≢◌, ℕ, ◌+◌, ◌*◌, ◌-◌, ◌<◌, ◌≤◌, ◌⊎◌, ⊎_elim, ◌||◌, true, List, ap, cond, length, arith, refl, Bool, Option}
use Rattle.std.specs.Prelude.{◌==◌}
use Rattle.std.specs.List.{list_any}
use Rattle.lwc_base.specs.declared.item.Item.{Item}
use Rattle.lwc_types.specs.declared.limits.TheConstants.{MOST_ITEMS, MOST_PAGES, MOST_PAGE_RUNS, MOST_RANGES}
use Rattle.range_map.specs.Kinds.{ranges}
use Rattle.range_map.specs.declared.segment.PageState.{PageState}
use Rattle.range_map.proofs.Ranges.{first_begins, ranges_grow, ranges_more}
use Rattle.range_map.proofs.Walks.{edges-edge, edges-few, edges-grow, edges_to, present, turn_other, turn_same}

-- 1 where a test passes, else 0
abbrev present-if : Bool → ℕ
present-if b = cond b 1 0

-- how many edges of items are at a page or before it
abbrev pub turns : List Item → ℕ → ℕ
turns items p = edges_to (λ item. item.from) (λ item. item.to) items p

module _ (states : ℕ → Option PageState) (items : List Item) where
  -- one more piece ends at one more edge
  pub more-turns : (p e n m : ℕ) → p < e → ((q : ℕ) → p ≤ q → q < e → states q ≡ states p) →
      (states e ≢ states p) ⊎ (list_any (λ item. (item.from == e) || (item.to == e)) items ≡ true) → m ≤ n + 1 →
      n + present (states p) ≤ 2 * ranges (p + 1) states + turns items p → m + present (states e) ≤ 2 * ranges (e + 1) states + turns items e
  more-turns p e n m past alike edge one few = ⊎_elim
      (λ other.
      let turn = turn_other states p e past alike other in
      let grow = edges-grow (λ (item : Item). item.from) (λ (item : Item). item.to) items p e (omega (arith, past)) in
      omega (arith, turn, grow, one, few))
      (λ at.
      let turn = turn_same states p e past alike in
      let more = edges-edge (λ (item : Item). item.from) (λ (item : Item). item.to) items p e past at in
      omega (arith, turn, more, one, few))
      edge

  -- there is room for one more
  pub few-turns : (p n : ℕ) → p < MOST_PAGES → ranges MOST_PAGES states ≤ MOST_RANGES → length items ≤ MOST_ITEMS →
      n + present (states p) ≤ 2 * ranges (p + 1) states + turns items p → n < MOST_PAGE_RUNS
  few-turns p n inside few short sofar =
      let grow = ranges_grow states (p + 1) (MOST_PAGES - (p + 1)) MOST_PAGES (omega (arith, inside)) in
      let edges = edges-few (λ (item : Item). item.from) (λ (item : Item). item.to) items p in
      omega (arith, grow, edges, few, short, sofar)

  -- there are at most twice as many as ranges and items
  pub most-turns : (p n : ℕ) → p < MOST_PAGES → n + present (states p) ≤ 2 * ranges (p + 1) states + turns items p → n ≤ 2 * (ranges MOST_PAGES states + length items)
  most-turns p n inside sofar =
      let grow = ranges_grow states (p + 1) (MOST_PAGES - (p + 1)) MOST_PAGES (omega (arith, inside)) in
      let edges = edges-few (λ (item : Item). item.from) (λ (item : Item). item.to) items p in
      omega (arith, grow, edges, sofar)

  -- at first there is none
  pub no-turns : present (states 0) ≤ 2 * ranges 1 states + turns items 0
  no-turns =
      let one = ranges_more states 0 1 refl in
      let begins = first_begins states in
      omega (arith, one, ap (λ (b : Bool). present-if b) begins)
