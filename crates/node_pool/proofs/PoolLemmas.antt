-- What changes of the counts and of the contents are in the list of nodes.
use Rattle.std.proofs.Common.{◌≡◌, ℕ, ◌<◌, ◌≤◌, ⊎_elim, cond, eqb, List, length, get_or, set, refl, sym, ◌∙◌, ap, arith, length-set, get_or-set_other}
use Rattle.std.proofs.lemmas.List.{set-get_or, get_or_past, get_or_read}
use Rattle.std.proofs.lemmas.Bool.{cases_lt}
use Rattle.pool_base.specs.HoldCounts.{Places, free_count}
use Rattle.pool_base.specs.Padded.{padded}
use Rattle.pool_base.specs.Paired.{paired}
use Rattle.pool_base.proofs.PaddedLemmas.{length-padded, get_or-padded, get_or-padding, padded-set}
use Rattle.pool_base.proofs.PairedLemmas.{length-paired, get_or-paired, paired-set, sum_by-paired}
use Rattle.node_pool.specs.declared.pool.NodeContent.{NodeContent}
use Rattle.node_pool.specs.Nodes.{Node, no_node, node_at, count_of, entry_of, recount, enter, entered, free_of}
use Rattle.node_pool.specs.View.{seen_node, seen_nodes, blank_content, IsWhole}

module _ (places : Places) (contents : List NodeContent) (nodes : List Node) (v : seen_nodes places contents ≡ nodes) (whole : IsWhole places contents) where
  abbrev size : ℕ
  size = length places.counts

  abbrev all : List NodeContent
  all = padded size blank_content contents

  length-all : length all ≡ size
  length-all = length-padded size blank_content contents (omega (arith, whole.filled, whole.within))

  pub seen_length : length nodes ≡ size
  seen_length = ap (λ ns. length ns) (sym v) ∙ length-paired seen_node places.counts all (sym length-all)

  node_at-all : (n : ℕ) → n < size → node_at nodes n ≡ seen_node (get_or places.counts n 0) (get_or all n blank_content)
  node_at-all n lt =
      ap (λ ns. node_at ns n) (sym v) ∙ get_or-paired seen_node places.counts all n 0 blank_content no_node lt (omega (arith, length-all, lt))

  pub seen_count : (n : ℕ) → get_or places.counts n 0 ≡ count_of nodes n
  seen_count n =
      ⊎_elim
      (λ lt. sym (ap (λ node. node.count) (node_at-all n lt)))
      (λ past.
      let past_nodes : length nodes ≤ n = omega (arith, seen_length, past) in
      get_or_past places.counts n 0 past ∙ sym (ap (λ node. node.count) (get_or_past nodes n no_node past_nodes)))
      (cases_lt n size)

  -- a node that is held was taken
  pub seen_inside : (n : ℕ) → 0 < count_of nodes n → n < places.taken
  seen_inside n held =
      ⊎_elim (λ lt. lt) (λ late. absurd (let none = whole.fresh n late in let same = seen_count n in omega (arith, none, same, held))) (cases_lt n places.taken)

  pub seen_node_at : (n : ℕ) (x : NodeContent) → n < places.taken → x ≡ get_or contents n x → seen_node (get_or places.counts n 0) x ≡ node_at nodes n
  seen_node_at n x lt is =
      ap (λ y. seen_node (get_or places.counts n 0) y)
      (get_or_read contents n x (omega (arith, whole.filled, lt)) is blank_content ∙ sym (get_or-padded size blank_content contents n blank_content (omega (arith, whole.filled, lt))))
      ∙ sym (node_at-all n (omega (arith, whole.within, lt)))

  -- a node that was never taken has no entries
  pub seen_no_entry : (n i : ℕ) → length contents ≤ n → n < length nodes → get_or blank_content.entries i 0 ≡ entry_of nodes n i
  seen_no_entry n i late lt =
      let inside : n < size = omega (arith, seen_length, lt) in
      sym (ap (λ (node : Node). get_or node.entries i 0) (node_at-all n inside) ∙ ap (λ (c : NodeContent). get_or c.entries i 0) (get_or-padding size blank_content contents n blank_content late inside))

  -- one node is held more or less often
  pub seen_recount : (places' : Places) (n c : ℕ) → n < places.taken → places'.counts ≡ set places.counts n c → seen_nodes places' contents ≡ recount nodes n c
  seen_recount places' n c lt is =
      let put = paired-set seen_node places.counts all n c (get_or all n blank_content) in
      let same = set-get_or all n blank_content in
      let long : length places'.counts ≡ size = ap length is ∙ length-set places.counts n c in
      let node : seen_node c (get_or all n blank_content) ≡ record (node_at nodes n) { count = c } = ap (λ (x : Node). record x { count = c }) (sym (node_at-all n (omega (arith, whole.within, lt)))) in
      ap (λ cs. paired seen_node cs (padded (length places'.counts) blank_content contents)) is
      ∙ ap (λ k. paired seen_node (set places.counts n c) (padded k blank_content contents)) long
      ∙ ap (λ xs. paired seen_node (set places.counts n c) xs) (sym same) ∙ put ∙ ap (λ ns. set ns n (seen_node c (get_or all n blank_content))) v ∙ ap (λ x. set nodes n x) node

  -- one entry of a node is another
  pub seen_enter : (n i value : ℕ) (x : NodeContent) → n < places.taken → x ≡ get_or contents n x → seen_nodes places (set contents n (record x { entries = set x.entries i value })) ≡ enter nodes n i value
  seen_enter n i value x lt is =
      let new : NodeContent = record x { entries = set x.entries i value } in
      let put = paired-set seen_node places.counts all n (get_or places.counts n 0) new in
      ap (λ xs. paired seen_node places.counts xs) (padded-set size blank_content contents (set contents n new) n new (omega (arith, whole.filled, lt)) refl (length-set contents n new))
      ∙ ap (λ cs. paired seen_node cs (set all n new)) (sym (set-get_or places.counts n 0))
      ∙ put ∙ ap (λ ns. set ns n (seen_node (get_or places.counts n 0) new)) v
      ∙ ap (λ node. set nodes n (entered node i value)) (seen_node_at n x lt is)

  pub seen_free : free_of nodes ≡ free_count places.counts
  seen_free = ap (λ ns. free_of ns) (sym v) ∙ sum_by-paired seen_node (λ node. cond (eqb node.count 0) 1 0) (λ c. cond (eqb c 0) 1 0) places.counts all (λ _ _. refl) (sym length-all)

  -- one node has another count and content
  pub seen_taken : (places' : Places) (contents' : List NodeContent) (n c : ℕ) (x : NodeContent) → places'.counts ≡ set places.counts n c → padded size blank_content contents' ≡ set all n x → seen_nodes places' contents' ≡ set nodes n (seen_node c x)
  seen_taken places' contents' n c x is filled =
      let long : length places'.counts ≡ size = ap length is ∙ length-set places.counts n c in
      ap (λ cs. paired seen_node cs (padded (length places'.counts) blank_content contents')) is
      ∙ ap (λ k. paired seen_node (set places.counts n c) (padded k blank_content contents')) long
      ∙ ap (λ xs. paired seen_node (set places.counts n c) xs) filled
      ∙ paired-set seen_node places.counts all n c x ∙ ap (λ ns. set ns n (seen_node c x)) v

  -- one node that was taken is held more or less often
  pub whole-recount : (places' : Places) (n c : ℕ) → n < places.taken → places'.counts ≡ set places.counts n c → places'.taken ≡ places.taken → IsWhole places' contents
  whole-recount places' n c lt is same =
      record {
        filled = whole.filled ∙ sym same;
        within = omega (arith, ap length is, length-set places.counts n c, whole.within, same);
        fresh = λ m late. ap (λ cs. get_or cs m 0) is ∙ get_or-set_other places.counts n m c 0 (λ e. absurd (omega (arith, e, late, same, lt))) ∙ whole.fresh m (omega (arith, late, same));
      }
