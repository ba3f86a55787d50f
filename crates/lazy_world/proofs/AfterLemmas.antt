-- What contexts have after a clone or an overlay, by transfers for the world before it.
use Rattle.std.proofs.Common.{◌≡◌, ℕ, arith, refl, sym, ap, ◌∙◌, Bool, true, false, cond, List, Option, Some, None}
use Rattle.std.specs.Prelude.{unwrap_or}
use Rattle.lwc_base.specs.declared.cell.Cell.{Cell}
use Rattle.lwc_base.specs.declared.cell.Cell.TheVariants as cells
use Rattle.lwc_base.specs.declared.item.Item.{Item}
use Rattle.lwc_base.specs.declared.item.Mode.{Mode}
use Rattle.lwc_base.specs.declared.item.Mode.TheVariants.{Copy, Share, Unmap, CopyRead}
use Rattle.lwc_base.specs.Cells.{value_at, value_of}
use Rattle.lwc_base.specs.Fresh.{IsFresh}
use Rattle.lwc_base.specs.Keys.{ValueOf}
use Rattle.lwc_base.specs.Modes.{IsSpec, mode, mode_or_copy}
use Rattle.lwc_base.specs.Overlay as base
use Rattle.lwc_base.specs.Overlay.{overlaid_cell, overlay, ranges_after_overlay}
use Rattle.lwc_base.specs.Ranges.{is_page, ranges, ranges_of}
use Rattle.lwc_base.specs.Sharing.{cloned_cell, cloned_context, cloned_right, needs_group, ranges_after_clone, share, shared_cell, with_shared}
use Rattle.lwc_base.specs.World.{World, Context, context, group, is_live, next_group}
use Rattle.lwc_types.specs.declared.key.Key.{Key}
use Rattle.lwc_types.specs.declared.key.Key.TheVariants.{Page}
use Rattle.lwc_types.specs.declared.name.Name.{Name}
use Rattle.lwc_types.specs.declared.page.PageValue.{PageValue}
use Rattle.lwc_types.specs.declared.right.Right.{Right}
use Rattle.lazy_world.specs.Followed.{followed, with_transferred}
use Rattle.lazy_world.specs.Transfers.{overlaid_right, transferred_cell, taken_cell, taken_right}
use Rattle.lazy_world.specs.declared.transfer.Transfer.{Transfer}
use Rattle.lazy_world.specs.declared.transfer.Transfer.TheVariants.{Mark, Clone, Overlay}
use Rattle.lazy_world.proofs.CloneLemmas.{none-moves, right_taken}
use Rattle.lazy_world.proofs.RenameLemmas.{is_new, right-named, transferred-away, transferred-new, transferred-old, ranges-cells, renamed-ranges, with_name}
use Rattle.lwc_base.proofs.Facts.{changes, stays_fresh}
use Rattle.lwc_base.proofs.Rights.{rights-share}

-- a page is there as before once values have moved
page-shared : (g : Name) (m : Mode) (p : ℕ) (cell : Cell (Option PageValue)) → is_page (shared_cell g m (Page p) cell) ≡ is_page cell
page-shared g Copy p cell = refl
page-shared g Share p (cells.Own None) = refl
page-shared g Share p (cells.Own (Some v)) = refl
page-shared g Share p (cells.Common h) = refl
page-shared g Unmap p cell = refl
page-shared g CopyRead p cell = refl

module _ (w : World) (fresh : IsFresh w) (items : List Item) (spec : IsSpec w.size.pages items) where
  -- no cell has the next name of a job
  pub no-name : (job : ℕ) (c : Name) (k : Key) → (context w c).cell k ≡ cells.Common (next_group w job) → ⊥
  no-name job c k is = let named = stays_fresh.named w c k (next_group w job) fresh is in absurd (omega (arith, named))

  module _ (transfer : Transfer) (d c : Name) where
    abbrev by_name : Name → Context
    by_name g = with_transferred w (with_name transfer g) items (context w d) (context w c)

    renamed : (i j : ℕ) → ranges w.size.pages (by_name (next_group w i)) ≡ ranges w.size.pages (by_name (next_group w j))
    renamed i j =
        renamed-ranges (by_name (next_group w i)) (by_name (next_group w j)) (next_group w i) (next_group w j)
        (λ p. is_new transfer (mode items (Page p)) (Page p) ((context w d).cell (Page p)))
        (λ p is. transferred-new w (Page p) ((context w d).cell (Page p)) ((context w c).cell (Page p)) (next_group w i) transfer (mode items (Page p)) is)
        (λ p is. transferred-new w (Page p) ((context w d).cell (Page p)) ((context w c).cell (Page p)) (next_group w j) transfer (mode items (Page p)) is)
        (λ p is. transferred-old w (Page p) ((context w d).cell (Page p)) ((context w c).cell (Page p)) (next_group w i) transfer (mode items (Page p)) (next_group w j) is)
        (λ p is. transferred-away w (Page p) ((context w d).cell (Page p)) ((context w c).cell (Page p)) (next_group w i) (no-name i d (Page p)) (no-name i c (Page p)) transfer (mode items (Page p)) is)
        (λ p is. transferred-away w (Page p) ((context w d).cell (Page p)) ((context w c).cell (Page p)) (next_group w j) (no-name j d (Page p)) (no-name j c (Page p)) transfer (mode items (Page p)) is)
        (λ p. right-named transfer (next_group w i) (next_group w j) (mode items (Page p)) p ((context w d).cell (Page p)) ((context w d).right p) ((context w c).right p))
        w.size.pages

    -- the ranges of a context that has followed a transfer, whichever name is new
    pub followed-ranges : is_live w c ≡ true → (i j : ℕ) → ranges_of (followed w (with_name transfer (next_group w i)) items d c) c ≡ ranges w.size.pages (by_name (next_group w j))
    unfolding ranges_of
    followed-ranges live i j =
        let changed = changes.context_changed w c (with_transferred w (with_name transfer (next_group w i)) items (context w d)) in
        ap (λ n. ranges n.pages (context (followed w (with_name transfer (next_group w i)) items d c) c)) changed.names.size
        ∙ ap (ranges w.size.pages) (changed.changed live)
        ∙ renamed i j

  module _ (d : Name) (live : is_live w d ≡ true) (job : ℕ) where
    abbrev g : Name
    g = next_group w job

    abbrev s : World
    s = share w d job items

    abbrev m : Key → Mode
    m k = unwrap_or (mode items k) Copy

    abbrev row : (k : Key) → Cell (ValueOf k)
    row = (context w d).cell

    -- a cell of the context whose values move, afterwards
    pub shared-cell : (k : Key) → (context s d).cell k ≡ shared_cell g (m k) k (row k)
    unfolding with_shared mode_or_copy
    shared-cell k = at (needs_group w d items) refl
      where
        at : (b : Bool) → needs_group w d items ≡ b → (context s d).cell k ≡ shared_cell g (m k) k (row k)
        at true needs = ap (λ (x : Context). x.cell k) ((changes.shared w d job items).named needs live)
        at false idle =
            ap (λ v. (context v d).cell k) ((changes.shared w d job items).none idle)
            ∙ sym (ap (λ b. cond b (cells.Common g) (row k)) (none-moves w d job items spec live idle k))

    by_mode : (k : Key) (n : Mode) → m k ≡ n → (context s d).cell k ≡ shared_cell g n k (row k)
    by_mode k n is = shared-cell k ∙ ap (λ n. shared_cell g n k (row k)) is

    -- in a world with the same groups but for the new one, a transfer gives what a clone or an overlay does
    module _ (u : World) (groups : (h : Name) → (h ≡ g → ⊥) → group u h ≡ group s h) where
      same_value : (k : Key) (cell : Cell (ValueOf k)) → row k ≡ cell → value_of u k cell ≡ value_of s k cell
      same_value k (cells.Own v) is = refl
      same_value k (cells.Common h) is = ap (λ x. x.value k) (groups h (λ same. no-name job d k (is ∙ ap cells.Common same)))

      pub taken-shared : (k : Key) (n : Mode) → m k ≡ n → taken_cell u g n k (row k) ≡ cloned_cell s d k n
      unfolding value_at
      taken-shared k Copy is = ap cells.Own (same_value k (row k) refl ∙ ap (value_of s k) (sym (by_mode k Copy is)))
      taken-shared k Share is = sym (by_mode k Share is)
      taken-shared k Unmap is = refl
      taken-shared k CopyRead is = ap cells.Own (same_value k (row k) refl ∙ ap (value_of s k) (sym (by_mode k CopyRead is)))

      pub overlaid-shared : (k : Key) (old : Cell (ValueOf k)) (o : Option Mode) → mode items k ≡ o → transferred_cell u (Overlay g) o k (row k) old ≡ overlaid_cell s d k o old
      overlaid-shared k old None is = refl
      overlaid-shared k old (Some n) is = taken-shared k n (ap (λ o. unwrap_or o Copy) is)

    -- a right by its mode is that of a clone, in the world in which values have moved
    right_same : (p : ℕ) → (context w d).right p ≡ (context s d).right p
    right_same p = sym (ap (λ (r : ℕ → Right). r p) (rights-share w d job items d))

    page_same : (p : ℕ) → is_page (row (Page p)) ≡ is_page ((context s d).cell (Page p))
    page_same p = sym (ap is_page (shared-cell (Page p)) ∙ page-shared g (m (Page p)) p (row (Page p)))

    pub right-shared : (p : ℕ) (n : Mode) → taken_right n (is_page (row (Page p))) ((context w d).right p) ≡ cloned_right s d p n
    right-shared p n = (λ e. taken_right n (page_same p e) (right_same p e)) ∙ right_taken s d p n

    pub right-overlaid : (p : ℕ) (old : Right) (o : Option Mode) → overlaid_right o (is_page (row (Page p))) ((context w d).right p) old ≡ base.overlaid_right s d p o old
    right-overlaid p old None = refl
    right-overlaid p old (Some n) = right-shared p n

    same_groups : (h : Name) → (h ≡ g → ⊥) → group w h ≡ group s h
    same_groups h other = sym ((changes.shared w d job items).groups h other)

    pub mark-ranges : ranges_of (followed w (Mark (next_group w 0)) items d d) d ≡ ranges_of s d
    unfolding ranges_of
    mark-ranges =
        followed-ranges (Mark g) d d live 0 job
        ∙ ranges-cells w.size.pages (by_name (Mark g) d d g) (context s d) (λ k. sym (shared-cell k)) right_same
        ∙ ap (λ n. ranges n.pages (context s d)) (sym (changes.shared w d job items).size)

    pub clone-ranges : ranges_of (followed w (Clone (next_group w 0)) items d d) d ≡ (ranges_after_clone w d job items).1
    unfolding ranges_after_clone cloned_context mode_or_copy
    clone-ranges =
        followed-ranges (Clone g) d d live 0 job
        ∙ ranges-cells w.size.pages (by_name (Clone g) d d g) (cloned_context s d items (context s d).entry) (λ k. taken-shared w same_groups k (m k) refl) (λ p. right-shared p (m (Page p)))
        ∙ ap (λ n. ranges n.pages (cloned_context s d items (context s d).entry)) (sym (changes.shared w d job items).size)

    pub after-clone : (a b : ℕ) → a ≡ ranges_of (followed w (Mark (next_group w 0)) items d d) d → b ≡ ranges_of (followed w (Clone (next_group w 0)) items d d) d →
        ◌≡◌ {A = ℕ × ℕ} (a, b) (ranges_after_clone w d job items)
    unfolding ranges_after_clone
    after-clone a b left made = λ e. ((left ∙ mark-ranges) e, (made ∙ clone-ranges) e)

    kept_same : (k : Key) → mode items k ≡ None → row k ≡ (context s d).cell k
    kept_same k none = sym (by_mode k Copy (ap (λ o. unwrap_or o Copy) none))

    module _ (c : Name) (live_c : is_live w c ≡ true) (kept : (k : Key) → mode items k ≡ None → (context w c).cell k ≡ (context s c).cell k) where
      abbrev v : World
      v = overlay w c d job items

      stays : (k : Key) (o : Option Mode) → mode items k ≡ o → overlaid_cell s d k o ((context w c).cell k) ≡ overlaid_cell s d k o ((context s c).cell k)
      stays k None is = kept k is
      stays k (Some n) is = refl

      overlaid : (k : Key) → transferred_cell w (Overlay g) (mode items k) k (row k) ((context w c).cell k) ≡ (context v c).cell k
      overlaid k =
          overlaid-shared w same_groups k ((context w c).cell k) (mode items k) refl
          ∙ stays k (mode items k) refl
          ∙ sym (ap (λ (x : Context). x.cell k) ((changes.overlaid w c d job items).changed ((changes.shared w d job items).live c ∙ live_c)))

      overlaid_rights : (p : ℕ) → overlaid_right (mode items (Page p)) (is_page (row (Page p))) ((context w d).right p) ((context w c).right p) ≡ (context v c).right p
      overlaid_rights p =
          right-overlaid p ((context w c).right p) (mode items (Page p))
          ∙ ap (λ (r : ℕ → Right). base.overlaid_right s d p (mode items (Page p)) (r p)) (sym (rights-share w d job items c))
          ∙ sym (ap (λ (x : Context). x.right p) ((changes.overlaid w c d job items).changed ((changes.shared w d job items).live c ∙ live_c)))

      pub overlay-ranges : (i : ℕ) → ranges_of (followed w (Overlay (next_group w i)) items d c) c ≡ (ranges_after_overlay w c d job items).1
      unfolding ranges_after_overlay ranges_of
      overlay-ranges i =
          followed-ranges (Overlay g) d c live_c i job
          ∙ ranges-cells w.size.pages (by_name (Overlay g) d c g) (context v c) overlaid overlaid_rights
          ∙ ap (λ n. ranges n.pages (context v c)) (sym ((changes.overlaid w c d job items).names.size ∙ (changes.shared w d job items).size))

    -- an overlay leaves another context as it is after sharing
    pub left-ranges : (c : Name) → (d ≡ c → ⊥) → (ranges_after_overlay w c d job items).0 ≡ ranges_of s d
    unfolding ranges_after_overlay ranges_of
    left-ranges c other =
        let overlaid = changes.overlaid w c d job items in
        ap (λ n. ranges n.pages (context (overlay w c d job items) d)) overlaid.names.size ∙ ap (ranges s.size.pages) (overlaid.others d other)

    kept-apart : (c : Name) → (c ≡ d → ⊥) → (k : Key) → mode items k ≡ None → (context w c).cell k ≡ (context s c).cell k
    kept-apart c other k none = ap (λ (x : Context). x.cell k) (sym ((changes.shared w d job items).others c other))

    pub after-apart : (c : Name) → is_live w c ≡ true → (c ≡ d → ⊥) → (a b : ℕ) → a ≡ ranges_of (followed w (Mark (next_group w 0)) items d d) d →
        b ≡ ranges_of (followed w (Overlay (next_group w 0)) items d c) c → ◌≡◌ {A = ℕ × ℕ} (a, b) (ranges_after_overlay w c d job items)
    after-apart c live_c other a b left taken =
        λ e. ((left ∙ mark-ranges ∙ sym (left-ranges c (λ same. other (sym same)))) e, (taken ∙ overlay-ranges c live_c (kept-apart c other) 0) e)

    pub self-ranges : (i : ℕ) → ranges_of (followed w (Overlay (next_group w i)) items d d) d ≡ (ranges_after_overlay w d d job items).1
    self-ranges i = overlay-ranges d live kept_same i

    pub after-self : (c : Name) → c ≡ d → (a : ℕ) → a ≡ ranges_of (followed w (Overlay (next_group w 0)) items d c) c → ◌≡◌ {A = ℕ × ℕ} (a, a) (ranges_after_overlay w c d job items)
    unfolding ranges_after_overlay
    after-self c same a taken =
        let value = taken ∙ (λ e. ranges_of (followed w (Overlay (next_group w 0)) items d (same e)) (same e)) ∙ self-ranges 0 in
        (λ e. (value e, value e)) ∙ ap (λ n. ranges_after_overlay w n d job items) (sym same)
