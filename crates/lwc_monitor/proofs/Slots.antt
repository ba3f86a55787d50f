-- What changes of a world leave of the slots of a context that has them as its own.
use Rattle.std.proofs.Common.{◌≡◌, ◌≢◌, ◌<◌, ℕ, refl, sym, ap, subst, ◌∙◌, Bool, true, false, cond, eqb, ◌&&◌, ◌||◌, Option, Some, None, List, [], ◌∷◌, length}
use Rattle.std.proofs.lemmas.Bool.{false≢true}
use Rattle.std.specs.Prelude.{unwrap_or}
use Rattle.std.specs.List.{find, list_any}
use Rattle.std.specs.Option.{option_map}
use Rattle.lwc_base.specs.Cells.{put_page, put_slot, put_uid, with_cell}
use Rattle.lwc_base.specs.Clones.{AreApart}
use Rattle.lwc_base.specs.Facts.{ChangesContext}
use Rattle.lwc_base.proofs.Facts.{changes}
use Rattle.lwc_types.proofs.Orders.{cases_name}
use Rattle.guest_call.proofs.Changes.{putting, saving}
use Rattle.lwc_base.specs.Mapping.{map_pages, mapped_or_not, unmap_pages, with_zeros, without_pages}
use Rattle.lwc_base.specs.Memory.{touched}
use Rattle.lwc_base.specs.Modes.{mode, mode_or_copy, names, same_kind}
use Rattle.lwc_base.specs.Overlay as base
use Rattle.lwc_base.specs.Overlay.{with_overlay}
use Rattle.lwc_base.specs.Saved.{save}
use Rattle.lwc_base.specs.Sharing.{clone_context, is_moved, needs_group, share, with_shared}
use Rattle.lwc_base.specs.Store.{Piece, after_store, put_pages, stored_pages}
use Rattle.lwc_base.specs.World.{World, Context, change_counters, context, is_live, next_context, next_group}
use Rattle.lwc_base.specs.declared.cell.Cell.{Cell}
use Rattle.lwc_base.specs.declared.cell.Cell.TheVariants.{Own, Common}
use Rattle.lwc_base.specs.declared.descriptor.Descriptor.{Descriptor}
use Rattle.lwc_base.specs.declared.item.Item.{Item}
use Rattle.lwc_base.specs.declared.item.Mode.{Mode}
use Rattle.lwc_base.specs.declared.item.Mode.TheVariants.{Copy, CopyRead, Share, Unmap}
use Rattle.lwc_types.specs.declared.key.TheConstants.{SLOTS}
use Rattle.lwc_types.specs.declared.key.Key.{Key}
use Rattle.lwc_types.specs.declared.key.Key.TheVariants.{Page, Slot, Cred}
use Rattle.lwc_types.specs.declared.key.Kind.TheVariants as kinds
use Rattle.lwc_types.specs.declared.name.Name.{Name}
use Rattle.lwc_types.specs.declared.page.PageValue.{PageValue}
use Rattle.lwc_types.specs.declared.regs.Regs.{Regs}
use Rattle.lwc_monitor.specs.Guards.{HasOwnSlots, SameSlots}
use Rattle.lwc_monitor.specs.Traps.{is_share, shares_slots}

not_common : (value : Descriptor) (g : Name) → Own value ≢ Common g
not_common value g = λ same. false≢true (ap is_group same)
  where
    is_group : Cell Descriptor → Bool
    is_group (Own v) = false
    is_group (Common h) = true

no_page : (n p : ℕ) → Slot n ≢ Page p
no_page n p = λ same. false≢true (ap is_page same)
  where
    is_page : Key → Bool
    is_page (Page q) = true
    is_page (Slot m) = false
    is_page Cred = false

no_cred : (n : ℕ) → Slot n ≢ Cred
no_cred n = λ same. false≢true (ap is_cred same)
  where
    is_cred : Key → Bool
    is_cred (Page q) = false
    is_cred (Slot m) = false
    is_cred Cred = true

-- slots that do not change stay the context's own
pub own_after : (w v : World) (d : Name) → HasOwnSlots w d → SameSlots w v d → HasOwnSlots v d
own_after w v d own same n within = let was = own n within in (was.0, same n within ∙ was.1)

pub same_itself : (w : World) (d : Name) → SameSlots w w d
same_itself w d n within = refl

pub same_then : (u v w : World) (d : Name) → SameSlots u v d → SameSlots v w d → SameSlots u w d
same_then u v w d first second n within = second n within ∙ first n within

-- a context with its own slots is apart from another one under each of them
pub apart_slots : (w : World) (c d : Name) → c ≢ d → HasOwnSlots w d → (n : ℕ) → n < SLOTS → AreApart w c d (Slot n)
apart_slots w c d other own n within = let was = own n within in record {
  differ = other;
  no_group = λ g first second. not_common was.0 g (sym was.1 ∙ second);
}

-- no item shares the slot, where none shares slots
not_shared : (items : List Item) (n : ℕ) → list_any shares_slots items ≡ false → (m : Mode) → mode items (Slot n) ≡ Some m → is_share m ≡ false
unfolding mode
not_shared [] n none m is = cc
not_shared (item ∷ items) n none m is = by (names item (Slot n)) refl (not_shared items n (right _ _ none) m) is
  where
    right : (a b : Bool) → (a || b) ≡ false → b ≡ false
    right true b e = absurd (false≢true (sym e))
    right false b e = e

    left : (a b : Bool) → (a || b) ≡ false → a ≡ false
    left true b e = e
    left false b e = refl

    kind_first : (a b c : Bool) → ((a && b) && c) ≡ true → a ≡ true
    kind_first true b c e = refl
    kind_first false b c e = e

    by_kind : (a b : Bool) → a ≡ true → (a && b) ≡ false → b ≡ false
    by_kind true b e f = f
    by_kind false b e f = absurd (false≢true e)

    by : (b : Bool) → names item (Slot n) ≡ b → (option_map (λ (i : Item). i.mode) (find (λ i. names i (Slot n)) items) ≡ Some m → is_share m ≡ false) →
        option_map (λ (i : Item). i.mode) (cond b (Some item) (find (λ i. names i (Slot n)) items)) ≡ Some m → is_share m ≡ false
    by true named later is =
        ap is_share (sym (ap (λ o. unwrap_or o item.mode) is))
        ∙ by_kind (same_kind item.kind kinds.Slot) (is_share item.mode) (kind_first _ _ _ named) (left _ _ none)
    by false named later is = later is

slot_moves : (m : Mode) (n : ℕ) (cell : Cell Descriptor) → is_share m ≡ false → is_moved m (Slot n) cell ≡ false
slot_moves Copy n cell none = refl
slot_moves Share n cell none = absurd (false≢true (sym none))
slot_moves Unmap n cell none = refl
slot_moves CopyRead n cell none = refl

mode_moves : (items : List Item) (n : ℕ) (cell : Cell Descriptor) → list_any shares_slots items ≡ false → is_moved (mode_or_copy items (Slot n)) (Slot n) cell ≡ false
unfolding mode_or_copy
mode_moves items n cell none = by (mode items (Slot n)) refl
  where
    by : (o : Option Mode) → mode items (Slot n) ≡ o → is_moved (unwrap_or o Copy) (Slot n) cell ≡ false
    by None is = refl
    by (Some m) is = slot_moves m n cell (not_shared items n none m is)

module _ (w : World) (d : Name) (own : HasOwnSlots w d) where
  -- a put of another context under a slot
  pub same-put : (c : Name) (m : ℕ) (value : Descriptor) → c ≢ d → SameSlots w (put_slot w c m value) d
  same-put c m value other n within = (putting w c (Slot m) value).cells d (Slot n) (λ same. apart_slots w c d other own n within)

  pub same-put_page : (c : Name) (p : ℕ) (value : PageValue) → SameSlots w (put_page w c p value) d
  same-put_page c p value n within = (putting w c (Page p) (Some value)).cells d (Slot n) (λ same. absurd (no_page n p same))

  pub same-put_uid : (c : Name) (uid : ℕ) → SameSlots w (put_uid w c uid) d
  same-put_uid c uid n within = (putting w c Cred uid).cells d (Slot n) (λ same. absurd (no_cred n same))

  pub same-save : (c : Name) (t : ℕ) (regs : Regs) → SameSlots w (save w c t regs) d
  same-save c t regs n within = (saving w c t regs).cells d (Slot n)

  -- pages that are mapped or unmapped
  mapped-by : (c : Name) (f : Context → Context) (v : World) → ChangesContext w c f v → ((n : ℕ) (x : Context) → (f x).cell (Slot n) ≡ x.cell (Slot n)) → SameSlots w v d
  mapped-by c f v changed leaves n within = cases_name d c
      (λ same. subst (λ e. (context v e).cell (Slot n) ≡ (context w e).cell (Slot n)) (sym same) (by (is_live w c) refl))
      (λ other. ap (λ (x : Context). x.cell (Slot n)) (changed.others d other))
    where
      by : (b : Bool) → is_live w c ≡ b → (context v c).cell (Slot n) ≡ (context w c).cell (Slot n)
      by true live = ap (λ (x : Context). x.cell (Slot n)) (changed.changed live) ∙ leaves n (context w c)
      by false dead = ap (λ u. (context u c).cell (Slot n)) (changed.same dead)

  pub same-map : (c : Name) (from to : ℕ) (present : Bool) → SameSlots w (mapped_or_not w c from to present) d
  same-map c from to true = mapped-by c (with_zeros from to) (map_pages w c from to) (changes.mapped w c from to) (λ n x. refl)
  same-map c from to false = mapped-by c (without_pages from to) (unmap_pages w c from to) (changes.unmapped w c from to) (λ n x. refl)

-- a put of its own leaves slots its own
pub own-put : (w : World) (d : Name) → HasOwnSlots w d → is_live w d ≡ true → (m : ℕ) (value : Descriptor) → HasOwnSlots (put_slot w d m value) d
own-put w d own live m value n within = by ((context w d).cell (Slot m)) refl
  where
    set : (b : Bool) (old : Cell Descriptor) → (v : Descriptor) × (old ≡ Own v) → (v : Descriptor) × (cond b (Own value) old ≡ Own v)
    set true old was = (value, refl)
    set false old was = was

    by : (cell : Cell Descriptor) → (context w d).cell (Slot m) ≡ cell → (v : Descriptor) × ((context (put_slot w d m value) d).cell (Slot n) ≡ Own v)
    by (Own old) is =
        let made = changes.put_own w d (Slot m) old value is refl in
        let with = changes.context_changed w d (with_cell (Slot m) (Own value)) in
        let cell : (context (put_slot w d m value) d).cell (Slot n) ≡ cond (eqb n m) (Own value) ((context w d).cell (Slot n)) =
        ap (λ u. (context u d).cell (Slot n)) made ∙ ap (λ (x : Context). x.cell (Slot n)) (with.changed live) in
        let found = set (eqb n m) ((context w d).cell (Slot n)) (own n within) in
        (found.0, cell ∙ found.1)
    by (Common g) is =
        let made = changes.put_common w d (Slot m) g value is in
        let was = own n within in
        (was.0, ap (λ u. (context u d).cell (Slot n)) made ∙ ap (λ (x : Context). x.cell (Slot n)) ((changes.group_changed w g _).contexts d) ∙ was.1)

-- a store
pub same-put_pages : (c d : Name) (values : List (ℕ × PageValue)) (w : World) → HasOwnSlots w d → SameSlots w (put_pages w c values) d
same-put_pages c d [] w own = same_itself w d
same-put_pages c d (v ∷ vs) w own =
    let u : World = put_page w c v.0 v.1 in
    let first : SameSlots w u d = same-put_page w d own c v.0 v.1 in
    same_then w u (put_pages u c vs) d first (same-put_pages c d vs u (own_after w u d own first))

pub same-store : (w : World) (c d : Name) (job : ℕ) (piece : Piece) → HasOwnSlots w d → SameSlots w (after_store w c job piece) d
unfolding after_store change_counters context
same-store w c d job piece own n within = same-put_pages c d (stored_pages w c job piece (w.next job).tags (touched piece.at (length piece.bytes))) w own n within

-- values that move out of a context
module _ (w : World) (d : Name) (own : HasOwnSlots w d) (live : is_live w d ≡ true) where
  shared-slots : (e : Name) (job : ℕ) (items : List Item) → (e ≡ d → list_any shares_slots items ≡ false) → SameSlots w (share w e job items) d
  unfolding with_shared
  shared-slots e job items none n within = cases_name d e
      (λ same. by same (needs_group w e items) refl)
      (λ other. ap (λ (x : Context). x.cell (Slot n)) ((changes.shared w e job items).others d other))
    where
      by : d ≡ e → (b : Bool) → needs_group w e items ≡ b → (context (share w e job items) d).cell (Slot n) ≡ (context w d).cell (Slot n)
      by same false needs = ap (λ u. (context u d).cell (Slot n)) ((changes.shared w e job items).none needs)
      by same true needs =
          subst (λ f. (context (share w e job items) f).cell (Slot n) ≡ (context w f).cell (Slot n)) (sym same)
          (ap (λ (x : Context). x.cell (Slot n)) ((changes.shared w e job items).named needs (ap (is_live w) (sym same) ∙ live))
          ∙ ap (λ b. cond b (Common (next_group w job)) ((context w e).cell (Slot n))) (mode_moves items n ((context w e).cell (Slot n)) (none (sym same))))

  -- a context is made from another one
  pub same-clone : (c : Name) (job : ℕ) (items : List Item) (entry : Regs) → c ≢ d → d ≢ next_context w job → SameSlots w (clone_context w c job items entry) d
  same-clone c job items entry other new n within =
      ap (λ (x : Context). x.cell (Slot n)) ((changes.cloned w c job items entry).others d (λ same. new (same ∙ changes.next_shared w c job job items)))
      ∙ shared-slots c job items (λ same. absurd (other same)) n within

  -- another context takes over from one
  pub same-overlay : (c e : Name) (job : ℕ) (items : List Item) → c ≢ d → (e ≡ d → list_any shares_slots items ≡ false) → SameSlots w (base.overlay w c e job items) d
  same-overlay c e job items other none n within =
      ap (λ (x : Context). x.cell (Slot n)) ((changes.overlaid w c e job items).others d (λ same. other (sym same))) ∙ shared-slots e job items none n within
