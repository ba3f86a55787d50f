-- A change that cuts no link and takes no group out of a cell leaves nothing to drop, where what is new is reached and named.
use Rattle.std.proofs.Common.{◌≡◌, ◌≢◌, ◌⊎◌, inl, inr, ℕ, ◌<◌, refl, sym, ap, subst, ◌∙◌, true, List, arith, rules}
use Rattle.std.proofs.lemmas.Bool.{cases_Bool}
use Rattle.std.specs.FinMap as fm
use Rattle.lwc_base.specs.declared.cell.Cell.TheVariants.{Common}
use Rattle.lwc_base.specs.declared.descriptor.Cap.{Cap}
use Rattle.lwc_base.specs.declared.descriptor.Descriptor.{Descriptor}
use Rattle.lwc_base.specs.declared.descriptor.Descriptor.TheVariants.{Ctx}
use Rattle.lwc_base.specs.declared.item.Item.{Item}
use Rattle.lwc_base.specs.Cells.{put_slot, slot_at}
use Rattle.lwc_base.specs.Facts.{KeepsNames, SharesValues}
use Rattle.lwc_base.specs.Fresh.{IsFresh}
use Rattle.lwc_base.specs.Holders.{IsGroup}
use Rattle.lwc_base.specs.Life.{IsReaped, Link, Reaches, Root, is_among, is_of}
use Rattle.lwc_base.specs.Modes.{IsKey, mode_or_copy}
use Rattle.lwc_base.specs.Saved.{save}
use Rattle.lwc_base.specs.Sharing.{clone_context, is_moved, needs_group, share}
use Rattle.lwc_base.specs.Sound.{HasItsGroups}
use Rattle.lwc_base.specs.Store.{Piece, after_store}
use Rattle.lwc_base.specs.Summaries.{is_empty}
use Rattle.lwc_base.specs.World.{World, Context, Group, context, is_live, next_context, next_group}
use Rattle.lwc_base.proofs.Clones.{cell-moves, named-after, named-before, next_context-share}
use Rattle.lwc_base.proofs.Common.{group_of_cell, names_same-after_store, names_same-put_at, put-there}
use Rattle.lwc_base.proofs.Fresh.{next_context-new}
use Rattle.lwc_base.proofs.Puts.{live_of_common, names-put_at, takes-after_store}
use Rattle.lwc_base.proofs.Reaped.{some_key}
use Rattle.lwc_base.proofs.Saving.{save-cell, save-value, saves}
use Rattle.lwc_base.proofs.Sharing.{shares-share}
use Rattle.lwc_base.proofs.Slots.{adds-clone, linked_slot, put_slot-reads, slot_at-after_store, slot_at-clone, slot_links}
use Rattle.lwc_types.specs.declared.key.TheConstants.{SLOTS}
use Rattle.lwc_types.specs.declared.key.Key.{Key}
use Rattle.lwc_types.specs.declared.key.Key.TheVariants.{Slot}
use Rattle.lwc_types.specs.declared.name.Name.{Name}
use Rattle.lwc_types.specs.declared.regs.Regs.{Regs}
use Rattle.lwc_types.specs.declared.size.WorldSize.{WorldSize}
use Rattle.lwc_types.specs.Names.{name_cmp}
use Rattle.lwc_types.proofs.Orders.{cases_name, name-itself}

-- no context is gone, no slot has lost a descriptor of a context, and no cell the group that it named
record KeepsLinks (w v : World) : Type 0 where
  live : (c : Name) → is_live w c ≡ true → is_live v c ≡ true
  slots : (c d : Name) (n : ℕ) → is_live w c ≡ true → is_of d (slot_at w c n) ≡ true → is_of d (slot_at v c n) ≡ true
  named : (c : Name) (k : Key) (g : Name) → (context w c).cell k ≡ Common g → (context v c).cell k ≡ Common g
  size : v.size ≡ w.size

keeps_links-then : (u v w : World) → KeepsLinks u v → KeepsLinks v w → KeepsLinks u w
keeps_links-then u v w first second = search rules

-- a cell of a live context names a group
abbrev HasNamer : World → Name → Type 0
HasNamer w g = (c : Name) × (k : Key) × IsKey w.size.pages k × (is_live w c ≡ true) × ((context w c).cell k ≡ Common g)

module _ (w v : World) (keeps : KeepsLinks w v) where
  still_named : (g : Name) → HasNamer w g → HasNamer v g
  still_named g by = (by.0, by.1, subst (λ (s : WorldSize). IsKey s.pages by.1) (sym keeps.size) by.2, keeps.live by.0 by.3, keeps.named by.0 by.1 g by.4)

  module _ (roots others : List Name) (from_roots : (e : Name) → is_among roots e ≡ true → Reaches v others e) where
    -- what was reached is so still, where the roots are
    still_reached : (c : Name) → Reaches w roots c → Reaches v others c
    still_reached _ (Root c e) = from_roots c e
    still_reached _ (Link d c before live link) =
        let found = linked_slot w d c link in
        Link d c (still_reached d before) (keeps.live d live) (slot_links v d c found.0 found.1 (keeps.slots d c found.0 live found.2))

    still_reaped : ((c : Name) → is_live v c ≡ true → (is_live w c ≡ true) ⊎ Reaches v others c) → ((g : Name) → IsGroup v g → IsGroup w g ⊎ HasNamer v g) →
        IsReaped w roots → IsReaped v others
    still_reaped contexts groups reaped = record {
      contexts = λ c live. elim (contexts c live) [ inl was ↦ still_reached c (reaped.contexts c was) | inr new ↦ new ];
      groups = λ g live. elim (groups g live) [ inl was ↦ still_named g (reaped.groups g was) | inr new ↦ new ];
    }

-- where no name is new, and each root is still reached
same_reaped : (w v : World) (roots others : List Name) → KeepsLinks w v → ((c : Name) → is_live v c ≡ is_live w c) →
    ((g : Name) → fm.contains_key v.groups g ≡ fm.contains_key w.groups g) → ((e : Name) → is_among roots e ≡ true → Reaches v others e) → IsReaped w roots → IsReaped v others
same_reaped w v roots others keeps live groups from_roots =
    still_reaped w v keeps roots others from_roots (λ c lives. inl (sym (live c) ∙ lives)) (λ g lives. inl (sym (groups g) ∙ lives))

pub reaped-after_store : (w : World) (roots : List Name) (c : Name) (job : ℕ) (piece : Piece) → IsReaped w roots → IsReaped (after_store w c job piece) roots
reaped-after_store w roots c job piece =
    let takes = takes-after_store w c job piece in
    let same = names_same-after_store w c job piece in
    same_reaped w _ roots roots (search (rules, takes.live, same.there, slot_at-after_store)) takes.live takes.groups (λ e among. Root e among)

-- another descriptor, which is one of the context that the old one was of
keeps_links-put_slot : (w : World) (c : Name) (n : ℕ) (value : Descriptor) → ((d : Name) → is_of d (slot_at w c n) ≡ true → is_of d value ≡ true) → KeepsLinks w (put_slot w c n value)
keeps_links-put_slot w c n value more =
    let names = names-put_at w c (Slot n) value in let same = names_same-put_at w c (Slot n) value in search (rules, names.live, same.there, put_slot-reads)

pub reaped-put_slot : (w : World) (roots : List Name) (c : Name) (n : ℕ) (value : Descriptor) → ((d : Name) → is_of d (slot_at w c n) ≡ true → is_of d value ≡ true) →
    IsReaped w roots → IsReaped (put_slot w c n value) roots
reaped-put_slot w roots c n value more =
    let names = names-put_at w c (Slot n) value in
    same_reaped w _ roots roots (keeps_links-put_slot w c n value more) names.live names.groups (λ e among. Root e among)

-- a descriptor of a context in a slot that was empty
module _ (w : World) (c d : Name) (n : ℕ) (cap : Cap) (empty : is_empty (slot_at w c n) ≡ true) where
  abbrev linked : World
  linked = put_slot w c n (Ctx d cap)

  none_before : (value : Descriptor) (e : Name) → is_empty value ≡ true → is_of e value ≡ true → is_of e (Ctx d cap) ≡ true
  none_before value e none is = grind arith

  keeps_links-linked : KeepsLinks w linked
  keeps_links-linked = keeps_links-put_slot w c n (Ctx d cap) (λ e is. none_before (slot_at w c n) e empty is)

  link-linked : is_live w c ≡ true → n < SLOTS → ((g : Name) → (context w c).cell (Slot n) ≡ Common g → IsGroup w g) → (others : List Name) →
      Reaches linked others c → Reaches linked others d
  link-linked live within groups others reached =
      Link c d reached ((names-put_at w c (Slot n) (Ctx d cap)).live c ∙ live)
      (slot_links linked c d n within (ap (is_of d) (put-there w c (Slot n) (Ctx d cap) live groups refl) ∙ name-itself d))

keeps_links-save : (w : World) (c : Name) (t : ℕ) (regs : Regs) → KeepsLinks w (save w c t regs)
keeps_links-save w c t regs = search (rules, saves, save-value, save-cell)

-- a root is left for a context that gets a descriptor of it
pub reaped-switched : (w : World) (roots others : List Name) (c d : Name) (t : ℕ) (regs : Regs) (n : ℕ) (cap : Cap) → HasItsGroups w → is_live w c ≡ true → is_live w d ≡ true →
    n < SLOTS → is_empty (slot_at w d n) ≡ true → is_among others d ≡ true → ((e : Name) → is_among roots e ≡ true → (is_among others e ≡ true) ⊎ (e ≡ c)) →
    IsReaped w roots → IsReaped (put_slot (save w c t regs) d n (Ctx c cap)) others
reaped-switched w roots others c d t regs n cap groups live live_d within empty among roots_stay =
    let s : World = save w c t regs in
    let v : World = put_slot s d n (Ctx c cap) in
    let kept : KeepsNames w s = (saves w c t regs).names in
    let put : KeepsNames s v = names-put_at s d (Slot n) (Ctx c cap) in
    let still_empty : is_empty (slot_at s d n) ≡ true = ap is_empty (save-value w c t regs d (Slot n)) ∙ empty in
    let link : Reaches v others c =
    link-linked s d c n cap still_empty (kept.live d ∙ live_d) within
    (λ g is. kept.groups g ∙ group_of_cell w groups d (Slot n) g (sym (save-cell w c t regs d (Slot n)) ∙ is)) others (Root d among) in
    same_reaped w v roots others (keeps_links-then w s v (keeps_links-save w c t regs) (keeps_links-linked s d c n cap still_empty))
    (λ a. put.live a ∙ kept.live a) (λ g. put.groups g ∙ kept.groups g)
    (λ e is. elim (roots_stay e is) [ inl stays ↦ Root e stays | inr left ↦ subst (Reaches v others) (sym left) link ])

-- a new context with a descriptor in the context that it is made from
module _ (w : World) (c : Name) (job : ℕ) (items : List Item) (entry : Regs) (fresh : IsFresh w) where
  abbrev shared : World
  shared = share w c job items

  abbrev cloned : World
  cloned = clone_context w c job items entry

  shares : SharesValues w c job items shared
  shares = shares-share w c job items

  not_new : (a : Name) → is_live w a ≡ true → a ≢ next_context shared job
  not_new a live = search (rules, next_context-new, next_context-share)

  same_cell : (a : Name) (k : Key) → is_live w a ≡ true → (context cloned a).cell k ≡ (context shared a).cell k
  same_cell a k live = ap (λ (x : Context). x.cell k) ((adds-clone w c job items fresh entry).others a (not_new a live))

  keeps_links-clone : KeepsLinks w cloned
  keeps_links-clone =
      let adds = adds-clone w c job items fresh entry in
      search (rules, adds, not_new, shares, slot_at-clone, same_cell, live_of_common, named-after)

  -- the context names the new group, if there is one
  named-new : is_live w c ≡ true → needs_group w c items ≡ true → HasNamer cloned (next_group w job)
  unfolding needs_group
  named-new live needs =
      let moved = some_key w.size.pages (λ k. is_moved (mode_or_copy items k) k ((context w c).cell k)) needs in
      let still = keeps_links-clone in
      (c, moved.0, subst (λ (s : WorldSize). IsKey s.pages moved.0) (sym still.size) moved.1, still.live c live, same_cell c moved.0 live ∙ cell-moves w c job items moved.0 live moved.1 moved.2)

  groups-cloned : (g : Name) → fm.contains_key cloned.groups g ≡ fm.contains_key shared.groups g
  groups-cloned g = ap (λ (m : fm.FinMap name_cmp Group). fm.contains_key m g) (adds-clone w c job items fresh entry).groups

  -- a group of the clone was there, or a cell of the context names it
  group-clone : is_live w c ≡ true → (g : Name) → IsGroup cloned g → IsGroup w g ⊎ HasNamer cloned g
  group-clone live g lives = search (rules, cases_Bool, cases_name, named-new, groups-cloned, shares)

  -- a group that a cell of the context names is live
  named_group-clone : is_live w c ≡ true → HasItsGroups w → (k : Key) (g : Name) → (context cloned c).cell k ≡ Common g → IsGroup cloned g
  named_group-clone live groups k g is =
      let names : (context shared c).cell k ≡ Common g = sym (same_cell c k live) ∙ is in
      search (rules, names, cases_name, cases_Bool, named-before, group_of_cell, groups-cloned, shares)

  pub reaped-created : (roots : List Name) (n : ℕ) (cap : Cap) → HasItsGroups w → is_live w c ≡ true → n < SLOTS → is_empty (slot_at w c n) ≡ true → IsReaped w roots →
      IsReaped (put_slot cloned c n (Ctx (next_context w job) cap)) roots
  reaped-created roots n cap groups live within empty reaped =
      let new : Name = next_context w job in
      let v : World = put_slot cloned c n (Ctx new cap) in
      let adds = adds-clone w c job items fresh entry in
      let put : KeepsNames cloned v = names-put_at cloned c (Slot n) (Ctx new cap) in
      let still_empty : is_empty (slot_at cloned c n) ≡ true = ap is_empty (slot_at-clone w c job items fresh entry c n (not_new c live)) ∙ empty in
      let second : KeepsLinks cloned v = keeps_links-linked cloned c new n cap still_empty in
      let keeps : KeepsLinks w v = keeps_links-then w cloned v keeps_links-clone second in
      let still : (e : Name) → is_among roots e ≡ true → Reaches v roots e = λ e among. Root e among in
      let reached : Reaches v roots c = still_reached w v keeps roots roots still c (reaped.contexts c live) in
      let link : Reaches v roots new = link-linked cloned c new n cap still_empty (keeps_links-clone.live c live) within (named_group-clone live groups (Slot n)) roots reached in
      still_reaped w v keeps roots roots still
      (λ a lives. cases_name a new (λ same. inr (subst (Reaches v roots) (sym same) link))
      (λ other. inl (sym (put.live a ∙ adds.still_live a (λ one. other (one ∙ next_context-share w c job items job)) ∙ shares.live a) ∙ lives)))
      (λ g lives. elim (group-clone live g (sym (put.groups g) ∙ lives)) [ inl was ↦ inl was | inr named ↦ inr (still_named cloned v second g named) ])
      reaped

-- what leaves nothing to drop
pub ruleset nothing_to_drop = (reaped-after_store, reaped-put_slot, reaped-created, reaped-switched)
