-- What each plain call keeps.
use Rattle.std.proofs.Common.{rules, ◌≡◌, ◌∙◌, ℕ, ◌+◌, ◌-◌, ◌/◌, ◌≤◌, ◌==◌, Bool, true, false, List, [], ap, refl, length, sym, subst, arith}
use Rattle.std.proofs.lemmas.Bool.{cond_both}
use Rattle.std.proofs.lemmas.List.FromFn.{length-range_with_len}
use Rattle.std.proofs.lemmas.List.Sums.{count_by-le-length}
use Rattle.std.specs.List.{range_with_len}
use Rattle.lwc_base.specs.Cells.{put_slot}
use Rattle.lwc_base.specs.Channels.{Channels, HasItsFiles, IsInRange}
use Rattle.lwc_base.specs.Facts.{KeepsNames, TakesTags, with_tags}
use Rattle.lwc_base.specs.Frames.{is_parting}
use Rattle.lwc_base.specs.Life.{HasItsContexts, is_of}
use Rattle.lwc_base.specs.Mapping.{mapped_or_not}
use Rattle.lwc_base.specs.Memory.{touched}
use Rattle.lwc_base.specs.Store.{Done, Piece, after_store, page_value_at, parting_count, store}
use Rattle.lwc_base.specs.World.{World, is_live}
use Rattle.lwc_base.specs.declared.descriptor.Descriptor.{Descriptor}
use Rattle.lwc_base.specs.declared.descriptor.Descriptor.TheVariants.{Empty, Console, File, Request, Reply, Ctx}
use Rattle.lwc_types.specs.declared.counters.Counters.{Counters}
use Rattle.lwc_types.specs.declared.key.Key.TheVariants.{Slot, Cred}
use Rattle.lwc_types.specs.declared.limits.TheConstants.{MOST_BYTES_OF_CALL}
use Rattle.lwc_types.specs.declared.name.Name.{Name}
use Rattle.lwc_types.specs.declared.page.TheConstants.{PAGE_BYTES}
use Rattle.lwc_syscall.specs.Changes.{IsPlainChange, IsWell, KeepsNumbers, Mapped, Nothing, Read, SlotPut, UidPut, Written}
use Rattle.lwc_syscall.specs.Plain.{written}
use Rattle.lwc_syscall.specs.declared.calls.CallContexts.{CallContexts}
use Rattle.lwc_base.proofs.Facts.{changes}
use Rattle.lwc_base.proofs.InRange.{files-after_store, files-map_pages, files-put_slot, files-put_uid, files-unmap_pages}
use Rattle.lwc_base.proofs.NamedContexts.{contexts-after_store, contexts-map_pages, contexts-put_slot, contexts-put_uid, contexts-unmap_pages}
use Rattle.lwc_base.proofs.Room.{sound-store}
use Rattle.lwc_base.proofs.Sound.{sound-map_pages, sound-put_slot, sound-put_uid, sound-unmap_pages}

-- a store that is done leaves what stores do
pub store-done : (w v : World) (c : Name) (job : ℕ) (piece : Piece) → store w c job piece ≡ Done v → v ≡ after_store w c job piece
unfolding store
store-done w v c job piece is = grind arith

-- bytes of one call touch at most two pages
two_touched : (at count : ℕ) → count ≤ MOST_BYTES_OF_CALL → length (touched at count) ≤ 2
unfolding touched
two_touched at count few =
    cond_both (count == 0) [] (range_with_len (at / PAGE_BYTES) ((at + count - 1) / PAGE_BYTES + 1 - at / PAGE_BYTES)) (λ (pages : List ℕ). length pages ≤ 2) (λ none. omega arith)
    (λ some. omega (arith, length-range_with_len (at / PAGE_BYTES) ((at + count - 1) / PAGE_BYTES + 1 - at / PAGE_BYTES)))

few_parting : (w : World) (c : Name) (piece : Piece) → length piece.bytes ≤ MOST_BYTES_OF_CALL → parting_count w c piece ≤ 2
unfolding parting_count
few_parting w c piece few =
    omega (arith, count_by-le-length (λ p. is_parting w (page_value_at w c p)) (touched piece.at (length piece.bytes)), two_touched piece.at (length piece.bytes) few)

pub well-slot : (w : World) (io : Channels) (c : Name) (n : ℕ) (value : Descriptor) → IsInRange io value → ((d : Name) → is_of d value ≡ true → is_live w d ≡ true) → IsWell w io → IsWell (put_slot w c n value) io
well-slot w io c n value range named well = record {
  sound = sound-put_slot w c n value well.sound;
  named = contexts-put_slot w c n value named well.named;
  files = files-put_slot io w c n value range well.files;
}

pub well-store : (w v : World) (io : Channels) (c : Name) (job : ℕ) (piece : Piece) → is_live w c ≡ true → store w c job piece ≡ Done v → IsWell w io → IsWell v io
well-store w v io c job piece live is well =
    let done = sym (store-done w v c job piece is) in
    record {
      sound = sound-store w v c job piece well.sound live is;
      named = subst HasItsContexts done (contexts-after_store w c job piece well.named);
      files = subst (HasItsFiles io) done (files-after_store io w c job piece well.files);
    }

takes-store : (w v : World) (c : Name) (job : ℕ) (piece : Piece) → store w c job piece ≡ Done v → TakesTags w job (parting_count w c piece) v
takes-store w v c job piece is = subst (TakesTags w job (parting_count w c piece)) (sym (store-done w v c job piece is)) (changes.stored w c job piece)

named-store : (w v : World) (c : Name) (job : ℕ) (piece : Piece) (d : Name) → store w c job piece ≡ Done v → is_live w d ≡ true → is_live v d ≡ true
named-store w v c job piece d is live = let takes = takes-store w v c job piece is in takes.live d ∙ live

well-mapped : (w : World) (io : Channels) (c : Name) (from to : ℕ) (present : Bool) → to ≤ w.size.pages → IsWell w io → IsWell (mapped_or_not w c from to present) io
well-mapped w io c from to true few well =
    record { sound = sound-map_pages w c from to few well.sound; named = contexts-map_pages w c from to well.named; files = files-map_pages io w c from to well.files }
well-mapped w io c from to false few well =
    record { sound = sound-unmap_pages w c from to well.sound; named = contexts-unmap_pages w c from to well.named; files = files-unmap_pages io w c from to well.files }

well-written : (w : World) (io : Channels) (value : Descriptor) (bytes : List ℕ) → IsWell w io → IsWell w (written io value bytes)
well-written w io Console bytes well = record { sound = well.sound; named = well.named; files = well.files }
well-written w io (Reply r) bytes well = record { sound = well.sound; named = well.named; files = well.files }
well-written w io Empty bytes well = well
well-written w io (File file at) bytes well = well
well-written w io (Request r at) bytes well = well
well-written w io (Ctx name cap) bytes well = well

pub well-change : (w : World) (io : Channels) (targets : CallContexts) (job : ℕ) (v : World) (after : Channels) → IsPlainChange w io targets job v after → is_live w targets.memory ≡ true → IsWell w io → IsWell v after
well-change w io targets job v after Nothing live well = well
well-change w io targets job v after (SlotPut n value within known) live well = well-slot w io targets.slots n value known.in_range known.named well
well-change w io targets job v after (UidPut uid) live well = record {
  sound = sound-put_uid w targets.cred uid well.sound;
  named = contexts-put_uid w targets.cred uid well.named;
  files = files-put_uid io w targets.cred uid well.files;
}
well-change w io targets job v after (Mapped from to present few) live well = well-mapped w io targets.memory from to present few well
well-change w io targets job v after (Read u piece n value short is within known) live well =
    well-slot u io targets.slots n value known.in_range (λ d of. named-store w u targets.memory job piece d is (known.named d of)) (well-store w u io targets.memory job piece live is well)
well-change w io targets job v after (Written value bytes) live well = well-written w io value bytes well

-- names that are kept keep numbers
numbers-names : (w v : World) → KeepsNames w v → KeepsNumbers w v
numbers-names w v names = record {
  live = names.live;
  groups = names.groups;
  size = names.size;
  contexts_counted = λ j. ap (λ (n : ℕ → Counters). (n j).contexts) names.next;
  groups_counted = λ j. ap (λ (n : ℕ → Counters). (n j).groups) names.next;
  tags_counted = λ j. let same : (v.next j).tags ≡ (w.next j).tags = ap (λ (n : ℕ → Counters). (n j).tags) names.next in (omega arith, omega arith);
}

names-itself : (w : World) → KeepsNames w w
names-itself w = search rules

names-mapped : (w : World) (c : Name) (from to : ℕ) (present : Bool) → KeepsNames w (mapped_or_not w c from to present)
names-mapped w c from to true = (changes.mapped w c from to).names
names-mapped w c from to false = (changes.unmapped w c from to).names

with-tags : (next : ℕ → Counters) (job count j : ℕ) → ((with_tags next job count j).contexts ≡ (next j).contexts) × (((with_tags next job count j).groups ≡ (next j).groups)
    × (((next j).tags ≤ (with_tags next job count j).tags) × ((with_tags next job count j).tags ≤ (next j).tags + count)))
with-tags next job count j = grind arith

-- a job that takes at most two tags more, before a change that keeps names
numbers-takes : (w u v : World) (job count : ℕ) → TakesTags w job count u → count ≤ 2 → KeepsNames u v → KeepsNumbers w v
numbers-takes w u v job count takes few names = record {
  live = λ c. names.live c ∙ takes.live c;
  groups = λ g. names.groups g ∙ takes.groups g;
  size = names.size ∙ takes.size;
  contexts_counted = λ j. ap (λ (n : ℕ → Counters). (n j).contexts) (names.next ∙ takes.next) ∙ (with-tags w.next job count j).0;
  groups_counted = λ j. ap (λ (n : ℕ → Counters). (n j).groups) (names.next ∙ takes.next) ∙ (with-tags w.next job count j).1.0;
  tags_counted = λ j. let same : (v.next j).tags ≡ (with_tags w.next job count j).tags = ap (λ (n : ℕ → Counters). (n j).tags) (names.next ∙ takes.next) in let tags = (with-tags w.next job count j).1.1 in (omega arith, omega arith);
}

pub numbers-change : (w : World) (io : Channels) (targets : CallContexts) (job : ℕ) (v : World) (after : Channels) → IsPlainChange w io targets job v after → KeepsNumbers w v
numbers-change w io targets job v after Nothing = numbers-names w w (names-itself w)
numbers-change w io targets job v after (SlotPut n value within known) = numbers-names w _ (changes.put w targets.slots (Slot n) value)
numbers-change w io targets job v after (UidPut uid) = numbers-names w _ (changes.put w targets.cred Cred uid)
numbers-change w io targets job v after (Mapped from to present few) = numbers-names w _ (names-mapped w targets.memory from to present)
numbers-change w io targets job v after (Read u piece n value short is within known) =
    numbers-takes w u _ job (parting_count w targets.memory piece) (takes-store w u targets.memory job piece is) (few_parting w targets.memory piece short) (changes.put u targets.slots (Slot n) value)
numbers-change w io targets job v after (Written value bytes) = numbers-names w w (names-itself w)

-- no call changes files or requests
inputs-written : (io : Channels) (value : Descriptor) (bytes : List ℕ) → ((written io value bytes).files ≡ io.files) × ((written io value bytes).requests ≡ io.requests)
inputs-written io value bytes = grind arith

pub inputs-change : (w : World) (io : Channels) (targets : CallContexts) (job : ℕ) (v : World) (after : Channels) → IsPlainChange w io targets job v after → (after.files ≡ io.files) × (after.requests ≡ io.requests)
inputs-change w io targets job v after (Written value bytes) = inputs-written io value bytes
inputs-change w io targets job v after Nothing = (refl, refl)
inputs-change w io targets job v after (SlotPut n value within known) = (refl, refl)
inputs-change w io targets job v after (UidPut uid) = (refl, refl)
inputs-change w io targets job v after (Mapped from to present few) = (refl, refl)
inputs-change w io targets job v after (Read u piece n value short is within known) = (refl, refl)
