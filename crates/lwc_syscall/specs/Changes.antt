-- What plain calls do to the world and the channels.
use Rattle.std.specs.Prelude.{◌≡◌, ◌≢◌, ◌<◌, ◌≤◌, ℕ, ◌+◌, ◌==◌, ◌&&◌, Bool, List, Option, Some, true, false, length}
use Rattle.std.specs.Prelude.{nat_le, nat_lt, slice_index}
use Rattle.std.specs.FinMap as fm
use Rattle.std.specs.List.{list_any}
use Rattle.std.specs.Option.{option_map_or}
use Rattle.guest_call.specs.Guest.{descriptor_for}
use Rattle.lwc_base.specs.Cells.{put_slot, put_uid, slot_at, value_at}
use Rattle.lwc_base.specs.Channels.{Channels, HasItsFiles, IsInRange}
use Rattle.lwc_base.specs.Clones.{AreApart}
use Rattle.lwc_base.specs.Jobs.{IsOwnName, NamesKeepToJobs}
use Rattle.lwc_base.specs.Life.{HasItsContexts, is_of}
use Rattle.lwc_base.specs.Mapping.{mapped_or_not}
use Rattle.lwc_base.specs.Memory.{touched}
use Rattle.lwc_base.specs.Rights.{right_at}
use Rattle.lwc_base.specs.Slots.{lowest_empty}
use Rattle.lwc_base.specs.Sound.{IsSound}
use Rattle.lwc_base.specs.Store.{Done, Piece, store}
use Rattle.lwc_base.specs.World.{World, context, is_live}
use Rattle.lwc_base.specs.declared.cell.Cell.TheVariants.{Own}
use Rattle.lwc_base.specs.declared.descriptor.Cap.{Cap}
use Rattle.lwc_base.specs.declared.descriptor.Descriptor.{Descriptor}
use Rattle.lwc_base.specs.declared.descriptor.Descriptor.TheVariants.{Ctx}
use Rattle.lwc_types.specs.declared.key.TheConstants.{SLOTS}
use Rattle.lwc_types.specs.declared.key.Key.{Key}
use Rattle.lwc_types.specs.declared.key.Key.TheVariants.{Page, Slot, Cred}
use Rattle.lwc_types.specs.declared.limits.TheConstants.{MOST_BYTES_OF_CALL}
use Rattle.lwc_types.specs.declared.name.Name.{Name}
use Rattle.lwc_types.specs.declared.page.PageValue.{PageValue}
use Rattle.lwc_types.specs.declared.refusal.Refusal.{Refusal}
use Rattle.lwc_types.specs.declared.right.Right.TheVariants.{Read as MayRead}
use Rattle.lwc_syscall.specs.declared.calls.CallContexts.{CallContexts}
use Rattle.lwc_syscall.specs.declared.plain_call.PlainCall.{PlainCall}
use Rattle.lwc_syscall.specs.declared.plain_call.PlainCall.TheVariants as calls
use Rattle.lwc_syscall.specs.Plain.{Outcome, moved, written}
use Rattle.lwc_syscall.specs.declared.answer.CallAnswer.TheVariants.{Refused}

-- a descriptor that may be in a slot of a context: it is in range, each context that it is of is live, it is
-- of the context's own job where names keep to their jobs, and one of a context was in a slot of this one as
-- it is
pub record IsKnown (w : World) (io : Channels) (c : Name) (value : Descriptor) : Type 0 where
  pub in_range : IsInRange io value
  pub named : (d : Name) → is_of d value ≡ true → is_live w d ≡ true
  pub own : NamesKeepToJobs w → IsOwnName c.job value
  pub stood : (d : Name) (cap : Cap) → value ≡ Ctx d cap → (n : ℕ) × (n < SLOTS) × (slot_at w c n ≡ Ctx d cap)

-- what a plain call may do over three contexts: nothing, a put, a mapping, a store and a put, or a write
pub data IsPlainChange (w : World) (io : Channels) (targets : CallContexts) (job : ℕ) : World → Channels → Type 0 where
  Nothing : IsPlainChange w io targets job w io
  SlotPut : (n : ℕ) (value : Descriptor) → n < SLOTS → IsKnown w io targets.slots value →
      IsPlainChange w io targets job (put_slot w targets.slots n value) io
  UidPut : (uid : ℕ) → IsPlainChange w io targets job (put_uid w targets.cred uid) io
  Mapped : (from to : ℕ) (present : Bool) → to ≤ w.size.pages →
      IsPlainChange w io targets job (mapped_or_not w targets.memory from to present) io
  Read : (v : World) (piece : Piece) (n : ℕ) (value : Descriptor) → length piece.bytes ≤ MOST_BYTES_OF_CALL →
      store w targets.memory job piece ≡ Done v → n < SLOTS → IsKnown w io targets.slots value →
      IsPlainChange w io targets job (put_slot v targets.slots n value) io
  Written : (value : Descriptor) (bytes : List ℕ) → IsPlainChange w io targets job w (written io value bytes)

-- the same names live, sizes stay, and at most two tags have been taken
pub record KeepsNumbers (w v : World) : Type 0 where
  pub live : (c : Name) → is_live v c ≡ is_live w c
  pub groups : (g : Name) → fm.contains_key v.groups g ≡ fm.contains_key w.groups g
  pub size : v.size ≡ w.size
  pub contexts_counted : (j : ℕ) → (v.next j).contexts ≡ (w.next j).contexts
  pub groups_counted : (j : ℕ) → (v.next j).groups ≡ (w.next j).groups
  pub tags_counted : (j : ℕ) → ((w.next j).tags ≤ (v.next j).tags) × ((v.next j).tags ≤ (w.next j).tags + 2)

-- the context that a key is taken from: of the three, the one for its kind
abbrev pub holder : CallContexts → Key → Name
holder targets (Page p) = targets.memory
holder targets (Slot n) = targets.slots
holder targets Cred = targets.cred

-- whether a page is in a list
abbrev pub has_page : List ℕ → ℕ → Bool
has_page pages p = list_any (λ q. q == p) pages

-- the pages that a read touches
abbrev pub read_pages : World → Channels → CallContexts → List ℕ → List ℕ
read_pages w io targets args =
    touched (slice_index args 1)
    (length (moved io (descriptor_for w targets.slots (slice_index args 0)) (slice_index args 2)))

-- whether a page is in the range of a map or an unmap with these arguments
abbrev pub in_range : List ℕ → ℕ → Bool
in_range args p = nat_le (slice_index args 0) p && nat_lt p (slice_index args 1)

-- whether a plain call is a map or an unmap that has a page in its range
abbrev pub maps_page : Option PlainCall → List ℕ → ℕ → Bool
maps_page (Some calls.Map) args p = in_range args p
maps_page (Some calls.Unmap) args p = in_range args p
maps_page call args p = false

-- whether a slot is the lowest empty one of a context
abbrev pub is_lowest : World → Name → ℕ → Bool
is_lowest w c n = option_map_or (λ m. m == n) (lowest_empty w c) false

-- whether a plain call may change what is under a key: a page that a read touches or that is in the range of
-- a map or unmap, the slot that an open or a dup fills or that a close or a read names, and the uid by a
-- setuid
unfoldable pub may_change : World → Channels → CallContexts → Option PlainCall → List ℕ → Key → Bool
may_change w io targets (Some calls.Open) args (Slot n) = is_lowest w targets.slots n
may_change w io targets (Some calls.Close) args (Slot n) = n == slice_index args 0
may_change w io targets (Some calls.Dup) args (Slot n) = is_lowest w targets.slots n
may_change w io targets (Some calls.Read) args (Slot n) = n == slice_index args 0
may_change w io targets (Some calls.Read) args (Page p) = has_page (read_pages w io targets args) p
may_change w io targets (Some calls.Map) args (Page p) = in_range args p
may_change w io targets (Some calls.Unmap) args (Page p) = in_range args p
may_change w io targets (Some calls.SetUid) args Cred = true
may_change w io targets call args k = false

-- nothing has changed but what is under some keys of the three contexts, and of each context that has it in
-- common
pub record ChangesOnly (w v : World) (targets : CallContexts) (keys : Key → Bool) : Type 0 where
  pub values : (e : Name) (k : Key) → (keys k ≡ true → AreApart w (holder targets k) e k) →
      value_at v e k ≡ value_at w e k
  pub cells : (e : Name) (k : Key) → (keys k ≡ true → AreApart w (holder targets k) e k) →
      (context v e).cell k ≡ (context w e).cell k
  pub rights : (e : Name) (p : ℕ) → (keys (Page p) ≡ true → e ≢ targets.memory) → right_at v e p ≡ right_at w e p
  pub entries : (e : Name) → (context v e).entry ≡ (context w e).entry
  pub saved : (e : Name) (t : ℕ) → (context v e).saved t ≡ (context w e).saved t

-- each page of a context's own that has the right Read stays as it is, but for those that are left out
abbrev pub KeepsReadOnly : World → World → (Name → ℕ → Type 0) → Type 0
KeepsReadOnly w v IsLeftOut =
    (e : Name) (p : ℕ) (value : Option PageValue) → (IsLeftOut e p → ⊥) →
    (context w e).cell (Page p) ≡ Own value → right_at w e p ≡ MayRead →
    ((context v e).cell (Page p) ≡ Own value) × (right_at v e p ≡ MayRead)

-- the memory of three contexts is this one, and a call maps or unmaps this page of it
abbrev pub IsMapped : CallContexts → Option PlainCall → List ℕ → Name → ℕ → Type 0
IsMapped targets call args e p = (e ≡ targets.memory) × (maps_page call args p ≡ true)

-- what runs keep: the world is sound, and has the contexts and files that its slots name
pub record IsWell (w : World) (io : Channels) : Type 0 where
  pub sound : IsSound w
  pub named : HasItsContexts w
  pub files : HasItsFiles io w

-- an outcome that is a refusal has changed neither the world nor the channels
abbrev pub ChangesIfDone : World → Channels → Outcome → Type 0
ChangesIfDone w io outcome =
    (refusal : Refusal) → outcome.answer ≡ Refused refusal → (outcome.world ≡ w) × (outcome.io ≡ io)

-- a descriptor in the place of another one is of each context that that one was of
abbrev pub LosesNone : Descriptor → Descriptor → Type 0
LosesNone old new = (d : Name) → is_of d old ≡ true → is_of d new ≡ true

-- what cuts no link: nothing, or a put under a slot that loses no context, perhaps after a store
pub data CutsNone (w : World) (targets : CallContexts) (job : ℕ) : World → Type 0 where
  Same : CutsNone w targets job w
  Put : (n : ℕ) (value : Descriptor) → LosesNone (slot_at w targets.slots n) value →
      CutsNone w targets job (put_slot w targets.slots n value)
  StoredPut : (v : World) (piece : Piece) (n : ℕ) (value : Descriptor) →
      store w targets.memory job piece ≡ Done v → LosesNone (slot_at v targets.slots n) value →
      CutsNone w targets job (put_slot v targets.slots n value)

-- whether a plain call cuts no link, though it changes the world: an open, a dup, a read
abbrev pub cuts_none : Option PlainCall → Bool
cuts_none (Some calls.Open) = true
cuts_none (Some calls.Dup) = true
cuts_none (Some calls.Read) = true
cuts_none call = false

-- whether a plain call leaves the world: a write, a getuid, an exit
abbrev pub leaves_world : Option PlainCall → Bool
leaves_world (Some calls.Write) = true
leaves_world (Some calls.GetUid) = true
leaves_world (Some calls.Exit) = true
leaves_world call = false
