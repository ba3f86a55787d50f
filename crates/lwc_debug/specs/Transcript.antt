-- What a debugger writes: the answer to each command, at the place of the run where it is given.
use Rattle.std.specs.Prelude.{ℕ, ◌+◌, ◌-◌, ◌*◌, ◌++◌, if◌then◌else◌, List, [], ◌∷◌, Option, None, Some, codes}
use Rattle.std.specs.Prelude.{decimal, length, nat_le, nat_lt, take}
use Rattle.std.specs.Option.{option_map_or}
use Rattle.kernel_core.specs.Kernel.{view_of}
use Rattle.kernel_core.specs.Machine.{Machine}
use Rattle.kernel_core.specs.Runs.{frames_of, kept, run}
use Rattle.kernel_core.specs.Start.{Inputs, start}
use Rattle.lwc_base.specs.Cells.{slot_at}
use Rattle.lwc_base.specs.Memory.{load}
use Rattle.lwc_base.specs.Summaries.{summary_of}
use Rattle.lwc_base.specs.World.{World, is_live}
use Rattle.lwc_base.specs.declared.descriptor.Descriptor.{Descriptor}
use Rattle.lwc_base.specs.declared.descriptor.Descriptor.TheVariants.{Empty, Console, File, Request, Reply, Ctx}
use Rattle.lwc_types.specs.declared.key.TheConstants.{SLOTS}
use Rattle.lwc_types.specs.declared.name.Name.{Name}
use Rattle.lwc_types.specs.declared.page.TheConstants.{PAGE_BYTES}
use Rattle.lwc_debug.specs.declared.command.Command.{Command}
use Rattle.lwc_debug.specs.declared.command.Command.TheVariants.{Goto, Forward, Back, Thread, Context, Page, Slot, Used}
use Rattle.lwc_text.specs.Lines.{bytes_text, context_line, name_text, thread_lines, used_line}

-- the place that a command asks for, from the place where it is given; none is before the first
abbrev pub asked_place : ℕ → Command → Option ℕ
asked_place at (Goto n) = Some n
asked_place at (Forward n) = Some (at + n)
asked_place at (Back n) = if nat_le n at then Some (at - n) else None
asked_place at _ = None

-- the place that is asked for, if there is one: none is behind the last of this number of steps
abbrev pub place_in : ℕ → Option ℕ → Option ℕ
place_in count None = None
place_in count (Some n) = if nat_le n count then Some n else None

-- another place, or else this one
abbrev pub moved_to : ℕ → Option ℕ → ℕ
moved_to at None = at
moved_to at (Some n) = n

-- the place after a command: the one that it asks for, if it asks for one that there is
unfoldable pub place_after : ℕ → ℕ → Command → ℕ
place_after count at c = moved_to at (place_in count (asked_place at c))

-- the line of a move
abbrev pub move_line : Option ℕ → List ℕ
move_line None = codes "no step\n"
move_line (Some n) = codes "at " ++ decimal n ++ codes "\n"

-- the bytes of a page, all of them
abbrev pub page_text : Option (List ℕ) → List ℕ
page_text None = codes "absent"
page_text (Some bytes) = bytes_text bytes

-- what is in a slot
unfoldable pub slot_text : Descriptor → List ℕ
slot_text Empty = codes "empty"
slot_text Console = codes "console"
slot_text (File file at) = codes "file " ++ decimal file ++ codes " at " ++ decimal at
slot_text (Request r at) = codes "request " ++ decimal r ++ codes " at " ++ decimal at
slot_text (Reply r) = codes "reply " ++ decimal r
slot_text (Ctx name cap) = codes "context " ++ name_text name

-- the line of a page
abbrev pub page_line : Name → ℕ → Option (List ℕ) → List ℕ
page_line name p bytes =
    codes "page " ++ name_text name ++ codes " " ++ decimal p ++ codes " " ++ page_text bytes ++ codes "\n"

-- the line of a slot
abbrev pub slot_line : Name → ℕ → Descriptor → List ℕ
slot_line name n value =
    codes "slot " ++ name_text name ++ codes " " ++ decimal n ++ codes " " ++ slot_text value ++ codes "\n"

-- a line of a context, if it lives
abbrev pub of_live : World → Name → List ℕ → List ℕ
of_live w name line = if is_live w name then line else codes "no context\n"

-- the answer to a command at a place of this number of steps and one more, in the machine there
unfoldable pub answer : Machine → ℕ → ℕ → Command → List ℕ
answer m count at (Goto n) = move_line (place_in count (Some n))
answer m count at (Forward n) = move_line (place_in count (asked_place at (Forward n)))
answer m count at (Back n) = move_line (place_in count (asked_place at (Back n)))
answer m count at (Thread t) = option_map_or (thread_lines t) (view_of m t) (codes "no thread\n")
answer m count at (Context name) =
    of_live m.environment.world name (context_line name (summary_of m.environment.world name))
answer m count at (Page name p) =
    of_live m.environment.world name
    (if nat_lt p m.environment.world.size.pages
    then page_line name p (load m.environment.world name (p * PAGE_BYTES) PAGE_BYTES)
    else codes "no page\n")
answer m count at (Slot name n) =
    of_live m.environment.world name
    (if nat_lt n SLOTS then slot_line name n (slot_at m.environment.world name n) else codes "no slot\n")
answer m count at Used = used_line (frames_of m)

-- the answers to commands in the run of these steps from a machine, the first given at this place: each in the
-- machine after as many steps as its place says
abbrev pub transcript : Machine → List ℕ → ℕ → List Command → List ℕ
transcript m steps at [] = []
transcript m steps at (c ∷ cs) =
    answer (run m (take at steps)) (length steps) at c ++ transcript m steps (place_after (length steps) at c) cs

-- the answers to a script in the run of the steps that are kept of a schedule
unfoldable pub transcript_of_schedule : Inputs → List ℕ → List Command → List ℕ
transcript_of_schedule inputs schedule script = transcript (start inputs) (kept (start inputs) schedule) 0 script
