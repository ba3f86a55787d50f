-- The lines of a report, each as its bytes.
use Rattle.std.specs.Prelude.{ℕ, ◌==◌, false, if◌then◌else◌, List, ◌++◌, length, Option, None, Some, codes, decimal}
use Rattle.std.specs.Fmt.{digits}
use Rattle.std.specs.List.{flat_map}
use Rattle.hex.specs.Hex.{encode_lower}
use Rattle.kernel_core.specs.declared.thread.ThreadView.{ThreadView}
use Rattle.lwc_types.specs.declared.fault.ThreadStatus.{ThreadStatus}
use Rattle.lwc_types.specs.declared.fault.ThreadStatus.TheVariants.{Idle, Running, Done, Faulted}
use Rattle.lwc_types.specs.declared.name.Name.{Name}
use Rattle.lwc_types.specs.declared.size.Summary.{Summary}
use Rattle.lwc_types.specs.Faults.{fault_number}
use Rattle.snapshot_host.specs.declared.finishing.Finished.{Finished}

-- bytes as lower-case hexadecimal, two digits each; a dash where there are none
unfoldable pub bytes_text : List ℕ → List ℕ
bytes_text bytes = if length bytes == 0 then codes "-" else encode_lower bytes

-- steps as the hexadecimal digits of their threads; a dash where there are none
unfoldable pub steps_text : List ℕ → List ℕ
steps_text steps = if length steps == 0 then codes "-" else flat_map (λ t. digits 16 false t) steps

-- the status of a thread
unfoldable pub status_text : ThreadStatus → List ℕ
status_text Idle = codes "idle"
status_text Running = codes "running"
status_text (Done code) = codes "done " ++ decimal code
status_text (Faulted fault) = codes "fault " ++ decimal (fault_number fault)

-- a context's name: its job, and its number there
unfoldable pub name_text : Name → List ℕ
name_text name = decimal name.job ++ codes "." ++ decimal name.k

-- a thread: its status, its context, and its next instruction
unfoldable pub thread_line : ℕ → ThreadStatus → Name → ℕ → List ℕ
thread_line t status context pc =
    codes "thread " ++ decimal t ++ codes " " ++ status_text status
    ++ codes " ctx " ++ name_text context ++ codes " pc " ++ decimal pc ++ codes "\n"

-- the registers of a thread
unfoldable pub regs_line : ℕ → List ℕ → List ℕ
regs_line t registers =
    codes "regs " ++ decimal t ++ flat_map (λ r. codes " " ++ decimal r) registers ++ codes "\n"

-- the two lines of a thread
unfoldable pub thread_lines : ℕ → ThreadView → List ℕ
thread_lines t view = thread_line t view.status view.context view.regs.pc ++ regs_line t view.regs.r

-- a context: the number of its pages and of its filled slots, and its uid
unfoldable pub context_line : Name → Summary → List ℕ
context_line name summary =
    codes "context " ++ name_text name ++ codes " pages " ++ decimal summary.pages
    ++ codes " slots " ++ decimal summary.slots ++ codes " uid " ++ decimal summary.uid ++ codes "\n"

-- a trapped context, and the one that traps it
unfoldable pub trap_line : Name → Name → List ℕ
trap_line trapped monitor = codes "trap " ++ name_text trapped ++ codes " by " ++ name_text monitor ++ codes "\n"

-- the number of groups
unfoldable pub groups_line : ℕ → List ℕ
groups_line groups = codes "groups " ++ decimal groups ++ codes "\n"

-- what a report says of a reply: how its request ended and its bytes, or that it is not there
unfoldable pub reply_text : Option Finished → List ℕ
reply_text None = codes "none"
reply_text (Some finished) = status_text finished.status ++ codes " " ++ bytes_text finished.bytes

-- the reply of a request
unfoldable pub reply_line : ℕ → Option Finished → List ℕ
reply_line r finished = codes "reply " ++ decimal r ++ codes " " ++ reply_text finished ++ codes "\n"

-- what was written to the console
abbrev pub console_line : List ℕ → List ℕ
console_line console = codes "console " ++ bytes_text console ++ codes "\n"

-- the number of frames in use
abbrev pub used_line : ℕ → List ℕ
used_line used = codes "used " ++ decimal used ++ codes "\n"

-- the most frames that were in use
abbrev pub peak_line : ℕ → List ℕ
peak_line peak = codes "peak " ++ decimal peak ++ codes "\n"

-- the number of steps that were kept
abbrev pub count_line : ℕ → List ℕ
count_line count = codes "steps " ++ decimal count ++ codes "\n"

-- the steps that were kept
abbrev pub schedule_line : List ℕ → List ℕ
schedule_line steps = codes "schedule " ++ steps_text steps ++ codes "\n"

-- the last five lines
unfoldable pub tail_lines : List ℕ → ℕ → ℕ → List ℕ → List ℕ
tail_lines console used peak steps =
    console_line console ++ used_line used ++ peak_line peak
    ++ count_line (length steps) ++ schedule_line steps
