-- What a line of words asks for.
use Rattle.std.specs.Prelude.{◌≡◌, ◌≤◌, ℕ, ◌||◌, if◌then◌else◌, List, [], Option, None, Some, is_some}
use Rattle.std.specs.Prelude.{string_bytes, unwrap_or}
use Rattle.std.specs.Option.{option_map, option_and_then}
use Rattle.kernel_core.specs.Settings.{IsSettings}
use Rattle.kernel_core.specs.declared.settings.Settings.{Settings}
use Rattle.kernel_core.specs.declared.settings.Job.{Job}
use Rattle.kernel_core.specs.declared.settings.Job.TheVariants as jobs
use Rattle.lwc_types.specs.declared.limits.TheConstants.{MOST_BUDGET, MOST_FRAMES, MOST_THREADS}
use Rattle.lwcrun_line.specs.declared.line.Choice.{Choice}
use Rattle.lwcrun_line.specs.declared.line.Line.{Line}
use Rattle.lwcrun_line.specs.declared.line.Line.TheVariants as lines
use Rattle.lwcrun_line.specs.declared.mode.Mode.{Mode}
use Rattle.lwcrun_line.specs.declared.mode.Mode.TheVariants as modes
use Rattle.lwcrun_line.specs.declared.mode.Options.{Options}
use Rattle.lwcrun_line.specs.declared.mode.Options.TheVariants as options
use Rattle.lwcrun_line.specs.Arguments.{Arguments, arguments_of}
use Rattle.lwcrun_line.specs.Modes.{mode_called, row_of}
use Rattle.lwcrun_line.specs.Numbers.{number_within}

-- what is asked for, each file by its name: an image under a schedule, a serve where there are requests; the
-- run of an image; the serve of requests by an image; the image of a source; the source of an image; the
-- serve that is generated from a number; the lifted image of an image; an image under a schedule, in whose run
-- contexts may be trapped, or trapped and guarded; an image beside a vault under a schedule; an image under a schedule,
-- of whose run a script is answered; the serve of requests by an image, each of whose replies is written as soon as it can be
pub data Command : Type 0 where
  Replay : List ℕ → List ℕ → Option (List ℕ) → Settings → Command
  Run : List ℕ → Settings → Command
  Serve : List ℕ → List ℕ → Settings → Command
  Asm : List ℕ → Command
  Dis : List ℕ → Command
  Gen : ℕ → Command
  Lift : List ℕ → Command
  Monitor : List ℕ → List ℕ → Settings → Command
  Guard : List ℕ → List ℕ → Settings → Command
  Vault : List ℕ → List ℕ → List ℕ → Settings → Command
  Debug : List ℕ → List ℕ → List ℕ → Settings → Command
  Stream : List ℕ → List ℕ → Settings → Command

-- settings of a run, within their limits
pub record AreRunSettings (settings : Settings) : Type 0 where
  pub limits : IsSettings settings
  pub job : settings.job ≡ jobs.Run

-- settings of a serve, within their limits
pub record AreServeSettings (settings : Settings) : Type 0 where
  pub limits : IsSettings settings
  pub workers : ℕ
  pub job : settings.job ≡ jobs.Serve workers

-- the number that an option has: one within its limits, or the default where the option is not there
abbrev pub number_or : ℕ → ℕ → Option (List ℕ) → Option ℕ
number_or default most None = Some default
number_or default most (Some word) = number_within 1 most word

-- the number of frames: 4096 where the line has none
abbrev pub frames_of : Arguments → Option ℕ
frames_of a = number_or 4096 MOST_FRAMES a.frames

-- the number of steps of a thread: 10000 where the line has none
abbrev pub budget_of : Arguments → Option ℕ
budget_of a = number_or 10000 MOST_BUDGET a.budget

-- the number of workers: 4 where the line has none
abbrev pub workers_of : Arguments → Option ℕ
workers_of a = number_or 4 MOST_THREADS a.workers

-- the settings of a job
abbrev pub settings_for : Job → ℕ → ℕ → Settings
settings_for job frames budget = record { frames = frames; budget = budget; job = job }

-- the settings of a line for a job, where neither number is refused
abbrev pub settings_of : Job → Arguments → Option Settings
settings_of job a = option_and_then (λ frames. option_map (settings_for job frames) (budget_of a)) (frames_of a)

-- the settings of a run, which takes no workers, where no number is refused
abbrev pub run_settings_of : Arguments → Option Settings
run_settings_of a = if is_some a.workers then None else settings_of jobs.Run a

-- the settings of a serve, where no number is refused
abbrev pub serve_settings_of : Arguments → Option Settings
serve_settings_of a = option_and_then (λ workers. settings_of (jobs.Serve workers) a) (workers_of a)

-- the settings of a mode that takes no option
abbrev pub default_settings : Settings
default_settings = settings_for jobs.Run 4096 10000

-- the default, where the line has no option
abbrev pub unset : {A : Type 0} → A → Arguments → Option A
unset default a = if is_some a.frames || is_some a.budget || is_some a.workers then None else Some default

-- the settings of a line by the options of its mode, where none is refused
abbrev pub settings_by : Options → Arguments → Option Settings
settings_by options.Nothing a = unset default_settings a
settings_by options.Number a = unset default_settings a
settings_by options.Run a = run_settings_of a
settings_by options.Serve a = serve_settings_of a

-- the number of a line by the options of its mode: one from 1 to 100, or 0 where the mode takes none
abbrev pub number_by : Options → Arguments → Option ℕ
number_by options.Number a = option_and_then (number_within 1 100) a.first
number_by options a = Some 0

-- how many words are behind the mode
abbrev pub places_in : Option (List ℕ) → Option (List ℕ) → Option (List ℕ) → ℕ
places_in (Some first) (Some second) (Some third) = 3
places_in (Some first) (Some second) None = 2
places_in (Some first) None None = 1
places_in first second third = 0

-- the command of a mode with these words behind it; a row says how many there are, and the others are not used
abbrev pub command_with : Mode → List ℕ → List ℕ → List ℕ → Settings → ℕ → Command
command_with modes.Replay first second third settings number = Replay first second None settings
command_with modes.ReplayServe first second third settings number = Replay first second (Some third) settings
command_with modes.Run first second third settings number = Run first settings
command_with modes.Serve first second third settings number = Serve first second settings
command_with modes.Asm first second third settings number = Asm first
command_with modes.Dis first second third settings number = Dis first
command_with modes.Gen first second third settings number = Gen number
command_with modes.Lift first second third settings number = Lift first
command_with modes.Monitor first second third settings number = Monitor first second settings
command_with modes.Guard first second third settings number = Guard first second settings
command_with modes.Vault first second third settings number = Vault first second third settings
command_with modes.Debug first second third settings number = Debug first second third settings
command_with modes.Stream first second third settings number = Stream first second settings

-- what a mode asks for with these arguments
abbrev pub command_by : Arguments → Mode → Settings → ℕ → Command
command_by a mode settings number =
    command_with mode (unwrap_or a.first []) (unwrap_or a.second []) (unwrap_or a.third []) settings number

-- what a mode's options say, where it takes those of the line
abbrev pub choice_of : Arguments → Mode → Option Choice
choice_of a mode =
    option_and_then (λ settings. option_map (λ number. record { mode = mode; settings = settings; number = number })
    (number_by (row_of mode).options a)) (settings_by (row_of mode).options a)

-- the mode of a word and of the words behind it, and what its options say
abbrev pub choice_in : List ℕ → Arguments → Option Choice
choice_in word a = option_and_then (choice_of a) (mode_called word (places_in a.first a.second a.third))

-- what the arguments ask for
abbrev pub asked_in : List ℕ → Arguments → Option Command
asked_in word a = option_map (λ chosen. command_by a chosen.mode chosen.settings chosen.number) (choice_in word a)

-- what the words ask for, the program's name first; none where the line is not accepted
unfoldable pub command_of : List (List ℕ) → Option Command
command_of words = option_and_then (λ a. option_and_then (λ mode. asked_in mode a) a.mode) (arguments_of words)

-- settings that these options may give, if they say any
abbrev pub AreGivenBy : Options → Settings → Type 0
AreGivenBy options.Run settings = AreRunSettings settings
AreGivenBy options.Serve settings = AreServeSettings settings
AreGivenBy options settings = Unit {0}

-- a number that these options may give, if they say one
abbrev pub IsGivenBy : Options → ℕ → Type 0
IsGivenBy options.Number number = (1 ≤ number) × (number ≤ 100)
IsGivenBy options number = Unit {0}

-- what a line that was read asks for
abbrev pub asked_by : Line → Command
asked_by (lines.Replay image schedule requests settings) =
    Replay (string_bytes image) (string_bytes schedule) (option_map string_bytes requests) settings
asked_by (lines.Run image settings) = Run (string_bytes image) settings
asked_by (lines.Serve image requests settings) = Serve (string_bytes image) (string_bytes requests) settings
asked_by (lines.Asm source) = Asm (string_bytes source)
asked_by (lines.Dis image) = Dis (string_bytes image)
asked_by (lines.Gen number) = Gen number
asked_by (lines.Lift image) = Lift (string_bytes image)
asked_by (lines.Monitor image schedule settings) = Monitor (string_bytes image) (string_bytes schedule) settings
asked_by (lines.Guard image schedule settings) = Guard (string_bytes image) (string_bytes schedule) settings
asked_by (lines.Vault image vault schedule settings) =
    Vault (string_bytes image) (string_bytes vault) (string_bytes schedule) settings
asked_by (lines.Debug image schedule script settings) =
    Debug (string_bytes image) (string_bytes schedule) (string_bytes script) settings
asked_by (lines.Stream image requests settings) = Stream (string_bytes image) (string_bytes requests) settings

-- the settings of a replay are within their limits: those of a run, or of a serve where there are requests
abbrev pub AreReplaySettings : {A : Type 0} → Option A → Settings → Type 0
AreReplaySettings None settings = AreRunSettings settings
AreReplaySettings (Some requests) settings = AreServeSettings settings

-- the numbers of a command are within their limits, if it has any
abbrev pub IsWithinLimits : Command → Type 0
IsWithinLimits (Replay image schedule requests settings) = AreReplaySettings requests settings
IsWithinLimits (Run image settings) = AreRunSettings settings
IsWithinLimits (Serve image requests settings) = AreServeSettings settings
IsWithinLimits (Asm source) = Unit {0}
IsWithinLimits (Dis image) = Unit {0}
IsWithinLimits (Gen number) = (1 ≤ number) × (number ≤ 100)
IsWithinLimits (Lift image) = Unit {0}
IsWithinLimits (Monitor image schedule settings) = AreRunSettings settings
IsWithinLimits (Guard image schedule settings) = AreRunSettings settings
IsWithinLimits (Vault image vault schedule settings) = AreRunSettings settings
IsWithinLimits (Debug image schedule script settings) = AreRunSettings settings
IsWithinLimits (Stream image requests settings) = AreServeSettings settings

-- the command is a stream
abbrev pub IsStream : Command → Type 0
IsStream (Stream image requests settings) = Unit {0}
IsStream command = ⊥

-- the command runs threads
abbrev pub RunsThreads : Command → Type 0
RunsThreads (Run image settings) = Unit {0}
RunsThreads (Serve image requests settings) = Unit {0}
RunsThreads (Gen number) = Unit {0}
RunsThreads (Stream image requests settings) = Unit {0}
RunsThreads command = ⊥
