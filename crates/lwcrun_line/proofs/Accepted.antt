-- The numbers of an accepted line are within their limits.
use Rattle.std.proofs.Common.{◌≡◌, ◌≤◌, ℕ, Bool, true, false, cond, List, Option, None, Some, refl, sym, subst, ap, arith}
use Rattle.std.specs.Prelude.{◌&&◌, is_some, nat_le}
use Rattle.std.specs.Option.{option_and_then, option_map}
use Rattle.std.proofs.lemmas.Bool.Decides.{nat_tests}
use Rattle.std.proofs.lemmas.Option.{option_and_then_some}
use Rattle.kernel_core.specs.Settings.{IsJob, IsSettings}
use Rattle.kernel_core.specs.declared.settings.Job.{Job}
use Rattle.kernel_core.specs.declared.settings.Job.TheVariants as jobs
use Rattle.kernel_core.specs.declared.settings.Settings.{Settings}
use Rattle.lwc_types.specs.declared.limits.TheConstants.{MOST_BUDGET, MOST_FRAMES, MOST_THREADS}
use Rattle.lwcrun_line.specs.Arguments.{Arguments, arguments_of}
use Rattle.lwcrun_line.specs.declared.line.Choice.{Choice}
use Rattle.lwcrun_line.specs.declared.mode.Mode.{Mode}
use Rattle.lwcrun_line.specs.declared.mode.Mode.TheVariants as modes
use Rattle.lwcrun_line.specs.declared.mode.Options.{Options}
use Rattle.lwcrun_line.specs.declared.mode.Options.TheVariants as options
use Rattle.lwcrun_line.specs.Lines.{AreGivenBy, AreRunSettings, AreServeSettings, Command, IsGivenBy, IsWithinLimits, asked_in, budget_of, choice_in, choice_of, command_by, command_of, command_with, frames_of, number_by, number_or, places_in, run_settings_of, serve_settings_of, settings_by, settings_for, settings_of, workers_of}
use Rattle.lwcrun_line.specs.Modes.{mode_called, row_of}
use Rattle.lwc_text.specs.Numbers.{number_of}
use Rattle.lwcrun_line.specs.Numbers.{kept_within, number_within}

-- an option whose value is mapped has one
mapped_some : {A B : Type 0} (f : A → B) (o : Option A) (y : B) → option_map f o ≡ Some y → (x : A) × (o ≡ Some x) × (f x ≡ y)
mapped_some f (Some x) y e = (x, refl, cc)
mapped_some f None y e = absurd cc

-- one of two branches gave the value
by_branch : {A P : Type 0} (b : Bool) (first second : Option A) (y : A) → (first ≡ Some y → P) → (second ≡ Some y → P) → cond b first second ≡ Some y → P
by_branch true first second y f g e = f e
by_branch false first second y f g e = g e

-- a branch without a value did not give it
not_none : {A P : Type 0} (y : A) → (let none : Option A = None in none ≡ Some y) → P
not_none y e = absurd cc

kept_by : (least most n m : ℕ) (b : Bool) → (nat_le least n && nat_le n most) ≡ b → cond b (Some n) None ≡ Some m → (least ≤ m) × (m ≤ most)
kept_by least most n m true is e =
    let same : n ≡ m = cc in
    let low : least ≤ n = grind (arith, nat_tests) in
    let high : n ≤ most = grind (arith, nat_tests) in
    (subst (λ k. least ≤ k) same low, subst (λ k. k ≤ most) same high)
kept_by least most n m false is e = absurd cc

number_is_within : (least most : ℕ) (word : List ℕ) (m : ℕ) → number_within least most word ≡ Some m → (least ≤ m) × (m ≤ most)
unfolding number_within
number_is_within least most word m e =
    option_and_then_some (kept_within least most) (number_of word) m e (λ n found kept. kept_by least most n m (nat_le least n && nat_le n most) refl kept)

number_or_within : (default most : ℕ) (word : Option (List ℕ)) (m : ℕ) → 1 ≤ default → default ≤ most → number_or default most word ≡ Some m → (1 ≤ m) × (m ≤ most)
number_or_within default most None m low high e =
    let same : default ≡ m = cc in (subst (λ k. 1 ≤ k) same low, subst (λ k. k ≤ most) same high)
number_or_within default most (Some word) m low high e = number_is_within 1 most word m e

settings_within : (job : Job) (a : Arguments) (settings : Settings) → IsJob job → settings_of job a ≡ Some settings → IsSettings settings × (settings.job ≡ job)
settings_within job a settings is e =
    option_and_then_some (λ frames. option_map (settings_for job frames) (budget_of a)) (frames_of a) settings e (λ frames found rest.
    let budget = mapped_some (settings_for job frames) (budget_of a) settings rest in
    let frames_in = number_or_within 4096 MOST_FRAMES a.frames frames (omega arith) (omega arith) found in
    let budget_in = number_or_within 10000 MOST_BUDGET a.budget budget.0 (omega arith) (omega arith) budget.1 in
    let made : IsSettings (settings_for job frames budget.0) = record { frames = frames_in; budget = budget_in; job = is } in
    (subst IsSettings budget.2 made, sym (ap (λ (s : Settings). s.job) budget.2)))

run_within : (a : Arguments) (settings : Settings) → run_settings_of a ≡ Some settings → AreRunSettings settings
run_within a settings e =
    by_branch (is_some a.workers) None _ settings (not_none settings) (λ rest.
    let h = settings_within jobs.Run a settings tt rest in record { limits = h.0; job = h.1 }) e

serve_within : (a : Arguments) (settings : Settings) → serve_settings_of a ≡ Some settings → AreServeSettings settings
serve_within a settings e =
    option_and_then_some (λ workers. settings_of (jobs.Serve workers) a) (workers_of a) settings e (λ workers found rest.
    let few = number_or_within 4 MOST_THREADS a.workers workers (omega arith) (omega arith) found in
    let h = settings_within (jobs.Serve workers) a settings few rest in
    record { limits = h.0; workers = workers; job = h.1 })

abbrev made_of : Mode → Settings → ℕ → Choice
made_of mode settings number = record { mode = mode; settings = settings; number = number }

settings_given : (options : Options) (a : Arguments) (settings : Settings) → settings_by options a ≡ Some settings → AreGivenBy options settings
settings_given options.Nothing a settings e = tt
settings_given options.Number a settings e = tt
settings_given options.Run a settings e = run_within a settings e
settings_given options.Serve a settings e = serve_within a settings e

number_given : (options : Options) (a : Arguments) (number : ℕ) → number_by options a ≡ Some number → IsGivenBy options number
number_given options.Number a number e =
    option_and_then_some (number_within 1 100) a.first number e (λ word here found. number_is_within 1 100 word number found)
number_given options.Nothing a number e = tt
number_given options.Run a number e = tt
number_given options.Serve a number e = tt

-- what a mode's options give is within their limits
choice_given : (a : Arguments) (mode : Mode) (chosen : Choice) → choice_of a mode ≡ Some chosen → AreGivenBy (row_of chosen.mode).options chosen.settings × IsGivenBy (row_of chosen.mode).options chosen.number
choice_given a mode chosen e =
    option_and_then_some (λ settings. option_map (made_of mode settings) (number_by (row_of mode).options a)) (settings_by (row_of mode).options a) chosen e (λ settings found rest.
    let number = mapped_some (made_of mode settings) (number_by (row_of mode).options a) chosen rest in
    subst (λ (c : Choice). AreGivenBy (row_of c.mode).options c.settings × IsGivenBy (row_of c.mode).options c.number) number.2
    (settings_given (row_of mode).options a settings found, number_given (row_of mode).options a number.0 number.1))

-- a mode's command has the limits of its options
within_with : (mode : Mode) (first second third : List ℕ) (settings : Settings) (number : ℕ) → AreGivenBy (row_of mode).options settings → IsGivenBy (row_of mode).options number → IsWithinLimits (command_with mode first second third settings number)
within_with modes.Replay first second third settings number given said = given
within_with modes.ReplayServe first second third settings number given said = given
within_with modes.Run first second third settings number given said = given
within_with modes.Serve first second third settings number given said = given
within_with modes.Asm first second third settings number given said = tt
within_with modes.Dis first second third settings number given said = tt
within_with modes.Gen first second third settings number given said = said
within_with modes.Lift first second third settings number given said = tt
within_with modes.Monitor first second third settings number given said = given
within_with modes.Guard first second third settings number given said = given
within_with modes.Vault first second third settings number given said = given
within_with modes.Debug first second third settings number given said = given
within_with modes.Stream first second third settings number given said = given

-- the numbers of an accepted line are within their limits
pub accepted_is_within : (words : List (List ℕ)) (command : Command) → command_of words ≡ Some command → IsWithinLimits command
unfolding command_of
accepted_is_within words command e =
    option_and_then_some (λ a. option_and_then (λ word. asked_in word a) a.mode) (arguments_of words) command e (λ a found rest.
    option_and_then_some (λ word. asked_in word a) a.mode command rest (λ word there asked.
    let chosen = mapped_some (λ (c : Choice). command_by a c.mode c.settings c.number) (choice_in word a) command asked in
    let given = option_and_then_some (choice_of a) (mode_called word (places_in a.first a.second a.third)) chosen.0 chosen.1 (λ mode called choice. choice_given a mode chosen.0 choice) in
    subst IsWithinLimits chosen.2 (within_with chosen.0.mode _ _ _ chosen.0.settings chosen.0.number given.0 given.1)))
