-- A session: requests one after another, each served alone from the image that the session has come to.
use Rattle.std.specs.Prelude.{ℕ, ◌+◌, ◌++◌, Bool, false, true, List, [], ◌∷◌, Option, None, Some, codes}
use Rattle.std.specs.Prelude.{decimal, is_some, max, replicate}
use Rattle.std.specs.FinMap as fm
use Rattle.std.specs.List.{enumerate_from, flat_map}
use Rattle.guest_image.specs.declared.image.Image.{Image}
use Rattle.guest_image.specs.declared.image.PageImage.{PageImage}
use Rattle.kernel_core.specs.Machine.{Machine}
use Rattle.kernel_core.specs.Runs.{frames_of, peak}
use Rattle.kernel_core.specs.Start.{Inputs, inputs_of, start}
use Rattle.kernel_core.specs.Step.{step}
use Rattle.kernel_core.specs.declared.settings.Settings.{Settings}
use Rattle.lwc_session.specs.Served.{Served, served}
use Rattle.lwc_text.specs.Lines.{bytes_text, groups_line, reply_line, tail_lines}
use Rattle.lwc_text.specs.Report.{contexts_text, threads_text}
use Rattle.snapshot_host.specs.declared.finishing.Finished.{Finished}

-- a reply, and whether its request was kept
pub record Reply : Type 0 where
  pub finished : Option Finished
  pub kept : Bool

-- a session so far: the image that it has come to, the replies in order, the steps, and the most frames in use
pub record Session : Type 0 where
  pub image : Image
  pub replies : List Reply
  pub steps : ℕ
  pub peak : ℕ

-- a session in which no request was served
abbrev pub begun : Image → Session
begun image = record { image = image; replies = []; steps = 0; peak = 0 }

-- the image with the pages of a request that was kept; else the image as it is
abbrev pub image_with : Image → Option (List PageImage) → Image
image_with image None = image
image_with image (Some pages) = record image { pages = pages }

-- the session once this has come of one more request
abbrev pub with_served : Session → Served → Session
with_served s it = record {
  image = image_with s.image it.pages;
  replies = s.replies ++ record { finished = it.reply; kept = is_some it.pages } ∷ [];
  steps = s.steps + it.steps;
  peak = max s.peak it.peak;
}

-- the session after one more request, which is served alone from the image so far
unfoldable pub after_request : Settings → Session → List ℕ → Session
after_request settings s request = with_served s (served (inputs_of s.image (request ∷ []) settings))

-- the session after these requests, one after another
abbrev pub after_requests : Settings → Session → List (List ℕ) → Session
after_requests settings s [] = s
after_requests settings s (request ∷ requests) = after_requests settings (after_request settings s request) requests

-- the session of all requests
unfoldable pub session_of : Inputs → Session
session_of inputs = after_requests inputs.settings (begun inputs.image) inputs.requests

-- the image that it leaves
abbrev pub image_after : Inputs → Image
image_after inputs = (session_of inputs).image

-- the line of a reply that was kept
abbrev pub kept_line : ℕ → List ℕ → List ℕ
kept_line r bytes = codes "reply " ++ decimal r ++ codes " kept 0 " ++ bytes_text bytes ++ codes "\n"

-- the line of the reply to the request of a number
unfoldable pub served_line : ℕ → Option Finished → Bool → List ℕ
served_line r (Some finished) true = kept_line r finished.bytes
served_line r finished kept = reply_line r finished

-- the lines of replies, in order
unfoldable pub lines_of : List Reply → List ℕ
lines_of replies = flat_map (λ e. served_line e.0 e.1.finished e.1.kept) (enumerate_from 0 replies)

-- the worker that waits for a request of a session, and finds no more
abbrev pub last_start : Session → Settings → Machine
last_start s settings = start (inputs_of s.image [] settings)

-- the report of a session, in which the worker makes one step more, and ends
unfoldable pub report_of : Settings → Session → List ℕ
report_of settings s = let m = step (last_start s settings) 0 in
    threads_text m ++ contexts_text m.environment.world ++ groups_line (fm.len m.environment.world.groups)
    ++ lines_of s.replies
    ++ tail_lines m.environment.channels.console (frames_of m) (max s.peak (peak (last_start s settings) (0 ∷ [])))
    (replicate (s.steps + 1) 0)

-- the report of the session of all requests
abbrev pub session_text : Inputs → List ℕ
session_text inputs = report_of inputs.settings (session_of inputs)
