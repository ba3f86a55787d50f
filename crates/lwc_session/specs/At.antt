-- What the code's session stands for.
use Rattle.std.specs.Prelude.{◌≡◌, length}
use Rattle.lwc_session.specs.Sessions.{Session, lines_of}
use Rattle.lwc_session.specs.declared.session.Session as code

-- a session of the code is this one, with the lines of its replies
pub record IsAt (now : code.Session) (s : Session) : Type 0 where
  pub image : now.image ≡ s.image
  pub replies : now.replies.items ≡ lines_of s.replies
  pub served : now.served ≡ length s.replies
  pub steps : now.steps ≡ s.steps
  pub peak : now.peak ≡ s.peak
