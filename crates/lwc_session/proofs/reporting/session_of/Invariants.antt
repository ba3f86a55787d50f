use Rattle.lwc_session.proofs.Sittings.{IsComeTo}
use Rattle.lwc_session.proofs.reporting.session_of.Given as goal

-- the session of the requests so far
abbrev pub invariant-requests : goal.invariant-requests
invariant-requests g l = IsComeTo l.settings l.fn.image l.requests l.r l.session
