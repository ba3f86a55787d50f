use Rattle.std.proofs.Common.{◌≡◌, ◌∙◌, Some, sym}
use Rattle.lwc_base.specs.Channels.{bytes_in}
use Rattle.request_isolation.proofs.Isolated.{had_never_short, had_spared, recorded_spared}
use Rattle.request_isolation.specs.Alone.{alone}
use Rattle.request_isolation.proofs.laws.a_reply_is_that_of_its_request_alone_unless_frames_ran_short.Goals as goal

pub returns-clause-reply : goal.returns-clause-reply
returns-clause-reply c inputs steps r told can spared is = recorded_spared inputs can steps r told is spared

pub returns-clause-spared : goal.returns-clause-spared
returns-clause-spared c inputs steps workers r can serve had = had_spared inputs workers can serve r steps had

pub returns-clause-never_short : goal.returns-clause-never_short
returns-clause-never_short c inputs before rest workers t can serve had short = had_never_short inputs workers can serve before rest t had short

pub returns-clause-same : goal.returns-clause-same
returns-clause-same c a b s u r told other can also image budget bytes spared too is there =
    let first = recorded_spared a can s r told is spared in
    let second = recorded_spared b also u r other there too in
    let alike : alone a.image a.settings.budget r (bytes_in a.requests r) ≡ alone b.image b.settings.budget r (bytes_in b.requests r) =
    λ i. alone (image i) (budget i) r (bytes i) in
    let both : Some told ≡ Some other = sym first ∙ alike ∙ second in
    cc
