use Rattle.access_cap.proofs.Keys.{HasWords, IsMeetWord}
use Rattle.access_cap.proofs.sets.meet.Given as goal

abbrev pub invariant-words : goal.invariant-words
invariant-words l = HasWords (IsMeetWord l.cap l.items) l.i l.words
