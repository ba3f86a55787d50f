use Rattle.std.proofs.Common.{[], refl, ◌∙◌, ap, set, arith}
use Rattle.std.proofs.Math.ListN.{length-set}
use Rattle.std.proofs.lemmas.List.{get_or_default}
use Rattle.lwc_types.specs.Pages.{zero_page}
use Rattle.pool_base.specs.Padded.{padded}
use Rattle.pool_base.proofs.PaddedLemmas.{padded-set, padded-push}
use Rattle.frame_pool.proofs.pool.put_copy.Goals as goal

pub returns-then-place-len-clause-padded : goal.returns-then-place-len-clause-padded
returns-then-place-len-clause-padded c = λ size lt.
    let bytes = c.index-bytes.ensures ∙ get_or_default c.args.frames.now.items c.args.from _ [] c.requires.from in
    padded-set size zero_page _ _ c.args.place c.index-bytes.result.now (omega arith) refl (length-set c.args.frames.now.items c.args.place c.index-bytes.result.now)
    ∙ ap (set (padded size zero_page c.args.frames.now.items) c.args.place) bytes

pub returns-else-place-len-clause-padded : goal.returns-else-place-len-clause-padded
returns-else-place-len-clause-padded c = λ size lt.
    let bytes = c.index-bytes.ensures ∙ get_or_default c.args.frames.now.items c.args.from _ [] c.requires.from in
    padded-push size zero_page _ _ c.args.place c.index-bytes.result.now (omega arith) lt c.push_reserved.ensures.items
    ∙ ap (set (padded size zero_page c.args.frames.now.items) c.args.place) bytes
