use Rattle.std.proofs.Common.{◌≡◌, ◌∙◌, ap, subst, sym}
use Rattle.lwc_base.specs.Cells.{put_at}
use Rattle.lwc_base.specs.World.{Context}
use Rattle.whole_world.specs.Holders.{holder_of}
use Rattle.whole_world.specs.KeyValues.{key_in, value_in}
use Rattle.whole_world.specs.Rows.{context_of}
use Rattle.whole_world.specs.Worlds.{seen}
use Rattle.whole_world.proofs.Keyed.{is-nobody, put-group, put-nobody}
use Rattle.whole_world.proofs.Worlds.{held-key}
use Rattle.whole_world.proofs.world.WholeWorld.put.Goals as goal

pub put_own-requires-clause-within : goal.put_own-requires-clause-within
put_own-requires-clause-within c =
    let is_row = subst (λ k. c.holder.result ≡ holder_of k ((context_of c.row.result.now).cell k)) c.key.ensures c.holder.ensures in
    held-key _ c.row.result.now (key_in c.args.value) c.row.ensures.whole c.requires.within (λ nobody. let h = is_row ∙ nobody in cc)

pub put_own-requires-clause-own : goal.put_own-requires-clause-own
put_own-requires-clause-own c =
    let is_row = subst (λ k. c.holder.result ≡ holder_of k ((context_of c.row.result.now).cell k)) c.key.ensures c.holder.ensures in
    ap (λ (x : Context). holder_of (key_in c.args.value) (x.cell (key_in c.args.value))) c.row.ensures.context ∙ sym is_row ∙ c.in-Own.is

pub put_common-requires : goal.put_common-requires
put_common-requires c =
    let is_row = subst (λ k. c.holder.result ≡ holder_of k ((context_of c.row.result.now).cell k)) c.key.ensures c.holder.ensures in
    held-key _ c.row.result.now (key_in c.args.value) c.row.ensures.whole c.requires.within (λ nobody. let h = is_row ∙ nobody in cc)

pub returns-in-Group : goal.returns-in-Group
unfolding put_at
returns-in-Group c =
    let is_row = subst (λ k. c.holder.result ≡ holder_of k ((context_of c.row.result.now).cell k)) c.key.ensures c.holder.ensures in
    let is_here = ap (λ (x : Context). holder_of (key_in c.args.value) (x.cell (key_in c.args.value))) c.row.ensures.context ∙ sym is_row ∙ c.in-Group.is in
    c.put_common.ensures ∙ sym (put-group (seen c.args.self.now) c.args.context (key_in c.args.value) (value_in c.args.value) _ c.in-Group.g is_here)

pub returns-in-Nobody : goal.returns-in-Nobody
unfolding put_at
returns-in-Nobody c =
    let is_row = subst (λ k. c.holder.result ≡ holder_of k ((context_of c.row.result.now).cell k)) c.key.ensures c.holder.ensures in
    let is_here = ap (λ (x : Context). holder_of (key_in c.args.value) (x.cell (key_in c.args.value))) c.row.ensures.context ∙ sym is_row in
    sym (put-nobody (seen c.args.self.now) c.args.context (key_in c.args.value) (value_in c.args.value) _ (is-nobody (key_in c.args.value) _ _ is_here c.in-Nobody.is))
