use Rattle.std.proofs.Common.{◌∙◌, ap, sym}
use Rattle.std.specs.Prelude.{count_by, is_some, not}
use Rattle.std.specs.List.{range_with_len}
use Rattle.lwc_base.specs.Cells.{value_at, value_of}
use Rattle.lwc_base.specs.Summaries.{is_empty, summary_of}
use Rattle.lwc_base.specs.World.{Context}
use Rattle.lwc_types.specs.declared.key.TheConstants.{SLOTS}
use Rattle.lwc_types.specs.declared.key.Key.TheVariants.{Page, Slot}
use Rattle.lazy_world.specs.Worlds.{parts, seen}
use Rattle.lazy_world.proofs.world.PlacedWorld.summary.Goals as goal

pub returns : goal.returns
unfolding value_at parts summary_of
returns c =
    let w = seen c.args.self.now in
    let same = sym c.place-i.ensures.context in
    λ e. record {
      pages = (c.present_count.ensures.present ∙ ap (λ (x : Context). count_by (λ p. is_some (value_of w (Page p) (x.cell (Page p)))) (range_with_len 0 w.size.pages)) same) e;
      slots = (c.filled_count.ensures.filled ∙ ap (λ (x : Context). count_by (λ n. not (is_empty (value_of w (Slot n) (x.cell (Slot n))))) (range_with_len 0 SLOTS)) same) e;
      uid = c.uid.ensures e;
    }
