use Rattle.lwc_base.proofs.Overlays.{overlay-others, overlay-unnamed}
use Rattle.lwc_base.proofs.laws.overlaying.an_overlay_changes_what_it_names.Goals as goal

pub returns-clause-unnamed : goal.returns-clause-unnamed
returns-clause-unnamed c = overlay-unnamed

pub returns-clause-others : goal.returns-clause-others
returns-clause-others c = overlay-others
