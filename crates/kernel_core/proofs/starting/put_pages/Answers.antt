use Rattle.kernel_core.proofs.Building.{image_page_can, image_page_put}
use Rattle.kernel_core.proofs.starting.put_pages.Goals as goal

pub put_page-requires-after_bounds : goal.put_page-requires-after_bounds
put_page-requires-after_bounds g c κs within = image_page_can _ c.requires.image _ _ c.get.ensures _ c.requires.frames _ c.pages.invariant

pub pages-preserved : goal.pages-preserved
pages-preserved g c = image_page_put _ c.requires.image _ _ c.get.ensures _ c.requires.frames _ c.pages.invariant _ c.in_ok-put_page.ensures
