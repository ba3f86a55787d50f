use Rattle.std.proofs.Common.{refl}
use Rattle.lwc_base.specs.Jobs.{own_names}
use Rattle.lwc_base.proofs.Holders.{keeps-add_context, keeps-empty_world}
use Rattle.lwc_base.proofs.Jobs.{jobs-add_new_context, jobs-after_store, jobs-clone, jobs-map_pages, jobs-overlay, jobs-put_slot, jobs-put_uid, jobs-save, jobs-share, jobs-slot_at, jobs-unmap_pages}
use Rattle.lwc_base.proofs.Reaps.{keeps-reap}
use Rattle.lwc_base.proofs.laws.jobs.names_keep_to_their_jobs.Goals as goal

pub returns : goal.returns
returns c = record {
  empty = keeps-empty_world own_names;
  first = jobs-add_new_context;
  add = keeps-add_context own_names;
  slot = jobs-put_slot;
  uid = jobs-put_uid;
  map = jobs-map_pages;
  unmap = jobs-unmap_pages;
  store = jobs-after_store;
  share = λ w c items live. jobs-share w c c.job items refl live;
  clone = jobs-clone;
  save = jobs-save;
  overlay = jobs-overlay;
  reap = λ w roots keeps. keeps-reap w roots own_names keeps;
  read = jobs-slot_at;
}
