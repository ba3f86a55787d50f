use Rattle.lwc_base.proofs.InRange.{files-add_context, files-after_store, files-clone, files-empty_world, files-map_pages, files-overlay, files-put_slot, files-put_uid, files-reap, files-save, files-slot_at, files-unmap_pages}
use Rattle.lwc_base.proofs.laws.channels.descriptors_stay_in_range.Goals as goal

pub returns : goal.returns
returns c = record {
  empty = files-empty_world;
  add = files-add_context;
  slot = files-put_slot;
  uid = files-put_uid;
  map = files-map_pages;
  unmap = files-unmap_pages;
  store = files-after_store;
  clone = files-clone;
  save = files-save;
  overlay = files-overlay;
  reap = files-reap;
  read = files-slot_at;
}
