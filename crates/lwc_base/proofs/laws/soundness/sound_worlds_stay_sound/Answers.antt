use Rattle.lwc_base.proofs.Sound.{sound-empty_world, sound-add_new_context, sound-map_pages, sound-unmap_pages, sound-put_slot, sound-put_uid, sound-share, sound-clone_context, sound-overlay, sound-reap, sound-save}
use Rattle.lwc_base.proofs.Room.{sound-store}
use Rattle.lwc_base.proofs.laws.soundness.sound_worlds_stay_sound.Goals as goal

pub returns-clause-empty : goal.returns-clause-empty
returns-clause-empty c = sound-empty_world

pub returns-clause-add : goal.returns-clause-add
returns-clause-add c = sound-add_new_context

pub returns-clause-map : goal.returns-clause-map
returns-clause-map c = sound-map_pages

pub returns-clause-unmap : goal.returns-clause-unmap
returns-clause-unmap c = sound-unmap_pages

pub returns-clause-slot : goal.returns-clause-slot
returns-clause-slot c = sound-put_slot

pub returns-clause-uid : goal.returns-clause-uid
returns-clause-uid c = sound-put_uid

pub returns-clause-store : goal.returns-clause-store
returns-clause-store c = sound-store

pub returns-clause-share : goal.returns-clause-share
returns-clause-share c = sound-share

pub returns-clause-clone : goal.returns-clause-clone
returns-clause-clone c = λ w c job items entry spec live sound. sound-clone_context w c job items spec live sound entry

pub returns-clause-save : goal.returns-clause-save
returns-clause-save c = sound-save

pub returns-clause-overlay : goal.returns-clause-overlay
returns-clause-overlay c = λ w c d job items spec live. sound-overlay w c d job items spec

pub returns-clause-reap : goal.returns-clause-reap
returns-clause-reap c = sound-reap
