use Rattle.std.proofs.Common.{◌++◌, ap, ◌∙◌, refl}
use Rattle.std.proofs.lemmas.Option.{slice_get_read}
use Rattle.guest_asm.specs.Drafts.{file}
use Rattle.guest_asm.proofs.Lengths.{file_fits}
use Rattle.guest_asm.proofs.draft.put_files.Goals as goal
use Rattle.guest_image.proofs.Writes.{spell_next}

pub put_file-requires : goal.put_file-requires
put_file-requires c = file_fits c.args.files.now c.loop-file.file-index c.file-item.result c.loop-file-test.true c.file-item.is c.requires

pub loop-file-preserved : goal.loop-file-preserved
loop-file-preserved c =
    c.in_ok-put_file.ensures ∙ ap (λ t. t ++ file c.file-item.result) c.loop-file.invariant
    ∙ spell_next file c.args.out.now.items c.args.files.now c.loop-file.file-index c.file-item.result (slice_get_read c.args.files.now _ c.loop-file.file-index c.file-item.result refl c.loop-file-test.true c.file-item.is)
