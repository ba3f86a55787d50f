use Rattle.std.proofs.Common.{length, refl}
use Rattle.std.proofs.lemmas.Result.{err_from_is_err_and}
use Rattle.std.proofs.lemmas.List.Sums.{sum_by_push}
use Rattle.lwc_types.specs.Outcomes.{Fails}
use Rattle.lwc_types.specs.declared.file_image.FileImage.{FileImage}
use Rattle.guest_image.specs.Reading.{next_file}
use Rattle.guest_image.proofs.Loops.{continues, ends, is_done}
use Rattle.guest_image.proofs.lists.read_files.Goals as goal

pub returns-in_err-file : goal.returns-in_err-file
returns-in_err-file c =
    let p = err_from_is_err_and c.from_residual.result c.from_residual.ensures.1 in
    let failed : Fails c.in_err-file.field-0.0 (next_file c.loop.files.items c.loop.reader) = rw (← c.loop.invariant.content) c.in_err-file.ensures.read in
    rw (p.1, p.2) (ends next_file _ _ _ _ _ c.loop.invariant.read _ c.loop-test.true failed)

pub loop-preserved : goal.loop-preserved
loop-preserved c =
    let read = rw c.loop.invariant.content at c.in_ok-file.ensures.read in
    rw c.in_ok-push.ensures.items (record {
      read = continues next_file _ _ _ _ _ c.loop.invariant.read _ _ c.loop-test.true read;
      content = rw (sum_by_push (λ (f : FileImage). length f.bytes) c.loop.files.items c.in_ok-file.file, ← c.loop.invariant.content, c.len.ensures) refl;
      room = rw c.len.ensures c.in_ok-file.ensures.room;
    })

pub returns : goal.returns
returns c = rw c.of.ensures (is_done next_file _ _ _ _ _ c.loop.invariant.read c.loop-test.false)
