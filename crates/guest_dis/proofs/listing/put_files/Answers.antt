use Rattle.std.proofs.Common.{◌≡◌, ◌<◌, ◌++◌, All, Some, ap, ◌∙◌, refl}
use Rattle.std.specs.List.{slice_get}
use Rattle.std.proofs.lemmas.Option.{slice_get_read}
use Rattle.guest_dis.specs.Listing.{file_line}
use Rattle.guest_dis.proofs.Texts.{line_next, all_next}
use Rattle.guest_dis.proofs.listing.put_files.Goals as goal

pub loop-file-preserved : goal.loop-file-preserved
loop-file-preserved c =
    let files = c.args.files.now in
    let file = c.file-item.result in
    let here : slice_get files c.loop-file.file-index ≡ Some file = slice_get_read files _ c.loop-file.file-index file refl c.loop-file-test.true c.file-item.is in
    record {
      lines = c.in_ok-put_file.ensures.line ∙ ap (λ t. t ++ file_line file) c.loop-file.invariant.lines ∙ line_next file_line c.args.out.now.items files c.loop-file.file-index file here;
      bytes = all_next (λ f. All (λ b. b < 256) f.bytes) files c.loop-file.file-index file here c.loop-file.invariant.bytes c.in_ok-put_file.ensures.bytes;
    }
