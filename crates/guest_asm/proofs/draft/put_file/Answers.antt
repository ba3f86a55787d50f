use Rattle.std.proofs.Common.{◌≡◌, ◌++◌, length}
use Rattle.guest_image.specs.Spelling.{number}
use Rattle.guest_asm.proofs.Writes.{file_written}
use Rattle.guest_asm.proofs.draft.put_file.Goals as goal

pub returns : goal.returns
returns c =
    let length_put : c.put_number-3.new.out.items ≡ c.put_number-2.new.out.items ++ number (length c.args.file.now.bytes) = rw (← c.len.ensures) c.in_ok-put_number-3.ensures in
    let bytes_put : c.extend_from_slice.new.self.items ≡ c.put_number-3.new.out.items ++ c.args.file.now.bytes = rw (← c.as_slice.ensures) c.in_ok-extend_from_slice.ensures.items in
    file_written c.args.file.now c.args.out.now.items c.put_number.new.out.items c.put_number-2.new.out.items c.put_number-3.new.out.items c.extend_from_slice.new.self.items c.in_ok-put_number.ensures c.in_ok-put_number-2.ensures length_put bytes_put
