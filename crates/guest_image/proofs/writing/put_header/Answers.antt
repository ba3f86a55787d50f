use Rattle.std.proofs.Common.{ℕ, ◌++◌, List, ap, ◌∙◌}
use Rattle.guest_image.proofs.Writes.{header_written}
use Rattle.guest_image.proofs.writing.put_header.Goals as goal

pub returns : goal.returns
returns c =
    header_written c.args.form c.args.head.now c.args.out.now.items c.extend_from_slice.new.self.items c.put_number.new.out.items c.put_number-2.new.out.items c.put_number-3.new.out.items c.put_number-4.new.out.items c.put_number-5.new.out.items c.put_number-6.new.out.items
    (c.in_ok-extend_from_slice.ensures.items ∙ ap (λ (l : List ℕ). c.args.out.now.items ++ l) c.magic.ensures) c.in_ok-put_number.ensures c.in_ok-put_number-2.ensures c.in_ok-put_number-3.ensures c.in_ok-put_number-4.ensures c.in_ok-put_number-5.ensures c.in_ok-put_number-6.ensures
