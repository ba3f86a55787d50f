use Rattle.std.proofs.Common.{◌≡◌, ◌++◌, length, sym, ap, ◌∙◌, arith}
use Rattle.guest_image.specs.Spelling.{magic, number}
use Rattle.guest_asm.specs.Drafts.{draft_of}
use Rattle.guest_asm.specs.Views.{source_in}
use Rattle.guest_asm.proofs.Lengths.{has_few, counts_of}
use Rattle.guest_asm.proofs.Writes.{header_written}
use Rattle.guest_asm.proofs.draft.put_header.Goals as goal

pub overflow_cast-len : goal.overflow_cast-len
overflow_cast-len c =
    let s = c.args.source.now in
    omega (arith, c.len.ensures, s.text.ok.0, (counts_of s).0, (has_few (draft_of (source_in s)) c.requires).text)

pub overflow_cast-len-2 : goal.overflow_cast-len-2
overflow_cast-len-2 c =
    let s = c.args.source.now in
    omega (arith, c.len-2.ensures, s.pages.ok.0, (has_few (draft_of (source_in s)) c.requires).pages)

pub overflow_cast-len-3 : goal.overflow_cast-len-3
overflow_cast-len-3 c =
    let s = c.args.source.now in
    omega (arith, c.len-3.ensures, s.files.ok.0, (has_few (draft_of (source_in s)) c.requires).files)

pub overflow_cast-len-4 : goal.overflow_cast-len-4
overflow_cast-len-4 c =
    let s = c.args.source.now in
    omega (arith, c.len-4.ensures, s.slots.ok.0, (has_few (draft_of (source_in s)) c.requires).slots)

pub overflow_cast-len-5 : goal.overflow_cast-len-5
overflow_cast-len-5 c =
    let s = c.args.source.now in
    omega (arith, c.len-5.ensures, s.entries.ok.0, (counts_of s).1, (has_few (draft_of (source_in s)) c.requires).entries)

pub returns : goal.returns
returns c =
    let s = c.args.source.now in
    let d = draft_of (source_in s) in
    let text : c.len.result ≡ length d.text = c.len.ensures ∙ s.text.ok.0 ∙ sym (counts_of s).0 in
    let pages : c.len-2.result ≡ length d.pages = c.len-2.ensures ∙ s.pages.ok.0 in
    let files : c.len-3.result ≡ length d.files = c.len-3.ensures ∙ s.files.ok.0 in
    let slots : c.len-4.result ≡ length d.slots = c.len-4.ensures ∙ s.slots.ok.0 in
    let entries : c.len-5.result ≡ length d.entries = c.len-5.ensures ∙ s.entries.ok.0 ∙ sym (counts_of s).1 in
    let form : c.unwrap_or.result ≡ d.form = c.unwrap_or.ensures in
    let uid : c.unwrap_or-2.result ≡ d.uid = c.unwrap_or-2.ensures in
    header_written d c.args.out.now.items c.extend_from_slice.new.self.items c.put_number.new.out.items c.put_number-2.new.out.items c.put_number-3.new.out.items c.put_number-4.new.out.items c.put_number-5.new.out.items c.put_number-6.new.out.items
    (c.in_ok-extend_from_slice.ensures.items ∙ ap (λ l. c.args.out.now.items ++ l) (c.magic.ensures ∙ ap magic form))
    (c.in_ok-put_number.ensures ∙ ap (λ n. c.extend_from_slice.new.self.items ++ number n) text)
    (c.in_ok-put_number-2.ensures ∙ ap (λ n. c.put_number.new.out.items ++ number n) pages)
    (c.in_ok-put_number-3.ensures ∙ ap (λ n. c.put_number-2.new.out.items ++ number n) files)
    (c.in_ok-put_number-4.ensures ∙ ap (λ n. c.put_number-3.new.out.items ++ number n) slots)
    (c.in_ok-put_number-5.ensures ∙ ap (λ n. c.put_number-4.new.out.items ++ number n) entries)
    (c.in_ok-put_number-6.ensures ∙ ap (λ n. c.put_number-5.new.out.items ++ number n) uid)
