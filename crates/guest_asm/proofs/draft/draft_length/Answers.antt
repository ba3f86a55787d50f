use Rattle.std.proofs.Common.{refl}
use Rattle.guest_asm.specs.Drafts.{draft_of}
use Rattle.guest_asm.specs.Views.{source_in}
use Rattle.guest_asm.proofs.Lengths.{length_of, counts_of}
use Rattle.guest_asm.proofs.draft.draft_length.Goals as goal

pub returns : goal.returns
returns c =
    let s = c.args.source.now in
    let counts = counts_of s in
    rw (length_of (draft_of (source_in s)), counts.0, counts.1, c.len.ensures, c.len-2.ensures, c.len-3.ensures, c.pages_length-pages.ensures.length, c.files_length-files.ensures.length, c.as_slice.ensures.value, c.as_slice-2.ensures.value, s.text.ok.0, s.slots.ok.0, s.entries.ok.0) refl
