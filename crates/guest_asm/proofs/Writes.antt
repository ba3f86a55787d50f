-- The parts of a draft, written one after another.
use Rattle.std.proofs.Common.{◌≡◌, ℕ, List, ◌++◌, length, ◌∙◌}
use Rattle.guest_image.specs.Spelling.{magic, number}
use Rattle.guest_asm.specs.declared.parts.FileDraft.{FileDraft}
use Rattle.guest_asm.specs.Drafts.{Draft, header, file}
use Rattle.guest_image.proofs.Writes.{more}

pub header_written : (h : Draft) (o a b c d e f g : List ℕ) → a ≡ o ++ magic h.form → b ≡ a ++ number (length h.text) → c ≡ b ++ number (length h.pages) → d ≡ c ++ number (length h.files) → e ≡ d ++ number (length h.slots) → f ≡ e ++ number (length h.entries) → g ≡ f ++ number h.uid → g ≡ o ++ header h
header_written h o a b c d e f g p0 p1 p2 p3 p4 p5 p6 =
    p6 ∙ more e f (number (length h.entries)) (number h.uid) p5 ∙ more d e (number (length h.slots)) _ p4 ∙ more c d (number (length h.files)) _ p3 ∙ more b c (number (length h.pages)) _ p2 ∙ more a b (number (length h.text)) _ p1 ∙ more o a (magic h.form) _ p0

pub file_written : (i : FileDraft) (o a b c d : List ℕ) → a ≡ o ++ number i.owner → b ≡ a ++ number i.public → c ≡ b ++ number (length i.bytes) → d ≡ c ++ i.bytes → d ≡ o ++ file i
file_written i o a b c d p0 p1 p2 p3 = p3 ∙ more b c (number (length i.bytes)) i.bytes p2 ∙ more a b (number i.public) _ p1 ∙ more o a (number i.owner) _ p0
