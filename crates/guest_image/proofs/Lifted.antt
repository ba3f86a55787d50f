-- An image that is lifted is an image, and its bytes differ in the last byte of the magic alone.
use Rattle.std.proofs.Common.{◌≡◌, ◌<◌, ◌≤◌, List, refl, arith}
use Rattle.std.proofs.lemmas.List.Elements.{All-weaker}
use Rattle.lwc_types.specs.declared.limits.TheConstants.{MOST_PAGES}
use Rattle.guest_image.specs.declared.image.Form.{Form}
use Rattle.guest_image.specs.declared.image.Form.TheVariants.{One, Two}
use Rattle.guest_image.specs.declared.image.Image.{Image}
use Rattle.guest_image.specs.declared.image.PageImage.{PageImage}
use Rattle.guest_image.specs.Limits.{ArePages, IsImage, lifted, pages_of}
use Rattle.guest_image.specs.Spelling.{last_of_magic, spelling}

-- no form has more pages than form 2
pub most_pages : (form : Form) → pages_of form ≤ MOST_PAGES
most_pages One = omega arith
most_pages Two = omega arith

lifted-pages : (form : Form) (pages : List PageImage) → ArePages form pages → ArePages Two pages
lifted-pages form pages are = record {
  numbers = All-weaker (λ p. p.number < pages_of form) (λ p. p.number < MOST_PAGES) (λ p low. omega (arith, low, most_pages form)) pages are.numbers;
  rise = are.rise;
  ranges = are.ranges;
  whole = are.whole;
}

pub lifted-image : (image : Image) → IsImage image → IsImage (lifted image)
lifted-image image is = record {
  text = is.text;
  targets = is.targets;
  uid = is.uid;
  page_count = omega (arith, is.page_count, most_pages image.form);
  pages = lifted-pages image.form image.pages is.pages;
  file_count = is.file_count;
  files = is.files;
  slot_count = is.slot_count;
  slots = is.slots;
  some_thread = is.some_thread;
  thread_count = is.thread_count;
  entries = is.entries;
}

pub lifted-bytes : (image : Image) → spelling (lifted image) ≡ last_of_magic 0x32 (spelling image)
unfolding spelling
lifted-bytes image = refl

pub lifted-again : (image : Image) → lifted (lifted image) ≡ lifted image
lifted-again image = refl

pub ruleset lifting = (lifted-image, lifted-bytes, lifted-again)
