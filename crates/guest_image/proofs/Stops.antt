-- A refusal of a file: it ends too early, or a rule is broken at an offset.
use Rattle.std.proofs.Common.{◌≡◌, ◌⊎◌, inl, inr, ℕ, List, subst, sym, refl, ◌∙◌}
use Rattle.guest_image.specs.declared.fault.ImageRule.{ImageRule}
use Rattle.guest_image.specs.declared.image.Form.{Form}
use Rattle.guest_image.specs.Rest.{Rest}
use Rattle.guest_image.specs.Refusals.{Breaks}
use Rattle.guest_image.proofs.FieldLaws.{Takes, Takes-end, end_of}
use Rattle.lwc_types.specs.Outcomes.{Refusal}

-- the rule is broken behind the bytes that were taken
pub record StopsAt (form : Form) (file : Rest) (s : Refusal ImageRule) : Type 0 where
  pub before : List ℕ
  pub after : Rest
  pub takes : Takes file before after
  pub offset : s.at ≡ after.at
  pub breaks : Breaks form s.rule before after.bytes

abbrev pub Stops : Form → Rest → Refusal ImageRule → Type 0
Stops form file s = (s ≡ end_of file) ⊎ StopsAt form file s

pub ends_early : {form : Form} (file : Rest) (front : List ℕ) (r : Rest) (s : Refusal ImageRule) → Takes file front r → s ≡ end_of r → Stops form file s
ends_early file front r s t is = inl (is ∙ Takes-end file front r t)

pub stops_at : {form : Form} (file : Rest) (front : List ℕ) (r : Rest) (rule : ImageRule) (s : Refusal ImageRule) → Takes file front r → Breaks form rule front r.bytes → s ≡ record { rule = rule; at = r.at } → Stops form file s
stops_at {form} file front r rule s t b is = inr (subst (StopsAt form file) (sym is) (record { before = front; after = r; takes = t; offset = refl; breaks = b }))
