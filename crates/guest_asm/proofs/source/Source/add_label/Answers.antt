use Rattle.std.proofs.Common.{◌≡◌, ◌∙◌, sym, ap, false, length, List, ℕ, Some}
use Rattle.std.specs.Prelude.{is_some}
use Rattle.std.specs.Map.{update}
use Rattle.std.specs.Str.{bytes_eq}
use Rattle.std.proofs.lemmas.List.{length-map}
use Rattle.guest_asm.specs.Views.{source_in, label_at, coded_in}
use Rattle.guest_asm.proofs.Labels.{is_new, is_old}
use Rattle.guest_asm.proofs.source.Source.add_label.Goals as goal

pub returns-then-is_some : goal.returns-then-is_some
returns-then-is_some c =
    let s = source_in c.args.self.now in
    rw c.in-Some.is (is_old c.args.at c.in-Some.name.now s (sym (c.is_some.ensures ∙ ap is_some c.in_ok-insert.ensures.old) ∙ c.if-is_some.true))

pub returns : goal.returns
returns c =
    let s = source_in c.args.self.now in
    let name = c.in-Some.name.now in
    let none : is_some (s.labels name) ≡ false = sym (c.is_some.ensures ∙ ap is_some c.in_ok-insert.ensures.old) ∙ c.if-is_some.false in
    let index : c.len.result ≡ length s.text = c.len.ensures ∙ c.args.self.now.text.ok.0 ∙ sym (length-map c.args.self.now.text.items coded_in) in
    let updates = λ (q : List ℕ). c.in_ok-insert.ensures.updates.0 (record { bytes = record { ref_ptr = (0, 0); now = q } }) in
    rw c.in-Some.is (is_new c.args.at name s (label_at c.insert.new.self) none (λ q. updates q ∙ ap (λ n. update bytes_eq s.labels name (Some n) q) index))
