use Rattle.std.proofs.Common.{◌≡◌, ℕ, ◌∙◌, ap, rules, sym, None, Some, true, false, refl, Bool, Option}
use Rattle.std.specs.Prelude.{◌||◌, is_some}
use Rattle.std.specs.List.{list_any, range_with_len}
use Rattle.std.proofs.lemmas.Bool.{false≢true}
use Rattle.lwc_base.specs.Life.{is_in, names_group}
use Rattle.lwc_base.specs.Sharing.{any_key}
use Rattle.lwc_types.specs.declared.key.TheConstants.{SLOTS}
use Rattle.lwc_types.specs.declared.key.Key.TheVariants.{Page, Slot, Cred}
use Rattle.lwc_types.specs.declared.name.Name.{Name}
use Rattle.lazy_world.specs.Reaping.{is_name, names_at, names_from}
use Rattle.lazy_world.specs.Seen.{rows}
use Rattle.lazy_world.specs.States.{Parts, context_at}
use Rattle.lazy_world.specs.Worlds.{parts}
use Rattle.lazy_world.proofs.MarkLemmas.{adds-more, adds-none, name_of_cell}
use Rattle.lazy_world.proofs.world.PlacedWorld.mark_named.Goals as goal

names_there : (s : Parts) (g : Name) (i : ℕ) (o : Option Name) → is_some o ≡ true → names_group s.size.pages g (context_at s i) ≡ names_from s g i o
names_there s g i None there = absurd (false≢true there)
names_there s g i (Some c) there = refl

names_nowhere : (s : Parts) (g : Name) (i : ℕ) (o : Option Name) → is_some o ≡ false → names_from s g i o ≡ false
names_nowhere s g i None missed = refl
names_nowhere s g i (Some c) missed = absurd (false≢true (sym missed))

pub returns : goal.returns
unfolding names_group any_key parts
returns c =
    let w = c.args.self.now in
    let row = rows w.places c.args.place in
    let in_pages : Name → Bool = λ g. list_any (λ p. is_in g (row (Page p))) (range_with_len 0 w.size.pages) in
    let in_slots : Name → Bool = λ g. list_any (λ n. is_in g (row (Slot n))) (range_with_len 0 SLOTS) in
    let there : is_some c.at.result ≡ true = search rules in
    adds-more w.groups.places (λ g. in_pages g || in_slots g) _ (λ g. names_at (parts w) g c.args.place) _ _ _
    (adds-more w.groups.places in_pages in_slots (λ g. in_pages g || in_slots g) _ _ _ c.mark_pages.ensures c.mark_slots.ensures (λ g. refl)) c.mark_group.ensures
    (λ g.
    ap (λ b. (in_pages g || in_slots g) || b) (ap (λ o. is_name o g) c.uid_group.ensures ∙ name_of_cell (row Cred) g)
    ∙ names_there (parts w) g c.args.place c.at.result there ∙ ap (names_from (parts w) g c.args.place) c.at.ensures)

pub returns-then-is_none : goal.returns-then-is_none
unfolding parts
returns-then-is_none c =
    let w = c.args.self.now in
    let missed : is_some c.at.result ≡ false = search rules in
    adds-none w.groups.places (λ g. names_at (parts w) g c.args.place) c.args.marks.now
    (λ g. ap (names_from (parts w) g c.args.place) (sym c.at.ensures) ∙ names_nowhere (parts w) g c.args.place c.at.result missed)
