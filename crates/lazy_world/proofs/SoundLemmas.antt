-- What a world by shared pages keeps true of itself, where a part changes.
use Rattle.std.proofs.Common.{◌≡◌, ⊎_elim, ℕ, ◌+◌, ◌<◌, List, length-set, sym, ap, subst, ◌∙◌, None, Some, get_or, set}
use Rattle.std.proofs.lemmas.Bool.{cases_eq}
use Rattle.lwc_base.specs.declared.cell.Cell.TheVariants.{Own}
use Rattle.lwc_base.specs.Fresh.{IsFresh}
use Rattle.lwc_base.specs.World.{group}
use Rattle.lwc_types.specs.declared.key.Key.TheVariants.{Page}
use Rattle.lwc_types.specs.declared.name.Tag.{Tag}
use Rattle.lwc_types.specs.declared.right.Right.{Right}
use Rattle.lwc_types.specs.declared.page.PageValue.TheVariants.{Data}
use Rattle.lazy_world.specs.Cells.{Row, put_row}
use Rattle.lazy_world.specs.Sound.{HasItsPages, HasOldTags, HasOneHome, IsAllOwn, IsEmpty, IsSound, IsWithin}
use Rattle.lazy_world.specs.States.{Parts, world_of}
use Rattle.lazy_world.proofs.PlaceLemmas.{choose, pass}

module _ (rows : ℕ → Row) (i : ℕ) (row : Row) (P : Row → Type 0) where
  -- what holds of a row and of all others holds of each
  pub each_row : (j : ℕ) → (j ≡ i → P row) → ((j ≡ i → ⊥) → P (rows j)) → P (put_row rows i row j)
  each_row j here there =
      ⊎_elim
      (λ same. subst P (sym (choose i j row (rows j) same)) (here same))
      (λ other. subst P (sym (pass i j row (rows j) other)) (there other))
      (cases_eq j i)

-- a tag stands at a page of some row
pub record IsTagged (rows : ℕ → Row) (p : ℕ) (tag : Tag) : Type 0 where
  pub place : ℕ
  pub bytes : List ℕ
  pub is : rows place (Page p) ≡ Own (Some (Data tag bytes))

-- a row whose tags stood at their pages before leaves each tag its one page number
pub homes-row : (rows : ℕ → Row) (i : ℕ) (row : Row) → HasOneHome rows → ((p : ℕ) (tag : Tag) (bytes : List ℕ) → row (Page p) ≡ Own (Some (Data tag bytes)) → IsTagged rows p tag) →
    HasOneHome (put_row rows i row)
homes-row rows i row homes old m n p q tag a b at_p at_q =
    let first = was m p a at_p in
    let second = was n q b at_q in
    homes first.place second.place p q tag first.bytes second.bytes first.is second.is
  where
    was : (j r : ℕ) (bytes : List ℕ) → put_row rows i row j (Page r) ≡ Own (Some (Data tag bytes)) → IsTagged rows r tag
    was j r bytes is =
        ⊎_elim
        (λ same. old r tag bytes (ap (λ (x : Row). x (Page r)) (sym (choose i j row (rows j) same)) ∙ is))
        (λ other. record { place = j; bytes = bytes; is = ap (λ (x : Row). x (Page r)) (sym (pass i j row (rows j) other)) ∙ is })
        (cases_eq j i)

module _ (s : Parts) (sound : IsSound s) where
  -- a row changes
  module _ (i : ℕ) (row : Row) (rights : ℕ → ℕ → Right) where
    abbrev later : Parts
    later = record s { rows = put_row s.rows i row; rights = rights }

    pub sound-row : IsWithin s.size.pages row → ((j : ℕ) → s.size.contexts + j ≡ i → IsAllOwn row) →
        (i < s.size.contexts → get_or s.contexts.places i None ≡ None → IsEmpty row) →
        ((j : ℕ) → s.size.contexts + j ≡ i → get_or s.groups.places j None ≡ None → IsEmpty row) →
        HasOldTags (world_of s).next row → IsFresh (world_of later) → HasOneHome later.rows → HasItsPages later → IsSound later
    unfolding world_of
    sound-row within own free free_groups tags fresh homes pages = record {
      sizes = record { size = sound.sizes.size; registers = sound.sizes.registers; contexts = sound.sizes.contexts; groups = sound.sizes.groups; counts = sound.sizes.counts };
      past = λ j. each_row s.rows i row (IsWithin s.size.pages) j (λ same. within) (λ other. sound.past j);
      own = λ j. each_row s.rows i row IsAllOwn (s.size.contexts + j) (λ same. own j same) (λ other. sound.own j);
      free = λ j low none. each_row s.rows i row IsEmpty j
          (λ same. free (subst (λ n. n < s.size.contexts) same low) (ap (λ n. get_or s.contexts.places n None) (sym same) ∙ none)) (λ other. sound.free j low none);
      free_groups = λ j none. each_row s.rows i row IsEmpty (s.size.contexts + j) (λ same. free_groups j same none) (λ other. sound.free_groups j none);
      tags = λ j. each_row s.rows i row (HasOldTags (world_of s).next) j (λ same. tags) (λ other. sound.tags j);
      fresh = fresh;
      homes = homes;
      pages = pages;
    }

  -- registers change
  pub sound-registers : (i : ℕ) (registers : _) → IsFresh (world_of (record s { registers = set s.registers i registers })) → IsSound (record s { registers = set s.registers i registers })
  unfolding world_of group
  sound-registers i registers fresh = record {
    sizes = record {
      size = sound.sizes.size;
      registers = length-set s.registers i registers ∙ sound.sizes.registers;
      contexts = sound.sizes.contexts;
      groups = sound.sizes.groups;
      counts = sound.sizes.counts;
    };
    past = sound.past;
    own = sound.own;
    free = sound.free;
    free_groups = sound.free_groups;
    tags = sound.tags;
    fresh = fresh;
    homes = sound.homes;
    pages = sound.pages;
  }
