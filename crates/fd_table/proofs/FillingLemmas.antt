-- What changes of stored fillings are in the list of the slots that they stand for.
use Rattle.std.proofs.Common.{◌≡◌, ℕ, ◌<◌, List, [], ◌∷◌, ◌++◌, length, get_or, set, refl, sym, ◌∙◌, ap, arith, None, Some}
use Rattle.std.specs.Prelude.{unwrap_or}
use Rattle.std.proofs.lemmas.List.{set-get_or}
use Rattle.lwc_base.specs.declared.cell.Cell.{Cell}
use Rattle.lwc_base.specs.declared.descriptor.Cap.{Cap}
use Rattle.lwc_base.specs.declared.descriptor.Descriptor.{Descriptor}
use Rattle.pool_base.specs.Paired.{paired}
use Rattle.pool_base.proofs.PairedLemmas.{get_or-paired, length-paired, paired-set}
use Rattle.fd_table.specs.declared.filling.Filling.{Filling}
use Rattle.fd_table.specs.declared.fillings.Stored.{Stored}
use Rattle.fd_table.specs.Fillings.{slot_in, slot_of, slots_in}
use Rattle.fd_table.specs.Slots.{Slot, cell_of, empty_slot}
use Rattle.fd_table.specs.declared.stored.StoredCell.{StoredCell}
use Rattle.fd_table.specs.Stored.{cell_in, words_of}

paired-push : {A B C : Type 0} (f : A → B → C) (xs : List A) (ys : List B) (a : A) (b : B) → length ys ≡ length xs →
    paired f (xs ++ a ∷ []) (ys ++ b ∷ []) ≡ paired f xs ys ++ f a b ∷ []
paired-push f [] [] a b same = refl
paired-push f [] (y ∷ ys) a b same = absurd (omega (arith, same))
paired-push f (x ∷ xs) [] a b same = absurd (omega (arith, same))
paired-push f (x ∷ xs) (y ∷ ys) a b same = ap (λ l. f x y ∷ l) (paired-push f xs ys a b (omega (arith, same)))

module _ (stored : List Stored) (words : List Cap) (slots : List Slot) (v : slots_in stored words ≡ slots) (beside : length words ≡ length stored) where
  pub stored-length : length slots ≡ length stored
  stored-length = ap length (sym v) ∙ length-paired slot_in stored words (sym beside)

  pub stored-at : (n : ℕ) (s : Stored) (w : Cap) → n < length slots → s ≡ get_or stored n s → w ≡ get_or words n w → slot_in s w ≡ get_or slots n empty_slot
  stored-at n s w lt is are =
      (λ i. slot_in (is i) (are i)) ∙ sym (get_or-paired slot_in stored words n s w empty_slot (omega (arith, stored-length, lt)) (omega (arith, stored-length, lt, beside)))
      ∙ ap (λ l. get_or l n empty_slot) v

  pub stored-set : (n : ℕ) (s : Stored) (w : Cap) → slots_in (set stored n s) (set words n w) ≡ set slots n (slot_in s w)
  stored-set n s w = paired-set slot_in stored words n s w ∙ ap (λ l. set l n (slot_in s w)) v

  pub stored-beside : (n : ℕ) (s : Stored) (w : Cap) → slots_in (set stored n s) words ≡ set slots n (slot_in s (get_or words n w))
  stored-beside n s w = ap (slots_in (set stored n s)) (sym (set-get_or words n w)) ∙ stored-set n s (get_or words n w)

  pub stored-push : (s : Stored) (w : Cap) → slots_in (stored ++ s ∷ []) (words ++ w ∷ []) ≡ slots ++ slot_in s w ∷ []
  stored-push s w = paired-push slot_in stored words s w beside ∙ ap (λ l. l ++ slot_in s w ∷ []) v

-- a stored cell stands for the cell that it was made of, with the words of that one beside it, or with any others where it has none
module _ (filling : Filling) (stored : StoredCell) (is : (words : Cap) → cell_in stored (unwrap_or (words_of filling.cell) words) ≡ cell_of filling.cell) where
  pub filled-words : (words : Cap) → words_of filling.cell ≡ Some words → slot_in (record { cell = stored; target = filling.target }) words ≡ slot_of filling
  filled-words words some =
      ap (λ (cell : Cell Descriptor). record { cell = cell; target = filling.target }) (ap (λ o. cell_in stored (unwrap_or o words)) (sym some) ∙ is words)

  pub filled-beside : (words : Cap) → words_of filling.cell ≡ None → slot_in (record { cell = stored; target = filling.target }) words ≡ slot_of filling
  filled-beside words none =
      ap (λ (cell : Cell Descriptor). record { cell = cell; target = filling.target }) (ap (λ o. cell_in stored (unwrap_or o words)) (sym none) ∙ is words)
