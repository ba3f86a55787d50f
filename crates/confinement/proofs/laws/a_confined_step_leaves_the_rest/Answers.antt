use Rattle.confinement.proofs.Left.{no_key, others_registers, own_alone, unchosen_cell, unchosen_right, uncovered_cell, uncovered_right}
use Rattle.confinement.proofs.laws.a_confined_step_leaves_the_rest.Goals as goal

pub returns : goal.returns
returns c = record {
  values = λ m after t x e k confined found other both key. own_alone m t after confined x e k found other both key;
  registers = λ m after t s e confined differ both. others_registers m t after confined e s differ both;
  giver = λ m after t x d cap k confined calls given differ lacks both key. uncovered_cell m t after confined x d cap k calls given differ lacks both key;
  giver_rights = λ m after t x d cap p confined calls given differ lacks both key. uncovered_right m t after confined x d cap p calls given differ lacks both key;
  kinds = λ m after t x d k confined calls differ other both key. unchosen_cell m t after confined x d k calls differ other both key;
  kinds_rights = λ m after t x d p confined calls differ other both key. unchosen_right m t after confined x d p calls differ other both key;
  keys = λ m after t e d n cap k confined live slot is key lacks. no_key m t after confined e d n cap k live slot is key (λ x calls. lacks.old x.job) lacks.slots;
}
