use Rattle.lwc_names.proofs.Tables.{name_cmp-shifted, tag_cmp-shifted}
use Rattle.lwc_names.proofs.laws.names_keep_their_order.Goals as goal

pub returns : goal.returns
returns c = record {
  names = λ r a b. name_cmp-shifted r a b;
  tags = λ r a b. tag_cmp-shifted r a b;
}
