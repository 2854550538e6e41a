use Rattle.syn_rows.proofs.JoinLaws.{simple_and_is, row_of_pair_is, ordered_and_is}
use Rattle.syn_rows.proofs.and_rules.joined_literals.Goals as goal

pub returns : goal.returns
returns c = record {
  simple = simple_and_is;
  row = row_of_pair_is;
  ordered = ordered_and_is;
}
