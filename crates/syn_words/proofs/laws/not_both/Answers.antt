use Rattle.syn_words.proofs.Deciding.{script_has_no_fault}
use Rattle.syn_words.proofs.laws.not_both.Goals as goal

pub returns : goal.returns
returns c = script_has_no_fault
