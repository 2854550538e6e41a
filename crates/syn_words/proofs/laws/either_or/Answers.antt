use Rattle.syn_words.proofs.Deciding.{script_or_fault}
use Rattle.syn_words.proofs.laws.either_or.Goals as goal

pub returns : goal.returns
returns c = script_or_fault
