use Rattle.syn_aiger_files.proofs.Marks as marks
use Rattle.syn_aiger_files.proofs.says_with_mark.Goals as goal

pub returns : goal.returns
returns c = marks.says_with_mark
