use Rattle.syn_aiger_files.proofs.Cutting.{code_word}
use Rattle.syn_aiger_files.proofs.cuts.cut_word.Goals as goal

pub returns : goal.returns
returns c = code_word c.args.text.now c.cut_at.result.0.now _ c.cut_at.ensures.front c.cut_at.ensures.behind
