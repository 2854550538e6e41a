use Rattle.syn_aiger.proofs.Words.{frame_words}
use Rattle.syn_aiger.proofs.writer.are_words.Goals as goal

pub returns : goal.returns
returns c = frame_words c.args.frame.now c.len-count.ensures.words
