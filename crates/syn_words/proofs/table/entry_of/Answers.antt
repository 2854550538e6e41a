use Rattle.syn_words.proofs.table.entry_of.Goals as goal

pub returns : goal.returns
returns c = rw c.as_slice.ensures at c.entry_in.ensures
