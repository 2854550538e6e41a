use Rattle.std.proofs.Common.{not, ◌∙◌, rules, tests}
use Rattle.std.proofs.lemmas.Iterator.{YieldsList-from_slice}
use Rattle.std.proofs.lemmas.Iterator.Search.{position_from_yields_List}
use Rattle.syn_lex.proofs.Lengths.{first_or_len}
use Rattle.syn_lex.proofs.words.word_len.Goals as goal

pub returns-clause-value : goal.returns-clause-value
returns-clause-value g c =
    c.unwrap_or.ensures ∙ first_or_len (λ b. not (g.B.WordBytes.holds b)) c.args.bytes.now _
    (position_from_yields_List (λ b. not (g.B.WordBytes.holds b)) _ _ _ c.position-end.ensures.ran (YieldsList-from_slice c.args.bytes.now cc) (λ x b q k. search (rules, tests)))
