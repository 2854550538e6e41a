use Rattle.std.proofs.Common.{◌==◌, ◌∙◌, rules, tests}
use Rattle.std.proofs.lemmas.Iterator.{YieldsList-from_slice}
use Rattle.std.proofs.lemmas.Iterator.Search.{position_from_yields_List}
use Rattle.syn_lex.proofs.Lengths.{first_or_len}
use Rattle.syn_lex.proofs.pieces.bytes_before.Goals as goal

pub returns-clause-value : goal.returns-clause-value
returns-clause-value c =
    c.unwrap_or.ensures ∙ first_or_len (λ b. b == c.args.end) c.args.bytes.now _
    (position_from_yields_List (λ b. b == c.args.end) _ _ _ c.position-place.ensures.ran (YieldsList-from_slice c.args.bytes.now cc) (λ x b q k. search (rules, tests)))
