use Rattle.std.proofs.Common.{length, map, ap, ◌∙◌, arith}
use Rattle.syn_reader.specs.Heard.{lines_words, word_count}
use Rattle.syn_reader.specs.Statements.{statement_of, statements}
use Rattle.syn_reader.proofs.LineWords.{logical_words}
use Rattle.syn_reader.specs.Parted.{words_of}
use Rattle.syn_reader.proofs.Counting.{few_statements, totals_few}
use Rattle.syn_reader.proofs.LineSizes.{few_words}
use Rattle.syn_reader.proofs.models.read_models.Goals as goal

pub of-requires : goal.of-requires
of-requires c = ap lines_words c.in-Ok.ensures.ok.1 ∙ logical_words c.args.bytes.now

pub gather_models-requires-clause-words : goal.gather_models-requires-clause-words
gather_models-requires-clause-words c =
    let same = ap word_count (c.of.ensures ∙ ap (map statement_of) c.in-Ok.ensures.ok.1) in
    let few = few_words c.args.bytes.now in
    omega (arith, same, few, c.requires)

pub gather_models-requires-clause-total : goal.gather_models-requires-clause-total
gather_models-requires-clause-total c =
    let same = ap words_of (c.of.ensures ∙ ap (map statement_of) c.in-Ok.ensures.ok.1) in
    let few = few_words c.args.bytes.now in
    let lines = few_statements c.args.bytes.now in
    let total = totals_few (statements c.args.bytes.now) in
    omega (arith, same, few, lines, total, c.requires)

pub gather_models-requires-clause-lines : goal.gather_models-requires-clause-lines
gather_models-requires-clause-lines c =
    let same = ap length (c.of.ensures ∙ ap (map statement_of) c.in-Ok.ensures.ok.1) in
    let lines = few_statements c.args.bytes.now in
    omega (arith, same, lines, c.requires)
