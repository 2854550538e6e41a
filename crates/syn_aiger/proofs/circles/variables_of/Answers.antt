use Rattle.std.proofs.Common.{map}
use Rattle.syn_aiger.specs.Values.{and_variable}
use Rattle.syn_aiger.proofs.Netting.{ands_small, behind_end, behind_more, behind_none, behind_start}
use Rattle.syn_aiger.proofs.circles.variables_of.Goals as goal

pub loop-word-init : goal.loop-word-init
loop-word-init c = behind_start (map and_variable c.args.file.now.aig.ands) _ c.args.words.now c.new-variables.ensures.items c.requires

pub unreachable-requires : goal.unreachable-requires
unreachable-requires c =
    let g = c.args.file.now.aig in
    behind_none (map and_variable g.ands) c.args.words.now c.loop-word.word-index c.word-item.result c.as_slice.result.now (ands_small g c.args.file.now.sound) c.loop-word-test.true c.word-item.is c.as_slice.ensures c.loop-word.invariant.left c.in-None.ensures

pub loop-word-preserved : goal.loop-word-preserved
loop-word-preserved c =
    let g = c.args.file.now.aig in
    behind_more (map and_variable g.ands) c.loop-word.variables.items _ c.args.words.now c.loop-word.word-index c.word-item.result c.as_slice.result.now _ c.in_ok-push-in-Some.ensures.items (ands_small g c.args.file.now.sound) c.loop-word-test.true c.word-item.is c.as_slice.ensures c.in-Some.ensures c.loop-word.invariant

pub returns-clause-words : goal.returns-clause-words
returns-clause-words c = behind_end (map and_variable c.args.file.now.aig.ands) c.loop-word.variables.items c.args.words.now c.loop-word.word-index c.loop-word-test.false c.loop-word.invariant

pub returns-clause-variables : goal.returns-clause-variables
returns-clause-variables c = c.loop-word.invariant.variables
