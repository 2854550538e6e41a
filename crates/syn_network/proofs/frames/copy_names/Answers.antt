use Rattle.std.proofs.Common.{ap, ◌∙◌, arith}
use Rattle.syn_netlist.specs.Numbers.{with_word}
use Rattle.syn_network.proofs.Copying.{copied_more}
use Rattle.syn_network.proofs.frames.copy_names.Goals as goal

pub loop-i-preserved : goal.loop-i-preserved
loop-i-preserved c =
    c.in_ok-add.ensures.ok
    ∙ ap (with_word c.loop-i.copy) c.word.ensures
    ∙ copied_more c.args.names.now c.loop-i.copy c.loop-i.i c.len-i-end.ensures.distinct (omega (arith, c.loop-i-test.true, c.len-i-end.ensures.value)) c.loop-i.invariant
