use Rattle.std.proofs.Common.{length, ap, ◌∙◌, arith}
use Rattle.syn_netlist.specs.Words.{is_word}
use Rattle.syn_gen.proofs.Named.{length-signals, more_signals, signal_is_word}
use Rattle.syn_gen.proofs.names.signal_names.Goals as goal

pub add-requires-clause-few : goal.add-requires-clause-few
add-requires-clause-few c = omega (arith, ap length c.loop-number.invariant, length-signals c.loop-number.number, c.loop-number-test.true, c.requires)

pub add-requires-clause-word : goal.add-requires-clause-word
add-requires-clause-word c = ap is_word (c.as_slice.ensures.value ∙ c.in_ok-word.ensures) ∙ signal_is_word c.loop-number.number (omega (arith, c.loop-number-test.true, c.requires))

pub loop-number-preserved : goal.loop-number-preserved
loop-number-preserved c =
    more_signals c.loop-number.number c.loop-number.names c.add.new.self c.as_slice.result.now (omega (arith, c.loop-number-test.true, c.requires)) c.loop-number.invariant (c.as_slice.ensures.value ∙ c.in_ok-word.ensures) c.in_ok-_number.ensures.ok
