use Rattle.std.proofs.Common.{◌/◌, refl}
use Rattle.syn_network.specs.LutSpelling.{minterm_row}
use Rattle.syn_text.proofs.LutWhole.{row_next}
use Rattle.syn_text.proofs.lut_netlist.minterm_row.Goals as goal

pub loop-left-preserved : goal.loop-left-preserved
loop-left-preserved c =
    row_next c.loop-left.left c.loop-left.rest c.loop-left.row.items c.push.new.self.items (minterm_row c.args.inputs c.args.minterm) c.bit_character.result (c.loop-left.rest / 2)
    c.loop-left-test.true c.bit_character.ensures refl c.in_ok-push.ensures.items c.loop-left.invariant
