use Rattle.std.proofs.Common.{◌^◌, length, map, arith}
use Rattle.syn_lutnet.specs.LutData.{ones_of}
use Rattle.syn_network.specs.LutSpelling.{minterm_row}
use Rattle.syn_text.proofs.LutWhole.{ones_next}
use Rattle.syn_text.proofs.lut_netlist.lut_rows.Goals as goal

pub loop-minterm-preserved : goal.loop-minterm-preserved
loop-minterm-preserved c =
    let lut = c.args.lut.now in
    let n = length lut.inputs.items in
    ones_next n c.loop-minterm.minterm (2 ^ lut.truth.vars) lut.truth c.loop-minterm.rows.items c.push_row.new.rows.items (map (minterm_row n) (ones_of lut.truth)) (omega (arith, c.loop-minterm-test.true, c.minterm_count-count.ensures)) c.in_ok-push_row.ensures c.loop-minterm.invariant
