use Rattle.std.proofs.Common.{◌≡◌, List, length, sym, ap, ◌∙◌, arith}
use Rattle.std.proofs.lemmas.List.{length-map, length_push}
use Rattle.syn_lutnet.specs.declared.luts.Lut.{Lut}
use Rattle.syn_lutnet.specs.Data.{lut_data}
use Rattle.syn_covering.specs.Making.{IsLutOf}
use Rattle.syn_covering.specs.Mappings.{node_at}
use Rattle.syn_covering.proofs.Assembled.{luts_pushed}
use Rattle.syn_covering.proofs.luts.make_luts.Goals as goal

pub loop-node-preserved : goal.loop-node-preserved
loop-node-preserved g c =
    let done : List Lut = c.loop-node.luts.items in
    let pushed = c.in_ok-push.ensures.items in
    let long = ap (λ (ls : List Lut). length ls) pushed ∙ length_push done c.in_ok-lut.lut in
    record {
      long = omega (arith, long, c.loop-node.invariant.long);
      each = luts_pushed (λ j x. IsLutOf (g.C.Choice.leaves c.args.choice.now) c.args.rows.now c.args.signals.now (node_at c.args.nodes.now j) x) done c.push.new.self.items c.in_ok-lut.lut c.loop-node.node-index pushed c.loop-node.invariant.long c.loop-node.invariant.each c.in_ok-lut.ensures;
    }

pub returns : goal.returns
returns g c =
    let all : length c.args.nodes.now ≡ c.loop-node.node-index = omega arith in
    record {
      long = length-map c.loop-node.luts.items lut_data ∙ c.loop-node.invariant.long ∙ sym all;
      each = λ j lt. c.loop-node.invariant.each j (omega (arith, lt, all));
    }
