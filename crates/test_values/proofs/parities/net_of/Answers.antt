use Rattle.std.proofs.Common.{List, length, sym, ap, subst, arith}
use Rattle.syn_rows.specs.declared.Lit.{Lit}
use Rattle.syn_lutnet.specs.LutData.{IsLutNet}
use Rattle.syn_lutnet.specs.declared.luts.Lut.{Lut}
use Rattle.syn_lutnet.specs.Data.{luts_data}
use Rattle.test_values.proofs.Nets.{parity_net}
use Rattle.test_values.proofs.parities.net_of.Goals as goal

pub invariant_of-result : goal.invariant_of-result
invariant_of-result c =
    let luts : List Lut = c.args.luts.items in
    let lits : List Lit = c.args.lits.items in
    record {
      net = subst (λ (ls : List Lut). IsLutNet 6 (luts_data ls) c.of-2.result) (sym c.of.ensures)
          (subst (λ (os : List Lit). IsLutNet 6 (luts_data luts) os) (sym c.of-2.ensures) (parity_net luts lits c.requires.inputs c.requires.count c.requires.plain));
      few = omega (arith, ap (λ (ls : List Lut). length ls) c.of.ensures, c.requires.few);
      few_observed = omega (arith, ap (λ (os : List Lit). length os) c.of-2.ensures, c.requires.count, c.requires.few);
    }
