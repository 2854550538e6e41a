use Rattle.std.proofs.Common.{List, length, ap, arith}
use Rattle.std.proofs.lemmas.List.{length-map}
use Rattle.syn_lutnet.specs.LutData as spelled
use Rattle.syn_lutnet.specs.declared.luts.Lut.{Lut}
use Rattle.syn_lutnet.specs.Data.{lut_data}
use Rattle.syn_mfs.proofs.passes.mfs.Goals as goal

pub keeps_depth-requires : goal.keeps_depth-requires
keeps_depth-requires c =
    let copies = c.in_ok-luts.luts.items in
    omega (
      arith,
      c.args.net.now.few,
      ap (λ (ls : List Lut). length ls) c.as_slice-2.ensures.value,
      c.in_ok-replace.ensures.count,
      ap (λ (ls : List spelled.Lut). length ls) c.in_ok-luts.ensures,
      length-map copies lut_data,
      length-map c.as_slice.result.now lut_data,
      ap (λ (ls : List Lut). length ls) c.as_slice.ensures,
    )
