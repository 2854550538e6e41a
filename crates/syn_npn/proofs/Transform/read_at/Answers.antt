use Rattle.std.proofs.Common.{◌≡◌, ◌∙◌, ap, ap₂, sym, arith}
use Rattle.syn_npn.specs.Images.{differ, number_of, value_read}
use Rattle.syn_npn.proofs.Numbers.{differs, grown, grown-lt}
use Rattle.syn_npn.proofs.Imaging.{read_at-is}
use Rattle.syn_npn.proofs.Transform.read_at.Goals as goal

pub overflow_add-read : goal.overflow_add-read
overflow_add-read c =
    omega (
      arith,
      grown-lt 8 c.loop-i.i c.loop-i.read (value_read c.args.self.perm c.args.self.flips c.args.minterm) _ (omega arith) c.loop-i.invariant
          (differs c.value.result c.value-in-loop-i.result ∙ ap₂ differ c.value.ensures c.value-in-loop-i.ensures),
    )

pub loop-i-preserved : goal.loop-i-preserved
loop-i-preserved c =
    grown 8 c.loop-i.i c.loop-i.read (value_read c.args.self.perm c.args.self.flips c.args.minterm) _ (omega arith) c.loop-i.invariant
    (differs c.value.result c.value-in-loop-i.result ∙ ap₂ differ c.value.ensures c.value-in-loop-i.ensures)

pub returns : goal.returns
returns c =
    let test = value_read c.args.self.perm c.args.self.flips c.args.minterm in
    let all : c.loop-i.i ≡ 4 = omega arith in
    c.loop-i.invariant ∙ ap (λ k. number_of k test) all ∙ sym (read_at-is c.args.self.perm c.args.self.flips c.args.minterm)
