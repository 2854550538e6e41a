use Rattle.std.proofs.Common.{ℕ, ◌%◌, not, if◌then◌else◌, ap, ◌∙◌, arith}
use Rattle.syn_rows.specs.Joining.{complement}
use Rattle.syn_rows.specs.Rows.{node_of}
use Rattle.syn_hashed.specs.Hashed.{lit_at}
use Rattle.syn_build.proofs.LutValues.{choose_sign}
use Rattle.syn_build.proofs.luts.signed_by.Goals as goal

pub returns : goal.returns
returns c =
    let plain = lit_at c.args.signals.now (node_of c.args.literal) in
    c.signed.ensures.literal ∙ ap (λ (i : ℕ). if not c.complemented.result then lit_at c.args.signals.now i else complement (lit_at c.args.signals.now i)) c.node.ensures
    ∙ choose_sign (c.args.literal.0 % 2) c.complemented.result plain (complement plain) (omega arith) c.complemented.ensures.0 c.complemented.ensures.1
