use Rattle.std.proofs.Common.{ap, ◌∙◌, arith, get_or}
use Rattle.std.proofs.lemmas.Nat.{one_shl}
use Rattle.syn_npn.specs.declared.walk.TheConstants.{PLAIN}
use Rattle.syn_npn.proofs.Moving.{moved_value}
use Rattle.syn_npn.proofs.Steps.{toggle-by_masks}
use Rattle.syn_npn.proofs.walk.complemented.Goals as goal

pub returns : goal.returns
returns c = λ m h.
    let i = c.args.variable in
    c.moved.ensures m h
    ∙ ap (λ gap. moved_value c.args.table 0 (get_or PLAIN i 0) gap m) (one_shl i 8 (omega arith))
    ∙ toggle-by_masks i m c.requires h c.args.table
