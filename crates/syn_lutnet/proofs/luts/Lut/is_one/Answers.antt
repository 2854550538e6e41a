use Rattle.std.proofs.Common.{◌%◌, ◌/◌, ◌^◌, nat_eq, nat_lt, sym, ap, ◌∙◌}
use Rattle.std.proofs.lemmas.Bool.{cond-true, cond-false, lt-ltb, le-ltb}
use Rattle.syn_truth.specs.Truth.{value_at}
use Rattle.syn_lutnet.proofs.luts.Lut.is_one.Goals as goal
use Rattle.syn_lutnet.proofs.luts.Lut.is_one.Goals.{then-minterm-lt128, else-minterm-lt128}

pub returns : goal.returns
unfolding value_at
returns c = elim c.if-minterm-lt128.branch [
  | then-minterm-lt128 w ↦ ap (λ x. nat_eq (x / 2 ^ (c.args.minterm % 128) % 2) 1)
      (w.word-is ∙ sym (cond-true (nat_lt c.args.minterm 128) c.args.self.now.truth.low c.args.self.now.truth.high (lt-ltb c.args.minterm 128 w.if-minterm-lt128.true)))
  | else-minterm-lt128 w ↦ ap (λ x. nat_eq (x / 2 ^ (c.args.minterm % 128) % 2) 1)
      (w.word-is ∙ sym (cond-false (nat_lt c.args.minterm 128) c.args.self.now.truth.low c.args.self.now.truth.high (le-ltb c.args.minterm 128 w.if-minterm-lt128.false)))
]
