use Rattle.std.proofs.Common.{ap, ◌∙◌}
use Rattle.syn_table.specs.declared.Known.{Known}
use Rattle.test_threads.specs.Rewriting.{keyed}
use Rattle.test_threads.proofs.Stages.{may_pin_two, may_pin_three}
use Rattle.test_threads.proofs.one_rewrite.make_neither.Goals as goal

pub pin_keyed-requires-clause-may : goal.pin_keyed-requires-clause-may
pin_keyed-requires-clause-may c = may_pin_two _ c.requires.taken

pub pin_keyed-requires-2-clause-may : goal.pin_keyed-requires-2-clause-may
pin_keyed-requires-2-clause-may c = may_pin_three _ (ap (λ (k : Known). k.core) (c.pin_keyed.ensures.keyed c.if-not-pin_keyed.false) ∙ ap (λ v. keyed v 2 0) c.requires.taken)
