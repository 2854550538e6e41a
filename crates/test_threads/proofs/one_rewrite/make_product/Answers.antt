use Rattle.std.proofs.Common.{ap, ◌∙◌}
use Rattle.syn_core_laws.specs.Views.{pinned}
use Rattle.syn_table.specs.declared.Known.{Known}
use Rattle.test_threads.specs.Rewriting.{keyed}
use Rattle.test_threads.proofs.Stages.{may_pin_one, product_rests}
use Rattle.test_threads.proofs.one_rewrite.make_product.Goals as goal

pub pin_keyed-requires-clause-may : goal.pin_keyed-requires-clause-may
pin_keyed-requires-clause-may c = may_pin_one _ c.requires.made

pub make-requires-clause-rests : goal.make-requires-clause-rests
make-requires-clause-rests c =
    let keyed_is = ap (λ (k : Known). k.core) (c.pin_keyed.ensures.keyed c.if-not-pin_keyed.false) ∙ ap (λ v. keyed v 1 0) c.requires.made in
    product_rests _ (ap (λ (k : Known). k.core) c.pin.ensures.known ∙ ap (λ v. pinned v 7) keyed_is)
