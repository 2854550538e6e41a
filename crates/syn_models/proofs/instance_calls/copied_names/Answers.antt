use Rattle.std.proofs.Common.{ap₂, ◌∙◌, refl, arith}
use Rattle.syn_netlist.specs.Numbers.{with_word, word_at}
use Rattle.syn_models.proofs.Listing.{one_more_name}
use Rattle.syn_models.proofs.instance_calls.copied_names.Goals as goal

pub loop-i-preserved : goal.loop-i-preserved
loop-i-preserved c =
    c.in_ok-add.ensures.ok ∙ ap₂ with_word c.loop-i.invariant c.word.ensures ∙ one_more_name c.args.names.now c.loop-i.i (word_at c.args.names.now c.loop-i.i) c.len-i-end.ensures.distinct (omega arith) refl
