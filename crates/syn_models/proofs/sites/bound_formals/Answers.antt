use Rattle.std.proofs.Common.{ℕ, length, List, [], ap, ◌∙◌, map, arith}
use Rattle.std.proofs.lemmas.List.{take_all}
use Rattle.syn_netlist.specs.Numbers.{with_word}
use Rattle.syn_netlist.specs.Words.{has_word, is_word}
use Rattle.syn_models.specs.declared.hierarchy.Bind.{Bind}
use Rattle.syn_models.specs.Kept.{bind_in}
use Rattle.syn_models.specs.Models.{is_bound}
use Rattle.syn_models.proofs.Placing.{bound_more, with_word_length, formal_word}
use Rattle.syn_models.proofs.sites.bound_formals.Goals as goal

pub add-requires-clause-word : goal.add-requires-clause-word
add-requires-clause-word c = ap is_word c.as_slice.ensures ∙ formal_word [] c.args.binds.now c.loop-b.b-index c.b-item.result (c.requires.words []) (omega arith) c.b-item.is

pub loop-b-preserved : goal.loop-b-preserved
loop-b-preserved c = record {
  few = omega (arith, ap length c.in_ok-add.ensures.ok, with_word_length c.loop-b.bound c.as_slice.result.now, c.loop-b.invariant.few);
  same = λ names word.
      ap (λ (ws : List (List ℕ)). has_word ws word) (c.in_ok-add.ensures.ok ∙ ap (with_word c.loop-b.bound) c.as_slice.ensures)
      ∙ bound_more c.loop-b.bound names c.args.binds.now c.loop-b.b-index c.b-item.result word (omega arith) c.b-item.is (c.loop-b.invariant.same names word);
}

pub returns : goal.returns
returns c = λ names word. c.loop-b.invariant.same names word ∙ ap (λ (bs : List Bind). is_bound (map (bind_in names) bs) word) (take_all c.loop-b.b-index c.args.binds.now (omega arith))
