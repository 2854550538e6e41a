use Rattle.std.proofs.Common.{◌≡◌, length, option_map, Some, None, sym, ap, ◌∙◌}
use Rattle.syn_netlist.specs.Numbers.{word_at}
use Rattle.syn_aiger.specs.WrittenLists.{typed_output}
use Rattle.syn_aiger.proofs.WrittenFiles.{first_typed_is, typed_below}
use Rattle.syn_aiger.proofs.writer.refuse_types.Goals as goal

pub word-requires : goal.word-requires
word-requires c =
    let f = c.args.frame.now in
    let found : Some c.in-Some.output ≡ typed_output f.latches = c.in-Some.ensures ∙ ap typed_output c.as_slice.ensures in
    typed_below (length f.names) f.latches c.in-Some.output f.latches_below found

pub returns-in_ok-name-in-Some-clause-fault : goal.returns-in_ok-name-in-Some-clause-fault
returns-in_ok-name-in-Some-clause-fault c =
    let f = c.args.frame.now in
    let found : Some c.in-Some.output ≡ typed_output f.latches = c.in-Some.ensures ∙ ap typed_output c.as_slice.ensures in
    let name : c.of.result ≡ word_at f.names c.in-Some.output = c.of.ensures ∙ c.in_ok-name-in-Some.ensures.items ∙ c.word.ensures in
    first_typed_is f ∙ ap (option_map (word_at f.names)) (sym found) ∙ ap Some (sym name)

pub returns-in-None-clause-untyped : goal.returns-in-None-clause-untyped
returns-in-None-clause-untyped c =
    let f = c.args.frame.now in
    let found : None ≡ typed_output f.latches = c.in-None.ensures ∙ ap typed_output c.as_slice.ensures in
    first_typed_is f ∙ ap (option_map (word_at f.names)) (sym found)
