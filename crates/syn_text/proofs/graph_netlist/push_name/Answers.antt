use Rattle.std.proofs.Common.{ℕ, List, length, ap, ◌∙◌}
use Rattle.syn_netlist.specs.Numbers.{words_at, all_below}
use Rattle.syn_text.proofs.Finding.{words_pushed, below_pushed}
use Rattle.syn_text.proofs.graph_netlist.push_name.Goals as goal

pub returns-clause-words : goal.returns-clause-words
returns-clause-words c =
    let added = c.in_ok-number.ensures in
    ap (λ (l : List ℕ). words_at c.add.new.self l) c.in_ok-push.ensures.items
    ∙ words_pushed c.args.names.now c.add.new.self c.args.numbers.now.items c.args.word.now c.in_ok-number.number added.ok added.number.1 c.requires.below

pub returns-clause-below : goal.returns-clause-below
returns-clause-below c =
    let added = c.in_ok-number.ensures in
    ap (λ (l : List ℕ). all_below (length c.add.new.self) l) c.in_ok-push.ensures.items
    ∙ below_pushed c.args.names.now c.add.new.self c.args.numbers.now.items c.args.word.now c.in_ok-number.number added.ok added.number.0 c.requires.below
