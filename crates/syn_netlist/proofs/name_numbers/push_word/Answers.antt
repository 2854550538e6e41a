use Rattle.std.proofs.Common.{◌≡◌, ◌∙◌, ap, rules}
use Rattle.syn_netlist.specs.Texts.{texts}
use Rattle.syn_netlist.specs.Words.{distinct}
use Rattle.syn_netlist.proofs.Finding.{put_last}
use Rattle.syn_netlist.proofs.Sets.{distinct_push}
use Rattle.syn_netlist.proofs.name_numbers.push_word.Goals as goal

pub returns-clause-ok : goal.returns-clause-ok
returns-clause-ok c =
    let same : c.in_ok-copy.copy.items ≡ c.args.word.now = search rules in
    put_last c.args.words.now.keys c.insert.new.self.keys c.in_ok-copy.copy c.args.word.now same c.requires c.in_ok-insert.ensures.keys

pub returns-clause-distinct : goal.returns-clause-distinct
returns-clause-distinct c =
    let same : c.in_ok-copy.copy.items ≡ c.args.word.now = search rules in
    λ d. ap distinct (put_last c.args.words.now.keys c.insert.new.self.keys c.in_ok-copy.copy c.args.word.now same c.requires c.in_ok-insert.ensures.keys)
    ∙ distinct_push (texts c.args.words.now.keys) c.args.word.now d c.requires
