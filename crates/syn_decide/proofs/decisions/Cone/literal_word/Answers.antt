use Rattle.std.proofs.Common.{◌≡◌, ◌%◌, ◌==◌, false, not, if◌then◌else◌, Some, take, rules, sym, ap, ◌∙◌, arith}
use Rattle.syn_truth.specs.Words.{value_in}
use Rattle.syn_truth.proofs.Halves.{first_fits, not_words}
use Rattle.syn_core_laws.specs.SameValue.{turned_by}
use Rattle.syn_decide.specs.Words.{node_value}
use Rattle.syn_decide.proofs.decisions.Cone.literal_word.Goals as goal

pub returns-then-complemented : goal.returns-then-complemented
returns-then-complemented c = λ xs l e.
    let odd : c.args.l.0 % 2 ≡ 1 = search rules in
    ap Some (not_words (take 7 xs) (first_fits xs) false c.in-Some.word c.in-Some.word (omega arith) (omega arith))
    ∙ ap (λ k. Some (if k == 0 then value_in c.in-Some.word (take 7 xs) else not (value_in c.in-Some.word (take 7 xs)))) (sym odd)
    ∙ ap (turned_by c.args.l) (c.in-Some.ensures xs l e ∙ ap (node_value c.args.self.now c.args.words.now xs) c.node.ensures)
