use Rattle.std.proofs.Common.{◌≡◌, ℕ, not, true, false, List, get_or, refl, sym, ap, ◌∙◌, subst, arith}
use Rattle.std.proofs.lemmas.Bool.{not_from_true, not_from_false}
use Rattle.syn_netlist.specs.Numbers.{word_at}
use Rattle.syn_netlist.specs.Words.{has_word}
use Rattle.syn_netlist.proofs.Places.{has_word_at}
use Rattle.syn_models.proofs.Placing.{find_here, find_on}
use Rattle.syn_models.proofs.sites.first_other.Goals as goal

pub loop-n-preserved : goal.loop-n-preserved
loop-n-preserved c =
    let w : List ℕ = word_at c.args.names.now (get_or c.args.numbers.now c.loop-n.n-index 0) in
    let there : has_word c.args.others.now w ≡ true = subst (λ (v : List ℕ). has_word c.args.others.now v ≡ true) (c.in-Some.ensures.some.1 ∙ c.word.ensures) (has_word_at c.args.others.now c.in-Some.field-0 c.in-Some.ensures.some.0) in
    sym (find_on (λ (word : List ℕ). not (has_word c.args.others.now word)) c.args.names.now c.args.numbers.now c.loop-n.n-index (omega arith) (not_from_true (has_word c.args.others.now w) there)) ∙ c.loop-n.invariant

pub returns-in-None-clause-found : goal.returns-in-None-clause-found
returns-in-None-clause-found c =
    let w : List ℕ = word_at c.args.names.now (get_or c.args.numbers.now c.loop-n.n-index 0) in
    let none : has_word c.args.others.now w ≡ false = ap (has_word c.args.others.now) (sym c.word.ensures) ∙ c.in-None.ensures.none.0 refl in
    sym (find_here (λ (word : List ℕ). not (has_word c.args.others.now word)) c.args.names.now c.args.numbers.now c.loop-n.n-index (omega arith) (not_from_false (has_word c.args.others.now w) none)) ∙ c.loop-n.invariant
