use Rattle.std.proofs.Common.{ℕ, List, ap, ap₂, ◌∙◌}
use Rattle.std.proofs.lemmas.Result.{IfOk-weaker}
use Rattle.syn_netlist.specs.Numbers.{words_at}
use Rattle.syn_compare.specs.Matching.{unmatched}
use Rattle.syn_compare.proofs.matching.unmatched_given.Goals as goal

pub returns : goal.returns
returns c =
    let f = c.args.first.now in
    let s = c.args.second.now in
    IfOk-weaker c.unmatched.result _ _
    (λ o e. e ∙ ap₂ (λ (xs ys : List (List ℕ)). unmatched xs ys) (ap (words_at f.names) c.as_slice.ensures.value ∙ c.in_ok-numbers.ensures.words) (ap (words_at s.names) c.as_slice-2.ensures.value ∙ c.in_ok-others.ensures.words))
    c.unmatched.ensures
