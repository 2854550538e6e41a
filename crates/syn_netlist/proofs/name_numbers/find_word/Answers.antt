use Rattle.std.proofs.Common.{true, refl, sym, ◌∙◌}
use Rattle.std.proofs.lemmas.Bool.{both_ways}
use Rattle.syn_netlist.proofs.Finding.{found_at, has_texts}
use Rattle.syn_netlist.proofs.name_numbers.find_word.Goals as goal

pub returns-in-Some-clause-some : goal.returns-in-Some-clause-some
returns-in-Some-clause-some c = let h = found_at c.args.words.now.keys c.args.word.now c.in-Some.i (sym c.in-Some.ensures.index) in (h.0, h.1)

pub returns-in-Some-clause-none : goal.returns-in-Some-clause-none
returns-in-Some-clause-none c =
    let h = found_at c.args.words.now.keys c.args.word.now c.in-Some.i (sym c.in-Some.ensures.index) in
    ((λ e. absurd (both_ways true e refl)), (λ e. absurd (both_ways _ e h.2)))

pub returns-in-None-clause-none : goal.returns-in-None-clause-none
returns-in-None-clause-none c = ((λ e. sym (has_texts c.args.words.now.keys c.args.word.now) ∙ sym c.in-None.ensures.found), (λ e. refl))
