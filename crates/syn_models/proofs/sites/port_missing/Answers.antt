use Rattle.std.proofs.Common.{◌≡◌, ℕ, not, List, find, ap, ◌∙◌, Some, None, rules}
use Rattle.syn_netlist.specs.Numbers.{word_at, words_at}
use Rattle.syn_netlist.specs.Words.{has_word}
use Rattle.syn_models.specs.Models.{reading_ports}
use Rattle.syn_models.specs.Views.{model_in}
use Rattle.syn_models.proofs.Circles.{find_same}
use Rattle.syn_models.proofs.sites.port_missing.Goals as goal

pub returns-in-Some : goal.returns-in-Some
returns-in-Some c =
    let word : c.in_ok-copied-in-Some.field-0 ≡ word_at c.args.m.now.names c.in-Some.port = search rules in
    let found : Some (word_at c.args.m.now.names c.in-Some.port) ≡ find (λ (w : List ℕ). not (has_word c.in_ok-bound.bound w)) (reading_ports (model_in c.args.m.now)) =
    c.in-Some.ensures.found ∙ ap (λ (ns : List ℕ). find (λ (w : List ℕ). not (has_word c.in_ok-bound.bound w)) (words_at c.args.m.now.names ns)) c.as_slice.ensures.value
    ∙ ap (find (λ (w : List ℕ). not (has_word c.in_ok-bound.bound w))) c.requires.ports.listed in
    λ names. ap (λ (w : List ℕ). Some w) word ∙ found ∙ find_same _ _ (λ w. ap not (c.in_ok-bound.ensures names w)) (reading_ports (model_in c.args.m.now))

pub returns : goal.returns
returns c =
    let found : None ≡ find (λ (w : List ℕ). not (has_word c.in_ok-bound.bound w)) (reading_ports (model_in c.args.m.now)) =
    c.in-None.ensures.found ∙ ap (λ (ns : List ℕ). find (λ (w : List ℕ). not (has_word c.in_ok-bound.bound w)) (words_at c.args.m.now.names ns)) c.as_slice.ensures.value
    ∙ ap (find (λ (w : List ℕ). not (has_word c.in_ok-bound.bound w))) c.requires.ports.listed in
    λ names. found ∙ find_same _ _ (λ w. ap not (c.in_ok-bound.ensures names w)) (reading_ports (model_in c.args.m.now))
