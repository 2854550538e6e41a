use Rattle.std.proofs.Common.{◌≡◌, ◌&&◌, not, Bool, true, ℕ, List, map, sym, ap, ◌∙◌, subst}
use Rattle.syn_netlist.specs.Words.{has_word}
use Rattle.syn_netlist.proofs.Places.{has_word_at}
use Rattle.syn_models.specs.Kept.{bind_in}
use Rattle.syn_models.specs.Models.{is_bound}
use Rattle.syn_models.proofs.ReadingBack.{unbound_none}
use Rattle.syn_models.proofs.slash_counts.is_unbound.Goals as goal

pub returns-in-Some : goal.returns-in-Some
returns-in-Some c =
    let names : List (List ℕ) = c.args.instance.now.inside.now.names in
    let home : List (List ℕ) = c.args.instance.now.outer.home.now.names in
    let there : has_word names c.args.name.now ≡ true = subst (λ (w : List ℕ). has_word names w ≡ true) c.in-Some.ensures.some.1 (has_word_at names c.in-Some.field-0 c.in-Some.ensures.some.0) in
    let free : c.is_none.result ≡ not (is_bound (map (bind_in home) c.args.instance.now.binds.now) c.args.name.now) = unbound_none home (map (bind_in home) c.args.instance.now.binds.now) c.args.name.now c.actual_number.result c.is_none.result (c.actual_number.ensures.each home) c.is_none.ensures in
    free ∙ sym (ap (λ (b : Bool). b && not (is_bound (map (bind_in home) c.args.instance.now.binds.now) c.args.name.now)) there)
