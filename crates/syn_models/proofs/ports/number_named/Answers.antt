use Rattle.std.proofs.Common.{ℕ, ◌<◌, map, length, List, refl, ap, ◌∙◌, sym, arith}
use Rattle.syn_netlist.specs.Numbers.{word_at}
use Rattle.syn_netlist.specs.Words.{distinct, has_word}
use Rattle.syn_models.specs.Views.{model_in}
use Rattle.syn_models.proofs.Listing.{named_none, named_at, names_size}
use Rattle.syn_models.proofs.ports.number_named.Goals as goal

pub returns-in-None-clause-none : goal.returns-in-None-clause-none
returns-in-None-clause-none c =
    named_none (map model_in c.args.models.now) c.args.name.now (ap (λ (ns : List (List ℕ)). has_word ns c.args.name.now) (sym c.requires) ∙ c.in-None.ensures.none.0 refl)

pub returns-in-Some-clause-some : goal.returns-in-Some-clause-some
returns-in-Some-clause-some c =
    let below : c.in-Some.i < length c.args.models.now = omega (arith, c.in-Some.ensures.some.0, ap length c.requires, names_size c.args.models.now) in
    λ m e. named_at c.args.models.now c.in-Some.i c.args.name.now m (ap distinct (sym c.requires) ∙ c.len-count.ensures.distinct) below (ap (λ (ns : List (List ℕ)). word_at ns c.in-Some.i) (sym c.requires) ∙ c.in-Some.ensures.some.1) e

pub returns-in-Some-clause-below : goal.returns-in-Some-clause-below
returns-in-Some-clause-below c = omega (arith, c.in-Some.ensures.some.0, ap length c.requires, names_size c.args.models.now)
