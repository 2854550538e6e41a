use Rattle.std.proofs.Common.{rules, ◌≤◌, List, [], length, sym, ap₂, ◌∙◌, arith}
use Rattle.syn_rows.specs.declared.Lit.{Lit}
use Rattle.syn_hashed.specs.Joined.{literal_below}
use Rattle.syn_plan.specs.declared.PLit.{PLit}
use Rattle.syn_gain.specs.Searching.{search_gates, state}
use Rattle.syn_gain.proofs.Fewer.{all_fewer}
use Rattle.syn_gain.proofs.Fresh.{rows_give}
use Rattle.syn_placing.proofs.placed_over.Goals as goal

pub returns-clause-searched : goal.returns-clause-searched
returns-clause-searched g c =
    let n = length c.args.rows.now in
    let gates = c.as_slice.result.now in
    let f = literal_below c.args.rows.now n in
    let gives = rows_give c.args.rows.now n c.requires.order c.requires.pairs in
    let few : length gates ≤ 381 = search rules in
    let all = c.place_gates.ensures.fewer f gives ∙ sym (all_fewer f n 4294967295 gates c.begin_over.new.self.literals.items (omega (arith, few))) in
    c.place_gates.ensures.gates f gives all ∙ ap₂ (λ (ls : List Lit) (gs : List (PLit × PLit)). search_gates c.args.rows.now n (state ls []) gs) c.begin_over.ensures.literals c.as_slice.ensures.value
