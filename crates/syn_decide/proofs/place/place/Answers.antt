use Rattle.std.proofs.Common.{rules, ◌≡◌, ◌≤◌, List, [], ◌∷◌, length, sym, ap, ap₂, ◌∙◌, arith}
use Rattle.syn_rows.specs.declared.Lit.{Lit}
use Rattle.syn_rows.specs.declared.TheConstants.{NODE_LIMIT}
use Rattle.syn_plan.specs.declared.PLit.{PLit}
use Rattle.syn_plan.specs.declared.TheConstants.{MAX_GATES}
use Rattle.syn_gain.specs.Searching.{Searched, gates_by, state}
use Rattle.syn_gain.proofs.Bounds.{below_each}
use Rattle.syn_gain.proofs.Fewer.{all_fewer}
use Rattle.syn_gain.proofs.NodesThere.{begun_placed}
use Rattle.syn_gain.proofs.Searches.{searched_by_is_placed}
use Rattle.syn_decide.specs.Hints.{literal_hit, placed_by_hits}
use Rattle.syn_decide.specs.Tasks.{task_of}
use Rattle.syn_decide.proofs.HitLookups.{hits_give, hits_take_either}
use Rattle.syn_decide.proofs.place.place.Goals as goal

pub place_gates-requires : goal.place_gates-requires
place_gates-requires c =
    let a = c.args.attempt.now in
    let r = a.candidate in (
      omega arith,
      (
        c.requires,
        (
          search rules,
          (
            search rules,
            (
              c.begin.ensures.none,
              begun_placed NODE_LIMIT r.plan.now.leaves r.leaves.now c.begin.new.self.literals.items c.begin.ensures.literals (omega arith) (omega arith)
                  (λ i lt. omega (arith, below_each r.root r.leaves.now r.below_root i lt, a.root_is_node)),
            ),
          ),
        ),
      ),
    )

pub returns-clause-literals : goal.returns-clause-literals
returns-clause-literals c =
    let r = c.args.attempt.now.candidate in
    let hits = c.args.hits.now in
    let f = literal_hit hits in
    let gates = c.as_slice.result.now in
    let few : length gates ≤ MAX_GATES = search rules in
    let all = c.place_gates.ensures.fewer f (hits_give hits) ∙ sym (all_fewer f NODE_LIMIT 4294967295 gates c.begin.new.self.literals.items (omega (arith, few))) in
    let done = c.place_gates.ensures.gates f (hits_give hits) all in
    ap (λ (s : Searched). s.literals)
    (done ∙ ap₂ (λ (l : List Lit) (g : List (PLit × PLit)). gates_by f NODE_LIMIT (state l []) g) c.begin.ensures.literals c.as_slice.ensures.value
    ∙ searched_by_is_placed f (hits_take_either hits) NODE_LIMIT r.plan.now.leaves r.leaves.now r.plan.now.gates.items)

pub returns-clause-extra : goal.returns-clause-extra
returns-clause-extra c =
    let r = c.args.attempt.now.candidate in
    let hits = c.args.hits.now in
    let f = literal_hit hits in
    let gates = c.as_slice.result.now in
    let few : length gates ≤ MAX_GATES = search rules in
    let all = c.place_gates.ensures.fewer f (hits_give hits) ∙ sym (all_fewer f NODE_LIMIT 4294967295 gates c.begin.new.self.literals.items (omega (arith, few))) in
    let done = c.place_gates.ensures.gates f (hits_give hits) all in
    ap (λ (s : Searched). s.extra)
    (done ∙ ap₂ (λ (l : List Lit) (g : List (PLit × PLit)). gates_by f NODE_LIMIT (state l []) g) c.begin.ensures.literals c.as_slice.ensures.value
    ∙ searched_by_is_placed f (hits_take_either hits) NODE_LIMIT r.plan.now.leaves r.leaves.now r.plan.now.gates.items)
