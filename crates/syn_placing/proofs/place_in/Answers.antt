use Rattle.std.proofs.Common.{List, [], ◌∷◌, ◌++◌, length, sym, ap, ◌∙◌, subst}
use Rattle.syn_rows.specs.declared.Lit.{Lit}
use Rattle.syn_rows.specs.declared.Row.{Row}
use Rattle.syn_rows.specs.Joining.{constant}
use Rattle.syn_hashed.specs.Growing.{value_by}
use Rattle.syn_plan.specs.Plans.{plan_truth}
use Rattle.syn_gain.specs.Placing.{literal_for}
use Rattle.syn_gain.specs.Searching.{Searched, search_gates, state}
use Rattle.syn_placing.specs.Placing.{AreLacking, PlacedGates}
use Rattle.syn_placing.proofs.Fitting.{plan_value}
use Rattle.syn_placing.proofs.Joined.{plan_is}
use Rattle.syn_placing.proofs.place_in.Goals as goal

pub append-requires-clause-lacking : goal.append-requires-clause-lacking
append-requires-clause-lacking g c =
    let rows = c.args.hashed.now.rows.items in
    let begun : List Lit = constant ∷ c.args.leaves.now in
    let gates = c.args.plan.now.gates.items in
    let found = c.placed_over-placed.ensures.searched ∙ ap (λ (rs : List Row). search_gates rs (length rs) (state begun []) gates) c.as_slice.ensures.value in
    subst (AreLacking rows) (sym (c.as_slice-2.ensures.value ∙ ap (λ (s : Searched). s.extra) found)) (plan_is rows begun gates).1

pub returns-clause-rows : goal.returns-clause-rows
returns-clause-rows g c =
    let rows = c.args.hashed.now.rows.items in
    let begun : List Lit = constant ∷ c.args.leaves.now in
    let gates = c.args.plan.now.gates.items in
    let found = c.placed_over-placed.ensures.searched ∙ ap (λ (rs : List Row). search_gates rs (length rs) (state begun []) gates) c.as_slice.ensures.value in
    c.in_ok-append.ensures.rows
    ∙ ap (λ (extra : List Row). rows ++ extra) (c.as_slice-2.ensures.value ∙ ap (λ (s : Searched). s.extra) found)
    ∙ sym (ap (λ (s : PlacedGates). s.rows) (plan_is rows begun gates).0)

pub returns-clause-literal : goal.returns-clause-literal
returns-clause-literal g c =
    let rows = c.args.hashed.now.rows.items in
    let begun : List Lit = constant ∷ c.args.leaves.now in
    let gates = c.args.plan.now.gates.items in
    let found = c.placed_over-placed.ensures.searched ∙ ap (λ (rs : List Row). search_gates rs (length rs) (state begun []) gates) c.as_slice.ensures.value in
    c.literal_for.ensures
    ∙ ap (λ (ls : List Lit). literal_for ls c.args.plan.now.out) (c.as_slice-3.ensures.value ∙ ap (λ (s : Searched). s.literals) found ∙ sym (ap (λ (s : PlacedGates). s.literals) (plan_is rows begun gates).0))

pub returns-clause-value : goal.returns-clause-value
unfolding plan_truth
returns-clause-value g c = λ given at_0.
    let rows = c.args.hashed.now.rows.items in
    let new = c.append.new.hashed in
    let leaves = c.args.leaves.now in
    let begun : List Lit = constant ∷ leaves in
    let gates = c.args.plan.now.gates.items in
    let found = c.placed_over-placed.ensures.searched ∙ ap (λ (rs : List Row). search_gates rs (length rs) (state begun []) gates) c.as_slice.ensures.value in
    ap (value_by given new.rows.items)
    (c.literal_for.ensures ∙ ap (λ (ls : List Lit). literal_for ls c.args.plan.now.out) (c.as_slice-3.ensures.value ∙ ap (λ (s : Searched). s.literals) found))
    ∙ plan_value new.source_count rows c.as_slice-2.result.now new.rows.items given leaves gates c.args.plan.now.out c.in_ok-append.ensures.rows new.hashed at_0 c.requires.there
    (c.as_slice-2.ensures.value ∙ ap (λ (s : Searched). s.extra) found)
