use Rattle.std.proofs.Common.{◌≡◌, ◌<◌, All, List, length, map, sym, ap, ◌∙◌, subst, arith}
use Rattle.syn_rows.specs.declared.Lit.{Lit}
use Rattle.syn_rows.specs.Rows.{node_of}
use Rattle.syn_hashed.specs.Growing.{value_by}
use Rattle.syn_hashed.proofs.Rising.{literals_keep}
use Rattle.syn_plan.specs.Plans.{plan_truth}
use Rattle.syn_gain.specs.declared.proposals.Proposal.{Proposal}
use Rattle.syn_gain.specs.Placing.{literal_for}
use Rattle.syn_placing.specs.Placing.{placed_gates}
use Rattle.syn_apply.specs.Applied.{leaves_by}
use Rattle.syn_apply.proofs.Standing.{IfOk-map, OnOk-map, OnOk-of, both_ok, grown_extends, leaves_there, length_each, planned_stands}
use Rattle.syn_apply.proofs.batch.planned.Goals as goal

pub place_plan-requires-clause-count : goal.place_plan-requires-clause-count
place_plan-requires-clause-count c =
    sym (ap (λ (ls : List Lit). length ls) (c.as_slice-then-len-lt-NODE_LIMIT.ensures.value ∙ c.leaf_literals-leaves.ensures) ∙ length_each c.args.proposal.now.plan.leaves _)

pub place_plan-requires-clause-there : goal.place_plan-requires-clause-there
place_plan-requires-clause-there c =
    let p : Proposal = c.args.proposal.now in
    let rows = c.args.hashed.now.rows.items in
    let leaves : c.as_slice-then-len-lt-NODE_LIMIT.result.now ≡ leaves_by c.args.literals.now p.plan.leaves p.leaves.items =
    c.as_slice-then-len-lt-NODE_LIMIT.ensures.value ∙ c.leaf_literals-leaves.ensures ∙ ap (leaves_by c.args.literals.now p.plan.leaves) c.as_slice.ensures.value in
    subst (λ (ls : List Lit). All (λ l. node_of l < length rows) ls) (sym leaves) (leaves_there c.args.rows.now rows c.args.literals.now p c.requires.standing c.requires.node)

pub returns-then-len-lt-NODE_LIMIT-clause-grown : goal.returns-then-len-lt-NODE_LIMIT-clause-grown
returns-then-len-lt-NODE_LIMIT-clause-grown c =
    let old = c.args.hashed.now.rows.items in
    let new = c.place_plan.new.hashed.rows.items in
    OnOk-of c.place_plan.result (grown_extends old new c.place_plan.ensures.grows (literals_keep old new c.place_plan.ensures.grows) (omega (arith, c.place_plan.ensures.few, c.if-len-lt-NODE_LIMIT.true, c.len.ensures, c.len-2.ensures.value)))

pub returns-then-len-lt-NODE_LIMIT-clause-stands : goal.returns-then-len-lt-NODE_LIMIT-clause-stands
returns-then-len-lt-NODE_LIMIT-clause-stands c =
    let p : Proposal = c.args.proposal.now in
    let rows = c.args.rows.now in
    let old = c.args.hashed.now.rows.items in
    let literals = c.args.literals.now in
    let leaves : c.as_slice-then-len-lt-NODE_LIMIT.result.now ≡ leaves_by literals p.plan.leaves p.leaves.items =
    c.as_slice-then-len-lt-NODE_LIMIT.ensures.value ∙ c.leaf_literals-leaves.ensures ∙ ap (leaves_by literals p.plan.leaves) c.as_slice.ensures.value in
    both_ok c.place_plan.result
    (λ l there value.
    planned_stands c.args.hashed.now.source_count rows old c.place_plan.new.hashed.rows.items literals p l c.requires.hashed c.requires.standing c.requires.node c.requires.sound there
    (λ given at_0. value given at_0 ∙ ap (λ (ls : List Lit). plan_truth p.plan (map (value_by given old) ls)) leaves)) c.place_plan.ensures.there c.place_plan.ensures.value

pub returns-then-len-lt-NODE_LIMIT-clause-rows : goal.returns-then-len-lt-NODE_LIMIT-clause-rows
returns-then-len-lt-NODE_LIMIT-clause-rows c =
    let p : Proposal = c.args.proposal.now in
    let old = c.args.hashed.now.rows.items in
    let leaves : c.as_slice-then-len-lt-NODE_LIMIT.result.now ≡ leaves_by c.args.literals.now p.plan.leaves p.leaves.items =
    c.as_slice-then-len-lt-NODE_LIMIT.ensures.value ∙ c.leaf_literals-leaves.ensures ∙ ap (leaves_by c.args.literals.now p.plan.leaves) c.as_slice.ensures.value in
    OnOk-map c.place_plan.result (λ h. h ∙ ap (λ (ls : List Lit). (placed_gates old ls p.plan.gates.items).rows) leaves) c.place_plan.ensures.rows

pub returns-then-len-lt-NODE_LIMIT-clause-literal : goal.returns-then-len-lt-NODE_LIMIT-clause-literal
returns-then-len-lt-NODE_LIMIT-clause-literal c =
    let p : Proposal = c.args.proposal.now in
    let old = c.args.hashed.now.rows.items in
    let leaves : c.as_slice-then-len-lt-NODE_LIMIT.result.now ≡ leaves_by c.args.literals.now p.plan.leaves p.leaves.items =
    c.as_slice-then-len-lt-NODE_LIMIT.ensures.value ∙ c.leaf_literals-leaves.ensures ∙ ap (leaves_by c.args.literals.now p.plan.leaves) c.as_slice.ensures.value in
    IfOk-map c.place_plan.result (λ l h. h ∙ ap (λ (ls : List Lit). literal_for (placed_gates old ls p.plan.gates.items).literals p.plan.out) leaves) c.place_plan.ensures.literal
