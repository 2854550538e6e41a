use Rattle.std.proofs.Common.{◌≡◌, Result, Ok, Err, IfOk, List, ℕ, map, length, sym, ap, ◌∙◌, subst, arith}
use Rattle.std.proofs.lemmas.List.{length-map}
use Rattle.syn_rows.specs.declared.Lit.{Lit}
use Rattle.syn_plan.specs.declared.PLit.{PLit}
use Rattle.syn_plan.specs.Plans.{plan_truth}
use Rattle.syn_hashed.specs.Hashed.{lit_at}
use Rattle.syn_hashed.specs.Growing.{value_by}
use Rattle.syn_lutnet.proofs.LutDepths.{gates_are}
use Rattle.syn_lut_rows.specs.LutLiterals.{AllThere}
use Rattle.syn_lut_rows.proofs.Literals.{inputs_there, lut_value_is}
use Rattle.syn_lut_rows.proofs.lut_literal.Goals as goal

IfOk-map : {T E : Type 0} {P Q : T → Type 0} (r : Result T E) → ((x : T) → P x → Q x) → IfOk r P → IfOk r Q
IfOk-map (Ok x) f h = f x h
IfOk-map (Err e) f h = h

pub input_literals-leaves-requires-clause-few : goal.input_literals-leaves-requires-clause-few
input_literals-leaves-requires-clause-few c = omega (arith, ap (λ (is : List ℕ). length is) c.as_slice.ensures.value, c.args.lut.now.vars, c.args.lut.now.truth.few)

pub place_plan-requires-clause-count : goal.place_plan-requires-clause-count
place_plan-requires-clause-count c =
    let lut = c.args.lut.now in
    let leaves : c.as_slice-2.result.now ≡ map (lit_at c.args.signals.now) lut.inputs.items = c.as_slice-2.ensures.value ∙ c.input_literals-leaves.ensures ∙ ap (λ (is : List ℕ). map (lit_at c.args.signals.now) is) c.as_slice.ensures.value in
    omega (arith, ap (λ (ls : List Lit). length ls) leaves, length-map lut.inputs.items (lit_at c.args.signals.now), lut.vars, c.factor-plan.ensures.leaves)

pub place_plan-requires-clause-there : goal.place_plan-requires-clause-there
place_plan-requires-clause-there c =
    let lut = c.args.lut.now in
    let rows = c.args.hashed.now.rows.items in
    let leaves : c.as_slice-2.result.now ≡ map (lit_at c.args.signals.now) lut.inputs.items = c.as_slice-2.ensures.value ∙ c.input_literals-leaves.ensures ∙ ap (λ (is : List ℕ). map (lit_at c.args.signals.now) is) c.as_slice.ensures.value in
    subst (AllThere rows) (sym leaves) (inputs_there rows c.args.signals.now lut.inputs.items c.requires.there c.requires.inputs)

pub place_plan-requires-clause-room : goal.place_plan-requires-clause-room
place_plan-requires-clause-room c =
    let lut = c.args.lut.now in
    let p = c.factor-plan.result in
    let many = gates_are lut.truth lut.inputs.items (length p.gates.items) lut.vars (ap (λ (gs : List (PLit × PLit)). length gs) c.factor-plan.ensures.gates) in
    omega (arith, many, c.requires.room)

pub returns-clause-few : goal.returns-clause-few
returns-clause-few c =
    let lut = c.args.lut.now in
    let p = c.factor-plan.result in
    let many = gates_are lut.truth lut.inputs.items (length p.gates.items) lut.vars (ap (λ (gs : List (PLit × PLit)). length gs) c.factor-plan.ensures.gates) in
    omega (arith, many, c.place_plan.ensures.few)

pub returns-clause-value : goal.returns-clause-value
returns-clause-value c =
    let lut = c.args.lut.now in
    let p = c.factor-plan.result in
    let old = c.args.hashed.now.rows.items in
    let new = c.place_plan.new.hashed.rows.items in
    let signals = c.args.signals.now in
    let leaves : c.as_slice-2.result.now ≡ map (lit_at signals) lut.inputs.items = c.as_slice-2.ensures.value ∙ c.input_literals-leaves.ensures ∙ ap (λ (is : List ℕ). map (lit_at signals) is) c.as_slice.ensures.value in
    IfOk-map c.place_plan.result
    (λ l value given at_0.
    lut_value_is given old new lut.truth p (map (lit_at signals) lut.inputs.items) l c.factor-plan.ensures.truth (length-map lut.inputs.items (lit_at signals) ∙ sym lut.vars)
    (value given at_0 ∙ ap (λ (ls : List Lit). plan_truth p (map (value_by given old) ls)) leaves)) c.place_plan.ensures.value
