use Rattle.std.proofs.Common.{◌≡◌, ◌^◌, ◌≤◌, List, ℕ, length, map, ap, ◌∙◌, arith}
use Rattle.syn_aiger.specs.Values.{variable_word}
use Rattle.syn_aiger.proofs.Netting.{names_all, names_apart, names_few, names_step, names_word}
use Rattle.syn_aiger.proofs.circles.variable_names.Goals as goal

pub loop-v-init : goal.loop-v-init
loop-v-init c = c.new-names.ensures

pub add-requires-clause-few : goal.add-requires-clause-few
add-requires-clause-few c =
    let vs = c.as_slice-v-items.result.now in
    let long : length vs ≤ 2 ^ 28 = omega (arith, ap (λ (ns : List ℕ). length ns) (c.as_slice-v-items.ensures.value ∙ c.in_ok-variables.ensures), c.args.file.now.sound.few) in
    let few : length c.loop-v.names ≡ c.loop-v.v-index = names_few vs c.loop-v.v-index c.loop-v.names (omega arith) c.loop-v.invariant in
    omega arith

pub add-requires-clause-word : goal.add-requires-clause-word
add-requires-clause-word c =
    names_word c.args.file.now.aig c.args.file.now.sound c.as_slice-v-items.result.now c.loop-v.v-index c.as_bytes.result.now (c.as_slice-v-items.ensures.value ∙ c.in_ok-variables.ensures) c.loop-v-test.true (c.as_bytes.ensures.value ∙ c.format.ensures.text)

pub loop-v-preserved : goal.loop-v-preserved
loop-v-preserved c =
    names_step c.as_slice-v-items.result.now c.loop-v.v-index c.loop-v.names c.add.new.self c.as_bytes.result.now
    (names_apart c.args.file.now.aig c.args.file.now.sound c.as_slice-v-items.result.now (c.as_slice-v-items.ensures.value ∙ c.in_ok-variables.ensures))
    c.loop-v-test.true c.loop-v.invariant (c.as_bytes.ensures.value ∙ c.format.ensures.text) c.in_ok-add.ensures.ok

pub returns : goal.returns
returns c =
    names_all c.as_slice-v-items.result.now c.loop-v.v-index c.loop-v.names c.loop-v-test.false c.loop-v.invariant
    ∙ ap (λ (ns : List ℕ). map variable_word ns) (c.as_slice-v-items.ensures.value ∙ c.in_ok-variables.ensures)
