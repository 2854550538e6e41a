use Rattle.std.proofs.Common.{◌+◌, ℕ, List, ap, ◌∙◌, arith}
use Rattle.syn_aiger_files.specs.Files.{OfOutput, Symbol}
use Rattle.syn_aiger_files.proofs.AsOutputs.{outputs_on}
use Rattle.syn_aiger_files.proofs.first_names.push_as_outputs.Goals as goal

pub loop-k-preserved : goal.loop-k-preserved
loop-k-preserved c =
    let k = c.loop-k.k in
    let named : List ℕ → Symbol = λ (name : List ℕ). record { place = OfOutput; index = c.args.output + k; name = name } in
    outputs_on c.args.symbols.now c.args.place c.args.output c.args.count k c.loop-k.made.items _
    c.push.new.self.items (named c.of.result) (omega arith) (ap named (c.of.ensures ∙ c.in_ok-name.ensures.name)) c.in_ok-push.ensures.items c.loop-k.invariant
