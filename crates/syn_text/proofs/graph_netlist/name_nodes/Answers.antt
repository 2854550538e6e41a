use Rattle.std.proofs.Common.{◌≡◌, ℕ, List, ◌++◌, length, ap, rules, arith}
use Rattle.syn_netlist.specs.Frames.{frame_in}
use Rattle.syn_text.proofs.Whole.{few_taken}
use Rattle.syn_text.proofs.graph_netlist.name_nodes.Goals as goal

pub add_inner_names-requires-clause-taken : goal.add_inner_names-requires-clause-taken
add_inner_names-requires-clause-taken c =
    let names : List (List ℕ) = c.args.frame.now.names in
    let srcs : List ℕ = c.args.known.numbers.items in
    let signals : List ℕ = c.in_ok-signals.signals.items in
    let both : c.in_ok-taken-2.taken.numbers.items ≡ srcs ++ signals = search rules in
    let few = few_taken (frame_in c.args.frame.now) names srcs signals c.requires.few_sources (omega (arith, c.requires.few)) c.in_ok-signals.ensures.words c.in_ok-signals.ensures.below in
    omega (arith, few, ap (λ (l : List ℕ). length l) both)
