use Rattle.std.proofs.Common.{ℕ, ◌<◌, List, length, get_or, sym, subst, arith}
use Rattle.syn_netlist.proofs.Places.{below_at}
use Rattle.syn_netlist.proofs.Walking.{output_below}
use Rattle.syn_netlist.proofs.checks.output_names.Goals as goal

pub word-requires : goal.word-requires
word-requires c =
    let tables = c.args.tables.now in
    let numbers : List ℕ = c.args.numbers.now in
    let i : ℕ = c.loop-t.t-index in
    let inside : i < length numbers = omega arith in
    subst (λ k. k < length c.args.names.now) (sym c.output_of.ensures) (output_below (length c.args.names.now) tables (get_or numbers i 0) c.requires.tables (below_at (length tables) numbers i c.requires.numbers inside))
