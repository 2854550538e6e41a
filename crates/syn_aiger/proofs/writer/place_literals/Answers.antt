use Rattle.std.proofs.Common.{ℕ, ◌<◌, List, length, get_or, ◌∙◌, arith}
use Rattle.std.proofs.lemmas.List.{length-set}
use Rattle.syn_rows.specs.declared.Lit.{Lit}
use Rattle.syn_netlist.proofs.Places.{below_at}
use Rattle.syn_aiger.proofs.WrittenLiterals.{placed_next}
use Rattle.syn_aiger.proofs.writer.place_literals.Goals as goal

pub loop-i-preserved : goal.loop-i-preserved
loop-i-preserved c =
    let signals : List ℕ = c.args.signals.now in
    let lits : List Lit = c.args.lits.now in
    let table : List ℕ = c.loop-i.literals in
    let i : ℕ = c.loop-i.i in
    let none : Lit = record { 0 = 0 } in
    let inside : i < length signals = c.loop-i-test.true in
    let there : get_or signals i 0 < length table = omega (arith, below_at (length c.args.literals.now) signals i c.requires.below inside, c.loop-i.invariant.count) in
    record {
      count = length-set table (get_or signals i 0) (get_or lits i none).0 ∙ c.loop-i.invariant.count;
      placed = placed_next signals lits table i none inside (omega (arith, inside, c.requires.count)) there c.loop-i.invariant.placed;
    }
