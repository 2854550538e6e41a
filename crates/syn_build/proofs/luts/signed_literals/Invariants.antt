use Rattle.std.proofs.Common.{◌≡◌, ◌++◌, map, drop}
use Rattle.syn_build.specs.LutLiterals.{signed_by}
use Rattle.syn_build.proofs.luts.signed_literals.Given as goal

abbrev pub invariant-loop-literal : goal.invariant-loop-literal
invariant-loop-literal l = l.found.items ++ map (signed_by l.signals) (drop l.literal-index l.literals) ≡ map (signed_by l.signals) l.literals
