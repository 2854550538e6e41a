use Rattle.std.proofs.Common.{◌≡◌, List, ℕ, length}
use Rattle.syn_reader.specs.Statements.{Statement}
use Rattle.syn_reader.specs.Gathers.{IsSound}
use Rattle.syn_reader.specs.Owned.{HasGathered, HasRoom, behind, own}
use Rattle.syn_reader.proofs.model_words.gather_rest.Given as goal

abbrev pub invariant-loop-parts : goal.invariant-loop-parts
invariant-loop-parts l = record {
  gathered : (models : List (List ℕ)) (all : List Statement) → HasGathered models all (own l.many l.fn.statements) l.fn.gathering → HasGathered models all (own l.many l.statements) l.gathering;
  room : HasRoom (own l.many l.statements) l.gathering;
  left : behind l.many l.statements ≡ behind l.many l.fn.statements;
  sound : IsSound l.gathering;
}

abbrev pub decreases-loop-parts : goal.decreases-loop-parts
decreases-loop-parts l = length l.statements
