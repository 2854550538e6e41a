use Rattle.std.proofs.Common.{◌≡◌, ℕ, map, take}
use Rattle.syn_hashed.specs.Compacting.{IsPlaces, moved_lit}
use Rattle.syn_hashed.proofs.compaction.moved_lits.Given as goal

abbrev pub invariant-loop-lit : goal.invariant-loop-lit
invariant-loop-lit l = (place : ℕ → ℕ) → IsPlaces l.places place → l.moved.items ≡ map (moved_lit place) (take l.lit-index l.lits)
