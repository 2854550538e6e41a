use Rattle.std.proofs.Common.{◌≡◌, All}
use Rattle.syn_cuts.proofs.board.slots.Given as goal

abbrev pub invariant-loop : goal.invariant-loop
invariant-loop g l = All (λ s. s.tag ≡ l.tag.numbers) l.slots.items
