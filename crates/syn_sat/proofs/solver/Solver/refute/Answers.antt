use Rattle.std.proofs.Common.{IfOk, Result, Ok, Err}
use Rattle.syn_sat.proofs.solver.Solver.refute.Goals as goal

IfOk-map : {A E : Type 0} {P Q : A → Type 0} → (r : Result A E) → ((x : A) → P x → Q x) → IfOk r P → IfOk r Q
IfOk-map (Ok x) f h = f x h
IfOk-map (Err e) f h = h

pub returns-then-level-assumed-clause-refuted : goal.returns-then-level-assumed-clause-refuted
returns-then-level-assumed-clause-refuted c = IfOk-map c.conclude.result (λ a p e v h all. p e v (c.loop.invariant v h) all) c.conclude.ensures.refuted

pub returns-in-Refuted-clause-refuted : goal.returns-in-Refuted-clause-refuted
returns-in-Refuted-clause-refuted c = IfOk-map c.conclude-in-Refuted.result (λ a p e v h all. p e v (c.loop.invariant v h) all) c.conclude-in-Refuted.ensures.refuted
