-- What a call for the next line gave, by its answer.
use Rattle.std.proofs.Common.{◌≡◌, ℕ, subst, Option, None, Some, Result, Ok, Vec, Global}
use Rattle.syn_shell.specs.declared.refusal.Refusal.{Refusal}
use Rattle.syn_io.specs.Outside.{Input}
use Rattle.syn_shell.specs.Outside.{GaveLine, GaveNone}
use Rattle.syn_shell.specs.Stopping.{Gave}

pub gave_line : (r : Result (Option (Vec ℕ Global)) Refusal) (line : Vec ℕ Global) (i j : Input) → r ≡ Ok (Some line) → Gave r i j → GaveLine line.items i j
gave_line r line i j e h = subst (λ (x : Result (Option (Vec ℕ Global)) Refusal). Gave x i j) e h

pub gave_none : (r : Result (Option (Vec ℕ Global)) Refusal) (i j : Input) → r ≡ Ok None → Gave r i j → GaveNone i j
gave_none r i j e h = subst (λ (x : Result (Option (Vec ℕ Global)) Refusal). Gave x i j) e h
