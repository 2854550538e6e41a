use Rattle.std.proofs.Common.{◌≡◌, ℕ, ◌<◌, Bool, List, length}
use Rattle.syn_rows.specs.declared.Row.{Row}
use Rattle.syn_hashed.specs.Hashed.{lit_at}
use Rattle.syn_fraig.specs.Tables.{AreAlike, HasTables, IsAlike}
use Rattle.syn_fraig.proofs.by_values.compare.Given as goal

abbrev pub invariant-loop-node : goal.invariant-loop-node
invariant-loop-node l = record {
  here : (rows : List Row) (round : ℕ) → HasTables rows round l.tables
      → (xs : List Bool) (n : ℕ) → length xs ≡ 8 → n < l.node → IsAlike rows round xs n (lit_at l.alike n);
  kept : (rows : List Row) (round : ℕ) → length rows ≡ length l.tables → AreAlike rows round l.initial.alike → AreAlike rows round l.alike;
}
