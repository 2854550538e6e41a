use Rattle.std.proofs.Common.{◌≡◌, ◌+◌, ◌≤◌, [], Option, drop, length}
use Rattle.syn_rows.specs.declared.Lit.{Lit}
use Rattle.syn_gain.specs.Lookups.{ArePlaced, Gives}
use Rattle.syn_gain.specs.Searching.{gates_by, state}
use Rattle.syn_gain.proofs.placed.PlacedPlan.place_gates.Given as goal

abbrev pub invariant-loop-gate : goal.invariant-loop-gate
invariant-loop-gate g l = record {
  rest : (f : Lit → Lit → Option Lit) → Gives (g.L.Lookup.finds l.look_up) (g.L.Lookup.first l.look_up) f
      → gates_by f (g.L.Lookup.first l.look_up) (state l.self.literals.items l.self.extra.items) (drop l.gate-index l.gates) ≡ gates_by f (g.L.Lookup.first l.look_up) (state l.fn.self.literals.items []) l.gates;
  few : length l.self.extra.items ≤ l.gate-index;
  count : length l.self.literals.items ≡ length l.fn.self.literals.items + l.gate-index;
  placed : ArePlaced (g.L.Lookup.first l.look_up) l.self.literals.items l.self.extra.items;
}
