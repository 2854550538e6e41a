use Rattle.std.proofs.Common.{◌≡◌, ◌≤◌, ◌/◌, ℕ, refl, sym, ap, subst, arith, inl, inr}
use Rattle.syn_rows.specs.declared.Lit.{Lit}
use Rattle.syn_rows.specs.declared.Row.TheVariants.{And}
use Rattle.syn_rows.specs.Rows.{node_of}
use Rattle.syn_rows.specs.References.{hits, refs}
use Rattle.syn_core_laws.specs.Events.{MayPin}
use Rattle.syn_table.specs.declared.Known.{Known}
use Rattle.test_threads.proofs.steps.steps_as_worked.Goals as goal

-- the AND of literal 9 refers to node 4
refers : (a b : Lit) → a.0 ≡ 9 → 1 ≤ refs 4 (And a b)
refers a b e = let one : hits 4 (node_of a) ≡ 1 = ap (λ (n : ℕ). hits 4 (n / 2)) e in omega (arith, one)

pub pin-requires-clause-may : goal.pin-requires-clause-may
pin-requires-clause-may c =
    let row = And c.in-And.first c.in-And.second in
    subst (λ (k : Known). MayPin k.core 4) (sym c.in-And.ensures.known) (inl (inr (6, row, refl, inr (refers c.in-And.first c.in-And.second c.if-first-ne9.false))))
