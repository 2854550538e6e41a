use Rattle.std.proofs.Common.{◌≡◌, ◌⊎◌, ℕ, ◌≤◌, sym, ap, subst, refl, inl, inr, rules}
use Rattle.syn_rows.specs.declared.Row.{Row}
use Rattle.syn_rows.specs.References.{refs}
use Rattle.syn_core_laws.specs.declared.View.{View}
use Rattle.syn_core_laws.specs.Events.{MayPin}
use Rattle.syn_core_laws.specs.Views.{row_loaded}
use Rattle.syn_table.specs.declared.Known.{Known}
use Rattle.syn_table.specs.Seating.{view_of}
use Rattle.test_threads.proofs.pins.pin_inner.Goals as goal

-- a row that was loaded names the node
loaded_may : (v : View) (r : Row) → 1 ≤ refs 4 r → MayPin (row_loaded v 6 r) 4
loaded_may v r least = inl (inr (6, r, refl, inr least))

pub pin-requires-clause-may : goal.pin-requires-clause-may
pin-requires-clause-may c =
    let least : 1 ≤ refs 4 c.row_of.result = search rules in
    subst (λ w. MayPin w 4) (sym (ap (λ (k : Known). k.core) c.row_of.ensures.known)) (loaded_may (view_of c.claim.new.seat) c.row_of.result least)
