-- A seat read by its index.
use Rattle.std.proofs.Common.{◌≡◌, ℕ, zero, suc, ◌<◌, List, [], ◌∷◌, length, get_or, refl, sym, subst, arith}
use mathlib.Core.Option.{some, some-injective, some-ne-none}
use lib.ListN.{get_elem?}
use Rattle.syn_core.specs.Conditions.{IsAllowedAt, SeatsAreRead}
use Rattle.syn_core_laws.specs.declared.Event.{Event}
use Rattle.syn_core_laws.specs.declared.View.{View}
use Rattle.syn_core_laws.specs.Cores.{Core}
use Rattle.syn_core_laws.specs.Events.{May, after}
use Rattle.syn_core_laws.specs.Runs.{Steps}
use Rattle.syn_core_laws.specs.Openings.{empty_view, view_at}

pub at_index : {A : Type 0} (l : List A) (i : ℕ) (d : A) → i < length l → get_elem? l i ≡ some (get_or l i d)
at_index [] i d lt = absurd (omega arith)
at_index (x ∷ xs) zero d lt = refl
at_index (x ∷ xs) (suc i) d lt = at_index xs i d (omega arith)

at_read : {A : Type 0} (l : List A) (i : ℕ) (d a : A) → get_elem? l i ≡ some a → (i < length l) × (a ≡ get_or l i d)
at_read [] i d a e = absurd (some-ne-none a (sym e))
at_read (x ∷ xs) zero d a e = (omega arith, sym (some-injective x a e))
at_read (x ∷ xs) (suc i) d a e = let t = at_read xs i d a e in (omega (arith, t.0), t.1)

pub seats_are_read : SeatsAreRead
seats_are_read c id event = (
  (λ a. let t = at_read c.seats id (empty_view 64) a.0 a.1 in (t.0, subst (λ (v : View). v.number < 64) t.1 a.2, a.3, subst (λ v. May c v event) t.1 a.4)),
  (λ b. (view_at c id, at_index c.seats id (empty_view 64) b.0, b.1, b.2, b.3)),
)

-- an event that is allowed by indexes steps
pub steps_read : (c : Core) (e : Event) (d : Core) → IsAllowedAt c e.seat e.kind → d ≡ after c e.seat (view_at c e.seat) e.kind → Steps c e d
steps_read c e d b is = (view_at c e.seat, at_index c.seats e.seat (empty_view 64) b.0, b.1, b.2, b.3, is)
