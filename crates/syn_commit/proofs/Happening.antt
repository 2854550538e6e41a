-- What the event that a step of the table is tells its seat.
use Rattle.std.proofs.Common.{◌≡◌, ℕ, ◌+◌, ◌<◌, ◌≤◌, [], ◌∷◌, length, Some, sym, ap, ◌∙◌, subst, arith}
use Rattle.std.proofs.lemmas.List.{append_cancel_left}
use mathlib.Core.Option.{some, some-injective}
use lib.ListN.{get_elem?}
use Rattle.syn_rows.specs.declared.Row.{Row}
use Rattle.syn_rows.specs.Rows.{row_at}
use Rattle.syn_core_laws.specs.declared.View.{View}
use Rattle.syn_core_laws.specs.declared.EventKind.{EventKind}
use Rattle.syn_core_laws.specs.declared.EventKind.TheVariants as Kind
use Rattle.syn_core_laws.specs.declared.Seen.TheVariants as seen
use Rattle.syn_core_laws.specs.Cores.{Core}
use Rattle.syn_core_laws.specs.Views.{count_loaded, known_row, own_pins, own_refs, row_loaded}
use Rattle.syn_core_laws.proofs.Listing.{look_here}
use Rattle.syn_table.specs.declared.Known.{Known}
use Rattle.syn_table.specs.Events.{IsEvent}
use Rattle.syn_table.proofs.Ruling.{nodes_known, seat_there, view_at}
use Rattle.syn_commit_laws.specs.Turning.{Turns}
use Rattle.syn_commit_laws.proofs.Cored.{events_turn}

module _ (k : Known) (kind : EventKind) (v : View) (e : IsEvent k kind v) where
  seated : get_elem? e.core.seats e.id ≡ some k.core
  seated = view_at e.opening e.words e.seats e.core e.id k e.table e.seat

  mine : e.steps.0 ≡ k.core
  mine = some-injective e.steps.0 k.core (sym e.steps.1 ∙ seated)

  -- it turns the seat's view
  pub event_turns : (nodes : ℕ) → length k.opening ≡ nodes → Turns nodes k.core kind v
  event_turns nodes opening =
      let small : k.core.number < 64 = subst (λ (w : View). w.number < 64) mine e.steps.2 in
      let size : length e.core.rows ≡ nodes = sym (nodes_known e.opening e.words e.seats e.core e.id k e.table e.seat small) ∙ opening in
      let t = events_turn e.core (record { seat = e.id; kind = kind }) e.next k.core e.table.sound e.steps seated in
      let same : t.0 ≡ v = some-injective t.0 v (sym t.1 ∙ e.view) in
      subst (λ w. Turns nodes k.core kind w) same (subst (λ n. Turns n k.core kind t.0) size t.2)

-- a row that was known is met again
pub met_again : (k : Known) (n : ℕ) (r : Row) (v : View) → IsEvent k (Kind.LoadRow n) v → v ≡ row_loaded k.core n r → (was : Row) → known_row k.core n ≡ Some was → r ≡ was
met_again k n r v e view was known =
    let there : row_at e.core.rows n ≡ was = ((e.table.sound.seats e.id k.core (seated k (Kind.LoadRow n) v e)).knows_rows n was known).1 in
    let stepped : get_elem? e.next.seats e.id ≡ some (row_loaded e.steps.0 n (row_at e.core.rows n)) =
    ap (λ (c : Core). get_elem? c.seats e.id) e.steps.5 ∙ seat_there e.core.seats e.id e.steps.0 (row_loaded e.steps.0 n (row_at e.core.rows n)) e.steps.1 in
    let same : row_loaded e.steps.0 n (row_at e.core.rows n) ≡ row_loaded k.core n r = some-injective (row_loaded e.steps.0 n (row_at e.core.rows n)) v (sym stepped ∙ e.view) ∙ view in
    let head : Some (row_at e.core.rows n) ≡ Some r = sym (look_here n (row_at e.core.rows n) e.steps.0.rows) ∙ (ap (λ (w : View). known_row w n) same ∙ look_here n r k.core.rows) in
    one (row_at e.core.rows n) r head there
  where
    one : (a b : Row) → Some a ≡ Some b → a ≡ was → b ≡ was
    one a b h is = let same : a ≡ b = cc in sym same ∙ is

-- a count that was loaded is at least the seat's own references and pins
pub count_covers : (nodes : ℕ) (k : Known) (n x : ℕ) (v : View) → length k.opening ≡ nodes → IsEvent k (Kind.LoadCount n) v → v ≡ count_loaded nodes k.core n x → own_refs nodes k.core n + own_pins k.core n ≤ x
count_covers nodes k n x v opening e view =
    let t : Turns nodes k.core (Kind.LoadCount n) v = event_turns k (Kind.LoadCount n) v e nodes opening in
    let last = append_cancel_left k.core.reads (seen.Count n t.0 (own_pins k.core n) ∷ []) (seen.Count n x (own_pins k.core n) ∷ []) (ap (λ (w : View). w.reads) (sym t.2 ∙ view)) in
    let same : t.0 ≡ x = one t.0 x last in
    omega (arith, same, t.1)
  where
    one : (a b : ℕ) → seen.Count n a (own_pins k.core n) ∷ [] ≡ seen.Count n b (own_pins k.core n) ∷ [] → a ≡ b
    one a b h = cc
