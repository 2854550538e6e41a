-- Each step of a seat is one event of the core.
use Rattle.std.specs.Prelude.{◌≡◌, ◌==◌, ℕ, Bool, List, slice_index}
use mathlib.Core.Option.{some}
use lib.ListN.{get_elem?}
use Rattle.syn_rows.specs.declared.Row.{Row}
use Rattle.syn_core_laws.specs.declared.View.{View}
use Rattle.syn_core_laws.specs.declared.EventKind.{EventKind}
use Rattle.syn_core_laws.specs.declared.EventKind.TheVariants as Kind
use Rattle.syn_core_laws.specs.Cores.{Core}
use Rattle.syn_core_laws.specs.Runs.{Steps}
use Rattle.syn_table.specs.declared.Known.{Known}
use Rattle.syn_table.specs.declared.Opening.{Opening}
use Rattle.syn_table.specs.Rule.{IsTable}

-- A seat that knew k has the view v by this event: in some words that a table may have, with what all its seats know, the event is allowed to this one, and it leads to a core in which the seat has the view.
pub record IsEvent (k : Known) (kind : EventKind) (v : View) : Type 0 where
  pub opening : Opening
  pub words : List ℕ
  pub seats : List Known
  pub core : Core
  pub next : Core
  pub id : ℕ
  pub table : IsTable opening words seats core
  pub seat : get_elem? seats id ≡ some k
  pub steps : Steps core (record { seat = id; kind = kind }) next
  pub view : get_elem? next.seats id ≡ some v

-- a row is stored in the place of another, over these nodes
abbrev pub redefines : ℕ → Row → List ℕ → EventKind
redefines n row over = Kind.Redefine n row (record { items = over })

-- a pin was taken back, and the answer is whether the node's count was 1
abbrev pub IsUnpin : Known → ℕ → Bool → View → Type 0
IsUnpin k n last v = (e : IsEvent k (Kind.Unpin n) v) × (last ≡ (slice_index e.core.counts n == 1))
