-- What a seat knows, and its view after each event of its own.
use Rattle.std.specs.Prelude.{ℕ, ◌+◌, ◌==◌, ◌&&◌, ◌||◌, not, Bool, false, if◌then◌else◌, List, [], ◌∷◌, ◌++◌, Option, Some, None, pos, ◌+ℤ◌, ◌-ℤ◌}
use Rattle.syn_rows.specs.declared.Row.{Row}
use Rattle.syn_rows.specs.declared.Row.TheVariants.{Free}
use Rattle.syn_rows.specs.Rows.{refs_of, is_derived}
use Rattle.syn_rows.specs.References.{refs, times, and_count, sum_below}
use Rattle.syn_core_laws.specs.declared.View.{View}
use Rattle.syn_core_laws.specs.declared.Seen.TheVariants as Seen
use Rattle.syn_rows.specs.Nodes.{has_node}
use Rattle.syn_core_laws.specs.Lists.{only, without_one, without_each, look, kept}

-- the seat holds the node or has it pinned
abbrev pub is_mine : View → ℕ → Bool
is_mine v n = has_node v.held n || has_node v.pins n

-- the row of a held node, where the seat loaded or stored it
abbrev pub known_row : View → ℕ → Option Row
known_row v n = look n v.rows

-- the key of a held or pinned node, where the seat loaded or stored it, and node 0's
abbrev pub known_key : View → ℕ → Option ℕ
known_key v n = if n == 0 then Some 0 else look n v.keys

-- the key told, 0 where none is
abbrev pub or_zero : Option ℕ → ℕ
or_zero None = 0
or_zero (Some key) = key

-- the key of the node that the seat loaded or stored last
abbrev pub last_key : View → ℕ → ℕ
last_key v n = or_zero (look n v.keys)

-- the references of a row to the node m, none where the row isn't known
abbrev pub refs_known : ℕ → Option Row → ℕ
refs_known m None = 0
refs_known m (Some r) = refs m r

-- the references to the node m from the seat's known rows
abbrev pub own_refs : ℕ → View → ℕ → ℕ
own_refs nodes v m = sum_below nodes (λ n. refs_known m (known_row v n))

-- the seat's pins of the node
abbrev pub own_pins : View → ℕ → ℕ
own_pins v m = times m v.pins

-- the row is known, as `And` or `Alias`
abbrev pub is_derived_known : Option Row → Bool
is_derived_known None = false
is_derived_known (Some r) = is_derived r

-- keys are known of held or pinned nodes alone
abbrev pub trimmed : View → View
trimmed v = record v { keys = kept (is_mine v) v.keys }

-- the seat claimed the node
abbrev pub claimed : View → ℕ → View
claimed v n = record v { held = n ∷ v.held }

-- the seat failed to claim the node
abbrev pub missed : View → ℕ → View
missed v n = record v { misses = v.misses ++ n ∷ []; reads = v.reads ++ Seen.Miss n ∷ [] }

-- m is another node than n
abbrev pub differs : ℕ → ℕ → Bool
differs n m = not (m == n)

-- m stays sole when n is let go: it is another node, and n's known row doesn't refer to it
abbrev pub stays_sole : View → ℕ → ℕ → Bool
stays_sole v n m = differs n m && (refs_known m (known_row v n) == 0)

-- the seat let the node go: its row is forgotten, and what was sole by it isn't any more
abbrev pub released : View → ℕ → View
released v n = trimmed (record v { held = only (differs n) v.held; rows = kept (differs n) v.rows; sole = only (stays_sole v n) v.sole })

-- the seat loaded the node's row, r
abbrev pub row_loaded : View → ℕ → Row → View
row_loaded v n r = record v { rows = (n, r) ∷ v.rows; reads = v.reads ++ Seen.Row n r ∷ [] }

-- the seat pinned the node, which leaves the zero list
abbrev pub pinned : View → ℕ → View
pinned v n = record v { pins = n ∷ v.pins; idle = only (differs n) v.idle }

-- the seat took a pin of the node back, and found this count: a gate that it knows joins the zero list where no reference is left
abbrev pub unpinned : View → ℕ → ℕ → View
unpinned v n count = trimmed (record v { pins = without_one n v.pins; idle = if (count == 1) && is_derived_known (known_row v n) then n ∷ v.idle else v.idle })

-- the count is that of the seat's own references and pins alone; node 0 is never sole
abbrev pub is_sole : ℕ → View → ℕ → ℕ → Bool
is_sole nodes v n count = differs 0 n && (count == own_refs nodes v n + own_pins v n)

-- the seat loaded the node's count
abbrev pub count_loaded : ℕ → View → ℕ → ℕ → View
count_loaded nodes v n count = record v { sole = if is_sole nodes v n count then n ∷ v.sole else v.sole; reads = v.reads ++ Seen.Count n count (own_pins v n) ∷ [] }

-- the seat loaded the node's key
abbrev pub key_loaded : View → ℕ → ℕ → View
key_loaded v n key = record v { keys = (n, key) ∷ v.keys; reads = v.reads ++ Seen.Key n key ∷ [] }

-- the seat stored the node's key
abbrev pub key_set : View → ℕ → ℕ → View
key_set v n key = record v { keys = (n, key) ∷ v.keys }

-- the seat made the row: one pin for each place becomes the row's reference, and the node joins the zero list
abbrev pub made : View → ℕ → Row → View
made v n row = trimmed (record v {
  pins = without_each (refs_of row) v.pins;
  rows = (n, row) ∷ v.rows;
  idle = n ∷ v.idle;
  makes = v.makes ++ (record { node = n; row = row; key = last_key v n }) ∷ [];
  difference = v.difference +ℤ pos 1;
})

-- the pins when one for each place of the new row becomes its reference, and the old row's references become pins
abbrev pub pins_after : View → Row → Row → List ℕ
pins_after v old new = refs_of old ++ without_each (refs_of new) v.pins

-- the seat redefined the node
abbrev pub redefined : View → ℕ → Row → Row → View
redefined v n old new = trimmed (record v {
  pins = pins_after v old new;
  rows = (n, new) ∷ v.rows;
  changes = v.changes ++ (record { node = n; old = old; new = new }) ∷ [];
  difference = (v.difference +ℤ pos (and_count new)) -ℤ pos (and_count old);
})

-- the seat freed the node: its row's references become pins, and it leaves the zero list
abbrev pub freed : View → ℕ → Row → View
freed v n old = record v {
  pins = refs_of old ++ v.pins;
  rows = (n, Free) ∷ v.rows;
  idle = only (differs n) v.idle;
  changes = v.changes ++ (record { node = n; old = old; new = Free }) ∷ [];
  difference = v.difference -ℤ pos (and_count old);
}
