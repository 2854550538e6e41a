-- Subcircuits as words.
use Rattle.std.specs.Prelude.{ℕ, ◌||◌, ◌==◌, Bool, if◌then◌else◌, List, [], ◌∷◌, length, map, bytes_eq, option_map, option_and_then, Option, Some, None}
use Rattle.syn_models.specs.FlatFaults.{first_again}
use Rattle.syn_models.specs.Models.{Bind, Subcircuit, formal_of}
use Rattle.syn_reader.specs.Shapes.{nil_control}

-- The bytes before the first one of a value and those behind it, where there is one.
abbrev pub cut_at : ℕ → List ℕ → Option (List ℕ × List ℕ)
cut_at byte [] = None
cut_at byte (b ∷ bs) = if b == byte then Some ([], bs) else option_map (λ sides. (b ∷ sides.0, sides.1)) (cut_at byte bs)

-- A formal and an actual that are no bind: one is empty, or the actual is `NIL`.
abbrev pub is_no_bind : List ℕ → List ℕ → Bool
is_no_bind formal actual = length formal == 0 || (length actual == 0 || bytes_eq nil_control actual)

abbrev pub bind_with : List ℕ × List ℕ → Option Bind
bind_with sides = if is_no_bind sides.0 sides.1 then None else Some (record { formal = sides.0; actual = sides.1 })

-- The bind that a word spells: it is cut at its first `=`.
abbrev pub bind_of : List ℕ → Option Bind
bind_of word = option_and_then bind_with (cut_at 61 word)

-- The binds that words spell, each its own.
abbrev pub binds_of : List (List ℕ) → Option (List Bind)
binds_of [] = Some []
binds_of (w ∷ ws) = option_and_then (λ b. option_map (λ bs. b ∷ bs) (binds_of ws)) (bind_of w)

-- The subcircuit that the further words of a `.subckt` line spell: the name of a model, and binds.
abbrev pub subcircuit_of : List (List ℕ) → Option Subcircuit
subcircuit_of [] = None
subcircuit_of (model ∷ words) = option_map (λ binds. record { model = model; binds = binds }) (binds_of words)

-- The first formal that is bound before on its line.
abbrev pub bound_twice : Option Subcircuit → Option (List ℕ)
bound_twice None = None
bound_twice (Some c) = first_again [] (map formal_of c.binds)
