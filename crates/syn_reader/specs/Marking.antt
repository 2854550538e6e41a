-- What the definitions of names forbid, by a mark for each name.
use Rattle.std.specs.Prelude.{ℕ, ◌≡◌, ◌||◌, not, Bool, true, false, if◌then◌else◌, List, [], ◌∷◌, map, bytes_eq, Option, Some, None}
use Rattle.std.specs.List.{list_any}
use Rattle.syn_netlist.specs.Numbers.{with_word}
use Rattle.syn_reader.specs.declared.Kind.{Kind}
use Rattle.syn_reader.specs.declared.Kind.TheVariants as kinds
use Rattle.syn_reader.specs.declared.signals.Mark.{Mark}
use Rattle.syn_reader.specs.declared.signals.Mark.TheVariants as marks
use Rattle.syn_reader.specs.Definitions.{Definition, may_share, forbids}

-- The definition of a name by a statement of this kind.
abbrev pub by_kind : Kind → List ℕ → Definition
by_kind kind name = record { by = kind; name = name }

-- Whether a mark forbids one more definition by a statement of this kind.
abbrev pub mark_forbids : Mark → Kind → Bool
mark_forbids marks.Free kind = false
mark_forbids marks.Input kind = not (may_share kinds.Inputs kind)
mark_forbids marks.Clock kind = not (may_share kinds.Clock kind)
mark_forbids marks.Taken kind = true

-- The mark after one more definition.
abbrev pub mark_after : Mark → Kind → Mark
mark_after marks.Free kinds.Inputs = marks.Input
mark_after marks.Free kinds.Clock = marks.Clock
mark_after mark kind = marks.Taken

-- Whether the mark of a word forbids one more definition; a word that is no name is free.
abbrev pub forbidden : List (List ℕ) → List Mark → Kind → List ℕ → Bool
forbidden [] marks kind word = false
forbidden (n ∷ ns) [] kind word = false
forbidden (n ∷ ns) (m ∷ ms) kind word = if bytes_eq n word then mark_forbids m kind else forbidden ns ms kind word

-- Whether one of the definitions forbids this one.
abbrev pub forbidden_by : List Definition → Kind → List ℕ → Bool
forbidden_by ds kind word = list_any (λ one. forbids one (by_kind kind word)) ds

-- A test of what is forbidden, after one more definition.
abbrev pub also : Kind → List ℕ → (Kind → List ℕ → Bool) → Kind → List ℕ → Bool
also by name test kind word = forbids (by_kind by name) (by_kind kind word) || test kind word

-- The first of the words whose definition the test, or one of the words before, forbids.
abbrev pub first_twice : (Kind → List ℕ → Bool) → Kind → List (List ℕ) → Option (List ℕ)
first_twice test kind [] = None
first_twice test kind (w ∷ ws) = if test kind w then Some w else first_twice (also kind w test) kind ws

-- The new test forbids what the old one does, and what definitions of these words do.
abbrev pub Adds : Kind → List (List ℕ) → (Kind → List ℕ → Bool) → (Kind → List ℕ → Bool) → Type 0
Adds by words old new = (kind : Kind) (word : List ℕ) → new kind word ≡ (forbidden_by (map (by_kind by) words) kind word || old kind word)

-- Two tests forbid the same.
abbrev pub Same : (Kind → List ℕ → Bool) → (Kind → List ℕ → Bool) → Type 0
Same old new = (kind : Kind) (word : List ℕ) → new kind word ≡ old kind word

-- Names with words put behind them in order, each where it is none of them yet.
abbrev pub with_words : List (List ℕ) → List (List ℕ) → List (List ℕ)
with_words names [] = names
with_words names (w ∷ ws) = with_words (with_word names w) ws
