-- The statements of a file, model by model.
use Rattle.std.specs.Prelude.{ℕ, suc, ◌+◌, if◌then◌else◌, List, [], ◌∷◌, length, codes}
use Rattle.std.specs.List.{onto_first}
use Rattle.syn_reader.specs.Shapes.{last_word}
use Rattle.syn_reader.specs.Statements.{Statement, begins_model, is_end, is_model, is_row}

-- The statements in lists, of which each but the first begins with `.model`.
abbrev pub parted : List Statement → List (List Statement)
parted [] = []
parted (s ∷ ss) = if begins_model ss then (s ∷ []) ∷ parted ss else onto_first s (parted ss)

-- The statements of each model: in a file that begins with `.model` each `.model` begins a model, and any other file is one model.
abbrev pub by_model : List Statement → List (List Statement)
by_model ss = if begins_model ss then parted ss else ss ∷ []

-- The name of a model of these statements: that of its `.model` line, where it begins with one, else `top`.
abbrev pub name_in : List Statement → List ℕ
name_in [] = codes "top"
name_in (s ∷ ss) = if is_model s.kind then last_word s.words else codes "top"

-- How many words a line has, its keyword with them. Those of `.end` aren't counted.
abbrev pub words_in : Statement → ℕ
words_in s = if is_row s.kind then length s.words else if is_end s.kind then 0 else suc (length s.words)

abbrev pub words_of : List Statement → ℕ
words_of [] = 0
words_of (s ∷ ss) = words_in s + words_of ss
