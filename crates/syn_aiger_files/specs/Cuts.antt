-- Texts that are cut at a byte, and the words and numbers that are left of them.
use Rattle.std.specs.Prelude.{ℕ, ◌==◌, if◌then◌else◌, List, [], ◌∷◌, Option, Some, None}
use Rattle.syn_aiger_files.specs.Texts.{words_of}

-- The bytes before the first one of a value, and those behind it where it is there.
abbrev pub cut_at : ℕ → List ℕ → List ℕ × Option (List ℕ)
cut_at end [] = ([], None)
cut_at end (b ∷ bs) = if b == end then ([], Some bs) else (b ∷ (cut_at end bs).0, (cut_at end bs).1)

-- the bytes without a CR at their end
abbrev pub without_cr : List ℕ → List ℕ
without_cr [] = []
without_cr (b ∷ []) = if b == 13 then [] else b ∷ []
without_cr (b ∷ c ∷ cs) = b ∷ without_cr (c ∷ cs)

-- the words that are left of a text
abbrev pub words_left : Option (List ℕ) → List (List ℕ)
words_left None = []
words_left (Some text) = words_of text
