-- Marks of the names that a model defines, as statements are gone through.
use Rattle.std.specs.Prelude.{◌≡◌, ℕ, ◌<◌, ◌++◌, false, Bool, List, [], ◌∷◌, flat_map, map, Some, length, slice_index_or}
use Rattle.syn_netlist.specs.Numbers.{word_at}
use Rattle.syn_netlist.specs.Words.{has_word}
use Rattle.syn_models.specs.declared.hierarchy.Bind as code
use Rattle.syn_models.specs.Kept.{bind_in}
use Rattle.syn_models.specs.Models.{Subcircuit, Statement, OneSubcircuit, Model}
use Rattle.syn_models.specs.FlatFaults.{Site, defined_plainly, defined_inside, defines_of}

-- The marks tell which names are among the words.
pub record Marked (names words : List (List ℕ)) (marks : List Bool) : Type 0 where
  pub size : length marks ≡ length names
  pub at : (i : ℕ) → i < length names → slice_index_or marks i false ≡ has_word words (word_at names i)

-- words before, with more of them in front, one after the other
abbrev pub pushed : List (List ℕ) → List (List ℕ) → List (List ℕ)
pushed before [] = before
pushed before (w ∷ ws) = pushed (w ∷ before) ws

-- the names that binds of a subcircuit of this model define
abbrev pub defines_in : List (List ℕ) → Model → List code.Bind → List (List ℕ)
defines_in names m binds = defines_of (map (bind_in names) binds) (Some m)

-- the names that a model defines by itself, and by the subcircuits of statements above
abbrev pub defined_before : List Model → Model → List Statement → List (List ℕ)
defined_before models home above = flat_map (λ s. defined_plainly s.kind) home.statements ++ flat_map (λ s. defined_inside models s.kind) above

-- statements, the last first, with more of them in front
abbrev pub above_of : List Statement → List Statement → List Statement
above_of above [] = above
above_of above (s ∷ ss) = above_of (s ∷ above) ss

-- the statement of a subcircuit
abbrev pub subcircuit_at : ℕ → Subcircuit → Statement
subcircuit_at line c = record { line = line; kind = OneSubcircuit c }

-- the place of a subcircuit
abbrev pub site_of : List Model → Model → List Statement → ℕ → Subcircuit → Site
site_of models home above line c = record { line = line; here = c; models = models; home = home; above = above }
