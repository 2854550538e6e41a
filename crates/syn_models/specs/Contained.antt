-- Which models contain which, as plain lists of names.
use Rattle.std.specs.Prelude.{ℕ, List, [], ◌∷◌, map}
use Rattle.syn_models.specs.declared.hierarchy.Model as code
use Rattle.syn_models.specs.declared.hierarchy.Statement.{Statement}
use Rattle.syn_models.specs.declared.hierarchy.StatementKind.{StatementKind}
use Rattle.syn_models.specs.declared.hierarchy.StatementKind.TheVariants as kinds
use Rattle.syn_models.specs.Files.{all_in}
use Rattle.syn_models.specs.Models.{name_of}
use Rattle.syn_models.specs.declared.files.File.{File}

-- the name of the model that a statement contains
abbrev pub contained_name : StatementKind → List (List ℕ)
contained_name (kinds.Subckt c) = c.model ∷ []
contained_name kind = []

abbrev pub contained_by : Statement → List (List ℕ)
contained_by s = contained_name s.kind

-- the names of the models of a file
abbrev pub names_of : File → List (List ℕ)
names_of file = map name_of (all_in file)

-- how many words a model has
abbrev pub words_by : code.Model → ℕ
words_by m = m.words
