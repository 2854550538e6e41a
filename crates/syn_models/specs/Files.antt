-- The models of a file, with what is looked up in them.
use Rattle.std.specs.Prelude.{◌≡◌, List, map}
use Rattle.syn_models.specs.declared.files.File.{File}
use Rattle.syn_models.specs.Listed.{AllPorts}
use Rattle.syn_models.specs.Models.{Model, name_of}
use Rattle.syn_models.specs.Views.{model_in}

-- the models in words
abbrev pub all_in : File → List Model
all_in file = map model_in file.models.now

-- The names are those of the models, which are different, and the ports theirs.
pub record IsFile (file : File) : Type 0 where
  pub names : file.names ≡ map name_of (all_in file)
  pub ports : AllPorts file.models.now file.ports.items
