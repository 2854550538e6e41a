-- Formats of files, by the ends of their names.
use Rattle.std.specs.Prelude.{ℕ, nat_eq, if◌then◌else◌, List, Option, Some, None, codes}
use Rattle.std.specs.List.{ends_with}
use Rattle.syn_words.specs.declared.formats.Format.{Format}
use Rattle.syn_words.specs.declared.formats.Format.TheVariants as formats
use Rattle.syn_words.specs.declared.formats.NetworkFile.{NetworkFile}
use Rattle.syn_words.specs.declared.formats.NetworkFile.TheVariants as files

-- The format that a name's end tells: `.blif`, `.aig` for binary AIGER, `.aag` for ASCII AIGER.
abbrev pub format_of : List ℕ → Option Format
format_of name =
    if ends_with nat_eq name (codes ".blif") then Some formats.Blif
    else (if ends_with nat_eq name (codes ".aig") then Some formats.Aiger
    else (if ends_with nat_eq name (codes ".aag") then Some formats.AsciiAiger else None))

-- A file of a name, by the format that its end tells, if any.
abbrev pub file_by : Option Format → List ℕ → NetworkFile
file_by (Some formats.Blif) name = files.Blif name
file_by (Some formats.Aiger) name = files.Aiger name
file_by (Some formats.AsciiAiger) name = files.Aiger name
file_by None name = files.Blif name

-- The file that holds a network: AIGER where its name's end tells that, else BLIF.
abbrev pub network_file : List ℕ → NetworkFile
network_file name = file_by (format_of name) name
