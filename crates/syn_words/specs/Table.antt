-- The table of commands: their names, and what may stand behind each.
use Rattle.std.specs.Prelude.{ℕ, true, false, if◌then◌else◌, List, [], ◌∷◌, Option, Some, None, bytes_eq, codes}
use Rattle.syn_words.specs.declared.forms.Form.{Form}
use Rattle.syn_words.specs.declared.forms.Numbered.{Numbered}
use Rattle.syn_words.specs.declared.forms.Operands.TheVariants as operands
use Rattle.syn_words.specs.declared.table.Keyword.{Keyword}
use Rattle.syn_words.specs.declared.table.Keyword.TheVariants as keywords

-- No word.
abbrev pub no_words : Form
no_words = record { flags = (None, None, None); numbered = (None, None); apart = false; operands = operands.Nothing }

-- Any words.
abbrev pub any_words : Form
any_words = record { flags = (None, None, None); numbered = (None, None); apart = false; operands = operands.Words }

-- A command's name, or no word.
abbrev pub command_name : Form
command_name = record { flags = (None, None, None); numbered = (None, None); apart = false; operands = operands.Command }

-- A file's name.
abbrev pub name_alone : Form
name_alone = record { flags = (None, None, None); numbered = (None, None); apart = false; operands = operands.Name }

-- A file's name with the ending of a format.
abbrev pub name_with_format : Form
name_with_format = record { flags = (None, None, None); numbered = (None, None); apart = false; operands = operands.NameWithFormat }

-- An option without a number, alone.
abbrev pub flag_alone : ℕ → Form
flag_alone flag = record { flags = (Some flag, None, None); numbered = (None, None); apart = false; operands = operands.Nothing }

-- An option without a number, and then a file's name.
abbrev pub flag_and_name : ℕ → Form
flag_and_name flag = record { flags = (Some flag, None, None); numbered = (None, None); apart = false; operands = operands.Name }

-- Two options without a number, and then a file's name.
abbrev pub flags_and_name : ℕ → ℕ → Form
flags_and_name first second = record { flags = (Some first, Some second, None); numbered = (None, None); apart = false; operands = operands.Name }

-- Options alone: `-z`, where it may stand, `-L`, `-l`, which says what is so without it, and `-w` with a number of workers from 1 to 16.
abbrev pub with_workers : Option ℕ → Form
with_workers zero = record { flags = (zero, Some 76, Some 108); numbered = (Some (record { letter = 119; range = record { least = 1; most = 16 } }), None); apart = false; operands = operands.Nothing }

-- The option `-C` with a number of conflicts from 0 to 1000000.
abbrev pub conflicts_option : Numbered
conflicts_option = record { letter = 67; range = record { least = 0; most = 1000000 } }

-- The option `-C` with a number of conflicts, and then a file's name, or two.
abbrev pub conflicts_and_names : Form
conflicts_and_names = record { flags = (None, None, None); numbered = (Some conflicts_option, None); apart = false; operands = operands.OneOrTwoNames }

-- The option `-N` with a number of ANDs, 1 or 2.
abbrev pub gates_option : Numbered
gates_option = record { letter = 78; range = record { least = 1; most = 2 } }

-- Options alone: `-L`, `-C` with a number of conflicts, and one more with a number, where there is one.
abbrev pub with_conflicts : Option Numbered → Form
with_conflicts further = record { flags = (None, Some 76, None); numbered = (Some conflicts_option, further); apart = false; operands = operands.Nothing }

-- The option `-K` with a number of inputs from 2 to 8.
abbrev pub inputs_option : Numbered
inputs_option = record { letter = 75; range = record { least = 2; most = 8 } }

-- Options alone: `-K`.
abbrev pub inputs_alone : Form
inputs_alone = record { flags = (None, None, None); numbered = (Some inputs_option, None); apart = false; operands = operands.Nothing }

-- The option `-D` with a number of levels from 0 to 1000000.
abbrev pub slack_option : Numbered
slack_option = record { letter = 68; range = record { least = 0; most = 1000000 } }

-- Options alone: `-a` or `-A`, beside which `-D` may stand, and `-K`.
abbrev pub mapping_options : Form
mapping_options = record { flags = (Some 97, Some 65, None); numbered = (Some inputs_option, Some slack_option); apart = true; operands = operands.Nothing }

-- The option `-w` with a number of LUTs of a window from 1 to 1000.
abbrev pub window_option : Numbered
window_option = record { letter = 119; range = record { least = 1; most = 1000 } }

-- Options alone: `-w` with a number of LUTs.
abbrev pub window_alone : Form
window_alone = record { flags = (None, None, None); numbered = (Some window_option, None); apart = false; operands = operands.Nothing }

-- Two numbers alone: a seed of 64 bits, and a number of tables from 1 to 32768.
abbrev pub seed_and_size : Form
seed_and_size = record { flags = (None, None, None); numbered = (None, None); apart = false; operands = operands.TwoNumbers (record { least = 0; most = 18446744073709551615 }) (record { least = 1; most = 32768 }) }

-- A row of the table: a name, what may stand behind it, and its keyword.
abbrev pub Row : Type 0
Row = List ℕ × Form × Keyword

-- The names, long and short. `rewrite`, `refactor` and `resub` take `-z`, `-L` and `-l`; `rwz`, `rfz` and `rsz` have `-z` set. `balance` takes `-s`, `if` `-a` or `-A`, `read_aiger` `-p`, `write_aiger` `-a` and `-t`. `compress2` is `resyn2`.
abbrev pub table : List Row
table =
    (codes "read_blif", name_alone, keywords.ReadBlif)
    ∷ (codes "write_blif", name_alone, keywords.WriteBlif)
    ∷ (codes "print_stats", no_words, keywords.PrintStats)
    ∷ (codes "ps", no_words, keywords.PrintStats)
    ∷ (codes "print_level", no_words, keywords.PrintLevels)
    ∷ (codes "cec", conflicts_and_names, keywords.Compare)
    ∷ (codes "time", no_words, keywords.Time)
    ∷ (codes "echo", any_words, keywords.Echo)
    ∷ (codes "help", command_name, keywords.Help)
    ∷ (codes "quit", no_words, keywords.Quit)
    ∷ (codes "q", no_words, keywords.Quit)
    ∷ (codes "exit", no_words, keywords.Quit)
    ∷ (codes "source", name_alone, keywords.Source)
    ∷ (codes "read_lut", name_alone, keywords.ReadLuts)
    ∷ (codes "dress", name_alone, keywords.Dress)
    ∷ (codes "strash", no_words, keywords.Strash)
    ∷ (codes "st", no_words, keywords.Strash)
    ∷ (codes "balance", flag_alone 115, keywords.Balance)
    ∷ (codes "b", flag_alone 115, keywords.Balance)
    ∷ (codes "rewrite", with_workers (Some 122), keywords.Rewrite)
    ∷ (codes "rw", with_workers (Some 122), keywords.Rewrite)
    ∷ (codes "rwz", with_workers None, keywords.RewriteZero)
    ∷ (codes "refactor", with_workers (Some 122), keywords.Refactor)
    ∷ (codes "rf", with_workers (Some 122), keywords.Refactor)
    ∷ (codes "rfz", with_workers None, keywords.RefactorZero)
    ∷ (codes "if", mapping_options, keywords.Map)
    ∷ (codes "resyn2", no_words, keywords.Resyn2)
    ∷ (codes "resyn2l", no_words, keywords.Resyn2Levels)
    ∷ (codes "gen", seed_and_size, keywords.Generate)
    ∷ (codes "scl", no_words, keywords.Sweep)
    ∷ (codes "resub", with_workers (Some 122), keywords.Resubstitute)
    ∷ (codes "rs", with_workers (Some 122), keywords.Resubstitute)
    ∷ (codes "rsz", with_workers None, keywords.ResubstituteZero)
    ∷ (codes "flowmap", inputs_alone, keywords.MapByFlow)
    ∷ (codes "mfs", window_alone, keywords.ResubstituteLuts)
    ∷ (codes "fraig", with_conflicts None, keywords.Merge)
    ∷ (codes "sresub", with_conflicts (Some gates_option), keywords.Replace)
    ∷ (codes "srs", with_conflicts (Some gates_option), keywords.Replace)
    ∷ (codes "resyn", no_words, keywords.Resyn)
    ∷ (codes "compress2", no_words, keywords.Resyn2)
    ∷ (codes "read_aiger", flag_and_name 112, keywords.ReadAiger)
    ∷ (codes "write_aiger", flags_and_name 97 116, keywords.WriteAiger)
    ∷ (codes "read", name_with_format, keywords.Read)
    ∷ (codes "write", name_with_format, keywords.Write)
    ∷ []

-- What the first row of a name has, if there is one.
abbrev pub entry_in : List Row → List ℕ → Option (Form × Keyword)
entry_in [] word = None
entry_in (row ∷ rows) word = if bytes_eq row.0 word then Some (row.1, row.2) else entry_in rows word
