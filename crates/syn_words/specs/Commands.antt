-- What the names of the table spell with what was given behind them.
use Rattle.std.specs.Prelude.{ℕ, Bool, true, false, min, max, map, option_map, if◌then◌else◌, List, [], ◌∷◌, Option, Some, None, Result, Ok, Err}
use Rattle.syn_words.specs.declared.words.Phrase.{Phrase}
use Rattle.syn_words.specs.Forms.{and_then, given_by}
use Rattle.syn_words.specs.Formats.{network_file}
use Rattle.syn_words.specs.Texts.{echoed}
use Rattle.syn_words.specs.Quotes.{meant}
use Rattle.syn_words.specs.Help.{helped}
use Rattle.syn_words.specs.Table.{entry_in, table}
use Rattle.syn_words.specs.declared.forms.Form.{Form}
use Rattle.syn_words.specs.declared.formats.Format.{Format}
use Rattle.syn_words.specs.declared.formats.Format.TheVariants as formats
use Rattle.syn_words.specs.declared.word_reader.Given.{Given}
use Rattle.syn_words.specs.declared.table.Keyword.{Keyword}
use Rattle.syn_words.specs.declared.table.Keyword.TheVariants as keywords
use Rattle.syn_words.specs.declared.inputs.LutSizes.{LutSizes}
use Rattle.syn_words.specs.declared.recipes.PassOptions.{PassOptions}
use Rattle.syn_words.specs.declared.recipes.ReplaceLimits.{ReplaceLimits}
use Rattle.syn_words.specs.declared.recipes.SearchLimits.{SearchLimits}
use Rattle.syn_words.specs.declared.recipes.Recipe.{Recipe}
use Rattle.syn_words.specs.declared.recipes.Recipe.TheVariants as recipes
use Rattle.syn_words.specs.declared.Command.{Command}
use Rattle.syn_words.specs.declared.Command.TheVariants as commands
use Rattle.syn_words.specs.declared.ScriptFault.{ScriptFault}
use Rattle.syn_words.specs.declared.ScriptFault.TheVariants.{UnknownCommand}

-- A number of workers, 1 at least and 16 at most; the form lets no other through.
abbrev pub workers_of : ℕ → ℕ
workers_of number = max 1 (min number 16)

-- A number of inputs, 2 at least and 8 at most, likewise.
abbrev pub inputs_of : ℕ → ℕ
inputs_of number = max 2 (min number 8)

-- LUTs of so many inputs at most that all cost the same: a thousand thousandths each.
abbrev pub luts_alike : ℕ → LutSizes
luts_alike most = record { most = most; areas = 1000 ∷ 1000 ∷ 1000 ∷ 1000 ∷ 1000 ∷ 1000 ∷ 1000 ∷ 1000 ∷ [] }

-- The same by a number that was given.
abbrev pub luts_of : ℕ → LutSizes
luts_of number = luts_alike (inputs_of number)

-- A number of tables, 32768 at most, likewise.
abbrev pub size_of : ℕ → ℕ
size_of number = min number 32768

-- How a pass goes: with `-z`, with `-L`, and by how many workers.
abbrev pub options : Bool → Bool → Option ℕ → PassOptions
options zero levels workers = record { zero = zero; levels = levels; workers = workers }

-- The same by what was given behind a name, where `-z` stands for itself or is set.
abbrev pub given_options : Bool → Given → PassOptions
given_options zero given = options zero given.flags.1 (option_map workers_of given.number)

-- The number of conflicts that was given, 1000000 at most; the form lets no other through. 100 where none was.
abbrev pub given_conflicts : Option ℕ → ℕ
given_conflicts None = 100
given_conflicts (Some number) = min number 1000000

-- How a search goes by what was given behind a name: by how many conflicts, and with `-L`.
abbrev pub given_limits : Given → SearchLimits
given_limits given = record { conflicts = given_conflicts given.number; levels = given.flags.1 }

-- A number of new ANDs, 1 at least and 2 at most; the form lets no other through.
abbrev pub gates_of : ℕ → ℕ
gates_of number = max 1 (min number 2)

-- The number of new ANDs that was given, 1 where none was.
abbrev pub given_gates : Option ℕ → ℕ
given_gates None = 1
given_gates (Some number) = gates_of number

-- How nodes are replaced by what was given behind a name: by how many new ANDs and conflicts, and with `-L`.
abbrev pub replace_limits : Given → ReplaceLimits
replace_limits given = record { gates = given_gates given.further; conflicts = given_conflicts given.number; levels = given.flags.1 }

-- A number of levels, 1000000 at most; the form lets no other through.
abbrev pub slack_of : ℕ → ℕ
slack_of number = min number 1000000

-- A number of LUTs of a window, 1 at least and 1000 at most; the form lets no other through.
abbrev pub window_of : ℕ → ℕ
window_of number = max 1 (min number 1000)

-- The number of LUTs of a window that was given, 100 where none was.
abbrev pub given_window : Option ℕ → ℕ
given_window None = 100
given_window (Some number) = window_of number

-- How trees of ANDs are rebuilt by what was given behind a name: with `-s` or without.
abbrev pub balancing : Given → Recipe
balancing given = if given.flags.0 then recipes.BalanceShared else recipes.Balance

-- How LUTs are made by what was given behind a name: with `-A` however deep, or so many levels deeper at most; else with `-a` or without.
abbrev pub mapping : Given → Recipe
mapping given =
    if given.flags.1
    then recipes.MapLoosely (option_map slack_of given.further) (option_map luts_of given.number)
    else recipes.Map given.flags.0 (option_map luts_of given.number)

-- The command that reads a file in a format.
abbrev pub reading : Format → List ℕ → Command
reading formats.Blif name = commands.Read name
reading formats.Aiger name = commands.ReadAiger false name
reading formats.AsciiAiger name = commands.ReadAiger false name

-- The command that writes a file in a format; of AIGER it refuses a latch with a type.
abbrev pub writing : Format → List ℕ → Command
writing formats.Blif name = commands.Write name
writing formats.Aiger name = commands.WriteAiger false false name
writing formats.AsciiAiger name = commands.WriteAiger true false name

-- The command that compares the network with a file, or a file with another, where one was given.
abbrev pub comparing : ℕ → List ℕ → Option (List ℕ) → Command
comparing conflicts name None = commands.Compare conflicts None (network_file name)
comparing conflicts name (Some other) = commands.Compare conflicts (Some (network_file name)) (network_file other)

-- The command that makes the network anew by a recipe.
abbrev pub make : Recipe → Command
make recipe = commands.Make recipe

-- What `resyn` spells: b; rw; rwz; b; rwz; b.
abbrev pub resyn : List Command
resyn =
    make recipes.Balance
    ∷ make (recipes.Rewrite (options false false None))
    ∷ make (recipes.Rewrite (options true false None))
    ∷ make recipes.Balance
    ∷ make (recipes.Rewrite (options true false None))
    ∷ make recipes.Balance
    ∷ []

-- What `resyn2` and `compress2` spell: b; rw; rf; b; rw; rwz; b; rfz; rwz; b.
abbrev pub resyn2 : List Command
resyn2 =
    make recipes.Balance
    ∷ make (recipes.Rewrite (options false false None))
    ∷ make (recipes.Refactor (options false false None))
    ∷ make recipes.Balance
    ∷ make (recipes.Rewrite (options false false None))
    ∷ make (recipes.Rewrite (options true false None))
    ∷ make recipes.Balance
    ∷ make (recipes.Refactor (options true false None))
    ∷ make (recipes.Rewrite (options true false None))
    ∷ make recipes.Balance
    ∷ []

-- What `resyn2l` spells: rwz; b; rf; b; rw; rwz; b; rfz; rwz; b, with `-L` on all but b.
abbrev pub resyn2l : List Command
resyn2l =
    make (recipes.Rewrite (options true true None))
    ∷ make recipes.Balance
    ∷ make (recipes.Refactor (options false true None))
    ∷ make recipes.Balance
    ∷ make (recipes.Rewrite (options false true None))
    ∷ make (recipes.Rewrite (options true true None))
    ∷ make recipes.Balance
    ∷ make (recipes.Refactor (options true true None))
    ∷ make (recipes.Rewrite (options true true None))
    ∷ make recipes.Balance
    ∷ []

-- The commands that a keyword spells with what was given behind it.
abbrev pub commands_of : Keyword → Given → List Command
commands_of keywords.ReadBlif given = commands.Read (map meant given.name) ∷ []
commands_of keywords.WriteBlif given = commands.Write (map meant given.name) ∷ []
commands_of keywords.ReadAiger given = commands.ReadAiger given.flags.0 (map meant given.name) ∷ []
commands_of keywords.WriteAiger given = commands.WriteAiger given.flags.0 given.flags.1 (map meant given.name) ∷ []
commands_of keywords.Read given = reading given.format (map meant given.name) ∷ []
commands_of keywords.Write given = writing given.format (map meant given.name) ∷ []
commands_of keywords.PrintStats given = commands.Stats ∷ []
commands_of keywords.PrintLevels given = commands.Levels ∷ []
commands_of keywords.Compare given = comparing (given_conflicts given.number) (map meant given.name) (option_map (map meant) given.other) ∷ []
commands_of keywords.Time given = commands.Time ∷ []
commands_of keywords.Echo given = commands.Print (echoed given.words) ∷ []
commands_of keywords.Help given = commands.Print (helped given.topic) ∷ []
commands_of keywords.Quit given = commands.Quit ∷ []
commands_of keywords.Source given = commands.Source (map meant given.name) ∷ []
commands_of keywords.ReadLuts given = commands.ReadLuts (map meant given.name) ∷ []
commands_of keywords.Dress given = []
commands_of keywords.Generate given = commands.Generate given.numbers.0 (size_of given.numbers.1) ∷ []
commands_of keywords.Resyn given = resyn
commands_of keywords.Resyn2 given = resyn2
commands_of keywords.Resyn2Levels given = resyn2l
commands_of keywords.Strash given = make recipes.Strash ∷ []
commands_of keywords.Balance given = make (balancing given) ∷ []
commands_of keywords.Rewrite given = make (recipes.Rewrite (given_options given.flags.0 given)) ∷ []
commands_of keywords.RewriteZero given = make (recipes.Rewrite (given_options true given)) ∷ []
commands_of keywords.Refactor given = make (recipes.Refactor (given_options given.flags.0 given)) ∷ []
commands_of keywords.RefactorZero given = make (recipes.Refactor (given_options true given)) ∷ []
commands_of keywords.Resubstitute given = make (recipes.Resubstitute (given_options given.flags.0 given)) ∷ []
commands_of keywords.ResubstituteZero given = make (recipes.Resubstitute (given_options true given)) ∷ []
commands_of keywords.Merge given = make (recipes.Merge (given_limits given)) ∷ []
commands_of keywords.Replace given = make (recipes.Replace (replace_limits given)) ∷ []
commands_of keywords.Map given = make (mapping given) ∷ []
commands_of keywords.MapByFlow given = make (recipes.MapByFlow (option_map inputs_of given.number)) ∷ []
commands_of keywords.ResubstituteLuts given = make (recipes.ResubstituteLuts (given_window given.number) None) ∷ []
commands_of keywords.Sweep given = make recipes.Sweep ∷ []

-- What a phrase says by the row of its name: the commands that it spells, or its first fault.
abbrev pub said_by : Option (Form × Keyword) → Phrase → Result (List Command) ScriptFault
said_by None phrase = Err (UnknownCommand phrase.name.at)
said_by (Some (form, keyword)) phrase = and_then (given_by form phrase.end phrase.further) (λ given. Ok (commands_of keyword given))

abbrev pub said : Phrase → Result (List Command) ScriptFault
said phrase = said_by (entry_in table phrase.name.text) phrase
