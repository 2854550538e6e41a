-- The command line: what the program's words give, those of a simple command of `clap`.
use Rattle.std.specs.Prelude.{ℕ, List, Option, Some, None, codes}
use Rattle.clap.specs.Words.{App, Kinds, fault_of, first_of, matches_of, new_app, new_rule, with_rule, Rule}
use Rattle.clap.specs.declared.builder.action.ArgAction.TheVariants.{SetTrue}
use Rattle.syn_words.specs.Numbers.{number_in}

-- The option `-s`, which has no value and means nothing. 115 is the code of `s`.
abbrev pub silent_option : Rule
silent_option = record (new_rule (codes "silent")) { short = Some 115; action = Some SetTrue }

-- The option `-c` with its value, a script. 99 is the code of `c`.
abbrev pub script_option : Rule
script_option = record (new_rule (codes "script")) { short = Some 99 }

-- The option `-f` with its value, a file's name. 102 is the code of `f`.
abbrev pub file_option : Rule
file_option = record (new_rule (codes "file")) { short = Some 102 }

-- The option `-w` with its value, a number of workers. 119 is the code of `w`.
abbrev pub workers_option : Rule
workers_option = record (new_rule (codes "workers")) { short = Some 119 }

-- The command: `synth [-s] [-c SCRIPT] [-f FILE] [-w N]`. It takes `-c` and `-f` together; `usage_of` doesn't.
abbrev pub usage : App
usage = with_rule (with_rule (with_rule (with_rule (new_app (codes "synth")) silent_option) script_option) file_option) workers_option

-- For which causes the command refuses the words, of which the first is the program's name: none where it takes them. A call for help is refused too.
abbrev pub refusals : List (List ℕ) → Kinds
refusals words = fault_of usage words

-- The script that the words give, where they give one.
abbrev pub script_in : List (List ℕ) → Option (List ℕ)
script_in words = first_of (codes "script") (matches_of usage words)

-- The file's name that the words give, where they give one.
abbrev pub file_in : List (List ℕ) → Option (List ℕ)
file_in words = first_of (codes "file") (matches_of usage words)

-- The text of the number of workers, where the words give one.
abbrev pub workers_text_in : List (List ℕ) → Option (List ℕ)
workers_text_in words = first_of (codes "workers") (matches_of usage words)

-- The number of workers: decimal digits without a sign, 1 to 16; one where no text is given.
abbrev pub workers_of : Option (List ℕ) → Option ℕ
workers_of None = Some 1
workers_of (Some text) = number_in (record { least = 1; most = 16 }) text

-- The number of workers that the words ask for, where their text is one or they give none.
abbrev pub workers_in : List (List ℕ) → Option ℕ
workers_in words = workers_of (workers_text_in words)
