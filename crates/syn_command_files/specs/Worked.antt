-- Worked scripts and files of commands, with what they come to; worked files of LUTs.
use Rattle.std.specs.Prelude.{◌≡◌, ℕ, false, true, List, [], ◌∷◌, ◌++◌, Option, Some, None, Result, Ok, Err, codes}
use Rattle.syn_words.specs.Commands.{options}
use Rattle.syn_words.specs.declared.Command.TheVariants.{Quit, Stats, Make}
use Rattle.syn_words.specs.declared.recipes.Recipe.TheVariants.{Balance, Rewrite}
use Rattle.syn_words.specs.declared.ScriptFault.TheVariants.{MissingWord, UnknownCommand}
use Rattle.syn_command_files.specs.declared.LoadFault.TheVariants.{File, GetFailed, Script, TooDeep}
use Rattle.syn_command_files.specs.Sources.{refused}
use Rattle.syn_command_files.specs.Loading.{LoadsFile, LoadsScript, ScriptRefused}
use Rattle.syn_words.specs.declared.inputs.LutSizes.{LutSizes}
use Rattle.syn_command_files.specs.Luts.{sizes_in}

-- a text and a line feed behind it
abbrev pub line : List ℕ → List ℕ
line text = text ++ 10 ∷ []

-- Files: `two` names `one`, `own` names itself, `bad` has a fault, `early` names `bad` and has a fault behind that.
abbrev pub files : Option (List (List ℕ × List ℕ))
files = Some (
    (codes "one", codes "rw -z")
    ∷ (codes "two", line (codes "b # first") ++ codes "source one; ps")
    ∷ (codes "own", codes "source own")
    ∷ (codes "end", codes "b; quit; ps")
    ∷ (codes "bad", line (codes "b") ++ codes "dc2")
    ∷ (codes "early", line (codes "source bad") ++ codes "source")
    ∷ [])

pub record WorkedLoads : Type 0 where
  pub alone : LoadsScript (codes "b; ps") files (Make Balance ∷ Stats ∷ [])
  pub in_place : LoadsScript (codes "ps; source two; b") files (Stats ∷ Make Balance ∷ Make (Rewrite (options true false None)) ∷ Stats ∷ Make Balance ∷ [])
  pub of_a_file : LoadsFile (codes "two") files (Make Balance ∷ Make (Rewrite (options true false None)) ∷ Stats ∷ [])
  pub ended : LoadsScript (codes "ps; quit; b") files (Stats ∷ Quit ∷ [])
  pub ended_in_a_file : LoadsScript (codes "ps; source end; b") files (Stats ∷ Make Balance ∷ Quit ∷ [])
  pub too_deep : ScriptRefused (codes "source own") files (refused TooDeep (codes "own"))
  pub fault_in_a_file : ScriptRefused (codes "b; source bad; source none") files (refused (File 2 (codes "dc2") (UnknownCommand 2)) (codes "bad"))
  pub fault_behind_the_end : ScriptRefused (codes "quit; source bad") files (refused (File 2 (codes "dc2") (UnknownCommand 2)) (codes "bad"))
  pub own_fault_first : ScriptRefused (codes "source early") files (refused (File 2 [] (MissingWord 17)) (codes "early"))
  pub script_first : ScriptRefused (codes "source bad; dc2") files (refused (Script (UnknownCommand 12)) [])
  pub missing : ScriptRefused (codes "source none") files (refused GetFailed (codes "none"))

-- the most inputs of a LUT, and areas of LUTs of one to eight inputs
abbrev pub sizes : ℕ → List ℕ → Result LutSizes ℕ
sizes most areas = Ok (record { most = most; areas = areas })

-- no area of a LUT is told
abbrev pub untold : ℕ
untold = 4294967295

pub record WorkedLuts : Type 0 where
  pub usual : sizes_in (line (codes "# K area delay") ++ line (codes "1 1.00 1.00") ++ line [] ++ line (codes "2 1.00 1.00") ++ codes "4 2 1 1.5 2 2") ≡ sizes 4 (1000 ∷ 1000 ∷ untold ∷ 2000 ∷ untold ∷ untold ∷ untold ∷ untold ∷ [])
  pub comment : sizes_in (line (codes "6 1 # 9") ++ codes "#") ≡ sizes 6 (untold ∷ untold ∷ untold ∷ untold ∷ untold ∷ 1000 ∷ untold ∷ untold ∷ [])
  pub carriage_returns : sizes_in (codes "5 1" ++ 13 ∷ 10 ∷ []) ≡ sizes 5 (untold ∷ untold ∷ untold ∷ untold ∷ 1000 ∷ untold ∷ untold ∷ untold ∷ [])
  pub fractions : sizes_in (line (codes "2 0.5") ++ line (codes "3 12.3456") ++ codes "8 4294967.295") ≡ sizes 8 (untold ∷ 500 ∷ 12345 ∷ untold ∷ untold ∷ untold ∷ untold ∷ untold ∷ [])
  pub last_counts : sizes_in (line (codes "2 7") ++ codes "2 3") ≡ sizes 2 (untold ∷ 3000 ∷ untold ∷ untold ∷ untold ∷ untold ∷ untold ∷ untold ∷ [])
  pub much : sizes_in (codes "2 99999999999999999999.5") ≡ sizes 2 (untold ∷ untold ∷ untold ∷ untold ∷ untold ∷ untold ∷ untold ∷ untold ∷ [])
  pub empty : sizes_in [] ≡ Err 0
  pub no_rows : sizes_in (line [] ++ line (codes "# 4 1")) ≡ Err 2
  pub one_input : sizes_in (line (codes "1 1")) ≡ Err 1
  pub no_area : sizes_in (line (codes "4 1") ++ line (codes "3") ++ codes "x") ≡ Err 2
  pub no_number : sizes_in (codes "x 1") ≡ Err 1
  pub no_fraction : sizes_in (codes "4 1.") ≡ Err 1
  pub nine : sizes_in (line (codes "4 1") ++ codes "9 1") ≡ Err 2
  pub none_at_all : sizes_in (codes "0 1") ≡ Err 1
