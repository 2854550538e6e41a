-- Worked scripts with their commands, texts with their first faults, and words read by forms.
use Rattle.std.specs.Prelude.{◌≡◌, true, false, ℕ, Bool, List, [], ◌∷◌, ◌++◌, Option, Some, None, Result, Ok, Err, codes}
use Rattle.syn_words.specs.Words.{words_at}
use Rattle.syn_words.specs.Commands.{luts_alike, options}
use Rattle.syn_words.specs.Help.{overview}
use Rattle.syn_words.specs.Table.{conflicts_and_names, flags_and_name}
use Rattle.syn_words.specs.Flags.{Flags}
use Rattle.syn_words.specs.Forms.{given_by}
use Rattle.syn_words.specs.Scripts.{IsScript, IsFirstFault}
use Rattle.syn_words.specs.declared.Command.{Command}
use Rattle.syn_words.specs.declared.Command.TheVariants.{Read, Write, ReadAiger, WriteAiger, Stats, Levels, Compare, Time, Print, Quit, Source, ReadLuts, Generate, Make}
use Rattle.syn_words.specs.declared.recipes.Recipe.TheVariants.{Strash, Balance, BalanceShared, Rewrite, Refactor, Resubstitute, Merge, Replace, Map, MapLoosely, MapByFlow, ResubstituteLuts, Sweep}
use Rattle.syn_words.specs.declared.ScriptFault.{ScriptFault}
use Rattle.syn_words.specs.declared.ScriptFault.TheVariants.{BadByte, UnknownCommand, MissingWord, ExtraWord, UnknownEnding, BadNumber, OutOfRange}
use Rattle.syn_words.specs.declared.formats.Format.TheVariants.{Blif}
use Rattle.syn_words.specs.declared.formats.NetworkFile.TheVariants as files
use Rattle.syn_words.specs.declared.forms.Form.{Form}
use Rattle.syn_words.specs.declared.forms.Operands.TheVariants.{Nothing, TwoNumbers, Words}
use Rattle.syn_words.specs.declared.recipes.SearchLimits.{SearchLimits}
use Rattle.syn_words.specs.declared.word_reader.Given.{Given}

-- What a text of words gives by a form, from the offset 0.
abbrev pub Gives : Form → List ℕ → Result Given ScriptFault → Type 0
Gives form text wanted = given_by form 99 (words_at 0 text) ≡ wanted

-- Flags `-z`, `-L` and `-l`, and an option `-w` with a number from 1 to 16.
abbrev pub flags_and_workers : Form
flags_and_workers = record { flags = (Some 122, Some 76, Some 108); numbered = (Some (record { letter = 119; range = record { least = 1; most = 16 } }), None); apart = false; operands = Nothing }

-- A flag `-L`, an option `-C` with a number from 0 to 9, and an option `-N` with one from 1 to 2.
abbrev pub two_options : Form
two_options = record { flags = (Some 76, None, None); numbered = (Some (record { letter = 67; range = record { least = 0; most = 9 } }), Some (record { letter = 78; range = record { least = 1; most = 2 } })); apart = false; operands = Nothing }

-- A flag `-A` apart from `-a` and `-b`, an option `-K` with a number from 0 to 9, and beside `-A` an option `-D` with one from 0 to 5.
abbrev pub flag_apart : Form
flag_apart = record { flags = (Some 97, Some 65, Some 98); numbered = (Some (record { letter = 75; range = record { least = 0; most = 9 } }), Some (record { letter = 68; range = record { least = 0; most = 5 } })); apart = true; operands = Nothing }

-- A number of 64 bits, and one from 1 to 32768.
abbrev pub two_numbers : Form
two_numbers = record { flags = (None, None, None); numbered = (None, None); apart = false; operands = TwoNumbers (record { least = 0; most = 18446744073709551615 }) (record { least = 1; most = 32768 }) }

-- Any words.
abbrev pub words : Form
words = record { flags = (Some 97, None, None); numbered = (None, None); apart = false; operands = Words }

-- These options were given, by the numbers of those with one, and a file's name.
abbrev pub given : Flags → Option ℕ → Option ℕ → List ℕ → Given
given flags number further name = record { flags = flags; number = number; further = further; name = name; format = Blif; other = None; numbers = (0, 0); words = []; topic = None }

-- So many conflicts a question, and whether no observed signal may get deeper.
abbrev pub limits : ℕ → Bool → SearchLimits
limits conflicts levels = record { conflicts = conflicts; levels = levels }

-- The command that replaces nodes: by so many new ANDs and conflicts, and whether no observed signal may get deeper.
abbrev pub replacing : ℕ → ℕ → Bool → Command
replacing gates conflicts levels = Make (Replace (record { gates = gates; conflicts = conflicts; levels = levels }))

pub record WorkedScripts : Type 0 where
  pub empty : IsScript [] []
  pub semicolon : IsScript (codes ";") []
  pub blanks : IsScript (codes " ; ;" ++ 9 ∷ 13 ∷ []) []
  pub three : IsScript (codes "read_blif a; ps; write_blif o") (Read (codes "a") ∷ Stats ∷ Write (codes "o") ∷ [])
  pub tight : IsScript (codes "read_blif a;ps;b;st") (Read (codes "a") ∷ Stats ∷ Make Balance ∷ Make Strash ∷ [])
  pub long_names : IsScript (codes "print_stats; strash; balance;") (Stats ∷ Make Strash ∷ Make Balance ∷ [])
  pub tab_and_cr : IsScript (codes "read_blif" ++ 9 ∷ codes "a.blif" ++ 13 ∷ []) (Read (codes "a.blif") ∷ [])
  pub comment_is_none : IsScript (codes "write_blif #a\\b") (Write (codes "#a\\b") ∷ [])
  pub hyphen_is_a_name : IsScript (codes "read_blif -a") (Read (codes "-a") ∷ [])
  pub rewriting : IsScript (codes "rw; rewrite -w 4 -z; rwz") (Make (Rewrite (options false false None)) ∷ Make (Rewrite (options true false (Some 4))) ∷ Make (Rewrite (options true false None)) ∷ [])
  pub refactoring : IsScript (codes "rf; refactor -w 4 -z; rfz -w 2") (Make (Refactor (options false false None)) ∷ Make (Refactor (options true false (Some 4))) ∷ Make (Refactor (options true false (Some 2))) ∷ [])
  pub mapping : IsScript (codes "if; if -K 2; if -K 008") (Make (Map false None) ∷ Make (Map false (Some (luts_alike 2))) ∷ Make (Map false (Some (luts_alike 8))) ∷ [])
  pub mapping_for_area : IsScript (codes "if -a; if -a -K 4; if -K 4 -a") (Make (Map true None) ∷ Make (Map true (Some (luts_alike 4))) ∷ Make (Map true (Some (luts_alike 4))) ∷ [])
  pub mapping_loosely : IsScript (codes "if -A; if -K 4 -A; if -D 0 -A; if -A -K 4 -D 1000000") (Make (MapLoosely None None) ∷ Make (MapLoosely None (Some (luts_alike 4))) ∷ Make (MapLoosely (Some 0) None) ∷ Make (MapLoosely (Some 1000000) (Some (luts_alike 4))) ∷ [])
  pub sharing : IsScript (codes "b -s; balance -s; b") (Make BalanceShared ∷ Make BalanceShared ∷ Make Balance ∷ [])
  pub mapping_by_flow : IsScript (codes "flowmap; flowmap -K 2; flowmap -K 8") (Make (MapByFlow None) ∷ Make (MapByFlow (Some 2)) ∷ Make (MapByFlow (Some 8)) ∷ [])
  pub resubstituting_luts : IsScript (codes "mfs; mfs -w 1; mfs -w 01000") (Make (ResubstituteLuts 100 None) ∷ Make (ResubstituteLuts 1 None) ∷ Make (ResubstituteLuts 1000 None) ∷ [])
  pub ten_commands : IsScript (codes "resyn2")
      (Make Balance ∷ Make (Rewrite (options false false None)) ∷ Make (Refactor (options false false None)) ∷ Make Balance ∷ Make (Rewrite (options false false None)) ∷ Make (Rewrite (options true false None)) ∷ Make Balance ∷ Make (Refactor (options true false None)) ∷ Make (Rewrite (options true false None)) ∷ Make Balance ∷ [])
  pub ten_commands_keeping_levels : IsScript (codes "resyn2l")
      (Make (Rewrite (options true true None)) ∷ Make Balance ∷ Make (Refactor (options false true None)) ∷ Make Balance ∷ Make (Rewrite (options false true None)) ∷ Make (Rewrite (options true true None))
      ∷ Make Balance ∷ Make (Refactor (options true true None)) ∷ Make (Rewrite (options true true None)) ∷ Make Balance ∷ [])
  pub keeping_levels : IsScript (codes "rw -L; rewrite -w 4 -L -z; rfz -L; refactor -L; rs -L -w 2; rsz -L")
      (Make (Rewrite (options false true None)) ∷ Make (Rewrite (options true true (Some 4))) ∷ Make (Refactor (options true true None)) ∷ Make (Refactor (options false true None))
      ∷ Make (Resubstitute (options false true (Some 2))) ∷ Make (Resubstitute (options true true None)) ∷ [])
  pub levels_may_grow : IsScript (codes "rw -l; rfz -l -w 2; resub -z -l") (Make (Rewrite (options false false None)) ∷ Make (Refactor (options true false (Some 2))) ∷ Make (Resubstitute (options true false None)) ∷ [])
  pub joined_options : IsScript (codes "rw -zL; rf -Lz -w 4; rsz -lL; rs -lz") (Make (Rewrite (options true true None)) ∷ Make (Refactor (options true true (Some 4))) ∷ Make (Resubstitute (options true true None)) ∷ Make (Resubstitute (options true false None)) ∷ [])
  pub six_commands : IsScript (codes "resyn")
      (Make Balance ∷ Make (Rewrite (options false false None)) ∷ Make (Rewrite (options true false None)) ∷ Make Balance ∷ Make (Rewrite (options true false None)) ∷ Make Balance ∷ [])
  pub compressing : IsScript (codes "compress2")
      (Make Balance ∷ Make (Rewrite (options false false None)) ∷ Make (Refactor (options false false None)) ∷ Make Balance ∷ Make (Rewrite (options false false None)) ∷ Make (Rewrite (options true false None)) ∷ Make Balance ∷ Make (Refactor (options true false None)) ∷ Make (Rewrite (options true false None)) ∷ Make Balance ∷ [])
  pub merging : IsScript (codes "fraig; fraig -C 7; fraig -L -C 1000000; fraig -C 0 -L") (Make (Merge (limits 100 false)) ∷ Make (Merge (limits 7 false)) ∷ Make (Merge (limits 1000000 true)) ∷ Make (Merge (limits 0 true)) ∷ [])
  pub replaced : IsScript (codes "sresub; srs -N 2; sresub -L -C 7 -N 1; srs -N 2 -C 0 -L; sresub -C 1000000 -N 02")
      (replacing 1 100 false ∷ replacing 2 100 false ∷ replacing 1 7 true ∷ replacing 2 0 true ∷ replacing 2 1000000 false ∷ [])
  pub echoing : IsScript (codes "echo + if -a  ; echo") (Print (codes "+ if -a" ++ 10 ∷ []) ∷ Print (10 ∷ []) ∷ [])
  pub helping : IsScript (codes "help") (Print overview ∷ [])
  pub helping_on_a_short_name : IsScript (codes "help st") (Print (codes "strash, st: turns a mapped network into a graph, by structural hashing" ++ 10 ∷ []) ∷ [])
  pub helping_on_options : IsScript (codes "help flowmap") (Print (codes "flowmap [-K N]: maps to LUTs of at most N inputs, at the least depth" ++ 10 ∷ codes "  -K N  at most N inputs, 2 to 8, by default 6 or those of read_lut" ++ 10 ∷ []) ∷ [])
  pub helping_on_replacing : IsScript (codes "help srs")
      (Print (codes "sresub, srs [-N N] [-C N] [-L]: replaces nodes by others, or by new ANDs, that are proved to have their values" ++ 10 ∷ codes "  -N N  at most N new ANDs in place of a node, 1 or 2, by default 1" ++ 10 ∷ codes "  -C N  at most N conflicts a question, 0 to 1000000, by default 100" ++ 10 ∷ codes "  -L    keeps levels: no observed signal gets deeper" ++ 10 ∷ []) ∷ [])
  pub leaving : IsScript (codes "q; quit; exit; ps") (Quit ∷ Quit ∷ Quit ∷ Stats ∷ [])
  pub sourcing : IsScript (codes "source a.abc; dress b; ps") (Source (codes "a.abc") ∷ Stats ∷ [])
  pub reading_luts : IsScript (codes "read_lut l; if -K 6") (ReadLuts (codes "l") ∷ Make (Map false (Some (luts_alike 6))) ∷ [])
  pub generated : IsScript (codes "gen 18446744073709551615 32768; ps") (Generate 18446744073709551615 32768 ∷ Stats ∷ [])
  pub sweeping : IsScript (codes "read_blif a; scl; ps") (Read (codes "a") ∷ Make Sweep ∷ Stats ∷ [])
  pub resubstitution : IsScript (codes "rs; resub -w 4 -z; rsz -w 2") (Make (Resubstitute (options false false None)) ∷ Make (Resubstitute (options true false (Some 4))) ∷ Make (Resubstitute (options true false (Some 2))) ∷ [])
  pub aiger : IsScript (codes "read_aiger -a; write_aiger o; write_aiger -a o") (ReadAiger false (codes "-a") ∷ WriteAiger false false (codes "o") ∷ WriteAiger true false (codes "o") ∷ [])
  pub aiger_with_properties : IsScript (codes "read_aiger -p a") (ReadAiger true (codes "a") ∷ [])
  pub levels : IsScript (codes "print_level; time") (Levels ∷ Time ∷ [])
  pub compared_with_a_file : IsScript (codes "cec f.aag; cec -C 7 f.v") (Compare 100 None (files.Aiger (codes "f.aag")) ∷ Compare 7 None (files.Blif (codes "f.v")) ∷ [])
  pub compared_files : IsScript (codes "cec a b.aig; cec -C 0 a.blif b") (Compare 100 (Some (files.Blif (codes "a"))) (files.Aiger (codes "b.aig")) ∷ Compare 0 (Some (files.Blif (codes "a.blif"))) (files.Blif (codes "b")) ∷ [])
  pub untyped_aiger : IsScript (codes "write_aiger -t o; write_aiger -at o") (WriteAiger false true (codes "o") ∷ WriteAiger true true (codes "o") ∷ [])
  pub read_by_ending : IsScript (codes "read a.blif; read a.aig; read .aag") (Read (codes "a.blif") ∷ ReadAiger false (codes "a.aig") ∷ ReadAiger false (codes ".aag") ∷ [])
  pub written_by_ending : IsScript (codes "write a.aag.blif; write a.aig; write a.aag") (Write (codes "a.aag.blif") ∷ WriteAiger false false (codes "a.aig") ∷ WriteAiger true false (codes "a.aag") ∷ [])
  pub unknown_ending : IsFirstFault (codes "write a.v; rewrit") (UnknownEnding 6)
  pub upper_case_ending : IsFirstFault (codes "read a.BLIF b") (UnknownEnding 5)
  pub no_ending : IsFirstFault (codes "read blif") (UnknownEnding 5)
  pub name_behind_a_name : IsFirstFault (codes "read a.blif b") (ExtraWord 12)
  pub nothing_to_write : IsFirstFault (codes "write") (MissingWord 5)
  pub zero_refactored_already : IsFirstFault (codes "rfz -z") (ExtraWord 4)
  pub zero_resubstituted_already : IsFirstFault (codes "rsz -z") (ExtraWord 4)
  pub levels_kept_twice : IsFirstFault (codes "rw -L -L") (ExtraWord 6)
  pub levels_kept_and_joined : IsFirstFault (codes "rw -L -zL") (ExtraWord 6)
  pub joined_twice : IsFirstFault (codes "rw -zz") (ExtraWord 3)
  pub joined_with_another : IsFirstFault (codes "rw -za") (ExtraWord 3)
  pub joined_with_a_number : IsFirstFault (codes "rw -zw 4") (ExtraWord 3)
  pub hyphen_alone : IsFirstFault (codes "rw -") (ExtraWord 3)
  pub too_many_conflicts : IsFirstFault (codes "fraig -C 1000001") (OutOfRange 9)
  pub no_number_of_conflicts : IsFirstFault (codes "fraig -C; ps") (MissingWord 8)
  pub conflicts_no_number : IsFirstFault (codes "fraig -C -L") (BadNumber 9)
  pub workers_of_merging : IsFirstFault (codes "fraig -w 4") (ExtraWord 6)
  pub levels_of_merging : IsFirstFault (codes "fraig -l") (ExtraWord 6)
  pub help_on_no_command : IsFirstFault (codes "help rewrit") (UnknownCommand 5)
  pub help_on_two : IsFirstFault (codes "help b st") (ExtraWord 7)
  pub nothing_to_dress : IsFirstFault (codes "dress; ps") (MissingWord 5)
  pub two_to_source : IsFirstFault (codes "source a b") (ExtraWord 9)
  pub extra_behind_quit : IsFirstFault (codes "quit now") (ExtraWord 5)
  pub unknown_behind_quit : IsFirstFault (codes "quit; rewrit") (UnknownCommand 6)
  pub no_new_gates : IsFirstFault (codes "sresub -N 0") (OutOfRange 10)
  pub too_many_new_gates : IsFirstFault (codes "srs -L -N 3") (OutOfRange 10)
  pub no_number_of_gates : IsFirstFault (codes "sresub -N; ps") (MissingWord 9)
  pub gates_no_number : IsFirstFault (codes "sresub -N -C 7") (BadNumber 10)
  pub gates_twice : IsFirstFault (codes "sresub -N 1 -C 7 -N 1") (ExtraWord 17)
  pub conflicts_twice : IsFirstFault (codes "srs -C 1 -N 2 -C 1") (ExtraWord 14)
  pub too_many_conflicts_of_replacing : IsFirstFault (codes "srs -N 1 -C 1000001") (OutOfRange 12)
  pub levels_twice_of_replacing : IsFirstFault (codes "srs -L -N 1 -L") (ExtraWord 12)
  pub joined_with_gates : IsFirstFault (codes "srs -LN 2") (ExtraWord 4)
  pub workers_of_replacing : IsFirstFault (codes "sresub -w 4") (ExtraWord 7)
  pub gates_of_merging : IsFirstFault (codes "fraig -N 1") (ExtraWord 6)
  pub number_of_gates_alone : IsFirstFault (codes "sresub 2") (ExtraWord 7)
  pub option_of_resyn : IsFirstFault (codes "resyn -z") (ExtraWord 6)
  pub levels_kept_already : IsFirstFault (codes "resyn2l -L") (ExtraWord 8)
  pub levels_of_balancing : IsFirstFault (codes "b -l") (ExtraWord 2)
  pub option_of_resyn2 : IsFirstFault (codes "resyn2 -z") (ExtraWord 7)
  pub option_of_sweeping : IsFirstFault (codes "scl -z") (ExtraWord 4)
  pub option_of_reading_aiger : IsFirstFault (codes "read_aiger -a f") (ExtraWord 14)
  pub ascii_behind_the_name : IsFirstFault (codes "write_aiger o -a") (ExtraWord 14)
  pub ascii_without_a_name : IsFirstFault (codes "write_aiger -a") (MissingWord 14)
  pub properties_without_a_name : IsFirstFault (codes "read_aiger -p") (MissingWord 13)
  pub nothing_to_compare : IsFirstFault (codes "cec -C 7; ps") (MissingWord 8)
  pub three_to_compare : IsFirstFault (codes "cec a b c") (ExtraWord 8)
  pub too_many_conflicts_of_comparing : IsFirstFault (codes "cec -C 1000001 a") (OutOfRange 7)
  pub conflicts_behind_a_name : IsFirstFault (codes "cec a -C 7") (ExtraWord 9)
  pub no_tables : IsFirstFault (codes "gen 1 0") (OutOfRange 6)
  pub size_no_number : IsFirstFault (codes "gen 1 x") (BadNumber 6)
  pub seed_too_great : IsFirstFault (codes "gen 18446744073709551616 1") (OutOfRange 4)
  pub zero_twice : IsFirstFault (codes "rw -z -z") (ExtraWord 6)
  pub zero_set_already : IsFirstFault (codes "rwz -z") (ExtraWord 4)
  pub too_many_workers : IsFirstFault (codes "rw -w 17") (OutOfRange 6)
  pub no_number_of_workers : IsFirstFault (codes "rw -w") (MissingWord 5)
  pub too_many_inputs : IsFirstFault (codes "if -K 9") (OutOfRange 6)
  pub too_many_inputs_by_flow : IsFirstFault (codes "flowmap -K 9") (OutOfRange 11)
  pub area_by_flow : IsFirstFault (codes "flowmap -a") (ExtraWord 8)
  pub too_few_inputs : IsFirstFault (codes "if -K 1") (OutOfRange 6)
  pub inputs_no_number : IsFirstFault (codes "if -K x") (BadNumber 6)
  pub no_number_of_inputs : IsFirstFault (codes "if -K") (MissingWord 5)
  pub inputs_twice : IsFirstFault (codes "if -K 4 -K 5") (ExtraWord 8)
  pub loosely_and_for_area : IsFirstFault (codes "if -A -a") (ExtraWord 6)
  pub area_and_loosely : IsFirstFault (codes "if -a -K 4 -A x") (ExtraWord 11)
  pub area_and_loosely_joined : IsFirstFault (codes "if -aA") (ExtraWord 3)
  pub loosely_twice : IsFirstFault (codes "if -A -D 1 -A") (ExtraWord 11)
  pub levels_of_mapping : IsFirstFault (codes "if -D 2; ps") (MissingWord 7)
  pub levels_of_mapping_for_area : IsFirstFault (codes "if -a -D 2") (MissingWord 10)
  pub no_window : IsFirstFault (codes "mfs -w 0") (OutOfRange 7)
  pub too_great_a_window : IsFirstFault (codes "mfs -w 1001") (OutOfRange 7)
  pub window_no_number : IsFirstFault (codes "mfs -w x") (BadNumber 7)
  pub no_number_of_a_window : IsFirstFault (codes "mfs -w; ps") (MissingWord 6)
  pub window_twice : IsFirstFault (codes "mfs -w 1 -w 2") (ExtraWord 9)
  pub inputs_of_resubstituting_luts : IsFirstFault (codes "mfs -K 4") (ExtraWord 4)
  pub window_without_an_option : IsFirstFault (codes "mfs 100") (ExtraWord 4)
  pub extra_before_missing : IsFirstFault (codes "if -D 2 x") (ExtraWord 8)
  pub too_many_levels : IsFirstFault (codes "if -A -D 1000001") (OutOfRange 9)
  pub no_number_of_levels : IsFirstFault (codes "if -A -D") (MissingWord 8)
  pub levels_no_number : IsFirstFault (codes "if -A -D -1") (BadNumber 9)
  pub levels_of_mapping_twice : IsFirstFault (codes "if -A -D 1 -D 2") (ExtraWord 11)
  pub levels_without_an_option : IsFirstFault (codes "if -A 2") (ExtraWord 6)
  pub loosely_by_flow : IsFirstFault (codes "flowmap -A") (ExtraWord 8)
  pub sharing_twice : IsFirstFault (codes "b -s -s") (ExtraWord 5)
  pub word_behind_sharing : IsFirstFault (codes "balance -s x") (ExtraWord 11)
  pub sharing_of_rewriting : IsFirstFault (codes "rw -s") (ExtraWord 3)
  pub area_twice : IsFirstFault (codes "if -a -a") (ExtraWord 6)
  pub lower_case_option : IsFirstFault (codes "if -k 4") (ExtraWord 3)
  pub unknown : IsFirstFault (codes "rewrit") (UnknownCommand 0)
  pub other_script : IsFirstFault (codes "ps; resyn3") (UnknownCommand 4)
  pub upper_case : IsFirstFault (codes "PS") (UnknownCommand 0)
  pub cut_short : IsFirstFault (codes "read_bli a") (UnknownCommand 0)
  pub extra : IsFirstFault (codes "ps now") (ExtraWord 3)
  pub extra_name : IsFirstFault (codes "read_blif a b") (ExtraWord 12)
  pub missing_at_the_end : IsFirstFault (codes "read_blif") (MissingWord 9)
  pub missing_at_the_semicolon : IsFirstFault (codes "read_blif ; ps") (MissingWord 10)
  pub missing_behind_blanks : IsFirstFault (codes "write_blif  ") (MissingWord 12)
  pub first_of_two : IsFirstFault (codes "ps; rewrit; read_blif") (UnknownCommand 4)
  pub line_feed : IsFirstFault (codes "ps" ++ 10 ∷ codes "ps") (BadByte 2)
  pub byte_before_all : IsFirstFault (codes "rewrit; " ++ 127 ∷ []) (BadByte 8)

pub record WorkedForms : Type 0 where
  pub options : Gives flags_and_workers (codes "-z -w 4") (Ok (given (true, false, false) (Some 4) None []))
  pub other_order : Gives flags_and_workers (codes "-w 4 -z") (Ok (given (true, false, false) (Some 4) None []))
  pub levels : Gives flags_and_workers (codes "-L -w 4") (Ok (given (false, true, false) (Some 4) None []))
  pub both_flags : Gives flags_and_workers (codes "-L -z") (Ok (given (true, true, false) None None []))
  pub levels_twice : Gives flags_and_workers (codes "-L -z -L") (Err (ExtraWord 6))
  pub third_flag : Gives flags_and_workers (codes "-l") (Ok (given (false, false, true) None None []))
  pub joined : Gives flags_and_workers (codes "-zL") (Ok (given (true, true, false) None None []))
  pub joined_around_a_number : Gives flags_and_workers (codes "-lL -w 4 -z") (Ok (given (true, true, true) (Some 4) None []))
  pub joined_twice : Gives flags_and_workers (codes "-LlL") (Err (ExtraWord 0))
  pub given_and_joined : Gives flags_and_workers (codes "-l -zl") (Err (ExtraWord 3))
  pub joined_with_another : Gives flags_and_workers (codes "-zx") (Err (ExtraWord 0))
  pub hyphen_alone : Gives flags_and_workers (codes "-") (Err (ExtraWord 0))
  pub no_option : Gives flags_and_workers [] (Ok (given (false, false, false) None None []))
  pub leading_zeros : Gives flags_and_workers (codes "-w 0016") (Ok (given (false, false, false) (Some 16) None []))
  pub number_missing : Gives flags_and_workers (codes "-w") (Err (MissingWord 99))
  pub no_number : Gives flags_and_workers (codes "-w -z") (Err (BadNumber 3))
  pub signed : Gives flags_and_workers (codes "-w +4") (Err (BadNumber 3))
  pub too_small : Gives flags_and_workers (codes "-w 0") (Err (OutOfRange 3))
  pub too_great : Gives flags_and_workers (codes "-w 17") (Err (OutOfRange 3))
  pub flag_twice : Gives flags_and_workers (codes "-z -z") (Err (ExtraWord 3))
  pub number_twice : Gives flags_and_workers (codes "-w 4 -w x") (Err (ExtraWord 5))
  pub two_numbered : Gives two_options (codes "-C 7 -N 2") (Ok (given (false, false, false) (Some 7) (Some 2) []))
  pub second_numbered_first : Gives two_options (codes "-N 2 -L -C 7") (Ok (given (true, false, false) (Some 7) (Some 2) []))
  pub second_numbered_alone : Gives two_options (codes "-N 1") (Ok (given (false, false, false) None (Some 1) []))
  pub second_number_missing : Gives two_options (codes "-C 1 -N") (Err (MissingWord 99))
  pub second_number_too_great : Gives two_options (codes "-C 1 -N 7") (Err (OutOfRange 8))
  pub second_number_twice : Gives two_options (codes "-N 1 -C 1 -N x") (Err (ExtraWord 10))
  pub apart_alone : Gives flag_apart (codes "-A -K 2") (Ok (given (false, true, false) (Some 2) None []))
  pub others_beside_each_other : Gives flag_apart (codes "-ba") (Ok (given (true, false, true) None None []))
  pub first_behind_apart : Gives flag_apart (codes "-A -a") (Err (ExtraWord 3))
  pub third_behind_apart : Gives flag_apart (codes "-Ab") (Err (ExtraWord 0))
  pub apart_behind_the_first : Gives flag_apart (codes "-a -A") (Err (ExtraWord 3))
  pub apart_behind_the_third : Gives flag_apart (codes "-b -K 1 -A") (Err (ExtraWord 8))
  pub number_beside_apart : Gives flag_apart (codes "-D 5 -A") (Ok (given (false, true, false) None (Some 5) []))
  pub number_without_apart : Gives flag_apart (codes "-D 5 -a") (Err (MissingWord 99))
  pub stray_word : Gives flags_and_workers (codes "z") (Err (ExtraWord 0))
  pub flag_before_a_name : Gives (flags_and_name 97 116) (codes "-a o") (Ok (given (true, false, false) None None (codes "o")))
  pub flag_behind_a_name : Gives (flags_and_name 97 116) (codes "o -a") (Err (ExtraWord 2))
  pub flag_for_a_name : Gives (flags_and_name 97 116) (codes "-a -a") (Err (ExtraWord 3))
  pub flags_for_a_name : Gives (flags_and_name 97 116) (codes "-ab") (Ok (given (false, false, false) None None (codes "-ab")))
  pub name_missing : Gives (flags_and_name 97 116) (codes "-a") (Err (MissingWord 99))
  pub one_of_two_names : Gives conflicts_and_names (codes "a") (Ok (given (false, false, false) None None (codes "a")))
  pub no_names : Gives conflicts_and_names (codes "-C 7") (Err (MissingWord 99))
  pub words_as_they_are : Gives words (codes "-a  x") (Ok (record { flags = (false, false, false); number = None; further = None; name = []; format = Blif; other = None; numbers = (0, 0); words = words_at 0 (codes "-a  x"); topic = None }))
  pub seed_and_size : Gives two_numbers (codes "18446744073709551615 1") (Ok (record { flags = (false, false, false); number = None; further = None; name = []; format = Blif; other = None; numbers = (18446744073709551615, 1); words = []; topic = None }))
  pub size_missing : Gives two_numbers (codes "1") (Err (MissingWord 99))
  pub size_no_number : Gives two_numbers (codes "1 x") (Err (BadNumber 2))
  pub size_too_great : Gives two_numbers (codes "1 32769") (Err (OutOfRange 2))
  pub however_long : Gives two_numbers (codes "18446744073709551616 x") (Err (OutOfRange 0))
