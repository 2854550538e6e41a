-- What `help` tells: a topic for each keyword.
use Rattle.std.specs.Prelude.{ℕ, List, [], ◌∷◌, ◌++◌, Option, None, Some, codes}
use Rattle.syn_words.specs.declared.table.Keyword.{Keyword}
use Rattle.syn_words.specs.declared.table.Keyword.TheVariants as keywords
use Rattle.syn_words.specs.declared.help.TheConstants as topics

-- What is told of a keyword's command: its names and what may stand behind them, what it does, and a line for each option.
abbrev pub topic_of : Keyword → List ℕ × List ℕ × List ℕ
topic_of keywords.ReadBlif = (codes "read_blif FILE", codes "reads a BLIF file; the graph of its netlist becomes the network", [])
topic_of keywords.ReadAiger = (codes "read_aiger [-p] FILE", codes "reads an AIGER file, ASCII or binary; its graph becomes the network", codes "  -p    takes bad states and constraints, as outputs; they are refused without it" ++ 10 ∷ [])
topic_of keywords.Generate = (codes "gen SEED SIZE", codes "generates a netlist of SIZE tables, 1 to 32768; its graph becomes the network", [])
topic_of keywords.WriteBlif = (codes "write_blif FILE", codes "writes the network to a BLIF file", [])
topic_of keywords.WriteAiger = (codes "write_aiger [-a] [-t] FILE", codes "writes the network's graph to an AIGER file", codes "  -a    in the ASCII format; else in the binary one" ++ 10 ∷ codes "  -t    leaves out the types of latches, which are refused without it" ++ 10 ∷ [])
topic_of keywords.Read = (codes "read FILE", codes "is read_blif for a name that ends in .blif, read_aiger for one in .aig or .aag", [])
topic_of keywords.Write = (codes "write FILE", codes "is write_blif for a name that ends in .blif, write_aiger for one in .aig, write_aiger -a for one in .aag", [])
topic_of keywords.PrintStats = (codes "print_stats, ps", codes "prints name, inputs and outputs, latches, ANDs or LUTs, and levels", [])
topic_of keywords.PrintLevels = (codes "print_level", codes "prints how many observed signals have each level", [])
topic_of keywords.Compare = (codes "cec [-C N] FILE [FILE]", codes "compares the network with a file, or two files: whether outputs and next latch values are equal", codes "  -C N  at most N conflicts a question, 0 to 1000000, by default 100" ++ 10 ∷ [])
topic_of keywords.Time = (codes "time", codes "prints the seconds since the last time, or since the run began", [])
topic_of keywords.Strash = (codes "strash, st", codes "turns a mapped network into a graph, by structural hashing", [])
topic_of keywords.Balance = (codes "balance, b [-s]", codes "rebuilds trees of ANDs, the shallow operands first", codes "  -s    pairs that most trees share first: never more ANDs, but levels may rise" ++ 10 ∷ [])
topic_of keywords.Rewrite = (codes "rewrite, rw [-z] [-L] [-l] [-w N]", codes "replaces cones of four inputs until no listed replacement saves an AND", topics.PASS_OPTIONS.now)
topic_of keywords.RewriteZero = (codes "rwz [-L] [-l] [-w N]", codes "is rewrite -z", topics.ZERO_OPTIONS.now)
topic_of keywords.Refactor = (codes "refactor, rf [-z] [-L] [-l] [-w N]", codes "replaces cones of up to eight inputs by factored ones, likewise", topics.PASS_OPTIONS.now)
topic_of keywords.RefactorZero = (codes "rfz [-L] [-l] [-w N]", codes "is refactor -z", topics.ZERO_OPTIONS.now)
topic_of keywords.Resubstitute = (codes "resub, rs [-z] [-L] [-l] [-w N]", codes "replaces nodes by constants, others, or an AND of two others, likewise", topics.PASS_OPTIONS.now)
topic_of keywords.ResubstituteZero = (codes "rsz [-L] [-l] [-w N]", codes "is resub -z", topics.ZERO_OPTIONS.now)
topic_of keywords.Merge = (codes "fraig [-C N] [-L]", codes "merges nodes that are proved to have one value, or opposite values", codes "  -C N  at most N conflicts a question, 0 to 1000000, by default 100" ++ 10 ∷ codes "  -L    keeps levels: no observed signal gets deeper" ++ 10 ∷ [])
topic_of keywords.Replace = (codes "sresub, srs [-N N] [-C N] [-L]", codes "replaces nodes by others, or by new ANDs, that are proved to have their values", topics.REPLACE_OPTIONS.now)
topic_of keywords.Sweep = (codes "scl", codes "drops latches that no output needs, and merges equal ones", [])
topic_of keywords.Resyn = (codes "resyn", codes "is b; rw; rwz; b; rwz; b", [])
topic_of keywords.Resyn2 = (codes "resyn2, compress2", codes "is b; rw; rf; b; rw; rwz; b; rfz; rwz; b", [])
topic_of keywords.Resyn2Levels = (codes "resyn2l", codes "is rwz; b; rf; b; rw; rwz; b; rfz; rwz; b, with -L on all but b", [])
topic_of keywords.Map = (codes "if [-a | -A [-D N]] [-K N]", codes "maps to LUTs of at most N inputs", topics.MAP_OPTIONS.now)
topic_of keywords.MapByFlow = (codes "flowmap [-K N]", codes "maps to LUTs of at most N inputs, at the least depth", codes "  -K N  at most N inputs, 2 to 8, by default 6 or those of read_lut" ++ 10 ∷ [])
topic_of keywords.ResubstituteLuts = (codes "mfs [-w N]", codes "saves LUTs, and inputs of LUTs, by don't-cares; maps a graph first, as if -a does", codes "  -w N  by windows of at most N LUTs, 1 to 1000, by default 100; not by threads" ++ 10 ∷ [])
topic_of keywords.Echo = (codes "echo WORDS", codes "prints the words, one blank apart", [])
topic_of keywords.Help = (codes "help [COMMAND]", codes "prints a line a command, or what is to know of one", [])
topic_of keywords.Source = (codes "source FILE", codes "runs the commands of a file", [])
topic_of keywords.ReadLuts = (codes "read_lut FILE", codes "reads how many inputs a LUT has at most, and what it costs, where no -K is given", [])
topic_of keywords.Dress = (codes "dress FILE", codes "does nothing: names are kept anyway", [])
topic_of keywords.Quit = (codes "quit, q, exit", codes "ends the run, also of the lines behind", [])

-- A topic's line behind a text: the usage, a colon and a blank, what the command does, and a line feed.
abbrev pub with_line : List ℕ → List ℕ → List ℕ → List ℕ
with_line text usage does = (((text ++ usage) ++ 58 ∷ 32 ∷ []) ++ does) ++ 10 ∷ []

-- The lines of keywords behind a text.
abbrev pub overview_of : List ℕ → List Keyword → List ℕ
overview_of text [] = text
overview_of text (keyword ∷ keywords) = overview_of (with_line text (topic_of keyword).0 (topic_of keyword).1) keywords

-- A line for each command, in the code's order.
abbrev pub overview : List ℕ
overview = overview_of [] topics.ORDER.now

-- The line of a keyword's command, and those of its options.
abbrev pub topic_text : Keyword → List ℕ
topic_text keyword = with_line [] (topic_of keyword).0 (topic_of keyword).1 ++ (topic_of keyword).2

-- What is told of a command, or a line for each where none is named.
abbrev pub helped : Option Keyword → List ℕ
helped None = overview
helped (Some keyword) = topic_text keyword
