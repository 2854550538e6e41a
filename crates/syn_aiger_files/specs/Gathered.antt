-- What the code has of a body while it reads it.
use Rattle.std.specs.Prelude.{ℕ, ◌≡◌, ◌+◌, ◌*◌, Bool, true, false, List, [], ◌++◌, IfSome, if◌then◌else◌, Option, Result, Ok, Err}
use Rattle.syn_aiger_files.specs.declared.bodies.Body.{Body}
use Rattle.syn_aiger_files.specs.declared.fault.AigFault.{AigFault}
use Rattle.syn_aiger_files.specs.declared.sets.NumberSet.{NumberSet}
use Rattle.syn_aiger_files.specs.Files.{Aig, AigAnd, AigLatch, Header, Symbol}
use Rattle.syn_aiger_files.specs.FirstNames.{with_properties}
use Rattle.syn_aiger_files.specs.Literals.{literals_from}
use Rattle.syn_aiger_files.specs.Parts.{AndLine, InputLine, LatchLine, NextLine, OutputLine, PairOf, Part, Wanted, ands_in, defined_by, inputs_in, latches_in, outputs_in, parts_of, said_by, wanted_by}
use Rattle.syn_aiger_files.specs.Seen.{AreSeen}

-- lines that say by their text what they define, and outputs
abbrev pub is_text : Wanted → Bool
is_text InputLine = true
is_text LatchLine = true
is_text OutputLine = true
is_text AndLine = true
is_text wanted = false

-- what a binary file has
abbrev pub is_binary : Wanted → Bool
is_binary (NextLine own) = true
is_binary OutputLine = true
is_binary (PairOf own) = true
is_binary wanted = false

-- A line says this part, and the set has what is defined behind it.
abbrev pub SaysPart : ℕ → List ℕ → Wanted → List ℕ → NumberSet → Option Part → Type 0
SaysPart most defined wanted ns seen part = (part ≡ said_by most defined wanted ns) × IfSome part (λ p. AreSeen seen (defined_by defined p))

-- inputs, latches, outputs and ANDs
abbrev pub Lists : Type 0
Lists = List ℕ × (List AigLatch × (List ℕ × List AigAnd))

-- the lists, with what parts say behind them
abbrev pub with_parts : Lists → List Part → Lists
with_parts ls parts = (ls.0 ++ inputs_in parts, (ls.1.0 ++ latches_in parts, (ls.1.1.0 ++ outputs_in parts, ls.1.1.1 ++ ands_in parts)))

-- the same where the parts may be a fault
abbrev pub gathered : Lists → Result (List Part × List ℕ) AigFault → Result (Lists × List ℕ) AigFault
gathered ls (Ok got) = Ok (with_parts ls got.0, got.1)
gathered ls (Err fault) = Err fault

abbrev pub no_lists : Lists
no_lists = ([], ([], ([], [])))

-- the lists of a body
abbrev pub lists_of : Body → Lists
lists_of b = (b.inputs.items, (b.latches.items, (b.outputs.items, b.ands.items)))

-- what the bytes behind a first line have, in a file of so many bytes
abbrev pub body_by : Bool → Header → ℕ → List ℕ → Result (Lists × List ℕ) AigFault
body_by ascii h total bytes = gathered no_lists (parts_of total (2 * h.variables + 1) [] (wanted_by ascii h) bytes)

-- the file of a first line, these lists and symbols
abbrev pub aig_with : Header → Lists → List Symbol → Aig
aig_with h ls symbols = record {
  variables = h.variables;
  inputs = if h.ascii then ls.0 else literals_from 1 h.inputs;
  latches = ls.1.0;
  outputs = ls.1.1.0;
  ands = ls.1.1.1;
  symbols = with_properties h symbols;
}

-- symbols in front of others, where these are no fault
abbrev pub behind_symbols : List Symbol → Result (List Symbol) AigFault → Result (List Symbol) AigFault
behind_symbols symbols (Ok more) = Ok (symbols ++ more)
behind_symbols symbols (Err fault) = Err fault
