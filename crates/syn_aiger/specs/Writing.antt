-- The file that a network is written as, and what the two have in common.
use Rattle.std.specs.Prelude.{◌≡◌, ℕ, suc, ◌+◌, ◌*◌, ◌==◌, min, max, if◌then◌else◌, Bool, List, [], ◌∷◌, ◌++◌, length, map, find, is_some, option_map, Option, Some, None, ⊤}
use Rattle.syn_rows.specs.declared.Row.{Row}
use Rattle.syn_rows.specs.declared.Row.TheVariants.{Free, Source, And, Alias}
use Rattle.syn_netlist.specs.Lists.{Frame, Latch, Netlist, latch_output, sources}
use Rattle.syn_netlist.specs.Values.{Consistent}
use Rattle.syn_netlist.specs.Words.{without}
use Rattle.syn_network.specs.GraphShape.{lit_of, rows_of}
use Rattle.syn_network.specs.Spelling.{gates_of}
use Rattle.syn_aiger_files.specs.declared.files.Aig.{Aig}
use Rattle.syn_aiger_files.specs.declared.files.AigAnd.{AigAnd}
use Rattle.syn_aiger_files.specs.declared.files.AigLatch.{AigLatch}
use Rattle.syn_aiger_files.specs.declared.files.Place.{Place}
use Rattle.syn_aiger_files.specs.declared.files.Symbol.{Symbol}
use Rattle.syn_aiger_files.specs.declared.files.Place.TheVariants.{Input as OfInput, Latch as OfLatch, Output as OfOutput}
use Rattle.syn_aiger_files.specs.Files.{next_of}
use Rattle.syn_aiger.specs.declared.writer.AigWriteFault.{AigWriteFault}
use Rattle.syn_aiger.specs.declared.writer.AigWriteFault.TheVariants as faults
use Rattle.syn_aiger_files.specs.Literals.{literals_from}
use Rattle.syn_aiger.specs.Networks.{frame_of}
use Rattle.syn_aiger.specs.Values.{FitsAig, source_variables, value_of}

-- the sources that are no latches: inputs, then clocks that are no inputs
abbrev pub free_signals : Frame → List (List ℕ)
free_signals frame = frame.inputs ++ without frame.inputs frame.clocks

-- the literal of a signal
abbrev pub literal_in : Netlist → List ℕ → ℕ
literal_in m word = (lit_of m word).0

-- the reset of an initial value: 0, 1, or the own literal for any value
abbrev pub reset_by : ℕ → ℕ → ℕ
reset_by own init = if init == 0 then 0 else if init == 1 then 1 else own

-- the latches, from a variable on
abbrev pub latches_by : Netlist → ℕ → List Latch → List AigLatch
latches_by m variable [] = []
latches_by m variable (latch ∷ latches) =
    record { literal = 2 * variable; next = literal_in m latch.feed; reset = reset_by (2 * variable) latch.init } ∷ latches_by m (variable + 1) latches

-- the AND of a row, the greater right side first; other rows have none
abbrev pub and_by : ℕ → Row → List AigAnd
and_by n Free = []
and_by n Source = []
and_by n (And a b) = record { literal = 2 * n; first = max a.0 b.0; second = min a.0 b.0 } ∷ []
and_by n (Alias a) = []

-- the ANDs of rows, the first of which is node n's
abbrev pub ands_by : ℕ → List Row → List AigAnd
ands_by n [] = []
ands_by n (row ∷ rows) = and_by n row ++ ands_by (n + 1) rows

-- symbols of a place with these names, from an index on
abbrev pub symbols_by : Place → ℕ → List (List ℕ) → List Symbol
symbols_by place index [] = []
symbols_by place index (name ∷ names) = record { place = place; index = index; name = name } ∷ symbols_by place (suc index) names

-- the symbols of a frame: all its names, those of what latches load left out
abbrev pub symbols_in : Frame → List Symbol
symbols_in frame = symbols_by OfInput 0 (free_signals frame) ++ (symbols_by OfLatch 0 (map latch_output frame.latches) ++ symbols_by OfOutput 0 frame.outputs)

-- The file of a network: variables are the nodes of the rows that it spells, literals are theirs.
abbrev pub aig_of : Netlist → Aig
aig_of m =
    let free : ℕ = length (free_signals m.frame) in
    let ands : List AigAnd = ands_by (length (sources m.frame) + 1) (gates_of m.frame (rows_of m)) in
    record {
      variables = length (sources m.frame) + length ands;
      inputs = literals_from 1 free;
      latches = latches_by m (free + 1) m.frame.latches;
      outputs = map (literal_in m) m.frame.outputs;
      ands = ands;
      symbols = symbols_in m.frame;
    }

-- the latch has a type
abbrev pub has_type : Latch → Bool
has_type latch = is_some latch.kind

-- the output of the first latch with a type
abbrev pub first_typed : Frame → Option (List ℕ)
first_typed frame = option_map latch_output (find has_type frame.latches)

-- an initial value as it is read again: 2 becomes 3, since both are any value
abbrev pub init_again : Latch → ℕ
init_again latch = if latch.init == 0 then 0 else if latch.init == 1 then 1 else 3

abbrev pub feed_of : Latch → List ℕ
feed_of latch = latch.feed

abbrev pub init_in : Latch → ℕ
init_in latch = latch.init

-- What a written file keeps of a network: no latch of the network has a type; the file's network is called `top`, has clocks behind inputs, the same outputs, latches of the same names with the same initial values, 3 for 2, and names of its own for what they load; where the sources agree, the outputs and what the latches load have the values that each fitting valuation gives.
pub record IsWrittenAs (m : Netlist) (g : Aig) : Type 0 where
  pub untyped : first_typed m.frame ≡ None
  pub inputs : (frame_of g).inputs ≡ free_signals m.frame
  pub outputs : (frame_of g).outputs ≡ m.frame.outputs
  pub latches : map latch_output (frame_of g).latches ≡ map latch_output m.frame.latches
  pub inits : map init_in (frame_of g).latches ≡ map init_again m.frame.latches
  pub values : (v : ℕ → Bool) (w : List ℕ → Bool) → FitsAig g v → Consistent m w → map w (sources m.frame) ≡ map v (source_variables g) → map w m.frame.outputs ≡ map (value_of v) g.outputs
  pub next : (v : ℕ → Bool) (w : List ℕ → Bool) → FitsAig g v → Consistent m w → map w (sources m.frame) ≡ map v (source_variables g) → map w (map feed_of m.frame.latches) ≡ map (value_of v) (map next_of g.latches)

-- a latch without its type
abbrev pub untyped_latch : Latch → Latch
untyped_latch latch = record { feed = latch.feed; output = latch.output; kind = None; init = latch.init }

-- a network whose latches' types are left out, and all else stays
abbrev pub without_types : Netlist → Netlist
without_types m =
    let f : Frame = m.frame in
    record {
      frame = record { model = f.model; inputs = f.inputs; clocks = f.clocks; outputs = f.outputs; latches = map untyped_latch f.latches };
      tables = m.tables;
    }

-- An answer names the first latch with a type, or it is want of memory.
abbrev pub NamesTyped : Frame → AigWriteFault → Type 0
NamesTyped frame (faults.Latch name) = first_typed frame ≡ Some name
NamesTyped frame faults.NoMemory = ⊤
