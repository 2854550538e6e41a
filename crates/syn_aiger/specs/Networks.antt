-- The network of a file.
use Rattle.std.specs.Prelude.{◌≡◌, ℕ, ◌==◌, ◌≤◌, if◌then◌else◌, Bool, List, [], ◌∷◌, length, map, codes, None}
use Rattle.syn_netlist.specs.Lists.{Frame, Latch, Netlist, observed, sources}
use Rattle.syn_netlist.specs.Order.{Ordered}
use Rattle.syn_netlist.specs.Values.{Consistent}
use Rattle.syn_network.specs.GraphShape.{GraphShape, and_tables}
use Rattle.syn_aiger_files.specs.declared.files.Aig.{Aig}
use Rattle.syn_aiger_files.specs.declared.files.AigLatch.{AigLatch}
use Rattle.syn_aiger.specs.Naming.{Named, feeds_of, inputs_of, latches_of, literal_named, name_of, outputs_of}
use Rattle.syn_aiger.specs.Values.{FitsAig, source_variables, value_of}

-- an initial value: 3 where the reset is the latch's own literal, for any value
abbrev pub init_of : AigLatch → ℕ
init_of latch = if latch.reset == latch.literal then 3 else latch.reset

-- the latches, from their names and those of what they load
abbrev pub latches_from : List AigLatch → List Named → List Named → List Latch
latches_from (latch ∷ more) (output ∷ outputs) (feed ∷ feeds) = record { feed = feed.name; output = output.name; kind = None; init = init_of latch } ∷ latches_from more outputs feeds
latches_from latches outputs feeds = []

-- the frame of a file: the model `top`, no clocks, latches without a type
abbrev pub frame_of : Aig → Frame
frame_of g = record {
  model = codes "top";
  inputs = map name_of (inputs_of g);
  clocks = [];
  outputs = map name_of (outputs_of g);
  latches = latches_from g.latches (latches_of g) (feeds_of g);
}

-- the literals of the observed signals
abbrev pub observed_literals : Aig → List ℕ
observed_literals g = map (literal_named g) (observed (frame_of g))

-- each choice of values of the sources has a fitting valuation
abbrev pub IsTotalAig : Aig → Type 0
IsTotalAig g = (given : ℕ → Bool) → (v : ℕ → Bool) × FitsAig g v × (map v (source_variables g) ≡ map given (source_variables g))

-- The netlist is a graph of the file: it has its frame, reads only earlier signals, has the shape of a graph; where the sources agree, the observed signals have the values that each fitting valuation gives their literals; and it has no more ANDs than the file.
pub record IsGraphOfAig (g : Aig) (m : Netlist) : Type 0 where
  pub frame : m.frame ≡ frame_of g
  pub ordered : Ordered m
  pub shape : GraphShape m
  pub total : IsTotalAig g
  pub values : (v : ℕ → Bool) (w : List ℕ → Bool) → FitsAig g v → Consistent m w → map w (sources m.frame) ≡ map v (source_variables g) → map w (observed m.frame) ≡ map (value_of v) (observed_literals g)
  pub fewer : length (and_tables m) ≤ length g.ands
