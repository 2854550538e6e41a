-- A file's network by place, and what is read again of a file that a network was written as.
use Rattle.std.specs.Prelude.{◌≡◌, ℕ, Bool, List, [], length, map, None}
use Rattle.syn_netlist.specs.Lists.{Netlist, latch_output, sources}
use Rattle.syn_netlist.specs.Values.{Consistent}
use Rattle.syn_aiger_files.specs.declared.files.Aig.{Aig}
use Rattle.syn_aiger_files.specs.Files.{next_of}
use Rattle.syn_aiger.specs.Networks.{init_of}
use Rattle.syn_aiger.specs.Values.{FitsAig, source_variables, value_of}
use Rattle.syn_aiger.specs.Writing.{feed_of, first_typed, free_signals, init_again, init_in}

-- both valuations give the sources the same values, each in its own order
abbrev pub SameSources : Aig → Netlist → (ℕ → Bool) → (List ℕ → Bool) → Type 0
SameSources g n v w = map w (sources n.frame) ≡ map v (source_variables g)

-- The netlist has the lists of the file by place: as many inputs, the latches' initial values, and, where the sources agree, outputs and what latches load of the values of the file's literals.
pub record HasListsOf (g : Aig) (n : Netlist) : Type 0 where
  pub inputs : length n.frame.inputs ≡ length g.inputs
  pub inits : map init_in n.frame.latches ≡ map init_of g.latches
  pub outputs : (v : ℕ → Bool) (w : List ℕ → Bool) → FitsAig g v → Consistent n w → SameSources g n v w → map w n.frame.outputs ≡ map (value_of v) g.outputs
  pub next : (v : ℕ → Bool) (w : List ℕ → Bool) → FitsAig g v → Consistent n w → SameSources g n v w → map w (map feed_of n.frame.latches) ≡ map (value_of v) (map next_of g.latches)

-- The netlist n is m read again: inputs, then clocks that are no inputs, are its inputs, it has the outputs and latches of m with the same initial values, 3 for 2, and no types of latches; where the sources agree, the outputs and what latches load have the same values.
pub record IsReadBack (m n : Netlist) : Type 0 where
  pub untyped : first_typed n.frame ≡ None
  pub inputs : n.frame.inputs ≡ free_signals m.frame
  pub clocks : n.frame.clocks ≡ []
  pub outputs : n.frame.outputs ≡ m.frame.outputs
  pub latches : map latch_output n.frame.latches ≡ map latch_output m.frame.latches
  pub inits : map init_in n.frame.latches ≡ map init_again m.frame.latches
  pub values : (v w : List ℕ → Bool) → Consistent m v → Consistent n w → map v (sources m.frame) ≡ map w (sources n.frame) → map v m.frame.outputs ≡ map w n.frame.outputs
  pub next : (v w : List ℕ → Bool) → Consistent m v → Consistent n w → map v (sources m.frame) ≡ map w (sources n.frame) → map v (map feed_of m.frame.latches) ≡ map w (map feed_of n.frame.latches)
