-- What an AIGER file says, as plain data (AIGER 1.9). A variable is a number, variable 0 the constant; a literal is twice a variable, plus 1 where it is complemented.
use Rattle.std.specs.Prelude.{ℕ, ◌+◌, ◌/◌}
pub use Rattle.syn_aiger_files.specs.declared.files.Aig.{Aig}
pub use Rattle.syn_aiger_files.specs.declared.files.AigAnd.{AigAnd}
pub use Rattle.syn_aiger_files.specs.declared.files.AigLatch.{AigLatch}
pub use Rattle.syn_aiger_files.specs.declared.files.Further.{Further}
pub use Rattle.syn_aiger_files.specs.declared.files.Header.{Header}
pub use Rattle.syn_aiger_files.specs.declared.files.Place.{Place}
pub use Rattle.syn_aiger_files.specs.declared.files.Place.TheVariants.{Input as OfInput, Latch as OfLatch, Output as OfOutput, Bad as OfBad, Constraint as OfConstraint}
pub use Rattle.syn_aiger_files.specs.declared.files.Symbol.{Symbol}

abbrev pub latch_literal : AigLatch → ℕ
latch_literal latch = latch.literal

abbrev pub next_of : AigLatch → ℕ
next_of latch = latch.next

abbrev pub and_literal : AigAnd → ℕ
and_literal a = a.literal

-- all outputs of a body: the file's own, then bad states, then constraints
abbrev pub all_outputs : Header → ℕ
all_outputs h = h.further.bad + h.further.constraints + h.outputs

-- the variable of a literal
abbrev pub variable_of : ℕ → ℕ
variable_of l = l / 2
