-- The body of a file, part by part: what each line or pair of numbers has to say, and what it says (AIGER 1.9; the order of ASCII definitions is free, this project's choice).
use Rattle.std.specs.Prelude.{ℕ, ◌+◌, ◌-◌, ◌%◌, ◌==◌, ◌&&◌, ◌||◌, not, nat_lt, nat_le, Bool, true, false, if◌then◌else◌, List, [], ◌∷◌, ◌++◌, length, map, replicate, option_map, Option, Some, None, Result, Ok, Err}
use Rattle.syn_lists.specs.Numbers.{has_number}
use Rattle.syn_aiger_files.specs.declared.fault.AigFault.{AigFault}
use Rattle.syn_aiger_files.specs.declared.fault.AigFault.TheVariants as faults
use Rattle.syn_aiger_files.specs.Texts.{behind, delta, numbers_on}
use Rattle.syn_aiger_files.specs.Files.{AigLatch, AigAnd, Header, all_outputs}
pub use Rattle.syn_aiger_files.specs.declared.files.Part.{Part}
pub use Rattle.syn_aiger_files.specs.declared.files.Part.TheVariants.{Input, Latched, Output, Gate}
pub use Rattle.syn_aiger_files.specs.declared.files.Wanted.{Wanted}
pub use Rattle.syn_aiger_files.specs.declared.files.Wanted.TheVariants.{InputLine, LatchLine, NextLine, OutputLine, AndLine, PairOf}
use Rattle.syn_aiger_files.specs.Literals.{literals_from}

-- what the body has, by the format
abbrev pub wanted_by : Bool → Header → List Wanted
wanted_by true h = replicate h.inputs InputLine ++ (replicate h.latches LatchLine ++ (replicate (all_outputs h) OutputLine ++ replicate h.ands AndLine))
wanted_by false h = map NextLine (literals_from (h.inputs + 1) h.latches) ++ (replicate (all_outputs h) OutputLine ++ map PairOf (literals_from (h.inputs + h.latches + 1) h.ands))

-- A literal may be read: it is at most the greatest.
abbrev pub may_read : ℕ → ℕ → Bool
may_read most l = nat_le l most

-- A literal may be defined: it is plain, not that of the constant, at most the greatest, and not defined before.
abbrev pub may_define : ℕ → List ℕ → ℕ → Bool
may_define most defined l = l % 2 == 0 && (nat_le 2 l && (nat_le l most && not (has_number defined l)))

-- A reset: 0, 1, or the latch's own literal for any value.
abbrev pub is_reset : ℕ → ℕ → Bool
is_reset own reset = nat_le reset 1 || reset == own

-- the latch of these numbers, where they may be its
abbrev pub latch_by : ℕ → ℕ → ℕ → ℕ → Option Part
latch_by most own next reset = if may_read most next && is_reset own reset then Some (Latched (record { literal = own; next = next; reset = reset })) else None

-- What a line says with these numbers on it, the greatest literal and the literals that are defined before; nothing where it isn't of its shape. A reset that is absent is 0.
abbrev pub said_by : ℕ → List ℕ → Wanted → List ℕ → Option Part
said_by most defined InputLine (l ∷ []) = if may_define most defined l then Some (Input l) else None
said_by most defined LatchLine (l ∷ next ∷ []) = if may_define most defined l then latch_by most l next 0 else None
said_by most defined LatchLine (l ∷ next ∷ reset ∷ []) = if may_define most defined l then latch_by most l next reset else None
said_by most defined (NextLine own) (next ∷ []) = latch_by most own next 0
said_by most defined (NextLine own) (next ∷ reset ∷ []) = latch_by most own next reset
said_by most defined OutputLine (l ∷ []) = if may_read most l then Some (Output l) else None
said_by most defined AndLine (l ∷ first ∷ second ∷ []) = if may_define most defined l && (may_read most first && may_read most second) then Some (Gate (record { literal = l; first = first; second = second })) else None
said_by most defined wanted numbers = None

-- the AND of a literal, whose first right side lies so far below it, and the second as far below that as the second number says
abbrev pub pair_behind : ℕ → ℕ → Option (ℕ × List ℕ) → Option (Part × List ℕ)
pair_behind l by None = None
pair_behind l by (Some (second, rest)) = if nat_le second (l - by) then Some (Gate (record { literal = l; first = l - by; second = (l - by) - second }), rest) else None

abbrev pub pair_by : ℕ → Option (ℕ × List ℕ) → Option (Part × List ℕ)
pair_by l None = None
pair_by l (Some (by, rest)) = if nat_lt 0 by && nat_le by l then pair_behind l by (delta 5 rest) else None

-- What stands in front says as wanted, with what stands behind it: a pair of numbers of five groups at most, or a line of numbers.
abbrev pub taken : ℕ → List ℕ → Wanted → List ℕ → Option (Part × List ℕ)
taken most defined (PairOf l) bytes = pair_by l (delta 5 bytes)
taken most defined wanted bytes = option_map (λ part. (part, behind 10 bytes)) (said_by most defined wanted (numbers_on bytes))

-- the literals that are defined behind a part that says so by its text
abbrev pub defined_by : List ℕ → Part → List ℕ
defined_by defined (Input l) = l ∷ defined
defined_by defined (Latched latch) = latch.literal ∷ defined
defined_by defined (Output l) = defined
defined_by defined (Gate a) = a.literal ∷ defined

-- the fault at a place where it isn't as wanted
abbrev pub missed : Wanted → ℕ → AigFault
missed (PairOf l) at = faults.Pair at
missed wanted at = faults.Line at

-- what follows where it is there, else the fault
abbrev pub if_some : {A B : Type 0} → AigFault → Option A → (A → Result B AigFault) → Result B AigFault
if_some fault None next = Err fault
if_some fault (Some a) next = next a

-- what is made of a success; a fault stays the fault
abbrev pub and_then : {A B : Type 0} → Result A AigFault → (A → Result B AigFault) → Result B AigFault
and_then (Ok a) next = next a
and_then (Err fault) next = Err fault

-- The parts of a body and what stands behind it, or the first fault with its place in the file of so many bytes: one part after the other.
abbrev pub parts_of : ℕ → ℕ → List ℕ → List Wanted → List ℕ → Result (List Part × List ℕ) AigFault
parts_of total most defined [] bytes = Ok ([], bytes)
parts_of total most defined (wanted ∷ more) bytes =
    if_some (missed wanted (total - length bytes)) (taken most defined wanted bytes)
    (λ got. and_then (parts_of total most (defined_by defined got.0) more got.1) (λ rest. Ok (got.0 ∷ rest.0, rest.1)))

-- the parts of each kind
abbrev pub inputs_in : List Part → List ℕ
inputs_in [] = []
inputs_in (Input l ∷ parts) = l ∷ inputs_in parts
inputs_in (part ∷ parts) = inputs_in parts

abbrev pub latches_in : List Part → List AigLatch
latches_in [] = []
latches_in (Latched latch ∷ parts) = latch ∷ latches_in parts
latches_in (part ∷ parts) = latches_in parts

abbrev pub outputs_in : List Part → List ℕ
outputs_in [] = []
outputs_in (Output l ∷ parts) = l ∷ outputs_in parts
outputs_in (part ∷ parts) = outputs_in parts

abbrev pub ands_in : List Part → List AigAnd
ands_in [] = []
ands_in (Gate a ∷ parts) = a ∷ ands_in parts
ands_in (part ∷ parts) = ands_in parts
