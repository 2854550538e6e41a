-- What spells a file within the limits has no first fault.
use Rattle.std.proofs.Common.{◌≡◌, ℕ, Bool, List, length, map, Option, Some, None, Result, Ok, Err, sym, ap, ◌∙◌, subst, arith}
use Rattle.syn_netlist.specs.Lists.{Table, output_of}
use Rattle.syn_netlist.specs.Faults.{AnswersCircle, ReachesCircle}
use Rattle.syn_models.proofs.WordSets.{found_passes}
use Rattle.syn_aiger_files.specs.declared.fault.AigFault.{AigFault}
use Rattle.syn_aiger_files.specs.declared.fault.AigFault.TheVariants.{Header, Line, Justice, Pair, Symbol, Undefined, Cycle, TooManySources, TooManyGates, NoMemory}
use Rattle.syn_aiger.specs.Faults.{IsFirstFault, Spells, Within}
use Rattle.syn_aiger_files.specs.declared.files.Aig.{Aig}
use Rattle.syn_aiger.specs.Laws.{NotBoth}
use Rattle.syn_aiger_files.specs.Spelling.{spelled}
use Rattle.syn_aiger.specs.Values.{and_tables, first_undefined, source_literals, variable_word}

pub answered_reaches : (tables : List Table) (names : List (List ℕ)) → AnswersCircle tables names → (word : List ℕ) × ReachesCircle tables word
answered_reaches tables names c = (c.0, (c.2, c.3.cyclic.reading, found_passes c.2 (map output_of tables) c.0 c.3.begins))

module _ (properties : Bool) (bytes : List ℕ) (g : Aig) (s : Spells properties bytes g) (w : Within g) where
  same_file : (h : Aig) → spelled properties bytes ≡ Ok h → g ≡ h
  same_file h e = let q : Path (Result Aig AigFault) (Ok g) (Ok h) = sym s.says ∙ e in cc

  no_error : (f : AigFault) → spelled properties bytes ≡ Err f → ⊥
  no_error f e = let q : Path (Result Aig AigFault) (Ok g) (Err f) = sym s.says ∙ e in cc

  no_fault : (f : AigFault) → IsFirstFault properties bytes f → ⊥
  no_fault Header h = no_error Header h
  no_fault Justice h = no_error Justice h
  no_fault (Line at) h = no_error (Line at) h
  no_fault (Pair at) h = no_error (Pair at) h
  no_fault (Symbol at) h = no_error (Symbol at) h
  no_fault (Undefined v) h =
      let q : Path (Option ℕ) None (Some v) = sym s.defined ∙ ap first_undefined (same_file h.0 h.1) ∙ h.2 in cc
  no_fault (Cycle vs) h =
      let a = answered_reaches (and_tables g) (map variable_word vs) (subst (λ (k : Aig). AnswersCircle (and_tables k) (map variable_word vs)) (sym (same_file h.0 h.1)) h.2.2) in
      s.acyclic a.0 a.1
  no_fault (TooManySources n) h =
      let few = w.sources in
      let is : n ≡ length (source_literals g) = h.2.2 ∙ ap (λ (k : Aig). length (source_literals k)) (sym (same_file h.0 h.1)) in
      omega (arith, h.2.3)
  no_fault (TooManyGates n) h =
      let few = w.gates in
      let is : n ≡ length g.ands = h.2.3 ∙ ap (λ (k : Aig). length k.ands) (sym (same_file h.0 h.1)) in
      omega (arith, h.2.4)
  no_fault NoMemory h = h

pub not_both : NotBoth
not_both properties bytes g fault s w h = no_fault properties bytes g s w fault h
