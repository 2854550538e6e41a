-- A file of one model without subcircuits reads as what the model is alone.
use Rattle.std.proofs.Common.{◌≡◌, ℕ, not, ◌&&◌, Bool, true, false, if◌then◌else◌, List, [], ◌∷◌, ◌++◌, map, flat_map, find, refl, sym, ap, ap₂, ◌∙◌, subst, inl, inr, Option, Some, None, option_map, append-nil}
use Rattle.std.specs.List.{list_any, onto_first}
use Rattle.std.specs.Option.{option_or}
use Rattle.std.proofs.lemmas.Bool.{both_ways, cond-false}
use Rattle.syn_lex.specs.Lines.{bad_byte}
use Rattle.syn_netlist.specs.Faults.{ReachesCircle}
use Rattle.syn_netlist.specs.Lists.{Table}
use Rattle.syn_netlist.specs.Words.{has_word}
use Rattle.syn_netlist.proofs.CyclicSets.{to_in}
use Rattle.syn_models.proofs.Alone.{alone_is_flat}
use Rattle.syn_models.proofs.Slashes.{slashes_are_there}
use Rattle.syn_models.specs.declared.flat_fault.FlatFault.{FlatFault}
use Rattle.syn_models.specs.declared.flat_fault.FlatFault.TheVariants.{Undriven as UndrivenName}
use Rattle.syn_models.specs.FlatFaults as flat
use Rattle.syn_models.specs.FlatFaults.{NoRecursion, contents, defined_inside, first_of_statements, first_fault_of_models, model_of as contained, statement_fault, undriven_in}
use Rattle.syn_models.specs.Flattening.{IsFlattening, flattened}
use Rattle.syn_models.specs.Models as models
use Rattle.syn_models.specs.Models.{Inputs, Outputs, Clock, OneLatch, OneTable, OneSubcircuit, Model, Models, StatementKind, Subcircuit, alone, subcircuits_in}
use Rattle.syn_models.specs.Opening.{End, Opened, Opens, Plain as PlainOne, is_subcircuit, words_inside}
use Rattle.syn_reader.specs.Definitions.{definitions, first_undriven, name_of}
use Rattle.syn_reader.specs.Faults.{BadByte, ModelTwice, PortTwice, SubcktShape}
use Rattle.syn_reader.specs.LineFaults.{checks, first_fault_of_lines, first_found}
use Rattle.syn_reader.specs.ModelFaults as files
use Rattle.syn_reader.specs.ModelFaults.{model_checks, model_twice, subckt_shape}
use Rattle.syn_reader.specs.Parted.{by_model, parted}
use Rattle.syn_reader.specs.Reading.{NoCircle, Reads}
use Rattle.syn_reader.specs.Saying.{Say, SpellAll}
use Rattle.syn_reader.specs.Statements.{Statement, is_model, is_subckt, statements}
use Rattle.syn_reader.proofs.Built.{model_of, spelled}
use Rattle.syn_reader.proofs.Faultless.{found_append, more_checks}
use Rattle.syn_reader.proofs.Fine.{none_from, or_none, parts_of}
use Rattle.syn_reader.proofs.OneLists.{NoModels, NoMoreModels, NoSubckts, Plain, SaysAll, defined_all, says_all}

-- only the first statement is `.model`
and_true : (b : Bool) → (b && true) ≡ false → b ≡ false
and_true true h = h
and_true false h = refl

no_models : (one : Statement) (above ss : List Statement) → first_fault_of_lines checks (one ∷ above) ss ≡ None → NoModels ss
no_models one above [] e = tt
no_models one above (s ∷ ss) e =
    let p = parts_of (one ∷ above) s ss e in
    (and_true (is_model s.kind) p.0.first, no_models s (one ∷ above) ss p.1)

no_more : (ss : List Statement) → first_fault_of_lines checks [] ss ≡ None → NoMoreModels ss
no_more [] e = tt
no_more (s ∷ ss) e = no_models s [] ss (parts_of [] s ss e).1

parted_alone : (s : Statement) (ss : List Statement) → NoModels ss → parted (s ∷ ss) ≡ (s ∷ ss) ∷ []
parted_alone s [] n = refl
parted_alone s (t ∷ ts) n = cond-false (is_model t.kind) ((s ∷ []) ∷ parted (t ∷ ts)) (onto_first s (parted (t ∷ ts))) n.0 ∙ ap (onto_first s) (parted_alone t ts n.1)

one_part : (ss : List Statement) → NoMoreModels ss → by_model ss ≡ ss ∷ []
one_part [] n = refl
one_part (s ∷ ss) n = go (is_model s.kind)
  where
    go : (b : Bool) → (if b then parted (s ∷ ss) else (s ∷ ss) ∷ []) ≡ (s ∷ ss) ∷ []
    go true = parted_alone s ss n
    go false = refl

-- no fault that only files of models have
and_false : (b : Bool) → (b && false) ≡ false
and_false true = refl
and_false false = refl

and_first : (a b : Bool) → a ≡ false → (a && b) ≡ false
and_first true b h = absurd (both_ways true h refl)
and_first false b h = refl

more_fine : (above : List Statement) (s : Statement) → is_subckt s.kind ≡ false → first_found (more_checks []) above s ≡ None
more_fine above s n =
    none_from _ _ (cond-false (model_twice [] above s) (Some (ModelTwice s.line)) None (and_false (is_model s.kind)))
    (none_from _ _ (cond-false (subckt_shape above s) (Some (SubcktShape s.line)) None (and_first (is_subckt s.kind) _ n))
    (none_from _ _ (ap (option_map (PortTwice s.line)) (cond-false (is_subckt s.kind) _ None n)) refl))

lines_fine : (above ss : List Statement) → NoSubckts ss → first_fault_of_lines checks above ss ≡ None → first_fault_of_lines (model_checks []) above ss ≡ None
lines_fine above [] n e = refl
lines_fine above (s ∷ ss) n e =
    let p = or_none (first_found checks above s) (first_fault_of_lines checks (s ∷ above) ss) e in
    none_from _ _ (found_append checks (more_checks []) above s ∙ none_from _ _ p.0 (more_fine above s n.0)) (lines_fine (s ∷ above) ss n.1 p.1)

-- a statement that is no subcircuit
no_subcircuit : (kind : StatementKind) → is_subcircuit kind ≡ false → subcircuits_in kind ≡ []
no_subcircuit (Inputs words) n = refl
no_subcircuit (Outputs words) n = refl
no_subcircuit (Clock words) n = refl
no_subcircuit (OneLatch latch) n = refl
no_subcircuit (OneTable table) n = refl
no_subcircuit (OneSubcircuit c) n = absurd (both_ways true n refl)

no_inside : (all : List Model) (kind : StatementKind) → is_subcircuit kind ≡ false → defined_inside all kind ≡ []
no_inside all (Inputs words) n = refl
no_inside all (Outputs words) n = refl
no_inside all (Clock words) n = refl
no_inside all (OneLatch latch) n = refl
no_inside all (OneTable table) n = refl
no_inside all (OneSubcircuit c) n = absurd (both_ways true n refl)

no_fault : (all : List Model) (home : Model) (above : List models.Statement) (line : ℕ) (kind : StatementKind) → is_subcircuit kind ≡ false → statement_fault flat.checks all home above line kind ≡ None
no_fault all home above line (Inputs words) n = refl
no_fault all home above line (Outputs words) n = refl
no_fault all home above line (Clock words) n = refl
no_fault all home above line (OneLatch latch) n = refl
no_fault all home above line (OneTable table) n = refl
no_fault all home above line (OneSubcircuit c) n = absurd (both_ways true n refl)

pub none_inside : (all : List Model) (said : List models.Statement) → Plain said → flat_map (λ s. defined_inside all s.kind) said ≡ []
none_inside all [] p = refl
none_inside all (s ∷ ss) p = ap₂ (λ (a b : List (List ℕ)). a ++ b) (no_inside all s.kind p.0) (none_inside all ss p.1)

no_subcircuits : (said : List models.Statement) → Plain said → flat_map (λ s. subcircuits_in s.kind) said ≡ []
no_subcircuits [] p = refl
no_subcircuits (s ∷ ss) p = ap₂ (λ (a b : List Subcircuit). a ++ b) (no_subcircuit s.kind p.0) (no_subcircuits ss p.1)

pub no_faults : (all : List Model) (home : Model) (above said : List models.Statement) → Plain said → first_of_statements flat.checks all home above said ≡ None
no_faults all home above [] p = refl
no_faults all home above (s ∷ ss) p = ap₂ (λ (a b : Option FlatFault). option_or a b) (no_fault all home above s.line s.kind p.0) (no_faults all home (s ∷ above) ss p.1)

abbrev pub plain_tree : List models.Statement → Opened
plain_tree [] = End
plain_tree (s ∷ ss) = PlainOne s.kind (plain_tree ss)

pub plain_opens : (all : List Model) (said : List models.Statement) → Plain said → Opens all said (plain_tree said)
plain_opens all [] p = tt
plain_opens all (s ∷ ss) p = (refl, p.0, plain_opens all ss p.1)

abbrev pub missing : List (List ℕ) → List (List ℕ) → Option (List ℕ)
missing names read = find (λ name. not (has_word names name)) read

-- a model alone, of plain statements in which all that is read is defined
abbrev pub only : Model → Models
only m = record { main = m; others = [] }

only_faultless : (m : Model) (ss : List Statement) → SaysAll (m ∷ []) ss m.statements → first_undriven ss ≡ None → first_fault_of_models (only m) ≡ None
only_faultless m ss h none =
    let all : List Model = m ∷ [] in
    let defined : defined_all m.statements ++ flat_map (λ (s : models.Statement). defined_inside all s.kind) m.statements ≡ map name_of (flat_map definitions ss)
    = ap (λ (l : List (List ℕ)). defined_all m.statements ++ l) (none_inside all m.statements h.plain) ∙ append-nil (defined_all m.statements) ∙ h.defines in
    let driven : undriven_in all m ≡ None = ap₂ missing defined h.reads ∙ none in
    ap₂ (λ (a : Option FlatFault) (b : Option (List ℕ)). option_or a (option_map UndrivenName b))
    (ap (λ (a : Option FlatFault). option_or a None) (no_faults all m [] m.statements h.plain))
    (ap (λ (b : Option (List ℕ)). option_or b None) driven)

pub only_acyclic : (m : Model) → Plain m.statements → NoRecursion (only m)
only_acyclic m p name = λ (r : ReachesCircle (contents m ∷ []) name).
    let (set, reading, there) = r in
    let (table, at, output, reads) = reading name there in
    elim (to_in (contents m ∷ []) table at.0 at.1 at.2) [
      | inl e ↦ both_ways (list_any set table.inputs) (ap (λ (t : Table). list_any set t.inputs) (sym e) ∙ ap (λ (l : List Subcircuit). list_any set (map contained l)) (no_subcircuits m.statements p)) reads
      | inr z ↦ absurd z
    ]

pub only_flat : (m : Model) → Plain m.statements → IsFlattening (only m) (alone m)
only_flat m p =
    let tree : Opened = plain_tree m.statements in
    let (count, slashes) = slashes_are_there m tree in
    let f : IsFlattening (only m) (flattened m tree count) = record { tree = tree; opens = plain_opens (m ∷ []) m.statements p; count = count; slashes = slashes; is = refl } in
    subst (IsFlattening (only m)) (alone_is_flat (only m) (flattened m tree count) (no_subcircuits m.statements p) f) f

-- plain statements have no instance, and so no words inside
pub none_within : (said : List models.Statement) → words_inside (plain_tree said) ≡ 0
none_within [] = refl
none_within (s ∷ ss) = none_within ss

-- A file without a disallowed byte whose statements are one model's, without subcircuits and without a fault, reads as what the model is alone.
pub alone_reads : (bytes : List ℕ) (said : List models.Statement) → bad_byte bytes ≡ None → NoSubckts (statements bytes) → first_fault_of_lines checks [] (statements bytes) ≡ None → first_undriven (statements bytes) ≡ None → Say (statements bytes) said
    → NoCircle (alone (model_of (statements bytes) said)) → Reads bytes (alone (model_of (statements bytes) said))
alone_reads bytes said allowed plain faultless driven say acyclic =
    let ss : List Statement = statements bytes in
    let fine : first_fault_of_lines (model_checks []) [] ss ≡ None = lines_fine [] ss plain faultless in
    let parts : by_model ss ≡ ss ∷ [] = one_part ss (no_more ss faultless) in
    let m : Model = model_of ss said in
    let h : SaysAll (m ∷ []) ss said = says_all (m ∷ []) ss said plain say in
    record {
      models = only m;
      spelled = record {
        faultless = none_from _ _ (ap (option_map BadByte) allowed) (ap (files.first_fault_of_models []) parts ∙ none_from _ _ fine refl);
        spelled = subst (λ (l : List (List Statement)). SpellAll l (m ∷ [])) (sym parts) (spelled ss said say, tt);
      };
      flattened = record {
        faultless = only_faultless m ss h driven;
        acyclic = only_acyclic m h.plain;
        flattening = only_flat m h.plain;
      };
      acyclic = acyclic;
    }
