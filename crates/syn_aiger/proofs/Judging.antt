-- What is answered of bytes that are read.
use Rattle.std.specs.Prelude.{IfErr, IfNone}
use Rattle.std.specs.List.{list_all}
use Rattle.std.proofs.Common.{◌≡◌, ℕ, ◌+◌, ◌*◌, ◌<◌, ◌≤◌, ◌⊎◌, Bool, true, List, [], ◌++◌, length, map, drop, Option, None, Result, Ok, Err, sym, ap, ◌∙◌, subst, append-nil, inl, inr, arith}
use Rattle.std.proofs.lemmas.List.{drop_all}
use Rattle.syn_rows.specs.declared.Lit.{Lit}
use Rattle.syn_netlist.specs.Faults.{AnswersCircle}
use Rattle.syn_netlist.specs.Lists.{Frame, Netlist, observed}
use Rattle.syn_netlist.specs.Numbers.{word_at, words_at}
use Rattle.syn_lists.specs.Numbers.{has_number}
use Rattle.syn_reader.specs.Limits.{most_sources}
use Rattle.syn_aiger_files.specs.declared.fault.AigFault.{AigFault}
use Rattle.syn_aiger_files.specs.declared.fault.AigFault.TheVariants.{Header, Line, Justice, Pair, Symbol, Undefined, Cycle, TooManySources, TooManyGates, NoMemory}
use Rattle.syn_aiger_files.specs.declared.files.Aig.{Aig}
use Rattle.syn_aiger_files.specs.Files.{and_literal, latch_literal}
use Rattle.syn_aiger_files.specs.Spelling.{most_variables, spelled}
use Rattle.syn_aiger_files.proofs.Spelled.{spelled_sound}
use Rattle.syn_aiger.specs.Faults.{IsFirstFault, NamesFirstFault, Spells, Within, most_ands}
use Rattle.syn_aiger.specs.Naming.{literal_named}
use Rattle.syn_aiger.specs.Networks.{IsGraphOfAig, frame_of, observed_literals}
use Rattle.syn_aiger.specs.Placing.{lit_in}
use Rattle.syn_aiger.specs.Ranks.{HasRank}
use Rattle.syn_aiger.specs.Values.{NoCircle, and_tables, and_variable, first_undefined, source_literals, variable_word}
use Rattle.syn_aiger.proofs.Defined.{all_at_most, all_right, few_from}
use Rattle.syn_aiger.proofs.Either.{text_fault}
use Rattle.syn_aiger.proofs.Ranking.{ranked_no_circle}
use Rattle.syn_aiger.proofs.Slicing.{observed_lits_are}

fault_names : (properties : Bool) (bytes : List ℕ) (f : AigFault) → IsFirstFault properties bytes f → NamesFirstFault properties bytes f
fault_names properties bytes Header h = h
fault_names properties bytes Justice h = h
fault_names properties bytes (Line at) h = h
fault_names properties bytes (Pair at) h = h
fault_names properties bytes (Symbol at) h = h
fault_names properties bytes (Undefined v) h = h
fault_names properties bytes (Cycle vs) h = h
fault_names properties bytes (TooManySources n) h = h
fault_names properties bytes (TooManyGates n) h = h
fault_names properties bytes NoMemory h = absurd h

pub memory_fault : (properties : Bool) (bytes : List ℕ) (f : AigFault) → f ≡ NoMemory → NamesFirstFault properties bytes f
memory_fault properties bytes f e = subst (NamesFirstFault properties bytes) (sym e) tt

pub parse_fault : (properties : Bool) (bytes : List ℕ) (f : AigFault) → (f ≡ NoMemory) ⊎ (spelled properties bytes ≡ Err f) → NamesFirstFault properties bytes f
parse_fault properties bytes f (inl e) = memory_fault properties bytes f e
parse_fault properties bytes f (inr e) = fault_names properties bytes f (text_fault properties bytes f e)

pub no_circle_of : (properties : Bool) (bytes : List ℕ) (g : Aig) → spelled properties bytes ≡ Ok g → HasRank g → NoCircle g
no_circle_of properties bytes g e r =
    let f = spelled_sound properties bytes g e in
    let small : g.variables ≤ most_variables = f.0 in
    let most : ℕ = 2 * g.variables + 1 in
    let latches : List ℕ = map latch_literal g.latches in
    let ands : List ℕ = map and_literal g.ands in
    ranked_no_circle r.0 g r.1
    (few_from most g.ands (omega arith) (all_right (λ l. l ≤ most) latches ands (all_right (λ l. l ≤ most) g.inputs (latches ++ ands) (all_at_most most [] (g.inputs ++ (latches ++ ands)) f.1.new))) f.1.sides)

module _ (properties : Bool) (bytes : List ℕ) (g : Aig) (says : spelled properties bytes ≡ Ok g) where
  module _ (none : Path (Option ℕ) None (first_undefined g)) where
    pub cycle_fault : (vs : List ℕ) → (list_all (has_number (map and_variable g.ands)) vs ≡ true) × AnswersCircle (and_tables g) (map variable_word vs) → NamesFirstFault properties bytes (Cycle vs)
    cycle_fault vs h = (g, says, (sym none, h.0, h.1))

    pub sources_fault : HasRank g → (n : ℕ) → n ≡ length (source_literals g) → most_sources < n → NamesFirstFault properties bytes (TooManySources n)
    sources_fault r n is many = (g, says, (sym none, no_circle_of properties bytes g says r, is, many))

    pub gates_fault : HasRank g → (n : ℕ) → length (source_literals g) ≤ most_sources → n ≡ length g.ands → most_ands < n → NamesFirstFault properties bytes (TooManyGates n)
    gates_fault r n few is many = (g, says, (sym none, no_circle_of properties bytes g says r, few, is, many))

    pub graph_result : HasRank g → Within g → (m : Netlist) → IsGraphOfAig g m → (h : Aig) × Spells properties bytes h × Within h × IsGraphOfAig h m
    graph_result r within m graph = (g, record { says = says; defined = sym none; acyclic = no_circle_of properties bytes g says r }, within, graph)

pub within_of : (g : Aig) → length (source_literals g) ≤ most_sources → length g.ands ≤ most_ands → Within g
within_of g sources gates = record { sources = sources; gates = gates }

pub spelled_same : (properties : Bool) (bytes : List ℕ) (g h : Aig) → spelled properties bytes ≡ Ok g → h ≡ g → spelled properties bytes ≡ Ok h
spelled_same properties bytes g h says e = says ∙ ap (λ (k : Aig). Ok k) (sym e)

pub parse_left : {T : Type 0} (properties : Bool) (bytes : List ℕ) (r : Result T AigFault) (y e : AigFault) → r ≡ Err y → y ≡ e → (e ≡ NoMemory) ⊎ (spelled properties bytes ≡ Err e) → IfErr r (NamesFirstFault properties bytes)
parse_left properties bytes r y e p q h = subst (λ (s : Result _ AigFault). IfErr s (NamesFirstFault properties bytes)) (sym (p ∙ ap (λ (f : AigFault). Err f) q)) (parse_fault properties bytes e h)

pub rank_by : {A : Type 0} (g : Aig) (r : Option A) → IfNone r (HasRank g) → r ≡ None → HasRank g
rank_by g r h e = subst (λ (o : Option _). IfNone o (HasRank g)) e h

-- the literals of the observed signals

pub observed_end : (g : Aig) (names : List (List ℕ)) (numbers all : List ℕ) (lits : List Lit) (i : ℕ) (frame : Frame) → all ≡ numbers → words_at names numbers ≡ observed frame → frame ≡ frame_of g → length all ≤ i
    → lits ++ map (λ n. lit_in g (literal_named g (word_at names n))) (drop i all) ≡ map (λ n. lit_in g (literal_named g (word_at names n))) all → lits ≡ map (lit_in g) (observed_literals g)
observed_end g names numbers all lits i frame e words f l so_far =
    sym (append-nil lits) ∙ ap (λ (ns : List ℕ). lits ++ map (λ n. lit_in g (literal_named g (word_at names n))) ns) (sym (drop_all i all l)) ∙ so_far
    ∙ observed_lits_are g names all
    ∙ ap (λ (ws : List (List ℕ)). map (lit_in g) (map (literal_named g) ws)) (ap (words_at names) e ∙ words ∙ ap observed f)
