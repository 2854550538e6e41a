-- What a model keeps when all its statements are gathered.
use Rattle.std.proofs.Common.{◌≡◌, ℕ, Bool, true, List, [], ◌∷◌, flat_map, refl, sym, ap, ◌∙◌, subst, Some, None, arith, append-nil}
use Rattle.std.specs.List.{list_all}
use Rattle.std.proofs.lemmas.Bool.{and_from, and_parts}
use Rattle.std.proofs.lemmas.List.Folds.{list_all-append}
use Rattle.syn_netlist.specs.Order.{DefinedOnce}
use Rattle.syn_netlist.specs.Words.{distinct, has_word}
use Rattle.syn_models.specs.Kept.{is_spelled, kind_has_no_nil}
use Rattle.syn_models.specs.Models as models
use Rattle.syn_models.specs.Models.{Model, Subcircuit, alone, binds_once, subcircuits_in}
use Rattle.syn_reader.specs.Computed.{said_of}
use Rattle.syn_reader.specs.LineFaults.{checks, first_fault_of_lines}
use Rattle.syn_reader.specs.Statements.{Statement}
use Rattle.syn_reader.proofs.OnceLaws.{once_law}
use Rattle.syn_reader.specs.declared.model_words.Gathering.{Gathering}
use Rattle.syn_reader.specs.ModelFaults.{model_checks}
use Rattle.syn_reader.specs.Gathers.{is_held, may_stand, said_in}
use Rattle.syn_reader.specs.Owned.{HasGathered}
use Rattle.syn_reader.specs.Parted.{name_in, words_of}
use Rattle.syn_reader.specs.Saying.{Say, SpellModel, names_of}
use Rattle.syn_reader.proofs.Faultless.{more_checks, no_fault}
use Rattle.syn_reader.proofs.Saying.{say_back}

-- what may stand, by what a model keeps
pub held_subcircuits : (test : Subcircuit → Bool) → ((c : Subcircuit) → is_held c ≡ true → test c ≡ true) → (said : List models.Statement) → list_all may_stand said ≡ true → list_all test (flat_map (λ s. subcircuits_in s.kind) said) ≡ true
held_subcircuits test f [] h = refl
held_subcircuits test f (s ∷ ss) h =
    let p = and_parts (may_stand s) (list_all may_stand ss) h in
    let q = and_parts (kind_has_no_nil s.kind) (list_all is_held (subcircuits_in s.kind)) p.0 in
    list_all-append test (subcircuits_in s.kind) (flat_map (λ t. subcircuits_in t.kind) ss)
    ∙ and_from (list_all test (subcircuits_in s.kind)) (list_all test (flat_map (λ t. subcircuits_in t.kind) ss)) (all (subcircuits_in s.kind) q.1) (held_subcircuits test f ss p.1)
  where
    all : (cs : List Subcircuit) → list_all is_held cs ≡ true → list_all test cs ≡ true
    all [] k = refl
    all (c ∷ cs) k = let r = and_parts (is_held c) (list_all is_held cs) k in and_from (test c) (list_all test cs) (f c r.0) (all cs r.1)

pub held_spelled : (said : List models.Statement) → list_all may_stand said ≡ true → list_all is_spelled (flat_map (λ s. subcircuits_in s.kind) said) ≡ true
held_spelled = held_subcircuits is_spelled (λ c h. (and_parts (is_spelled c) (binds_once c) h).0)

pub held_once : (said : List models.Statement) → list_all may_stand said ≡ true → list_all binds_once (flat_map (λ s. subcircuits_in s.kind) said) ≡ true
held_once = held_subcircuits binds_once (λ c h. (and_parts (is_spelled c) (binds_once c) h).1)

pub held_no_nil : (said : List models.Statement) → list_all may_stand said ≡ true → list_all (λ s. kind_has_no_nil s.kind) said ≡ true
held_no_nil [] h = refl
held_no_nil (s ∷ ss) h =
    let p = and_parts (may_stand s) (list_all may_stand ss) h in
    and_from (kind_has_no_nil s.kind) (list_all (λ t. kind_has_no_nil t.kind) ss) (and_parts (kind_has_no_nil s.kind) (list_all is_held (subcircuits_in s.kind)) p.0).0 (held_no_nil ss p.1)

-- no name of a model in which no fault of a line stands is defined twice but by subcircuits
pub alone_once : (names : List (List ℕ)) (ss : List Statement) (m : Model) → first_fault_of_lines (model_checks names) [] ss ≡ None → said_of ss ≡ Some m.statements → DefinedOnce (alone m)
alone_once names ss m e f = once_law ss m (no_fault checks (more_checks names) [] ss e).0 (say_back ss m.statements f)

-- the gathered model
pub gathered_said : (above : List (List ℕ)) (all : List Statement) (g : Gathering) → HasGathered above all [] g → said_of all ≡ Some (said_in g)
gathered_said above all g h = sym h.said ∙ ap (λ (l : List models.Statement). Some l) (append-nil (said_in g))

pub gathered_faultless : (above : List (List ℕ)) (all : List Statement) (g : Gathering) → HasGathered above all [] g → first_fault_of_lines (model_checks above) [] all ≡ None
gathered_faultless above all g h = sym h.faults

pub gathered_model : (above : List (List ℕ)) (all : List Statement) (g : Gathering) (m : Model) → HasGathered above all [] g → m.name ≡ name_in all → m.statements ≡ said_in g → m.names ≡ g.signals.names → m.words ≡ g.words → distinct m.names ≡ true → SpellModel all m
gathered_model above all g m h name said names words once = record {
  name = name;
  said = subst (Say all) (sym said) (say_back all (said_in g) (gathered_said above all g h));
  words = words ∙ (let t = h.total in let r : g.words ≡ words_of all = omega (arith, t) in r);
  names = λ w. ap (λ l. has_word l w) names ∙ (h.known w ∙ sym (ap (λ l. has_word (names_of l) w) said));
  once = once;
}
