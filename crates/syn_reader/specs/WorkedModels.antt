-- Worked texts of models with their first faults of lines, and what they say.
use Rattle.std.specs.Prelude.{ℕ, ◌≡◌, true, List, [], ◌∷◌, ◌++◌, map, codes, Some, None}
use Rattle.syn_models.specs.Models.{Bind, Subcircuit, Inputs, Outputs, OneTable, OneSubcircuit}
use Rattle.syn_reader.specs.Faults.{BadByte, AfterEnd, UnknownKeyword, SecondModel, NoName, ExtraWord, StrayRow, DefinedTwice, ModelTwice, SubcktShape, PortTwice}
use Rattle.syn_reader.specs.Statements.{statements}
use Rattle.syn_reader.specs.Worked.{Answers, text}
use Rattle.syn_reader.specs.Computed.{said_of}
use Rattle.syn_reader.specs.ModelFaults.{first_line_fault}
use Rattle.syn_reader.specs.Parted.{by_model, name_in, words_of}
use Rattle.syn_reader.specs.Saying.{on_line}
use Rattle.syn_reader.specs.Subcircuits.{subcircuit_of}

-- A half adder in a model of its own.
abbrev pub adder : List (List ℕ)
adder =
    codes ".model m" ∷ codes ".inputs a b" ∷ codes ".outputs s c" ∷ codes ".subckt half x=a y=b s=s c=c" ∷ codes ".end"
    ∷ codes ".model half" ∷ codes ".inputs x y" ∷ codes ".outputs s c" ∷ codes ".names x y s" ∷ codes "10 1" ∷ codes "01 1" ∷ codes ".names x y c" ∷ codes "11 1" ∷ codes ".end" ∷ []

abbrev pub bind : List ℕ → List ℕ → Bind
bind formal actual = record { formal = formal; actual = actual }

abbrev pub half : Subcircuit
half = record { model = codes "half"; binds = bind (codes "x") (codes "a") ∷ bind (codes "y") (codes "b") ∷ bind (codes "s") (codes "s") ∷ bind (codes "c") (codes "c") ∷ [] }

-- A model in whose second line this stands.
abbrev pub second : List ℕ → List (List ℕ)
second line = codes ".model m" ∷ line ∷ []

-- Where `.model` may stand, and `.end`.
pub record WorkedParts : Type 0 where
  pub accepted : Answers adder None
  pub empty : Answers [] None
  pub unnamed : Answers (codes ".inputs a" ∷ codes ".subckt b x=a" ∷ []) None
  pub second_model : Answers (codes ".inputs a" ∷ codes ".model b" ∷ []) (Some (SecondModel 2))
  pub after_end : Answers (codes ".model a" ∷ codes ".end" ∷ codes ".inputs x" ∷ []) (Some (AfterEnd 3))
  pub after_both : Answers (codes ".model a" ∷ codes ".end" ∷ codes ".model b" ∷ codes ".end" ∷ codes "1" ∷ []) (Some (AfterEnd 5))
  pub model_after_end : Answers (codes ".model a" ∷ codes ".end" ∷ codes ".model b" ∷ []) None
  pub model_without_end : Answers (codes ".model a" ∷ codes ".model b" ∷ []) None
  pub unnamed_after_end : Answers (codes ".inputs a" ∷ codes ".end" ∷ codes ".model b" ∷ []) (Some (AfterEnd 3))
  pub model_twice : Answers (codes ".model a" ∷ codes ".end" ∷ codes ".model b" ∷ codes ".model a" ∷ []) (Some (ModelTwice 4))
  pub no_name : Answers (codes ".model a" ∷ codes ".model" ∷ []) (Some (NoName 2))
  pub extra_word : Answers (codes ".model a" ∷ codes ".model b a" ∷ []) (Some (ExtraWord 2))
  pub own_names : Answers (codes ".model a" ∷ codes ".inputs x" ∷ codes ".model b" ∷ codes ".inputs x" ∷ []) None
  pub own_twice : Answers (codes ".model a" ∷ codes ".inputs x" ∷ codes ".model b" ∷ codes ".inputs x x" ∷ []) (Some (DefinedTwice 4 (codes "x")))
  pub own_rows : Answers (codes ".model a" ∷ codes ".names y" ∷ codes ".model b" ∷ codes "1" ∷ []) (Some (StrayRow 4))
  pub earlier_line : Answers (codes ".model a" ∷ codes ".subckt" ∷ codes ".model a" ∷ []) (Some (SubcktShape 2))
  pub bad_byte : first_line_fault (text (codes ".model a" ∷ codes ".subckt" ∷ []) ++ 128 ∷ []) ≡ Some (BadByte 17)
  pub unknown : Answers (second (codes ".subckts b x=a")) (Some (UnknownKeyword 2))

-- Lines of subcircuits.
pub record WorkedSubcircuits : Type 0 where
  pub unbound : Answers (second (codes ".subckt b")) None
  pub no_model : Answers (second (codes ".subckt")) (Some (SubcktShape 2))
  pub no_equals : Answers (second (codes ".subckt b x")) (Some (SubcktShape 2))
  pub no_formal : Answers (second (codes ".subckt b =a")) (Some (SubcktShape 2))
  pub no_actual : Answers (second (codes ".subckt b x=")) (Some (SubcktShape 2))
  pub nil_actual : Answers (second (codes ".subckt b x=NIL")) (Some (SubcktShape 2))
  pub nil_formal : Answers (second (codes ".subckt b NIL=x")) None
  pub bound_twice : Answers (second (codes ".subckt b x=a y=b x=c")) (Some (PortTwice 2 (codes "x")))
  pub shape_first : Answers (second (codes ".subckt b x=a x=b y")) (Some (SubcktShape 2))
  pub no_rows : Answers (codes ".model m" ∷ codes ".names y" ∷ codes ".subckt b y=a" ∷ codes "1" ∷ []) (Some (StrayRow 4))
  pub first_equals : subcircuit_of (codes "b" ∷ codes "x=a=b" ∷ []) ≡ Some (record { model = codes "b"; binds = bind (codes "x") (codes "a=b") ∷ [] })

-- What the half adder's text says.
pub record WorkedModels : Type 0 where
  pub names : map name_in (by_model (statements (text adder))) ≡ codes "m" ∷ codes "half" ∷ []
  pub words : map words_of (by_model (statements (text adder))) ≡ 14 ∷ 22 ∷ []
  pub said : map said_of (by_model (statements (text adder)))
      ≡ Some (on_line 2 (Inputs (codes "a" ∷ codes "b" ∷ [])) (on_line 3 (Outputs (codes "s" ∷ codes "c" ∷ [])) (on_line 4 (OneSubcircuit half) [])))
      ∷ Some (on_line 7 (Inputs (codes "x" ∷ codes "y" ∷ [])) (on_line 8 (Outputs (codes "s" ∷ codes "c" ∷ []))
      (on_line 9 (OneTable (record { inputs = codes "x" ∷ codes "y" ∷ []; output = codes "s"; rows = codes "10" ∷ codes "01" ∷ []; on = true }))
      (on_line 12 (OneTable (record { inputs = codes "x" ∷ codes "y" ∷ []; output = codes "c"; rows = codes "11" ∷ []; on = true })) []))))
      ∷ []
  pub top : map name_in (by_model (statements (text (codes ".inputs a" ∷ [])))) ≡ codes "top" ∷ []
  pub one : by_model (statements []) ≡ [] ∷ []
