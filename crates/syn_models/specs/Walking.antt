-- The instances of models in a list, and all statements but subcircuits in a list, in the order in which a walk with a stack of its own meets them.
use Rattle.std.specs.Prelude.{◌≡◌, ℕ, suc, ◌+◌, ◌<◌, ◌++◌, List, [], ◌∷◌, length, map, drop, slice_index_or}
use Rattle.std.specs.List.{AllByRecursion, AllZip}
use Rattle.syn_models.specs.declared.hierarchy.Model as code
use Rattle.syn_models.specs.declared.met.Place.{Place}
use Rattle.syn_models.specs.declared.met.Instance as met
use Rattle.syn_models.specs.declared.met.Part.{Part}
use Rattle.syn_models.specs.declared.met.Level.{Level}
use Rattle.syn_models.specs.Kept.{bind_in, kind_in, statement_in}
use Rattle.syn_models.specs.Models.{Bind, StatementKind, Statement, Model}
use Rattle.syn_models.specs.Opening.{Opened, End, Plain, Instance, Opens, instances}
use Rattle.syn_models.specs.Views.{model_in}

-- An instance: the number of the one that it stands in, 0 for the main model; what its formals are bound to; its model.
pub record Entry : Type 0 where
  pub outer : ℕ
  pub binds : List Bind
  pub inside : Model

-- The instances in the order of their numbers: `own` is the number of the one that the statements belong to, `next` that of the first instance.
abbrev pub entries_of : ℕ → ℕ → Opened → List Entry
entries_of own next End = []
entries_of own next (Plain kind rest) = entries_of own next rest
entries_of own next (Instance c m inside rest) =
    record { outer = own; binds = c.binds; inside = m } ∷ (entries_of next (suc next) inside ++ entries_of own (suc (next + instances inside)) rest)

-- All statements but subcircuits, in order, each with the number of its instance.
abbrev pub parts_of : ℕ → ℕ → Opened → List (ℕ × StatementKind)
parts_of own next End = []
parts_of own next (Plain kind rest) = (own, kind) ∷ parts_of own next rest
parts_of own next (Instance c m inside rest) = parts_of next (suc next) inside ++ parts_of own (suc (next + instances inside)) rest

-- what an instance and a statement by numbers stand for
abbrev pub entry_in : met.Instance → Entry
entry_in i = record { outer = i.outer.number; binds = map (bind_in i.outer.home.now.names) i.binds.now; inside = model_in i.inside.now }

abbrev pub part_in : Part → ℕ × StatementKind
part_in p = (p.place.number, kind_in p.place.home.now.names p.kind.now)

-- the names of the main model and of each instance, in the order of their numbers
abbrev pub inner_names : met.Instance → List (List ℕ)
inner_names i = i.inside.now.names

abbrev pub homes_of : code.Model → List met.Instance → List (List (List ℕ))
homes_of main list = main.names ∷ map inner_names list

-- The names at the place's number are those of its model.
pub record Homed (homes : List (List (List ℕ))) (place : Place) : Type 0 where
  pub below : place.number < length homes
  pub names : slice_index_or homes place.number [] ≡ place.home.now.names

-- Each instance stands in the main model or in an instance before it.
abbrev pub Wired : List (List (List ℕ)) → List met.Instance → Type 0
Wired homes [] = Unit {0}
Wired homes (i ∷ is) = Homed homes i.outer × Wired (homes ++ inner_names i ∷ []) is

-- the statements that are left of a level
abbrev pub statements_left : Level → List Statement
statements_left l = map (statement_in l.place.home.now.names) (drop l.at l.place.home.now.statements)

-- what a level still gives: the number of its instance, and its statements, opened
pub record Pending : Type 0 where
  pub own : ℕ
  pub rest : Opened

-- how many instances levels still give, the lowest level first
abbrev pub instances_left : List Pending → ℕ
instances_left [] = 0
instances_left (p ∷ ps) = instances_left ps + instances p.rest

-- what levels still give, the lowest level first: the highest gives all of its own first
abbrev pub left_of : {A : Type 0} → (ℕ → ℕ → Opened → List A) → ℕ → List Pending → List A
left_of gives next [] = []
left_of gives next (p ∷ ps) = left_of gives next ps ++ gives p.own (next + instances_left ps) p.rest

abbrev pub Stands : List Model → Level → Pending → Type 0
Stands models l p = (l.place.number ≡ p.own) × Opens models (statements_left l) p.rest

abbrev pub HomedPart : List (List (List ℕ)) → Part → Type 0
HomedPart homes p = Homed homes p.place

abbrev pub HomedLevel : List (List (List ℕ)) → Level → Type 0
HomedLevel homes l = Homed homes l.place

-- The state of the walk: the instances and statements that it has met, and then what its levels give, are the whole.
pub record IsWalk (models : List Model) (main : code.Model) (list : List met.Instance) (parts : List Part) (levels : List Level) : Type 0 where
  pub tree : Opened
  pub opens : Opens models (model_in main).statements tree
  pub pending : List Pending
  pub stands : AllZip (Stands models) levels pending
  pub entries : entries_of 0 1 tree ≡ map entry_in list ++ left_of entries_of (suc (length list)) pending
  pub met : parts_of 0 1 tree ≡ map part_in parts ++ left_of parts_of (suc (length list)) pending
  pub wired : Wired (main.names ∷ []) list
  pub homed : AllByRecursion (HomedPart (homes_of main list)) parts
  pub open_homed : AllByRecursion (HomedLevel (homes_of main list)) levels

-- The walk has met all instances and statements.
pub record IsWalked (models : List Model) (main : code.Model) (list : List met.Instance) (parts : List Part) : Type 0 where
  pub tree : Opened
  pub opens : Opens models (model_in main).statements tree
  pub entries : entries_of 0 1 tree ≡ map entry_in list
  pub met : parts_of 0 1 tree ≡ map part_in parts
  pub wired : Wired (main.names ∷ []) list
  pub homed : AllByRecursion (HomedPart (homes_of main list)) parts
