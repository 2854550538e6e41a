-- The netlist that models stand for: each subcircuit replaced by its model's latches, tables and subcircuits. The names of inner signals are this project's choice.
use Rattle.std.specs.Prelude.{◌≡◌, ℕ, zero, suc, ◌+◌, ◌<◌, ◌≤◌, ◌&&◌, ◌||◌, not, Bool, true, false, List, [], ◌∷◌, ◌++◌, map, Option, Some, None}
use Rattle.std.specs.List.{list_any}
use Rattle.std.specs.Int.Digits.{digits_of}
use Rattle.syn_netlist.specs.declared.LatchKind.{LatchKind}
use Rattle.syn_netlist.specs.Words.{has_word}
use Rattle.syn_netlist.specs.Lists.{Latch, Table, Netlist}
use Rattle.syn_models.specs.Models.{Bind, StatementKind, Model, Models, all_of, inputs_of, clocks_of, outputs_of, latches_in, tables_in, actual_of, is_bound}
use Rattle.syn_models.specs.Opening.{Opened, End, Plain, Instance, Opens, instances}

-- so many slashes
abbrev pub slashes : ℕ → List ℕ
slashes zero = []
slashes (suc n) = 47 ∷ slashes n

-- the byte of a digit
abbrev pub digit_byte : ℕ → ℕ
digit_byte d = 48 + d

-- The name of an inner signal: the number of its instance in decimal digits, slashes, and its name there.
abbrev pub inner_name : ℕ → ℕ → List ℕ → List ℕ
inner_name count k name = map digit_byte (digits_of 10 k) ++ (slashes count ++ name)

-- the outer name of an actual where there is one, else another name
abbrev pub outer_or : (List ℕ → List ℕ) → List ℕ → Option (List ℕ) → List ℕ
outer_or outer other None = other
outer_or outer other (Some actual) = outer actual

-- What the names of an instance are called in the main model: a bound formal as its actual is, any other name by an inner name.
abbrev pub called_inside : (List ℕ → List ℕ) → (List ℕ → List ℕ) → List Bind → List ℕ → List ℕ
called_inside outer inner binds name = outer_or outer (inner name) (actual_of binds name)

-- the main model's names keep their words
abbrev pub as_it_is : List ℕ → List ℕ
as_it_is name = name

-- a kind of latches, a latch, a table with its names called otherwise
abbrev pub called_control : (List ℕ → List ℕ) → Option (List ℕ) → Option (List ℕ)
called_control called None = None
called_control called (Some name) = Some (called name)

abbrev pub called_kind : (List ℕ → List ℕ) → Option (LatchKind × Option (List ℕ)) → Option (LatchKind × Option (List ℕ))
called_kind called None = None
called_kind called (Some (kind, control)) = Some (kind, called_control called control)

abbrev pub called_latch : (List ℕ → List ℕ) → Latch → Latch
called_latch called latch = record { feed = called latch.feed; output = called latch.output; kind = called_kind called latch.kind; init = latch.init }

abbrev pub called_table : (List ℕ → List ℕ) → Table → Table
called_table called table = record { inputs = map called table.inputs; output = called table.output; rows = table.rows; on = table.on }

-- What opened statements give, in order, each by what the names of its instance are called. `inner k` are the inner names of instance k; `next` is the number of the first instance.
abbrev pub flat : {A : Type 0} → ((List ℕ → List ℕ) → StatementKind → List A) → (ℕ → List ℕ → List ℕ) → ℕ → (List ℕ → List ℕ) → Opened → List A
flat give inner next called End = []
flat give inner next called (Plain kind rest) = give called kind ++ flat give inner next called rest
flat give inner next called (Instance c m inside rest) =
    flat give inner (suc next) (called_inside called (inner next) c.binds) inside ++ flat give inner (suc (next + instances inside)) called rest

abbrev pub latches_called : (List ℕ → List ℕ) → StatementKind → List Latch
latches_called called kind = map (called_latch called) (latches_in kind)

abbrev pub tables_called : (List ℕ → List ℕ) → StatementKind → List Table
tables_called called kind = map (called_table called) (tables_in kind)

-- The netlist of the main model, opened, with so many slashes in inner names: the main model's name and lists, and the latches and tables of all its instances in order.
abbrev pub flattened : Model → Opened → ℕ → Netlist
flattened main tree count = record {
  frame = record {
    model = main.name;
    inputs = inputs_of main;
    clocks = clocks_of main;
    outputs = outputs_of main;
    latches = flat latches_called (inner_name count) 1 as_it_is tree;
  };
  tables = flat tables_called (inner_name count) 1 as_it_is tree;
}

-- whether the inner name of a name of the instance is among the names, and the formal isn't bound
abbrev pub taken : List (List ℕ) → (List ℕ → List ℕ) → List Bind → List ℕ → Bool
taken names inner binds name = not (is_bound binds name) && has_word names (inner name)

-- whether some inner name that is used is among the names
abbrev pub clashes : List (List ℕ) → (ℕ → List ℕ → List ℕ) → ℕ → Opened → Bool
clashes names inner next End = false
clashes names inner next (Plain kind rest) = clashes names inner next rest
clashes names inner next (Instance c m inside rest) =
    list_any (taken names (inner next) c.binds) m.names || (clashes names inner (suc next) inside || clashes names inner (suc (next + instances inside)) rest)

-- The number of slashes: the fewest, at least one, for which no inner name is a name of the main model.
pub record AreSlashes (main : Model) (tree : Opened) (count : ℕ) : Type 0 where
  pub some : 1 ≤ count
  pub apart : clashes main.names (inner_name count) 1 tree ≡ false
  pub fewest : (fewer : ℕ) → 1 ≤ fewer → fewer < count → clashes main.names (inner_name fewer) 1 tree ≡ true

-- The models are flattened to the netlist.
pub record IsFlattening (models : Models) (n : Netlist) : Type 0 where
  pub tree : Opened
  pub opens : Opens (all_of models) models.main.statements tree
  pub count : ℕ
  pub slashes : AreSlashes models.main tree count
  pub is : n ≡ flattened models.main tree count
