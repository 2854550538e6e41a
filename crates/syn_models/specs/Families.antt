-- What models mean: a valuation for the main model, and one for each instance.
use Rattle.std.specs.Prelude.{◌≡◌, ℕ, suc, ◌+◌, ◌++◌, Bool, true, All, List, [], map, Some}
use Rattle.syn_netlist.specs.Words.{has_word}
use Rattle.syn_netlist.specs.Values.{table_value}
use Rattle.syn_models.specs.Models.{Bind, StatementKind, tables_in, actual_of}
use Rattle.syn_models.specs.Opening.{Opened, End, Plain, Instance, instances}
use Rattle.syn_models.specs.Flattening.{called_inside}

-- The valuation gives the outputs of the statement's tables what the tables give.
abbrev pub Holds : (List ℕ → Bool) → StatementKind → Type 0
Holds v kind = All (λ table. v table.output ≡ table_value table v) (tables_in kind)

-- Each bound formal has inside the value that its actual has outside.
abbrev pub Bound : List Bind → (List ℕ → Bool) → (List ℕ → Bool) → Type 0
Bound binds outside inside = (formal actual : List ℕ) → actual_of binds formal ≡ Some actual → inside formal ≡ outside actual

-- A family of valuations of opened statements: `own` is that of the statements themselves, `family k` that of instance k; `next` is the number of the first instance. Each is consistent with the tables of its own model's statements, and in each bound formals have the values of their actuals outside.
abbrev pub IsFamily : (ℕ → List ℕ → Bool) → ℕ → (List ℕ → Bool) → Opened → Type 0
IsFamily family next own End = Unit {0}
IsFamily family next own (Plain kind rest) = Holds own kind × IsFamily family next own rest
IsFamily family next own (Instance c m inside rest) =
    Bound c.binds own (family next) × IsFamily family (suc next) (family next) inside × IsFamily family (suc (next + instances inside)) own rest

-- Name by name: each name of each instance has under v, by what it is called there, the value that the instance's valuation gives it.
abbrev pub Agrees : (ℕ → List ℕ → List ℕ) → ℕ → (List ℕ → List ℕ) → (List ℕ → Bool) → (ℕ → List ℕ → Bool) → Opened → Type 0
Agrees inner next called v family End = Unit {0}
Agrees inner next called v family (Plain kind rest) = Agrees inner next called v family rest
Agrees inner next called v family (Instance c m inside rest) =
    ((name : List ℕ) → has_word m.names name ≡ true → family next name ≡ v (called_inside called (inner next) c.binds name))
    × Agrees inner (suc next) (called_inside called (inner next) c.binds) v family inside
    × Agrees inner (suc (next + instances inside)) called v family rest

-- What all names of all instances are called.
abbrev pub names_inside : (ℕ → List ℕ → List ℕ) → ℕ → (List ℕ → List ℕ) → Opened → List (List ℕ)
names_inside inner next called End = []
names_inside inner next called (Plain kind rest) = names_inside inner next called rest
names_inside inner next called (Instance c m inside rest) =
    map (called_inside called (inner next) c.binds) m.names
    ++ (names_inside inner (suc next) (called_inside called (inner next) c.binds) inside ++ names_inside inner (suc (next + instances inside)) called rest)
