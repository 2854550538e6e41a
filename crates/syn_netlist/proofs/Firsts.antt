-- The first number of a list that passes a test.
use Rattle.std.proofs.Common.{◌≡◌, ℕ, ◌+◌, ◌<◌, Bool, true, List, [], ◌∷◌, ◌++◌, find, flat_map, map, length, drop, get_or, Option, Some, None, ◌∙◌, sym, ap, ◌&&◌, nat_lt, refl}
use Rattle.std.specs.Option.{option_or}
use Rattle.std.proofs.lemmas.Bool.{and_parts, ltb-true}
use Rattle.std.proofs.lemmas.List.{drop_more}
use Rattle.std.proofs.lemmas.List.Folds.{find-append}
use Rattle.syn_netlist.specs.declared.tables.Table.{Table}
use Rattle.syn_netlist.specs.Numbers.{all_below}
use Rattle.syn_netlist.specs.Tables.{tables_below}
use Rattle.syn_netlist.specs.Walk.{table_inputs, table_output}
use Rattle.syn_netlist.proofs.Places.{below_from, all_below-append}

pub find_front : (p : ℕ → Bool) (xs ys : List ℕ) (n : ℕ) → Some n ≡ find p xs → Some n ≡ find p (xs ++ ys)
find_front p xs ys n e = sym (find-append p xs ys ∙ ap (λ (o : Option ℕ). option_or o (find p ys)) (sym e))

pub find_back : (p : ℕ → Bool) (xs ys : List ℕ) → None ≡ find p xs → find p (xs ++ ys) ≡ find p ys
find_back p xs ys e = find-append p xs ys ∙ ap (λ (o : Option ℕ). option_or o (find p ys)) (sym e)

-- the inputs of tables from a place on begin with those of the table there
pub inputs_drop : (tables : List Table) (i : ℕ) (t : Table) → i < length tables → t ≡ get_or tables i t → flat_map table_inputs (drop i tables) ≡ t.inputs ++ flat_map table_inputs (drop (i + 1) tables)
inputs_drop tables i t lt e = ap (λ (l : List Table). flat_map table_inputs l) (drop_more tables i t lt) ∙ ap (λ (x : Table). x.inputs ++ flat_map table_inputs (drop (i + 1) tables)) (sym e)

pub table_outputs_below : (n : ℕ) (tables : List Table) → tables_below n tables ≡ true → all_below n (map table_output tables) ≡ true
table_outputs_below n [] h = refl
table_outputs_below n (t ∷ ts) h =
    let parts = and_parts (nat_lt t.output n && all_below n t.inputs) (tables_below n ts) h in
    below_from n t.output (map table_output ts) (ltb-true t.output n (and_parts (nat_lt t.output n) (all_below n t.inputs) parts.0).0) (table_outputs_below n ts parts.1)

pub table_inputs_below : (n : ℕ) (tables : List Table) → tables_below n tables ≡ true → all_below n (flat_map table_inputs tables) ≡ true
table_inputs_below n [] h = refl
table_inputs_below n (t ∷ ts) h =
    let parts = and_parts (nat_lt t.output n && all_below n t.inputs) (tables_below n ts) h in
    all_below-append n t.inputs (flat_map table_inputs ts) (and_parts (nat_lt t.output n) (all_below n t.inputs) parts.0).1 (table_inputs_below n ts parts.1)
