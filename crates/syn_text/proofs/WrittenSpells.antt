-- The statements of a written netlist say its lists.
use Rattle.std.proofs.Common.{◌≡◌, ◌≢◌, ℕ, zero, suc, ◌+◌, ◌<◌, ◌≤◌, not, Bool, true, List, [], ◌∷◌, ◌++◌, map, flat_map, bytes_eq, refl, sym, ap, ap₂, ◌∙◌, subst, Option, Some, None, inl, arith, append-nil}
use Rattle.std.specs.List.{list_all}
use Rattle.std.proofs.lemmas.Bool.{both_ways, and_parts, not-true}
use Rattle.syn_netlist.specs.Lists.{Latch, Table, Netlist, control_of}
use Rattle.syn_netlist.specs.declared.LatchKind.{LatchKind}
use Rattle.syn_netlist.specs.declared.LatchKind.TheVariants as types
use Rattle.syn_netlist.specs.Kept.{nil_word, polarity_fits}
use Rattle.syn_text.specs.Printed.{kind_words, digit}
use Rattle.syn_reader.specs.Shapes.{IsLatch, IsTable, type_and_control, control_name, nil_control, row_words}
use Rattle.syn_reader.specs.Saying.{Say, on_line}
use Rattle.syn_reader.specs.Statements.{Statement, rows_below}
use Rattle.syn_reader.proofs.Built.{model_of}
use Rattle.syn_models.specs.Models as models
use Rattle.syn_models.specs.Models.{Clock, Inputs, OneLatch, OneTable, Outputs, alone, clocks_in, inputs_in, latches_in, outputs_in, tables_in}
use Rattle.syn_netlist.proofs.Sets.{word_same}
use Rattle.syn_text.specs.WellFormed.{latch_fits, table_fits, IsWellFormed}
use Rattle.syn_text.specs.Written.{latch_words, row_said, from_tables, from_latches, from_clocks, numbered, written}
use Rattle.syn_text.proofs.WrittenFits.{FitsLatch, FitsTable, latch_parts, table_parts}

-- a table is spelled by its line and its rows
rows_are : (inputs : List (List ℕ)) (on : Bool) (rows : List (List ℕ)) (ts : List Table) (k : ℕ) → rows_below (numbered k (map (row_said inputs on) rows ++ from_tables ts)) ≡ map (row_words inputs on) rows
rows_are inputs on [] [] k = refl
rows_are inputs on [] (t ∷ ts) k = refl
rows_are inputs on (r ∷ rs) ts k = ap (λ (l : List (List (List ℕ))). row_words inputs on r ∷ l) (rows_are inputs on rs ts (suc k))

empty_is_on : (rows : List (List ℕ)) (on : Bool) → polarity_fits rows on ≡ true → rows ≡ [] → on ≡ true
empty_is_on [] on h e = h
empty_is_on (r ∷ rs) on h e = absurd (cc)

spells_table : (t : Table) (ts : List Table) (k : ℕ) → FitsTable t → IsTable (t.inputs ++ t.output ∷ []) (rows_below (numbered k (map (row_said t.inputs t.on) t.rows ++ from_tables ts))) t
spells_table t ts k f = record {
  names = refl;
  rows = rows_are t.inputs t.on t.rows ts k;
  fits = f.rows;
  empty = empty_is_on t.rows t.on f.polarity;
}

-- a latch is spelled by its line
init_digit : (i : ℕ) → i < 4 → (digit i ≡ (i + 48) ∷ []) × (i ≤ 3)
init_digit zero h = (refl, omega arith)
init_digit (suc zero) h = (refl, omega arith)
init_digit (suc (suc zero)) h = (refl, omega arith)
init_digit (suc (suc (suc zero))) h = (refl, omega arith)
init_digit (suc (suc (suc (suc n)))) h = absurd (omega arith)

kind_spelled : (kind : Option (LatchKind × Option (List ℕ))) → kind_words kind ≡ type_and_control kind
kind_spelled None = refl
kind_spelled (Some (types.Fe, None)) = refl
kind_spelled (Some (types.Re, None)) = refl
kind_spelled (Some (types.Ah, None)) = refl
kind_spelled (Some (types.Al, None)) = refl
kind_spelled (Some (types.As, None)) = refl
kind_spelled (Some (types.Fe, Some name)) = refl
kind_spelled (Some (types.Re, Some name)) = refl
kind_spelled (Some (types.Ah, Some name)) = refl
kind_spelled (Some (types.Al, Some name)) = refl
kind_spelled (Some (types.As, Some name)) = refl

is_signal : (kind : Option (LatchKind × Option (List ℕ))) → list_all (λ w. not (bytes_eq nil_word w)) (control_of kind) ≡ true → control_name kind ≢ nil_control
is_signal None h e = cc
is_signal (Some (k, None)) h e = cc
is_signal (Some (k, Some name)) h e =
    both_ways (bytes_eq nil_word name) (not-true (bytes_eq nil_word name) (and_parts (not (bytes_eq nil_word name)) true h).0)
    (subst (λ w. bytes_eq nil_word w ≡ true) (sym e) (word_same nil_word))

spells_latch : (l : Latch) → FitsLatch l → IsLatch (latch_words l) l
spells_latch l f =
    let i = init_digit l.init f.init in
    record {
      spelled = inl (ap₂ (λ (x : List (List ℕ)) (d : List ℕ). l.feed ∷ l.output ∷ (x ++ d ∷ [])) (kind_spelled l.kind) i.0);
      init = i.1;
      signal = is_signal l.kind f.signal;
    }

-- The statements say these lists.
pub record SayLists (ss : List Statement) (is cs os : List (List ℕ)) (ls : List Latch) (ts : List Table) : Type 0 where
  pub said : List models.Statement
  pub say : Say ss said
  pub inputs : flat_map (λ s. inputs_in s.kind) said ≡ is
  pub clocks : flat_map (λ s. clocks_in s.kind) said ≡ cs
  pub outputs : flat_map (λ s. outputs_in s.kind) said ≡ os
  pub latches : flat_map (λ s. latches_in s.kind) said ≡ ls
  pub tables : flat_map (λ s. tables_in s.kind) said ≡ ts

say_rows : (inputs : List (List ℕ)) (on : Bool) (rows : List (List ℕ)) (ts : List Table) (k : ℕ) → ((j : ℕ) → SayLists (numbered j (from_tables ts)) [] [] [] [] ts) → SayLists (numbered k (map (row_said inputs on) rows ++ from_tables ts)) [] [] [] [] ts
say_rows inputs on [] ts k h = h k
say_rows inputs on (r ∷ rs) ts k h =
    let s = say_rows inputs on rs ts (suc k) h in
    record { said = s.said; say = (s.said, s.say, refl); inputs = s.inputs; clocks = s.clocks; outputs = s.outputs; latches = s.latches; tables = s.tables }

say_tables : (ts : List Table) (k : ℕ) → list_all table_fits ts ≡ true → SayLists (numbered k (from_tables ts)) [] [] [] [] ts
say_tables [] k h = record { said = []; say = ([], refl, refl); inputs = refl; clocks = refl; outputs = refl; latches = refl; tables = refl }
say_tables (t ∷ ts) k h =
    let p = and_parts (table_fits t) (list_all table_fits ts) h in
    let s = say_rows t.inputs t.on t.rows ts (suc k) (λ j. say_tables ts j p.1) in
    record {
      said = on_line k (OneTable t) s.said;
      say = (s.said, s.say, (t, spells_table t ts (suc k) (table_parts t p.0), refl));
      inputs = s.inputs;
      clocks = s.clocks;
      outputs = s.outputs;
      latches = s.latches;
      tables = ap (λ (l : List Table). t ∷ l) s.tables;
    }

say_latches : (ls : List Latch) (ts : List Table) (k : ℕ) → list_all latch_fits ls ≡ true → list_all table_fits ts ≡ true → SayLists (numbered k (from_latches ls ts)) [] [] [] ls ts
say_latches [] ts k h f = say_tables ts k f
say_latches (l ∷ ls) ts k h f =
    let p = and_parts (latch_fits l) (list_all latch_fits ls) h in
    let s = say_latches ls ts (suc k) p.1 f in
    record {
      said = on_line k (OneLatch l) s.said;
      say = (s.said, s.say, (l, spells_latch l (latch_parts l p.0), refl));
      inputs = s.inputs;
      clocks = s.clocks;
      outputs = s.outputs;
      latches = ap (λ (x : List Latch). l ∷ x) s.latches;
      tables = s.tables;
    }

say_clocks : (cs : List (List ℕ)) (ls : List Latch) (ts : List Table) (k : ℕ) → list_all latch_fits ls ≡ true → list_all table_fits ts ≡ true → SayLists (numbered k (from_clocks cs ls ts)) [] cs [] ls ts
say_clocks [] ls ts k h f = say_latches ls ts k h f
say_clocks (c ∷ cs) ls ts k h f =
    let s = say_latches ls ts (suc k) h f in
    record {
      said = on_line k (Clock (c ∷ cs)) s.said;
      say = (s.said, s.say, refl);
      inputs = s.inputs;
      clocks = ap (λ (l : List (List ℕ)). (c ∷ cs) ++ l) s.clocks ∙ append-nil (c ∷ cs);
      outputs = s.outputs;
      latches = s.latches;
      tables = s.tables;
    }

-- the statements of a netlist that can be written say its lists
pub say_written : (n : Netlist) → IsWellFormed n → SayLists (written n) n.frame.inputs n.frame.clocks n.frame.outputs n.frame.latches n.tables
say_written n w =
    let f = n.frame in
    let s = say_clocks f.clocks f.latches n.tables 4 w.latches w.tables in
    let outputs : List models.Statement = on_line 3 (Outputs f.outputs) s.said in
    let inputs : List models.Statement = on_line 2 (Inputs f.inputs) outputs in
    record {
      said = inputs;
      say = (inputs, (outputs, (s.said, s.say, refl), refl), refl);
      inputs = ap (λ (l : List (List ℕ)). f.inputs ++ l) s.inputs ∙ append-nil f.inputs;
      clocks = s.clocks;
      outputs = ap (λ (l : List (List ℕ)). f.outputs ++ l) s.outputs ∙ append-nil f.outputs;
      latches = s.latches;
      tables = s.tables;
    }

-- and so their model alone is the netlist
pub is_written : (n : Netlist) (w : IsWellFormed n) → alone (model_of (written n) (say_written n w).said) ≡ n
is_written n w =
    let s = say_written n w in
    let m = model_of (written n) s.said in
    ap₂ (λ (i c : List (List ℕ)). build m.name i c (alone m).frame.outputs (alone m).frame.latches (alone m).tables) s.inputs s.clocks
    ∙ ap₂ (λ (o : List (List ℕ)) (l : List Latch). build m.name n.frame.inputs n.frame.clocks o l (alone m).tables) s.outputs s.latches
    ∙ ap (λ (t : List Table). build m.name n.frame.inputs n.frame.clocks n.frame.outputs n.frame.latches t) s.tables
  where
    build : List ℕ → List (List ℕ) → List (List ℕ) → List (List ℕ) → List Latch → List Table → Netlist
    build w i c o l t = record { frame = record { model = w; inputs = i; clocks = c; outputs = o; latches = l }; tables = t }
