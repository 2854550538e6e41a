-- The tables of gates and of observed signals, one after the other.
use Rattle.std.proofs.Common.{◌≡◌, ℕ, zero, suc, ◌+◌, ◌<◌, nat_lt, if◌then◌else◌, Bool, true, false, List, [], ◌∷◌, ◌++◌, length, get_or, drop, refl, sym, ap, ap₂, ◌∙◌, append_assoc, arith}
use Rattle.std.specs.List.{list_all}
use Rattle.std.proofs.lemmas.Bool.{and_parts, ltb-true}
use Rattle.std.proofs.lemmas.List.{drop_more}
use Rattle.syn_rows.specs.declared.Lit.{Lit}
use Rattle.syn_rows.specs.declared.Row.{Row}
use Rattle.syn_rows.specs.declared.Row.TheVariants.{Free}
use Rattle.syn_netlist.specs.Words.{has_word}
use Rattle.syn_netlist.specs.Lists.{Table}
use Rattle.syn_netlist.specs.Numbers.{word_at, words_at, all_below}
use Rattle.syn_network.specs.Spelling.{gate_table, gate_tables, output_table, ends_from}

-- what was pushed goes from the tables that are left to those that are there
pub left_next : (before mine rest all after : List Table) → after ≡ before ++ mine → before ++ (mine ++ rest) ≡ all → after ++ rest ≡ all
left_next before mine rest all after e h = ap (λ (ts : List Table). ts ++ rest) e ∙ append_assoc before mine rest ∙ h

pub gates_next : (names nodes : List (List ℕ)) (rows : List Row) (outputs : List ℕ) (i : ℕ) → i < length rows → i < length outputs
    → gate_tables nodes (drop i rows) (words_at names (drop i outputs)) ≡ gate_table nodes (get_or rows i Free) (word_at names (get_or outputs i 0)) ++ gate_tables nodes (drop (i + 1) rows) (words_at names (drop (i + 1) outputs))
gates_next names nodes rows outputs i in_rows in_outputs = ap₂ (λ (rs : List Row) (os : List ℕ). gate_tables nodes rs (words_at names os)) (drop_more rows i Free in_rows) (drop_more outputs i 0 in_outputs)

abbrev no_lit : Lit
no_lit = record { 0 = 0 }

pub ends_next : (known names nodes : List (List ℕ)) (signals : List ℕ) (lits : List Lit) (i : ℕ) (word : List ℕ) → i < length signals → i < length lits → word ≡ word_at names (get_or signals i 0)
    → ends_from known nodes (words_at names (drop i signals)) (drop i lits)
    ≡ (if has_word known word then [] else output_table nodes (word_at names (get_or signals i 0)) (get_or lits i (record { 0 = 0 })) ∷ []) ++ ends_from known nodes (words_at names (drop (i + 1) signals)) (drop (i + 1) lits)
ends_next known names nodes signals lits i word in_signals in_lits e =
    let here : List ℕ = word_at names (get_or signals i 0) in
    let mine : Table = output_table nodes here (get_or lits i no_lit) in
    let rest : List Table = ends_from known nodes (words_at names (drop (i + 1) signals)) (drop (i + 1) lits) in
    ap₂ (λ (ss : List ℕ) (ls : List Lit). ends_from known nodes (words_at names ss) ls) (drop_more signals i 0 in_signals) (drop_more lits i no_lit in_lits)
    ∙ chosen (has_word known here) mine rest
    ∙ ap (λ (w : List ℕ). (if has_word known w then [] else mine ∷ []) ++ rest) (sym e)
  where
    chosen : (b : Bool) (t : Table) (ts : List Table) → (if b then ts else t ∷ ts) ≡ (if b then [] else t ∷ []) ++ ts
    chosen true t ts = refl
    chosen false t ts = refl

pub all_next : {X : Type 0} (p : X → Bool) (xs : List X) (i : ℕ) (d : X) → i < length xs → list_all p (drop i xs) ≡ true → list_all p (drop (i + 1) xs) ≡ true
all_next p xs i d lt h = (and_parts (p (get_or xs i d)) (list_all p (drop (i + 1) xs)) (ap (list_all p) (sym (drop_more xs i d lt)) ∙ h)).1

pub item_below : (count : ℕ) (numbers : List ℕ) (i : ℕ) → i < length numbers → all_below count numbers ≡ true → get_or numbers i 0 < count
item_below count [] i lt h = absurd (omega (arith, lt))
item_below count (n ∷ ns) zero lt h = ltb-true n count (and_parts (nat_lt n count) (all_below count ns) h).0
item_below count (n ∷ ns) (suc i) lt h = item_below count ns i (omega (arith, lt)) (and_parts (nat_lt n count) (all_below count ns) h).1
