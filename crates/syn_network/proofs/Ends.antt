-- The tables of a graph's observed signals: their outputs, what they read, and the literals that they give.
use Rattle.std.proofs.Common.{◌≡◌, ℕ, zero, suc, ◌-◌, ◌/◌, ◌<◌, ◌≤◌, ◌&&◌, if◌then◌else◌, nat_eq, not, Bool, true, false, List, [], ◌∷◌, ◌++◌, map, length, filter, find, Some, bytes_eq, refl, sym, ap, ap₂, ◌∙◌, subst, inl, inr, arith}
use Rattle.std.specs.List.{list_all, AllByRecursion}
use Rattle.std.proofs.lemmas.Bool.{and_parts, and_from, not_from_false, not_from_true, cases_Bool, both_ways, cond-true, cond-false, cond_both, false_from_ne_true, eqb-true, eqb-false}
use Rattle.syn_rows.specs.declared.Lit.{Lit}
use Rattle.syn_rows.specs.Rows.{node_of}
use Rattle.syn_netlist.specs.Words.{has_word, distinct, without, firsts}
use Rattle.syn_netlist.specs.Costs.{is_sign}
use Rattle.syn_netlist.specs.Lists.{Table, output_of}
use Rattle.syn_netlist.specs.Numbers.{word_at}
use Rattle.syn_netlist.specs.Order.{reads_known}
use Rattle.syn_netlist.proofs.Sets.{same_word, word_same, has_head, has_left, distinct_head}
use Rattle.syn_network.specs.GraphShape.{has_two, lit_shown, is_end_table}
use Rattle.syn_hashed.specs.Hashed.{lit_at}
use Rattle.syn_network.specs.Spelling.{output_table, ends_from, lit_name, sign_of}
use Rattle.syn_network.proofs.Inner.{filtered, distinct-filter}
use Rattle.syn_network.proofs.Gates.{lit, has_at, shown_back, is_sign_of}

pub firsts_distinct : (ws : List (List ℕ)) → distinct (firsts ws) ≡ true
firsts_distinct [] = refl
firsts_distinct (w ∷ ws) = and_from (not (has_word (without (w ∷ []) (firsts ws)) w)) (distinct (without (w ∷ []) (firsts ws)))
    (not_from_false (has_word (without (w ∷ []) (firsts ws)) w) (false_from_ne_true (has_word (without (w ∷ []) (firsts ws)) w) (λ h.
    both_ways (not (has_word (w ∷ []) w)) (not_from_true (has_word (w ∷ []) w) (has_head w [])) (filtered (λ x. not (has_word (w ∷ []) x)) (firsts ws) w h).0)))
    (distinct-filter (λ x. not (has_word (w ∷ []) x)) (firsts ws) (firsts_distinct ws))

-- one table

-- a fact of an observed signal's table, from its three cases
each_end : (names : List (List ℕ)) (word : List ℕ) (l : Lit) (P : Table → Type 0)
    → (l.0 ≡ 0 → P (record { inputs = []; output = word; rows = []; on = true }))
    → (l.0 ≡ 1 → P (record { inputs = []; output = word; rows = [] ∷ []; on = true }))
    → (1 ≤ node_of l → P (record { inputs = lit_name names l ∷ []; output = word; rows = (sign_of l ∷ []) ∷ []; on = true }))
    → P (output_table names word l)
each_end names word l P none one wire = cond_both (nat_eq (node_of l) 0) (record { inputs = []; output = word; rows = if nat_eq l.0 0 then [] else ([] ∷ []); on = true })
    (record { inputs = lit_name names l ∷ []; output = word; rows = (sign_of l ∷ []) ∷ []; on = true }) P
    (λ e. let half = eqb-true (node_of l) 0 e in
    cond_both {A = List (List ℕ)} (nat_eq l.0 0) [] ([] ∷ []) (λ rows. P (record { inputs = []; output = word; rows = rows; on = true }))
    (λ z. none (eqb-true l.0 0 z))
    (λ z. let odd = eqb-false l.0 0 z in
    one (let s : (l.0 ≡ 1) = one_left l.0 half odd in s)))
    (λ e. let half = eqb-false (node_of l) 0 e in wire (pos_left (node_of l) half))
  where
    pos_left : (n : ℕ) → (n ≡ 0 → ⊥) → 1 ≤ n
    pos_left zero h = absurd (h refl)
    pos_left (suc n) h = omega arith

    one_left : (n : ℕ) → n / 2 ≡ 0 → (n ≡ 0 → ⊥) → n ≡ 1
    one_left zero e h = absurd (h refl)
    one_left (suc n) e h = omega (arith, e)

end_output : (names : List (List ℕ)) (word : List ℕ) (l : Lit) → (output_table names word l).output ≡ word
end_output names word l = each_end names word l (λ t. t.output ≡ word) (λ _. refl) (λ _. refl) (λ _. refl)

end_has_not_two : (names : List (List ℕ)) (word : List ℕ) (l : Lit) → has_two (output_table names word l) ≡ false
end_has_not_two names word l = each_end names word l (λ t. has_two t ≡ false) (λ _. refl) (λ _. refl) (λ _. refl)

name_known : (names : List (List ℕ)) (l : Lit) → node_of l ≤ length names → 1 ≤ node_of l → has_word names (lit_name names l) ≡ true
name_known names l high low = has_at names (node_of l - 1) (omega (arith, high, low))

end_is_end : (names : List (List ℕ)) (word : List ℕ) (l : Lit) → node_of l ≤ length names → is_end_table names (output_table names word l) ≡ true
end_is_end names word l high = each_end names word l (λ t. is_end_table names t ≡ true) (λ _. refl) (λ _. refl)
    (λ low. and_from (has_word names (lit_name names l)) (is_sign (sign_of l) && true) (name_known names l high low) (and_from (is_sign (sign_of l)) true (is_sign_of l) refl))

end_reads : (names known : List (List ℕ)) (word : List ℕ) (l : Lit) → node_of l ≤ length names → ((w : List ℕ) → has_word names w ≡ true → has_word known w ≡ true) → list_all (has_word known) (output_table names word l).inputs ≡ true
end_reads names known word l high all = each_end names word l (λ t. list_all (has_word known) t.inputs ≡ true) (λ _. refl) (λ _. refl)
    (λ low. and_from (has_word known (lit_name names l)) true (all (lit_name names l) (name_known names l high low)) refl)

-- a table gives its literal back
pub end_back : (names : List (List ℕ)) → distinct names ≡ true → (word : List ℕ) (l : Lit) → node_of l ≤ length names → lit_shown names (output_table names word l).inputs (output_table names word l).rows ≡ l
end_back names d word l high = each_end names word l (λ t. lit_shown names t.inputs t.rows ≡ l) (λ e. ap lit (sym e)) (λ e. ap lit (sym e)) (λ low. shown_back names d l low high)

-- the list of tables

abbrev pub AllWithin : ℕ → List Lit → Type 0
AllWithin count lits = AllByRecursion (λ l. node_of l ≤ count) lits

pub no_end_has_two : (known names words : List (List ℕ)) (lits : List Lit) → filter has_two (ends_from known names words lits) ≡ []
no_end_has_two known names [] lits = refl
no_end_has_two known names (w ∷ ws) [] = refl
no_end_has_two known names (w ∷ ws) (l ∷ ls) = cond_both (has_word known w) (ends_from known names ws ls) (output_table names w l ∷ ends_from known names ws ls) (λ ts. filter has_two ts ≡ [])
    (λ _. no_end_has_two known names ws ls)
    (λ _. cond-false (has_two (output_table names w l)) (output_table names w l ∷ filter has_two (ends_from known names ws ls)) (filter has_two (ends_from known names ws ls)) (end_has_not_two names w l) ∙ no_end_has_two known names ws ls)

pub ends_are_others : (known names words : List (List ℕ)) (lits : List Lit) → filter (λ t. not (has_two t)) (ends_from known names words lits) ≡ ends_from known names words lits
ends_are_others known names [] lits = refl
ends_are_others known names (w ∷ ws) [] = refl
ends_are_others known names (w ∷ ws) (l ∷ ls) = cond_both (has_word known w) (ends_from known names ws ls) (output_table names w l ∷ ends_from known names ws ls) (λ ts. filter (λ t. not (has_two t)) ts ≡ ts)
    (λ _. ends_are_others known names ws ls)
    (λ _. cond-true (not (has_two (output_table names w l))) (output_table names w l ∷ filter (λ t. not (has_two t)) (ends_from known names ws ls)) (filter (λ t. not (has_two t)) (ends_from known names ws ls)) (not_from_false (has_two (output_table names w l)) (end_has_not_two names w l))
    ∙ ap (λ (l' : List Table). output_table names w l ∷ l') (ends_are_others known names ws ls))

pub end_outputs : (known names words : List (List ℕ)) (lits : List Lit) → length lits ≡ length words → map output_of (ends_from known names words lits) ≡ without known words
end_outputs known names [] lits e = refl
end_outputs known names (w ∷ ws) [] e = absurd (omega (arith, e))
end_outputs known names (w ∷ ws) (l ∷ ls) e =
    let rest = end_outputs known names ws ls (omega (arith, e)) in
    elim (cases_Bool (has_word known w)) [
      | inl k ↦ ap (map output_of) (cond-true (has_word known w) (ends_from known names ws ls) (output_table names w l ∷ ends_from known names ws ls) k) ∙ rest
          ∙ sym (cond-false (not (has_word known w)) (w ∷ without known ws) (without known ws) (not_from_true (has_word known w) k))
      | inr k ↦ ap (map output_of) (cond-false (has_word known w) (ends_from known names ws ls) (output_table names w l ∷ ends_from known names ws ls) k)
          ∙ ap₂ (λ (x : List ℕ) (xs : List (List ℕ)). x ∷ xs) (end_output names w l) rest
          ∙ sym (cond-true (not (has_word known w)) (w ∷ without known ws) (without known ws) (not_from_false (has_word known w) k))
    ]

pub ends_are_ends : (known names words : List (List ℕ)) (lits : List Lit) → AllWithin (length names) lits → AllByRecursion (λ t. is_end_table names t ≡ true) (ends_from known names words lits)
ends_are_ends known names [] lits h = tt
ends_are_ends known names (w ∷ ws) [] h = tt
ends_are_ends known names (w ∷ ws) (l ∷ ls) h = cond_both (has_word known w) (ends_from known names ws ls) (output_table names w l ∷ ends_from known names ws ls) (AllByRecursion (λ t. is_end_table names t ≡ true))
    (λ _. ends_are_ends known names ws ls h.1)
    (λ _. (end_is_end names w l h.0, ends_are_ends known names ws ls h.1))

pub ends_read : (known names words : List (List ℕ)) (lits : List Lit) (above : List (List ℕ)) → AllWithin (length names) lits → ((w : List ℕ) → has_word names w ≡ true → has_word above w ≡ true)
    → reads_known above (ends_from known names words lits) ≡ true
ends_read known names [] lits above h all = refl
ends_read known names (w ∷ ws) [] above h all = refl
ends_read known names (w ∷ ws) (l ∷ ls) above h all = cond_both (has_word known w) (ends_from known names ws ls) (output_table names w l ∷ ends_from known names ws ls) (λ ts. reads_known above ts ≡ true)
    (λ _. ends_read known names ws ls above h.1 all)
    (λ _. and_from (list_all (has_word above) (output_table names w l).inputs) (reads_known (above ++ (output_table names w l).output ∷ []) (ends_from known names ws ls)) (end_reads names above w l h.0 all)
    (ends_read known names ws ls (above ++ (output_table names w l).output ∷ []) h.1 (λ x t. has_left above ((output_table names w l).output ∷ []) x (all x t))))

-- the table of a signal that is not known
pub end_found : (known names words : List (List ℕ)) (lits : List Lit) → distinct words ≡ true → length lits ≡ length words → (i : ℕ) → i < length words → has_word known (word_at words i) ≡ false
    → find (λ t. bytes_eq t.output (word_at words i)) (ends_from known names words lits) ≡ Some (output_table names (word_at words i) (lit_at lits i))
end_found known names [] lits d e i lt k = absurd (omega arith)
end_found known names (w ∷ ws) [] d e i lt k = absurd (omega (arith, e))
end_found known names (w ∷ ws) (l ∷ ls) d e zero lt k =
    let test : Table → Bool = λ t. bytes_eq t.output w in
    let rest : List Table = ends_from known names ws ls in
    ap (find test) (cond-false (has_word known w) rest (output_table names w l ∷ rest) k)
    ∙ cond-true (test (output_table names w l)) (Some (output_table names w l)) (find test rest) (ap (λ x. bytes_eq x w) (end_output names w l) ∙ word_same w)
end_found known names (w ∷ ws) (l ∷ ls) d e (suc i) lt k =
    let word : List ℕ = word_at ws i in
    let test : Table → Bool = λ t. bytes_eq t.output word in
    let rest : List Table = ends_from known names ws ls in
    let parts = and_parts (not (has_word ws w)) (distinct ws) d in
    let found = end_found known names ws ls parts.1 (omega (arith, e)) i (omega (arith, lt)) k in
    let there : has_word ws word ≡ true = has_at ws i (omega (arith, lt)) in
    let other : bytes_eq w word ≡ false = false_from_ne_true (bytes_eq w word) (λ s. both_ways (has_word ws w) (distinct_head w ws d) (subst (λ x. has_word ws x ≡ true) (sym (same_word w word s)) there)) in
    elim (cases_Bool (has_word known w)) [
      | inl t ↦ ap (find test) (cond-true (has_word known w) rest (output_table names w l ∷ rest) t) ∙ found
      | inr t ↦ ap (find test) (cond-false (has_word known w) rest (output_table names w l ∷ rest) t)
          ∙ cond-false (test (output_table names w l)) (Some (output_table names w l)) (find test rest) (ap (λ x. bytes_eq x word) (end_output names w l) ∙ other) ∙ found
    ]
