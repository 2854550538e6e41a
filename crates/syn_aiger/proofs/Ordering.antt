-- ANDs that read only what stands above them, by the places of variables.
use Rattle.std.proofs.Common.{◌≡◌, ℕ, ◌+◌, ◌<◌, ◌≤◌, ◌&&◌, nat_lt, Bool, true, false, List, [], ◌∷◌, ◌++◌, length, map, take, drop, get_or, Option, Some, None, sym, ap, ap₂, ◌∙◌, append_assoc, arith, length-append}
use Rattle.std.proofs.lemmas.Bool.{and_left, and_right}
use Rattle.std.proofs.lemmas.List.{drop_all, drop_more, length-map, map-append, take-append-drop, take_more, length-take-le}
use Rattle.syn_lists.specs.Numbers.{has_number}
use Rattle.syn_aiger_files.specs.declared.files.Aig.{Aig}
use Rattle.syn_aiger_files.specs.declared.files.AigAnd.{AigAnd}
use Rattle.syn_aiger_files.specs.Files.{variable_of}
use Rattle.syn_aiger.specs.Placing.{IsSound, place_in}
use Rattle.syn_aiger.specs.Ranks.{HasRank}
use Rattle.syn_aiger.specs.Values.{and_variable, defined_variables, reads_above, source_literals, source_variables}
use Rattle.syn_aiger.proofs.Defined.{defines_from_distinct}
use Rattle.syn_aiger.proofs.Placed.{front_has, front_none}
use Rattle.syn_aiger.proofs.Ranking.{number_place, order_ranks}

pub below_some : (ds front more : List ℕ) (v p bound : ℕ) → Path (Option ℕ) (Some p) (place_in ds v) → ds ≡ front ++ more → length front ≡ bound → nat_lt p bound ≡ has_number front v
below_some ds front more v p bound e split long = ap (nat_lt p) (sym long) ∙ sym (front_has front more v p (ap (λ (ns : List ℕ). place_in ns v) (sym split) ∙ sym e))

pub below_none : (ds front more : List ℕ) (v : ℕ) → Path (Option ℕ) None (place_in ds v) → ds ≡ front ++ more → false ≡ has_number front v
below_none ds front more v e split = sym (front_none front more v (ap (λ (ns : List ℕ). place_in ns v) (sym split) ∙ sym e))

module _ (g : Aig) where
  -- what is known above the so manyth AND
  abbrev pub known_at : ℕ → List ℕ
  known_at k = (0 ∷ source_variables g) ++ map and_variable (take k g.ands)

  abbrev pub left_at : ℕ → List ℕ
  left_at k = map and_variable (drop k g.ands)

  pub known_split : (k : ℕ) → defined_variables g ≡ known_at k ++ left_at k
  known_split k =
      ap (λ (es : List AigAnd). (0 ∷ source_variables g) ++ map and_variable es) (sym (take-append-drop k g.ands))
      ∙ ap (λ (l : List ℕ). (0 ∷ source_variables g) ++ l) (map-append and_variable (take k g.ands) (drop k g.ands))
      ∙ sym (append_assoc (0 ∷ source_variables g) (map and_variable (take k g.ands)) (left_at k))

  pub known_long : (k : ℕ) → k ≤ length g.ands → length (known_at k) ≡ length (source_literals g) + 1 + k
  known_long k l =
      omega (arith, length-append (0 ∷ source_variables g) (map and_variable (take k g.ands)), length-map (source_literals g) variable_of, length-map (take k g.ands) and_variable, length-take-le k g.ands l)

  -- the test at an AND
  pub step_at : (k : ℕ) (a : AigAnd) → k < length g.ands → drop k g.ands ≡ get_or g.ands k a ∷ drop (k + 1) g.ands
  step_at k a l = drop_more g.ands k a l

  module _ (k : ℕ) (a here : AigAnd) (total : Bool) (l : k < length g.ands) (at : here ≡ get_or g.ands k a) (so_far : reads_above (known_at k) (drop k g.ands) ≡ total) where
    opened : (has_number (known_at k) (variable_of here.first) && (has_number (known_at k) (variable_of here.second) && reads_above (known_at k ++ and_variable here ∷ []) (drop (k + 1) g.ands))) ≡ total
    opened = ap (reads_above (known_at k)) (ap (λ (x : AigAnd). x ∷ drop (k + 1) g.ands) at ∙ sym (step_at k a l)) ∙ so_far

    pub stops_first : false ≡ has_number (known_at k) (variable_of here.first) → false ≡ total
    stops_first e = sym (and_left (has_number (known_at k) (variable_of here.first)) (has_number (known_at k) (variable_of here.second) && reads_above (known_at k ++ and_variable here ∷ []) (drop (k + 1) g.ands)) (sym e)) ∙ opened

    pub stops_second : false ≡ has_number (known_at k) (variable_of here.second) → false ≡ total
    stops_second e =
        sym (and_right (has_number (known_at k) (variable_of here.first)) (has_number (known_at k) (variable_of here.second) && reads_above (known_at k ++ and_variable here ∷ []) (drop (k + 1) g.ands))
        (and_left (has_number (known_at k) (variable_of here.second)) (reads_above (known_at k ++ and_variable here ∷ []) (drop (k + 1) g.ands)) (sym e)))
        ∙ opened

    pub goes_on : true ≡ has_number (known_at k) (variable_of here.first) → true ≡ has_number (known_at k) (variable_of here.second) → reads_above (known_at (k + 1)) (drop (k + 1) g.ands) ≡ total
    goes_on e f =
        ap (λ (ns : List ℕ). reads_above ns (drop (k + 1) g.ands)) known_next
        ∙ ap₂ (λ (x y : Bool). x && (y && reads_above (known_at k ++ and_variable here ∷ []) (drop (k + 1) g.ands))) e f
        ∙ opened
      where
        known_next : known_at (k + 1) ≡ known_at k ++ and_variable here ∷ []
        known_next =
            ap (λ (es : List AigAnd). (0 ∷ source_variables g) ++ map and_variable es) (take_more g.ands k a l ∙ ap (λ (x : AigAnd). take k g.ands ++ x ∷ []) (sym at))
            ∙ ap (λ (ns : List ℕ). (0 ∷ source_variables g) ++ ns) (map-append and_variable (take k g.ands) (here ∷ []))
            ∙ sym (append_assoc (0 ∷ source_variables g) (map and_variable (take k g.ands)) (and_variable here ∷ []))

  pub at_end : (k : ℕ) (total : Bool) → length g.ands ≤ k → reads_above (known_at k) (drop k g.ands) ≡ total → true ≡ total
  at_end k total l so_far = ap (reads_above (known_at k)) (sym (drop_all k g.ands l)) ∙ so_far

  -- the order is a rank
  pub order_is_rank : IsSound g → reads_above (0 ∷ source_variables g) g.ands ≡ true → HasRank g
  order_is_rank sound above = (number_place (defined_variables g), order_ranks (0 ∷ source_variables g) g.ands above (defines_from_distinct (0 ∷ source_variables g) g.ands sound.once))
