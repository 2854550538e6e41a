-- Values of literals of rows of characters and of covers, character by character and row by row.
use Rattle.std.proofs.Common.{◌≡◌, ℕ, ◌+◌, ◌<◌, ◌≤◌, Bool, true, false, not, ◌&&◌, ◌||◌, List, [], ◌∷◌, map, length, get_or, drop, count_by, if◌then◌else◌, refl, sym, ap, ap₂, ◌∙◌, arith}
use Rattle.std.proofs.lemmas.List.{drop_more, drop_all}
use Rattle.std.specs.List.{list_any}
use Rattle.std.proofs.lemmas.List.Elements.{All-get_or}
use Rattle.std.proofs.lemmas.List.Sums.{sum_by-drop_more}
use Rattle.syn_rows.specs.declared.Lit.{Lit}
use Rattle.syn_rows.specs.declared.Row.{Row}
use Rattle.syn_rows.specs.Rows.{node_of}
use Rattle.syn_rows.specs.Values.{lit_value, value_in, values_of}
use Rattle.syn_netlist.specs.Covers.{fits_bit, matches}
use Rattle.syn_netlist.specs.Costs.{is_sign}
use Rattle.syn_hashed.specs.Hashed.{IsHashed}
use Rattle.syn_hashed.specs.Growing.{Extends, value_by, IsOr}
use Rattle.syn_placing.proofs.Placed.{values_kept}
use Rattle.syn_lut_rows.specs.LutLiterals.{AllThere}
use Rattle.syn_build.specs.Covering.{IsFit, IsMatch, IsOrMatch, IsCover}
use Rattle.syn_hashed.proofs.Rising.{literal_kept, source_value}

pub zero_value : (count : ℕ) (rows : List Row) → IsHashed count rows → (given : ℕ → Bool) → given 0 ≡ false → value_by given rows (record { 0 = 0 }) ≡ false
zero_value count rows h given at_0 = source_value count rows h given 0 (omega arith) ∙ at_0

pub one_value : (count : ℕ) (rows : List Row) → IsHashed count rows → (given : ℕ → Bool) → given 0 ≡ false → value_by given rows (record { 0 = 1 }) ≡ true
one_value count rows h given at_0 = ap not (zero_value count rows h given at_0)

-- The first characters' literal and the match of the rest of the row are together the match of the row.
pub record IsFront (old : List Row) (inputs : List Lit) (row : List ℕ) (i : ℕ) (now : List Row) (all : Lit) : Type 0 where
  pub value : (given : ℕ → Bool) → given 0 ≡ false → (value_by given now all && matches (drop i row) (map (value_by given old) (drop i inputs))) ≡ matches row (map (value_by given old) inputs)

pub front_none : (count : ℕ) (old : List Row) → IsHashed count old → (inputs : List Lit) (row : List ℕ) (all : Lit) → all ≡ record { 0 = 1 } → IsFront old inputs row 0 old all
front_none count old h inputs row all e = record { value = λ given at_0. ap (λ b. b && matches row (map (value_by given old) inputs)) (ap (value_by given old) e ∙ one_value count old h given at_0) }

and_regrouped : (x y z : Bool) → ((x && y) && z) ≡ (x && (y && z))
and_regrouped true y z = refl
and_regrouped false y z = refl

and_false : (x : Bool) → (x && false) ≡ false
and_false true = refl
and_false false = refl

pub front_more : (old : List Row) (inputs : List Lit) (row : List ℕ) (i : ℕ) (now new : List Row) (all next : Lit)
    → IsFront old inputs row i now all → AllThere old inputs → Extends old now → i < length row → i < length inputs
    → IsFit now all (get_or row i 0) (get_or inputs i (record { 0 = 0 })) new next → IsFront old inputs row (i + 1) new next
front_more old inputs row i now new all next front there grown lt inside fit = record {
  value = λ given at_0.
      let character : ℕ = get_or row i 0 in
      let input : Lit = get_or inputs i (record { 0 = 0 }) in
      let rest : Bool = matches (drop (i + 1) row) (map (value_by given old) (drop (i + 1) inputs)) in
      let kept : value_by given now input ≡ value_by given old input = literal_kept given old now grown input (All-get_or (λ l. node_of l < length old) inputs i (record { 0 = 0 }) inside there) in
      ap (λ b. b && rest) (fit given at_0 ∙ ap (λ b. value_by given now all && fits_bit character b) kept)
      ∙ and_regrouped (value_by given now all) (fits_bit character (value_by given old input)) rest
      ∙ sym (ap₂ (λ (cs : List ℕ) (ls : List Lit). value_by given now all && matches cs (map (value_by given old) ls)) (drop_more row i 0 lt) (drop_more inputs i (record { 0 = 0 }) inside))
      ∙ front.value given at_0;
}

-- a row of more characters than there are inputs
pub front_short : (count : ℕ) (old : List Row) (inputs : List Lit) (row : List ℕ) (i : ℕ) (now : List Row) (all none : Lit) → IsHashed count now → IsFront old inputs row i now all → i < length row → length inputs ≤ i
    → none ≡ record { 0 = 0 } → IsMatch old row inputs now none
front_short count old inputs row i now all none h front lt past e given at_0 =
    ap (value_by given now) e ∙ zero_value count now h given at_0
    ∙ sym (and_false (value_by given now all))
    ∙ sym (ap₂ (λ (cs : List ℕ) (ls : List Lit). value_by given now all && matches cs (map (value_by given old) ls)) (drop_more row i 0 lt) (drop_all i inputs past))
    ∙ front.value given at_0

-- the signs of a row's rest
pub signs_more : (row : List ℕ) (i : ℕ) → i < length row → count_by is_sign (drop i row) ≡ (if is_sign (get_or row i 0) then 1 else 0) + count_by is_sign (drop (i + 1) row)
signs_more row i lt = sum_by-drop_more (λ c. if is_sign c then 1 else 0) row i 0 lt

-- covers

pub or_match_from : (old mid new : List Row) (any literal next : Lit) (row : List ℕ) (inputs : List Lit) → Extends old mid → node_of any < length old → IsMatch old row inputs mid literal → IsOr mid any literal new next → IsOrMatch old any row inputs new next
or_match_from old mid new any literal next row inputs grown there matched joined given at_0 =
    joined given at_0 ∙ ap₂ (λ x y. x || y) (literal_kept given old mid grown any there) (matched given at_0)

-- The first rows' literal and the matches of the rest are together the match of some row.
pub record IsSome (old : List Row) (inputs : List Lit) (rows : List (List ℕ)) (i : ℕ) (now : List Row) (any : Lit) : Type 0 where
  pub value : (given : ℕ → Bool) → given 0 ≡ false → (value_by given now any || list_any (λ row. matches row (map (value_by given old) inputs)) (drop i rows)) ≡ list_any (λ row. matches row (map (value_by given old) inputs)) rows

pub some_none : (count : ℕ) (old : List Row) → IsHashed count old → (inputs : List Lit) (rows : List (List ℕ)) → IsSome old inputs rows 0 old (record { 0 = 0 })
some_none count old h inputs rows = record { value = λ given at_0. ap (λ b. b || list_any (λ row. matches row (map (value_by given old) inputs)) rows) (zero_value count old h given at_0) }

or_regrouped : (x y z : Bool) → ((x || y) || z) ≡ (x || (y || z))
or_regrouped true y z = refl
or_regrouped false y z = refl

or_false : (x : Bool) → (x || false) ≡ x
or_false true = refl
or_false false = refl

pub some_more : (old : List Row) (inputs : List Lit) (rows : List (List ℕ)) (i : ℕ) (now new : List Row) (any next : Lit) (row : List ℕ) → IsSome old inputs rows i now any → AllThere old inputs → Extends old now → i < length rows → row ≡ get_or rows i []
    → IsOrMatch now any row inputs new next → IsSome old inputs rows (i + 1) new next
some_more old inputs rows i now new any next row some there grown lt row_is joined = record {
  value = λ given at_0.
      let hits : List ℕ → Bool = λ row. matches row (map (value_by given old) inputs) in
      ap (λ b. b || list_any hits (drop (i + 1) rows)) (joined given at_0 ∙ ap (λ (bits : List Bool). value_by given now any || matches row bits) (values_kept given old now grown inputs there))
      ∙ or_regrouped (value_by given now any) (hits row) (list_any hits (drop (i + 1) rows))
      ∙ sym (ap (λ (rest : List (List ℕ)). value_by given now any || list_any hits rest) (drop_more rows i [] lt ∙ ap (λ (r : List ℕ). r ∷ drop (i + 1) rows) (sym row_is)))
      ∙ some.value given at_0;
}

pub some_all : (old : List Row) (inputs : List Lit) (rows : List (List ℕ)) (i : ℕ) (now : List Row) (any : Lit) → IsSome old inputs rows i now any → length rows ≤ i
    → (on : Bool) (l : Lit) → ((v : ℕ → Bool) → lit_value v l ≡ (if on then lit_value v any else not (lit_value v any))) → IsCover old rows on inputs now l
some_all old inputs rows i now any some past on l sign given at_0 =
    let hits : List ℕ → Bool = λ row. matches row (map (value_by given old) inputs) in
    let all : value_by given now any ≡ list_any hits rows =
    sym (or_false (value_by given now any)) ∙ sym (ap (λ (rest : List (List ℕ)). value_by given now any || list_any hits rest) (drop_all i rows past)) ∙ some.value given at_0 in
    sign (value_in (values_of given now)) ∙ ap (λ b. if on then b else not b) all
