-- What is written of a file says that file, in both formats.
use Rattle.std.specs.List.{list_all, list_any}
use Rattle.std.proofs.Common.{◌≡◌, ℕ, suc, ◌+◌, ◌-◌, ◌<◌, ◌≤◌, ◌==◌, ◌&&◌, not, nat_le, nat_lt, Bool, true, false, List, [], ◌∷◌, ◌++◌, length, map, flat_map, decimal, Option, Some, None, Result, Ok, Err, refl, sym, ap, ap₂, ◌∙◌, append-nil, arith, le-leb, ltb-true, eq-eqb}
use Rattle.std.proofs.lemmas.Bool.{cond-true, cond-false, and_from, and_parts}
use Rattle.syn_lex.specs.Lines.{is_nil}
use Rattle.syn_lex.specs.Words.{is_word_byte}
use Rattle.syn_netlist.specs.Words.{is_word}
use Rattle.syn_netlist.specs.TextLines.{blanked}
use Rattle.syn_aiger_files.specs.declared.fault.AigFault.{AigFault}
use Rattle.syn_aiger_files.specs.declared.fault.AigFault.TheVariants as faults
use Rattle.syn_aiger_files.specs.Texts.{behind, lines_at, number_of, or_none, words_of}
use Rattle.syn_aiger_files.specs.Files.{Aig, AigAnd, AigLatch, Header, OfBad, OfConstraint, OfInput, OfLatch, OfOutput, Place, Symbol}
use Rattle.syn_aiger_files.specs.Parts.{Part, and_then, if_some}
use Rattle.syn_aiger_files.specs.Symbols.{begins_comments, count_of, is_at, letter_of, place_of, symbol_at, symbol_of, symbols_of}
use Rattle.syn_aiger_files.specs.Spelling.{aig_by, are_enough, fits_numbers, format_of, header_by, header_in, header_of, judged, most_variables, spelled_by, spelled, taken_by}
use Rattle.syn_aiger_files.specs.Printed.{body_of, decimals, first_line_of, format_word, printed, symbol_line}
use Rattle.syn_aiger_files.specs.Laws.{IsNormal, are_symbols, count_in}
use Rattle.syn_aiger_files.proofs.PrintedNumbers.{Above, AllShort, AllWords, above_decimal, all_words_decimals, behind_line, behind_text, first_line_line, front_text, line_cut, lines_at_text, above_line, number_of_decimal, numbers_of_decimals, words_of_line}
use Rattle.syn_aiger_files.proofs.PrintedBodies.{entries, entry_part, header_for, outputs_for, inputs_of_entries, latches_of_entries, outputs_of_entries, ands_of_entries, parts_of_body}

-- symbols

above_word_bytes : (bs : List ℕ) → list_all is_word_byte bs ≡ true → Above 32 bs
above_word_bytes [] h = tt
above_word_bytes (b ∷ bs) h =
    let parts = and_parts (is_word_byte b) (list_all is_word_byte bs) h in
    let a = and_parts (nat_lt 32 b && nat_lt b 127 && not (b == 35)) (not (b == 92)) parts.0 in
    let c = and_parts (nat_lt 32 b && nat_lt b 127) (not (b == 35)) a.0 in
    let d = and_parts (nat_lt 32 b) (nat_lt b 127) c.0 in
    (ltb-true 32 b d.0, above_word_bytes bs parts.1)

above_word : (w : List ℕ) → is_word w ≡ true → Above 32 w
above_word [] h = tt
above_word (b ∷ bs) h = above_word_bytes (b ∷ bs) h

some_word : (w : List ℕ) → is_word w ≡ true → not (is_nil w) ≡ true
some_word [] h = h
some_word (b ∷ bs) h = refl

above_letter : (p : Place) → 32 < letter_of p
above_letter OfInput = omega arith
above_letter OfLatch = omega arith
above_letter OfOutput = omega arith
above_letter OfBad = omega arith
above_letter OfConstraint = omega arith

place_of_letter : (p : Place) → place_of (letter_of p) ≡ Some p
place_of_letter OfInput = refl
place_of_letter OfLatch = refl
place_of_letter OfOutput = refl
place_of_letter OfBad = refl
place_of_letter OfConstraint = refl

no_comments : (g : Aig) (p : Place) (bs : List ℕ) → 0 < count_in g p → begins_comments (letter_of p ∷ bs) ≡ false
no_comments g OfInput bs some = refl
no_comments g OfLatch bs some = refl
no_comments g OfOutput bs some = refl
no_comments g OfBad bs some = refl
no_comments g OfConstraint bs some = absurd (omega arith)

count_for : (ascii : Bool) (g : Aig) (p : Place) → count_of (header_for ascii g) p ≡ count_in g p
count_for ascii g OfInput = refl
count_for ascii g OfLatch = refl
count_for ascii g OfOutput = refl
count_for ascii g OfBad = refl
count_for ascii g OfConstraint = refl

inputs_few : (g : Aig) → IsNormal g → length g.inputs ≤ most_variables
inputs_few g n = let a = n.few in let b = n.variables in omega arith

latches_few : (g : Aig) → IsNormal g → length g.latches ≤ most_variables
latches_few g n = let a = n.few in let b = n.variables in omega arith

ands_few : (g : Aig) → IsNormal g → length g.ands ≤ most_variables
ands_few g n = let a = n.few in let b = n.variables in omega arith

count_few : (g : Aig) (p : Place) → IsNormal g → count_in g p ≤ most_variables
count_few g OfInput n = inputs_few g n
count_few g OfLatch n = latches_few g n
count_few g OfOutput n = n.few_outputs
count_few g OfBad n = omega arith
count_few g OfConstraint n = omega arith

-- the text of a symbol's line
abbrev symbol_text : Symbol → List ℕ
symbol_text s = (letter_of s.place ∷ decimal s.index) ++ blanked (s.name ∷ [])

module _ (ascii : Bool) (g : Aig) (n : IsNormal g) where
  symbol_said : (given : List Symbol) (s : Symbol) → nat_lt s.index (count_in g s.place) ≡ true → not (list_any (is_at s.place s.index) given) ≡ true → is_word s.name ≡ true → symbol_of (header_for ascii g) given (symbol_text s) ≡ Some s
  symbol_said given s few free word =
      let h : Header = header_for ascii g in
      let less = ltb-true s.index (count_in g s.place) few in
      let small = count_few g s.place n in
      let digits : Above 32 (decimal s.index) = above_decimal s.index (omega arith) in
      ap₂ (λ (p : Option Place) (bs : List ℕ). symbol_at h given p (number_of bs) (behind 32 (decimal s.index ++ 32 ∷ (s.name ++ [])))) (place_of_letter s.place) (front_text 32 (decimal s.index) (s.name ++ []) digits)
      ∙ ap₂ (λ (k : Option ℕ) (bs : List ℕ). symbol_at h given (Some s.place) k bs) (number_of_decimal s.index (omega arith)) (behind_text 32 (decimal s.index) (s.name ++ []) digits ∙ append-nil s.name)
      ∙ cond-true (nat_lt s.index (count_of h s.place) && (not (list_any (is_at s.place s.index) given) && not (is_nil s.name))) (Some s) None
      (and_from (nat_lt s.index (count_of h s.place)) (not (list_any (is_at s.place s.index) given) && not (is_nil s.name)) (ap (nat_lt s.index) (count_for ascii g s.place) ∙ few)
      (and_from (not (list_any (is_at s.place s.index) given)) (not (is_nil s.name)) free (some_word s.name word)))

  pub symbols_written : (at : ℕ) (given ss : List Symbol) → are_symbols g given ss ≡ true → symbols_of (header_for ascii g) given (lines_at at (flat_map symbol_line ss)) ≡ Ok ss
  symbols_written at given [] fit = refl
  symbols_written at given (s ∷ ss) fit =
      let h : Header = header_for ascii g in
      let a = and_parts (nat_lt s.index (count_in g s.place)) (not (list_any (is_at s.place s.index) given) && (is_word s.name && are_symbols g (s ∷ given) ss)) fit in
      let b = and_parts (not (list_any (is_at s.place s.index) given)) (is_word s.name && are_symbols g (s ∷ given) ss) a.1 in
      let c = and_parts (is_word s.name) (are_symbols g (s ∷ given) ss) b.1 in
      let less = ltb-true s.index (count_in g s.place) a.0 in
      let small = count_few g s.place n in
      let first : Above 32 (letter_of s.place ∷ decimal s.index) = (above_letter s.place, above_decimal s.index (omega arith)) in
      let later : ℕ = at + suc (length (symbol_text s)) in
      let more : List ℕ = flat_map symbol_line ss in
      let next : Symbol → Result (List Symbol) AigFault = λ (t : Symbol). and_then (symbols_of h (t ∷ given) (lines_at later more)) (λ (ts : List Symbol). Ok (t ∷ ts)) in
      ap (λ (bs : List ℕ). symbols_of h given (lines_at at bs)) (line_cut (letter_of s.place ∷ decimal s.index) (s.name ∷ []) more)
      ∙ ap (symbols_of h given) (lines_at_text at (symbol_text s) more (above_line (letter_of s.place ∷ decimal s.index) (s.name ∷ []) first (above_word s.name c.0, tt)))
      ∙ cond-false (begins_comments (symbol_text s)) (Ok []) (if_some (faults.Symbol at) (symbol_of h given (symbol_text s)) next) (no_comments g s.place (decimal s.index ++ blanked (s.name ∷ [])) (omega arith))
      ∙ ap (λ (o : Option Symbol). if_some (faults.Symbol at) o next) (symbol_said given s a.0 b.0 c.0)
      ∙ ap (λ (r : Result (List Symbol) AigFault). and_then r (λ (ts : List Symbol). Ok (s ∷ ts))) (symbols_written later (s ∷ given) ss c.1)

-- the first line

above_format : (ascii : Bool) → Above 32 (format_word ascii)
above_format true = (omega arith, (omega arith, (omega arith, tt)))
above_format false = (omega arith, (omega arith, (omega arith, tt)))

format_read : (ascii : Bool) → format_of (format_word ascii) ≡ Some ascii
format_read true = refl
format_read false = refl

enough : (ascii : Bool) (variables defined : ℕ) → variables ≡ defined → are_enough ascii variables defined ≡ true
enough true variables defined e = le-leb defined variables (omega arith)
enough false variables defined e = eq-eqb defined variables (omega arith)

-- the numbers of a first line
abbrev header_numbers : Aig → List ℕ
header_numbers g = g.variables ∷ length g.inputs ∷ length g.latches ∷ length g.outputs ∷ length g.ands ∷ []

short_header : (g : Aig) → IsNormal g → AllShort (header_numbers g)
short_header g n =
    let a = n.few in let b = n.few_outputs in let c = n.variables in
    (omega arith, (omega arith, (omega arith, (omega arith, (omega arith, tt)))))

header_numbers_fit : (g : Aig) → IsNormal g → list_all (λ n. nat_le n most_variables) (header_numbers g) ≡ true
header_numbers_fit g n =
    and_from (nat_le g.variables most_variables) (list_all (λ n. nat_le n most_variables) (length g.inputs ∷ length g.latches ∷ length g.outputs ∷ length g.ands ∷ [])) (le-leb g.variables most_variables n.few)
    (and_from (nat_le (length g.inputs) most_variables) (list_all (λ n. nat_le n most_variables) (length g.latches ∷ length g.outputs ∷ length g.ands ∷ [])) (le-leb (length g.inputs) most_variables (inputs_few g n))
    (and_from (nat_le (length g.latches) most_variables) (list_all (λ n. nat_le n most_variables) (length g.outputs ∷ length g.ands ∷ [])) (le-leb (length g.latches) most_variables (latches_few g n))
    (and_from (nat_le (length g.outputs) most_variables) (list_all (λ n. nat_le n most_variables) (length g.ands ∷ [])) (le-leb (length g.outputs) most_variables n.few_outputs)
    (and_from (nat_le (length g.ands) most_variables) true (le-leb (length g.ands) most_variables (ands_few g n)) refl))))

pub header_written : (properties : Bool) (ascii : Bool) (g : Aig) (rest : List ℕ) → IsNormal g → header_of properties (first_line_of ascii g ++ rest) ≡ Ok (header_for ascii g)
header_written properties ascii g rest n =
    let ws : AllWords (decimals (header_numbers g)) = all_words_decimals (header_numbers g) (short_header g n) in
    ap (λ (l : List ℕ). judged properties (header_in (words_of l))) (first_line_line (format_word ascii) (decimals (header_numbers g)) rest (above_format ascii) ws)
    ∙ ap (λ (l : List (List ℕ)). judged properties (header_in l)) (words_of_line (format_word ascii) (decimals (header_numbers g)) (above_format ascii) ws)
    ∙ ap₂ (λ (f : Option Bool) (ns : Option (List ℕ)). judged properties (header_by f (or_none ns))) (format_read ascii) (numbers_of_decimals (header_numbers g) (short_header g n))
    ∙ cond-true (fits_numbers (header_for ascii g)) (taken_by properties (header_for ascii g)) (Err faults.Header)
    (ap fits_with (sym (outputs_for ascii g))
    ∙ and_from (list_all (λ n. nat_le n most_variables) (header_numbers g)) (are_enough ascii g.variables defined) (header_numbers_fit g n) (enough ascii g.variables defined n.variables))
    ∙ taken properties
  where
    defined : ℕ
    defined = length g.inputs + length g.latches + length g.ands

    fits_with : ℕ → Bool
    fits_with outputs = list_all (λ n. nat_le n most_variables) (g.variables ∷ length g.inputs ∷ length g.latches ∷ outputs ∷ length g.ands ∷ []) && are_enough ascii g.variables defined

    taken : (properties : Bool) → taken_by properties (header_for ascii g) ≡ Ok (header_for ascii g)
    taken false = refl
    taken true = refl

pub behind_header : (ascii : Bool) (g : Aig) (rest : List ℕ) → IsNormal g → behind 10 (first_line_of ascii g ++ rest) ≡ rest
behind_header ascii g rest n = behind_line (format_word ascii) (decimals (header_numbers g)) rest (above_format ascii) (all_words_decimals (header_numbers g) (short_header g n))

-- all together

aig_with : (g : Aig) (inputs : List ℕ) (latches : List AigLatch) (outputs : List ℕ) (ands : List AigAnd) → inputs ≡ g.inputs → latches ≡ g.latches → outputs ≡ g.outputs → ands ≡ g.ands
    → Path Aig (record { variables = g.variables; inputs = inputs; latches = latches; outputs = outputs; ands = ands; symbols = g.symbols }) g
aig_with g inputs latches outputs ands i l o a = λ t. record { variables = g.variables; inputs = i t; latches = l t; outputs = o t; ands = a t; symbols = g.symbols }

aig_again : (ascii : Bool) (g : Aig) → IsNormal g → aig_by (header_for ascii g) (map entry_part (entries ascii g)) g.symbols ≡ g
aig_again true g n = aig_with g _ _ _ _ (inputs_of_entries g) (latches_of_entries true g) (outputs_of_entries true g) (ands_of_entries true g)
aig_again false g n = aig_with g _ _ _ _ (sym n.inputs) (latches_of_entries false g) (outputs_of_entries false g) (ands_of_entries false g)

-- What is written of a file that can be written in both formats says it.
pub written_says : (properties : Bool) (g : Aig) → IsNormal g → (ascii : Bool) → spelled properties (printed ascii g) ≡ Ok g
written_says properties g n ascii =
    let h : Header = header_for ascii g in
    let symbols : List ℕ = flat_map symbol_line g.symbols in
    let total : ℕ = length (printed ascii g) in
    let next : List Part × List ℕ → Result Aig AigFault = λ (got : List Part × List ℕ). and_then (symbols_of h [] (lines_at (total - length got.1) got.1)) (λ (ss : List Symbol). Ok (aig_by h got.0 ss)) in
    ap (λ (r : Result Header AigFault). and_then r (spelled_by total (behind 10 (printed ascii g)))) (header_written properties ascii g (body_of ascii g ++ symbols) n)
    ∙ ap (λ (bs : List ℕ). spelled_by total bs h) (behind_header ascii g (body_of ascii g ++ symbols) n)
    ∙ ap (λ (r : Result (List Part × List ℕ) AigFault). and_then r next) (parts_of_body total ascii g symbols n)
    ∙ ap (λ (r : Result (List Symbol) AigFault). and_then r (λ (ss : List Symbol). Ok (aig_by h (map entry_part (entries ascii g)) ss))) (symbols_written ascii g n (total - length symbols) [] g.symbols n.symbols)
    ∙ ap (λ (k : Aig). Ok k) (aig_again ascii g n)
