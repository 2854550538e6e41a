-- The symbols of a file, up to its comments (AIGER 1.9).
use Rattle.std.specs.Prelude.{ℕ, ◌==◌, ◌&&◌, not, nat_lt, Bool, if◌then◌else◌, List, [], ◌∷◌, Option, Some, None, Result, Ok, bytes_eq}
use Rattle.std.specs.List.{list_any}
use Rattle.syn_lex.specs.Lines.{is_nil}
use Rattle.syn_aiger_files.specs.declared.fault.AigFault.{AigFault}
use Rattle.syn_aiger_files.specs.declared.fault.AigFault.TheVariants as faults
use Rattle.syn_aiger_files.specs.Texts.{Line, behind, front, number_of}
use Rattle.syn_aiger_files.specs.Files.{Header, Place, OfInput, OfLatch, OfOutput, OfBad, OfConstraint, Symbol}
use Rattle.syn_aiger_files.specs.Parts.{and_then, if_some}

-- `i`, `l`, `o`, `b` and `c` begin a symbol
abbrev pub place_of : ℕ → Option Place
place_of b = if b == 105 then Some OfInput else if b == 108 then Some OfLatch else if b == 111 then Some OfOutput else if b == 98 then Some OfBad else if b == 99 then Some OfConstraint else None

-- the letter of a place
abbrev pub letter_of : Place → ℕ
letter_of OfInput = 105
letter_of OfLatch = 108
letter_of OfOutput = 111
letter_of OfBad = 98
letter_of OfConstraint = 99

-- how many there are
abbrev pub count_of : Header → Place → ℕ
count_of h OfInput = h.inputs
count_of h OfLatch = h.latches
count_of h OfOutput = h.outputs
count_of h OfBad = h.further.bad
count_of h OfConstraint = h.further.constraints

-- a symbol is of this place and index
abbrev pub is_at : Place → ℕ → Symbol → Bool
is_at place index symbol = letter_of symbol.place == letter_of place && symbol.index == index

-- the symbol of a place, an index and a name: the index is in range and has none yet, and the name isn't empty
abbrev pub symbol_at : Header → List Symbol → Option Place → Option ℕ → List ℕ → Option Symbol
symbol_at h given None index name = None
symbol_at h given (Some place) None name = None
symbol_at h given (Some place) (Some index) name =
    if nat_lt index (count_of h place) && (not (list_any (is_at place index) given) && not (is_nil name))
    then Some (record { place = place; index = index; name = name })
    else None

-- The symbol that a line says where these were given above: a letter, an index, a blank, and the name, which is all the rest.
abbrev pub symbol_of : Header → List Symbol → List ℕ → Option Symbol
symbol_of h given [] = None
symbol_of h given (b ∷ bs) = symbol_at h given (place_of b) (number_of (front 32 bs)) (behind 32 bs)

-- the line `c`, behind which there are only comments
abbrev pub begins_comments : List ℕ → Bool
begins_comments text = bytes_eq text (99 ∷ [])

-- The symbols on lines up to the comments, or the first line that is none, by its place.
abbrev pub symbols_of : Header → List Symbol → List Line → Result (List Symbol) AigFault
symbols_of h given [] = Ok []
symbols_of h given (line ∷ lines) =
    if begins_comments line.text then Ok []
    else if_some (faults.Symbol line.at) (symbol_of h given line.text) (λ symbol. and_then (symbols_of h (symbol ∷ given) lines) (λ symbols. Ok (symbol ∷ symbols)))
