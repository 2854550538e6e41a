-- The commands of a file as a script of the same length: line feeds become semicolons, comments and the quotes of words blanks, and what would part words within quotes is held as a byte above 127.
use Rattle.std.specs.Prelude.{ℕ, ◌+◌, ◌-◌, nat_lt, min, ◌||◌, ◌==◌, Bool, if◌then◌else◌, List, [], ◌∷◌, ◌++◌}
use Rattle.syn_words.specs.declared.quotes.Place.{Place}
use Rattle.syn_words.specs.declared.quotes.Place.TheVariants as places

-- A byte that parts words within a command: a blank, a tab or a CR.
abbrev pub is_blank : ℕ → Bool
is_blank b = b == 32 || b == 9 || b == 13

-- A byte that parts words or commands: also a line feed or a semicolon.
abbrev pub parts : ℕ → Bool
parts b = is_blank b || b == 10 || b == 59

-- Where the byte behind this one stands, where a word could begin with this one: so does a comment, and a word in quotes.
abbrev pub behind_gap : ℕ → Place
behind_gap b = if b == 35 then places.Comment else (if b == 34 then places.Quotes else (if parts b then places.Between else places.Word))

-- This place, or that between words where it ends.
abbrev pub unless : Bool → Place → Place
unless ends place = if ends then places.Between else place

-- Where the byte behind this one stands: quotes end at the next quote, a comment ends with its line.
abbrev pub next_place : Place → ℕ → Place
next_place places.Between b = behind_gap b
next_place places.Word b = unless (parts b) places.Word
next_place places.Quotes b = unless (b == 34) places.Quotes
next_place places.Comment b = unless (b == 10) places.Comment

-- A byte as it stands in a script, where one above 126 becomes 127, which may not stand in one.
abbrev pub plain : ℕ → ℕ
plain b = min b 127

-- The same of one that ends a command where it is a line feed.
abbrev pub ending : ℕ → ℕ
ending b = if b == 10 then 59 else plain b

-- The same of one within quotes: blanks and semicolons are held.
abbrev pub held : ℕ → ℕ
held b = if b == 34 then 32 else (if is_blank b || b == 59 then plain b + 128 else plain b)

-- The same of one with which a word could begin: what begins a word in quotes or a comment is a blank.
abbrev pub opening : ℕ → ℕ
opening b = if b == 34 || b == 35 then 32 else ending b

-- The same of one in a comment: all but its end are blanks.
abbrev pub hidden : ℕ → ℕ
hidden b = if b == 10 then 59 else 32

-- What a byte becomes by where it stands.
abbrev pub shown : Place → ℕ → ℕ
shown places.Between b = opening b
shown places.Word b = ending b
shown places.Quotes b = held b
shown places.Comment b = hidden b

-- The script of the commands of a file from a place on, behind what was made before.
abbrev pub script_after : List ℕ → Place → List ℕ → List ℕ
script_after made place [] = made
script_after made place (b ∷ bs) = script_after (made ++ shown place b ∷ []) (next_place place b) bs

-- The script of the commands of a file.
abbrev pub script_of : List ℕ → List ℕ
script_of text = script_after [] places.Between text

-- A byte of a word as it is meant: one that was held is what it was.
abbrev pub meant : ℕ → ℕ
meant b = if nat_lt 127 b then b - 128 else b
