-- Options without a number: a word has a hyphen and then one or more of their letters.
use Rattle.std.specs.Prelude.{ℕ, nat_lt, true, false, Bool, ◌&&◌, ◌||◌, ◌==◌, if◌then◌else◌, List, [], ◌∷◌, length, Option, Some, None}
use Rattle.std.specs.List.{list_all}
use Rattle.std.specs.Option.{option_and_then}
use Rattle.syn_words.specs.declared.forms.Form.{Form}

-- Which of a form's options without a number were given.
abbrev pub Flags : Type 0
Flags = Bool × Bool × Bool

-- The byte is this letter, where there is one.
abbrev pub is_letter : Option ℕ → ℕ → Bool
is_letter None byte = false
is_letter (Some letter) byte = letter == byte

-- The byte is the letter of one of the form's options without a number.
abbrev pub is_flag : Form → ℕ → Bool
is_flag form byte = is_letter form.flags.0 byte || is_letter form.flags.1 byte || is_letter form.flags.2 byte

-- What stands behind a word's hyphen; nothing, where the word doesn't begin with one.
abbrev pub letters_of : List ℕ → List ℕ
letters_of [] = []
letters_of (byte ∷ bytes) = if byte == 45 then bytes else []

-- One or more letters of options without a number, and nothing else.
abbrev pub are_flags : Form → List ℕ → Bool
are_flags form letters = nat_lt 0 (length letters) && list_all (is_flag form) letters

-- These, unless the option may not be given.
abbrev pub unless : Bool → Flags → Option Flags
unless barred flags = if barred then None else Some flags

-- The options that are given with one more, by its letter, unless it was given before; where the second stands apart it is not given beside another.
abbrev pub with_flag : Form → Flags → ℕ → Option Flags
with_flag form flags letter =
    if is_letter form.flags.0 letter then unless (flags.0 || (form.apart && flags.1)) (true, flags.1, flags.2)
    else (if is_letter form.flags.1 letter then unless (flags.1 || (form.apart && (flags.0 || flags.2))) (flags.0, true, flags.2)
    else unless (flags.2 || (form.apart && flags.1)) (flags.0, flags.1, true))

-- The options that are given with those of letters, one after the other, unless one of them may not be given.
abbrev pub with_flags : Form → Flags → List ℕ → Option Flags
with_flags form flags [] = Some flags
with_flags form flags (letter ∷ letters) = option_and_then (λ given. with_flags form given letters) (with_flag form flags letter)
