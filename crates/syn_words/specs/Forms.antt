-- Forms: what may stand behind a command's name, read word by word.
use Rattle.std.specs.Prelude.{ℕ, true, false, Bool, ◌&&◌, not, is_some, if◌then◌else◌, List, [], ◌∷◌, Option, Some, None, Result, Ok, Err, bytes_eq}
use Rattle.syn_lex.specs.Words.{Word}
use Rattle.syn_words.specs.Numbers.{number_at}
use Rattle.syn_words.specs.Formats.{format_of}
use Rattle.syn_words.specs.Table.{entry_in, table}
use Rattle.syn_words.specs.Flags.{Flags, are_flags, letters_of, with_flags}
use Rattle.syn_words.specs.declared.forms.Form.{Form}
use Rattle.syn_words.specs.declared.forms.Numbered.{Numbered}
use Rattle.syn_words.specs.declared.forms.NumberRange.{NumberRange}
use Rattle.syn_words.specs.declared.forms.Operands.{Operands}
use Rattle.syn_words.specs.declared.forms.Operands.TheVariants as operands
use Rattle.syn_words.specs.declared.formats.Format.{Format}
use Rattle.syn_words.specs.declared.formats.Format.TheVariants as formats
use Rattle.syn_words.specs.declared.table.Keyword.{Keyword}
use Rattle.syn_words.specs.declared.word_reader.Given.{Given}
use Rattle.syn_words.specs.declared.word_reader.Awaits.{Awaits}
use Rattle.syn_words.specs.declared.word_reader.Awaits.TheVariants as awaits
use Rattle.syn_words.specs.declared.word_reader.Progress.{Progress}
use Rattle.syn_words.specs.declared.ScriptFault.{ScriptFault}
use Rattle.syn_words.specs.declared.ScriptFault.TheVariants.{UnknownCommand, UnknownEnding, MissingWord, ExtraWord}

-- What follows on a success; a fault stays the fault.
abbrev pub and_then : {A B : Type 0} → Result A ScriptFault → (A → Result B ScriptFault) → Result B ScriptFault
and_then (Ok value) next = next value
and_then (Err fault) next = Err fault

-- The word is the option of that letter: a hyphen and the letter.
abbrev pub is_option : ℕ → List ℕ → Bool
is_option letter text = bytes_eq (45 ∷ letter ∷ []) text

-- The range of the number behind the word, where it is this option with a number.
abbrev pub number_behind : Option Numbered → List ℕ → Option NumberRange
number_behind None text = None
number_behind (Some numbered) text = if is_option numbered.letter text then Some numbered.range else None

-- Nothing was given yet.
abbrev pub nothing_given : Given
nothing_given = record { flags = (false, false, false); number = None; further = None; name = []; format = formats.Blif; other = None; numbers = (0, 0); words = []; topic = None }

-- These words were given, and nothing else.
abbrev pub all_given : List Word → Given
all_given words = record nothing_given { words = words }

-- With these options without a number.
abbrev pub put_flags : Flags → Given → Given
put_flags flags given = record given { flags = flags }

-- With this number of the first option with one.
abbrev pub put_number : ℕ → Given → Given
put_number number given = record given { number = Some number }

-- With this number of the second such option.
abbrev pub put_further : ℕ → Given → Given
put_further number given = record given { further = Some number }

-- With a file's name, and the format that its end tells.
abbrev pub put_name : List ℕ → Format → Given → Given
put_name name format given = record given { name = name; format = format }

-- With a second file's name.
abbrev pub put_other : List ℕ → Given → Given
put_other name given = record given { other = Some name }

-- With two numbers.
abbrev pub put_numbers : ℕ × ℕ → Given → Given
put_numbers numbers given = record given { numbers = numbers }

-- With what the name of a command says.
abbrev pub put_topic : Keyword → Given → Given
put_topic keyword given = record given { topic = Some keyword }

-- The words behind a name are read from here.
abbrev pub from_the_name : Progress
from_the_name = record { given = nothing_given; awaits = awaits.Options }

-- A word of options without a number, by which these are given, or one of them may not be given.
abbrev pub with_options : Option Flags → Given → Word → Result Progress ScriptFault
with_options None given word = Err (ExtraWord word.at)
with_options (Some flags) given word = Ok (record { given = put_flags flags given; awaits = awaits.Options })

-- An option with a number, once: this is awaited.
abbrev pub with_numbered : Option ℕ → Awaits → Given → Word → Result Progress ScriptFault
with_numbered given_before awaited given word = if is_some given_before then Err (ExtraWord word.at) else Ok (record { given = given; awaits = awaited })

-- The name of a command, by the row of it.
abbrev pub with_command : Option (Form × Keyword) → Given → Word → Result Progress ScriptFault
with_command None given word = Err (UnknownCommand word.at)
with_command (Some (form, keyword)) given word =
    Ok (record { given = put_topic keyword given; awaits = awaits.Nothing })

-- A file's name, by the format that its end tells.
abbrev pub with_format : Option Format → Given → Word → Result Progress ScriptFault
with_format None given word = Err (UnknownEnding word.at)
with_format (Some format) given word =
    Ok (record { given = put_name word.text format given; awaits = awaits.Nothing })

-- The first word that is no option.
abbrev pub with_first : Operands → Given → Word → Result Progress ScriptFault
with_first operands.Nothing given word = Err (ExtraWord word.at)
with_first operands.Command given word = with_command (entry_in table word.text) given word
with_first operands.Words given word = Err (ExtraWord word.at)
with_first operands.Name given word = Ok (record { given = put_name word.text given.format given; awaits = awaits.Nothing })
with_first operands.OneOrTwoNames given word = Ok (record { given = put_name word.text given.format given; awaits = awaits.SecondName })
with_first operands.NameWithFormat given word = with_format (format_of word.text) given word
with_first (operands.TwoNumbers first second) given word =
    and_then (number_at first word) (λ n. Ok (record { given = put_numbers (n, 0) given; awaits = awaits.SecondNumber second }))

-- Of a word that may be the second option with a number: it is that one, or the first word that is no option.
abbrev pub with_second : Option NumberRange → Form → Given → Word → Result Progress ScriptFault
with_second (Some range) form given word = with_numbered given.further (awaits.FurtherNumber range) given word
with_second None form given word = with_first form.operands given word

-- The same by the form's second option with a number.
abbrev pub with_further : Form → Given → Word → Result Progress ScriptFault
with_further form given word = with_second (number_behind form.numbered.1 word.text) form given word

-- Of a word that may be the first option with a number: it is that one, or a further word.
abbrev pub with_either : Option NumberRange → Form → Given → Word → Result Progress ScriptFault
with_either (Some range) form given word = with_numbered given.number (awaits.OptionNumber range) given word
with_either None form given word = with_further form given word

-- One word further, by what is awaited.
abbrev pub after_word : Form → Awaits → Given → Word → Result Progress ScriptFault
after_word form awaits.Options given word =
    if are_flags form (letters_of word.text)
    then with_options (with_flags form given.flags (letters_of word.text)) given word
    else with_either (number_behind form.numbered.0 word.text) form given word
after_word form (awaits.OptionNumber range) given word =
    and_then (number_at range word) (λ n. Ok (record { given = put_number n given; awaits = awaits.Options }))
after_word form (awaits.FurtherNumber range) given word =
    and_then (number_at range word) (λ n. Ok (record { given = put_further n given; awaits = awaits.Options }))
after_word form (awaits.SecondNumber range) given word =
    and_then (number_at range word) (λ n. Ok (record { given = put_numbers (given.numbers.0, n) given; awaits = awaits.Nothing }))
after_word form awaits.SecondName given word = Ok (record { given = put_other word.text given; awaits = awaits.Nothing })
after_word form awaits.Nothing given word = Err (ExtraWord word.at)

-- Options alone may stand.
abbrev pub ends_with_options : Operands → Bool
ends_with_options operands.Nothing = true
ends_with_options operands.Command = true
ends_with_options other = false

-- The second option without a number is missing: where it stands apart, the second one with a number stands only beside it.
abbrev pub lacks_second : Form → Given → Bool
lacks_second form given = form.apart && is_some given.further && not given.flags.1

-- No further word, where options were given.
abbrev pub without_first : Form → ℕ → Given → Result Given ScriptFault
without_first form end given = if not (lacks_second form given) && ends_with_options form.operands then Ok given else Err (MissingWord end)

-- No further word: what is awaited is missing, at the place where the words end.
abbrev pub at_end : Form → ℕ → Awaits → Given → Result Given ScriptFault
at_end form end awaits.Options given = without_first form end given
at_end form end (awaits.OptionNumber range) given = Err (MissingWord end)
at_end form end (awaits.FurtherNumber range) given = Err (MissingWord end)
at_end form end (awaits.SecondNumber range) given = Err (MissingWord end)
at_end form end awaits.SecondName given = Ok given
at_end form end awaits.Nothing given = Ok given

-- What words give by a form, or their first fault: one word after the other.
abbrev pub given_from : Form → ℕ → Progress → List Word → Result Given ScriptFault
given_from form end progress [] = at_end form end progress.awaits progress.given
given_from form end progress (word ∷ words) = and_then (after_word form progress.awaits progress.given word) (λ next. given_from form end next words)

-- Any words may stand behind a name.
abbrev pub takes_words : Operands → Bool
takes_words operands.Words = true
takes_words other = false

-- The same of all words behind a name. Where any words may stand, they are given as they are.
abbrev pub given_by : Form → ℕ → List Word → Result Given ScriptFault
given_by form end words = if takes_words form.operands then Ok (all_given words) else given_from form end from_the_name words
