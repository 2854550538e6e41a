-- Worked files of commands, with their commands or first faults.
use Rattle.std.specs.Prelude.{ℕ, false, true, List, [], ◌∷◌, ◌++◌, None, Some, codes}
use Rattle.syn_words.specs.Commands.{luts_alike, options}
use Rattle.syn_words.specs.Files.{IsCommandFile, IsFirstFileFault}
use Rattle.syn_words.specs.declared.Command.TheVariants.{Read, Write, Stats, Print, Make}
use Rattle.syn_words.specs.declared.recipes.Recipe.TheVariants.{Balance, Rewrite, Map}
use Rattle.syn_words.specs.declared.ScriptFault.TheVariants.{BadByte, UnknownCommand, MissingWord, ExtraWord, OutOfRange}

-- a text and a line feed behind it
abbrev pub line : List ℕ → List ℕ
line text = text ++ 10 ∷ []

-- a text in double quotes
abbrev pub quoted : List ℕ → List ℕ
quoted text = 34 ∷ text ++ 34 ∷ []

pub record WorkedFiles : Type 0 where
  pub empty : IsCommandFile [] []
  pub lines : IsCommandFile (line (codes "b") ++ line (codes "rw -z; ps;") ++ line [] ++ codes "ps") (Make Balance ∷ Make (Rewrite (options true false None)) ∷ Stats ∷ Stats ∷ [])
  pub comments : IsCommandFile (line (codes "# b; rw") ++ line (codes "ps # now" ++ 200 ∷ []) ++ codes "ps;#;b") (Stats ∷ Stats ∷ [])
  pub no_comment_within_a_word : IsCommandFile (codes "write_blif a#b") (Write (codes "a#b") ∷ [])
  pub carriage_returns : IsCommandFile (codes "b" ++ 13 ∷ 10 ∷ codes "ps" ++ 13 ∷ 10 ∷ []) (Make Balance ∷ Stats ∷ [])
  pub quotes : IsCommandFile (line (codes "read_blif " ++ quoted (codes "a #b; c") ++ codes "; ps")) (Read (codes "a #b; c") ∷ Stats ∷ [])
  pub quotes_around_a_plain_word : IsCommandFile (quoted (codes "b") ++ codes ";" ++ quoted (codes "ps")) (Make Balance ∷ Stats ∷ [])
  pub quotes_that_stay_open : IsCommandFile (codes "write_blif " ++ 34 ∷ codes "a b") (Write (codes "a b") ∷ [])
  pub no_quotes_within_a_word : IsCommandFile (codes "write_blif a" ++ quoted (codes "b")) (Write (codes "a" ++ quoted (codes "b")) ∷ [])
  pub echo : IsCommandFile (line (codes "echo + read_blif " ++ quoted (codes "a  b") ++ codes ";") ++ line (codes "if -K 4;")) (Print (line (codes "+ read_blif a  b")) ∷ Make (Map false (Some (luts_alike 4))) ∷ [])
  pub unknown : IsFirstFileFault (line (codes "b") ++ line (codes "# rw") ++ line (codes "  dc2 -b") ++ codes "ps") 3 (codes "dc2") (UnknownCommand 9)
  pub extra : IsFirstFileFault (line [] ++ codes "b; rw " ++ quoted (codes "a b")) 2 (codes "a b") (ExtraWord 8)
  pub missing : IsFirstFileFault (line (codes "b") ++ line (codes "read_blif") ++ codes "ps") 2 [] (MissingWord 11)
  pub out_of_range : IsFirstFileFault (line (codes "b") ++ line (codes "if -K 9")) 2 (codes "9") (OutOfRange 8)
  pub bad_byte : IsFirstFileFault (line (codes "rewrit") ++ codes "b " ++ 7 ∷ []) 2 [] (BadByte 9)
  pub high_byte : IsFirstFileFault (line (codes "b") ++ codes "echo " ++ 160 ∷ []) 2 [] (BadByte 7)
  pub line_feed_in_quotes : IsFirstFileFault (codes "echo " ++ 34 ∷ line (codes "a") ++ codes "b" ++ 34 ∷ []) 1 [] (BadByte 7)
