-- The words of a command. A word is the offset of its first byte in the text, and its bytes.
use Rattle.std.specs.Prelude.{ℕ, List}
use Rattle.syn_lex.specs.Words.{Word, words_by}
use Rattle.syn_words.specs.Bytes.{is_word_byte}

-- The words of bytes that begin at an offset: the longest runs of word bytes.
abbrev pub words_at : ℕ → List ℕ → List Word
words_at at bytes = words_by is_word_byte at bytes
