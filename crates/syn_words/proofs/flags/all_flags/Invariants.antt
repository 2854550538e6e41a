use Rattle.std.proofs.Common.{◌≡◌, drop}
use Rattle.std.specs.List.{list_all}
use Rattle.syn_words.specs.Flags.{is_flag}
use Rattle.syn_words.proofs.flags.all_flags.Given as goal

abbrev pub invariant-loop-letter : goal.invariant-loop-letter
invariant-loop-letter l = list_all (is_flag l.form) (drop l.letter-index l.letters) ≡ list_all (is_flag l.form) l.letters
