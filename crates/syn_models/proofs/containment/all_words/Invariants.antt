use Rattle.std.proofs.Common.{◌≡◌, ◌++◌, map, drop}
use Rattle.syn_models.specs.Contained.{words_by}
use Rattle.syn_models.proofs.containment.all_words.Given as goal

abbrev pub invariant-loop-m : goal.invariant-loop-m
invariant-loop-m l = l.words.items ++ map words_by (drop l.m-index l.models) ≡ map words_by l.models
