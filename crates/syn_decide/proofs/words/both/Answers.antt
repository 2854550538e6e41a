use Rattle.std.proofs.Common.{Some, take, ap, ap₂, sym, ◌∙◌}
use Rattle.syn_truth.specs.Truth.{minterm_of}
use Rattle.syn_truth.proofs.Operations.{and_at}
use Rattle.syn_core_laws.specs.SameValue.{both}
use Rattle.syn_decide.specs.Words.{word_value}
use Rattle.syn_decide.proofs.words.both.Goals as goal

pub returns-in-Some-second : goal.returns-in-Some-second
returns-in-Some-second c = λ last xs l e.
    ap Some (and_at c.in-Some.a c.in-Some-second.b (minterm_of (take 7 xs)))
    ∙ sym (ap₂ (λ v w. both (word_value xs v) (word_value xs w)) c.in-Some.is c.in-Some-second.is)
