use Rattle.std.proofs.Common.{◌≡◌, ◌+◌, suc, refl, arith}
use Rattle.syn_decide.proofs.Sweeping.{made_more}
use Rattle.syn_decide.proofs.decisions.Cone.make_word.Goals as goal

pub returns-clause-made : goal.returns-clause-made
returns-clause-made c = λ steps h.
    made_more c.args.self.now steps (steps + 1) c.args.place c.in-Some.word _ c.args.words.now _
    (let more : steps + 1 ≡ suc steps = omega arith in more) c.requires.inner c.in-Some.ensures refl h
