use Rattle.std.proofs.Common.{◌++◌, ◌∷◌, [], OnOk, subst}
use Rattle.syn_aiger.specs.Keeping.{Keeps}
use Rattle.syn_aiger.specs.Naming.{Named}
use Rattle.syn_aiger.proofs.Seeking.{feed_again, feed_new}
use Rattle.syn_aiger.proofs.names.name_feed.Goals as goal

pub returns-in-Some-clause-keeps : goal.returns-in-Some-clause-keeps
returns-in-Some-clause-keeps c known more k e =
    let f = feed_again c.args.file.now.aig c.args.file.now.sound c.args.index c.args.next c.in-Some.s known more e c.in-Some.ensures.some.0 c.in-Some.ensures.some.1 in
    c.again.ensures.keeps known _ k f.0 f.1

pub returns-in_ok-first-in-None-clause-keeps : goal.returns-in_ok-first-in-None-clause-keeps
returns-in_ok-first-in-None-clause-keeps c known more k e =
    subst (λ (n : Named). OnOk c.name.result (Keeps c.name.new.self (known ++ n ∷ [])))
    (feed_new c.args.file.now.aig c.args.file.now.sound c.args.index c.args.next known c.in_ok-first-in-None.first.items c.in-None.ensures.none c.in_ok-first-in-None.ensures.name)
    (c.name.ensures.keeps known k)
