use Rattle.std.proofs.lemmas.Result.{IfOk-weaker}
use Rattle.syn_remaking.proofs.Results.{OnOk-of}
use Rattle.syn_mfs.proofs.questions.ask.Goals as goal

pub returns-clause-same : goal.returns-clause-same
returns-clause-same c = IfOk-weaker c.equal.result _ _ (λ a p e v f. p e v (c.load_nearest.ensures v f (c.in_ok-refresh.ensures c.requires.clauses v f))) c.equal.ensures.same

pub returns-clause-clauses : goal.returns-clause-clauses
returns-clause-clauses c = OnOk-of c.equal.result (λ v f. c.equal.ensures.kept v (c.load_nearest.ensures v f (c.in_ok-refresh.ensures c.requires.clauses v f)))
