use Rattle.std.proofs.Common.{sym, ◌∙◌, arith}
use Rattle.syn_fraig.proofs.Asked.{plain, plain_of}
use Rattle.syn_fraig.proofs.by_search.ask.Goals as goal

pub merge_if-requires-clause-same : goal.merge_if-requires-clause-same
merge_if-requires-clause-same c = λ e v f.
    plain_of v c.args.node ∙ sym (plain v c.args.node c.of.result (omega (arith, c.of.ensures)))
    ∙ c.in_ok-answer.ensures.same e v (c.load_cones.ensures v (c.requires.fits v f) (c.refresh.ensures c.args.rows.now c.requires.clauses v f))

pub returns-clause-merged : goal.returns-clause-merged
returns-clause-merged c = c.merge_if.ensures c.args.count c.requires.gate c.requires.merged

pub returns-clause-clauses : goal.returns-clause-clauses
returns-clause-clauses c = λ v f. c.equal.ensures.kept v (c.load_cones.ensures v (c.requires.fits v f) (c.refresh.ensures c.args.rows.now c.requires.clauses v f))
