use Rattle.syn_area.proofs.Visiting.{candidates_push}
use Rattle.syn_area.proofs.rounds.push_cut.Goals as goal

pub returns : goal.returns
returns c = λ k node rows all is. candidates_push k rows node c.args.cuts.now.items _ c.args.cut c.push.ensures.items all is
