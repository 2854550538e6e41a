use Rattle.std.proofs.Common.{sym, subst}
use Rattle.syn_area.specs.Kept.{IsKept}
use Rattle.syn_area.proofs.Visiting.{listed_push}
use Rattle.syn_area.proofs.lists.Lists.push.Goals as goal

pub returns : goal.returns
returns c = λ rows all kept. listed_push rows c.args.self.now.listed.items _ _ c.in_ok-push.ensures.items all (subst (IsKept rows c.args.node) (sym c.copied.ensures) kept)
