use Rattle.std.proofs.Common.{◌≡◌, subst, sym}
use Rattle.std.specs.List.{All}
use Rattle.std.proofs.lemmas.List.Elements.{All-push}
use Rattle.syn_plan.proofs.tables.Tables.push.Goals as goal

pub invariant_of-self-clause-alike : goal.invariant_of-self-clause-alike
invariant_of-self-clause-alike g c =
    subst (λ tables. All (λ t. t.vars ≡ c.args.self.now.vars) tables) (sym c.push.ensures.items)
    (All-push (λ t. t.vars ≡ c.args.self.now.vars) c.args.self.now.items.items c.args.table c.args.self.now.alike c.requires.vars)
