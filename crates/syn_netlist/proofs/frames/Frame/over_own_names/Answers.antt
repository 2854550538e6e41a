use Rattle.std.proofs.Common.{◌≡◌, ◌≤◌, List, ℕ, length, ap, arith}
use Rattle.std.proofs.lemmas.Result.{IfOk-weaker}
use Rattle.syn_netlist.proofs.Renumbering.{few_chosen}
use Rattle.syn_netlist.proofs.frames.Frame.over_own_names.Goals as goal

pub returns-clause-fewer : goal.returns-clause-fewer
returns-clause-fewer c =
    let own = c.in_ok-own.own in
    let few : length own.names ≤ length own.all.now = few_chosen own.all.now own.names own.places.items own.placed in
    let all : length own.all.now ≡ length c.args.self.now.names = ap (λ (ws : List (List ℕ)). length ws) c.in_ok-own.ensures.all in
    IfOk-weaker c.frame.result _ _ (λ f e. let same : length f.names ≡ length own.names = ap (λ (ws : List (List ℕ)). length ws) e in omega (arith, same, few, all)) c.frame.ensures.names
