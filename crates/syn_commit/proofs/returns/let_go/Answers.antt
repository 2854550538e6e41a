use Rattle.std.proofs.Common.{◌≡◌, ◌++◌, ◌∷◌, [], sym, ap, ◌∙◌, subst, rules}
use Rattle.syn_core_laws.specs.Views.{released}
use Rattle.syn_table.specs.declared.Known.{Known}
use Rattle.syn_table.specs.Seating.{known_of, nodes_of, view_of}
use Rattle.syn_table.specs.Steps.{with_view}
use Rattle.syn_commit.specs.Giving.{IsGiving, IsLetGo}
use Rattle.syn_commit.proofs.Draining.{let_go_on, one_gone}
use Rattle.syn_commit.proofs.returns.let_go.Goals as goal

pub loop-gate-preserved : goal.loop-gate-preserved
loop-gate-preserved c =
    let e = c.in-Some.gate in
    let v = view_of c.loop-gate.seat in
    let items : c.loop-gate.holding.gates.items ≡ c.pop.new.self.items ++ e ∷ [] = search rules in
    let gone : view_of c.release.new.seat ≡ released v e.node = ap (λ (k : Known). k.core) c.release.ensures.known in
    record {
      table = c.release.ensures.table;
      known = c.release.ensures.known ∙ (ap (λ k. with_view k (released v e.node)) c.loop-gate.invariant.known ∙ ap (λ y. with_view (known_of c.args.seat.now) y) (sym gone));
      giving = subst (IsGiving c.args.pool.now [] c.pop.new.self.items []) (sym gone)
          (one_gone (nodes_of c.args.shared.now) c.args.pool.now c.pop.new.self.items e v c.seats_reach_nodes.ensures.shown (subst (λ gs. IsGiving c.args.pool.now [] gs [] v) items c.loop-gate.invariant.giving));
      let_go = subst (IsLetGo (view_of c.args.seat.now)) (sym gone) (let_go_on (view_of c.args.seat.now) v e.node c.loop-gate.invariant.let_go);
    }
