use Rattle.std.proofs.Common.{◌≡◌, ◌<◌, false, length, refl, sym, ap, ◌∙◌, subst, inl, inr}
use Rattle.syn_rows.specs.Nodes.{has_node}
use Rattle.syn_decide.specs.declared.decisions.Decision.TheVariants as decision
use Rattle.syn_decide.specs.Tasks.{task_of}
use Rattle.syn_table.specs.Seating.{IsOf, known_of, nodes_of, view_of}
use Rattle.syn_table.specs.Steps.{with_view}
use Rattle.syn_table.specs.declared.Known.{Known}
use Rattle.syn_commit.proofs.Sole.{entered_sole}
use Rattle.syn_commit.proofs.Entering.{row_asked, entered_free, entered_reach, falls, fits_begins, room_begins, walk_begins, walk_fits, walk_goes_on}
use Rattle.syn_commit.proofs.cone_walk.load_rows.Goals as goal

pub loop-node-init : goal.loop-node-init
loop-node-init c = record {
  table = c.requires.table;
  known = refl;
  walked = walk_begins (task_of c.args.trial.now.attempt) _ _ _ c.requires.pool c.requires.alone c.requires.state;
  room = room_begins (task_of c.args.trial.now.attempt) _ c.requires.state;
  fits = fits_begins (task_of c.args.trial.now.attempt) _ c.requires.state;
  sole = λ all. refl;
}

pub enter-requires-clause-node : goal.enter-requires-clause-node
enter-requires-clause-node c =
    let n = c.in-Next-Row.node in
    let asked = row_asked c.wants.result c.loop-node.deciding n c.wants.ensures (c.in-Next-Row.is ∙ ap decision.Next c.in-Next-Row.field-0-is) in
    elim (entered_reach (task_of c.args.trial.now.attempt) (view_of c.args.seat.now) (view_of c.loop-node.seat) c.args.trial.now.pool.now c.loop-node.deciding c.loop-node.invariant.walked n asked.0 asked.1) [
      | inl root ↦ subst (λ k. k < nodes_of c.args.trial.now.shared.now) (sym root) c.requires.root
      | inr may ↦ c.seats_reach_nodes.ensures.reach n (inr may)
    ]

pub enter-requires-clause-free : goal.enter-requires-clause-free
enter-requires-clause-free c =
    let n = c.in-Next-Row.node in
    let asked = row_asked c.wants.result c.loop-node.deciding n c.wants.ensures (c.in-Next-Row.is ∙ ap decision.Next c.in-Next-Row.field-0-is) in
    entered_free (task_of c.args.trial.now.attempt) (view_of c.args.seat.now) (view_of c.loop-node.seat) c.args.trial.now.pool.now c.loop-node.deciding c.loop-node.invariant.walked n asked.0 asked.1
    (nodes_of c.args.trial.now.shared.now) c.seats_reach_nodes.ensures.shown c.requires.enters c.requires.not_spare

pub loop-node-smaller : goal.loop-node-smaller
loop-node-smaller c =
    let n = c.in-Next-Row.node in
    let asked = row_asked c.wants.result c.loop-node.deciding n c.wants.ensures (c.in-Next-Row.is ∙ ap decision.Next c.in-Next-Row.field-0-is) in
    (falls (task_of c.args.trial.now.attempt) (nodes_of c.args.trial.now.shared.now) (length (known_of c.loop-node.seat).numbers) n (view_of c.loop-node.seat) (view_of c.enter.new.seat) c.loop-node.deciding c.enter.new.deciding asked.0 asked.1 c.loop-node.invariant.room c.enter.ensures.entered).0

pub loop-node-preserved : goal.loop-node-preserved
loop-node-preserved c =
    let n = c.in-Next-Row.node in
    let asked = row_asked c.wants.result c.loop-node.deciding n c.wants.ensures (c.in-Next-Row.is ∙ ap decision.Next c.in-Next-Row.field-0-is) in
    let none : has_node (view_of c.loop-node.seat).held n ≡ false =
    entered_free (task_of c.args.trial.now.attempt) (view_of c.args.seat.now) (view_of c.loop-node.seat) c.args.trial.now.pool.now c.loop-node.deciding c.loop-node.invariant.walked n asked.0 asked.1
    (nodes_of c.args.trial.now.shared.now) c.seats_reach_nodes.ensures.shown c.requires.enters c.requires.not_spare in
    let table : IsOf c.enter.new.seat c.args.trial.now.shared.now = c.enter.ensures.table in
    let known : known_of c.enter.new.seat ≡ with_view (known_of c.args.seat.now) (view_of c.enter.new.seat) = c.enter.ensures.known ∙ ap (λ k. with_view k (view_of c.enter.new.seat)) c.loop-node.invariant.known in
    record {
      table = table;
      known = known;
      walked = walk_goes_on (task_of c.args.trial.now.attempt) (view_of c.args.seat.now) (view_of c.loop-node.seat) c.args.trial.now.pool.now c.loop-node.deciding c.loop-node.invariant.walked n asked.0 asked.1 none
          (nodes_of c.args.trial.now.shared.now) (length (known_of c.loop-node.seat).numbers) (view_of c.enter.new.seat) c.enter.new.deciding c.enter.ensures.entered;
      room = (falls (task_of c.args.trial.now.attempt) (nodes_of c.args.trial.now.shared.now) (length (known_of c.loop-node.seat).numbers) n (view_of c.loop-node.seat) (view_of c.enter.new.seat) c.loop-node.deciding c.enter.new.deciding asked.0 asked.1 c.loop-node.invariant.room c.enter.ensures.entered).1;
      fits = walk_fits (task_of c.args.trial.now.attempt) (view_of c.args.seat.now) (view_of c.loop-node.seat) c.args.trial.now.pool.now c.loop-node.deciding c.loop-node.invariant.walked n asked.0 asked.1 none
          (nodes_of c.args.trial.now.shared.now) (length (known_of c.loop-node.seat).numbers) (view_of c.enter.new.seat) c.enter.new.deciding c.requires.enters c.enter.ensures.entered;
      sole = λ all. entered_sole (task_of c.args.trial.now.attempt) (nodes_of c.args.trial.now.shared.now) (length (known_of c.loop-node.seat).numbers) n (view_of c.loop-node.seat) c.loop-node.deciding (view_of c.enter.new.seat) c.enter.new.deciding (ap (λ (k : Known). length k.numbers) c.loop-node.invariant.known ∙ all) c.enter.ensures.entered ∙ c.loop-node.invariant.sole all;
    }
