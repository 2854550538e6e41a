use Rattle.std.proofs.Common.{◌≡◌, sym, ap, ◌∙◌}
use Rattle.syn_core_laws.specs.declared.Seen.TheVariants as seen
use Rattle.syn_core_laws.specs.Views.{count_loaded}
use Rattle.syn_decide.specs.Fold.{read_one}
use Rattle.syn_decide.specs.Tasks.{task_of}
use Rattle.syn_table.specs.declared.Known.{Known}
use Rattle.syn_table.specs.Seating.{known_of, nodes_of, view_of}
use Rattle.syn_commit.proofs.Happening.{count_covers}
use Rattle.syn_commit.proofs.loaded.load_count.Goals as goal

pub returns-clause-counted : goal.returns-clause-counted
returns-clause-counted c =
    let nodes = nodes_of c.args.shared.now in
    let count = c.refs_of-count.result in
    let view : view_of c.refs_of-count.new.seat ≡ count_loaded nodes (view_of c.args.seat.now) c.args.node count = ap (λ (k : Known). k.core) c.refs_of-count.ensures.known in (
      count,
      view,
      c.read.ensures ∙ ap (λ own. read_one (task_of c.args.attempt.now) c.args.deciding.now (seen.Count c.args.node count own)) (c.times_in-own.ensures ∙ sym c.requires.pins),
      count_covers nodes (known_of c.args.seat.now) c.args.node count (view_of c.refs_of-count.new.seat) c.seats_reach_nodes.ensures.opening c.refs_of-count.ensures.event view,
    )
