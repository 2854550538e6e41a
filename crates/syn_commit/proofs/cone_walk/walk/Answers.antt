use Rattle.std.proofs.Common.{[], sym, subst}
use Rattle.syn_core_laws.specs.declared.View.{View}
use Rattle.syn_decide.specs.Tasks.{task_of}
use Rattle.syn_table.specs.Seating.{nodes_of, view_of}
use Rattle.syn_commit.specs.Stages.{IsTrying}
use Rattle.syn_commit.proofs.Handing.{nothing_idle}
use Rattle.syn_commit.proofs.Loads.{walk_over}
use Rattle.syn_commit.proofs.cone_walk.walk.Goals as goal

pub returns-clause-walked : goal.returns-clause-walked
returns-clause-walked c =
    let t = task_of c.args.trial.now.attempt in
    let v = view_of c.args.seat.now in
    let idle = nothing_idle (nodes_of c.args.trial.now.shared.now) v c.args.trial.now.pool.now c.seats_reach_nodes.ensures.shown c.requires.pool c.requires.alone in
    let walking = c.load_rows.ensures.walking in
    record {
      table = c.load_rows.ensures.table;
      trying = subst (λ (s : View). IsTrying t s c.args.trial.now.pool.now [] (view_of c.load_rows.new.seat) c.load_rows.new.deciding) (sym c.requires.start)
          (walk_over t v (view_of c.load_rows.new.seat) c.args.trial.now.pool.now c.load_rows.new.deciding walking c.requires.pins idle);
      past = c.load_rows.ensures.past;
      waits = walking.keys;
      no_hits = walking.hits;
      uncounted = walking.counts;
    }
