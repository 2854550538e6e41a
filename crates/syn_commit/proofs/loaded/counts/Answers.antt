use Rattle.std.proofs.Common.{refl, ap, ◌∙◌}
use Rattle.syn_core_laws.specs.declared.View.{View}
use Rattle.syn_decide.specs.Tasks.{task_of}
use Rattle.syn_table.specs.Seating.{nodes_of, view_of}
use Rattle.syn_table.specs.Steps.{with_view}
use Rattle.syn_commit.proofs.Keeping.{count_keeps}
use Rattle.syn_commit.proofs.Loads.{count_asked, count_falls, count_goes_on, count_held, count_loads, counting_ends, none_loaded}
use Rattle.syn_commit.proofs.loaded.counts.Goals as goal

pub loop-node-init : goal.loop-node-init
loop-node-init c = record {
  known = refl;
  misses = refl;
  way = c.requires.way;
  past = c.requires.past;
  loaded = none_loaded (nodes_of c.args.trial.now.shared.now) (view_of c.args.seat.now) c.args.deciding.now c.requires.uncounted;
}

pub load_count-requires-clause-held : goal.load_count-requires-clause-held
load_count-requires-clause-held c =
    count_held (task_of c.args.trial.now.attempt) (view_of c.args.trial.now.start.now.value) (view_of c.loop-node.seat) c.args.trial.now.pool.now c.args.pins.now.items c.loop-node.deciding c.loop-node.invariant.way.trying c.in-Some.node
    (count_asked c.loop-node.deciding c.in-Some.node c.in-Some.ensures.some)

pub loop-node-preserved : goal.loop-node-preserved
loop-node-preserved c =
    let n = c.in-Some.node in
    let asked = count_asked c.loop-node.deciding n c.in-Some.ensures.some in
    let t = task_of c.args.trial.now.attempt in
    record {
      known = c.load_count.ensures.known ∙ ap (λ k. with_view k (view_of c.load_count.new.seat)) c.loop-node.invariant.known;
      misses = ap (λ (v : View). v.misses) c.load_count.ensures.counted.1 ∙ c.loop-node.invariant.misses;
      way = record {
        table = c.load_count.ensures.table;
        trying = count_goes_on t (view_of c.args.trial.now.start.now.value) (view_of c.loop-node.seat) c.args.trial.now.pool.now c.args.pins.now.items c.loop-node.deciding c.loop-node.invariant.way.trying n asked
            (nodes_of c.args.trial.now.shared.now) (view_of c.load_count.new.seat) c.load_count.new.deciding c.load_count.ensures.counted;
        keyed = count_keeps t (view_of c.args.trial.now.start.now.value) (view_of c.loop-node.seat) c.args.trial.now.pool.now c.args.pins.now.items c.loop-node.deciding c.loop-node.invariant.way.trying c.loop-node.invariant.way.keyed n asked
            (nodes_of c.args.trial.now.shared.now) (view_of c.load_count.new.seat) c.load_count.new.deciding c.load_count.ensures.counted;
      };
      past = (count_falls t (view_of c.args.trial.now.start.now.value) (view_of c.loop-node.seat) c.args.trial.now.pool.now c.args.pins.now.items c.loop-node.deciding c.loop-node.invariant.way.trying n asked
          (nodes_of c.args.trial.now.shared.now) (view_of c.load_count.new.seat) c.load_count.new.deciding c.load_count.ensures.counted).1;
      loaded = count_loads t (view_of c.args.trial.now.start.now.value) (view_of c.loop-node.seat) c.args.trial.now.pool.now c.args.pins.now.items c.loop-node.deciding c.loop-node.invariant.way.trying n asked
          (nodes_of c.args.trial.now.shared.now) (view_of c.load_count.new.seat) c.load_count.new.deciding c.loop-node.invariant.loaded c.load_count.ensures.counted;
    }

pub returns-clause-ended : goal.returns-clause-ended
returns-clause-ended c =
    counting_ends (task_of c.args.trial.now.attempt) (view_of c.args.trial.now.start.now.value) (view_of c.loop-node.seat) c.loop-node.deciding c.loop-node.invariant.way.trying.reads c.loop-node.invariant.past c.in_default.ensures.none

pub loop-node-smaller : goal.loop-node-smaller
loop-node-smaller c =
    (count_falls (task_of c.args.trial.now.attempt) (view_of c.args.trial.now.start.now.value) (view_of c.loop-node.seat) c.args.trial.now.pool.now c.args.pins.now.items c.loop-node.deciding c.loop-node.invariant.way.trying c.in-Some.node
    (count_asked c.loop-node.deciding c.in-Some.node c.in-Some.ensures.some) (nodes_of c.args.trial.now.shared.now) (view_of c.load_count.new.seat) c.load_count.new.deciding c.load_count.ensures.counted).0
