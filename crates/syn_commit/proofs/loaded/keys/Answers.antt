use Rattle.std.proofs.Common.{◌≤◌, length, refl, sym, ap, ◌∙◌, subst}
use Rattle.syn_decide.specs.Tasks.{task_of}
use Rattle.syn_table.specs.Seating.{view_of}
use Rattle.syn_table.specs.Steps.{with_view}
use Rattle.syn_commit.proofs.Loads.{key_asked, key_falls, key_goes_on, key_held, key_may, key_uncounted, keying_begins, keying_ends}
use Rattle.syn_commit.specs.Keyed.{IsKeyedSoFar}
use Rattle.syn_commit.specs.Stages.{IsTrying}
use Rattle.syn_commit.proofs.Keyings.{key_keeps, keys_begin}
use Rattle.syn_commit.proofs.Sole.{keyed_misses}
use Rattle.syn_commit.proofs.loaded.keys.Goals as goal

pub loop-node-init : goal.loop-node-init
loop-node-init c =
    let t = task_of c.args.trial.now.attempt in
    let few : length c.args.trial.now.attempt.candidate.leaves.now ≤ 8 = c.args.trial.now.attempt.leaves_are_few in
    let walked = c.requires.walked in
    let trying : IsTrying t (view_of c.args.trial.now.start.now.value) c.args.trial.now.pool.now c.args.pins.now.items (view_of c.args.seat.now) c.args.deciding.now =
    subst (λ ps. IsTrying t (view_of c.args.trial.now.start.now.value) c.args.trial.now.pool.now ps (view_of c.args.seat.now) c.args.deciding.now) (sym c.requires.none) walked.trying in
    record {
      known = refl;
      misses = refl;
      way = record {
        table = walked.table;
        trying = trying;
        keyed = subst (λ ps. IsKeyedSoFar t ps (view_of c.args.seat.now) c.args.deciding.now) (sym c.requires.none)
            (keys_begin t (view_of c.args.trial.now.start.now.value) (view_of c.args.seat.now) c.args.deciding.now walked.trying.reads walked.waits walked.no_hits walked.uncounted);
      };
      keying = keying_begins t _ _ _ _ _ trying c.requires.none few walked.past;
      uncounted = walked.uncounted;
    }

pub load_key-requires-clause-may : goal.load_key-requires-clause-may
load_key-requires-clause-may c =
    let asked = key_asked c.loop-node.deciding c.in-Some.node c.in-Some.ensures.some in
    key_may (task_of c.args.trial.now.attempt) (view_of c.args.trial.now.start.now.value) (view_of c.loop-node.seat) c.args.trial.now.pool.now c.loop-node.pins.items c.loop-node.deciding c.loop-node.invariant.way.trying c.in-Some.node asked.0 asked.1

pub load_key-requires-clause-held : goal.load_key-requires-clause-held
load_key-requires-clause-held c =
    let asked = key_asked c.loop-node.deciding c.in-Some.node c.in-Some.ensures.some in
    key_held (task_of c.args.trial.now.attempt) (view_of c.args.trial.now.start.now.value) (view_of c.loop-node.seat) c.args.trial.now.pool.now c.loop-node.pins.items c.loop-node.deciding c.loop-node.invariant.way.trying c.in-Some.node asked.0 asked.1 c.requires.enters

pub loop-node-preserved : goal.loop-node-preserved
loop-node-preserved c =
    let n = c.in-Some.node in
    let asked = key_asked c.loop-node.deciding n c.in-Some.ensures.some in
    let t = task_of c.args.trial.now.attempt in
    record {
      known = c.load_key.ensures.known ∙ ap (λ k. with_view k (view_of c.load_key.new.seat)) c.loop-node.invariant.known;
      misses = keyed_misses t n (view_of c.loop-node.seat) c.loop-node.pins.items c.loop-node.deciding (view_of c.load_key.new.seat) c.load_key.new.pins.items c.load_key.new.deciding c.load_key.ensures.keyed ∙ c.loop-node.invariant.misses;
      way = record {
        table = c.load_key.ensures.table;
        trying = key_goes_on t (view_of c.args.trial.now.start.now.value) (view_of c.loop-node.seat) c.args.trial.now.pool.now c.loop-node.pins.items c.loop-node.deciding c.loop-node.invariant.way.trying n asked.0 asked.1
            (view_of c.load_key.new.seat) c.load_key.new.pins.items c.load_key.new.deciding c.load_key.ensures.keyed;
        keyed = key_keeps t (view_of c.args.trial.now.start.now.value) (view_of c.loop-node.seat) c.args.trial.now.pool.now c.loop-node.pins.items c.loop-node.deciding c.requires.enters c.loop-node.invariant.way.trying c.loop-node.invariant.way.keyed n asked.0 asked.1
            (view_of c.load_key.new.seat) c.load_key.new.pins.items c.load_key.new.deciding c.load_key.ensures.keyed;
      };
      keying = (key_falls t (view_of c.args.trial.now.start.now.value) (view_of c.loop-node.seat) c.args.trial.now.pool.now c.loop-node.pins.items c.loop-node.deciding c.loop-node.invariant.way.trying n asked.0 asked.1
          (view_of c.load_key.new.seat) c.load_key.new.pins.items c.load_key.new.deciding c.loop-node.invariant.keying c.load_key.ensures.keyed).1;
      uncounted = key_uncounted t (view_of c.loop-node.seat) c.loop-node.pins.items c.loop-node.deciding n asked.0 asked.1 (view_of c.load_key.new.seat) c.load_key.new.pins.items c.load_key.new.deciding c.load_key.ensures.keyed
          ∙ c.loop-node.invariant.uncounted;
    }

pub returns-clause-past : goal.returns-clause-past
returns-clause-past c =
    keying_ends (task_of c.args.trial.now.attempt) (view_of c.args.trial.now.start.now.value) (view_of c.loop-node.seat) c.loop-node.deciding c.loop-node.invariant.way.trying.reads c.loop-node.invariant.keying.past c.in_default.ensures.none
