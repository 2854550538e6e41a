use Rattle.std.proofs.Common.{[], length, arith}
use Rattle.syn_paths.specs.Searching.{State, state}
use Rattle.syn_paths.specs.Outcomes.{AreLeavesTo}
use Rattle.syn_paths.proofs.Chosen.{leaves_fit, own_cut}
use Rattle.syn_paths.proofs.Owned.{and_there}
use Rattle.syn_paths.proofs.node_cut.least_cut.Goals as goal

pub leaves_of-requires-clause-few : goal.leaves_of-requires-clause-few
leaves_of-requires-clause-few c =
    let r = c.args.room.now in
    let s : State = state r.marks.ins.items r.marks.outs.items r.trail.items [] in
    rw (c.as_slice-trail.ensures.value, c.as_slice-ins.ensures.value) (λ found rise leaf.
    let few = leaves_fit c.args.rows.now c.args.labels.now c.args.root c.args.level r.next.items r.starts.items r.sources.items r.touched.items r.marks.stamp s c.requires.hashed
    (omega (arith, c.requires.room.next, and_there c.args.rows.now c.args.root c.requires.gate)) c.requires.paths c.requires.searched found rise leaf in
    omega (arith, few, c.requires.fewer, c.requires.few))

pub returns : goal.returns
returns c =
    let r = c.args.room.now in
    let s : State = state r.marks.ins.items r.marks.outs.items r.trail.items [] in
    let leaves : AreLeavesTo r.trail.items r.marks.ins.items r.marks.stamp (length r.trail.items) c.leaves_of.result.items = rw (c.as_slice-trail.ensures.value, c.as_slice-ins.ensures.value) at c.leaves_of.ensures in
    own_cut c.args.rows.now c.args.labels.now c.args.root c.args.level c.args.k r.next.items r.starts.items r.sources.items r.touched.items r.marks.stamp s c.leaves_of.result.items c.requires.hashed c.requires.gate
    (omega (arith, c.requires.room.next, and_there c.args.rows.now c.args.root c.requires.gate)) c.requires.falls c.requires.low c.requires.level c.requires.others c.requires.starts c.requires.paths c.requires.fewer c.requires.searched leaves
