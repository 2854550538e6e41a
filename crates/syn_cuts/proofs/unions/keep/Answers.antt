use Rattle.std.proofs.Common.{ap, ◌∙◌, arith}
use Rattle.syn_cuts.specs.Leaves.{leaves_of}
use Rattle.syn_cuts.proofs.Putting.{put_there, put_past, put_within, take_leaves}
use Rattle.syn_cuts.proofs.unions.keep.Goals as goal

pub returns-in_default-clause-kept : goal.returns-in_default-clause-kept
returns-in_default-clause-kept c =
    put_there c.args.kept.now.items c.args.cut.items c.requires.few
    (rw (c.as_slice-3.ensures.value, c.as_slice-4.ensures.value) at c.in_default.ensures.none)

pub returns-then-i-ge-CUTS_PER_NODE-clause-kept : goal.returns-then-i-ge-CUTS_PER_NODE-clause-kept
returns-then-i-ge-CUTS_PER_NODE-clause-kept c =
    let at = rw (c.as_slice-3.ensures.value, c.as_slice-4.ensures.value) at c.in-Some.ensures.some in
    put_past c.args.kept.now.items c.in-Some.i c.args.cut.items c.requires.few c.if-i-ge-CUTS_PER_NODE.true at.0 at.1

pub returns-clause-kept : goal.returns-clause-kept
returns-clause-kept c =
    let at = rw (c.as_slice-3.ensures.value, c.as_slice-4.ensures.value) at c.in-Some.ensures.some in
    put_within c.args.kept.now.items c.insert.new.self.items c.make_room.new.kept.items c.in-Some.i c.args.cut (omega arith) at.1
    (ap leaves_of c.make_room.ensures.items ∙ take_leaves c.args.kept.now.items 30) c.insert.ensures.items
