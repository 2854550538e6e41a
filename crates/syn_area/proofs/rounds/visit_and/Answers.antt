use Rattle.std.proofs.Common.{ap}
use Rattle.std.proofs.lemmas.List.Elements.{All-same}
use Rattle.syn_cuts.specs.Leaves.{leaves_of}
use Rattle.syn_covering.specs.Cuts.{IsLutCut}
use Rattle.syn_area.specs.Kept.{IsKept}
use Rattle.syn_area.proofs.Joining.{joined}
use Rattle.syn_area.proofs.Visiting.{candidates_kept, visited}
use Rattle.syn_area.proofs.rounds.visit_and.Goals as goal

pub returns : goal.returns
returns c =
    let gr = c.args.graph.now in
    let k = c.args.k in
    let node = c.args.node in
    let kept = c.candidates_of-kept.result.items in
    let was = c.requires.visited in
    let all = joined gr k node c.args.a c.args.b c.node.result c.node-2.result c.args.lists.now.listed.items c.args.chosen.now (leaves_of kept) c.requires.gate c.requires.node c.node.ensures c.node-2.ensures was c.candidates_of-kept.ensures in
    let first = All-same (IsLutCut k gr.rows node) (leaves_of c.as_slice.result.now) (leaves_of kept) (ap leaves_of c.as_slice.ensures.value) all in
    let last = All-same (IsKept gr.rows node) (leaves_of c.as_slice-3.result.now) (leaves_of kept) (ap leaves_of c.as_slice-3.ensures.value) (candidates_kept k gr.rows node (leaves_of kept) all) in
    visited k gr.rows c.args.lists.now.listed.items c.list.new.self.listed.items c.args.chosen.now c.choose_first.new.chosen was
    (c.in_ok-list.ensures gr.rows was.kept last)
    c.choose_first.ensures.len (c.choose_first.ensures.chosen k gr.rows first was.fit)
