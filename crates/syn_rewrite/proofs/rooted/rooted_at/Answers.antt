use Rattle.std.proofs.Common.{◌≡◌, List, ℕ, get_or, sym, subst, arith}
use Rattle.syn_cuts.specs.Leaves.{leaves_of}
use Rattle.syn_cut_functions.proofs.Listed.{leaves_read}
use Rattle.syn_cut_functions.proofs.Cuts.{leaves_is}
use Rattle.syn_rewrite.proofs.Candidates.{and_there, function_read, functions_at, functions_count}
use Rattle.syn_rewrite.proofs.rooted.rooted_at.Goals as goal

pub index-function-requires : goal.index-function-requires
index-function-requires c =
    let rows = c.args.graph.now.rows in
    let node = c.args.node in
    let fs = c.index-functions.result.now in
    let have = functions_at c.args.lists.now rows node fs c.requires.lists (and_there c.args.graph.now node c.requires.node) c.requires.node c.index-functions.ensures in
    omega (arith, c.requires.place, functions_count rows node c.args.cuts.now fs.items c.requires.cuts have, fs.ok.0)

pub returns-clause-leaves : goal.returns-clause-leaves
returns-clause-leaves c =
    subst (λ (ls : List ℕ). ls ≡ get_or (leaves_of c.args.cuts.now) c.args.place ls) (sym c.as_slice-leaves.ensures.value)
    (leaves_is c.args.cuts.now c.args.place c.index-cuts-place.result c.index-cuts-place.is)

pub returns-clause-rooted : goal.returns-clause-rooted
returns-clause-rooted c =
    let graph = c.args.graph.now in
    let node = c.args.node in
    let cuts = c.args.cuts.now in
    let cut = c.index-cuts-place.result in
    let fs = c.index-functions.result.now in
    let leaves = c.as_slice-leaves.result.now in
    let have = functions_at c.args.lists.now graph.rows node fs c.requires.lists (and_there graph node c.requires.node) c.requires.node c.index-functions.ensures in
    record {
      gate = c.requires.node;
      cut = leaves_read graph node cuts c.args.place cut leaves c.requires.node c.requires.cuts c.requires.place c.index-cuts-place.is c.as_slice-leaves.ensures.value;
      function = function_read graph.rows node cuts fs.items c.args.place c.index-function.result.now cut leaves c.requires.cuts have c.requires.place c.index-cuts-place.is c.as_slice-leaves.ensures.value c.index-function.ensures;
    }
