use Rattle.std.proofs.Common.{◌++◌, ◌∷◌, [], List, ℕ, ◌-◌, ap, ◌∙◌, arith}
use Rattle.syn_cuts.specs.declared.found.Entry.{Entry}
use Rattle.syn_cuts.specs.Leaves.{leaves_of}
use Rattle.syn_cuts.specs.Lists.{found_in}
use Rattle.syn_cuts.proofs.Spans.{found_more}
use Rattle.syn_cuts.proofs.found.Found.push.Goals as goal

pub returns : goal.returns
returns c =
    let more = leaves_of c.args.kept.items ++ (c.args.node ∷ []) ∷ [] in
    let part = c.self.inside.part in
    let new = c.push_list.new.self in
    let entries = c.self.inside.entries.items in
    let entry : Entry = record { node = c.args.node; start = c.len-start.result; len = c.len.result - c.len-start.result } in
    let end = c.len.ensures in
    let start = c.len-start.ensures in
    let longer = c.push_list.ensures.more in
    ap (found_in new) c.in_ok-push.ensures.items
    ∙ found_more part new more entries entry c.self.invariant c.in_ok-push_list.ensures.list c.len-start.ensures (omega (arith, start, end, longer))
    ∙ ap (λ (l : List (ℕ × List (List ℕ))). l ++ (c.args.node, more) ∷ []) c.self.view_is
