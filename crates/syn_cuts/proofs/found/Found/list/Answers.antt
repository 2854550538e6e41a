use Rattle.std.proofs.Common.{◌≡◌, ◌<◌, All, get_or, length, take, drop, sym, ap, ◌∙◌, subst, arith}
use Rattle.syn_cuts.specs.Cuts.{listed_cuts}
use Rattle.syn_cuts.specs.Lists.{IsFound, list_at}
use Rattle.syn_cuts.specs.declared.found.Entry.{Entry}
use Rattle.syn_cuts.proofs.Spans.{found_at}
use Rattle.syn_cuts.proofs.found.Found.list.Goals as goal

pub returns : goal.returns
returns c = λ k rows all.
    let part = c.self.inside.part in
    let entries = c.self.inside.entries.items in
    let i = c.args.index in
    let e = c.index-entry.result.now in
    let is : e ≡ get_or entries i e = c.index-entry.ensures in
    let inside : i < length entries = omega (arith, c.if-index-len.false, c.len.ensures) in
    let node : e.node ≡ c.args.node = omega (arith, c.if-entry-node.false) in
    c.slice.ensures
    ∙ ap (λ (x : Entry). take x.len (drop x.start part)) is
    ∙ found_at k rows part entries i e inside (subst (All (IsFound k rows)) (sym c.self.view_is) all)
    ∙ ap (list_at (listed_cuts k rows)) (ap (λ (x : Entry). x.node) (sym is) ∙ node)
