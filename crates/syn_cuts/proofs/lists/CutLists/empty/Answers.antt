use Rattle.std.proofs.Common.{◌≡◌, replicate, ap, ◌∙◌, refl, rules}
use Rattle.syn_cuts.specs.declared.lists.Span.{Span}
use Rattle.syn_cuts.specs.Lists.{lists_in}
use Rattle.syn_cuts.proofs.Spans.{no_lists}
use Rattle.syn_cuts.proofs.lists.CutLists.empty.Goals as goal

pub returns : goal.returns
returns c =
    let none : Span = record { part = 0; start = 0; len = 0 } in
    let e : c.in_ok-vec-2.field-0.items ≡ replicate c.args.count none = search rules in
    ap (lists_in _) e ∙ no_lists _ none c.args.count refl
