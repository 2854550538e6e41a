use Rattle.std.proofs.Common.{◌≡◌, ◌-◌, ◌++◌, ◌∷◌, [], List, ℕ, length, slice_set, refl, ap, ◌∙◌, arith}
use Rattle.std.proofs.lemmas.List.{get_or_default}
use Rattle.syn_cuts.specs.declared.lists.Span.{Span}
use Rattle.syn_cuts.specs.Leaves.{leaves_of}
use Rattle.syn_cuts.specs.Lists.{part_at}
use Rattle.syn_cuts.proofs.Spans.{list_set}
use Rattle.syn_cuts.proofs.lists.CutLists.set.Goals as goal

pub returns : goal.returns
returns c =
    let more = leaves_of c.args.kept.items ++ (c.args.node ∷ []) ∷ [] in
    let parts = c.self.inside.parts.items in
    let old = c.index_mut-first.result.now in
    let new = c.push_list.new.self in
    let spans = c.self.inside.spans.items in
    let span : Span = record { part = 0; start = c.len-start.result; len = c.len.result - c.len-start.result } in
    let first : old ≡ part_at parts 0 = c.index_mut-first.ensures.value ∙ get_or_default parts 0 old [] c.self.invariant.0 in
    let end = c.len.ensures in
    let start = c.len-start.ensures in
    let longer = c.push_list.ensures.more in
    list_set parts 0 new more spans c.args.node span c.self.invariant.0 c.self.invariant.1 (c.in_ok-push_list.ensures.list ∙ ap (λ (l : List (List ℕ)). l ++ more) first) refl (start ∙ ap length first)
    (omega (arith, start, end, longer))
    ∙ ap (λ (l : List (List (List ℕ))). slice_set l c.args.node more) c.self.view_is
