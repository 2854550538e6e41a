use Rattle.std.proofs.Common.{◌≡◌, ◌<◌, ◌++◌, ◌∷◌, [], List, ℕ, All, length, sym, ap, ap₂, ◌∙◌, subst, arith}
use Rattle.std.proofs.lemmas.List.{length-append, length-map}
use Rattle.std.specs.Vec.{with_items}
use Rattle.syn_cuts.specs.declared.found.Entry.{Entry}
use Rattle.syn_cuts.specs.Lists.{IsWithin, cuts_at, lists_in, with_lists, with_spans}
use Rattle.syn_cuts.proofs.Spans.{entries_below, found_set, found_within, spans_lent}
use Rattle.syn_cuts.proofs.lists.CutLists.set_found.Goals as goal

pub set_spans-requires : goal.set_spans-requires
set_spans-requires c =
    let parts = c.self.inside.parts.items in
    let spans = c.self.inside.spans.items in
    let part = c.open-part.result.0 in
    let entries = c.open-part.result.1.items in
    let n = length c.args.self.now in
    let count : n ≡ length c.deref_mut.result.now = ap length (sym c.self.view_is) ∙ length-map spans (cuts_at parts) ∙ ap length (sym c.deref_mut.ensures.value) in
    let below = entries_below n part entries (subst (All (λ f. f.0 < n)) (sym c.open-part.ensures.lists) c.requires) in
    subst (λ (es : List Entry). All (λ e. e.node < length c.deref_mut.result.now) es) (sym c.deref.ensures.value) (subst (λ m. All (λ e. e.node < m) entries) count below)

pub invariant_of-self-2 : goal.invariant_of-self-2
invariant_of-self-2 c =
    let parts = c.self.inside.parts.items in
    let spans = c.self.inside.spans in
    let part = c.open-part.result.0 in
    let entries = c.open-part.result.1.items in
    let new = (with_items spans c.set_spans.new.spans).items in
    let are : new ≡ with_spans (length parts) spans.items entries =
    spans_lent spans c.deref_mut.result.now c.set_spans.new.spans entries c.deref.result.now (length parts) c.len-number.result c.deref_mut.ensures.value c.deref_mut.ensures.len c.deref.ensures.value
    (c.len-number.ensures ∙ c.self.inside.parts.ok.0) c.set_spans.ensures.len c.set_spans.ensures.spans in
    let count = length-append parts (part ∷ []) in
    subst (λ (ps : List (List (List ℕ))). (0 < length ps) × All (IsWithin ps) new) (sym c.in_ok-push.ensures.items)
    (omega (arith, count), subst (All (IsWithin (parts ++ part ∷ []))) (sym are) (found_within parts part spans.items entries c.open-part.ensures.inside c.self.invariant.1))

pub returns : goal.returns
returns c =
    let parts = c.self.inside.parts.items in
    let spans = c.self.inside.spans in
    let part = c.open-part.result.0 in
    let entries = c.open-part.result.1.items in
    let are : (with_items spans c.set_spans.new.spans).items ≡ with_spans (length parts) spans.items entries =
    spans_lent spans c.deref_mut.result.now c.set_spans.new.spans entries c.deref.result.now (length parts) c.len-number.result c.deref_mut.ensures.value c.deref_mut.ensures.len c.deref.ensures.value
    (c.len-number.ensures ∙ c.self.inside.parts.ok.0) c.set_spans.ensures.len c.set_spans.ensures.spans in
    ap₂ lists_in c.in_ok-push.ensures.items are ∙ found_set parts part spans.items entries c.self.invariant.1 ∙ ap₂ with_lists c.self.view_is c.open-part.ensures.lists
