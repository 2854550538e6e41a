use Rattle.std.proofs.Common.{◌++◌, ◌∷◌, [], ℕ, List, get_or, take, sym, subst}
use Rattle.std.proofs.lemmas.List.{take_more, take_all}
use Rattle.syn_paths.specs.Listing.{AreLists}
use Rattle.syn_paths.proofs.Listed.{goes_up, lists_into, lists_more}
use Rattle.syn_paths.proofs.path_lists.lists_from.Goals as goal

pub list_from-requires-clause-up : goal.list_from-requires-clause-up
list_from-requires-clause-up c = goes_up c.args.rows.now c.args.labels.now c.args.root c.args.level c.args.next.now c.requires.order c.requires.root c.requires.paths

pub loop-source-preserved : goal.loop-source-preserved
loop-source-preserved c =
    let i = c.loop-source.source-index in
    let sources = c.args.sources.now in
    let next = c.args.next.now in
    let more = lists_more next (take i sources) c.loop-source.lists.items (get_or sources i 0) c.in_ok-list_from.field-0 c.loop-source.invariant c.in_ok-list_from.ensures in
    subst (λ (l : List ℕ). AreLists next l c.push.new.self.items) (sym (take_more sources i 0 c.loop-source-test.true))
    (subst (λ (l : List (List ℕ)). AreLists next (take i sources ++ get_or sources i 0 ∷ []) l) (sym c.in_ok-push.ensures.items) more)

pub returns : goal.returns
returns c =
    let all = subst (λ (l : List ℕ). AreLists c.args.next.now l c.loop-source.lists.items) (take_all c.loop-source.source-index c.args.sources.now c.loop-source-test.false) c.loop-source.invariant in
    lists_into c.args.rows.now c.args.labels.now c.args.root c.args.level c.args.next.now c.args.sources.now c.loop-source.lists.items c.requires.order c.requires.root c.requires.paths c.requires.sources c.requires.once all
