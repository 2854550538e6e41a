use Rattle.std.proofs.Common.{◌≡◌, ◌<◌, ◌++◌, ◌∷◌, [], ℕ, List, Some, drop, false, length, map, sym, subst, ◌∙◌}
use Rattle.syn_paths.specs.declared.places.Place.TheVariants.{Out}
use Rattle.syn_paths.specs.Searching.{before_by, is_found, IsSearching, IsStart, NextWithin, place_at, search_left, State, state}
use Rattle.syn_paths.specs.Checking.{AreUpTo}
use Rattle.syn_paths.proofs.Stamped.{all_up}
use Rattle.syn_paths.proofs.Searched.{turn, waits_there}
use Rattle.syn_paths.proofs.path_search.search_on.Goals as goal

pub visit-requires-clause-there : goal.visit-requires-clause-there
visit-requires-clause-there c =
    let todo = map Out (drop c.args.starts.entered c.args.starts.all.now) in
    let w = subst (λ (l : List ℕ). IsSearching c.args.ways.rows.now c.args.next.now (IsStart c.args.starts.all.now) c.args.stamp (state c.loop-i.ins c.loop-i.outs c.loop-i.trail.items l) todo) c.in-Some.ensures.items c.loop-i.invariant.searching in
    (waits_there c.args.ways.rows.now c.args.next.now (IsStart c.args.starts.all.now) c.args.stamp c.loop-i.ins c.loop-i.outs c.loop-i.trail.items c.pop.new.self.items c.in-Some.i todo w).0

pub visit-requires-clause-ins : goal.visit-requires-clause-ins
visit-requires-clause-ins c =
    let todo = map Out (drop c.args.starts.entered c.args.starts.all.now) in
    let w = subst (λ (l : List ℕ). IsSearching c.args.ways.rows.now c.args.next.now (IsStart c.args.starts.all.now) c.args.stamp (state c.loop-i.ins c.loop-i.outs c.loop-i.trail.items l) todo) c.in-Some.ensures.items c.loop-i.invariant.searching in
    (waits_there c.args.ways.rows.now c.args.next.now (IsStart c.args.starts.all.now) c.args.stamp c.loop-i.ins c.loop-i.outs c.loop-i.trail.items c.pop.new.self.items c.in-Some.i todo w).1

pub loop-i-smaller : goal.loop-i-smaller
loop-i-smaller c =
    let todo = map Out (drop c.args.starts.entered c.args.starts.all.now) in
    let w = subst (λ (l : List ℕ). IsSearching c.args.ways.rows.now c.args.next.now (IsStart c.args.starts.all.now) c.args.stamp (state c.loop-i.ins c.loop-i.outs c.loop-i.trail.items l) todo) c.in-Some.ensures.items c.loop-i.invariant.searching in
    let lost : is_found c.args.ways.rows.now (place_at c.loop-i.trail.items c.in-Some.i) ≡ false = sym c.in_ok-visit.ensures.found ∙ c.if-branch.false in
    let to : NextWithin c.args.next.now (length c.loop-i.ins) = subst (NextWithin c.args.next.now) (sym c.loop-i.auto.ins) c.requires.next in
    let done = turn c.args.ways.near.now c.args.ways.rows.now c.args.next.now (IsStart c.args.starts.all.now) c.args.stamp c.loop-i.ins c.loop-i.outs c.loop-i.trail.items c.pop.new.self.items c.in-Some.i todo c.requires.order to
    (c.loop-i.auto.outs ∙ c.requires.outs ∙ sym c.loop-i.auto.ins) lost w in
    let less : search_left c.args.stamp (state c.visit.new.ins c.visit.new.outs c.visit.new.trail.items c.visit.new.waiting.items) < search_left c.args.stamp (state c.loop-i.ins c.loop-i.outs c.loop-i.trail.items (c.pop.new.self.items ++ c.in-Some.i ∷ [])) =
    subst (λ (s : State). search_left c.args.stamp s < search_left c.args.stamp (state c.loop-i.ins c.loop-i.outs c.loop-i.trail.items (c.pop.new.self.items ++ c.in-Some.i ∷ []))) (sym (c.in_ok-visit.ensures.more c.if-branch.false)) done.1 in
    rw c.in-Some.ensures.items less

pub loop-i-preserved : goal.loop-i-preserved
loop-i-preserved c =
    let todo = map Out (drop c.args.starts.entered c.args.starts.all.now) in
    let w = subst (λ (l : List ℕ). IsSearching c.args.ways.rows.now c.args.next.now (IsStart c.args.starts.all.now) c.args.stamp (state c.loop-i.ins c.loop-i.outs c.loop-i.trail.items l) todo) c.in-Some.ensures.items c.loop-i.invariant.searching in
    let lost : is_found c.args.ways.rows.now (place_at c.loop-i.trail.items c.in-Some.i) ≡ false = sym c.in_ok-visit.ensures.found ∙ c.if-branch.false in
    let to : NextWithin c.args.next.now (length c.loop-i.ins) = subst (NextWithin c.args.next.now) (sym c.loop-i.auto.ins) c.requires.next in
    let done = turn c.args.ways.near.now c.args.ways.rows.now c.args.next.now (IsStart c.args.starts.all.now) c.args.stamp c.loop-i.ins c.loop-i.outs c.loop-i.trail.items c.pop.new.self.items c.in-Some.i todo c.requires.order to
    (c.loop-i.auto.outs ∙ c.requires.outs ∙ sym c.loop-i.auto.ins) lost w in
    let up = all_up c.args.stamp (state c.loop-i.ins c.loop-i.outs c.loop-i.trail.items c.pop.new.self.items) (before_by c.args.ways.near.now c.args.ways.rows.now c.args.next.now (place_at c.loop-i.trail.items c.in-Some.i)) (Some c.in-Some.i) c.loop-i.invariant.ins c.loop-i.invariant.outs in
    record {
      searching = subst (λ (s : State). IsSearching c.args.ways.rows.now c.args.next.now (IsStart c.args.starts.all.now) c.args.stamp s todo) (sym (c.in_ok-visit.ensures.more c.if-branch.false)) done.0;
      ins = subst (λ (s : State). AreUpTo s.ins c.args.stamp) (sym (c.in_ok-visit.ensures.more c.if-branch.false)) up.0;
      outs = subst (λ (s : State). AreUpTo s.outs c.args.stamp) (sym (c.in_ok-visit.ensures.more c.if-branch.false)) up.1;
    }
