use Rattle.std.proofs.Common.{◌≡◌, ◌+◌, ℕ, List, None, drop, get_or, length, map, true, ap, sym, subst, ◌∙◌}
use Rattle.syn_paths.specs.declared.places.Place.TheVariants.{Out}
use Rattle.syn_paths.specs.Checking.{all_within, AreUpTo}
use Rattle.syn_paths.specs.Searching.{entered, IsSearching, IsStart, State, state}
use Rattle.syn_paths.proofs.Stamped.{entered_up}
use Rattle.syn_paths.proofs.Searched.{search_begins, start_more}
use Rattle.syn_paths.proofs.path_search.search.Goals as goal

pub loop-at-init : goal.loop-at-init
loop-at-init c = record {
  searching = rw c.requires.trail (search_begins c.args.ways.rows.now c.args.next.now c.args.starts.now c.args.ins.now c.args.outs.now c.args.stamp c.requires.ins_free c.requires.outs_free);
  empty = c.requires.waiting;
  ins = c.requires.ins_stamps;
  outs = c.requires.outs_stamps;
}

pub search_on-requires-clause-searching : goal.search_on-requires-clause-searching
search_on-requires-clause-searching c =
    let within : all_within (length c.loop-at.ins) c.args.starts.now ≡ true = subst (λ k. all_within k c.args.starts.now ≡ true) (sym c.loop-at.auto.ins) c.requires.starts in
    let w = start_more c.args.ways.rows.now c.args.next.now c.args.starts.now c.args.stamp c.loop-at.ins c.loop-at.outs c.loop-at.trail.items c.loop-at.at c.loop-at-test.true within
    (c.loop-at.auto.outs ∙ c.requires.outs ∙ sym c.loop-at.auto.ins) c.loop-at.invariant.searching in
    subst (λ (s : State). IsSearching c.args.ways.rows.now c.args.next.now (IsStart c.args.starts.now) c.args.stamp s (map Out (drop (c.loop-at.at + 1) c.args.starts.now)))
    (sym (c.in_ok-enter.ensures ∙ ap (λ (l : List ℕ). entered c.args.stamp (state c.loop-at.ins c.loop-at.outs c.loop-at.trail.items l) (Out (get_or c.args.starts.now c.loop-at.at 0)) None) c.loop-at.invariant.empty)) w

pub search_on-requires-clause-ins_stamps : goal.search_on-requires-clause-ins_stamps
search_on-requires-clause-ins_stamps c =
    let up = entered_up c.args.stamp (state c.loop-at.ins c.loop-at.outs c.loop-at.trail.items c.loop-at.waiting.items) (Out (get_or c.args.starts.now c.loop-at.at 0)) None c.loop-at.invariant.ins c.loop-at.invariant.outs in
    subst (λ (s : State). AreUpTo s.ins c.args.stamp) (sym c.in_ok-enter.ensures) up.0

pub search_on-requires-clause-outs_stamps : goal.search_on-requires-clause-outs_stamps
search_on-requires-clause-outs_stamps c =
    let up = entered_up c.args.stamp (state c.loop-at.ins c.loop-at.outs c.loop-at.trail.items c.loop-at.waiting.items) (Out (get_or c.args.starts.now c.loop-at.at 0)) None c.loop-at.invariant.ins c.loop-at.invariant.outs in
    subst (λ (s : State). AreUpTo s.outs c.args.stamp) (sym c.in_ok-enter.ensures) up.1
