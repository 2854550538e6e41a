use Rattle.std.proofs.Common.{◌≡◌, ℕ, ◌+◌, List, length, get_or, sym, ap, ◌∙◌, subst, arith}
use Rattle.syn_rows.specs.declared.Lit.{Lit}
use Rattle.syn_rows.specs.Joining.{constant}
use Rattle.syn_fraig.specs.Merging.{SameBy}
use Rattle.syn_cec.specs.Verdicts.{IsVerdict}
use Rattle.syn_cec.proofs.Pairs.{equivalent, left_open_is, pairs_are, pairs_more}
use Rattle.syn_cec.proofs.by_search.compared_pairs.Goals as goal
use Rattle.syn_cec.proofs.by_search.compared_pairs.Goals.{in-Same, in-Open}

pub loop-place-preserved : goal.loop-place-preserved
loop-place-preserved c =
    let first = c.args.first.now in
    let second = c.args.second.now in
    let rows = c.as_slice-rows.result.now in
    let lits = c.as_slice-lits.result.now in
    let count : ℕ = length c.as_slice-count.result.now in
    let place : ℕ = c.loop-place.place in
    let keeps = c.loop-place.invariant in
    elim c.match-branch-2.branch [
      | in-Same w ↦
          let same : SameBy rows (get_or lits place constant) (get_or lits (count + place) constant) =
          subst (IsVerdict first second rows (get_or lits place constant) (get_or lits (count + place) constant)) w.in-Same.is c.in_ok-compared_pair.ensures.verdict in
          record {
            clauses = c.in_ok-compared_pair.ensures.clauses;
            open_few = omega (arith, keeps.open_few, w.open-is);
            same = λ none. pairs_more rows lits count place same (keeps.same (sym w.open-is ∙ none));
          }
      | in-Open w ↦ record {
        clauses = c.in_ok-compared_pair.ensures.clauses;
        open_few = omega (arith, keeps.open_few, w.open-is);
        same = λ none. absurd (omega (arith, none, w.open-is));
      }
    ]

pub returns : goal.returns
returns c =
    let first = c.args.first.now in
    let second = c.args.second.now in
    let swept = c.args.swept.now in
    let keeps = c.loop-place.invariant in
    let count : length c.as_slice-count.result.now ≡ length first.observed = ap (λ (ls : List Lit). length ls) c.as_slice-count.ensures in
    left_open_is first second c.loop-place.open c.left_open.result c.left_open.ensures.none c.left_open.ensures.some (omega (arith, keeps.open_few, c.loop-place.auto.place-end, count)) c.requires.many
    (λ none. equivalent first second swept c.requires.observed c.requires.pairs c.requires.values
    (pairs_are c.as_slice-rows.result.now swept.rows c.as_slice-lits.result.now swept.observed (length c.as_slice-count.result.now) (length first.observed) c.as_slice-rows.ensures c.as_slice-lits.ensures count
    (λ j lt. keeps.same none j (omega (arith, lt, c.loop-place-test.false, c.loop-place.auto.place-end)))))
