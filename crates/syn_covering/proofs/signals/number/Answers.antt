use Rattle.std.proofs.Common.{◌≡◌, ◌+◌, ◌^◌, ◌<◌, ℕ, List, false, get_or, length, ap, ◌∙◌, subst, All, sym, arith, if◌then◌else◌, nat_lt}
use Rattle.std.proofs.lemmas.List.{length_push}
use Rattle.std.proofs.lemmas.List.Elements.{All-push}
use Rattle.syn_covering.specs.Needs.{marked_from}
use Rattle.syn_covering.proofs.Numbered.{nodes_next, below_next, count_next, signals_next}
use Rattle.syn_covering.proofs.signals.number.Goals as goal

pub loop-n-preserved : goal.loop-n-preserved
loop-n-preserved c =
    let n : ℕ = c.loop-n.n in
    let marks = c.args.marks.now in
    let before : List ℕ = c.loop-n.nodes.items in
    let old : List ℕ = c.loop-n.signals.items in
    let inv = c.loop-n.invariant in
    let inside : n < length marks = c.loop-n-test.true in
    let mark = get_or marks n false in
    let pushed = c.in_ok-push.ensures.items in
    let long = ap (λ (ls : List ℕ). length ls) pushed ∙ length_push old c.next_signal.result in
    let luts : c.len.result ≡ length before = c.len.ensures ∙ c.loop-n.nodes.ok.0 in
    record {
      nodes = nodes_next n (n + 1) before c.push_marked.new.nodes.items (marked_from 0 marks) marks (omega arith) inside c.in_ok-push_marked.ensures inv.nodes;
      few = omega (arith, count_next n before c.push_marked.new.nodes.items mark c.in_ok-push_marked.ensures, inv.few);
      count = omega (arith, long, inv.count);
      below = below_next n before c.push_marked.new.nodes.items mark c.in_ok-push_marked.ensures inv.below;
      low = subst (All (λ s. s < 2 ^ 31)) (sym pushed) (All-push (λ s. s < 2 ^ 31) old c.next_signal.result inv.low c.next_signal.ensures.low);
      signals = signals_next c.args.source_count n c.next_signal.result before (marked_from 0 marks) old c.push.new.self.items marks inside pushed inv.count inv.nodes inv.below
          (c.next_signal.ensures.signal ∙ ap (λ k. if nat_lt n (c.args.source_count + 1) then n else c.args.source_count + 1 + k) luts) inv.signals;
    }

pub next_signal-requires : goal.next_signal-requires
next_signal-requires c = omega (arith, c.len.ensures, c.loop-n.nodes.ok.0, c.loop-n.invariant.few, c.loop-n-test.true, c.requires.few, c.requires.sources)
