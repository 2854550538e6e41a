use Rattle.std.proofs.Common.{ℕ, ◌+◌, ◌<◌, List, length, drop, get_or, sym, ap, ◌∙◌, arith, rules}
use Rattle.std.proofs.lemmas.List.{drop_more}
use Rattle.syn_netlist.proofs.Marking.{firsts_after, firsts_more, firsts_none}
use Rattle.syn_netlist.proofs.signals.firsts.Goals as goal

pub loop-n-init : goal.loop-n-init
loop-n-init c = record {
  rest = ap (λ (l : List ℕ). firsts_after l c.args.numbers.now) c.new-found.ensures.items ∙ firsts_none c.args.numbers.now;
  marks = rw (c.new-found.ensures.items, c.as_mut_slice-places.ensures.value) c.in_ok-marks.ensures.marks;
  many = search rules;
}

pub loop-n-preserved : goal.loop-n-preserved
loop-n-preserved c = record {
  rest =
      let numbers : List ℕ = c.args.numbers.now in
      let i : ℕ = c.loop-n.n-index in
      let inside : i < length numbers = omega arith in
      ap (λ (f : List ℕ). firsts_after f (drop (i + 1) numbers)) c.in_ok-add_first.ensures.found
      ∙ firsts_more c.loop-n.found.items (get_or numbers i 0) (drop (i + 1) numbers)
      ∙ ap (λ (ns : List ℕ). firsts_after c.loop-n.found.items ns) (sym (drop_more numbers i 0 inside))
      ∙ c.loop-n.invariant.rest;
  marks = c.in_ok-add_first.ensures.marks;
  many = search rules;
}
