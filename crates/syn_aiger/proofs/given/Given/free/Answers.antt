use Rattle.std.proofs.Common.{◌≡◌, ◌+◌, ◌≤◌, ◌∷◌, [], length, sym, ap, ◌∙◌, arith, length-append}
use Rattle.syn_netlist.specs.Words.{has_word, is_word}
use Rattle.syn_aiger.specs.Keeping.{longest_word, taken_by}
use Rattle.syn_aiger.proofs.Taking.{has_longest, tries_end, tries_first, tries_next, word_underscore}
use Rattle.syn_aiger.proofs.given.Given.free.Goals as goal

pub loop-name-init : goal.loop-name-init
loop-name-init c = record { word = c.requires; tries = λ given k. tries_first c.args.keeps c.args.l given c.args.first.items }

pub loop-name-smaller : goal.loop-name-smaller
loop-name-smaller c =
    let names = c.args.self.now.names in
    let low : length c.loop-name.name.items ≤ longest_word names = has_longest names c.loop-name.name.items (ap (has_word names) (sym c.as_slice.ensures.value) ∙ c.is_taken.ensures.there c.loop-name-test.true) in
    let long : length c.push.new.self.items ≡ length c.loop-name.name.items + 1 = ap length c.in_ok-push.ensures.items ∙ length-append c.loop-name.name.items (95 ∷ []) in
    omega arith

pub loop-name-preserved : goal.loop-name-preserved
loop-name-preserved c = record {
  word = ap is_word c.in_ok-push.ensures.items ∙ word_underscore c.loop-name.name.items c.loop-name.invariant.word;
  tries = λ given k.
      tries_next c.args.keeps c.args.l given c.loop-name.name.items c.push.new.self.items _ c.in_ok-push.ensures.items
      (ap (taken_by c.args.keeps c.args.l given) (sym c.as_slice.ensures.value) ∙ sym (c.is_taken.ensures.taken given k) ∙ c.loop-name-test.true)
      (c.loop-name.invariant.tries given k);
}

pub returns-clause-name : goal.returns-clause-name
returns-clause-name c given k =
    tries_end c.args.keeps c.args.l given c.loop-name.name.items _
    (ap (taken_by c.args.keeps c.args.l given) (sym c.as_slice.ensures.value) ∙ sym (c.is_taken.ensures.taken given k) ∙ c.loop-name-test.false)
    (c.loop-name.invariant.tries given k)

pub returns-clause-word : goal.returns-clause-word
returns-clause-word c = c.loop-name.invariant.word
