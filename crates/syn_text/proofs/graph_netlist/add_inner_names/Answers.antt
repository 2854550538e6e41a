use Rattle.std.proofs.Common.{ℕ, List, ◌<◌, ◌≤◌, length, rules, arith}
use Rattle.std.proofs.lemmas.List.{length-map}
use Rattle.syn_netlist.specs.Numbers.{word_at, words_at}
use Rattle.syn_netlist.proofs.Growing.{Grows-again}
use Rattle.syn_text.proofs.Finding.{still_sought, found_more, all_found}
use Rattle.syn_text.proofs.graph_netlist.add_inner_names.Goals as goal

pub seek-smaller : goal.seek-smaller
seek-smaller c =
    let s = c.args.taken.now in
    let taken : List (List ℕ) = words_at s.names.now s.numbers.items in
    let lt : length c.seek.numbers.items < c.args.count = search rules in
    let less = still_sought taken c.seek.names c.seek.numbers.items c.args.count c.seek.k c.seek.invariant.words lt in
    omega (arith, less, length-map s.numbers.items (word_at s.names.now), c.seek.invariant.positive)

pub seek-preserved : goal.seek-preserved
seek-preserved c =
    let s = c.args.taken.now in
    let i = c.seek.invariant in
    let added = c.in_ok-add_inner_name.ensures in
    let taken : List (List ℕ) = words_at s.names.now s.numbers.items in
    let lt : length c.seek.numbers.items < c.args.count = search rules in
    let less = still_sought taken c.seek.names c.seek.numbers.items c.args.count c.seek.k i.words lt in
    record {
      words = found_more taken (words_at c.seek.names c.seek.numbers.items) (words_at c.add_inner_name.new.names c.add_inner_name.new.numbers.items) c.seek.k i.positive i.words added.words;
      below = added.below;
      grows = Grows-again c.args.names.now c.seek.names c.add_inner_name.new.names i.grows added.grows;
      few = omega (arith, added.few, i.few);
      positive = omega arith;
      most = omega (arith, added.one, lt);
      sought = omega (arith, less, length-map s.numbers.items (word_at s.names.now), i.positive);
    }

pub returns-clause-words : goal.returns-clause-words
returns-clause-words c =
    let s = c.args.taken.now in
    let i = c.seek.invariant in
    let taken : List (List ℕ) = words_at s.names.now s.numbers.items in
    let ge : c.args.count ≤ length c.seek.numbers.items = search rules in
    let long = length-map s.numbers.items (word_at s.names.now) in
    let most = i.most in
    let sought = i.sought in
    all_found taken c.seek.names c.seek.numbers.items c.args.count c.seek.k i.words (omega (arith, sought, long)) (omega (arith, ge, most))
