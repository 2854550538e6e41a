use Rattle.std.proofs.Common.{rules, ◌≡◌, ◌++◌, ◌<◌, ℕ, Bool, true, List, Option, Some, None, IfSome, length, find, map, option_map, ◌∙◌, ap, sym, subst}
use Rattle.syn_netlist.specs.declared.tables.Table.{Table}
use Rattle.syn_netlist.specs.Marks.{AreMarks}
use Rattle.syn_netlist.specs.Numbers.{all_below, word_at}
use Rattle.syn_netlist.specs.Walk.{is_unmarked, table_output}
use Rattle.syn_netlist.proofs.Undriven.{undefined_is, find_below}
use Rattle.syn_netlist.proofs.netlists.Netlist.first_undefined.Goals as goal

pub returns-clause-first : goal.returns-clause-first
returns-clause-first c =
    let n = c.args.self.now in
    let marks = c.in_ok-marks.marks.items in
    let len : length marks ≡ length n.frame.names = search rules in
    let are : AreMarks (c.in_ok-sources.sources.items ++ map table_output n.tables) marks =
    subst (λ (l : List Table). AreMarks (c.in_ok-sources.sources.items ++ map table_output l) marks) c.as_slice.ensures c.in_ok-marks.ensures.marks in
    let result : c.first_unmarked.result ≡ find (is_unmarked marks) c.args.numbers.now =
    c.first_unmarked.ensures.found ∙ ap (λ (m : List Bool). find (is_unmarked m) c.args.numbers.now) c.as_slice-2.ensures.value in
    undefined_is n c.in_ok-sources.sources.items marks c.args.numbers.now c.len.ensures.distinct c.in_ok-sources.ensures.words c.in_ok-sources.ensures.below len are c.requires
    ∙ ap (λ (o : Option ℕ). option_map (word_at n.frame.names) o) (sym result)

if_below : (p : ℕ → Bool) (count : ℕ) (numbers : List ℕ) (r : Option ℕ) → all_below count numbers ≡ true → r ≡ find p numbers → IfSome r (λ i. i < count)
if_below p count numbers None h e = tt
if_below p count numbers (Some i) h e = find_below p count numbers i h (sym e)

pub returns-clause-below : goal.returns-clause-below
returns-clause-below c = if_below (is_unmarked c.as_slice-2.result.now) (length c.args.self.now.frame.names) c.args.numbers.now c.first_unmarked.result c.requires c.first_unmarked.ensures.found
