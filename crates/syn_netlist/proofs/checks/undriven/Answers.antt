use Rattle.std.proofs.Common.{rules, ◌≡◌, ◌++◌, ◌<◌, ℕ, Bool, List, Option, Some, None, IfSome, length, find, flat_map, map, option_map, ◌∙◌, ap, ap₂, sym, subst}
use Rattle.syn_netlist.specs.declared.netlists.Netlist.{Netlist}
use Rattle.syn_netlist.specs.declared.tables.Table.{Table}
use Rattle.syn_netlist.specs.Marks.{read_numbers, AreMarks}
use Rattle.syn_netlist.specs.Numbers.{word_at, all_below}
use Rattle.syn_netlist.specs.Walk.{is_unmarked, table_inputs, table_output}
use Rattle.syn_netlist.proofs.Places.{reads_below}
use Rattle.syn_netlist.proofs.Undriven.{all_reads, undriven_is, undriven_below}
use Rattle.syn_netlist.proofs.checks.undriven.Goals as goal

pub first_read-requires-clause-read : goal.first_read-requires-clause-read
first_read-requires-clause-read c =
    let f = c.args.n.now.frame in
    let read : c.deref.result.now ≡ flat_map read_numbers f.latches = search rules in
    let count : length c.as_slice-2.result.now ≡ length f.names = search rules in
    ap₂ all_below count read ∙ reads_below (length f.names) f.latches f.latches_below

pub returns-clause-first : goal.returns-clause-first
returns-clause-first c =
    let n = c.args.n.now in
    let marks = c.in_ok-marks.marks.items in
    let len : length marks ≡ length n.frame.names = search rules in
    let read : c.deref.result.now ≡ flat_map read_numbers n.frame.latches = search rules in
    let result : c.first_read.result ≡ find (is_unmarked marks) (all_reads n) =
    c.first_read.ensures ∙ ap₂ (λ (m : List Bool) (l : List ℕ). find (is_unmarked m) l) c.as_slice-2.ensures.value
    (ap₂ (λ (a b : List ℕ). a ++ b) c.as_slice-3.ensures (ap₂ (λ (a b : List ℕ). a ++ b) read (ap (λ (l : List Table). flat_map table_inputs l) c.as_slice-tables.ensures))) in
    let are : AreMarks (c.in_ok-sources.sources.items ++ map table_output n.tables) marks =
    subst (λ (l : List Table). AreMarks (c.in_ok-sources.sources.items ++ map table_output l) marks) c.as_slice-tables.ensures c.in_ok-marks.ensures.marks in
    undriven_is n c.in_ok-sources.sources.items marks c.len.ensures.distinct c.in_ok-sources.ensures.words c.in_ok-sources.ensures.below len are ∙ ap (λ (o : Option ℕ). option_map (word_at n.frame.names) o) (sym result)

if_below : (n : Netlist) (marks : List Bool) (r : Option ℕ) → r ≡ find (is_unmarked marks) (all_reads n) → IfSome r (λ i. i < length n.frame.names)
if_below n marks None e = tt
if_below n marks (Some i) e = undriven_below n marks i (sym e)

pub returns-clause-below : goal.returns-clause-below
returns-clause-below c =
    let n = c.args.n.now in
    let marks = c.in_ok-marks.marks.items in
    let read : c.deref.result.now ≡ flat_map read_numbers n.frame.latches = search rules in
    if_below n marks c.first_read.result
    (c.first_read.ensures ∙ ap₂ (λ (m : List Bool) (l : List ℕ). find (is_unmarked m) l) c.as_slice-2.ensures.value
    (ap₂ (λ (a b : List ℕ). a ++ b) c.as_slice-3.ensures (ap₂ (λ (a b : List ℕ). a ++ b) read (ap (λ (l : List Table). flat_map table_inputs l) c.as_slice-tables.ensures))))
