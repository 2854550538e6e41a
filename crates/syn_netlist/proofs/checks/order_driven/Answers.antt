use Rattle.std.proofs.Common.{rules, ◌≡◌, ℕ, ◌<◌, List, true, None, length, refl, ap₂, ◌∙◌, ap, sym, subst, arith}
use Rattle.syn_netlist.specs.declared.netlists.Netlist.{Netlist}
use Rattle.syn_netlist.specs.declared.order_walk.Walked.{Walked}
use Rattle.syn_netlist.specs.declared.order_walk.Walked.TheVariants.{Order, Circle}
use Rattle.syn_netlist.specs.declared.tables.Table.{Table}
use Rattle.syn_netlist.specs.Faults.{AnswersCircle, IsTableOrder, first_undriven}
use Rattle.syn_netlist.specs.Numbers.{all_below}
use Rattle.syn_netlist.specs.Words.{distinct}
use Rattle.std.specs.Global.{Vec}
use Rattle.syn_netlist.specs.Views.{netlist_in}
use Rattle.syn_netlist.specs.Walk.{Walks, from_number, output_words}
use Rattle.syn_netlist.proofs.Arranging.{order_is, puts_in_order}
use Rattle.syn_netlist.proofs.Circling.{answers_words, from_below}
use Rattle.syn_netlist.proofs.Counting.{few_tables}
use Rattle.syn_netlist.proofs.checks.order_driven.Goals as goal

-- what the walk ends with, at equal values
walks_at : (count : ℕ) (ts us : List Table) (v w : Walked) → ts ≡ us → v ≡ w → Walks ts count v → Walks us count w
walks_at count ts us v w e f h = subst (λ (x : Walked). Walks us count x) f (subst (λ (l : List Table). Walks l count v) e h)

-- the path is there
path_below : (count : ℕ) (ts : List Table) (path : Vec ℕ) (back : ℕ) → Walks ts count (Circle path back) → all_below (length ts) path.items ≡ true
path_below count ts path back (drivers, len, are, (stages, seen, order, meets)) = meets.walk.path_below

circle_answers : (n : Netlist) (count : ℕ) (path : Vec ℕ) (back : ℕ) → distinct n.frame.names ≡ true → count ≡ length n.frame.names → Walks n.tables count (Circle path back)
    → AnswersCircle (netlist_in n).tables (output_words n.frame.names n.tables (from_number back path.items))
circle_answers n count path back d e (drivers, len, are, (stages, seen, order, meets)) = answers_words n drivers d (len ∙ e) are stages seen path.items order back meets

pub walk-requires-clause-few : goal.walk-requires-clause-few
walk-requires-clause-few c =
    let few = few_tables c.args.n.now in
    let count = c.len.ensures.value in
    let same : length c.as_slice-tables.result.now ≡ length c.args.n.now.tables = ap (λ (l : List Table). length l) c.as_slice-tables.ensures in
    let small : c.len.result < 4294967296 = search rules in
    omega arith

pub output_names-requires-clause-numbers : goal.output_names-requires-clause-numbers
output_names-requires-clause-numbers c =
    let tables : List Table = c.as_slice-tables.result.now in
    let h = walks_at c.len.result tables tables c.in_ok-order.field-0 (Circle c.in-Circle.path c.in-Circle.back) refl c.in-Circle.is c.in_ok-order.ensures in
    let is : c.path_from.result.now ≡ from_number c.in-Circle.back c.in-Circle.path.items = c.path_from.ensures ∙ ap (λ (l : List ℕ). from_number c.in-Circle.back l) c.deref.ensures.value in
    ap (all_below (length tables)) is ∙ from_below (length tables) c.in-Circle.back c.in-Circle.path.items (path_below c.len.result tables c.in-Circle.path c.in-Circle.back h)

-- what the walk's order is in words
order_words : (n : Netlist) (count : ℕ) (order : Vec ℕ) → distinct n.frame.names ≡ true → count ≡ length n.frame.names → first_undriven (netlist_in n) ≡ None → Walks n.tables count (Order order) → IsTableOrder (netlist_in n) order.items
order_words n count order d e driven (drivers, len, are, is) = order_is n drivers d (len ∙ e) are driven order.items is

pub returns-in-Order-clause-order : goal.returns-in-Order-clause-order
returns-in-Order-clause-order c =
    let n = c.args.n.now in
    order_words n c.len.result c.in-Order.order c.len.ensures.distinct c.len.ensures.value c.requires
    (walks_at c.len.result c.as_slice-tables.result.now n.tables c.in_ok-order.field-0 (Order c.in-Order.order) c.as_slice-tables.ensures c.in-Order.is c.in_ok-order.ensures)

pub returns-in-Order-clause-ok : goal.returns-in-Order-clause-ok
returns-in-Order-clause-ok c =
    let n = c.args.n.now in
    puts_in_order n c.in-Order.order.items (order_words n c.len.result c.in-Order.order c.len.ensures.distinct c.len.ensures.value c.requires
    (walks_at c.len.result c.as_slice-tables.result.now n.tables c.in_ok-order.field-0 (Order c.in-Order.order) c.as_slice-tables.ensures c.in-Order.is c.in_ok-order.ensures))

pub returns-in_ok-circle-in-Circle-clause-fault : goal.returns-in_ok-circle-in-Circle-clause-fault
returns-in_ok-circle-in-Circle-clause-fault c =
    let n = c.args.n.now in
    let names : List (List ℕ) = n.frame.names in
    let h = walks_at c.len.result c.as_slice-tables.result.now n.tables c.in_ok-order.field-0 (Circle c.in-Circle.path c.in-Circle.back) c.as_slice-tables.ensures c.in-Circle.is c.in_ok-order.ensures in
    let path : c.path_from.result.now ≡ from_number c.in-Circle.back c.in-Circle.path.items = c.path_from.ensures ∙ ap (λ (l : List ℕ). from_number c.in-Circle.back l) c.deref.ensures.value in
    let is : c.in_ok-circle-in-Circle.circle ≡ output_words names n.tables (from_number c.in-Circle.back c.in-Circle.path.items) =
    c.in_ok-circle-in-Circle.ensures ∙ ap₂ (λ (l : List Table) (x : List ℕ). output_words names l x) c.as_slice-tables.ensures path in
    (c.requires, subst (λ (l : List (List ℕ)). AnswersCircle (netlist_in n).tables l) (sym is) (circle_answers n c.len.result c.in-Circle.path c.in-Circle.back c.len.ensures.distinct c.len.ensures.value h))
