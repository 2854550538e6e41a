use Rattle.std.proofs.Common.{◌≡◌, ◌<◌, ◌∙◌, refl, sym, true, ap, subst, List, ℕ, set, length, get_or, arith}
use Rattle.syn_netlist.specs.declared.tables.Table.{Table}
use Rattle.syn_netlist.specs.Order.{reads_known}
use Rattle.syn_netlist.specs.Views.{netlist_in, table_in}
use Rattle.syn_build.specs.Naming.{in_order, IsNamed}
use Rattle.syn_build.proofs.Known.{IsNext, IsTaken, known_at, known_first, named_more, next_table, number_there, order_costs, table_inside, taken}
use Rattle.syn_build.proofs.tables.name_tables.Goals as goal

pub loop-number-init : goal.loop-number-init
loop-number-init c =
    let n = netlist_in c.args.netlist.now in
    let m = in_order n c.args.order.now in
    record {
      sources = refl;
      few = omega (arith, order_costs n c.args.order.now c.requires.order);
      reads = subst (λ (known : List (List ℕ)). reads_known known m.tables ≡ true) (sym (known_first m)) c.requires.order.ordered.ordered.above;
      named = subst (λ (known : List (List ℕ)). IsNamed m c.args.netlist.now.frame.names known c.args.hashed.now.rows.items c.args.literals.now) (sym (known_first m)) c.requires.named;
    }

pub literal_of-requires-clause-room : goal.literal_of-requires-clause-room
literal_of-requires-clause-room c =
    let n = netlist_in c.args.netlist.now in
    let tables : List Table = c.args.netlist.now.tables in
    let names : List (List ℕ) = c.args.netlist.now.frame.names in
    let k : ℕ = c.loop-number.number-index in
    let t : Table = c.index-tables-number.result in
    let same : c.as_slice-tables.result.now ≡ tables = c.as_slice-tables.ensures in
    let lt : k < length c.args.order.now = c.loop-number-test.true in
    let at : t ≡ get_or tables (get_or c.args.order.now k 0) t = c.index-tables-number.is ∙ ap (λ (ts : List Table). get_or ts (get_or c.args.order.now k 0) t) same in
    omega (arith, (taken n names tables c.args.order.now k t refl lt (number_there n names tables c.args.order.now k refl c.requires.order.below lt) at).cost, c.loop-number.invariant.few)

pub returns-in_err-literal-clause-few : goal.returns-in_err-literal-clause-few
returns-in_err-literal-clause-few c =
    let n = netlist_in c.args.netlist.now in
    let tables : List Table = c.args.netlist.now.tables in
    let names : List (List ℕ) = c.args.netlist.now.frame.names in
    let k : ℕ = c.loop-number.number-index in
    let t : Table = c.index-tables-number.result in
    let same : c.as_slice-tables.result.now ≡ tables = c.as_slice-tables.ensures in
    let lt : k < length c.args.order.now = c.loop-number-test.true in
    let at : t ≡ get_or tables (get_or c.args.order.now k 0) t = c.index-tables-number.is ∙ ap (λ (ts : List Table). get_or ts (get_or c.args.order.now k 0) t) same in
    omega (arith, c.in_err-literal.ensures.few, (taken n names tables c.args.order.now k t refl lt (number_there n names tables c.args.order.now k refl c.requires.order.below lt) at).cost, c.loop-number.invariant.few)

pub loop-number-preserved : goal.loop-number-preserved
loop-number-preserved c =
    let n = netlist_in c.args.netlist.now in
    let m = in_order n c.args.order.now in
    let tables : List Table = c.args.netlist.now.tables in
    let names : List (List ℕ) = c.args.netlist.now.frame.names in
    let k : ℕ = c.loop-number.number-index in
    let t : Table = c.index-tables-number.result in
    let same : c.as_slice-tables.result.now ≡ tables = c.as_slice-tables.ensures in
    let lt : k < length c.args.order.now = c.loop-number-test.true in
    let at : t ≡ get_or tables (get_or c.args.order.now k 0) t = c.index-tables-number.is ∙ ap (λ (ts : List Table). get_or ts (get_or c.args.order.now k 0) t) same in
    let there : get_or c.args.order.now k 0 < length tables = number_there n names tables c.args.order.now k refl c.requires.order.below lt in
    let took : IsTaken n c.args.order.now k (table_in names t) = taken n names tables c.args.order.now k t refl lt there at in
    let next : IsNext m k (table_in names t) = next_table m k (table_in names t) c.requires.order.ordered.ordered took.inside took.at c.loop-number.invariant.reads in
    let inside = table_inside (length names) tables (get_or c.args.order.now k 0) t c.args.netlist.now.tables_below there at in
    record {
      sources = c.in_ok-literal.ensures.sources ∙ c.loop-number.invariant.sources;
      few = omega (arith, c.in_ok-literal.ensures.few, took.cost, c.loop-number.invariant.few);
      reads = next.rest;
      named =
          subst (λ (known : List (List ℕ)). IsNamed m names known c.literal_of.new.hashed.rows.items (set c.loop-number.literals t.output c.in_ok-literal.literal)) next.known
          (named_more m names (known_at m k) c.loop-number.hashed.rows.items c.literal_of.new.hashed.rows.items c.loop-number.literals t.inputs t.output t.rows t.on
          c.in_ok-literal.literal c.loop-number.invariant.named c.requires.names c.in_ok-literal.ensures.grows c.in_ok-literal.ensures.there inside.0 inside.1 next.reads next.fresh next.gives c.in_ok-literal.ensures.value);
    }
