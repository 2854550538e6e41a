use Rattle.std.proofs.Common.{◌≡◌, suc, ◌+◌, ◌<◌, ◌++◌, ◌∷◌, List, [], get_or, length, reverse, sym, ap, ap₂, ◌∙◌, subst, arith, length-append}
use Rattle.syn_rows.specs.declared.Row.{Row}
use Rattle.syn_rows.specs.declared.Row.TheVariants.{Free}
use Rattle.syn_rows.specs.Rows.{AllRefs, is_derived, row_at}
use Rattle.syn_core_laws.specs.Events.{IsAnd}
use Rattle.syn_decide.specs.declared.decisions.NodeRow.{NodeRow}
use Rattle.syn_decide.specs.Walk.{nodes_of as nodes_of_rows}
use Rattle.syn_table.specs.Seating.{nodes_of, view_of}
use Rattle.syn_table.specs.Steps.{with_view}
use Rattle.syn_commit_laws.specs.Redefining.{row_made}
use Rattle.syn_commit_laws.specs.Turning.{TurnsAll}
use Rattle.syn_commit.specs.Storing.{AreMade, IsNewRow, MayReferTo, key_at, makes_row, makes_rows, node_at}
use Rattle.syn_commit.proofs.Following.{keeps_on, key_next, made_more, nodes_few, pool_falls, row_is_and, row_may, rows_turn}
use Rattle.syn_commit.proofs.stores.make_rows.Goals as goal

pub row_made-row-requires : goal.row_made-row-requires
row_made-row-requires c i =
    subst (λ (rs : List NodeRow). node_at rs i < 2147483648) (sym c.as_slice.ensures.value)
    (nodes_few (nodes_of c.args.shared.now) (view_of c.loop-i.seat) c.loop-i.made.items c.seats_reach_nodes.ensures.shown c.seats_reach_nodes.ensures.few c.loop-i.invariant.made.known i)

-- the row as it is stored
stored : (c : goal.After-make_one-arg-in-loop-i-2-1) → c.row_made-row.result ≡ row_made (nodes_of_rows c.loop-i.made.items) (row_at c.args.rows.now.rows.items c.loop-i.i)
stored c =
    c.row_made-row.ensures ∙ ap₂ (λ (rs : List NodeRow) (r : Row). row_made (nodes_of_rows rs) r) c.as_slice.ensures.value (ap (λ (rs : List Row). get_or rs c.loop-i.i Free) c.as_slice-list.ensures.value)

key : (c : goal.After-make_one-arg-in-loop-i-2-1) → c.loop-i.key + c.args.spacing.step ≡ key_at c.args.spacing.low c.args.spacing.step (length c.loop-i.made.items)
key c = ap (λ k. k + c.args.spacing.step) c.loop-i.invariant.key ∙ (key_next c.args.spacing.low c.args.spacing.step c.loop-i.i ∙ ap (key_at c.args.spacing.low c.args.spacing.step) (sym c.loop-i.invariant.count))

-- the row that is next
next : (c : goal.After-make_one-arg-in-loop-i-2-1) → IsNewRow (view_of c.args.seat.now) c.args.spacing.low (length c.loop-i.made.items) (row_at c.args.rows.now.rows.items c.loop-i.i)
next c = subst (λ k. IsNewRow (view_of c.args.seat.now) c.args.spacing.low k (row_at c.args.rows.now.rows.items c.loop-i.i)) (sym c.loop-i.invariant.count) (c.requires.rows c.loop-i.i c.loop-i-test.true)

is_and : (c : goal.After-make_one-arg-in-loop-i-2-1) → IsAnd c.row_made-row.result
is_and c = subst IsAnd (sym (stored c))
    (row_is_and c.args.spacing.low c.args.spacing.step c.args.rows.now.rows.items (view_of c.args.seat.now) (view_of c.loop-i.seat) c.loop-i.made.items c.requires.step c.loop-i.invariant.keeps c.loop-i.invariant.made (row_at c.args.rows.now.rows.items c.loop-i.i) (next c))

pub make_one-node-requires-clause-row : goal.make_one-node-requires-clause-row
make_one-node-requires-clause-row c = is_and c

pub make_one-node-requires-clause-may : goal.make_one-node-requires-clause-may
make_one-node-requires-clause-may c =
    subst (λ k. AllRefs (MayReferTo (view_of c.loop-i.seat) k) c.row_made-row.result) (sym (key c))
    (subst (AllRefs (MayReferTo (view_of c.loop-i.seat) (key_at c.args.spacing.low c.args.spacing.step (length c.loop-i.made.items)))) (sym (stored c))
    (row_may c.args.spacing.low c.args.spacing.step c.args.rows.now.rows.items (view_of c.args.seat.now) (view_of c.loop-i.seat) c.loop-i.made.items c.requires.step c.loop-i.invariant.keeps c.loop-i.invariant.made (row_at c.args.rows.now.rows.items c.loop-i.i) (next c)))

pub make_one-node-requires-clause-room : goal.make_one-node-requires-clause-room
make_one-node-requires-clause-room c =
    let same = ap length c.as_slice-list.ensures.value in
    omega (arith, c.loop-i.invariant.size, c.loop-i-test.true, c.requires.there, same, c.as_slice-list.ensures.fits, c.requires.room)

-- what is noted
abbrev noted : goal.After-push → NodeRow
noted c = record { node = c.make_one-node.result; row = c.row_made-row.result }

pub loop-i-preserved : goal.loop-i-preserved
loop-i-preserved c =
    let items : c.push.new.self.items ≡ c.loop-i.made.items ++ noted c ∷ [] = c.push.ensures.items in
    let k : c.loop-i.key + c.args.spacing.step ≡ key_at c.args.spacing.low c.args.spacing.step (length c.loop-i.made.items) =
    ap (λ x. x + c.args.spacing.step) c.loop-i.invariant.key ∙ (key_next c.args.spacing.low c.args.spacing.step c.loop-i.i ∙ ap (key_at c.args.spacing.low c.args.spacing.step) (sym c.loop-i.invariant.count)) in
    let row : c.row_made-row.result ≡ row_made (nodes_of_rows c.loop-i.made.items) (row_at c.args.rows.now.rows.items (length c.loop-i.made.items)) =
    (c.row_made-row.ensures ∙ ap₂ (λ (rs : List NodeRow) (r : Row). row_made (nodes_of_rows rs) r) c.as_slice.ensures.value (ap (λ (rs : List Row). get_or rs c.loop-i.i Free) c.as_slice-list.ensures.value))
    ∙ ap (λ n. row_made (nodes_of_rows c.loop-i.made.items) (row_at c.args.rows.now.rows.items n)) (sym c.loop-i.invariant.count) in
    let few : length c.loop-i.made.items < c.args.rows.now.needed = omega (arith, c.loop-i.invariant.count, c.loop-i-test.true) in
    let next_row = subst (λ n. IsNewRow (view_of c.args.seat.now) c.args.spacing.low (length c.loop-i.made.items) (row_at c.args.rows.now.rows.items n)) c.loop-i.invariant.count (c.requires.rows (length c.loop-i.made.items) few) in
    let and : IsAnd c.row_made-row.result = subst IsAnd (sym (row ∙ ap (λ n. row_made (nodes_of_rows c.loop-i.made.items) (row_at c.args.rows.now.rows.items n)) c.loop-i.invariant.count))
    (row_is_and c.args.spacing.low c.args.spacing.step c.args.rows.now.rows.items (view_of c.args.seat.now) (view_of c.loop-i.seat) c.loop-i.made.items c.requires.step c.loop-i.invariant.keeps c.loop-i.invariant.made (row_at c.args.rows.now.rows.items c.loop-i.i) next_row) in
    let keyed = subst (λ x. MayReferTo (view_of c.make_one-node.new.seat) (suc x) c.make_one-node.result) k c.make_one-node.ensures.keyed in
    let turned = subst (λ x. TurnsAll (nodes_of c.args.shared.now) (view_of c.loop-i.seat) (makes_row c.make_one-node.result c.row_made-row.result x) (view_of c.make_one-node.new.seat)) k c.make_one-node.ensures.turns in
    record {
      table = c.make_one-node.ensures.table;
      known = c.make_one-node.ensures.known ∙ ap (λ x. with_view x (view_of c.make_one-node.new.seat)) c.loop-i.invariant.known;
      turns = subst (λ rs. TurnsAll (nodes_of c.args.shared.now) (view_of c.args.seat.now) (makes_rows c.args.spacing.low c.args.spacing.step 0 rs) (view_of c.make_one-node.new.seat)) (sym items)
          (rows_turn (nodes_of c.args.shared.now) c.args.spacing.low c.args.spacing.step (view_of c.args.seat.now) (view_of c.loop-i.seat) (view_of c.make_one-node.new.seat) c.loop-i.made.items (noted c) c.loop-i.invariant.turns turned);
      keeps = keeps_on (view_of c.args.seat.now) (view_of c.loop-i.seat) (view_of c.make_one-node.new.seat) c.loop-i.invariant.keeps c.make_one-node.ensures.keeps;
      made = subst (λ rs. AreMade c.args.spacing.low c.args.spacing.step c.args.rows.now.rows.items rs (view_of c.make_one-node.new.seat)) (sym items)
          (made_more c.args.spacing.low c.args.spacing.step c.args.rows.now.needed c.args.rows.now.rows.items (view_of c.args.seat.now) (view_of c.loop-i.seat) (view_of c.make_one-node.new.seat) c.loop-i.made.items (noted c)
          c.requires.rows few c.loop-i.invariant.made c.make_one-node.ensures.keeps c.make_one-node.ensures.row (ap is_derived and.2) keyed row);
      count = ap length items ∙ (length-append c.loop-i.made.items (noted c ∷ []) ∙ ap (λ n. n + 1) c.loop-i.invariant.count);
      key = ap (λ x. x + c.args.spacing.step) c.loop-i.invariant.key ∙ key_next c.args.spacing.low c.args.spacing.step c.loop-i.i;
      giving = c.make_one-node.ensures.giving;
      pool = subst (λ rs. c.args.pool.now ≡ c.make_one-node.new.pool ++ reverse (nodes_of_rows rs)) (sym items)
          (pool_falls c.args.pool.now c.loop-i.pool c.make_one-node.new.pool c.loop-i.made.items (noted c) c.loop-i.invariant.pool c.make_one-node.ensures.pool);
      pins = c.make_one-node.ensures.pins ∙ c.loop-i.invariant.pins;
      size = omega (arith, c.make_one-node.ensures.size, c.loop-i.invariant.size);
    }
