use Rattle.syn_table.specs.Seating.{graph_of, spare_of, view_of}
use Rattle.syn_pool.proofs.Leaving.{can_compact_as, closing_of, is_left}
use Rattle.syn_pool.proofs.rounds.closed_table.close.Goals as goal

pub compact-requires-clause-can : goal.compact-requires-clause-can
compact-requires-clause-can c =
    can_compact_as c.args.graph.now (spare_of c.args.shared) (view_of c.args.seat).difference c.in-Ok.closed.rows.items c.in-Ok.closed.observed.items
    (closing_of (graph_of c.args.shared) c.args.graph.now (spare_of c.args.shared) (view_of c.args.seat).difference c.in-Ok.closed.rows.items c.in-Ok.closed.observed.items c.requires.graph c.in-Ok.ensures.closing)
    c.as_slice-rows.result.now c.as_slice-literals.result.now c.as_slice-rows.ensures.value c.as_slice-literals.ensures

pub returns : goal.returns
returns c =
    is_left c.args.graph.now (spare_of c.args.shared) (view_of c.args.seat).difference c.in-Ok.closed.rows.items c.in-Ok.closed.observed.items
    (closing_of (graph_of c.args.shared) c.args.graph.now (spare_of c.args.shared) (view_of c.args.seat).difference c.in-Ok.closed.rows.items c.in-Ok.closed.observed.items c.requires.graph c.in-Ok.ensures.closing)
    c.as_slice-rows.result.now c.as_slice-literals.result.now c.as_slice-rows.ensures.value c.as_slice-literals.ensures
    c.count-count.result c.count-count.ensures.ands c.count-count.ensures.rows
    c.in_ok-next.next c.in_ok-next.ensures.sources c.in_ok-next.ensures.compacted
