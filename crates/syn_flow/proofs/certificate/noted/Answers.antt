use Rattle.std.proofs.Common.{◌≡◌, ◌+◌, [], Bool, List, length, map, suc, false, ap, sym, ◌∙◌, subst, arith}
use Rattle.std.specs.Vec.{with_items}
use Rattle.std.proofs.lemmas.List.{get_or-map, length-replicate, with_items_is}
use Rattle.syn_rows.specs.Values.{value_in}
use Rattle.syn_paths.specs.Tops.{label_in}
use Rattle.syn_flow.specs.Witness.{Shown}
use Rattle.syn_flow.specs.Checks.{AreNoted, IsNotedBy, shown_at}
use Rattle.syn_flow.specs.Flows.{shown_of}
use Rattle.syn_flow.proofs.Witnessed.{none_yet, noted_more, noted_none}
use Rattle.syn_flow.proofs.certificate.noted.Goals as goal

pub loop-entry-init : goal.loop-entry-init
loop-entry-init c = record {
  noted = noted_none c.args.k c.args.rows.now (label_in c.args.labels.now) (map shown_of c.args.paths.now) c.in_ok-marks.marks.items
      (λ n. ap (λ (l : List Bool). value_in l n) c.in_ok-marks.ensures ∙ none_yet (length c.args.rows.now) n);
  ready = c.in_ok-room.ensures;
  long = ap (λ (l : List Bool). length l) c.in_ok-marks.ensures ∙ length-replicate (length c.args.rows.now) false;
}

pub loop-entry-preserved : goal.loop-entry-preserved
loop-entry-preserved c =
    let rows = c.args.rows.now in
    let label = label_in c.args.labels.now in
    let paths = c.args.paths.now in
    let shown = map shown_of paths in
    let i = c.loop-entry.entry-index in
    let old = c.loop-entry.marks in
    let back : (with_items old c.note.new.marks).items ≡ c.note.new.marks = with_items_is old c.note.new.marks (c.in_ok-note.ensures.marks ∙ c.as_mut_slice.ensures.len) in
    let at : shown_at shown i ≡ shown_of c.entry-item.result = get_or-map shown_of paths i c.entry-item.result (record { node = 0; lists = [] }) c.loop-entry-test.true ∙ ap shown_of (sym c.entry-item.is) in
    let told = rw c.as_mut_slice.ensures.value at c.in_ok-note.ensures.noted in
    let by : IsNotedBy c.args.k rows label (shown_at shown i) old.items c.note.new.marks = subst (λ (x : Shown). IsNotedBy c.args.k rows label x old.items c.note.new.marks) (sym at) told in
    let more = noted_more c.args.k rows label shown i old.items c.note.new.marks c.loop-entry.invariant.noted by in
    let one : suc i ≡ i + 1 = omega arith in
    record {
      noted = subst (λ (l : List Bool). AreNoted c.args.k rows label shown (i + 1) l) (sym back) (subst (λ m. AreNoted c.args.k rows label shown m c.note.new.marks) one more);
      ready = c.in_ok-note.ensures.room;
      long = ap (λ (l : List Bool). length l) back ∙ c.in_ok-note.ensures.marks ∙ ap (λ (l : List Bool). length l) c.as_mut_slice.ensures.value ∙ c.loop-entry.invariant.long;
    }
