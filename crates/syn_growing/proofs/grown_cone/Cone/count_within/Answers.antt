use Rattle.std.proofs.Common.{◌≡◌, ◌+◌, ◌-◌, ◌++◌, [], ◌∷◌, true, nat_le, length, rules, sym, ap, ap₂, ◌∙◌, arith}
use Rattle.syn_rows.specs.declared.Row.TheVariants.{And}
use Rattle.syn_rows.specs.Reach.{is_and}
use Rattle.syn_rows.specs.Rows.{node_of, refs_of, row_at}
use Rattle.syn_lists.specs.Numbers.{without_numbers}
use Rattle.syn_growing.specs.Growing.{count_with, inner_with, one_new}
use Rattle.syn_growing.proofs.Choosing.{may_from, no_room, too_many}
use Rattle.syn_growing.proofs.Replacing.{count_is}
use Rattle.syn_growing.proofs.grown_cone.Cone.count_within.Goals.{else-count-most-via-then-count-most+else-has_room, else-count-most-via-else-count-most}
use Rattle.syn_growing.proofs.grown_cone.Cone.count_within.Goals as goal

pub returns-then-has_room-clause-some : goal.returns-then-has_room-clause-some
returns-then-has_room-clause-some c =
    let rows = c.args.rows.now in
    let leaves = c.args.self.now.leaves in
    let inner = c.args.self.now.inner in
    let leaf = c.args.leaf in
    let row : row_at rows leaf ≡ And c.in-And.a c.in-And.b = search rules in
    let slice : c.as_slice-leaves.result.now ≡ leaves = c.as_slice-leaves.ensures.value ∙ ap (λ v. v.leaves) c.self.view_is in
    let first : c.one_new-first.result ≡ one_new leaves (node_of c.in-And.a) = c.one_new-first.ensures.value ∙ ap₂ one_new slice c.node.ensures in
    let second : c.one_new-second.result ≡ one_new leaves (node_of c.in-And.b) = c.one_new-second.ensures.value ∙ ap₂ one_new slice c.node-2.ensures in
    let long : length c.as_slice-leaves.result.now ≡ length leaves = ap length slice in
    let count = count_is rows leaves leaf c.in-And.a c.in-And.b row (c.requires.rows leaf c.in-And.a c.in-And.b row) c.requires.rise c.requires.leaf in
    let is : length c.as_slice-leaves.result.now - 1 + c.one_new-first.result + c.one_new-second.result ≡ count_with rows leaves leaf = omega (arith, first, second, long, count) in
    let same : c.as_slice.result.now ≡ inner = c.as_slice.ensures.value ∙ ap (λ v. v.inner) c.self.view_is in
    let refs : c.node-then-count-most.result ∷ c.node-then-count-most-2.result ∷ [] ≡ refs_of (row_at rows leaf) = ap₂ (λ x y. x ∷ y ∷ []) c.node-then-count-most.ensures c.node-then-count-most-2.ensures ∙ sym (ap refs_of row) in
    let room : nat_le (length (inner_with rows inner leaf)) 48 ≡ true =
    sym (ap₂ (λ ns old. nat_le (length (without_numbers ns old ++ leaf ∷ [])) 48) refs same) ∙ sym c.has_room.ensures ∙ c.if-has_room.true in
    (may_from rows c.args.self.now c.args.most leaf (record { gate = ap is_and row; few = omega (arith, is, c.if-count-most.true); room = room }), is)

pub returns-else-count-most-clause-none : goal.returns-else-count-most-clause-none
returns-else-count-most-clause-none c =
    let rows = c.args.rows.now in
    let leaves = c.args.self.now.leaves in
    let inner = c.args.self.now.inner in
    let leaf = c.args.leaf in
    let row : row_at rows leaf ≡ And c.in-And.a c.in-And.b = search rules in
    elim c.else-count-most.branch [
      | else-count-most-via-then-count-most+else-has_room w ↦
          let same : w.as_slice.result.now ≡ inner = w.as_slice.ensures.value ∙ ap (λ v. v.inner) c.self.view_is in
          let refs : w.node-then-count-most.result ∷ w.node-then-count-most-2.result ∷ [] ≡ refs_of (row_at rows leaf) = ap₂ (λ x y. x ∷ y ∷ []) w.node-then-count-most.ensures w.node-then-count-most-2.ensures ∙ sym (ap refs_of row) in
          no_room rows c.args.self.now c.args.most leaf (sym (ap₂ (λ ns old. nat_le (length (without_numbers ns old ++ leaf ∷ [])) 48) refs same) ∙ sym w.has_room.ensures ∙ w.if-has_room.false)
      | else-count-most-via-else-count-most w ↦
          let slice : c.as_slice-leaves.result.now ≡ leaves = c.as_slice-leaves.ensures.value ∙ ap (λ v. v.leaves) c.self.view_is in
          let first : c.one_new-first.result ≡ one_new leaves (node_of c.in-And.a) = c.one_new-first.ensures.value ∙ ap₂ one_new slice c.node.ensures in
          let second : c.one_new-second.result ≡ one_new leaves (node_of c.in-And.b) = c.one_new-second.ensures.value ∙ ap₂ one_new slice c.node-2.ensures in
          let long : length c.as_slice-leaves.result.now ≡ length leaves = ap length slice in
          let count = count_is rows leaves leaf c.in-And.a c.in-And.b row (c.requires.rows leaf c.in-And.a c.in-And.b row) c.requires.rise c.requires.leaf in
          too_many rows c.args.self.now c.args.most leaf (omega (arith, first, second, long, count, w.if-count-most.false))
    ]
