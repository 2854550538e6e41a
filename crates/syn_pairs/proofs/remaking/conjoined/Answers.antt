use Rattle.std.proofs.Common.{◌≡◌, ◌<◌, ℕ, All, List, map, ap, sym, subst, ◌∙◌}
use Rattle.syn_rows.specs.declared.Lit.{Lit}
use Rattle.syn_rows.specs.Rows.{node_of}
use Rattle.syn_hashed.proofs.Orders.{hashed_in_order}
use Rattle.syn_remaking.specs.Remaking.{moved}
use Rattle.syn_remaking.proofs.Results.{both_ok}
use Rattle.syn_pairs.specs.Conjunctions.{AreThere, IsAll}
use Rattle.syn_pairs.proofs.Conjoining.{all_stands, moved_there}
use Rattle.syn_pairs.proofs.remaking.conjoined.Goals as goal

pub join_all-requires : goal.join_all-requires
join_all-requires c =
    let old = c.args.hashed.now in
    let rows = c.args.rows.now in
    let literals = c.args.literals.now in
    let leaves = c.in_ok-leaves.leaves.items in
    let all = c.in_ok-leaves.ensures (hashed_in_order old.source_count rows c.requires.hashed) c.requires.row in
    let is : c.as_mut_slice.result.now ≡ map (moved literals) leaves = c.as_mut_slice.ensures.value ∙ (c.in_ok-lits.ensures ∙ ap (map (moved literals)) c.as_slice-2.ensures.value) in
    record {
      there = subst (AreThere old.rows.items) (sym is) (moved_there rows old.rows.items literals leaves c.requires.standing (subst (λ (k : ℕ). All (λ (l : Lit). node_of l < k) leaves) c.requires.node all.before));
    }

pub returns-clause-stands : goal.returns-clause-stands
returns-clause-stands c =
    let old = c.args.hashed.now in
    let rows = c.args.rows.now in
    let literals = c.args.literals.now in
    let leaves = c.in_ok-leaves.leaves.items in
    let new = c.join_all.new.hashed.rows.items in
    let all = c.in_ok-leaves.ensures (hashed_in_order old.source_count rows c.requires.hashed) c.requires.row in
    let is : c.as_mut_slice.result.now ≡ map (moved literals) leaves = c.as_mut_slice.ensures.value ∙ (c.in_ok-lits.ensures ∙ ap (map (moved literals)) c.as_slice-2.ensures.value) in
    both_ok c.join_all.result
    (λ l there value. all_stands rows old.rows.items new literals leaves c.args.node l c.requires.node c.requires.standing all there (subst (λ (lits : List Lit). IsAll old.rows.items lits new l) is value))
    c.join_all.ensures.there c.join_all.ensures.all
