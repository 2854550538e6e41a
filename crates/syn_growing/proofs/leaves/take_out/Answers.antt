use Rattle.std.proofs.Common.{◌≡◌, ◌==◌, ◌&&◌, not, [], ◌∷◌, filter, rules, ◌∙◌}
use Rattle.std.proofs.lemmas.List.Elements.{filter_agree}
use Rattle.arrayvec.proofs.ArrayVecLemmas.{filter-from_retain}
use Rattle.syn_rows.specs.Nodes.{has_node}
use Rattle.syn_growing.proofs.Inner.{is_neither}
use Rattle.syn_growing.proofs.leaves.take_out.Goals as goal

pub returns : goal.returns
returns c =
    let inner = c.args.inner.now.items in
    let kept : c.retain.new.self.items ≡ filter (λ n. not (n == c.args.a) && not (n == c.args.b)) inner = filter-from_retain _ _ _ (λ x b f' y called. search rules) _ _ c.retain.ensures.filtered in
    kept ∙ filter_agree (λ n. not (n == c.args.a) && not (n == c.args.b)) (λ n. not (has_node (c.args.a ∷ c.args.b ∷ []) n)) (is_neither c.args.a c.args.b) inner
