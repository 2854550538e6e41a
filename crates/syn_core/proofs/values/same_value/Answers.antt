use Rattle.std.proofs.Common.{ℕ, Bool, ◌↔◌, IsTrue}
use Rattle.std.proofs.lemmas.Result.{IfOk-weaker}
use Rattle.syn_core_laws.specs.Lists.{look}
use Rattle.syn_core_laws.specs.SameValue.{SameFor}
use Rattle.syn_core.proofs.Telling.{covers_first, same_from_all}
use Rattle.syn_core.proofs.values.same_value.Goals as goal

pub returns : goal.returns
returns c =
    IfOk-weaker c.same_for_all.result _ (λ b. IsTrue b ↔ ((choice : ℕ → Bool) → SameFor (λ n. look n c.args.rows.now) c.args.over.now choice c.args.old c.args.new))
    (λ b h. let all = same_from_all (λ n. look n c.args.rows.now) c.args.over.now c.args.old c.args.new in ((λ yes. all.0 (h.0 yes)), (λ each. h.1 (all.1 each))))
    (c.same_for_all.ensures c.args.over.now (covers_first c.args.over.now))
