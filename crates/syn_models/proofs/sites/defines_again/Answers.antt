use Rattle.std.proofs.Common.{◌≡◌, ℕ, false, true, List, [], sym, ap, ◌∙◌, subst}
use Rattle.std.proofs.Math.ListN.{set}
use Rattle.syn_models.specs.Marked.{Marked, pushed}
use Rattle.syn_models.specs.Models.{is_reading}
use Rattle.syn_models.specs.Views.{model_in}
use Rattle.syn_models.proofs.Placing.{again_unmarked, one_defines, marked_more}
use Rattle.syn_models.proofs.sites.defines_again.Goals as goal

pub returns-clause-found : goal.returns-clause-found
returns-clause-found c = λ before h.
    again_unmarked c.args.home.now before (model_in c.args.m.now) c.args.b.now c.args.marks.now c.requires.below h (sym (c.if-is_reading.ensures ∙ ap (is_reading (model_in c.args.m.now)) c.as_slice.ensures)) c.if-marks-n.false

pub returns-clause-marked : goal.returns-clause-marked
returns-clause-marked c = λ before h e.
    let reads : is_reading (model_in c.args.m.now) c.args.b.now.formal ≡ false = sym (c.if-is_reading.ensures ∙ ap (is_reading (model_in c.args.m.now)) c.as_slice.ensures) in
    subst (λ (ws : List (List ℕ)). Marked c.args.home.now (pushed before ws) (set c.args.marks.now c.args.b.now.actual true)) (sym (one_defines c.args.home.now (model_in c.args.m.now) c.args.b.now [] reads))
    (marked_more c.args.home.now before c.args.marks.now c.args.b.now.actual c.len-count.ensures.distinct c.requires.below h)
