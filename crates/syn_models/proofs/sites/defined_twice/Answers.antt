use Rattle.std.proofs.Common.{◌≡◌, ℕ, List, Some, refl, sym, ap, ◌∙◌, subst, take, arith, rules}
use Rattle.std.proofs.lemmas.List.{drop_all, take_all}
use Rattle.syn_netlist.specs.Numbers.{word_at}
use Rattle.syn_models.specs.FlatFaults.{first_again}
use Rattle.syn_models.specs.declared.hierarchy.Bind.{Bind}
use Rattle.syn_models.specs.Marked.{Marked, pushed, defines_in}
use Rattle.syn_models.specs.Views.{model_in}
use Rattle.syn_models.proofs.Placing.{again_on, again_here, pushed_one}
use Rattle.syn_models.proofs.sites.defined_twice.Goals as goal

pub loop-b-preserved : goal.loop-b-preserved
loop-b-preserved c =
    let home = c.args.home.now in
    let m = model_in c.args.m.now in
    let bs = c.args.binds.now in
    let i : ℕ = c.loop-b.b-index in
    record {
      left = λ before h.
          again_on home before m bs i c.b-item.result (omega arith) c.b-item.is (c.if-defines_again.ensures.found (pushed before (defines_in home m (take i bs))) (c.loop-b.invariant.marked before h))
          ∙ c.loop-b.invariant.left before h;
      marked = λ before h.
          subst (λ (ws : List (List ℕ)). Marked home ws c.defines_again.new.marks) (sym (pushed_one home before m bs i c.b-item.result (omega arith) c.b-item.is))
          (c.if-defines_again.ensures.marked (pushed before (defines_in home m (take i bs))) (c.loop-b.invariant.marked before h) refl);
    }

pub returns-then-defines_again-clause-found : goal.returns-then-defines_again-clause-found
returns-then-defines_again-clause-found c =
    let home = c.args.home.now in
    let m = model_in c.args.m.now in
    let bs = c.args.binds.now in
    let i : ℕ = c.loop-b.b-index in
    let word : c.in_ok-copied.field-0 ≡ word_at home c.b-item.result.actual = search rules in
    λ before h.
    ap (λ (w : List ℕ). Some w) word
    ∙ sym (again_here home before m bs i c.b-item.result (word_at home c.b-item.result.actual) (omega arith) c.b-item.is (c.if-defines_again.ensures.found (pushed before (defines_in home m (take i bs))) (c.loop-b.invariant.marked before h)))
    ∙ c.loop-b.invariant.left before h

pub returns-clause-found : goal.returns-clause-found
returns-clause-found c =
    let home = c.args.home.now in
    let m = model_in c.args.m.now in
    let bs = c.args.binds.now in
    let i : ℕ = c.loop-b.b-index in
    λ before h. sym (ap (λ (xs : List Bind). first_again (pushed before (defines_in home m (take i bs))) (defines_in home m xs)) (drop_all i bs (omega arith))) ∙ c.loop-b.invariant.left before h

pub returns-clause-marked : goal.returns-clause-marked
returns-clause-marked c =
    let home = c.args.home.now in
    let m = model_in c.args.m.now in
    let bs = c.args.binds.now in
    let i : ℕ = c.loop-b.b-index in
    λ before h. subst (λ (xs : List Bind). Marked home (pushed before (defines_in home m xs)) c.loop-b.marks) (take_all i bs (omega arith)) (c.loop-b.invariant.marked before h)
