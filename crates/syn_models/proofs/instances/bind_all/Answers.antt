use Rattle.std.proofs.Common.{◌≡◌, ℕ, ◌+◌, ◌-◌, ◌<◌, List, ◌∷◌, Option, IfSome, drop, length, sym, ◌∙◌, subst, arith}
use Rattle.std.proofs.lemmas.List.{drop_all}
use Rattle.syn_models.specs.declared.hierarchy.Bind.{Bind}
use Rattle.syn_models.specs.Called.{BindsEach}
use Rattle.syn_models.proofs.Instance.{actual_below, binds_none}
use Rattle.syn_models.proofs.Listing.{left_from}
use Rattle.syn_models.proofs.instances.bind_all.Goals as goal

pub loop-j-init : goal.loop-j-init
loop-j-init c = record {
  size = c.requires.size;
  each = binds_none c.args.own.now (drop (length c.args.binds.now) c.args.binds.now) c.args.actuals.now (drop_all (length c.args.binds.now) c.args.binds.now (omega arith)) c.requires.none;
  below = λ count b i. subst (λ (o : Option ℕ). IfSome o (λ a. a < count)) (sym (c.requires.none i)) tt;
}

pub loop-j-preserved : goal.loop-j-preserved
loop-j-preserved c =
    let j : ℕ = c.loop-j.j - 1 in
    let inside : c.loop-j.j - 1 < length c.args.binds.now = omega arith in
    let next : drop (c.loop-j.j - 1) c.args.binds.now ≡ c.index-binds-j.result ∷ drop (c.loop-j.j - 1 + 1) c.args.binds.now = left_from c.args.binds.now j c.index-binds-j.result inside c.index-binds-j.is in
    let same : c.loop-j.j - 1 + 1 ≡ c.loop-j.j = omega arith in
    record {
      size = c.bind.ensures.size ∙ c.loop-j.invariant.size;
      each =
          subst (λ (bs : List Bind). BindsEach c.args.own.now bs c.bind.new.actuals) (sym next)
          (c.bind.ensures.each (drop (c.loop-j.j - 1 + 1) c.args.binds.now) (subst (λ (k : ℕ). BindsEach c.args.own.now (drop k c.args.binds.now) c.loop-j.actuals) (sym same) c.loop-j.invariant.each));
      below = λ count b. c.bind.ensures.below count (actual_below count c.args.binds.now j c.index-binds-j.result b inside c.index-binds-j.is) (c.loop-j.invariant.below count b);
    }
