use Rattle.std.proofs.Common.{◌∙◌, ℕ, List, length, take, sym, subst, arith}
use Rattle.std.proofs.lemmas.List.{length-take, take_more}
use Rattle.syn_rows.specs.declared.Row.{Row}
use Rattle.syn_rows.specs.declared.Row.TheVariants.{Free}
use Rattle.syn_hashed.specs.Pairs.{IsIndex}
use Rattle.syn_hashed.proofs.pairs.index_rows.Goals as goal

pub loop-n-preserved : goal.loop-n-preserved
loop-n-preserved c =
    let rows : List Row = c.args.rows.now in
    let n : ℕ = c.loop-n.n in
    record {
      index =
          subst (λ (rs : List Row). IsIndex (length c.args.heads.now.items) rs c.link.new.heads.items c.link.new.next.items) (sym (take_more rows n Free c.loop-n-test.true))
          (c.link.ensures.index (length c.args.heads.now.items) (take n rows) (omega (arith, length-take n rows)) c.loop-n.invariant.index);
      heads = c.link.ensures.heads ∙ c.loop-n.invariant.heads;
      next = c.link.ensures.next ∙ c.loop-n.invariant.next;
    }
