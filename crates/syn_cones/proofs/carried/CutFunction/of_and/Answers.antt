use Rattle.std.proofs.Common.{◌≢◌, ◌<◌, subst, arith}
use Rattle.syn_rows.specs.declared.Row.TheVariants.{And}
use Rattle.syn_rows.specs.Rows.{AllRefs}
use Rattle.syn_cones.proofs.Carrying.{and_floor, short_word}
use Rattle.syn_cones.proofs.Wording.{and_word, is_and}
use Rattle.syn_cones.proofs.carried.CutFunction.of_and.Goals as goal

pub returns : goal.returns
returns c = λ rows leaves few order row inner left right.
    let n = c.args.node in
    let a = c.args.first in
    let b = c.args.second in
    let refs : AllRefs (λ m. m < n) (And a b) = subst (AllRefs (λ m. m < n)) row (order n) in
    let some : n ≢ 0 = λ e. omega (arith, e, refs.0) in
    record {
      word = short_word rows leaves n _ c.short.result few c.short.ensures
          (and_word rows leaves n a b c.from.result c.from-2.result c.lit_word.result c.lit_word-2.result (omega (arith, few)) (is_and rows leaves n a b some row inner)
          (rw c.from.ensures left.word) (rw c.from-2.ensures right.word) c.lit_word.ensures c.lit_word-2.ensures);
      min_inner = and_floor rows leaves n c.args.left.min_inner c.args.right.min_inner c.min-2.result a b row left.min_inner right.min_inner (omega (arith, c.min.ensures, c.min-2.ensures)) (omega (arith, c.min.ensures, c.min-2.ensures)) (omega (arith, c.min-2.ensures));
    }
