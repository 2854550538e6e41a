use Rattle.std.proofs.Common.{◌≡◌, ◌<◌, sym, subst, arith}
use Rattle.syn_rows.specs.declared.Row.TheVariants.{And}
use Rattle.syn_rows.specs.Rows.{row_at, AllRefs}
use Rattle.syn_cones.specs.Cones.{Refers}
use Rattle.syn_cones.specs.Words.{IsWordOver}
use Rattle.syn_cones.proofs.Wording.{and_word, constant_word, cut_of_fan_in, is_and}
use Rattle.syn_cones.proofs.words.+word_of.Goals as goal

pub returns-then-node-eq0 : goal.returns-then-node-eq0
returns-then-node-eq0 t c = constant_word c.args.rows.now c.args.leaves.now c.args.node c.if-node-eq0.true c.in_default.ensures.none

pub word_of-requires : goal.word_of-requires
word_of-requires t c =
    let rows = c.args.rows.now in
    let leaves = c.args.leaves.now in
    let n = c.args.node in
    let row : row_at rows n ≡ And c.in-And.a c.in-And.b = c.in-And.is in
    let is = is_and rows leaves n c.in-And.a c.in-And.b c.if-node-eq0.false row c.in_default.ensures.none in
    let low = (subst (AllRefs (λ m. m < n)) row (c.requires.order n)).0 in (
      omega arith,
      (
        c.requires.few,
        (
          c.requires.order,
          (
            omega (arith, low, c.node.ensures, c.requires.node),
            cut_of_fan_in rows leaves n c.node.result c.requires.cut is.inner (subst (Refers rows n) (sym c.node.ensures) is.first),
          ),
        ),
      ),
    )

pub word_of-requires-in-And : goal.word_of-requires-in-And
word_of-requires-in-And t c =
    let rows = c.args.rows.now in
    let leaves = c.args.leaves.now in
    let n = c.args.node in
    let row : row_at rows n ≡ And c.in-And.a c.in-And.b = c.in-And.is in
    let is = is_and rows leaves n c.in-And.a c.in-And.b c.if-node-eq0.false row c.in_default.ensures.none in
    let low = (subst (AllRefs (λ m. m < n)) row (c.requires.order n)).1 in (
      omega arith,
      (
        c.requires.few,
        (
          c.requires.order,
          (
            omega (arith, low, c.node-in-And.ensures, c.requires.node),
            cut_of_fan_in rows leaves n c.node-in-And.result c.requires.cut is.inner (subst (Refers rows n) (sym c.node-in-And.ensures) is.second),
          ),
        ),
      ),
    )

pub returns-in_ok-second-in-And : goal.returns-in_ok-second-in-And
returns-in_ok-second-in-And t c =
    let rows = c.args.rows.now in
    let leaves = c.args.leaves.now in
    let n = c.args.node in
    let a = c.in-And.a in
    let b = c.in-And.b in
    let row : row_at rows n ≡ And a b = c.in-And.is in
    let is = is_and rows leaves n a b c.if-node-eq0.false row c.in_default.ensures.none in
    let x = c.in_ok-first-in-And.first in
    let y = c.in_ok-second-in-And.second in
    let first = subst (λ m. IsWordOver rows leaves m x) c.node.ensures c.in_ok-first-in-And.ensures in
    let second = subst (λ m. IsWordOver rows leaves m y) c.node-in-And.ensures c.in_ok-second-in-And.ensures in
    and_word rows leaves n a b x y c.lit_word.result c.lit_word-in-And.result c.requires.few is first second c.lit_word.ensures c.lit_word-in-And.ensures
