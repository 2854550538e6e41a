use Rattle.std.proofs.Common.{◌≡◌, ◌<◌, ◌++◌, ◌∷◌, [], ℕ, List, length, set, refl, sym, ap, ◌∙◌, subst, arith}
use Rattle.std.proofs.lemmas.List.{length-set, get_or_default}
use Rattle.syn_rows.specs.declared.Row.{Row}
use Rattle.syn_rows.specs.declared.Row.TheVariants.{And}
use Rattle.syn_hashed.specs.Pairs.{IsIndex, bucket, number_at}
use Rattle.syn_hashed.proofs.Bucketing.{and_linked, no_and, other_linked}
use Rattle.syn_hashed.proofs.pairs.link.Goals as goal

pub returns-in-And : goal.returns-in-And
returns-in-And c =
    let heads : List ℕ = c.args.heads.now.items in
    let next : List ℕ = c.args.next.now.items in
    let k : ℕ = c.bucket-k.result in
    let counted : c.len.result ≡ length heads = omega (arith, c.len.ensures) in
    let is : k ≡ bucket (length heads) c.in-And.a c.in-And.b = c.bucket-k.ensures.bucket ∙ ap (λ n. bucket n c.in-And.a c.in-And.b) counted in
    let low : k < length heads = omega (arith, c.bucket-k.ensures.below, counted) in
    let head : c.index.result.now ≡ number_at heads k = c.index.ensures ∙ get_or_default heads k c.index.result.now 0 low in
    record {
      heads = length-set heads k c.args.node;
      next = length-set next c.args.node c.index.result.now;
      index = λ count rows at x.
          subst (λ (row : Row). IsIndex count (rows ++ row ∷ []) (set heads k c.args.node) (set next c.args.node c.index.result.now)) (sym c.in-And.is)
          (subst (λ n. IsIndex count (rows ++ And c.in-And.a c.in-And.b ∷ []) (set heads k c.args.node) (set next c.args.node n)) (sym head)
          (and_linked count rows c.in-And.a c.in-And.b heads next k c.args.node (is ∙ ap (λ n. bucket n c.in-And.a c.in-And.b) x.many)
          (omega (arith, low, x.many)) at (omega (arith, at, c.requires.there)) x));
    }

pub returns-in_default : goal.returns-in_default
returns-in_default c = record {
  heads = refl;
  next = refl;
  index = λ count rows at x. other_linked count rows c.args.row c.args.heads.now.items c.args.next.now.items (no_and count c.args.row c.in_default.not-And) (omega (arith, at, c.requires.there)) x;
}
