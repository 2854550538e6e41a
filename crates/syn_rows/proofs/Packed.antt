-- A word is that of one row at most.
use Rattle.std.proofs.Common.{◌≡◌, refl, ap, ◌∙◌, arith}
use Rattle.syn_rows.specs.declared.Row.{Row}
use Rattle.syn_rows.specs.declared.Row.TheVariants.{Free, Source, And, Alias}
use Rattle.syn_rows.specs.Packing.{word_of, Packs}
use Rattle.syn_rows.proofs.JoinLaws.{same_lit}

pub same_packed : (r q : Row) → Packs r → Packs q → word_of r ≡ word_of q → r ≡ q
same_packed Free Free p p' e = refl
same_packed Free Source p p' e = absurd (omega arith)
same_packed Free (And a b) p p' e = absurd (omega arith)
same_packed Free (Alias a) p p' e = absurd (omega arith)
same_packed Source Free p p' e = absurd (omega arith)
same_packed Source Source p p' e = refl
same_packed Source (And a b) p p' e = absurd (omega arith)
same_packed Source (Alias a) p p' e = absurd (omega arith)
same_packed (And a b) Free p p' e = absurd (omega arith)
same_packed (And a b) Source p p' e = absurd (omega arith)
same_packed (And a b) (And x y) p p' e =
    let first : a ≡ x = same_lit a x (omega (arith, p.0, p.1, p'.0, p'.1)) in
    let second : b ≡ y = same_lit b y (omega (arith, p.0, p.1, p'.0, p'.1)) in
    ap (λ l. And l b) first ∙ ap (And x) second
same_packed (And a b) (Alias x) p p' e = absurd (omega arith)
same_packed (Alias a) Free p p' e = absurd (omega arith)
same_packed (Alias a) Source p p' e = absurd (omega arith)
same_packed (Alias a) (And x y) p p' e = absurd (omega arith)
same_packed (Alias a) (Alias x) p p' e = ap Alias (same_lit a x (omega arith))
