-- Rows of a test: with an alias, a free row, a row that nothing reaches, and a row that refers to a greater node.
use Rattle.std.proofs.Common.{◌≡◌, ℕ, zero, suc, ◌+◌, ◌<◌, List, [], ◌∷◌, get_or, refl, arith}
use Rattle.std.proofs.lemmas.List.Elements.{All-nil, All-cons}
use Rattle.syn_rows.specs.declared.Lit.{Lit}
use Rattle.syn_rows.specs.declared.Row.{Row}
use Rattle.syn_rows.specs.declared.Row.TheVariants.{Free, Source, And, Alias}
use Rattle.syn_rows.specs.Rows.{node_of, row_at, AllRefs, Rises}
use Rattle.syn_hashed.specs.Compacting.{CanCompact, IsThere}

abbrev lit : ℕ → Lit
lit k = record { 0 = k }

abbrev pub sample : List Row
sample = Source ∷ Source ∷ Source ∷ Source ∷ And (lit 10) (lit 6) ∷ Alias (lit 13) ∷ And (lit 2) (lit 4) ∷ Free ∷ And (lit 2) (lit 12) ∷ []

abbrev pub sample_lits : List Lit
sample_lits = lit 9 ∷ lit 2 ∷ []

abbrev rank : ℕ → ℕ
rank n = get_or (0 ∷ 0 ∷ 0 ∷ 0 ∷ 3 ∷ 2 ∷ 1 ∷ 0 ∷ 2 ∷ []) n 0

source_is_not_free : Source ≡ Free → ⊥
source_is_not_free e = cc

and_is_not_free : (a b : Lit) → And a b ≡ Free → ⊥
and_is_not_free a b e = cc

alias_is_not_free : (a : Lit) → Alias a ≡ Free → ⊥
alias_is_not_free a e = cc

front : (n : ℕ) → n < 3 + 1 → row_at sample n ≡ Source
front zero lt = refl
front (suc zero) lt = refl
front (suc (suc zero)) lt = refl
front (suc (suc (suc zero))) lt = refl
front (suc (suc (suc (suc n)))) lt = absurd (omega arith)

others : (n : ℕ) → 3 < n → row_at sample n ≡ Source → ⊥
others zero above e = absurd (omega arith)
others (suc zero) above e = absurd (omega arith)
others (suc (suc zero)) above e = absurd (omega arith)
others (suc (suc (suc zero))) above e = absurd (omega arith)
others (suc (suc (suc (suc zero)))) above e = cc
others (suc (suc (suc (suc (suc zero))))) above e = cc
others (suc (suc (suc (suc (suc (suc zero)))))) above e = cc
others (suc (suc (suc (suc (suc (suc (suc zero))))))) above e = cc
others (suc (suc (suc (suc (suc (suc (suc (suc zero)))))))) above e = cc
others (suc (suc (suc (suc (suc (suc (suc (suc (suc n))))))))) above e = cc

refs : (n : ℕ) → AllRefs (IsThere sample) (row_at sample n)
refs zero = tt
refs (suc zero) = tt
refs (suc (suc zero)) = tt
refs (suc (suc (suc zero))) = tt
refs (suc (suc (suc (suc zero)))) = (alias_is_not_free (lit 13), source_is_not_free)
refs (suc (suc (suc (suc (suc zero))))) = and_is_not_free (lit 2) (lit 4)
refs (suc (suc (suc (suc (suc (suc zero)))))) = (source_is_not_free, source_is_not_free)
refs (suc (suc (suc (suc (suc (suc (suc zero))))))) = tt
refs (suc (suc (suc (suc (suc (suc (suc (suc zero)))))))) = (source_is_not_free, and_is_not_free (lit 2) (lit 4))
refs (suc (suc (suc (suc (suc (suc (suc (suc (suc n))))))))) = tt

rises : Rises sample rank
rises zero = tt
rises (suc zero) = tt
rises (suc (suc zero)) = tt
rises (suc (suc (suc zero))) = tt
rises (suc (suc (suc (suc zero)))) = (omega arith, omega arith)
rises (suc (suc (suc (suc (suc zero))))) = omega arith
rises (suc (suc (suc (suc (suc (suc zero)))))) = (omega arith, omega arith)
rises (suc (suc (suc (suc (suc (suc (suc zero))))))) = tt
rises (suc (suc (suc (suc (suc (suc (suc (suc zero)))))))) = (omega arith, omega arith)
rises (suc (suc (suc (suc (suc (suc (suc (suc (suc n))))))))) = tt

pub sample_can_compact : CanCompact 3 sample sample_lits
sample_can_compact = record {
  front = front;
  others = others;
  refs = refs;
  named =
      All-cons (λ (l : Lit). IsThere sample (node_of l)) (lit 9) (lit 2 ∷ []) (and_is_not_free (lit 10) (lit 6))
      (All-cons (λ (l : Lit). IsThere sample (node_of l)) (lit 2) [] source_is_not_free (All-nil (λ (l : Lit). IsThere sample (node_of l))));
  acyclic = (rank, rises);
}
