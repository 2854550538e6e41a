-- Pairs of numbers in groups.
use Rattle.std.proofs.Common.{◌≡◌, ℕ, ◌-◌, ◌<◌, ◌≤◌, ◌&&◌, nat_le, nat_lt, Bool, true, false, List, Option, Some, None, refl, sym, ap, ◌∙◌, lt-ltb, le-leb}
use Rattle.std.proofs.lemmas.Bool.{and_from, cond-false, cond-true, lt-leb}
use Rattle.syn_aiger_files.specs.Parts.{Gate, Part, pair_behind, pair_by}
use Rattle.syn_aiger_files.specs.Texts.{delta}

last_false : (x : Bool) → (x && false) ≡ false
last_false true = refl
last_false false = refl

module _ (l : ℕ) (o : Option (ℕ × List ℕ)) where
  pub pair_none : Path (Option (ℕ × List ℕ)) None o → Path (Option (Part × List ℕ)) None (pair_by l o)
  pair_none e = ap (pair_by l) e

  module _ (by : ℕ) (rest : List ℕ) (e : Path (Option (ℕ × List ℕ)) (Some (by, rest)) o) where
    out : (nat_lt 0 by && nat_le by l) ≡ false → Path (Option (Part × List ℕ)) None (pair_by l o)
    out q = sym (cond-false (nat_lt 0 by && nat_le by l) (pair_behind l by (delta 5 rest)) None q) ∙ ap (pair_by l) e

    pub pair_zero : by ≡ 0 → Path (Option (Part × List ℕ)) None (pair_by l o)
    pair_zero z = out (ap (λ (n : ℕ). nat_lt 0 n && nat_le by l) z)

    pub pair_far : l < by → Path (Option (Part × List ℕ)) None (pair_by l o)
    pair_far far = out (ap (λ (q : Bool). nat_lt 0 by && q) (lt-leb by l far) ∙ last_false (nat_lt 0 by))

    module _ (some : 0 < by) (near : by ≤ l) where
      goes_behind : pair_by l o ≡ pair_behind l by (delta 5 rest)
      goes_behind = sym (ap (pair_by l) e) ∙ cond-true (nat_lt 0 by && nat_le by l) (pair_behind l by (delta 5 rest)) None (and_from (nat_lt 0 by) (nat_le by l) (lt-ltb 0 by some) (le-leb by l near))

      pub pair_cut : Path (Option (ℕ × List ℕ)) None (delta 5 rest) → Path (Option (Part × List ℕ)) None (pair_by l o)
      pair_cut none = ap (pair_behind l by) none ∙ sym goes_behind

      module _ (under : ℕ) (behind : List ℕ) (two : Path (Option (ℕ × List ℕ)) (Some (under, behind)) (delta 5 rest)) where
        pub pair_under : l - by < under → Path (Option (Part × List ℕ)) None (pair_by l o)
        pair_under far =
            sym (cond-false (nat_le under (l - by)) (Some (Gate (record { literal = l; first = l - by; second = l - by - under }), behind)) None (lt-leb under (l - by) far))
            ∙ ap (pair_behind l by) two ∙ sym goes_behind

        pub pair_good : under ≤ l - by → Path (Option (Part × List ℕ)) (Some (Gate (record { literal = l; first = l - by; second = l - by - under }), behind)) (pair_by l o)
        pair_good le =
            sym (cond-true (nat_le under (l - by)) (Some (Gate (record { literal = l; first = l - by; second = l - by - under }), behind)) None (le-leb under (l - by) le))
            ∙ ap (pair_behind l by) two ∙ sym goes_behind
