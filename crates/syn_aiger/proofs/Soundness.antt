-- What is so of each file that is said.
use Rattle.std.specs.List.{AllByRecursion, list_all}
use Rattle.std.proofs.Common.{◌≡◌, ℕ, ◌+◌, ◌*◌, ◌^◌, ◌<◌, ◌≤◌, ◌%◌, nat_eq, nat_lt, true, Bool, List, [], ◌∷◌, ◌++◌, map, Ok, refl, sym, subst, append_assoc, arith, eq-eqb, lt-ltb, length-append}
use Rattle.std.proofs.lemmas.Bool.{and_from, or_left, or_right}
use Rattle.std.proofs.lemmas.List.{length-map}
use Rattle.syn_lists.specs.Numbers.{has_number}
use Rattle.syn_netlist.specs.Numbers.{all_below}
use Rattle.syn_aiger_files.specs.declared.files.Aig.{Aig}
use Rattle.syn_aiger_files.specs.declared.files.AigLatch.{AigLatch}
use Rattle.syn_aiger_files.specs.Files.{and_literal, latch_literal}
use Rattle.syn_aiger_files.specs.Spelling.{most_variables, spelled}
use Rattle.syn_aiger_files.proofs.Spelled.{NewOnes, ResetFits, may_parts, spelled_sound}
use Rattle.syn_aiger.specs.Placing.{IsSound, has_reset, is_plain}
use Rattle.syn_aiger.specs.Values.{defined_variables, source_literals}
use Rattle.syn_aiger.proofs.Defined.{spelled_defines_once}
use Rattle.syn_aiger.proofs.Either.{defined_small}
use Rattle.syn_aiger.proofs.Rowed.{many_defined}

below_each : (k : ℕ) (ns : List ℕ) → ((v : ℕ) → has_number ns v ≡ true → v < k) → all_below k ns ≡ true
below_each k [] h = refl
below_each k (n ∷ ns) h =
    and_from (nat_lt n k) (all_below k ns) (lt-ltb n k (h n (or_left (nat_eq n n) (has_number ns n) (eq-eqb n n refl)))) (below_each k ns (λ v t. h v (or_right (nat_eq n v) (has_number ns v) t)))

plain_front : (most : ℕ) (ds xs ys : List ℕ) → NewOnes most ds (xs ++ ys) → list_all is_plain xs ≡ true
plain_front most ds [] ys h = refl
plain_front most ds (x ∷ xs) ys h = and_from (is_plain x) (list_all is_plain xs) (eq-eqb (x % 2) 0 (may_parts most ds x h.0).plain) (plain_front most (x ∷ ds) xs ys h.1)

resets_fit : (ls : List AigLatch) → AllByRecursion ResetFits ls → list_all has_reset ls ≡ true
resets_fit [] h = refl
resets_fit (l ∷ ls) h = and_from (has_reset l) (list_all has_reset ls) h.0 (resets_fit ls h.1)

pub sound_of : (properties : Bool) (bytes : List ℕ) (g : Aig) → spelled properties bytes ≡ Ok g → IsSound g
sound_of properties bytes g e =
    let s = spelled_sound properties bytes g e in
    let most : g.variables ≤ most_variables = s.0 in
    let few = s.2.defined in
    record {
      once = spelled_defines_once properties bytes g e;
      small = below_each (2 ^ 28) (defined_variables g) (λ v t. let le = defined_small properties bytes g e v t in omega arith);
      few = omega (arith, many_defined g, length-append g.inputs (map latch_literal g.latches), length-map g.latches latch_literal);
      plain = plain_front (2 * g.variables + 1) [] (source_literals g) (map and_literal g.ands) (subst (NewOnes (2 * g.variables + 1) []) (sym (append_assoc g.inputs (map latch_literal g.latches) (map and_literal g.ands))) s.1.new);
      resets = resets_fit g.latches s.1.resets;
      outputs = s.2.outputs_few;
    }
