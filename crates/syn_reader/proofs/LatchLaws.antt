-- The fault of a latch line by its words.
use Rattle.std.proofs.Common.{◌≡◌, ◌≢◌, ℕ, zero, suc, ◌+◌, ◌≤◌, not, true, false, List, [], ◌∷◌, ◌++◌, refl, sym, ap, ap₂, ◌∙◌, subst, Option, Some, None, IfSome, Result, Err, IfErr, arith}
use Rattle.std.specs.Borrow.{Bor}
use Rattle.std.specs.Option.{option_or}
use Rattle.std.proofs.lemmas.Bool.{false_from_ne_true, and_parts, and_from}
use Rattle.syn_netlist.specs.Words.{has_word, is_word}
use Rattle.syn_netlist.specs.declared.LatchKind.{LatchKind}
use Rattle.syn_netlist.specs.declared.LatchKind.TheVariants as types
use Rattle.syn_reader.specs.declared.ReadFault.{ReadFault}
use Rattle.syn_reader.specs.declared.latch_lines.Rest.{Rest}
use Rattle.syn_reader.specs.Causes.{fault_in}
use Rattle.syn_reader.specs.Faults.{Fault, LatchType, LatchInit}
use Rattle.syn_reader.specs.Shapes.{latch_types, initial_values, type_word}
use Rattle.syn_reader.specs.Computed.{type_of, init_of}
use Rattle.syn_reader.specs.Keywords.{fault_where, latch_fault}
use Rattle.syn_reader.specs.LatchWords.{are_words, kind_words, init_words, rest_words, IsKind, IsInit, control_words}
use Rattle.syn_reader.proofs.Faultless.{type_some}
use Rattle.syn_reader.proofs.Fine.{init_some}
use Rattle.syn_reader.proofs.Latches.{type_back, init_back}

no_type : (w : List ℕ) → type_of w ≡ None → has_word latch_types w ≡ false
no_type w e = false_from_ne_true (has_word latch_types w) (λ h. let p = type_some w h in let z : ◌≡◌ {A = Option LatchKind} None (Some p.0) = sym e ∙ p.1 in cc)

no_init : (w : List ℕ) → init_of w ≡ None → has_word initial_values w ≡ false
no_init w e = false_from_ne_true (has_word initial_values w) (λ h. let p = init_some w h in let z : ◌≡◌ {A = Option ℕ} None (Some p.0) = sym e ∙ p.1 in cc)

is_type : (w : List ℕ) (k : LatchKind) → type_of w ≡ Some k → has_word latch_types w ≡ true
is_type w k e = ap (has_word latch_types) (type_back w k e) ∙ go k
  where
    go : (j : LatchKind) → has_word latch_types (type_word j) ≡ true
    go types.Fe = refl
    go types.Re = refl
    go types.Ah = refl
    go types.Al = refl
    go types.As = refl

is_init : (w : List ℕ) (i : ℕ) → init_of w ≡ Some i → has_word initial_values w ≡ true
is_init w i e = let p = init_back w i e in ap (has_word initial_values) p.0 ∙ go i p.1
  where
    go : (j : ℕ) → j ≤ 3 → has_word initial_values ((j + 48) ∷ []) ≡ true
    go zero h = refl
    go (suc zero) h = refl
    go (suc (suc zero)) h = refl
    go (suc (suc (suc zero))) h = refl
    go (suc (suc (suc (suc j)))) h = absurd (omega arith)

pub bad_type : (line : ℕ) (feed output : List ℕ) (rest : Rest) (words : List (List ℕ)) → words ≡ feed ∷ output ∷ rest_words rest → IfSome rest.kind (λ pair. type_of pair.0.now ≡ None) → rest.kind ≢ None → latch_fault line words ≡ Some (LatchType line)
bad_type line feed output rest words w h n = ap (latch_fault line) w ∙ go rest.kind rest.init h n
  where
    go : (k : Option (Bor (List ℕ) × Bor (List ℕ))) (i : Option (Bor (List ℕ))) → IfSome k (λ pair. type_of pair.0.now ≡ None) → k ≢ None → latch_fault line (feed ∷ output ∷ (kind_words k ++ init_words i)) ≡ Some (LatchType line)
    go None i h n = absurd (n refl)
    go (Some (t, c)) None h n = ap (λ b. option_or (fault_where (not b) (LatchType line)) None) (no_type t.now h)
    go (Some (t, c)) (Some i) h n = ap (λ b. option_or (fault_where (not b) (LatchType line)) (fault_where (not (has_word initial_values i.now)) (LatchInit line))) (no_type t.now h)

pub bad_init : (line : ℕ) (feed output : List ℕ) (rest : Rest) (kind : Option (LatchKind × Bor (List ℕ))) (words : List (List ℕ)) → words ≡ feed ∷ output ∷ rest_words rest → IsKind rest.kind kind → IfSome rest.init (λ w. init_of w.now ≡ None) → rest.init ≢ None → latch_fault line words ≡ Some (LatchInit line)
bad_init line feed output rest kind words w k h n = ap (latch_fault line) w ∙ go rest.kind kind rest.init k h n
  where
    go : (t : Option (Bor (List ℕ) × Bor (List ℕ))) (j : Option (LatchKind × Bor (List ℕ))) (i : Option (Bor (List ℕ))) → IsKind t j → IfSome i (λ w. init_of w.now ≡ None) → i ≢ None → latch_fault line (feed ∷ output ∷ (kind_words t ++ init_words i)) ≡ Some (LatchInit line)
    go t j None k h n = absurd (n refl)
    go None j (Some i) k h n = ap (λ b. fault_where (not b) (LatchInit line)) (no_init i.now h)
    go (Some (t, c)) None (Some i) k h n = absurd k
    go (Some (t, c)) (Some (j, d)) (Some i) k h n = ap₂ (λ a b. option_or (fault_where (not a) (LatchType line)) (fault_where (not b) (LatchInit line))) (is_type t.now j k.0) (no_init i.now h)

pub no_fault : (line : ℕ) (feed output : List ℕ) (rest : Rest) (kind : Option (LatchKind × Bor (List ℕ))) (init : ℕ) (words : List (List ℕ)) → words ≡ feed ∷ output ∷ rest_words rest → IsKind rest.kind kind → IsInit rest.init init → latch_fault line words ≡ None
no_fault line feed output rest kind init words w k h = ap (latch_fault line) w ∙ go rest.kind kind rest.init k h
  where
    go : (t : Option (Bor (List ℕ) × Bor (List ℕ))) (j : Option (LatchKind × Bor (List ℕ))) (i : Option (Bor (List ℕ))) → IsKind t j → IsInit i init → latch_fault line (feed ∷ output ∷ (kind_words t ++ init_words i)) ≡ None
    go None j None k h = refl
    go None j (Some i) k h = ap (λ b. fault_where (not b) (LatchInit line)) (is_init i.now init h)
    go (Some (t, c)) None i k h = absurd k
    go (Some (t, c)) (Some (j, d)) None k h = ap (λ b. option_or (fault_where (not b) (LatchType line)) None) (is_type t.now j k.0)
    go (Some (t, c)) (Some (j, d)) (Some i) k h = ap₂ (λ a b. option_or (fault_where (not a) (LatchType line)) (fault_where (not b) (LatchInit line))) (is_type t.now j k.0) (is_init i.now init h)

pub words_fit : (feed output : List ℕ) (rest : Rest) (kind : Option (LatchKind × Bor (List ℕ))) → is_word feed ≡ true → is_word output ≡ true → are_words (rest_words rest) ≡ true → IsKind rest.kind kind → are_words (feed ∷ output ∷ control_words kind) ≡ true
words_fit feed output rest kind f o r k = and_from (is_word feed) (are_words (output ∷ control_words kind)) f (and_from (is_word output) (are_words (control_words kind)) o (go rest.kind kind rest.init k r))
  where
    go : (t : Option (Bor (List ℕ) × Bor (List ℕ))) (j : Option (LatchKind × Bor (List ℕ))) (i : Option (Bor (List ℕ))) → IsKind t j → are_words (kind_words t ++ init_words i) ≡ true → are_words (control_words j) ≡ true
    go t None i k r = refl
    go None (Some (j, d)) i k r = absurd k
    go (Some (t, c)) (Some (j, d)) i k r =
        let p = and_parts (is_word t.now) (are_words (c.now ∷ init_words i)) r in
        let q = and_parts (is_word c.now) (are_words (init_words i)) p.1 in
        and_from (is_word d.now) true (ap is_word k.1 ∙ q.0) refl

-- an answer that names this fault
pub names_fault : {T : Type 0} (r : Result T ReadFault) (y e : ReadFault) (found : Option Fault) (fault : Fault) → r ≡ Err y → y ≡ e → fault_in e ≡ Some fault → found ≡ Some fault → IfErr r (λ x. IfSome (fault_in x) (λ f. found ≡ Some f))
names_fault r y e found fault a b c d =
    subst (λ q. IfErr q (λ x. IfSome (fault_in x) (λ f. found ≡ Some f))) (sym (a ∙ ap Err b)) (subst (λ o. IfSome o (λ f. found ≡ Some f)) (sym c) d)
