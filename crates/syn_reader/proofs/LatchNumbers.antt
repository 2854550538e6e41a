-- Latches by numbers, as names are added.
use Rattle.std.proofs.Common.{◌≡◌, ℕ, ◌<◌, ◌&&◌, not, nat_lt, true, List, ◌∷◌, length, bytes_eq, refl, ap, ap₂, ◌∙◌, Option, Some, None, arith}
use Rattle.std.specs.List.{list_all}
use Rattle.std.proofs.lemmas.Bool.{and_parts, and_from, lt-ltb, ltb-true}
use Rattle.syn_netlist.specs.declared.LatchKind.{LatchKind}
use Rattle.syn_netlist.specs.Kept.{control_number, nil_word}
use Rattle.syn_netlist.specs.Numbers.{word_at, kind_at, all_below, Grows}
use Rattle.syn_netlist.proofs.Growing.{word_at-grows, all_below-more, length-grows, Grows-again}
use Rattle.syn_reader.specs.Computed.{latch}

kind_grows : (names more : List (List ℕ)) (kind : Option (LatchKind × Option ℕ)) → Grows names more → all_below (length names) (control_number kind) ≡ true → kind_at more kind ≡ kind_at names kind
kind_grows names more None g h = refl
kind_grows names more (Some (kind, None)) g h = refl
kind_grows names more (Some (kind, Some i)) g h = ap (λ (w : List ℕ). Some (kind, Some w)) (word_at-grows names more i g (ltb-true i (length names) (and_parts (nat_lt i (length names)) true h).0))

made : (f f' o o' : List ℕ) (k k' : Option (LatchKind × Option (List ℕ))) (i : ℕ) → f ≡ f' → o ≡ o' → k ≡ k' → latch f o k i ≡ latch f' o' k' i
made f f' o o' k k' i a b c = ap₂ (λ x y. latch x y k i) a b ∙ ap (λ x. latch f' o' x i) c

pub latch_words : (one two three : List (List ℕ)) (i o init : ℕ) (k : Option (LatchKind × Option ℕ)) (feed output : List ℕ) (kind : Option (LatchKind × Option (List ℕ))) → Grows one two → Grows two three → i < length one → word_at one i ≡ feed
    → kind_at two k ≡ kind → all_below (length two) (control_number k) ≡ true → word_at three o ≡ output → latch (word_at three i) (word_at three o) (kind_at three k) init ≡ latch feed output kind init
latch_words one two three i o init k feed output kind g h lt f e b w =
    made (word_at three i) feed (word_at three o) output (kind_at three k) kind init (word_at-grows one three i (Grows-again one two three g h) lt ∙ f) w (kind_grows two three k h b ∙ e)

pub latch_below : (one two three : List (List ℕ)) (i o : ℕ) (k : Option (LatchKind × Option ℕ)) → Grows one two → Grows two three → i < length one → all_below (length two) (control_number k) ≡ true → o < length three → all_below (length three) (i ∷ o ∷ control_number k) ≡ true
latch_below one two three i o k g h lt b l =
    let a = length-grows one two g in
    let d = length-grows two three h in
    and_from (nat_lt i (length three)) (all_below (length three) (o ∷ control_number k)) (lt-ltb i (length three) (omega (arith, lt, a, d)))
    (and_from (nat_lt o (length three)) (all_below (length three) (control_number k)) (lt-ltb o (length three) l) (all_below-more (length two) (length three) (control_number k) d b))

pub latch_signal : (two three : List (List ℕ)) (k : Option (LatchKind × Option ℕ)) → Grows two three → all_below (length two) (control_number k) ≡ true → list_all (λ i. not (bytes_eq nil_word (word_at two i))) (control_number k) ≡ true
    → list_all (λ i. not (bytes_eq nil_word (word_at three i))) (control_number k) ≡ true
latch_signal two three None h b s = refl
latch_signal two three (Some (kind, None)) h b s = refl
latch_signal two three (Some (kind, Some i)) h b s = ap (λ w. not (bytes_eq nil_word w) && true) (word_at-grows two three i h (ltb-true i (length two) (and_parts (nat_lt i (length two)) true b).0)) ∙ s
