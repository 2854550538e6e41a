-- The latches of a frame, one after the other.
use Rattle.std.specs.List.{list_all}
use Rattle.std.proofs.Common.{◌≡◌, ℕ, zero, suc, ◌+◌, ◌<◌, ◌&&◌, nat_lt, true, List, [], ◌∷◌, ◌++◌, length, map, drop, get_or, slice_index, bytes_eq, not, None, refl, sym, ap, ◌∙◌, arith}
use Rattle.std.proofs.lemmas.Bool.{and_from, and_parts}
use Rattle.std.proofs.lemmas.List.{drop_more}
use Rattle.std.proofs.lemmas.List.Folds.{list_all-append}
use Rattle.syn_netlist.specs.declared.Latch as code
use Rattle.syn_netlist.specs.Kept.{control_number, latch_in, latch_numbers, latches_below, nil_word, no_nil_control}
use Rattle.syn_netlist.specs.Lists.{Latch}
use Rattle.syn_netlist.specs.Numbers.{all_below, word_at, words_at}
use Rattle.syn_aiger_files.specs.declared.files.AigLatch.{AigLatch}
use Rattle.syn_aiger.specs.Naming.{Named, name_of}
use Rattle.syn_aiger.specs.Networks.{init_of, latches_from}
use Rattle.syn_aiger.specs.Placing.{has_reset}
use Rattle.syn_aiger.proofs.Slicing.{latches_more}

low_at : (count : ℕ) (ns : List ℕ) (j : ℕ) → all_below count ns ≡ true → j < length ns → nat_lt (slice_index ns j) count ≡ true
low_at count [] j h l = absurd (omega arith)
low_at count (n ∷ ns) zero h l = (and_parts (nat_lt n count) (all_below count ns) h).0
low_at count (n ∷ ns) (suc j) h l = low_at count ns j (and_parts (nat_lt n count) (all_below count ns) h).1 (omega arith)

-- One latch more keeps what is so of the latches.
pub record Next (ls : List AigLatch) (outputs feeds : List ℕ) (j : ℕ) (found new : List code.Latch) : Type 0 where
  pub words : (names : List (List ℕ)) (os fs : List Named) (total : List Latch) → words_at names outputs ≡ map name_of os → words_at names feeds ≡ map name_of fs
      → map (latch_in names) found ++ latches_from (drop j ls) (drop j os) (drop j fs) ≡ total → map (latch_in names) new ++ latches_from (drop (j + 1) ls) (drop (j + 1) os) (drop (j + 1) fs) ≡ total
  pub below : (count : ℕ) → all_below count outputs ≡ true → all_below count feeds ≡ true → latches_below count found ≡ true → latches_below count new ≡ true
  pub controls : (names : List (List ℕ)) → no_nil_control names found ≡ true → no_nil_control names new ≡ true

pub next_latch : (ls : List AigLatch) (outputs feeds : List ℕ) (j : ℕ) (d : AigLatch) (found new : List code.Latch) (x : code.Latch) → j < length ls → length outputs ≡ length ls → length feeds ≡ length ls → new ≡ found ++ x ∷ []
    → x.feed ≡ slice_index feeds j → x.output ≡ slice_index outputs j → x.kind ≡ None → x.init ≡ init_of (get_or ls j d) → Next ls outputs feeds j found new
next_latch ls outputs feeds j d found new x l lo lf made feed out kind init = record {
  words = λ names os fs total h k so_far.
      ap (λ (xs : List code.Latch). map (latch_in names) xs ++ latches_from (drop (j + 1) ls) (drop (j + 1) os) (drop (j + 1) fs)) made
      ∙ latches_more names ls outputs feeds os fs j (get_or ls j d) found x total h k (omega arith) (omega arith) (drop_more ls j d l) feed out kind init so_far;
  below = λ count h k so_far.
      ap (latches_below count) made ∙ list_all-append (λ (y : code.Latch). all_below count (latch_numbers y)) found (x ∷ [])
      ∙ and_from (latches_below count found) (latches_below count (x ∷ [])) so_far
      (and_from (all_below count (latch_numbers x)) true
      (and_from (nat_lt x.feed count) (nat_lt x.output count && all_below count (control_number x.kind))
      (ap (λ (n : ℕ). nat_lt n count) feed ∙ low_at count feeds j k (omega arith))
      (and_from (nat_lt x.output count) (all_below count (control_number x.kind)) (ap (λ (n : ℕ). nat_lt n count) out ∙ low_at count outputs j h (omega arith)) (ap (λ o. all_below count (control_number o)) kind))) refl);
  controls = λ names so_far.
      ap (no_nil_control names) made ∙ list_all-append (λ (y : code.Latch). list_all (λ i. not (bytes_eq nil_word (word_at names i))) (control_number y.kind)) found (x ∷ [])
      ∙ and_from (no_nil_control names found) (no_nil_control names (x ∷ [])) so_far
      (and_from (list_all (λ i. not (bytes_eq nil_word (word_at names i))) (control_number x.kind)) true (ap (λ o. list_all (λ i. not (bytes_eq nil_word (word_at names i))) (control_number o)) kind) refl);
}

pub resets_next : (ls : List AigLatch) (j : ℕ) → j < length ls → list_all has_reset (drop j ls) ≡ true → list_all has_reset (drop (j + 1) ls) ≡ true
resets_next ls j l h =
    let d : AigLatch = record { literal = 0; next = 0; reset = 0 } in
    (and_parts (has_reset (get_or ls j d)) (list_all has_reset (drop (j + 1) ls)) (sym (ap (list_all has_reset) (drop_more ls j d l)) ∙ h)).1
