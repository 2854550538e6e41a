-- First lines, told number after number.
use Rattle.std.proofs.Common.{◌≡◌, ℕ, Bool, List, [], ◌∷◌, option_map, Option, Some, None, true, is_some, refl, sym, ap, ◌∙◌, inl, inr, Bor}
use Rattle.syn_aiger_files.specs.Cuts.{words_left}
use Rattle.syn_aiger_files.specs.Files.{Further, Header}
use Rattle.syn_aiger_files.specs.Headers.{TakesNext, further_left}
use Rattle.syn_aiger_files.specs.Spelling.{format_of, header_by, header_in}
use Rattle.syn_aiger_files.specs.Texts.{and_number, numbers_of, or_none, words_of}
use Rattle.syn_aiger_files.proofs.OnLines.{has_number_or_none}
use Rattle.syn_aiger_files.proofs.Reading.{Empty, lacks0, lacks1, lacks2, lacks3, lacks4, whole_line}

-- the numbers that are left
abbrev pub left : Option (List ℕ) → Option (List ℕ)
left text = numbers_of (words_left text)

no_format : (ns : List ℕ) → header_by None ns ≡ None
no_format ns = refl

pub miss_format : (line word : List ℕ) (r0 : Option (List ℕ)) → words_of line ≡ word ∷ words_left r0 → Path (Option Bool) None (format_of word) → Path (Option Header) None (header_in (words_of line))
miss_format line word r0 w f = sym (ap header_in w ∙ ap (λ (g : Option Bool). header_by g (or_none (left r0))) (sym f) ∙ no_format (or_none (left r0)))

module _ (line word : List ℕ) (r0 : Option (List ℕ)) (a : Bool) (w : words_of line ≡ word ∷ words_left r0) (f : Path (Option Bool) (Some a) (format_of word)) where
  head : header_in (words_of line) ≡ header_by (Some a) (or_none (left r0))
  head = ap header_in w ∙ ap (λ (g : Option Bool). header_by g (or_none (left r0))) (sym f)

  pub miss0 : Empty (left r0) → Path (Option Header) None (header_in (words_of line))
  miss0 e = sym (head ∙ lacks0 a (left r0) e)

  module _ (m : ℕ) (r1 : Option (List ℕ)) (e0 : left r0 ≡ and_number (Some m) (left r1)) where
    pub miss1 : Empty (left r1) → Path (Option Header) None (header_in (words_of line))
    miss1 e = sym (head ∙ ap (λ (o : Option (List ℕ)). header_by (Some a) (or_none o)) e0 ∙ lacks1 a m (left r1) e)

    module _ (i : ℕ) (r2 : Option (List ℕ)) (e1 : left r1 ≡ and_number (Some i) (left r2)) where
      pub miss2 : Empty (left r2) → Path (Option Header) None (header_in (words_of line))
      miss2 e = sym (head ∙ ap (λ (o : Option (List ℕ)). header_by (Some a) (or_none o)) (e0 ∙ ap (and_number (Some m)) e1) ∙ lacks2 a m i (left r2) e)

      module _ (l : ℕ) (r3 : Option (List ℕ)) (e2 : left r2 ≡ and_number (Some l) (left r3)) where
        pub miss3 : Empty (left r3) → Path (Option Header) None (header_in (words_of line))
        miss3 e = sym (head ∙ ap (λ (o : Option (List ℕ)). header_by (Some a) (or_none o)) (e0 ∙ ap (and_number (Some m)) (e1 ∙ ap (and_number (Some i)) e2)) ∙ lacks3 a m i l (left r3) e)

        module _ (o : ℕ) (r4 : Option (List ℕ)) (e3 : left r3 ≡ and_number (Some o) (left r4)) where
          pub miss4 : Empty (left r4) → Path (Option Header) None (header_in (words_of line))
          miss4 e = sym (head ∙ ap (λ (o : Option (List ℕ)). header_by (Some a) (or_none o)) (e0 ∙ ap (and_number (Some m)) (e1 ∙ ap (and_number (Some i)) (e2 ∙ ap (and_number (Some l)) e3))) ∙ lacks4 a m i l o (left r4) e)

          module _ (n : ℕ) (r5 : Option (List ℕ)) (e4 : left r4 ≡ and_number (Some n) (left r5)) where
            -- the counts with those that may follow
            abbrev with_further : Further → Header
            with_further f = record { ascii = a; variables = m; inputs = i; latches = l; outputs = o; ands = n; further = f }

            whole : header_in (words_of line) ≡ option_map with_further (further_left (left r5))
            whole =
                head
                ∙ ap (λ (o : Option (List ℕ)). header_by (Some a) (or_none o)) (e0 ∙ ap (and_number (Some m)) (e1 ∙ ap (and_number (Some i)) (e2 ∙ ap (and_number (Some l)) (e3 ∙ ap (and_number (Some o)) e4))))
                ∙ whole_line a m i l o n (left r5)

            pub miss5 : Path (Option Further) None (further_left (left r5)) → Path (Option Header) None (header_in (words_of line))
            miss5 e = ap (option_map with_further) e ∙ sym whole

            pub good : (f : Further) → Path (Option Further) (Some f) (further_left (left r5)) → Path (Option Header) (Some (with_further f)) (header_in (words_of line))
            good f e = ap (option_map with_further) e ∙ sym whole

-- the counts that may follow, number after number

no_nil : (n : ℕ) (rest : Option (List ℕ)) → Path (Option (List ℕ)) (and_number (Some n) rest) (Some []) → ⊥
no_nil n None e = cc
no_nil n (Some ns) e = cc

-- where none is left, 0 is taken and none is left
none_left : (l r : Option (List ℕ)) (n : ℕ) → l ≡ Some [] → TakesNext l n r → (n ≡ 0) × (r ≡ Some [])
none_left l r n e (inl q) = absurd (no_nil n r (sym q ∙ e))
none_left l r n e (inr q) = (q.1, q.2)

module _ (l0 l1 l2 l3 l4 : Option (List ℕ)) (b c j f : ℕ) (t0 : TakesNext l0 b l1) (t1 : TakesNext l1 c l2) (t2 : TakesNext l2 j l3) (t3 : TakesNext l3 f l4) where
  over : (l : Option (List ℕ)) → (l ≡ Some [] → ⊥) → further_left (and_number (Some b) (and_number (Some c) (and_number (Some j) (and_number (Some f) l)))) ≡ None
  over None h = refl
  over (Some []) h = absurd (h refl)
  over (Some (n ∷ ns)) h = refl

  pub too_many : (l4 ≡ Some [] → ⊥) → Path (Option Further) None (further_left l0)
  too_many h = elim t0 [
    | inr q ↦ absurd (h (none_left l3 l4 f (none_left l2 l3 j (none_left l1 l2 c q.2 t1).1 t2).1 t3).1)
    | inl q0 ↦ elim t1 [
      | inr q ↦ absurd (h (none_left l3 l4 f (none_left l2 l3 j q.2 t2).1 t3).1)
      | inl q1 ↦ elim t2 [
        | inr q ↦ absurd (h (none_left l3 l4 f q.2 t3).1)
        | inl q2 ↦ elim t3 [
          | inr q ↦ absurd (h q.2)
          | inl q3 ↦ sym (ap further_left (q0 ∙ ap (and_number (Some b)) (q1 ∙ ap (and_number (Some c)) (q2 ∙ ap (and_number (Some j)) q3))) ∙ over l4 h)
        ]
      ]
    ]
  ]

-- where a text is left, numbers are, or none are numbers
pub some_left : (text : Option (Bor (List ℕ))) → is_some text ≡ true → left (option_map (λ (t : Bor (List ℕ)). t.now) text) ≡ Some [] → ⊥
some_left None s e = cc
some_left (Some words) s e = has_number_or_none words.now e
