-- Lines of words, read back: the logical lines of their bytes are these lines, and no byte of them is disallowed.
use Rattle.std.proofs.Common.{◌≡◌, ℕ, suc, ◌+◌, ◌≤◌, ◌==◌, ◌&&◌, ◌||◌, not, nat_lt, nat_le, Bool, true, false, if◌then◌else◌, List, [], ◌∷◌, ◌++◌, length, map, flat_map, filter, codes, refl, sym, ap, ap₂, ◌∙◌, Option, Some, None, arith, append_assoc}
use Rattle.std.specs.List.{list_all, onto_first}
use Rattle.std.specs.Option.{option_or}
use Rattle.std.proofs.lemmas.Bool.Decides.{nat_tests}
use Rattle.std.proofs.lemmas.Bool.{both_ways, cond-true, cond-false, and_parts, and_from, or_right, not-true}
use Rattle.syn_lex.specs.Words.{Word, text_of, is_word_byte, begins_word, grown, words_at}
use Rattle.syn_lex.specs.Lines.{LogicalLine, is_nil, physical_lines, without_comment, may_stand, is_blank_end, bad_byte_of_line, bad_byte_of_lines, joins, joined, joined_lines, has_words}
use Rattle.syn_netlist.specs.Words.{is_word}
use Rattle.syn_netlist.specs.TextLines.{blanked, line}
use Rattle.syn_reader.specs.declared.Kind.{Kind}
use Rattle.syn_reader.specs.declared.Kind.TheVariants as kinds
use Rattle.syn_reader.specs.Statements.{Statement, begins_with_dot, statement_at, statement_of, statements}
use Rattle.syn_text.specs.Written.{Line, said, with_keyword, words_line, line_bytes, line_fits, numbered}

-- a byte of a line but its LF: of a word, or a blank
pub record IsPlain (b : ℕ) : Type 0 where
  pub low : 32 ≤ b
  pub high : b ≤ 126
  pub code : (b == 35) ≡ false
  pub apart : (b == 92) ≡ false

abbrev pub Plain : List ℕ → Type 0
Plain [] = Unit {0}
Plain (b ∷ bs) = IsPlain b × Plain bs

plain_byte : (b : ℕ) → is_word_byte b ≡ true → IsPlain b
plain_byte b h =
    let p = and_parts (nat_lt 32 b && nat_lt b 127 && not (b == 35)) (not (b == 92)) h in
    let q = and_parts (nat_lt 32 b && nat_lt b 127) (not (b == 35)) p.0 in
    let r = and_parts (nat_lt 32 b) (nat_lt b 127) q.0 in
    record {
      low = (let l : nat_lt 32 b ≡ true = r.0 in grind (arith, nat_tests));
      high = (let l : nat_lt b 127 ≡ true = r.1 in grind (arith, nat_tests));
      code = not-true (b == 35) q.1;
      apart = not-true (b == 92) p.1;
    }

plain_bytes : (w : List ℕ) → list_all is_word_byte w ≡ true → Plain w
plain_bytes [] h = tt
plain_bytes (b ∷ bs) h = let p = and_parts (is_word_byte b) (list_all is_word_byte bs) h in (plain_byte b p.0, plain_bytes bs p.1)

plain_word : (w : List ℕ) → is_word w ≡ true → Plain w
plain_word [] h = tt
plain_word (b ∷ bs) h = plain_bytes (b ∷ bs) h

plain_append : (xs ys : List ℕ) → Plain xs → Plain ys → Plain (xs ++ ys)
plain_append [] ys p q = q
plain_append (x ∷ xs) ys p q = (p.0, plain_append xs ys p.1 q)

plain_blank : IsPlain 32
plain_blank = record { low = omega arith; high = omega arith; code = refl; apart = refl }

plain_blanked : (ws : List (List ℕ)) → list_all is_word ws ≡ true → Plain (blanked ws)
plain_blanked [] h = tt
plain_blanked (w ∷ ws) h = let p = and_parts (is_word w) (list_all is_word ws) h in (plain_blank, plain_append w (blanked ws) (plain_word w p.0) (plain_blanked ws p.1))

plain_line : (w : List ℕ) (ws : List (List ℕ)) → list_all is_word (w ∷ ws) ≡ true → Plain (w ++ blanked ws)
plain_line w ws h = let p = and_parts (is_word w) (list_all is_word ws) h in plain_append w (blanked ws) (plain_word w p.0) (plain_blanked ws p.1)

-- what plain bytes are not
not_lf : (b : ℕ) → IsPlain b → (b == 10) ≡ false
not_lf b p = let l : 32 ≤ b = p.low in grind (arith, nat_tests)

not_cr : (b : ℕ) → IsPlain b → (b == 13) ≡ false
not_cr b p = let l : 32 ≤ b = p.low in grind (arith, nat_tests)

shown_byte : (b : ℕ) → IsPlain b → (nat_le 32 b && nat_le b 126) ≡ true
shown_byte b p = and_from (nat_le 32 b) (nat_le b 126) (let l : 32 ≤ b = p.low in grind (arith, nat_tests)) (let l : b ≤ 126 = p.high in grind (arith, nat_tests))

may : (b : ℕ) (rest : List ℕ) → IsPlain b → may_stand b rest ≡ true
may b rest p =
    cond-false (b == 92) (is_blank_end rest) (if b == 13 then is_nil rest else b == 9 || (nat_le 32 b && nat_le b 126)) p.apart
    ∙ (cond-false (b == 13) (is_nil rest) (b == 9 || (nat_le 32 b && nat_le b 126)) (not_cr b p)
    ∙ or_right (b == 9) (nat_le 32 b && nat_le b 126) (shown_byte b p))

no_comment : (l : List ℕ) → Plain l → without_comment l ≡ l
no_comment [] p = refl
no_comment (b ∷ bs) p = cond-false (b == 35) (b ∷ []) (b ∷ without_comment bs) p.0.code ∙ ap (λ (l : List ℕ). b ∷ l) (no_comment bs p.1)

stands : (at : ℕ) (l : List ℕ) → Plain l → bad_byte_of_line at l ≡ None
stands at [] p = refl
stands at (b ∷ bs) p = cond-true (may_stand b bs) (bad_byte_of_line (suc at) bs) (Some at) (may b bs p.0) ∙ stands (suc at) bs p.1

no_join : (l : List ℕ) → Plain l → joins l ≡ false
no_join [] p = refl
no_join (b ∷ bs) p = ap₂ (λ (x : Bool) (y : Bool). (x && is_blank_end bs) || y) p.0.apart (no_join bs p.1)

physical : (l rest : List ℕ) → Plain l → physical_lines (l ++ 10 ∷ rest) ≡ l ∷ physical_lines rest
physical [] rest p = refl
physical (b ∷ bs) rest p =
    cond-false (b == 10) ([] ∷ physical_lines (bs ++ 10 ∷ rest)) (onto_first b (physical_lines (bs ++ 10 ∷ rest))) (not_lf b p.0)
    ∙ ap (onto_first b) (physical bs rest p.1)

-- a word in front, with no word byte behind it
abbrev word : ℕ → List ℕ → Word
word at text = record { at = at; text = text }

word_in_front : (at b : ℕ) (bs rest : List ℕ) → list_all is_word_byte (b ∷ bs) ≡ true → begins_word rest ≡ false → (after : ℕ) × (words_at at ((b ∷ bs) ++ rest) ≡ word at (b ∷ bs) ∷ words_at after rest)
word_in_front at b [] rest h e =
    let p = and_parts (is_word_byte b) true h in (
      suc at,
      cond-true (is_word_byte b) (if begins_word rest then grown at b (words_at (suc at) rest) else word at (b ∷ []) ∷ words_at (suc at) rest) (words_at (suc at) rest) p.0
          ∙ cond-false (begins_word rest) (grown at b (words_at (suc at) rest)) (word at (b ∷ []) ∷ words_at (suc at) rest) e,
    )
word_in_front at b (c ∷ cs) rest h e =
    let p = and_parts (is_word_byte b) (list_all is_word_byte (c ∷ cs)) h in
    let q = and_parts (is_word_byte c) (list_all is_word_byte cs) p.1 in
    let more = word_in_front (suc at) c cs rest p.1 e in
    let x : List ℕ = (c ∷ cs) ++ rest in (
      more.0,
      cond-true (is_word_byte b) (if begins_word x then grown at b (words_at (suc at) x) else word at (b ∷ []) ∷ words_at (suc at) x) (words_at (suc at) x) p.0
          ∙ (cond-true (begins_word x) (grown at b (words_at (suc at) x)) (word at (b ∷ []) ∷ words_at (suc at) x) q.0
          ∙ ap (grown at b) more.1),
    )

-- the words of a line's bytes
words_of : (w : List ℕ) (ws : List (List ℕ)) (at : ℕ) → list_all is_word (w ∷ ws) ≡ true → map text_of (words_at at (w ++ blanked ws)) ≡ w ∷ ws
words_of [] ws at h = absurd (both_ways false refl h)
words_of (b ∷ bs) [] at h =
    let p = and_parts (is_word (b ∷ bs)) true h in
    let q = word_in_front at b bs [] p.0 refl in
    ap (map text_of) q.1
words_of (b ∷ bs) (v ∷ vs) at h =
    let p = and_parts (is_word (b ∷ bs)) (list_all is_word (v ∷ vs)) h in
    let q = word_in_front at b bs (32 ∷ (v ++ blanked vs)) p.0 refl in
    ap (map text_of) q.1 ∙ ap (λ (l : List (List ℕ)). (b ∷ bs) ∷ l) (words_of v vs (suc q.0) p.1)

-- the words of a line that fits, and its statement
pub record IsKeyed (l : Line) (w : List ℕ) (ws : List (List ℕ)) : Type 0 where
  pub words : with_keyword l.kind l.words ≡ w ∷ ws
  pub fit : list_all is_word (w ∷ ws) ≡ true
  pub read : (k : ℕ) → statement_at k (w ∷ ws) ≡ record { line = k; kind = l.kind; words = l.words }

keyed : (kind : Kind) (words : List (List ℕ)) → line_fits (said kind words) ≡ true → (w : List ℕ) × (ws : List (List ℕ)) × IsKeyed (said kind words) w ws
keyed kinds.Model words h = (codes ".model", words, record { words = refl; fit = (and_parts (list_all is_word words) true h).0; read = λ k. refl })
keyed kinds.Inputs words h = (codes ".inputs", words, record { words = refl; fit = (and_parts (list_all is_word words) true h).0; read = λ k. refl })
keyed kinds.Outputs words h = (codes ".outputs", words, record { words = refl; fit = (and_parts (list_all is_word words) true h).0; read = λ k. refl })
keyed kinds.Clock words h = (codes ".clock", words, record { words = refl; fit = (and_parts (list_all is_word words) true h).0; read = λ k. refl })
keyed kinds.Names words h = (codes ".names", words, record { words = refl; fit = (and_parts (list_all is_word words) true h).0; read = λ k. refl })
keyed kinds.Latch words h = (codes ".latch", words, record { words = refl; fit = (and_parts (list_all is_word words) true h).0; read = λ k. refl })
keyed kinds.End words h = (codes ".end", words, record { words = refl; fit = (and_parts (list_all is_word words) true h).0; read = λ k. refl })
keyed kinds.Row [] h = absurd (both_ways false refl h)
keyed kinds.Row (w ∷ ws) h =
    let p = and_parts (list_all is_word (w ∷ ws)) (not (begins_with_dot w)) h in
    (w, ws, record { words = refl; fit = p.0; read = λ k. cond-false (begins_with_dot w) _ _ (not-true (begins_with_dot w) p.1) })
keyed kinds.Unknown words h = absurd (both_ways false refl ((and_parts (list_all is_word words) false h).1))
keyed kinds.Subckt words h = absurd (both_ways false refl ((and_parts (list_all is_word words) false h).1))

-- a line in front of bytes
in_front : (w : List ℕ) (ws : List (List ℕ)) (more : List ℕ) → line w ws ++ more ≡ (w ++ blanked ws) ++ 10 ∷ more
in_front w ws more = append_assoc w (blanked ws ++ 10 ∷ []) more ∙ (ap (λ (l : List ℕ). w ++ l) (append_assoc (blanked ws) (10 ∷ []) more) ∙ sym (append_assoc w (blanked ws) (10 ∷ more)))

cut : (l : Line) (w : List ℕ) (ws : List (List ℕ)) (more : List ℕ) → IsKeyed l w ws → physical_lines (line_bytes l ++ more) ≡ (w ++ blanked ws) ∷ physical_lines more
cut l w ws more is =
    ap (λ (x : List (List ℕ)). physical_lines (words_line x ++ more)) is.words
    ∙ (ap physical_lines (in_front w ws more) ∙ physical (w ++ blanked ws) more (plain_line w ws is.fit))

pub no_bad_byte : (ls : List Line) (at : ℕ) → list_all line_fits ls ≡ true → bad_byte_of_lines at (physical_lines (flat_map line_bytes ls)) ≡ None
no_bad_byte [] at h = refl
no_bad_byte (l ∷ ls) at h =
    let p = and_parts (line_fits l) (list_all line_fits ls) h in
    let q = keyed l.kind l.words p.0 in
    let text : List ℕ = q.0 ++ blanked q.1 in
    let plain = plain_line q.0 q.1 q.2.fit in
    ap (bad_byte_of_lines at) (cut l q.0 q.1 (flat_map line_bytes ls) q.2)
    ∙ ap₂ (λ (x : Option ℕ) (y : Option ℕ). option_or x y)
    (ap (bad_byte_of_line at) (no_comment text plain) ∙ stands at text plain)
    (no_bad_byte ls (at + length text + 1) p.1)

some_words : (x : List Word) (w : List ℕ) (ws : List (List ℕ)) → map text_of x ≡ w ∷ ws → not (is_nil x) ≡ true
some_words [] w ws e = absurd (cc)
some_words (x ∷ xs) w ws e = refl

pub read_lines : (ls : List Line) (k at : ℕ) → list_all line_fits ls ≡ true → map statement_of (filter has_words (joined_lines k at (physical_lines (flat_map line_bytes ls)))) ≡ numbered k ls
read_lines [] k at h = refl
read_lines (l ∷ ls) k at h =
    let p = and_parts (line_fits l) (list_all line_fits ls) h in
    let q = keyed l.kind l.words p.0 in
    step q.0 q.1 q.2 (read_lines ls (suc k) (at + length (q.0 ++ blanked q.1) + 1) p.1)
  where
    step : (w : List ℕ) (ws : List (List ℕ)) → IsKeyed l w ws
        → map statement_of (filter has_words (joined_lines (suc k) (at + length (w ++ blanked ws) + 1) (physical_lines (flat_map line_bytes ls)))) ≡ numbered (suc k) ls
        → map statement_of (filter has_words (joined_lines k at (physical_lines (line_bytes l ++ flat_map line_bytes ls)))) ≡ numbered k (l ∷ ls)
    step w ws is ih =
        ap (λ (x : List (List ℕ)). map statement_of (filter has_words (joined_lines k at x))) (cut l w ws (flat_map line_bytes ls) is)
        ∙ (ap (λ (x : List ℕ). map statement_of (filter has_words (if joins x then joined (of x) below else of x ∷ below))) (no_comment text plain)
        ∙ (ap (λ (t : Bool). map statement_of (filter has_words (if t then joined (of text) below else of text ∷ below))) (no_join text plain)
        ∙ (ap (λ (t : Bool). map statement_of (if t then of text ∷ filter has_words below else filter has_words below)) (some_words (words_at at text) w ws words)
        ∙ ap₂ (λ (s : Statement) (ss : List Statement). s ∷ ss) (ap (statement_at k) words ∙ is.read k) ih)))
      where
        text : List ℕ
        text = w ++ blanked ws

        plain : Plain text
        plain = plain_line w ws is.fit

        of : List ℕ → LogicalLine
        of x = record { number = k; words = words_at at x }

        below : List LogicalLine
        below = joined_lines (suc k) (at + length text + 1) (physical_lines (flat_map line_bytes ls))

        words : map text_of (words_at at text) ≡ w ∷ ws
        words = words_of w ws at is.fit

-- the statements of lines
pub statements_of : (ls : List Line) → list_all line_fits ls ≡ true → statements (flat_map line_bytes ls) ≡ numbered 1 ls
statements_of ls h = read_lines ls 1 0 h
