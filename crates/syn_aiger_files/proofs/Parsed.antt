-- What a file says, from its first line, its body and its symbols.
use Rattle.std.proofs.Common.{◌≡◌, ◌⊎◌, inl, inr, IfErr, ℕ, suc, ◌+◌, ◌-◌, ◌*◌, ◌<◌, ◌≤◌, ◌==◌, ◌&&◌, ◌||◌, Bool, true, false, cond, List, [], ◌∷◌, ◌++◌, length, Option, Some, None, Result, Ok, Err, refl, sym, ap, ap₂, ◌∙◌, subst, append_assoc, append-nil, arith}
use Rattle.std.proofs.lemmas.Bool.{cond-true, cond-false}
use Rattle.syn_aiger_files.specs.declared.fault.AigFault.{AigFault}
use Rattle.syn_aiger_files.specs.declared.fault.AigFault.TheVariants as faults
use Rattle.syn_aiger_files.specs.Files.{Header, Symbol}
use Rattle.syn_aiger_files.specs.Gathered.{Lists, aig_with, behind_symbols, body_by, gathered, no_lists, with_parts}
use Rattle.syn_aiger_files.specs.Parts.{Part, and_then, if_some, parts_of, wanted_by}
use Rattle.syn_aiger_files.specs.Spelling.{aig_by, header_in, header_of, judged, spelled_by, spelled}
use Rattle.syn_aiger_files.specs.Symbols.{begins_comments, symbol_of, symbols_of}
use Rattle.syn_aiger_files.specs.Texts.{Line, begins_with_lf, begun, behind, first_line, lines_at, words_of}
use Rattle.syn_aiger_files.proofs.Cutting.{behind_less}

-- the first of the lines

cr_lf : (at : ℕ) (bs : List ℕ) → begins_with_lf bs ≡ true → begun at [] (lines_at (suc at) bs) ≡ record { at = at; text = [] } ∷ lines_at (at + (suc (length bs) - length (behind 10 bs))) (behind 10 bs)
cr_lf at [] e = absurd (cc)
cr_lf at (c ∷ cs) e =
    ap (begun at []) (cond-true (c == 10) (record { at = suc at; text = [] } ∷ lines_at (suc (suc at)) cs) _ e)
    ∙ ap₂ (λ (n : ℕ) (l : List ℕ). record { at = at; text = [] } ∷ lines_at n l)
    (let k : length (behind 10 (c ∷ cs)) ≡ length cs = ap length (cond-true (c == 10) cs (behind 10 cs) e) in let q : suc (suc at) ≡ at + (suc (suc (length cs)) - length (behind 10 (c ∷ cs))) = omega arith in q)
    (sym (cond-true (c == 10) cs (behind 10 cs) e))

first_step : (p q : Bool) (at b : ℕ) (bs : List ℕ) (f : List Line)
    → (q ≡ true → begun at [] f ≡ record { at = at; text = [] } ∷ lines_at (at + (suc (length bs) - length (behind 10 bs))) (behind 10 bs))
    → (q ≡ false → begun at (b ∷ []) f ≡ record { at = at; text = b ∷ first_line bs } ∷ lines_at (at + (suc (length bs) - length (behind 10 bs))) (behind 10 bs))
    → cond p (record { at = at; text = [] } ∷ lines_at (suc at) bs) (cond q (begun at [] f) (begun at (b ∷ []) f))
    ≡ record { at = at; text = cond (p || q) [] (b ∷ first_line bs) } ∷ lines_at (at + (suc (length bs) - length (cond p bs (behind 10 bs)))) (cond p bs (behind 10 bs))
first_step true q at b bs f h k = ap (λ (n : ℕ). record { at = at; text = [] } ∷ lines_at n bs) (let e : suc at ≡ at + (suc (length bs) - length bs) = omega arith in e)
first_step false true at b bs f h k = h refl
first_step false false at b bs f h k = k refl

lf_there : (x y : Bool) → (x && y) ≡ true → y ≡ true
lf_there true y e = e
lf_there false y e = absurd (cc)

plain_line : (at b : ℕ) (cs : List ℕ) → (0 < length cs → lines_at (suc at) cs ≡ record { at = suc at; text = first_line cs } ∷ lines_at (suc at + (length cs - length (behind 10 cs))) (behind 10 cs))
    → begun at (b ∷ []) (lines_at (suc at) cs) ≡ record { at = at; text = b ∷ first_line cs } ∷ lines_at (at + (suc (length cs) - length (behind 10 cs))) (behind 10 cs)
plain_line at b [] h = refl
plain_line at b (c ∷ cs) h =
    let less = behind_less 10 (c ∷ cs) in
    ap (begun at (b ∷ [])) (h (omega arith))
    ∙ ap (λ (n : ℕ). record { at = at; text = b ∷ first_line (c ∷ cs) } ∷ lines_at n (behind 10 (c ∷ cs)))
    (let e : suc at + (length (c ∷ cs) - length (behind 10 (c ∷ cs))) ≡ at + (suc (length (c ∷ cs)) - length (behind 10 (c ∷ cs))) = omega arith in e)

pub lines_first : (at : ℕ) (bs : List ℕ) → 0 < length bs → lines_at at bs ≡ record { at = at; text = first_line bs } ∷ lines_at (at + (length bs - length (behind 10 bs))) (behind 10 bs)
lines_first at [] some = absurd (omega arith)
lines_first at (b ∷ bs) some =
    first_step (b == 10) (b == 13 && begins_with_lf bs) at b bs (lines_at (suc at) bs)
    (λ q. cr_lf at bs (lf_there (b == 13) (begins_with_lf bs) q))
    (λ q. plain_line at b bs (lines_first (suc at) bs))

-- symbols line by line

onto_symbols : (ss : List Symbol) (s : Symbol) (r : Result (List Symbol) AigFault) → behind_symbols ss (and_then r (λ (more : List Symbol). Ok (s ∷ more))) ≡ behind_symbols (ss ++ s ∷ []) r
onto_symbols ss s (Err f) = refl
onto_symbols ss s (Ok more) = ap (λ (l : List Symbol). Ok l) (sym (append_assoc ss (s ∷ []) more))

module _ (h : Header) (total : ℕ) (g : List Symbol) (bytes : List ℕ) (ss : List Symbol) (target : Result (List Symbol) AigFault)
    (left : behind_symbols ss (symbols_of h g (lines_at (total - length bytes) bytes)) ≡ target) where
  cut : 0 < length bytes → length bytes ≤ total → target ≡ behind_symbols ss (symbols_of h g (record { at = total - length bytes; text = first_line bytes } ∷ lines_at (total - length (behind 10 bytes)) (behind 10 bytes)))
  cut some within =
      let less = behind_less 10 bytes in
      let e : total - length bytes + (length bytes - length (behind 10 bytes)) ≡ total - length (behind 10 bytes) = omega arith in
      sym left ∙ ap (λ (lines : List Line). behind_symbols ss (symbols_of h g lines)) (lines_first (total - length bytes) bytes some ∙ ap (λ (n : ℕ). record { at = total - length bytes; text = first_line bytes } ∷ lines_at n (behind 10 bytes)) e)

  pub symbols_on : (line rest : List ℕ) (s : Symbol) → 0 < length bytes → length bytes ≤ total → line ≡ first_line bytes → rest ≡ behind 10 bytes → begins_comments line ≡ false → Path (Option Symbol) (Some s) (symbol_of h g line)
      → behind_symbols (ss ++ s ∷ []) (symbols_of h (s ∷ g) (lines_at (total - length rest) rest)) ≡ target
  symbols_on line rest s some within l r other e =
      ap (λ (bs : List ℕ). behind_symbols (ss ++ s ∷ []) (symbols_of h (s ∷ g) (lines_at (total - length bs) bs))) r
      ∙ sym (onto_symbols ss s (symbols_of h (s ∷ g) (lines_at (total - length (behind 10 bytes)) (behind 10 bytes))))
      ∙ ap (λ (o : Option Symbol). behind_symbols ss (if_some (faults.Symbol (total - length bytes)) o (λ (s : Symbol). and_then (symbols_of h (s ∷ g) (lines_at (total - length (behind 10 bytes)) (behind 10 bytes))) (λ (more : List Symbol). Ok (s ∷ more))))) (e ∙ ap (symbol_of h g) l)
      ∙ ap (behind_symbols ss) (sym (cond-false (begins_comments (first_line bytes)) (Ok []) (if_some (faults.Symbol (total - length bytes)) (symbol_of h g (first_line bytes)) (λ (s : Symbol). and_then (symbols_of h (s ∷ g) (lines_at (total - length (behind 10 bytes)) (behind 10 bytes))) (λ (more : List Symbol). Ok (s ∷ more)))) (ap begins_comments (sym l) ∙ other)))
      ∙ sym (cut some within)

  pub symbols_stop : (line : List ℕ) → 0 < length bytes → length bytes ≤ total → line ≡ first_line bytes → begins_comments line ≡ false → Path (Option Symbol) None (symbol_of h g line) → target ≡ Err (faults.Symbol (total - length bytes))
  symbols_stop line some within l other e =
      cut some within
      ∙ ap (behind_symbols ss) (cond-false (begins_comments (first_line bytes)) (Ok []) (if_some (faults.Symbol (total - length bytes)) (symbol_of h g (first_line bytes)) (λ (s : Symbol). and_then (symbols_of h (s ∷ g) (lines_at (total - length (behind 10 bytes)) (behind 10 bytes))) (λ (more : List Symbol). Ok (s ∷ more)))) (ap begins_comments (sym l) ∙ other))
      ∙ ap (λ (o : Option Symbol). behind_symbols ss (if_some (faults.Symbol (total - length bytes)) o (λ (s : Symbol). and_then (symbols_of h (s ∷ g) (lines_at (total - length (behind 10 bytes)) (behind 10 bytes))) (λ (more : List Symbol). Ok (s ∷ more))))) (sym (e ∙ ap (symbol_of h g) l))

  pub symbols_comments : (line : List ℕ) → 0 < length bytes → length bytes ≤ total → line ≡ first_line bytes → begins_comments line ≡ true → target ≡ Ok ss
  symbols_comments line some within l comment =
      cut some within
      ∙ ap (behind_symbols ss) (cond-true (begins_comments (first_line bytes)) (Ok []) (if_some (faults.Symbol (total - length bytes)) (symbol_of h g (first_line bytes)) (λ (s : Symbol). and_then (symbols_of h (s ∷ g) (lines_at (total - length (behind 10 bytes)) (behind 10 bytes))) (λ (more : List Symbol). Ok (s ∷ more)))) (ap begins_comments (sym l) ∙ comment))
      ∙ ap (λ (l : List Symbol). Ok l) (append-nil ss)

  pub symbols_end : bytes ≡ [] → target ≡ Ok ss
  symbols_end none = sym left ∙ ap (λ (bs : List ℕ). behind_symbols ss (symbols_of h g (lines_at (total - length bs) bs))) none ∙ ap (λ (l : List Symbol). Ok l) (append-nil ss)

-- the whole file

-- what a success has
abbrev lists_by : Result (Lists × List ℕ) AigFault → Lists × List ℕ
lists_by (Ok got) = got
lists_by (Err fault) = (no_lists, [])

gathered_ok : (r : Result (List Part × List ℕ) AigFault) (b : Lists) (rest : List ℕ) → Path (Result (Lists × List ℕ) AigFault) (gathered no_lists r) (Ok (b, rest)) → (parts : List Part) × (Path (Result (List Part × List ℕ) AigFault) r (Ok (parts, rest)) × Path Lists (with_parts no_lists parts) b)
gathered_ok (Err f) b rest e = absurd (cc)
gathered_ok (Ok got) b rest e = (got.0, (ap (λ (q : Result (Lists × List ℕ) AigFault). Ok (got.0, (lists_by q).1)) e, ap (λ (q : Result (Lists × List ℕ) AigFault). (lists_by q).0) e))

gathered_err : (r : Result (List Part × List ℕ) AigFault) (f : AigFault) → Path (Result (Lists × List ℕ) AigFault) (gathered no_lists r) (Err f) → Path (Result (List Part × List ℕ) AigFault) r (Err f)
gathered_err (Err g) f e = let q : g ≡ f = cc in ap (λ (k : AigFault). Err k) q
gathered_err (Ok got) f e = absurd (cc)

module _ (properties : Bool) (bytes below : List ℕ) (is : below ≡ behind 10 bytes) where
  header_is : (line : List ℕ) (r : Result Header AigFault) → line ≡ first_line bytes → judged properties (header_in (words_of line)) ≡ r → header_of properties bytes ≡ r
  header_is line r l e = ap (λ (t : List ℕ). judged properties (header_in (words_of t))) (sym l) ∙ e

  pub says_header_fault : (line : List ℕ) → line ≡ first_line bytes → (f : AigFault) → Path (Result Header AigFault) (judged properties (header_in (words_of line))) (Err f) → spelled properties bytes ≡ Err f
  says_header_fault line l f e = ap (λ (r : Result Header AigFault). and_then r (spelled_by (length bytes) (behind 10 bytes))) (header_is line (Err f) l e)

  module _ (line : List ℕ) (h : Header) (l : line ≡ first_line bytes) (e : Path (Result Header AigFault) (judged properties (header_in (words_of line))) (Ok h)) where
    pub by_header : spelled properties bytes ≡ and_then (parts_of (length bytes) (2 * h.variables + 1) [] (wanted_by h.ascii h) below) (λ (got : List Part × List ℕ). and_then (symbols_of h [] (lines_at (length bytes - length got.1) got.1)) (λ (ss : List Symbol). Ok (aig_by h got.0 ss)))
    by_header =
        ap (λ (r : Result Header AigFault). and_then r (spelled_by (length bytes) (behind 10 bytes))) (header_is line (Ok h) l e)
        ∙ ap (λ (bs : List ℕ). spelled_by (length bytes) bs h) (sym is)

    pub says_body_fault : (f : AigFault) → Path (Result (Lists × List ℕ) AigFault) (body_by h.ascii h (length bytes) below) (Err f) → spelled properties bytes ≡ Err f
    says_body_fault f e = by_header ∙ ap (λ (r : Result (List Part × List ℕ) AigFault). and_then r (λ (got : List Part × List ℕ). and_then (symbols_of h [] (lines_at (length bytes - length got.1) got.1)) (λ (ss : List Symbol). Ok (aig_by h got.0 ss)))) (gathered_err _ f e)

    module _ (b : Lists) (rest : List ℕ) (said : Path (Result (Lists × List ℕ) AigFault) (body_by h.ascii h (length bytes) below) (Ok (b, rest))) where
      pub says_symbol_fault : (f : AigFault) → Path (Result (List Symbol) AigFault) (symbols_of h [] (lines_at (length bytes - length rest) rest)) (Err f) → spelled properties bytes ≡ Err f
      says_symbol_fault f k =
          let q = gathered_ok (parts_of (length bytes) (2 * h.variables + 1) [] (wanted_by h.ascii h) below) b rest said in
          by_header
          ∙ ap (λ (r : Result (List Part × List ℕ) AigFault). and_then r (λ (got : List Part × List ℕ). and_then (symbols_of h [] (lines_at (length bytes - length got.1) got.1)) (λ (ss : List Symbol). Ok (aig_by h got.0 ss)))) q.1.0
          ∙ ap (λ (r : Result (List Symbol) AigFault). and_then r (λ (ss : List Symbol). Ok (aig_by h q.0 ss))) k

      pub says_all : (ss : List Symbol) → Path (Result (List Symbol) AigFault) (symbols_of h [] (lines_at (length bytes - length rest) rest)) (Ok ss) → spelled properties bytes ≡ Ok (aig_with h b ss)
      says_all ss k =
          let q = gathered_ok (parts_of (length bytes) (2 * h.variables + 1) [] (wanted_by h.ascii h) below) b rest said in
          by_header
          ∙ ap (λ (r : Result (List Part × List ℕ) AigFault). and_then r (λ (got : List Part × List ℕ). and_then (symbols_of h [] (lines_at (length bytes - length got.1) got.1)) (λ (ss : List Symbol). Ok (aig_by h got.0 ss)))) q.1.0
          ∙ ap (λ (r : Result (List Symbol) AigFault). and_then r (λ (ss : List Symbol). Ok (aig_by h q.0 ss))) k
          ∙ ap (λ (l : Lists). Ok (aig_with h l ss)) q.1.1

pub no_symbols : (ss : List Symbol) (r : Result (List Symbol) AigFault) → ss ≡ [] → behind_symbols ss r ≡ r
no_symbols ss (Ok more) e = ap (λ (l : List Symbol). Ok (l ++ more)) e
no_symbols ss (Err f) e = refl

-- want of memory, or what this result has
abbrev pub MayFail : {X : Type 0} → Result X AigFault → AigFault → Type 0
MayFail r f = (f ≡ faults.NoMemory) ⊎ (r ≡ Err f)

pub passes : {T X Y : Type 0} (r : Result T AigFault) (y e : AigFault) (a : Result X AigFault) (b : Result Y AigFault) → r ≡ Err y → y ≡ e → ((f : AigFault) → a ≡ Err f → b ≡ Err f) → MayFail a e → IfErr r (MayFail b)
passes r y e a b p q g h = subst (λ (s : Result _ AigFault). IfErr s (MayFail b)) (sym (p ∙ ap Err q)) (elim h [ inl m ↦ inl m | inr k ↦ inr (g e k) ])
