-- A body that is read part by part: what is gathered so far, and what the rest of the body adds.
use Rattle.std.proofs.Common.{◌≡◌, ℕ, zero, suc, ◌+◌, ◌-◌, ◌*◌, ◌<◌, ◌≤◌, true, false, List, [], ◌∷◌, ◌++◌, length, map, replicate, drop, Option, Some, None, Result, Ok, Err, refl, sym, ap, ◌∙◌, subst, append_assoc, append-nil, arith}
use Rattle.std.proofs.lemmas.List.{drop_all, length-append, length-map, length-replicate}
use Rattle.syn_aiger_files.specs.declared.fault.AigFault.{AigFault}
use Rattle.syn_aiger_files.specs.declared.fault.AigFault.TheVariants as faults
use Rattle.syn_aiger_files.specs.Files.{AigAnd, AigLatch, Header, all_outputs}
use Rattle.syn_aiger_files.specs.Gathered.{Lists, gathered, is_text, with_parts}
use Rattle.syn_aiger_files.specs.Literals.{literals_from}
use Rattle.syn_aiger_files.specs.Parts.{AndLine, Gate, Input, InputLine, LatchLine, Latched, NextLine, Output, OutputLine, PairOf, Part, Wanted, ands_in, and_then, defined_by, if_some, inputs_in, latches_in, missed, outputs_in, parts_of, taken, wanted_by}
use Rattle.syn_aiger_files.proofs.Counts.{literals_count}

-- one part more

one_more : {X : Type 0} (xs : List X) (x : X) (ys : List X) → xs ++ (x ∷ ys) ≡ (xs ++ x ∷ []) ++ ys
one_more xs x ys = sym (append_assoc xs (x ∷ []) ys)

none_more : {X : Type 0} (xs ys : List X) → xs ++ ys ≡ (xs ++ []) ++ ys
none_more xs ys = ap (λ (l : List _). l ++ ys) (sym (append-nil xs))

four : {a b : List ℕ} {c d : List AigLatch} {e f : List ℕ} {g h : List AigAnd} → a ≡ b → c ≡ d → e ≡ f → g ≡ h → Path Lists (a, (c, (e, g))) (b, (d, (f, h)))
four p q r s = cc

more_parts : (b : Lists) (p : Part) (ps : List Part) → Path Lists (with_parts b (p ∷ ps)) (with_parts (with_parts b (p ∷ [])) ps)
more_parts b (Input l) ps = four (one_more b.0 l (inputs_in ps)) (none_more b.1.0 (latches_in ps)) (none_more b.1.1.0 (outputs_in ps)) (none_more b.1.1.1 (ands_in ps))
more_parts b (Latched l) ps = four (none_more b.0 (inputs_in ps)) (one_more b.1.0 l (latches_in ps)) (none_more b.1.1.0 (outputs_in ps)) (none_more b.1.1.1 (ands_in ps))
more_parts b (Output l) ps = four (none_more b.0 (inputs_in ps)) (none_more b.1.0 (latches_in ps)) (one_more b.1.1.0 l (outputs_in ps)) (none_more b.1.1.1 (ands_in ps))
more_parts b (Gate l) ps = four (none_more b.0 (inputs_in ps)) (none_more b.1.0 (latches_in ps)) (none_more b.1.1.0 (outputs_in ps)) (one_more b.1.1.1 l (ands_in ps))

onto_part : (b : Lists) (p : Part) (r : Result (List Part × List ℕ) AigFault) → gathered b (and_then r (λ (got : List Part × List ℕ). Ok (p ∷ got.0, got.1))) ≡ gathered (with_parts b (p ∷ [])) r
onto_part b p (Err f) = refl
onto_part b p (Ok got) = ap (λ (l : Lists). Ok (l, got.1)) (more_parts b p got.0)

pub gathered_some : (total most : ℕ) (ls : List ℕ) (w : Wanted) (ws : List Wanted) (bytes rest : List ℕ) (p : Part) (b : Lists) → Path (Option (Part × List ℕ)) (Some (p, rest)) (taken most ls w bytes)
    → gathered b (parts_of total most ls (w ∷ ws) bytes) ≡ gathered (with_parts b (p ∷ [])) (parts_of total most (defined_by ls p) ws rest)
gathered_some total most ls w ws bytes rest p b e =
    ap (λ (o : Option (Part × List ℕ)). gathered b (if_some (missed w (total - length bytes)) o (λ (got : Part × List ℕ). and_then (parts_of total most (defined_by ls got.0) ws got.1) (λ (r : List Part × List ℕ). Ok (got.0 ∷ r.0, r.1))))) (sym e)
    ∙ onto_part b p (parts_of total most (defined_by ls p) ws rest)

pub gathered_none : (total most : ℕ) (ls : List ℕ) (w : Wanted) (ws : List Wanted) (bytes : List ℕ) (b : Lists) → Path (Option (Part × List ℕ)) None (taken most ls w bytes)
    → gathered b (parts_of total most ls (w ∷ ws) bytes) ≡ Err (missed w (total - length bytes))
gathered_none total most ls w ws bytes b e =
    ap (λ (o : Option (Part × List ℕ)). gathered b (if_some (missed w (total - length bytes)) o (λ (got : Part × List ℕ). and_then (parts_of total most (defined_by ls got.0) ws got.1) (λ (r : List Part × List ℕ). Ok (got.0 ∷ r.0, r.1))))) (sym e)

pub text_missed : (w : Wanted) (at : ℕ) → is_text w ≡ true → missed w at ≡ faults.Line at
text_missed InputLine at e = refl
text_missed LatchLine at e = refl
text_missed (NextLine own) at e = absurd (cc)
text_missed OutputLine at e = refl
text_missed AndLine at e = refl
text_missed (PairOf own) at e = absurd (cc)

pub gathered_end : (total most : ℕ) (ls : List ℕ) (bytes : List ℕ) (b : Lists) → gathered b (parts_of total most ls [] bytes) ≡ Ok (b, bytes)
gathered_end total most ls bytes b = ap (λ (l : Lists). Ok (l, bytes)) (four (append-nil b.0) (append-nil b.1.0) (append-nil b.1.1.0) (append-nil b.1.1.1))

-- what is wanted at a place

-- The list has this at a place.
abbrev pub HasAt : List Wanted → ℕ → Wanted → Type 0
HasAt ws k w = drop k ws ≡ w ∷ drop (suc k) ws

at_left : (xs ys : List Wanted) (k : ℕ) (w : Wanted) → k < length xs → HasAt xs k w → HasAt (xs ++ ys) k w
at_left [] ys k w l h = absurd (omega arith)
at_left (x ∷ xs) ys zero w l h = let e : x ≡ w = cc in ap (λ (v : Wanted). v ∷ (xs ++ ys)) e
at_left (x ∷ xs) ys (suc k) w l h = at_left xs ys k w (omega arith) h

at_right : (xs ys : List Wanted) (k n : ℕ) (w : Wanted) → n ≡ length xs + k → HasAt ys k w → HasAt (xs ++ ys) n w
at_right [] ys k n w e h = subst (λ (m : ℕ). HasAt ys m w) (let q : k ≡ n = omega arith in q) h
at_right (x ∷ xs) ys k zero w e h = absurd (omega arith)
at_right (x ∷ xs) ys k (suc n) w e h = at_right xs ys k n w (omega arith) h

at_same : (n : ℕ) (w : Wanted) (k : ℕ) → k < n → HasAt (replicate n w) k w
at_same zero w k l = absurd (omega arith)
at_same (suc n) w zero l = refl
at_same (suc n) w (suc k) l = at_same n w k (omega arith)

at_literal : (f : ℕ → Wanted) (v n k m : ℕ) → k < n → m ≡ 2 * (v + k) → HasAt (map f (literals_from v n)) k (f m)
at_literal f v zero k m l e = absurd (omega arith)
at_literal f v (suc n) zero m l e = ap (λ (q : ℕ). f q ∷ map f (literals_from (v + 1) n)) (let q : 2 * v ≡ m = omega arith in q)
at_literal f v (suc n) (suc k) m l e = at_literal f (v + 1) n k m (omega arith) (omega arith)

-- the same by its next place
pub by_next : (ws : List Wanted) (k : ℕ) (w : Wanted) → HasAt ws k w → drop k ws ≡ w ∷ drop (k + 1) ws
by_next ws k w h = h ∙ ap (λ (n : ℕ). w ∷ drop n ws) (let q : suc k ≡ k + 1 = omega arith in q)

many : (n : ℕ) (w : Wanted) → length (replicate n w) ≡ n
many n w = length-replicate n w

literal_count : (f : ℕ → Wanted) (v n : ℕ) → length (map f (literals_from v n)) ≡ n
literal_count f v n = length-map (literals_from v n) f ∙ literals_count v n

module _ (h : Header) (k : ℕ) where
  pub ascii_input : k < h.inputs → HasAt (wanted_by true h) k InputLine
  ascii_input l = let n = many h.inputs InputLine in at_left (replicate h.inputs InputLine) _ k InputLine (omega arith) (at_same h.inputs InputLine k l)

  pub ascii_latch : h.inputs ≤ k → k < h.inputs + h.latches → HasAt (wanted_by true h) k LatchLine
  ascii_latch g l =
      let n = many h.inputs InputLine in
      let m = many h.latches LatchLine in
      at_right (replicate h.inputs InputLine) _ (k - h.inputs) k LatchLine (omega arith)
      (at_left (replicate h.latches LatchLine) _ (k - h.inputs) LatchLine (omega arith) (at_same h.latches LatchLine (k - h.inputs) (omega arith)))

  pub ascii_output : h.inputs + h.latches ≤ k → k < h.inputs + h.latches + all_outputs h → HasAt (wanted_by true h) k OutputLine
  ascii_output g l =
      let n = many h.inputs InputLine in
      let m = many h.latches LatchLine in
      let o = many (all_outputs h) OutputLine in
      at_right (replicate h.inputs InputLine) _ (k - h.inputs) k OutputLine (omega arith)
      (at_right (replicate h.latches LatchLine) _ (k - h.inputs - h.latches) (k - h.inputs) OutputLine (omega arith)
      (at_left (replicate (all_outputs h) OutputLine) _ (k - h.inputs - h.latches) OutputLine (omega arith) (at_same (all_outputs h) OutputLine (k - h.inputs - h.latches) (omega arith))))

  pub ascii_and : h.inputs + h.latches + all_outputs h ≤ k → k < h.inputs + h.latches + all_outputs h + h.ands → HasAt (wanted_by true h) k AndLine
  ascii_and g l =
      let n = many h.inputs InputLine in
      let m = many h.latches LatchLine in
      let o = many (all_outputs h) OutputLine in
      at_right (replicate h.inputs InputLine) _ (k - h.inputs) k AndLine (omega arith)
      (at_right (replicate h.latches LatchLine) _ (k - h.inputs - h.latches) (k - h.inputs) AndLine (omega arith)
      (at_right (replicate (all_outputs h) OutputLine) _ (k - h.inputs - h.latches - all_outputs h) (k - h.inputs - h.latches) AndLine (omega arith)
      (at_same h.ands AndLine (k - h.inputs - h.latches - all_outputs h) (omega arith))))

  pub binary_next : k < h.latches → HasAt (wanted_by false h) k (NextLine (2 * (h.inputs + 1 + k)))
  binary_next l =
      let n = literal_count NextLine (h.inputs + 1) h.latches in
      at_left (map NextLine (literals_from (h.inputs + 1) h.latches)) _ k (NextLine (2 * (h.inputs + 1 + k))) (omega arith) (at_literal NextLine (h.inputs + 1) h.latches k (2 * (h.inputs + 1 + k)) l refl)

  pub binary_output : h.latches ≤ k → k < h.latches + all_outputs h → HasAt (wanted_by false h) k OutputLine
  binary_output g l =
      let n = literal_count NextLine (h.inputs + 1) h.latches in
      let o = many (all_outputs h) OutputLine in
      at_right (map NextLine (literals_from (h.inputs + 1) h.latches)) _ (k - h.latches) k OutputLine (omega arith)
      (at_left (replicate (all_outputs h) OutputLine) _ (k - h.latches) OutputLine (omega arith) (at_same (all_outputs h) OutputLine (k - h.latches) (omega arith)))

  pub binary_pair : (m : ℕ) → h.latches + all_outputs h ≤ k → k < h.latches + all_outputs h + h.ands → m ≡ 2 * (h.inputs + h.latches + 1 + (k - h.latches - all_outputs h)) → HasAt (wanted_by false h) k (PairOf m)
  binary_pair m g l e =
      let n = literal_count NextLine (h.inputs + 1) h.latches in
      let o = many (all_outputs h) OutputLine in
      at_right (map NextLine (literals_from (h.inputs + 1) h.latches)) _ (k - h.latches) k (PairOf m) (omega arith)
      (at_right (replicate (all_outputs h) OutputLine) _ (k - h.latches - all_outputs h) (k - h.latches) (PairOf m) (omega arith)
      (at_literal PairOf (h.inputs + h.latches + 1) h.ands (k - h.latches - all_outputs h) m (omega arith) e))

-- a step of the loop over what is wanted, a fault in it, and its end

module _ (total most : ℕ) (ls : List ℕ) (ws : List Wanted) (k : ℕ) (bytes : List ℕ) (b : Lists) (target : Result (Lists × List ℕ) AigFault) (left : gathered b (parts_of total most ls (drop k ws) bytes) ≡ target) where
  pub goes_on : (w : Wanted) (rest : List ℕ) (p : Part) (more : Lists) → drop k ws ≡ w ∷ drop (k + 1) ws → Path (Option (Part × List ℕ)) (Some (p, rest)) (taken most ls w bytes) → Path Lists more (with_parts b (p ∷ []))
      → gathered more (parts_of total most (defined_by ls p) (drop (k + 1) ws) rest) ≡ target
  goes_on w rest p more at e is =
      ap (λ (l : Lists). gathered l (parts_of total most (defined_by ls p) (drop (k + 1) ws) rest)) is
      ∙ sym (gathered_some total most ls w (drop (k + 1) ws) bytes rest p b e)
      ∙ sym (ap (λ (vs : List Wanted). gathered b (parts_of total most ls vs bytes)) at)
      ∙ left

  pub fault_there : (w : Wanted) → drop k ws ≡ w ∷ drop (k + 1) ws → Path (Option (Part × List ℕ)) None (taken most ls w bytes) → target ≡ Err (missed w (total - length bytes))
  fault_there w at e = sym left ∙ ap (λ (vs : List Wanted). gathered b (parts_of total most ls vs bytes)) at ∙ gathered_none total most ls w (drop (k + 1) ws) bytes b e

  pub ends_there : length ws ≤ k → target ≡ Ok (b, bytes)
  ends_there few = sym left ∙ ap (λ (vs : List Wanted). gathered b (parts_of total most ls vs bytes)) (drop_all k ws few) ∙ gathered_end total most ls bytes b

pub ascii_count : (h : Header) → length (wanted_by true h) ≡ h.inputs + h.latches + all_outputs h + h.ands
ascii_count h =
    let e = length-append (replicate h.inputs InputLine) (replicate h.latches LatchLine ++ (replicate (all_outputs h) OutputLine ++ replicate h.ands AndLine)) in
    let f = length-append (replicate h.latches LatchLine) (replicate (all_outputs h) OutputLine ++ replicate h.ands AndLine) in
    let g = length-append (replicate (all_outputs h) OutputLine) (replicate h.ands AndLine) in
    let i = many h.inputs InputLine in
    let j = many h.latches LatchLine in
    let k = many (all_outputs h) OutputLine in
    let l = many h.ands AndLine in
    omega arith

pub binary_count : (h : Header) → length (wanted_by false h) ≡ h.latches + all_outputs h + h.ands
binary_count h =
    let e = length-append (map NextLine (literals_from (h.inputs + 1) h.latches)) (replicate (all_outputs h) OutputLine ++ map PairOf (literals_from (h.inputs + h.latches + 1) h.ands)) in
    let f = length-append (replicate (all_outputs h) OutputLine) (map PairOf (literals_from (h.inputs + h.latches + 1) h.ands)) in
    let i = literal_count NextLine (h.inputs + 1) h.latches in
    let j = many (all_outputs h) OutputLine in
    let k = literal_count PairOf (h.inputs + h.latches + 1) h.ands in
    omega arith
