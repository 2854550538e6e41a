-- What a file is that is said: each definition is new, right sides may be read, and there are as many of each as the first line says. And a fault of what it says is one of its text.
use Rattle.std.specs.Prelude.{⊤}
use Rattle.std.specs.List.{AllByRecursion, list_all}
use Rattle.std.proofs.Common.{◌≡◌, ℕ, zero, suc, ◌+◌, ◌-◌, ◌*◌, ◌%◌, ◌≤◌, ◌==◌, ◌&&◌, not, nat_le, nat_lt, nat_eq, Bool, true, false, cond, if◌then◌else◌, List, [], ◌∷◌, ◌++◌, length, map, replicate, option_map, ◌⊎◌, Option, Some, None, Result, Ok, Err, refl, sym, ap, ap₂, ◌∙◌, subst, inl, inr, append-nil, map-id, arith, leb-true, eqb-true, eq-eqb, ne_eqb}
use Rattle.std.proofs.lemmas.Bool.{and_from, and_parts, or_from, or_left, or_right, both_ways, not-true, not_from_false, cases_Bool, cond-true, cond-false}
use Rattle.syn_lists.specs.Numbers.{distinct_numbers, has_number}
use Rattle.syn_aiger_files.specs.declared.fault.AigFault.{AigFault}
use Rattle.syn_aiger_files.specs.declared.fault.AigFault.TheVariants as faults
use Rattle.syn_aiger_files.specs.declared.fault.AigFault.TheVariants.{Cycle, Header, Line, Justice, NoMemory, Pair, Symbol, TooManyGates, TooManySources, Undefined}
use Rattle.syn_aiger_files.specs.Texts as texts
use Rattle.syn_aiger_files.specs.Texts.{behind, delta, first_line, lines_at, numbers_of, numbers_on, or_none, words_of}
use Rattle.syn_aiger_files.specs.Files as files
use Rattle.syn_aiger_files.specs.Files.{Aig, AigAnd, AigLatch, all_outputs, and_literal, latch_literal, variable_of}
use Rattle.syn_aiger_files.specs.Literals.{literals_from}
use Rattle.syn_aiger_files.specs.Parts.{AndLine, Gate, Input, InputLine, LatchLine, Latched, NextLine, Output, OutputLine, PairOf, Part, Wanted, ands_in, and_then, defined_by, if_some, inputs_in, is_reset, latch_by, latches_in, may_define, may_read, missed, outputs_in, pair_behind, pair_by, parts_of, said_by, taken, wanted_by}
use Rattle.syn_aiger_files.specs.Symbols.{begins_comments, symbol_of, symbols_of}
use Rattle.syn_aiger_files.specs.Spelling.{aig_by, are_enough, are_none, fits_numbers, header_in, header_of, judged, most_variables, spelled_by, spelled, taken_by}
use Rattle.syn_aiger_files.proofs.Counts.{literals_count}
use Rattle.syn_aiger_files.proofs.PrintedBodies.{AllBelow, below_less, may_define_next}

pub literals-append : (v a b : ℕ) → literals_from v a ++ literals_from (v + a) b ≡ literals_from v (a + b)
literals-append v zero b = ap₂ literals_from (let e : v + 0 ≡ v = omega arith in e) (let e : b ≡ 0 + b = omega arith in e)
literals-append v (suc a) b =
    ap (λ (l : List ℕ). 2 * v ∷ l) (ap (λ (k : ℕ). literals_from (v + 1) a ++ literals_from k b) (let e : v + suc a ≡ v + 1 + a = omega arith in e) ∙ literals-append (v + 1) a b)
    ∙ ap (literals_from v) (let e : suc (a + b) ≡ suc a + b = omega arith in e)

-- what a success says

some_if : {A : Type 0} (b : Bool) (x y : A) → cond b (Some x) None ≡ Some y → (b ≡ true) × (x ≡ y)
some_if true x y e = (refl, cc)
some_if false x y e = absurd (cc)

inner_if : {A : Type 0} (b : Bool) (o : Option A) (y : A) → cond b o None ≡ Some y → (b ≡ true) × (o ≡ Some y)
inner_if true o y e = (refl, e)
inner_if false o y e = absurd (cc)

some_of : {A B : Type 0} (fault : AigFault) (o : Option A) (next : A → Result B AigFault) (y : B) → if_some fault o next ≡ Ok y → (a : A) × (o ≡ Some a) × (next a ≡ Ok y)
some_of fault None next y e = absurd (cc)
some_of fault (Some a) next y e = (a, refl, e)

ok_of : {A B : Type 0} (r : Result A AigFault) (next : A → Result B AigFault) (y : B) → and_then r next ≡ Ok y → (a : A) × (r ≡ Ok a) × (next a ≡ Ok y)
ok_of (Ok a) next y e = (a, refl, e)
ok_of (Err f) next y e = absurd (cc)

mapped_from : (o : Option Part) (rest : List ℕ) (got : Part × List ℕ) → option_map (λ (p : Part). (p, rest)) o ≡ Some got → o ≡ Some got.0
mapped_from None rest got e = absurd (cc)
mapped_from (Some p) rest got e = ap (option_map (λ (g : Part × List ℕ). g.0)) e

-- The right sides of an AND may be read.
abbrev pub SidesFit : ℕ → AigAnd → Type 0
SidesFit most a = (a.first ≤ most) × (a.second ≤ most)

-- The reset of a latch is allowed.
abbrev pub ResetFits : AigLatch → Type 0
ResetFits a = is_reset a.literal a.reset ≡ true

-- what a part has that is taken as wanted
abbrev PartFits : ℕ → List ℕ → Wanted → Part → Type 0
PartFits most ds InputLine (Input l) = may_define most ds l ≡ true
PartFits most ds LatchLine (Latched a) = (may_define most ds a.literal ≡ true) × ResetFits a
PartFits most ds (NextLine own) (Latched a) = (a.literal ≡ own) × ResetFits a
PartFits most ds OutputLine (Output l) = ⊤
PartFits most ds AndLine (Gate a) = (may_define most ds a.literal ≡ true) × SidesFit most a
PartFits most ds (PairOf l) (Gate a) = (a.literal ≡ l) × ((a.first ≤ l) × (a.second ≤ l))
PartFits most ds w p = ⊥

abbrev AllFit : ℕ → List ℕ → List Wanted → List Part → Type 0
AllFit most ds [] [] = ⊤
AllFit most ds (w ∷ ws) (p ∷ ps) = PartFits most ds w p × AllFit most (defined_by ds p) ws ps
AllFit most ds ws ps = ⊥

latch_is : (most own next reset : ℕ) (p : Part) → latch_by most own next reset ≡ Some p → (Latched (record { literal = own; next = next; reset = reset }) ≡ p) × (is_reset own reset ≡ true)
latch_is most own next reset p e =
    let r = some_if (may_read most next && is_reset own reset) (Latched (record { literal = own; next = next; reset = reset })) p e in
    (r.1, (and_parts (may_read most next) (is_reset own reset) r.0).1)

said_fits : (most : ℕ) (ds : List ℕ) (w : Wanted) (ns : List ℕ) (p : Part) → said_by most ds w ns ≡ Some p → PartFits most ds w p
said_fits most ds InputLine (l ∷ []) p e = let r = some_if (may_define most ds l) (Input l) p e in subst (PartFits most ds InputLine) r.1 r.0
said_fits most ds LatchLine (l ∷ next ∷ []) p e = let r = inner_if (may_define most ds l) (latch_by most l next 0) p e in let q = latch_is most l next 0 p r.1 in subst (PartFits most ds LatchLine) q.0 (r.0, q.1)
said_fits most ds LatchLine (l ∷ next ∷ reset ∷ []) p e = let r = inner_if (may_define most ds l) (latch_by most l next reset) p e in let q = latch_is most l next reset p r.1 in subst (PartFits most ds LatchLine) q.0 (r.0, q.1)
said_fits most ds (NextLine own) (next ∷ []) p e = let q = latch_is most own next 0 p e in subst (PartFits most ds (NextLine own)) q.0 (refl, q.1)
said_fits most ds (NextLine own) (next ∷ reset ∷ []) p e = let q = latch_is most own next reset p e in subst (PartFits most ds (NextLine own)) q.0 (refl, q.1)
said_fits most ds OutputLine (l ∷ []) p e = let r = some_if (may_read most l) (Output l) p e in subst (PartFits most ds OutputLine) r.1 tt
said_fits most ds AndLine (l ∷ first ∷ second ∷ []) p e =
    let r = some_if (may_define most ds l && (may_read most first && may_read most second)) (Gate (record { literal = l; first = first; second = second })) p e in
    let q = and_parts (may_define most ds l) (may_read most first && may_read most second) r.0 in
    let t = and_parts (may_read most first) (may_read most second) q.1 in
    subst (PartFits most ds AndLine) r.1 (q.0, (leb-true first most t.0, leb-true second most t.1))
said_fits most ds w ns p e = absurd (none_some p e)
  where
    none_some : (q : Part) → Path (Option Part) None (Some q) → ⊥
    none_some q h = cc

pair_behind_fits : (most : ℕ) (ds : List ℕ) (l by : ℕ) (o : Option (ℕ × List ℕ)) (got : Part × List ℕ) → pair_behind l by o ≡ Some got → PartFits most ds (PairOf l) got.0
pair_behind_fits most ds l by None got e = absurd (cc)
pair_behind_fits most ds l by (Some (second, rest)) got e =
    let r = some_if (nat_le second (l - by)) (Gate (record { literal = l; first = l - by; second = (l - by) - second }), rest) got e in
    subst (λ (g : Part × List ℕ). PartFits most ds (PairOf l) g.0) r.1 (refl, (omega arith, omega arith))

pair_fits : (most : ℕ) (ds : List ℕ) (l : ℕ) (o : Option (ℕ × List ℕ)) (got : Part × List ℕ) → pair_by l o ≡ Some got → PartFits most ds (PairOf l) got.0
pair_fits most ds l None got e = absurd (cc)
pair_fits most ds l (Some (by, rest)) got e = pair_behind_fits most ds l by (delta 5 rest) got (inner_if (nat_lt 0 by && nat_le by l) (pair_behind l by (delta 5 rest)) got e).1

line_fits : (most : ℕ) (ds : List ℕ) (w : Wanted) (bytes : List ℕ) (got : Part × List ℕ) → option_map (λ (p : Part). (p, behind 10 bytes)) (said_by most ds w (numbers_on bytes)) ≡ Some got → PartFits most ds w got.0
line_fits most ds w bytes got e = said_fits most ds w (numbers_on bytes) got.0 (mapped_from (said_by most ds w (numbers_on bytes)) (behind 10 bytes) got e)

taken_fits : (most : ℕ) (ds : List ℕ) (w : Wanted) (bytes : List ℕ) (got : Part × List ℕ) → taken most ds w bytes ≡ Some got → PartFits most ds w got.0
taken_fits most ds InputLine bytes got e = line_fits most ds InputLine bytes got e
taken_fits most ds LatchLine bytes got e = line_fits most ds LatchLine bytes got e
taken_fits most ds (NextLine own) bytes got e = line_fits most ds (NextLine own) bytes got e
taken_fits most ds OutputLine bytes got e = line_fits most ds OutputLine bytes got e
taken_fits most ds AndLine bytes got e = line_fits most ds AndLine bytes got e
taken_fits most ds (PairOf l) bytes got e = pair_fits most ds l (delta 5 bytes) got e

pub parts_fit : (total most : ℕ) (ds : List ℕ) (ws : List Wanted) (bytes : List ℕ) (got : List Part × List ℕ) → parts_of total most ds ws bytes ≡ Ok got → AllFit most ds ws got.0
parts_fit total most ds [] bytes got e = subst (λ (g : List Part × List ℕ). AllFit most ds [] g.0) (let q : Path (List Part × List ℕ) ([], bytes) got = cc in q) tt
parts_fit total most ds (w ∷ ws) bytes got e =
    let a = some_of (missed w (total - length bytes)) (taken most ds w bytes) (λ (g : Part × List ℕ). and_then (parts_of total most (defined_by ds g.0) ws g.1) (λ (r : List Part × List ℕ). Ok (g.0 ∷ r.0, r.1))) got e in
    let b = ok_of (parts_of total most (defined_by ds a.0.0) ws a.0.1) (λ (r : List Part × List ℕ). Ok (a.0.0 ∷ r.0, r.1)) got a.2 in
    let c : Path (Result (List Part × List ℕ) AigFault) (Ok (a.0.0 ∷ b.0.0, b.0.1)) (Ok got) = b.2 in
    subst (λ (g : List Part × List ℕ). AllFit most ds (w ∷ ws) g.0) (let q : Path (List Part × List ℕ) (a.0.0 ∷ b.0.0, b.0.1) got = cc in q)
    (taken_fits most ds w bytes a.0 a.1, parts_fit total most (defined_by ds a.0.0) ws a.0.1 b.0 b.1)

-- definitions, each new behind those before

abbrev pub NewOnes : ℕ → List ℕ → List ℕ → Type 0
NewOnes most ds [] = ⊤
NewOnes most ds (l ∷ ls) = (may_define most ds l ≡ true) × NewOnes most (l ∷ ds) ls

abbrev pub onto : List ℕ → List ℕ → List ℕ
onto [] ds = ds
onto (l ∷ ls) ds = onto ls (l ∷ ds)

new_append : (most : ℕ) (ds xs ys : List ℕ) → NewOnes most ds xs → NewOnes most (onto xs ds) ys → NewOnes most ds (xs ++ ys)
new_append most ds [] ys h k = k
new_append most ds (x ∷ xs) ys h k = (h.0, new_append most (x ∷ ds) xs ys h.1 k)

pub record MayDefine (most : ℕ) (ds : List ℕ) (l : ℕ) : Type 0 where
  pub plain : l % 2 ≡ 0
  pub some : 2 ≤ l
  pub most_at : l ≤ most
  pub new : has_number ds l ≡ false

pub may_parts : (most : ℕ) (ds : List ℕ) (l : ℕ) → may_define most ds l ≡ true → MayDefine most ds l
may_parts most ds l h =
    let a = and_parts (l % 2 == 0) (nat_le 2 l && (nat_le l most && not (has_number ds l))) h in
    let b = and_parts (nat_le 2 l) (nat_le l most && not (has_number ds l)) a.1 in
    let c = and_parts (nat_le l most) (not (has_number ds l)) b.1 in
    record { plain = eqb-true (l % 2) 0 a.0; some = leb-true 2 l b.0; most_at = leb-true l most c.0; new = not-true (has_number ds l) c.1 }

-- a variable that was defined before isn't defined again
not_later : (most : ℕ) (ds ls : List ℕ) (d : ℕ) → NewOnes most ds ls → d % 2 ≡ 0 → has_number ds d ≡ true → has_number (map variable_of ls) (variable_of d) ≡ false
not_later most ds [] d h even there = refl
not_later most ds (l ∷ ls) d h even there =
    let p = may_parts most ds l h.0 in
    or_from (nat_eq (variable_of l) (variable_of d)) (has_number (map variable_of ls) (variable_of d))
    (ne_eqb (variable_of l) (variable_of d) (λ e. let le = p.plain in let same : l ≡ d = omega arith in both_ways (has_number ds l) p.new (ap (has_number ds) same ∙ there)))
    (not_later most (l ∷ ds) ls d h.1 even (or_right (nat_eq l d) (has_number ds d) there))

pub not_zero : (most : ℕ) (ds ls : List ℕ) → NewOnes most ds ls → has_number (map variable_of ls) 0 ≡ false
not_zero most ds [] h = refl
not_zero most ds (l ∷ ls) h =
    let p = may_parts most ds l h.0 in
    or_from (nat_eq (variable_of l) 0) (has_number (map variable_of ls) 0) (ne_eqb (variable_of l) 0 (λ e. let s = p.some in omega arith)) (not_zero most (l ∷ ds) ls h.1)

pub new_distinct : (most : ℕ) (ds ls : List ℕ) → NewOnes most ds ls → distinct_numbers (map variable_of ls) ≡ true
new_distinct most ds [] h = refl
new_distinct most ds (l ∷ ls) h =
    let p = may_parts most ds l h.0 in
    and_from (not (has_number (map variable_of ls) (variable_of l))) (distinct_numbers (map variable_of ls))
    (not_from_false (has_number (map variable_of ls) (variable_of l)) (not_later most (l ∷ ds) ls l h.1 p.plain (or_left (nat_eq l l) (has_number ds l) (eq-eqb l l refl))))
    (new_distinct most (l ∷ ds) ls h.1)

-- parts of a kind, one behind the other

-- Parts of a kind in front: their things, what stands behind them, and that these definitions are new.
record Front {X : Type 0} (most : ℕ) (f : X → Part) (literal : X → ℕ) (ok : X → Type 0) (ds : List ℕ) (more : List Wanted) (ps : List Part) : Type 0 where
  xs : List X
  rest : List Part
  are : ps ≡ map f xs ++ rest
  new : NewOnes most ds (map literal xs)
  good : AllByRecursion ok xs
  next : AllFit most (onto (map literal xs) ds) more rest

listed : {X : Type 0} (most : ℕ) (f : X → Part) (literal : X → ℕ) (ok : X → Type 0) (w : Wanted) → ((ds : List ℕ) (x : X) → defined_by ds (f x) ≡ literal x ∷ ds)
    → ((ds : List ℕ) (p : Part) → PartFits most ds w p → (x : X) × (p ≡ f x) × (may_define most ds (literal x) ≡ true) × ok x)
    → (n : ℕ) (more : List Wanted) (ds : List ℕ) (ps : List Part) → AllFit most ds (replicate n w ++ more) ps → Front most f literal ok ds more ps
listed most f literal ok w defines inv zero more ds ps h = record { xs = []; rest = ps; are = refl; new = tt; good = tt; next = h }
listed most f literal ok w defines inv (suc n) more ds [] h = absurd h
listed most f literal ok w defines inv (suc n) more ds (p ∷ ps) h =
    let x = inv ds p h.0 in
    let r = listed most f literal ok w defines inv n more (literal x.0 ∷ ds) ps (subst (λ (l : List ℕ). AllFit most l (replicate n w ++ more) ps) (ap (defined_by ds) x.1 ∙ defines ds x.0) h.1) in
    record { xs = x.0 ∷ r.xs; rest = r.rest; are = ap₂ (λ (a : Part) (l : List Part). a ∷ l) x.1 r.are; new = (x.2, r.new); good = (x.3, r.good); next = r.next }

-- the same where literals follow from a number
record Numbered {X : Type 0} (most : ℕ) (f : X → Part) (literal : X → ℕ) (ok : X → Type 0) (v n : ℕ) (more : List Wanted) (ps : List Part) : Type 0 where
  xs : List X
  rest : List Part
  are : ps ≡ map f xs ++ rest
  literals : map literal xs ≡ literals_from v n
  good : AllByRecursion ok xs
  later : List ℕ
  next : AllFit most later more rest

in_numbers : {X : Type 0} (most : ℕ) (f : X → Part) (literal : X → ℕ) (ok : X → Type 0) (want : ℕ → Wanted)
    → ((ds : List ℕ) (l : ℕ) (p : Part) → l ≤ most → PartFits most ds (want l) p → (x : X) × (p ≡ f x) × (literal x ≡ l) × ok x)
    → (v n : ℕ) (more : List Wanted) (ds : List ℕ) (ps : List Part) → 2 * (v + n) ≤ most + 2 → AllFit most ds (map want (literals_from v n) ++ more) ps → Numbered most f literal ok v n more ps
in_numbers most f literal ok want inv v zero more ds ps few h = record { xs = []; rest = ps; are = refl; literals = refl; good = tt; later = ds; next = h }
in_numbers most f literal ok want inv v (suc n) more ds [] few h = absurd h
in_numbers most f literal ok want inv v (suc n) more ds (p ∷ ps) few h =
    let x = inv ds (2 * v) p (omega arith) h.0 in
    let r = in_numbers most f literal ok want inv (v + 1) n more (defined_by ds p) ps (omega arith) h.1 in
    record { xs = x.0 ∷ r.xs; rest = r.rest; are = ap₂ (λ (a : Part) (l : List Part). a ∷ l) x.1 r.are; literals = ap₂ (λ (k : ℕ) (l : List ℕ). k ∷ l) x.2 r.literals; good = (x.3, r.good); later = r.later; next = r.next }

record Outputs (most : ℕ) (ds : List ℕ) (more : List Wanted) (ps : List Part) : Type 0 where
  xs : List ℕ
  rest : List Part
  are : ps ≡ map Output xs ++ rest
  next : AllFit most ds more rest

output_is : (most : ℕ) (ds : List ℕ) (p : Part) → PartFits most ds OutputLine p → (l : ℕ) × (p ≡ Output l)
output_is most ds (Output l) h = (l, refl)
output_is most ds (Input l) h = absurd h
output_is most ds (Latched a) h = absurd h
output_is most ds (Gate a) h = absurd h

outputs_listed : (most n : ℕ) (more : List Wanted) (ds : List ℕ) (ps : List Part) → AllFit most ds (replicate n OutputLine ++ more) ps → Outputs most ds more ps
outputs_listed most zero more ds ps h = record { xs = []; rest = ps; are = refl; next = h }
outputs_listed most (suc n) more ds [] h = absurd h
outputs_listed most (suc n) more ds (p ∷ ps) h =
    let x = output_is most ds p h.0 in
    let r = outputs_listed most n more ds ps (subst (λ (l : List ℕ). AllFit most l (replicate n OutputLine ++ more) ps) (ap (defined_by ds) x.1) h.1) in
    record { xs = x.0 ∷ r.xs; rest = r.rest; are = ap₂ (λ (a : Part) (l : List Part). a ∷ l) x.1 r.are; next = r.next }

input_is : (most : ℕ) (ds : List ℕ) (p : Part) → PartFits most ds InputLine p → (l : ℕ) × (p ≡ Input l) × (may_define most ds l ≡ true) × (true ≡ true)
input_is most ds (Input l) h = (l, refl, h, refl)
input_is most ds (Output l) h = absurd h
input_is most ds (Latched a) h = absurd h
input_is most ds (Gate a) h = absurd h

latch_line_is : (most : ℕ) (ds : List ℕ) (p : Part) → PartFits most ds LatchLine p → (a : AigLatch) × (p ≡ Latched a) × (may_define most ds a.literal ≡ true) × ResetFits a
latch_line_is most ds (Latched a) h = (a, refl, h.0, h.1)
latch_line_is most ds (Output l) h = absurd h
latch_line_is most ds (Input l) h = absurd h
latch_line_is most ds (Gate a) h = absurd h

and_line_is : (most : ℕ) (ds : List ℕ) (p : Part) → PartFits most ds AndLine p → (a : AigAnd) × (p ≡ Gate a) × (may_define most ds a.literal ≡ true) × SidesFit most a
and_line_is most ds (Gate a) h = (a, refl, h.0, h.1)
and_line_is most ds (Output l) h = absurd h
and_line_is most ds (Input l) h = absurd h
and_line_is most ds (Latched a) h = absurd h

next_line_is : (most : ℕ) (ds : List ℕ) (l : ℕ) (p : Part) → l ≤ most → PartFits most ds (NextLine l) p → (a : AigLatch) × (p ≡ Latched a) × (a.literal ≡ l) × ResetFits a
next_line_is most ds l (Latched a) le h = (a, refl, h.0, h.1)
next_line_is most ds l (Output k) le h = absurd h
next_line_is most ds l (Input k) le h = absurd h
next_line_is most ds l (Gate a) le h = absurd h

pair_is : (most : ℕ) (ds : List ℕ) (l : ℕ) (p : Part) → l ≤ most → PartFits most ds (PairOf l) p → (a : AigAnd) × (p ≡ Gate a) × (a.literal ≡ l) × SidesFit most a
pair_is most ds l (Gate a) le h = let b : a.first ≤ l = h.1.0 in let c : a.second ≤ l = h.1.1 in (a, refl, h.0, (omega arith, omega arith))
pair_is most ds l (Output k) le h = absurd h
pair_is most ds l (Input k) le h = absurd h
pair_is most ds l (Latched a) le h = absurd h

none_left : (most : ℕ) (ds : List ℕ) (ps : List Part) → AllFit most ds [] ps → ps ≡ []
none_left most ds [] h = refl
none_left most ds (p ∷ ps) h = absurd h

module _ {X : Type 0} (f : X → Part) where
  skip : {A : Type 0} (proj : List Part → List A) → ((x : X) (ps : List Part) → proj (f x ∷ ps) ≡ proj ps) → (xs : List X) (ps : List Part) → proj (map f xs ++ ps) ≡ proj ps
  skip proj h [] ps = refl
  skip proj h (x ∷ xs) ps = h x (map f xs ++ ps) ∙ skip proj h xs ps

  keep : (proj : List Part → List X) → ((x : X) (ps : List Part) → proj (f x ∷ ps) ≡ x ∷ proj ps) → (xs : List X) (ps : List Part) → proj (map f xs ++ ps) ≡ xs ++ proj ps
  keep proj h [] ps = refl
  keep proj h (x ∷ xs) ps = h x (map f xs ++ ps) ∙ ap (λ (l : List X). x ∷ l) (keep proj h xs ps)

new_numbers : (most v n : ℕ) (ds : List ℕ) → 1 ≤ v → 2 * (v + n) ≤ most + 2 → AllBelow (2 * v) ds → NewOnes most ds (literals_from v n)
new_numbers most v zero ds some few b = tt
new_numbers most v (suc n) ds some few b = (may_define_next most v ds (2 * v) refl some (omega arith) b, new_numbers most (v + 1) n (2 * v ∷ ds) (omega arith) (omega arith) (omega arith, below_less (2 * v) (2 * (v + 1)) ds (omega arith) b))

-- What a file is that is spelled: its definitions are new one behind the other, its right sides may be read.
pub record IsSound (most : ℕ) (inputs : List ℕ) (latches : List AigLatch) (ands : List AigAnd) : Type 0 where
  pub new : NewOnes most [] (inputs ++ (map latch_literal latches ++ map and_literal ands))
  pub sides : AllByRecursion (SidesFit most) ands
  pub resets : AllByRecursion ResetFits latches

-- the parts of a whole body
abbrev body_parts : List ℕ → List AigLatch → List ℕ → List AigAnd → List Part
body_parts is ls os gs = map Input is ++ (map Latched ls ++ (map Output os ++ (map Gate gs ++ [])))

module _ (is : List ℕ) (ls : List AigLatch) (os : List ℕ) (gs : List AigAnd) where
  inputs_of_body : inputs_in (body_parts is ls os gs) ≡ is
  inputs_of_body =
      keep Input inputs_in (λ x ts. refl) is (map Latched ls ++ (map Output os ++ (map Gate gs ++ [])))
      ∙ ap (λ (t : List ℕ). is ++ t) (skip Latched inputs_in (λ x ts. refl) ls (map Output os ++ (map Gate gs ++ [])) ∙ skip Output inputs_in (λ x ts. refl) os (map Gate gs ++ []) ∙ skip Gate inputs_in (λ x ts. refl) gs [])
      ∙ append-nil is

  latches_of_body : latches_in (body_parts is ls os gs) ≡ ls
  latches_of_body =
      skip Input latches_in (λ x ts. refl) is (map Latched ls ++ (map Output os ++ (map Gate gs ++ [])))
      ∙ keep Latched latches_in (λ x ts. refl) ls (map Output os ++ (map Gate gs ++ []))
      ∙ ap (λ (t : List AigLatch). ls ++ t) (skip Output latches_in (λ x ts. refl) os (map Gate gs ++ []) ∙ skip Gate latches_in (λ x ts. refl) gs [])
      ∙ append-nil ls

  ands_of_body : ands_in (body_parts is ls os gs) ≡ gs
  ands_of_body =
      skip Input ands_in (λ x ts. refl) is (map Latched ls ++ (map Output os ++ (map Gate gs ++ [])))
      ∙ skip Latched ands_in (λ x ts. refl) ls (map Output os ++ (map Gate gs ++ []))
      ∙ skip Output ands_in (λ x ts. refl) os (map Gate gs ++ [])
      ∙ keep Gate ands_in (λ x ts. refl) gs []
      ∙ append-nil gs

  body_cut : (ps qs rs ts us : List Part) → ps ≡ map Input is ++ qs → qs ≡ map Latched ls ++ rs → rs ≡ map Output os ++ ts → ts ≡ map Gate gs ++ us → us ≡ [] → ps ≡ body_parts is ls os gs
  body_cut ps qs rs ts us p q r t u = cc

ascii_sound : (most i l o a : ℕ) (ps : List Part) → AllFit most [] (replicate i InputLine ++ (replicate l LatchLine ++ (replicate o OutputLine ++ replicate a AndLine))) ps → IsSound most (inputs_in ps) (latches_in ps) (ands_in ps)
ascii_sound most i l o a ps h =
    let p = listed most Input (λ (k : ℕ). k) (λ (k : ℕ). true ≡ true) InputLine (λ ds x. refl) (input_is most) i (replicate l LatchLine ++ (replicate o OutputLine ++ replicate a AndLine)) [] ps h in
    let q = listed most Latched latch_literal ResetFits LatchLine (λ ds x. refl) (latch_line_is most) l (replicate o OutputLine ++ replicate a AndLine) (onto (map (λ (k : ℕ). k) p.xs) []) p.rest p.next in
    let last : List ℕ = onto (map latch_literal q.xs) (onto (map (λ (k : ℕ). k) p.xs) []) in
    let r = outputs_listed most o (replicate a AndLine) last q.rest q.next in
    let s = listed most Gate and_literal (SidesFit most) AndLine (λ ds x. refl) (and_line_is most) a [] last r.rest (subst (λ (ws : List Wanted). AllFit most last ws r.rest) (sym (append-nil (replicate a AndLine))) r.next) in
    let none = none_left most (onto (map and_literal s.xs) last) s.rest s.next in
    ascii_from most p.xs q.xs r.xs s.xs ps (body_cut p.xs q.xs r.xs s.xs ps p.rest q.rest r.rest s.rest p.are q.are r.are s.are none) p.new q.new s.new s.good q.good
  where
    ascii_from : (most : ℕ) (is : List ℕ) (ls : List AigLatch) (os : List ℕ) (gs : List AigAnd) (ps : List Part) → ps ≡ body_parts is ls os gs
        → NewOnes most [] (map (λ (k : ℕ). k) is) → NewOnes most (onto (map (λ (k : ℕ). k) is) []) (map latch_literal ls) → NewOnes most (onto (map latch_literal ls) (onto (map (λ (k : ℕ). k) is) [])) (map and_literal gs)
        → AllByRecursion (SidesFit most) gs → AllByRecursion ResetFits ls → IsSound most (inputs_in ps) (latches_in ps) (ands_in ps)
    ascii_from most is ls os gs ps e x y z good fit =
        let inputs : inputs_in ps ≡ map (λ (k : ℕ). k) is = ap inputs_in e ∙ inputs_of_body is ls os gs ∙ sym (map-id is) in
        let latches : latches_in ps ≡ ls = ap latches_in e ∙ latches_of_body is ls os gs in
        let ands : ands_in ps ≡ gs = ap ands_in e ∙ ands_of_body is ls os gs in
        record {
          new = subst (NewOnes most []) (sym (ap₂ (λ (u v : List ℕ). u ++ v) inputs (ap₂ (λ (u : List AigLatch) (v : List AigAnd). map latch_literal u ++ map and_literal v) latches ands)))
              (new_append most [] (map (λ (k : ℕ). k) is) (map latch_literal ls ++ map and_literal gs) x (new_append most (onto (map (λ (k : ℕ). k) is) []) (map latch_literal ls) (map and_literal gs) y z));
          sides = subst (AllByRecursion (SidesFit most)) (sym ands) good;
          resets = subst (AllByRecursion ResetFits) (sym latches) fit;
        }

binary_sound : (most i l o a : ℕ) (ps : List Part) → 2 * (i + l + a) ≤ most → AllFit most [] (map NextLine (literals_from (i + 1) l) ++ (replicate o OutputLine ++ map PairOf (literals_from (i + l + 1) a))) ps → IsSound most (literals_from 1 i) (latches_in ps) (ands_in ps)
binary_sound most i l o a ps few h =
    let q = in_numbers most Latched latch_literal ResetFits NextLine (next_line_is most) (i + 1) l (replicate o OutputLine ++ map PairOf (literals_from (i + l + 1) a)) [] ps (omega arith) h in
    let r = outputs_listed most o (map PairOf (literals_from (i + l + 1) a)) q.later q.rest q.next in
    let s = in_numbers most Gate and_literal (SidesFit most) PairOf (pair_is most) (i + l + 1) a [] q.later r.rest (omega arith) (subst (λ (ws : List Wanted). AllFit most q.later ws r.rest) (sym (append-nil (map PairOf (literals_from (i + l + 1) a)))) r.next) in
    let none = none_left most s.later s.rest s.next in
    binary_from q.xs r.xs s.xs (body_cut [] q.xs r.xs s.xs ps ps q.rest r.rest s.rest refl q.are r.are s.are none) q.literals s.literals s.good q.good
  where
    binary_from : (ls : List AigLatch) (os : List ℕ) (gs : List AigAnd) → ps ≡ body_parts [] ls os gs → map latch_literal ls ≡ literals_from (i + 1) l → map and_literal gs ≡ literals_from (i + l + 1) a
        → AllByRecursion (SidesFit most) gs → AllByRecursion ResetFits ls → IsSound most (literals_from 1 i) (latches_in ps) (ands_in ps)
    binary_from ls os gs e x y good fit =
        let latches : latches_in ps ≡ ls = ap latches_in e ∙ latches_of_body [] ls os gs in
        let ands : ands_in ps ≡ gs = ap ands_in e ∙ ands_of_body [] ls os gs in
        let defined : literals_from 1 i ++ (map latch_literal (latches_in ps) ++ map and_literal (ands_in ps)) ≡ literals_from 1 (i + (l + a)) =
        ap (λ (t : List ℕ). literals_from 1 i ++ t) (
        ap₂ (λ (u : List AigLatch) (v : List AigAnd). map latch_literal u ++ map and_literal v) latches ands
        ∙ ap₂ (λ (u v : List ℕ). u ++ v) (x ∙ ap (λ (k : ℕ). literals_from k l) (let t : i + 1 ≡ 1 + i = omega arith in t)) (y ∙ ap (λ (k : ℕ). literals_from k a) (let t : i + l + 1 ≡ 1 + i + l = omega arith in t))
        ∙ literals-append (1 + i) l a)
        ∙ literals-append 1 i (l + a) in
        record {
          new = subst (NewOnes most []) (sym defined) (new_numbers most 1 (i + (l + a)) [] (omega arith) (omega arith) tt);
          sides = subst (AllByRecursion (SidesFit most)) (sym ands) good;
          resets = subst (AllByRecursion ResetFits) (sym latches) fit;
        }

-- a whole file

abbrev HeaderFits : files.Header → Type 0
HeaderFits h = (h.variables ≤ most_variables) × (h.inputs + h.latches + h.ands ≤ h.variables) × ((all_outputs h) ≤ most_variables)

enough_for : (ascii : Bool) (variables defined : ℕ) → are_enough ascii variables defined ≡ true → defined ≤ variables
enough_for true variables defined e = leb-true defined variables e
enough_for false variables defined e = let q = eqb-true defined variables e in omega arith

fits_header : (h : files.Header) → fits_numbers h ≡ true → HeaderFits h
fits_header h e =
    let p = and_parts (list_all (λ n. nat_le n most_variables) (h.variables ∷ h.inputs ∷ h.latches ∷ all_outputs h ∷ h.ands ∷ [])) (are_enough h.ascii h.variables (h.inputs + h.latches + h.ands)) e in
    let q = and_parts (nat_le h.variables most_variables) (list_all (λ n. nat_le n most_variables) (h.inputs ∷ h.latches ∷ all_outputs h ∷ h.ands ∷ [])) p.0 in
    let x = and_parts (nat_le h.inputs most_variables) (list_all (λ n. nat_le n most_variables) (h.latches ∷ all_outputs h ∷ h.ands ∷ [])) q.1 in
    let y = and_parts (nat_le h.latches most_variables) (list_all (λ n. nat_le n most_variables) (all_outputs h ∷ h.ands ∷ [])) x.1 in
    let z = and_parts (nat_le (all_outputs h) most_variables) (list_all (λ n. nat_le n most_variables) (h.ands ∷ [])) y.1 in
    (leb-true h.variables most_variables q.0, enough_for h.ascii h.variables (h.inputs + h.latches + h.ands) p.1, leb-true (all_outputs h) most_variables z.0)

ok_if : (b : Bool) (h k : files.Header) (f : AigFault) → Path (Result files.Header AigFault) (cond b (Ok h) (Err f)) (Ok k) → h ≡ k
ok_if true h k f e = cc
ok_if false h k f e = absurd (cc)

err_if : (b : Bool) (h : files.Header) (f g : AigFault) → Path (Result files.Header AigFault) (cond b (Ok h) (Err f)) (Err g) → f ≡ g
err_if true h f g e = absurd (cc)
err_if false h f g e = cc

-- what is taken is the first line that is judged
taken_is : (properties : Bool) (h k : files.Header) → taken_by properties h ≡ Ok k → h ≡ k
taken_is false h k e = ok_if (are_none h.further) h k faults.Header e
taken_is true h k e = ok_if (h.further.justice == 0 && h.further.fairness == 0) h k faults.Justice e

judged_fits : (properties : Bool) (o : Option files.Header) (h : files.Header) → judged properties o ≡ Ok h → HeaderFits h
judged_fits properties None h e = absurd (cc)
judged_fits properties (Some k) h e = elim (cases_Bool (fits_numbers k)) [
  | inl t ↦ subst HeaderFits (taken_is properties k h (sym (cond-true (fits_numbers k) (taken_by properties k) (Err faults.Header) t) ∙ e)) (fits_header k t)
  | inr f ↦ absurd (no_header faults.Header h (sym (cond-false (fits_numbers k) (taken_by properties k) (Err faults.Header) f) ∙ e))
]
  where
    no_header : (f : AigFault) (x : files.Header) → Path (Result files.Header AigFault) (Err f) (Ok x) → ⊥
    no_header f x q = cc

sound_by : (ascii : Bool) (h : files.Header) (ps : List Part) → HeaderFits h → AllFit (2 * h.variables + 1) [] (wanted_by ascii h) ps → IsSound (2 * h.variables + 1) (if ascii then inputs_in ps else literals_from 1 h.inputs) (latches_in ps) (ands_in ps)
sound_by true h ps fits all = ascii_sound (2 * h.variables + 1) h.inputs h.latches (all_outputs h) h.ands ps all
sound_by false h ps fits all = let e : h.inputs + h.latches + h.ands ≤ h.variables = fits.1 in binary_sound (2 * h.variables + 1) h.inputs h.latches (all_outputs h) h.ands ps (omega arith) all

-- how many there are of a kind: 0 for inputs, 1 for latches, 2 for outputs, 3 for ANDs

abbrev kind_of : Wanted → ℕ
kind_of InputLine = 0
kind_of LatchLine = 1
kind_of (NextLine own) = 1
kind_of OutputLine = 2
kind_of AndLine = 3
kind_of (PairOf l) = 3

abbrev kind_in : Part → ℕ
kind_in (Input l) = 0
kind_in (Latched a) = 1
kind_in (Output l) = 2
kind_in (Gate a) = 3

abbrev count : ℕ → List ℕ → ℕ
count k [] = 0
count k (n ∷ ns) = (if n == k then 1 else 0) + count k ns

same_kind : (most : ℕ) (ds : List ℕ) (w : Wanted) (p : Part) → PartFits most ds w p → kind_in p ≡ kind_of w
same_kind most ds InputLine (Input l) h = refl
same_kind most ds LatchLine (Latched a) h = refl
same_kind most ds (NextLine own) (Latched a) h = refl
same_kind most ds OutputLine (Output l) h = refl
same_kind most ds AndLine (Gate a) h = refl
same_kind most ds (PairOf l) (Gate a) h = refl
same_kind most ds w p h = absurd h

same_kinds : (most : ℕ) (ds : List ℕ) (ws : List Wanted) (ps : List Part) → AllFit most ds ws ps → map kind_in ps ≡ map kind_of ws
same_kinds most ds [] [] h = refl
same_kinds most ds [] (p ∷ ps) h = absurd h
same_kinds most ds (w ∷ ws) [] h = absurd h
same_kinds most ds (w ∷ ws) (p ∷ ps) h = ap₂ (λ (k : ℕ) (ks : List ℕ). k ∷ ks) (same_kind most ds w p h.0) (same_kinds most (defined_by ds p) ws ps h.1)

many_inputs : (ps : List Part) → length (inputs_in ps) ≡ count 0 (map kind_in ps)
many_inputs [] = refl
many_inputs (Input l ∷ ps) = let e = many_inputs ps in omega arith
many_inputs (Latched a ∷ ps) = let e = many_inputs ps in omega arith
many_inputs (Output l ∷ ps) = let e = many_inputs ps in omega arith
many_inputs (Gate a ∷ ps) = let e = many_inputs ps in omega arith

many_latches : (ps : List Part) → length (latches_in ps) ≡ count 1 (map kind_in ps)
many_latches [] = refl
many_latches (Input l ∷ ps) = let e = many_latches ps in omega arith
many_latches (Latched a ∷ ps) = let e = many_latches ps in omega arith
many_latches (Output l ∷ ps) = let e = many_latches ps in omega arith
many_latches (Gate a ∷ ps) = let e = many_latches ps in omega arith

many_outputs : (ps : List Part) → length (outputs_in ps) ≡ count 2 (map kind_in ps)
many_outputs [] = refl
many_outputs (Input l ∷ ps) = let e = many_outputs ps in omega arith
many_outputs (Latched a ∷ ps) = let e = many_outputs ps in omega arith
many_outputs (Output l ∷ ps) = let e = many_outputs ps in omega arith
many_outputs (Gate a ∷ ps) = let e = many_outputs ps in omega arith

many_ands : (ps : List Part) → length (ands_in ps) ≡ count 3 (map kind_in ps)
many_ands [] = refl
many_ands (Input l ∷ ps) = let e = many_ands ps in omega arith
many_ands (Latched a ∷ ps) = let e = many_ands ps in omega arith
many_ands (Output l ∷ ps) = let e = many_ands ps in omega arith
many_ands (Gate a ∷ ps) = let e = many_ands ps in omega arith

count-append : (k : ℕ) (xs ys : List Wanted) → count k (map kind_of (xs ++ ys)) ≡ count k (map kind_of xs) + count k (map kind_of ys)
count-append k [] ys = omega arith
count-append k (x ∷ xs) ys = let e = count-append k xs ys in omega arith

none_either : (b : Bool) → ◌≡◌ {A = ℕ} 0 (if b then 0 else 0)
none_either true = refl
none_either false = refl

one_more : (b : Bool) (n m : ℕ) → m ≡ (if b then n else 0) → (if b then 1 else 0) + m ≡ (if b then suc n else 0)
one_more true n m e = omega arith
one_more false n m e = omega arith

count_same : (k n : ℕ) (w : Wanted) → count k (map kind_of (replicate n w)) ≡ (if kind_of w == k then n else 0)
count_same k zero w = none_either (kind_of w == k)
count_same k (suc n) w = one_more (kind_of w == k) n (count k (map kind_of (replicate n w))) (count_same k n w)

count_nexts : (k v n : ℕ) → count k (map kind_of (map NextLine (literals_from v n))) ≡ (if 1 == k then n else 0)
count_nexts k v zero = none_either (1 == k)
count_nexts k v (suc n) = one_more (1 == k) n (count k (map kind_of (map NextLine (literals_from (v + 1) n)))) (count_nexts k (v + 1) n)

count_pairs : (k v n : ℕ) → count k (map kind_of (map PairOf (literals_from v n))) ≡ (if 3 == k then n else 0)
count_pairs k v zero = none_either (3 == k)
count_pairs k v (suc n) = one_more (3 == k) n (count k (map kind_of (map PairOf (literals_from (v + 1) n)))) (count_pairs k (v + 1) n)

count_ascii : (k : ℕ) (h : files.Header) → count k (map kind_of (wanted_by true h)) ≡ (if 0 == k then h.inputs else 0) + ((if 1 == k then h.latches else 0) + ((if 2 == k then (all_outputs h) else 0) + (if 3 == k then h.ands else 0)))
count_ascii k h =
    let a = count-append k (replicate h.inputs InputLine) (replicate h.latches LatchLine ++ (replicate (all_outputs h) OutputLine ++ replicate h.ands AndLine)) in
    let b = count-append k (replicate h.latches LatchLine) (replicate (all_outputs h) OutputLine ++ replicate h.ands AndLine) in
    let c = count-append k (replicate (all_outputs h) OutputLine) (replicate h.ands AndLine) in
    let p = count_same k h.inputs InputLine in
    let q = count_same k h.latches LatchLine in
    let r = count_same k (all_outputs h) OutputLine in
    let s = count_same k h.ands AndLine in
    a ∙ ap₂ (λ (x y : ℕ). x + y) p (b ∙ ap₂ (λ (x y : ℕ). x + y) q (c ∙ ap₂ (λ (x y : ℕ). x + y) r s))

count_binary : (k : ℕ) (h : files.Header) → count k (map kind_of (wanted_by false h)) ≡ (if 1 == k then h.latches else 0) + ((if 2 == k then (all_outputs h) else 0) + (if 3 == k then h.ands else 0))
count_binary k h =
    let b = count-append k (map NextLine (literals_from (h.inputs + 1) h.latches)) (replicate (all_outputs h) OutputLine ++ map PairOf (literals_from (h.inputs + h.latches + 1) h.ands)) in
    let c = count-append k (replicate (all_outputs h) OutputLine) (map PairOf (literals_from (h.inputs + h.latches + 1) h.ands)) in
    b ∙ ap₂ (λ (x y : ℕ). x + y) (count_nexts k (h.inputs + 1) h.latches) (c ∙ ap₂ (λ (x y : ℕ). x + y) (count_same k (all_outputs h) OutputLine) (count_pairs k (h.inputs + h.latches + 1) h.ands))

-- There are as many of each as the first line says, which are few.
pub record IsFew (variables : ℕ) (inputs : List ℕ) (latches : List AigLatch) (outputs : List ℕ) (ands : List AigAnd) : Type 0 where
  pub defined : length inputs + length latches + length ands ≤ variables
  pub outputs_few : length outputs ≤ most_variables

few_by : (ascii : Bool) (h : files.Header) (ps : List Part) → HeaderFits h → AllFit (2 * h.variables + 1) [] (wanted_by ascii h) ps → IsFew h.variables (if ascii then inputs_in ps else literals_from 1 h.inputs) (latches_in ps) (outputs_in ps) (ands_in ps)
few_by true h ps fits all =
    let kinds = same_kinds (2 * h.variables + 1) [] (wanted_by true h) ps all in
    let i : length (inputs_in ps) ≡ h.inputs = many_inputs ps ∙ ap (count 0) kinds ∙ count_ascii 0 h ∙ (let e : h.inputs + (0 + (0 + 0)) ≡ h.inputs = omega arith in e) in
    let l : length (latches_in ps) ≡ h.latches = many_latches ps ∙ ap (count 1) kinds ∙ count_ascii 1 h ∙ (let e : 0 + (h.latches + (0 + 0)) ≡ h.latches = omega arith in e) in
    let o : length (outputs_in ps) ≡ (all_outputs h) = many_outputs ps ∙ ap (count 2) kinds ∙ count_ascii 2 h ∙ (let e : 0 + (0 + ((all_outputs h) + 0)) ≡ (all_outputs h) = omega arith in e) in
    let a : length (ands_in ps) ≡ h.ands = many_ands ps ∙ ap (count 3) kinds ∙ count_ascii 3 h ∙ (let e : 0 + (0 + (0 + h.ands)) ≡ h.ands = omega arith in e) in
    let d : h.inputs + h.latches + h.ands ≤ h.variables = fits.1 in
    let u : (all_outputs h) ≤ most_variables = fits.2 in
    record { defined = omega arith; outputs_few = omega arith }
few_by false h ps fits all =
    let kinds = same_kinds (2 * h.variables + 1) [] (wanted_by false h) ps all in
    let i : length (literals_from 1 h.inputs) ≡ h.inputs = literals_count 1 h.inputs in
    let l : length (latches_in ps) ≡ h.latches = many_latches ps ∙ ap (count 1) kinds ∙ count_binary 1 h ∙ (let e : h.latches + (0 + 0) ≡ h.latches = omega arith in e) in
    let o : length (outputs_in ps) ≡ (all_outputs h) = many_outputs ps ∙ ap (count 2) kinds ∙ count_binary 2 h ∙ (let e : 0 + ((all_outputs h) + 0) ≡ (all_outputs h) = omega arith in e) in
    let a : length (ands_in ps) ≡ h.ands = many_ands ps ∙ ap (count 3) kinds ∙ count_binary 3 h ∙ (let e : 0 + (0 + h.ands) ≡ h.ands = omega arith in e) in
    let d : h.inputs + h.latches + h.ands ≤ h.variables = fits.1 in
    let u : (all_outputs h) ≤ most_variables = fits.2 in
    record { defined = omega arith; outputs_few = omega arith }

-- What is so of each file that is said.
abbrev pub SoundFile : Aig → Type 0
SoundFile g = (g.variables ≤ most_variables) × IsSound (2 * g.variables + 1) g.inputs g.latches g.ands × IsFew g.variables g.inputs g.latches g.outputs g.ands

pub spelled_sound : (properties : Bool) (bytes : List ℕ) (g : Aig) → spelled properties bytes ≡ Ok g → SoundFile g
spelled_sound properties bytes g e =
    let total : ℕ = length bytes in
    let rest : List ℕ = behind 10 bytes in
    let a = ok_of (header_of properties bytes) (spelled_by total rest) g e in
    let h : files.Header = a.0 in
    let b = ok_of (parts_of total (2 * h.variables + 1) [] (wanted_by h.ascii h) rest) (λ (got : List Part × List ℕ). and_then (symbols_of h [] (lines_at (total - length got.1) got.1)) (λ (ss : List files.Symbol). Ok (aig_by h got.0 ss))) g a.2 in
    let c = ok_of (symbols_of h [] (lines_at (total - length b.0.1) b.0.1)) (λ (ss : List files.Symbol). Ok (aig_by h b.0.0 ss)) g b.2 in
    let d : Path (Result Aig AigFault) (Ok (aig_by h b.0.0 c.0)) (Ok g) = c.2 in
    let is : aig_by h b.0.0 c.0 ≡ g = cc in
    let fits : HeaderFits h = judged_fits properties (header_in (words_of (first_line bytes))) h a.1 in
    let all = parts_fit total (2 * h.variables + 1) [] (wanted_by h.ascii h) rest b.0 b.1 in
    subst SoundFile is (fits.0, sound_by h.ascii h b.0.0 fits all, few_by h.ascii h b.0.0 fits all)

-- faults

-- the fault is one of a first line, a line, a pair or a symbol
abbrev pub IsTextFault : AigFault → Type 0
IsTextFault Header = ⊤
IsTextFault Justice = ⊤
IsTextFault (Line at) = ⊤
IsTextFault (Pair at) = ⊤
IsTextFault (Symbol at) = ⊤
IsTextFault (Undefined v) = ⊥
IsTextFault (Cycle vs) = ⊥
IsTextFault (TooManySources n) = ⊥
IsTextFault (TooManyGates n) = ⊥
IsTextFault NoMemory = ⊥

fault_some : {A B : Type 0} (fault : AigFault) (o : Option A) (next : A → Result B AigFault) (f : AigFault) → if_some fault o next ≡ Err f → (fault ≡ f) ⊎ ((a : A) × (next a ≡ Err f))
fault_some fault None next f e = let q : fault ≡ f = cc in inl q
fault_some fault (Some a) next f e = inr (a, e)

fault_then : {A B : Type 0} (r : Result A AigFault) (next : A → Result B AigFault) (f : AigFault) → and_then r next ≡ Err f → (r ≡ Err f) ⊎ ((a : A) × (next a ≡ Err f))
fault_then (Ok a) next f e = inr (a, e)
fault_then (Err g) next f e = let q : g ≡ f = cc in inl (ap (λ (k : AigFault). Err k) q)

missed_text : (w : Wanted) (at : ℕ) → IsTextFault (missed w at)
missed_text InputLine at = tt
missed_text LatchLine at = tt
missed_text (NextLine own) at = tt
missed_text OutputLine at = tt
missed_text AndLine at = tt
missed_text (PairOf l) at = tt

parts_fault : (total most : ℕ) (ds : List ℕ) (ws : List Wanted) (bytes : List ℕ) (f : AigFault) → parts_of total most ds ws bytes ≡ Err f → IsTextFault f
parts_fault total most ds [] bytes f e = absurd (cc)
parts_fault total most ds (w ∷ ws) bytes f e =
    elim (fault_some (missed w (total - length bytes)) (taken most ds w bytes) (λ (g : Part × List ℕ). and_then (parts_of total most (defined_by ds g.0) ws g.1) (λ (r : List Part × List ℕ). Ok (g.0 ∷ r.0, r.1))) f e) [
      | inl q ↦ subst IsTextFault q (missed_text w (total - length bytes))
      | inr a ↦ elim (fault_then (parts_of total most (defined_by ds a.0.0) ws a.0.1) (λ (r : List Part × List ℕ). Ok (a.0.0 ∷ r.0, r.1)) f a.1) [
        | inl q ↦ parts_fault total most (defined_by ds a.0.0) ws a.0.1 f q
        | inr b ↦ absurd (no_fault (a.0.0 ∷ b.0.0, b.0.1) f b.1)
      ]
    ]
  where
    no_fault : (x : List Part × List ℕ) (g : AigFault) → Path (Result (List Part × List ℕ) AigFault) (Ok x) (Err g) → ⊥
    no_fault x g q = cc

no_symbols_fault : (x : List files.Symbol) (g : AigFault) → Path (Result (List files.Symbol) AigFault) (Ok x) (Err g) → ⊥
no_symbols_fault x g q = cc

symbols_fault : (h : files.Header) (given : List files.Symbol) (lines : List texts.Line) (f : AigFault) → symbols_of h given lines ≡ Err f → IsTextFault f
symbols_fault h given [] f e = absurd (no_symbols_fault [] f e)
symbols_fault h given (line ∷ lines) f e =
    let rest : Result (List files.Symbol) AigFault = if_some (faults.Symbol line.at) (symbol_of h given line.text) (λ (s : files.Symbol). and_then (symbols_of h (s ∷ given) lines) (λ (ss : List files.Symbol). Ok (s ∷ ss))) in
    elim (cases_Bool (begins_comments line.text)) [
      | inl t ↦ absurd (no_symbols_fault [] f (sym (cond-true (begins_comments line.text) (Ok []) rest t) ∙ e))
      | inr t ↦ elim (fault_some (faults.Symbol line.at) (symbol_of h given line.text) (λ (s : files.Symbol). and_then (symbols_of h (s ∷ given) lines) (λ (ss : List files.Symbol). Ok (s ∷ ss))) f (sym (cond-false (begins_comments line.text) (Ok []) rest t) ∙ e)) [
        | inl q ↦ subst IsTextFault q tt
        | inr a ↦ elim (fault_then (symbols_of h (a.0 ∷ given) lines) (λ (ss : List files.Symbol). Ok (a.0 ∷ ss)) f a.1) [
          | inl q ↦ symbols_fault h (a.0 ∷ given) lines f q
          | inr b ↦ absurd (no_symbols_fault (a.0 ∷ b.0) f b.1)
        ]
      ]
    ]

taken_fault : (properties : Bool) (h : files.Header) (f : AigFault) → taken_by properties h ≡ Err f → IsTextFault f
taken_fault false h f e = subst IsTextFault (err_if (are_none h.further) h faults.Header f e) tt
taken_fault true h f e = subst IsTextFault (err_if (h.further.justice == 0 && h.further.fairness == 0) h faults.Justice f e) tt

judged_fault : (properties : Bool) (o : Option files.Header) (f : AigFault) → judged properties o ≡ Err f → IsTextFault f
judged_fault properties None f e = let q : faults.Header ≡ f = cc in subst IsTextFault q tt
judged_fault properties (Some h) f e = elim (cases_Bool (fits_numbers h)) [
  | inl t ↦ taken_fault properties h f (sym (cond-true (fits_numbers h) (taken_by properties h) (Err faults.Header) t) ∙ e)
  | inr t ↦ subst IsTextFault (same_fault faults.Header f (sym (cond-false (fits_numbers h) (taken_by properties h) (Err faults.Header) t) ∙ e)) tt
]
  where
    same_fault : (x y : AigFault) → Path (Result files.Header AigFault) (Err x) (Err y) → x ≡ y
    same_fault x y q = cc

-- A fault of what bytes say is one of their text.
pub spelled_fault : (properties : Bool) (bytes : List ℕ) (f : AigFault) → spelled properties bytes ≡ Err f → IsTextFault f
spelled_fault properties bytes f e =
    let total : ℕ = length bytes in
    let rest : List ℕ = behind 10 bytes in
    elim (fault_then (header_of properties bytes) (spelled_by total rest) f e) [
      | inl q ↦ judged_fault properties (header_in (words_of (first_line bytes))) f q
      | inr a ↦
          let h : files.Header = a.0 in
          elim (fault_then (parts_of total (2 * h.variables + 1) [] (wanted_by h.ascii h) rest) (λ (got : List Part × List ℕ). and_then (symbols_of h [] (lines_at (total - length got.1) got.1)) (λ (ss : List files.Symbol). Ok (aig_by h got.0 ss))) f a.1) [
            | inl q ↦ parts_fault total (2 * h.variables + 1) [] (wanted_by h.ascii h) rest f q
            | inr b ↦ elim (fault_then (symbols_of h [] (lines_at (total - length b.0.1) b.0.1)) (λ (ss : List files.Symbol). Ok (aig_by h b.0.0 ss)) f b.1) [
              | inl q ↦ symbols_fault h [] (lines_at (total - length b.0.1) b.0.1) f q
              | inr d ↦ absurd (no_file (aig_by h b.0.0 d.0) f d.1)
            ]
          ]
    ]
  where
    no_file : (x : Aig) (g : AigFault) → Path (Result Aig AigFault) (Ok x) (Err g) → ⊥
    no_file x g q = cc
