-- The parts of a body that is written are those that were written, in both formats.
use Rattle.std.specs.Prelude.{⊤}
use Rattle.std.specs.List.{list_all}
use Rattle.std.proofs.Common.{◌≡◌, ℕ, suc, ◌+◌, ◌-◌, ◌*◌, ◌%◌, ◌<◌, ◌≤◌, ◌==◌, ◌&&◌, not, nat_le, nat_lt, nat_eq, Bool, true, false, List, [], ◌∷◌, ◌++◌, length, map, flat_map, replicate, option_map, Option, Some, None, Result, Ok, refl, sym, ap, ap₂, ◌∙◌, subst, inl, inr, ◌⊎◌, append_assoc, append-nil, map-id, arith, lt-ltb, le-leb, leb-true, ltb-true, eqb-true, eq-eqb, ne_eqb}
use Rattle.std.proofs.lemmas.Bool.{cases_Bool, cond-true, cond-false, and_from, and_parts, or_cases, or_from, not_from_false}
use Rattle.syn_lists.specs.Numbers.{has_number}
use Rattle.syn_aiger_files.specs.declared.fault.AigFault.{AigFault}
use Rattle.syn_aiger_files.specs.Texts.{behind, delta, numbers_on}
use Rattle.syn_aiger_files.specs.Files.{Aig, AigAnd, AigLatch, Header, all_outputs, and_literal, latch_literal}
use Rattle.syn_aiger_files.specs.Literals.{literals_from}
use Rattle.syn_aiger_files.specs.Parts.{AndLine, Gate, Input, InputLine, LatchLine, Latched, NextLine, Output, OutputLine, PairOf, Part, Wanted, ands_in, and_then, defined_by, if_some, inputs_in, is_reset, latch_by, latches_in, may_define, may_read, missed, outputs_in, pair_behind, pair_by, parts_of, said_by, taken, wanted_by}
use Rattle.syn_aiger_files.specs.Printed.{ascii_and, ascii_latch, binary_and, binary_latch, body_of, grouped, number_line, reset_of, single}
use Rattle.syn_aiger_files.specs.Laws.{IsNormal, and_is_normal, latch_is_normal}
use Rattle.syn_aiger_files.specs.Spelling.{most_variables}
use Rattle.syn_aiger_files.proofs.PrintedNumbers.{AllShort, IsShort, behind_numbers, delta_of, numbers_on_line}

-- What is wanted, the bytes that say it, and what they say.
pub record Entry : Type 0 where
  pub wanted : Wanted
  pub text : List ℕ
  pub part : Part

abbrev pub entry_wanted : Entry → Wanted
entry_wanted e = e.wanted

abbrev pub entry_text : Entry → List ℕ
entry_text e = e.text

abbrev pub entry_part : Entry → Part
entry_part e = e.part

-- the bytes of an entry are taken as its part
abbrev pub Takes : ℕ → List ℕ → Entry → Type 0
Takes most defined e = (rest : List ℕ) → taken most defined e.wanted (e.text ++ rest) ≡ Some (e.part, rest)

abbrev pub TakeAll : ℕ → List ℕ → List Entry → Type 0
TakeAll most defined [] = ⊤
TakeAll most defined (e ∷ es) = Takes most defined e × TakeAll most (defined_by defined e.part) es

pub parts_of_entries : (total most : ℕ) (defined : List ℕ) (es : List Entry) (rest : List ℕ) → TakeAll most defined es → parts_of total most defined (map entry_wanted es) (flat_map entry_text es ++ rest) ≡ Ok (map entry_part es, rest)
parts_of_entries total most defined [] rest h = refl
parts_of_entries total most defined (e ∷ es) rest h =
    let more : List ℕ = flat_map entry_text es ++ rest in
    let next : Part × List ℕ → Result (List Part × List ℕ) AigFault = λ (got : Part × List ℕ). and_then (parts_of total most (defined_by defined got.0) (map entry_wanted es) got.1) (λ (r : List Part × List ℕ). Ok (got.0 ∷ r.0, r.1)) in
    ap (parts_of total most defined (map entry_wanted (e ∷ es))) (append_assoc e.text (flat_map entry_text es) rest)
    ∙ ap (λ (o : Option (Part × List ℕ)). if_some (missed e.wanted (total - length (e.text ++ more))) o next) (h.0 more)
    ∙ ap (λ (r : Result (List Part × List ℕ) AigFault). and_then r (λ (r : List Part × List ℕ). Ok (e.part ∷ r.0, r.1))) (parts_of_entries total most (defined_by defined e.part) es rest h.1)

-- the entries of a body

abbrev pub input_entry : ℕ → Entry
input_entry l = record { wanted = InputLine; text = single l; part = Input l }

abbrev pub latch_entry : AigLatch → Entry
latch_entry a = record { wanted = LatchLine; text = ascii_latch a; part = Latched a }

abbrev pub next_entry : AigLatch → Entry
next_entry a = record { wanted = NextLine a.literal; text = binary_latch a; part = Latched a }

abbrev pub output_entry : ℕ → Entry
output_entry l = record { wanted = OutputLine; text = single l; part = Output l }

abbrev pub and_entry : AigAnd → Entry
and_entry a = record { wanted = AndLine; text = ascii_and a; part = Gate a }

abbrev pub pair_entry : AigAnd → Entry
pair_entry a = record { wanted = PairOf a.literal; text = binary_and a; part = Gate a }

abbrev pub entries : Bool → Aig → List Entry
entries true g = map input_entry g.inputs ++ (map latch_entry g.latches ++ (map output_entry g.outputs ++ (map and_entry g.ands ++ [])))
entries false g = map next_entry g.latches ++ (map output_entry g.outputs ++ (map pair_entry g.ands ++ []))

-- what they want, their texts and their parts

module _ {X : Type 0} (f : X → Entry) where
  same_wanted : (w : Wanted) → ((x : X) → (f x).wanted ≡ w) → (xs : List X) (es : List Entry) → map entry_wanted (map f xs ++ es) ≡ replicate (length xs) w ++ map entry_wanted es
  same_wanted w h [] es = refl
  same_wanted w h (x ∷ xs) es = ap₂ (λ (a : Wanted) (l : List Wanted). a ∷ l) (h x) (same_wanted w h xs es)

  wanted_by_literal : (want : ℕ → Wanted) (literal : X → ℕ) → ((x : X) → (f x).wanted ≡ want (literal x)) → (xs : List X) (es : List Entry) → map entry_wanted (map f xs ++ es) ≡ map want (map literal xs) ++ map entry_wanted es
  wanted_by_literal want literal h [] es = refl
  wanted_by_literal want literal h (x ∷ xs) es = ap₂ (λ (a : Wanted) (l : List Wanted). a ∷ l) (h x) (wanted_by_literal want literal h xs es)

  texts_from : (text : X → List ℕ) → ((x : X) → (f x).text ≡ text x) → (xs : List X) (es : List Entry) → flat_map entry_text (map f xs ++ es) ≡ flat_map text xs ++ flat_map entry_text es
  texts_from text h [] es = refl
  texts_from text h (x ∷ xs) es = ap₂ (λ (a l : List ℕ). a ++ l) (h x) (texts_from text h xs es) ∙ sym (append_assoc (text x) (flat_map text xs) (flat_map entry_text es))

  skips : {A : Type 0} (proj : List Part → List A) → ((x : X) (ps : List Part) → proj ((f x).part ∷ ps) ≡ proj ps) → (xs : List X) (es : List Entry) → proj (map entry_part (map f xs ++ es)) ≡ proj (map entry_part es)
  skips proj h [] es = refl
  skips proj h (x ∷ xs) es = h x (map entry_part (map f xs ++ es)) ∙ skips proj h xs es

  keeps : (proj : List Part → List X) → ((x : X) (ps : List Part) → proj ((f x).part ∷ ps) ≡ x ∷ proj ps) → (xs : List X) (es : List Entry) → proj (map entry_part (map f xs ++ es)) ≡ xs ++ proj (map entry_part es)
  keeps proj h [] es = refl
  keeps proj h (x ∷ xs) es = h x (map entry_part (map f xs ++ es)) ∙ ap (λ (l : List X). x ∷ l) (keeps proj h xs es)

-- the first line of a file
abbrev pub header_for : Bool → Aig → Header
header_for ascii g = record { ascii = ascii; variables = g.variables; inputs = length g.inputs; latches = length g.latches; outputs = length g.outputs; ands = length g.ands; further = record { bad = 0; constraints = 0; justice = 0; fairness = 0 } }

-- it has no outputs but its own
pub outputs_for : (ascii : Bool) (g : Aig) → length g.outputs ≡ all_outputs (header_for ascii g)
outputs_for ascii g = omega arith

pub wanted_entries : (ascii : Bool) (g : Aig) → IsNormal g → map entry_wanted (entries ascii g) ≡ wanted_by ascii (header_for ascii g)
wanted_entries true g n =
    same_wanted input_entry InputLine (λ x. refl) g.inputs (map latch_entry g.latches ++ (map output_entry g.outputs ++ (map and_entry g.ands ++ [])))
    ∙ ap (λ (l : List Wanted). replicate (length g.inputs) InputLine ++ l) (
    same_wanted latch_entry LatchLine (λ x. refl) g.latches (map output_entry g.outputs ++ (map and_entry g.ands ++ []))
    ∙ ap (λ (l : List Wanted). replicate (length g.latches) LatchLine ++ l) (
    same_wanted output_entry OutputLine (λ x. refl) g.outputs (map and_entry g.ands ++ [])
    ∙ ap (λ (l : List Wanted). replicate (length g.outputs) OutputLine ++ l) (same_wanted and_entry AndLine (λ x. refl) g.ands [] ∙ append-nil (replicate (length g.ands) AndLine))))
    ∙ ap (λ (n : ℕ). replicate (length g.inputs) InputLine ++ (replicate (length g.latches) LatchLine ++ (replicate n OutputLine ++ replicate (length g.ands) AndLine))) (outputs_for true g)
wanted_entries false g n =
    wanted_by_literal next_entry NextLine latch_literal (λ x. refl) g.latches (map output_entry g.outputs ++ (map pair_entry g.ands ++ []))
    ∙ ap₂ (λ (k l : List Wanted). k ++ l) (ap (map NextLine) n.latches) (
    same_wanted output_entry OutputLine (λ x. refl) g.outputs (map pair_entry g.ands ++ [])
    ∙ ap (λ (l : List Wanted). replicate (length g.outputs) OutputLine ++ l) (wanted_by_literal pair_entry PairOf and_literal (λ x. refl) g.ands [] ∙ append-nil (map PairOf (map and_literal g.ands)) ∙ ap (map PairOf) n.ands))
    ∙ ap (λ (k : ℕ). map NextLine (literals_from (length g.inputs + 1) (length g.latches)) ++ (replicate k OutputLine ++ map PairOf (literals_from (length g.inputs + length g.latches + 1) (length g.ands)))) (outputs_for false g)

pub text_entries : (ascii : Bool) (g : Aig) → flat_map entry_text (entries ascii g) ≡ body_of ascii g
text_entries true g =
    texts_from input_entry single (λ x. refl) g.inputs (map latch_entry g.latches ++ (map output_entry g.outputs ++ (map and_entry g.ands ++ [])))
    ∙ ap (λ (l : List ℕ). flat_map single g.inputs ++ l) (
    texts_from latch_entry ascii_latch (λ x. refl) g.latches (map output_entry g.outputs ++ (map and_entry g.ands ++ []))
    ∙ ap (λ (l : List ℕ). flat_map ascii_latch g.latches ++ l) (
    texts_from output_entry single (λ x. refl) g.outputs (map and_entry g.ands ++ [])
    ∙ ap (λ (l : List ℕ). flat_map single g.outputs ++ l) (texts_from and_entry ascii_and (λ x. refl) g.ands [] ∙ append-nil (flat_map ascii_and g.ands))))
text_entries false g =
    texts_from next_entry binary_latch (λ x. refl) g.latches (map output_entry g.outputs ++ (map pair_entry g.ands ++ []))
    ∙ ap (λ (l : List ℕ). flat_map binary_latch g.latches ++ l) (
    texts_from output_entry single (λ x. refl) g.outputs (map pair_entry g.ands ++ [])
    ∙ ap (λ (l : List ℕ). flat_map single g.outputs ++ l) (texts_from pair_entry binary_and (λ x. refl) g.ands [] ∙ append-nil (flat_map binary_and g.ands)))

pub inputs_of_entries : (g : Aig) → inputs_in (map entry_part (entries true g)) ≡ g.inputs
inputs_of_entries g =
    keeps input_entry inputs_in (λ x ps. refl) g.inputs (map latch_entry g.latches ++ (map output_entry g.outputs ++ (map and_entry g.ands ++ [])))
    ∙ ap (λ (l : List ℕ). g.inputs ++ l) (
    skips latch_entry inputs_in (λ x ps. refl) g.latches (map output_entry g.outputs ++ (map and_entry g.ands ++ []))
    ∙ skips output_entry inputs_in (λ x ps. refl) g.outputs (map and_entry g.ands ++ [])
    ∙ skips and_entry inputs_in (λ x ps. refl) g.ands [])
    ∙ append-nil g.inputs

pub latches_of_entries : (ascii : Bool) (g : Aig) → latches_in (map entry_part (entries ascii g)) ≡ g.latches
latches_of_entries true g =
    skips input_entry latches_in (λ x ps. refl) g.inputs (map latch_entry g.latches ++ (map output_entry g.outputs ++ (map and_entry g.ands ++ [])))
    ∙ keeps latch_entry latches_in (λ x ps. refl) g.latches (map output_entry g.outputs ++ (map and_entry g.ands ++ []))
    ∙ ap (λ (l : List AigLatch). g.latches ++ l) (
    skips output_entry latches_in (λ x ps. refl) g.outputs (map and_entry g.ands ++ [])
    ∙ skips and_entry latches_in (λ x ps. refl) g.ands [])
    ∙ append-nil g.latches
latches_of_entries false g =
    keeps next_entry latches_in (λ x ps. refl) g.latches (map output_entry g.outputs ++ (map pair_entry g.ands ++ []))
    ∙ ap (λ (l : List AigLatch). g.latches ++ l) (
    skips output_entry latches_in (λ x ps. refl) g.outputs (map pair_entry g.ands ++ [])
    ∙ skips pair_entry latches_in (λ x ps. refl) g.ands [])
    ∙ append-nil g.latches

pub outputs_of_entries : (ascii : Bool) (g : Aig) → outputs_in (map entry_part (entries ascii g)) ≡ g.outputs
outputs_of_entries true g =
    skips input_entry outputs_in (λ x ps. refl) g.inputs (map latch_entry g.latches ++ (map output_entry g.outputs ++ (map and_entry g.ands ++ [])))
    ∙ skips latch_entry outputs_in (λ x ps. refl) g.latches (map output_entry g.outputs ++ (map and_entry g.ands ++ []))
    ∙ keeps output_entry outputs_in (λ x ps. refl) g.outputs (map and_entry g.ands ++ [])
    ∙ ap (λ (l : List ℕ). g.outputs ++ l) (skips and_entry outputs_in (λ x ps. refl) g.ands [])
    ∙ append-nil g.outputs
outputs_of_entries false g =
    skips next_entry outputs_in (λ x ps. refl) g.latches (map output_entry g.outputs ++ (map pair_entry g.ands ++ []))
    ∙ keeps output_entry outputs_in (λ x ps. refl) g.outputs (map pair_entry g.ands ++ [])
    ∙ ap (λ (l : List ℕ). g.outputs ++ l) (skips pair_entry outputs_in (λ x ps. refl) g.ands [])
    ∙ append-nil g.outputs

pub ands_of_entries : (ascii : Bool) (g : Aig) → ands_in (map entry_part (entries ascii g)) ≡ g.ands
ands_of_entries true g =
    skips input_entry ands_in (λ x ps. refl) g.inputs (map latch_entry g.latches ++ (map output_entry g.outputs ++ (map and_entry g.ands ++ [])))
    ∙ skips latch_entry ands_in (λ x ps. refl) g.latches (map output_entry g.outputs ++ (map and_entry g.ands ++ []))
    ∙ skips output_entry ands_in (λ x ps. refl) g.outputs (map and_entry g.ands ++ [])
    ∙ keeps and_entry ands_in (λ x ps. refl) g.ands []
    ∙ append-nil g.ands
ands_of_entries false g =
    skips next_entry ands_in (λ x ps. refl) g.latches (map output_entry g.outputs ++ (map pair_entry g.ands ++ []))
    ∙ skips output_entry ands_in (λ x ps. refl) g.outputs (map pair_entry g.ands ++ [])
    ∙ keeps pair_entry ands_in (λ x ps. refl) g.ands []
    ∙ append-nil g.ands

-- what is defined before

abbrev pub AllBelow : ℕ → List ℕ → Type 0
AllBelow k [] = ⊤
AllBelow k (d ∷ ds) = (d < k) × AllBelow k ds

pub below_less : (k j : ℕ) (ds : List ℕ) → k ≤ j → AllBelow k ds → AllBelow j ds
below_less k j [] le h = tt
below_less k j (d ∷ ds) le h = (omega (arith, h.0), below_less k j ds le h.1)

pub not_there : (k : ℕ) (ds : List ℕ) → AllBelow k ds → has_number ds k ≡ false
not_there k [] h = refl
not_there k (d ∷ ds) h = or_from (nat_eq d k) (has_number ds k) (ne_eqb d k (λ e. omega (arith, h.0))) (not_there k ds h.1)

pub may_define_next : (most v : ℕ) (defined : List ℕ) (l : ℕ) → l ≡ 2 * v → 1 ≤ v → 2 * v ≤ most → AllBelow (2 * v) defined → may_define most defined l ≡ true
may_define_next most v defined l e some few below =
    and_from (l % 2 == 0) (nat_le 2 l && (nat_le l most && not (has_number defined l))) (eq-eqb (l % 2) 0 (omega arith))
    (and_from (nat_le 2 l) (nat_le l most && not (has_number defined l)) (le-leb 2 l (omega arith))
    (and_from (nat_le l most) (not (has_number defined l)) (le-leb l most (omega arith))
    (not_from_false (has_number defined l) (ap (has_number defined) e ∙ not_there (2 * v) defined below))))

-- The greatest literal of a file that can be written.
abbrev pub IsMost : ℕ → Type 0
IsMost most = most ≤ 2 * most_variables + 1

module _ (most : ℕ) (short : IsMost most) where
  line_takes : (defined : List ℕ) (wanted : Wanted) (part : Part) (n : ℕ) (ns : List ℕ) (rest : List ℕ)
      → ((bytes : List ℕ) → taken most defined wanted bytes ≡ option_map (λ (p : Part). (p, behind 10 bytes)) (said_by most defined wanted (numbers_on bytes)))
      → AllShort (n ∷ ns) → said_by most defined wanted (n ∷ ns) ≡ Some part → taken most defined wanted (number_line n ns ++ rest) ≡ Some (part, rest)
  line_takes defined wanted part n ns rest by small said =
      by (number_line n ns ++ rest)
      ∙ ap (λ (l : List ℕ). option_map (λ (p : Part). (p, behind 10 (number_line n ns ++ rest))) (said_by most defined wanted l)) (numbers_on_line n ns rest small)
      ∙ ap (option_map (λ (p : Part). (p, behind 10 (number_line n ns ++ rest)))) said
      ∙ ap (λ (bs : List ℕ). Some (part, bs)) (behind_numbers n ns rest small)

  module _ {X : Type 0} (f : X → Entry) (literal : X → ℕ) (ok : X → Bool) (defines : (ds : List ℕ) (x : X) → defined_by ds (f x).part ≡ literal x ∷ ds)
      (step : (v : ℕ) (ds : List ℕ) (x : X) → literal x ≡ 2 * v → 1 ≤ v → 2 * v ≤ most → AllBelow (2 * v) ds → ok x ≡ true → Takes most ds (f x)) where
    numbered : (xs : List X) (es : List Entry) (v : ℕ) (ds : List ℕ) → map literal xs ≡ literals_from v (length xs) → 1 ≤ v → 2 * (v + length xs) ≤ most + 2 → AllBelow (2 * v) ds → list_all ok xs ≡ true
        → ((later : List ℕ) → AllBelow (2 * (v + length xs)) later → TakeAll most later es) → TakeAll most ds (map f xs ++ es)
    numbered [] es v ds e some few below good next = next ds (below_less (2 * v) (2 * (v + 0)) ds (omega arith) below)
    numbered (x ∷ xs) es v ds e some few below good next =
        let here : literal x ≡ 2 * v = cc in
        let rest : map literal xs ≡ literals_from (v + 1) (length xs) = cc in
        let goods = and_parts (ok x) (list_all ok xs) good in (
          step v ds x here some (omega arith) below goods.0,
          subst (λ (l : List ℕ). TakeAll most l (map f xs ++ es)) (sym (defines ds x))
              (numbered xs es (v + 1) (literal x ∷ ds) rest (omega arith) (omega arith) (omega arith, below_less (2 * v) (2 * (v + 1)) ds (omega arith) below) goods.1
              (λ later h. next later (below_less (2 * (v + 1 + length xs)) (2 * (v + suc (length xs))) later (omega arith) h))),
        )

  takes_input : (v : ℕ) (ds : List ℕ) (l : ℕ) → l ≡ 2 * v → 1 ≤ v → 2 * v ≤ most → AllBelow (2 * v) ds → true ≡ true → Takes most ds (input_entry l)
  takes_input v ds l e some few below ok rest = line_takes ds InputLine (Input l) l [] rest (λ bytes. refl) (omega arith, tt)
      (cond-true (may_define most ds l) (Some (Input l)) None (may_define_next most v ds l e some few below))

  takes_output : (ds : List ℕ) (l : ℕ) → may_read most l ≡ true → Takes most ds (output_entry l)
  takes_output ds l ok rest = let le = leb-true l most ok in line_takes ds OutputLine (Output l) l [] rest (λ bytes. refl) (omega arith, tt)
      (cond-true (may_read most l) (Some (Output l)) None ok)

  outputs_take : (ls : List ℕ) (es : List Entry) (ds : List ℕ) → list_all (may_read most) ls ≡ true → TakeAll most ds es → TakeAll most ds (map output_entry ls ++ es)
  outputs_take [] es ds good h = h
  outputs_take (l ∷ ls) es ds good h = let goods = and_parts (may_read most l) (list_all (may_read most) ls) good in (takes_output ds l goods.0, outputs_take ls es ds goods.1 h)

  -- a latch says itself by its numbers
  says_latch : (a : AigLatch) (reset : ℕ) → latch_is_normal most a ≡ true → a.reset ≡ reset → latch_by most a.literal a.next reset ≡ Some (Latched a)
  says_latch a reset ok e =
      ap (latch_by most a.literal a.next) (sym e)
      ∙ cond-true (may_read most a.next && is_reset a.literal a.reset) (Some (Latched a)) None ok

  resets : (a : AigLatch) → ((reset_of a ≡ []) × (a.reset ≡ 0)) ⊎ (reset_of a ≡ a.reset ∷ [])
  resets a = elim (cases_Bool (a.reset == 0)) [
    | inl e ↦ inl (cond-true (a.reset == 0) [] (a.reset ∷ []) e, eqb-true a.reset 0 e)
    | inr e ↦ inr (cond-false (a.reset == 0) [] (a.reset ∷ []) e)
  ]

  short_reset : (a : AigLatch) → a.literal ≤ most → latch_is_normal most a ≡ true → IsShort a.reset
  short_reset a le ok = elim (or_cases (nat_le a.reset 1) (a.reset == a.literal) (and_parts (may_read most a.next) (is_reset a.literal a.reset) ok).1) [
    | inl e ↦ let k = leb-true a.reset 1 e in omega arith
    | inr e ↦ let k = eqb-true a.reset a.literal e in omega arith
  ]

  short_next : (a : AigLatch) → latch_is_normal most a ≡ true → IsShort a.next
  short_next a ok = let k = leb-true a.next most (and_parts (may_read most a.next) (is_reset a.literal a.reset) ok).0 in omega arith

  takes_latch : (v : ℕ) (ds : List ℕ) (a : AigLatch) → a.literal ≡ 2 * v → 1 ≤ v → 2 * v ≤ most → AllBelow (2 * v) ds → latch_is_normal most a ≡ true → Takes most ds (latch_entry a)
  takes_latch v ds a e some few below ok rest =
      let may = may_define_next most v ds a.literal e some few below in
      elim (resets a) [
        | inl r ↦ ap (λ (ns : List ℕ). taken most ds LatchLine (number_line a.literal (a.next ∷ ns) ++ rest)) r.0
            ∙ line_takes ds LatchLine (Latched a) a.literal (a.next ∷ []) rest (λ bytes. refl) (omega arith, (short_next a ok, tt))
            (cond-true (may_define most ds a.literal) (latch_by most a.literal a.next 0) None may ∙ says_latch a 0 ok r.1)
        | inr r ↦ ap (λ (ns : List ℕ). taken most ds LatchLine (number_line a.literal (a.next ∷ ns) ++ rest)) r
            ∙ line_takes ds LatchLine (Latched a) a.literal (a.next ∷ a.reset ∷ []) rest (λ bytes. refl) (omega arith, (short_next a ok, (short_reset a (omega arith) ok, tt)))
            (cond-true (may_define most ds a.literal) (latch_by most a.literal a.next a.reset) None may ∙ says_latch a a.reset ok refl)
      ]

  takes_next : (v : ℕ) (ds : List ℕ) (a : AigLatch) → a.literal ≡ 2 * v → 1 ≤ v → 2 * v ≤ most → AllBelow (2 * v) ds → latch_is_normal most a ≡ true → Takes most ds (next_entry a)
  takes_next v ds a e some few below ok rest =
      elim (resets a) [
        | inl r ↦ ap (λ (ns : List ℕ). taken most ds (NextLine a.literal) (number_line a.next ns ++ rest)) r.0
            ∙ line_takes ds (NextLine a.literal) (Latched a) a.next [] rest (λ bytes. refl) (short_next a ok, tt) (says_latch a 0 ok r.1)
        | inr r ↦ ap (λ (ns : List ℕ). taken most ds (NextLine a.literal) (number_line a.next ns ++ rest)) r
            ∙ line_takes ds (NextLine a.literal) (Latched a) a.next (a.reset ∷ []) rest (λ bytes. refl) (short_next a ok, (short_reset a (omega arith) ok, tt)) (says_latch a a.reset ok refl)
      ]

  takes_and : (v : ℕ) (ds : List ℕ) (a : AigAnd) → a.literal ≡ 2 * v → 1 ≤ v → 2 * v ≤ most → AllBelow (2 * v) ds → and_is_normal a ≡ true → Takes most ds (and_entry a)
  takes_and v ds a e some few below ok rest =
      let oks = and_parts (nat_lt a.first a.literal) (nat_le a.second a.first) ok in
      let first = ltb-true a.first a.literal oks.0 in
      let second = leb-true a.second a.first oks.1 in
      line_takes ds AndLine (Gate a) a.literal (a.first ∷ a.second ∷ []) rest (λ bytes. refl) (omega arith, (omega arith, (omega arith, tt)))
      (cond-true (may_define most ds a.literal && (may_read most a.first && may_read most a.second)) (Some (Gate a)) None
      (and_from (may_define most ds a.literal) (may_read most a.first && may_read most a.second) (may_define_next most v ds a.literal e some few below)
      (and_from (may_read most a.first) (may_read most a.second) (le-leb a.first most (omega arith)) (le-leb a.second most (omega arith)))))

  takes_pair : (v : ℕ) (ds : List ℕ) (a : AigAnd) → a.literal ≡ 2 * v → 1 ≤ v → 2 * v ≤ most → AllBelow (2 * v) ds → and_is_normal a ≡ true → Takes most ds (pair_entry a)
  takes_pair v ds a e some few below ok rest =
      let oks = and_parts (nat_lt a.first a.literal) (nat_le a.second a.first) ok in
      let first = ltb-true a.first a.literal oks.0 in
      let second = leb-true a.second a.first oks.1 in
      let by : ℕ = a.literal - a.first in
      let under : ℕ = a.first - a.second in
      ap (λ (bs : List ℕ). pair_by a.literal (delta 5 bs)) (append_assoc (grouped 5 by) (grouped 5 under) rest)
      ∙ ap (pair_by a.literal) (delta_of by (grouped 5 under ++ rest) (omega arith))
      ∙ cond-true (nat_lt 0 by && nat_le by a.literal) (pair_behind a.literal by (delta 5 (grouped 5 under ++ rest))) None (and_from (nat_lt 0 by) (nat_le by a.literal) (lt-ltb 0 by (omega arith)) (le-leb by a.literal (omega arith)))
      ∙ ap (pair_behind a.literal by) (delta_of under rest (omega arith))
      ∙ cond-true (nat_le under (a.literal - by)) (Some (Gate (record { literal = a.literal; first = a.literal - by; second = a.literal - by - under }), rest)) None (le-leb under (a.literal - by) (omega arith))
      ∙ ap₂ (λ (x y : ℕ). Some (Gate (record { literal = a.literal; first = x; second = y }), rest)) (let q : a.literal - by ≡ a.first = omega arith in q) (let q : a.literal - by - under ≡ a.second = omega arith in q)

all_true : {X : Type 0} (xs : List X) → list_all (λ x. true) xs ≡ true
all_true [] = refl
all_true (x ∷ xs) = all_true xs

pub takes_entries : (ascii : Bool) (g : Aig) → IsNormal g → TakeAll (2 * g.variables + 1) [] (entries ascii g)
takes_entries true g n =
    let most : ℕ = 2 * g.variables + 1 in
    let short : IsMost most = let a = n.few in omega arith in
    let fits : g.variables ≡ length g.inputs + length g.latches + length g.ands = n.variables in
    numbered most short input_entry (λ l. l) (λ l. true) (λ ds x. refl) (takes_input most short) g.inputs (map latch_entry g.latches ++ (map output_entry g.outputs ++ (map and_entry g.ands ++ []))) 1 [] (map-id g.inputs ∙ n.inputs) (omega arith) (omega arith) tt (all_true g.inputs)
    (λ ds b. numbered most short latch_entry latch_literal (latch_is_normal most) (λ ds x. refl) (takes_latch most short) g.latches (map output_entry g.outputs ++ (map and_entry g.ands ++ [])) (length g.inputs + 1) ds n.latches (omega arith) (omega arith) (below_less (2 * (1 + length g.inputs)) (2 * (length g.inputs + 1)) ds (omega arith) b) n.normal_latches
    (λ es c. outputs_take most short g.outputs (map and_entry g.ands ++ []) es n.read_outputs
    (numbered most short and_entry and_literal and_is_normal (λ ds x. refl) (takes_and most short) g.ands [] (length g.inputs + length g.latches + 1) es n.ands (omega arith) (omega arith) (below_less (2 * (length g.inputs + 1 + length g.latches)) (2 * (length g.inputs + length g.latches + 1)) es (omega arith) c) n.normal_ands (λ later k. tt))))
takes_entries false g n =
    let most : ℕ = 2 * g.variables + 1 in
    let short : IsMost most = let a = n.few in omega arith in
    let fits : g.variables ≡ length g.inputs + length g.latches + length g.ands = n.variables in
    numbered most short next_entry latch_literal (latch_is_normal most) (λ ds x. refl) (takes_next most short) g.latches (map output_entry g.outputs ++ (map pair_entry g.ands ++ [])) (length g.inputs + 1) [] n.latches (omega arith) (omega arith) tt n.normal_latches
    (λ es c. outputs_take most short g.outputs (map pair_entry g.ands ++ []) es n.read_outputs
    (numbered most short pair_entry and_literal and_is_normal (λ ds x. refl) (takes_pair most short) g.ands [] (length g.inputs + length g.latches + 1) es n.ands (omega arith) (omega arith) (below_less (2 * (length g.inputs + 1 + length g.latches)) (2 * (length g.inputs + length g.latches + 1)) es (omega arith) c) n.normal_ands (λ later k. tt)))

-- The parts of a written body are those that were written, and what stands behind it is left.
pub parts_of_body : (total : ℕ) (ascii : Bool) (g : Aig) (rest : List ℕ) → IsNormal g → parts_of total (2 * g.variables + 1) [] (wanted_by ascii (header_for ascii g)) (body_of ascii g ++ rest) ≡ Ok (map entry_part (entries ascii g), rest)
parts_of_body total ascii g rest n =
    ap₂ (λ (ws : List Wanted) (bs : List ℕ). parts_of total (2 * g.variables + 1) [] ws (bs ++ rest)) (sym (wanted_entries ascii g n)) (sym (text_entries ascii g))
    ∙ parts_of_entries total (2 * g.variables + 1) [] (entries ascii g) rest (takes_entries ascii g n)
