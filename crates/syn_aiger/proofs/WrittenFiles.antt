-- The file that is made of a graph's lists.
use Rattle.std.specs.List.{list_all}
use Rattle.std.proofs.Common.{◌≡◌, ℕ, suc, ◌+◌, ◌<◌, ◌≤◌, ◌^◌, true, List, [], ◌∷◌, ◌++◌, length, map, find, take, drop, get_or, is_some, option_map, Option, Some, None, refl, sym, ap, ap₂, ◌∙◌, subst, inl, inr, append_assoc, arith}
use Rattle.std.proofs.lemmas.Bool.{and_parts, cases_Bool, cond-true, cond-false}
use Rattle.std.proofs.lemmas.List.{drop_more, length-map}
use Rattle.syn_rows.specs.declared.Row.{Row}
use Rattle.syn_rows.specs.declared.Row.TheVariants.{Alias, And, Free, Source}
use Rattle.syn_netlist.specs.declared.LatchKind.{LatchKind}
use Rattle.syn_netlist.specs.declared.Latch.{Latch}
use Rattle.syn_netlist.specs.declared.frames.Frame as code
use Rattle.syn_netlist.specs.Frames.{frame_in}
use Rattle.syn_netlist.specs.Kept.{control_number, latch_in, latch_numbers, latches_below}
use Rattle.syn_netlist.specs.Lists.{Frame, Netlist, latch_output, observed, sources}
use Rattle.syn_netlist.specs.Numbers.{all_below, kind_at, word_at, words_at}
use Rattle.syn_netlist.specs.Words.{is_word, without}
use Rattle.syn_netlist.proofs.Places.{below_parts}
use Rattle.syn_network.specs.GraphShape.{rows_of}
use Rattle.syn_network.specs.declared.networks.Network.{Network}
use Rattle.syn_network.specs.Written.{network_of}
use Rattle.syn_aiger_files.specs.declared.files.Aig.{Aig}
use Rattle.syn_aiger_files.specs.declared.files.AigAnd.{AigAnd}
use Rattle.syn_aiger_files.specs.declared.files.AigLatch.{AigLatch}
use Rattle.syn_aiger_files.specs.declared.files.Place.{Place}
use Rattle.syn_aiger_files.specs.declared.files.Place.TheVariants.{Input as OfInput, Latch as OfLatch, Output as OfOutput}
use Rattle.syn_aiger_files.specs.declared.files.Symbol.{Symbol}
use Rattle.syn_aiger_files.specs.Laws.{IsNormal}
use Rattle.syn_aiger_files.specs.Literals.{literals_from}
use Rattle.syn_aiger.specs.Laws.{written_names}
use Rattle.syn_aiger.specs.WrittenLists.{HaveLiterals, latches_at, literal_at, typed_output}
use Rattle.syn_aiger.specs.Writing.{IsWrittenAs, aig_of, ands_by, first_typed, free_signals, has_type, latches_by, literal_in, symbols_by, symbols_in, without_types}
use Rattle.syn_aiger.proofs.Frames.{aig_of_keeps, aig_of_leaves_types}
use Rattle.syn_aiger.proofs.Normal.{aig_of_is_normal, length-sources}
use Rattle.syn_aiger.proofs.WrittenLiterals.{feeds_have, outputs_have, read_latches, read_outputs, spells}

-- types of latches

kind_typed : (names : List (List ℕ)) (kind : Option (LatchKind × Option ℕ)) → is_some (kind_at names kind) ≡ is_some kind
kind_typed names None = refl
kind_typed names (Some (kind, control)) = refl

typed_is : (names : List (List ℕ)) (ls : List Latch) → option_map latch_output (find has_type (map (latch_in names) ls)) ≡ option_map (word_at names) (typed_output ls)
typed_is names [] = refl
typed_is names (l ∷ ls) =
    let test : has_type (latch_in names l) ≡ is_some l.kind = kind_typed names l.kind in
    elim (cases_Bool (is_some l.kind)) [
      | inl e ↦ ap (option_map latch_output) (cond-true (has_type (latch_in names l)) (Some (latch_in names l)) (find has_type (map (latch_in names) ls)) (test ∙ e))
          ∙ ap (option_map (word_at names)) (sym (cond-true (is_some l.kind) (Some l.output) (typed_output ls) e))
      | inr e ↦ ap (option_map latch_output) (cond-false (has_type (latch_in names l)) (Some (latch_in names l)) (find has_type (map (latch_in names) ls)) (test ∙ e))
          ∙ typed_is names ls
          ∙ ap (option_map (word_at names)) (sym (cond-false (is_some l.kind) (Some l.output) (typed_output ls) e))
    ]

pub first_typed_is : (f : code.Frame) → first_typed (frame_in f) ≡ option_map (word_at f.names) (typed_output f.latches)
first_typed_is f = typed_is f.names f.latches

pub typed_below : (n : ℕ) (ls : List Latch) (k : ℕ) → latches_below n ls ≡ true → Some k ≡ typed_output ls → k < n
typed_below n [] k b e = absurd (let p : ⊥ = cc in p)
typed_below n (l ∷ ls) k b e =
    let parts = and_parts (all_below n (latch_numbers l)) (latches_below n ls) b in
    let (feed, more) = below_parts n l.feed (l.output ∷ control_number l.kind) parts.0 in
    let (output, control) = below_parts n l.output (control_number l.kind) more in
    elim (cases_Bool (is_some l.kind)) [
      | inl t ↦ let p : Some k ≡ Some l.output = e ∙ cond-true (is_some l.kind) (Some l.output) (typed_output ls) t in let q : k ≡ l.output = cc in subst (λ (i : ℕ). i < n) (sym q) output
      | inr t ↦ typed_below n ls k parts.1 (e ∙ cond-false (is_some l.kind) (Some l.output) (typed_output ls) t)
    ]

-- ANDs

pub ands_fewer : (n : ℕ) (rows : List Row) → length (ands_by n rows) ≤ length rows
ands_fewer n [] = omega arith
ands_fewer n (Free ∷ rows) = omega (arith, ands_fewer (n + 1) rows)
ands_fewer n (Source ∷ rows) = omega (arith, ands_fewer (n + 1) rows)
ands_fewer n (And a b ∷ rows) = omega (arith, ands_fewer (n + 1) rows)
ands_fewer n (Alias a ∷ rows) = omega (arith, ands_fewer (n + 1) rows)

-- symbols

pub symbols_on : (out new target : List Symbol) (place : Place) (names : List (List ℕ)) (numbers : List ℕ) (i : ℕ) (s : Symbol) → i < length numbers
    → s ≡ record { place = place; index = i; name = word_at names (get_or numbers i 0) } → new ≡ out ++ s ∷ []
    → out ++ symbols_by place i (words_at names (drop i numbers)) ≡ target → new ++ symbols_by place (i + 1) (words_at names (drop (i + 1) numbers)) ≡ target
symbols_on out new target place names numbers i s lt is e h =
    let rest : List Symbol = symbols_by place (i + 1) (words_at names (drop (i + 1) numbers)) in
    ap (λ (l : List Symbol). l ++ rest) e
    ∙ append_assoc out (s ∷ []) rest
    ∙ ap (λ (l : List Symbol). out ++ l)
    (ap₂ (λ (x : Symbol) (k : ℕ). x ∷ symbols_by place k (words_at names (drop (i + 1) numbers))) is (let p : i + 1 ≡ suc i = omega arith in p)
    ∙ sym (ap (λ (l : List ℕ). symbols_by place i (words_at names l)) (drop_more numbers i 0 lt)))
    ∙ h

split_words : (names : List (List ℕ)) (srcs : List ℕ) (free held : List (List ℕ)) → words_at names srcs ≡ free ++ held → (words_at names (take (length free) srcs) ≡ free) × (words_at names (drop (length free) srcs) ≡ held)
split_words names srcs [] held e = (refl, e)
split_words names [] (w ∷ ws) held e = absurd (omega (arith, ap (λ (l : List (List ℕ)). length l) e))
split_words names (s ∷ ss) (w ∷ ws) held e =
    let head : word_at names s ≡ w = cc in
    let tail : words_at names ss ≡ ws ++ held = cc in
    let r = split_words names ss ws held tail in
    (ap₂ (λ (x : List ℕ) (xs : List (List ℕ)). x ∷ xs) head r.0, r.1)

sources_split : (f : Frame) → sources f ≡ free_signals f ++ map latch_output f.latches
sources_split f = sym (append_assoc f.inputs (without f.inputs f.clocks) (map latch_output f.latches))

-- the first sources are those that are no latches, the others are the latches
pub source_parts : (f : code.Frame) (srcs : List ℕ) (free : ℕ) → words_at f.names srcs ≡ sources (frame_in f) → free + length f.latches ≡ length (sources (frame_in f))
    → (words_at f.names (take free srcs) ≡ free_signals (frame_in f)) × (words_at f.names (drop free srcs) ≡ map latch_output (frame_in f).latches)
source_parts f srcs free words count =
    let long : length (free_signals (frame_in f)) ≡ free = omega (arith, length-sources (frame_in f), length-map f.latches (latch_in f.names), count) in
    subst (λ (k : ℕ). (words_at f.names (take k srcs) ≡ free_signals (frame_in f)) × (words_at f.names (drop k srcs) ≡ map latch_output (frame_in f).latches)) long
    (split_words f.names srcs (free_signals (frame_in f)) (map latch_output (frame_in f).latches) (words ∙ sources_split (frame_in f)))

-- some sources are latches
pub few_latches : (f : code.Frame) → length f.latches ≤ length (sources (frame_in f))
few_latches f = omega (arith, length-sources (frame_in f), length-map f.latches (latch_in f.names))

pub symbols_are : (f : code.Frame) (srcs : List ℕ) (free : ℕ) → words_at f.names srcs ≡ sources (frame_in f) → free + length f.latches ≡ length (sources (frame_in f))
    → symbols_by OfInput 0 (words_at f.names (take free srcs)) ++ (symbols_by OfLatch 0 (words_at f.names (drop free srcs)) ++ symbols_by OfOutput 0 (words_at f.names f.outputs)) ≡ symbols_in (frame_in f)
symbols_are f srcs free words count =
    let p = source_parts f srcs free words count in
    ap₂ (λ (a b : List (List ℕ)). symbols_by OfInput 0 a ++ (symbols_by OfLatch 0 b ++ symbols_by OfOutput 0 (words_at f.names f.outputs))) p.0 p.1

pub symbols_made : (f : code.Frame) (srcs : List ℕ) (free : ℕ) (start ins lats all : List Symbol) (inputs latches outputs : List ℕ) → words_at f.names srcs ≡ sources (frame_in f) → free + length f.latches ≡ length (sources (frame_in f))
    → inputs ≡ take free srcs → latches ≡ drop free srcs → outputs ≡ f.outputs
    → start ≡ [] → ins ≡ start ++ symbols_by OfInput 0 (words_at f.names inputs) → lats ≡ ins ++ symbols_by OfLatch 0 (words_at f.names latches) → all ≡ lats ++ symbols_by OfOutput 0 (words_at f.names outputs)
    → all ≡ symbols_in (frame_in f)
symbols_made f srcs free start ins lats all inputs latches outputs words count ei el eo es e1 e2 e3 =
    e3
    ∙ ap₂ (λ (l : List Symbol) (ns : List ℕ). l ++ symbols_by OfOutput 0 (words_at f.names ns))
    (e2 ∙ ap₂ (λ (l : List Symbol) (ns : List ℕ). l ++ symbols_by OfLatch 0 (words_at f.names ns)) (e1 ∙ ap₂ (λ (l : List Symbol) (ns : List ℕ). l ++ symbols_by OfInput 0 (words_at f.names ns)) es ei) el)
    eo
    ∙ append_assoc (symbols_by OfInput 0 (words_at f.names (take free srcs))) (symbols_by OfLatch 0 (words_at f.names (drop free srcs))) (symbols_by OfOutput 0 (words_at f.names f.outputs))
    ∙ symbols_are f srcs free words count

-- all together

abbrev made : ℕ → List ℕ → List AigLatch → List ℕ → List AigAnd → List Symbol → Aig
made variables inputs latches outputs ands symbols = record { variables = variables; inputs = inputs; latches = latches; outputs = outputs; ands = ands; symbols = symbols }

same_file : (v w : ℕ) (i j : List ℕ) (l k : List AigLatch) (o p : List ℕ) (a b : List AigAnd) (s t : List Symbol) → v ≡ w → i ≡ j → l ≡ k → o ≡ p → a ≡ b → s ≡ t → made v i l o a s ≡ made w j k p b t
same_file v w i j l k o p a b s t ev ei el eo ea es =
    ap₂ (λ (x : ℕ) (y : List ℕ). made x y l o a s) ev ei
    ∙ ap₂ (λ (x : List AigLatch) (y : List ℕ). made w j x y a s) el eo
    ∙ ap₂ (λ (x : List AigAnd) (y : List Symbol). made w j k p x y) ea es

pub file_is : (g : Network) (count free : ℕ) (literals : List ℕ) → count ≡ length (sources (frame_in g.frame)) → free + length g.frame.latches ≡ count → HaveLiterals (network_of g) g.frame.names (observed (frame_in g.frame)) literals
    → made (count + length (ands_by (count + 1) (drop (count + 1) g.body.rows))) (literals_from 1 free) (latches_at literals (free + 1) g.frame.latches) (map (literal_at literals) g.frame.outputs) (ands_by (count + 1) (drop (count + 1) g.body.rows)) (symbols_in (frame_in g.frame))
    ≡ aig_of (network_of g)
file_is g count free literals is_count is_free have =
    let m : Netlist = network_of g in
    let f : Frame = frame_in g.frame in
    let names : List (List ℕ) = g.frame.names in
    let long : free ≡ length (free_signals f) = omega (arith, length-sources f, length-map g.frame.latches (latch_in names), is_count, is_free) in
    let ands : ands_by (count + 1) (drop (count + 1) g.body.rows) ≡ ands_by (length (sources f) + 1) (drop (length (sources f) + 1) (rows_of m)) =
    ap₂ (λ (k : ℕ) (rows : List Row). ands_by (k + 1) (drop (k + 1) rows)) is_count (sym (spells g).same_rows) in
    same_file
    (count + length (ands_by (count + 1) (drop (count + 1) g.body.rows))) (length (sources f) + length (ands_by (length (sources f) + 1) (drop (length (sources f) + 1) (rows_of m))))
    (literals_from 1 free) (literals_from 1 (length (free_signals f)))
    (latches_at literals (free + 1) g.frame.latches) (latches_by m (length (free_signals f) + 1) f.latches)
    (map (literal_at literals) g.frame.outputs) (map (literal_in m) f.outputs)
    (ands_by (count + 1) (drop (count + 1) g.body.rows)) (ands_by (length (sources f) + 1) (drop (length (sources f) + 1) (rows_of m)))
    (symbols_in f) (symbols_in f)
    (ap₂ (λ (k : ℕ) (l : List AigAnd). k + length l) is_count ands)
    (ap (literals_from 1) long)
    (read_latches m names literals (free + 1) g.frame.latches (feeds_have m names literals have) g.frame.latches_below ∙ ap (λ (k : ℕ). latches_by m (k + 1) f.latches) long)
    (read_outputs m names literals g.frame.outputs (outputs_have m names literals have) g.frame.outputs_below)
    ands
    refl

pub file_made : (g : Network) (free : ℕ) (literals : List ℕ) (n : ℕ) (inputs : List ℕ) (latches : List AigLatch) (outputs : List ℕ) (ands : List AigAnd) (symbols : List Symbol) → free + length g.frame.latches ≡ g.body.source_count
    → HaveLiterals (network_of g) g.frame.names (observed (frame_in g.frame)) literals → n ≡ length ands → inputs ≡ literals_from 1 free → latches ≡ latches_at literals (free + 1) g.frame.latches → outputs ≡ map (literal_at literals) g.frame.outputs
    → ands ≡ ands_by (g.body.source_count + 1) (drop (g.body.source_count + 1) g.body.rows) → symbols ≡ symbols_in (frame_in g.frame)
    → made (g.body.source_count + n) inputs latches outputs ands symbols ≡ aig_of (network_of g)
file_made g free literals n inputs latches outputs ands symbols is_free have en ei el eo ea es =
    let gates : List AigAnd = ands_by (g.body.source_count + 1) (drop (g.body.source_count + 1) g.body.rows) in
    same_file
    (g.body.source_count + n) (g.body.source_count + length gates)
    inputs (literals_from 1 free)
    latches (latches_at literals (free + 1) g.frame.latches)
    outputs (map (literal_at literals) g.frame.outputs)
    ands gates
    symbols (symbols_in (frame_in g.frame))
    (ap (λ (k : ℕ). g.body.source_count + k) (en ∙ ap (λ (l : List AigAnd). length l) ea)) ei el eo ea es
    ∙ file_is g g.body.source_count free literals g.named.sources_are is_free have

-- the laws of writing, of a graph

pub graph_is_normal : (g : Network) → length g.body.rows ≤ 2 ^ 28 → length g.frame.outputs < 2 ^ 28 → list_all is_word (written_names (frame_in g.frame)) ≡ true → IsNormal (aig_of (network_of g))
graph_is_normal g rows outputs words =
    aig_of_is_normal (network_of g) (spells g).ordered (spells g).shape
    (subst (λ (k : List Row). length k ≤ 2 ^ 28) (sym (spells g).same_rows) rows)
    (subst (λ (k : ℕ). k < 2 ^ 28) (sym (length-map g.frame.outputs (word_at g.frame.names))) outputs)
    words

pub graph_leaves_types : (g : Network) → list_all is_word (written_names (frame_in g.frame)) ≡ true → IsWrittenAs (without_types (network_of g)) (aig_of (network_of g))
graph_leaves_types g words = aig_of_leaves_types (network_of g) (spells g).ordered (spells g).shape words

pub graph_is_kept : (g : Network) → first_typed (frame_in g.frame) ≡ None → list_all is_word (written_names (frame_in g.frame)) ≡ true → IsWrittenAs (network_of g) (aig_of (network_of g))
graph_is_kept g untyped words = aig_of_keeps (network_of g) (spells g).ordered (spells g).shape untyped words
