-- All names of a file, given one after the other.
use Rattle.std.proofs.Common.{◌≡◌, ℕ, suc, ◌+◌, ◌<◌, ◌≤◌, Bool, true, false, List, [], ◌∷◌, ◌++◌, length, map, drop, get_or, sym, ap, ◌∙◌, subst, append_assoc, arith, length-append}
use Rattle.std.proofs.lemmas.List.{drop_more, length-map}
use Rattle.syn_netlist.specs.Numbers.{word_at}
use Rattle.syn_aiger_files.specs.declared.files.Aig.{Aig}
use Rattle.syn_aiger_files.specs.declared.files.AigLatch.{AigLatch}
use Rattle.syn_aiger_files.specs.declared.files.Place.{Place}
use Rattle.syn_aiger_files.specs.declared.files.Place.TheVariants.{Input as OfInput, Latch as OfLatch, Output as OfOutput}
use Rattle.syn_aiger_files.specs.declared.files.Symbol.{Symbol}
use Rattle.syn_aiger_files.specs.Files.{latch_literal}
use Rattle.syn_aiger.specs.Keeping.{Keeps, feed_next, named_next, places_named}
use Rattle.syn_aiger_files.specs.FirstNames.{first_name}
use Rattle.syn_aiger.specs.Naming.{Named, feeds_named, feeds_of, inputs_of, name_of, named_of, outputs_of, sources_of}
use Rattle.syn_aiger.specs.Values.{source_literals}
use Rattle.syn_aiger.specs.declared.given.Given.{Given}
use Rattle.syn_aiger.proofs.Giving.{feeds_next, literal_of, outputs_are, places_next, sources_are}
use Rattle.syn_aiger.proofs.Slicing.{source_literals_are}

-- The names that are given so far, and that with those of what is left they are these.
abbrev pub PlacesLeft : Given → Bool → List Symbol → Place → ℕ → List ℕ → List Named → Type 0
PlacesLeft s keeps symbols p i ls total = (mid : List Named) × Keeps s mid × (mid ++ places_named keeps symbols p i (drop i ls) mid ≡ total)

pub places_more : (new : Given) (keeps : Bool) (symbols : List Symbol) (p : Place) (i : ℕ) (ls first : List ℕ) (mid total : List Named) → i < length ls → first ≡ first_name symbols p i
    → mid ++ places_named keeps symbols p i (drop i ls) mid ≡ total → Keeps new (mid ++ named_next keeps (get_or ls i 0) mid first ∷ []) → PlacesLeft new keeps symbols p (i + 1) ls total
places_more new keeps symbols p i ls first mid total l is e k =
    let n : Named = named_next keeps (get_or ls i 0) mid (first_name symbols p i) in (
      mid ++ n ∷ [],
      subst (λ (w : List ℕ). Keeps new (mid ++ named_next keeps (get_or ls i 0) mid w ∷ [])) is k,
      ap (λ (j : ℕ). (mid ++ n ∷ []) ++ places_named keeps symbols p j (drop (i + 1) ls) (mid ++ n ∷ [])) (let q : i + 1 ≡ suc i = omega arith in q)
          ∙ places_next keeps symbols p i (get_or ls i 0) (drop (i + 1) ls) mid total (ap (λ (x : List ℕ). mid ++ places_named keeps symbols p i x mid) (sym (drop_more ls i 0 l)) ∙ e),
    )

-- The same of what latches load; those of the sources stand in front.
abbrev pub FeedsLeft : Given → List Named → ℕ → List AigLatch → List Named → Type 0
FeedsLeft s sources j ls total = (mid : List Named) × (rest : List Named) × Keeps s mid × (mid ≡ sources ++ rest) × (mid ++ feeds_named sources j (drop j ls) mid ≡ total)

pub feeds_more : (new : Given) (sources : List Named) (j next : ℕ) (ls : List AigLatch) (a : AigLatch) (mid rest total : List Named) → j < length ls → next ≡ (get_or ls j a).next → mid ≡ sources ++ rest
    → mid ++ feeds_named sources j (drop j ls) mid ≡ total → Keeps new (mid ++ feed_next sources j next mid ∷ []) → FeedsLeft new sources (j + 1) ls total
feeds_more new sources j next ls a mid rest total l is front e k =
    let n : Named = feed_next sources j (get_or ls j a).next mid in (
      mid ++ n ∷ [],
      rest ++ n ∷ [],
      subst (λ (x : ℕ). Keeps new (mid ++ feed_next sources j x mid ∷ [])) is k,
      ap (λ (ns : List Named). ns ++ n ∷ []) front ∙ append_assoc sources rest (n ∷ []),
      ap (λ (i : ℕ). (mid ++ n ∷ []) ++ feeds_named sources i (drop (j + 1) ls) (mid ++ n ∷ [])) (let q : j + 1 ≡ suc j = omega arith in q)
          ∙ feeds_next sources j (get_or ls j a) (drop (j + 1) ls) mid total (ap (λ (x : List AigLatch). mid ++ feeds_named sources j x mid) (sym (drop_more ls j a l)) ∙ e),
    )

-- part by part

module _ (g : Aig) (s : Given) where
  pub keeps_inputs : (ls : List ℕ) → ls ≡ g.inputs → Keeps s ([] ++ places_named false g.symbols OfInput 0 ls []) → Keeps s (inputs_of g)
  keeps_inputs ls e k = subst (Keeps s) (ap (λ (x : List ℕ). places_named false g.symbols OfInput 0 x []) e ∙ sources_are g.symbols OfInput 0 g.inputs []) k

  pub keeps_latches : (ls : List ℕ) → ls ≡ map latch_literal g.latches → Keeps s (inputs_of g ++ places_named false g.symbols OfLatch 0 ls (inputs_of g)) → Keeps s (sources_of g)
  keeps_latches ls e k = subst (Keeps s) (ap (λ (x : List ℕ). inputs_of g ++ places_named false g.symbols OfLatch 0 x (inputs_of g)) e ∙ ap (λ (ns : List Named). inputs_of g ++ ns) (sources_are g.symbols OfLatch 0 (map latch_literal g.latches) (inputs_of g))) k

  pub keeps_outputs : (ls : List ℕ) → ls ≡ g.outputs → Keeps s (sources_of g ++ places_named true g.symbols OfOutput 0 ls (sources_of g)) → Keeps s (sources_of g ++ outputs_of g)
  keeps_outputs ls e k = subst (Keeps s) (ap (λ (x : List ℕ). sources_of g ++ places_named true g.symbols OfOutput 0 x (sources_of g)) e ∙ ap (λ (ns : List Named). sources_of g ++ ns) (outputs_are g.symbols 0 g.outputs (sources_of g))) k

  pub keeps_all : Keeps s ((sources_of g ++ outputs_of g) ++ feeds_of g) → Keeps s (named_of g)
  keeps_all k = subst (Keeps s) (append_assoc (sources_of g) (outputs_of g) (feeds_of g)) k

  pub numbers_many : Keeps s (sources_of g ++ outputs_of g) → length (source_literals g) ≤ length s.numbers.items
  numbers_many k =
      omega (arith, ap length (source_literals_are g), length-map (sources_of g) literal_of, length-append (sources_of g) (outputs_of g), ap length k.words, length-map s.numbers.items (word_at s.names), length-map (sources_of g ++ outputs_of g) name_of)

-- What names a place, as the code has it.
abbrev pub Names : Given → Given → List Symbol → Bool → Place → List ℕ → Type 0
Names old new symbols keeps p ls = (known : List Named) → Keeps old known → Keeps new (known ++ places_named keeps symbols p 0 ls known)

pub kept_outputs : (g : Aig) (s t u v : Given) (symbols : List Symbol) (ins lts outs : List ℕ) → symbols ≡ g.symbols → ins ≡ g.inputs → lts ≡ map latch_literal g.latches → outs ≡ g.outputs
    → Keeps s [] → Names s t symbols false OfInput ins → Names t u symbols false OfLatch lts → Names u v symbols true OfOutput outs → Keeps v (sources_of g ++ outputs_of g)
kept_outputs g s t u v symbols ins lts outs e i l o k a b c =
    let a2 = subst (λ (xs : List Symbol). Names s t xs false OfInput ins) e a in
    let b2 = subst (λ (xs : List Symbol). Names t u xs false OfLatch lts) e b in
    let c2 = subst (λ (xs : List Symbol). Names u v xs true OfOutput outs) e c in
    keeps_outputs g v outs o (c2 (sources_of g) (keeps_latches g u lts l (b2 (inputs_of g) (keeps_inputs g t ins i (a2 [] k)))))
