-- What the numbers on a line say.
use Rattle.std.proofs.Common.{◌≡◌, ℕ, ◌≤◌, ◌&&◌, Bool, true, false, cond, List, [], ◌∷◌, IfSome, option_map, Option, Some, None, refl, sym, ap, ◌∙◌, subst, le-leb}
use Rattle.std.proofs.lemmas.Bool.{cond-true, and_from}
use Rattle.syn_aiger_files.specs.declared.numbers.OnLine.{OnLine}
use Rattle.syn_aiger_files.specs.declared.numbers.OnLine.TheVariants.{One, Two, Three, Other}
use Rattle.syn_aiger_files.specs.declared.sets.NumberSet.{NumberSet}
use Rattle.syn_aiger_files.specs.Parts.{AndLine, Gate, Input, InputLine, LatchLine, Latched, NextLine, Output, OutputLine, PairOf, Part, Wanted, defined_by, is_reset, latch_by, may_define, may_read, said_by, taken}
use Rattle.syn_aiger_files.specs.Gathered.{SaysPart, is_text}
use Rattle.syn_aiger_files.specs.Seen.{AreSeen}
use Rattle.syn_aiger_files.specs.Shown.{listed, shown_by}
use Rattle.syn_aiger_files.specs.Texts.{behind, first_line, numbers_of, numbers_on, or_none, words_of}

pub says_input : (most : ℕ) (ls : List ℕ) (l : ℕ) (numbers : OnLine) → numbers ≡ One l → may_define most ls l ≡ true → Path (Option Part) (Some (Input l)) (said_by most ls InputLine (listed numbers))
says_input most ls l numbers e may = sym (ap (λ (n : OnLine). said_by most ls InputLine (listed n)) e ∙ cond-true (may_define most ls l) (Some (Input l)) None may)

pub says_and : (most : ℕ) (ls : List ℕ) (l first second : ℕ) (numbers : OnLine) → numbers ≡ Three l first second → may_define most ls l ≡ true → first ≤ most → second ≤ most
    → Path (Option Part) (Some (Gate (record { literal = l; first = first; second = second }))) (said_by most ls AndLine (listed numbers))
says_and most ls l first second numbers e may f s =
    sym (ap (λ (n : OnLine). said_by most ls AndLine (listed n)) e
    ∙ cond-true (may_define most ls l && (may_read most first && may_read most second)) (Some (Gate (record { literal = l; first = first; second = second }))) None
    (and_from (may_define most ls l) (may_read most first && may_read most second) may (and_from (may_read most first) (may_read most second) (le-leb first most f) (le-leb second most s))))

defines_by : (c : Bool) (own next reset : ℕ) (ls : List ℕ) (seen : NumberSet) → AreSeen seen (own ∷ ls) → IfSome (cond c (Some (Latched (record { literal = own; next = next; reset = reset }))) None) (λ (p : Part). AreSeen seen (defined_by ls p))
defines_by true own next reset ls seen h = h
defines_by false own next reset ls seen h = tt

pub latch_defines : (most own next reset : ℕ) (ls : List ℕ) (seen : NumberSet) (r : Option Part) → r ≡ latch_by most own next reset → AreSeen seen (own ∷ ls) → IfSome r (λ (p : Part). AreSeen seen (defined_by ls p))
latch_defines most own next reset ls seen r e h =
    subst (λ (o : Option Part). IfSome o (λ (p : Part). AreSeen seen (defined_by ls p))) (sym e) (defines_by (may_read most next && is_reset own reset) own next reset ls seen h)

pub latch_is : (most own next reset : ℕ) (ls : List ℕ) (r : Option Part) → r ≡ latch_by most own next reset → may_define most ls own ≡ true → r ≡ cond (may_define most ls own) (latch_by most own next reset) None
latch_is most own next reset ls r e may = e ∙ sym (cond-true (may_define most ls own) (latch_by most own next reset) None may)

-- only lines of three numbers at most say anything
pub said_listed : (most : ℕ) (ls : List ℕ) (w : Wanted) (ns : List ℕ) → said_by most ls w (listed (shown_by ns)) ≡ said_by most ls w ns
said_listed most ls w [] = refl
said_listed most ls w (a ∷ []) = refl
said_listed most ls w (a ∷ b ∷ []) = refl
said_listed most ls w (a ∷ b ∷ c ∷ []) = refl
said_listed most ls InputLine (a ∷ b ∷ c ∷ d ∷ ns) = refl
said_listed most ls LatchLine (a ∷ b ∷ c ∷ d ∷ ns) = refl
said_listed most ls (NextLine own) (a ∷ b ∷ c ∷ d ∷ ns) = refl
said_listed most ls OutputLine (a ∷ b ∷ c ∷ d ∷ ns) = refl
said_listed most ls AndLine (a ∷ b ∷ c ∷ d ∷ ns) = refl
said_listed most ls (PairOf own) (a ∷ b ∷ c ∷ d ∷ ns) = refl

-- a line and what stands behind it
pub line_taken : (most : ℕ) (ls : List ℕ) (w : Wanted) (bytes line rest : List ℕ) (numbers : OnLine) (part : Option Part)
    → ((bs : List ℕ) → taken most ls w bs ≡ option_map (λ (p : Part). (p, behind 10 bs)) (said_by most ls w (numbers_on bs)))
    → line ≡ first_line bytes → rest ≡ behind 10 bytes → numbers ≡ shown_by (or_none (numbers_of (words_of line))) → part ≡ said_by most ls w (listed numbers)
    → option_map (λ (p : Part). (p, rest)) part ≡ taken most ls w bytes
line_taken most ls w bytes line rest numbers part by l r n s =
    ap (option_map (λ (p : Part). (p, rest))) (s ∙ ap (λ (k : OnLine). said_by most ls w (listed k)) (n ∙ ap (λ (t : List ℕ). shown_by (or_none (numbers_of (words_of t)))) l) ∙ said_listed most ls w (numbers_on bytes))
    ∙ ap (λ (bs : List ℕ). option_map (λ (p : Part). (p, bs)) (said_by most ls w (numbers_on bytes))) r
    ∙ sym (by bytes)

pub text_taken : (most : ℕ) (ls : List ℕ) (w : Wanted) → is_text w ≡ true → (bs : List ℕ) → taken most ls w bs ≡ option_map (λ (p : Part). (p, behind 10 bs)) (said_by most ls w (numbers_on bs))
text_taken most ls InputLine e bs = refl
text_taken most ls LatchLine e bs = refl
text_taken most ls (NextLine own) e bs = absurd (cc)
text_taken most ls OutputLine e bs = refl
text_taken most ls AndLine e bs = refl
text_taken most ls (PairOf own) e bs = absurd (cc)

-- an output defines nothing

output_by : (c : Bool) (l : ℕ) (ls : List ℕ) (seen : NumberSet) → AreSeen seen ls → IfSome (cond c (Some (Output l)) None) (λ (p : Part). AreSeen seen (defined_by ls p))
output_by true l ls seen h = h
output_by false l ls seen h = tt

output_said : (most : ℕ) (ls : List ℕ) (numbers : OnLine) (seen : NumberSet) → AreSeen seen ls → IfSome (said_by most ls OutputLine (listed numbers)) (λ (p : Part). AreSeen seen (defined_by ls p))
output_said most ls (One l) seen h = output_by (may_read most l) l ls seen h
output_said most ls (Two a b) seen h = tt
output_said most ls (Three a b c) seen h = tt
output_said most ls Other seen h = tt

pub output_says : (most : ℕ) (ls : List ℕ) (w : Wanted) (numbers : OnLine) (seen : NumberSet) (r : Option Part) → w ≡ OutputLine → r ≡ said_by most ls OutputLine (listed numbers) → AreSeen seen ls → SaysPart most ls w (listed numbers) seen r
output_says most ls w numbers seen r i e h =
    subst (λ (v : Wanted). SaysPart most ls v (listed numbers) seen r) (sym i)
    (e, subst (λ (o : Option Part). IfSome o (λ (p : Part). AreSeen seen (defined_by ls p))) (sym e) (output_said most ls numbers seen h))
