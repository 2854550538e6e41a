-- What is gathered, when one more line says something.
use Rattle.std.proofs.Common.{◌≡◌, ℕ, zero, suc, ◌+◌, ◌≤◌, ◌==◌, ◌&&◌, ◌||◌, not, if◌then◌else◌, Bool, true, false, List, [], ◌∷◌, ◌++◌, length, map, bytes_eq, refl, sym, ap, ap₂, ◌∙◌, subst, Option, Some, None, option_map, arith}
use Rattle.std.specs.List.{list_all}
use Rattle.std.proofs.lemmas.Bool.Decides.{nat_tests}
use Rattle.std.proofs.lemmas.Bool.{and_from, and_parts, cond-false}
use Rattle.std.proofs.lemmas.List.Folds.{list_all-append}
use Rattle.std.proofs.lemmas.List.{map-append}
use Rattle.syn_netlist.specs.declared.Latch.{Latch}
use Rattle.syn_netlist.specs.Kept.{control_number, latch_in, nil_word}
use Rattle.syn_netlist.specs.Lists as lists
use Rattle.syn_netlist.specs.Lists.{control_of}
use Rattle.syn_netlist.specs.Numbers.{all_below, word_at, Grows}
use Rattle.syn_netlist.specs.Words.{has_word}
use Rattle.syn_netlist.proofs.Growing.{length-grows, no_nil_words}
use Rattle.syn_netlist.proofs.Sets.{has_word-append}
use Rattle.syn_models.specs.declared.hierarchy.Statement.{Statement}
use Rattle.syn_models.specs.declared.hierarchy.StatementKind.{StatementKind}
use Rattle.syn_models.specs.Kept.{kind_in, numbers_in, statement_in, statements_below}
use Rattle.syn_models.specs.Models as models
use Rattle.syn_models.specs.Models.{names_in}
use Rattle.syn_reader.specs.declared.Kind.{Kind}
use Rattle.syn_reader.specs.declared.signals.Signals.{Signals}
use Rattle.syn_reader.specs.Computed.{row_part, row_parts}
use Rattle.syn_reader.specs.Definitions.{names_defined}
use Rattle.syn_reader.specs.Marking.{Adds, forbidden, with_words}
use Rattle.syn_reader.proofs.Words.{mapped, then_some}
use Rattle.syn_reader.specs.declared.model_words.Gathering.{Gathering}
use Rattle.syn_reader.specs.Computed.{said_by}
use Rattle.syn_reader.specs.Gathers.{Gathers, IsSound, forbids_in, line_total, may_stand, row_total, said_in}
use Rattle.syn_reader.specs.Saying.{on_line}
use Rattle.syn_reader.proofs.Growing.{has_with_words, statements_in-grows, statements_below-more}

-- One more statement stands behind those that are there, by names that have grown.
pub record IsPut (old new : Gathering) (line : ℕ) (kind : StatementKind) (says : models.StatementKind) : Type 0 where
  pub sound : IsSound old
  pub grows : Grows old.signals.names new.signals.names
  pub items : new.statements.items ≡ old.statements.items ++ record { line = line; kind = kind } ∷ []
  pub spelled : kind_in new.signals.names kind ≡ says

pub put_behind : (old new : Gathering) (line : ℕ) (kind : StatementKind) (says : models.StatementKind) → IsPut old new line kind says → said_in new ≡ said_in old ++ on_line line says []
put_behind old new line kind says p =
    ap (map (statement_in new.signals.names)) p.items
    ∙ (map-append (statement_in new.signals.names) old.statements.items (record { line = line; kind = kind } ∷ [])
    ∙ ap₂ (λ (l : List models.Statement) (k : models.StatementKind). l ++ on_line line k []) (statements_in-grows old.signals.names new.signals.names old.statements.items p.grows p.sound.below) p.spelled)

pub still_sound : (old new : Gathering) (line : ℕ) (kind : StatementKind) (says : models.StatementKind) → IsPut old new line kind says → length new.signals.marks.items ≡ length new.signals.names
    → all_below (length new.signals.names) (numbers_in kind) ≡ true → may_stand (record { line = line; kind = says }) ≡ true → IsSound new
still_sound old new line kind says p marked below stands =
    let count = length new.signals.names in
    let test : Statement → Bool = λ s. all_below count (numbers_in s.kind) in
    record {
      marked = marked;
      below = ap (statements_below count) p.items
          ∙ (list_all-append test old.statements.items (record { line = line; kind = kind } ∷ [])
          ∙ and_from (statements_below count old.statements.items) (all_below count (numbers_in kind) && true)
          (statements_below-more (length old.signals.names) count old.statements.items (length-grows old.signals.names new.signals.names p.grows) p.sound.below) (and_from (all_below count (numbers_in kind)) true below refl));
      held = ap (list_all may_stand) (put_behind old new line kind says p)
          ∙ (list_all-append may_stand (said_in old) (on_line line says [])
          ∙ and_from (list_all may_stand (said_in old)) (may_stand (record { line = line; kind = says }) && true) p.sound.held (and_from (may_stand (record { line = line; kind = says })) true stands refl));
    }

-- A line was gathered by names as they are now.
pub gathers : (old new : Gathering) (s : Signals) (line : ℕ) (by : Kind) (words : List (List ℕ)) (rows : List (List (List ℕ))) (kind : StatementKind) (says : models.StatementKind) (ws : List (List ℕ)) (size : ℕ)
    → IsSound old → Grows old.signals.names s.names → new.signals ≡ s → new.statements.items ≡ old.statements.items ++ record { line = line; kind = kind } ∷ [] → kind_in s.names kind ≡ says
    → ((rest : List models.Statement) → said_by line by words rows rest ≡ Some (on_line line says rest))
    → Adds by (names_defined by words) (forbids_in old) (forbidden s.names s.marks.items)
    → s.names ≡ with_words old.signals.names ws → ((w : List ℕ) → has_word ws w ≡ has_word (names_in says) w) → length s.names ≤ length old.signals.names + length words
    → new.words ≡ old.words + size → size ≡ line_total by words rows → Gathers by line words rows old new
gathers old new s line by words rows kind says ws size sound g e items k said defined names same count total sized = record {
  says = says;
  said = said;
  put = put_behind old new line kind says (record { sound = sound; grows = subst (λ (x : Signals). Grows old.signals.names x.names) (sym e) g; items = items; spelled = subst (λ (x : Signals). kind_in x.names kind ≡ says) (sym e) k });
  defined = subst (λ (x : Signals). Adds by (names_defined by words) (forbids_in old) (forbidden x.names x.marks.items)) (sym e) defined;
  known = λ w.
      ap (λ (l : List (List ℕ)). has_word l w) (ap (λ (x : Signals). x.names) e ∙ names)
      ∙ (has_with_words old.signals.names ws w ∙ ap (λ b. has_word old.signals.names w || b) (same w));
  count = subst (λ (x : Signals). length x.names ≤ length old.signals.names + length words) (sym e) count;
  total = total ∙ ap (λ n. old.words + n) sized;
}

pub sound_after : (old new : Gathering) (s : Signals) (line : ℕ) (kind : StatementKind) (says : models.StatementKind) → IsSound old → Grows old.signals.names s.names → new.signals ≡ s
    → new.statements.items ≡ old.statements.items ++ record { line = line; kind = kind } ∷ [] → kind_in s.names kind ≡ says
    → length s.marks.items ≡ length s.names → all_below (length s.names) (numbers_in kind) ≡ true → may_stand (record { line = line; kind = says }) ≡ true → IsSound new
sound_after old new s line kind says sound g e items k marked below stands =
    still_sound old new line kind says
    (record { sound = sound; grows = subst (λ (x : Signals). Grows old.signals.names x.names) (sym e) g; items = items; spelled = subst (λ (x : Signals). kind_in x.names kind ≡ says) (sym e) k })
    (subst (λ (x : Signals). length x.marks.items ≡ length x.names) (sym e) marked) (subst (λ (x : Signals). all_below (length x.names) (numbers_in kind) ≡ true) (sym e) below) stands

-- the words of a latch and of a table, in the order of their lines and of their parts
pub table_order : (output w : List ℕ) (inputs : List (List ℕ)) → has_word (inputs ++ output ∷ []) w ≡ has_word (output ∷ inputs) w
table_order output w inputs = has_word-append inputs (output ∷ []) w ∙ turned (has_word inputs w) (bytes_eq output w)
  where
    turned : (a b : Bool) → (a || (b || false)) ≡ (b || a)
    turned true true = refl
    turned true false = refl
    turned false true = refl
    turned false false = refl

pub latch_order : (feed output w : List ℕ) (control : List (List ℕ)) → has_word (feed ∷ (control ++ output ∷ [])) w ≡ has_word (feed ∷ output ∷ control) w
latch_order feed output w control = ap (λ b. bytes_eq feed w || b) (table_order output w control)

-- a latch whose control isn't `NIL` may stand
pub latch_stands : (names : List (List ℕ)) (latch : Latch) (line : ℕ) (says : lists.Latch) → latch_in names latch ≡ says → list_all (λ i. not (bytes_eq nil_word (word_at names i))) (control_number latch.kind) ≡ true → may_stand (record { line = line; kind = models.OneLatch says }) ≡ true
latch_stands names latch line says e h =
    let test : lists.Latch → Bool = λ l. list_all (λ w. not (bytes_eq nil_word w)) (control_of l.kind) in
    let all : (test (latch_in names latch) && true) ≡ true = sym (no_nil_words names (latch ∷ [])) ∙ and_from (list_all (λ i. not (bytes_eq nil_word (word_at names i))) (control_number latch.kind)) true h refl in
    and_from (test says) true (ap test (sym e) ∙ (and_parts (test (latch_in names latch)) true all).0) refl

-- how many words rows have
row_length : (n : ℕ) (on : Bool) (row : List (List ℕ)) (part : List ℕ) → row_part n on row ≡ Some part → length row ≡ (if n == 0 then 1 else 2)
row_length zero on [] part e = absurd (let z : ◌≡◌ {A = Option (List ℕ)} None (Some part) = e in cc)
row_length zero on (o ∷ []) part e = refl
row_length zero on (o ∷ p ∷ ps) part e = absurd (let z : ◌≡◌ {A = Option (List ℕ)} None (Some part) = e in cc)
row_length (suc n) on [] part e = absurd (let z : ◌≡◌ {A = Option (List ℕ)} None (Some part) = e in cc)
row_length (suc n) on (p ∷ []) part e = absurd (let z : ◌≡◌ {A = Option (List ℕ)} None (Some part) = e in cc)
row_length (suc n) on (p ∷ o ∷ []) part e = sym (cond-false (suc n == 0) 1 2 (let h : (suc n == 0) ≡ false = grind (arith, nat_tests) in h))
row_length (suc n) on (p ∷ o ∷ q ∷ qs) part e = absurd (let z : ◌≡◌ {A = Option (List ℕ)} None (Some part) = e in cc)

pub rows_length : (n : ℕ) (on : Bool) (rows : List (List (List ℕ))) (parts : List (List ℕ)) → row_parts n on rows ≡ Some parts → length parts ≡ length rows
rows_length n on [] parts e = ap length (let s : parts ≡ [] = cc in s)
rows_length n on (r ∷ rs) parts e =
    let p = then_some (λ part. option_map (λ (l : List (List ℕ)). part ∷ l) (row_parts n on rs)) (row_part n on r) parts e in
    let q = mapped (λ (l : List (List ℕ)). p.0 ∷ l) (row_parts n on rs) parts p.2 in
    let rest = rows_length n on rs q.0 q.1 in
    let size = ap length q.2 in
    omega (arith, rest, size)

pub rows_total : (n : ℕ) (on : Bool) (rows : List (List (List ℕ))) (parts : List (List ℕ)) → row_parts n on rows ≡ Some parts → row_total rows ≡ (if n == 0 then length parts else (length parts + length parts))
rows_total n on rows parts e = all n on rows e ∙ ap (λ k. if n == 0 then k else (k + k)) (sym (rows_length n on rows parts e))
  where
    all : (n : ℕ) (on : Bool) (rows : List (List (List ℕ))) → row_parts n on rows ≡ Some parts → row_total rows ≡ (if n == 0 then length rows else (length rows + length rows))
    all n on rows e = go rows parts e
      where
        more : (k : ℕ) (b : Bool) (m t : ℕ) → k ≡ (if b then 1 else 2) → t ≡ (if b then m else (m + m)) → k + t ≡ (if b then suc m else (suc m + suc m))
        more k true m t h i = omega (arith, h, i)
        more k false m t h i = omega (arith, h, i)

        go : (rs : List (List (List ℕ))) (ps : List (List ℕ)) → row_parts n on rs ≡ Some ps → row_total rs ≡ (if n == 0 then length rs else (length rs + length rs))
        go [] ps e = zeros (n == 0)
          where
            zeros : (b : Bool) → 0 ≡ (if b then 0 else (0 + 0))
            zeros true = refl
            zeros false = refl
        go (r ∷ rs) ps e =
            let p = then_some (λ part. option_map (λ (l : List (List ℕ)). part ∷ l) (row_parts n on rs)) (row_part n on r) ps e in
            let q = mapped (λ (l : List (List ℕ)). p.0 ∷ l) (row_parts n on rs) ps p.2 in
            more (length r) (n == 0) (length rs) (row_total rs) (row_length n on r p.0 p.1) (go rs q.0 q.1)
