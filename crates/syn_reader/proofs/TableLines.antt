-- The names of a table's line, and the table with its rows.
use Rattle.std.proofs.Common.{◌≡◌, ℕ, ◌||◌, Bool, true, false, if◌then◌else◌, List, [], ◌∷◌, ◌++◌, length, map, refl, sym, ap, ap₂, ◌∙◌, subst, Some, None, option_map}
use Rattle.std.specs.Option.{option_or}
use Rattle.syn_lex.specs.Lines.{is_nil}
use Rattle.syn_netlist.specs.Kept.{rows_fit, polarity_fits}
use Rattle.syn_netlist.specs.Lists as lists
use Rattle.syn_reader.specs.declared.Kind.{Kind}
use Rattle.syn_reader.specs.declared.Kind.TheVariants as kinds
use Rattle.syn_reader.specs.Faults.{NoName, DefinedTwice}
use Rattle.syn_reader.specs.Shapes.{row_words}
use Rattle.syn_reader.specs.Definitions.{names_defined, forbids}
use Rattle.syn_reader.specs.Computed.{row_parts, is_on, table_of}
use Rattle.syn_reader.specs.Keywords.{fault_where, line_fault}
use Rattle.syn_reader.specs.Marking.{by_kind, forbidden_by, also, Adds, Same, first_twice}
use Rattle.syn_reader.proofs.Words.{last_snoc}
use Rattle.syn_reader.proofs.TableLaws.{table_again, rows_back}
use Rattle.std.proofs.Math.Bool.{or-false}

pub defines_last : (xs : List (List ℕ)) (x : List ℕ) → names_defined kinds.Names (xs ++ x ∷ []) ≡ x ∷ []
defines_last [] x = refl
defines_last (y ∷ ys) x = ap (λ (w : List ℕ). w ∷ []) (last_snoc (y ∷ ys) x)

not_nil : (xs : List (List ℕ)) (x : List ℕ) → is_nil (xs ++ x ∷ []) ≡ false
not_nil [] x = refl
not_nil (y ∷ ys) x = refl

-- the fault of a line with these words
table_fault : (test : Kind → List ℕ → Bool) (line : ℕ) (words xs : List (List ℕ)) (x : List ℕ) → words ≡ xs ++ x ∷ []
    → line_fault test kinds.Names line words ≡ option_map (DefinedTwice line) (if test kinds.Names x then Some x else None)
table_fault test line words xs x e =
    ap (line_fault test kinds.Names line) e
    ∙ ap₂ (λ b ws. option_or (fault_where b (NoName line)) (option_map (DefinedTwice line) (first_twice test kinds.Names ws))) (not_nil xs x) (defines_last xs x)

pub table_faultless : (test mid : Kind → List ℕ → Bool) (line : ℕ) (words xs : List (List ℕ)) (x : List ℕ) → words ≡ xs ++ x ∷ [] → Same test mid → mid kinds.Names x ≡ false → line_fault test kinds.Names line words ≡ None
table_faultless test mid line words xs x e s f = table_fault test line words xs x e ∙ ap (λ b. option_map (DefinedTwice line) (if b then Some x else None)) (sym (s kinds.Names x) ∙ f)

pub table_twice : (test mid : Kind → List ℕ → Bool) (line : ℕ) (words xs : List (List ℕ)) (x : List ℕ) → words ≡ xs ++ x ∷ [] → Same test mid → mid kinds.Names x ≡ true → line_fault test kinds.Names line words ≡ Some (DefinedTwice line x)
table_twice test mid line words xs x e s f = table_fault test line words xs x e ∙ ap (λ b. option_map (DefinedTwice line) (if b then Some x else None)) (sym (s kinds.Names x) ∙ f)

-- one definition
pub adds_one : (by : Kind) (words : List (List ℕ)) (x : List ℕ) (old mid new : Kind → List ℕ → Bool) → words ≡ x ∷ [] → Same old mid → Same (also by x mid) new → Adds by words old new
adds_one by words x old mid new e s t k w =
    t k w
    ∙ (ap (λ b. forbids (by_kind by x) (by_kind k w) || b) (s k w)
    ∙ (ap (λ b. b || old k w) (sym (or-false (forbids (by_kind by x) (by_kind k w))))
    ∙ ap (λ ws. forbidden_by (map (by_kind by) ws) k w || old k w) (sym e)))

-- the table of a line with its rows
pub table_is : (words is : List (List ℕ)) (o : List ℕ) (below : List (List (List ℕ))) (n : ℕ) (on : Bool) (parts : List (List ℕ)) → words ≡ is ++ o ∷ [] → n ≡ length is → is_on below ≡ on → row_parts n on below ≡ Some parts
    → (let t : lists.Table = record { inputs = is; output = o; rows = parts; on = on } in table_of words below ≡ Some t)
table_is words is o below n on parts w l b r =
    let back = rows_back is on below parts (ap (λ k. row_parts k on below) (sym l) ∙ r) in
    table_again words below (record { inputs = is; output = o; rows = parts; on = on }) (record {
      names = w;
      rows = back.0;
      fits = back.1;
      empty = λ e. sym b ∙ ap is_on (back.0 ∙ ap (map (row_words is on)) e);
    })

pub parts_fit : (is : List (List ℕ)) (below : List (List (List ℕ))) (n : ℕ) (on : Bool) (parts : List (List ℕ)) → n ≡ length is → row_parts n on below ≡ Some parts → rows_fit n parts ≡ true
parts_fit is below n on parts l r = subst (λ k. rows_fit k parts ≡ true) (sym l) (rows_back is on below parts (ap (λ k. row_parts k on below) (sym l) ∙ r)).1

pub on_fits : (is : List (List ℕ)) (below : List (List (List ℕ))) (n : ℕ) (on : Bool) (parts : List (List ℕ)) → n ≡ length is → is_on below ≡ on → row_parts n on below ≡ Some parts → polarity_fits parts on ≡ true
on_fits is below n on [] l b r = sym b ∙ ap is_on (rows_back is on below [] (ap (λ k. row_parts k on below) (sym l) ∙ r)).0
on_fits is below n on (p ∷ ps) l b r = refl
