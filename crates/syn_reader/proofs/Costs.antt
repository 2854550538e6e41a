-- The cost of a flattened netlist is no more than the words of all instances, each as long as the file.
use Rattle.std.proofs.Common.{arith, ◌≡◌, ℕ, suc, ◌+◌, ◌*◌, ◌^◌, ◌<◌, ◌≤◌, ◌==◌, Bool, true, false, if◌then◌else◌, List, [], ◌∷◌, length, map, flat_map, bytes_eq, sum_by, refl, sym, ap, ◌∙◌, subst, inl, inr, Option, Some, None}
use Rattle.std.specs.List.{list_all}
use Rattle.std.proofs.Math.Nat.{add-mul, mul-le-mul_right, one-mul}
use Rattle.std.proofs.lemmas.Bool.{and_parts, cases_Bool, cond-true, cond-false, eqb-true}
use Rattle.std.proofs.lemmas.List.Sums.{count_by-le-length, sum_by-append, sum_by-cons}
use Rattle.syn_netlist.specs.Costs.{is_sign, row_cost, table_cost, cost_of}
use Rattle.syn_netlist.specs.Lists.{Table, Netlist}
use Rattle.syn_models.proofs.Trees.{one_tree}
use Rattle.syn_models.specs.FlatFaults.{Flattens, WithinWords, most_words}
use Rattle.syn_models.specs.Flattening.{called_inside, called_table, flat, inner_name, as_it_is, tables_called}
use Rattle.syn_models.specs.Models as models
use Rattle.syn_models.specs.Models.{Model, Models, StatementKind, all_of, model_named, tables_in}
use Rattle.syn_models.specs.Opening.{Opened, End, Plain, Instance, Opens, instances, words_inside, words_of as words_in_all}
use Rattle.syn_reader.specs.declared.Kind.{Kind}
use Rattle.syn_reader.specs.declared.Kind.TheVariants as kinds
use Rattle.syn_reader.specs.Shapes.{IsTable, is_input_part, output_word, row_words}
use Rattle.syn_reader.specs.Statements.{Statement, is_end, is_row, statements, rows_below}
use Rattle.syn_reader.specs.Parted.{by_model, words_in, words_of}
use Rattle.syn_reader.specs.Saying.{Say, Says, SpellAll}
use Rattle.syn_reader.specs.Reading.{Spells}
use Rattle.syn_reader.proofs.LineSizes.{AllShort, Short, file_short, size_text}

abbrev size_rows : List (List (List ℕ)) → ℕ
size_rows [] = 0
size_rows (r ∷ rs) = size_text r + size_rows rs

-- the cost of the tables that statements say
abbrev tables_cost : List models.Statement → ℕ
tables_cost said = sum_by table_cost (flat_map (λ s. tables_in s.kind) said)

one_sign : (on : Bool) → length (output_word on) ≡ 1
one_sign true = refl
one_sign false = refl

row_size : (is : List (List ℕ)) (on : Bool) (part : List ℕ) → is_input_part (length is) part ≡ true → row_cost part ≤ size_text (row_words is on part)
row_size [] on [] h = let o = one_sign on in omega (arith, o)
row_size [] on (c ∷ cs) h = absurd (let e = (and_parts (suc (length cs) == 0) _ h).0 in let z = eqb-true (suc (length cs)) 0 e in omega arith)
row_size (i ∷ is) on part h = let o = one_sign on in let c = count_by-le-length is_sign part in omega (arith, o, c)

rows_size : (is : List (List ℕ)) (on : Bool) (parts : List (List ℕ)) → list_all (is_input_part (length is)) parts ≡ true → sum_by row_cost parts ≤ size_rows (map (row_words is on) parts)
rows_size is on [] h = omega arith
rows_size is on (p ∷ ps) h =
    let both = and_parts (is_input_part (length is) p) (list_all (is_input_part (length is)) ps) h in
    let here = row_size is on p both.0 in
    let rest = rows_size is on ps both.1 in
    let sum = sum_by-cons row_cost p ps in
    omega (arith, here, rest, sum)

table_size : (words : List (List ℕ)) (below : List (List (List ℕ))) (t : Table) → IsTable words below t → table_cost t ≤ size_rows below
table_size words below t is = subst (λ l. table_cost t ≤ size_rows l) (sym is.rows) (rows_size t.inputs t.on t.rows is.fits)

-- a line has no more letters than its words, each as long as this
row_words_size : (most : ℕ) (ws : List (List ℕ)) → size_text ws ≤ most → size_text ws ≤ length ws * most
row_words_size most [] h = omega arith
row_words_size most (w ∷ ws) h =
    let p : 1 * most ≤ suc (length ws) * most = mul-le-mul_right most (omega arith) in
    let o = one-mul most in
    omega (arith, p, o, h)

abbrev words_by : Kind → List (List ℕ) → ℕ
words_by kind words = if is_row kind then length words else if is_end kind then 0 else suc (length words)

-- what one statement adds
step : (line : ℕ) (kind : Kind) (words : List (List ℕ)) (rows : List (List (List ℕ))) (rest said : List models.Statement) (most low : ℕ) → Says line kind words rows rest said → size_text words ≤ most → tables_cost rest + size_rows rows ≤ low
    → tables_cost said + size_rows (if is_row kind then words ∷ rows else []) ≤ words_by kind words * most + low
step line kinds.Row words rows rest said most low a s h = let e = ap tables_cost a in let r = row_words_size most words s in omega (arith, e, r, h)
step line kinds.Unknown words rows rest said most low a s h = absurd a
step line kinds.Model words rows rest said most low a s h = let e = ap tables_cost a in omega (arith, e, h)
step line kinds.Inputs words rows rest said most low a s h = let e = ap tables_cost a in omega (arith, e, h)
step line kinds.Outputs words rows rest said most low a s h = let e = ap tables_cost a in omega (arith, e, h)
step line kinds.Clock words rows rest said most low a s h = let e = ap tables_cost a in omega (arith, e, h)
step line kinds.Latch words rows rest said most low a s h = let e = ap tables_cost a.2 in omega (arith, e, h)
step line kinds.Subckt words rows rest said most low a s h = let e = ap tables_cost a.2 in omega (arith, e, h)
step line kinds.End words rows rest said most low a s h = let e = ap tables_cost a in omega (arith, e, h)
step line kinds.Names words rows rest said most low a s h =
    let e = ap tables_cost a.2 in
    let t = table_size words rows a.0 a.1 in
    let sum = sum_by-cons table_cost a.0 (flat_map (λ (s : models.Statement). tables_in s.kind) rest) in
    omega (arith, e, t, h, sum)

said_cost : (most : ℕ) (ss : List Statement) (said : List models.Statement) → Short most ss → Say ss said → tables_cost said + size_rows (rows_below ss) ≤ words_of ss * most
said_cost most [] said h say = let e = ap tables_cost say in omega (arith, e)
said_cost most (s ∷ ss) said h say =
    let here = step s.line s.kind s.words (rows_below ss) say.0 said most (words_of ss * most) say.2 h.0 (said_cost most ss say.0 h.1 say.1) in
    let sum = add-mul (words_in s) (words_of ss) most in
    omega (arith, here, sum)

-- The tables of each model cost no more than its words, each as long as this.
abbrev Cheap : ℕ → List Model → Type 0
Cheap most [] = Unit {0}
Cheap most (m ∷ ms) = (tables_cost m.statements ≤ m.words * most) × Cheap most ms

spelled_cheap : (most : ℕ) (parts : List (List Statement)) (ms : List Model) → AllShort most parts → SpellAll parts ms → Cheap most ms
spelled_cheap most [] [] h s = tt
spelled_cheap most [] (m ∷ ms) h s = absurd s
spelled_cheap most (p ∷ ps) [] h s = absurd s
spelled_cheap most (p ∷ ps) (m ∷ ms) h s =
    let low = said_cost most p m.statements h.0 s.0.said in
    let words = ap (λ (k : ℕ). k * most) s.0.words in
    (omega (arith, low, words), spelled_cheap most ps ms h.1 s.1)

named_cheap : (most : ℕ) (ms : List Model) → Cheap most ms → (name : List ℕ) (m : Model) → model_named ms name ≡ Some m → tables_cost m.statements ≤ m.words * most
named_cheap most [] h name m e = absurd (let z : ◌≡◌ {A = Option Model} None (Some m) = e in cc)
named_cheap most (x ∷ xs) h name m e = elim (cases_Bool (bytes_eq x.name name)) [
  | inl t ↦ (let s : Some x ≡ Some m = sym (cond-true (bytes_eq x.name name) (Some x) (model_named xs name) t) ∙ e in let same : x ≡ m = cc in subst (λ (k : Model). tables_cost k.statements ≤ k.words * most) same h.0)
  | inr t ↦ named_cheap most xs h.1 name m (sym (cond-false (bytes_eq x.name name) (Some x) (model_named xs name) t) ∙ e)
]

-- tables cost the same, however their names are called
called_cost : (called : List ℕ → List ℕ) (ts : List Table) → sum_by table_cost (map (called_table called) ts) ≡ sum_by table_cost ts
called_cost called [] = refl
called_cost called (t ∷ ts) =
    let a = sum_by-cons table_cost (called_table called t) (map (called_table called) ts) in
    let b = sum_by-cons table_cost t ts in
    let e = called_cost called ts in
    omega (arith, a, b, e)

flat_cost : (most : ℕ) (ms : List Model) → Cheap most ms → (inner : ℕ → List ℕ → List ℕ) (next : ℕ) (called : List ℕ → List ℕ) (ss : List models.Statement) (t : Opened) → Opens ms ss t
    → sum_by table_cost (flat tables_called inner next called t) ≤ tables_cost ss + words_inside t * most
flat_cost most ms h inner next called [] End o = omega arith
flat_cost most ms h inner next called [] (Plain kind rest) o = absurd o
flat_cost most ms h inner next called [] (Instance c m inside rest) o = absurd o
flat_cost most ms h inner next called (s ∷ ss) End o = absurd o
flat_cost most ms h inner next called (s ∷ ss) (Plain kind rest) o =
    let low = flat_cost most ms h inner next called ss rest o.2 in
    let a = sum_by-append table_cost (tables_called called kind) (flat tables_called inner next called rest) in
    let b = called_cost called (tables_in kind) in
    let c = sum_by-append table_cost (tables_in s.kind) (flat_map (λ (s : models.Statement). tables_in s.kind) ss) in
    let d = ap (λ (k : StatementKind). sum_by table_cost (tables_in k)) o.0 in
    omega (arith, low, a, b, c, d)
flat_cost most ms h inner next called (s ∷ ss) (Instance c m inside rest) o =
    let low = flat_cost most ms h inner (suc next) (called_inside called (inner next) c.binds) m.statements inside o.2 in
    let more = flat_cost most ms h inner (suc (next + instances inside)) called ss rest o.3 in
    let own = named_cheap most ms h c.model m o.1 in
    let a = sum_by-append table_cost (flat tables_called inner (suc next) (called_inside called (inner next) c.binds) inside) (flat tables_called inner (suc (next + instances inside)) called rest) in
    let b = sum_by-append table_cost (tables_in s.kind) (flat_map (λ (s : models.Statement). tables_in s.kind) ss) in
    let d = add-mul m.words (words_inside inside + words_inside rest) most in
    let e = add-mul (words_inside inside) (words_inside rest) most in
    omega (arith, low, more, own, a, b, d, e)

pub flat_cost_few : (bytes : List ℕ) (ms : Models) (n : Netlist) → length bytes < 2 ^ 32 → Spells bytes ms → Flattens ms n → WithinWords ms → cost_of n < 2 ^ 64
flat_cost_few bytes ms n short s f (t, o, few) =
    let most : ℕ = length bytes in
    let tree : Opened = f.flattening.tree in
    let cheap = spelled_cheap most (by_model (statements bytes)) (all_of ms) (file_short bytes) s.spelled in
    let all = flat_cost most (all_of ms) cheap (inner_name f.flattening.count) 1 as_it_is ms.main.statements tree f.flattening.opens in
    let cost = ap cost_of f.flattening.is in
    let same : words_in_all ms.main t ≡ words_in_all ms.main tree = ap (words_in_all ms.main) (one_tree (all_of ms) ms.main.statements t tree o f.flattening.opens) in
    let sum = add-mul ms.main.words (words_inside tree) most in
    let bound : words_in_all ms.main tree * most ≤ most_words * most = mul-le-mul_right most (omega (arith, same, few)) in
    omega (arith, all, cost, cheap.0, sum, bound, short)
