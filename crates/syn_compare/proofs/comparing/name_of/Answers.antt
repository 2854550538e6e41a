use Rattle.std.proofs.Common.{◌≡◌, ℕ, ◌<◌, List, [], length, map, get_or, sym, ap, ◌∙◌, subst, arith}
use Rattle.std.proofs.lemmas.List.{get_or-map, length-map}
use Rattle.std.proofs.lemmas.Result.{IfOk-weaker}
use Rattle.syn_netlist.specs.Numbers.{word_at}
use Rattle.syn_netlist.proofs.Places.{below_at}
use Rattle.syn_compare.proofs.comparing.name_of.Goals as goal

-- as many numbers as names
inside : (names : List (List ℕ)) (numbers : List ℕ) (words : List (List ℕ)) (signal : ℕ) → map (word_at names) numbers ≡ words → signal < length words → signal < length numbers
inside names numbers words signal e lt = omega (arith, lt, length-map numbers (word_at names), ap (λ (ws : List (List ℕ)). length ws) e)

pub number_at-number-requires : goal.number_at-number-requires
number_at-number-requires c =
    let f = c.args.frame.now in
    omega (arith, inside f.names c.in_ok-numbers.numbers.items _ c.args.signal c.in_ok-numbers.ensures.words c.requires, ap (λ (ns : List ℕ). length ns) c.as_slice.ensures.value)

pub word_of-requires : goal.word_of-requires
word_of-requires c =
    let f = c.args.frame.now in
    let numbers = c.in_ok-numbers.numbers.items in
    let is : c.number_at-number.result ≡ get_or numbers c.args.signal 0 = c.number_at-number.ensures ∙ ap (λ (ns : List ℕ). get_or ns c.args.signal 0) c.as_slice.ensures.value in
    subst (λ (k : ℕ). k < length f.names) (sym is) (below_at (length f.names) numbers c.args.signal c.in_ok-numbers.ensures.below (inside f.names numbers _ c.args.signal c.in_ok-numbers.ensures.words c.requires))

pub returns : goal.returns
returns c =
    let f = c.args.frame.now in
    let numbers = c.in_ok-numbers.numbers.items in
    let is : c.number_at-number.result ≡ get_or numbers c.args.signal 0 = c.number_at-number.ensures ∙ ap (λ (ns : List ℕ). get_or ns c.args.signal 0) c.as_slice.ensures.value in
    IfOk-weaker c.word_of.result _ _
    (λ w e. e ∙ ap (word_at f.names) is ∙ sym (get_or-map (word_at f.names) numbers c.args.signal 0 [] (inside f.names numbers _ c.args.signal c.in_ok-numbers.ensures.words c.requires))
    ∙ ap (λ (ws : List (List ℕ)). get_or ws c.args.signal []) c.in_ok-numbers.ensures.words)
    c.word_of.ensures
