-- What putting commands behind others comes to: one step of it, what it never leaves, and that it comes to one thing.
use Rattle.std.proofs.Common.{◌≡◌, ℕ, zero, suc, ◌-◌, ◌<◌, length, List, [], ◌∷◌, ◌++◌, true, Option, None, Some, IsSomeAnd, Result, Ok, Err, refl, sym, subst, inl, inr, arith}
use Rattle.syn_words.specs.declared.Command.{Command}
use Rattle.syn_words.specs.declared.ScriptFault.{ScriptFault}
use Rattle.syn_words.specs.Files.{meaning_of_file}
use Rattle.syn_io.specs.Outside.{file_at}
use Rattle.syn_command_files.specs.declared.LoadFault.{LoadFault}
use Rattle.syn_command_files.specs.declared.LoadFault.TheVariants as faults
use Rattle.syn_command_files.specs.Sources.{FailsIn, FileFails, FileSays, has_no_source, Puts, PutsAll, Refused, refused, source_in, Sources, text_limit}
use Rattle.syn_command_files.proofs.Quitting.{no_source_behind, no_source_parts}

pub ok_is_not_err : (out : List Command) (refusal : Refused) → Ok out ≡ Err refusal → ⊥
ok_is_not_err out refusal is = cc

pub err_is_not_ok : (out : List Command) (refusal : Refused) → Err refusal ≡ Ok out → ⊥
err_is_not_ok out refusal is = cc

-- one step

pub goes_on : (S : List ℕ → List Command → Result (List Command) Refused → Type 0) (left rest : List Command) (c : Command) (before between : List Command) (outcome : Result (List Command) Refused)
    → left ≡ c ∷ rest → Puts S (source_in c) c before (Ok between) → PutsAll S rest between outcome → PutsAll S left before outcome
goes_on S left rest c before between outcome is one more =
    subst (λ (cs : List Command). PutsAll S cs before outcome) (sym is) (inl (between, one, more))

pub stops : (S : List ℕ → List Command → Result (List Command) Refused → Type 0) (left rest : List Command) (c : Command) (before : List Command) (refusal : Refused)
    → left ≡ c ∷ rest → Puts S (source_in c) c before (Err refusal) → PutsAll S left before (Err refusal)
stops S left rest c before refusal is one =
    subst (λ (cs : List Command). PutsAll S cs before (Err refusal)) (sym is) (inr (refusal, refl, one))

pub ends : (S : List ℕ → List Command → Result (List Command) Refused → Type 0) (left before : List Command) → left ≡ [] → PutsAll S left before (Ok before)
ends S left before is = subst (λ (cs : List Command). PutsAll S cs before (Ok before)) (sym is) refl

pub puts_itself : (S : List ℕ → List Command → Result (List Command) Refused → Type 0) (c : Command) (before after : List Command)
    → source_in c ≡ None → after ≡ before ++ c ∷ [] → Puts S (source_in c) c before (Ok after)
puts_itself S c before after none is =
    subst (λ (o : Option (List ℕ)). Puts S o c before (Ok after)) (sym none) cc

pub puts_file : (depth : ℕ) (told : Option (List (List ℕ × List ℕ))) (c : Command) (name : List ℕ) (said before : List Command) (outcome : Result (List Command) Refused)
    → 0 < depth → source_in c ≡ Some name → FileSays told name said → PutsAll (Sources (depth - 1) told) said before outcome
    → Puts (Sources depth told) (source_in c) c before outcome
puts_file zero told c name said before outcome deep is says puts = absurd (omega (arith, deep))
puts_file (suc depth) told c name said before outcome deep is says puts =
    let lower : suc depth - 1 ≡ depth = omega arith in
    let inner : PutsAll (Sources depth told) said before outcome = subst (λ (d : ℕ). PutsAll (Sources d told) said before outcome) lower puts in
    subst (λ (o : Option (List ℕ)). Puts (Sources (suc depth) told) o c before outcome) (sym is) (inl (said, says, inner))

pub puts_fault : (depth : ℕ) (told : Option (List (List ℕ × List ℕ))) (c : Command) (name : List ℕ) (before : List Command) (refusal : Refused)
    → 0 < depth → source_in c ≡ Some name → FailsIn told name refusal → Puts (Sources depth told) (source_in c) c before (Err refusal)
puts_fault zero told c name before refusal deep is fails = absurd (omega (arith, deep))
puts_fault (suc depth) told c name before refusal deep is fails =
    subst (λ (o : Option (List ℕ)). Puts (Sources (suc depth) told) o c before (Err refusal)) (sym is) (inr (refusal, fails, refl))

pub puts_no_deeper : (depth : ℕ) (told : Option (List (List ℕ × List ℕ))) (c : Command) (name : List ℕ) (before : List Command) (refusal : Refused)
    → depth ≡ 0 → source_in c ≡ Some name → refusal ≡ refused faults.TooDeep name → Puts (Sources depth told) (source_in c) c before (Err refusal)
puts_no_deeper zero told c name before refusal none is e =
    subst (λ (o : Option (List ℕ)). Puts (Sources zero told) o c before (Err refusal)) (sym is) cc
puts_no_deeper (suc depth) told c name before refusal none is e = absurd (omega (arith, none))

-- no command that is left stands for those of a file

abbrev pub KeepsPlain : (List ℕ → List Command → Result (List Command) Refused → Type 0) → Type 0
KeepsPlain S = (name : List ℕ) (before out : List Command) → has_no_source before ≡ true → S name before (Ok out) → has_no_source out ≡ true

puts_plain : (S : List ℕ → List Command → Result (List Command) Refused → Type 0) → KeepsPlain S → (c : Command) (before out : List Command) (o : Option (List ℕ)) → source_in c ≡ o
    → has_no_source before ≡ true → Puts S o c before (Ok out) → has_no_source out ≡ true
puts_plain S keeps c before out None is plain puts =
    let out_is : out ≡ before ++ c ∷ [] = cc in
    subst (λ (cs : List Command). has_no_source cs ≡ true) (sym out_is) (no_source_behind before c plain is)
puts_plain S keeps c before out (Some name) is plain puts = keeps name before out plain puts

pub all_plain : (S : List ℕ → List Command → Result (List Command) Refused → Type 0) → KeepsPlain S → (cs before out : List Command)
    → has_no_source before ≡ true → PutsAll S cs before (Ok out) → has_no_source out ≡ true
all_plain S keeps [] before out plain puts =
    let out_is : out ≡ before = cc in
    subst (λ (cs : List Command). has_no_source cs ≡ true) (sym out_is) plain
all_plain S keeps (c ∷ cs) before out plain (inl (between, one, more)) =
    all_plain S keeps cs between out (puts_plain S keeps c before between (source_in c) refl plain one) more
all_plain S keeps (c ∷ cs) before out plain (inr (refusal, is, one)) = absurd (ok_is_not_err out refusal is)

pub sources_plain : (depth : ℕ) (told : Option (List (List ℕ × List ℕ))) → KeepsPlain (Sources depth told)
sources_plain zero told name before out plain is = absurd (ok_is_not_err out (refused faults.TooDeep name) is)
sources_plain (suc depth) told name before out plain (inl (said, says, puts)) = all_plain (Sources depth told) (sources_plain depth told) said before out plain puts
sources_plain (suc depth) told name before out plain (inr (refusal, fails, is)) = absurd (ok_is_not_err out refusal is)

-- where no command stands for those of a file, none is refused
pub plain_passes : (S : List ℕ → List Command → Result (List Command) Refused → Type 0) (cs before : List Command) (refusal : Refused)
    → has_no_source cs ≡ true → PutsAll S cs before (Err refusal) → ⊥
plain_passes S [] before refusal plain puts = err_is_not_ok before refusal puts
plain_passes S (c ∷ cs) before refusal plain (inl (between, one, more)) = plain_passes S cs between refusal (no_source_parts c cs plain).1 more
plain_passes S (c ∷ cs) before refusal plain (inr (other, is, one)) =
    let puts : Puts S None c before (Err other) = subst (λ (o : Option (List ℕ)). Puts S o c before (Err other)) (no_source_parts c cs plain).0 one in
    err_is_not_ok (before ++ c ∷ []) other puts

-- what commands come to is one thing, but where a call failed

abbrev pub Agree : Result (List Command) Refused → Result (List Command) Refused → Type 0
Agree (Ok a) (Ok b) = a ≡ b
Agree (Ok a) (Err refusal) = refusal.cause ≡ faults.GetFailed
Agree (Err refusal) other = Unit {0}

abbrev pub AllAgree : (List ℕ → List Command → Result (List Command) Refused → Type 0) → Type 0
AllAgree S = (name : List ℕ) (before : List Command) (x y : Result (List Command) Refused) → S name before x → S name before y → Agree x y

agree_refused : (x y : Result (List Command) Refused) (refusal : Refused) → x ≡ Err refusal → Agree x y
agree_refused (Ok a) y refusal is = absurd (ok_is_not_err a refusal is)
agree_refused (Err other) y refusal is = tt

agree_failed : (x y : Result (List Command) Refused) (refusal : Refused) → y ≡ Err refusal → refusal.cause ≡ faults.GetFailed → Agree x y
agree_failed (Ok a) (Ok b) refusal is failed = absurd (ok_is_not_err b refusal is)
agree_failed (Ok a) (Err other) refusal is failed = cc
agree_failed (Err other) y refusal is failed = tt

agree_same : (x y : Result (List Command) Refused) (out : List Command) → x ≡ Ok out → y ≡ Ok out → Agree x y
agree_same (Ok a) (Ok b) out left right = cc
agree_same (Ok a) (Err other) out left right = absurd (err_is_not_ok out other right)
agree_same (Err other) y out left right = tt

puts_agree : (S : List ℕ → List Command → Result (List Command) Refused → Type 0) → AllAgree S → (c : Command) (before : List Command) (o : Option (List ℕ)) (x y : Result (List Command) Refused)
    → Puts S o c before x → Puts S o c before y → Agree x y
puts_agree S agrees c before None x y p q = agree_same x y (before ++ c ∷ []) p q
puts_agree S agrees c before (Some name) x y p q = agrees name before x y p q

all_agree : (S : List ℕ → List Command → Result (List Command) Refused → Type 0) → AllAgree S → (cs before : List Command) (x y : Result (List Command) Refused)
    → PutsAll S cs before x → PutsAll S cs before y → Agree x y
all_agree S agrees [] before x y p q = agree_same x y before p q
all_agree S agrees (c ∷ cs) before x y (inl (a, one, more)) (inl (b, other, further)) =
    let same : a ≡ b = puts_agree S agrees c before (source_in c) (Ok a) (Ok b) one other in
    all_agree S agrees cs b x y (subst (λ (between : List Command). PutsAll S cs between x) same more) further
all_agree S agrees (c ∷ cs) before x y (inl (a, one, more)) (inr (refusal, is, other)) =
    agree_failed x y refusal is (puts_agree S agrees c before (source_in c) (Ok a) (Err refusal) one other)
all_agree S agrees (c ∷ cs) before x y (inr (refusal, is, one)) q = agree_refused x y refusal is

no_meaning : (text : List ℕ) (said : List Command) (fault : ScriptFault) → meaning_of_file text ≡ Ok said → meaning_of_file text ≡ Err fault → ⊥
no_meaning text said fault says first = cc

one_meaning : (text : List ℕ) (said other : List Command) → meaning_of_file text ≡ Ok said → meaning_of_file text ≡ Ok other → said ≡ other
one_meaning text said other says tells = cc

one_text : (list : List (List ℕ × List ℕ)) (name text other : List ℕ) → file_at name list ≡ Some text → file_at name list ≡ Some other → text ≡ other
one_text list name text other is also = cc

says_no_fault : (list : List (List ℕ × List ℕ)) (name : List ℕ) (said : List Command) (text other : List ℕ) (fault : ScriptFault)
    → file_at name list ≡ Some text → file_at name list ≡ Some other → meaning_of_file text ≡ Ok said → meaning_of_file other ≡ Err fault → ⊥
says_no_fault list name said text other fault is also says first =
    let same : text ≡ other = one_text list name text other is also in
    let P : List ℕ → Type 0 = λ t. meaning_of_file t ≡ Ok said in
    no_meaning other said fault (subst P same says) first

-- a file that says commands fails by a failed call alone
pub says_or_fails : (list : List (List ℕ × List ℕ)) (name : List ℕ) (said : List Command) (cause : LoadFault)
    → FileSays (Some list) name said → FileFails (Some list) name cause → cause ≡ faults.GetFailed
says_or_fails list name said (faults.File line word fault) (text, has, says) (other, had, first) =
    absurd (says_no_fault list name said text other fault has.file had.file says first.first)
says_or_fails list name said faults.FileTooLong (text, has, says) long =
    let more : text_limit < length text = subst (λ (o : Option (List ℕ)). IsSomeAnd o (λ bytes. text_limit < length bytes)) has.file long in
    absurd (omega (arith, more, has.short))
says_or_fails list name said faults.GetFailed says fails = refl
says_or_fails list name said (faults.Script fault) says fails = absurd fails
says_or_fails list name said faults.ScriptTooLong says fails = absurd fails
says_or_fails list name said faults.TooDeep says fails = absurd fails
says_or_fails list name said faults.NoMemory says fails = absurd fails

-- and says no others
pub says_one : (list : List (List ℕ × List ℕ)) (name : List ℕ) (said other : List Command) → FileSays (Some list) name said → FileSays (Some list) name other → said ≡ other
says_one list name said other (text, has, says) (same, had, tells) =
    let P : List ℕ → Type 0 = λ t. meaning_of_file t ≡ Ok said in
    one_meaning same said other (subst P (one_text list name text same has.file had.file) says) tells

sources_agree : (depth : ℕ) (list : List (List ℕ × List ℕ)) → AllAgree (Sources depth (Some list))
sources_agree zero list name before x y p q = agree_refused x y (refused faults.TooDeep name) p
sources_agree (suc depth) list name before x y (inl (said, says, puts)) (inl (other, tells, further)) =
    let same : said ≡ other = says_one list name said other says tells in
    all_agree (Sources depth (Some list)) (sources_agree depth list) other before x y
    (subst (λ (cs : List Command). PutsAll (Sources depth (Some list)) cs before x) same puts) further
sources_agree (suc depth) list name before x y (inl (said, says, puts)) (inr (refusal, fails, is)) =
    agree_failed x y refusal is (says_or_fails list name said refusal.cause says fails.0)
sources_agree (suc depth) list name before x y (inr (refusal, fails, is)) q = agree_refused x y refusal is

pub flat_or_failed : (depth : ℕ) (list : List (List ℕ × List ℕ)) (said before flat : List Command) (refusal : Refused)
    → PutsAll (Sources depth (Some list)) said before (Ok flat) → PutsAll (Sources depth (Some list)) said before (Err refusal) → refusal.cause ≡ faults.GetFailed
flat_or_failed depth list said before flat refusal p q = all_agree (Sources depth (Some list)) (sources_agree depth list) said before (Ok flat) (Err refusal) p q
