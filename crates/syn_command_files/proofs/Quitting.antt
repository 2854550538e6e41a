-- Commands up to the first that ends the run, and commands of which none stands for those of a file.
use Rattle.std.proofs.Common.{◌≡◌, ℕ, suc, List, [], ◌∷◌, ◌++◌, take, Bool, true, false, if◌then◌else◌, Option, None, Some, refl, ap, ◌∙◌}
use Rattle.syn_words.specs.declared.Command.{Command}
use Rattle.syn_command_files.specs.Sources.{count_until_quit, has_no_source, is_quit, source_in, stays, until_quit}

pub taken : (cs : List Command) → take (count_until_quit cs) cs ≡ until_quit cs
taken [] = refl
taken (c ∷ cs) =
    elim (is_quit c) as (λ b. take (if b then 1 else suc (count_until_quit cs)) (c ∷ cs) ≡ (if b then c ∷ [] else c ∷ until_quit cs))
    [ true ↦ refl | false ↦ ap (λ (xs : List Command). c ∷ xs) (taken cs) ]

cut_again : (c : Command) (cs : List Command) → until_quit (until_quit cs) ≡ until_quit cs → (b : Bool) → is_quit c ≡ b
    → until_quit (if b then c ∷ [] else c ∷ until_quit cs) ≡ (if b then c ∷ [] else c ∷ until_quit cs)
cut_again c cs again true e = ap (λ t. if t then c ∷ [] else c ∷ []) e
cut_again c cs again false e = ap (λ t. if t then c ∷ [] else c ∷ until_quit (until_quit cs)) e ∙ ap (λ (xs : List Command). c ∷ xs) again

pub until_again : (cs : List Command) → until_quit (until_quit cs) ≡ until_quit cs
until_again [] = refl
until_again (c ∷ cs) = cut_again c cs (until_again cs) (is_quit c) refl

pub differ : false ≡ true → ⊥
differ is = cc

some_is_not_none : (name : List ℕ) → Some name ≡ None → ⊥
some_is_not_none name is = cc

stays_parts : (o : Option (List ℕ)) (b : Bool) → stays o b ≡ true → (o ≡ None) × (b ≡ true)
stays_parts None b h = (refl, h)
stays_parts (Some name) b h = absurd (differ h)

stays_of : (o : Option (List ℕ)) (b : Bool) → o ≡ None → b ≡ true → stays o b ≡ true
stays_of None b e h = h
stays_of (Some name) b e h = absurd (some_is_not_none name e)

pub no_source_parts : (c : Command) (cs : List Command) → has_no_source (c ∷ cs) ≡ true → (source_in c ≡ None) × (has_no_source cs ≡ true)
no_source_parts c cs h = stays_parts (source_in c) (has_no_source cs) h

no_source_of : (c : Command) (cs : List Command) → source_in c ≡ None → has_no_source cs ≡ true → has_no_source (c ∷ cs) ≡ true
no_source_of c cs e h = stays_of (source_in c) (has_no_source cs) e h

pub no_source_behind : (before : List Command) (c : Command) → has_no_source before ≡ true → source_in c ≡ None → has_no_source (before ++ c ∷ []) ≡ true
no_source_behind [] c h e = no_source_of c [] e refl
no_source_behind (b ∷ bs) c h e =
    let parts = no_source_parts b bs h in
    no_source_of b (bs ++ c ∷ []) parts.0 (no_source_behind bs c parts.1 e)

pub no_source_until : (cs : List Command) → has_no_source cs ≡ true → has_no_source (until_quit cs) ≡ true
no_source_until [] h = refl
no_source_until (c ∷ cs) h =
    let parts = no_source_parts c cs h in
    elim (is_quit c) as (λ b. has_no_source (if b then c ∷ [] else c ∷ until_quit cs) ≡ true)
    [ true ↦ no_source_of c [] parts.0 refl | false ↦ no_source_of c (until_quit cs) parts.0 (no_source_until cs parts.1) ]
